-- Names: what a byte of one is; and a text all of whose bytes are those of a name is a name test, and so are two such with a colon between. By induction on the bytes.
-- Assumes nothing.
use Rattle.std.specs.declared.option.Option.TheVariants.{Some, None}
use Prim.Native.Nat.{ℕ, suc, ◌+◌, ◌≤◌}
use native.Mathlib.Omega.{arith}
use denote.Ref.{Bor}
use lib.Dec.{eqb}
use lib.ListN.{length, take, drop}
use lib.Seq.{length-take-le}
use borrow.Author.Tests.{eq-eqb, eqb-true, not-true}
use mathlib.Core.Path.{◌≡◌, refl, sym, ◌∙◌}
use mathlib.Core.Bool.{Bool, true, false, cond, not, ◌||◌, or-true}
use mathlib.Core.List.{[], ◌∷◌}
use Rattle.std.proofs.lemmas.Bool.{and_parts, or_parts}
use Rattle.lists.specs.Lists.{all, any}
use Rattle.std.specs.List.{position_or_len}
use Rattle.std.proofs.lemmas.List.Recursion.{is_position_or_len}
use Rattle.texts.specs.Texts.{Text, same}
use Rattle.path_pieces.proofs.Pieces.{split-whole}
use Rattle.paths.specs.Reading.{split_at, on_front, within, test_byte, starts_well, star_alone}
use Rattle.path_pieces.specs.Pieces.{piece_length, CutAt}
use Rattle.path_reader.specs.Places.{name_byte, name_length, good_name, good_local, TestOf}
use Rattle.path_reader.proofs.Tests.{test-whole, test-local}

-- ---- one byte

module _ (c : ℕ) where
  colon-byte : c ≡ 58 → true ≡ test_byte c
  unfolding test_byte within
  colon-byte e = rw e

  name-parts : name_byte c ≡ true → (test_byte c ≡ true) × (eqb c 58 ≡ false) × (eqb c 42 ≡ false)
  unfolding name_byte
  name-parts e =
      let p = and_parts (test_byte c) (not (eqb c 58 || eqb c 42)) e in
      let q = or_parts (eqb c 58) (eqb c 42) (not-true (eqb c 58 || eqb c 42) p.1) in
      (p.0, q.0, q.1)

-- ---- how many stand at the front

pub name-first : (t : Text) → position_or_len (λ x. not (name_byte x)) t ≡ name_length t
unfolding name_length
name-first t = sym (is_position_or_len name_length (λ x. not (name_byte x)) refl (λ x xs. by (name_byte x) (name_length xs)) t)
  where
    by : (b : Bool) (n : ℕ) → cond b (suc n) 0 ≡ cond (not b) 0 (1 + n)
    by true n = omega arith
    by false n = refl

pub name_fits : (t : Text) → name_length t ≤ length t
unfolding name_length
name_fits [] = omega arith
name_fits (x ∷ xs) = by (name_byte x) (name_fits xs)
  where
    by : (b : Bool) → name_length xs ≤ length xs → cond b (suc (name_length xs)) 0 ≤ suc (length xs)
    by true k = omega arith
    by false k = omega arith

-- ---- a name

record Named (t : Text) : Type 0 where
  bytes : all test_byte t ≡ true
  whole : piece_length 58 t ≡ length t
  star : any (λ c. eqb c 42) t ≡ false

named : (t : Text) → length t ≤ name_length t → Named t
unfolding name_length piece_length
named [] h = record { bytes = refl; whole = refl; star = refl }
named (x ∷ xs) h = by (name_byte x) refl h (named xs)
  where
    by : (b : Bool) → name_byte x ≡ b → suc (length xs) ≤ cond b (suc (name_length xs)) 0 → (length xs ≤ name_length xs → Named xs) → Named (x ∷ xs)
    by true e h f =
        let p = name-parts x e in
        let r = f (omega arith) in
        record { bytes = rw (p.0, r.bytes); whole = rw (p.1, r.whole); star = rw (p.2, r.star) }
    by false e h f = absurd (omega arith)

no-star : (t : Text) → Named t → star_alone t ≡ true
unfolding star_alone
no-star t p = rw p.star (or-true (same t (42 ∷ [])))

-- ---- a name before a colon

record Halved (t u : Text) : Type 0 where
  pieces : split_at 58 t ≡ take (name_length t) t ∷ split_at 58 u
  bytes : all test_byte t ≡ all test_byte u
  sizes : name_length t + 1 + length u ≡ length t

halved : (t u : Text) → drop (name_length t) t ≡ 58 ∷ u → Halved t u
unfolding name_length split_at on_front
halved [] u e = let z : ◌≡◌ {A = ℕ} 0 1 = cc in absurd (omega arith)
halved (x ∷ xs) u e = by (name_byte x) refl e (halved xs u)
  where
    by : (b : Bool) → name_byte x ≡ b → drop (cond b (suc (name_length xs)) 0) (x ∷ xs) ≡ 58 ∷ u → (drop (name_length xs) xs ≡ 58 ∷ u → Halved xs u) → Halved (x ∷ xs) u
    by true q e f =
        let p = name-parts x q in
        let r = f e in
        record { pieces = rw (q, p.1, r.pieces); bytes = rw (p.0, r.bytes); sizes = rw q (omega (arith, r.sizes)) }
    by false q e f =
        let c : x ≡ 58 = cc in
        let d : xs ≡ u = cc in
        record { pieces = rw (q, c, d); bytes = rw (← colon-byte x c, d); sizes = rw (q, d) (omega arith) }

-- ---- what may stand behind it

record Local (t : Text) : Type 0 where
  bytes : all test_byte t ≡ true
  good : good_local t ≡ true

local : (t : Text) → good_name t ≡ true → Local t
unfolding good_name good_local
local t e =
    let p = and_parts (eqb (name_length t) (length t)) (starts_well t) e in
    let q = eqb-true (name_length t) (length t) p.0 in
    let n = named t (omega arith) in
    record { bytes = n.bytes; good = rw (eq-eqb (piece_length 58 t) (length t) n.whole, p.1, no-star t n) }

-- ---- the whole test

module _ (t : Text) (w : starts_well t ≡ true) where
  pub name-plain : (u : Bor Text) → u.now ≡ t → length t ≤ name_length t → TestOf t (Some (record { prefix = None; local = u }))
  name-plain u e h =
      let p = named t h in
      test-whole t p.bytes w (split-whole 58 t (omega (arith, p.whole))) true (sym (no-star t p)) u e _ refl

  pub name-prefixed : (n l : Bor Text) → n.now ≡ take (name_length t) t → drop (name_length t) t ≡ 58 ∷ l.now → good_name l.now ≡ true → TestOf t (Some (record { prefix = Some n; local = l }))
  name-prefixed n l e f g =
      let h = halved t l.now f in
      let p = local l.now g in
      let k = name_fits t in
      let c : CutAt 58 t n.now l.now = record { pieces = rw e h.pieces; sizes = rw e (omega (arith, h.sizes, length-take-le (name_length t) t k)) } in
      test-local t (h.bytes ∙ p.bytes) w n l c true (sym p.good) _ refl
