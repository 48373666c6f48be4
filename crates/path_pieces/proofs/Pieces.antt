-- Pieces of a text: how long the one before the first c is, what `split_at` makes of it and of what stands behind it,
-- and what `behind` finds. Each by induction on the text, or one byte at a place.
-- Assumes nothing.
use Prim.Native.Nat.{ℕ, suc, ◌+◌, ◌-◌, ◌≤◌, ◌<◌}
use native.Mathlib.Numerals.{add-one}
use native.Mathlib.Omega.{arith}
use lib.Dec.{eqb, leb, ltb}
use lib.ListN.{length, take, drop, length-drop}
use lib.Seq.{length-take-le}
use borrow.Author.Tests.{eq-eqb, ne_eqb, eqb-true, eqb-false, leb-true, leb-false, ltb-true, ltb-false}
use mathlib.Core.Path.{◌≡◌, refl, ap, sym, ◌∙◌}
use mathlib.Core.Bool.{Bool, true, false, cond, not, ◌&&◌, ◌||◌}
use mathlib.Core.List.{List, [], ◌∷◌}
use mathlib.Core.Option.{none, some}
use Rattle.std.specs.Prelude.{position, Some, None}
use Rattle.std.specs.List.{position_or_len}
use Rattle.std.specs.Bool.{then_some}
use Rattle.std.specs.Option.{unwrap_or}
use denote.Ref.{Bor}
use Rattle.std.proofs.lemmas.List.{take_rest}
use Rattle.std.specs.declared.option.Option as code
use Rattle.std.proofs.lemmas.List.Sums.{prefix_len-le-length}
use Rattle.std.proofs.lemmas.List.Recursion.{is_position_or_len}
use Rattle.lists.specs.Lists.{any, part}
use Rattle.texts.specs.Texts.{Text, same}
use Rattle.paths.specs.Reading.{split_at, on_front, behind}
use Rattle.path_pieces.specs.Pieces.{piece_length, CutAt, standing}

-- ---- what stands from a place on, as the borrow checker says it

pub length_rest : (s : Text) (n : ℕ) → length (take (length s - n) (drop n s)) ≡ length s - n
length_rest s n = rw (take_rest s n) (length-drop n s)

-- ---- the length of the first piece

-- what the first place that passes is, or the length where none does
pub first_or_end : (test : ℕ → Bool) (s : Text) (o : code.Option ℕ) (r : ℕ) → o ≡ position test s → r ≡ unwrap_or o (length s) → r ≡ position_or_len test s
first_or_end test s o r e q = q ∙ ap (λ (o : code.Option ℕ). unwrap_or o (length s)) e ∙ by (ltb (position_or_len test s) (length s)) refl
  where
    by : (b : Bool) → ltb (position_or_len test s) (length s) ≡ b → unwrap_or (cond b (Some (position_or_len test s)) None) (length s) ≡ position_or_len test s
    by true f = refl
    by false f =
        let n = prefix_len-le-length (λ x. not (test x)) s in
        let m = ltb-false (position_or_len test s) (length s) f in
        omega arith

pub piece-first : (c : ℕ) (s : Text) → position_or_len (λ x. eqb x c) s ≡ piece_length c s
unfolding piece_length
piece-first c s = sym (is_position_or_len (piece_length c) (λ x. eqb x c) refl (λ x xs. by (eqb x c) (piece_length c xs)) s)
  where
    by : (b : Bool) (n : ℕ) → cond b 0 (suc n) ≡ cond b 0 (1 + n)
    by true n = refl
    by false n = omega arith

pub piece-fits : (c : ℕ) (s : Text) → piece_length c s ≤ length s
unfolding piece_length
piece-fits c [] = omega arith
piece-fits c (x ∷ xs) = by (eqb x c) (piece-fits c xs)
  where
    by : (b : Bool) → piece_length c xs ≤ length xs → cond b 0 (suc (piece_length c xs)) ≤ suc (length xs)
    by true k = omega arith
    by false k = omega arith

-- a text has a c exactly if its first piece is not the whole
pub piece-any : (c : ℕ) (s : Text) → eqb (piece_length c s) (length s) ≡ not (any (λ x. eqb x c) s)
unfolding piece_length
piece-any c [] = refl
piece-any c (x ∷ xs) = by (piece-any c xs) (eqb x c)
  where
    by : eqb (piece_length c xs) (length xs) ≡ not (any (λ x. eqb x c) xs) → (b : Bool)
        → eqb (cond b 0 (suc (piece_length c xs))) (suc (length xs)) ≡ not (b || any (λ x. eqb x c) xs)
    by r true = ne_eqb 0 (suc (length xs)) (omega arith)
    by r false = step (eqb (piece_length c xs) (length xs)) refl ∙ r
      where
        step : (b : Bool) → eqb (piece_length c xs) (length xs) ≡ b → eqb (suc (piece_length c xs)) (suc (length xs)) ≡ b
        step true e = eq-eqb (suc (piece_length c xs)) (suc (length xs)) (ap suc (eqb-true (piece_length c xs) (length xs) e))
        step false e = ne_eqb (suc (piece_length c xs)) (suc (length xs)) (λ q. eqb-false (piece_length c xs) (length xs) e (omega arith))

-- ---- the first piece and the rest

pub split-whole : (c : ℕ) (s : Text) → length s ≤ piece_length c s → split_at c s ≡ s ∷ []
unfolding piece_length split_at on_front
split-whole c [] h = refl
split-whole c (x ∷ xs) h = by (eqb x c) h (split-whole c xs)
  where
    by : (b : Bool) → suc (length xs) ≤ cond b 0 (suc (piece_length c xs)) → (length xs ≤ piece_length c xs → split_at c xs ≡ xs ∷ [])
        → cond b ([] ∷ split_at c xs) (on_front x (split_at c xs)) ≡ (x ∷ xs) ∷ []
    by true h r = absurd (omega arith)
    by false h r = rw (r (omega arith))

split-first : (c : ℕ) (s : Text) → piece_length c s < length s → split_at c s ≡ take (piece_length c s) s ∷ split_at c (drop (suc (piece_length c s)) s)
unfolding piece_length split_at on_front
split-first c [] h = absurd (omega arith)
split-first c (x ∷ xs) h = by (eqb x c) h (split-first c xs)
  where
    by : (b : Bool) → cond b 0 (suc (piece_length c xs)) < suc (length xs)
        → (piece_length c xs < length xs → split_at c xs ≡ take (piece_length c xs) xs ∷ split_at c (drop (suc (piece_length c xs)) xs))
        → cond b ([] ∷ split_at c xs) (on_front x (split_at c xs))
        ≡ take (cond b 0 (suc (piece_length c xs))) (x ∷ xs) ∷ split_at c (drop (suc (cond b 0 (suc (piece_length c xs)))) (x ∷ xs))
    by true h r = refl
    by false h r = rw (r (omega arith))

pub split-more : (c : ℕ) (s : Text) (n : ℕ) → n ≡ piece_length c s → n < length s → split_at c s ≡ take n s ∷ split_at c (drop (n + 1) s)
split-more c s n e h = rw (add-one, e) (split-first c s (rw e at h))

pub split-some : (c : ℕ) (s : Text) → (t : Text) × (ts : List Text) × (split_at c s ≡ t ∷ ts)
split-some c s = by (leb (length s) (piece_length c s)) refl
  where
    by : (b : Bool) → leb (length s) (piece_length c s) ≡ b → (t : Text) × (ts : List Text) × (split_at c s ≡ t ∷ ts)
    by true e = (s, [], split-whole c s (leb-true (length s) (piece_length c s) e))
    by false e =
        let n : ℕ = piece_length c s in
        (take n s, split_at c (drop (n + 1) s), split-more c s n refl (leb-false (length s) n e))

-- ---- a text cut at its first c

module _ (c : ℕ) (s : Text) (o : code.Option ℕ) (e : o ≡ position (λ x. eqb x c) s) where
  pub cut_none : o ≡ None → split_at c s ≡ s ∷ []
  cut_none q =
      let n : ℕ = position_or_len (λ x. eqb x c) s in
      split-whole c s (omega (arith, piece-first c s, by n (ltb n (length s)) refl (sym e ∙ q)))
    where
      by : (n : ℕ) (b : Bool) → ltb n (length s) ≡ b → cond b (Some n) None ≡ None → length s ≤ n
      by n true f g = let z : ◌≡◌ {A = ℕ} 0 1 = cc in absurd (omega arith)
      by n false f g = ltb-false n (length s) f

  pub cut-some : (n : ℕ) → o ≡ Some n → CutAt c s (take n s) (take (length s - (n + 1)) (drop (n + 1) s))
  cut-some n q =
      let p : ℕ = position_or_len (λ x. eqb x c) s in
      let r = by p (ltb p (length s)) refl (sym e ∙ q) in
      let t = length-take-le n s (omega (arith, r.1)) in
      let u = length_rest s (n + 1) in
      record {
        pieces = split-more c s n (r.0 ∙ piece-first c s) r.1 ∙ ap (λ (t : Text). take n s ∷ split_at c t) (sym (take_rest s (n + 1)));
        sizes = omega (arith, r.1);
      }
    where
      by : (p : ℕ) (b : Bool) → ltb p (length s) ≡ b → cond b (Some p) None ≡ Some n → (n ≡ p) × (n < length s)
      by p true f g = let e : n ≡ p = cc in (e, omega (arith, ltb-true p (length s) f))
      by p false f g = let z : ◌≡◌ {A = ℕ} 0 1 = cc in absurd (omega arith)

-- ---- what begins with given bytes

-- a text begins with the bytes that its front is the same as
behind-front : (f s : Text) → behind f s ≡ cond (same f (part s 0 (length f))) (some (drop (length f) s)) none
unfolding behind same
behind-front [] s = refl
behind-front (c ∷ cs) [] = refl
behind-front (c ∷ cs) (x ∷ xs) = by (eqb c x) (behind-front cs xs)
  where
    by : (b : Bool) → behind cs xs ≡ cond (same cs (part xs 0 (length cs))) (some (drop (length cs) xs)) none
        → cond b (behind cs xs) none ≡ cond (b && same cs (part xs 0 (length cs))) (some (drop (length cs) xs)) none
    by true e = e
    by false e = refl

pub behind-same : (f s front : Text) (r : Bool) (u : Bor Text) → front ≡ part s 0 (length f) → r ≡ same f front → u.now ≡ drop (length f) s
    → standing (then_some r u) ≡ behind f s
behind-same f s front r u p q e = by r ∙ ap (λ (b : Bool). cond b (some (drop (length f) s)) none) (q ∙ ap (same f) p) ∙ sym (behind-front f s)
  where
    by : (r : Bool) → standing (then_some r u) ≡ cond r (some (drop (length f) s)) none
    by true = ap some e
    by false = refl

-- no text begins with a longer one
pub behind-longer : (f s : Text) → length s < length f → none ≡ behind f s
unfolding behind
behind-longer [] s h = absurd (omega arith)
behind-longer (c ∷ cs) [] h = refl
behind-longer (c ∷ cs) (x ∷ xs) h = by (eqb c x) (behind-longer cs xs (omega arith))
  where
    by : (b : Bool) → none ≡ behind cs xs → none ≡ cond b (behind cs xs) none
    by true e = e
    by false e = refl

pub behind-length : (f s u : Text) → some u ≡ behind f s → length f + length u ≡ length s
unfolding behind
behind-length [] s u e = let q : u ≡ s = cc in rw q (omega arith)
behind-length (c ∷ cs) [] u e = let z : ◌≡◌ {A = ℕ} 0 1 = cc in absurd (omega arith)
behind-length (c ∷ cs) (x ∷ xs) u e = by (eqb c x) e (behind-length cs xs u)
  where
    by : (b : Bool) → some u ≡ cond b (behind cs xs) none → (some u ≡ behind cs xs → length cs + length u ≡ length xs) → suc (length cs) + length u ≡ suc (length xs)
    by true q f = let r = f q in omega arith
    by false q f = let z : ◌≡◌ {A = ℕ} 0 1 = cc in absurd (omega arith)
