-- An alternative by whether it begins with `.//`, and the alternatives between bars: respelled, they are the first
-- piece, a bar and the rest.
-- Assumes nothing.
use Prim.Native.Nat.{ℕ, ◌+◌, ◌≤◌}
use native.Mathlib.Omega.{arith}
use lib.ListN.{length, take, length-append}
use lib.Seq.{length-take-le}
use mathlib.Core.Path.{◌≡◌, refl, ap, sym, ◌∙◌}
use mathlib.Core.List.{List, [], ◌∷◌, ◌++◌, map, append_assoc}
use mathlib.Core.Option.{none, some}
use Rattle.texts.specs.Texts.{Text}
use Rattle.paths.specs.Reading.{split_at, behind}
use Rattle.records.specs.Readers.{Bytes}
use Rattle.output_stores.specs.Stores.{Appended}
use Rattle.canonical.specs.Canonical.{joined}
use Rattle.canonical.specs.Respelling.{respell_parts, respell_marked, respell_alt, respelled}
use Rattle.canonical.proofs.Weights.{alt-short}
use Rattle.path_pieces.specs.Pieces.{CutAt}
use Rattle.path_pieces.proofs.Pieces.{split-some, behind-length}
use Rattle.path_writer.specs.Spelling.{Adds}
use Rattle.path_writer.proofs.Adding.{adds-appended, adds_then}

-- ---- one alternative

module _ (s : Text) (l : Bytes) (at : ℕ) where
  pub plain-added : none ≡ behind (46 ∷ 47 ∷ 47 ∷ []) s → (p : ℕ) (m : Bytes) → Adds l at (respell_parts s) p m → Adds l at (respell_alt s) p m
  unfolding respell_marked respell_alt
  plain-added e p m a = rw (← e) a

  module _ (u : Text) (e : some u ≡ behind (46 ∷ 47 ∷ 47 ∷ []) s) (h : at + (length s + 1) ≤ length l) (p : ℕ) (m : Bytes) (a : Appended l at (46 ∷ 47 ∷ 47 ∷ []) p m) where
    fits : 3 + length u ≡ length s
    fits = behind-length (46 ∷ 47 ∷ 47 ∷ []) s u e

    mark-added : Adds l at (46 ∷ 47 ∷ 47 ∷ []) p m
    mark-added = let f = fits in adds-appended l m at p (46 ∷ 47 ∷ 47 ∷ []) (omega arith) a

    pub deep_room : p + (length u + 1) ≤ length m
    deep_room = let f = fits in let b = mark-added in omega (arith, b.ends, b.keeps)

    pub deep-added : (q : ℕ) (n : Bytes) → Adds m p (respell_parts u) q n → Adds l at (respell_alt s) q n
    unfolding respell_marked respell_alt
    deep-added q n b = rw (← e) (adds_then l m n at p q (46 ∷ 47 ∷ 47 ∷ []) (respell_parts u) mark-added b)

-- ---- the alternatives, piece by piece

respelled-more : (s first behind : Text) → CutAt 124 s first behind → respelled s ≡ respell_alt first ++ (124 ∷ respelled behind)
unfolding respelled joined
respelled-more s first behind c =
    let r = split-some 124 behind in
    ap (λ (ts : List Text). joined 124 (map respell_alt ts)) c.pieces ∙ ap (λ (ts : List Text). joined 124 (respell_alt first ∷ map respell_alt ts)) r.2
    ∙ ap (λ (ts : List Text). respell_alt first ++ (124 ∷ joined 124 (map respell_alt ts))) (sym r.2)

respelled-last : (s : Text) → split_at 124 s ≡ s ∷ [] → respelled s ≡ respell_alt s
unfolding respelled joined
respelled-last s e = ap (λ (ts : List Text). joined 124 (map respell_alt ts)) e

-- ---- the loop: what was written, and what is left

pub record Alternating (s : Text) (l m : Bytes) (rest : Text) (at : ℕ) : Type 0 where
  pub whole : take at m ++ respelled rest ≡ respelled s
  pub room : at + (length rest + 1) ≤ length l

pub alternating-start : (s : Text) (l : Bytes) → length s + 1 ≤ length l → Alternating s l l s 0
alternating-start s l h = record { whole = refl; room = omega arith }

module _ (s : Text) (l m : Bytes) (rest : Text) (at : ℕ) (w : Alternating s l m rest at) (k : length m ≡ length l) where
  module _ (first behind : Text) (h : CutAt 124 rest first behind) where
    pub piece-room : at + (length first + 1) ≤ length m
    piece-room = omega (arith, w.room, h.sizes)

    module _ (n o : Bytes) (p q : ℕ) (a : Adds m at (respell_alt first) p n) (c : Appended n p (124 ∷ []) q o) where
      within : p ≤ at + length first
      within = let i = alt-short first in omega (arith, a.ends)

      both : Adds m at (respell_alt first ++ (124 ∷ [])) q o
      both =
          let i = within in
          adds_then m n o at p q (respell_alt first) (124 ∷ []) a (adds-appended n o p q (124 ∷ []) (omega (arith, w.room, h.sizes, a.keeps)) c)

      pub kept-long : length o ≡ length l
      kept-long = both.keeps ∙ k

      pub alternating-turn : Alternating s l o behind q
      alternating-turn =
          let x : Text = respell_alt first in
          let y : Text = respelled behind in
          let i = within in
          let v = length-append x (124 ∷ []) in
          record {
            whole = ap (λ (z : Bytes). z ++ y) both.holds
                ∙ append_assoc (take at m) (x ++ (124 ∷ [])) y
                ∙ ap (λ (z : Text). take at m ++ z) (append_assoc x (124 ∷ []) y ∙ sym (respelled-more rest first behind h))
                ∙ w.whole;
            room = omega (arith, w.room, h.sizes, a.ends, both.ends);
          }

  module _ (h : split_at 124 rest ≡ rest ∷ []) where
    pub rest-room : at + (length rest + 1) ≤ length m
    rest-room = omega (arith, w.room)

    pub alternatives-added : (n : Bytes) (p : ℕ) → Adds m at (respell_alt rest) p n → Adds l 0 (respelled s) p n
    alternatives-added n p a =
        let i = alt-short rest in
        let x : take p n ≡ respelled s = a.holds ∙ ap (λ (z : Text). take at m ++ z) (sym (respelled-last rest h)) ∙ w.whole in
        let q : length (take p n) ≡ p = length-take-le p n (omega (arith, a.ends, a.keeps, w.room)) in
        let y = ap (λ (z : Bytes). length z) x in
        record { ends = omega arith; holds = x; keeps = a.keeps ∙ k }
