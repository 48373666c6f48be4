-- The records of a store marked one after the other: what is still to be marked are the records that are left.
-- Assumes nothing.
use Rattle.std.proofs.Common.{ℕ, length, drop, ◌≡◌, refl, ap, sym, ◌∙◌, List, [], ◌∷◌}
use Rattle.records.specs.Readers.{Bytes}
use Rattle.tuple_marks.specs.Marks.{with_mark, with_marks}
use Rattle.tuple_marks.proofs.Marks.{length-mark}

pub record Marking (m₀ : List ℕ) (all : List Bytes) (m : List ℕ) (left : List Bytes) : Type 0 where
  pub size : length m ≡ length m₀
  pub gives : with_marks m left ≡ with_marks m₀ all

module _ (m₀ : List ℕ) (all : List Bytes) where
  module _ (m : List ℕ) (left : List Bytes) (l : Marking m₀ all m left) where
    pub mark-end : left ≡ [] → m ≡ with_marks m₀ all
    unfolding with_marks
    mark-end e = ap (with_marks m) (sym e) ∙ l.gives

    pub mark_on : (f : Bytes) (more : List Bytes) → left ≡ f ∷ more → (t : Bytes) → t ≡ drop 5 f → (m' : List ℕ) → m' ≡ with_mark m t → Marking m₀ all m' more
    unfolding with_marks
    mark_on f more e t k m' h =
        let w : m' ≡ with_mark m (drop 5 f) = h ∙ ap (with_mark m) k in
        record {
          size = ap length w ∙ length-mark m (drop 5 f) ∙ l.size;
          gives = ap (λ (x : List ℕ). with_marks x more) w ∙ ap (with_marks m) (sym e) ∙ l.gives;
        }
