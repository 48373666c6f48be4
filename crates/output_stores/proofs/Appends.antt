-- What an append leaves: through the tail that is lent, where there is room, and nothing new where there is none, or
-- where nothing is appended; and the store reads as before with what was appended behind.
-- Assumes nothing.
use Prim.Native.Nat.{ℕ, ◌+◌, ◌-◌, ◌≤◌, ◌<◌}
use native.Mathlib.Nat.{add-zero, zero-add}
use native.Mathlib.Omega.{arith}
use borrow.Author.Tests.{le-leb, lt-leb, leb-true, leb-false}
use lib.Dec.{leb}
use lib.ListN.{length, take, drop, length-drop}
use mathlib.Core.Path.{◌≡◌, refl, ap, sym, ◌∙◌, subst}
use mathlib.Core.Bool.{Bool, true, false, cond}
use mathlib.Core.List.{List, [], ◌++◌}
use mathlib.Core.Option.{some}
use Rattle.std.proofs.lemmas.List.{take_rest}
use Rattle.lists.specs.Lists.{over, put}
use Rattle.lists.proofs.Places.{over_nothing}
use Rattle.lists.proofs.Writes.{put-fits, put_full, tail-put}
use Rattle.records.specs.Readers.{Bytes, Reader, reads}
use Rattle.records.proofs.Stores.{Stable}
use Rattle.session_laws.proofs.Stores.{Used, used-more}
use Rattle.output_stores.specs.Stores.{Appended, used_after}

-- an append of nothing leaves all as it was, whether or not there is room
pub nothing-appended : (d : Bytes) (used : ℕ) → Appended d used [] used d
unfolding used_after put
nothing-appended d used = record { answers = by (leb (used + 0) (length d)); leaves = also (leb (used + 0) (length d)) }
  where
    by : (b : Bool) → used ≡ cond b (used + 0) used
    by true = sym (add-zero used)
    by false = refl

    also : (b : Bool) → d ≡ cond b (over d used []) d
    also true = sym (over_nothing d used)
    also false = refl

module _ (before : Bytes) (used : ℕ) (bs : Bytes) where
  pub not-appended : length before < used + length bs → Appended before used bs used before
  unfolding used_after
  not-appended h = record { answers = rw (lt-leb (used + length bs) (length before) h); leaves = sym (put_full before used bs h) }

  -- the tail was appended to from its front on
  pub tail-then : (ys : Bytes) (size : ℕ) → used ≤ length before → Appended (take (length before - used) (drop used before)) 0 bs size ys
      → Appended before used bs (used + size) (take used before ++ (ys ++ drop (length before - used) (drop used before)))
  unfolding used_after
  tail-then ys size h a =
      record {
        answers = by (leb (length bs) (length before - used)) refl;
        leaves = tail-put before ys bs used 0 used (add-zero used) h a.leaves;
      }
    where
      left : length (take (length before - used) (drop used before)) ≡ length before - used
      left = ap length (take_rest before used) ∙ length-drop used before

      by : (b : Bool) → leb (length bs) (length before - used) ≡ b → used + size ≡ cond (leb (used + length bs) (length before)) (used + length bs) used
      by true e =
          let l = leb-true (length bs) (length before - used) e in
          let n : size ≡ length bs = a.answers ∙ rw (zero-add (length bs), left, e) in
          ap (λ (k : ℕ). used + k) n ∙ rw (le-leb (used + length bs) (length before) (omega arith))
      by false e =
          let l = leb-false (length bs) (length before - used) e in
          let n : size ≡ 0 = a.answers ∙ rw (zero-add (length bs), left, e) in
          ap (λ (k : ℕ). used + k) n ∙ add-zero used ∙ rw (lt-leb (used + length bs) (length before) (omega arith))

  -- the new used length is within the store
  pub tail-next : (ys : Bytes) (size : ℕ) → used ≤ length before → Appended (take (length before - used) (drop used before)) 0 bs size ys
      → used + size ≤ length before
  unfolding used_after
  tail-next ys size h a = by (leb (used + length bs) (length before)) refl
    where
      by : (b : Bool) → leb (used + length bs) (length before) ≡ b → used + size ≤ length before
      by true e =
          let l = leb-true (used + length bs) (length before) e in
          let n : used + size ≡ used + length bs = (tail-then ys size h a).answers ∙ rw e in
          omega arith
      by false e = let n : used + size ≡ used = (tail-then ys size h a).answers ∙ rw e in omega arith

  pub appended-reads : {A : Type 0} (p : Reader A) → Stable p → (next : ℕ) (after : Bytes) (l k : List A) → Appended before used bs next after
      → used + length bs ≤ length before → Used p used before l → reads p bs ≡ some k → Used p next after (l ++ k)
  unfolding used_after
  appended-reads p s next after l k a h u e =
      let n : used + length bs ≡ next = sym (a.answers ∙ rw (le-leb (used + length bs) (length before) h)) in
      let o : over before used bs ≡ after = sym (a.leaves ∙ put-fits before used bs h) in
      subst (λ (i : ℕ). Used p i after (l ++ k)) n
      (subst (λ (b : Bytes). Used p (used + length bs) b (l ++ k)) o (used-more p s used before l bs k u e h))
