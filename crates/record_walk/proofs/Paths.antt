-- How often a byte stands in a path, as the library counts; and what that says of the limits.
-- Assumes nothing.
use Prim.Native.Nat.{ℕ, ◌+◌, ◌≤◌, ◌<◌}
use native.Mathlib.Omega.{arith}
use borrow.Author.Tests.{lt-ltb, le-ltb}
use lib.Dec.{eqb, ltb}
use lib.ListN.{length}
use mathlib.Core.Path.{◌≡◌, refl}
use mathlib.Core.Bool.{Bool, true, false, cond}
use mathlib.Core.List.{[], ◌∷◌, ◌++◌}
use Rattle.std.specs.List.{count_by}
use Rattle.std.proofs.lemmas.List.Recursion.{is_count_by}
use Rattle.lists.specs.Lists.{only_if, passing}
use Rattle.texts.specs.Texts.{Text}
use Rattle.records.specs.Records.{count_of, long_path}

passing-step : (test : ℕ → Bool) (x : ℕ) (t : Text) → length (passing test (x ∷ t)) ≡ cond (test x) (1 + length (passing test t)) (length (passing test t))
unfolding passing
passing-step test x t = by (test x)
  where
    by : (b : Bool) → length (only_if b (x ∷ []) ++ passing test t) ≡ cond b (1 + length (passing test t)) (length (passing test t))
    by true = unfold only_if in omega arith
    by false = unfold only_if in refl

pub count-passing : (c : ℕ) (t : Text) → count_of c t ≡ count_by (λ x. eqb x c) t
unfolding count_of
count-passing c t = is_count_by (λ l. length (passing (λ x. eqb x c) l)) (λ x. eqb x c) (unfold passing in refl) (passing-step (λ x. eqb x c)) t

-- ---- over a limit

module _ (t : Text) where
  pub long-bars : (n : ℕ) → n ≡ count_of 124 t → 7 < n → true ≡ long_path t
  unfolding long_path
  long-bars n e h = rw (← e, lt-ltb 7 n h)

  pub long-slashes : (n m : ℕ) → n ≡ count_of 124 t → n ≤ 7 → m ≡ count_of 47 t → ltb 16 m ≡ long_path t
  unfolding long_path
  long-slashes n m e h d = rw (← e, ← d, le-ltb 7 n h)
