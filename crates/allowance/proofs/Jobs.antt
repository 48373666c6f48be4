-- One job of the places changes: by going through them, what becomes of the sums, of the job and of the others.
-- Assumes nothing.
use Prim.Native.Nat.{ℕ, zero, suc, ◌+◌, ◌-◌, ◌≤◌, ◌<◌}
use native.Mathlib.Omega.{arith}
use lib.ListN.{length, take, get_elem?}
use mathlib.Core.Path.{◌≡◌, refl, ap, sym, ◌∙◌}
use mathlib.Core.Bool.{Bool, true, false}
use mathlib.Core.List.{List, [], ◌∷◌}
use mathlib.Core.Option.{Option, none, some}
use Rattle.lists.specs.Lists.{all, All}
use Rattle.allowance.specs.Allowance.{Job, sum_of, changed_at}

no-job-in : {X : Type 0} (i : ℕ) (j : Job) → get_elem? {A = Job} [] i ≡ some j → X
no-job-in i j e = let z : ◌≡◌ {A = ℕ} 0 1 = cc in absurd (omega arith)

pub sum-changed : (f : Job → ℕ) (g : Job → Job) (js : List Job) (i : ℕ) (j : Job) → get_elem? js i ≡ some j
    → sum_of f (changed_at i g js) + f j ≡ sum_of f js + f (g j)
unfolding sum_of changed_at
sum-changed f g [] i j e = no-job-in i j e
sum-changed f g (x ∷ js) zero j e = let q : x ≡ j = cc in rw q (omega arith)
sum-changed f g (x ∷ js) (suc i) j e = let h = sum-changed f g js i j e in omega arith

pub sum-has : (f : Job → ℕ) (js : List Job) (i : ℕ) (j : Job) → get_elem? js i ≡ some j → f j ≤ sum_of f js
unfolding sum_of
sum-has f [] i j e = no-job-in i j e
sum-has f (x ∷ js) zero j e = let q : x ≡ j = cc in rw q (omega arith)
sum-has f (x ∷ js) (suc i) j e = let h = sum-has f js i j e in omega arith

-- the sum over the first of them is no larger
pub sum_first : (f : Job → ℕ) (n : ℕ) (js : List Job) → sum_of f (take n js) ≤ sum_of f js
unfolding sum_of
sum_first f zero js = omega arith
sum_first f (suc n) [] = omega arith
sum_first f (suc n) (j ∷ js) = let h = sum_first f n js in omega arith

-- a sum of something that the change leaves alone
pub sum-unchanged : (f : Job → ℕ) (g : Job → Job) → ((j : Job) → f (g j) ≡ f j) → (js : List Job) (i : ℕ) → sum_of f (changed_at i g js) ≡ sum_of f js
unfolding sum_of changed_at
sum-unchanged f g h [] i = refl
sum-unchanged f g h (j ∷ js) zero = ap (λ (n : ℕ). n + sum_of f js) (h j)
sum-unchanged f g h (j ∷ js) (suc i) = ap (λ (n : ℕ). f j + n) (sum-unchanged f g h js i)

pub sum_less : (f : Job → ℕ) (g : Job → Job) → ((j : Job) → f (g j) ≤ f j) → (js : List Job) (i : ℕ) → sum_of f (changed_at i g js) ≤ sum_of f js
unfolding sum_of changed_at
sum_less f g h [] i = omega arith
sum_less f g h (j ∷ js) zero = let k = h j in omega arith
sum_less f g h (j ∷ js) (suc i) = let k = sum_less f g h js i in omega arith

-- the first `n` of the changed places are the first `n`, changed
pub take-changed : (n : ℕ) (g : Job → Job) (js : List Job) (i : ℕ) → take n (changed_at i g js) ≡ changed_at i g (take n js)
unfolding changed_at
take-changed zero g js i = refl
take-changed (suc n) g [] i = refl
take-changed (suc n) g (j ∷ js) zero = refl
take-changed (suc n) g (j ∷ js) (suc i) = ap (λ (l : List Job). j ∷ l) (take-changed n g js i)

pub length-changed : (g : Job → Job) (js : List Job) (i : ℕ) → length (changed_at i g js) ≡ length js
unfolding changed_at
length-changed g [] i = refl
length-changed g (j ∷ js) zero = refl
length-changed g (j ∷ js) (suc i) = ap suc (length-changed g js i)

pub each-changed : (p : Job → Type 0) (g : Job → Job) (js : List Job) (i : ℕ) → All p js
    → ((j : Job) → get_elem? js i ≡ some j → p j → p (g j)) → All p (changed_at i g js)
unfolding changed_at
each-changed p g [] i a h = tt
each-changed p g (j ∷ js) zero a h = (h j refl a.0, a.1)
each-changed p g (j ∷ js) (suc i) a h = (a.0, each-changed p g js i a.1 h)

pub others_same : (g : Job → Job) (js : List Job) (i k : ℕ) → (k ≡ i → ⊥) → get_elem? (changed_at i g js) k ≡ get_elem? js k
unfolding changed_at
others_same g [] i k h = refl
others_same g (j ∷ js) zero zero h = absurd (h refl)
others_same g (j ∷ js) zero (suc k) h = refl
others_same g (j ∷ js) (suc i) zero h = refl
others_same g (j ∷ js) (suc i) (suc k) h = others_same g js i k (λ e. h (ap suc e))

pub itself-changed : (g : Job → Job) (js : List Job) (i : ℕ) (j : Job) → get_elem? js i ≡ some j → get_elem? (changed_at i g js) i ≡ some (g j)
unfolding changed_at
itself-changed g [] i j h = no-job-in i j h
itself-changed g (x ∷ js) zero j h = let q : x ≡ j = cc in rw q
itself-changed g (x ∷ js) (suc i) j h = itself-changed g js i j h

-- a change that is the same when it is made again
pub changed-again : (g : Job → Job) → ((j : Job) → g (g j) ≡ g j) → (js : List Job) (i : ℕ) → changed_at i g (changed_at i g js) ≡ changed_at i g js
unfolding changed_at
changed-again g h [] i = refl
changed-again g h (j ∷ js) zero = ap (λ (x : Job). x ∷ js) (h j)
changed-again g h (j ∷ js) (suc i) = ap (λ (l : List Job). j ∷ l) (changed-again g h js i)
