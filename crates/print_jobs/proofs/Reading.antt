-- The jobs in the numbers, one after another: what is left of T behind each is what is left beyond the sum of all, so that
-- no sum is made.
-- Assumes nothing.
use Prim.Native.Nat.{ℕ, zero, suc, ◌+◌, ◌-◌, ◌*◌, ◌≤◌, ◌<◌}
use native.Mathlib.Omega.{arith}
use borrow.Author.Tests.{leb-true, leb-false, le-leb, lt-leb}
use lib.Dec.{leb}
use lib.Seq.{get_or-drop, drop-drop}
use lib.ListN.{take, drop, get_or, get_elem?}
use mathlib.Core.Path.{◌≡◌, refl, ap, sym, ◌∙◌}
use mathlib.Core.Bool.{Bool, true, false, cond, ◌&&◌, and-false}
use mathlib.Core.List.{List, [], ◌∷◌}
use mathlib.Core.Option.{none, some}
use Rattle.lists.specs.Lists.{all}
use Rattle.allowance.specs.Allowance.{Job, jobs_of, job_at, sum_of, held_by, cap_no_smaller, use_fits}
use Rattle.allowance.specs.Numbers.{job_in, jobs_from, allowance_in}
use Rattle.allowance.proofs.Laws.{guaranteed}
use Rattle.print_jobs.specs.declared.JobNow.{JobNow}
use Rattle.print_jobs.specs.Answers.{job_of, within_both, left_over}

-- ---- a job

pub read-job : (ns : List ℕ) (i : ℕ) (j : JobNow) → j.guarantee ≡ get_or ns (2 + 4 * i) 0 → j.cap ≡ get_or ns (2 + 4 * i + 1) 0
    → j.used ≡ get_or ns (2 + 4 * i + 2) 0 → j.mark ≡ get_or ns (2 + 4 * i + 3) 0 → job_of j ≡ job_in (drop (2 + 4 * i) ns)
unfolding job_in
read-job ns i j g c u m =
    let p : ℕ = 2 + 4 * i in
    let z : get_or ns p 0 ≡ get_or ns (p + 0) 0 = ap (λ (n : ℕ). get_or ns n 0) (omega arith) in
    let g' = g ∙ z ∙ sym (get_or-drop p ns 0 0) in
    let c' = c ∙ sym (get_or-drop p ns 1 0) in
    let u' = u ∙ sym (get_or-drop p ns 2 0) in
    let m' = m ∙ sym (get_or-drop p ns 3 0) in
    λ t. record { guarantee = g' t; cap = c' t; used = u' t; mark = m' t }

-- ---- the walk over the jobs

-- the jobs from number i on
abbrev pub jobs_behind : List ℕ → (count i : ℕ) → List Job
jobs_behind ns count i = jobs_from (count - i) (drop (2 + 4 * i) ns)

jobs-turn : (ns : List ℕ) (count i : ℕ) → i < count → jobs_behind ns count i ≡ job_in (drop (2 + 4 * i) ns) ∷ jobs_behind ns count (i + 1)
unfolding jobs_from
jobs-turn ns count i h =
    let e : count - i ≡ suc (count - (i + 1)) = omega (arith, h) in
    let far : 2 + 4 * i + 4 ≡ 2 + 4 * (i + 1) = omega arith in
    let d : drop 4 (drop (2 + 4 * i) ns) ≡ drop (2 + 4 * (i + 1)) ns = drop-drop 4 (2 + 4 * i) ns ∙ ap (λ (n : ℕ). drop n ns) far in
    ap (λ (n : ℕ). jobs_from n (drop (2 + 4 * i) ns)) e
    ∙ ap (λ (l : List ℕ). job_in (drop (2 + 4 * i) ns) ∷ jobs_from (count - (i + 1)) l) d

-- a job that does not fit, or is past what is left, for guarantees or for what jobs hold
module _ (j : Job) (p l : ℕ) where
  pub no-fit : (b : Bool) → b ≡ (cap_no_smaller j && use_fits j) → b ≡ false → false ≡ within_both j p l
  unfolding within_both
  no-fit b e f = ap (λ (x : Bool). x && (leb j.guarantee p && leb (held_by j) l)) (sym f ∙ e)

  pub over-promised : p < j.guarantee → false ≡ within_both j p l
  unfolding within_both
  over-promised h = rw (lt-leb j.guarantee p h) (sym (and-false (cap_no_smaller j && use_fits j)))

  pub over-left : l < held_by j → false ≡ within_both j p l
  unfolding within_both
  over-left h = rw (lt-leb (held_by j) l h, and-false (leb j.guarantee p)) (sym (and-false (cap_no_smaller j && use_fits j)))

  pub in-both : (b : Bool) → b ≡ (cap_no_smaller j && use_fits j) → b ≡ true → j.guarantee ≤ p → held_by j ≤ l → true ≡ within_both j p l
  unfolding within_both
  in-both b e f g h = rw (← e, f, le-leb j.guarantee p g, le-leb (held_by j) l h) refl

-- what the loop keeps: behind the jobs that were walked over the rest goes on as the whole does
pub record Walked (ns : List ℕ) (count total promised left i : ℕ) : Type 0 where
  pub within : i ≤ count
  pub same : left_over promised left (jobs_behind ns count i) ≡ left_over total total (jobs_from count (drop 2 ns))

module _ (ns : List ℕ) (count total promised left i : ℕ) (w : Walked ns count total promised left i) where
  pub walked-past : i < count → (j : Job) → j ≡ job_in (drop (2 + 4 * i) ns) → false ≡ within_both j promised left → none ≡ left_over total total (jobs_from count (drop 2 ns))
  walked-past h j e f =
      let past : left_over promised left (job_in (drop (2 + 4 * i) ns) ∷ jobs_behind ns count (i + 1)) ≡ none = unfold left_over in (rw (← e, ← f)) in
      sym past ∙ ap (left_over promised left) (sym (jobs-turn ns count i h)) ∙ w.same

  pub walked_on : i < count → (j : Job) → j ≡ job_in (drop (2 + 4 * i) ns) → true ≡ within_both j promised left → (p l : ℕ) → p ≡ promised - j.guarantee → l ≡ left - held_by j
      → Walked ns count total p l (i + 1)
  walked_on h j e f p l a b = record { within = omega (arith, h); same = on ∙ ap (left_over promised left) (sym (jobs-turn ns count i h)) ∙ w.same }
    where
      on : left_over p l (jobs_behind ns count (i + 1)) ≡ left_over promised left (job_in (drop (2 + 4 * i) ns) ∷ jobs_behind ns count (i + 1))
      on = unfold left_over in (rw (a, b, ← e, ← f))

  pub walked_end : count ≤ i → some left ≡ left_over total total (jobs_from count (drop 2 ns))
  walked_end h =
      let e : count - i ≡ 0 = omega (arith, h) in
      let s : left_over promised left (jobs_behind ns count i) ≡ some left = ap (λ (n : ℕ). left_over promised left (jobs_from n (drop (2 + 4 * i) ns))) e ∙ (unfold jobs_from left_over in refl) in
      sym s ∙ w.same

-- ---- what is left behind all of them

abbrev all_fit : (p l : ℕ) → List Job → Bool
all_fit p l js = (all cap_no_smaller js && leb (guaranteed js) p) && (all use_fits js && leb (sum_of held_by js) l)

leb-plus : (a b n : ℕ) → leb a n ≡ true → leb (a + b) n ≡ leb b (n - a)
leb-plus a b n h =
    Rattle.lists.proofs.Lists.bool-ext (leb (a + b) n) (leb b (n - a))
    (λ q. let z = leb-true (a + b) n q in le-leb b (n - a) (omega arith))
    (λ q. let z = leb-true b (n - a) q in let y = leb-true a n h in le-leb (a + b) n (omega arith))

leb-over : (a b n : ℕ) → leb a n ≡ false → leb (a + b) n ≡ false
leb-over a b n h = let z = leb-false a n h in lt-leb (a + b) n (omega arith)

-- what is left is what no open job holds, where all fits
pub left-over-is : (js : List Job) (p l : ℕ) → left_over p l js ≡ cond (all_fit p l js) (some (l - sum_of held_by js)) none
unfolding left_over within_both sum_of
left-over-is [] p l = rw (le-leb 0 p (omega arith), le-leb 0 l (omega arith)) (ap some (omega arith))
left-over-is (j ∷ js) p l =
    by (cap_no_smaller j) (use_fits j) (leb j.guarantee p) refl (leb (held_by j) l) refl (left-over-is js (p - j.guarantee) (l - held_by j))
  where
    by : (c u g : Bool) → leb j.guarantee p ≡ g → (h : Bool) → leb (held_by j) l ≡ h
        → left_over (p - j.guarantee) (l - held_by j) js ≡ cond (all_fit (p - j.guarantee) (l - held_by j) js) (some ((l - held_by j) - sum_of held_by js)) none
        → cond ((c && u) && (g && h)) (left_over (p - j.guarantee) (l - held_by j) js) none
        ≡ cond (((c && all cap_no_smaller js) && leb (j.guarantee + guaranteed js) p) && ((u && all use_fits js) && leb (held_by j + sum_of held_by js) l)) (some (l - (held_by j + sum_of held_by js))) none
    by true true true e true f ih =
        rw (leb-plus j.guarantee (guaranteed js) p e, leb-plus (held_by j) (sum_of held_by js) l f, ih)
        (ap (λ (n : ℕ). cond (all_fit (p - j.guarantee) (l - held_by j) js) (some n) none) (omega arith))
    by true true true e false f ih = rw (leb-over (held_by j) (sum_of held_by js) l f, and-false (all use_fits js), and-false (all cap_no_smaller js && leb (j.guarantee + guaranteed js) p))
    by true true false e h f ih = rw (leb-over j.guarantee (guaranteed js) p e, and-false (all cap_no_smaller js))
    by true false g e h f ih = rw (and-false (all cap_no_smaller js && leb (j.guarantee + guaranteed js) p))
    by false u g e h f ih = refl

-- ---- the jobs of the allowance

take-jobs : (n m : ℕ) (ns : List ℕ) → n ≤ m → take n (jobs_from m ns) ≡ jobs_from n ns
unfolding jobs_from
take-jobs zero m ns h = refl
take-jobs (suc n) zero ns h = absurd (omega arith)
take-jobs (suc n) (suc m) ns h = ap (λ (l : List Job). job_in ns ∷ l) (take-jobs n m (drop 4 ns) (omega arith))

pub jobs-in : (ns : List ℕ) → get_or ns 1 0 ≤ 8 → jobs_of (allowance_in ns) ≡ jobs_from (get_or ns 1 0) (drop 2 ns)
unfolding jobs_of allowance_in
jobs-in ns h = take-jobs (get_or ns 1 0) 8 (drop 2 ns) h

job-from : (n i : ℕ) (ns : List ℕ) → i < n → get_elem? (jobs_from n ns) i ≡ some (job_in (drop (4 * i) ns))
unfolding jobs_from
job-from zero i ns h = absurd (omega arith)
job-from (suc n) zero ns h = refl
job-from (suc n) (suc i) ns h =
    let far : 4 + 4 * i ≡ 4 * suc i = omega arith in
    job-from n i (drop 4 ns) (omega arith)
    ∙ ap (λ (l : List ℕ). some (job_in l)) (drop-drop (4 * i) 4 ns ∙ ap (λ (k : ℕ). drop k ns) far)

-- the job with a number, in the numbers of all places
pub place-from : (ns : List ℕ) (i : ℕ) → i < 8 → get_elem? (jobs_from 8 (drop 2 ns)) i ≡ some (job_in (drop (2 + 4 * i) ns))
place-from ns i h = job-from 8 i (drop 2 ns) h ∙ ap (λ (l : List ℕ). some (job_in l)) (drop-drop (4 * i) 2 ns)

pub job-in-place : (ns : List ℕ) (i : ℕ) → i < get_or ns 1 0 → get_or ns 1 0 ≤ 8 → job_at (allowance_in ns) i ≡ some (job_in (drop (2 + 4 * i) ns))
unfolding job_at
job-in-place ns i h k =
    ap (λ (l : List Job). get_elem? l i) (jobs-in ns k)
    ∙ job-from (get_or ns 1 0) i (drop 2 ns) h
    ∙ ap (λ (l : List ℕ). some (job_in l)) (drop-drop (4 * i) 2 ns)
