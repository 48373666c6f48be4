-- What the allowance keeps: what is admitted stays within cap and T, since a job's own share is all that changes; no open
-- job is refused within its guarantee, since that is counted already. And how many bytes are admitted, as one number.
-- Assumes nothing.
use Prim.Native.Nat.{ℕ, zero, suc, ◌+◌, ◌-◌, ◌*◌, ◌≤◌, ◌<◌, max, min}
use native.Mathlib.Omega.{arith}
use borrow.Author.Tests.{lt-ltb, leb-true, le-leb, leb-false, lt-leb, ltb-false, eqb-true, eq-eqb}
use lib.Dec.{leb, ltb, eqb}
use lib.ListN.{length, take, drop, get_or, get_elem?, length-append, length-take, length-replicate, replicate}
use mathlib.Core.Path.{◌≡◌, refl, ap, ap₂, sym, ◌∙◌, subst}
use mathlib.Core.Bool.{Bool, true, false, cond, ◌&&◌, false≢true}
use mathlib.Core.List.{List, [], ◌∷◌, ◌++◌}
use mathlib.Core.Option.{Option, none, some, some-injective}
use lib.Seq.{take-append_seam}
use Rattle.std.proofs.lemmas.Bool.{and_parts, and_from}
use Rattle.lists.specs.Lists.{all, All}
use Rattle.lists.proofs.Lists.{bool-ext}
use Rattle.lists.proofs.Folds.{All-weaken}
use Rattle.lists.proofs.Places.{each_of, all_true, All-get_elem, get_elem-some}
use Rattle.allowance.specs.Allowance.{Job, Allowance, is_open, jobs_of, job_at, sum_of, held_by, cap_no_smaller, terms_fit, started_from, no_job, fresh_allowance, Setting, ready, broken, short, set_together, use_fits, allowance_fits, changed_at, with_job, with_more, spend, closing, close_at, job_admits, admits, most_of, most_admitted, Standing, unknown_job, unfit_state, known, standing_by, job_standing}
use Rattle.allowance.proofs.Jobs.{sum-changed, sum-has, sum_first, sum-unchanged, sum_less, take-changed, length-changed, each-changed, others_same, itself-changed, changed-again}

-- ---- the state that fits, condition by condition

pub record JobFits (j : Job) : Type 0 where
  pub capped : j.guarantee ≤ j.cap
  pub within : j.used ≤ j.cap
  pub marked : j.mark ≤ 1

abbrev pub guaranteed : List Job → ℕ
guaranteed js = sum_of (λ j. j.guarantee) js

pub record Fits (a : Allowance) : Type 0 where
  pub few : a.count ≤ 8
  pub each : All JobFits (jobs_of a)
  pub guarantees : guaranteed (jobs_of a) ≤ a.total
  pub sum : sum_of held_by (jobs_of a) ≤ a.total

job-fits : (js : List Job) → All (λ j. cap_no_smaller j ≡ true) js → All (λ j. use_fits j ≡ true) js → All JobFits js
unfolding cap_no_smaller use_fits
job-fits [] c u = tt
job-fits (j ∷ js) c u =
    let p = and_parts (leb j.used j.cap) (leb j.mark 1) u.0 in (
      record { capped = leb-true j.guarantee j.cap c.0; within = leb-true j.used j.cap p.0; marked = leb-true j.mark 1 p.1 },
      job-fits js c.1 u.1,
    )

pub fits-are : (a : Allowance) → allowance_fits a ≡ true → Fits a
unfolding allowance_fits terms_fit
fits-are a h =
    let js : List Job = jobs_of a in
    let p = and_parts (leb a.count 8 && (all cap_no_smaller js && leb (guaranteed js) a.total)) (all use_fits js && leb (sum_of held_by js) a.total) h in
    let q = and_parts (leb a.count 8) (all cap_no_smaller js && leb (guaranteed js) a.total) p.0 in
    let r = and_parts (all cap_no_smaller js) (leb (guaranteed js) a.total) q.1 in
    let s = and_parts (all use_fits js) (leb (sum_of held_by js) a.total) p.1 in
    record {
      few = leb-true a.count 8 q.0;
      each = job-fits js (each_of cap_no_smaller js r.0) (each_of use_fits js s.0);
      guarantees = leb-true (guaranteed js) a.total r.1;
      sum = leb-true (sum_of held_by js) a.total s.1;
    }

fit-use : (j : Job) → JobFits j → use_fits j ≡ true
unfolding use_fits
fit-use j f = and_from (leb j.used j.cap) (leb j.mark 1) (le-leb j.used j.cap f.within) (le-leb j.mark 1 f.marked)

fit-cap : (j : Job) → JobFits j → cap_no_smaller j ≡ true
unfolding cap_no_smaller
fit-cap j f = le-leb j.guarantee j.cap f.capped

pub are-fits : (a : Allowance) → Fits a → allowance_fits a ≡ true
unfolding allowance_fits terms_fit
are-fits a f =
    let js : List Job = jobs_of a in
    and_from (leb a.count 8 && (all cap_no_smaller js && leb (guaranteed js) a.total)) (all use_fits js && leb (sum_of held_by js) a.total)
    (and_from (leb a.count 8) (all cap_no_smaller js && leb (guaranteed js) a.total) (le-leb a.count 8 f.few)
    (and_from (all cap_no_smaller js) (leb (guaranteed js) a.total) (all_true cap_no_smaller JobFits fit-cap js f.each) (le-leb (guaranteed js) a.total f.guarantees)))
    (and_from (all use_fits js) (leb (sum_of held_by js) a.total) (all_true use_fits JobFits fit-use js f.each) (le-leb (sum_of held_by js) a.total f.sum))

-- ---- one job changes

pub jobs-changed : (a : Allowance) (i : ℕ) (g : Job → Job) → jobs_of (with_job a i g) ≡ changed_at i g (jobs_of a)
unfolding jobs_of with_job
jobs-changed a i g = take-changed a.count g a.places i

pub job-itself : (a : Allowance) (i : ℕ) (g : Job → Job) (j : Job) → job_at a i ≡ some j → job_at (with_job a i g) i ≡ some (g j)
unfolding job_at
job-itself a i g j e = ap (λ (l : List Job). get_elem? l i) (jobs-changed a i g) ∙ itself-changed g (jobs_of a) i j e

pub job-other : (a : Allowance) (i : ℕ) (g : Job → Job) (k : ℕ) → (k ≡ i → ⊥) → job_at (with_job a i g) k ≡ job_at a k
unfolding job_at
job-other a i g k n = ap (λ (l : List Job). get_elem? l k) (jobs-changed a i g) ∙ others_same g (jobs_of a) i k n

-- every number below the count is a job's
pub job-there : (a : Allowance) → a.count ≤ length a.places → (i : ℕ) → i < a.count → (j : Job) × (job_at a i ≡ some j)
unfolding job_at jobs_of
job-there a l i h = let e = length-take a.count a.places in get_elem-some (take a.count a.places) i (omega (arith, e, l, h))

pub job-below : (a : Allowance) (i : ℕ) (j : Job) → job_at a i ≡ some j → i < a.count
unfolding job_at jobs_of
job-below a i j e = by a.count a.places i e
  where
    by : (n : ℕ) (js : List Job) (i : ℕ) → get_elem? (take n js) i ≡ some j → i < n
    by zero js i e = let z : ◌≡◌ {A = ℕ} 0 1 = cc in absurd (omega arith)
    by (suc n) [] i e = let z : ◌≡◌ {A = ℕ} 0 1 = cc in absurd (omega arith)
    by (suc n) (x ∷ js) zero e = omega arith
    by (suc n) (x ∷ js) (suc i) e = let h = by n js i e in omega arith

-- ---- what is admitted

module _ (a : Allowance) (fit : Fits a) (i : ℕ) (j : Job) (here : job_at a i ≡ some j) (opened : is_open j ≡ true) where
  held-is : held_by j ≡ max j.used j.guarantee
  unfolding held_by
  held-is = rw opened

  held_more : (n : ℕ) → held_by (with_more n j) ≡ max (j.used + n) j.guarantee
  unfolding held_by with_more is_open
  held_more n = let o : eqb j.mark 1 ≡ true = unfold is_open in opened in rw o

  spent : (n : ℕ) → sum_of held_by (jobs_of (spend a i n)) + max j.used j.guarantee ≡ sum_of held_by (jobs_of a) + max (j.used + n) j.guarantee
  unfolding spend
  spent n =
      let h = sum-changed held_by (with_more n) (jobs_of a) i j (unfold job_at in here) in
      let e = ap (sum_of held_by) (jobs-changed a i (with_more n)) in
      omega (arith, h, e, held-is, held_more n)

  at_least : max j.used j.guarantee ≤ sum_of held_by (jobs_of a)
  at_least = let h = sum-has held_by (jobs_of a) i j (unfold job_at in here) in omega (arith, h, held-is)

  own : JobFits j
  own = All-get_elem JobFits (jobs_of a) i j fit.each (unfold job_at in here)

  admits-are : (n : ℕ) → j.used + n ≤ j.cap → sum_of held_by (jobs_of (spend a i n)) ≤ a.total → admits a i n ≡ true
  unfolding admits job_admits
  admits-are n p q = rw (here, le-leb (j.used + n) j.cap p, le-leb (sum_of held_by (jobs_of (spend a i n))) a.total q)

  are-admitted : (n : ℕ) → admits a i n ≡ true → (j.used + n ≤ j.cap) × (sum_of held_by (jobs_of (spend a i n)) ≤ a.total)
  unfolding admits job_admits
  are-admitted n h =
      let k : (leb (j.used + n) j.cap && leb (sum_of held_by (jobs_of (spend a i n))) a.total) ≡ true = rw here at h in
      let p = and_parts (leb (j.used + n) j.cap) (leb (sum_of held_by (jobs_of (spend a i n))) a.total) k in
      (leb-true (j.used + n) j.cap p.0, leb-true (sum_of held_by (jobs_of (spend a i n))) a.total p.1)

  -- WITHIN ITS GUARANTEE an open job is not refused
  pub within-guarantee : (n : ℕ) → j.used + n ≤ j.guarantee → admits a i n ≡ true
  within-guarantee n h = admits-are n (omega (arith, h, own.capped)) (omega (arith, spent n, h, fit.sum))

  -- NONE PASSES ITS CAP
  pub cap-kept : (n : ℕ) → admits a i n ≡ true → j.used + n ≤ j.cap
  cap-kept n h = (are-admitted n h).0

  -- and what the open jobs hold stays within T
  pub total_kept : (n : ℕ) → admits a i n ≡ true → sum_of held_by (jobs_of (spend a i n)) ≤ a.total
  total_kept n h = (are-admitted n h).1

  -- no bytes are always admitted
  pub nothing-admitted : admits a i 0 ≡ true
  nothing-admitted = admits-are 0 (omega (arith, own.within)) (omega (arith, spent 0, fit.sum))

  most-is : most_admitted a i ≡ min j.cap ((a.total - sum_of held_by (jobs_of a)) + max j.used j.guarantee) - j.used
  unfolding most_admitted most_of
  most-is = rw (here, held-is)

  -- THE NUMBER of bytes that are admitted
  pub admits-most : (n : ℕ) → admits a i n ≡ leb n (most_admitted a i)
  admits-most n =
      bool-ext (admits a i n) (leb n (most_admitted a i))
      (λ h. let p = are-admitted n h in le-leb n (most_admitted a i) (omega (arith, most-is, spent n, at_least, p.0, p.1, fit.sum)))
      (λ h. let p = leb-true n (most_admitted a i) h in admits-are n (omega (arith, most-is, p, own.within)) (omega (arith, most-is, spent n, at_least, p, fit.sum)))

-- ---- what stays

withmore-fits : (n : ℕ) (j : Job) → j.used + n ≤ j.cap → JobFits j → JobFits (with_more n j)
unfolding with_more
withmore-fits n j h f = record { capped = f.capped; within = h; marked = f.marked }

-- WHAT IS ADMITTED leaves a state that fits
pub spend-fits : (a : Allowance) → Fits a → (i : ℕ) (j : Job) → job_at a i ≡ some j → is_open j ≡ true → (n : ℕ) → admits a i n ≡ true → Fits (spend a i n)
spend-fits a f i j here opened n h =
    let e = jobs-changed a i (with_more n) in
    record {
      few = unfold spend with_job in f.few;
      each =
          unfold spend in
          subst (All JobFits) (sym e)
          (each-changed JobFits (with_more n) (jobs_of a) i f.each (λ x q u. let s : j ≡ x = some-injective j x (sym here ∙ (unfold job_at in q)) in withmore-fits n x (subst (λ (y : Job). y.used + n ≤ y.cap) s (cap-kept a f i j here opened n h)) u));
      guarantees =
          unfold spend in
          (let k = sum-unchanged (λ x. x.guarantee) (with_more n) (λ x. unfold with_more in refl) (jobs_of a) i in
          let m = ap guaranteed e in
          let t : (with_job a i (with_more n)).total ≡ a.total = unfold with_job in refl in
          omega (arith, k, m, t, f.guarantees));
      sum = let k = total_kept a f i j here opened n h in unfold spend with_job in k;
    }

closing-fits : (j : Job) → JobFits j → JobFits (closing j)
unfolding closing
closing-fits j f = record { capped = f.capped; within = f.within; marked = omega arith }

-- CLOSING leaves a state that fits
pub close-fits : (a : Allowance) → Fits a → (i : ℕ) → Fits (close_at a i)
close-fits a f i =
    let e = jobs-changed a i closing in
    record {
      few = unfold close_at with_job in f.few;
      each = unfold close_at in subst (All JobFits) (sym e) (each-changed JobFits closing (jobs_of a) i f.each (λ x q u. closing-fits x u));
      guarantees =
          unfold close_at in
          (let k = sum-unchanged (λ x. x.guarantee) closing (λ x. unfold closing in refl) (jobs_of a) i in
          let m = ap guaranteed e in
          let t : (with_job a i closing).total ≡ a.total = unfold with_job in refl in
          omega (arith, k, m, t, f.guarantees));
      sum =
          unfold close_at in
          (let k = sum_less held_by closing (λ x. unfold held_by is_open closing in omega arith) (jobs_of a) i in
          let m = ap (sum_of held_by) e in
          let t : (with_job a i closing).total ≡ a.total = unfold with_job in refl in
          omega (arith, k, m, t, f.sum));
    }

-- CLOSING AGAIN changes nothing
pub close_twice : (a : Allowance) (i : ℕ) → close_at (close_at a i) i ≡ close_at a i
unfolding close_at with_job
close_twice a i = λ t. record { total = a.total; count = a.count; places = changed-again closing (λ j. unfold closing in refl) a.places i t }

-- ---- no sum is over T: the first of the jobs together neither, so that 64 bits hold each on the way

pub sums-within : (a : Allowance) → Fits a → (n : ℕ) → (guaranteed (take n (jobs_of a)) ≤ a.total) × (sum_of held_by (take n (jobs_of a)) ≤ a.total)
sums-within a f n = (
  omega (arith, sum_first (λ j. j.guarantee) n (jobs_of a), f.guarantees),
  omega (arith, sum_first held_by n (jobs_of a), f.sum),
)

-- ---- set-up

pub length-started : (count : ℕ) (ts : List ℕ) → length (started_from count ts) ≡ count
unfolding started_from
length-started zero ts = refl
length-started (suc n) ts = ap suc (length-started n (drop 2 ts))

pub fresh-jobs : (total count : ℕ) (ts : List ℕ) → jobs_of (fresh_allowance total count ts) ≡ started_from count ts
unfolding jobs_of fresh_allowance
fresh-jobs total count ts =
    ap (λ (n : ℕ). take n (started_from count ts ++ replicate (8 - count) no_job)) (sym (length-started count ts))
    ∙ take-append_seam (started_from count ts) (replicate (8 - count) no_job)

-- a job that was started holds its guarantee
pub started-held : (count : ℕ) (ts : List ℕ) → sum_of held_by (started_from count ts) ≡ guaranteed (started_from count ts)
unfolding sum_of started_from held_by is_open
started-held zero ts = refl
started-held (suc n) ts = let h = started-held n (drop 2 ts) in omega (arith, h)

started-use : (count : ℕ) (ts : List ℕ) → all use_fits (started_from count ts) ≡ true
unfolding started_from use_fits
started-use zero ts = refl
started-use (suc n) ts = rw (le-leb 0 (get_or ts 1 0) (omega arith)) (started-use n (drop 2 ts))

-- the conditions are all that is asked of an allowance just set up
pub fresh-fits : (total count : ℕ) (ts : List ℕ) → allowance_fits (fresh_allowance total count ts) ≡ terms_fit total count (started_from count ts)
fresh-fits total count ts =
    by
    (fresh-jobs total count ts)
    (leb count 8)
    (all cap_no_smaller (started_from count ts))
    (leb (guaranteed (started_from count ts)) total)
    refl
    refl
    refl
  where
    by : jobs_of (fresh_allowance total count ts) ≡ started_from count ts → (p q r : Bool) → leb count 8 ≡ p → all cap_no_smaller (started_from count ts) ≡ q
        → leb (guaranteed (started_from count ts)) total ≡ r → allowance_fits (fresh_allowance total count ts) ≡ terms_fit total count (started_from count ts)
    by e p q r f g h =
        unfold allowance_fits terms_fit in
        (let t : (fresh_allowance total count ts).total ≡ total = unfold fresh_allowance in refl in
        let c : (fresh_allowance total count ts).count ≡ count = unfold fresh_allowance in refl in
        rw (e, t, c, started-use count ts, started-held count ts, f, g, h) (all_three p q r))
      where
        all_three : (p q r : Bool) → ((p && (q && r)) && (true && r)) ≡ (p && (q && r))
        all_three true true true = refl
        all_three true true false = refl
        all_three true false r = refl
        all_three false q r = refl

pub fresh-places : (total count : ℕ) (ts : List ℕ) → count ≤ 8 → length (fresh_allowance total count ts).places ≡ 8
unfolding fresh_allowance
fresh-places total count ts h =
    let p = length-append (started_from count ts) (replicate (8 - count) no_job) in
    let q = length-started count ts in
    let r = length-replicate (8 - count) no_job in
    omega (arith, p, q, r, h)

-- WHAT IS SET UP fits, and has eight places
pub together-fits : (total count : ℕ) (ts : List ℕ) (a : Allowance) → set_together total count ts ≡ ready a → Fits a × (length a.places ≡ 8) × (a ≡ fresh_allowance total count ts)
unfolding set_together
together-fits total count ts a h = by (ltb 8 count) refl (ltb (length ts) (2 * count)) (terms_fit total count (started_from count ts)) refl h
  where
    fresh : Allowance
    fresh = fresh_allowance total count ts

    by : (p : Bool) → ltb 8 count ≡ p → (q r : Bool) → terms_fit total count (started_from count ts) ≡ r → cond p broken (cond q short (cond r (ready fresh) broken)) ≡ ready a
        → Fits a × (length a.places ≡ 8) × (a ≡ fresh)
    by true e q r f h = let z : ◌≡◌ {A = ℕ} 0 1 = cc in absurd (omega arith)
    by false e true r f h = let z : ◌≡◌ {A = ℕ} 0 1 = cc in absurd (omega arith)
    by false e false false f h = let z : ◌≡◌ {A = ℕ} 0 1 = cc in absurd (omega arith)
    by false e false true f h =
        let same : a ≡ fresh = cc in (
          subst Fits (sym same) (fits-are fresh (fresh-fits total count ts ∙ f)),
          ap (λ (x : Allowance). length x.places) same ∙ fresh-places total count ts (ltb-false 8 count e),
          same,
        )

-- ---- before all else

-- in a state that fits a job that was set up is known
pub standing-known : (a : Allowance) → Fits a → (i : ℕ) (j : Job) → job_at a i ≡ some j → job_standing a i ≡ known j
unfolding job_standing standing_by
standing-known a f i j e = rw (lt-ltb i a.count (job-below a i j e), are-fits a f, e)

-- and one that is known was set up, in a state that fits
pub known-there : (a : Allowance) (i : ℕ) (j : Job) → job_standing a i ≡ known j → Fits a × (job_at a i ≡ some j)
unfolding job_standing standing_by
known-there a i j h = by (ltb i a.count) (allowance_fits a) refl (job_at a i) refl h
  where
    by : (p q : Bool) → allowance_fits a ≡ q → (o : Option Job) → job_at a i ≡ o → cond p (cond q (standing_by o) unfit_state) unknown_job ≡ known j → Fits a × (job_at a i ≡ some j)
    by false q e o g h = let z : ◌≡◌ {A = ℕ} 0 1 = cc in absurd (omega arith)
    by true false e o g h = let z : ◌≡◌ {A = ℕ} 0 1 = cc in absurd (omega arith)
    by true true e none g h = let z : ◌≡◌ {A = ℕ} 0 1 = cc in absurd (omega arith)
    by true true e (some k) g h = let s : k ≡ j = cc in (fits-are a e, g ∙ ap some s)
