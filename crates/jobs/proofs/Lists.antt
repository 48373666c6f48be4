-- Lists of calls for all jobs, close calls anywhere: each job's session and totals are as after the run of the records that
-- it took; uses are the sessions' used bytes, and caps and T are kept. By induction on the calls.
-- Assumes nothing.
use Prim.Native.Nat.{ℕ, ◌+◌, ◌≤◌}
use native.Mathlib.Omega.{arith}
use borrow.Author.Tests.{eqb-true, eqb-false, eq-eqb}
use lib.Dec.{eqb}
use lib.ListN.{length, length-append, get_elem?}
use mathlib.Core.Path.{◌≡◌, refl, ap, sym, ◌∙◌, subst}
use mathlib.Core.Bool.{Bool, true, false, cond, false≢true}
use mathlib.Core.List.{List, [], ◌∷◌, ◌++◌}
use mathlib.Core.Option.{Option, none, some, some-injective}
use Rattle.lists.specs.Lists.{only_if}
use Rattle.lists.proofs.Places.{All-get_elem}
use Rattle.records.specs.Readers.{Bytes}
use Rattle.records.specs.Records.{Rec, parsed, parse}
use Rattle.session_spec.specs.Session.{Reply, taken}
use Rattle.session_spec.specs.Runs.{taken_of}
use Rattle.totals.specs.Calls.{Account, advance, advanced, taken_in}
use Rattle.allowance.specs.Allowance.{Job, Allowance, jobs_of, job_at, sum_of, held_by}
use Rattle.allowance.proofs.Laws.{JobFits, Fits}
use Rattle.jobs.specs.Within.{JobReply}
use Rattle.jobs.specs.Jobs.{JobCalled, job_step, Jobs, JobCall, hand, shut, account_at, serve, serve_all, is_served, taken_by, taken_for}
use Rattle.jobs.proofs.Calls.{Taking, step-taking, Used, Stepped, step-stepped, close-stepped}

-- ---- A JOB'S SESSION AND TOTALS are as after the run of the records that it took

pub record Ran (x y : Account) (bss : List Bytes) : Type 0 where
  pub account : y ≡ advanced x bss
  pub all : length (taken_in x bss) ≡ length bss

none-ran : (x : Account) → Ran x x []
unfolding advanced taken_in
none-ran x = record { account = refl; all = refl }

one-ran : (x y : Account) (b : Bytes) → advance x b ≡ (taken, y) → (r : Rec) → parse b ≡ parsed r → Ran x y (b ∷ [])
unfolding advanced taken_in taken_of
one-ran x y b h r p = record { account = sym (ap (λ (o : Reply × Account). o.1) h); all = rw (h, p) }

module _ (k : ℕ) (s : Jobs) (i : ℕ) (x : Bytes) where
  abbrev got : JobCalled
  got = job_step s.allowance i (s.accounts i) x

  hand-ran : Ran (s.accounts k) (account_at i got.account s.accounts k) (only_if (eqb k i) (only_if (is_served got.reply) (x ∷ [])))
  unfolding only_if
  hand-ran = by (eqb k i) refl (is_served got.reply) refl
    where
      t : Taking (s.accounts i) x got
      t = step-taking s.allowance i (s.accounts i) x

      by : (b : Bool) → eqb k i ≡ b → (d : Bool) → is_served got.reply ≡ d → Ran (s.accounts k) (cond b got.account (s.accounts k)) (only_if b (only_if d (x ∷ [])))
      by false e d f = none-ran (s.accounts k)
      by true e true f =
          let q = t.reads f in
          subst (λ (n : ℕ). Ran (s.accounts n) got.account (x ∷ [])) (sym (eqb-true k i e)) (one-ran (s.accounts i) got.account x (t.takes f) q.0 q.1)
      by true e false f =
          subst (λ (n : ℕ). Ran (s.accounts n) got.account []) (sym (eqb-true k i e)) (subst (λ (y : Account). Ran (s.accounts i) y []) (sym (t.keeps f)) (none-ran (s.accounts i)))

one-call : (k : ℕ) (s : Jobs) (c : JobCall) → Ran (s.accounts k) ((serve s c).1.accounts k) (taken_by k (serve s c).0 c)
unfolding serve taken_by
one-call k s (shut i) = none-ran (s.accounts k)
one-call k s (hand i x) = hand-ran k s i x

pub advanced-append : (u : Account) (xs ys : List Bytes) → advanced u (xs ++ ys) ≡ advanced (advanced u xs) ys
unfolding advanced
advanced-append u [] ys = refl
advanced-append u (x ∷ xs) ys = advanced-append (advance u x).1 xs ys

taken-append : (u : Account) (xs ys : List Bytes) → length (taken_in u (xs ++ ys)) ≡ length (taken_in u xs) + length (taken_in (advanced u xs) ys)
unfolding taken_in advanced
taken-append u [] ys = omega arith
taken-append u (x ∷ xs) ys =
    let n = taken_of (advance u x).0 (parse x) in
    let h = taken-append (advance u x).1 xs ys in
    let p = length-append n (taken_in (advance u x).1 (xs ++ ys)) in
    let q = length-append n (taken_in (advance u x).1 xs) in
    omega (arith, h, p, q)

join-ran : (u v w : Account) (xs ys : List Bytes) → Ran u v xs → Ran v w ys → Ran u w (xs ++ ys)
join-ran u v w xs ys a b =
    record {
      account = b.account ∙ ap (λ (z : Account). advanced z ys) a.account ∙ sym (advanced-append u xs ys);
      all =
          let h = taken-append u xs ys in
          let k : length (taken_in (advanced u xs) ys) ≡ length ys = subst (λ (z : Account). length (taken_in z ys) ≡ length ys) a.account b.all in
          let p = length-append xs ys in
          let q = a.all in
          omega (arith, h, k, p, q);
    }

pub jobs-run : (k : ℕ) (s : Jobs) (cs : List JobCall) → Ran (s.accounts k) ((serve_all s cs).accounts k) (taken_for k s cs)
unfolding serve_all taken_for
jobs-run k s [] = none-ran (s.accounts k)
jobs-run k s (c ∷ cs) =
    join-ran (s.accounts k) ((serve s c).1.accounts k) ((serve_all (serve s c).1 cs).accounts k) (taken_by k (serve s c).0 c) (taken_for k (serve s c).1 cs)
    (one-call k s c) (jobs-run k (serve s c).1 cs)

-- ---- THE ALLOWANCE FITS after every list of calls: no call is 10 for its sake

serve-fits : (s : Jobs) (c : JobCall) → Fits s.allowance → Fits (serve s c).1.allowance
unfolding serve
serve-fits s (hand i x) f = (step-stepped s.allowance i (s.accounts i) x).fits f
serve-fits s (shut i) f = (close-stepped s.allowance i).0 f

pub jobs-fit : (s : Jobs) (cs : List JobCall) → Fits s.allowance → Fits (serve_all s cs).allowance
unfolding serve_all
jobs-fit s [] f = f
jobs-fit s (c ∷ cs) f = jobs-fit (serve s c).1 cs (serve-fits s c f)

-- ---- USES ARE the used bytes of the sessions

serve-uses : (k : ℕ) (s : Jobs) (c : JobCall) → Used s.allowance k (s.accounts k) → Used (serve s c).1.allowance k ((serve s c).1.accounts k)
unfolding serve
serve-uses k s (shut i) u = (close-stepped s.allowance i).1 k (s.accounts k) u
serve-uses k s (hand i x) u = by (eqb k i) refl
  where
    t : Stepped s.allowance i (s.accounts i) (got k s i x)
    t = step-stepped s.allowance i (s.accounts i) x

    by : (b : Bool) → eqb k i ≡ b → Used (got k s i x).allowance k (cond b (got k s i x).account (s.accounts k))
    by false e = record { job = u.job; here = t.others k (eqb-false k i e) ∙ u.here; used = u.used }
    by true e =
        let same = eqb-true k i e in
        subst (λ (n : ℕ). Used (got k s i x).allowance n (got k s i x).account) (sym same)
        (t.uses (subst (λ (n : ℕ). Used s.allowance n (s.accounts n)) same u))

pub uses-are : (k : ℕ) (s : Jobs) (cs : List JobCall) → Used s.allowance k (s.accounts k) → Used (serve_all s cs).allowance k ((serve_all s cs).accounts k)
unfolding serve_all
uses-are k s [] u = u
uses-are k s (c ∷ cs) u = uses-are k (serve s c).1 cs (serve-uses k s c u)

-- NO JOB PASSES ITS CAP: the used bytes of its session are within it
pub jobs-cap-kept : (k : ℕ) (s : Jobs) (cs : List JobCall) → Fits s.allowance → Used s.allowance k (s.accounts k)
    → (j : Job) → job_at (serve_all s cs).allowance k ≡ some j → ((serve_all s cs).accounts k).world.tuples ≤ j.cap
jobs-cap-kept k s cs f u j here =
    let v = uses-are k s cs u in
    let g = All-get_elem JobFits (jobs_of (serve_all s cs).allowance) k j (jobs-fit s cs f).each (unfold job_at in here) in
    let e : v.job ≡ j = some-injective v.job j (sym v.here ∙ here) in
    let q = ap (λ (x : Job). x.used) e in
    omega (arith, g.within, v.used, q)

-- and what the open jobs hold is within T
pub jobs-total-kept : (s : Jobs) (cs : List JobCall) → Fits s.allowance → sum_of held_by (jobs_of (serve_all s cs).allowance) ≤ (serve_all s cs).allowance.total
jobs-total-kept s cs f = (jobs-fit s cs f).sum

-- ---- A REFUSED CALL changes neither the allowance nor any session

pub jobs-refused-keeps : (s : Jobs) (i : ℕ) (x : Bytes) → is_served (serve s (hand i x)).0 ≡ false
    → ((serve s (hand i x)).1.allowance ≡ s.allowance) × ((k : ℕ) → (serve s (hand i x)).1.accounts k ≡ s.accounts k)
unfolding serve
jobs-refused-keeps s i x h = ((step-stepped s.allowance i (s.accounts i) x).refusal h, λ k. by k (eqb k i) refl)
  where
    by : (k : ℕ) (b : Bool) → eqb k i ≡ b → cond b (got k s i x).account (s.accounts k) ≡ s.accounts k
    by k true e = (step-taking s.allowance i (s.accounts i) x).keeps h ∙ ap s.accounts (sym (eqb-true k i e))
    by k false e = refl

-- A CALL FOR ONE JOB leaves every other session as it was; a close call leaves all
pub others-untouched : (s : Jobs) (i : ℕ) (x : Bytes) (k : ℕ) → (k ≡ i → ⊥) → (serve s (hand i x)).1.accounts k ≡ s.accounts k
unfolding serve
others-untouched s i x k n = by (eqb k i) refl
  where
    by : (b : Bool) → eqb k i ≡ b → cond b (got k s i x).account (s.accounts k) ≡ s.accounts k
    by true e = absurd (n (eqb-true k i e))
    by false e = refl

pub shut-keeps : (s : Jobs) (i k : ℕ) → (serve s (shut i)).1.accounts k ≡ s.accounts k
unfolding serve
shut-keeps s i k = refl
