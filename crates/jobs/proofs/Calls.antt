-- One call for a job: what it serves the account alone takes, the allowance still fits, the job's use is its session's, and
-- the other jobs stay as they are. By cases on what the session answers under the allowance.
-- Assumes nothing.
use Prim.Native.Nat.{ℕ, ◌+◌, ◌-◌, ◌≤◌}
use native.Mathlib.Omega.{arith}
use borrow.Author.Tests.{eqb-true, eqb-false}
use lib.Dec.{eqb}
use lib.ListN.{length}
use mathlib.Core.Path.{◌≡◌, refl, ap, sym, ◌∙◌, subst}
use mathlib.Core.Bool.{Bool, true, false, cond, false≢true}
use mathlib.Core.List.{List, [], ◌∷◌}
use mathlib.Core.Option.{Option, none, some, some-injective}
use Rattle.records.specs.Readers.{Bytes}
use Rattle.records.specs.Refusals.{unfit, out_of_place}
use Rattle.records.specs.Records.{Rec, Parsed, parsed, parse}
use Rattle.session_spec.specs.Session.{World, Session, decode, next, tuple_bytes, Reply, taken, refused, step}
use Rattle.totals.specs.Totals.{totals_fit}
use Rattle.totals.specs.Calls.{Account, tallied, advance}
use Rattle.allowance.specs.Allowance.{Job, Allowance, is_open, job_at, admits, with_job, with_more, spend, closing, close_at, Standing, unknown_job, unfit_state, known, job_standing, closed_by, close_call}
use Rattle.allowance.proofs.Laws.{Fits, spend-fits, close-fits, job-itself, job-other, known-there}
use Rattle.jobs.specs.Within.{Against, by_session, over_allowance, JobReply, served, not_set_up, against, step_under}
use Rattle.jobs.specs.Jobs.{tallied_under, advance_under, JobCalled, ends_job, close_if, charged, step_by, job_step, is_served}
use Rattle.jobs.proofs.Under.{Took, took, Keeps, under-keeps, closed-eleven}

-- ---- what is served, and what is kept

pub record Taking (x : Account) (bs : Bytes) (c : JobCalled) : Type 0 where
  pub takes : is_served c.reply ≡ true → advance x bs ≡ (taken, c.account)
  pub reads : is_served c.reply ≡ true → (r : Rec) × (parse bs ≡ parsed r)
  pub keeps : is_served c.reply ≡ false → c.account ≡ x

module _ (a : Allowance) (i : ℕ) (opened : Bool) (x : Account) (bs : Bytes) where
  tally-taking : totals_fit x.totals ≡ true → (o : JobReply × World) → step_under opened (some (admits a i)) x.world bs ≡ o → Taking x bs (charged a i x bs (tallied_under x bs o))
  unfolding charged tallied_under is_served advance tallied
  tally-taking f (served, v) e =
      let t = took opened (admits a i) x.world bs v e in
      record {
        takes = λ h. rw (f, t.alone);
        reads = λ h. (t.rec, t.parses);
        keeps = λ h. absurd (false≢true (sym h));
      }
  tally-taking f (not_set_up, v) e = absurd ((under-keeps opened (some (admits a i)) x.world bs).set-up (ap (λ (o : JobReply × World). o.0) e))
  tally-taking f (against c, v) e =
      let k = subst (Keeps x.world) e (under-keeps opened (some (admits a i)) x.world bs) in
      record {
        takes = λ h. absurd (false≢true h);
        reads = λ h. absurd (false≢true h);
        keeps = λ h. ap (λ (u : World). record { world = u; totals = x.totals }) (k.keeps c refl);
      }

  refused-taking : (c : Against) → Taking x bs (charged a i x bs (against c, x))
  unfolding charged is_served
  refused-taking c = record { takes = λ h. absurd (false≢true h); reads = λ h. absurd (false≢true h); keeps = λ h. refl }

  advance-taking : Taking x bs (charged a i x bs (advance_under opened (some (admits a i)) x bs))
  unfolding advance_under
  advance-taking = by (totals_fit x.totals) refl
    where
      by : (b : Bool) → totals_fit x.totals ≡ b → Taking x bs (charged a i x bs (cond b (tallied_under x bs (step_under opened (some (admits a i)) x.world bs)) (against (by_session unfit), x)))
      by true f = tally-taking f (step_under opened (some (admits a i)) x.world bs) refl
      by false f = refused-taking (by_session unfit)

pub step-taking : (a : Allowance) (i : ℕ) (x : Account) (bs : Bytes) → Taking x bs (job_step a i x bs)
unfolding job_step step_by is_served
step-taking a i x bs = by (job_standing a i)
  where
    by : (s : Standing) → Taking x bs (step_by s a i x bs)
    by unknown_job = record { takes = λ h. absurd (false≢true h); reads = λ h. absurd (false≢true h); keeps = λ h. refl }
    by unfit_state = record { takes = λ h. absurd (false≢true h); reads = λ h. absurd (false≢true h); keeps = λ h. refl }
    by (known j) = advance-taking a i (is_open j) x bs

-- ---- the allowance after it

-- of a job that was set up: it has a place still, and what it has used are its session's bytes
pub record Used (a : Allowance) (i : ℕ) (x : Account) : Type 0 where
  pub job : Job
  pub here : job_at a i ≡ some job
  pub used : job.used ≡ x.world.tuples

pub record Stepped (a : Allowance) (i : ℕ) (x : Account) (c : JobCalled) : Type 0 where
  pub fits : Fits a → Fits c.allowance
  pub uses : Used a i x → Used c.allowance i c.account
  pub others : (k : ℕ) → (k ≡ i → ⊥) → job_at c.allowance k ≡ job_at a k
  -- a refused call leaves it as it was
  pub refusal : is_served c.reply ≡ false → c.allowance ≡ a

if-fits : (b : Bool) (e : Allowance) (i : ℕ) → Fits e → Fits (close_if b e i)
unfolding close_if
if-fits true e i f = close-fits e f i
if-fits false e i f = f

if-used : (b : Bool) (e : Allowance) (i : ℕ) (j : Job) → job_at e i ≡ some j → (k : Job) × (job_at (close_if b e i) i ≡ some k) × (k.used ≡ j.used)
unfolding close_if close_at
if-used true e i j h = (closing j, job-itself e i closing j h, unfold closing in refl)
if-used false e i j h = (j, h, refl)

if-other : (b : Bool) (e : Allowance) (i k : ℕ) → (k ≡ i → ⊥) → job_at (close_if b e i) k ≡ job_at e k
unfolding close_if close_at
if-other true e i k n = job-other e i closing k n
if-other false e i k n = refl

module _ (a : Allowance) (i : ℕ) (x : Account) (bs : Bytes) where
  same-stepped : (r : JobReply) → Stepped a i x (record { reply = r; allowance = a; account = x })
  same-stepped r = record { fits = λ f. f; uses = λ u. u; others = λ k n. refl; refusal = λ h. refl }

  module _ (j : Job) (here : job_at a i ≡ some j) where
    abbrev out : JobReply × World
    out = step_under (is_open j) (some (admits a i)) x.world bs

    served-stepped : (v : World) → out ≡ (served, v) → Stepped a i x (charged a i x bs (tallied_under x bs (served, v)))
    unfolding charged tallied_under is_served spend
    served-stepped v e =
        let t = took (is_open j) (admits a i) x.world bs v e in
        let n : ℕ = v.tuples - x.world.tuples in
        let size : ℕ = length (tuple_bytes t.session (next t.session t.rec)) in
        let same : size ≡ n = omega (arith, t.used) in
        let good : admits a i n ≡ true = subst (λ (m : ℕ). admits a i m ≡ true) same t.few in
        let q = if-used (ends_job (parse bs)) (with_job a i (with_more n)) i (with_more n j) (job-itself a i (with_more n) j here) in
        record {
          fits = λ f. if-fits (ends_job (parse bs)) (spend a i n) i (spend-fits a f i j here t.was_open n good);
          uses = λ u. record {
            job = q.0;
            here = q.1;
            used =
                let s = ap (λ (z : Job). z.used) (some-injective j u.job (sym here ∙ u.here)) in
                let m : (with_more n j).used ≡ j.used + n = unfold with_more in refl in
                omega (arith, q.2, m, s, u.used, t.used);
          };
          others = λ k d. if-other (ends_job (parse bs)) (with_job a i (with_more n)) i k d ∙ job-other a i (with_more n) k d;
          refusal = λ h. absurd (false≢true (sym h));
        }

    refused-stepped : (c : Against) (v : World) → out ≡ (against c, v) → Stepped a i x (charged a i x bs (tallied_under x bs (against c, v)))
    unfolding charged tallied_under
    refused-stepped c v e =
        let k = subst (Keeps x.world) e (under-keeps (is_open j) (some (admits a i)) x.world bs) in
        subst (λ (u : World). Stepped a i x (record { reply = against c; allowance = a; account = record { world = u; totals = x.totals } })) (sym (k.keeps c refl)) (same-stepped (against c))

    pub tallied-stepped : (o : JobReply × World) → out ≡ o → Stepped a i x (charged a i x bs (tallied_under x bs o))
    tallied-stepped (served, v) e = served-stepped v e
    tallied-stepped (not_set_up, v) e = absurd ((under-keeps (is_open j) (some (admits a i)) x.world bs).set-up (ap (λ (o : JobReply × World). o.0) e))
    tallied-stepped (against c, v) e = refused-stepped c v e

    known-stepped : Stepped a i x (charged a i x bs (advance_under (is_open j) (some (admits a i)) x bs))
    unfolding advance_under
    known-stepped = by (totals_fit x.totals)
      where
        by : (b : Bool) → Stepped a i x (charged a i x bs (cond b (tallied_under x bs out) (against (by_session unfit), x)))
        by true = tallied-stepped out refl
        by false = unfold charged in (same-stepped (against (by_session unfit)))

  pub step-stepped : Stepped a i x (job_step a i x bs)
  unfolding job_step step_by
  step-stepped = by (job_standing a i) refl
    where
      by : (s : Standing) → job_standing a i ≡ s → Stepped a i x (step_by s a i x bs)
      by unknown_job e = same-stepped not_set_up
      by unfit_state e = same-stepped (against (by_session unfit))
      by (known j) e = known-stepped j (known-there a i j e).1

-- ---- a close call

close-used : (a : Allowance) (i k : ℕ) (x : Account) → Used a k x → Used (close_at a i) k x
unfolding close_at
close-used a i k x u = by (eqb k i) refl
  where
    by : (b : Bool) → eqb k i ≡ b → Used (with_job a i closing) k x
    by true e =
        let same = eqb-true k i e in
        let here : job_at a i ≡ some u.job = subst (λ (n : ℕ). job_at a n ≡ some u.job) same u.here in
        record {
          job = closing u.job;
          here = subst (λ (n : ℕ). job_at (with_job a i closing) n ≡ some (closing u.job)) (sym same) (job-itself a i closing u.job here);
          used = unfold closing in u.used;
        }
    by false e = record { job = u.job; here = job-other a i closing k (eqb-false k i e) ∙ u.here; used = u.used }

pub close-stepped : (a : Allowance) (i : ℕ) → (Fits a → Fits (close_call a i)) × ((k : ℕ) (x : Account) → Used a k x → Used (close_call a i) k x)
unfolding close_call closed_by
close-stepped a i = by (job_standing a i)
  where
    by : (s : Standing) → (Fits a → Fits (closed_by s a i)) × ((k : ℕ) (x : Account) → Used a k x → Used (closed_by s a i) k x)
    by unknown_job = (λ f. f, λ k x u. u)
    by unfit_state = (λ f. f, λ k x u. u)
    by (known j) = (λ f. close-fits a f i, λ k x u. close-used a i k x u)

-- ---- a closed job takes no record

pub closed-takes-none : (a : Allowance) (i : ℕ) (j : Job) → job_standing a i ≡ known j → is_open j ≡ false → (x : Account) → totals_fit x.totals ≡ true → (s : Session) → decode x.world ≡ some s
    → (bs : Bytes) (r : Rec) → parse bs ≡ parsed r → (job_step a i x bs).reply ≡ against (by_session out_of_place)
unfolding job_step step_by advance_under charged tallied_under
closed-takes-none a i j k o x f s d bs r p = rw (k, o, f, closed-eleven (some (admits a i)) x.world s bs r d p)
