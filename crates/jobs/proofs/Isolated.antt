-- A job that the allowance never refuses is answered as it would be alone: so two runs in which it gets the same records over
-- stores and areas of the same lengths, and is closed at the same place, answer it alike.
-- Assumes nothing.
use Prim.Native.Nat.{ℕ, zero, suc, ◌+◌, ◌-◌, ◌<◌}
use native.Mathlib.Omega.{arith}
use borrow.Author.Tests.{eqb-true, eqb-false, eq-eqb}
use lib.Dec.{eqb}
use lib.ListN.{length, take, drop, get_or, get_elem?}
use mathlib.Core.Path.{◌≡◌, refl, ap, ap₂, sym, ◌∙◌, subst}
use mathlib.Core.Bool.{Bool, true, false, cond, ◌&&◌, ◌||◌, not, false≢true, or-true, or-false}
use mathlib.Core.List.{List, [], ◌∷◌, ◌++◌, append-nil}
use mathlib.Core.Option.{Option, none, some}
use Rattle.lists.specs.Lists.{only_if, foldl, All}
use Rattle.records.specs.Readers.{Bytes}
use Rattle.records.specs.Refusals.{Refusal, unfit, out_of_place}
use Rattle.records.specs.Records.{Rec, ID, NS, ES, EE, FI, Parsed, unparsed, parsed, parse}
use Rattle.session_spec.specs.Session.{World, Stage, before, during, done, Session, decode, next, misplaced, rows, Reply, taken, refused, step, areas_fit, set_up}
use Rattle.session_spec.specs.Runs.{is_finish, session_of, run_calls, accepted}
use Rattle.session_spec.specs.Former.{SameLengths}
use Rattle.runs.proofs.WellFormed.{taken-decodes}
use Rattle.runs.proofs.Refused.{short-decode, short-run}
use Rattle.runs.proofs.Claims.{run-decodes}
use Rattle.runs.proofs.SameLengths.{again, same-replies}
use Rattle.totals.specs.Totals.{no_totals, totals_fit}
use Rattle.totals.specs.Calls.{Account, tallied, advance, advanced}
use Rattle.totals.proofs.Claims.{run-world, run-reply, run_fits}
use Rattle.allowance.specs.Allowance.{Job, Allowance, is_open, jobs_of, job_at, started_from, ready, set_together, admits, with_job, with_more, spend, closing, close_at, Standing, unknown_job, unfit_state, known, job_standing, closed_by, close_call}
use Rattle.allowance.proofs.Laws.{Fits, close-fits, job-itself, job-other, standing-known, together-fits, fresh-jobs}
use Rattle.jobs.specs.Within.{Against, by_session, over_allowance, JobReply, served, not_set_up, against, JobRow, first_met, own_rows, row25, rows_within, rows_under, settled_under, considered_under, attempt_under, step_under, step_within}
use Rattle.jobs.specs.Jobs.{tallied_under, advance_under, JobCalled, ends_job, close_if, charged, step_by, job_step, Jobs, JobCall, hand, shut, account_at, serve, handed_to, replied_to, replies_to}
use Rattle.jobs.proofs.Under.{Took, took, Keeps, under-keeps, job_reply, within_none, closed-eleven}
use Rattle.jobs.proofs.Calls.{step-stepped, tallied-stepped, Stepped, Used}
use Rattle.jobs.proofs.Lists.{advanced-append}

-- ---- one session alone, open or closed by a call

unfoldable pub alone_step : (closed : Bool) → Account → Bytes → JobReply × Account
alone_step c x b = advance_under (not c) none x b

unfoldable pub alone : Account → List (Bool × Bytes) → List JobReply
alone x [] = []
alone x ((c, b) ∷ ys) = (alone_step c x b).0 ∷ alone (alone_step c x b).1 ys

abbrev stage_done : Stage → Bool
stage_done before = false
stage_done during = false
stage_done done = true

unfoldable pub is_done : Option Session → Bool
is_done none = false
is_done (some s) = stage_done s.stage

stage_is : (g : Stage) → stage_done g ≡ true → g ≡ done
stage_is before h = absurd (false≢true h)
stage_is during h = absurd (false≢true h)
stage_is done h = refl

-- ---- the row of 25 is not met

other_row : (xs ys : List JobRow) (b : Bool) (c : Against) (o : Option Against) → first_met (xs ++ ((b, c) ∷ ys)) ≡ o → (o ≡ some c → ⊥) → first_met (xs ++ ys) ≡ o
unfolding first_met
other_row [] ys true c o h n = absurd (n (sym h))
other_row [] ys false c o h n = h
other_row (x ∷ xs) ys b c o h n = by x.0 h (other_row xs ys b c o)
  where
    by : (t : Bool) → cond t (some x.1) (first_met (xs ++ ((b, c) ∷ ys))) ≡ o → (first_met (xs ++ ((b, c) ∷ ys)) ≡ o → (o ≡ some c → ⊥) → first_met (xs ++ ys) ≡ o)
        → cond t (some x.1) (first_met (xs ++ ys)) ≡ o
    by true h f = h
    by false h f = f h n

module _ (adm : ℕ → Bool) (w : World) (x : Bytes) where
  not-over : (s : Session) (r : Rec) (o : Option Against) → ((settled_under w s r (next s r) x o).0 ≡ against over_allowance → ⊥) → o ≡ some over_allowance → ⊥
  unfolding settled_under
  not-over s r none n e = let z : ◌≡◌ {A = ℕ} 0 1 = cc in omega arith
  not-over s r (some c) n e = n (let q : c ≡ over_allowance = cc in ap against q)

  same_first : (s : Session) (r : Rec) (o : Option Against) → first_met (rows_under true (some adm) w s r (next s r) x) ≡ o → (o ≡ some over_allowance → ⊥) → first_met (rows_under true none w s r (next s r) x) ≡ o
  unfolding rows_under rows_within row25 first_met
  same_first s r o e n = other_row (own_rows (take 10 (rows w s r (next s r) x))) (own_rows (drop 10 (rows w s r (next s r) x))) _ over_allowance o e n

  pub open-same : ((step_under true (some adm) w x).0 ≡ against over_allowance → ⊥) → step_under true (some adm) w x ≡ step_under true none w x
  unfolding step_under attempt_under considered_under
  open-same n = by (decode w) n
    where
      on : (s : Session) (p : Parsed) → ((considered_under true (some adm) w s x p).0 ≡ against over_allowance → ⊥) → considered_under true (some adm) w s x p ≡ considered_under true none w s x p
      on s (unparsed c) n = refl
      on s (parsed r) n =
          let o : Option Against = first_met (rows_under true (some adm) w s r (next s r) x) in
          ap (settled_under w s r (next s r) x) (sym (same_first s r o refl (not-over s r o n)))

      by : (o : Option Session) → ((attempt_under true (some adm) w x o).0 ≡ against over_allowance → ⊥) → attempt_under true (some adm) w x o ≡ attempt_under true none w x o
      by none n = refl
      by (some s) n = on s (parse x) n

  -- closed: what the allowance admits is not asked
  pub closed_same : step_under false (some adm) w x ≡ step_under false none w x
  unfolding step_under attempt_under considered_under
  closed_same = by (decode w)
    where
      on : (s : Session) (p : Parsed) → considered_under false (some adm) w s x p ≡ considered_under false none w s x p
      on s (unparsed c) = refl
      on s (parsed r) = unfold rows_under first_met in refl

      by : (o : Option Session) → attempt_under false (some adm) w x o ≡ attempt_under false none w x o
      by none = refl
      by (some s) = on s (parse x)

  -- finished: the session says the same
  done_first : (s : Session) (r : Rec) (g : Stage) → s.stage ≡ g → g ≡ done → first_met (rows_under false none w s r (next s r) x) ≡ first_met (rows_under true none w s r (next s r) x)
  unfolding rows_under rows_within row25 first_met own_rows rows
  done_first s r g e d = rw (e, d) (unfold misplaced in refl)

  pub done-same : is_done (decode w) ≡ true → step_under false none w x ≡ step_under true none w x
  unfolding step_under attempt_under considered_under is_done
  done-same h = by (decode w) h
    where
      on : (s : Session) → stage_done s.stage ≡ true → (p : Parsed) → considered_under false none w s x p ≡ considered_under true none w s x p
      on s d (unparsed c) = refl
      on s d (parsed r) = ap (settled_under w s r (next s r) x) (done_first s r s.stage refl (stage_is s.stage d))

      by : (o : Option Session) → is_done o ≡ true → attempt_under false none w x o ≡ attempt_under true none w x o
      by none h = absurd (false≢true h)
      by (some s) h = on s h (parse x)

-- ---- the job's entry and its session go together; `c`: a close call was made

pub record Tracks (a : Allowance) (x : Account) (k : ℕ) (c : Bool) : Type 0 where
  pub fit : Fits a
  pub job : Job
  pub here : job_at a k ≡ some job
  pub live : is_open job ≡ (not c && not (is_done (decode x.world)))

pub tallied-first : (x : Account) (b : Bytes) (o : JobReply × World) → (tallied_under x b o).0 ≡ o.0
unfolding tallied_under
tallied-first x b (served, v) = refl
tallied-first x b (not_set_up, v) = refl
tallied-first x b (against c, v) = refl

module _ (a : Allowance) (x : Account) (k : ℕ) (c : Bool) (t : Tracks a x k c) (b : Bytes) where
  abbrev out : JobReply × World
  out = step_under (is_open t.job) (some (admits a k)) x.world b

  pub step_so : job_step a k x b ≡ charged a k x b (advance_under (is_open t.job) (some (admits a k)) x b)
  unfolding job_step step_by
  step_so = rw (standing-known a t.fit k t.job t.here)

  out-alone : (out.0 ≡ against over_allowance → ⊥) → out ≡ step_under (not c) none x.world b
  out-alone n = by c (is_done (decode x.world)) refl (is_open t.job) t.live n
    where
      by : (c d : Bool) → is_done (decode x.world) ≡ d → (l : Bool) → l ≡ (not c && not d) → ((step_under l (some (admits a k)) x.world b).0 ≡ against over_allowance → ⊥)
          → step_under l (some (admits a k)) x.world b ≡ step_under (not c) none x.world b
      by true d e l f n = ap (λ (z : Bool). step_under z (some (admits a k)) x.world b) f ∙ closed_same (admits a k) x.world b
      by false true e l f n = ap (λ (z : Bool). step_under z (some (admits a k)) x.world b) f ∙ closed_same (admits a k) x.world b ∙ done-same (admits a k) x.world b e
      by false false e l f n =
          ap (λ (z : Bool). step_under z (some (admits a k)) x.world b) f
          ∙ open-same (admits a k) x.world b (subst (λ (z : Bool). (step_under z (some (admits a k)) x.world b).0 ≡ against over_allowance → ⊥) f n)

  pub alone-is : ((advance_under (is_open t.job) (some (admits a k)) x b).0 ≡ against over_allowance → ⊥) → advance_under (is_open t.job) (some (admits a k)) x b ≡ alone_step c x b
  unfolding advance_under alone_step
  alone-is n = by (totals_fit x.totals) n
    where
      by : (f : Bool) → ((cond f (tallied_under x b out) (against (by_session unfit), x)).0 ≡ against over_allowance → ⊥)
          → cond f (tallied_under x b out) (against (by_session unfit), x) ≡ cond f (tallied_under x b (step_under (not c) none x.world b)) (against (by_session unfit), x)
      by false n = refl
      by true n = ap (tallied_under x b) (out-alone (λ e. n (tallied-first x b out ∙ e)))

  pub charged-reply : (q : JobReply × Account) → ((charged a k x b q).reply ≡ q.0) × ((charged a k x b q).account ≡ q.1)
  unfolding charged
  charged-reply (served, y) = (refl, refl)
  charged-reply (not_set_up, y) = (refl, refl)
  charged-reply (against d, y) = (refl, refl)

-- ---- a call for the job itself

next-done : (s : Session) (r : Rec) → misplaced s.stage r ≡ false → stage_done (next s r).stage ≡ is_finish r
unfolding next is_finish misplaced
next-done s r m = by s.stage refl r m
  where
    by : (g : Stage) → s.stage ≡ g → (r : Rec) → misplaced g r ≡ false → stage_done (next s r).stage ≡ is_finish r
    by before e (ID q) m = rw e
    by before e (NS q) m = rw e
    by before e (ES q) m = refl
    by before e (EE q) m = rw e
    by before e FI m = refl
    by during e (ID q) m = rw e
    by during e (NS q) m = rw e
    by during e (ES q) m = refl
    by during e (EE q) m = rw e
    by during e FI m = refl
    by done e r m = absurd (false≢true (sym m))

ends_is : (b : Bytes) (r : Rec) → parse b ≡ parsed r → ends_job (parse b) ≡ is_finish r
unfolding ends_job
ends_is b r h = rw h

live_then : (c : Bool) (w : World) (s : Session) (b : Bool) → c ≡ false → decode w ≡ some s → stage_done s.stage ≡ b → (not c && not (is_done (decode w))) ≡ not b
unfolding is_done
live_then c w s b e d f = rw (e, d, f)

and-false : (b d : Bool) → (not b && not d) ≡ true → b ≡ false
and-false true d h = absurd (false≢true h)
and-false false d h = refl

abbrev entry : Bool → ℕ → Job → Job
entry true n j = closing (with_more n j)
entry false n j = with_more n j

entry-is : (e : Bool) (n : ℕ) (a : Allowance) (k : ℕ) (j : Job) → job_at a k ≡ some j → job_at (close_if e (spend a k n) k) k ≡ some (entry e n j)
unfolding close_if close_at spend
entry-is true n a k j h = job-itself (with_job a k (with_more n)) k closing (with_more n j) (job-itself a k (with_more n) j h)
entry-is false n a k j h = job-itself a k (with_more n) j h

entry-open : (e : Bool) (n : ℕ) (j : Job) → is_open j ≡ true → is_open (entry e n j) ≡ not e
unfolding is_open
entry-open true n j h = unfold closing in refl
entry-open false n j h = unfold with_more in h

module _ (a : Allowance) (x : Account) (k : ℕ) (c : Bool) (t : Tracks a x k c) (b : Bytes) where
  abbrev after : JobReply × World → JobCalled
  after o = charged a k x b (tallied_under x b o)

  served-tracks : (v : World) → out a x k c t b ≡ (served, v) → Tracks (after (served, v)).allowance (after (served, v)).account k c
  served-tracks v e =
      let g = took (is_open t.job) (admits a k) x.world b v e in
      let d : decode v ≡ some (next g.session g.rec) =
      ap (λ (p : Reply × World). decode p.1) (sym g.alone)
      ∙ taken-decodes x.world g.session b g.rec g.decodes g.parses (ap (λ (p : Reply × World). p.0) g.alone) in
      let shut_not : c ≡ false = and-false c (is_done (decode x.world)) (sym t.live ∙ g.was_open) in
      let ends = ends_is b g.rec g.parses in
      let n : ℕ = v.tuples - x.world.tuples in
      let f : Bool = ends_job (parse b) in
      let lives = entry-open f n t.job g.was_open ∙ sym (live_then c v (next g.session g.rec) f shut_not d (next-done g.session g.rec g.in_place ∙ sym ends)) in
      let good = (tallied-stepped a k x b t.job t.here (served, v) e).fits t.fit in
      made v n (entry f n t.job) (entry-is f n a k t.job t.here) lives refl good
    where
      made : (v : World) (n : ℕ) (j : Job) → job_at (close_if (ends_job (parse b)) (spend a k n) k) k ≡ some j → is_open j ≡ (not c && not (is_done (decode v))) → n ≡ v.tuples - x.world.tuples
          → Fits (after (served, v)).allowance → Tracks (after (served, v)).allowance (after (served, v)).account k c
      made v n j h l q f =
          unfold charged tallied_under in
          (record { fit = unfold charged tallied_under in f; job = j; here = subst (λ (m : ℕ). job_at (close_if (ends_job (parse b)) (spend a k m) k) k ≡ some j) q h; live = l })

  refused-tracks : (d : Against) (v : World) → out a x k c t b ≡ (against d, v) → Tracks (after (against d, v)).allowance (after (against d, v)).account k c
  unfolding charged tallied_under
  refused-tracks d v e =
      let u = subst (Keeps x.world) e (under-keeps (is_open t.job) (some (admits a k)) x.world b) in
      subst (λ (z : World). Tracks a (record { world = z; totals = x.totals }) k c) (sym (u.keeps d refl)) t

  out-tracks : (o : JobReply × World) → out a x k c t b ≡ o → Tracks (after o).allowance (after o).account k c
  out-tracks (served, v) e = served-tracks v e
  out-tracks (not_set_up, v) e = absurd ((under-keeps (is_open t.job) (some (admits a k)) x.world b).set-up (ap (λ (o : JobReply × World). o.0) e))
  out-tracks (against d, v) e = refused-tracks d v e

  advance-tracks : Tracks (charged a k x b (advance_under (is_open t.job) (some (admits a k)) x b)).allowance (charged a k x b (advance_under (is_open t.job) (some (admits a k)) x b)).account k c
  unfolding advance_under
  advance-tracks = by (totals_fit x.totals)
    where
      pick : Bool → JobCalled
      pick f = charged a k x b (cond f (tallied_under x b (out a x k c t b)) (against (by_session unfit), x))

      by : (f : Bool) → Tracks (pick f).allowance (pick f).account k c
      by true = out-tracks (out a x k c t b) refl
      by false = unfold charged in t

  pub next-tracks : Tracks (job_step a k x b).allowance (job_step a k x b).account k c
  next-tracks = subst (λ (z : JobCalled). Tracks z.allowance z.account k c) (sym (step_so a x k c t b)) advance-tracks

-- ---- other calls

close-itself : (a : Allowance) (x : Account) (k : ℕ) (c : Bool) → Tracks a x k c → Tracks (close_at a k) x k true
unfolding close_at
close-itself a x k c t = record { fit = close-fits a t.fit k; job = closing t.job; here = job-itself a k closing t.job t.here; live = unfold closing is_open in refl }

close-another : (a : Allowance) (x : Account) (k i : ℕ) (c : Bool) → (k ≡ i → ⊥) → Tracks a x k c → Tracks (close_at a i) x k c
unfolding close_at
close-another a x k i c n t = record { fit = close-fits a t.fit i; job = t.job; here = job-other a i closing k n ∙ t.here; live = t.live }

known-not : (s : Standing) (j : Job) → s ≡ known j → (s ≡ unknown_job → ⊥) × (s ≡ unfit_state → ⊥)
known-not unknown_job j h = let z : ◌≡◌ {A = ℕ} 0 1 = cc in absurd (omega arith)
known-not unfit_state j h = let z : ◌≡◌ {A = ℕ} 0 1 = cc in absurd (omega arith)
known-not (known i) j h = (λ e. let z : ◌≡◌ {A = ℕ} 0 1 = cc in omega arith, λ e. let z : ◌≡◌ {A = ℕ} 0 1 = cc in omega arith)

pub shut-tracks : (a : Allowance) (x : Account) (k : ℕ) (c : Bool) → Tracks a x k c → (i : ℕ) → Tracks (close_call a i) x k (c || eqb k i)
unfolding close_call closed_by
shut-tracks a x k c t i = by (job_standing a i) refl (eqb k i) refl
  where
    mine : k ≡ i → job_standing a i ≡ known t.job
    mine q = standing-known a t.fit i t.job (subst (λ (n : ℕ). job_at a n ≡ some t.job) q t.here)

    same : Tracks a x k (c || false)
    same = subst (Tracks a x k) (sym (or-false c)) t

    by : (s : Standing) → job_standing a i ≡ s → (b : Bool) → eqb k i ≡ b → Tracks (closed_by s a i) x k (c || b)
    by unknown_job e true f = absurd ((known-not (job_standing a i) t.job (mine (eqb-true k i f))).0 e)
    by unknown_job e false f = same
    by unfit_state e true f = absurd ((known-not (job_standing a i) t.job (mine (eqb-true k i f))).1 e)
    by unfit_state e false f = same
    by (known j) e true f =
        subst (λ (n : ℕ). Tracks (close_at a n) x k (c || true)) (eqb-true k i f) (subst (Tracks (close_at a k) x k) (sym (or-true c)) (close-itself a x k c t))
    by (known j) e false f = subst (Tracks (close_at a i) x k) (sym (or-false c)) (close-another a x k i c (eqb-false k i f) t)

pub other-tracks : (k : ℕ) (s : Jobs) (c : Bool) → Tracks s.allowance (s.accounts k) k c → (i : ℕ) (b : Bytes) → (k ≡ i → ⊥) → Tracks (job_step s.allowance i (s.accounts i) b).allowance (s.accounts k) k c
other-tracks k s c t i b n =
    let p = step-stepped s.allowance i (s.accounts i) b in
    record { fit = p.fits t.fit; job = t.job; here = p.others k n ∙ t.here; live = t.live }

-- ---- lists of calls: ANSWERED AS ALONE

abbrev pub NotOver : JobReply → Type 0
NotOver r = r ≡ against over_allowance → ⊥

abbrev Later : ℕ → List JobCall → Type 0
Later k cs = (s : Jobs) (c : Bool) → Tracks s.allowance (s.accounts k) k c → All NotOver (replies_to k s cs) → replies_to k s cs ≡ alone (s.accounts k) (handed_to k c cs)

module _ (k : ℕ) (cs : List JobCall) (s : Jobs) (c : Bool) (t : Tracks s.allowance (s.accounts k) k c) (b : Bytes) (ih : Later k cs) where
  abbrev x : Account
  x = s.accounts k

  abbrev got : JobCalled
  got = job_step s.allowance k x b

  abbrev later : Jobs
  later = record { allowance = got.allowance; accounts = account_at k got.account s.accounts }

  itself : All NotOver (got.reply ∷ replies_to k later cs) → got.reply ∷ replies_to k later cs ≡ (alone_step c x b).0 ∷ alone (alone_step c x b).1 (handed_to k c cs)
  itself n =
      let e = step_so s.allowance x k c t b in
      let p : JobReply × Account = advance_under (is_open t.job) (some (admits s.allowance k)) x b in
      let h = charged-reply s.allowance x k c t b p in
      let reply : got.reply ≡ p.0 = ap (λ (z : JobCalled). z.reply) e ∙ h.0 in
      let same : p ≡ alone_step c x b = alone-is s.allowance x k c t b (λ q. n.0 (reply ∙ q)) in
      let here : later.accounts k ≡ got.account = ap (λ (z : Bool). cond z got.account (s.accounts k)) (eq-eqb k k refl) in
      let account : later.accounts k ≡ (alone_step c x b).1 = here ∙ ap (λ (z : JobCalled). z.account) e ∙ h.1 ∙ ap (λ (z : JobReply × Account). z.1) same in
      let more = ih later c (subst (λ (z : Account). Tracks got.allowance z k c) (sym here) (next-tracks s.allowance x k c t b)) n.1 in
      ap₂ {C = List JobReply} ◌∷◌ (reply ∙ ap (λ (z : JobReply × Account). z.0) same) (more ∙ ap (λ (z : Account). alone z (handed_to k c cs)) account)

pub answered-alone : (k : ℕ) (cs : List JobCall) → Later k cs
unfolding replies_to handed_to alone replied_to serve only_if
answered-alone k [] s c t n = refl
answered-alone k (shut i ∷ cs) s c t n = answered-alone k cs (serve s (shut i)).1 (c || eqb k i) (shut-tracks s.allowance (s.accounts k) k c t i) n
answered-alone k (hand i b ∷ cs) s c t n = by (eqb k i) refl n (answered-alone k cs)
  where
    r : JobCalled
    r = job_step s.allowance i (s.accounts i) b

    then : Jobs
    then = record { allowance = r.allowance; accounts = account_at i r.account s.accounts }

    by : (z : Bool) → eqb k i ≡ z → All NotOver (only_if z (r.reply ∷ []) ++ replies_to k then cs) → Later k cs
        → only_if z (r.reply ∷ []) ++ replies_to k then cs ≡ alone (s.accounts k) (only_if z ((c, b) ∷ []) ++ handed_to k c cs)
    by true e n ih = subst Goal (eqb-true k i e) (λ m. itself k cs s c t b ih m) n
      where
        Goal : ℕ → Type 0
        Goal i =
            All NotOver ((job_step s.allowance i (s.accounts i) b).reply ∷ replies_to k (record { allowance = (job_step s.allowance i (s.accounts i) b).allowance; accounts = account_at i (job_step s.allowance i (s.accounts i) b).account s.accounts }) cs)
            → (job_step s.allowance i (s.accounts i) b).reply ∷ replies_to k (record { allowance = (job_step s.allowance i (s.accounts i) b).allowance; accounts = account_at i (job_step s.allowance i (s.accounts i) b).account s.accounts }) cs
            ≡ (alone_step c (s.accounts k) b).0 ∷ alone (alone_step c (s.accounts k) b).1 (handed_to k c cs)
    by false e n ih =
        let here : then.accounts k ≡ s.accounts k = ap (λ (z : Bool). cond z r.account (s.accounts k)) e in
        let next = other-tracks k s c t i b (eqb-false k i e) in
        ih then c (subst (λ (z : Account). Tracks r.allowance z k c) (sym here) next) n ∙ ap (λ (z : Account). alone z (handed_to k c cs)) here

-- ---- alone, from set-up: the replies are those of `step` over the records so far

tally-job : (x : Account) (b : Bytes) (o : Reply × World) → tallied_under x b (job_reply o.0, o.1) ≡ (job_reply (tallied x b o).0, (tallied x b o).1)
unfolding tallied_under tallied
tally-job x b (taken, v) = refl
tally-job x b (refused c, v) = refl

pub open-alone : (x : Account) (b : Bytes) → alone_step false x b ≡ (job_reply (advance x b).0, (advance x b).1)
unfolding alone_step advance_under advance
open-alone x b = by (totals_fit x.totals)
  where
    none_is : step_under true none x.world b ≡ (job_reply (step x.world b).0, (step x.world b).1)
    none_is = let z = within_none x.world b in unfold step_within in z

    by : (f : Bool) → cond f (tallied_under x b (step_under true none x.world b)) (against (by_session unfit), x)
        ≡ (job_reply (cond f (tallied x b (step x.world b)) (refused unfit, x)).0, (cond f (tallied x b (step x.world b)) (refused unfit, x)).1)
    by true = ap (tallied_under x b) none_is ∙ tally-job x b (step x.world b)
    by false = refl

-- what a closed job answers: 10 where its session does not decode
abbrev pub closed_reply : (decodes : Bool) → Parsed → JobReply
closed_reply false p = against (by_session unfit)
closed_reply true (unparsed c) = against (by_session c)
closed_reply true (parsed r) = against (by_session out_of_place)

abbrev pub is_there : Option Session → Bool
is_there none = false
is_there (some s) = true

closed-step : (w : World) (b : Bytes) (o : Option Session) → attempt_under false none w b o ≡ (closed_reply (is_there o) (parse b), w)
unfolding attempt_under considered_under
closed-step w b none = refl
closed-step w b (some s) = by (parse b)
  where
    by : (p : Parsed) → considered_under false none w s b p ≡ (closed_reply true p, w)
    by (unparsed c) = refl
    by (parsed r) = unfold rows_under first_met settled_under in refl

closed-kept : (x : Account) (b : Bytes) (d : Bool) (p : Parsed) → tallied_under x b (closed_reply d p, x.world) ≡ (closed_reply d p, x)
unfolding tallied_under
closed-kept x b false p = refl
closed-kept x b true (unparsed c) = refl
closed-kept x b true (parsed r) = refl

pub closed-alone : (x : Account) (b : Bytes) → totals_fit x.totals ≡ true → alone_step true x b ≡ (closed_reply (is_there (decode x.world)) (parse b), x)
unfolding alone_step advance_under step_under
closed-alone x b f = rw f (ap (tallied_under x b) (closed-step x.world b (decode x.world)) ∙ closed-kept x b (is_there (decode x.world)) (parse b))

-- a session just set up over what a world has, with its totals
abbrev pub fresh_over : World → Account
fresh_over v = record { world = again v; totals = no_totals }

module _ (v : World) (xs : List Bytes) where
  pub after-fits : totals_fit (advanced (fresh_over v) xs).totals ≡ true
  after-fits = run_fits v.definition_store v.tuple_store v.report_store v.names v.scopes v.cells v.path_area xs

  pub after-world : (advanced (fresh_over v) xs).world ≡ run_calls (again v) xs
  after-world = (run-world v.definition_store v.tuple_store v.report_store v.names v.scopes v.cells v.path_area xs).0

  pub after-reply : (b : Bytes) → (advance (advanced (fresh_over v) xs) b).0 ≡ (step (run_calls (again v) xs) b).0
  after-reply b = run-reply v.definition_store v.tuple_store v.report_store v.names v.scopes v.cells v.path_area xs b

  -- it decodes exactly if its areas are long enough
  pub after-there : is_there (decode (advanced (fresh_over v) xs).world) ≡ areas_fit (again v)
  after-there = ap (λ (w : World). is_there (decode w)) after-world ∙ by (areas_fit (again v)) refl
    where
      by : (f : Bool) → areas_fit (again v) ≡ f → is_there (decode (run_calls (again v) xs)) ≡ f
      by true e = ap is_there (run-decodes v.definition_store v.tuple_store v.report_store v.names v.scopes v.cells v.path_area e xs)
      by false e = ap (λ (w : World). is_there (decode w)) (short-run (again v) e xs).0 ∙ ap is_there (short-decode (again v) e)

one_more : (x : Account) (xs : List Bytes) (b : Bytes) → (advance (advanced x xs) b).1 ≡ advanced x (xs ++ (b ∷ []))
one_more x xs b = sym (advanced-append x xs (b ∷ []) ∙ unfold advanced in refl)

module _ (v w : World) (l : SameLengths v w) (areas : areas_fit (again v) ≡ areas_fit (again w)) where
  same-alone : (ys : List (Bool × Bytes)) (xs : List Bytes) → alone (advanced (fresh_over v) xs) ys ≡ alone (advanced (fresh_over w) xs) ys
  unfolding alone
  same-alone [] xs = refl
  same-alone ((false, b) ∷ ys) xs =
      let p : Account = advanced (fresh_over v) xs in
      let q : Account = advanced (fresh_over w) xs in
      let same : (advance p b).0 ≡ (advance q b).0 = after-reply v xs b ∙ same-replies v w l areas xs b ∙ sym (after-reply w xs b) in
      let m : (alone_step false p b).1 ≡ advanced (fresh_over v) (xs ++ (b ∷ [])) = ap (λ (o : JobReply × Account). o.1) (open-alone p b) ∙ one_more (fresh_over v) xs b in
      let n : (alone_step false q b).1 ≡ advanced (fresh_over w) (xs ++ (b ∷ [])) = ap (λ (o : JobReply × Account). o.1) (open-alone q b) ∙ one_more (fresh_over w) xs b in
      ap₂ {C = List JobReply} ◌∷◌
      (ap (λ (o : JobReply × Account). o.0) (open-alone p b) ∙ ap job_reply same ∙ sym (ap (λ (o : JobReply × Account). o.0) (open-alone q b)))
      (ap (λ (z : Account). alone z ys) m ∙ same-alone ys (xs ++ (b ∷ [])) ∙ sym (ap (λ (z : Account). alone z ys) n))
  same-alone ((true, b) ∷ ys) xs =
      let p : Account = advanced (fresh_over v) xs in
      let q : Account = advanced (fresh_over w) xs in
      let m = closed-alone p b (after-fits v xs) in
      let n = closed-alone q b (after-fits w xs) in
      let same : is_there (decode p.world) ≡ is_there (decode q.world) = after-there v xs ∙ areas ∙ sym (after-there w xs) in
      ap₂ {C = List JobReply} ◌∷◌
      (ap (λ (o : JobReply × Account). o.0) m ∙ ap (λ (d : Bool). closed_reply d (parse b)) same ∙ sym (ap (λ (o : JobReply × Account). o.0) n))
      (ap (λ (o : JobReply × Account). alone o.1 ys) m ∙ same-alone ys xs ∙ sym (ap (λ (o : JobReply × Account). alone o.1 ys) n))

-- ---- all jobs set up together

-- job k is one of them, its session just set up over what a world has
pub record Begins (s : Jobs) (k : ℕ) (v : World) : Type 0 where
  pub total : ℕ
  pub count : ℕ
  pub terms : List ℕ
  pub begun : set_together total count terms ≡ ready s.allowance
  pub below : k < count
  pub fresh : s.accounts k ≡ fresh_over v

started-at : (n : ℕ) (ts : List ℕ) (k : ℕ) → k < n → (j : Job) × (get_elem? (started_from n ts) k ≡ some j) × (is_open j ≡ true) × (j.used ≡ 0)
unfolding started_from is_open
started-at zero ts k h = absurd (omega arith)
started-at (suc n) ts zero h = (record { guarantee = get_or ts 0 0; cap = get_or ts 1 0; used = 0; mark = 1 }, refl, refl, refl)
started-at (suc n) ts (suc k) h = started-at n (drop 2 ts) k (omega arith)

begun-job : (s : Jobs) (k : ℕ) (v : World) → Begins s k v → (j : Job) × (job_at s.allowance k ≡ some j) × (is_open j ≡ true) × (j.used ≡ 0)
begun-job s k v b =
    let f = together-fits b.total b.count b.terms s.allowance b.begun in
    let q = started-at b.count b.terms k b.below in
    let e : job_at s.allowance k ≡ get_elem? (started_from b.count b.terms) k =
    unfold job_at in (ap (λ (a : Allowance). get_elem? (jobs_of a) k) f.2 ∙ ap (λ (js : List Job). get_elem? js k) (fresh-jobs b.total b.count b.terms)) in
    (q.0, e ∙ q.1, q.2, q.3)

not_yet : (v : World) → is_done (decode (again v)) ≡ false
not_yet v = by (areas_fit (again v)) refl
  where
    by : (f : Bool) → areas_fit (again v) ≡ f → is_done (decode (again v)) ≡ false
    by false e = ap is_done (short-decode (again v) e) ∙ unfold is_done in refl
    by true e = begun-done (run-decodes v.definition_store v.tuple_store v.report_store v.names v.scopes v.cells v.path_area e [])
      where
        begun-done : decode (run_calls (again v) []) ≡ some (session_of (accepted (again v) [])) → is_done (decode (again v)) ≡ false
        begun-done h = unfold run_calls accepted in (ap is_done h ∙ unfold is_done session_of in refl)

pub begins-tracks : (s : Jobs) (k : ℕ) (v : World) → Begins s k v → Tracks s.allowance (s.accounts k) k false
begins-tracks s k v b =
    let q = begun-job s k v b in
    record {
      fit = (together-fits b.total b.count b.terms s.allowance b.begun).0;
      job = q.0;
      here = q.1;
      live = q.2 ∙ sym (ap (λ (x : Account). not (is_done (decode x.world))) b.fresh ∙ ap not (not_yet v));
    }

-- what it has used is what its session has
pub begins-used : (s : Jobs) (k : ℕ) (v : World) → Begins s k v → Used s.allowance k (s.accounts k)
begins-used s k v b =
    let q = begun-job s k v b in
    record { job = q.0; here = q.1; used = q.3 ∙ sym (ap (λ (x : Account). x.world.tuples) b.fresh ∙ unfold set_up in refl) }

-- ---- ISOLATED: two runs in which job k gets the same records over stores and areas of the same lengths, is closed at the
-- same place and is never met by 25 give it equal replies, however T, the other jobs and their calls differ

pub isolated : (k : ℕ) (s t : Jobs) (v w : World) → Begins s k v → Begins t k w → SameLengths v w → areas_fit (again v) ≡ areas_fit (again w)
    → (cs ds : List JobCall) → handed_to k false cs ≡ handed_to k false ds → All NotOver (replies_to k s cs) → All NotOver (replies_to k t ds)
    → replies_to k s cs ≡ replies_to k t ds
isolated k s t v w b d l areas cs ds same n m =
    answered-alone k cs s false (begins-tracks s k v b) n
    ∙ ap (λ (x : Account). alone x (handed_to k false cs)) b.fresh
    ∙ alike (handed_to k false cs)
    ∙ ap (alone (fresh_over w)) same
    ∙ sym (ap (λ (x : Account). alone x (handed_to k false ds)) d.fresh)
    ∙ sym (answered-alone k ds t false (begins-tracks t k w d) m)
  where
    alike : (ys : List (Bool × Bytes)) → alone (fresh_over v) ys ≡ alone (fresh_over w) ys
    alike ys = let z = same-alone v w l areas ys [] in unfold advanced in z
