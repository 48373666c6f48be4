-- Which refusals a job does not meet: 10 in no list of calls from set-up with areas long enough, since its session is that of
-- a run; 25 never within its guarantee, since the allowance admits the bytes.
-- Assumes nothing.
use Prim.Native.Nat.{ℕ, ◌+◌, ◌≤◌}
use native.Mathlib.Omega.{arith}
use borrow.Author.Tests.{eqb-true, eqb-false, eq-eqb}
use lib.Dec.{eqb}
use lib.ListN.{length, take, drop}
use mathlib.Core.Path.{◌≡◌, refl, ap, sym, ◌∙◌, subst}
use mathlib.Core.Bool.{Bool, true, false, cond, ◌||◌, not}
use mathlib.Core.List.{List, [], ◌∷◌, ◌++◌, append-nil}
use mathlib.Core.Option.{Option, none, some}
use Rattle.records.specs.Readers.{Bytes}
use Rattle.records.specs.Refusals.{Refusal, unfit, out_of_place, refusal_number, Row}
use Rattle.records.specs.Records.{Rec, Parsed, unparsed, parsed, parse}
use Rattle.session_spec.specs.Session.{World, Session, decode, next, tuple_bytes, rows, Reply, taken, refused, reply_number, considered, attempt, step, areas_fit}
use Rattle.session_spec.specs.Runs.{run_calls}
use Rattle.runs.proofs.Refused.{no-ten}
use Rattle.runs.proofs.SameLengths.{again}
use Rattle.totals.specs.Totals.{totals_fit}
use Rattle.totals.specs.Calls.{Account, advance, advanced}
use Rattle.allowance.specs.Allowance.{Job, Allowance, is_open, job_at, admits}
use Rattle.allowance.proofs.Laws.{Fits, within-guarantee, standing-known}
use Rattle.jobs.specs.Within.{Against, by_session, over_allowance, JobReply, served, not_set_up, against, job_reply_number, JobRow, first_met, own_rows, row25, rows_within, rows_under, settled_under, considered_under, attempt_under, step_under}
use Rattle.jobs.specs.Jobs.{tallied_under, advance_under, JobCalled, charged, step_by, job_step, Jobs, JobCall, hand, shut, account_at, serve, serve_all, taken_for}
use Rattle.jobs.proofs.Under.{job_reply}
use Rattle.jobs.proofs.Lists.{jobs-run}
use Rattle.jobs.proofs.Isolated.{alone_step, Tracks, step_so, charged-reply, alone-is, next-tracks, shut-tracks, other-tracks, tallied-first, open-alone, closed_reply, is_there, closed-alone, fresh_over, after-fits, after-world, after-reply, after-there, Begins, begins-tracks}

-- ---- the job's entry and its session go together in every list of calls

serve-tracks : (k : ℕ) (s : Jobs) (c : Bool) → Tracks s.allowance (s.accounts k) k c → (call : JobCall) → (d : Bool) × Tracks (serve s call).1.allowance ((serve s call).1.accounts k) k d
unfolding serve
serve-tracks k s c t (shut i) = (c || eqb k i, shut-tracks s.allowance (s.accounts k) k c t i)
serve-tracks k s c t (hand i b) = (c, by (eqb k i) refl)
  where
    got : ℕ → JobCalled
    got n = job_step s.allowance n (s.accounts n) b

    by : (z : Bool) → eqb k i ≡ z → Tracks (got i).allowance (cond z (got i).account (s.accounts k)) k c
    by true e = subst (λ (n : ℕ). Tracks (got n).allowance (got n).account k c) (eqb-true k i e) (next-tracks s.allowance (s.accounts k) k c t b)
    by false e = other-tracks k s c t i b (eqb-false k i e)

tracks-all : (k : ℕ) (s : Jobs) (c : Bool) → Tracks s.allowance (s.accounts k) k c → (cs : List JobCall) → (d : Bool) × Tracks (serve_all s cs).allowance ((serve_all s cs).accounts k) k d
unfolding serve_all
tracks-all k s c t [] = (c, t)
tracks-all k s c t (x ∷ cs) = let q = serve-tracks k s c t x in tracks-all k (serve s x).1 q.0 q.1 cs

-- ---- NO TEN

job-number : (r : Reply) → job_reply_number (job_reply r) ≡ reply_number r
unfolding job_reply_number reply_number
job-number taken = refl
job-number (refused c) = refl

unparsed-step : (w : World) (b : Bytes) (o : Option Session) → decode w ≡ o → is_there o ≡ true → (c : Refusal) → parse b ≡ unparsed c → (step w b).0 ≡ refused c
unfolding step attempt considered
unparsed-step w b none d h c p = absurd (mathlib.Core.Bool.false≢true h)
unparsed-step w b (some s) d h c p = rw (d, p)

module _ (v : World) (areas : areas_fit (again v) ≡ true) (ys : List Bytes) (b : Bytes) where
  abbrev x : Account
  x = advanced (fresh_over v) ys

  not-ten : reply_number (step (run_calls (again v) ys) b).0 ≡ 10 → ⊥
  not-ten = no-ten v.definition_store v.tuple_store v.report_store v.names v.scopes v.cells v.path_area areas ys b

  closed-not : (p : Parsed) → parse b ≡ p → job_reply_number (closed_reply true p) ≡ 10 → ⊥
  unfolding job_reply_number reply_number refusal_number
  closed-not (parsed r) e h = omega arith
  closed-not (unparsed c) e h =
      let d : is_there (decode (run_calls (again v) ys)) ≡ true = ap (λ (w : World). is_there (decode w)) (sym (after-world v ys)) ∙ after-there v ys ∙ areas in
      not-ten (ap reply_number (unparsed-step (run_calls (again v) ys) b (decode (run_calls (again v) ys)) refl d c e) ∙ h)

  alone-not : (d : Bool) → job_reply_number (alone_step d x b).0 ≡ 10 → ⊥
  alone-not false h =
      not-ten
      (sym (job-number (step (run_calls (again v) ys) b).0)
      ∙ ap (λ (r : Reply). job_reply_number (job_reply r)) (sym (after-reply v ys b))
      ∙ sym (ap (λ (o : JobReply × Account). job_reply_number o.0) (open-alone x b))
      ∙ h)
  alone-not true h =
      closed-not (parse b) refl
      (ap (λ (z : Bool). job_reply_number (closed_reply z (parse b))) (sym (after-there v ys ∙ areas))
      ∙ sym (ap (λ (o : JobReply × Account). job_reply_number o.0) (closed-alone x b (after-fits v ys)))
      ∙ h)

over-number : (r : JobReply) → job_reply_number r ≡ 10 → r ≡ against over_allowance → ⊥
unfolding job_reply_number
over-number r h e = let z : ◌≡◌ {A = ℕ} 25 10 = sym (ap job_reply_number e) ∙ h in omega (arith, z)

tracked-not : (v : World) → areas_fit (again v) ≡ true → (ys : List Bytes) (a : Allowance) (x : Account) (k : ℕ) (d : Bool) → Tracks a x k d → x ≡ advanced (fresh_over v) ys → (b : Bytes)
    → job_reply_number (job_step a k x b).reply ≡ 10 → ⊥
tracked-not v areas ys a x k d t same b h =
    let p : JobReply × Account = advance_under (is_open t.job) (some (admits a k)) x b in
    let reply : (job_step a k x b).reply ≡ p.0 = ap (λ (z : JobCalled). z.reply) (step_so a x k d t b) ∙ (charged-reply a x k d t b p).0 in
    let ten : job_reply_number p.0 ≡ 10 = ap job_reply_number (sym reply) ∙ h in
    let e : p ≡ alone_step d x b = alone-is a x k d t b (over-number p.0 ten) in
    alone-not v areas ys b d (ap (λ (z : Account). job_reply_number (alone_step d z b).0) (sym same) ∙ ap (λ (o : JobReply × Account). job_reply_number o.0) (sym e) ∙ ten)

-- with areas long enough no record for a job is answered by 10, after whatever calls for all jobs
pub jobs-no-ten : (k : ℕ) (s : Jobs) (v : World) → Begins s k v → areas_fit (again v) ≡ true → (cs : List JobCall) (b : Bytes)
    → job_reply_number (serve (serve_all s cs) (hand k b)).0 ≡ 10 → ⊥
unfolding serve
jobs-no-ten k s v g areas cs b h =
    let q = tracks-all k s false (begins-tracks s k v g) cs in
    let r = jobs-run k s cs in
    let u : Jobs = serve_all s cs in
    tracked-not v areas (taken_for k s cs) u.allowance (u.accounts k) k q.0 q.1 (r.account ∙ ap (λ (z : Account). advanced z (taken_for k s cs)) g.fresh) b h

-- ---- NOT 25 within its guarantee

own-not : (xs : List Row) (ys : List JobRow) → first_met (own_rows xs ++ ys) ≡ some over_allowance → first_met ys ≡ some over_allowance
unfolding first_met own_rows
own-not [] ys h = h
own-not (x ∷ xs) ys h = by x.0 h (own-not xs ys)
  where
    by : (t : Bool) → cond t (some (by_session x.1)) (first_met (own_rows xs ++ ys)) ≡ some over_allowance → (first_met (own_rows xs ++ ys) ≡ some over_allowance → first_met ys ≡ some over_allowance) → first_met ys ≡ some over_allowance
    by true h f = let z : ◌≡◌ {A = ℕ} 0 1 = cc in absurd (omega arith)
    by false h f = f h

admitted-first : (adm : ℕ → Bool) (w : World) (s : Session) (r : Rec) (b : Bytes) → adm (length (tuple_bytes s (next s r))) ≡ true → first_met (rows_under true (some adm) w s r (next s r) b) ≡ some over_allowance → ⊥
unfolding rows_under rows_within row25
admitted-first adm w s r b g h =
    let rs : List Row = rows w s r (next s r) b in
    let first : first_met (own_rows (take 10 rs) ++ ((not (adm (length (tuple_bytes s (next s r)))), over_allowance) ∷ own_rows (drop 10 rs))) ≡ some over_allowance = unfold first_met in h in
    let p = own-not (take 10 rs) ((not (adm (length (tuple_bytes s (next s r)))), over_allowance) ∷ own_rows (drop 10 rs)) first in
    behind (adm (length (tuple_bytes s (next s r)))) (drop 10 rs) g p
  where
    behind : (z : Bool) (rs : List Row) → z ≡ true → first_met ((not z, over_allowance) ∷ own_rows rs) ≡ some over_allowance → ⊥
    behind z rs e h =
        let q : first_met (own_rows rs) ≡ some over_allowance = unfold first_met in (rw e at h) in
        let p = own-not rs [] (ap first_met (append-nil (own_rows rs)) ∙ q) in
        none_over p
      where
        none_over : first_met [] ≡ some over_allowance → ⊥
        none_over h = let g : none ≡ some over_allowance = unfold first_met in h in let z : ◌≡◌ {A = ℕ} 0 1 = cc in omega arith

settled-over : (w : World) (s : Session) (r : Rec) (b : Bytes) (o : Option Against) → (settled_under w s r (next s r) b o).0 ≡ against over_allowance → o ≡ some over_allowance
unfolding settled_under
settled-over w s r b none h = let z : ◌≡◌ {A = ℕ} 0 1 = cc in absurd (omega arith)
settled-over w s r b (some c) h = let q : c ≡ over_allowance = cc in ap some q

step-not : (adm : ℕ → Bool) (w : World) (s : Session) (r : Rec) (b : Bytes) → decode w ≡ some s → parse b ≡ parsed r → adm (length (tuple_bytes s (next s r))) ≡ true
    → (step_under true (some adm) w b).0 ≡ against over_allowance → ⊥
step-not adm w s r b d p g h =
    admitted-first adm w s r b g (settled-over w s r b (first_met (rows_under true (some adm) w s r (next s r) b)) (sym is ∙ h))
  where
    is : (step_under true (some adm) w b).0 ≡ (settled_under w s r (next s r) b (first_met (rows_under true (some adm) w s r (next s r) b))).0
    is = unfold step_under attempt_under considered_under in (rw (d, p))

charged-says : (a : Allowance) (i : ℕ) (x : Account) (b : Bytes) (q : JobReply × Account) → (charged a i x b q).reply ≡ q.0
unfolding charged
charged-says a i x b (served, y) = refl
charged-says a i x b (not_set_up, y) = refl
charged-says a i x b (against d, y) = refl

advance-not : (adm : ℕ → Bool) (x : Account) (b : Bytes) → ((step_under true (some adm) x.world b).0 ≡ against over_allowance → ⊥) → (advance_under true (some adm) x b).0 ≡ against over_allowance → ⊥
unfolding advance_under
advance-not adm x b n h = by (totals_fit x.totals) h
  where
    by : (f : Bool) → (cond f (tallied_under x b (step_under true (some adm) x.world b)) (against (by_session unfit), x)).0 ≡ against over_allowance → ⊥
    by true h = n (sym (tallied-first x b (step_under true (some adm) x.world b)) ∙ h)
    by false h = let z : ◌≡◌ {A = ℕ} 0 1 = cc in omega arith

known_step : (a : Allowance) → Fits a → (i : ℕ) (j : Job) → job_at a i ≡ some j → (x : Account) (b : Bytes) → job_step a i x b ≡ charged a i x b (advance_under (is_open j) (some (admits a i)) x b)
unfolding job_step step_by
known_step a f i j here x b = rw (standing-known a f i j here)

pub jobs-within-guarantee : (a : Allowance) → Fits a → (i : ℕ) (j : Job) → job_at a i ≡ some j → is_open j ≡ true → (x : Account) (s : Session) → decode x.world ≡ some s
    → (b : Bytes) (r : Rec) → parse b ≡ parsed r → j.used + length (tuple_bytes s (next s r)) ≤ j.guarantee → (job_step a i x b).reply ≡ against over_allowance → ⊥
jobs-within-guarantee a f i j here opened x s d b r p small h =
    advance-not (admits a i) x b
    (step-not (admits a i) x.world s r b d p (within-guarantee a f i j here opened (length (tuple_bytes s (next s r))) small))
    (sym is ∙ h)
  where
    is : (job_step a i x b).reply ≡ (advance_under true (some (admits a i)) x b).0
    is =
        ap (λ (z : JobCalled). z.reply) (known_step a f i j here x b)
        ∙ charged-says a i x b (advance_under (is_open j) (some (admits a i)) x b)
        ∙ ap (λ (z : Bool). (advance_under z (some (admits a i)) x b).0) opened
