-- THE RECORD CALL FOR A JOB, with its session and totals and the allowance that it shares; the close call; lists of both.
-- Assumes nothing.
use Rattle.std.specs.Prelude.{ℕ, ◌-◌, eqb, Bool, true, false, cond, ◌||◌, List, [], ◌∷◌, ◌++◌}
use Rattle.std.proofs.Math.Option.{Option, none, some}
use Rattle.lists.specs.Lists.{only_if}
use Rattle.records.specs.Readers.{Bytes}
use Rattle.records.specs.Refusals.{unfit}
use Rattle.records.specs.Records.{Parsed, unparsed, parsed, parse}
use Rattle.session_spec.specs.Session.{World, decode}
use Rattle.session_spec.specs.Runs.{is_finish}
use Rattle.totals.specs.Totals.{totals_fit, grown_by}
use Rattle.totals.specs.Calls.{Account}
use Rattle.allowance.specs.Allowance.{Job, Allowance, is_open, spend, close_at, admits, Standing, unknown_job, unfit_state, known, job_standing, close_call}
use Rattle.jobs.specs.Within.{Against, by_session, over_allowance, JobReply, served, not_set_up, against, step_under}

-- ---- with the totals beside it, as `advance` is `step` with them

unfoldable pub tallied_under : Account → Bytes → JobReply × World → JobReply × Account
tallied_under x bs (served, v) = (served, record { world = v; totals = grown_by (decode x.world) (parse bs) x.totals })
tallied_under x bs (not_set_up, v) = (not_set_up, record { world = v; totals = x.totals })
tallied_under x bs (against c, v) = (against c, record { world = v; totals = x.totals })

unfoldable pub advance_under : (opened : Bool) → Option (ℕ → Bool) → Account → Bytes → JobReply × Account
advance_under opened a x bs =
    cond (totals_fit x.totals) (tallied_under x bs (step_under opened a x.world bs)) (against (by_session unfit), x)

-- ---- the allowance after it

-- what a call for a job answers and leaves
pub record JobCalled : Type 0 where
  pub reply : JobReply
  pub allowance : Allowance
  pub account : Account

-- a job closes at its FI
unfoldable pub ends_job : Parsed → Bool
ends_job (unparsed c) = false
ends_job (parsed r) = is_finish r

unfoldable pub close_if : Bool → Allowance → (job : ℕ) → Allowance
close_if true a i = close_at a i
close_if false a i = a

-- a record that is taken spends the bytes of its TUs; one that is refused changes nothing
unfoldable pub charged : Allowance → (job : ℕ) → Account → Bytes → JobReply × Account → JobCalled
charged a i x bs (served, y) =
    record {
      reply = served;
      allowance = close_if (ends_job (parse bs)) (spend a i (y.world.tuples - x.world.tuples)) i;
      account = y;
    }
charged a i x bs (not_set_up, y) = record { reply = not_set_up; allowance = a; account = y }
charged a i x bs (against c, y) = record { reply = against c; allowance = a; account = y }

-- 26 before all else, then 10, then what the session says under what the allowance admits
unfoldable pub step_by : Standing → Allowance → (job : ℕ) → Account → Bytes → JobCalled
step_by unknown_job a i x bs = record { reply = not_set_up; allowance = a; account = x }
step_by unfit_state a i x bs = record { reply = against (by_session unfit); allowance = a; account = x }
step_by (known j) a i x bs = charged a i x bs (advance_under (is_open j) (some (admits a i)) x bs)

-- A RECORD for a job
unfoldable pub job_step : Allowance → (job : ℕ) → Account → Bytes → JobCalled
job_step a i x bs = step_by (job_standing a i) a i x bs

-- A CLOSE CALL: no session is lent to it
unfoldable pub close_reply : Standing → JobReply
close_reply unknown_job = not_set_up
close_reply unfit_state = against (by_session unfit)
close_reply (known j) = served

-- ---- lists of calls for all jobs

pub record Jobs : Type 0 where
  pub allowance : Allowance
  pub accounts : ℕ → Account

pub data JobCall : Type 0 where
  hand : ℕ → Bytes → JobCall
  shut : ℕ → JobCall

abbrev pub account_at : (job : ℕ) → Account → (ℕ → Account) → ℕ → Account
account_at i y xs k = cond (eqb k i) y (xs k)

unfoldable pub serve : Jobs → JobCall → JobReply × Jobs
serve s (hand i x) =
    let c = job_step s.allowance i (s.accounts i) x in
    (c.reply, record { allowance = c.allowance; accounts = account_at i c.account s.accounts })
serve s (shut i) =
    (close_reply (job_standing s.allowance i), record { allowance = close_call s.allowance i; accounts = s.accounts })

unfoldable pub serve_all : Jobs → List JobCall → Jobs
serve_all s [] = s
serve_all s (c ∷ cs) = serve_all (serve s c).1 cs

-- ---- what job k gets of them

unfoldable pub is_served : JobReply → Bool
is_served served = true
is_served not_set_up = false
is_served (against c) = false

-- its records that no refusal meets
unfoldable pub taken_by : (job : ℕ) → JobReply → JobCall → List Bytes
taken_by k r (hand i x) = only_if (eqb k i) (only_if (is_served r) (x ∷ []))
taken_by k r (shut i) = []

unfoldable pub taken_for : (job : ℕ) → Jobs → List JobCall → List Bytes
taken_for k s [] = []
taken_for k s (c ∷ cs) = taken_by k (serve s c).0 c ++ taken_for k (serve s c).1 cs

-- ---- what job k is handed, each record with whether a close call for it stood before; and what it is answered

unfoldable pub handed_to : (job : ℕ) → (closed : Bool) → List JobCall → List (Bool × Bytes)
handed_to k c [] = []
handed_to k c (hand i x ∷ cs) = only_if (eqb k i) ((c, x) ∷ []) ++ handed_to k c cs
handed_to k c (shut i ∷ cs) = handed_to k (c || eqb k i) cs

unfoldable pub replied_to : (job : ℕ) → JobReply → JobCall → List JobReply
replied_to k r (hand i x) = only_if (eqb k i) (r ∷ [])
replied_to k r (shut i) = []

unfoldable pub replies_to : (job : ℕ) → Jobs → List JobCall → List JobReply
replies_to k s [] = []
replies_to k s (c ∷ cs) = replied_to k (serve s c).0 c ++ replies_to k (serve s c).1 cs
