-- THE ALLOWANCE: up to 8 jobs, numbered from 0, under T bytes of TUs in all. Each has a guaranteed amount and a cap no
-- smaller; a closed job counts nothing.
-- Assumes nothing.
use Rattle.std.specs.Prelude.{ℕ, zero, suc, ◌+◌, ◌-◌, ◌*◌, max, min, eqb, leb, ltb, length, take, drop, get_or, replicate, Bool, false, cond, ◌&&◌, List, [], ◌∷◌, ◌++◌}
use Rattle.std.proofs.Math.ListN.{get_elem?}
use Rattle.std.proofs.Math.Option.{Option, none, some}
use Rattle.lists.specs.Lists.{all}

pub record Job : Type 0 where
  pub guarantee : ℕ
  pub cap : ℕ
  -- the bytes of its TUs
  pub used : ℕ
  -- 1 while it is open, 0 once it is closed
  pub mark : ℕ

unfoldable pub is_open : Job → Bool
is_open j = eqb j.mark 1

pub record Allowance : Type 0 where
  -- T
  pub total : ℕ
  -- how many jobs were set up
  pub count : ℕ
  -- eight, and the first of them are the jobs
  pub places : List Job

unfoldable pub jobs_of : Allowance → List Job
jobs_of a = take a.count a.places

-- none where no such job was set up
unfoldable pub job_at : Allowance → ℕ → Option Job
job_at a i = get_elem? (jobs_of a) i

-- ---- sums

unfoldable pub sum_of : (Job → ℕ) → List Job → ℕ
sum_of f [] = 0
sum_of f (j ∷ js) = f j + sum_of f js

-- of an open job the larger of bytes used and guarantee
unfoldable pub held_by : Job → ℕ
held_by j = cond (is_open j) (max j.used j.guarantee) 0

-- ---- the conditions: at most 8 jobs, no cap smaller than its guarantee, the guarantees together at most T

unfoldable pub cap_no_smaller : Job → Bool
cap_no_smaller j = leb j.guarantee j.cap

unfoldable pub terms_fit : (total count : ℕ) → List Job → Bool
terms_fit total count js = leb count 8 && (all cap_no_smaller js && leb (sum_of (λ j. j.guarantee) js) total)

-- ---- set-up

-- a guarantee and a cap for each job; it is open, and nothing is used
unfoldable pub started_from : (count : ℕ) → (terms : List ℕ) → List Job
started_from zero ts = []
started_from (suc n) ts = record { guarantee = get_or ts 0 0; cap = get_or ts 1 0; used = 0; mark = 1 } ∷ started_from n (drop 2 ts)

-- a place that no job has
abbrev pub no_job : Job
no_job = record { guarantee = 0; cap = 0; used = 0; mark = 0 }

unfoldable pub fresh_allowance : (total count : ℕ) → (terms : List ℕ) → Allowance
fresh_allowance total count ts =
    record { total = total; count = count; places = started_from count ts ++ replicate (8 - count) no_job }

pub data Setting : Type 0 where
  ready : Allowance → Setting
  -- more than 8 jobs, or guarantees, caps or T break the conditions
  broken : Setting
  -- fewer numbers than two for each job
  short : Setting

-- SET-UP of all jobs together
unfoldable pub set_together : (total count : ℕ) → (terms : List ℕ) → Setting
set_together total count ts =
    cond (ltb 8 count) broken
    (cond (ltb (length ts) (2 * count)) short
    (cond (terms_fit total count (started_from count ts)) (ready (fresh_allowance total count ts)) broken))

-- the number that a caller gets
unfoldable pub setting_number : Setting → ℕ
setting_number (ready a) = 0
setting_number broken = 26
setting_number short = 10

-- the allowance that the caller then holds: where it is turned back the one from before
unfoldable pub held_then : Setting → Allowance → Allowance
held_then (ready a) before = a
held_then broken before = before
held_then short before = before

-- ---- the state: it keeps the conditions, a mark is 0 or 1, and no use is past a cap or T; where not, 10

unfoldable pub use_fits : Job → Bool
use_fits j = leb j.used j.cap && leb j.mark 1

unfoldable pub allowance_fits : Allowance → Bool
allowance_fits a =
    terms_fit a.total a.count (jobs_of a)
    && (all use_fits (jobs_of a) && leb (sum_of held_by (jobs_of a)) a.total)

-- ---- one job of them

unfoldable pub changed_at : ℕ → (Job → Job) → List Job → List Job
changed_at i f [] = []
changed_at zero f (j ∷ js) = f j ∷ js
changed_at (suc i) f (j ∷ js) = j ∷ changed_at i f js

unfoldable pub with_job : Allowance → ℕ → (Job → Job) → Allowance
with_job a i f = record { total = a.total; count = a.count; places = changed_at i f a.places }

-- so many bytes more
unfoldable pub with_more : ℕ → Job → Job
with_more n j = record { guarantee = j.guarantee; cap = j.cap; used = j.used + n; mark = j.mark }

unfoldable pub spend : Allowance → (job bytes : ℕ) → Allowance
spend a i n = with_job a i (with_more n)

-- closed; what it used stays
unfoldable pub closing : Job → Job
closing j = record { guarantee = j.guarantee; cap = j.cap; used = j.used; mark = 0 }

unfoldable pub close_at : Allowance → (job : ℕ) → Allowance
close_at a i = with_job a i closing

-- ---- ADMITTED exactly if the job remains within its cap, and the sum over open jobs of the larger of bytes used and
-- guarantee remains within T; where not, 25

unfoldable pub job_admits : Allowance → (job bytes : ℕ) → Option Job → Bool
job_admits a i n none = false
job_admits a i n (some j) = leb (j.used + n) j.cap && leb (sum_of held_by (jobs_of (spend a i n))) a.total

unfoldable pub admits : Allowance → (job bytes : ℕ) → Bool
admits a i n = job_admits a i n (job_at a i)

-- ---- how many bytes are admitted: the rest of T that no open job holds and what this one holds, or up to its cap

unfoldable pub most_of : Allowance → Option Job → ℕ
most_of a none = 0
most_of a (some j) = min j.cap ((a.total - sum_of held_by (jobs_of a)) + held_by j) - j.used

unfoldable pub most_admitted : Allowance → (job : ℕ) → ℕ
most_admitted a i = most_of a (job_at a i)

-- ---- BEFORE ALL ELSE a call for a job is refused with 26 where it was not set up, then with 10 where the state does not fit

pub data Standing : Type 0 where
  unknown_job unfit_state : Standing
  known : Job → Standing

-- all places are there, so that every number below the count is a job's
unfoldable pub standing_by : Option Job → Standing
standing_by none = unfit_state
standing_by (some j) = known j

unfoldable pub job_standing : Allowance → (job : ℕ) → Standing
job_standing a i = cond (ltb i a.count) (cond (allowance_fits a) (standing_by (job_at a i)) unfit_state) unknown_job

unfoldable pub standing_number : Standing → ℕ
standing_number unknown_job = 26
standing_number unfit_state = 10
standing_number (known j) = 0

-- ---- THE CLOSE CALL: the number that a caller gets is that of the standing, and the allowance is then this

unfoldable pub closed_by : Standing → Allowance → (job : ℕ) → Allowance
closed_by unknown_job a i = a
closed_by unfit_state a i = a
closed_by (known j) a i = close_at a i

unfoldable pub close_call : Allowance → (job : ℕ) → Allowance
close_call a i = closed_by (job_standing a i) a i
