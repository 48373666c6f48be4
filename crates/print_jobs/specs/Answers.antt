-- What the code's answers stand for: a job, what is left of T, what a call for a job meets, whom the dispatcher names. And
-- what set-up, closing and spending promise.
-- Assumes nothing.
use Rattle.std.specs.Prelude.{ℕ, ◌+◌, ◌-◌, ◌*◌, min, leb, drop, set, ◌≡◌, Bool, cond, ◌&&◌, List, [], ◌∷◌}
use Rattle.std.specs.declared.option.Option as code
use Rattle.std.specs.declared.result.Result.{Result}
use Rattle.std.specs.declared.result.Result.TheVariants.{Ok, Err}
use Rattle.std.proofs.Math.Option.{Option, none, some}
use Rattle.lists.specs.Answers.{given}
use Rattle.allowance.specs.Allowance.{Job, Allowance, is_open, held_by, cap_no_smaller, use_fits, set_together, setting_number, held_then, most_admitted, Standing, unknown_job, unfit_state, known, job_standing, standing_number, close_call, spend}
use Rattle.allowance.specs.Numbers.{job_in, allowance_in}
use Rattle.print_jobs.specs.declared.JobNow.{JobNow}
use Rattle.print_jobs.specs.declared.Admitted.{Admitted}
use Rattle.print_jobs.specs.declared.JobRefusal.{JobRefusal}
use Rattle.print_jobs.specs.declared.JobRefusal.TheVariants.{Unknown, Unfit}

abbrev pub job_of : JobNow → Job
job_of j = record { guarantee = j.guarantee; cap = j.cap; used = j.used; mark = j.mark }

-- ---- what is left of T

abbrev pub rest_in : code.Option ℕ → Option ℕ
rest_in o = given o

-- a job that fits, with its guarantee and what it holds within what is left for them
unfoldable pub within_both : Job → (promised left : ℕ) → Bool
within_both j p l = (cap_no_smaller j && use_fits j) && (leb j.guarantee p && leb (held_by j) l)

-- job after job: what is left for guarantees, and what is left beyond what the open ones hold; none where a job does not fit
unfoldable pub left_over : (promised left : ℕ) → List Job → Option ℕ
left_over p l [] = some l
left_over p l (j ∷ js) = cond (within_both j p l) (left_over (p - j.guarantee) (l - held_by j) js) none

-- ---- what a call for a job meets

-- how many bytes are admitted to a job, by what is left
unfoldable pub most_by : Job → (left : ℕ) → ℕ
most_by j left = min j.cap (left + held_by j) - j.used

abbrev pub admission_of : Allowance → (job : ℕ) → Standing → Result Admitted JobRefusal
admission_of a i unknown_job = Err Unknown
admission_of a i unfit_state = Err Unfit
admission_of a i (known j) = Ok (record { is_open = is_open j; most = most_admitted a i })

-- what is between use and cap of the job at a place
unfoldable pub room_at : List ℕ → (place : ℕ) → ℕ
room_at ns i = (job_in (drop (2 + 4 * i) ns)).cap - (job_in (drop (2 + 4 * i) ns)).used

-- bytes that are admitted are spent
unfoldable pub spent_by : Standing → Allowance → (job bytes : ℕ) → Allowance
spent_by unknown_job a i n = a
spent_by unfit_state a i n = a
spent_by (known j) a i n = cond (leb n (most_admitted a i)) (spend a i n) a

unfoldable pub spent_in : Allowance → (job bytes : ℕ) → Allowance
spent_in a i n = spent_by (job_standing a i) a i n

-- the numbers with a job begun at a place where there was none
unfoldable pub started_at : List ℕ → (place guarantee cap : ℕ) → List ℕ
started_at ns k g c = set (set (set ns (2 + 4 * k) g) (3 + 4 * k) c) (5 + 4 * k) 1

-- ---- whom the dispatcher names

abbrev pub named_in : code.Option ℕ → Option ℕ
named_in o = given o

-- ---- the document's number of a refusal, and of an answer, where what is not refused has 0

abbrev pub refusal_number : JobRefusal → ℕ
refusal_number Unknown = 26
refusal_number Unfit = 10

abbrev pub answer_number : Result (Unit {0}) JobRefusal → ℕ
answer_number (Ok done) = 0
answer_number (Err why) = refusal_number why

-- ---- what the calls promise: the number of the answer, and the allowance then

pub record SetsUp (total count : ℕ) (terms before : List ℕ) (r : Result (Unit {0}) JobRefusal) (after : List ℕ) : Type 0 where
  pub number : answer_number r ≡ setting_number (set_together total count terms)
  pub leaves : allowance_in after ≡ held_then (set_together total count terms) (allowance_in before)

pub record Closes (before : List ℕ) (job : ℕ) (r : Result (Unit {0}) JobRefusal) (after : List ℕ) : Type 0 where
  pub number : answer_number r ≡ standing_number (job_standing (allowance_in before) job)
  pub leaves : allowance_in after ≡ close_call (allowance_in before) job
