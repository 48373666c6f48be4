-- Computed: what each answer stands for, what is left of T, what is spent.
-- Assumes nothing.
use Rattle.std.specs.Prelude.{ℕ, replicate, ◌≡◌, refl, true, false, [], ◌∷◌, map}
use Rattle.std.specs.declared.option.Option.TheVariants.{Some, None}
use Rattle.std.specs.declared.result.Result.TheVariants.{Ok, Err}
use Rattle.std.proofs.Math.Option.{none, some}
use Rattle.allowance.specs.Allowance.{Job, Allowance, is_open, jobs_of, job_at, sum_of, held_by, cap_no_smaller, terms_fit, set_together, setting_number, held_then, use_fits, allowance_fits, changed_at, with_job, with_more, spend, most_of, most_admitted, unknown_job, unfit_state, known, standing_by, job_standing, standing_number, closed_by, close_call}
use Rattle.allowance.specs.Numbers.{job_in, allowance_in}
use Rattle.print_jobs.specs.declared.JobRefusal.TheVariants.{Unknown, Unfit}
use Rattle.print_jobs.specs.Answers.{job_of, rest_in, within_both, left_over, most_by, admission_of, room_at, spent_by, spent_in, started_at, named_in, answer_number, SetsUp, Closes}

-- guarantee, cap, used, mark
abbrev job : ℕ → ℕ → ℕ → ℕ → Job
job g c u m = record { guarantee = g; cap = c; used = u; mark = m }

same_numbers : job_of (record { guarantee = 1; cap = 2; used = 3; mark = 4 }) ≡ job 1 2 3 4
same_numbers = refl

what-is-left : map rest_in (None ∷ Some 7 ∷ []) ≡ none ∷ some 7 ∷ []
what-is-left = refl

-- a guarantee of 10 within 10 and not within 9; 12 held within 12 and not within 11
promised-first : map (λ p. within_both (job 10 30 0 1) p 99) (10 ∷ 9 ∷ []) ≡ true ∷ false ∷ []
unfolding within_both cap_no_smaller use_fits held_by is_open
promised-first = refl

held_next : map (λ l. within_both (job 0 30 12 1) 99 l) (12 ∷ 11 ∷ []) ≡ true ∷ false ∷ []
unfolding within_both cap_no_smaller use_fits held_by is_open
held_next = refl

-- two jobs hold 10 and 25 of 40; under 34 the second is past it; a closed one leaves all
left_behind : map (λ t. left_over t t (job 10 30 4 1 ∷ job 20 40 25 1 ∷ job 0 9 9 0 ∷ [])) (40 ∷ 35 ∷ 34 ∷ []) ≡ some 5 ∷ some 0 ∷ none ∷ []
unfolding left_over within_both cap_no_smaller use_fits held_by is_open
left_behind = refl

-- guarantees go on their own: one of a closed job is still promised
promised-behind : map (λ p. left_over p 99 (job 10 30 0 0 ∷ job 20 30 0 0 ∷ [])) (30 ∷ 29 ∷ []) ≡ some 99 ∷ none ∷ []
unfolding left_over within_both cap_no_smaller use_fits held_by is_open
promised-behind = refl

-- by the cap, and by what is left
most-of-a-job : map (most_by (job 0 30 12 1)) (5 ∷ 99 ∷ []) ≡ 5 ∷ 18 ∷ []
unfolding most_by held_by is_open
most-of-a-job = refl

-- one open job that uses 12 of 30
abbrev one : Allowance
one = record { total = 40; count = 1; places = job 0 30 12 1 ∷ [] }

admissions : map (admission_of one 0) (unknown_job ∷ unfit_state ∷ known (job 0 30 12 1) ∷ known (job 0 30 12 0) ∷ []) ≡ Err Unknown ∷ Err Unfit ∷ Ok (record { is_open = true; most = 18 }) ∷ Ok (record { is_open = false; most = 18 }) ∷ []
unfolding most_admitted most_of job_at jobs_of sum_of held_by is_open
admissions = refl

room-of-the-second : room_at (9 ∷ 9 ∷ 0 ∷ 9 ∷ 0 ∷ 1 ∷ 5 ∷ 30 ∷ 12 ∷ 1 ∷ []) 1 ≡ 18
unfolding room_at job_in
room-of-the-second = refl

-- 18 bytes are spent, and 19 are not; to a job that is not known nothing is
spent-or-not : map (λ n. (spent_by (known (job 0 30 12 1)) one 0 n).places) (18 ∷ 19 ∷ []) ≡ (job 0 30 30 1 ∷ []) ∷ (job 0 30 12 1 ∷ []) ∷ []
unfolding spent_by spend with_job changed_at with_more most_admitted most_of job_at jobs_of sum_of held_by is_open
spent-or-not = refl

unknown-spends-nothing : map (λ s. spent_by s one 0 1) (unknown_job ∷ unfit_state ∷ []) ≡ one ∷ one ∷ []
unfolding spent_by
unknown-spends-nothing = refl

spent-by-number : (spent_in one 0 5).places ≡ job 0 30 17 1 ∷ []
unfolding spent_in spent_by spend with_job changed_at with_more most_admitted most_of job_standing standing_by job_at jobs_of allowance_fits terms_fit cap_no_smaller use_fits sum_of held_by is_open
spent-by-number = refl

begun-in-place : started_at (replicate 8 0) 0 10 30 ≡ 0 ∷ 0 ∷ 10 ∷ 30 ∷ 0 ∷ 1 ∷ 0 ∷ 0 ∷ []
unfolding started_at
begun-in-place = refl

names : map named_in (None ∷ Some 5 ∷ []) ≡ none ∷ some 5 ∷ []
names = refl

numbers : map answer_number (Ok tt ∷ Err Unknown ∷ Err Unfit ∷ []) ≡ 0 ∷ 26 ∷ 10 ∷ []
numbers = refl

-- ---- the calls: nine jobs are turned back, and what was there stays; 34 zeros have no job to close

nine-jobs : SetsUp 99 9 [] (replicate 34 7) (Err Unknown) (replicate 34 7)
unfolding set_together setting_number held_then
nine-jobs = record { number = refl; leaves = refl }

nobody-closed : Closes (replicate 34 0) 0 (Err Unknown) (replicate 34 0)
unfolding allowance_in job_standing standing_number close_call closed_by
nobody-closed = record { number = refl; leaves = refl }
