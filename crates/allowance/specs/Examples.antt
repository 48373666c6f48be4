-- Computed: each definition by itself, at its limits, and two jobs that share 40 bytes.
-- Assumes nothing.
use Rattle.std.specs.Prelude.{ℕ, suc, ◌+◌, ◌-◌, ◌*◌, ◌/◌, ◌%◌, max, min, eqb, leb, ltb, length, take, drop, get_or, replicate, ◌≡◌, refl, Bool, true, false, List, [], ◌∷◌, ◌++◌, map}
use Rattle.std.proofs.Math.ListN.{get_elem?}
use Rattle.std.proofs.Math.Option.{Option, none, some, or_else}
use Rattle.lists.specs.Lists.{all}
use Rattle.allowance.specs.Allowance.{Job, Allowance, is_open, jobs_of, job_at, sum_of, held_by, cap_no_smaller, terms_fit, started_from, no_job, fresh_allowance, Setting, ready, broken, short, set_together, setting_number, held_then, use_fits, allowance_fits, changed_at, with_job, with_more, spend, closing, close_at, job_admits, admits, most_of, most_admitted, Standing, unknown_job, unfit_state, known, standing_by, job_standing, standing_number, closed_by, close_call}
use Rattle.allowance.specs.Numbers.{job_in, jobs_from, allowance_in}
use Rattle.allowance.specs.Dispatcher.{waiting_from, lowest_waiting, next_job, bits_from, waiting_in, served_on, served_in}

-- guarantee, cap, used, mark
abbrev job : ℕ → ℕ → ℕ → ℕ → Job
job g c u m = record { guarantee = g; cap = c; used = u; mark = m }

-- T, how many jobs, and the places
abbrev shared : ℕ → ℕ → List Job → Allowance
shared t n js = record { total = t; count = n; places = js }

-- ---- a job, and the jobs there are

open-mark : map is_open (job 0 0 0 0 ∷ job 0 0 0 1 ∷ job 0 0 0 2 ∷ []) ≡ false ∷ true ∷ false ∷ []
unfolding is_open
open-mark = refl

-- one of two places is a job
set-up-only : jobs_of (shared 0 1 (job 1 2 3 0 ∷ job 5 6 7 0 ∷ [])) ≡ job 1 2 3 0 ∷ []
unfolding jobs_of
set-up-only = refl

not-set-up : map (job_at (shared 0 2 (job 1 2 3 0 ∷ job 4 5 6 0 ∷ []))) (0 ∷ 1 ∷ 2 ∷ []) ≡ some (job 1 2 3 0) ∷ some (job 4 5 6 0) ∷ none ∷ []
unfolding job_at jobs_of
not-set-up = refl

all-added : sum_of (λ j. j.used) (job 0 0 3 0 ∷ job 0 0 4 0 ∷ job 0 0 9 0 ∷ []) ≡ 16
unfolding sum_of
all-added = refl

-- within its guarantee a job holds that; beyond it what it uses
guarantee-held : map held_by (job 10 30 4 1 ∷ job 10 30 10 1 ∷ []) ≡ 10 ∷ 10 ∷ []
unfolding held_by is_open
guarantee-held = refl

use-held : map held_by (job 0 30 11 1 ∷ job 10 30 25 1 ∷ []) ≡ 11 ∷ 25 ∷ []
unfolding held_by is_open
use-held = refl

closed-holds-nothing : held_by (job 0 30 25 0) ≡ 0
unfolding held_by is_open
closed-holds-nothing = refl

-- ---- the conditions

cap-no-smaller : map cap_no_smaller (job 9 10 0 1 ∷ job 10 10 0 1 ∷ job 11 10 0 1 ∷ []) ≡ true ∷ true ∷ false ∷ []
unfolding cap_no_smaller
cap-no-smaller = refl

eight-at-most : map (λ n. terms_fit 0 n []) (0 ∷ 8 ∷ 9 ∷ []) ≡ true ∷ true ∷ false ∷ []
unfolding terms_fit sum_of
eight-at-most = refl

-- guarantees of 10 and 20 under 30 and under 29; a cap may be over T
within-t : map (λ t. terms_fit t 2 (job 10 99 0 1 ∷ job 20 99 0 1 ∷ [])) (30 ∷ 29 ∷ []) ≡ true ∷ false ∷ []
unfolding terms_fit cap_no_smaller sum_of
within-t = refl

-- each job is asked, the last too
each_cap : terms_fit 99 2 (job 0 9 0 1 ∷ job 3 2 0 1 ∷ []) ≡ false
unfolding terms_fit cap_no_smaller sum_of
each_cap = refl

-- ---- set-up

two_started : started_from 2 (10 ∷ 30 ∷ 20 ∷ 40 ∷ []) ≡ job 10 30 0 1 ∷ job 20 40 0 1 ∷ []
unfolding started_from
two_started = refl

-- the places that no job has are zeros, and all are eight
eight-places : map (λ n. length (fresh_allowance 40 n []).places) (0 ∷ 1 ∷ 8 ∷ []) ≡ 8 ∷ 8 ∷ 8 ∷ []
unfolding fresh_allowance started_from
eight-places = refl

fresh-one : fresh_allowance 40 1 (10 ∷ 30 ∷ []) ≡ shared 40 1 (job 10 30 0 1 ∷ replicate 7 (job 0 0 0 0))
unfolding fresh_allowance started_from
fresh-one = refl

-- nine jobs are turned back before their numbers are looked at
nine-first : set_together 0 9 [] ≡ broken
unfolding set_together
nine-first = refl

numbers-enough : map (λ ts. setting_number (set_together 40 1 ts)) ((10 ∷ []) ∷ (10 ∷ 30 ∷ []) ∷ (10 ∷ 30 ∷ 7 ∷ []) ∷ []) ≡ 10 ∷ 0 ∷ 0 ∷ []
unfolding set_together terms_fit cap_no_smaller sum_of started_from setting_number
numbers-enough = refl

-- the guarantees are over T by one
over-t : set_together 29 2 (10 ∷ 99 ∷ 20 ∷ 99 ∷ []) ≡ broken
unfolding set_together terms_fit cap_no_smaller sum_of started_from
over-t = refl

no-jobs : set_together 0 0 [] ≡ ready (shared 0 0 (replicate 8 no_job))
unfolding set_together terms_fit sum_of started_from fresh_allowance
no-jobs = refl

broken-number : setting_number broken ≡ 26
unfolding setting_number
broken-number = refl

broken-keeps : map (λ s. held_then s (shared 5 0 [])) (broken ∷ short ∷ []) ≡ shared 5 0 [] ∷ shared 5 0 [] ∷ []
unfolding held_then
broken-keeps = refl

ready_held : held_then (ready (shared 7 0 [])) (shared 5 0 []) ≡ shared 7 0 []
unfolding held_then
ready_held = refl

-- ---- the state

-- a use at its cap and one past it, of a closed job too
past-cap : map use_fits (job 0 10 10 1 ∷ job 0 10 11 1 ∷ job 0 10 11 0 ∷ []) ≡ true ∷ false ∷ false ∷ []
unfolding use_fits
past-cap = refl

other-mark : map use_fits (job 0 0 0 0 ∷ job 0 0 0 1 ∷ job 0 0 0 2 ∷ []) ≡ true ∷ true ∷ false ∷ []
unfolding use_fits
other-mark = refl

-- two jobs that use 30 and 10 under 40, and under 39
past-t : map (λ t. allowance_fits (shared t 2 (job 0 30 30 1 ∷ job 0 30 10 1 ∷ []))) (40 ∷ 39 ∷ []) ≡ true ∷ false ∷ []
unfolding allowance_fits terms_fit cap_no_smaller use_fits sum_of held_by is_open jobs_of
past-t = refl

-- a use within its guarantee counts as the guarantee
held-past-t : allowance_fits (shared 39 2 (job 20 30 0 1 ∷ job 0 30 20 1 ∷ [])) ≡ false
unfolding allowance_fits terms_fit cap_no_smaller use_fits sum_of held_by is_open jobs_of
held-past-t = refl

-- the conditions are asked of a closed job too
closed-guarantee : allowance_fits (shared 9 1 (job 10 10 0 0 ∷ [])) ≡ false
unfolding allowance_fits terms_fit cap_no_smaller use_fits sum_of held_by is_open jobs_of
closed-guarantee = refl

-- a place that no job has may hold anything
no-job-there : allowance_fits (shared 0 0 (job 9 1 5 7 ∷ [])) ≡ true
unfolding allowance_fits terms_fit use_fits sum_of jobs_of
no-job-there = refl

-- ---- one job of them

second-changed : changed_at 1 (λ j. job 7 7 7 7) (job 1 1 1 1 ∷ job 2 2 2 2 ∷ job 3 3 3 3 ∷ []) ≡ job 1 1 1 1 ∷ job 7 7 7 7 ∷ job 3 3 3 3 ∷ []
unfolding changed_at
second-changed = refl

bytes-more : with_more 5 (job 1 2 3 4) ≡ job 1 2 8 4
unfolding with_more
bytes-more = refl

use-stays : closing (job 1 2 3 1) ≡ job 1 2 3 0
unfolding closing
use-stays = refl

spent-by-one : (spend (shared 9 2 (job 1 2 3 1 ∷ job 4 5 6 1 ∷ [])) 0 2).places ≡ job 1 2 5 1 ∷ job 4 5 6 1 ∷ []
unfolding spend with_job changed_at with_more
spent-by-one = refl

closed-one : close_at (shared 9 2 (job 1 2 3 1 ∷ job 4 5 6 1 ∷ [])) 1 ≡ shared 9 2 (job 1 2 3 1 ∷ job 4 5 6 0 ∷ [])
unfolding close_at with_job changed_at closing
closed-one = refl

-- ---- what is admitted: two jobs of 10 and 20 guaranteed, with caps of 30 and 40, under 40 in all

abbrev two : Allowance
two = shared 40 2 (job 10 30 0 1 ∷ job 20 40 0 1 ∷ [])

-- the first may use 20 and not 21: 20 are kept for the other
within-sum : map (admits two 0) (0 ∷ 10 ∷ 20 ∷ 21 ∷ []) ≡ true ∷ true ∷ true ∷ false ∷ []
unfolding admits job_admits job_at jobs_of spend with_job changed_at with_more sum_of held_by is_open
within-sum = refl

-- once the other is closed up to its cap, though 40 are there
within_cap : map (admits (close_at two 1) 0) (30 ∷ 31 ∷ []) ≡ true ∷ false ∷ []
unfolding admits job_admits job_at jobs_of spend close_at closing with_job changed_at with_more sum_of held_by is_open
within_cap = refl

-- what it uses already counts toward the cap
used-and-more : map (admits (shared 99 1 (job 0 30 12 1 ∷ [])) 0) (18 ∷ 19 ∷ []) ≡ true ∷ false ∷ []
unfolding admits job_admits job_at jobs_of spend with_job changed_at with_more sum_of held_by is_open
used-and-more = refl

nobody-admitted : admits two 2 0 ≡ false
unfolding admits job_admits job_at jobs_of
nobody-admitted = refl

-- ---- how many bytes that is

most-of-each : map (most_admitted two) (0 ∷ 1 ∷ 2 ∷ []) ≡ 20 ∷ 30 ∷ 0 ∷ []
unfolding most_admitted most_of job_at jobs_of sum_of held_by is_open
most-of-each = refl

-- the cap less what is used; and the rest of T with what it holds itself, less what is used
most-by-cap : most_admitted (shared 99 1 (job 0 30 12 1 ∷ [])) 0 ≡ 18
unfolding most_admitted most_of job_at jobs_of sum_of held_by is_open
most-by-cap = refl

most-by-rest : most_admitted (shared 50 2 (job 0 99 12 1 ∷ job 20 99 30 1 ∷ [])) 0 ≡ 8
unfolding most_admitted most_of job_at jobs_of sum_of held_by is_open
most-by-rest = refl

-- ---- before all else

-- 26 for a job that was not set up, in a state that does not fit too
unknown-first : map (λ i. standing_number (job_standing (shared 0 1 (job 9 1 0 1 ∷ [])) i)) (0 ∷ 1 ∷ []) ≡ 10 ∷ 26 ∷ []
unfolding job_standing standing_number allowance_fits terms_fit cap_no_smaller jobs_of
unknown-first = refl

-- a count of nine is no state that fits
too-many-jobs : job_standing (shared 99 9 []) 8 ≡ unfit_state
unfolding job_standing allowance_fits terms_fit
too-many-jobs = refl

stands-there : job_standing (shared 9 1 (job 0 9 4 1 ∷ [])) 0 ≡ known (job 0 9 4 1)
unfolding job_standing standing_by job_at jobs_of allowance_fits terms_fit cap_no_smaller use_fits sum_of held_by is_open
stands-there = refl

standing-numbers : map standing_number (unknown_job ∷ unfit_state ∷ known no_job ∷ []) ≡ 26 ∷ 10 ∷ 0 ∷ []
unfolding standing_number
standing-numbers = refl

-- a close call that is refused changes nothing
refused-closes-nothing : map (λ s. closed_by s (shared 9 1 (job 5 5 5 1 ∷ [])) 0) (unknown_job ∷ unfit_state ∷ []) ≡ shared 9 1 (job 5 5 5 1 ∷ []) ∷ shared 9 1 (job 5 5 5 1 ∷ []) ∷ []
unfolding closed_by
refused-closes-nothing = refl

known-closed : closed_by (known no_job) (shared 9 1 (job 5 5 5 1 ∷ [])) 0 ≡ close_at (shared 9 1 (job 5 5 5 1 ∷ [])) 0
unfolding closed_by
known-closed = refl

called-closed : close_call (shared 9 1 (job 5 5 5 1 ∷ [])) 0 ≡ shared 9 1 (job 5 5 5 0 ∷ [])
unfolding close_call closed_by close_at with_job changed_at closing job_standing standing_by job_at jobs_of allowance_fits terms_fit cap_no_smaller use_fits sum_of held_by is_open
called-closed = refl

-- ---- the 34 numbers

four-numbers : job_in (1 ∷ 2 ∷ 3 ∷ 4 ∷ 5 ∷ []) ≡ job 1 2 3 4
unfolding job_in
four-numbers = refl

next-four : jobs_from 2 (1 ∷ 2 ∷ 3 ∷ 1 ∷ 5 ∷ 6 ∷ 7 ∷ 0 ∷ 9 ∷ []) ≡ job_in (1 ∷ 2 ∷ 3 ∷ 1 ∷ 5 ∷ 6 ∷ 7 ∷ 0 ∷ 9 ∷ []) ∷ job_in (5 ∷ 6 ∷ 7 ∷ 0 ∷ 9 ∷ []) ∷ []
unfolding jobs_from job_in
next-four = refl

head-and-places : allowance_in (40 ∷ 1 ∷ 10 ∷ 10 ∷ 10 ∷ 10 ∷ replicate 28 0) ≡ shared 40 1 (job 10 10 10 10 ∷ replicate 7 no_job)
unfolding allowance_in jobs_from job_in
head-and-places = refl

-- 34 zeros are an allowance without a job
all-zeros : allowance_in (replicate 34 0) ≡ fresh_allowance 0 0 []
unfolding allowance_in jobs_from job_in fresh_allowance started_from
all-zeros = refl

-- ---- the dispatcher

not-below : map (λ from. waiting_from from 0 (true ∷ false ∷ true ∷ [])) (0 ∷ 1 ∷ 2 ∷ 3 ∷ []) ≡ some 0 ∷ some 2 ∷ some 2 ∷ none ∷ []
unfolding waiting_from
not-below = refl

-- jobs 0, 2 and 5 wait; none served yet, then each of these and others last
turns : map (λ l. next_job l (waiting_in 37)) (none ∷ some 0 ∷ some 1 ∷ some 2 ∷ []) ≡ some 0 ∷ some 2 ∷ some 2 ∷ some 5 ∷ []
unfolding next_job or_else waiting_from lowest_waiting bits_from
turns = refl

-- above 5 none waits: the lowest again; so too where no job has the number
round-again : map (λ l. next_job (some l) (waiting_in 37)) (5 ∷ 7 ∷ 8 ∷ 200 ∷ []) ≡ some 0 ∷ some 0 ∷ some 0 ∷ some 0 ∷ []
unfolding next_job or_else waiting_from lowest_waiting bits_from
round-again = refl

-- the only one that waits is named though it was served last
itself-again : next_job (some 3) (waiting_in 8) ≡ some 3
unfolding next_job or_else waiting_from lowest_waiting bits_from
itself-again = refl

nobody-waits : map (λ l. next_job l (waiting_in 0)) (none ∷ some 0 ∷ []) ≡ none ∷ none ∷ []
unfolding next_job or_else waiting_from lowest_waiting bits_from
nobody-waits = refl

low-bit-first : waiting_in 37 ≡ true ∷ false ∷ true ∷ false ∷ false ∷ true ∷ false ∷ false ∷ []
unfolding bits_from
low-bit-first = refl

-- a turn at which none waits serves nobody, and keeps who was last
served-last : served_on none (some 4) (λ l. map (λ o. 9) (l ∷ [])) ≡ 9 ∷ []
unfolding served_on
served-last = refl

in-turn : served_in none (waiting_in 37 ∷ waiting_in 37 ∷ waiting_in 0 ∷ waiting_in 37 ∷ waiting_in 37 ∷ []) ≡ 0 ∷ 2 ∷ 5 ∷ 0 ∷ []
unfolding served_in served_on next_job or_else waiting_from lowest_waiting bits_from
in-turn = refl
