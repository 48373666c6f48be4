-- Computed: the rows in their order, what each definition answers and leaves.
-- Assumes nothing.
use Rattle.std.specs.Prelude.{ℕ, ◌-◌, eqb, leb, length, take, drop, ◌≡◌, refl, Bool, true, false, not, ◌||◌, List, [], ◌∷◌, ◌++◌, map}
use Rattle.std.proofs.Math.Option.{Option, none, some}
use Rattle.lists.specs.Lists.{only_if}
use Rattle.records.specs.Readers.{Bytes}
use Rattle.records.specs.Refusals.{unfit, out_of_place, tuples_full, reports_full, refusal_number}
use Rattle.records.specs.Records.{Rec, FI, unparsed, parsed}
use Rattle.session_spec.specs.Session.{World, Session, rows, tuple_bytes}
use Rattle.session_spec.specs.Runs.{is_finish}
use Rattle.totals.specs.Calls.{Account}
use Rattle.allowance.specs.Allowance.{Job, Allowance, no_job, unknown_job, unfit_state, known, close_at, spend, with_job, changed_at, with_more, closing}
use Rattle.jobs.specs.Within.{Against, by_session, over_allowance, JobReply, served, not_set_up, against, job_reply_number, JobRow, first_met, own_rows, row25, rows_within, rows_under}
use Rattle.jobs.specs.Jobs.{ends_job, close_if, JobCalled, charged, step_by, close_reply, JobCall, hand, shut, account_at, is_served, taken_by, handed_to, replied_to}

-- ---- the rows

numbers : List JobRow → List ℕ
unfolding job_reply_number refusal_number
numbers rs = map (λ r. job_reply_number (against r.1)) rs

-- 25 directly after 15
behind-fifteen : (f : ℕ → Bool) (w : World) (s t : Session) (r : Rec) (bs : Bytes)
    → numbers (rows_within (some f) w s r t bs) ≡ 11 ∷ 19 ∷ 12 ∷ 13 ∷ 17 ∷ 18 ∷ 14 ∷ 20 ∷ 21 ∷ 15 ∷ 25 ∷ 16 ∷ []
unfolding numbers rows_within own_rows rows row25
behind-fifteen f w s t r bs = refl

-- without an allowance the row is not there
without : (w : World) (s t : Session) (r : Rec) (bs : Bytes) → numbers (rows_within none w s r t bs) ≡ 11 ∷ 19 ∷ 12 ∷ 13 ∷ 17 ∷ 18 ∷ 14 ∷ 20 ∷ 21 ∷ 15 ∷ 16 ∷ []
unfolding numbers rows_within own_rows rows row25
without w s t r bs = refl

-- 25 where the bytes are not admitted
not-admitted : (s t : Session) → row25 (some (λ n. false)) s t ≡ (true, over_allowance) ∷ []
unfolding row25
not-admitted s t = refl

-- a closed job's 11 stands first
closed-first : (opened : Bool) (w : World) (s t : Session) (r : Rec) (bs : Bytes)
    → take 1 (rows_under opened none w s r t bs) ≡ (not opened, by_session out_of_place) ∷ []
unfolding rows_under
closed-first opened w s t r bs = refl

first-of-two : map first_met (((false, over_allowance) ∷ (true, by_session unfit) ∷ (true, over_allowance) ∷ []) ∷ [] ∷ []) ≡ some (by_session unfit) ∷ none ∷ []
unfolding first_met
first-of-two = refl

reply-numbers : map job_reply_number (served ∷ not_set_up ∷ against over_allowance ∷ against (by_session tuples_full) ∷ []) ≡ 0 ∷ 26 ∷ 25 ∷ 15 ∷ []
unfolding job_reply_number refusal_number
reply-numbers = refl

-- ---- the allowance

ends-at-fi : map ends_job (parsed FI ∷ unparsed unfit ∷ []) ≡ true ∷ false ∷ []
unfolding ends_job is_finish
ends-at-fi = refl

abbrev two : Allowance
two = record { total = 9; count = 1; places = record { guarantee = 0; cap = 9; used = 4; mark = 1 } ∷ [] }

closes_if : map (λ b. close_if b two 0) (true ∷ false ∷ []) ≡ close_at two 0 ∷ two ∷ []
unfolding close_if
closes_if = refl

-- a refused record spends nothing, whatever the session holds then
refused-spends-nothing : (x y : Account) (bs : Bytes) → map (λ r. (charged two 0 x bs (r, y)).allowance) (not_set_up ∷ against over_allowance ∷ []) ≡ two ∷ two ∷ []
unfolding charged
refused-spends-nothing x y bs = refl

-- 26 before all else, 10 next
before-all : (x : Account) (bs : Bytes) → map (λ s. (step_by s two 0 x bs).reply) (unknown_job ∷ unfit_state ∷ []) ≡ not_set_up ∷ against (by_session unfit) ∷ []
unfolding step_by
before-all x bs = refl

close-replies : map close_reply (unknown_job ∷ unfit_state ∷ known no_job ∷ []) ≡ not_set_up ∷ against (by_session unfit) ∷ served ∷ []
unfolding close_reply
close-replies = refl

-- ---- lists

-- of job 1: a record that is served, and none of another job, refused, or a close call
taken-by : map (λ (c : JobReply × JobCall). taken_by 1 c.0 c.1) ((served, hand 1 (7 ∷ [])) ∷ (served, hand 0 (7 ∷ [])) ∷ (against over_allowance, hand 1 (7 ∷ [])) ∷ (served, shut 1) ∷ [])
    ≡ ((7 ∷ []) ∷ []) ∷ [] ∷ [] ∷ [] ∷ []
unfolding taken_by is_served only_if
taken-by = refl

other-stays : (x y : Account) → map (account_at 1 y (λ k. x)) (0 ∷ 1 ∷ 2 ∷ []) ≡ x ∷ y ∷ x ∷ []
other-stays x y = refl

-- of job 1: its records, and behind a close call for it those with the mark; one for job 0 is none for it
handed-on : handed_to 1 false (hand 1 (7 ∷ []) ∷ hand 0 (8 ∷ []) ∷ shut 0 ∷ hand 1 (9 ∷ []) ∷ shut 1 ∷ hand 1 [] ∷ []) ≡ (false, 7 ∷ []) ∷ (false, 9 ∷ []) ∷ (true, []) ∷ []
unfolding handed_to only_if
handed-on = refl

replied-on : map (λ (c : JobReply × JobCall). replied_to 1 c.0 c.1) ((served, hand 1 []) ∷ (not_set_up, hand 0 []) ∷ (served, shut 1) ∷ []) ≡ (served ∷ []) ∷ [] ∷ [] ∷ []
unfolding replied_to only_if
replied-on = refl
