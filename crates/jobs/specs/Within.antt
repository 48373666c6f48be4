-- A SESSION'S CALL UNDER AN ALLOWANCE: its refusals, with 25 directly after 15; to a closed job 11 in 11's place.
-- Assumes nothing.
use Rattle.std.specs.Prelude.{ℕ, length, take, drop, Bool, true, false, cond, not, List, [], ◌∷◌, ◌++◌, map}
use Rattle.std.proofs.Math.Option.{Option, none, some}
use Rattle.records.specs.Readers.{Bytes}
use Rattle.records.specs.Refusals.{Refusal, unfit, out_of_place, refusal_number, Row}
use Rattle.records.specs.Records.{Rec, Parsed, unparsed, parsed, parse}
use Rattle.session_spec.specs.Session.{World, Session, decode, next, tuple_bytes, rows, patch}

-- what a session answers under an allowance, with the numbers of documents 01 and 02
pub data Against : Type 0 where
  by_session : Refusal → Against
  over_allowance : Against

pub data JobReply : Type 0 where
  served not_set_up : JobReply
  against : Against → JobReply

unfoldable pub job_reply_number : JobReply → ℕ
job_reply_number served = 0
job_reply_number not_set_up = 26
job_reply_number (against over_allowance) = 25
job_reply_number (against (by_session c)) = refusal_number c

-- ---- the refusals in their order

abbrev pub JobRow : Type 0
JobRow = Bool × Against

unfoldable pub first_met : List JobRow → Option Against
first_met [] = none
first_met (r ∷ rs) = cond r.0 (some r.1) (first_met rs)

unfoldable pub own_rows : List Row → List JobRow
own_rows rs = map (λ r. (r.0, by_session r.1)) rs

-- 25: the allowance does not admit the event's TUs; without an allowance there is no such row
unfoldable pub row25 : (admitted : Option (ℕ → Bool)) → Session → Session → List JobRow
row25 none s t = []
row25 (some admitted) s t = (not (admitted (length (tuple_bytes s t))), over_allowance) ∷ []

-- the first ten rows of a session are those up to 15
unfoldable pub rows_within : Option (ℕ → Bool) → World → Session → Rec → Session → Bytes → List JobRow
rows_within a w s r t bs = own_rows (take 10 (rows w s r t bs)) ++ (row25 a s t ++ own_rows (drop 10 (rows w s r t bs)))

-- a closed job takes no more records
unfoldable pub rows_under : (opened : Bool) → Option (ℕ → Bool) → World → Session → Rec → Session → Bytes → List JobRow
rows_under opened a w s r t bs = (not opened, by_session out_of_place) ∷ rows_within a w s r t bs

-- ---- the call

unfoldable pub settled_under : World → Session → Rec → Session → Bytes → Option Against → JobReply × World
settled_under w s r t bs none = (served, patch w s r t bs)
settled_under w s r t bs (some c) = (against c, w)

unfoldable pub considered_under : Bool → Option (ℕ → Bool) → World → Session → Bytes → Parsed → JobReply × World
considered_under opened a w s bs (unparsed c) = (against (by_session c), w)
considered_under opened a w s bs (parsed r) = settled_under w s r (next s r) bs (first_met (rows_under opened a w s r (next s r) bs))

unfoldable pub attempt_under : Bool → Option (ℕ → Bool) → World → Bytes → Option Session → JobReply × World
attempt_under opened a w bs none = (against (by_session unfit), w)
attempt_under opened a w bs (some s) = considered_under opened a w s bs (parse bs)

unfoldable pub step_under : (opened : Bool) → (admitted : Option (ℕ → Bool)) → World → Bytes → JobReply × World
step_under opened a w bs = attempt_under opened a w bs (decode w)

-- of an open session; without an allowance it is `step`
unfoldable pub step_within : (admitted : Option (ℕ → Bool)) → World → Bytes → JobReply × World
step_within a w bs = step_under true a w bs
