-- THE TOTALS of a session: 32 entries, one for each constraint that there may be, of vouchers reached, tuples and reports. The numbers stand one behind
-- the other, 96 in all.
-- Assumes nothing.
use Rattle.std.specs.Prelude.{ℕ, zero, suc, ◌+◌, leb, ltb, length, take, replicate, Bool, cond}
use mathlib.Core.List.{List, [], ◌∷◌, flat_map}
use Rattle.std.proofs.Math.Option.{Option, none, some}
use Rattle.lists.specs.Lists.{all}
use Rattle.records.specs.Readers.{Bytes}
use Rattle.records.specs.Records.{Rec, Parsed, unparsed, parsed}
use Rattle.session_spec.specs.Definitions.{Definitions, read_definitions}
use Rattle.session_spec.specs.Session.{Session, next, new_tuples, new_reports}
use Rattle.session_spec.specs.Runs.{event_of}
use Rattle.totals.specs.Counts.{tuples_of, reports_of, times, finishing}

pub record Total : Type 0 where
  pub reached : ℕ
  pub tuples : ℕ
  pub reports : ℕ

abbrev pub nothing : Total
nothing = record { reached = 0; tuples = 0; reports = 0 }

abbrev pub Totals : Type 0
Totals = List ℕ

-- a session just set up
abbrev pub no_totals : Totals
no_totals = replicate 96 0

-- the entry of constraint k
unfoldable pub entry_at : Totals → (k : ℕ) → Total
entry_at [] k = nothing
entry_at (a ∷ []) k = nothing
entry_at (a ∷ b ∷ []) k = nothing
entry_at (a ∷ b ∷ c ∷ ns) zero = record { reached = a; tuples = b; reports = c }
entry_at (a ∷ b ∷ c ∷ ns) (suc k) = entry_at ns k

-- ---- a number over 32,000,000 is a count above its limit

abbrev pub fits_total : ℕ → Bool
fits_total n = leb n 32000000

unfoldable pub totals_fit : Totals → Bool
totals_fit ns = all fits_total ns

-- ---- what a record that is taken brings to constraint k; `s` is the session before it, `t` after it

-- the constraints of the selections that it finishes
unfoldable pub finished_by : Session → Rec → List ℕ
finished_by s r = flat_map (finishing s.state) (event_of r)

unfoldable pub brings : Session → Rec → Session → (k : ℕ) → Total
brings s r t k =
    record {
      reached = times k (finished_by s r);
      tuples = tuples_of k (new_tuples s t);
      reports = reports_of k (new_reports s t);
    }

-- no number passes the limit; in a run none comes to it
unfoldable pub sum_up_to : ℕ → ℕ → ℕ
sum_up_to a b = cond (leb (a + b) 32000000) (a + b) 32000000

-- entry by entry, from number k on
unfoldable pub grown_from : (ℕ → Total) → (k : ℕ) → Totals → Totals
grown_from more k [] = []
grown_from more k (a ∷ []) = a ∷ []
grown_from more k (a ∷ b ∷ []) = a ∷ b ∷ []
grown_from more k (a ∷ b ∷ c ∷ ns) =
    sum_up_to a (more k).reached ∷ sum_up_to b (more k).tuples ∷ sum_up_to c (more k).reports ∷ grown_from more (suc k) ns

-- by a record that was taken
unfoldable pub grown_by : Option Session → Parsed → Totals → Totals
grown_by none p ns = ns
grown_by (some s) (unparsed c) ns = ns
grown_by (some s) (parsed r) ns = grown_from (brings s r (next s r)) 0 ns

-- ---- THE READING

-- how many constraints the used part of a definition store has; none where it does not read, or where more is used than there is
unfoldable pub count_of : Option Definitions → ℕ
count_of none = 0
count_of (some d) = length d.ids

unfoldable pub constraints_in : (used : ℕ) → Bytes → ℕ
constraints_in used store = cond (leb used (length store)) (count_of (read_definitions (take used store))) 0

-- three zeros for a number that no constraint has; none is refusal 10
unfoldable pub total_of : Totals → (constraints : ℕ) → (number : ℕ) → Option Total
total_of ns n k = cond (totals_fit ns) (some (cond (ltb k n) (entry_at ns k) nothing)) none
