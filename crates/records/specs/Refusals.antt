-- The refusals, each with its number: document 01's, and 20 and 21 of request U1. Two share the number 5. Their order is that of the rows that test for them.
-- Assumes nothing.
use Rattle.std.specs.Prelude.{ℕ, Bool, cond, List, [], ◌∷◌}
use Rattle.std.proofs.Math.Option.{Option, none, some}

pub data Refusal : Type 0 where
  unfit unknown_mark too_long misframed not_utf8 bad_byte over_limit : Refusal
  out_of_place too_many_events undefined unbalanced bound_twice definitions_full : Refusal
  too_deep too_many_scopes too_many_selections tuples_full reports_full : Refusal

unfoldable pub refusal_number : Refusal → ℕ
refusal_number unfit = 10
refusal_number unknown_mark = 1
refusal_number too_long = 5
refusal_number misframed = 2
refusal_number not_utf8 = 3
refusal_number bad_byte = 4
refusal_number over_limit = 5
refusal_number out_of_place = 11
refusal_number too_many_events = 19
refusal_number undefined = 12
refusal_number unbalanced = 13
refusal_number bound_twice = 17
refusal_number definitions_full = 18
refusal_number too_deep = 14
refusal_number too_many_scopes = 20
refusal_number too_many_selections = 21
refusal_number tuples_full = 15
refusal_number reports_full = 16

-- A row of a list of refusals: the test, and what is answered where it holds.
abbrev pub Row : Type 0
Row = Bool × Refusal

-- the first row whose test holds
unfoldable pub first_of : List Row → Option Refusal
first_of [] = none
first_of (r ∷ rs) = cond r.0 (some r.1) (first_of rs)
