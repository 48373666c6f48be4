-- Computed: a number raised and one at its limit; the places of selections, TUs and reports; and what the code's answers stand for.
-- Assumes nothing.
use Rattle.std.specs.Prelude.{ℕ, replicate, ◌≡◌, refl, Some, None, List, [], ◌∷◌, ◌++◌, map}
use Rattle.std.proofs.Math.Option.{none, some}
use Rattle.records.specs.Readers.{Bytes, on_read, ◌>>=◌, pass, read_byte, read_two, cons_on, read_bytes, up_to, on_whole}
use Rattle.session_spec.specs.Definitions.{frame}
use Rattle.session_spec.specs.Layout.{parts, more_in, unpack, pack}
use Rattle.cells.specs.Cells.{scope_at}
use Rattle.output_stores.specs.Stores.{standing}
use Rattle.open_scopes.specs.declared.Scope.{Scope}
use Rattle.open_scopes.specs.declared.Numbers.{Numbers}
use Rattle.open_scopes.specs.OpenScopes.{open_of}
use Rattle.counting.specs.Places.{raised_at, raised_all, finished_places, tuple_places, report_places, places_of}
use Rattle.counting.specs.Readings.{reading_of}

-- ---- raising

one-raised : raised_at (5 ∷ 6 ∷ 7 ∷ []) 1 ≡ 5 ∷ 7 ∷ 7 ∷ []
unfolding raised_at
one-raised = refl

full-stays : raised_at (31999999 ∷ 32000000 ∷ []) 1 ≡ 31999999 ∷ 32000000 ∷ []
unfolding raised_at
full-stays = refl

-- past the numbers nothing is raised; the same place twice is raised twice
some-raised : raised_all (0 ∷ 0 ∷ []) (1 ∷ 7 ∷ 1 ∷ []) ≡ 0 ∷ 2 ∷ []
unfolding raised_all raised_at
some-raised = refl

-- ---- places

-- a selection whose scope stands at this place: its third cell begins with it, above the state
abbrev chosen : ℕ → Bytes
chosen place = replicate 256 0 ++ (place ∷ replicate 255 0)

abbrev scopes : List Scope
scopes = record { constraint = 4; number = 9; depth = 1 } ∷ record { constraint = 2; number = 8; depth = 1 } ∷ []

abbrev three-selections : Bytes
three-selections = chosen 8 ++ (chosen 8 ++ chosen 0)

-- the last two of three: of constraint 2, then of constraint 4
last-finished : finished_places scopes three-selections 1 2 ≡ 6 ∷ 12 ∷ []
unfolding finished_places scope_at more_in
last-finished = refl

-- two TUs with one byte behind their number, and a part of a third
abbrev two-tuples : Bytes
two-tuples = 84 ∷ 85 ∷ 2 ∷ 0 ∷ 3 ∷ 1 ∷ 84 ∷ 85 ∷ 2 ∷ 0 ∷ 1 ∷ 3 ∷ 84 ∷ []

tuples-at : tuple_places two-tuples ≡ 10 ∷ 4 ∷ []
unfolding tuple_places standing up_to on_whole frame on_read ◌>>=◌ pass read_byte read_two read_bytes cons_on
tuples-at = refl

-- two reports, of kinds 6 and 4
abbrev two-reports : Bytes
two-reports = 82 ∷ 80 ∷ 6 ∷ 1 ∷ replicate 14 0 ++ (82 ∷ 80 ∷ 4 ∷ 3 ∷ replicate 14 0)

reports-at : report_places two-reports ≡ 5 ∷ 11 ∷ []
unfolding report_places parts
reports-at = refl

-- ---- all of a record: of three selections the last finished, and a TU and a report stand behind those that were there

abbrev was : Numbers
was = record { events = 7; running = pack (record { stage = 2; scopes = 2; selections = 3; opened = 9 }); definitions = 0; tuples = 6; reports = 18 }

abbrev is : Numbers
is = record { events = 8; running = pack (record { stage = 2; scopes = 1; selections = 2; opened = 9 }); definitions = 0; tuples = 12; reports = 36 }

abbrev after-end : List ℕ
after-end = places_of was is scopes two-tuples two-reports three-selections

all-places : after-end ≡ 12 ∷ 4 ∷ 11 ∷ []
unfolding places_of pack unpack open_of finished_places scope_at more_in tuple_places standing up_to on_whole frame on_read ◌>>=◌ pass read_byte read_two read_bytes cons_on report_places parts
all-places = refl

-- ---- answers

answers : map reading_of (None ∷ Some (record { reached = 1; tuples = 2; reports = 3 }) ∷ []) ≡ none ∷ some (record { reached = 1; tuples = 2; reports = 3 }) ∷ []
answers = refl
