-- Computed: document 01's run; one with a unique, a keyref and a constraint that does not read, before and after FI; the limit; and each definition by itself.
-- Assumes nothing.
use Rattle.std.specs.Prelude.{ℕ, ◌+◌, length, replicate, ◌≡◌, refl, true, false}
use mathlib.Core.List.{List, [], ◌∷◌, ◌++◌, map, flat_map}
use Rattle.std.proofs.Math.Option.{Option, none, some}
use Rattle.lists.specs.Lists.{all, only_if, passing}
use Rattle.tree.specs.Events.{Kind, unique, key, keyref, Constraint, Scope, ee}
use Rattle.tree.specs.Cells.{Cell, Unset, Set}
use Rattle.tree.specs.Tree.{Item, failed, finished}
use Rattle.tree.specs.Judge.{Tuple, Report, blank}
use Rattle.machine.specs.Machine.{Selection, State}
use Rattle.records.specs.Readers.{Bytes}
use Rattle.records.specs.Refusals.{unfit}
use Rattle.records.specs.Records.{FI}
use Rattle.session_spec.specs.Definitions.{no_definitions}
use Rattle.session_spec.specs.Session.{Session, done, new_tuples, new_reports, refused}
use Rattle.session_spec.specs.Runs.{new_session, event_of}
use Rattle.session_spec.specs.Computed as computed
use Rattle.session_spec.specs.Computed.{id, ref_to, es, fi, lent, called}
use Rattle.session_spec.specs.Examples.{whole_run}
use Rattle.totals.specs.Counts.{finished_for, reached, tuples_of, reports_of, times, finishing}
use Rattle.totals.specs.Totals.{Total, nothing, Totals, no_totals, entry_at, fits_total, totals_fit, finished_by, brings, sum_up_to, grown_from, grown_by, count_of, constraints_in, total_of}
use Rattle.totals.specs.Calls.{Account, tallied, advance, advanced}

abbrev total : ℕ → ℕ → ℕ → Total
total a b c = record { reached = a; tuples = b; reports = c }

abbrev fresh : Account
fresh = record { world = lent 256 256 256; totals = no_totals }

-- after these records, what is read of constraints 0 to 3 and of 40
read : Account → List Bytes → List (Option Total)
unfolding called advanced advance tallied totals_fit grown_by grown_from sum_up_to brings finished_by finishing times tuples_of reports_of event_of count_of constraints_in total_of entry_at
read a xs = let b = advanced a xs in map (total_of b.totals (constraints_in b.world.definitions b.world.definition_store)) (0 ∷ 1 ∷ 2 ∷ 3 ∷ 40 ∷ [])

one-run : read fresh whole_run ≡ some (total 3 1 2) ∷ some nothing ∷ some nothing ∷ some nothing ∷ some nothing ∷ []
unfolding read
one-run = refl

-- a unique that drops one of three and repeats another, a keyref with one that leads to an entry, one that leads nowhere and one that is dropped, a
-- selector that does not read, listed twice
abbrev others : List Bytes
others =
    id 0 "u" "r" ("@id" ∷ []) ∷ ref_to "k" "u" "s" ("@id" ∷ []) ∷ id 0 "x" "/" ("@id" ∷ []) ∷ es "t" (0 ∷ 1 ∷ 2 ∷ 2 ∷ []) []
    ∷ es "r" [] (("id", "a") ∷ []) ∷ computed.ee ∷ es "r" [] [] ∷ computed.ee ∷ es "r" [] (("id", "a") ∷ []) ∷ computed.ee
    ∷ es "s" [] (("id", "a") ∷ []) ∷ computed.ee ∷ es "s" [] (("id", "b") ∷ []) ∷ computed.ee ∷ es "s" [] [] ∷ computed.ee ∷ computed.ee ∷ []

running : read fresh others ≡ some (total 3 1 1) ∷ some (total 3 2 0) ∷ some (total 0 0 1) ∷ some nothing ∷ some nothing ∷ []
unfolding read
running = refl

-- FI brings the report of kind 5; a second FI is refused, and counts nothing
after_finish : read fresh (others ++ (fi ∷ fi ∷ [])) ≡ some (total 3 1 1) ∷ some (total 3 2 1) ∷ some (total 0 0 1) ∷ some nothing ∷ some nothing ∷ []
unfolding read
after_finish = refl

-- ---- the limit

-- a number at its limit is taken, and stays there; what comes goes to the right entry
abbrev almost : Account
almost = record { world = lent 256 256 256; totals = 31999999 ∷ 32000000 ∷ replicate 94 7 }

full : read almost whole_run ≡ some (total 32000000 32000000 9) ∷ some nothing ∷ some nothing ∷ some nothing ∷ some nothing ∷ []
unfolding read
full = refl

-- one over it is refused, also in the last entry, of a constraint that is not there
abbrev over : Totals
over = replicate 95 0 ++ (32000001 ∷ [])

over-read : map (total_of over 1) (0 ∷ 40 ∷ []) ≡ none ∷ none ∷ []
unfolding total_of totals_fit
over-read = refl

over-called : advance (record { world = lent 256 256 256; totals = over }) fi ≡ (refused unfit, record { world = lent 256 256 256; totals = over })
unfolding advance totals_fit
over-called = refl

-- ---- entries: of the three numbers from 3 on the second entry, and none where three are not there; the last constraint has one, the next has none
second-entry : map (entry_at (1 ∷ 2 ∷ 3 ∷ 4 ∷ 5 ∷ 6 ∷ 7 ∷ 8 ∷ [])) (1 ∷ 2 ∷ []) ≡ total 4 5 6 ∷ nothing ∷ []
unfolding entry_at
second-entry = refl

last-constraint : map (total_of (replicate 96 5) 2) (1 ∷ 2 ∷ []) ≡ some (total 5 5 5) ∷ some nothing ∷ []
unfolding total_of totals_fit entry_at
last-constraint = refl

-- ---- each by itself

abbrev of : ℕ → Kind → Scope
of k kind = record { number = 9; constraint = record { number = k; name = []; kind = kind; refer = none; selector = []; fields = [] } }

-- a key that is complete, a key that is not, a keyref, and one of another constraint; a constraint that does not read is no selection
abbrev happened : List Item
happened = finished 1 (of 5 key) (Set [] ∷ []) ∷ finished 2 (of 5 key) (Unset ∷ []) ∷ finished 3 (of 5 keyref) (Set [] ∷ []) ∷ finished 4 (of 6 key) (Set [] ∷ []) ∷ failed 5 5 [] ∷ []

all-reached : reached 5 happened ≡ 3
unfolding reached finished_for passing only_if
all-reached = refl

-- at an end with two elements open: the selections of the inner one finish, a keyref's and a second one of a constraint too
abbrev open_at : ℕ → ℕ → Kind → Selection
open_at d k kind = record { scope = of k kind; depth = d; cells = Unset ∷ [] }

abbrev two-open : State
two-open =
    record {
      names = (record { space = []; local = [] }) ∷ (record { space = []; local = [] }) ∷ [];
      scopes = [];
      selections = open_at 1 5 key ∷ open_at 2 5 key ∷ open_at 2 6 keyref ∷ open_at 2 5 unique ∷ [];
      count = 9;
      events = 3;
      out = blank;
    }

inner-finish : finishing two-open (ee (record { simple = 1; key = [] })) ≡ 5 ∷ 6 ∷ 5 ∷ []
unfolding finishing passing only_if
inner-finish = refl

twice : times 5 (5 ∷ 6 ∷ 5 ∷ []) ≡ 2
unfolding times passing only_if
twice = refl

abbrev tuple-of : ℕ → ℕ → Tuple
tuple-of k s = record { constraint = (of k key).constraint; scope = s; keys = [] }

tuples-counted : tuples_of 5 (tuple-of 5 1 ∷ tuple-of 6 5 ∷ tuple-of 5 2 ∷ []) ≡ 2
unfolding tuples_of passing only_if
tuples-counted = refl

abbrev report-of : ℕ → ℕ → Report
report-of kind k = record { kind = kind; constraint = k; field = 0; scope = 0; event = 1; tuple = 0 }

-- kind 6 as any other
reports-counted : reports_of 5 (report-of 1 5 ∷ report-of 6 5 ∷ report-of 6 4 ∷ report-of 4 5 ∷ []) ≡ 3
unfolding reports_of passing only_if
reports-counted = refl

-- FI brings its reports of kind 5
abbrev ended : Session
ended =
    record {
      defs = no_definitions;
      stage = done;
      state = record { names = []; scopes = []; selections = []; count = 0; events = 1; out = record { tuples = []; reports = report-of 5 2 ∷ []; told = [] } };
    }

kind-five-brought : brings new_session FI ended 2 ≡ total 0 0 1
unfolding brings finished_by event_of new_tuples new_reports times tuples_of reports_of passing only_if flat_map
kind-five-brought = refl

each-entry : grown_from (λ k. total (10 + k) (20 + k) (30 + k)) 3 (1 ∷ 2 ∷ 3 ∷ 4 ∷ 5 ∷ 6 ∷ []) ≡ 14 ∷ 25 ∷ 36 ∷ 18 ∷ 29 ∷ 40 ∷ []
unfolding grown_from sum_up_to
each-entry = refl

up_to : sum_up_to 31999999 5 ≡ 32000000
unfolding sum_up_to
up_to = refl

limits : map fits_total (32000000 ∷ 32000001 ∷ []) ≡ true ∷ false ∷ []
limits = refl

-- an EE that is refused counts nothing, though it would have finished a selection
abbrev selected : Account
selected = advanced fresh (id 1 "k" "." ("@id" ∷ []) ∷ es "t" (0 ∷ []) [] ∷ [])

refused-counts-nothing : (tallied selected computed.ee (refused unfit, selected.world)).1.totals ≡ no_totals
unfolding called advanced advance tallied totals_fit grown_by grown_from sum_up_to brings finished_by finishing times tuples_of reports_of event_of
refused-counts-nothing = refl

-- a store with one constraint; more used than there is, and bytes that do not read
abbrev keyed : Bytes
keyed = id 1 "k" "r" ("@id" ∷ [])

one-defined : constraints_in (length keyed) keyed ≡ 1
unfolding called constraints_in count_of
one-defined = refl

past-the-store : constraints_in 1 [] ≡ 0
unfolding constraints_in
past-the-store = refl

no-reading : constraints_in 1 (7 ∷ []) ≡ 0
unfolding called constraints_in count_of
no-reading = refl
