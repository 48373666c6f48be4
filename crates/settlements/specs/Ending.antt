-- What the bytes hold when an element ends, and what is to be answered and written then.
-- Assumes nothing.
use Rattle.std.specs.Prelude.{ℕ, suc, ◌+◌, ◌*◌, ◌≤◌, ◌<◌, eqb, length, drop, get_or, ◌≡◌, Bool, cond}
use Rattle.std.proofs.Math.ListN.{get_elem?}
use mathlib.Core.List.{List, [], ◌∷◌, map, flat_map}
use Rattle.std.proofs.Math.Option.{Option, none, some}
use Rattle.lists.specs.Lists.{part, over, All}
use Rattle.texts.specs.Texts.{Text}
use Rattle.paths.specs.Names.{Name}
use Rattle.paths.specs.Reading.{every}
use Rattle.tree.specs.Events.{End}
use Rattle.tree.specs.Cells.{reach}
use Rattle.tree.specs.Judge.{Tuple, keys_of, outcome, present}
use Rattle.machine.specs.Machine.{OpenScope, Selection, feed, end_gives}
use Rattle.records.specs.Readers.{Bytes, reads}
use Rattle.session_spec.specs.Definitions.{Definitions, read_definitions}
use Rattle.session_spec.specs.Layout.{TuRecord, read_tu, put_tu, put_rp, as_tuple, parts, put_scope, put_selection, selection_in}
use Rattle.session_laws.proofs.Areas.{SelectionFit}
use Rattle.session_laws.proofs.Constraints.{ConstraintFit}
use Rattle.output_stores.specs.Stores.{Appended}
use Rattle.tuple_search.specs.Search.{keys_in, tu_bytes}
use Rattle.tuple_marks.specs.Marks.{AllMarked}
use Rattle.open_scopes.specs.declared.Scopes.{Scopes}
use Rattle.open_scopes.specs.OpenScopes.{records_of}
use Rattle.runs.proofs.TwoPass.{Added, adds, adds_all}
use Rattle.settlements.specs.declared.Tuples as code
use Rattle.settlements.specs.declared.Ending.{Ending}
use Rattle.settlements.specs.declared.Settled.TheVariants.{Nothing}
use Rattle.settlements.specs.declared.Home.{Home}
use Rattle.settlements.specs.declared.Sized.{Sized}
use Rattle.settlements.specs.declared.Settling.{Settling}
use Rattle.settlements.specs.declared.Written.{Written}
use Rattle.settlements.specs.Finished.{Told, count_for, Settlement, settlement_of, kind_in, added_of}

-- ---- what is known

-- The constraints, the open scopes and selections, the names of the open elements, the end of the innermost one, and
-- the tuples so far.
pub record Ended : Type 0 where
  pub defs : Definitions
  pub scopes : List OpenScope
  pub selections : List Selection
  pub names : List Name
  pub end : End
  pub tuples : List Tuple

-- a selection after the element's hits
abbrev pub fed_by : Ended → Selection → Selection
fed_by k x = feed k.names (end_gives k.end) x

-- the selections that finish, from a place on
unfoldable pub finished : Ended → (first : ℕ) → List Selection
finished k first = drop first (map (fed_by k) k.selections)

-- the open scopes and the definitions lie in what is handed in, and each scope's constraint is defined
pub record ScopesIn (k : Ended) (scopes : Scopes) (defs : Bytes) : Type 0 where
  pub defined : read_definitions defs ≡ some k.defs
  pub same : records_of scopes ≡ map put_scope k.scopes
  pub known : All (λ o. ConstraintFit k.defs o.scope.constraint) k.scopes

-- selection j stands in the cells as x
pub record StandsAt (k : Ended) (cells : Bytes) (j : ℕ) (x : Selection) : Type 0 where
  pub bytes : part cells (512 * j) 512 ≡ put_selection k.scopes x
  pub fit : SelectionFit k.scopes x

-- the simple byte and the key of the end
pub record EndIs (k : Ended) (byte : ℕ) (key : Text) : Type 0 where
  pub simple : byte ≡ k.end.simple
  pub text : key ≡ k.end.key
  pub short : length key ≤ 126

-- number 32 f + j of the counts says how often the element hits field f of selection j, which is x
abbrev pub CountedFor : Ended → (counts : Bytes) → (j : ℕ) → Selection → Type 0
CountedFor k counts j x =
    (f : ℕ) → f < 4 → count_for counts j f ≡ reach (get_or x.scope.constraint.fields f []) (drop x.depth k.names) none

-- the used bytes of the tuple store, and marks of all that stands there
pub record TuplesIn (k : Ended) (used : Bytes) (marks : List ℕ) : Type 0 where
  pub tus : List TuRecord
  pub read : reads read_tu used ≡ some tus
  pub same : map (as_tuple k.defs) tus ≡ k.tuples
  pub few : length k.tuples ≤ 4294967295
  pub marked : AllMarked marks used

-- there are marks of all that stands there
abbrev pub Marked : code.Tuples → Type 0
Marked t = AllMarked t.marks.now t.used.now

-- ALL OF IT, where the selections from `first` to `n` finish
pub record Finishing (k : Ended) (cells : Bytes) (first n : ℕ) (counts : Bytes) (byte : ℕ) (key : Text) (scopes : Scopes) (defs : Bytes) : Type 0 where
  pub scopes_in : ScopesIn k scopes defs
  pub end_is : EndIs k byte key
  pub many : length k.selections ≡ n
  pub few : n ≤ 32
  pub read : every (selection_in k.scopes) (parts 512 n cells) ≡ some k.selections
  pub fit : All (SelectionFit k.scopes) k.selections
  pub counted : (j : ℕ) (x : Selection) → first ≤ j → get_elem? k.selections j ≡ some x → CountedFor k counts j x

-- ---- one selection

-- its scope and its constraint
pub record HomeOf (x : Selection) (h : Home) : Type 0 where
  pub constraint : h.constraint ≡ x.scope.constraint.number
  pub number : h.number ≡ x.scope.number
  pub kind : kind_in h.kind ≡ x.scope.constraint.kind
  pub referred : h.referred ≡ present x.scope.constraint.refer
  pub fields : h.fields ≡ length x.cells

-- what it adds, judged against the tuples as they stand
abbrev pub adds_of : Ended → (event : ℕ) → Selection → Added
adds_of k e x = adds k.tuples e x.scope (outcome x.cells)

-- the size of the TU with the keys of these cells, where it is kept
pub record KeptSize (keeps : Bool) (fields : ℕ) (cells : Bytes) (r : ℕ) : Type 0 where
  pub same : r ≡ cond keeps (length (tu_bytes 0 0 (keys_in fields cells))) 0
  pub short : r ≤ 522

-- the answer says what the finished selection x adds, and how many bytes its TU has
pub record Comes (k : Ended) (x : Selection) (r : Sized) : Type 0 where
  pub says : (e : ℕ) → added_of (settlement_of r.settled) e x.scope (keys_of x.cells) ≡ adds_of k e x
  pub size : (e : ℕ) → r.size ≡ length (flat_map put_tu (adds_of k e x).tuples)

pub record SettlesOne (cells : Bytes) (j : ℕ) (counts : Bytes) (byte : ℕ) (key : Text) (scopes : Scopes) (defs used : Bytes) (marks : List ℕ) (r : Sized) : Type 0 where
  pub short : r.size ≤ 522
  pub says : (k : Ended) (x : Selection) → ScopesIn k scopes defs → StandsAt k cells j x → EndIs k byte key → CountedFor k counts j x → TuplesIn k used marks
      → Comes k (fed_by k x) r

-- ---- all of them

-- 1 where there is a report
abbrev pub report_or : Option Told → ℕ
report_or none = 0
report_or (some t) = 1

-- what is remembered of selection j
abbrev pub settled_at : Settling → (j : ℕ) → Settlement
settled_at s j = settlement_of (get_or s.each j Nothing)

-- what that says each of the finished selections adds, the first of which is number j
unfoldable pub remembered_from : (event : ℕ) → Settling → (j : ℕ) → List Selection → List Added
remembered_from e s j [] = []
remembered_from e s j (x ∷ xs) = added_of (settled_at s j) e x.scope (keys_of x.cells) ∷ remembered_from e s (suc j) xs

-- the list of what each adds
abbrev pub Remembers : Ended → (first event : ℕ) → Settling → Type 0
Remembers k first e s = remembered_from e s first (finished k first) ≡ map (adds_of k e) (finished k first)

abbrev pub all_add : Ended → (first event : ℕ) → Added
all_add k first e = adds_all k.tuples e (finished k first)

pub record SettledAll (k : Ended) (first : ℕ) (s : Settling) : Type 0 where
  pub bytes : (e : ℕ) → s.bytes ≡ length (flat_map put_tu (all_add k first e).tuples)
  pub reports : (e : ℕ) → s.reports ≡ length (all_add k first e).reports
  pub each : (e : ℕ) → Remembers k first e s

-- ---- writing

-- what is remembered of selection j, which stands as x, is what it adds at this event: its TU is appended
abbrev pub WritesTuple : Settlement → (cells : Bytes) → (j : ℕ) → (counts : Bytes) → (byte : ℕ) → (key : Text) → Scopes → (defs : Bytes)
    → (before : Bytes) → (used next : ℕ) → (after : Bytes) → Type 0
WritesTuple s cells j counts byte key scopes defs before used next after =
    (k : Ended) (x : Selection) (e : ℕ) → ScopesIn k scopes defs → StandsAt k cells j x → EndIs k byte key → CountedFor k counts j x
    → added_of s e (fed_by k x).scope (keys_of (fed_by k x).cells) ≡ adds_of k e (fed_by k x)
    → Appended before used (flat_map put_tu (adds_of k e (fed_by k x)).tuples) next after

-- and the report on it
abbrev pub WritesReport : Settlement → (cells : Bytes) → (j : ℕ) → Scopes → (event : ℕ) → (before : Bytes) → (used next : ℕ) → (after : Bytes) → Type 0
WritesReport s cells j scopes event before used next after =
    (k : Ended) (x : Selection) (defs : Bytes) → ScopesIn k scopes defs → StandsAt k cells j x
    → added_of s event (fed_by k x).scope (keys_of (fed_by k x).cells) ≡ adds_of k event (fed_by k x)
    → Appended before used (flat_map put_rp (adds_of k event (fed_by k x)).reports) next after

-- the same of all that finish, where there is room
abbrev pub WritesTuples : Settling → (cells : Bytes) → (first n : ℕ) → (counts : Bytes) → (byte : ℕ) → (key : Text) → Scopes → (defs : Bytes)
    → (before : Bytes) → (used next : ℕ) → (after : Bytes) → Type 0
WritesTuples s cells first n counts byte key scopes defs before used next after =
    (k : Ended) (e : ℕ) → Finishing k cells first n counts byte key scopes defs → Remembers k first e s
    → used + length (flat_map put_tu (all_add k first e).tuples) ≤ length before → Appended before used (flat_map put_tu (all_add k first e).tuples) next after

abbrev pub WritesReports : Settling → (cells : Bytes) → (first n : ℕ) → Scopes → (event : ℕ) → (before : Bytes) → (used next : ℕ) → (after : Bytes) → Type 0
WritesReports s cells first n scopes event before used next after =
    (k : Ended) (counts : Bytes) (byte : ℕ) (key : Text) (defs : Bytes) → Finishing k cells first n counts byte key scopes defs → Remembers k first event s
    → used + length (flat_map put_rp (all_add k first event).reports) ≤ length before → Appended before used (flat_map put_rp (all_add k first event).reports) next after

-- WHAT STANDS IN BOTH STORES after the event, and how much of them is used then
pub record WrittenAll (k : Ended) (first event : ℕ) (tuples : Bytes) (tused : ℕ) (reports : Bytes) (rused : ℕ) (r : Written) (tuples_after reports_after : Bytes) : Type 0 where
  pub tuples_used : r.tuples ≡ tused + length (flat_map put_tu (all_add k first event).tuples)
  pub reports_used : r.reports ≡ rused + 18 * length (all_add k first event).reports
  pub tuple_store : tuples_after ≡ over tuples tused (flat_map put_tu (all_add k first event).tuples)
  pub report_store : reports_after ≡ over reports rused (flat_map put_rp (all_add k first event).reports)

abbrev pub WritesAll : Settling → (cells : Bytes) → (first n : ℕ) → (counts : Bytes) → (byte : ℕ) → (key : Text) → Scopes → (defs : Bytes) → (event : ℕ)
    → (tuples : Bytes) → (tused : ℕ) → (reports : Bytes) → (rused : ℕ) → Written → (tuples_after reports_after : Bytes) → Type 0
WritesAll s cells first n counts byte key scopes defs event tuples tused reports rused r tuples_after reports_after =
    (k : Ended) → Finishing k cells first n counts byte key scopes defs → Remembers k first event s
    → tused + length (flat_map put_tu (all_add k first event).tuples) ≤ length tuples → rused + 18 * length (all_add k first event).reports ≤ length reports
    → WrittenAll k first event tuples tused reports rused r tuples_after reports_after

-- ---- the same of what code is given where an element ends

abbrev pub FinishesBy : Ended → Ending → Type 0
FinishesBy k g = Finishing k g.cells.now g.first g.n g.counts.now g.simple g.key.now g.scopes g.defs.now

abbrev pub SettlesBy : Ending → (j : ℕ) → (used : Bytes) → (marks : List ℕ) → Sized → Type 0
SettlesBy g j used marks r = SettlesOne g.cells.now j g.counts.now g.simple g.key.now g.scopes g.defs.now used marks r

abbrev pub WritesTupleBy : Settlement → Ending → (j : ℕ) → (before : Bytes) → (used next : ℕ) → (after : Bytes) → Type 0
WritesTupleBy s g j before used next after =
    WritesTuple s g.cells.now j g.counts.now g.simple g.key.now g.scopes g.defs.now before used next after

abbrev pub WritesReportBy : Settlement → Ending → (j event : ℕ) → (before : Bytes) → (used next : ℕ) → (after : Bytes) → Type 0
WritesReportBy s g j event before used next after = WritesReport s g.cells.now j g.scopes event before used next after

abbrev pub WritesTuplesBy : Settling → Ending → (before : Bytes) → (used next : ℕ) → (after : Bytes) → Type 0
WritesTuplesBy s g before used next after =
    WritesTuples s g.cells.now g.first g.n g.counts.now g.simple g.key.now g.scopes g.defs.now before used next after

abbrev pub WritesReportsBy : Settling → Ending → (event : ℕ) → (before : Bytes) → (used next : ℕ) → (after : Bytes) → Type 0
WritesReportsBy s g event before used next after = WritesReports s g.cells.now g.first g.n g.scopes event before used next after

abbrev pub WritesAllBy : Settling → Ending → (event : ℕ) → (tuples : Bytes) → (tused : ℕ) → (reports : Bytes) → (rused : ℕ) → Written
    → (tuples_after reports_after : Bytes) → Type 0
WritesAllBy s g event tuples tused reports rused r tuples_after reports_after =
    WritesAll s g.cells.now g.first g.n g.counts.now g.simple g.key.now g.scopes g.defs.now event tuples tused reports rused r tuples_after
    reports_after
