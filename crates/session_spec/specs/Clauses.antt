-- Computed: single clauses of the session, each on the smallest case that shows it. Examples has whole runs.
-- Assumes nothing.
use Rattle.std.specs.Prelude.{ℕ, ◌*◌, eqb, take, replicate, ◌≡◌, Bool, true, false, ◌&&◌}
use Rattle.std.proofs.Math.Path.{refl}
use Rattle.std.proofs.Common.{ap}
use mathlib.Core.List.{List, [], ◌∷◌, ◌++◌, map, flat_map}
use Rattle.std.proofs.Math.Option.{none, some}
use Rattle.lists.specs.Lists.{any, only_if, passing, over}
use Rattle.texts.specs.Texts.{Text, same}
use Rattle.numbers.specs.Numbers.{two_bytes, four_bytes}
use Rattle.paths.specs.Names.{Name}
use Rattle.paths.specs.Reading.{or_else}
use Rattle.tree.specs.Cells.{Set, SetNillable}
use Rattle.tree.specs.Tree.{items}
use Rattle.tree.specs.Judge.{Tuple, Report, blank, judge_all, kind_six}
use Rattle.machine.specs.Machine.{OpenScope}
use Rattle.records.specs.Readers.{Bytes, reads, record_at, put_text, put_texts}
use Rattle.records.specs.Refusals.{Refusal, unfit, out_of_place, too_many_events, undefined, unbalanced, bound_twice, definitions_full, too_deep, too_many_scopes, too_many_selections, tuples_full, reports_full, refusal_number, Row}
use Rattle.records.specs.Records.{IdRecord, NsRecord, Rec, ID, NS, ES, FI, parse}
use Rattle.session_spec.specs.Definitions.{Definition, Definitions, no_definitions, bind_last, is_definition, is_undefined, is_bound, too_many_defined, xml_prefix, xml_namespace, look_up, uri_of, is_some, no_constraint, constraint_at}
use Rattle.session_spec.specs.Layout.{read_tu, put_tu, key_at, tuple_field, part_in, put_rp, pad, cell_state, key_of, put_cell, cell_from, place_of, head_cell, tail_cells, put_cells, put_selection, exactly}
use Rattle.session_spec.specs.Session.{World, during, done, Session, areas_fit, decode, told_by, new_tuples, new_reports, tuple_bytes, report_bytes, misplaced, is_unbalanced, rising, rows, patch, taken, refused, settled, step}
use Rattle.session_spec.specs.Runs.{Room, taken_of, accepted, is_finish, stored_reports, tree_of, tree_out, tree_rows}
use Rattle.session_spec.specs.Former.{former_step, former_calls, SameLengths, SameLeft}
use Rattle.session_spec.specs.Computed.{id, fi, lent, set_events, set_running, set_path_area, in_definitions, in_tuples, set_tuples, changed, packed, holding, called}

-- ---- definitions and prefixes

abbrev x : Text
x = 120 ∷ []

-- x bound to this URI, for this target
abbrev binding : ℕ → Text → Text → NsRecord
binding t p u = record { target = t; prefix = p; uri = u }

abbrev plain : IdRecord
plain = record { kind = 0; name = x; flag = 0; refer = none; selector = x; fields = x ∷ [] }

abbrev owning : List NsRecord → Definition
owning bs = record { id = plain; own = bs }

-- an own binding goes to the latest constraint
latest-bound : bind_last (binding 1 x []) (owning [] ∷ owning [] ∷ []) ≡ owning [] ∷ owning (binding 1 x [] ∷ []) ∷ []
unfolding bind_last
latest-bound = refl

-- `xml` is what it is, though it is bound; a binding of field 0 is none of the selector
xml-before-bindings : uri_of (record { ids = []; schema = binding 0 xml_prefix x ∷ []; bindings = 1 }) (owning []) 1 xml_prefix
    ≡ some xml_namespace
unfolding uri_of same look_up or_else
xml-before-bindings = refl

binding-of-its-path : uri_of no_definitions (owning (binding 2 x x ∷ [])) 1 x ≡ none
unfolding uri_of same look_up or_else passing only_if
binding-of-its-path = refl

bound-again : is_bound (NS (binding 0 x [])) (record { ids = []; schema = binding 0 x x ∷ []; bindings = 1 }) ≡ true
unfolding is_bound same
bound-again = refl

never-defined : is_undefined (ES (record { space = []; name = x; numbers = 0 ∷ []; attributes = [] })) no_definitions
    ≡ true
unfolding is_undefined
never-defined = refl

-- ---- bytes

abbrev tuple : Tuple
tuple = record { constraint = no_constraint; scope = 258; keys = x ∷ [] }

tu-bytes : put_tu tuple ≡ 84 ∷ 85 ∷ 9 ∷ 0 ∷ 0 ∷ 2 ∷ 1 ∷ 0 ∷ 0 ∷ 1 ∷ 1 ∷ 0 ∷ 120 ∷ []
unfolding put_tu two_bytes four_bytes put_text put_texts flat_map
tu-bytes = refl

abbrev line : Report
line = record { kind = 4; constraint = 0; field = 0; scope = 1; event = 6; tuple = 2 }

rp-bytes : put_rp line ≡ 82 ∷ 80 ∷ 4 ∷ 0 ∷ 0 ∷ 0 ∷ 1 ∷ 0 ∷ 0 ∷ 0 ∷ 6 ∷ 0 ∷ 0 ∷ 0 ∷ 2 ∷ 0 ∷ 0 ∷ 0 ∷ []
unfolding put_rp four_bytes two_bytes
rp-bytes = refl

-- the first field of TU 1, counted from 1; its part begins behind ten bytes of head and two of its length
first-is-1 : (used : Bytes) → tuple_field used 1 0 ≡ key_at (record_at 0 read_tu used) 0
unfolding tuple_field
first-is-1 used = refl

part-behind-its-length : part_in 0 (record { constraint = 0; scope = 1; keys = x ∷ [] }) 0
    ≡ record { start = 12; size = 1 }
unfolding part_in put_text put_texts flat_map
part-behind-its-length = refl

key-written : take 3 (put_cell 0 (Set x)) ≡ 1 ∷ 1 ∷ 120 ∷ []
unfolding put_cell pad cell_state key_of
key-written = refl

-- a cell on a nillable element: its state is 4, and its key stands there too
mark-written : take 3 (put_cell 2 (SetNillable x)) ≡ 20 ∷ 1 ∷ 120 ∷ []
unfolding put_cell pad cell_state key_of
mark-written = refl

-- it is read back as it was; the states 5 to 7 are none
mark-read : map (λ (s : ℕ). cell_from s x) (4 ∷ 5 ∷ 6 ∷ 7 ∷ []) ≡ some (SetNillable x) ∷ none ∷ none ∷ none ∷ []
unfolding cell_from
mark-read = refl

-- bytes that are not those of the selection
abbrev opened : OpenScope
opened = record { scope = record { number = 1; constraint = no_constraint }; depth = 1 }

other-bytes : exactly (opened ∷ []) opened [] (record { scope = opened.scope; depth = 1; cells = [] }) ≡ none
unfolding exactly put_selection put_cells put_cell pad cell_state key_of head_cell tail_cells place_of same
other-bytes = refl

-- ---- well formed

-- two scopes on one element
scopes-on-one : rising 0 1 (record { constraint = 0; number = 1; depth = 1 } ∷ record { constraint = 0; number = 2; depth = 1 } ∷ [])
    ≡ true
unfolding rising
scopes-on-one = refl

-- after one record that defines: no element open, so many scopes opened, so many TUs of scope 1 without fields
counting : ℕ → ℕ → World
unfolding called flat_map
counting n m =
    changed (holding (id 1 "" "." ("@id" ∷ []) ∷ []))
    (set_running (packed 1 0 0 n) ∷ in_tuples 0 (flat_map (λ (k : ℕ). 84 ∷ 85 ∷ 6 ∷ 0 ∷ 0 ∷ 1 ∷ 0 ∷ 0 ∷ 0 ∷ 0 ∷ []) (replicate m 0)) ∷ set_tuples (10 * m) ∷ [])

scopes-an-event : map (λ (n : ℕ). is_some (decode (counting n 0))) (8 ∷ 9 ∷ []) ≡ true ∷ false ∷ []
unfolding counting
scopes-an-event = refl

tuples-an-event : map (λ (m : ℕ). is_some (decode (counting 1 m))) (32 ∷ 33 ∷ []) ≡ true ∷ false ∷ []
unfolding counting
tuples-an-event = refl

-- the name of a constraint that kind 6 was reported for
name-told : (d : Definitions) → told_by d (kind_six 1 0 ∷ []) ≡ (constraint_at d 0).name ∷ []
unfolding told_by kind_six only_if flat_map
name-told d = refl

-- ---- the refusals because of the session

definition-after-ES : misplaced during (ID plain) ≡ true
unfolding misplaced is_definition
definition-after-ES = refl

anything-after-FI : misplaced done FI ≡ true
unfolding misplaced is_definition
anything-after-FI = refl

-- the order: 11, 19, 12, 13, 17, 18, 14, 20, 21, 15, 16; on bytes and on the tree
abbrev order : List Refusal
order =
    out_of_place ∷ too_many_events ∷ undefined ∷ unbalanced ∷ bound_twice ∷ definitions_full ∷ too_deep ∷ too_many_scopes ∷ too_many_selections ∷ tuples_full
    ∷ reports_full ∷ []

rows-in-order : (w : World) (s : Session) (r : Rec) (t : Session) (bs : Bytes)
    → map (λ (q : Row). q.1) (rows w s r t bs) ≡ order
unfolding rows
rows-in-order w s r t bs = refl

tree-rows-in-order : (room : Room) (kept : ℕ) (rs : List Rec) (r : Rec) (bs : Bytes)
    → map (λ (q : Row). q.1) (tree_rows room kept rs r bs) ≡ order
unfolding tree_rows
tree-rows-in-order room kept rs r bs = refl

-- a session with these elements open and this put out
abbrev holding_out : List Name → List Tuple → List Report → Session
holding_out ns ts rs =
    record {
      defs = no_definitions;
      stage = during;
      state = record {
        names = ns;
        scopes = [];
        selections = [];
        count = 0;
        events = 0;
        out = record { tuples = ts; reports = rs; told = [] };
      };
    }

-- a row with this number holds, where a record leads from nothing to this session
met : ℕ → World → Session → Bool
unfolding rows refusal_number misplaced is_undefined is_unbalanced is_bound too_many_defined is_definition new_tuples new_reports tuple_bytes report_bytes put_tu put_rp two_bytes four_bytes put_text put_texts flat_map lent
met n w t = any (λ q. eqb (refusal_number q.1) n && q.0) (rows w (holding_out [] [] []) FI t [])

elements-65 : met 14 (lent 0 0 0) (holding_out (replicate 65 (record { space = []; local = x })) [] []) ≡ true
unfolding met
elements-65 = refl

-- a TU of 13 bytes in 12 and in 13, an RP of 18 bytes in 18
tuple-over : met 15 (lent 0 12 0) (holding_out [] (tuple ∷ []) []) ≡ true
unfolding met
tuple-over = refl

tuple-fits : met 15 (lent 0 13 0) (holding_out [] (tuple ∷ []) []) ≡ false
unfolding met
tuple-fits = refl

report-fits : met 16 (lent 0 0 18) (holding_out [] [] (line ∷ [])) ≡ false
unfolding met
report-fits = refl

-- ---- what a call leaves

module _ (w : World) (s : Session) (r : Rec) (t : Session) (bs : Bytes) where
  -- a record that no refusal meets is taken, and a refusal leaves all as it was
  no-refusal-takes : settled w s r t bs none ≡ (taken, patch w s r t bs)
  unfolding settled
  no-refusal-takes = refl

  refusal-changes-nothing : settled w s r t bs (some unfit) ≡ (refused unfit, w)
  unfolding settled
  refusal-changes-nothing = refl

  -- the records are counted, TUs and RPs written behind what is used
  event-counted : (patch w s r t bs).events ≡ t.state.events
  unfolding patch
  event-counted = refl

  tuples-written : (patch w s r t bs).tuple_store ≡ over w.tuple_store w.tuples (tuple_bytes s t)
  unfolding patch
  tuples-written = refl

  reports-written : (patch w s r t bs).report_store ≡ over w.report_store w.reports (report_bytes s t)
  unfolding patch
  reports-written = refl

-- ---- runs

-- a record is accepted by its reply
accepted-by-reply : (w : World) (bs : Bytes) → accepted w (bs ∷ []) ≡ taken_of (step w bs).0 (parse bs) ++ []
unfolding accepted
accepted-by-reply w bs = refl

-- without FI no kind 5
no_finish : tree_out [] ≡ judge_all blank (items [] (tree_of []))
unfolding tree_out is_finish
no_finish = refl

-- ---- the path area, now and formerly

-- a session just set up with a path area of this length
with_area : ℕ → World
unfolding lent changed
with_area n = changed (lent 0 0 0) (set_path_area n ∷ [])

-- 1,024 bytes are enough, and nothing below them is
area-enough : map (λ (n : ℕ). areas_fit (with_area n)) (0 ∷ 1023 ∷ 1024 ∷ 1025 ∷ 16384 ∷ []) ≡ false ∷ false ∷ true ∷ true ∷ true ∷ []
unfolding areas_fit with_area
area-enough = refl

-- formerly 16,383 were not, whatever the record; with 16,384 it is answered as it is now
formerly-short : (x : Bytes) → former_step (with_area 16383) x ≡ (refused unfit, with_area 16383)
unfolding former_step with_area
formerly-short x = refl

formerly-enough : (x : Bytes) → former_step (with_area 16384) x ≡ step (with_area 16384) x
unfolding former_step with_area
formerly-enough x = refl

-- so the former calls: FI with 1,024 bytes; two FI with 16,384, of which the second is out of place
formerly-refused : former_calls (with_area 1024) (fi ∷ []) ≡ with_area 1024
unfolding former_calls former_step with_area called
formerly-refused = refl

formerly-taken : former_calls (with_area 16384) (fi ∷ fi ∷ []) ≡ changed (with_area 16384) (set_events 1 ∷ set_running 66 ∷ [])
unfolding former_calls former_step with_area called
formerly-taken = refl

-- other bytes in a store of the same length, and a path area of another
lent_alike : SameLengths (changed (lent 2 0 0) (in_definitions 0 (1 ∷ 2 ∷ []) ∷ [])) (changed (lent 2 0 0) (set_path_area 9 ∷ []))
unfolding called
lent_alike = record { definition_stores = refl; tuple_stores = refl; report_stores = refl; names = refl; scopes = refl; cells = refl }

-- of the same lengths, and of the path area's too: the areas of both are long enough, or those of neither
areas-alike : (v w : World) → SameLengths v w → v.path_area ≡ w.path_area → areas_fit v ≡ areas_fit w
unfolding areas_fit
areas-alike v w l p = rw (p, l.scopes, l.names, l.cells)

-- where the same is left, the numbers are the same, and the stored tuples and reports
same_numbers : (v w : World) → SameLeft v w
    → v.events ∷ v.running ∷ v.definitions ∷ v.tuples ∷ v.reports ∷ [] ≡ w.events ∷ w.running ∷ w.definitions ∷ w.tuples ∷ w.reports ∷ []
same_numbers v w s = λ i. s.events i ∷ s.running i ∷ s.definitions i ∷ s.tuples i ∷ s.reports i ∷ []

same-tuples : (v w : World) → SameLeft v w → reads read_tu (take v.tuples v.tuple_store) ≡ reads read_tu (take w.tuples w.tuple_store)
same-tuples v w s = ap (reads read_tu) s.tuple_bytes

same-reports : (v w : World) → SameLeft v w → stored_reports v ≡ stored_reports w
unfolding stored_reports
same-reports v w s = rw s.report_bytes
