-- What the computed examples share: short ways to write a record and a world, and the calls with all that is unfolded to compute them. Each long
-- `unfolding` line stands here once; an example names the helper.
-- Assumes nothing.
use Prim.Native.String.{String}
use Rattle.std.specs.Prelude.{ℕ, suc, ◌+◌, length, take, replicate}
use mathlib.Core.List.{List, [], ◌∷◌, ◌++◌, map, flat_map, zip_with}
use Rattle.std.proofs.Math.Option.{Option, none, some}
use Rattle.lists.specs.Lists.{foldl, over}
use Rattle.texts.specs.Texts.{Text, same, same_all}
use Rattle.numbers.specs.Numbers.{two_bytes, four_bytes}
use Rattle.characters.specs.Ranges.{in_ranges}
use Rattle.characters.specs.Spaces.{xml_space}
use Rattle.paths.specs.Names.{Attribute, after_colon, name_of}
use Rattle.paths.specs.Matching.{space_fits, local_fits, fits, attribute_fits, fit_all, fit_last, matches}
use Rattle.paths.specs.Reading.{on_some, every, or_else, is_nil, on_front, split_at, behind, without_space, within, test_byte, starts_well, star_alone, local_of, test_of, test_parts, name_test, element_part, part_of, as_part, walk_part, walk_parts, alt_of, read_alt, read_path, resolved, step_path_of, field_alt_of}
use Rattle.paths.specs.Reading
use Rattle.paths.specs.Examples.{codes}
use Rattle.tree.specs.Events.{selects, opening, after, openings, opened, scope_of, scopes_of}
use Rattle.tree.specs.Cells.{one, ends_at, reaches, reach, attribute_hits, element_hit, element_hits, cell}
use Rattle.tree.specs.Tree.{failed_item, failures, end_hits, hits, own_hits, cells_of, deeper, fresh, enter, finish, finishes, items}
use Rattle.tree.specs.Judge.{Report, is_multiple, is_not_simple, first_unset, keys_of, missing_or, first_nillable, set_or, outcome, report, keep, against, tuple_of, is_tuple, place, keep_or, present, completed, missed, nillable_key, settle, kind_six, tell, judge, judge_all, is_keyref, named, answers, kind_five, unanswered, kind_fives, finish_out}
use Rattle.machine.specs.Machine.{hit, feed_cells, feed, at, pick_up, start_a, finished_item, end_open, end_if, end_a, finish_a}
use Rattle.tree.specs.Build.{◌⊕◌, plug_with, plug, add, start_b, end_z, end_b, step_b, build, tree}
use Rattle.tree.specs.Open.{while_open, open_elements, open_scopes, is_selected, open_selections}
use Rattle.tree.specs.Counts.{chosen, selected_by, drops, first, allowed, complete_in, has, nub, second, bears, reports_against, selection}
use Rattle.tree.specs.Counts
use Rattle.records.specs.Readers
use Rattle.records.specs.Readers.{Bytes, on_read, ◌>>=◌, pass, require, read_byte, read_two, read_four, cons_on, read_bytes, read_text, times, counted, on_rest, read_all, put_text, put_texts, on_behind, record_at, bytes_from}
use Rattle.records.specs.Refusals.{refusal_number}
use Rattle.records.specs.Records.{Rec, FI, parse}
use Rattle.records.specs.Examples.{id_of, ns_of, es_of, with, ee_of, bytes_of, said}
use Rattle.session_spec.specs.Definitions.{Definitions, bind_last, bind, define, is_definition, latest, has_target, is_undefined, is_bound, too_many_defined, frame, replay_rec, replay_parsed, replay, read_definitions, look_up, uri_of, kind_of, or_none, is_some, selector_of, fields_of, paths_read, constraint_of, defined_of, constraint_from, constraint_at, defined_from, defined_at}
use Rattle.session_spec.specs.Layout
use Rattle.session_spec.specs.Layout.{ScopeRecord, read_tu, put_tu, as_tuple, read_rp, put_rp, parts, pad, put_name, text_in, name_in, put_scope, scope_in, cell_state, key_of, put_cell, cell_from, cell_in, more_in, place_of, head_cell, tail_cells, put_cells, put_selection, selection_of, selection_with, selection_in, pack, unpack, key_at, tuple_field, part_in, field_part}
use Rattle.session_spec.specs.Session
use Rattle.session_spec.specs.Session.{World, Reply, stage_of, depth_of, stage_number, areas_fit, begun_fit, counts_fit, scope_fits, rising, scopes_in, comes_after, climbing, on_open, fitting, selections_in, tu_fits, rp_fits, reports_in, told_by, decode_with, decode_if, start_of, end_of, tick, next, new_tuples, new_reports, tuple_bytes, report_bytes, misplaced, is_unbalanced, rows, counts_of, behind_old, one_scope, patch, reply_number, settled, considered, attempt, step, set_up}
use Rattle.session_spec.specs.Runs.{Room, run_calls, taken_of, accepted, defining_bytes, definition_bytes, stored_reports, definitions_of, defined_in, event_of, events_of, is_start, is_finish, tree_of, tree_out, room_of, stage_in, tree_rows, answered, tree_answer, tree_reply}

-- ---- records

attribute : String × String → Attribute
unfolding codes with
attribute x = with (codes x.0) (codes x.1)

-- the bytes of a constraint: kind, name, selector, fields
unfoldable pub id : ℕ → String → String → List String → Bytes
unfolding codes id_of bytes_of
id k n s fs = bytes_of (id_of k (codes n) none (codes s) (map codes fs))

-- of a keyref: name, refer, selector, fields
unfoldable pub ref_to : String → String → String → List String → Bytes
unfolding codes id_of bytes_of
ref_to n r s fs = bytes_of (id_of 2 (codes n) (some (codes r)) (codes s) (map codes fs))

-- of a binding: its target, prefix, URI
unfoldable pub ns : ℕ → String → String → Bytes
unfolding codes ns_of bytes_of
ns t p u = bytes_of (ns_of t (codes p) (codes u))

-- of an element's start: qualified name, constraint numbers, attributes with their keys
unfoldable pub es : String → List ℕ → List (String × String) → Bytes
unfolding codes attribute es_of bytes_of
es n is xs = bytes_of (es_of [] (codes n) is (map attribute xs))

-- the same in a namespace, with no constraints: the namespace first
unfoldable pub es_in : String → String → List (String × String) → Bytes
unfolding codes attribute es_of bytes_of
es_in s n xs = bytes_of (es_of (codes s) (codes n) [] (map attribute xs))

-- of an element's end: without a simple value; with this one
unfoldable pub ee : Bytes
unfolding ee_of bytes_of
ee = bytes_of (ee_of 0 [])

unfoldable pub ee_with : String → Bytes
unfolding codes ee_of bytes_of
ee_with k = bytes_of (ee_of 1 (codes k))

-- of an element declared nillable
unfoldable pub ee_nillable : String → Bytes
unfolding bytes_of ee_of codes
ee_nillable k = bytes_of (ee_of 2 (codes k))

unfoldable pub fi : Bytes
unfolding bytes_of
fi = bytes_of FI

-- ---- worlds

-- set up over stores of these lengths and areas of the least lengths that are taken, all of them full of sevens
unfoldable pub lent : (definitions tuples reports : ℕ) → World
unfolding set_up
lent d t r =
    set_up (replicate d 7) (replicate t 7) (replicate r 7) (replicate 32896 7) (replicate 16 (record { constraint = 7; number = 7; depth = 7 })) (replicate 16384 7) 1024

-- ---- worlds that no run leaves

-- something in a world that is changed: a number; bytes, or scope records, from a place on; an area's length, cut down to n
pub data Change : Type 0 where
  set_events set_running set_definitions set_tuples set_reports set_path_area : ℕ → Change
  in_definitions in_tuples in_reports in_names in_cells : (place : ℕ) → Bytes → Change
  in_scopes : (place : ℕ) → List ScopeRecord → Change
  cut_scopes cut_names cut_cells : ℕ → Change

world : ℕ → ℕ → ℕ → ℕ → ℕ → Bytes → Bytes → Bytes → Bytes → List ScopeRecord → Bytes → ℕ → World
world e n d t r ds ts rs na ss cs p =
    record {
      events = e;
      running = n;
      definitions = d;
      tuples = t;
      reports = r;
      definition_store = ds;
      tuple_store = ts;
      report_store = rs;
      names = na;
      scopes = ss;
      cells = cs;
      path_area = p;
    }

change : World → Change → World
unfolding world
change w (set_events n) = world n w.running w.definitions w.tuples w.reports w.definition_store w.tuple_store w.report_store w.names w.scopes w.cells w.path_area
change w (set_running n) = world w.events n w.definitions w.tuples w.reports w.definition_store w.tuple_store w.report_store w.names w.scopes w.cells w.path_area
change w (set_definitions n) = world w.events w.running n w.tuples w.reports w.definition_store w.tuple_store w.report_store w.names w.scopes w.cells w.path_area
change w (set_tuples n) = world w.events w.running w.definitions n w.reports w.definition_store w.tuple_store w.report_store w.names w.scopes w.cells w.path_area
change w (set_reports n) = world w.events w.running w.definitions w.tuples n w.definition_store w.tuple_store w.report_store w.names w.scopes w.cells w.path_area
change w (set_path_area n) = world w.events w.running w.definitions w.tuples w.reports w.definition_store w.tuple_store w.report_store w.names w.scopes w.cells n
change w (in_definitions i xs) = world w.events w.running w.definitions w.tuples w.reports (over w.definition_store i xs) w.tuple_store w.report_store w.names w.scopes w.cells w.path_area
change w (in_tuples i xs) = world w.events w.running w.definitions w.tuples w.reports w.definition_store (over w.tuple_store i xs) w.report_store w.names w.scopes w.cells w.path_area
change w (in_reports i xs) = world w.events w.running w.definitions w.tuples w.reports w.definition_store w.tuple_store (over w.report_store i xs) w.names w.scopes w.cells w.path_area
change w (in_names i xs) = world w.events w.running w.definitions w.tuples w.reports w.definition_store w.tuple_store w.report_store (over w.names i xs) w.scopes w.cells w.path_area
change w (in_cells i xs) = world w.events w.running w.definitions w.tuples w.reports w.definition_store w.tuple_store w.report_store w.names w.scopes (over w.cells i xs) w.path_area
change w (in_scopes i ss) = world w.events w.running w.definitions w.tuples w.reports w.definition_store w.tuple_store w.report_store w.names (over w.scopes i ss) w.cells w.path_area
change w (cut_scopes n) = world w.events w.running w.definitions w.tuples w.reports w.definition_store w.tuple_store w.report_store w.names (take n w.scopes) w.cells w.path_area
change w (cut_names n) = world w.events w.running w.definitions w.tuples w.reports w.definition_store w.tuple_store w.report_store (take n w.names) w.scopes w.cells w.path_area
change w (cut_cells n) = world w.events w.running w.definitions w.tuples w.reports w.definition_store w.tuple_store w.report_store w.names w.scopes (take n w.cells) w.path_area

unfoldable pub changed : World → List Change → World
unfolding change
changed w cs = foldl change w cs

-- the packed number
unfoldable pub packed : (stage scopes selections opened : ℕ) → ℕ
unfolding pack
packed a b c d = pack (record { stage = a; scopes = b; selections = c; opened = d })

-- a world with so many elements open, none of them with a name, after 64 records
unfoldable pub deep : ℕ → World
unfolding lent changed packed
deep d = changed (lent 64 64 64) (set_events 64 ∷ set_running (packed (suc d) 0 0 0) ∷ in_names 0 (replicate 32896 0) ∷ [])

-- one whose definition store holds these records, and as many were accepted
unfoldable pub holding : List Bytes → World
unfolding lent changed flat_map
holding xs =
    let bs : Bytes = flat_map (λ x. x) xs in
    changed (lent (length bs + 16) 64 64) (set_events (length xs) ∷ set_definitions (length bs) ∷ in_definitions 0 bs ∷ [])

-- ---- calls on bytes

-- the definitions that bytes hold
unfoldable pub definitions_in : Bytes → Option Definitions
unfolding said flat_map on_read ◌>>=◌ pass require read_byte read_two read_four cons_on read_bytes read_text times counted on_rest read_all Readers.reads put_text put_texts in_ranges xml_space after_colon name_of space_fits local_fits fits attribute_fits fit_all fit_last matches on_some every or_else is_nil on_front split_at behind without_space within test_byte starts_well star_alone local_of test_of test_parts name_test element_part part_of as_part walk_part walk_parts Reading.marked alt_of read_alt read_path resolved step_path_of field_alt_of bind_last bind define is_definition latest has_target is_undefined is_bound too_many_defined frame replay_rec replay_parsed replay read_definitions look_up uri_of kind_of or_none is_some selector_of fields_of paths_read constraint_of defined_of constraint_from constraint_at defined_from defined_at
definitions_in xs = read_definitions xs

-- a call
unfoldable pub called : World → Bytes → Reply × World
unfolding definitions_in zip_with refusal_number id ref_to ns es es_in ee ee_with ee_nillable fi lent changed packed deep holding same same_all two_bytes four_bytes selects opening after openings opened scope_of scopes_of one ends_at reaches reach attribute_hits element_hit element_hits failed_item failures is_multiple is_not_simple first_unset keys_of missing_or first_nillable set_or outcome report keep against tuple_of is_tuple place keep_or present completed missed nillable_key settle kind_six tell judge judge_all is_keyref named answers kind_five unanswered kind_fives finish_out hit feed_cells feed at pick_up start_a finished_item end_open end_if end_a finish_a read_tu put_tu as_tuple read_rp put_rp parts pad put_name text_in name_in put_scope scope_in cell_state key_of put_cell cell_from cell_in more_in place_of head_cell tail_cells put_cells put_selection selection_of Layout.exactly selection_with selection_in pack unpack stage_of depth_of stage_number areas_fit begun_fit counts_fit scope_fits rising scopes_in comes_after climbing on_open fitting selections_in tu_fits Session.tuples_in rp_fits reports_in told_by decode_with decode_if Session.decode start_of end_of tick next new_tuples new_reports tuple_bytes report_bytes misplaced is_unbalanced rows counts_of behind_old one_scope patch reply_number settled considered attempt step set_up
called w x = step w x

-- what calls one after another leave
unfoldable pub after_calls : World → List Bytes → World
unfolding called run_calls
after_calls w xs = run_calls w xs

-- the numbers that they are answered by
unfoldable pub replies : World → List Bytes → List ℕ
unfolding called
replies w [] = []
replies w (x ∷ xs) = let r = step w x in reply_number r.0 ∷ replies r.1 xs

-- the numbers that one call is answered by in each of these worlds
unfoldable pub replies_in : Bytes → List World → List ℕ
unfolding called
replies_in x [] = []
replies_in x (w ∷ ws) = reply_number (step w x).0 ∷ replies_in x ws

-- the five numbers, and the used parts of the tuple and the report store
abbrev pub Left : Type 0
Left = ℕ × ℕ × ℕ × ℕ × ℕ × Bytes × Bytes

left_in : World → Left
left_in w = (w.events, w.running, w.definitions, w.tuples, w.reports, take w.tuples w.tuple_store, take w.reports w.report_store)

unfoldable pub left : World → List Bytes → Left
unfolding left_in after_calls
left w xs = left_in (run_calls w xs)

-- ---- what icheck prints

-- a report: event, kind, constraint, field, scope, tuple
unfoldable pub line_of : Report → List ℕ
line_of r = r.event ∷ r.kind ∷ r.constraint ∷ r.field ∷ r.scope ∷ r.tuple ∷ []

-- and the end: events, tuples, reports
lines_in : World → List (List ℕ)
unfolding line_of stored_reports
lines_in w = map line_of (stored_reports w) ++ ((w.events ∷ length (or_none (Readers.reads read_tu (take w.tuples w.tuple_store))) ∷ length (stored_reports w) ∷ []) ∷ [])

unfoldable pub printed : World → List Bytes → List (List ℕ)
unfolding lines_in after_calls
printed w xs = lines_in (run_calls w xs)

-- of each tuple that is stored: the constraint and the keys
unfoldable pub tuples_left : World → List Bytes → List (ℕ × List Text)
unfolding after_calls
tuples_left w xs = let v = run_calls w xs in map (λ t. (t.constraint, t.keys)) (or_none (Readers.reads read_tu (take v.tuples v.tuple_store)))

-- all in one: the replies, what is left, what is printed
seen_with : List ℕ → World → List Bytes → List ℕ × Left × List (List ℕ)
unfolding left_in lines_in called
seen_with rs w [] = (rs, left_in w, lines_in w)
seen_with rs w (x ∷ xs) = let r = step w x in seen_with (rs ++ (reply_number r.0 ∷ [])) r.1 xs

unfoldable pub seen : World → List Bytes → List ℕ × Left × List (List ℕ)
unfolding seen_with
seen w xs = seen_with [] w xs

-- field i of TU n in the store that calls leave
unfoldable pub viewed : World → List Bytes → ℕ → ℕ → Text
unfolding after_calls on_behind record_at bytes_from key_at tuple_field part_in Layout.part_of field_part
viewed w xs n i = let v = run_calls w xs in tuple_field (take v.tuples v.tuple_store) n i

-- ---- on the tree

-- what the tree definition gives for the accepted records: the bytes of the tuples and of the reports
unfoldable pub grown : World → List Bytes → Bytes × Bytes
unfolding after_calls end_hits hits own_hits cells_of deeper fresh enter finish finishes items cell ◌⊕◌ plug_with plug add start_b end_z end_b step_b build tree while_open open_elements open_scopes is_selected open_selections taken_of accepted defining_bytes definition_bytes stored_reports definitions_of defined_in event_of events_of is_start is_finish tree_of tree_out room_of stage_in tree_rows answered tree_answer tree_reply
grown w xs = let o = tree_out (accepted w xs) in (flat_map put_tu o.tuples, flat_map put_rp o.reports)

-- the same as icheck's lines
unfoldable pub grown_lines : World → List Bytes → List (List ℕ)
unfolding grown line_of
grown_lines w xs =
    let rs = accepted w xs in
    let o = tree_out rs in
    map line_of o.reports ++ ((length rs ∷ length o.tuples ∷ length o.reports ∷ []) ∷ [])

-- the numbers that the same calls are answered by on the tree; `rs` are accepted, `kept` bytes of definitions are stored
tree_replies_from : Room → ℕ → List Rec → List Bytes → List ℕ
unfolding grown
tree_replies_from room kept rs [] = []
tree_replies_from room kept rs (x ∷ xs) =
    let r = tree_reply room kept rs x in
    reply_number r ∷ tree_replies_from room (kept + length (defining_bytes r (parse x) x)) (rs ++ taken_of r (parse x)) xs

unfoldable pub tree_replies : World → List Bytes → List ℕ
unfolding tree_replies_from
tree_replies w xs = tree_replies_from (room_of w) 0 [] xs

-- the reports in the store that calls leave which bear a scope's number, how many
unfoldable pub reports_left : World → List Bytes → ℕ → ℕ
unfolding grown chosen selected_by drops first allowed complete_in Counts.tuples_in has nub second bears reports_against selection
reports_left w xs n = reports_against n (stored_reports (run_calls w xs))
