-- Computed: the bytes of a selection after hits, what outcomes come to against a store that is written out, what
-- answers add, and what is remembered and written.
-- Assumes nothing.
use Rattle.std.specs.Prelude.{ℕ, ◌≤◌, length, take, replicate, ◌≡◌, refl, Bool, true, false}
use mathlib.Core.List.{List, [], ◌∷◌, ◌++◌, map, flat_map, zip_with}
use Rattle.std.proofs.Math.Option.{Option, none, some}
use Rattle.lists.specs.Lists.{only_if, put}
use Rattle.texts.specs.Texts.{Text, same}
use Rattle.numbers.specs.Numbers.{two_bytes, four_bytes}
use Rattle.tree.specs.Events.{Kind, unique, key, keyref, Constraint, Scope}
use Rattle.tree.specs.Cells.{simple, complex, Unset, Set, SetNillable, NotSimple, Multiple, one, reach, element_hits}
use Rattle.tree.specs.Judge.{Tuple, Report, Outcome, is_multiple, is_not_simple, first_unset, keys_of, several_nodes, no_simple_value, missing, on_nillable, complete, missing_or, first_nillable, set_or, outcome, against, tuple_of, place}
use Rattle.machine.specs.Machine.{Selection, hit, feed_cells, feed}
use Rattle.records.specs.Readers.{Bytes, on_read, ◌>>=◌, pass, read_byte, cons_on, read_bytes, on_whole, up_to, put_text, put_texts}
use Rattle.session_spec.specs.Definitions.{frame, no_definitions}
use Rattle.session_spec.specs.Layout.{pad, cell_state, key_of, put_cell, cell_from, cell_in, more_in, put_tu, put_rp}
use Rattle.cells.specs.Cells.{or_unset, cell_for, cell_at, depth_at, scope_at, hit_bytes, hit_at}
use Rattle.output_stores.specs.Stores.{standing}
use Rattle.tuple_search.specs.Search.{tail_bytes, or_zero, place_with, first_with}
use Rattle.open_scopes.specs.declared.Scopes.{Scopes}
use Rattle.runs.proofs.TwoPass.{Added, adds_or, completes, adds, adds_all}
use Rattle.settlements.specs.declared.ReportKind.TheVariants as kinds
use Rattle.settlements.specs.declared.ReportKind.TheVariants.{Several, Missing, Duplicate, Nillable}
use Rattle.settlements.specs.declared.ConstraintKind.TheVariants.{Unique, Key, Keyref}
use Rattle.settlements.specs.declared.Settled.{Settled}
use Rattle.settlements.specs.declared.Settled.TheVariants.{Nothing, Kept, Reported}
use Rattle.settlements.specs.declared.Settling.{Settling}
use Rattle.settlements.specs.declared.Written.{Written}
use Rattle.settlements.specs.Finished.{number_of, kind_in, count_for, fed_bytes, Told, Settlement, nothing, told, kept, settlement_of, found_or, complete_by, missing_by, nillable_by, settled_by, reports_of, added_of}
use Rattle.settlements.specs.Ending.{Ended, finished, EndIs, Finishing, report_or, settled_at, remembered_from, WrittenAll}

abbrev ab : Text
ab = 97 ∷ 98 ∷ []

-- ---- the bytes of a selection

-- four rows of 32 numbers; each begins with these two
abbrev row : (first second : ℕ) → Bytes
row a b = a ∷ b ∷ replicate 30 9

abbrev rows : Bytes
rows = row 1 1 ++ (row 0 0 ++ (row 0 2 ++ row 0 0))

-- how often the fields of the second selection are hit; past the rows no time
how-often : map (count_for rows 1) (0 ∷ 1 ∷ 2 ∷ 3 ∷ 4 ∷ []) ≡ 1 ∷ 0 ∷ 2 ∷ 0 ∷ 0 ∷ []
how-often = refl

-- a cell that begins with this byte, and has no key
abbrev bare : ℕ → Bytes
bare b = b ∷ replicate 127 0

-- two selections on elements 3 and 4, of the scopes at places 0 and 5
abbrev area : Bytes
area = bare 24 ++ (bare 0 ++ (bare 0 ++ (bare 0 ++ (bare 32 ++ (bare 0 ++ (bare 40 ++ bare 0))))))

abbrev second : Bytes
second = fed_bytes (simple ab) rows 1 area

second-cells : map (cell_at second) (0 ∷ 128 ∷ 256 ∷ 384 ∷ []) ≡ Set ab ∷ Unset ∷ Multiple ∷ Unset ∷ []
unfolding fed_bytes hit_at hit_bytes cell_at cell_for or_unset cell_in cell_from more_in is_multiple hit one put put_cell pad cell_state key_of
second-cells = refl

-- what stands beside the cells stays, and there are 512 bytes
second-numbers : depth_at second 0 ∷ scope_at second 0 ∷ length second ∷ [] ≡ 4 ∷ 5 ∷ 512 ∷ []
unfolding fed_bytes hit_at hit_bytes depth_at scope_at cell_for or_unset cell_in cell_from more_in is_multiple hit one put put_cell pad cell_state key_of
second-numbers = refl

-- each of the four fields takes its hits
all-hit : map (cell_at (fed_bytes (simple ab) (replicate 128 1) 0 area)) (0 ∷ 128 ∷ 256 ∷ 384 ∷ []) ≡ replicate 4 (Set ab)
unfolding fed_bytes hit_at hit_bytes cell_at cell_for or_unset cell_in cell_from more_in is_multiple hit one put put_cell pad cell_state key_of
all-hit = refl

-- an element without a simple value
first_cell : cell_at (fed_bytes complex rows 0 area) 0 ≡ NotSimple
unfolding fed_bytes hit_at hit_bytes cell_at cell_for or_unset cell_in cell_from more_in is_multiple hit one put put_cell pad cell_state key_of
first_cell = refl

-- of a third selection there are no bytes: zeros take the hits
third-numbers : length (fed_bytes (simple []) (0 ∷ 0 ∷ 1 ∷ []) 2 area) ∷ take 3 (fed_bytes (simple []) (0 ∷ 0 ∷ 1 ∷ []) 2 area) ≡ 512 ∷ 1 ∷ 0 ∷ 0 ∷ []
unfolding fed_bytes hit_at hit_bytes cell_for or_unset cell_in cell_from more_in is_multiple hit one put put_cell pad cell_state key_of
third-numbers = refl

-- ---- what an outcome comes to

-- each case of an answer by document 01's values
cases : map {B = Bool × Option Told} (λ (r : Settled). ((settlement_of r).keeps, (settlement_of r).report)) (Nothing ∷ Kept ∷ Reported (record { kind = 4; field = 2; tuple = 7 }) ∷ [])
    ≡ (false, none) ∷ (true, none) ∷ (false, some (record { kind = 4; field = 2; tuple = 7 })) ∷ []
cases = refl

-- the kinds of reports by document 01's numbers, and those of constraints
kind-numbers : map number_of (Several ∷ kinds.NotSimple ∷ Missing ∷ Duplicate ∷ Nillable ∷ []) ≡ 1 ∷ 2 ∷ 3 ∷ 4 ∷ 7 ∷ []
kind-numbers = refl

constraint-kinds : map kind_in (Unique ∷ Key ∷ Keyref ∷ []) ≡ unique ∷ key ∷ keyref ∷ []
constraint-kinds = refl

found-numbers : map found_or (0 ∷ 1 ∷ 7 ∷ 4294967295 ∷ 4294967296 ∷ []) ≡ kept ∷ told 4 0 1 ∷ told 4 0 7 ∷ told 4 0 4294967295 ∷ told 4 0 4294967295 ∷ []
unfolding found_or
found-numbers = refl

-- a store of two TUs: scope 1 and the key `a`, scope 2 and the same key
abbrev store : Bytes
store = 84 ∷ 85 ∷ 9 ∷ 0 ∷ 0 ∷ 1 ∷ 0 ∷ 0 ∷ 0 ∷ 1 ∷ 1 ∷ 0 ∷ 97 ∷ 84 ∷ 85 ∷ 9 ∷ 0 ∷ 0 ∷ 2 ∷ 0 ∷ 0 ∷ 0 ∷ 1 ∷ 1 ∷ 0 ∷ 97 ∷ []

abbrev comes : Kind → (scope : ℕ) → Outcome → Settlement
comes k s o = settled_by k false s store o

-- already there, in its own scope only
same_keys : map (λ s. comes unique s (complete ((97 ∷ []) ∷ []))) (1 ∷ 2 ∷ 3 ∷ []) ≡ told 4 0 1 ∷ told 4 0 2 ∷ kept ∷ []
unfolding settled_by complete_by found_or first_with place_with or_zero tail_bytes two_bytes four_bytes put_texts put_text flat_map same standing up_to on_whole frame read_byte read_bytes cons_on ◌>>=◌ on_read pass
same_keys = refl

-- a key goes by the same; other keys are kept
of-a-key : comes key 2 (complete ((97 ∷ []) ∷ [])) ∷ comes key 2 (complete ((98 ∷ []) ∷ [])) ∷ [] ≡ told 4 0 2 ∷ kept ∷ []
unfolding settled_by complete_by found_or first_with place_with or_zero tail_bytes two_bytes four_bytes put_texts put_text flat_map same standing up_to on_whole frame read_byte read_bytes cons_on ◌>>=◌ on_read pass
of-a-key = refl

-- the empty one too
empty-key : comes key 2 (complete ([] ∷ [])) ≡ kept
unfolding settled_by complete_by found_or first_with place_with or_zero tail_bytes two_bytes four_bytes put_texts put_text flat_map same standing up_to on_whole frame read_byte read_bytes cons_on ◌>>=◌ on_read pass
empty-key = refl

-- a keyref's is kept if refer is present, repeats included
of-a-keyref : map (λ r. settled_by keyref r 1 store (complete ((97 ∷ []) ∷ []))) (true ∷ false ∷ []) ≡ kept ∷ nothing ∷ []
unfolding settled_by complete_by
of-a-keyref = refl

-- field 2 is missing: unique, key, keyref
missing-field : map (λ k. comes k 1 (missing 2)) (unique ∷ key ∷ keyref ∷ []) ≡ nothing ∷ told 3 2 0 ∷ nothing ∷ []
unfolding settled_by missing_by
missing-field = refl

-- every field Set, field 2 on a nillable element, with a tuple that is there as number 1: unique, key, keyref
on-nillable : map (λ k. comes k 1 (on_nillable 2 ((97 ∷ []) ∷ []))) (unique ∷ key ∷ keyref ∷ []) ≡ told 4 0 1 ∷ told 7 2 0 ∷ nothing ∷ []
unfolding settled_by nillable_by complete_by found_or first_with place_with or_zero tail_bytes two_bytes four_bytes put_texts put_text flat_map same standing up_to on_whole frame read_byte read_bytes cons_on ◌>>=◌ on_read pass
on-nillable = refl

-- with a tuple that is new: only a key does not keep it
new-on-nillable : map (λ k. settled_by k true 3 store (on_nillable 0 ((98 ∷ []) ∷ []))) (unique ∷ key ∷ keyref ∷ []) ≡ kept ∷ told 7 0 0 ∷ kept ∷ []
unfolding settled_by nillable_by complete_by found_or first_with place_with or_zero tail_bytes two_bytes four_bytes put_texts put_text flat_map same standing up_to on_whole frame read_byte read_bytes cons_on ◌>>=◌ on_read pass
new-on-nillable = refl

-- kinds 1 and 2, whatever the constraint's kind
at-fault : map (λ k. comes k 1 several_nodes) (unique ∷ key ∷ keyref ∷ []) ++ map (λ k. comes k 1 no_simple_value) (unique ∷ key ∷ keyref ∷ [])
    ≡ replicate 3 (told 1 0 0) ++ replicate 3 (told 2 0 0)
unfolding settled_by
at-fault = refl

-- by cells: Multiple before NotSimple before Unset before a mark, and an empty key is Set
by-cells : map (λ cs. comes key 1 (outcome cs)) ((Unset ∷ Multiple ∷ []) ∷ (NotSimple ∷ Multiple ∷ []) ∷ (Unset ∷ NotSimple ∷ []) ∷ (Set [] ∷ Unset ∷ []) ∷ (SetNillable [] ∷ Unset ∷ []) ∷ (Set [] ∷ SetNillable [] ∷ []) ∷ (Set [] ∷ []) ∷ [])
    ≡ told 1 0 0 ∷ told 1 0 0 ∷ told 2 0 0 ∷ told 3 1 0 ∷ told 3 1 0 ∷ told 7 1 0 ∷ kept ∷ []
unfolding outcome missing_or first_nillable set_or is_multiple is_not_simple first_unset keys_of settled_by nillable_by missing_by complete_by found_or first_with place_with or_zero tail_bytes two_bytes four_bytes put_texts put_text flat_map same standing up_to on_whole frame read_byte read_bytes cons_on ◌>>=◌ on_read pass
by-cells = refl

-- ---- what an answer adds, of scope 9 of constraint 3, at event 6

abbrev constraint : Constraint
constraint = record { number = 3; name = []; kind = unique; refer = none; selector = []; fields = [] ∷ [] }

abbrev nine : Scope
nine = record { number = 9; constraint = constraint }

abbrev six : Report → List ℕ
six r = r.kind ∷ r.constraint ∷ r.field ∷ r.scope ∷ r.event ∷ r.tuple ∷ []

abbrev reported : Settlement → List (List ℕ)
reported r = map six (added_of r 6 nine (ab ∷ [])).reports

reports-added : map reported (nothing ∷ kept ∷ told 1 2 5 ∷ told 3 2 5 ∷ told 4 2 5 ∷ [])
    ≡ [] ∷ [] ∷ ((1 ∷ 3 ∷ 2 ∷ 9 ∷ 6 ∷ 5 ∷ []) ∷ []) ∷ ((3 ∷ 3 ∷ 2 ∷ 9 ∷ 6 ∷ 5 ∷ []) ∷ []) ∷ ((4 ∷ 3 ∷ 2 ∷ 9 ∷ 6 ∷ 5 ∷ []) ∷ []) ∷ []
unfolding added_of reports_of against
reports-added = refl

tuples-added : map (λ (r : Settlement). map (λ (t : Tuple). t.scope) (added_of r 6 nine (ab ∷ [])).tuples) (nothing ∷ kept ∷ told 1 2 5 ∷ told 4 2 5 ∷ []) ≡ [] ∷ (9 ∷ []) ∷ [] ∷ [] ∷ []
unfolding added_of only_if tuple_of
tuples-added = refl

tuple-keys : map (λ (t : Tuple). t.keys) (added_of kept 6 nine (ab ∷ [] ∷ [])).tuples ≡ (ab ∷ [] ∷ []) ∷ []
unfolding added_of only_if tuple_of
tuple-keys = refl

-- ---- all that finish

-- how many reports an answer is
report-counts : map (λ (r : Settlement). report_or r.report) (nothing ∷ kept ∷ told 1 0 0 ∷ told 4 0 8 ∷ []) ≡ 0 ∷ 0 ∷ 1 ∷ 1 ∷ []
report-counts = refl

-- a selection of scope n on element d, with one key
abbrev selection : (n d : ℕ) → Selection
selection n d = record { scope = record { number = n; constraint = constraint }; depth = d; cells = Set ab ∷ [] }

abbrev known : Ended
known =
    record {
      defs = no_definitions;
      scopes = [];
      selections = selection 1 2 ∷ selection 2 3 ∷ selection 4 3 ∷ [];
      names = [];
      end = record { simple = 2; key = [] };
      tuples = [];
    }

-- those from a place on
from-a-place : map (λ first. map (λ (x : Selection). x.scope.number) (finished known first)) (0 ∷ 1 ∷ 3 ∷ 4 ∷ []) ≡ (1 ∷ 2 ∷ 4 ∷ []) ∷ (2 ∷ 4 ∷ []) ∷ [] ∷ [] ∷ []
unfolding finished feed
from-a-place = refl

-- at place 1 a duplicate of tuple 8, at place 2 one that is kept
abbrev remembered : Settling
remembered = record { each = Nothing ∷ Reported (record { kind = 4; field = 0; tuple = 8 }) ∷ Kept ∷ []; bytes = 14; reports = 1 }

abbrev both : List Added
both = remembered_from 6 remembered 1 (selection 2 3 ∷ selection 4 3 ∷ [])

past_all : settled_at remembered 3 ≡ nothing
past_all = refl

reports-remembered : map (λ (a : Added). map six a.reports) both ≡ ((4 ∷ 3 ∷ 0 ∷ 2 ∷ 6 ∷ 8 ∷ []) ∷ []) ∷ [] ∷ []
unfolding remembered_from added_of reports_of against
reports-remembered = refl

tuples-remembered : map (λ (a : Added). map (λ (t : Tuple). t.scope) a.tuples) both ≡ [] ∷ (4 ∷ []) ∷ []
unfolding remembered_from added_of only_if tuple_of keys_of
tuples-remembered = refl

-- ---- what is known, and what is written

-- the simple byte and the key are those of the end
end-means : (b : ℕ) (t : Text) → EndIs known b t → (b ≡ 2) × (t ≡ [])
end-means b t e = (e.simple, e.text)

-- three finish here, and 32 at most
finishing-means : (cells counts defs : Bytes) (n : ℕ) (b : ℕ) (t : Text) (scopes : Scopes) → Finishing known cells 0 n counts b t scopes defs → (3 ≡ n) × (n ≤ 32)
finishing-means cells counts defs n b t scopes f = (f.many, f.few)

-- at event 6 a selection of scope 2 is kept, and one of scope 4 has several nodes
abbrev two : Ended
two =
    record {
      defs = no_definitions;
      scopes = [];
      selections = selection 2 3 ∷ record { scope = record { number = 4; constraint = constraint }; depth = 3; cells = Multiple ∷ [] } ∷ [];
      names = [];
      end = record { simple = 1; key = [] };
      tuples = [];
    }

-- its TU stands behind the two bytes that were used, and the report behind three
tuple-written : (r : Written) (tuples reports : Bytes) → WrittenAll two 0 6 (replicate 20 7) 2 (replicate 25 7) 3 r tuples reports
    → tuples ≡ replicate 2 7 ++ (84 ∷ 85 ∷ 10 ∷ 0 ∷ 3 ∷ 2 ∷ 0 ∷ 0 ∷ 0 ∷ 1 ∷ 2 ∷ 0 ∷ 97 ∷ 98 ∷ replicate 4 7)
unfolding finished feed feed_cells zip_with element_hits reach adds_all adds completes adds_or place outcome is_multiple is_not_simple first_unset missing_or first_nillable set_or keys_of tuple_of against flat_map put_tu put_texts put_text two_bytes four_bytes
tuple-written r tuples reports w = w.tuple_store

report-written : (r : Written) (tuples reports : Bytes) → WrittenAll two 0 6 (replicate 20 7) 2 (replicate 25 7) 3 r tuples reports
    → reports ≡ replicate 3 7 ++ (82 ∷ 80 ∷ 1 ∷ 3 ∷ 0 ∷ 0 ∷ 4 ∷ 0 ∷ 0 ∷ 0 ∷ 6 ∷ 0 ∷ 0 ∷ 0 ∷ 0 ∷ 0 ∷ 0 ∷ 0 ∷ replicate 4 7)
unfolding finished feed feed_cells zip_with element_hits reach adds_all adds completes adds_or place outcome is_multiple is_not_simple first_unset missing_or first_nillable set_or keys_of tuple_of against flat_map put_rp two_bytes four_bytes
report-written r tuples reports w = w.report_store

used-after : (r : Written) (tuples reports : Bytes) → WrittenAll two 0 6 (replicate 20 7) 2 (replicate 25 7) 3 r tuples reports → (r.tuples ≡ 16) × (r.reports ≡ 21)
unfolding finished feed feed_cells zip_with element_hits reach adds_all adds completes adds_or place outcome is_multiple is_not_simple first_unset missing_or first_nillable set_or keys_of tuple_of against flat_map put_tu put_texts put_text two_bytes four_bytes
used-after r tuples reports w = (w.tuples_used, w.reports_used)
