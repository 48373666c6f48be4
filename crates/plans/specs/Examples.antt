-- Computed: a row and a part of the world of each kind of record, on the smallest case that shows it.
-- Assumes nothing.
use Rattle.std.specs.Prelude.{ℕ, eqb, replicate, ◌≡◌, refl, Bool, true, false, ◌&&◌}
use mathlib.Core.List.{List, [], ◌∷◌, map, flat_map, zip_with}
use Rattle.std.proofs.Math.Option.{none}
use Rattle.lists.specs.Lists.{any, only_if, passing, foldl}
use Rattle.texts.specs.Texts.{Text, same}
use Rattle.paths.specs.Names.{after_colon, name_of}
use Rattle.tree.specs.Events.{key, fails, openings, scopes_of}
use Rattle.tree.specs.Cells.{Multiple, reach, element_hits}
use Rattle.tree.specs.Judge.{kind_six, is_multiple, outcome, against}
use Rattle.machine.specs.Machine.{Selection, hit, feed_cells, feed}
use Rattle.records.specs.Readers.{Bytes}
use Rattle.records.specs.Refusals.{out_of_place, too_many_events, undefined, bound_twice, definitions_full, refusal_number, Row}
use Rattle.records.specs.Records.{Rec, EsRecord, EeRecord}
use Rattle.session_spec.specs.Definitions.{is_undefined, is_definition, no_definitions}
use Rattle.session_spec.specs.Session.{World, during, Session, start_of, misplaced}
use Rattle.session_spec.specs.Computed.{lent, changed, set_definitions}
use Rattle.runs.proofs.TwoPass.{adds, adds_all}
use Rattle.plans.specs.Plans.{definition_rows, defined, listed, names_then, new_scopes, scopes_then, picked, selections_then, six_from, sixes, start_rows, fed, ending, end_adds, end_rows, finish_rows, finish_counts}

abbrev x : Text
x = 120 ∷ []

-- after five records, so many elements x are open, and these selections
abbrev session : ℕ → List Selection → Session
session n ss =
    record {
      defs = no_definitions;
      stage = during;
      state = record {
        names = replicate n (record { space = []; local = x });
        scopes = [];
        selections = ss;
        count = 0;
        events = 5;
        out = record { tuples = []; reports = []; told = [] };
      };
    }

-- an element x starts, and ends
abbrev start : EsRecord
start = record { space = []; name = x; numbers = []; attributes = [] }

abbrev end : EeRecord
end = record { simple = 0; key = [] }

-- a selection of the element at depth 1, whose field has several nodes
abbrev several : Selection
several =
    record {
      scope = record { number = 1; constraint = record { number = 0; name = x; kind = key; refer = none; selector = []; fields = [] ∷ [] } };
      depth = 1;
      cells = Multiple ∷ [];
    }

-- a row with this number holds
abbrev met : ℕ → List Row → Bool
met n rs = any (λ q. eqb (refusal_number q.1) n && q.0) rs

-- ---- rows

-- of ID and NS: 11, 19, 12, 17, 18
definition-rows : (w : World) (s : Session) (r : Rec) (bs : Bytes)
    → map (λ (q : Row). q.1) (definition_rows w s r bs) ≡ out_of_place ∷ too_many_events ∷ undefined ∷ bound_twice ∷ definitions_full ∷ []
unfolding definition_rows
definition-rows w s r bs = refl

-- of ES: the 64th element may open
element-64 : met 14 (start_rows (lent 0 0 0) (session 63 []) start) ≡ false
unfolding refusal_number start_rows misplaced is_definition is_undefined names_then start_of name_of after_colon scopes_then new_scopes listed openings scopes_of flat_map selections_then picked sixes six_from lent
element-64 = refl

-- of EE: a report takes 18 bytes
report-18 : met 16 (end_rows (lent 0 0 17) (session 1 (several ∷ [])) end) ≡ true
unfolding refusal_number end_rows misplaced is_definition end_adds ending fed feed feed_cells zip_with hit element_hits reach passing only_if adds_all adds outcome is_multiple against flat_map lent
report-18 = refl

-- of FI: one element open is one too many
one-open : met 13 (finish_rows (lent 0 0 0) (session 1 [])) ≡ true
unfolding refusal_number finish_rows misplaced lent
one-open = refl

-- ---- the world after it

-- ID and NS: behind the byte that is used
definition-behind : (defined (changed (lent 3 0 0) (set_definitions 1 ∷ [])) (9 ∷ [])).definition_store ≡ 7 ∷ 9 ∷ 7 ∷ []
unfolding defined lent changed
definition-behind = refl

-- ES: kind 6 once for a name
once-for-a-name : six_from 6 [] (fails 0 x ∷ fails 1 x ∷ []) ≡ kind_six 6 0 ∷ []
unfolding six_from same
once-for-a-name = refl

-- EE: judged at its own event, the sixth
own-event : end_adds (session 1 (several ∷ [])) end ≡ adds_all [] 6 (ending (session 1 (several ∷ [])) end)
unfolding end_adds
own-event = refl

-- FI: stage 66
stage-66 : (finish_counts (session 0 [])).stage ≡ 66
unfolding finish_counts
stage-66 = refl
