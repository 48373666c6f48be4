-- Computed: the cells of written-out bytes, the first one with a state, and what each answer says.
-- Assumes nothing.
use Rattle.std.specs.Prelude.{ℕ, ◌≡◌, refl, List, [], ◌∷◌, ◌++◌, map}
use Rattle.std.proofs.Math.Option.{Option, some, none}
use Rattle.texts.specs.Texts.{Text}
use Rattle.tree.specs.Events.{Scope, key}
use Rattle.tree.specs.Cells.{Cell, Unset, Set, SetNillable, NotSimple, Multiple}
use Rattle.tree.specs.Judge as tree
use Rattle.tree.specs.Judge.{Report, Out, several_nodes, no_simple_value, missing, on_nillable, complete, place, report, keep, keep_or, against, completed, missed, nillable_key, settle}
use Rattle.records.specs.Readers.{Bytes}
use Rattle.session_spec.specs.Layout.{pad, cell_state, key_of, put_cell, cell_from, cell_in}
use Rattle.cells.specs.Cells.{or_unset, cell_for}
use Rattle.outcomes.specs.declared.Outcome.{Outcome}
use Rattle.outcomes.specs.declared.Outcome.TheVariants as answer
use Rattle.outcomes.specs.Outcomes.{cells_from, cells_in, first_with, kind_number, said}

abbrev four-cells : List Cell
four-cells = Set (97 ∷ []) ∷ Multiple ∷ Unset ∷ NotSimple ∷ []

unfoldable bytes : Bytes
unfolding put_cell pad cell_state key_of
bytes = put_cell 5 (Set (97 ∷ [])) ++ (put_cell 0 Multiple ++ (put_cell 9 Unset ++ put_cell 0 NotSimple))

-- as many as the constraint has fields, and never more than four
one-field : cells_in 1 bytes ≡ Set (97 ∷ []) ∷ []
unfolding bytes cells_in cells_from cell_for or_unset cell_in cell_from
one-field = refl

four-fields : cells_in 4 bytes ≡ four-cells
unfolding bytes cells_in cells_from cell_for or_unset cell_in cell_from
four-fields = refl

five-fields : cells_in 5 bytes ≡ four-cells
unfolding bytes cells_in cells_from cell_for or_unset cell_in cell_from
five-fields = refl

-- by state: 0 Unset, 1 Set, 2 NotSimple, 3 Multiple; one that is not there, and one that is marked
firsts : map (λ (n : ℕ). first_with n four-cells) (0 ∷ 1 ∷ 2 ∷ 3 ∷ 4 ∷ []) ++ (first_with 4 (Set [] ∷ SetNillable [] ∷ SetNillable [] ∷ []) ∷ []) ≡ 2 ∷ 0 ∷ 3 ∷ 1 ∷ 4 ∷ 1 ∷ []
unfolding first_with cell_state
firsts = refl

-- ---- answers

abbrev one-key : List Text
one-key = (97 ∷ []) ∷ []

-- each by document 01's number and values
cases : map (λ (o : Outcome). said o one-key) (answer.Several ∷ answer.NotSimple ∷ answer.Missing 2 ∷ answer.Nillable 1 ∷ answer.Complete ∷ [])
    ≡ (some 1, several_nodes) ∷ (some 2, no_simple_value) ∷ (some 3, missing 2) ∷ (some 7, on_nillable 1 one-key) ∷ (none, complete one-key) ∷ []
cases = refl

-- the number is the kind that a key's selection with this outcome reports
abbrev scope : Scope
scope = record { number = 9; constraint = record { number = 3; name = []; kind = key; refer = none; selector = []; fields = [] } }

abbrev reported : tree.Outcome → List (Option ℕ)
reported o = map (λ (r : Report). some r.kind) (settle key o 6 scope (record { tuples = []; reports = []; told = [] })).reports

as-reported : map reported (several_nodes ∷ no_simple_value ∷ missing 2 ∷ []) ≡ map (λ (o : tree.Outcome). kind_number o ∷ []) (several_nodes ∷ no_simple_value ∷ missing 2 ∷ [])
unfolding settle missed report against
as-reported = refl

nillable-reported : reported (on_nillable 2 one-key) ≡ kind_number (on_nillable 2 one-key) ∷ []
unfolding settle nillable_key report against
nillable-reported = refl

kept : reported (complete one-key) ≡ []
unfolding settle completed keep_or keep place
kept = refl

unnumbered : kind_number (complete one-key) ≡ none
unnumbered = refl
