-- The cells of a selection's bytes, and what the code's answer says of them.
-- Assumes nothing.
use Rattle.std.specs.Prelude.{ℕ, zero, suc, min, eqb, take, drop, cond, List, [], ◌∷◌}
use Rattle.std.proofs.Math.Option.{Option, none, some}
use Rattle.texts.specs.Texts.{Text}
use Rattle.tree.specs.Cells.{Cell}
use Rattle.tree.specs.Judge as tree
use Rattle.tree.specs.Judge.{several_nodes, no_simple_value, missing, on_nillable, complete}
use Rattle.records.specs.Readers.{Bytes}
use Rattle.session_spec.specs.Layout.{cell_state}
use Rattle.cells.specs.Cells.{cell_for}
use Rattle.outcomes.specs.declared.Outcome.{Outcome}
use Rattle.outcomes.specs.declared.Outcome.TheVariants.{Several, NotSimple, Missing, Nillable, Complete}

-- n cells of 128 bytes, one behind the other
unfoldable pub cells_from : ℕ → Bytes → List Cell
cells_from zero xs = []
cells_from (suc n) xs = cell_for (take 128 xs) ∷ cells_from n (drop 128 xs)

-- the cells of the first `fields` fields; a selection has four at most
unfoldable pub cells_in : (fields : ℕ) → Bytes → List Cell
cells_in fields xs = cells_from (min 4 fields) xs

-- the place of the first cell with this state; as many as there are where none has it
unfoldable pub first_with : (state : ℕ) → List Cell → ℕ
first_with state [] = 0
first_with state (c ∷ cs) = cond (eqb (cell_state c) state) 0 (suc (first_with state cs))

-- the number of an outcome, of document 01 and for 7 of request U9: the kind of the report on it, which for a missing field and for one on a nillable
-- element only a key gets
abbrev pub kind_number : tree.Outcome → Option ℕ
kind_number several_nodes = some 1
kind_number no_simple_value = some 2
kind_number (missing i) = some 3
kind_number (on_nillable i ks) = some 7
kind_number (complete ks) = none

abbrev pub numbered : tree.Outcome → Option ℕ × tree.Outcome
numbered o = (kind_number o, o)

-- THE NUMBER AND THE OUTCOME that each answer is, of a selection with these keys
abbrev pub said : Outcome → List Text → Option ℕ × tree.Outcome
said Several ks = (some 1, several_nodes)
said NotSimple ks = (some 2, no_simple_value)
said (Missing i) ks = (some 3, missing i)
said (Nillable i) ks = (some 7, on_nillable i ks)
said Complete ks = (none, complete ks)
