-- One cell of an open selection: when its bytes are exactly those that are written for the cell that they are.
-- Assumes nothing.
use Rattle.std.specs.Prelude.{ℕ, ◌/◌, eqb, get_or, Bool, cond}
use Rattle.lists.specs.Lists.{all}
use Rattle.texts.specs.Texts.{same}
use Rattle.tree.specs.Cells.{Cell, Unset}
use Rattle.records.specs.Readers.{Bytes}
use Rattle.session_spec.specs.Layout.{cell_in, put_cell}
use Rattle.cells.specs.Cells.{or_unset}

-- every byte is 0
unfoldable pub zeros : Bytes → Bool
zeros xs = all (λ b. eqb b 0) xs

-- the highest state of a cell: that of a field which the constraint lacks is Unset
abbrev pub highest : (has : Bool) → ℕ
highest has = cond has 4 0

-- the cell that bytes are; one of a field that the constraint lacks is Unset
unfoldable pub cell_or : (has : Bool) → Bytes → Cell
cell_or has xs = cond has (or_unset (cell_in xs)) Unset

-- the bytes are those of this cell, with this number beside its state
unfoldable pub exact_with : (more : ℕ) → (has : Bool) → Bytes → Bool
exact_with more has xs = same xs (put_cell more (cell_or has xs))

-- with the number that stands there
unfoldable pub exact : (has : Bool) → Bytes → Bool
exact has xs = exact_with (get_or xs 0 0 / 8) has xs
