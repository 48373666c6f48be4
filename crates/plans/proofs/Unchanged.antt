-- What a record does not touch is as it was: nothing new is nothing written, and the cells of selections that stay as they are are written as they stand.
-- Assumes nothing.
use Prim.Native.Nat.{ℕ, ◌+◌, ◌*◌, ◌≤◌}
use native.Mathlib.Nat.{zero-add}
use lib.ListN.{length, take, drop, drop_of_length-le}
use lib.Seq.{drop-append_seam}
use mathlib.Core.Path.{◌≡◌, refl, ap, sym, ◌∙◌}
use mathlib.Core.List.{List, [], ◌∷◌, ◌++◌, flat_map}
use mathlib.Core.Option.{some}
use Rattle.lists.specs.Lists.{over}
use Rattle.lists.proofs.Places.{over_nothing}
use Rattle.paths.specs.Reading.{every}
use Rattle.machine.specs.Machine.{OpenScope, Selection}
use Rattle.records.specs.Readers.{Bytes}
use Rattle.session_spec.specs.Layout.{parts, put_selection, selection_in}
use Rattle.session_spec.specs.Session.{behind_old}
use Rattle.cells.proofs.Machine.{area-is}

-- nothing was appended
pub none-behind : {A C : Type 0} (w : ℕ) (put : A → List C) (old new : List A) (area : List C) → length new ≤ length old → behind_old w put old new area ≡ area
unfolding behind_old flat_map
none-behind w put old new area h = rw (drop_of_length-le new h) (over_nothing area (w * length old))

written-again : (xs rest : Bytes) → over (xs ++ rest) 0 xs ≡ xs ++ rest
written-again xs rest = rw (zero-add (length xs), drop-append_seam xs rest)

-- the open selections, written where they stand
pub cells-again : (os : List OpenScope) (ss : List Selection) (area : Bytes) → every (selection_in os) (parts 512 (length ss) area) ≡ some ss
    → over area 0 (flat_map (put_selection os) ss) ≡ area
cells-again os ss area e =
    let xs : Bytes = flat_map (put_selection os) ss in
    let rest : Bytes = drop (512 * length ss) area in
    let a : area ≡ xs ++ rest = area-is os ss area e in
    ap (λ (l : Bytes). over l 0 xs) a ∙ written-again xs rest ∙ sym a
