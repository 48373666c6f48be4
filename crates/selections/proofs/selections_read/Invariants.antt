-- `selections_read` meets its contract. The loop's invariant: all read exactly if those from here on do, behind the last one seen.
-- Assumes nothing.
use Prim.Native.Nat.{◌*◌, ◌≤◌}
use lib.ListN.{length}
use mathlib.Core.Path.{◌≡◌}
use Rattle.std.specs.Iterator.Adapters.{take_source, take_count}
use Rattle.std.specs.Slice.Iter.{chunks_exact_rest, chunks_exact_size}
use Rattle.session_spec.specs.Layout.{parts}
use Rattle.selections.specs.Selections.{selections_fit}
use Rattle.selections.proofs.Order.{homes_of, read_from}
use Rattle.selections.proofs.selections_read.Given as goal

abbrev pub invariant-loop-chunk : goal.invariant-loop-chunk
invariant-loop-chunk l =
    let rest = chunks_exact_rest (take_source l.chunk-iterator) in
    let left = take_count l.chunk-iterator in
    (chunks_exact_size (take_source l.chunk-iterator) ≡ 512) × (512 * left ≤ length rest)
    × (read_from l.open l.fields l.depth rest left l.last ≡ selections_fit (homes_of l.open l.fields) l.depth (parts 512 l.n l.cells))
