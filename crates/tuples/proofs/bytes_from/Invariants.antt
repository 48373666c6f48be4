-- `bytes_from` meets its contract: one TU after the other, as long as one is there.
-- Assumes nothing.
use Prim.Native.Nat.{◌-◌}
use Rattle.session_spec.specs.Layout.{read_tu}
use Rattle.records.specs.Readers.{bytes_from}
use mathlib.Core.Path.{◌≡◌}
use Rattle.tuples.proofs.bytes_from.Given as goal

abbrev pub invariant-loop-ahead : goal.invariant-loop-ahead
invariant-loop-ahead l = bytes_from (l.count - l.ahead) read_tu l.rest ≡ bytes_from l.count read_tu l.used
