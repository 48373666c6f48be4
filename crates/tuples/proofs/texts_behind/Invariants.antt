-- `texts_behind` meets its contract: one text after the other, as long as each is whole.
-- Assumes nothing.
use Prim.Native.Nat.{◌-◌}
use Rattle.records.specs.Readers.{read_text, bytes_from}
use mathlib.Core.Path.{◌≡◌}
use Rattle.tuples.proofs.texts_behind.Given as goal

abbrev pub invariant-loop-passed : goal.invariant-loop-passed
invariant-loop-passed l = bytes_from (l.count - l.passed) read_text l.rest ≡ bytes_from l.count read_text l.s
