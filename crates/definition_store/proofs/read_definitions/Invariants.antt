-- `read_definitions` meets its contract. The loop's invariant: the bytes passed over read as definitions with this tally, and what is left is replayed behind them.
-- Assumes nothing.
use Rattle.session_spec.specs.Definitions.{frame}
use Rattle.output_stores.specs.Stores.{standing}
use Rattle.definition_store.proofs.Walks.{Upto}
use Rattle.definition_store.proofs.read_definitions.Given as goal

abbrev pub invariant-loop-record : goal.invariant-loop-record
invariant-loop-record l = Upto l.used (standing frame l.record-iterator.0.now) l.before l.tally
