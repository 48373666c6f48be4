-- `report_all` meets its contract. The invariant: with the reports of what is left behind those written, all are written.
-- Assumes nothing.
use Rattle.std.specs.Iterator.Adapters.{enumerate_source, enumerate_count}
use Rattle.session_spec.specs.Definitions.{frame}
use Rattle.output_stores.specs.Stores.{standing}
use Rattle.finishing.proofs.Walking.{Writing}
use Rattle.finishing.proofs.report_all.Given as goal

abbrev pub invariant-loop-before : goal.invariant-loop-before
invariant-loop-before l = Writing l.t.refs l.t.used.now l.event l.initial.reports l.at l.reports (standing frame (enumerate_source l.before-iterator).0.now) (enumerate_count l.before-iterator) l.end
