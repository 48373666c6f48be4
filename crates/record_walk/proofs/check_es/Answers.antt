-- `check_es` meets its contract: the rows are those of the definition, by the first that holds.
-- Assumes nothing.
use Rattle.record_walk.proofs.Judging.{utf8-row, over-row, no_row, es-byte}
use Rattle.record_walk.proofs.check_es.Goals as goal

pub returns-then-es_not_utf8 : goal.returns-then-es_not_utf8
returns-then-es_not_utf8 c = utf8-row _ _ (cc)

pub returns-then-es_over : goal.returns-then-es_over
returns-then-es_over c = over-row _ _ (cc) (es-byte _ _) (cc)

pub returns : goal.returns
returns c = record { says = no_row _ (cc) (es-byte _ _) (cc); inside = c.requires.0 }
