-- What the code's answers stand for: a total by its three numbers, and refusal 10 where there is none.
-- Assumes nothing.
use Rattle.std.proofs.Math.Option.{Option, none, some}
use Rattle.totals.specs.Totals as spec
use Rattle.counting.specs.declared.Total as code
use Rattle.std.specs.Prelude as std
use Rattle.std.specs.Prelude.{Some, None}

abbrev pub total_in : code.Total → spec.Total
total_in t = record { reached = t.reached; tuples = t.tuples; reports = t.reports }

abbrev pub reading_of : std.Option code.Total → Option spec.Total
reading_of None = none
reading_of (Some t) = some (total_in t)
