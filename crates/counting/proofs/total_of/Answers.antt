-- `total_of` meets its contract: refusal 10, three zeros, or the entry.
-- Assumes nothing.
use Rattle.std.proofs.Common.{rules, ◌≡◌}
use Rattle.std.proofs.Math.Option.{some}
use mathlib.Core.Path.{ap, sym, ◌∙◌}
use Rattle.totals.specs.Totals.{constraints_in, nothing}
use native.Mathlib.Omega.{arith}
use Rattle.counting.specs.Readings.{total_in}
use Rattle.counting.proofs.Answering.{answer-unfit, answer-nothing, answer-entry}
use Rattle.counting.proofs.total_of.Goals as goal

pub returns-then-not-totals_fit : goal.returns-then-not-totals_fit
returns-then-not-totals_fit c = let a = c.args in answer-unfit a.totals.now (constraints_in a.used a.defs.now) a.number (sym c.totals_fit.ensures ∙ c.if-not-totals_fit.true)

pub returns-then-constraints_in-number : goal.returns-then-constraints_in-number
returns-then-constraints_in-number c =
    let a = c.args in
    let z : total_in c.default.result ≡ nothing = search rules in
    ap some z
    ∙ answer-nothing a.totals.now (constraints_in a.used a.defs.now) a.number (sym c.totals_fit.ensures ∙ c.if-not-totals_fit.false) (omega (arith, c.constraints_in.ensures, c.if-constraints_in-number.true))

pub returns : goal.returns
returns c = let a = c.args in answer-entry a.totals.now (constraints_in a.used a.defs.now) a.number (sym c.totals_fit.ensures ∙ c.if-not-totals_fit.false) (omega (arith, c.constraints_in.ensures, c.if-constraints_in-number.false)) _ c.entry_of.ensures
