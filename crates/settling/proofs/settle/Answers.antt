-- `settle` meets its contract: one law for each outcome.
-- Assumes nothing.
use mathlib.Core.Path.{◌∙◌}
use native.Mathlib.Omega.{arith}
use Rattle.settlements.specs.Finished.{kind_in, settlement_of}
use Rattle.settling.proofs.Answers.{missing-small, nillable-small, settled-several, settled-not-simple, settled-missing, settled-nillable, settled-complete}
use Rattle.settling.proofs.settle.Goals as goal

pub overflow_cast-i : goal.overflow_cast-i
overflow_cast-i c =
    let a = c.args in
    let o = c.outcome_of in
    omega (arith, missing-small a.home.fields a.cells.now o.result o.ensures c.in-Missing.i c.in-Missing.is)

pub overflow_cast-i-in-Nillable : goal.overflow_cast-i-in-Nillable
overflow_cast-i-in-Nillable c =
    let a = c.args in
    let o = c.outcome_of in
    omega (arith, nillable-small a.home.fields a.cells.now o.result o.ensures c.in-Nillable.i c.in-Nillable.is)

pub returns-in-Several : goal.returns-in-Several
returns-in-Several c =
    let a = c.args in
    let o = c.outcome_of in
    λ marked. c.answer.ensures ∙ settled-several a.home.fields a.cells.now o.result o.ensures (kind_in a.home.kind) a.home.referred a.home.number a.tuples.used.now c.in-Several.is

pub returns-in-NotSimple : goal.returns-in-NotSimple
returns-in-NotSimple c =
    let a = c.args in
    let o = c.outcome_of in
    λ marked. c.answer-in-NotSimple.ensures ∙ settled-not-simple a.home.fields a.cells.now o.result o.ensures (kind_in a.home.kind) a.home.referred a.home.number a.tuples.used.now c.in-NotSimple.is

pub returns-in-Missing : goal.returns-in-Missing
returns-in-Missing c =
    let a = c.args in
    let o = c.outcome_of in
    λ marked. settled-missing a.home.fields a.cells.now o.result o.ensures (kind_in a.home.kind) a.home.referred a.home.number a.tuples.used.now c.in-Missing.i c.in-Missing.is (settlement_of c.settle_missing.result) c.settle_missing.ensures

pub returns-in-Nillable : goal.returns-in-Nillable
returns-in-Nillable c =
    let a = c.args in
    let o = c.outcome_of in
    λ marked. settled-nillable a.home.fields a.cells.now o.result o.ensures (kind_in a.home.kind) a.home.referred a.home.number a.tuples.used.now c.in-Nillable.i c.in-Nillable.is (settlement_of c.settle_nillable.result) (c.settle_nillable.ensures marked)

pub returns-in-Complete : goal.returns-in-Complete
returns-in-Complete c =
    let a = c.args in
    let o = c.outcome_of in
    λ marked. settled-complete a.home.fields a.cells.now o.result o.ensures (kind_in a.home.kind) a.home.referred a.home.number a.tuples.used.now c.in-Complete.is (settlement_of c.settle_complete.result) (c.settle_complete.ensures marked)
