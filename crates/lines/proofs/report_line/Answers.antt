-- `report_line` meets its contract: its six numbers are appended one behind the other.
-- Assumes nothing.
use Rattle.lines.proofs.Filled.{report-filled}
use Rattle.lines.specs.Lines.{report_in}
use mathlib.Core.Path.{refl, ◌∙◌}
use Rattle.lines.proofs.report_line.Goals as goal

pub returns : goal.returns
returns c = let w1 = c.word.new.self in
    let w2 = c.word-2.new.self in
    let w3 = c.word-3.new.self in
    let w4 = c.word-4.new.self in
    let w5 = c.word-5.new.self in
    let w6 = c.word-6.new.self in
    let tuple = c.from-tuple in
    let event = c.from-event in
    let scope = c.from-scope in
    let field = c.from-field in
    let constraint = c.from-constraint in
    let kind = c.from-kind in
    let args = c.args in
    report-filled _ refl (report_in args.report.now) event.result kind.result constraint.result field.result scope.result tuple.result w1.size w1.bytes w2.size w2.bytes w3.size w3.bytes w4.size w4.bytes w5.size w5.bytes w6.size w6.bytes (event.ensures ∙ c.four_at-2.ensures) (kind.ensures ∙ c.byte_at.ensures) (constraint.ensures ∙ c.byte_at-2.ensures) (field.ensures ∙ c.byte_at-3.ensures) (scope.ensures ∙ c.four_at.ensures) (tuple.ensures ∙ c.four_at-3.ensures) c.word.ensures c.word-2.ensures c.word-3.ensures c.word-4.ensures c.word-5.ensures c.word-6.ensures
