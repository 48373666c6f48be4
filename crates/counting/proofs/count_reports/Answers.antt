-- `count_reports` meets its contract: one report after the other, as long as one is whole.
-- Assumes nothing.
use Rattle.std.proofs.Common.{arith, ◌∙◌}
use Rattle.std.specs.Slice.Iter.{chunks_exact_rest}
use Rattle.counting.proofs.Raising.{all-raised, one-raised, reports-more, reports-end}
use Rattle.counting.specs.Places.{report_places}
use Rattle.counting.proofs.count_reports.Goals as goal

pub loop-report-preserved : goal.loop-report-preserved
loop-report-preserved c =
    let a = c.args in
    let l = c.loop-report in
    let s = c.in-Some.ensures.steps in (
      s.0 ∙ l.invariant.0,
      one-raised a.totals.now (report_places a.new.now) l.totals (report_places (chunks_exact_rest l.report-iterator)) l.invariant.1 _ _
          (reports-more _ _ _ s.1.0 (s.1.1 ∙ l.invariant.0) _ (c.from-constraint.ensures ∙ c.byte_at.ensures)) _ c.raise.ensures,
    )

pub returns : goal.returns
returns c =
    let a = c.args in
    let l = c.loop-report in
    let s = c.in-None.ensures.steps in
    all-raised a.totals.now (report_places a.new.now) l.totals (report_places (chunks_exact_rest l.report-iterator)) l.invariant.1
    (reports-end (chunks_exact_rest l.report-iterator) (omega (arith, s.1.0, l.invariant.0)))
