-- `split_report` meets its contract: where a report stands there are eighteen bytes, and it is read of them.
-- Assumes nothing.
use Rattle.std.proofs.Common.{rules, sym}
use Rattle.reports.proofs.Reading.{front, front-read, no_front}
use Rattle.reports.proofs.split_report.Goals as goal
use Rattle.std.proofs.lemmas.List.{take_rest}

pub returns-then-not-is_report : goal.returns-then-not-is_report
returns-then-not-is_report c = sym (no_front c.args.s.now (search rules))

pub slice_bounds-result-count : goal.slice_bounds-result-count
slice_bounds-result-count c = (front c.args.s.now (search rules)).long

pub slice_bounds-result-start : goal.slice_bounds-result-start
slice_bounds-result-start c = (front c.args.s.now (search rules)).long

pub returns : goal.returns
returns c =
    front-read c.args.s.now (search rules) c.byte_at.result c.byte_at-2.result c.byte_at-3.result c.four_at.result c.four_at-2.result c.four_at-3.result _
    c.byte_at.ensures c.byte_at-2.ensures c.byte_at-3.ensures c.four_at.ensures c.four_at-2.ensures c.four_at-3.ensures (take_rest c.args.s.now 18)
