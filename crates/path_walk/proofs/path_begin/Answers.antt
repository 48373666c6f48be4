-- `path_begin` meets its contract: each answer is a law on the first character that is no white space, and on the token behind it.
-- Assumes nothing.
use native.Mathlib.Omega.{arith}
use mathlib.Core.Path.{sym, ◌∙◌}
use Rattle.tokens.proofs.Firsts.{gap-room}
use Rattle.path_walk.proofs.Begins.{begin-empty, begin-step, begin-dot, begin-other, begin-descent}
use Rattle.path_walk.proofs.path_begin.Goals as goal

pub offset_bounds-s-i : goal.offset_bounds-s-i
offset_bounds-s-i c = let room = gap-room c.args.s.now c.gap_length-i.result c.gap_length-i.ensures in omega arith

pub slice_bounds-split_first-count : goal.slice_bounds-split_first-count
slice_bounds-split_first-count c = gap-room c.args.s.now c.gap_length-i.result c.gap_length-i.ensures

pub slice_bounds-split_first-start : goal.slice_bounds-split_first-start
slice_bounds-split_first-start c = gap-room c.args.s.now c.gap_length-i.result c.gap_length-i.ensures

pub returns-in_default : goal.returns-in_default
returns-in_default c = begin-empty c.args.s.now c.gap_length-i.result c.gap_length-i.ensures c.in_default.ensures.cases

pub returns-then-first-ne46 : goal.returns-then-first-ne46
returns-then-first-ne46 c = begin-step c.args.s.now c.gap_length-i.result c.gap_length-i.ensures _ _ c.in-Some.ensures.cases.0 c.if-first-ne46.true

pub returns-in_default-unwrap_or : goal.returns-in_default-unwrap_or
returns-in_default-unwrap_or c =
    begin-dot c.args.s.now c.gap_length-i.result c.gap_length-i.ensures _ _ c.in-Some.ensures.cases.0 c.if-first-ne46.false
    c.first_token.result c.first_token.ensures (sym c.unwrap_or.ensures ∙ c.in_default-unwrap_or.is)

pub returns-in-DoubleSlash : goal.returns-in-DoubleSlash
returns-in-DoubleSlash c =
    begin-descent c.args.s.now c.gap_length-i.result c.gap_length-i.ensures _ _ c.in-Some.ensures.cases.0 c.if-first-ne46.false
    c.first_token.result c.first_token.ensures c.in-Some-unwrap_or.t (sym c.unwrap_or.ensures ∙ c.in-Some-unwrap_or.is) c.in-DoubleSlash.is

pub returns-in_default-tok : goal.returns-in_default-tok
returns-in_default-tok c =
    begin-other c.args.s.now c.gap_length-i.result c.gap_length-i.ensures _ _ c.in-Some.ensures.cases.0 c.if-first-ne46.false
    c.first_token.result c.first_token.ensures c.in-Some-unwrap_or.t (sym c.unwrap_or.ensures ∙ c.in-Some-unwrap_or.is) c.in_default-tok.not-DoubleSlash
