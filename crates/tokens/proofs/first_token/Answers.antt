-- `first_token` meets its contract: by what stands behind the white space.
-- Assumes nothing.
use native.Mathlib.Omega.{arith}
use mathlib.Core.Path.{refl, ap, ◌∙◌}
use Rattle.std.specs.declared.result.Result.TheVariants.{Ok}
use Rattle.std.proofs.lemmas.Result.{err_from_is_err_and}
use Rattle.tokens.proofs.Firsts.{gap-room, gap-past, first-end, rest-room, first_found, first-fault}
use Rattle.tokens.proofs.first_token.Goals as goal

pub offset_bounds-s-start : goal.offset_bounds-s-start
offset_bounds-s-start c = let room = gap-room c.args.s.now _ c.gap_length-start.ensures in omega arith

pub slice_bounds-rest-count : goal.slice_bounds-rest-count
slice_bounds-rest-count c = let room = gap-room c.args.s.now _ c.gap_length-start.ensures in omega arith

pub slice_bounds-rest-start : goal.slice_bounds-rest-start
slice_bounds-rest-start c = let room = gap-room c.args.s.now _ c.gap_length-start.ensures in omega arith

pub next_token-requires : goal.next_token-requires
next_token-requires c = gap-past c.args.s.now _ c.gap_length-start.ensures

pub returns-in_err-f : goal.returns-in_err-f
returns-in_err-f c =
    let p = err_from_is_err_and c.from_residual.result c.from_residual.ensures.1 in
    rw (p.1, p.2) (first-fault c.args.s.now _ c.gap_length-start.ensures c.next_token.result c.next_token.ensures _ c.in_err-f.was)

pub returns-in_default : goal.returns-in_default
returns-in_default c =
    first-end c.args.s.now _ c.gap_length-start.ensures c.next_token.result c.next_token.ensures (c.in_ok-f.was ∙ ap Ok c.in_default.is)

pub overflow_add-result : goal.overflow_add-result
overflow_add-result c =
    let room = rest-room c.args.s.now _ c.gap_length-start.ensures c.next_token.result c.next_token.ensures c.in-Some.f (c.in_ok-f.was ∙ ap Ok c.in-Some.is) _ refl in
    omega arith

pub offset_bounds-rest-f : goal.offset_bounds-rest-f
offset_bounds-rest-f c =
    let room = rest-room c.args.s.now _ c.gap_length-start.ensures c.next_token.result c.next_token.ensures c.in-Some.f (c.in_ok-f.was ∙ ap Ok c.in-Some.is) _ refl in
    omega arith

pub slice_bounds-result-count : goal.slice_bounds-result-count
slice_bounds-result-count c =
    let room = rest-room c.args.s.now _ c.gap_length-start.ensures c.next_token.result c.next_token.ensures c.in-Some.f (c.in_ok-f.was ∙ ap Ok c.in-Some.is) _ refl in
    omega arith

pub slice_bounds-result-start : goal.slice_bounds-result-start
slice_bounds-result-start c =
    let room = rest-room c.args.s.now _ c.gap_length-start.ensures c.next_token.result c.next_token.ensures c.in-Some.f (c.in_ok-f.was ∙ ap Ok c.in-Some.is) _ refl in
    omega arith

pub returns : goal.returns
returns c =
    first_found c.args.s.now _ c.gap_length-start.ensures c.next_token.result c.next_token.ensures c.in-Some.f (c.in_ok-f.was ∙ ap Ok c.in-Some.is) _ refl _ refl
