-- `after_prefix` meets its contract: a law for each way out.
-- Assumes nothing.
use Prim.Native.Nat.{◌+◌}
use native.Mathlib.Omega.{arith}
use lib.ListN.{drop, length-drop}
use lib.Seq.{length-take-le}
use mathlib.Core.Path.{sym, ◌∙◌}
use Rattle.std.proofs.lemmas.List.{take_rest}
use Rattle.std.proofs.lemmas.Result.{err_from_is_err_and}
use Rattle.tokens.proofs.Runs.{named-room}
use Rattle.tokens.proofs.Scanning.{prefix-none, prefix-star, prefix-not, prefix-bad, prefix-name}
use Rattle.tokens.proofs.after_prefix.Goals as goal

pub returns-then-s-at : goal.returns-then-s-at
returns-then-s-at c = prefix-none c.args.s.now c.args.n c.if-s-at.true

pub returns-then-c-eq42 : goal.returns-then-c-eq42
returns-then-c-eq42 c = prefix-star c.args.s.now c.args.n c.requires c.if-s-at.false c.if-c-eq42.true

pub returns-then-not-run_start : goal.returns-then-not-run_start
returns-then-not-run_start c =
    prefix-not c.args.s.now c.args.n c.requires c.if-s-at.false c.if-c-eq42.false (sym c.run_start.ensures ∙ c.if-not-run_start.true)

pub returns-in_err-m : goal.returns-in_err-m
returns-in_err-m c =
    let p = err_from_is_err_and c.from_residual.result c.from_residual.ensures.1 in
    rw (p.1, p.2)
    (prefix-bad c.args.s.now c.args.n c.requires c.if-s-at.false c.if-c-eq42.false (sym c.run_start.ensures ∙ c.if-not-run_start.false) _ c.in_err-m.ensures)

pub overflow_add-result : goal.overflow_add-result
overflow_add-result c = let room = named-room c.args.s.now _ _ c.in_ok-m.ensures (omega arith) in omega arith

pub overflow_add-result-2 : goal.overflow_add-result-2
overflow_add-result-2 c = let room = named-room c.args.s.now _ _ c.in_ok-m.ensures (omega arith) in omega arith

pub slice_bounds-result-end : goal.slice_bounds-result-end
slice_bounds-result-end c =
    let room = named-room c.args.s.now _ _ c.in_ok-m.ensures (omega arith) in
    let left = length-drop (c.args.n + 2) c.args.s.now in
    let taken = length-take-le (c.in_ok-m.m + 1) (drop (c.args.n + 2) c.args.s.now) (omega arith) in
    rw (take_rest c.args.s.now (c.args.n + 2)) (omega arith)

pub returns : goal.returns
returns c =
    rw (take_rest c.args.s.now (c.args.n + 2))
    (prefix-name c.args.s.now c.args.n c.requires c.if-s-at.false c.if-c-eq42.false (sym c.run_start.ensures ∙ c.if-not-run_start.false) _ c.in_ok-m.ensures)
