-- `tokenize` meets its contract: what is left behind a token has the fault that the whole has.
-- Assumes nothing.
use native.Mathlib.Omega.{arith}
use mathlib.Core.Path.{ap, ◌∙◌}
use Rattle.std.specs.declared.result.Result.TheVariants.{Ok}
use Rattle.std.proofs.lemmas.Result.{err_from_is_err_and}
use Rattle.tokens.proofs.Firsts.{fault-none, fault-bad, fault-on, behind-short}
use Rattle.tokens.proofs.tokenize.Goals as goal

pub loop-t-smaller : goal.loop-t-smaller
loop-t-smaller c = behind-short c.loop-t.rest.now _ c.first_token.ensures c.in-Some.t (c.in_ok-t.was ∙ ap Ok c.in-Some.is)

pub loop-t-preserved : goal.loop-t-preserved
loop-t-preserved c =
    let q = c.in_ok-t.was ∙ ap Ok c.in-Some.is in
    let short = behind-short c.loop-t.rest.now _ c.first_token.ensures c.in-Some.t q in
    (omega arith, fault-on c.loop-t.rest.now _ c.first_token.ensures c.in-Some.t q ∙ c.loop-t.invariant.1)

pub returns-in_err-t : goal.returns-in_err-t
returns-in_err-t c =
    let p = err_from_is_err_and c.from_residual.result c.from_residual.ensures.1 in
    rw (p.1, p.2) (fault-bad c.loop-t.rest.now _ c.first_token.ensures _ c.in_err-t.was ∙ c.loop-t.invariant.1)

pub returns : goal.returns
returns c = fault-none c.loop-t.rest.now _ c.first_token.ensures (c.in_ok-t.was ∙ ap Ok c.in_default.is) ∙ c.loop-t.invariant.1
