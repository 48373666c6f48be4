-- `scopes_fit` meets its contract. The loop's invariant: all fit exactly if those from here on do, behind the last one seen.
-- Assumes nothing.
use native.Mathlib.Omega.{arith}
use mathlib.Core.Path.{refl, ap, sym, ◌∙◌}
use Rattle.open_scopes.proofs.Fitting.{before_first, fit_from, fits-at-start, unfit-here, stays_here, fits-here, fits-at-end}
use Rattle.open_scopes.proofs.scopes_fit.Goals.{then-not-scope_fits-via-then-not-scope_fits, then-not-scope_fits-via-else-not-scope_fits+then-not-scope_follows}
use Rattle.open_scopes.proofs.scopes_fit.Goals as goal

pub loop-one-init : goal.loop-one-init
loop-one-init c =
    let a = c.args in
    (omega arith, ap (λ l. fit_from a.constraints a.depth a.opened l 0 before_first) c.open-one-items.ensures ∙ fits-at-start a.constraints a.depth a.opened a.s)

pub returns-then-not-scope_fits : goal.returns-then-not-scope_fits
returns-then-not-scope_fits c =
    let a = c.args in
    let l = c.loop-one in
    let items = c.open-one-items.result.now in
    elim c.then-not-scope_fits.branch [
      | then-not-scope_fits-via-then-not-scope_fits w ↦
          unfit-here a.constraints a.depth a.opened items l.one-index l.last _ refl (omega arith)
          (sym w.if-not-scope_fits.true ∙ c.scope_fits.ensures)
          ∙ l.invariant.1
      | then-not-scope_fits-via-else-not-scope_fits+then-not-scope_follows w ↦
          stays_here a.constraints a.depth a.opened items l.one-index l.last _ refl (omega arith)
          (sym w.if-not-scope_follows.true ∙ w.scope_follows.ensures)
          ∙ l.invariant.1
    ]

pub loop-one-preserved : goal.loop-one-preserved
loop-one-preserved c =
    let a = c.args in
    let l = c.loop-one in
    let items = c.open-one-items.result.now in (
      omega arith,
      fits-here a.constraints a.depth a.opened items l.one-index l.last _ refl (omega arith)
          (sym c.if-not-scope_fits.false ∙ c.scope_fits.ensures) (sym c.if-not-scope_follows.false ∙ c.scope_follows.ensures)
          ∙ l.invariant.1,
    )

pub returns : goal.returns
returns c =
    let a = c.args in
    let l = c.loop-one in
    fits-at-end a.constraints a.depth a.opened c.open-one-items.result.now l.one-index l.last (omega arith) ∙ l.invariant.1
