-- `selections_read` meets its contract. The loop's invariant: all read exactly if those from here on do, behind the last one seen.
-- Assumes nothing.
use Rattle.std.proofs.Common.{rules}
use native.Mathlib.Omega.{arith}
use lib.ListN.{length}
use mathlib.Core.Path.{refl, ap, sym, ◌∙◌}
use Rattle.std.specs.Iterator.Adapters.{take_source, take_count}
use Rattle.std.specs.Slice.Iter.{chunks_exact_rest, chunks_exact_size}
use Rattle.session_spec.specs.Layout.{parts}
use Rattle.open_scopes.specs.OpenScopes.{open_of}
use Rattle.selections.proofs.Order.{there, none_left, read-at-start, read-at-end, too-short, no-scope-here, unfit-here, stays_here, fits-here, fit-open}
use Rattle.selections.proofs.selections_read.Goals as goal

pub returns-then-cells-n : goal.returns-then-cells-n
returns-then-cells-n c =
    let a = c.args in
    too-short (open_of a.scopes) a.fields.now a.depth a.n a.cells.now c.if-cells-n.true
    ∙ fit-open a.scopes (open_of a.scopes) refl a.fields.now a.depth (parts 512 a.n a.cells.now)

pub loop-chunk-init : goal.loop-chunk-init
loop-chunk-init c =
    let a = c.args in
    let it = c.into_iter-chunk-iterator in
    let source = ap take_source it.ensures.into_iter_gives ∙ c.take-chunk-items.ensures.source in
    let left = ap take_count it.ensures.into_iter_gives ∙ c.take-chunk-items.ensures.count in
    let rest = ap chunks_exact_rest source ∙ c.chunks_exact.ensures.rest in (
      ap chunks_exact_size source ∙ c.chunks_exact.ensures.size,
      omega (arith, ap length rest, left, c.if-cells-n.false),
      rw (rest, left) (read-at-start c.open-open.result.now a.fields.now a.depth a.cells.now a.n),
    )

pub returns-in_default : goal.returns-in_default
returns-in_default c =
    let a = c.args in
    let l = c.loop-chunk in
    let s = c.in-Some.ensures.steps in
    let held = c.open-open in
    let place = c.scope_at-place in
    no-scope-here held.result.now a.fields.now a.depth _ _ _ _ _ l.last s.0.1.0 (s.0.1.1 ∙ l.invariant.0) s.1 place.result place.ensures (search rules)
    ∙ l.invariant.2
    ∙ fit-open a.scopes held.result.now held.ensures a.fields.now a.depth (parts 512 a.n a.cells.now)

pub returns-then-not-selection_fits : goal.returns-then-not-selection_fits
returns-then-not-selection_fits c =
    let a = c.args in
    let l = c.loop-chunk in
    let s = c.in-Some.ensures.steps in
    let held = c.open-open in
    let place = c.scope_at-place in
    unfit-here held.result.now a.fields.now a.depth _ _ _ _ _ l.last s.0.1.0 (s.0.1.1 ∙ l.invariant.0) s.1 place.result place.ensures c.in-Some-get.home.now (search rules) (search rules) c.byte_at-many.result c.byte_at-many.ensures
    (sym c.if-not-selection_fits.true ∙ c.selection_fits.ensures)
    ∙ l.invariant.2
    ∙ fit-open a.scopes held.result.now held.ensures a.fields.now a.depth (parts 512 a.n a.cells.now)

pub returns-then-not-comes_after : goal.returns-then-not-comes_after
returns-then-not-comes_after c =
    let a = c.args in
    let l = c.loop-chunk in
    let s = c.in-Some.ensures.steps in
    let held = c.open-open in
    let place = c.scope_at-place in
    stays_here held.result.now a.fields.now a.depth _ _ _ _ _ l.last s.0.1.0 (s.0.1.1 ∙ l.invariant.0) s.1 place.result place.ensures c.in-Some-get.home.now (search rules) (search rules) c.depth_at.result c.depth_at.ensures
    (sym c.if-not-comes_after.true ∙ c.comes_after.ensures)
    ∙ l.invariant.2
    ∙ fit-open a.scopes held.result.now held.ensures a.fields.now a.depth (parts 512 a.n a.cells.now)

pub loop-chunk-preserved : goal.loop-chunk-preserved
loop-chunk-preserved c =
    let a = c.args in
    let l = c.loop-chunk in
    let s = c.in-Some.ensures.steps in
    let held = c.open-open in
    let place = c.scope_at-place in (
      s.0.0 ∙ l.invariant.0,
      there _ _ _ _ _ s.0.1.0 (s.0.1.1 ∙ l.invariant.0) s.1 l.invariant.1,
      fits-here held.result.now a.fields.now a.depth _ _ _ _ _ l.last s.0.1.0 (s.0.1.1 ∙ l.invariant.0) s.1 place.result place.ensures c.in-Some-get.home.now (search rules) (search rules) c.depth_at.result c.depth_at.ensures c.byte_at-many.result c.byte_at-many.ensures
          (sym c.if-not-selection_fits.false ∙ c.selection_fits.ensures) (sym c.if-not-comes_after.false ∙ c.comes_after.ensures)
          ∙ l.invariant.2,
    )

pub returns : goal.returns
returns c =
    let a = c.args in
    let l = c.loop-chunk in
    let held = c.open-open in
    read-at-end held.result.now a.fields.now a.depth _ _ l.last (none_left _ _ _ l.invariant.0 l.invariant.1 (λ h. (c.in-None.ensures.steps h).1.0))
    ∙ l.invariant.2
    ∙ fit-open a.scopes held.result.now held.ensures a.fields.now a.depth (parts 512 a.n a.cells.now)
