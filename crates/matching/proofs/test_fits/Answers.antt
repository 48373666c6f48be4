-- `test_fits` meets its contract: a law for each way out, with what the local part's test told.
-- Assumes nothing.
use mathlib.Core.Path.{ap, sym, ◌∙◌}
use Rattle.paths.specs.Matching.{space_fits, local_fits}
use Rattle.path_entries.specs.Entries.{local_from}
use Rattle.bindings.specs.Bindings.{bound_by}
use Rattle.matching.specs.Walks.{name_at}
use Rattle.matching.proofs.Names.{space-is, local-is}
use Rattle.matching.proofs.Tests.{fits_not, fits-plain, fits-prefixed}
use Rattle.matching.proofs.test_fits.Goals as goal

pub returns-then-not-local_fits : goal.returns-then-not-local_fits
returns-then-not-local_fits c =
    let a = c.args in
    let told = c.local_fits.ensures ∙ ap (local_fits (local_from a.t.local.now)) (c.half_at.ensures ∙ local-is a.i a.names.now) in
    fits_not (bound_by a.b.now) a.t (name_at a.i a.names.now) (sym told ∙ c.if-not-local_fits.true)

pub returns-in-None : goal.returns-in-None
returns-in-None c =
    let a = c.args in
    let told = c.local_fits.ensures ∙ ap (local_fits (local_from a.t.local.now)) (c.half_at.ensures ∙ local-is a.i a.names.now) in
    fits-plain (bound_by a.b.now) a.t (name_at a.i a.names.now) (sym told ∙ c.if-not-local_fits.false) c.in-None.is

pub returns-in-Some : goal.returns-in-Some
returns-in-Some c =
    let a = c.args in
    let find = bound_by a.b.now in
    let told = c.local_fits.ensures ∙ ap (local_fits (local_from a.t.local.now)) (c.half_at.ensures ∙ local-is a.i a.names.now) in
    let p = c.in-Some.prefix in
    c.fits.ensures
    ∙ ap (space_fits (find p.now)) (c.half_at-in-Some.ensures ∙ space-is a.i a.names.now)
    ∙ fits-prefixed find a.t (name_at a.i a.names.now) (sym told ∙ c.if-not-local_fits.false) p c.in-Some.is
