-- `take_ee` meets its contract: each refusal is a law of a world that decodes, at the tests that led there; behind them an element is open.
-- Assumes nothing.
use Rattle.std.proofs.Common.{rules}
use lib.Dec.{eqb}
use borrow.Author.Tests.{eqb-true, eqb-false}
use mathlib.Core.Path.{◌≡◌, sym, ◌∙◌}
use Rattle.worlds.specs.declared.SessionRefusal.{SessionRefusal}
use Rattle.worlds.specs.declared.SessionRefusal.TheVariants.{Unbalanced}
use Rattle.worlds.specs.declared.Done.{Done}
use Rattle.worlds.specs.Replies.{refusal}
use Rattle.event_answers.specs.Ending.{TakesEe}
use Rattle.event_answers.proofs.InPlace.{refused_for, free}
use Rattle.ending.proofs.Taking.{takes-done, takes-many, takes_none}
use Rattle.ending.proofs.take_ee.Goals as goal

pub returns-in-Err : goal.returns-in-Err
returns-in-Err c =
    let a = c.args in
    let u = c.unpack-c in
    let d = c.depth_of-depth in
    λ marked. refused_for u.result.stage a.n.events (eqb d.result 0) Unbalanced c.in-Err.why (sym c.in_place.ensures ∙ c.in-Err.is)
    (λ (q : SessionRefusal). (r : Done) → r ≡ refusal a.n a.list q → TakesEe a.n a.list a.ee a.rec.now a.defs.now a.tuples.now a.reports.now a.paths.now a.names.now a.cells.now r a.tuples.now a.reports.now a.paths.now a.cells.now)
    (λ x. takes-done a.n a.list a.ee a.rec.now a.defs.now a.tuples.now a.reports.now a.paths.now a.names.now a.cells.now u.result u.ensures x)
    (λ x y. takes-many a.n a.list a.ee a.rec.now a.defs.now a.tuples.now a.reports.now a.paths.now a.names.now a.cells.now u.result u.ensures x y)
    (λ x y z. takes_none a.n a.list a.ee a.rec.now a.defs.now a.tuples.now a.reports.now a.paths.now a.names.now a.cells.now u.result u.ensures x y d.result d.ensures (eqb-true d.result 0 z))
    c.refusing.result c.refusing.ensures

pub invariant_of-at : goal.invariant_of-at
invariant_of-at c =
    record { early = (free c.unpack-c.result.stage c.args.n.events (eqb c.depth_of-depth.result 0) Unbalanced c.in-Ok.field-0 (sym c.in_place.ensures ∙ c.in-Ok.is)).early }

pub returns-in-Ok : goal.returns-in-Ok
returns-in-Ok c =
    let a = c.args in
    let u = c.unpack-c in
    let d = c.depth_of-depth in
    let f = free u.result.stage a.n.events (eqb d.result 0) Unbalanced c.in-Ok.field-0 (sym c.in_place.ensures ∙ c.in-Ok.is) in
    λ marked. c.end_element.ensures (record { counts = u.ensures; unfinished = f.begun; early = f.early; level = d.ensures; inside = eqb-false d.result 0 f.right }) marked
