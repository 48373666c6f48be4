-- `walk_ee` meets its contract: each return by a law of its own.
-- Assumes nothing.
use native.Mathlib.Omega.{arith}
use mathlib.Core.Path.{◌≡◌}
use Rattle.std.proofs.lemmas.Grind.{common_steps}
use Rattle.std.specs.declared.result.Result.TheVariants.{Err}
use Rattle.record_places.specs.declared.Refusal.TheVariants.{Misframed}
use Rattle.record_walk.proofs.Members.{text_to, text-at, text-ends}
use Rattle.record_walk.proofs.Bodies.{ee-no-key, ee-misframed, ee-framed}
use Rattle.record_walk.proofs.Framed.walk_ee.Goals as goal

pub returns-in_err-key : goal.returns-in_err-key
returns-in_err-key c =
    let a = c.args.self in
    let e = c.in_err-key.ensures in
    let m : c.from_residual.result ≡ Err Misframed = grind (arith, common_steps, e.1) in
    rw m (ee-no-key a.rec.now a.head e.0)

pub overflow_add-key : goal.overflow_add-key
overflow_add-key c = omega (arith, text-ends c.args.self.rec.now 5 c.in_ok-key.key c.in_ok-key.ensures)

pub returns-then-key-self : goal.returns-then-key-self
returns-then-key-self c =
    let s = c.args.self.rec.now in
    let k = c.in_ok-key in
    ee-misframed s c.args.self.head (text_to s 5 k.key) (text-at s 5 k.key k.ensures) c.if-key-self.true

pub returns : goal.returns
returns c =
    let s = c.args.self.rec.now in
    let k = c.in_ok-key in
    let b = c.byte_at-simple in
    ee-framed s c.args.self.head (text_to s 5 k.key) (text-at s 5 k.key k.ensures) b.result b.ensures c.if-key-self.false c.check_ee.result c.check_ee.ensures
