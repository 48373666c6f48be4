-- `walk_ns` meets its contract: each return by a law of its own.
-- Assumes nothing.
use native.Mathlib.Omega.{arith}
use Prim.Native.Nat.{◌+◌}
use mathlib.Core.Path.{◌≡◌}
use Rattle.std.proofs.lemmas.Grind.{common_steps}
use Rattle.std.specs.declared.result.Result.TheVariants.{Err}
use Rattle.record_places.specs.declared.Refusal.TheVariants.{Misframed}
use Rattle.record_walk.proofs.Members.{text_to, text-at, text-ends}
use Rattle.record_walk.proofs.Bodies.{ns-no-prefix, ns-no-uri, ns-misframed, ns-framed}
use Rattle.record_walk.proofs.Framed.walk_ns.Goals as goal

pub returns-in_err-prefix : goal.returns-in_err-prefix
returns-in_err-prefix c =
    let a = c.args.self in
    let e = c.in_err-prefix.ensures in
    let m : c.from_residual.result ≡ Err Misframed = grind (arith, common_steps, e.1) in
    rw m (ns-no-prefix a.rec.now a.head e.0)

pub overflow_add-prefix : goal.overflow_add-prefix
overflow_add-prefix c = omega (arith, text-ends c.args.self.rec.now 5 c.in_ok-prefix.prefix c.in_ok-prefix.ensures)

pub returns-in_err-uri : goal.returns-in_err-uri
returns-in_err-uri c =
    let s = c.args.self.rec.now in
    let p = c.in_ok-prefix in
    let e = c.in_err-uri.ensures in
    let m : c.from_residual-in_err-uri.result ≡ Err Misframed = grind (arith, common_steps, e.1) in
    rw m (ns-no-uri s c.args.self.head (text_to s 5 p.prefix) (text-at s 5 p.prefix p.ensures) e.0)

pub overflow_add-uri : goal.overflow_add-uri
overflow_add-uri c =
    let p = c.in_ok-prefix.prefix in
    omega (arith, text-ends c.args.self.rec.now (p.start + p.size) c.in_ok-uri.uri c.in_ok-uri.ensures)

pub returns-then-uri-self : goal.returns-then-uri-self
returns-then-uri-self c =
    let s = c.args.self.rec.now in
    let p = c.in_ok-prefix in
    let u = c.in_ok-uri in
    let i = p.prefix.start + p.prefix.size in
    ns-misframed s c.args.self.head (text_to s 5 p.prefix) (text_to s i u.uri) (text-at s 5 p.prefix p.ensures) (text-at s i u.uri u.ensures) c.if-uri-self.true

pub check_ns-requires : goal.check_ns-requires
check_ns-requires c =
    let s = c.args.self.rec.now in
    let p = c.in_ok-prefix in
    record { prefix = text-ends s 5 p.prefix p.ensures; uri = text-ends s (p.prefix.start + p.prefix.size) c.in_ok-uri.uri c.in_ok-uri.ensures }

pub returns : goal.returns
returns c =
    let s = c.args.self.rec.now in
    let p = c.in_ok-prefix in
    let u = c.in_ok-uri in
    let i = p.prefix.start + p.prefix.size in
    let b = c.byte_at-target in
    ns-framed s c.args.self.head (text_to s 5 p.prefix) (text_to s i u.uri) (text-at s 5 p.prefix p.ensures) (text-at s i u.uri u.ensures) b.result b.ensures
    c.if-uri-self.false c.check_ns.result c.check_ns.ensures
