-- `walk_es` meets its contract: each return by a law of its own.
-- Assumes nothing.
use Prim.Native.Nat.{◌+◌}
use native.Mathlib.Omega.{arith}
use mathlib.Core.Path.{◌≡◌, ◌∙◌}
use Rattle.std.proofs.lemmas.Grind.{common_steps}
use Rattle.std.specs.declared.result.Result.TheVariants.{Err}
use Rattle.record_places.specs.declared.Refusal.TheVariants.{Misframed}
use Rattle.record_walk.proofs.Members.{text_to, text-at, text-ends}
use Rattle.record_walk.proofs.Bodies.{es-no-space, es-no-name, es-misframed, es-inside, es-framed}
use Rattle.record_walk.proofs.Framed.walk_es.Goals as goal

pub returns-in_err-space : goal.returns-in_err-space
returns-in_err-space c =
    let a = c.args.self in
    let e = c.in_err-space.ensures in
    let m : c.from_residual.result ≡ Err Misframed = grind (arith, common_steps, e.1) in
    rw m (es-no-space a.rec.now a.head e.0)

pub overflow_add-space : goal.overflow_add-space
overflow_add-space c = omega (arith, text-ends c.args.self.rec.now 4 c.in_ok-space.space c.in_ok-space.ensures)

pub returns-in_err-name : goal.returns-in_err-name
returns-in_err-name c =
    let s = c.args.self.rec.now in
    let p = c.in_ok-space in
    let e = c.in_err-name.ensures in
    let m : c.from_residual-in_err-name.result ≡ Err Misframed = grind (arith, common_steps, e.1) in
    rw m (es-no-name s c.args.self.head (text_to s 4 p.space) (text-at s 4 p.space p.ensures) e.0)

pub overflow_add-counted : goal.overflow_add-counted
overflow_add-counted c =
    let p = c.in_ok-space.space in
    omega (arith, text-ends c.args.self.rec.now (p.start + p.size) c.in_ok-name.name c.in_ok-name.ensures)

pub overflow_add-start : goal.overflow_add-start
overflow_add-start c =
    let p = c.in_ok-space.space in
    omega (arith, text-ends c.args.self.rec.now (p.start + p.size) c.in_ok-name.name c.in_ok-name.ensures)

pub overflow_add-behind : goal.overflow_add-behind
overflow_add-behind c =
    let p = c.in_ok-space.space in
    omega (arith, text-ends c.args.self.rec.now (p.start + p.size) c.in_ok-name.name c.in_ok-name.ensures)

pub overflow_add-first : goal.overflow_add-first
overflow_add-first c =
    let p = c.in_ok-space.space in
    omega (arith, text-ends c.args.self.rec.now (p.start + p.size) c.in_ok-name.name c.in_ok-name.ensures)

pub returns-then-texts_end-self : goal.returns-then-texts_end-self
returns-then-texts_end-self c =
    let s = c.args.self.rec.now in
    let p = c.in_ok-space in
    let n = c.in_ok-name in
    let i = p.space.start + p.space.size in
    let z = c.from-size in
    let k = c.from-count in
    let t = c.texts_end in
    es-misframed s c.args.self.head z.result k.result t.result (text_to s 4 p.space) (text_to s i n.name) (text-at s 4 p.space p.ensures) (text-at s i n.name n.ensures)
    t.ensures (z.ensures ∙ c.byte_at.ensures) (k.ensures ∙ c.byte_at-2.ensures) c.if-texts_end-self.true

pub check_es-requires : goal.check_es-requires
check_es-requires c =
    let s = c.args.self.rec.now in
    let p = c.in_ok-space in
    let n = c.in_ok-name in
    let i = p.space.start + p.space.size in
    let z = c.from-size in
    let k = c.from-count in
    let t = c.texts_end in (
      es-inside s c.args.self.head z.result k.result t.result (text_to s 4 p.space) (text_to s i n.name) (text-at s 4 p.space p.ensures) (text-at s i n.name n.ensures)
          t.ensures c.if-texts_end-self.false,
      omega arith,
    )

pub returns : goal.returns
returns c =
    let s = c.args.self.rec.now in
    let p = c.in_ok-space in
    let n = c.in_ok-name in
    let i = p.space.start + p.space.size in
    let z = c.from-size in
    let k = c.from-count in
    let t = c.texts_end in
    es-framed s c.args.self.head z.result k.result t.result (text_to s 4 p.space) (text_to s i n.name) (text-at s 4 p.space p.ensures) (text-at s i n.name n.ensures)
    t.ensures (z.ensures ∙ c.byte_at.ensures) (k.ensures ∙ c.byte_at-2.ensures) c.if-texts_end-self.false c.check_es.result c.check_es.ensures
