-- `walk_id` meets its contract: each return by a law of its own.
-- Assumes nothing.
use native.Mathlib.Omega.{arith}
use mathlib.Core.Path.{◌≡◌, ◌∙◌}
use Rattle.std.proofs.lemmas.Grind.{common_steps}
use Rattle.std.specs.declared.result.Result.TheVariants.{Err}
use Rattle.record_places.specs.declared.Refusal.TheVariants.{Misframed}
use Rattle.record_walk.proofs.Members.{text_to, text-at, text-ends}
use Rattle.record_walk.proofs.Bodies.{id-no-name, id-no-selector, id-misframed, id-inside, id-framed}
use Rattle.record_walk.proofs.Framed.walk_id.Goals as goal

pub returns-in_err-name : goal.returns-in_err-name
returns-in_err-name c =
    let a = c.args.self in
    let e = c.in_err-name.ensures in
    let m : c.from_residual.result ≡ Err Misframed = grind (arith, common_steps, e.1) in
    rw m (id-no-name a.rec.now a.head e.0)

pub overflow_add-behind : goal.overflow_add-behind
overflow_add-behind c = omega (arith, text-ends c.args.self.rec.now 5 c.in_ok-name.name c.in_ok-name.ensures)

pub overflow_add-behind-2 : goal.overflow_add-behind-2
overflow_add-behind-2 c = omega (arith, text-ends c.args.self.rec.now 5 c.in_ok-name.name c.in_ok-name.ensures)

pub returns-in_err-selector : goal.returns-in_err-selector
returns-in_err-selector c =
    let s = c.args.self.rec.now in
    let n = c.in_ok-name in
    let g = c.byte_at-flag in
    let f = c.refer_at-refer in
    let e = c.in_err-selector.ensures in
    let m : c.from_residual-in_err-selector.result ≡ Err Misframed = grind (arith, common_steps, e.1) in
    rw m (id-no-selector s c.args.self.head g.result (text_to s 5 n.name) f.result (text-at s 5 n.name n.ensures) f.ensures g.ensures e.0)

pub overflow_add-counted : goal.overflow_add-counted
overflow_add-counted c = omega (arith, text-ends c.args.self.rec.now c.refer_at-refer.result.next c.in_ok-selector.selector c.in_ok-selector.ensures)

pub overflow_add-first : goal.overflow_add-first
overflow_add-first c = omega (arith, text-ends c.args.self.rec.now c.refer_at-refer.result.next c.in_ok-selector.selector c.in_ok-selector.ensures)

pub returns-then-texts_end-self : goal.returns-then-texts_end-self
returns-then-texts_end-self c =
    let s = c.args.self.rec.now in
    let n = c.in_ok-name in
    let g = c.byte_at-flag in
    let f = c.refer_at-refer in
    let t = c.in_ok-selector in
    let k = c.from-count in
    let l = c.texts_end in
    id-misframed s c.args.self.head g.result k.result l.result (text_to s 5 n.name) f.result (text_to s f.result.next t.selector) (text-at s 5 n.name n.ensures) f.ensures
    (text-at s f.result.next t.selector t.ensures) l.ensures g.ensures (k.ensures ∙ c.byte_at.ensures) c.if-texts_end-self.true

pub check_id-requires : goal.check_id-requires
check_id-requires c =
    let s = c.args.self.rec.now in
    let n = c.in_ok-name in
    let f = c.refer_at-refer in
    let t = c.in_ok-selector in
    let l = c.texts_end in
    id-inside s c.args.self.head c.byte_at-flag.result c.from-count.result l.result (text_to s 5 n.name) f.result (text_to s f.result.next t.selector) (text-at s 5 n.name n.ensures)
    f.ensures (text-at s f.result.next t.selector t.ensures) l.ensures c.byte_at-kind.result c.if-texts_end-self.false

pub returns : goal.returns
returns c =
    let s = c.args.self.rec.now in
    let n = c.in_ok-name in
    let g = c.byte_at-flag in
    let f = c.refer_at-refer in
    let t = c.in_ok-selector in
    let k = c.from-count in
    let l = c.texts_end in
    let b = c.byte_at-kind in
    id-framed s c.args.self.head g.result k.result l.result (text_to s 5 n.name) f.result (text_to s f.result.next t.selector) (text-at s 5 n.name n.ensures) f.ensures
    (text-at s f.result.next t.selector t.ensures) l.ensures g.ensures (k.ensures ∙ c.byte_at.ensures) b.result b.ensures c.if-texts_end-self.false c.check_id.result c.check_id.ensures
