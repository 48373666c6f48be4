-- `find` meets its contract: each answer in the order in which the definition asks.
-- Assumes nothing.
use Rattle.bindings.proofs.Finding.{found-xml, found-own, found-schema, found_nowhere}
use Rattle.bindings.proofs.Bindings.find.Goals as goal

pub returns-then-same : goal.returns-then-same
returns-then-same c =
    let b = c.args.self.now in
    found-xml b.own.now b.schema.now b.target c.args.prefix.now c.same.result c.same.ensures c.if-same.true

pub returns-in_err-look_up-in-None : goal.returns-in_err-look_up-in-None
returns-in_err-look_up-in-None c =
    let b = c.args.self.now in
    rw c.from_residual.ensures
    (found_nowhere b.own.now b.schema.now b.target c.args.prefix.now c.same.result c.same.ensures c.if-same.false c.in-None.ensures c.in_err-look_up-in-None.ensures)

pub returns-in-Some : goal.returns-in-Some
returns-in-Some c =
    let b = c.args.self.now in
    found-own b.own.now b.schema.now b.target c.args.prefix.now c.same.result c.same.ensures c.if-same.false c.in-Some.mine c.in-Some.ensures

pub returns-in_ok-look_up-in-None : goal.returns-in_ok-look_up-in-None
returns-in_ok-look_up-in-None c =
    let b = c.args.self.now in
    let shared = c.in_ok-look_up-in-None in
    found-schema b.own.now b.schema.now b.target c.args.prefix.now c.same.result c.same.ensures c.if-same.false c.in-None.ensures shared.field-0 shared.ensures
