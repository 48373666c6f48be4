-- `take_definition` meets its contract: refused, or kept behind the used bytes, by what is decided.
-- Assumes nothing.
use Rattle.defining.proofs.Taking.{refuses, free-to, takes}
use native.Mathlib.Omega.{arith}
use Rattle.definition_store.specs.Store.{stands_against}
use Rattle.defining.proofs.take_definition.Goals as goal

pub overflow_add-events : goal.overflow_add-events
overflow_add-events c =
    let args = c.args in
    let decide = c.decide in
    omega (
      arith,
      (free-to args.n args.list (stands_against args.v) args.rec.now args.defs.now decide.result decide.ensures
          c.in-Ok.is).few,
    )

pub returns-in-Err : goal.returns-in-Err
returns-in-Err c =
    let args = c.args in
    let decide = c.decide in
    refuses args.n args.list (stands_against args.v) args.rec.now args.defs.now decide.result decide.ensures
    c.in-Err.c c.in-Err.is c.refusing.result c.refusing.ensures

pub returns-in-Ok : goal.returns-in-Ok
returns-in-Ok c =
    let args = c.args in
    let decide = c.decide in
    let append = c.append_bytes-next in
    takes args.n args.list (stands_against args.v) args.rec.now args.defs.now decide.result decide.ensures
    c.in-Ok.is append.result append.new.store append.ensures
