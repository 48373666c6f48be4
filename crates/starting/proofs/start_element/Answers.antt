-- `start_element` meets its contract: refused and put back, or carried out.
-- Assumes nothing.
use Rattle.starting.proofs.Taking.{refuses-element, starts-element}
use Rattle.starting.proofs.start_element.Goals as goal

pub returns-in-Err : goal.returns-in-Err
returns-in-Err c =
    let a = c.args in
    let co = c.consider in
    let sv = c.save-saved in
    let kp = c.name_behind-kept in
    let rs = c.restore in
    let pb = c.put_bytes in
    refuses-element a.n a.spot a.scopes a.es a.rec.now a.defs.now a.reports.now a.paths.now a.names.now a.cells.now co.result co.new.paths co.new.names co.ensures
    c.in-Err.c c.in-Err.is sv.result kp.result rs.new.area pb.new.store sv.ensures kp.ensures rs.ensures pb.ensures
    c.refusing.result c.refusing.ensures

pub returns-in-Ok : goal.returns-in-Ok
returns-in-Ok c =
    let a = c.args in
    let co = c.consider in
    let ws = c.write_start in
    starts-element a.n a.spot a.scopes a.es a.rec.now a.defs.now a.reports.now a.paths.now a.names.now a.cells.now co.result co.new.paths co.new.names co.ensures
    c.in-Ok.plan c.in-Ok.is ws.result ws.new.reports ws.new.paths ws.new.cells ws.ensures
