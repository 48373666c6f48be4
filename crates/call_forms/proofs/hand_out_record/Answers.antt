-- `hand_out_record` meets its contract: by the reply.
-- Assumes nothing.
use Rattle.call_forms.proofs.HandsOut.{record-refused, record-taken}
use Rattle.call_forms.proofs.hand_out_record.Goals as goal

pub returns-in-Ok : goal.returns-in-Ok
returns-in-Ok c =
    let a = c.args in
    record-taken a.reply a.list a.scopes.now _ c.in-Ok.is _ c.store_scopes.ensures

pub returns-in-Err : goal.returns-in-Err
returns-in-Err c =
    let a = c.args in
    record-refused a.reply a.list a.scopes.now c.in-Err.refused c.in-Err.is c.number.result c.number.ensures
