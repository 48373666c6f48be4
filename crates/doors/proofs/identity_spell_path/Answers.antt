-- `identity_spell_path` meets its contract: each answer of the writer is given by its number, and a text by its size.
-- Assumes nothing.
use Rattle.path_writer.proofs.Doors.{text_out, refused-out}
use Rattle.doors.proofs.identity_spell_path.Goals as goal

pub returns-in-Ok : goal.returns-in-Ok
returns-in-Ok c =
    let args = c.args in
    text_out args.kind args.path.now args.out.now _ _ args.size.now c.spell_path.ensures c.in-Ok.n c.in-Ok.is

pub returns-in-Err : goal.returns-in-Err
returns-in-Err c =
    let args = c.args in
    rw c.number.ensures (refused-out args.kind args.path.now args.out.now _ _ args.size.now c.spell_path.ensures c.in-Err.refusal c.in-Err.is)
