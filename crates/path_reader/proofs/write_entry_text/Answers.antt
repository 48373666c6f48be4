-- `write_entry_text` meets its contract: the length byte and the text, one behind the other.
-- Assumes nothing.
use native.Mathlib.Omega.{arith}
use lib.ListN.{length}
use mathlib.Core.List.{[], ◌∷◌}
use Rattle.path_reader.proofs.Writing.{written_then}
use Rattle.path_reader.proofs.write_entry_text.Goals as goal

pub returns : goal.returns
returns c =
    let copy-bytes = c.copy_bytes in
    let put_byte = c.put_byte-start in
    let args = c.args in
    written_then args.area.now put_byte.new.area copy-bytes.new.area (length args.t.now ∷ []) args.t.now args.at put_byte.result copy-bytes.result (omega arith) put_byte.ensures copy-bytes.ensures
