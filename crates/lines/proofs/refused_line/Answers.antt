-- `refused_line` meets its contract: its three parts are appended one behind the other.
-- Assumes nothing.
use Rattle.lines.proofs.Filled.{refused-filled}
use mathlib.Core.Path.{refl}
use Rattle.lines.proofs.refused_line.Goals as goal

pub returns : goal.returns
returns c = let d = c.append_bytes in
    let w1 = c.word.new.self in
    let w2 = c.word-2.new.self in
    let args = c.args in
    refused-filled _ refl d.result d.new.store w1.size w1.bytes w2.size w2.bytes args.place args.number d.ensures c.word.ensures c.word-2.ensures
