-- `write_text` meets its contract. Its three writes one behind the other fill half a place.
-- Assumes nothing.
use native.Mathlib.Omega.{arith}
use mathlib.Core.Path.{ap, ◌∙◌}
use Rattle.std.proofs.Common.{rules}
use lib.ListN.{replicate, length-take, length-drop}
use Rattle.open_names.proofs.Written.{text-written}
use Rattle.open_names.proofs.write_text.Goals as goal

pub returns : goal.returns
returns c =
    let a = c.args in
    text-written a.half.now c.put_two.new.store c.put_bytes.new.store c.fill.new.self a.text.now c.requires.0 c.requires.1
    c.put_two.ensures c.put_bytes.ensures
    (c.fill.ensures.after (search rules) ∙ ap (λ n. replicate n 0) (simp (length-take, length-drop) (omega arith)))
