-- `spare_of` meets its contract.
-- Assumes nothing.
use Rattle.std.proofs.Common.{rules, ◌≡◌, ◌∙◌, ◌/◌, min}
use Rattle.tuple_index.proofs.Numbers.{spare-least}
use Rattle.tuple_index.proofs.spare_of.Goals as goal

pub returns : goal.returns
returns c =
    let m : c.min.result ≡ min (c.args.slots / 4) 64 = search rules in
    m ∙ spare-least c.args.slots
