-- `write_end` meets its contract: it is what its three parts leave.
-- Assumes nothing.
use Rattle.ending.proofs.write_end.Goals as goal

pub returns : goal.returns
returns c =
    let a = c.args in
    let w = c.write_all-w in
    record {
      written = w.result;
      stores = w.ensures;
      staying = c.hit_staying.ensures;
      numbers = c.numbers_then.ensures;
    }
