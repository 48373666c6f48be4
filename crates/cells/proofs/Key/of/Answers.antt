-- `of` meets its contract: the front of the text stands in zeros.
-- Assumes nothing.
use Rattle.cells.proofs.Values.{kept}
use Rattle.cells.proofs.Key.of.Goals as goal

pub returns : goal.returns
returns c = kept c.min-len.result c.args.text.now c.put_bytes.new.store c.min-len.ensures c.put_bytes.ensures
