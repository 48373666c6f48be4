-- `bears_name` meets its contract: the name that stands in the ID is compared.
-- Assumes nothing.
use Rattle.constraints.proofs.Heads.{name-borne}
use Rattle.constraints.proofs.bears_name.Goals as goal

pub returns : goal.returns
returns c =
    let args = c.args in
    name-borne args.name.now args.id.now c.text_at-t.result c.text_at-t.ensures c.text_in.result.now c.text_in.ensures c.same.result c.same.ensures
