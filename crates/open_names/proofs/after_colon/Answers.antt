-- `after_colon` meets its contract: behind the last ':' none stands, and where none was found there is none.
-- Assumes nothing.
use Rattle.std.proofs.Common.{rules}
use Rattle.open_names.proofs.Colons.{no-colon, last-colon}
use Rattle.open_names.proofs.after_colon.Goals as goal

pub returns-in-Some : goal.returns-in-Some
returns-in-Some c = last-colon c.args.name.now c.in-Some.colon (search rules) (search rules) (search rules)

pub returns-in-None : goal.returns-in-None
returns-in-None c = no-colon c.args.name.now (search rules)
