-- `reader_takes` meets its contract: what reading into an area of 1,024 bytes answers.
-- Assumes nothing.
use Rattle.std.proofs.Common.{rules}
use Rattle.path_writer.proofs.Answers.{taken-by}
use Rattle.path_writer.proofs.reader_takes.Goals as goal

pub returns : goal.returns
returns c =
    let args = c.args in
    let read = c.read_path in
    taken-by _ args.path.now _ read.new.area read.result c.requires read.ensures (search rules)
