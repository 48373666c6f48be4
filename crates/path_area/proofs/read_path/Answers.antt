-- `read_path` meets its contract, by that of the reader that it calls.
-- Assumes nothing.
use mathlib.Core.Bool.{Bool}
use mathlib.Core.Path.{sym, subst}
use Rattle.path_area.specs.Scratch.{ReadsInto}
use Rattle.path_area.proofs.Scratch.{reads-into}
use Rattle.path_area.proofs.read_path.Goals as goal

pub returns : goal.returns
returns c =
    let args = c.args in
    let parse = c.parse_path in
    let after = parse.new.area in
    subst (λ (b : Bool). ReadsInto args.field args.path.now args.area.now b after) (sym c.is_ok.ensures.value) (reads-into args.field args.path.now args.area.now parse.result after parse.ensures)
