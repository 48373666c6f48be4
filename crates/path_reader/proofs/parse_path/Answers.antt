-- `parse_path` meets its contract: each way it returns is a law of proofs/Parsing.antt.
-- Assumes nothing.
use Rattle.path_reader.proofs.Parsing.{path-long, area-short, path-answered}
use Rattle.path_reader.proofs.parse_path.Goals as goal
use Rattle.path_reader.proofs.parse_path.Goals.{then-path-gt255-via-then-path-gt255, then-path-gt255-via-else-path-gt255+then-area-lt1024}

pub returns-then-path-gt255 : goal.returns-then-path-gt255
returns-then-path-gt255 c =
    let args = c.args in
    elim c.then-path-gt255.branch [
      | then-path-gt255-via-then-path-gt255 w ↦ path-long args.field args.path.now args.area.now w.if-path-gt255.true
      | then-path-gt255-via-else-path-gt255+then-area-lt1024 w ↦ area-short args.field args.path.now args.area.now w.if-path-gt255.false w.if-area-lt1024.true
    ]

pub returns : goal.returns
returns c =
    let args = c.args in
    path-answered args.field args.path.now args.area.now c.if-path-gt255.false c.if-area-lt1024.false c.parse_text.result c.parse_text.new.area c.parse_text.ensures c.ok_or.result c.ok_or.ensures.value
