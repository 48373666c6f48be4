-- `without_space` meets its contract: each way it returns is a law of proofs/Parsing.antt.
-- Assumes nothing.
use mathlib.Core.Path.{sym, ◌∙◌}
use Rattle.path_reader.proofs.Parsing.{strips-long, strips-broken, strips-text}
use Rattle.path_reader.proofs.without_space.Goals as goal
use Rattle.path_reader.proofs.without_space.Goals.{then-bare-path-via-then-bare-path, then-bare-path-via-else-bare-path+then-not-is_utf8}

pub returns-then-bare-path : goal.returns-then-bare-path
returns-then-bare-path c =
    elim c.then-bare-path.branch [
      | then-bare-path-via-then-bare-path w ↦ strips-long c.args.path.now c.args.bare.now w.if-bare-path.true
      | then-bare-path-via-else-bare-path+then-not-is_utf8 w ↦ strips-broken c.args.path.now c.args.bare.now (sym w.is_utf8.ensures ∙ w.if-not-is_utf8.true)
    ]

pub returns : goal.returns
returns c =
    let drop = c.drop_space in
    strips-text c.args.path.now c.args.bare.now (sym c.is_utf8.ensures ∙ c.if-not-is_utf8.false) c.if-bare-path.false drop.result drop.new.bare drop.ensures.0 drop.ensures.1
