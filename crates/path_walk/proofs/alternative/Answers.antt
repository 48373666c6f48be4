-- `alternative` meets its contract: a path that passes has no fault, and else a fault comes first.
-- Assumes nothing.
use Rattle.std.proofs.lemmas.Result.{err_from_is_err_and}
use Rattle.prefixes.specs.Prefixes.{words_of}
use Rattle.path_steps.specs.Steps.{kind_of}
use Rattle.path_walk.proofs.Whole.{alternative-passes, alternative-path, alternative-fault}
use Rattle.path_walk.proofs.alternative.Goals as goal

pub returns-in_default : goal.returns-in_default
returns-in_default c = alternative-passes (kind_of c.args.kind) (words_of c.args.prefixes.now) c.args.s.now c.in_default.ensures

pub returns-in_err-tokenize : goal.returns-in_err-tokenize
returns-in_err-tokenize c =
    let p = err_from_is_err_and c.from_residual.result c.from_residual.ensures.1 in
    rw (p.1, p.2) (alternative-fault (kind_of c.args.kind) (words_of c.args.prefixes.now) c.args.s.now _ c.in_err-tokenize.ensures)

pub returns : goal.returns
returns c = alternative-path (kind_of c.args.kind) (words_of c.args.prefixes.now) c.args.s.now _ c.in-Err.ensures c.in_ok-tokenize.ensures
