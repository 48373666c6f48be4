-- `name_first` meets its contract: by whether the run is an NCName.
-- Assumes nothing.
use native.Mathlib.Omega.{arith}
use lib.ListN.{drop, length-drop}
use mathlib.Core.Path.{◌∙◌}
use Rattle.reasons.proofs.Chars.{run_fits}
use Rattle.std.proofs.lemmas.Result.{err_from_is_err_and}
use Rattle.tokens.proofs.Runs.{named-is}
use Rattle.tokens.proofs.Scanning.{first-name, first-bad}
use Rattle.tokens.proofs.name_first.Goals as goal

pub returns-in_err-n : goal.returns-in_err-n
returns-in_err-n c =
    let p = err_from_is_err_and c.from_residual.result c.from_residual.ensures.1 in
    rw (p.1, p.2) (first-bad c.args.s.now c.requires _ c.in_err-n.ensures)

pub after_name-requires : goal.after_name-requires
after_name-requires c =
    let long = (named-is c.args.s.now _ c.in_ok-n.ensures).0 in
    let fits = run_fits (drop 1 c.args.s.now) in
    let less = length-drop 1 c.args.s.now in
    omega arith

pub returns : goal.returns
returns c = c.after_name.ensures ∙ first-name c.args.s.now c.requires _ c.in_ok-n.ensures
