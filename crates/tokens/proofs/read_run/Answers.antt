-- `read_run` meets its contract: the run goes on behind the name characters exactly if it holds what is none.
-- Assumes nothing.
use mathlib.Core.Bool.{not}
use mathlib.Core.Path.{sym, ◌∙◌}
use Rattle.std.proofs.Common.{rules, tests}
use Rattle.std.proofs.lemmas.Iterator.{YieldsList-from_slice}
use Rattle.std.proofs.lemmas.Iterator.Search.{position_from_yields_List}
use Rattle.characters.specs.Names.{name_char}
use Rattle.tokens.proofs.Runs.{place, run-over, run-whole, run-ends}
use Rattle.tokens.proofs.read_run.Goals as goal
use Rattle.tokens.proofs.read_run.Goals.{else-n-s-via-then-n-s+else-run_char, else-n-s-via-else-n-s}

pub returns-then-run_char : goal.returns-then-run_char
returns-then-run_char c =
    let found = position_from_yields_List (λ x. not (name_char x)) _ _ c.position.result c.position.ensures.ran (YieldsList-from_slice c.args.s.now cc) (λ x b q k. search (rules, tests)) in
    let n = place (λ x. not (name_char x)) c.args.s.now c.position.result _ found c.unwrap_or-n.ensures in
    run-over c.args.s.now _ n c.if-n-s.true (sym c.run_char.ensures ∙ c.if-run_char.true)

pub returns : goal.returns
returns c =
    let found = position_from_yields_List (λ x. not (name_char x)) _ _ c.position.result c.position.ensures.ran (YieldsList-from_slice c.args.s.now cc) (λ x b q k. search (rules, tests)) in
    let n = place (λ x. not (name_char x)) c.args.s.now c.position.result _ found c.unwrap_or-n.ensures in
    elim c.else-n-s.branch [
      | else-n-s-via-then-n-s+else-run_char w ↦ run-ends c.args.s.now _ n w.if-n-s.true (sym w.run_char.ensures ∙ w.if-run_char.false)
      | else-n-s-via-else-n-s w ↦ run-whole c.args.s.now _ n w.if-n-s.false
    ]
