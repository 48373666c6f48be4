-- `turn_back` meets its contract: a law for each way out, by the tests before it.
-- Assumes nothing.
use mathlib.Core.Path.{sym, ◌∙◌}
use Rattle.checker.proofs.Refusals.{turned-text, turned-long, turned_none}
use Rattle.checker.proofs.turn_back.Goals as goal

pub returns-then-not-are_utf8 : goal.returns-then-not-are_utf8
returns-then-not-are_utf8 c = λ kind k.
    let args = c.args in
    let are-utf8 = c.are_utf8 in
    turned-text kind args.path.now args.prefixes.now k (sym are-utf8.ensures ∙ c.if-not-are_utf8.true)

pub returns-then-are_long : goal.returns-then-are_long
returns-then-are_long c = λ kind k.
    let args = c.args in
    let are-utf8 = c.are_utf8 in
    let if1 = c.if-not-are_utf8 in
    let are-long = c.are_long in
    turned-long kind args.path.now args.prefixes.now k (sym are-utf8.ensures ∙ if1.false) (sym are-long.ensures ∙ c.if-are_long.true)

pub returns : goal.returns
returns c = λ kind k.
    let args = c.args in
    let are-utf8 = c.are_utf8 in
    let if1 = c.if-not-are_utf8 in
    let are-long = c.are_long in
    turned_none kind args.path.now args.prefixes.now k (sym are-utf8.ensures ∙ if1.false) (sym are-long.ensures ∙ c.if-are_long.false)
