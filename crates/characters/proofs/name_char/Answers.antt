-- `name_char` meets its contract: what starts a name is a character of names. Of the others the table answers beyond ASCII; within it the ranges agree with
-- what NameChar adds, which is computed.
-- Assumes nothing.
use mathlib.Core.Path.{sym, ◌∙◌}
use Rattle.characters.proofs.Tables.{start-is-char, char-by-more}
use Rattle.characters.proofs.Ascii.{more-ascii}
use Rattle.std.proofs.Common.{arith}
use Rattle.std.proofs.lemmas.Bool.Decides.{nat_tests}
use Rattle.characters.proofs.name_char.Goals as goal

pub returns-then-name_start : goal.returns-then-name_start
returns-then-name_start c = sym (start-is-char c.args.c (sym c.name_start.ensures ∙ c.if-name_start.true))

pub returns-then-c-ge128 : goal.returns-then-c-ge128
returns-then-c-ge128 c =
    let point = c.args.c in
    c.more_by_table.ensures ∙ sym (char-by-more point (sym c.name_start.ensures ∙ c.if-name_start.false))

pub returns-in-45 : goal.returns-in-45
returns-in-45 c =
    let n = char-by-more c.args.c (sym c.name_start.ensures ∙ c.if-name_start.false) in
    let e = more-ascii c.args.c c.if-c-ge128.false in
    grind (arith, nat_tests)

pub returns-in-45-2 : goal.returns-in-45-2
returns-in-45-2 c =
    let n = char-by-more c.args.c (sym c.name_start.ensures ∙ c.if-name_start.false) in
    let e = more-ascii c.args.c c.if-c-ge128.false in
    grind (arith, nat_tests)

pub returns-in_default : goal.returns-in_default
returns-in_default c =
    let n = char-by-more c.args.c (sym c.name_start.ensures ∙ c.if-name_start.false) in
    let e = more-ascii c.args.c c.if-c-ge128.false in
    grind (arith, nat_tests)

pub returns-in_default-2 : goal.returns-in_default-2
returns-in_default-2 c =
    let n = char-by-more c.args.c (sym c.name_start.ensures ∙ c.if-name_start.false) in
    let e = more-ascii c.args.c c.if-c-ge128.false in
    grind (arith, nat_tests)

pub returns-in_default-3 : goal.returns-in_default-3
returns-in_default-3 c =
    let n = char-by-more c.args.c (sym c.name_start.ensures ∙ c.if-name_start.false) in
    let e = more-ascii c.args.c c.if-c-ge128.false in
    grind (arith, nat_tests)
