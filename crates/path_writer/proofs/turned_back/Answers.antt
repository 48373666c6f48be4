-- `turned_back` meets its contract: each way it returns is a law of proofs/Answers.antt, with the tests before it.
-- Assumes nothing.
use mathlib.Core.Path.{sym, ◌∙◌}
use Rattle.path_writer.proofs.Answers.{back-kind, back-text, back-over, back-unread, back_none}
use Rattle.path_writer.proofs.turned_back.Goals as goal

pub returns-then-kind-gt1 : goal.returns-then-kind-gt1
returns-then-kind-gt1 c = back-kind c.args.kind c.args.path.now c.if-kind-gt1.true

pub returns-then-not-is_utf8 : goal.returns-then-not-is_utf8
returns-then-not-is_utf8 c = back-text c.args.kind c.args.path.now c.if-kind-gt1.false (sym c.is_utf8.ensures ∙ c.if-not-is_utf8.true)

pub returns-then-path_over : goal.returns-then-path_over
returns-then-path_over c =
    let utf8 = sym c.is_utf8.ensures ∙ c.if-not-is_utf8.false in
    back-over c.args.kind c.args.path.now c.if-kind-gt1.false utf8 (sym c.path_over.ensures ∙ c.if-path_over.true)

pub returns-then-not-reader_takes : goal.returns-then-not-reader_takes
returns-then-not-reader_takes c =
    let utf8 = sym c.is_utf8.ensures ∙ c.if-not-is_utf8.false in
    let within = sym c.path_over.ensures ∙ c.if-path_over.false in
    back-unread c.args.kind c.args.path.now c.if-kind-gt1.false utf8 within (sym c.reader_takes.ensures ∙ c.if-not-reader_takes.true)

pub returns : goal.returns
returns c =
    let utf8 = sym c.is_utf8.ensures ∙ c.if-not-is_utf8.false in
    let within = sym c.path_over.ensures ∙ c.if-path_over.false in
    back_none c.args.kind c.args.path.now c.if-kind-gt1.false utf8 within (sym c.reader_takes.ensures ∙ c.if-not-reader_takes.false)
