-- `ref_of` meets its contract: each answer is a law of the parts of an ID, at the tests that led there.
-- Assumes nothing.
use Rattle.finishing.proofs.Refers.{no-keyref, unreferred, referring}
use Rattle.finishing.proofs.ref_of.Goals as goal

pub returns-then-p-lt2 : goal.returns-then-p-lt2
returns-then-p-lt2 c =
    let a = c.args in
    let n = c.numbered-constraint in
    no-keyref a.defs.now a.number n.result.own.now n.ensures.records n.result.parts n.ensures.parts c.if-p-lt2.true

pub returns-in-Some : goal.returns-in-Some
returns-in-Some c =
    let a = c.args in
    let n = c.numbered-constraint in
    referring a.defs.now a.number n.result.own.now n.ensures.records n.result.parts n.ensures.parts c.if-p-lt2.false c.in-Some.refer c.in-Some.is
    c.text_in.result.now c.text_in.ensures c.answering.result c.answering.ensures

pub returns-in_default : goal.returns-in_default
returns-in_default c =
    let a = c.args in
    let n = c.numbered-constraint in
    unreferred a.defs.now a.number n.result.own.now n.ensures.records n.result.parts n.ensures.parts c.if-p-lt2.false c.in_default.is
