-- `write_name` meets its contract. Each way back is one law: a text too long, no place, or two halves that were lent and come back.
-- Assumes nothing.
use Rattle.open_names.proofs.Written.{space-long, local-long, no_place, place-written}
use Rattle.open_names.proofs.write_name.Goals.{then-space-gt255-via-then-space-gt255, then-space-gt255-via-else-space-gt255+then-local-gt255}
use Rattle.open_names.proofs.write_name.Goals as goal

pub returns-then-space-gt255 : goal.returns-then-space-gt255
returns-then-space-gt255 c =
    let a = c.args in
    let l = c.after_colon-local in
    elim c.then-space-gt255.branch [
      | then-space-gt255-via-then-space-gt255 w ↦ space-long a.names.now a.depth a.space.now a.qualified.now l.result.now l.ensures w.if-space-gt255.true
      | then-space-gt255-via-else-space-gt255+then-local-gt255 w ↦ local-long a.names.now a.depth a.space.now a.qualified.now l.result.now l.ensures w.if-local-gt255.true
    ]

pub returns-then-names-end : goal.returns-then-names-end
returns-then-names-end c =
    let a = c.args in
    let l = c.after_colon-local in
    no_place a.names.now a.depth a.space.now a.qualified.now l.result.now l.ensures c.if-space-gt255.false c.if-local-gt255.false c.if-names-end.true

pub returns : goal.returns
returns c =
    let w = c in
    let a = w.args in
    let l = w.after_colon-local in
    let first = c.write_text in
    let second = c.write_text-2 in
    place-written a.names.now a.depth a.space.now a.qualified.now l.result.now l.ensures first.new.half second.new.half
    w.if-space-gt255.false w.if-local-gt255.false w.if-names-end.false first.ensures second.ensures
