-- `name_reads` meets its contract. A name is read where both halves are, and half a place is too short.
-- Assumes nothing.
use mathlib.Core.Path.{ap, sym, ◌∙◌}
use Rattle.session_spec.specs.Layout.{text_in, name_in}
use Rattle.session_spec.specs.Definitions.{is_some}
use Rattle.open_names.proofs.Reading.{name-short, name-first-half, name-second-half}
use Rattle.open_names.proofs.name_reads.Goals as goal

pub returns-then-place-le257 : goal.returns-then-place-le257
returns-then-place-le257 c =
    let p = c.clipped-place in
    name-short p.result.now c.if-place-le257.true ∙ ap (λ z. is_some (name_in z)) p.ensures

pub returns-then-text_reads : goal.returns-then-text_reads
returns-then-text_reads c =
    let p = c.clipped-place in
    let s = c.split_at.ensures in
    name-second-half p.result.now c.text_reads-then-text_reads.result
    (sym c.if-text_reads.true ∙ c.text_reads.ensures ∙ ap (λ z. is_some (text_in z)) s.front)
    (c.text_reads-then-text_reads.ensures ∙ ap (λ z. is_some (text_in z)) s.back)
    ∙ ap (λ z. is_some (name_in z)) p.ensures

pub returns-else-text_reads : goal.returns-else-text_reads
returns-else-text_reads c =
    let p = c.clipped-place in
    c.if-text_reads.false
    ∙ name-first-half p.result.now (sym c.if-text_reads.false ∙ c.text_reads.ensures ∙ ap (λ z. is_some (text_in z)) c.split_at.ensures.front)
    ∙ ap (λ z. is_some (name_in z)) p.ensures
