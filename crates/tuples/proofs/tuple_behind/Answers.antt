-- `tuple_behind` meets its contract: test by test; the last by what the texts leave of the stated bytes.
-- Assumes nothing.
use mathlib.Core.Option.{none-ne-some}
use Rattle.std.proofs.Common.{◌≡◌, ◌<◌, ℕ, [], ap, sym, ◌∙◌, arith, length, drop}
use Rattle.std.proofs.lemmas.Grind.{common_steps}
use Rattle.std.proofs.lemmas.Slice.{between_to_end}
use Rattle.records.specs.Readers.{read_text, bytes_from}
use Rattle.tuples.specs.Tuples.{left_by}
use Rattle.tuples.proofs.Reading.{not-whole, whole, no_room, other-mark, past_the_end, no-head, texts-inside, not-filled, when-filled, mark-there}
use Rattle.tuples.proofs.tuple_behind.Goals.{then-s-lt-TU_TEXTS-via-then-s-lt-TU_TEXTS, then-s-lt-TU_TEXTS-via-else-s-lt-TU_TEXTS+then-not-starts_with}
use Rattle.tuples.proofs.tuple_behind.Goals as goal

pub returns-then-s-lt-TU_TEXTS : goal.returns-then-s-lt-TU_TEXTS
returns-then-s-lt-TU_TEXTS c =
    elim c.then-s-lt-TU_TEXTS.branch [
      | then-s-lt-TU_TEXTS-via-then-s-lt-TU_TEXTS w ↦ no_room c.args.s.now w.if-s-lt-TU_TEXTS.true
      | then-s-lt-TU_TEXTS-via-else-s-lt-TU_TEXTS+then-not-starts_with w ↦ other-mark c.args.s.now (sym w.starts_with.ensures.value ∙ w.if-not-starts_with.true)
    ]

pub returns-in_err-whole : goal.returns-in_err-whole
returns-in_err-whole c = ap left_by c.from_residual.ensures ∙ past_the_end c.args.s.now (not-whole c.args.s.now c.in_err-whole.ensures.cuts)

pub returns-in_err-get : goal.returns-in_err-get
returns-in_err-get c =
    let f = whole c.args.s.now _ _ (sym c.in_ok-whole.ensures.cuts) in
    let l = f.states in
    let k : length c.in_ok-whole.whole.now < 10 = grind (arith, common_steps) in
    ap left_by c.from_residual-in_err-get.ensures ∙ no-head c.args.s.now (omega arith)

pub returns-in_err-left : goal.returns-in_err-left
returns-in_err-left c =
    let w = whole c.args.s.now _ _ (sym c.in_ok-whole.ensures.cuts) in
    let i : c.in_ok-get.field-0.now ≡ drop 10 c.in_ok-whole.whole.now = grind (arith, common_steps) in
    ap left_by c.from_residual-in_err-left.ensures
    ∙ not-filled c.args.s.now c.in_ok-get.field-0.now (texts-inside c.args.s.now _ _ w.front i) (left_by c.texts_behind.result)
    (c.texts_behind.ensures ∙ ap (λ (k : ℕ). bytes_from k read_text c.in_ok-get.field-0.now) c.from.ensures)
    (λ q. none-ne-some [] (sym (ap left_by c.in_err-left.was) ∙ q))

pub returns : goal.returns
returns c =
    let w = whole c.args.s.now _ _ (sym c.in_ok-whole.ensures.cuts) in
    let i = c.in_ok-get.ensures.lookup.0.2 ∙ between_to_end c.in_ok-whole.whole.now 10 _ (omega arith) in
    let m = mark-there c.args.s.now c.if-s-lt-TU_TEXTS.false (sym c.starts_with.ensures.value ∙ c.if-not-starts_with.false) in
    ap left_by c.then_some.ensures
    ∙ when-filled c.args.s.now c.in_ok-get.field-0.now (texts-inside c.args.s.now _ _ w.front i) c.in_ok-left.left.now
    (sym (ap left_by c.in_ok-left.was) ∙ c.texts_behind.ensures ∙ ap (λ (k : ℕ). bytes_from k read_text c.in_ok-get.field-0.now) c.from.ensures)
    c.if-s-lt-TU_TEXTS.false m.0 m.1 (let j = c.in_ok-get.ensures.lookup.0.0 in let l = w.states in omega (arith, l, j)) w.fits c.in_ok-whole.behind w.behind c.is_empty.result c.is_empty.ensures
