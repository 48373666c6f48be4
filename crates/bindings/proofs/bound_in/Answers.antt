-- `bound_in` meets its contract: each test that fails says that the record binds no such prefix, and behind the last one stands the URI.
-- Assumes nothing.
use Prim.Native.Nat.{◌+◌}
use mathlib.Core.Path.{refl, ap, sym, ◌∙◌}
use native.Mathlib.Omega.{arith}
use Rattle.texts.specs.Texts.{same}
use Rattle.bindings.proofs.Binding.{bound-no-head, bound-no-mark, bound-target-differs, bound-no-prefix, bound-prefix-differs, bound-here}
use Rattle.bindings.proofs.Heads.{marked-by}
use Rattle.bindings.proofs.Reading.{text-at}
use Rattle.bindings.proofs.bound_in.Goals.{then-frame-lt5-via-then-frame-lt5, then-frame-lt5-via-else-frame-lt5+then-not-starts_with, then-frame-lt5-via-else-frame-lt5+else-not-starts_with+then-frame-target}
use Rattle.bindings.proofs.bound_in.Goals as goal

pub returns-then-frame-lt5 : goal.returns-then-frame-lt5
returns-then-frame-lt5 c =
    let f = c.args.frame.now in
    let t = c.args.target in
    let p = c.args.prefix.now in
    let m = marked-by _ (λ x y. refl) 78 83 refl refl f in
    elim c.then-frame-lt5.branch [
      | then-frame-lt5-via-then-frame-lt5 w ↦ bound-no-head f t p w.if-frame-lt5.true
      | then-frame-lt5-via-else-frame-lt5+then-not-starts_with w ↦ bound-no-mark f t p w.if-frame-lt5.false (sym m ∙ sym w.starts_with.ensures.value ∙ w.if-not-starts_with.true)
      | then-frame-lt5-via-else-frame-lt5+else-not-starts_with+then-frame-target w ↦
          bound-target-differs f t p w.if-frame-lt5.false (sym m ∙ sym w.starts_with.ensures.value ∙ w.if-not-starts_with.false) w.if-frame-target.true
    ]

pub returns-in_err-name : goal.returns-in_err-name
returns-in_err-name c =
    let f = c.args.frame.now in
    let m = sym (marked-by _ (λ x y. refl) 78 83 refl refl f) ∙ sym c.starts_with.ensures.value ∙ c.if-not-starts_with.false in
    rw c.from_residual.ensures (bound-no-prefix f c.args.target c.args.prefix.now c.if-frame-lt5.false m (text-at f 5 _ c.in_err-name.ensures))

pub overflow_add-name : goal.overflow_add-name
overflow_add-name c = let t = text-at c.args.frame.now 5 _ c.in_ok-name.ensures in omega (arith, t.inside)

pub returns-then-not-same : goal.returns-then-not-same
returns-then-not-same c =
    let f = c.args.frame.now in
    let p = c.args.prefix.now in
    let m = sym (marked-by _ (λ x y. refl) 78 83 refl refl f) ∙ sym c.starts_with.ensures.value ∙ c.if-not-starts_with.false in
    bound-prefix-differs f c.args.target p c.if-frame-lt5.false m c.in_ok-name.name (text-at f 5 _ c.in_ok-name.ensures) c.same.result (c.same.ensures ∙ ap (same p) c.clipped.ensures) c.if-not-same.true

pub returns : goal.returns
returns c =
    let f = c.args.frame.now in
    let p = c.args.prefix.now in
    let q = c.in_ok-name.name in
    let m = sym (marked-by _ (λ x y. refl) 78 83 refl refl f) ∙ sym c.starts_with.ensures.value ∙ c.if-not-starts_with.false in
    bound-here f c.args.target p c.if-frame-lt5.false m q (text-at f 5 _ c.in_ok-name.ensures) c.same.result (c.same.ensures ∙ ap (same p) c.clipped.ensures) c.if-frame-target.false c.if-not-same.false c.text_place-2.result
    (text-at f (q.start + q.size) _ c.text_place-2.ensures)
