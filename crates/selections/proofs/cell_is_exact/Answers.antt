-- `cell_is_exact` meets its contract: each answer is a law of one cell, at the tests that led there.
-- Assumes nothing.
use Prim.Native.Nat.{ℕ, ◌+◌, ◌%◌, ◌≤◌}
use native.Mathlib.Omega.{arith}
use lib.ListN.{length, drop, get_or}
use mathlib.Core.Path.{◌≡◌, ap, sym, ◌∙◌}
use mathlib.Core.Bool.{Bool, true, false}
use mathlib.Core.Logic.{inl, inr}
use Rattle.std.proofs.lemmas.List.{take_rest}
use Rattle.std.specs.declared.option.Option as code
use Rattle.std.specs.declared.option.Option.TheVariants.{Some, None}
use Rattle.std.proofs.Common.{rules, Bor}
use Rattle.std.specs.Prelude.{MatchOption}
use Rattle.std.specs.Slice.{IsGetRangeResult}
use Rattle.records.specs.Readers.{Bytes}
use Rattle.cells.specs.Cells.{has_key}
use Rattle.selections.specs.Exact.{zeros, highest, exact}
use Rattle.selections.proofs.Exact.{exact-width, exact_past, exact-keyless, exact-long, exact-set}
use Rattle.selections.proofs.cell_is_exact.Goals as goal

pub returns-then-cell-ne128 : goal.returns-then-cell-ne128
returns-then-cell-ne128 c = exact-width c.args.has c.args.cell.now c.if-cell-ne128.true

pub returns-then-highest_state-state : goal.returns-then-highest_state-state
returns-then-highest_state-state c =
    let a = c.args in
    exact_past a.has a.cell.now c.if-cell-ne128.false (omega (arith, c.if-highest_state-state.true, c.highest_state.ensures))

pub returns-then-not-has_key : goal.returns-then-not-has_key
returns-then-not-has_key c =
    let tested = c in
    let low = tested in
    let a = low.args in
    c.all_zero.ensures
    ∙ ap zeros (take_rest a.cell.now 1)
    ∙ exact-keyless a.has a.cell.now low.if-cell-ne128.false (omega (arith, low.if-highest_state-state.false, low.highest_state.ensures))
    (sym tested.has_key.ensures ∙ c.if-not-has_key.true)

-- what is behind the key, if that much is there
behind : (P : Bor Bytes → Type 0) (has : Bool) (l : Bytes) → length l ≡ 128 → has_key (get_or l 0 0 % 8) ≡ true
    → get_or l 0 0 % 8 ≤ highest has → (start : ℕ) → start ≡ 2 + get_or l 1 0 → (r : code.Option (Bor Bytes)) → IsGetRangeResult l start (length l) r
    → (b : Bool) → MatchOption r (b ≡ false) P → ((x : Bor Bytes) → P x → b ≡ zeros x.now) → b ≡ exact has l
behind P has l w k m start e None h b q f =
    q ∙ exact-long has l w k (elim h.0 [ inl g ↦ omega arith | inr g ↦ absurd (omega arith) ])
behind P has l w k m start e (Some x) h b q f =
    f x q
    ∙ ap zeros (h.0.2 ∙ take_rest l start ∙ ap (λ (n : ℕ). drop n l) e)
    ∙ exact-set has l w k m (omega (arith, h.0.0))

pub returns : goal.returns
returns c =
    let a = c.args in
    behind _ a.has a.cell.now c.if-cell-ne128.false (sym c.has_key.ensures ∙ c.if-not-has_key.false)
    (omega (arith, c.if-highest_state-state.false, c.highest_state.ensures)) (2 + c.from-behind.result) (omega (arith, c.from-behind.ensures)) c.get.result c.get.ensures.lookup
    c.is_some_and.result c.is_some_and.ensures (λ x p. search rules)
