-- Of the tables of the examples: which entries are noted. Each rests on an example of specs/Examples.antt.
-- Assumes nothing.
use Rattle.std.specs.Prelude.{ℕ, zero, suc, ◌-◌, ◌<◌, get_or, [], ◌∷◌}
use Rattle.std.proofs.Common.{arith}
use Rattle.tuple_places.specs.Places.{RecordAt, Noted, Notes}
use Rattle.tuple_places.specs.Examples.{first, store, at-the-start, behind-the-first, not-inside}

both-noted : Noted (0 ∷ 14 ∷ 1 ∷ []) store
both-noted = record { each = by }
  where
    by : (i : ℕ) → 0 < get_or (0 ∷ 14 ∷ 1 ∷ []) i 0 → RecordAt store (get_or (0 ∷ 14 ∷ 1 ∷ []) i 0 - 1)
    by zero h = absurd (omega arith)
    by (suc zero) h = behind-the-first
    by (suc (suc zero)) h = at-the-start
    by (suc (suc (suc i))) h = absurd (omega arith)

not_noted : Noted (0 ∷ 2 ∷ []) first → ⊥
not_noted n = not-inside (n.each 1 (omega arith))

-- no call makes such an entry, and none makes the table shorter
not-noting : Notes (0 ∷ 0 ∷ []) first (0 ∷ 2 ∷ []) → ⊥
not-noting n = not_noted (n.noted (record { each = by }))
  where
    by : (i : ℕ) → 0 < get_or (0 ∷ 0 ∷ []) i 0 → RecordAt first (get_or (0 ∷ 0 ∷ []) i 0 - 1)
    by zero h = absurd (omega arith)
    by (suc zero) h = absurd (omega arith)
    by (suc (suc i)) h = absurd (omega arith)
