-- `numbers_then` meets its contract: one event more, and the counts packed.
-- Assumes nothing.
use Prim.Native.Nat.{ℕ, ◌+◌}
use mathlib.Core.Path.{ap}
use Rattle.ending.proofs.numbers_then.Goals as goal

pub returns : goal.returns
returns c =
    let a = c.args in
    ap (λ (k : ℕ). record { events = a.at.n.events + 1; running = k; definitions = a.at.n.definitions; tuples = a.w.tuples; reports = a.w.reports }) c.ended-running.ensures
