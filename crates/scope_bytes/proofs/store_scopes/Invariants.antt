-- `store_scopes` meets its contract. The loop's invariant: the first k scopes are written at the front.
-- Assumes nothing.
use Prim.Native.Nat.{◌≤◌}
use lib.ListN.{take}
use mathlib.Core.Path.{◌≡◌}
use mathlib.Core.List.{flat_map}
use Rattle.lists.specs.Lists.{put}
use Rattle.scope_bytes.specs.ScopeBytes.{scope_bytes}
use Rattle.scope_bytes.proofs.store_scopes.Given as goal

abbrev pub invariant-loop-k : goal.invariant-loop-k
invariant-loop-k l = (l.k ≤ 16) × (l.bytes ≡ put l.initial.bytes 0 (flat_map scope_bytes (take l.k l.fn.list)))
