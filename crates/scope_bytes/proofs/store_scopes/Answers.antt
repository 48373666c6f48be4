-- `store_scopes` meets its contract. The loop's invariant: the first k scopes are written at the front.
-- Assumes nothing.
use Rattle.std.proofs.Common.{rules}
use native.Mathlib.Omega.{arith}
use lib.ListN.{length, get_or}
use mathlib.Core.Path.{◌≡◌, refl, sym}
use Rattle.scope_bytes.proofs.ScopeBytes.{none-stored}
use Rattle.scope_bytes.proofs.Turns.{store-start, store-turn}
use Rattle.open_scopes.specs.OpenScopes.{blank_scope}
use Rattle.scope_bytes.proofs.store_scopes.Goals as goal

pub returns-then-bytes-lt192 : goal.returns-then-bytes-lt192
returns-then-bytes-lt192 c =
    let a = c.args in
    let n : length a.list ≡ 16 = search rules in
    sym (none-stored a.bytes.now a.list n c.if-bytes-lt192.true)

pub loop-k-init : goal.loop-k-init
loop-k-init c =
    let a = c.args in
    (omega arith, store-start a.bytes.now a.list)

pub loop-k-preserved : goal.loop-k-preserved
loop-k-preserved c =
    let a = c.args in
    let l = c.loop-k in
    let n : length a.list ≡ 16 = search rules in (
      omega arith,
      store-turn a.bytes.now l.bytes c.put_four.new.store c.put_four-in-loop-k.new.store c.put_four-in-loop-k-2.new.store a.list l.k (get_or a.list l.k blank_scope) blank_scope
          n (omega arith) (omega (arith, c.if-bytes-lt192.false)) l.invariant.1 refl
          c.put_four.ensures c.put_four-in-loop-k.ensures c.put_four-in-loop-k-2.ensures,
    )
