-- `hash` meets its contract. The loop's invariant: the first k words are taken. A sum that wraps before it is multiplied is
-- the same after it.
-- Assumes nothing.
use Rattle.std.proofs.lemmas.Nat.{mul-mod_first}
use Prim.Native.Nat.{◌+◌, ◌/◌}
use native.Mathlib.Numerals.{add-one}
use native.Mathlib.Omega.{arith}
use lib.ListN.{length}
use mathlib.Core.Path.{◌≡◌, refl, ap, ◌∙◌}
use Rattle.hashes.specs.Hashes.{hash_to, hash_of}
use Rattle.hashes.proofs.hash.Goals as goal

pub loop-k-init : goal.loop-k-init
unfolding hash_to
loop-k-init c = refl

pub loop-k-preserved : goal.loop-k-preserved
unfolding hash_to
loop-k-preserved c =
    rw (add-one c.loop-k.k, ← c.loop-k.invariant, ← c.four_at.ensures) (mul-mod_first (c.loop-k.h + c.four_at.result) 1640531527 4294967296)

pub returns : goal.returns
unfolding hash_of
returns c =
    let e : c.loop-k.k ≡ length c.args.s.now / 4 + 1 = omega arith in
    c.loop-k.invariant ∙ ap (λ k. hash_to k c.args.s.now) e
