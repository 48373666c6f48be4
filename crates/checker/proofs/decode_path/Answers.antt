-- `decode_path` meets its contract: each turn writes one code point of the path.
-- Assumes nothing.
use native.Mathlib.Omega.{arith}
use mathlib.Core.Path.{refl}
use Rattle.checker.proofs.Decoding.{decode-most}
use Rattle.checker.proofs.decode_path.Goals as goal

pub loop-code-init : goal.loop-code-init
loop-code-init c = rw c.into_iter-code-iterator.ensures.into_iter_gives (refl, omega (arith, decode-most c.args.path.now), refl)
