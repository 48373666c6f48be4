-- `all_answers` meets its contract. The invariant: the sets of the first places are taken in.
-- Assumes nothing.
use Prim.Native.Nat.{ℕ}
use lib.Bits.{bit_or}
use mathlib.Core.Path.{refl, ap, ◌∙◌}
use Rattle.event_answers.specs.Fives.{answers_to}
use Rattle.finishing.proofs.Refers.{answers-more}
use Rattle.finishing.proofs.all_answers.Goals as goal

pub loop-one-init : goal.loop-one-init
unfolding answers_to
loop-one-init c = refl

pub loop-one-preserved : goal.loop-one-preserved
loop-one-preserved c =
    let l = c.loop-one in
    ap (λ (n : ℕ). bit_or l.set n) c.unwrap_or-set.ensures ∙ answers-more c.args.refs.list l.one-index l.set l.invariant
