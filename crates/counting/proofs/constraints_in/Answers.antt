-- `constraints_in` meets its contract: what is used is there and reads, or there is none.
-- Assumes nothing.
use Rattle.std.proofs.Common.{arith, rules, ap, ◌∙◌}
use lib.ListN.{take}
use mathlib.Core.Logic.{⊎_elim}
use Rattle.counting.proofs.Answering.{counted-by}
use Rattle.counting.proofs.constraints_in.Goals as goal

pub returns : goal.returns
returns c =
    counted-by c.args.defs.now c.args.used c.get.result _ _ (λ h. ⊎_elim (λ a. omega (arith, a)) (λ b. b) h) (λ x h. (h.1, h.2 ∙ ap (λ n. take n c.args.defs.now) (omega arith))) c.get.ensures.lookup.0
    c.and_then-read.result _ (λ x h. search rules) c.and_then-read.ensures c.map_or.result _ (λ t h. search rules) c.map_or.ensures
