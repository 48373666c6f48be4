-- `waiting_from` meets its contract: what the search over the numbers names is the first whose bit is set.
-- Assumes nothing.
use Rattle.std.proofs.Common.{◌≡◌, ◌/◌, ◌^◌, bit_and, sym, ◌∙◌, rules, tests}
use Rattle.std.specs.Int.{bit_at}
use Rattle.std.proofs.lemmas.Iterator.{first_from_Range}
use Rattle.std.proofs.lemmas.Nat.Bits.{shr_and_one}
use Rattle.print_jobs.proofs.Naming.{seek-named}
use Rattle.print_jobs.proofs.waiting_from.Goals as goal

pub returns : goal.returns
returns c =
    let w = c.args.waiting in
    seek-named w c.args.from c.find.result
    (first_from_Range _ _ _ _ (λ i. bit_at w i ≡ 1) (λ i. bit_at w i ≡ 1 → ⊥) c.find.ensures.ran
    (λ x q k. let f : bit_and (w / 2 ^ x) 1 ≡ 1 = search (rules, tests) in sym (shr_and_one w x) ∙ f)
    (λ x q k. (search rules, λ e. let f : bit_and (w / 2 ^ x) 1 ≡ 1 → ⊥ = search (rules, tests) in f (shr_and_one w x ∙ e))))
