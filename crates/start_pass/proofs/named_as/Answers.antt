-- `named_as` meets its contract: the name in the records of the number is that of its constraint.
-- Assumes nothing.
use Rattle.std.proofs.Common.{rules, ℕ, ◌≡◌, ◌∙◌, ap}
use Rattle.bindings.specs.Bindings.{frames_in}
use Rattle.bindings.specs.Own.{own_frames}
use Rattle.constraints.specs.Constraints.{joined}
use Rattle.start_pass.proofs.Stands.{named-as-is}
use Rattle.start_pass.proofs.named_as.Goals as goal

pub returns : goal.returns
returns c =
    let args = c.args in
    let t = c.numbered-constraint in
    let text = c.name in
    let n : c.from.result ≡ args.number = search rules in
    let records = t.ensures.records ∙ ap (λ (k : ℕ). joined (own_frames k (frames_in args.defs.now))) n in
    named-as-is args.defs.now args.number t.result.own.now t.result.parts text.result.now c.named.result records t.ensures.parts text.ensures c.named.ensures
