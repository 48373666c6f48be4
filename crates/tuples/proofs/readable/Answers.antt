-- `readable` meets its contract: nothing where the used length is past the store or the part does not read, else the part.
-- Assumes nothing.
use Rattle.std.proofs.Common.{◌≡◌, ◌<◌, ◌≤◌, ap, sym, ◌∙◌, arith, length, take}
use Rattle.std.proofs.lemmas.Grind.{common_steps}
use Rattle.tuples.specs.Tuples.{all_read}
use Rattle.tuples.proofs.Views.{past-store, not-read, is-read}
use Rattle.tuples.proofs.readable.Goals as goal

pub returns-in_default : goal.returns-in_default
returns-in_default c =
    let n : length c.args.store.now < c.args.used = grind (arith, common_steps) in
    past-store c.args.used c.args.store.now n

pub returns-then-all_read : goal.returns-then-all_read
returns-then-all_read c =
    let n : c.args.used ≤ length c.args.store.now = grind (arith, common_steps) in
    let p : c.in-Some.part.now ≡ take c.args.used c.args.store.now = grind (arith, common_steps) in
    p ∙ is-read c.args.used c.args.store.now n (ap all_read (sym p) ∙ sym c.all_read.ensures ∙ c.if-all_read.true)

pub returns-else-all_read : goal.returns-else-all_read
returns-else-all_read c =
    let n : c.args.used ≤ length c.args.store.now = grind (arith, common_steps) in
    let p : c.in-Some.part.now ≡ take c.args.used c.args.store.now = grind (arith, common_steps) in
    not-read c.args.used c.args.store.now n (ap all_read (sym p) ∙ sym c.all_read.ensures ∙ c.if-all_read.false)
