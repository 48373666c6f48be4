-- `all_read` meets its contract: each passes, whatever it is, and they are not more than the bytes.
-- Assumes nothing.
use native.Mathlib.Omega.{arith}
use Rattle.std.proofs.Common.{true, ap, ◌∙◌, rules, tests}
use Rattle.session_spec.specs.Definitions.{is_some}
use Rattle.tuples.specs.Tuples.{all_read}
use Rattle.tuples.proofs.Walking.{is-given, all-pass}
use Rattle.tuples.proofs.all_read.Goals as goal

pub returns : goal.returns
unfolding all_read
returns c =
    c.is_some.ensures ∙ is-given c.count_that.result ∙ ap is_some (c.count_that.ensures (λ x s. true) (λ x s b q. search (rules, tests)))
    ∙ all-pass _ c.args.used.now (omega arith)
