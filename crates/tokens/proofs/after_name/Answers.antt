-- `after_name` meets its contract: a law for each way out.
-- Assumes nothing.
use mathlib.Core.Path.{sym, ◌∙◌}
use Rattle.tokens.proofs.Scanning.{name-end, name-plain, name-axis, name-prefix}
use Rattle.tokens.proofs.after_name.Goals as goal
use Rattle.tokens.proofs.after_name.Goals.{then-s-at-via-then-s-at, then-s-at-via-else-s-at+then-s-at-ne58, then-s-at-via-else-s-at+else-s-at-ne58+then-starts_with}

pub returns-then-s-at : goal.returns-then-s-at
returns-then-s-at c =
    elim c.then-s-at.branch [
      | then-s-at-via-then-s-at w ↦ name-end c.args.s.now c.args.n w.if-s-at.true
      | then-s-at-via-else-s-at+then-s-at-ne58 w ↦ name-plain c.args.s.now c.args.n c.requires w.if-s-at.false w.if-s-at-ne58.true
      | then-s-at-via-else-s-at+else-s-at-ne58+then-starts_with w ↦ name-axis c.args.s.now c.args.n c.requires w.if-s-at.false w.if-s-at-ne58.false (sym w.starts_with.ensures ∙ w.if-starts_with.true)
    ]

pub returns : goal.returns
returns c =
    c.after_prefix.ensures ∙ name-prefix c.args.s.now c.args.n c.requires c.if-s-at.false c.if-s-at-ne58.false (sym c.starts_with.ensures ∙ c.if-starts_with.false)
