-- `answers_name` meets its contract: by the kind, and then by the name.
-- Assumes nothing.
use Rattle.constraints.proofs.Heads.{borne-too, borne-not}
use Rattle.constraints.proofs.answers_name.Goals as goal

pub returns-then-byte_at-lt2 : goal.returns-then-byte_at-lt2
returns-then-byte_at-lt2 c =
    let args = c.args in
    borne-too args.name.now args.id.now c.byte_at.result c.byte_at.ensures c.if-byte_at-lt2.true c.bears_name.result c.bears_name.ensures

pub returns-else-byte_at-lt2 : goal.returns-else-byte_at-lt2
returns-else-byte_at-lt2 c =
    let args = c.args in
    borne-not args.name.now args.id.now c.byte_at.result c.byte_at.ensures c.if-byte_at-lt2.false
