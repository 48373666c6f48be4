-- `refusal_number` meets its contract: each return by a law of its own.
-- Assumes nothing.
use Rattle.std.proofs.Common.{rules}
use Rattle.records.specs.Refusals.{refusal_number}
use Rattle.record_walk.proofs.refusal_number.Goals as goal

-- src/lib.rt:101:1
pub returns-in-UnknownMark : goal.returns-in-UnknownMark
unfolding refusal_number
returns-in-UnknownMark c = search rules

-- src/lib.rt:101:1
pub returns-in-TooLong : goal.returns-in-TooLong
unfolding refusal_number
returns-in-TooLong c = search rules

-- src/lib.rt:101:1
pub returns-in-Misframed : goal.returns-in-Misframed
unfolding refusal_number
returns-in-Misframed c = search rules

-- src/lib.rt:101:1
pub returns-in-NotUtf8 : goal.returns-in-NotUtf8
unfolding refusal_number
returns-in-NotUtf8 c = search rules

-- src/lib.rt:101:1
pub returns-in-BadByte : goal.returns-in-BadByte
unfolding refusal_number
returns-in-BadByte c = search rules

-- src/lib.rt:101:1
pub returns-in-OverLimit : goal.returns-in-OverLimit
unfolding refusal_number
returns-in-OverLimit c = search rules
