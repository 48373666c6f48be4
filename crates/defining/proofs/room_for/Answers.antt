-- `room_for` meets its contract: both tests together are one on the sum.
-- Assumes nothing.
use Rattle.defining.proofs.Deciding.{no_room, room-left}
use native.Mathlib.Omega.{arith}
use Rattle.defining.proofs.room_for.Goals as goal
use Rattle.defining.proofs.room_for.Goals.{then-room-used-via-then-room-used, then-room-used-via-else-room-used+then-room-used-2}

pub returns-then-room-used : goal.returns-then-room-used
returns-then-room-used c =
    let args = c.args in
    elim c.then-room-used.branch [
      | then-room-used-via-then-room-used w ↦ no_room args.used args.size args.room (omega arith)
      | then-room-used-via-else-room-used+then-room-used-2 w ↦ no_room args.used args.size args.room (omega arith)
    ]

pub returns : goal.returns
returns c =
    let args = c.args in
    room-left args.used args.size args.room (omega arith)
