-- `run_marked` meets its contract: without marks nothing is ruled out, and before the first frame of a longer buffer all tuples are marked.
-- Assumes nothing.
use lib.ListN.{take}
use Rattle.tuple_marks.proofs.Growing.{none-ruled-out}
use Rattle.session.proofs.Marking.{ready}
use Rattle.session.proofs.run_marked.Goals as goal

pub returns-then-buffer-lt2048 : goal.returns-then-buffer-lt2048
returns-then-buffer-lt2048 c =
    let a = c.args in
    c.run_frames.ensures (none-ruled-out (take a.n.tuples a.tuples.now))

pub returns : goal.returns
returns c =
    let a = c.args in
    let used = c.used_of in
    c.run_frames-2.ensures (ready _ _ used.result.now (take a.n.tuples a.tuples.now) used.ensures c.mark_all.ensures)
