-- `fields_read` meets its contract: field after field, until one does not read.
-- Assumes nothing.
use Rattle.std.proofs.Common.{rules}
use Rattle.constraints.specs.Constraints.{texts_left}
use Rattle.constraint_paths.proofs.Asked.{one-unread, one-passed}
use Rattle.constraint_paths.proofs.fields_read.Goals as goal

pub returns-then-not-read_path : goal.returns-then-not-read_path
returns-then-not-read_path c =
    let t = c.args.constraint.now in
    let loop = c.loop-path in
    let read = c.read_path in
    one-unread t.own.now t.parts c.args.area.now (texts_left loop.path-iterator) loop.area loop.invariant c.in-Some.path.now _ c.in-Some.ensures.steps read.result read.new.area read.ensures (search rules)

pub loop-path-preserved : goal.loop-path-preserved
loop-path-preserved c =
    let t = c.args.constraint.now in
    let loop = c.loop-path in
    let read = c.read_path in
    one-passed t.own.now t.parts c.args.area.now (texts_left loop.path-iterator) loop.area loop.invariant c.in-Some.path.now _ c.in-Some.ensures.steps read.result read.new.area read.ensures (search rules)
