-- `identity_run` meets its contract: with a list too short the first record is refused, if there is one; else the library's run decides, and what it left is handed out.
-- Assumes nothing.
use Rattle.std.proofs.Common.{rules}
use Prim.Native.Nat.{◌≤◌, ◌<◌}
use lib.ListN.{length}
use borrow.Author.Tests.{leb-true, leb-false}
use mathlib.Core.Path.{◌≡◌, sym, ◌∙◌, subst}
use mathlib.Core.List.{List}
use Rattle.open_scopes.specs.declared.Scope.{Scope}
use Rattle.open_scopes.specs.declared.Numbers.{Numbers}
use Rattle.calls.specs.Running.{Runs}
use Rattle.call_forms.proofs.DoorCalls.{held}
use Rattle.call_forms.proofs.DoorBuffers.{ran-short, ran}
use Rattle.doors.proofs.identity_run.Goals as goal

pub returns-then-not-holds_sixteen : goal.returns-then-not-holds_sixteen
returns-then-not-holds_sixteen c =
    let args = c.args in
    let holds = c.holds_sixteen in
    let numbers : Numbers = record { events = args.events.now; running = args.running.now; definitions = args.dused.now; tuples = args.tused.now; reports = args.rused.now } in
    let few : length args.scopes.now < 192 = leb-false 192 (length args.scopes.now) (sym holds.ensures ∙ c.if-not-holds_sixteen.true) in
    let number = c.unfit_number in
    ran-short numbers args.buffer.now args.defs.now args.tuples.now args.reports.now args.paths.now args.scopes.now args.names.now args.cells.now few number.result number.ensures

pub returns : goal.returns
returns c =
    let args = c.args in
    let holds = c.holds_sixteen in
    let loaded = c.load_scopes-list in
    let left = c.run-d in
    let handed = c.hand_out_numbers in
    let out = c.hand_out_run in
    let numbers : Numbers = record { events = args.events.now; running = args.running.now; definitions = args.dused.now; tuples = args.tused.now; reports = args.rused.now } in
    let long : 192 ≤ length args.scopes.now = leb-true 192 (length args.scopes.now) (sym holds.ensures ∙ c.if-not-holds_sixteen.false) in
    let promised =
    subst (λ (l : List Scope). Runs numbers l args.buffer.now args.defs.now args.tuples.now args.reports.now args.paths.now args.names.now args.cells.now left.result c.run-d.new.defs c.run-d.new.tuples c.run-d.new.reports c.run-d.new.paths c.run-d.new.names c.run-d.new.cells)
    (loaded.ensures ∙ sym (held args.scopes.now long)) left.ensures in
    let sixteen : length left.result.last.list ≡ 16 = search rules in
    ran numbers args.buffer.now args.defs.now args.tuples.now args.reports.now args.paths.now args.scopes.now args.names.now args.cells.now left.result c.run-d.new.defs c.run-d.new.tuples c.run-d.new.reports c.run-d.new.paths c.run-d.new.names c.run-d.new.cells promised (record { events = handed.new.events; running = handed.new.running; definitions = handed.new.dused; tuples = handed.new.tused; reports = handed.new.rused }) handed.ensures out.result out.new.scopes out.ensures sixteen long
