-- `identity_record` meets its contract: a list too short is refused before anything; else the library's call decides, and what it left is handed out.
-- Assumes nothing.
use Rattle.std.proofs.Common.{rules}
use Prim.Native.Nat.{◌≤◌, ◌<◌}
use lib.ListN.{length}
use borrow.Author.Tests.{leb-true, leb-false}
use mathlib.Core.Path.{◌≡◌, refl, sym, ◌∙◌, subst}
use mathlib.Core.List.{List}
use Rattle.records.specs.Refusals.{unfit, refusal_number}
use Rattle.session_spec.specs.Session.{refused, reply_number}
use Rattle.open_scopes.specs.declared.Scope.{Scope}
use Rattle.open_scopes.specs.declared.Numbers.{Numbers}
use Rattle.calls.specs.Calls.{Called}
use Rattle.call_forms.proofs.DoorCalls.{held, recorded-short, recorded}
use Rattle.doors.proofs.identity_record.Goals as goal

pub returns-then-not-holds_sixteen : goal.returns-then-not-holds_sixteen
returns-then-not-holds_sixteen c =
    let args = c.args in
    let holds = c.holds_sixteen in
    let numbers : Numbers = record { events = args.events.now; running = args.running.now; definitions = args.dused.now; tuples = args.tused.now; reports = args.rused.now } in
    let few : length args.scopes.now < 192 = leb-false 192 (length args.scopes.now) (sym holds.ensures ∙ c.if-not-holds_sixteen.true) in
    let ten : reply_number (refused unfit) ≡ 10 = unfold reply_number refusal_number in refl in
    rw (c.number.ensures ∙ ten) (recorded-short numbers args.rec.now args.defs.now args.tuples.now args.reports.now args.paths.now args.scopes.now args.names.now args.cells.now few)

pub returns : goal.returns
returns c =
    let args = c.args in
    let holds = c.holds_sixteen in
    let loaded = c.load_scopes-list in
    let left = c.record_call-d in
    let handed = c.hand_out_numbers in
    let out = c.hand_out_record in
    let numbers : Numbers = record { events = args.events.now; running = args.running.now; definitions = args.dused.now; tuples = args.tused.now; reports = args.rused.now } in
    let long : 192 ≤ length args.scopes.now = leb-true 192 (length args.scopes.now) (sym holds.ensures ∙ c.if-not-holds_sixteen.false) in
    let promised =
    subst (λ (l : List Scope). Called numbers l args.rec.now args.defs.now args.tuples.now args.reports.now args.paths.now args.names.now args.cells.now left.result c.record_call-d.new.defs c.record_call-d.new.tuples c.record_call-d.new.reports c.record_call-d.new.paths c.record_call-d.new.names c.record_call-d.new.cells)
    (loaded.ensures ∙ sym (held args.scopes.now long)) left.ensures in
    let sixteen : length left.result.list ≡ 16 = search rules in
    recorded numbers args.rec.now args.defs.now args.tuples.now args.reports.now args.paths.now args.scopes.now args.names.now args.cells.now left.result c.record_call-d.new.defs c.record_call-d.new.tuples c.record_call-d.new.reports c.record_call-d.new.paths c.record_call-d.new.names c.record_call-d.new.cells promised (record { events = handed.new.events; running = handed.new.running; definitions = handed.new.dused; tuples = handed.new.tused; reports = handed.new.rused }) handed.ensures out.result out.new.scopes out.ensures sixteen long
