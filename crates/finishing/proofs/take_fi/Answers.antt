-- `take_fi` meets its contract: each answer is a law of a world that decodes, at the tests that led there.
-- Assumes nothing.
use Prim.Native.Nat.{◌≤◌}
use native.Mathlib.Omega.{arith}
use lib.ListN.{length}
use Rattle.std.specs.Prelude.{is_some}
use mathlib.Core.Path.{◌≡◌, ap, sym, subst, ◌∙◌}
use Rattle.records.specs.Readers.{Bytes}
use Rattle.tuple_search.proofs.Records.{Below}
use lib.Dec.{ltb}
use borrow.Author.Tests.{ltb-true, ltb-false}
use Rattle.worlds.specs.declared.SessionRefusal.{SessionRefusal}
use Rattle.worlds.specs.declared.SessionRefusal.TheVariants.{Unbalanced}
use Rattle.worlds.specs.declared.Done.{Done}
use Rattle.worlds.specs.Replies.{refusal}
use Rattle.event_answers.proofs.InPlace.{refused_for, free}
use Rattle.event_answers.specs.Fives.{RefsOf}
use Rattle.event_answers.specs.Finishing.{TakesFi}
use Rattle.finishing.proofs.Taking.{takes-done, takes-many, takes-open, takes-past, takes-full, takes-fi}
use Rattle.finishing.proofs.take_fi.Goals as goal

pub returns-in-Err : goal.returns-in-Err
returns-in-Err c =
    let a = c.args in
    let u = c.unpack-c in
    let d = c.depth_of-depth in
    refused_for u.result.stage a.n.events (ltb 0 d.result) Unbalanced c.in-Err.why (sym c.in_place-placed.ensures ∙ c.in-Err.is)
    (λ (q : SessionRefusal). (r : Done) → r ≡ refusal a.n a.list q → TakesFi a.n a.list a.defs.now a.tuples.now a.reports.now r a.reports.now)
    (λ x. takes-done a.n a.list a.defs.now a.tuples.now a.reports.now u.result u.ensures x)
    (λ x y. takes-many a.n a.list a.defs.now a.tuples.now a.reports.now u.result u.ensures x y)
    (λ x y z. takes-open a.n a.list a.defs.now a.tuples.now a.reports.now u.result u.ensures x y d.result d.ensures (ltb-true 0 d.result z))
    c.refusing.result c.refusing.ensures

pub returns-in_default-checked_sub : goal.returns-in_default-checked_sub
returns-in_default-checked_sub c =
    let a = c.args in
    let u = c.unpack-c in
    let d = c.depth_of-depth in
    let z = free u.result.stage a.n.events (ltb 0 d.result) Unbalanced c.in_default.field-0 (sym c.in_place-placed.ensures ∙ c.in_default.is) in
    let past : a.n.reports ≤ length a.reports.now → ⊥ = c.in_default-checked_sub.ensures in
    takes-past a.n a.list a.defs.now a.tuples.now a.reports.now u.result u.ensures z.begun z.early d.result d.ensures (ltb-false 0 d.result z.right)
    (omega (arith, past)) c.refusing-in_default-checked_sub.result c.refusing-in_default-checked_sub.ensures

pub returns-in_default-report_fives : goal.returns-in_default-report_fives
returns-in_default-report_fives c =
    let a = c.args in
    let u = c.unpack-c in
    let d = c.depth_of-depth in
    let z = free u.result.stage a.n.events (ltb 0 d.result) Unbalanced c.in_default.field-0 (sym c.in_place-placed.ensures ∙ c.in_default.is) in
    let t = c.used_of-used in
    let r = c.refs_of-refs in
    let o = subst (λ (l : Bytes). RefsOf l r.result) c.used_of.ensures r.ensures in
    let f = c.report_fives in
    let below : Below a.tuples.now = λ i. omega (arith, c.type_inv.tuples i) in
    subst (TakesFi a.n a.list a.defs.now a.tuples.now a.reports.now c.refusing-in_default-report_fives.result) (sym (f.ensures.keeps c.in_default-report_fives.is))
    (takes-full a.n a.list a.defs.now a.tuples.now a.reports.now u.result u.ensures z.begun z.early d.result d.ensures (ltb-false 0 d.result z.right)
    r.result o below t.result.now t.ensures c.in-Some.room c.in-Some.ensures (is_some f.result) f.ensures.fit (ap is_some c.in_default-report_fives.is) c.refusing-in_default-report_fives.result c.refusing-in_default-report_fives.ensures)

pub returns : goal.returns
returns c =
    let a = c.args in
    let u = c.unpack-c in
    let d = c.depth_of-depth in
    let z = free u.result.stage a.n.events (ltb 0 d.result) Unbalanced c.in_default.field-0 (sym c.in_place-placed.ensures ∙ c.in_default.is) in
    let t = c.used_of-used in
    let r = c.refs_of-refs in
    let o = subst (λ (l : Bytes). RefsOf l r.result) c.used_of.ensures r.ensures in
    let f = c.report_fives in
    let below : Below a.tuples.now = λ i. omega (arith, c.type_inv.tuples i) in
    takes-fi a.n a.list a.defs.now a.tuples.now a.reports.now u.result u.ensures z.begun z.early d.result d.ensures (ltb-false 0 d.result z.right)
    r.result o below t.result.now t.ensures c.in-Some.room c.in-Some.ensures (is_some f.result) f.ensures.fit (ap is_some c.in-Some-report_fives.is)
    c.in-Some-report_fives.end f.new.reports (f.ensures.writes c.in-Some-report_fives.end c.in-Some-report_fives.is) c.finished-running.result c.finished-running.ensures

pub overflow_add-events : goal.overflow_add-events
overflow_add-events c =
    let a = c.args in
    let u = c.unpack-c in
    let d = c.depth_of-depth in
    let z = free u.result.stage a.n.events (ltb 0 d.result) Unbalanced c.in_default.field-0 (sym c.in_place-placed.ensures ∙ c.in_default.is) in
    omega (arith, z.early)

pub overflow_cast-event : goal.overflow_cast-event
overflow_cast-event c =
    let a = c.args in
    let u = c.unpack-c in
    let d = c.depth_of-depth in
    let z = free u.result.stage a.n.events (ltb 0 d.result) Unbalanced c.in_default.field-0 (sym c.in_place-placed.ensures ∙ c.in_default.is) in
    omega (arith, z.early)
