-- `end_element` meets its contract: each answer is a law of a world that decodes, at what was found before the tests for room.
-- Assumes nothing.
use native.Mathlib.Omega.{arith}
use mathlib.Core.Path.{refl}
use Rattle.ending.proofs.Taking.{takes-tuples, takes-reports, takes-ee}
use Rattle.ending.proofs.end_element.Goals as goal

pub returns-then-left_of-s : goal.returns-then-left_of-s
returns-then-left_of-s c = λ p marked.
    let a = c.args in
    let saved = c.save-saved in
    let used = c.used_of-used in
    let key = c.text_in-key in
    let hits = c.element_hits-hits in
    let first = c.first_ending-first in
    let settled = c.settle_used-s in
    let left = c.left_of in
    let full = c.refuse_full in
    takes-tuples a.at.n a.list a.ee a.rec.now a.defs.now a.tuples.now a.reports.now a.paths.now a.names.now a.cells.now a.at.c a.at.depth p saved.result used.result.now key.result.now a.ee.simple hits.result hits.new.area first.result a.marks.now settled.result
    (record { saved_is = saved.ensures; used_is = used.ensures; text_is = key.ensures; simple_is = refl; hits_are = hits.ensures; first_is = first.ensures; settles = settled.ensures }) marked
    left.result left.ensures c.if-left_of-s.true full.new.paths full.ensures.1 full.result full.ensures.0

pub returns-then-left_of-s-2 : goal.returns-then-left_of-s-2
returns-then-left_of-s-2 c = λ p marked.
    let a = c.args in
    let saved = c.save-saved in
    let used = c.used_of-used in
    let key = c.text_in-key in
    let hits = c.element_hits-hits in
    let first = c.first_ending-first in
    let settled = c.settle_used-s in
    let left = c.left_of in
    let more = c.left_of-2 in
    let full = c.refuse_full-then-left_of-s-2 in
    takes-reports a.at.n a.list a.ee a.rec.now a.defs.now a.tuples.now a.reports.now a.paths.now a.names.now a.cells.now a.at.c a.at.depth p saved.result used.result.now key.result.now a.ee.simple hits.result hits.new.area first.result a.marks.now settled.result
    (record { saved_is = saved.ensures; used_is = used.ensures; text_is = key.ensures; simple_is = refl; hits_are = hits.ensures; first_is = first.ensures; settles = settled.ensures }) marked
    left.result left.ensures (omega (arith, c.if-left_of-s.false)) more.result more.ensures c.if-left_of-s-2.true full.new.paths full.ensures.1 full.result full.ensures.0

pub returns : goal.returns
returns c = λ p marked.
    let a = c.args in
    let saved = c.save-saved in
    let used = c.used_of-used in
    let key = c.text_in-key in
    let hits = c.element_hits-hits in
    let first = c.first_ending-first in
    let settled = c.settle_used-s in
    let left = c.left_of in
    let more = c.left_of-2 in
    let wrote = c.write_end-numbers in
    takes-ee a.at.n a.list a.ee a.rec.now a.defs.now a.tuples.now a.reports.now a.paths.now a.names.now a.cells.now a.at.c a.at.depth p saved.result used.result.now key.result.now a.ee.simple hits.result hits.new.area first.result a.marks.now settled.result
    (record { saved_is = saved.ensures; used_is = used.ensures; text_is = key.ensures; simple_is = refl; hits_are = hits.ensures; first_is = first.ensures; settles = settled.ensures }) marked
    left.result left.ensures (omega (arith, c.if-left_of-s.false)) more.result more.ensures (omega (arith, c.if-left_of-s-2.false)) wrote.result wrote.new.tuples wrote.new.reports wrote.new.cells wrote.ensures
