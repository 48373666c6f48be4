-- `take_es` meets its contract: refused by counts alone, or what the element comes to.
-- Assumes nothing.
use Rattle.std.proofs.Common.{rules}
use native.Mathlib.Omega.{arith}
use lib.ListN.{length}
use mathlib.Core.Path.{◌≡◌}
use Rattle.starting.proofs.Taking.{takes-refused, free-to, takes-es}
use Rattle.starting.proofs.take_es.Goals as goal

pub overflow_add-depth : goal.overflow_add-depth
overflow_add-depth c =
    let a = c.args in
    let u = c.unpack-c in
    let us = c.used_of-used in
    let ti = c.text_in in
    let cn = c.constraint_count in
    let lu = c.lists_undefined-absent in
    let pl = c.place in
    let f = free-to a.n a.list a.es a.rec.now a.defs.now a.reports.now a.paths.now a.names.now a.cells.now u.result u.ensures
    us.result.now us.ensures ti.result.now ti.ensures cn.result cn.ensures lu.result lu.ensures pl.result pl.ensures
    c.in-Ok.is in
    omega (arith, f.deep, f.few, c.depth_of-above.ensures)

pub overflow_add-stage : goal.overflow_add-stage
overflow_add-stage c =
    let a = c.args in
    let u = c.unpack-c in
    let us = c.used_of-used in
    let ti = c.text_in in
    let cn = c.constraint_count in
    let lu = c.lists_undefined-absent in
    let pl = c.place in
    let f = free-to a.n a.list a.es a.rec.now a.defs.now a.reports.now a.paths.now a.names.now a.cells.now u.result u.ensures
    us.result.now us.ensures ti.result.now ti.ensures cn.result cn.ensures lu.result lu.ensures pl.result pl.ensures
    c.in-Ok.is in
    omega (arith, f.deep, f.few, c.depth_of-above.ensures)

pub overflow_add-events : goal.overflow_add-events
overflow_add-events c =
    let a = c.args in
    let u = c.unpack-c in
    let us = c.used_of-used in
    let ti = c.text_in in
    let cn = c.constraint_count in
    let lu = c.lists_undefined-absent in
    let pl = c.place in
    let f = free-to a.n a.list a.es a.rec.now a.defs.now a.reports.now a.paths.now a.names.now a.cells.now u.result u.ensures
    us.result.now us.ensures ti.result.now ti.ensures cn.result cn.ensures lu.result lu.ensures pl.result pl.ensures
    c.in-Ok.is in
    omega (arith, f.deep, f.few, c.depth_of-above.ensures)

pub overflow_cast-event : goal.overflow_cast-event
overflow_cast-event c =
    let a = c.args in
    let u = c.unpack-c in
    let us = c.used_of-used in
    let ti = c.text_in in
    let cn = c.constraint_count in
    let lu = c.lists_undefined-absent in
    let pl = c.place in
    let f = free-to a.n a.list a.es a.rec.now a.defs.now a.reports.now a.paths.now a.names.now a.cells.now u.result u.ensures
    us.result.now us.ensures ti.result.now ti.ensures cn.result cn.ensures lu.result lu.ensures pl.result pl.ensures
    c.in-Ok.is in
    omega (arith, f.deep, f.few, c.depth_of-above.ensures)

pub returns-in-Err : goal.returns-in-Err
returns-in-Err c =
    let a = c.args in
    let u = c.unpack-c in
    let us = c.used_of-used in
    let ti = c.text_in in
    let cn = c.constraint_count in
    let lu = c.lists_undefined-absent in
    let pl = c.place in
    takes-refused a.n a.list a.es a.rec.now a.defs.now a.reports.now a.paths.now a.names.now a.cells.now u.result u.ensures
    us.result.now us.ensures ti.result.now ti.ensures cn.result cn.ensures lu.result lu.ensures pl.result pl.ensures
    c.in-Err.why c.in-Err.is c.refusing.result c.refusing.ensures

pub returns-in-Ok : goal.returns-in-Ok
returns-in-Ok c =
    let a = c.args in
    let u = c.unpack-c in
    let us = c.used_of-used in
    let ti = c.text_in in
    let cn = c.constraint_count in
    let lu = c.lists_undefined-absent in
    let pl = c.place in
    let dp = c.depth_of-above in
    let se = c.start_element in
    let sixteen : length a.list ≡ 16 = search rules in
    takes-es a.n a.list a.es a.rec.now a.defs.now a.reports.now a.paths.now a.names.now a.cells.now u.result u.ensures
    us.result.now us.ensures ti.result.now ti.ensures cn.result cn.ensures lu.result lu.ensures pl.result pl.ensures
    c.in-Ok.is dp.result dp.ensures sixteen se.result se.new.reports se.new.paths se.new.names se.new.cells se.ensures
