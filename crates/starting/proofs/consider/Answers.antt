-- `consider` meets its contract: each answer is a law at the tests that led there.
-- Assumes nothing.
use Rattle.starting.proofs.Considered.{scopes-refused, selections-refused, reports-refused, planned}
use mathlib.Core.Path.{sym}
use Rattle.starting.proofs.consider.Goals as goal

pub returns-then-scopes_past : goal.returns-then-scopes_past
returns-then-scopes_past c =
    let a = c.args in
    let ti = c.text_in-numbers in
    let op = c.opens-reading in
    let pa = c.scopes_past in
    scopes-refused a.n a.spot a.scopes a.es a.rec.now a.defs.now a.reports.now a.paths.now a.names.now ti.result.now ti.ensures op.result op.new.area op.ensures pa.result pa.ensures
    c.if-scopes_past.true

pub returns-then-selections_past : goal.returns-then-selections_past
returns-then-selections_past c =
    let a = c.args in
    let ti = c.text_in-numbers in
    let op = c.opens-reading in
    let pa = c.scopes_past in
    let pu = c.push_scopes-then in
    let sp = c.text_in in
    let qn = c.text_in-2 in
    let wn = c.write_name in
    let pk = c.picks-selecting in
    let pm = c.selections_past in
    selections-refused a.n a.spot a.scopes a.es a.rec.now a.defs.now a.reports.now a.paths.now a.names.now ti.result.now ti.ensures op.result op.new.area op.ensures pa.result pa.ensures
    c.if-scopes_past.false pu.result pu.ensures sp.result.now qn.result.now sp.ensures qn.ensures wn.new.names wn.ensures pk.result pk.new.area pk.ensures pm.result pm.ensures
    c.if-selections_past.true

pub returns-then-past : goal.returns-then-past
returns-then-past c =
    let a = c.args in
    let ti = c.text_in-numbers in
    let op = c.opens-reading in
    let pa = c.scopes_past in
    let pu = c.push_scopes-then in
    let sp = c.text_in in
    let qn = c.text_in-2 in
    let wn = c.write_name in
    let pk = c.picks-selecting in
    let pm = c.selections_past in
    let cl = c.clipped in
    let te = c.tells-failing in
    let pf = c.past in
    reports-refused a.n a.spot a.scopes a.es a.rec.now a.defs.now a.reports.now a.paths.now a.names.now ti.result.now ti.ensures op.result op.new.area op.ensures pa.result pa.ensures
    c.if-scopes_past.false pu.result pu.ensures sp.result.now qn.result.now sp.ensures qn.ensures wn.new.names wn.ensures pk.result pk.new.area pk.ensures pm.result pm.ensures
    c.if-selections_past.false cl.result.now cl.ensures te.result te.ensures pf.result (rw (sym c.from-more.ensures) pf.ensures)
    c.if-past.true

pub returns : goal.returns
returns c =
    let a = c.args in
    let ti = c.text_in-numbers in
    let op = c.opens-reading in
    let pa = c.scopes_past in
    let pu = c.push_scopes-then in
    let sp = c.text_in in
    let qn = c.text_in-2 in
    let wn = c.write_name in
    let pk = c.picks-selecting in
    let pm = c.selections_past in
    let cl = c.clipped in
    let te = c.tells-failing in
    let pf = c.past in
    planned a.n a.spot a.scopes a.es a.rec.now a.defs.now a.reports.now a.paths.now a.names.now ti.result.now ti.ensures op.result op.new.area op.ensures pa.result pa.ensures
    c.if-scopes_past.false pu.result pu.ensures sp.result.now qn.result.now sp.ensures qn.ensures wn.new.names wn.ensures pk.result pk.new.area pk.ensures pm.result pm.ensures
    c.if-selections_past.false cl.result.now cl.ensures te.result te.ensures pf.result (rw (sym c.from-more.ensures) pf.ensures)
    c.if-past.false
