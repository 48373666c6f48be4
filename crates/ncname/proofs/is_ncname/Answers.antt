-- `is_ncname` meets its contract: the first character begins a name, and all behind it are name characters.
-- Assumes nothing.
use mathlib.Core.Path.{refl, ◌∙◌}
use Rattle.std.proofs.Common.{rules, tests}
use Rattle.std.proofs.lemmas.Iterator.Consumers.{YieldsList-from_first}
use Rattle.std.proofs.lemmas.Iterator.Search.{all_from_yields_List}
use Rattle.characters.specs.Names.{name_char}
use Rattle.code_points.specs.declared.Points.{Points}
use Rattle.utf8.specs.Utf8.{decode}
use Rattle.ncname.proofs.Names.{empty-text, first-no, first-goes-on}
use Rattle.ncname.proofs.is_ncname.Goals as goal

pub returns-in_default : goal.returns-in_default
returns-in_default c = empty-text c.args.s.now c.is_utf8.result c.is_utf8.ensures c.if-not-is_utf8.false c.in_default.ensures.steps.0

pub returns-then-name_start : goal.returns-then-name_start
returns-then-name_start c =
    let rest = c.next.new.self in
    all_from_yields_List name_char c.all.new.self _ c.all.result c.all.ensures.ran (YieldsList-from_first (λ x. x) (λ (p : Points). decode p.0.now) (decode rest.0.now) refl) (λ x b q k. search (rules, tests))
    ∙ first-goes-on c.args.s.now c.is_utf8.result c.is_utf8.ensures c.if-not-is_utf8.false c.in-Some.first (decode rest.0.now) c.in-Some.ensures.steps c.if-name_start.ensures

pub returns-else-name_start : goal.returns-else-name_start
returns-else-name_start c =
    c.if-name_start.false
    ∙ first-no c.args.s.now c.is_utf8.result c.is_utf8.ensures c.if-not-is_utf8.false c.in-Some.first (decode c.next.new.self.0.now) c.in-Some.ensures.steps c.if-name_start.ensures
