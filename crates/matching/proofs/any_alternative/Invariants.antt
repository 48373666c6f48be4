-- `any_alternative` meets its contract. The loop's invariant: one of the alternatives that are left passes the test exactly if one of
-- all does.
-- Assumes nothing.
use Prim.Native.Nat.{◌-◌}
use mathlib.Core.Path.{◌≡◌}
use mathlib.Core.Bool.{Bool}
use mathlib.Core.Option.{Option}
use Rattle.texts.specs.Texts.{Text}
use Rattle.bindings.specs.Bindings.{bound_by}
use Rattle.matching.specs.declared.Alt.{Alt}
use Rattle.matching.specs.Matched.{names_along}
use Rattle.matching.specs.Walks.{attribute_of, some_seen}
use Rattle.matching.proofs.Paths.{some_left}
use Rattle.matching.proofs.any_alternative.Given as goal

abbrev pub invariant-loop-i : goal.invariant-loop-i
invariant-loop-i g l =
    (t : Bool → Option (Option Text) → Bool) → ((a : Alt) (r : Bool) → goal.F-post g l.test a r → r ≡ t a.matched (attribute_of a.attribute))
    → some_left t (bound_by l.b) (names_along l.on) (l.count - l._i) l.rest ≡ some_seen t (bound_by l.b) (names_along l.on) l.area
