-- THE THREE COUNTS of a constraint, by its number: selections finished in a tree, and the TUs and reports that bear the number.
-- Assumes nothing.
use Rattle.std.specs.Prelude.{ℕ, eqb, length, Bool, false, List, [], map}
use Rattle.lists.specs.Lists.{passing}
use Rattle.tree.specs.Events.{Event, es, ee}
use Rattle.tree.specs.Tree.{Item, failed, finished}
use Rattle.tree.specs.Judge.{Tuple, Report}
use Rattle.machine.specs.Machine.{State}

-- ---- of a tree

-- whether this is a selection of constraint k that finishes
unfoldable pub finished_for : (k : ℕ) → Item → Bool
finished_for k (failed e c t) = false
finished_for k (finished e s cs) = eqb s.constraint.number k

-- REACHED: every finished selection, whatever its cells say
unfoldable pub reached : (k : ℕ) → List Item → ℕ
reached k is = length (passing (finished_for k) is)

-- TUPLES, and REPORTS of every kind
unfoldable pub tuples_of : (k : ℕ) → List Tuple → ℕ
tuples_of k ts = length (passing (λ t. eqb t.constraint.number k) ts)

unfoldable pub reports_of : (k : ℕ) → List Report → ℕ
reports_of k rs = length (passing (λ r. eqb r.constraint k) rs)

-- ---- of one event

-- how often a number stands in a list
unfoldable pub times : (n : ℕ) → List ℕ → ℕ
times n ns = length (passing (λ m. eqb m n) ns)

-- the constraints, by number, of the selections that an event finishes: those of the element that ends
unfoldable pub finishing : State → Event → List ℕ
finishing st (es s) = []
finishing st (ee e) = map (λ x. x.scope.constraint.number) (passing (λ x. eqb x.depth (length st.names)) st.selections)
