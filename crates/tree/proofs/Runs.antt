-- The counts of the closed scopes of Runs, computed.
-- Assumes nothing.
use Rattle.std.specs.Prelude.{◌≡◌, refl}
use Rattle.tree.specs.Events.{unique, key}
use Rattle.tree.specs.Runs.{everything, child_r, counts, whole, whole-scope, unique-scope, several, second-scope, third-scope, deeply, deep-scope, two_routes, by_two, two-routes-scope, child_n, all_kinds, all-kinds-scope, all-kinds-unique}

whole-counts : counts key child_r 1 whole whole-scope ≡ (3, 1, 2)
unfolding counts whole-scope
whole-counts = refl

unique-counts : counts unique child_r 1 whole unique-scope ≡ (2, 1, 1)
unfolding counts unique-scope
unique-counts = refl

second-counts : counts key child_r 2 several second-scope ≡ (5, 2, 3)
unfolding counts second-scope
second-counts = refl

third-counts : counts unique child_r 3 several third-scope ≡ (4, 2, 2)
unfolding counts third-scope
third-counts = refl

deep-counts : counts unique everything 1 deeply deep-scope ≡ (4, 2, 2)
unfolding counts deep-scope
deep-counts = refl

two-routes-counts : counts key two_routes 1 by_two two-routes-scope ≡ (3, 2, 1)
unfolding counts two-routes-scope
two-routes-counts = refl

all-kinds-counts : counts key child_n 1 all_kinds all-kinds-scope ≡ (8, 2, 6)
unfolding counts all-kinds-scope
all-kinds-counts = refl

all-kinds-unique-counts : counts unique child_n 1 all_kinds all-kinds-unique ≡ (7, 2, 5)
unfolding counts all-kinds-unique
all-kinds-unique-counts = refl
