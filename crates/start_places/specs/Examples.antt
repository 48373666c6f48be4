-- Computed: sets of places, and what each function promises of a small store.
-- Assumes nothing.
use Rattle.std.specs.Prelude.{ℕ, zero, suc, ◌≤◌, length, replicate, ◌≡◌, count_ones, refl, Bool, true, false, List, [], ◌∷◌, ◌++◌, map}
use Rattle.std.proofs.Common.{arith, sym, ◌∙◌}
use Rattle.std.proofs.Math.Option.{Option, none, some}
use Rattle.lists.specs.Lists.{only_if}
use Rattle.paths.specs.Names.{Name}
use Rattle.paths.specs.Examples.{codes}
use Rattle.tree.specs.Cells.{Unset}
use Rattle.tree.specs.Events.{Constraint}
use Rattle.tree.specs.Judge.{kind_six}
use Rattle.machine.specs.Machine.{OpenScope}
use Rattle.records.specs.Readers.{Bytes}
use Rattle.session_spec.specs.Definitions.{Definitions, no_definitions, constraint_at}
use Rattle.session_spec.specs.Layout.{put_name, put_rp}
use Rattle.session_spec.specs.Computed.{id, definitions_in, called}
use Rattle.session_laws.proofs.Constraints.{ConstraintFit}
use Rattle.output_stores.specs.Stores.{in_mask}
use Rattle.open_scopes.specs.OpenScopes.{blank_scope, open_of, records_of}
use Rattle.open_scopes.specs.declared.Scopes.{Scopes}
use Rattle.open_scopes.specs.declared.Scope as declared
use Rattle.plans.specs.Plans.{six_from}
use Rattle.start_places.specs.StartPass.{marked, Places, Listed, Reading, Opens, Tells, numbered, Picks, blank_on}
use Rattle.start_places.specs.Turns.{OpensOne, NamedAs, TellsOne, SaidAfter, PicksOne}

-- ---- sets of places

-- the places 0 and 2
by_place : marked {A = ℕ} 5 0 (7 ∷ 8 ∷ 9 ∷ 7 ∷ []) ≡ 7 ∷ 9 ∷ []
unfolding marked in_mask only_if
by_place = refl

-- counted from 1
from_one : marked {A = ℕ} 5 1 (7 ∷ 8 ∷ 9 ∷ 7 ∷ []) ≡ 8 ∷ []
unfolding marked in_mask only_if
from_one = refl

-- how many, of any set that holds the first and the last place alone
places_count : (mask : ℕ) → Places {A = ℕ} (7 ∷ 8 ∷ 9 ∷ []) mask → in_mask mask 0 ≡ true → in_mask mask 1 ≡ false → in_mask mask 2 ≡ true → count_ones mask ≡ 2
unfolding marked only_if
places_count mask p a b c = p.counted ∙ rw (a, b, c) refl

-- of those that are counted from 0
from_zero : (mask : ℕ) → Places {A = ℕ} (7 ∷ 8 ∷ 9 ∷ []) mask → count_ones mask ≡ length (marked {A = ℕ} mask 0 (7 ∷ 8 ∷ 9 ∷ []))
from_zero mask p = p.counted

-- none past the end
places-past : (mask : ℕ) → Places {A = ℕ} (7 ∷ 8 ∷ 9 ∷ []) mask → in_mask mask 3 ≡ false
places-past mask p = p.past 3 (omega arith)

-- ---- a store of four constraints: the first reads; two of one name and one of another do not, by selector or by field

abbrev pub store : Bytes
store = id 1 "k" "r" ("@a" ∷ []) ++ (id 0 "u" "a|" ("." ∷ []) ++ (id 1 "u" "r" ("|" ∷ []) ++ id 1 "v" "a|" ("." ∷ [])))

unfoldable pub or_nothing : Option Definitions → Definitions
or_nothing none = no_definitions
or_nothing (some d) = d

unfoldable pub held : Definitions
unfolding definitions_in id or_nothing
held = or_nothing (definitions_in store)

-- ---- scopes

opens-mean : (before after : Bytes) (r : ℕ) → 1024 ≤ length before → Opens store (0 ∷ 1 ∷ 0 ∷ []) before r after
    → (in_mask r 0 ≡ true) × (in_mask r 1 ≡ false) × (in_mask r 2 ≡ true) × (in_mask r 3 ≡ false) × (count_ones r ≡ 2)
unfolding held called marked only_if
opens-mean before after r long o =
    let says = o.says long held refl (record { known = (omega arith, (omega arith, (omega arith, tt))); few = omega arith }) in
    let a : in_mask r 0 ≡ true = says 0 (omega arith) in
    let b : in_mask r 1 ≡ false = says 1 (omega arith) in
    let c : in_mask r 2 ≡ true = says 2 (omega arith) in
    (a, b, c, o.places.past 3 (omega arith), o.places.counted ∙ rw (a, b, c))

-- one that does not read
none-opens : (before after : Bytes) (r : ℕ) → 1024 ≤ length before → Opens store (1 ∷ []) before r after → in_mask r 0 ≡ false
unfolding held called
none-opens before after r long o = o.says long held refl (record { known = (omega arith, tt); few = omega arith }) 0 (omega arith)

abbrev named : ℕ → Constraint
named n = constraint_at held n

-- the scopes are numbered on
two-more : numbered 4 (named 0 ∷ named 3 ∷ []) ≡ record { number = 5; constraint = named 0 } ∷ record { number = 6; constraint = named 3 } ∷ []
unfolding numbered
two-more = refl

-- ---- kind 6

abbrev pub listed : List ℕ
listed = 1 ∷ 0 ∷ 2 ∷ 3 ∷ 1 ∷ []

unfoldable pub these-listed : Listed held listed
unfolding held called
these-listed = record { known = (omega arith, (omega arith, (omega arith, (omega arith, (omega arith, tt))))); few = omega arith }

pub one-reads : Reading held listed 2
unfolding held called in_mask
one-reads zero l = refl
one-reads (suc zero) l = refl
one-reads (suc (suc zero)) l = refl
one-reads (suc (suc (suc zero))) l = refl
one-reads (suc (suc (suc (suc zero)))) l = refl
one-reads (suc (suc (suc (suc (suc j))))) l = absurd (omega arith)

-- of one number alone
one-fails : Reading held (1 ∷ []) 0
unfolding held called in_mask
one-fails zero l = refl
one-fails (suc j) l = absurd (omega arith)

told-before : (r : ℕ) → Tells store (1 ∷ []) 0 (put_rp (kind_six 6 2)) r → map (λ i. kind_six 9 i) (marked r 0 (1 ∷ [])) ≡ []
unfolding held called six_from
told-before r t = sym (t.says held refl (record { known = (omega arith, tt); few = omega arith }) one-fails (kind_six 6 2 ∷ []) refl 9 4)

-- ---- selections

abbrev name : List ℕ → Name
name l = record { space = []; local = l }

-- `r` in `t`
abbrev path : List Name
path = name (codes "t") ∷ name (codes "r") ∷ []

abbrev area : Bytes
area = put_name (name (codes "t")) ++ put_name (name (codes "r"))

abbrev at_depth : (number depth : ℕ) → OpenScope
at_depth n d = record { scope = record { number = n; constraint = named 0 }; depth = d }

abbrev scope_at : (number depth : ℕ) → declared.Scope
scope_at n d = record { constraint = 0; number = n; depth = d }

abbrev scopes : Scopes
scopes = record { list = scope_at 1 1 ∷ scope_at 2 2 ∷ replicate 14 blank_scope; n = 2 }

abbrev fit : ConstraintFit held (named 0)
unfolding held called
fit = record { known = refl; defined = omega arith }

-- the scope of `t` selects its child `r`, that of `r` does not select `r`
picks-mean : (before after : Bytes) (r : ℕ) → 1024 ≤ length before → Picks store scopes area 2 before r after → (in_mask r 0 ≡ true) × (in_mask r 1 ≡ false)
unfolding held called records_of open_of
picks-mean before after r long p =
    let says = p.says long held refl path refl (at_depth 1 1 ∷ at_depth 2 2 ∷ []) refl (fit, (fit, tt)) in
    (says.0 0 (at_depth 1 1) refl, says.0 1 (at_depth 2 2) refl)

picks-count : (before after : Bytes) (r : ℕ) → 1024 ≤ length before → Picks store scopes area 2 before r after → count_ones r ≡ 1
unfolding held called marked only_if records_of open_of
picks-count before after r long p =
    let says = p.says long held refl path refl (at_depth 1 1 ∷ at_depth 2 2 ∷ []) refl (fit, (fit, tt)) in
    let a : in_mask r 0 ≡ true = says.0 0 (at_depth 1 1) refl in
    let b : in_mask r 1 ≡ false = says.0 1 (at_depth 2 2) refl in
    says.1.counted ∙ rw (a, b)

-- seen from above `t` the child `r` is not reached
from-above : (before after : Bytes) (r : ℕ) → 1024 ≤ length before
    → Picks store (record { list = scope_at 1 0 ∷ replicate 15 blank_scope; n = 1 }) area 2 before r after → in_mask r 0 ≡ false
unfolding held called records_of open_of
from-above before after r long p = (p.says long held refl path refl (at_depth 1 0 ∷ []) refl (fit, tt)).0 0 (at_depth 1 0) refl

-- the selection is of the innermost element, with a blank cell for each field
blank-one : blank_on path (at_depth 1 1) ≡ record { scope = record { number = 1; constraint = named 0 }; depth = 2; cells = Unset ∷ [] }
unfolding held called
blank-one = refl

-- ---- one listed constraint or one open scope

opens_one : (before after : Bytes) (r : Bool) → 1024 ≤ length before → OpensOne store 1 before r after → r ≡ false
unfolding held called
opens_one before after r long o = o.says long held refl (omega arith)

-- the third constraint bears the second one's name, and the first does not
names-one : (r : ℕ) → NamedAs store 1 r → (in_mask r 2 ≡ true) × (in_mask r 0 ≡ false)
unfolding held called
names-one r n = (n.bears held refl (omega arith) 2 (omega arith), n.bears held refl (omega arith) 0 (omega arith))

-- kind 6 is for a place that does not open, and not for one that does
tells-one : (r s : Bool) → TellsOne store 1 0 0 0 [] r → TellsOne store 1 0 1 0 [] s → (r ≡ true) × (s ≡ false)
unfolding held called in_mask
tells-one r s t u = (t.says held refl (omega arith) [] refl, u.says held refl (omega arith) [] refl)

-- its name is then told, and not where it is not for it
said-one : (r s : ℕ) → SaidAfter store 1 0 true r → SaidAfter store 1 0 false s → (in_mask r 2 ≡ true) × (in_mask s 2 ≡ false)
unfolding held called in_mask
said-one r s t u = (t.says held refl (omega arith) 2 (omega arith), u.says held refl (omega arith) 2 (omega arith))

picks-one : (before after : Bytes) (r : Bool) → 1024 ≤ length before → PicksOne store (scope_at 1 1) area 2 before r after → r ≡ true
unfolding held called
picks-one before after r long p = p.says long held refl (omega arith) path refl
