-- Computed: scopes, duplicates, constraints that do not read, keyrefs, what is open and the counts of closed scopes, each from a document to
-- what the tree definition makes of it. A report is written (kind, constraint, field, scope, event, tuple), a tuple `tu constraint scope keys`.
-- Assumes nothing.
use Prim.Native.String.{String}
use Rattle.std.specs.Prelude.{ℕ, length, replicate, ◌≡◌, refl, true, false, List, [], ◌∷◌, ◌++◌, map}
use Rattle.std.proofs.Math.Option.{none, some}
use Rattle.texts.specs.Texts.{same}
use Rattle.paths.specs.Matching.{StepPath, FieldAlt}
use Rattle.paths.specs.Examples.{codes}
use Rattle.tree.specs.Events.{Event, Kind, unique, key, keyref, Constraint, Scope, reads}
use Rattle.tree.specs.Tree.{Forest}
use Rattle.tree.specs.Judge.{several_nodes, no_simple_value, missing, on_nillable, complete, named}
use Rattle.tree.specs.Build.{tree}
use Rattle.tree.specs.Counts.{chosen, selected_by, drops, first, allowed, complete_in, tuples_in, has, nub, second, bears, reports_against, here, under, later, unique-keyed, key-keyed, ClosedScope, selection, numbers_of, scope_numbers, counting_from}
use Rattle.tree.specs.Open.{while_open, open_elements, open_scopes, is_selected, open_selections}
use Rattle.tree.specs.Examples.{Id, id, at, start, close, el, bare, leaf, text, nillable_text, Rp, Tu, tu, judged, sofar, out, nothing}

-- the key of "One run, whole", and the unique of the same paths
abbrev key_r : Id
key_r = id key "k" none "r" ("@id" ∷ [])

abbrev unique_r : Id
unique_r = id unique "u" none "r" ("@id" ∷ [])

-- ---- which elements a scope selects

-- in its subtree, by the names below its own element
selecting : String → List Rp × List Tu
unfolding out
selecting s = out (id unique "u" none s ("@id" ∷ []) ∷ []) (el "t" (0 ∷ []) [] (leaf "r" "a" ++ el "s" [] [] (leaf "x:r" "b")))

children : map selecting ("r" ∷ "*" ∷ "r|s" ∷ "child::r" ∷ []) ≡ replicate 4 ([], tu 0 1 ("a" ∷ []) ∷ [])
unfolding selecting
children = refl

grandchildren : map selecting ("s/r" ∷ "*/r" ∷ "*/*" ∷ ".//s/r" ∷ []) ≡ replicate 4 ([], tu 0 1 ("b" ∷ []) ∷ [])
unfolding selecting
grandchildren = refl

-- each element once, also where several alternatives match it
all-of-them : map selecting (".//r" ∷ "r|s/r" ∷ "r|.//r|*" ∷ ".//*" ∷ ".//." ∷ []) ≡ replicate 5 ([], tu 0 1 ("a" ∷ []) ∷ tu 0 1 ("b" ∷ []) ∷ [])
unfolding selecting
all-of-them = refl

-- the scope's own name is not among the names
own_name : map selecting ("t" ∷ "t/r" ∷ ".//t/r" ∷ ".//t" ∷ "." ∷ []) ≡ replicate 5 nothing
unfolding selecting
own_name = refl

-- `.` and `.//.` select the scope's own element
own-element : map (λ (s : String). out (id key "k" none s ("@id" ∷ []) ∷ []) (el "t" (0 ∷ []) (("id", "a") ∷ []) [])) ("." ∷ ".//." ∷ "*" ∷ []) ≡ ([], tu 0 1 ("a" ∷ []) ∷ []) ∷ ([], tu 0 1 ("a" ∷ []) ∷ []) ∷ nothing ∷ []
unfolding out
own-element = refl

-- nothing beside the scope's element
subtree : out (id key "k" none ".//r" ("@id" ∷ []) ∷ []) (el "t" [] [] (leaf "r" "a" ++ el "s" (0 ∷ []) [] (leaf "r" "b") ++ leaf "r" "c")) ≡ ([], tu 0 1 ("b" ∷ []) ∷ [])
unfolding out
subtree = refl

-- one selected element in another: the inner one finishes first
inner_first : (out (id key "k" none ".//r" ("@id" ∷ []) ∷ []) (el "t" (0 ∷ []) [] (el "r" [] (("id", "a") ∷ []) (leaf "r" "b"))) ≡ ([], tu 0 1 ("b" ∷ []) ∷ tu 0 1 ("a" ∷ []) ∷ []))
    × (out (id key "k" none ".//r" ("@id" ∷ []) ∷ []) (el "t" (0 ∷ []) [] (el "r" [] (("id", "a") ∷ []) (leaf "r" "a"))) ≡ ((4, 0, 0, 1, 6, 1) ∷ [], tu 0 1 ("a" ∷ []) ∷ []))
unfolding out
inner_first = (refl, refl)

-- ---- duplicates

-- kind 4 with the number of the tuple that stands there, each time; unique and key alike
duplicates : map (λ (d : Id). out (d ∷ []) (el "t" (0 ∷ []) [] (leaf "r" "a" ++ leaf "r" "b" ++ leaf "r" "a" ++ leaf "r" "b" ++ leaf "r" "a"))) (key_r ∷ unique_r ∷ [])
    ≡ replicate 2 ((4, 0, 0, 1, 8, 1) ∷ (4, 0, 0, 1, 10, 2) ∷ (4, 0, 0, 1, 12, 1) ∷ [], tu 0 1 ("a" ∷ []) ∷ tu 0 1 ("b" ∷ []) ∷ [])
unfolding out
duplicates = refl

-- no voucher twice, no report
all-different : out (key_r ∷ []) (el "t" (0 ∷ []) [] (leaf "r" "a" ++ leaf "r" "b" ++ leaf "r" "ab" ++ leaf "r" "" ++ leaf "r" "A"))
    ≡ ([], tu 0 1 ("a" ∷ []) ∷ tu 0 1 ("b" ∷ []) ∷ tu 0 1 ("ab" ∷ []) ∷ tu 0 1 ("" ∷ []) ∷ tu 0 1 ("A" ∷ []) ∷ [])
unfolding out
all-different = refl

-- the empty key twice
empty-twice : out (key_r ∷ []) (el "t" (0 ∷ []) [] (leaf "r" "" ++ leaf "r" "")) ≡ ((4, 0, 0, 1, 6, 1) ∷ [], tu 0 1 ("" ∷ []) ∷ [])
unfolding out
empty-twice = refl

-- two fields: the tuples differ where some text does
pair : String → String → List Event
unfolding el
pair a b = el "r" [] (("a", a) ∷ ("b", b) ∷ []) []

two_fields : out (id key "k" none "r" ("@a" ∷ "@b" ∷ []) ∷ []) (el "t" (0 ∷ []) [] (pair "x" "y" ++ pair "y" "x" ++ pair "x" "x" ++ pair "xy" "" ++ pair "" "xy" ++ pair "x" "y"))
    ≡ ((4, 0, 0, 1, 14, 1) ∷ [], tu 0 1 ("x" ∷ "y" ∷ []) ∷ tu 0 1 ("y" ∷ "x" ∷ []) ∷ tu 0 1 ("x" ∷ "x" ∷ []) ∷ tu 0 1 ("xy" ∷ "" ∷ []) ∷ tu 0 1 ("" ∷ "xy" ∷ []) ∷ [])
unfolding out pair
two_fields = refl

-- ---- several scopes

-- two scopes of one constraint, side by side: what stands in one is no duplicate in the other
siblings : out (key_r ∷ []) (el "t" [] [] (el "s" (0 ∷ []) [] (leaf "r" "a") ++ el "s" (0 ∷ []) [] (leaf "r" "a" ++ leaf "r" "a")))
    ≡ ((4, 0, 0, 2, 11, 2) ∷ [], tu 0 1 ("a" ∷ []) ∷ tu 0 2 ("a" ∷ []) ∷ [])
unfolding out
siblings = refl

-- one inside the other: an element in both is judged by each, the outer scope first
nested : out (id key "k" none ".//r" ("@id" ∷ []) ∷ []) (el "s" (0 ∷ []) [] (leaf "r" "a" ++ el "s" (0 ∷ []) [] (leaf "r" "a" ++ leaf "r" "a")))
    ≡ ((4, 0, 0, 1, 7, 1) ∷ (4, 0, 0, 1, 9, 1) ∷ (4, 0, 0, 2, 9, 2) ∷ [], tu 0 1 ("a" ∷ []) ∷ tu 0 2 ("a" ∷ []) ∷ [])
unfolding out
nested = refl

-- a number listed twice opens two scopes
listed-twice : out (key_r ∷ []) (el "t" (0 ∷ 0 ∷ []) [] (leaf "r" "a" ++ leaf "r" "a"))
    ≡ ((4, 0, 0, 1, 6, 1) ∷ (4, 0, 0, 2, 6, 2) ∷ [], tu 0 1 ("a" ∷ []) ∷ tu 0 2 ("a" ∷ []) ∷ [])
unfolding out
listed-twice = refl

-- scopes open in the listed order; reports and tuples of one event follow it
listed-order : (out (key_r ∷ unique_r ∷ []) (el "t" (1 ∷ 0 ∷ []) [] (leaf "r" "a")) ≡ ([], tu 1 1 ("a" ∷ []) ∷ tu 0 2 ("a" ∷ []) ∷ []))
    × (out (key_r ∷ key_r ∷ []) (el "t" (1 ∷ 0 ∷ []) [] (bare "r")) ≡ ((3, 1, 0, 1, 5, 0) ∷ (3, 0, 0, 2, 5, 0) ∷ [], []))
unfolding out
listed-order = (refl, refl)

-- at one end a kind 2, a kind 3, a tuple, a kind 1
one_end : out (id key "a" none "r" ("a" ∷ []) ∷ id key "b" none "r" ("b" ∷ []) ∷ key_r ∷ id key "d" none "r" ("a|@id" ∷ []) ∷ []) (el "t" (0 ∷ 1 ∷ 2 ∷ 3 ∷ []) [] (el "r" [] (("id", "x") ∷ []) (bare "a")))
    ≡ ((2, 0, 0, 1, 9, 0) ∷ (3, 1, 0, 2, 9, 0) ∷ (1, 3, 0, 4, 9, 0) ∷ [], tu 2 3 ("x" ∷ []) ∷ [])
unfolding out
one_end = refl

-- several roots: events and scopes are counted on
roots : out (key_r ∷ []) (el "s" (0 ∷ []) [] (leaf "r" "a") ++ el "s" (0 ∷ []) [] (leaf "r" "a" ++ bare "r"))
    ≡ ((3, 0, 0, 2, 10, 0) ∷ [], tu 0 1 ("a" ∷ []) ∷ tu 0 2 ("a" ∷ []) ∷ [])
unfolding out
roots = refl

-- an element that has not ended finishes nothing, and is no hit
unended : (sofar (key_r ∷ []) (start "t" (0 ∷ []) [] ∷ (leaf "r" "a" ++ (start "r" [] (("id", "a") ∷ []) ∷ []))) ≡ ([], tu 0 1 ("a" ∷ []) ∷ []))
    × (sofar (id key "k" none "." ("@id" ∷ []) ∷ []) (start "t" (0 ∷ []) [] ∷ []) ≡ nothing)
unfolding sofar
unended = (refl, refl)

-- an end where no element is open does nothing and is not counted
no-element-open : out (key_r ∷ []) (close ∷ (el "t" (0 ∷ []) [] (leaf "r" "a" ++ leaf "r" "a") ++ (close ∷ []))) ≡ ((4, 0, 0, 1, 6, 1) ∷ [], tu 0 1 ("a" ∷ []) ∷ [])
unfolding out
no-element-open = refl

-- no element at all
no-element : out (key_r ∷ id keyref "f" (some "k") "r" ("@id" ∷ []) ∷ []) [] ≡ nothing
unfolding out
no-element = refl

-- ---- paths that do not read

-- the selector, or any field
unread-paths : map (λ (p : String × List String). out (id key "k" none p.0 p.1 ∷ []) (el "t" (0 ∷ []) [] (leaf "r" "a" ++ leaf "r" "a"))) (
    ("a|", "@id" ∷ [])
    ∷ (".//", "@id" ∷ [])
    ∷ ("@id", "@id" ∷ [])
    ∷ ("r", "@" ∷ [])
    ∷ ("r", "@id" ∷ "a:" ∷ [])
    ∷ ("r", "/a" ∷ "@id" ∷ [])
    ∷ [])
    ≡ replicate 6 ((6, 0, 0, 0, 2, 0) ∷ [], [])
unfolding out
unread-paths = refl

-- of any kind of constraint
abbrev broken : String → Id
broken t = id unique t none "a|" ("@id" ∷ [])

-- once for a name, however often it is listed, inside and after
once : out (broken "k" ∷ []) (el "t" (0 ∷ 0 ∷ []) [] (el "s" (0 ∷ []) [] []) ++ el "t" (0 ∷ []) [] []) ≡ ((6, 0, 0, 0, 2, 0) ∷ [], [])
unfolding out
once = refl

-- two constraints of one name: the first listed; of two names: each, in the listed order
once-for-a-name : (out (broken "k" ∷ broken "k" ∷ []) (el "t" (1 ∷ 0 ∷ []) [] []) ≡ ((6, 1, 0, 0, 3, 0) ∷ [], []))
    × (out (broken "k" ∷ broken "l" ∷ []) (el "t" (1 ∷ 0 ∷ 1 ∷ []) [] []) ≡ ((6, 1, 0, 0, 3, 0) ∷ (6, 0, 0, 0, 3, 0) ∷ [], []))
    × (out (broken "k" ∷ broken "kk" ∷ []) (el "t" (0 ∷ []) [] (el "s" (1 ∷ []) [] [])) ≡ ((6, 0, 0, 0, 3, 0) ∷ (6, 1, 0, 0, 4, 0) ∷ [], []))
unfolding out
once-for-a-name = (refl, refl, refl)

-- one of the same name that reads is as it were; no scope number goes to one that does not
beside-one-that-reads : (out (broken "k" ∷ key_r ∷ []) (el "t" (0 ∷ 1 ∷ 0 ∷ []) [] (leaf "r" "a")) ≡ ((6, 0, 0, 0, 3, 0) ∷ [], tu 1 1 ("a" ∷ []) ∷ []))
    × (out (broken "k" ∷ key_r ∷ []) (el "t" (1 ∷ []) [] (leaf "r" "a" ++ el "s" (0 ∷ 1 ∷ []) [] (leaf "r" "b"))) ≡ ((6, 0, 0, 0, 6, 0) ∷ [], tu 1 1 ("a" ∷ []) ∷ tu 1 2 ("b" ∷ []) ∷ []))
unfolding out
beside-one-that-reads = (refl, refl)

-- kind 6 at the start, before what finishes at ends
start-before-end : out (id key "k" none "." ("@id" ∷ []) ∷ broken "b" ∷ []) (el "t" (0 ∷ []) [] (el "s" (1 ∷ []) [] [])) ≡ ((6, 1, 0, 0, 4, 0) ∷ (3, 0, 0, 1, 6, 0) ∷ [], [])
unfolding out
start-before-end = refl

-- ---- keyrefs

abbrev key_a : Id
key_a = id key "k" none "a" ("@id" ∷ [])

abbrev ref_b : Id
ref_b = id keyref "f" (some "k") "b" ("@id" ∷ [])

-- kind 5 with the keyref tuple's own number, constraint and scope; a key that comes later answers too
unresolved : out (key_a ∷ ref_b ∷ []) (el "t" (0 ∷ 1 ∷ []) [] (leaf "b" "x" ++ leaf "b" "y" ++ leaf "a" "y" ++ leaf "b" "y"))
    ≡ ((5, 1, 0, 2, 13, 1) ∷ [], tu 1 2 ("x" ∷ []) ∷ tu 1 2 ("y" ∷ []) ∷ tu 0 1 ("y" ∷ []) ∷ tu 1 2 ("y" ∷ []) ∷ [])
unfolding out
unresolved = refl

-- only at FI
before-FI : sofar (key_a ∷ ref_b ∷ []) (el "t" (0 ∷ 1 ∷ []) [] (leaf "b" "x")) ≡ ([], tu 1 2 ("x" ∷ []) ∷ [])
unfolding sofar
before-FI = refl

-- by a unique as by a key
by-unique : out (id unique "k" none "a" ("@id" ∷ []) ∷ ref_b ∷ []) (el "t" (0 ∷ 1 ∷ []) [] (leaf "a" "x" ++ leaf "b" "x")) ≡ ([], tu 0 1 ("x" ∷ []) ∷ tu 1 2 ("x" ∷ []) ∷ [])
unfolding out
by-unique = refl

-- not by a keyref of that name, and not by itself
not-by-keyref : out (id keyref "k" (some "k") "a" ("@id" ∷ []) ∷ ref_b ∷ []) (el "t" (0 ∷ 1 ∷ []) [] (leaf "a" "x" ++ leaf "b" "x"))
    ≡ ((5, 0, 0, 1, 9, 1) ∷ (5, 1, 0, 2, 9, 2) ∷ [], tu 0 1 ("x" ∷ []) ∷ tu 1 2 ("x" ∷ []) ∷ [])
unfolding out
not-by-keyref = refl

-- two constraints of the name that refer gives: both count
by-either-of-a-name : out (key_a ∷ id unique "k" none "c" ("@id" ∷ []) ∷ ref_b ∷ []) (el "t" (0 ∷ 1 ∷ 2 ∷ []) [] (leaf "a" "x" ++ leaf "c" "y" ++ leaf "b" "x" ++ leaf "b" "y" ++ leaf "b" "z"))
    ≡ ((5, 2, 0, 3, 16, 5) ∷ [], tu 0 1 ("x" ∷ []) ∷ tu 1 2 ("y" ∷ []) ∷ tu 2 3 ("x" ∷ []) ∷ tu 2 3 ("y" ∷ []) ∷ tu 2 3 ("z" ∷ []) ∷ [])
unfolding out
by-either-of-a-name = refl

-- no constraint of that name, or another one: kind 5 for each tuple, repeats included, in order
refer-to-none : out (id key "kk" none "a" ("@id" ∷ []) ∷ ref_b ∷ []) (el "t" (0 ∷ 1 ∷ []) [] (leaf "b" "x" ++ leaf "a" "x" ++ leaf "b" "x" ++ leaf "b" "y"))
    ≡ ((5, 1, 0, 2, 13, 1) ∷ (5, 1, 0, 2, 13, 3) ∷ (5, 1, 0, 2, 13, 4) ∷ [], tu 1 2 ("x" ∷ []) ∷ tu 0 1 ("x" ∷ []) ∷ tu 1 2 ("x" ∷ []) ∷ tu 1 2 ("y" ∷ []) ∷ [])
unfolding out
refer-to-none = refl

-- a key that does not read, or whose scope never opened, has no tuple
refer-to-no-tuple : (out (id key "k" none "a|" ("@id" ∷ []) ∷ ref_b ∷ []) (el "t" (0 ∷ 1 ∷ []) [] (leaf "a" "x" ++ leaf "b" "x")) ≡ ((6, 0, 0, 0, 3, 0) ∷ (5, 1, 0, 1, 9, 1) ∷ [], tu 1 1 ("x" ∷ []) ∷ []))
    × (out (key_a ∷ ref_b ∷ []) (el "t" (1 ∷ []) [] (leaf "a" "x" ++ leaf "b" "x")) ≡ ((5, 1, 0, 1, 9, 1) ∷ [], tu 1 1 ("x" ∷ []) ∷ []))
unfolding out
refer-to-no-tuple = (refl, refl)

-- a keyref without refer adds nothing; refer on a key or unique is not asked; an empty refer names the empty name
refer-present : (out (key_a ∷ id keyref "f" none "b" ("@id" ∷ []) ∷ []) (el "t" (0 ∷ 1 ∷ []) [] (leaf "b" "x" ++ leaf "a" "y")) ≡ ([], tu 0 1 ("y" ∷ []) ∷ []))
    × (out (id key "k" (some "z") "a" ("@id" ∷ []) ∷ id unique "u" (some "z") "a" ("@id" ∷ []) ∷ []) (el "t" (0 ∷ 1 ∷ []) [] (leaf "a" "x")) ≡ ([], tu 0 1 ("x" ∷ []) ∷ tu 1 2 ("x" ∷ []) ∷ []))
    × (out (id key "" none "a" ("@id" ∷ []) ∷ id keyref "f" (some "") "b" ("@id" ∷ []) ∷ []) (el "t" (0 ∷ 1 ∷ []) [] (leaf "a" "x" ++ leaf "b" "x")) ≡ ([], tu 0 1 ("x" ∷ []) ∷ tu 1 2 ("x" ∷ []) ∷ []))
unfolding out
refer-present = (refl, refl, refl)

no-refer-names-none : (named none (codes "k") ≡ false) × (named (some (codes "k")) (codes "k") ≡ true)
unfolding named codes same
no-refer-names-none = (refl, refl)

-- the whole document is looked over: another scope's key answers, one of a later root too
other-scope : out (key_a ∷ ref_b ∷ []) (el "t" [] [] (el "s" (0 ∷ []) [] (leaf "a" "x") ++ el "s" (1 ∷ []) [] (leaf "b" "x" ++ leaf "b" "y")) ++ el "t" (0 ∷ []) [] (leaf "a" "y"))
    ≡ ([], tu 0 1 ("x" ∷ []) ∷ tu 1 2 ("x" ∷ []) ∷ tu 1 2 ("y" ∷ []) ∷ tu 0 3 ("y" ∷ []) ∷ [])
unfolding out
other-scope = refl

-- the same texts in field order, as many of them
same-texts : out (id key "k" none "r" ("@a" ∷ "@b" ∷ []) ∷ id keyref "f" (some "k") "r" ("@b" ∷ "@a" ∷ []) ∷ []) (el "t" (0 ∷ 1 ∷ []) [] (pair "x" "y" ++ pair "z" "z"))
    ≡ ((5, 1, 0, 2, 9, 2) ∷ [], tu 0 1 ("x" ∷ "y" ∷ []) ∷ tu 1 2 ("y" ∷ "x" ∷ []) ∷ tu 0 1 ("z" ∷ "z" ∷ []) ∷ tu 1 2 ("z" ∷ "z" ∷ []) ∷ [])
unfolding out pair
same-texts = refl

fewer-texts : out (id key "k" none "r" ("@a" ∷ []) ∷ id keyref "f" (some "k") "r" ("@a" ∷ "@b" ∷ []) ∷ []) (el "t" (0 ∷ 1 ∷ []) [] (pair "x" "y"))
    ≡ ((5, 1, 0, 2, 7, 2) ∷ [], tu 0 1 ("x" ∷ []) ∷ tu 1 2 ("x" ∷ "y" ∷ []) ∷ [])
unfolding out pair
fewer-texts = refl

-- after all other reports
last-of-all : out (key_a ∷ ref_b ∷ []) (el "t" (1 ∷ 0 ∷ []) [] (leaf "b" "x" ++ bare "a" ++ leaf "b" "y" ++ leaf "a" "z" ++ leaf "a" "z"))
    ≡ ((3, 0, 0, 2, 7, 0) ∷ (4, 0, 0, 2, 13, 3) ∷ (5, 1, 0, 1, 15, 1) ∷ (5, 1, 0, 1, 15, 2) ∷ [], tu 1 1 ("x" ∷ []) ∷ tu 1 1 ("y" ∷ []) ∷ tu 0 2 ("z" ∷ []) ∷ [])
unfolding out
last-of-all = refl

-- ---- the scope numbers of a tree, in document order

numbered : List Id → List Event → List ℕ
unfolding judged scope_numbers numbers_of
numbered ds xs = scope_numbers (tree (at ds 0) (length ds) xs)

-- 1, 2, 3 .., whatever is nested and wherever a listed constraint does not read
counted-from-one : numbered (key_r ∷ unique_r ∷ broken "b" ∷ []) (el "t" (0 ∷ 1 ∷ []) [] (el "s" (2 ∷ 0 ∷ 0 ∷ []) [] (bare "r") ++ el "s" (1 ∷ []) [] []) ++ el "t" (2 ∷ 0 ∷ []) [] []) ≡ 1 ∷ 2 ∷ 3 ∷ 4 ∷ 5 ∷ 6 ∷ []
unfolding numbered
counted-from-one = refl

counting : (counting_from 0 6 ≡ 1 ∷ 2 ∷ 3 ∷ 4 ∷ 5 ∷ 6 ∷ []) × (counting_from 4 2 ≡ 5 ∷ 6 ∷ []) × (counting_from 4 0 ≡ [])
unfolding counting_from
counting = (refl, refl, refl)

-- ---- what is open: elements, scopes, selections

opens : List Id → List Event → ℕ × ℕ × ℕ
unfolding judged while_open open_elements open_scopes is_selected open_selections
opens ds xs = let t = tree (at ds 0) (length ds) xs in (open_elements t, open_scopes t, open_selections [] t)

-- t, and in it an r that both scopes of t have selected; what has ended is not counted, nor an r inside an ended element
open-in-two : opens (key_r ∷ []) (start "t" (0 ∷ 0 ∷ []) [] ∷ (leaf "r" "a" ++ el "s" (0 ∷ []) [] (bare "r") ++ (start "r" (0 ∷ []) [] ∷ []))) ≡ (2, 3, 2)
unfolding opens
open-in-two = refl

-- a scope may select its own element, and every one below
open-all : map (λ (s : String). opens (id key "k" none s ("@id" ∷ []) ∷ []) (start "t" (0 ∷ []) [] ∷ start "a" [] [] ∷ start "b" [] [] ∷ [])) ("." ∷ ".//." ∷ "a" ∷ ".//b|a" ∷ "c" ∷ [])
    ≡ (3, 1, 1) ∷ (3, 1, 3) ∷ (3, 1, 1) ∷ (3, 1, 2) ∷ (3, 1, 0) ∷ []
unfolding opens
open-all = refl

-- paths that do not read open no scope; after the roots nothing is open; a root after another
open_none : (opens (broken "k" ∷ []) (start "t" (0 ∷ []) [] ∷ []) ≡ (1, 0, 0))
    × (opens (key_r ∷ []) (el "t" (0 ∷ []) [] (leaf "r" "a")) ≡ (0, 0, 0))
    × (opens (key_r ∷ []) (el "t" (0 ∷ []) [] (leaf "r" "a") ++ (start "t" (0 ∷ []) [] ∷ start "r" [] [] ∷ [])) ≡ (2, 1, 1))
    × (opens (key_r ∷ []) [] ≡ (0, 0, 0))
unfolding opens
open_none = (refl, refl, refl, refl)

-- ---- closed scopes and their counts

-- a selector and a field, each as it is written and as it is read
abbrev pub Paths : Type 0
Paths = String × StepPath × String × List FieldAlt

abbrev child : String → StepPath
child t = record { descendant = false; steps = record { ns = none; local = some (codes t) } ∷ [] }

abbrev id_of : StepPath → FieldAlt
id_of p = record { path = p; attr = some (some (codes "id")) }

abbrev itself : StepPath
itself = record { descendant = false; steps = [] }

abbrev pub child_r : Paths
child_r = ("r", child "r", "@id", id_of itself ∷ [])

abbrev pub everything : Paths
everything = (".//.", record { descendant = true; steps = [] }, "@id|a/@id", id_of itself ∷ id_of (child "a") ∷ [])

-- the constraint with these paths
abbrev of_kind : Kind → Paths → Constraint
of_kind k s = record { number = 0; name = codes "k"; kind = k; refer = none; selector = s.1 ∷ []; fields = s.3 ∷ [] }

abbrev written : Kind → Paths → Id
written k s = id k "k" none s.0 (s.2 ∷ [])

as_read : (written key child_r 0 ≡ reads (of_kind key child_r)) × (written unique everything 0 ≡ reads (of_kind unique everything))
unfolding id
as_read = (refl, refl)

unfoldable pub tree_of : Kind → Paths → List Event → Forest
unfolding judged
tree_of k s xs = tree (at (written k s ∷ []) 0) 1 xs

abbrev pub scope : Kind → Paths → ℕ → Scope
scope k s n = record { number = n; constraint = of_kind k s }

-- the first count, the second count, and the reports against the scope
unfoldable pub counts : (k : Kind) (s : Paths) (n : ℕ) (xs : List Event) → ClosedScope (tree_of k s xs) (scope k s n) → ℕ × ℕ × ℕ
unfolding tree_of judged selection selected_by chosen drops first allowed complete_in tuples_in has nub second bears reports_against
counts k s n xs w =
    let css = selection (tree_of k s xs) (scope k s n) w in (first k css, second k css, reports_against n (judged (written k s ∷ []) xs).reports)

-- document 01, "One run, whole": 3 selected, 1 tuple, 2 reports
abbrev pub whole : List Event
whole = el "t" (0 ∷ []) [] (leaf "r" "a" ++ leaf "r" "a" ++ bare "r")

unfoldable pub whole-scope : ClosedScope (tree_of key child_r whole) (scope key child_r 1)
unfolding tree_of
whole-scope = record { element = _; kids = _; end = _; found = here; opens = record { before = []; behind = []; split = refl }; keyed = key-keyed }

-- the same as a unique: the last selection is dropped, and 2 = 1 + 1
unfoldable pub unique-scope : ClosedScope (tree_of unique child_r whole) (scope unique child_r 1)
unfolding tree_of
unique-scope = record { element = _; kids = _; end = _; found = here; opens = record { before = []; behind = []; split = refl }; keyed = unique-keyed }

-- the second scope, inside a second root: a tuple, a field with two hits, another tuple, a duplicate, a missing field.
-- What the scopes before and behind it select and report is not counted.
abbrev pub several : List Event
several =
    el "t" (0 ∷ []) [] (leaf "r" "a" ++ leaf "r" "a")
    ++ el "t" [] [] (bare "u" ++ el "s" (0 ∷ 0 ∷ []) [] (leaf "r" "a" ++ el "r" [] (("id", "a") ∷ ("x:id", "b") ∷ []) [] ++ leaf "r" "b" ++ leaf "r" "a" ++ bare "r" ++ el "s" [] [] (leaf "r" "a")))

unfoldable pub second-scope : ClosedScope (tree_of key child_r several) (scope key child_r 2)
unfolding tree_of
second-scope =
    record {
      element = _;
      kids = _;
      end = _;
      found = later (under (later here));
      opens = record { before = []; behind = scope key child_r 3 ∷ []; split = refl };
      keyed = key-keyed;
    }

unfoldable pub third-scope : ClosedScope (tree_of unique child_r several) (scope unique child_r 3)
unfolding tree_of
third-scope =
    record {
      element = _;
      kids = _;
      end = _;
      found = later (under (later here));
      opens = record { before = scope unique child_r 2 ∷ []; behind = []; split = refl };
      keyed = unique-keyed;
    }

-- everything is selected: a and the r that holds it, both with the key b, an r that is dropped, an r with the key a, and the
-- scope's own element, with the key a. 4 = 2 + 2.
abbrev pub deeply : List Event
deeply = el "t" (0 ∷ []) (("id", "a") ∷ []) (el "r" [] [] (leaf "a" "b") ++ bare "r" ++ leaf "r" "a")

unfoldable pub deep-scope : ClosedScope (tree_of unique everything deeply) (scope unique everything 1)
unfolding tree_of
deep-scope = record { element = _; kids = _; end = _; found = here; opens = record { before = []; behind = []; split = refl }; keyed = unique-keyed }

-- by two routes: `@id` and `.//@id` both reach the id of each r; the third r has a child with another. 3 = 2 + 1.
abbrev pub two_routes : Paths
two_routes = ("r", child "r", "@id|.//@id", id_of itself ∷ id_of (record { descendant = true; steps = [] }) ∷ [])

abbrev pub by_two : List Event
by_two = el "t" (0 ∷ []) [] (leaf "r" "a" ++ leaf "r" "b" ++ el "r" [] (("id", "c") ∷ []) (leaf "a" "d"))

unfoldable pub two-routes-scope : ClosedScope (tree_of key two_routes by_two) (scope key two_routes 1)
unfolding tree_of
two-routes-scope = record { element = _; kids = _; end = _; found = here; opens = record { before = []; behind = []; split = refl }; keyed = key-keyed }

-- every kind in one scope: n is a; two n; an n without simple value; no n; n is a again; n is b, and nillable; n is a, and nillable; n is b.
-- Of a key 8 = 2 + 6: the tuples a and b, and kinds 1, 2, 3, 4, 7 and 7, for the last b is a new one. Of a unique the fourth is dropped, and
-- 7 = 2 + 5: kinds 1, 2, 4, 4 and 4.
abbrev pub child_n : Paths
child_n = ("r", child "r", "n", record { path = child "n"; attr = none } ∷ [])

abbrev pub all_kinds : List Event
all_kinds =
    el "t" (0 ∷ []) []
    (el "r" [] [] (text "n" "a")
    ++ el "r" [] [] (text "n" "a" ++ nillable_text "n" "b")
    ++ el "r" [] [] (bare "n")
    ++ bare "r"
    ++ el "r" [] [] (text "n" "a")
    ++ el "r" [] [] (nillable_text "n" "b")
    ++ el "r" [] [] (nillable_text "n" "a")
    ++ el "r" [] [] (text "n" "b"))

all-kinds-reports : map (λ (k : Kind). out (written k child_n ∷ []) all_kinds) (key ∷ unique ∷ [])
    ≡ (
      (1, 0, 0, 1, 12, 0) ∷ (2, 0, 0, 1, 16, 0) ∷ (3, 0, 0, 1, 18, 0) ∷ (4, 0, 0, 1, 22, 1) ∷ (7, 0, 0, 1, 26, 0) ∷ (7, 0, 0, 1, 30, 0) ∷ [],
      tu 0 1 ("a" ∷ []) ∷ tu 0 1 ("b" ∷ []) ∷ [],
    )
    ∷ (
      (1, 0, 0, 1, 12, 0) ∷ (2, 0, 0, 1, 16, 0) ∷ (4, 0, 0, 1, 22, 1) ∷ (4, 0, 0, 1, 30, 1) ∷ (4, 0, 0, 1, 34, 2) ∷ [],
      tu 0 1 ("a" ∷ []) ∷ tu 0 1 ("b" ∷ []) ∷ [],
    )
    ∷ []
unfolding out
all-kinds-reports = refl

unfoldable pub all-kinds-scope : ClosedScope (tree_of key child_n all_kinds) (scope key child_n 1)
unfolding tree_of
all-kinds-scope = record { element = _; kids = _; end = _; found = here; opens = record { before = []; behind = []; split = refl }; keyed = key-keyed }

unfoldable pub all-kinds-unique : ClosedScope (tree_of unique child_n all_kinds) (scope unique child_n 1)
unfolding tree_of
all-kinds-unique = record { element = _; kids = _; end = _; found = here; opens = record { before = []; behind = []; split = refl }; keyed = unique-keyed }

-- a keyref drops what lacks a field, as a unique does, and no other selection
dropped : map (λ (k : Kind). map (drops k) (several_nodes ∷ no_simple_value ∷ missing 0 ∷ on_nillable 0 [] ∷ complete [] ∷ [])) (unique ∷ key ∷ keyref ∷ [])
    ≡ (false ∷ false ∷ true ∷ false ∷ false ∷ []) ∷ (false ∷ false ∷ false ∷ false ∷ false ∷ []) ∷ (false ∷ false ∷ true ∷ false ∷ false ∷ []) ∷ []
unfolding drops
dropped = refl
