-- Computed: each kind of report, from the bytes of the records to the lines that icheck prints, and the same by the tree definition; the view of a
-- tuple's field; a refused call leaves the world.
-- Assumes nothing.
use Rattle.std.specs.Prelude.{ℕ, replicate, ◌≡◌, refl, List, [], ◌∷◌, ◌++◌, map}
use Rattle.texts.specs.Texts.{Text}
use Rattle.paths.specs.Examples.{codes}
use Rattle.records.specs.Readers.{Bytes}
use Rattle.records.specs.Refusals.{unfit, unbalanced}
use Rattle.session_spec.specs.Session.{World, refused, set_up}
use Rattle.session_spec.specs.Examples.{small}
use Rattle.session_spec.specs.Computed.{id, ref_to, es, ee, ee_with, ee_nillable, fi, lent, called, printed, tuples_left, viewed, grown_lines, tree_replies}

-- ---- each kind of report

-- a key on `r` with fields `a` and `@id`, a keyref to it on `s`, and a unique whose selector does not read
abbrev definitions : List Bytes
definitions = id 1 "k" "r" ("a" ∷ "@id" ∷ []) ∷ ref_to "f" "k" "s" ("a" ∷ "@id" ∷ []) ∷ id 0 "u" "a|" ("." ∷ []) ∷ []

-- `r` twice the field `a`; with an `a` that has no simple value; without id; whole; the same again; `s` with another id
abbrev kinds : List Bytes
kinds =
    definitions
    ++ (es "t" (2 ∷ 0 ∷ 1 ∷ []) []
    ∷ es "r" [] (("id", "1") ∷ []) ∷ es "a" [] [] ∷ ee_with "x" ∷ es "a" [] [] ∷ ee_with "y" ∷ ee
    ∷ es "r" [] (("id", "1") ∷ []) ∷ es "a" [] [] ∷ ee ∷ ee
    ∷ es "r" [] [] ∷ es "a" [] [] ∷ ee_with "x" ∷ ee
    ∷ es "r" [] (("id", "1") ∷ []) ∷ es "a" [] [] ∷ ee_with "x" ∷ ee
    ∷ es "r" [] (("id", "1") ∷ []) ∷ es "a" [] [] ∷ ee_with "x" ∷ ee
    ∷ es "s" [] (("id", "2") ∷ []) ∷ es "a" [] [] ∷ ee_with "x" ∷ ee
    ∷ ee
    ∷ fi
    ∷ [])

abbrev roomy : World
roomy = lent 256 256 256

abbrev kinds-lines : List (List ℕ)
kinds-lines =
    (4 ∷ 6 ∷ 2 ∷ 0 ∷ 0 ∷ 0 ∷ [])
    ∷ (10 ∷ 1 ∷ 0 ∷ 0 ∷ 1 ∷ 0 ∷ [])
    ∷ (14 ∷ 2 ∷ 0 ∷ 0 ∷ 1 ∷ 0 ∷ [])
    ∷ (18 ∷ 3 ∷ 0 ∷ 1 ∷ 1 ∷ 0 ∷ [])
    ∷ (26 ∷ 4 ∷ 0 ∷ 0 ∷ 1 ∷ 1 ∷ [])
    ∷ (32 ∷ 5 ∷ 1 ∷ 0 ∷ 2 ∷ 2 ∷ [])
    ∷ (32 ∷ 2 ∷ 6 ∷ [])
    ∷ []

each-kind : printed roomy kinds ≡ kinds-lines
unfolding printed
each-kind = refl

each-kind-tree : grown_lines roomy kinds ≡ kinds-lines
unfolding grown_lines
each-kind-tree = refl

abbrev kinds-tuples : List (ℕ × List Text)
kinds-tuples = (0, codes "x" ∷ codes "1" ∷ []) ∷ (1, codes "x" ∷ codes "2" ∷ []) ∷ []

each-kind-tuples : tuples_left roomy kinds ≡ kinds-tuples
unfolding tuples_left
each-kind-tuples = refl

each-kind-tree-replies : tree_replies roomy kinds ≡ replicate 32 0
unfolding tree_replies
each-kind-tree-replies = refl

-- without FI no kind 5, and nothing for what has not ended
abbrev cut-off : List Bytes
cut-off = ref_to "f" "k" "." ("@id" ∷ []) ∷ es "s" (0 ∷ []) (("id", "2") ∷ []) ∷ es "s" (0 ∷ []) (("id", "3") ∷ []) ∷ ee ∷ []

no_finish : printed roomy cut-off ≡ (4 ∷ 1 ∷ 0 ∷ []) ∷ []
unfolding printed
no_finish = refl

no-finish-tree : grown_lines roomy cut-off ≡ (4 ∷ 1 ∷ 0 ∷ []) ∷ []
unfolding grown_lines
no-finish-tree = refl

-- ---- one voucher found by two routes (request U5)

-- the field `number|.//number` on `v` with one child number; the same again; with two; with one below its child
abbrev by-two-routes : List Bytes
by-two-routes =
    id 1 "k" "v" ("number|.//number" ∷ [])
    ∷ es "t" (0 ∷ []) []
    ∷ es "v" [] [] ∷ es "number" [] [] ∷ ee_with "7" ∷ ee
    ∷ es "v" [] [] ∷ es "number" [] [] ∷ ee_with "7" ∷ ee
    ∷ es "v" [] [] ∷ es "number" [] [] ∷ ee_with "8" ∷ es "number" [] [] ∷ ee_with "8" ∷ ee
    ∷ es "v" [] [] ∷ es "h" [] [] ∷ es "number" [] [] ∷ ee_with "9" ∷ ee ∷ ee
    ∷ ee
    ∷ fi
    ∷ []

abbrev by-two-lines : List (List ℕ)
by-two-lines = (10 ∷ 4 ∷ 0 ∷ 0 ∷ 1 ∷ 1 ∷ []) ∷ (16 ∷ 1 ∷ 0 ∷ 0 ∷ 1 ∷ 0 ∷ []) ∷ (24 ∷ 2 ∷ 2 ∷ []) ∷ []

one-voucher : printed roomy by-two-routes ≡ by-two-lines
unfolding printed
one-voucher = refl

one-voucher-tree : grown_lines roomy by-two-routes ≡ by-two-lines
unfolding grown_lines
one-voucher-tree = refl

one-voucher-tuples : tuples_left roomy by-two-routes ≡ (0, codes "7" ∷ []) ∷ (0, codes "9" ∷ []) ∷ []
unfolding tuples_left
one-voucher-tuples = refl

-- ---- nillable key fields (request U9)

-- a key and a unique of the same paths: `v` with a nillable number; with the same that is not; with a nillable one and no id
abbrev nillables : List Bytes
nillables =
    id 1 "k" "v" ("@id" ∷ "n" ∷ [])
    ∷ id 0 "u" "v" ("@id" ∷ "n" ∷ [])
    ∷ es "t" (0 ∷ 1 ∷ []) []
    ∷ es "v" [] (("id", "1") ∷ []) ∷ es "n" [] [] ∷ ee_nillable "7" ∷ ee
    ∷ es "v" [] (("id", "1") ∷ []) ∷ es "n" [] [] ∷ ee_with "7" ∷ ee
    ∷ es "v" [] [] ∷ es "n" [] [] ∷ ee_nillable "7" ∷ ee
    ∷ ee
    ∷ fi
    ∷ []

abbrev nillable-lines : List (List ℕ)
nillable-lines = (7 ∷ 7 ∷ 0 ∷ 1 ∷ 1 ∷ 0 ∷ []) ∷ (11 ∷ 4 ∷ 1 ∷ 0 ∷ 2 ∷ 1 ∷ []) ∷ (15 ∷ 3 ∷ 0 ∷ 0 ∷ 1 ∷ 0 ∷ []) ∷ (17 ∷ 2 ∷ 3 ∷ []) ∷ []

each-nillable : printed roomy nillables ≡ nillable-lines
unfolding printed
each-nillable = refl

each-nillable-tree : grown_lines roomy nillables ≡ nillable-lines
unfolding grown_lines
each-nillable-tree = refl

-- of the unique the first, of the key the second
each-nillable-tuples : tuples_left roomy nillables ≡ (1, codes "1" ∷ codes "7" ∷ []) ∷ (0, codes "1" ∷ codes "7" ∷ []) ∷ []
unfolding tuples_left
each-nillable-tuples = refl

-- ---- the view of a tuple's field: fields 0, 1 and 2 of TU 1, of TU 2, and of the numbers 0 and 3

abbrev two-tuples : List Bytes
two-tuples = id 0 "" "r" ("@a" ∷ "@b" ∷ []) ∷ es "t" (0 ∷ []) [] ∷ es "r" [] (("b", "x") ∷ ("a", "yz") ∷ []) ∷ ee ∷ es "r" [] (("a", "") ∷ ("b", "x") ∷ []) ∷ ee ∷ []

views : map (λ (q : ℕ × ℕ). viewed roomy two-tuples q.0 q.1) ((1, 0) ∷ (1, 1) ∷ (1, 2) ∷ (2, 0) ∷ (2, 1) ∷ (2, 9) ∷ (0, 0) ∷ (3, 0) ∷ (3, 1) ∷ [])
    ≡ codes "yz" ∷ codes "x" ∷ [] ∷ [] ∷ codes "x" ∷ [] ∷ [] ∷ [] ∷ [] ∷ []
unfolding viewed
views = refl

-- ---- a refused call leaves the world

-- for 10, in a world of no length
left-by-10 : called (set_up [] [] [] [] [] [] 0) fi ≡ (refused unfit, set_up [] [] [] [] [] [] 0)
unfolding called
left-by-10 = refl

-- for 13, in one of full length
left-by-13 : called small ee ≡ (refused unbalanced, small)
unfolding called
left-by-13 = refl
