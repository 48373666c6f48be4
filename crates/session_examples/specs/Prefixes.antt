-- Computed: how a prefix is looked up, from the bytes of the records to the keys that are stored.
-- Assumes nothing.
use Prim.Native.String.{String}
use Rattle.std.specs.Prelude.{ℕ, ◌≡◌, refl, List, [], ◌∷◌, ◌++◌}
use Rattle.texts.specs.Texts.{Text}
use Rattle.paths.specs.Examples.{codes}
use Rattle.records.specs.Readers.{Bytes}
use Rattle.session_spec.specs.Session.{World}
use Rattle.session_spec.specs.Computed.{id, ns, es, es_in, ee, ee_with, lent, tuples_left}

abbrev roomy : World
roomy = lent 256 256 256

-- ---- prefixes; the keys that are stored tell which `r` was selected

-- the elements `r` in the namespace u with id 1, in v with id 2, in none with id 3, in XML's with id 4, each inside `t`
abbrev four-rs : List Bytes
four-rs =
    es "t" (0 ∷ []) []
    ∷ es_in "u" "x:r" (("id", "1") ∷ []) ∷ ee
    ∷ es_in "v" "r" (("y:id", "2") ∷ []) ∷ ee
    ∷ es_in "" "r" (("id", "3") ∷ []) ∷ ee
    ∷ es_in "http://www.w3.org/XML/1998/namespace" "r" (("id", "4") ∷ []) ∷ ee
    ∷ []

abbrev ids : List Bytes → List (ℕ × List Text)
ids ds = tuples_left roomy (ds ++ four-rs)

abbrev on : String → Bytes
on s = id 0 "" s ("@id" ∷ [])

-- a schema-wide binding behind the constraint
schema-binding : ids (on "p:r" ∷ ns 0 "p" "u" ∷ []) ≡ (0, codes "1" ∷ []) ∷ []
unfolding tuples_left
schema-binding = refl

-- of two own bindings the first
own-first-wins : ids (on "p:r" ∷ ns 1 "p" "v" ∷ ns 1 "p" "u" ∷ []) ≡ (0, codes "2" ∷ []) ∷ []
unfolding tuples_left
own-first-wins = refl

-- a prefix bound to an empty URI matches no element
empty-uri : ids (ns 0 "p" "u" ∷ on "p:r" ∷ ns 1 "p" "" ∷ []) ≡ []
unfolding tuples_left
empty-uri = refl

-- the empty prefix may be bound, and no prefix is not the empty one
empty-prefix : ids (ns 0 "" "u" ∷ on ":r" ∷ []) ≡ (0, codes "1" ∷ []) ∷ []
unfolding tuples_left
empty-prefix = refl

no-prefix : ids (ns 0 "" "u" ∷ on "r" ∷ []) ≡ (0, codes "1" ∷ []) ∷ (0, codes "2" ∷ []) ∷ (0, codes "3" ∷ []) ∷ (0, codes "4" ∷ []) ∷ []
unfolding tuples_left
no-prefix = refl

-- the own binding of field 0, with `p` bound otherwise for the selector and for field 1
field-own : tuples_left roomy (
    ns 0 "p" "u" ∷ id 0 "" "p:r" ("p:c" ∷ "p:c" ∷ []) ∷ ns 2 "p" "v"
    ∷ es "t" (0 ∷ []) [] ∷ es_in "u" "r" [] ∷ es_in "v" "c" [] ∷ ee_with "1" ∷ es_in "u" "c" [] ∷ ee_with "2" ∷ ee ∷ [])
    ≡ (0, codes "1" ∷ codes "2" ∷ []) ∷ []
unfolding tuples_left
field-own = refl
