-- Computed: what prefixes are bound to in a small store, where it stands there, and what of bytes is not read.
-- Assumes nothing.
use Prim.Native.String.{String}
use Rattle.std.specs.Prelude.{ℕ, length, take, ◌≡◌, refl, true, false}
use mathlib.Core.List.{List, [], ◌∷◌, ◌++◌, map, flat_map}
use Rattle.std.proofs.Math.Option
use Rattle.std.proofs.Math.Option.{Option, none, some}
use denote.Ref.{Bor}
use Rattle.lists.specs.Lists.{only_if, passing}
use Rattle.texts.specs.Texts.{Text, same}
use Rattle.paths.specs.Matching.{space_fits}
use Rattle.paths.specs.Reading.{or_else}
use Rattle.paths.specs.Examples.{codes}
use Rattle.records.specs.Readers.{Bytes, on_read, ◌>>=◌, pass, require, read_byte, read_two, cons_on, read_bytes, read_text, on_whole, up_to}
use Rattle.output_stores.specs.Stores.{standing}
use Rattle.session_spec.specs.Definitions.{Definition, Definitions, frame, xml_namespace, look_up}
use Rattle.session_spec.specs.Computed.{id, ns, fi, definitions_in}
use Rattle.bindings.specs.Bindings.{frames_in, read_binding, as_list, bindings_in, bound_for, uri_in, stands_at, stretch, bound_by}
use Rattle.bindings.specs.Own.{is_id, until_id, own_frames}
use Rattle.std.specs.declared.option.Option as code
use Rattle.std.specs.declared.option.Option.TheVariants.{Some, None}
use Rattle.bindings.specs.declared.Uri.{Uri}
use Rattle.bindings.specs.declared.Uri.TheVariants.{Xml, Own, Schema}

-- ---- a store: what is bound schema-wide, and two constraints with their own bindings

-- `p` twice for the selector and once for field 0; `e` to an empty URI; `xml` and the empty prefix; `s` schema-wide, behind the constraint
abbrev own : Bytes
own =
    id 0 "" "p:r" ("@id" ∷ [])
    ++ (ns 1 "p" "first" ++ (ns 1 "p" "second" ++ (ns 2 "p" "field" ++ (ns 1 "e" "" ++ (ns 1 "xml" "mine" ++ (ns 1 "" "empty" ++ ns 0 "s" "late"))))))

abbrev other : Bytes
other = id 0 "" "p:r" ("@id" ∷ []) ++ ns 1 "t" "other"

abbrev store : Bytes
store = ns 0 "p" "wide" ++ (ns 0 "f" "" ++ (ns 0 "xml" "theirs" ++ (own ++ other)))

-- what a prefix is bound to for a target of the first constraint
unfoldable uri : ℕ → String → Option Text
unfolding codes id ns only_if passing flat_map same or_else on_read ◌>>=◌ pass require read_byte read_two cons_on read_bytes read_text on_whole up_to frame look_up standing read_binding as_list bindings_in bound_for uri_in
uri target p = uri_in own store target (codes p)

uris : List (ℕ × String) → List (Option Text)
unfolding uri
uris qs = map (λ (q : ℕ × String). uri q.0 q.1) qs

-- the first own binding wins, each target has its own, and where a target has none the schema-wide one is taken
own-then-wide : uris ((1, "p") ∷ (2, "p") ∷ (3, "p") ∷ (2, "s") ∷ []) ≡ some (codes "first") ∷ some (codes "field") ∷ some (codes "wide") ∷ some (codes "late") ∷ []
unfolding uris codes
own-then-wide = refl

-- of two own bindings the first wins
first-wins : uri_in (ns 1 "p" "first" ++ ns 1 "p" "second") [] 1 (codes "p") ≡ some (codes "first")
unfolding uri
first-wins = refl

-- an empty URI is one that is found
empty-uri : uris ((1, "e") ∷ (2, "e") ∷ (1, "f") ∷ []) ≡ some [] ∷ none ∷ some [] ∷ []
unfolding uris
empty-uri = refl

-- an own binding hides the schema-wide one also where it is empty; here that of `f` for field 1
hidden : map (λ (t : ℕ). uri_in (own ++ ns 3 "f" "") (ns 0 "f" "wide") t (codes "f")) (2 ∷ 3 ∷ []) ≡ some (codes "wide") ∷ some [] ∷ []
unfolding uri
hidden = refl

-- `xml` is looked up nowhere
xml-first : uris ((1, "xml") ∷ (2, "xml") ∷ []) ≡ some xml_namespace ∷ some xml_namespace ∷ []
unfolding uris
xml-first = refl

-- the empty prefix is one as any other
empty-prefix : uris ((1, "") ∷ (2, "") ∷ []) ≡ some (codes "empty") ∷ none ∷ []
unfolding uris codes
empty-prefix = refl

-- what is bound for another constraint only; what is bound nowhere; a prefix that only begins as one that is bound
not-bound : uris ((1, "t") ∷ (1, "q") ∷ (1, "pp") ∷ []) ≡ none ∷ none ∷ none ∷ []
unfolding uris
not-bound = refl

-- ---- the bindings of a path, as code has them

abbrev lent : Bytes → Bor Bytes
lent xs = record { ref_ptr = (0, 0); now = xs }

-- those of field 0, of field 1, and of a path with no own bindings
of-a-path : bound_by (record { own = lent own; schema = lent store; target = 2 }) (codes "p") ∷ bound_by (record { own = lent own; schema = lent store; target = 3 }) (codes "p") ∷ bound_by (record { own = lent []; schema = lent store; target = 1 }) (codes "p") ∷ []
    ≡ some (codes "field") ∷ some (codes "wide") ∷ some (codes "wide") ∷ []
unfolding uri
of-a-path = refl

-- ---- where they stand

abbrev in_own : (start size : ℕ) → code.Option Uri
in_own start size = Some (Own (record { start = start; size = size }))

abbrev in_schema : (start size : ℕ) → code.Option Uri
in_schema start size = Some (Schema (record { start = start; size = size }))

places : map (stands_at own store) (in_own 29 5 ∷ in_own 60 5 ∷ in_schema 10 4 ∷ in_own 75 0 ∷ None ∷ Some Xml ∷ [])
    ≡ some (codes "first") ∷ some (codes "field") ∷ some (codes "wide") ∷ some [] ∷ none ∷ some xml_namespace ∷ []
unfolding uri
places = refl

-- a stretch that is not all there ends with the bytes
clipped : map (stretch (codes "abc") (codes "de")) (in_own 1 2 ∷ in_own 1 9 ∷ in_own 4 1 ∷ in_schema 0 1 ∷ in_schema 2 1 ∷ Some Xml ∷ None ∷ [])
    ≡ codes "bc" ∷ codes "bc" ∷ [] ∷ codes "d" ∷ [] ∷ [] ∷ [] ∷ []
unfolding codes
clipped = refl

-- an element with no namespace: it is not in that of an empty URI, and is where no URI is found
no-namespace : map (λ (f : code.Option Uri). space_fits (stands_at own store f) []) (in_own 75 0 ∷ in_own 29 5 ∷ Some Xml ∷ None ∷ []) ≡ false ∷ false ∷ false ∷ true ∷ []
unfolding uri space_fits
no-namespace = refl

-- ---- what of bytes is read

-- as far as the records are whole: of the last one a byte is missing
cut_short : frames_in (fi ++ (ns 1 "p" "u" ++ take 10 (ns 1 "q" "u"))) ≡ fi ∷ ns 1 "p" "u" ∷ []
unfolding uri fi
cut_short = refl

-- a record that is no NS binds nothing, and one whose texts are not whole does not
abbrev alone : List Bytes
alone = ns 1 "p" "u" ∷ id 0 "" "." ("." ∷ []) ∷ (78 ∷ 83 ∷ 4 ∷ 0 ∷ 1 ∷ 0 ∷ 0 ∷ 1 ∷ []) ∷ (78 ∷ 83 ∷ 0 ∷ 0 ∷ []) ∷ [] ∷ []

no-bindings : map (λ (f : Bytes). length (bindings_in f)) alone ≡ 1 ∷ 0 ∷ 0 ∷ 0 ∷ 0 ∷ []
unfolding uri
no-bindings = refl

-- a constraint's own records are those from its ID to before the next one, schema-wide bindings among them
own-records : map (λ (i : ℕ). own_frames i (frames_in store)) (0 ∷ 1 ∷ 2 ∷ []) ≡ frames_in own ∷ frames_in other ∷ [] ∷ []
unfolding uri is_id until_id own_frames
own-records = refl

-- the definitions that the store holds: two constraints, and of each how many bindings are its own; four are schema-wide
abbrev counted : Definitions → List ℕ × ℕ
counted d = (map (λ (c : Definition). length c.own) d.ids, length d.schema)

held : Option.map counted (definitions_in store) ≡ some (6 ∷ 1 ∷ [], 4)
unfolding uri definitions_in
held = refl
