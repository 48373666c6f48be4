-- Computed: what the fields of a selected element come to. A document is written as constraints and events; what is worked out from them by
-- the tree definition are the reports and tuples. Runs.antt has those of scopes, keyrefs and counts.
-- Assumes nothing.
use Prim.Native.String.{String}
use Rattle.std.specs.Prelude.{ℕ, zero, suc, length, replicate, ◌≡◌, refl, true, false}
use mathlib.Core.List.{List, [], ◌∷◌, ◌++◌, map, flat_map}
use Rattle.std.proofs.Math.Option
use Rattle.std.proofs.Math.Option.{Option, none, some}
use Rattle.lists.specs.Lists.{any, only_if, passing, foldl}
use Rattle.texts.specs.Texts.{Text, same, same_all}
use Rattle.paths.specs.Names.{Attribute, after_colon, name_of}
use Rattle.paths.specs.Matching.{space_fits, local_fits, fits, attribute_fits, fit_all, fit_last, matches}
use Rattle.paths.specs.Reading.{WrittenAlt, on_some, every, resolved, step_path_of, field_alt_of}
use Rattle.paths.specs.Examples.{codes, read}
use Rattle.tree.specs.Events.{Event, es, ee, Kind, unique, key, keyref, Defined, reads, unread, selects, opening, after, openings, opened, scope_of, scopes_of}
use Rattle.tree.specs.Cells.{Unset, Set, SetNillable, NotSimple, Multiple, one, cell, ends_at, reaches, reach, attribute_hits, element_hit, element_hits}
use Rattle.tree.specs.Tree.{end_hits, hits, own_hits, cells_of, deeper, fresh, enter, failed_item, failures, finish, finishes, items}
use Rattle.tree.specs.Judge.{Tuple, Report, Out, blank, is_multiple, is_not_simple, first_unset, keys_of, missing_or, first_nillable, set_or, outcome, report, keep, against, tuple_of, is_tuple, place, keep_or, present, completed, missed, nillable_key, settle, kind_six, tell, judge, judge_all, is_keyref, named, answers, kind_five, unanswered, kind_fives, finish_out}
use Rattle.tree.specs.Build.{◌⊕◌, plug_with, plug, add, start_b, end_z, end_b, step_b, build, begun, tree}

-- ---- constraints

-- one of them; its number is its place in the list of definitions
abbrev pub Id : Type 0
Id = ℕ → Defined

-- what its paths come to; no prefix is bound
defined_by : ℕ → Kind → Text → Option Text → Option (List WrittenAlt) → Option (List (List WrittenAlt)) → Defined
unfolding on_some resolved step_path_of field_alt_of
defined_by i k t r none fs = unread t
defined_by i k t r (some s) none = unread t
defined_by i k t r (some s) (some fs) =
    reads (record { number = i; name = t; kind = k; refer = r; selector = map (step_path_of (λ p. none)) s; fields = map (map (field_alt_of (λ p. none))) fs })

-- kind, name, refer, selector and fields
unfoldable pub id : Kind → String → Option String → String → List String → Id
unfolding defined_by codes read every
id k t r s fs i = defined_by i k (codes t) (Option.map codes r) (read false (codes s)) (every (λ f. read true (codes f)) fs)

-- the definition with the number n, where the first of these has the number i
unfoldable pub at : List Id → ℕ → ℕ → Defined
at [] i n = unread []
at (d ∷ ds) i zero = d i
at (d ∷ ds) i (suc n) = at ds (suc i) n

-- ---- events

attribute : String × String → Attribute
unfolding codes
attribute x = record { name = codes x.0; key = codes x.1 }

-- an element's start: its qualified name, the constraints listed, its attributes
unfoldable pub start : String → List ℕ → List (String × String) → Event
unfolding attribute name_of after_colon codes
start t is xs = es (record { name = name_of [] (codes t); numbers = is; attributes = map attribute xs })

-- an element's end: simple byte 0 and an empty key; simple byte 1 and a key
abbrev pub close : Event
close = ee (record { simple = 0; key = [] })

unfoldable pub value : String → Event
unfolding codes
value v = ee (record { simple = 1; key = codes v })

-- simple byte 2: a key of an element that is declared nillable
unfoldable pub nillable_value : String → Event
unfolding codes
nillable_value v = ee (record { simple = 2; key = codes v })

-- a whole element
unfoldable pub el : String → List ℕ → List (String × String) → List Event → List Event
unfolding start
el t is xs kids = start t is xs ∷ (kids ++ (close ∷ []))

-- one without children: nothing in it; an attribute `id`; a simple value
abbrev pub bare : String → List Event
bare t = el t [] [] []

abbrev pub leaf : String → String → List Event
leaf t k = el t [] (("id", k) ∷ []) []

abbrev pub text : String → String → List Event
text t v = start t [] [] ∷ value v ∷ []

abbrev pub nillable_text : String → String → List Event
nillable_text t v = start t [] [] ∷ nillable_value v ∷ []

-- ---- what is put out

-- a report: kind, constraint, field, scope, event, tuple
abbrev pub Rp : Type 0
Rp = ℕ × ℕ × ℕ × ℕ × ℕ × ℕ

-- a tuple: constraint, scope, key texts
abbrev pub Tu : Type 0
Tu = ℕ × ℕ × List Text

unfoldable pub tu : ℕ → ℕ → List String → Tu
unfolding codes
tu c s ks = (c, s, map codes ks)

abbrev shown : Out → List Rp × List Tu
shown o = (
  map (λ (r : Report). (r.kind, r.constraint, r.field, r.scope, r.event, r.tuple)) o.reports,
  map (λ (t : Tuple). (t.constraint.number, t.scope, t.keys)) o.tuples,
)

-- by the tree of these events, each definition a record before them; to unfold this is to unfold the whole tree definition
unfoldable pub judged : List Id → List Event → Out
unfolding at codes value nillable_value el start tu only_if passing flat_map same same_all space_fits local_fits fits attribute_fits after_colon fit_all fit_last matches selects opening after openings opened scope_of scopes_of one cell ends_at reaches reach attribute_hits element_hit element_hits end_hits hits own_hits cells_of deeper fresh enter failed_item failures finish finishes items is_multiple is_not_simple first_unset keys_of missing_or first_nillable set_or outcome report keep against tuple_of is_tuple place keep_or present completed missed nillable_key settle kind_six tell judge judge_all is_keyref named answers kind_five unanswered kind_fives finish_out ◌⊕◌ plug_with plug add start_b end_z end_b step_b build tree id
judged ds xs = judge_all blank (items [] (tree (at ds 0) (length ds) xs))

-- before FI
unfoldable pub sofar : List Id → List Event → List Rp × List Tu
unfolding judged
sofar ds xs = shown (judged ds xs)

-- after FI, which is the next event
unfoldable pub out : List Id → List Event → List Rp × List Tu
unfolding judged
out ds xs = shown (finish_out (suc (build (at ds 0) (begun (length ds)) xs).events) (judged ds xs))

-- nothing at all
abbrev pub nothing : List Rp × List Tu
nothing = ([], [])

-- ---- document 01, "One run, whole"

one-run : out (id key "k" none "r" ("@id" ∷ []) ∷ []) (el "t" (0 ∷ []) [] (leaf "r" "a" ++ leaf "r" "a" ++ bare "r"))
    ≡ ((4, 0, 0, 1, 6, 1) ∷ (3, 0, 0, 1, 8, 0) ∷ [], tu 0 1 ("a" ∷ []) ∷ [])
unfolding out
one-run = refl

-- ---- one selection: the element t itself, by the selector `.`, with what is in it. It finishes at t's EE, event 3 + that many events.

selected : Kind → List String → List Event → List Rp × List Tu
unfolding out
selected k fs xs = out (id k "k" (some "k") "." fs ∷ []) (el "t" (0 ∷ []) [] xs)

-- no hit is Unset, and a key reports it; one is Set; two or more are Multiple
no_hit : selected key ("a" ∷ []) (text "b" "x") ≡ ((3, 0, 0, 1, 5, 0) ∷ [], [])
unfolding selected
no_hit = refl

one_hit : selected key ("a" ∷ []) (text "a" "x") ≡ ([], tu 0 1 ("x" ∷ []) ∷ [])
unfolding selected
one_hit = refl

two-hits : selected key ("a" ∷ []) (text "a" "x" ++ text "a" "x") ≡ ((1, 0, 0, 1, 7, 0) ∷ [], [])
unfolding selected
two-hits = refl

three-hits : selected unique ("a" ∷ []) (text "a" "x" ++ text "a" "y" ++ text "a" "z") ≡ ((1, 0, 0, 1, 9, 0) ∷ [], [])
unfolding selected
three-hits = refl

-- an element with simple byte 0 is NotSimple, whatever its key; one hit more, and it is Multiple
not-simple : selected unique ("a" ∷ []) (bare "a") ≡ ((2, 0, 0, 1, 5, 0) ∷ [], [])
unfolding selected
not-simple = refl

not-simple-with-key : selected key ("a" ∷ []) (start "a" [] [] ∷ ee (record { simple = 0; key = 120 ∷ [] }) ∷ []) ≡ ((2, 0, 0, 1, 5, 0) ∷ [], [])
unfolding selected
not-simple-with-key = refl

not-simple-twice : (selected unique ("a" ∷ []) (bare "a" ++ text "a" "x") ≡ ((1, 0, 0, 1, 7, 0) ∷ [], [])) × (selected unique ("a" ∷ []) (text "a" "x" ++ bare "a") ≡ ((1, 0, 0, 1, 7, 0) ∷ [], []))
unfolding selected
not-simple-twice = (refl, refl)

-- an empty key text is Set, of an element and of an attribute
empty-key : (selected key ("a" ∷ []) (text "a" "") ≡ ([], tu 0 1 ("" ∷ []) ∷ [])) × (selected key ("a/@id" ∷ []) (leaf "a" "") ≡ ([], tu 0 1 ("" ∷ []) ∷ []))
unfolding selected
empty-key = (refl, refl)

-- ---- the order in which the fields are asked

-- two elements a, one b without simple value, no c
abbrev faulty : List Event
faulty = text "a" "x" ++ text "a" "y" ++ bare "b"

-- of the five states one is Multiple and one NotSimple
states : (map is_multiple (Unset ∷ Set [] ∷ SetNillable [] ∷ NotSimple ∷ Multiple ∷ []) ≡ false ∷ false ∷ false ∷ false ∷ true ∷ []) × (map is_not_simple (Unset ∷ Set [] ∷ SetNillable [] ∷ NotSimple ∷ Multiple ∷ []) ≡ false ∷ false ∷ false ∷ true ∷ false ∷ [])
unfolding is_multiple is_not_simple
states = (refl, refl)

-- a Multiple field before a NotSimple one before an Unset one, wherever they stand; the field index is not used
multiple-first : map (λ (fs : List String). selected key fs faulty) (("a" ∷ "b" ∷ "c" ∷ []) ∷ ("c" ∷ "b" ∷ "a" ∷ []) ∷ ("b" ∷ "a" ∷ []) ∷ ("c" ∷ "a" ∷ []) ∷ [])
    ≡ replicate 4 ((1, 0, 0, 1, 9, 0) ∷ [], [])
unfolding selected
multiple-first = refl

not-simple-next : map (λ (fs : List String). selected key fs faulty) (("b" ∷ "c" ∷ []) ∷ ("c" ∷ "b" ∷ []) ∷ ("c" ∷ "d" ∷ "b" ∷ []) ∷ []) ≡ replicate 3 ((2, 0, 0, 1, 9, 0) ∷ [], [])
unfolding selected
not-simple-next = refl

-- kinds 1 and 2 are of every kind of constraint, kind 3 of key only: unique and keyref drop the selection
faults-of-all : map (λ (k : Kind). selected k ("c" ∷ "b" ∷ "a" ∷ []) faulty) (unique ∷ key ∷ keyref ∷ []) ≡ replicate 3 ((1, 0, 0, 1, 9, 0) ∷ [], [])
unfolding selected
faults-of-all = refl

faults-of-all-too : map (λ (k : Kind). selected k ("c" ∷ "b" ∷ []) faulty) (unique ∷ key ∷ keyref ∷ []) ≡ replicate 3 ((2, 0, 0, 1, 9, 0) ∷ [], [])
unfolding selected
faults-of-all-too = refl

unset-of-key : map (λ (k : Kind). selected k ("a" ∷ "c" ∷ []) (text "a" "x")) (unique ∷ key ∷ keyref ∷ []) ≡ nothing ∷ ((3, 0, 1, 1, 5, 0) ∷ [], []) ∷ nothing ∷ []
unfolding selected
unset-of-key = refl

-- the lowest Unset field
lowest-unset : map (λ (fs : List String). selected key fs (text "a" "x")) (("b" ∷ "a" ∷ "c" ∷ []) ∷ ("a" ∷ "b" ∷ "c" ∷ []) ∷ ("a" ∷ "a" ∷ "c" ∷ []) ∷ ("a" ∷ "a" ∷ "a" ∷ "d" ∷ []) ∷ [])
    ≡ ((3, 0, 0, 1, 5, 0) ∷ [], []) ∷ ((3, 0, 1, 1, 5, 0) ∷ [], []) ∷ ((3, 0, 2, 1, 5, 0) ∷ [], []) ∷ ((3, 0, 3, 1, 5, 0) ∷ [], []) ∷ []
unfolding selected
lowest-unset = refl

-- all Set: the key texts in field order, not in document order
field-order : selected key ("b" ∷ "a" ∷ []) (text "a" "x" ++ text "b" "y") ≡ ([], tu 0 1 ("y" ∷ "x" ∷ []) ∷ [])
unfolding selected
field-order = refl

-- ---- elements that are declared nillable

-- kind 7 of a key, with the lowest such field, and no tuple; of unique and keyref the tuple is kept as any other
seven-by-kind : map (λ (k : Kind). selected k ("a" ∷ "b" ∷ []) (text "a" "x" ++ nillable_text "b" "y")) (unique ∷ key ∷ keyref ∷ [])
    ≡ ([], tu 0 1 ("x" ∷ "y" ∷ []) ∷ []) ∷ ((7, 0, 1, 1, 7, 0) ∷ [], []) ∷ ((5, 0, 0, 1, 8, 1) ∷ [], tu 0 1 ("x" ∷ "y" ∷ []) ∷ []) ∷ []
unfolding selected
seven-by-kind = refl

lowest-nillable : map (λ (fs : List String). selected key fs (text "a" "x" ++ nillable_text "b" "y" ++ nillable_text "c" "")) (("a" ∷ "b" ∷ "c" ∷ []) ∷ ("b" ∷ "c" ∷ "a" ∷ []) ∷ ("a" ∷ "a" ∷ "a" ∷ "c" ∷ []) ∷ ("a" ∷ []) ∷ [])
    ≡ ((7, 0, 1, 1, 9, 0) ∷ [], []) ∷ ((7, 0, 0, 1, 9, 0) ∷ [], []) ∷ ((7, 0, 3, 1, 9, 0) ∷ [], []) ∷ ([], tu 0 1 ("x" ∷ []) ∷ []) ∷ []
unfolding selected
lowest-nillable = refl

-- after kinds 1, 2 and 3: two elements b, one a without simple value, no d, and c, which is nillable
seven-after-others : map (λ (fs : List String). selected key fs (bare "a" ++ text "b" "x" ++ nillable_text "b" "y" ++ nillable_text "c" "z")) (("c" ∷ "b" ∷ []) ∷ ("c" ∷ "a" ∷ []) ∷ ("c" ∷ "d" ∷ []) ∷ ("d" ∷ "c" ∷ []) ∷ ("c" ∷ []) ∷ [])
    ≡ ((1, 0, 0, 1, 11, 0) ∷ [], []) ∷ ((2, 0, 0, 1, 11, 0) ∷ [], []) ∷ ((3, 0, 1, 1, 11, 0) ∷ [], []) ∷ ((3, 0, 0, 1, 11, 0) ∷ [], []) ∷ ((7, 0, 0, 1, 11, 0) ∷ [], []) ∷ []
unfolding selected
seven-after-others = refl

-- an attribute of such an element is as any other: the mark is the element's own
attribute-never : out (id key "k" none "." ("a/@id" ∷ []) ∷ []) (el "t" (0 ∷ []) [] (start "a" [] (("id", "x") ∷ []) ∷ nillable_value "y" ∷ [])) ≡ ([], tu 0 1 ("x" ∷ []) ∷ [])
unfolding out
attribute-never = refl

-- the selected element itself, by `.`
own-nillable : out (id key "k" none "." ("." ∷ []) ∷ []) (start "t" (0 ∷ []) [] ∷ nillable_value "x" ∷ []) ≡ ((7, 0, 0, 1, 3, 0) ∷ [], [])
unfolding out
own-nillable = refl

-- ---- which nodes are hits

-- a node that several alternatives reach is one hit: P as U5 has it, field `a|a` on one child a is Set
once-by-two : map (λ (f : String). selected key (f ∷ []) (text "a" "x")) ("a|a" ∷ "a|.//a" ∷ "*|a" ∷ "a|b|a" ∷ []) ≡ replicate 4 ([], tu 0 1 ("x" ∷ []) ∷ [])
unfolding selected
once-by-two = refl

-- the office's field, on a child and on a child's child; two elements `number` are two nodes
two-routes-one-number : map (λ (xs : List Event). selected key ("number|.//number" ∷ []) xs) (
    text "number" "7"
    ∷ el "head" [] [] (text "number" "7")
    ∷ (text "number" "7" ++ text "number" "7")
    ∷ (text "number" "7" ++ el "head" [] [] (text "number" "7"))
    ∷ [])
    ≡ ([], tu 0 1 ("7" ∷ []) ∷ []) ∷ ([], tu 0 1 ("7" ∷ []) ∷ []) ∷ ((1, 0, 0, 1, 7, 0) ∷ [], []) ∷ ((1, 0, 0, 1, 9, 0) ∷ [], []) ∷ []
unfolding selected
two-routes-one-number = refl

-- one of them without simple value is NotSimple, as by one route
not-simple-by-two : selected key ("a|a" ∷ []) (bare "a") ≡ ((2, 0, 0, 1, 5, 0) ∷ [], [])
unfolding selected
not-simple-by-two = refl

-- one alternative that hits is enough, and both may
by-either : map (λ (xs : List Event). selected key ("a|b" ∷ []) xs) (text "a" "x" ∷ text "b" "y" ∷ text "c" "z" ∷ [])
    ≡ ([], tu 0 1 ("x" ∷ []) ∷ []) ∷ ([], tu 0 1 ("y" ∷ []) ∷ []) ∷ ((3, 0, 0, 1, 5, 0) ∷ [], []) ∷ []
unfolding selected
by-either = refl

by_both : selected key ("a|b" ∷ []) (text "a" "x" ++ text "b" "y") ≡ ((1, 0, 0, 1, 7, 0) ∷ [], [])
unfolding selected
by_both = refl

-- the element t itself, with these attributes, and nothing in it
attributed : List String → List (String × String) → List Rp × List Tu
unfolding out
attributed fs xs = out (id key "k" none "." fs ∷ []) (el "t" (0 ∷ []) xs [])

-- attributes by the part after the last `:`; two that fit are two hits; `@*` takes all
attribute-hits : map (λ (xs : List (String × String)). attributed ("@id" ∷ []) xs) (
    (("id", "a") ∷ [])
    ∷ (("x:id", "a") ∷ [])
    ∷ (("x", "b") ∷ ("id", "a") ∷ [])
    ∷ (("id", "a") ∷ ("x:id", "a") ∷ [])
    ∷ (("id:x", "a") ∷ [])
    ∷ [])
    ≡ ([], tu 0 1 ("a" ∷ []) ∷ []) ∷ ([], tu 0 1 ("a" ∷ []) ∷ []) ∷ ([], tu 0 1 ("a" ∷ []) ∷ []) ∷ ((1, 0, 0, 1, 3, 0) ∷ [], []) ∷ ((3, 0, 0, 1, 3, 0) ∷ [], []) ∷ []
unfolding attributed
attribute-hits = refl

all-attributes : map (λ (xs : List (String × String)). attributed ("@*" ∷ []) xs) ([] ∷ (("x", "a") ∷ []) ∷ (("x", "a") ∷ ("y", "b") ∷ []) ∷ [])
    ≡ ((3, 0, 0, 1, 3, 0) ∷ [], []) ∷ ([], tu 0 1 ("a" ∷ []) ∷ []) ∷ ((1, 0, 0, 1, 3, 0) ∷ [], []) ∷ []
unfolding attributed
all-attributes = refl

-- two alternatives on one attribute, and one on each of two
attribute-once : map (λ (f : String). attributed (f ∷ []) (("id", "a") ∷ ("x", "b") ∷ [])) ("@id|@id" ∷ "@id|@p:id" ∷ "@id|.//@id" ∷ "@id|@y" ∷ "@id|@x" ∷ "@id|@*" ∷ [])
    ≡ replicate 4 ([], tu 0 1 ("a" ∷ []) ∷ []) ++ replicate 2 ((1, 0, 0, 1, 3, 0) ∷ [], [])
unfolding attributed
attribute-once = refl

-- an attribute is one of the list by its place: two of one name are two
attributes-of-one-name : map (λ (xs : List (String × String)). attributed ("@id|@*" ∷ []) xs) (
    (("id", "a") ∷ [])
    ∷ (("id", "a") ∷ ("x:id", "a") ∷ [])
    ∷ (("id", "a") ∷ ("id", "a") ∷ [])
    ∷ [])
    ≡ ([], tu 0 1 ("a" ∷ []) ∷ []) ∷ replicate 2 ((1, 0, 0, 1, 3, 0) ∷ [], [])
unfolding attributed
attributes-of-one-name = refl

-- an element and an attribute are two nodes, whatever their names
element-and-attribute : out (id key "k" none "." ("a|@a" ∷ []) ∷ []) (el "t" (0 ∷ []) (("a", "x") ∷ []) (text "a" "x")) ≡ ((1, 0, 0, 1, 5, 0) ∷ [], [])
unfolding out
element-and-attribute = refl

-- an attribute field does not take an element of that name, nor an element field an attribute
node-kinds : (selected key ("@id" ∷ []) (text "id" "x") ≡ ((3, 0, 0, 1, 5, 0) ∷ [], [])) × (attributed ("id" ∷ []) (("id", "a") ∷ []) ≡ ((3, 0, 0, 1, 3, 0) ∷ [], []))
unfolding selected attributed
node-kinds = (refl, refl)

-- `@id` is on the element itself, `a/@id` on a child, `.//@id` on any of them
attribute-below : map (λ (f : String). selected key (f ∷ []) (leaf "a" "x")) ("@id" ∷ "a/@id" ∷ ".//@id" ∷ "b/@id" ∷ "a/a/@id" ∷ [])
    ≡ ((3, 0, 0, 1, 5, 0) ∷ [], []) ∷ ([], tu 0 1 ("x" ∷ []) ∷ []) ∷ ([], tu 0 1 ("x" ∷ []) ∷ []) ∷ ((3, 0, 0, 1, 5, 0) ∷ [], []) ∷ ((3, 0, 0, 1, 5, 0) ∷ [], []) ∷ []
unfolding selected
attribute-below = refl

attribute-above-and-below : out (id key "k" none "." (".//@id" ∷ []) ∷ []) (el "t" (0 ∷ []) (("id", "x") ∷ []) (leaf "a" "y")) ≡ ((1, 0, 0, 1, 5, 0) ∷ [], [])
unfolding out
attribute-above-and-below = refl

-- the names are those below the selected element: its own is not among them
names-below : map (λ (f : String). selected key (f ∷ []) (el "a" [] [] (text "b" "x"))) ("b" ∷ "a/b" ∷ "t/a/b" ∷ ".//b" ∷ ".//a/b" ∷ ".//t/a/b" ∷ "*/*" ∷ [])
    ≡ ((3, 0, 0, 1, 7, 0) ∷ [], [])
    ∷ ([], tu 0 1 ("x" ∷ []) ∷ [])
    ∷ ((3, 0, 0, 1, 7, 0) ∷ [], [])
    ∷ ([], tu 0 1 ("x" ∷ []) ∷ [])
    ∷ ([], tu 0 1 ("x" ∷ []) ∷ [])
    ∷ ((3, 0, 0, 1, 7, 0) ∷ [], [])
    ∷ ([], tu 0 1 ("x" ∷ []) ∷ [])
    ∷ []
unfolding selected
names-below = refl

-- the field `.` is the selected element, hit at its own end; `.//.` takes all below it too
own_value : map (λ (f : String). out (id key "k" none "." (f ∷ []) ∷ []) (start "t" (0 ∷ []) [] ∷ value "x" ∷ [])) ("." ∷ "./." ∷ ".//." ∷ ".|.//." ∷ "t" ∷ [])
    ≡ replicate 4 ([], tu 0 1 ("x" ∷ []) ∷ []) ++ (((3, 0, 0, 1, 3, 0) ∷ [], []) ∷ [])
unfolding out
own_value = refl

own-not-simple : map (λ (f : String). selected key (f ∷ []) (text "a" "x")) ("." ∷ ".//." ∷ []) ≡ ((2, 0, 0, 1, 5, 0) ∷ [], []) ∷ ((1, 0, 0, 1, 5, 0) ∷ [], []) ∷ []
unfolding selected
own-not-simple = refl

own-with-attributes : out (id key "k" none "." ("." ∷ "@id" ∷ []) ∷ []) (start "t" (0 ∷ []) (("id", "a") ∷ ("n", "b") ∷ []) ∷ value "x" ∷ []) ≡ ([], tu 0 1 ("x" ∷ "a" ∷ []) ∷ [])
unfolding out
own-with-attributes = refl

-- what stands beside the selected element is no hit
beside : out (id key "k" none "r" (".//a" ∷ []) ∷ []) (el "t" (0 ∷ []) [] (text "a" "x" ++ bare "r" ++ text "a" "y")) ≡ ((3, 0, 0, 1, 6, 0) ∷ [], [])
unfolding out
beside = refl
