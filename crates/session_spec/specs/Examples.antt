-- Computed: document 01's run, whole, from the bytes of the records to the bytes of the stores, and by the tree definition; kind 6 once per name;
-- prefixes; the refusals because of the session. Crates session_examples and refusal_examples have more.
-- Assumes nothing.
use Rattle.std.specs.Prelude.{ℕ, length, replicate, ◌≡◌, refl, List, [], ◌∷◌, ◌++◌, map}
use Rattle.std.proofs.Math.Option.{none, some}
use Rattle.paths.specs.Examples.{codes}
use Rattle.records.specs.Readers.{Bytes}
use Rattle.records.specs.Records.{Rec, FI}
use Rattle.records.specs.Examples.{id_of, ns_of, es_of, with, ee_of}
use Rattle.session_spec.specs.Layout.{tuple_field, field_part}
use Rattle.session_spec.specs.Session.{World, reply_number}
use Rattle.session_spec.specs.Runs.{definition_bytes, tree_out, room_of, tree_reply, tree_taken}
use Rattle.session_spec.specs.Computed.{id, ns, es, es_in, ee, fi, lent, set_events, set_running, in_tuples, set_tuples, in_reports, set_reports, in_cells, changed, packed, deep, holding, called, after_calls, replies, replies_in, left, line_of, tuples_left, seen, viewed, grown, grown_lines, tree_replies}

-- ---- document 01, 'One run, whole': ID key, selector `r`, field `@id`; ES `t` with constraint 0; ES `r` id=a; EE; ES `r` id=a; EE; ES `r`; EE; EE; FI

abbrev pub whole_run : List Bytes
whole_run =
    id 1 "" "r" ("@id" ∷ [])
    ∷ es "t" (0 ∷ []) []
    ∷ es "r" [] (("id", "a") ∷ [])
    ∷ ee
    ∷ es "r" [] (("id", "a") ∷ [])
    ∷ ee
    ∷ es "r" [] []
    ∷ ee
    ∷ ee
    ∷ fi
    ∷ []

abbrev pub small : World
small = lent 64 64 64

-- its records, byte for byte
whole_run_bytes : whole_run
    ≡ (73 ∷ 68 ∷ 13 ∷ 0 ∷ 1 ∷ 0 ∷ 0 ∷ 0 ∷ 1 ∷ 0 ∷ 114 ∷ 1 ∷ 3 ∷ 0 ∷ 64 ∷ 105 ∷ 100 ∷ [])
    ∷ (69 ∷ 83 ∷ 8 ∷ 0 ∷ 0 ∷ 0 ∷ 1 ∷ 0 ∷ 116 ∷ 1 ∷ 0 ∷ 0 ∷ [])
    ∷ (69 ∷ 83 ∷ 14 ∷ 0 ∷ 0 ∷ 0 ∷ 1 ∷ 0 ∷ 114 ∷ 0 ∷ 1 ∷ 2 ∷ 0 ∷ 105 ∷ 100 ∷ 1 ∷ 0 ∷ 97 ∷ [])
    ∷ (69 ∷ 69 ∷ 3 ∷ 0 ∷ 0 ∷ 0 ∷ 0 ∷ [])
    ∷ (69 ∷ 83 ∷ 14 ∷ 0 ∷ 0 ∷ 0 ∷ 1 ∷ 0 ∷ 114 ∷ 0 ∷ 1 ∷ 2 ∷ 0 ∷ 105 ∷ 100 ∷ 1 ∷ 0 ∷ 97 ∷ [])
    ∷ (69 ∷ 69 ∷ 3 ∷ 0 ∷ 0 ∷ 0 ∷ 0 ∷ [])
    ∷ (69 ∷ 83 ∷ 7 ∷ 0 ∷ 0 ∷ 0 ∷ 1 ∷ 0 ∷ 114 ∷ 0 ∷ 0 ∷ [])
    ∷ (69 ∷ 69 ∷ 3 ∷ 0 ∷ 0 ∷ 0 ∷ 0 ∷ [])
    ∷ (69 ∷ 69 ∷ 3 ∷ 0 ∷ 0 ∷ 0 ∷ 0 ∷ [])
    ∷ (70 ∷ 73 ∷ 0 ∷ 0 ∷ [])
    ∷ []
unfolding called
whole_run_bytes = refl

-- TU 1: constraint 0, scope 1, `a`
abbrev one-run-tuples : Bytes
one-run-tuples = 84 ∷ 85 ∷ 9 ∷ 0 ∷ 0 ∷ 1 ∷ 0 ∷ 0 ∷ 0 ∷ 1 ∷ 1 ∷ 0 ∷ 97 ∷ []

-- kind 4 at event 6 for TU 1, kind 3 at event 8
abbrev one-run-reports : Bytes
one-run-reports =
    82 ∷ 80 ∷ 4 ∷ 0 ∷ 0 ∷ 0 ∷ 1 ∷ 0 ∷ 0 ∷ 0 ∷ 6 ∷ 0 ∷ 0 ∷ 0 ∷ 1 ∷ 0 ∷ 0 ∷ 0
    ∷ 82 ∷ 80 ∷ 3 ∷ 0 ∷ 0 ∷ 0 ∷ 1 ∷ 0 ∷ 0 ∷ 0 ∷ 8 ∷ 0 ∷ 0 ∷ 0 ∷ 0 ∷ 0 ∷ 0 ∷ 0 ∷ []

-- all records are taken; 10 events, stage 66 and one scope opened, used lengths 17, 13 and 36; document 01's lines
one-run-whole : seen small whole_run
    ≡ (
      replicate 10 0,
      (10, 262210, 17, 13, 36, one-run-tuples, one-run-reports),
      (6 ∷ 4 ∷ 0 ∷ 0 ∷ 1 ∷ 1 ∷ []) ∷ (8 ∷ 3 ∷ 0 ∷ 0 ∷ 1 ∷ 0 ∷ []) ∷ (10 ∷ 1 ∷ 2 ∷ []) ∷ [],
    )
unfolding seen
one-run-whole = refl

-- the same by the tree definition
one-run-tree : grown small whole_run ≡ (one-run-tuples, one-run-reports)
unfolding grown
one-run-tree = refl

-- ---- kind 6 once per name: 0 and 1 are both named `b`, 2 is named `c`, 3 is named `b` and reads

abbrev unreads : List Bytes
unreads = id 0 "b" "a|" ("@id" ∷ []) ∷ id 1 "b" "." ("/" ∷ []) ∷ id 0 "c" "@id" ("." ∷ []) ∷ id 0 "b" "." ("." ∷ []) ∷ []

abbrev unread-run : List Bytes
unread-run = unreads ++ (es "r" (1 ∷ 0 ∷ 0 ∷ 3 ∷ []) [] ∷ es "r" (0 ∷ 2 ∷ 1 ∷ 2 ∷ []) [] ∷ es "r" (2 ∷ []) [] ∷ [])

-- in the listed order; only 3 opens a scope, and selects the first element
once-per-name : left (lent 69 0 36) unread-run
    ≡ (
      7,
      266372,
      69,
      0,
      36,
      [],
      82 ∷ 80 ∷ 6 ∷ 1 ∷ 0 ∷ 0 ∷ 0 ∷ 0 ∷ 0 ∷ 0 ∷ 5 ∷ 0 ∷ 0 ∷ 0 ∷ 0 ∷ 0 ∷ 0 ∷ 0
          ∷ 82 ∷ 80 ∷ 6 ∷ 2 ∷ 0 ∷ 0 ∷ 0 ∷ 0 ∷ 0 ∷ 0 ∷ 6 ∷ 0 ∷ 0 ∷ 0 ∷ 0 ∷ 0 ∷ 0 ∷ 0 ∷ [],
    )
unfolding left
once-per-name = refl

-- ---- prefixes

-- with `p` bound schema-wide to u: of constraint 0 a field has another binding, which is none of its selector's; of constraint 1 the selector has;
-- `xml` is answered before any binding
abbrev bound : List Bytes
bound =
    ns 0 "p" "u"
    ∷ ns 0 "xml" "u"
    ∷ id 0 "" "p:r" ("@id" ∷ [])
    ∷ ns 2 "p" "v"
    ∷ id 0 "" "p:r" ("@id" ∷ [])
    ∷ ns 1 "p" "v"
    ∷ id 0 "" "xml:r" ("@id" ∷ [])
    ∷ ns 1 "xml" "v"
    ∷ []

-- `r` in u with id 1, in v with id 2, in XML's namespace with id 3, each inside `t`
abbrev three-rs : List Bytes
three-rs =
    es "t" (0 ∷ 1 ∷ 2 ∷ []) []
    ∷ es_in "u" "x:r" (("id", "1") ∷ [])
    ∷ ee
    ∷ es_in "v" "r" (("y:id", "2") ∷ [])
    ∷ ee
    ∷ es_in "http://www.w3.org/XML/1998/namespace" "r" (("id", "3") ∷ [])
    ∷ ee
    ∷ []

prefixes : tuples_left (lent 128 64 0) (bound ++ three-rs) ≡ (0, codes "1" ∷ []) ∷ (1, codes "2" ∷ []) ∷ (2, codes "3" ∷ []) ∷ []
unfolding tuples_left
prefixes = refl

-- ---- the refusals because of the session

abbrev keyed : Bytes
keyed = id 1 "" "." ("@id" ∷ [])

-- NS 1 before an ID, past its fields; a prefix bound again, for a field too, which is taken; EE with none open; an ES number that is not defined;
-- then two scopes on one element, ID and NS after an ES, FI with one open; and all records after FI
abbrev turned-back : List Bytes
turned-back =
    ns 1 "p" "u"
    ∷ ns 0 "p" "u"
    ∷ ns 0 "p" "v"
    ∷ keyed
    ∷ ns 3 "p" "u"
    ∷ ns 2 "p" "u"
    ∷ ee
    ∷ es "r" (0 ∷ 1 ∷ []) []
    ∷ es "r" (0 ∷ 0 ∷ []) (("id", "a") ∷ [])
    ∷ keyed
    ∷ ns 0 "q" "u"
    ∷ fi
    ∷ ee
    ∷ ee
    ∷ fi
    ∷ keyed
    ∷ ns 0 "q" "u"
    ∷ es "r" [] []
    ∷ ee
    ∷ fi
    ∷ []

abbrev turned-back-by : List ℕ
turned-back-by = 12 ∷ 0 ∷ 17 ∷ 0 ∷ 12 ∷ 0 ∷ 13 ∷ 12 ∷ 0 ∷ 11 ∷ 11 ∷ 13 ∷ 0 ∷ 13 ∷ 0 ∷ 11 ∷ 11 ∷ 11 ∷ 11 ∷ 11 ∷ []

-- only the six that are taken leave anything: two tuples, of scopes 1 and 2
eleven-to-seventeen : seen small turned-back
    ≡ (
      turned-back-by,
      (6, 524354, 39, 26, 0, one-run-tuples ++ (84 ∷ 85 ∷ 9 ∷ 0 ∷ 0 ∷ 2 ∷ 0 ∷ 0 ∷ 0 ∷ 1 ∷ 1 ∷ 0 ∷ 97 ∷ []), []),
      (6 ∷ 2 ∷ 0 ∷ []) ∷ [],
    )
unfolding seen
eleven-to-seventeen = refl

-- and only they are in the tree
taken-only : grown_lines small turned-back ≡ (6 ∷ 2 ∷ 0 ∷ []) ∷ []
unfolding grown_lines
taken-only = refl

eleven-to-seventeen-tree : tree_replies small turned-back ≡ turned-back-by
unfolding tree_replies
eleven-to-seventeen-tree = refl

-- and which these six are
taken_on : World → List Bytes → List Rec
unfolding tree_replies tree_taken codes ns_of id_of es_of with ee_of
taken_on w xs = tree_taken (room_of w) 0 [] xs

taken-on-tree : taken_on small turned-back
    ≡ ns_of 0 (codes "p") (codes "u")
    ∷ id_of 1 [] none (codes ".") (codes "@id" ∷ [])
    ∷ ns_of 2 (codes "p") (codes "u")
    ∷ es_of [] (codes "r") (0 ∷ 0 ∷ []) (with (codes "id") (codes "a") ∷ [])
    ∷ ee_of 0 []
    ∷ FI
    ∷ []
unfolding taken_on
taken-on-tree = refl

-- the definition store keeps the bytes of the first three, which define
defined_by : World → List Bytes → Bytes
unfolding grown
defined_by w xs = definition_bytes w xs

definitions-kept : defined_by small turned-back ≡ ns 0 "p" "u" ++ (keyed ++ ns 2 "p" "u")
unfolding defined_by
definitions-kept = refl

-- two constraints of 17 bytes fit 34 bytes
definitions-full : replies (lent 34 0 0) (keyed ∷ keyed ∷ ns 0 "" "" ∷ []) ≡ 0 ∷ 0 ∷ 18 ∷ []
unfolding replies
definitions-full = refl

-- sixteen scopes are taken and no seventeenth
too-many-scopes : replies small (id 0 "" "q" ("@id" ∷ []) ∷ es "a" (replicate 8 0) [] ∷ es "a" (replicate 8 0) [] ∷ es "a" (0 ∷ []) [] ∷ []) ≡ 0 ∷ 0 ∷ 0 ∷ 20 ∷ []
unfolding replies
too-many-scopes = refl

-- 64 elements may be open, by the bytes and by the tree
too-deep : replies_in (es "r" [] []) (deep 63 ∷ deep 64 ∷ []) ≡ 0 ∷ 14 ∷ []
unfolding replies_in
too-deep = refl

nested_reply : ℕ → ℕ
unfolding tree_replies es_of
nested_reply n = reply_number (tree_reply (record { definitions = 0; tuples = 0; reports = 0 }) 0 (replicate n (es_of [] [] [] [])) (es "r" [] []))

too-deep-tree : map nested_reply (63 ∷ 64 ∷ []) ≡ 0 ∷ 14 ∷ []
unfolding nested_reply
too-deep-tree = refl

-- room for one tuple of 13 bytes and one report of 18: exactly enough is taken, and no second one is
stores-full : replies (lent 17 13 18) (
    keyed
    ∷ es "r" (0 ∷ []) (("id", "a") ∷ [])
    ∷ ee
    ∷ es "r" (0 ∷ []) []
    ∷ ee
    ∷ es "r" (0 ∷ []) (("id", "a") ∷ [])
    ∷ ee
    ∷ es "r" (0 ∷ []) []
    ∷ ee
    ∷ [])
    ≡ 0 ∷ 0 ∷ 0 ∷ 0 ∷ 0 ∷ 0 ∷ 15 ∷ 0 ∷ 16 ∷ []
unfolding replies
stores-full = refl

-- 1,000,000 events
too-many-events : replies (changed small (set_events 999999 ∷ [])) (es "r" [] [] ∷ es "r" (0 ∷ []) [] ∷ []) ≡ 0 ∷ 19 ∷ []
unfolding replies
too-many-events = refl

-- ---- 10

-- an open selection of `r` with id a: as it is; a state in a cell of a field that the constraint lacks; a small number in the last cell; the key still
-- there in an Unset cell
cells-unread : replies_in ee (map (changed (after_calls small (keyed ∷ es "r" (0 ∷ []) (("id", "a") ∷ []) ∷ []))) ([] ∷ (in_cells 128 (2 ∷ []) ∷ []) ∷ (in_cells 384 (8 ∷ []) ∷ []) ∷ (in_cells 0 (8 ∷ []) ∷ []) ∷ [])) ≡ 0 ∷ 10 ∷ 10 ∷ 10 ∷ []
unfolding replies_in after_calls
cells-unread = refl

-- a TU and an RP as they are; a TU of a scope that was not opened, one whose length is wrong; an RP whose zero is none
storing : Bytes → Bytes → World
unfolding changed holding packed
storing ts rs =
    changed (holding (keyed ∷ []))
    (set_events 3 ∷ set_running (packed 1 0 0 1) ∷ in_tuples 0 ts ∷ set_tuples (length ts) ∷ in_reports 0 rs ∷ set_reports (length rs) ∷ [])

tu : ℕ → ℕ → Bytes
tu n s = 84 ∷ 85 ∷ n ∷ 0 ∷ 0 ∷ s ∷ 0 ∷ 0 ∷ 0 ∷ 1 ∷ 1 ∷ 0 ∷ 97 ∷ []

rp : ℕ → Bytes
rp z = 82 ∷ 80 ∷ 4 ∷ 0 ∷ 0 ∷ z ∷ replicate 12 0

stores-unread : replies_in fi (storing (tu 9 1) (rp 0) ∷ storing (tu 9 2) [] ∷ storing (tu 8 1) [] ∷ storing [] (rp 1) ∷ []) ≡ 0 ∷ 10 ∷ 10 ∷ 10 ∷ []
unfolding replies_in storing tu rp
stores-unread = refl

-- ---- kind 5 by the tree definition, only once FI is among the records

abbrev referring : List Rec
referring = id_of 2 [] (some (codes "k")) (codes ".") (codes "@id" ∷ []) ∷ es_of [] (codes "r") (0 ∷ 0 ∷ []) (with (codes "id") (codes "a") ∷ []) ∷ ee_of 0 [] ∷ []

reports_on : List Rec → List (List ℕ)
unfolding grown line_of codes id_of es_of with ee_of
reports_on rs = map line_of (tree_out rs).reports

kind-five : reports_on (referring ++ (FI ∷ [])) ++ reports_on referring ≡ (4 ∷ 5 ∷ 0 ∷ 0 ∷ 1 ∷ 1 ∷ []) ∷ (4 ∷ 5 ∷ 0 ∷ 0 ∷ 2 ∷ 2 ∷ []) ∷ []
unfolding reports_on
kind-five = refl

-- ---- the view of a tuple's field

-- TU 1 with one field, TU 2 with two, the first of them empty; what is behind does not read
abbrev view-store : Bytes
view-store = one-run-tuples ++ (84 ∷ 85 ∷ 11 ∷ 0 ∷ 0 ∷ 1 ∷ 0 ∷ 0 ∷ 0 ∷ 2 ∷ 0 ∷ 0 ∷ 1 ∷ 0 ∷ 98 ∷ 84 ∷ 85 ∷ [])

-- fields 0 and 1 of TU 1; 0, 1 and 2 of TU 2; and numbers that no TU has
abbrev places : List (ℕ × ℕ)
places = (1, 0) ∷ (1, 1) ∷ (2, 0) ∷ (2, 1) ∷ (2, 2) ∷ (0, 0) ∷ (3, 0) ∷ (4, 0) ∷ []

views : map (λ q. tuple_field view-store q.0 q.1) places ≡ codes "a" ∷ [] ∷ [] ∷ codes "b" ∷ [] ∷ [] ∷ [] ∷ [] ∷ []
unfolding viewed
views = refl

-- where the part that holds it starts, and its size
part_at : ℕ × ℕ → ℕ × ℕ
unfolding viewed
part_at q = let p = field_part view-store q.0 q.1 in (p.start, p.size)

view-parts : map part_at places ≡ (12, 1) ∷ (0, 0) ∷ (25, 0) ∷ (27, 1) ∷ (0, 0) ∷ (0, 0) ∷ (0, 0) ∷ (0, 0) ∷ []
unfolding part_at
view-parts = refl
