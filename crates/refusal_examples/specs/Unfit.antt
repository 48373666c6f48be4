-- Computed: refusal 10. Worlds that differ in one thing from a world that is well formed, with the reply to one call in each.
-- Assumes nothing.
use Rattle.std.specs.Prelude.{ℕ, ◌*◌, length, replicate, ◌≡◌, refl}
use mathlib.Core.List.{List, [], ◌∷◌, ◌++◌, map, flat_map}
use Rattle.tree.specs.Counts.{counting_from}
use Rattle.records.specs.Readers.{Bytes}
use Rattle.session_spec.specs.Session.{World}
use Rattle.session_spec.specs.Layout.{ScopeRecord}
use Rattle.session_spec.specs.Computed.{id, ns, es, ee, fi, lent, Change, set_events, set_running, set_definitions, set_tuples, set_reports, set_path_area, in_tuples, in_reports, in_names, in_cells, in_scopes, cut_scopes, cut_names, cut_cells, changed, packed, holding, after_calls, replies_in}

-- ---- a world in the midst of a run, changed in one thing

-- a unique on all elements with the field `@id`; `r` with id a, and in it `r` with id b, both with constraint 0: two scopes and three selections are open
abbrev base : World
base = after_calls (lent 20 64 64) (id 0 "" ".//." ("@id" ∷ []) ∷ es "r" (0 ∷ []) (("id", "a") ∷ []) ∷ es "r" (0 ∷ []) (("id", "b") ∷ []) ∷ [])

-- what is changed, and the number that EE is answered by then
abbrev Row : Type 0
Row = List Change × ℕ

answers : List Row → List ℕ
unfolding replies_in after_calls
answers rows = replies_in ee (map (λ r. changed base r.0) rows)

expected : List Row → List ℕ
expected [] = []
expected (r ∷ rs) = r.1 ∷ expected rs

-- nothing; areas too short by one
abbrev area-rows : List Row
area-rows = ([], 0) ∷ (set_path_area 1023 ∷ [], 10) ∷ (cut_scopes 15 ∷ [], 10) ∷ (cut_names 32895 ∷ [], 10) ∷ (cut_cells 16383 ∷ [], 10) ∷ []

-- counts above their limits: events; the stage, 66 after FI being the last one; scopes opened, 8 for each event
abbrev count-rows : List Row
count-rows =
    (set_events 1000001 ∷ [], 10)
    ∷ (set_running (packed 67 0 0 2) ∷ [], 10)
    ∷ (set_running (packed 66 0 0 2) ∷ [], 11)
    ∷ (set_running (packed 3 2 3 25) ∷ [], 10)
    ∷ (set_running (packed 3 2 3 24) ∷ [], 0)
    ∷ []

-- used lengths past their stores
abbrev past-rows : List Row
past-rows = (set_definitions 21 ∷ [], 10) ∷ (set_tuples 65 ∷ [], 10) ∷ (set_reports 65 ∷ [], 10) ∷ []

counts-fit : answers (area-rows ++ (count-rows ++ past-rows)) ≡ expected (area-rows ++ (count-rows ++ past-rows))
unfolding answers expected
counts-fit = refl

-- open names: a length over 255 in either half, of either element; 255 is taken, and what is behind the second name is nobody's
abbrev name-rows : List Row
name-rows =
    (in_names 0 (0 ∷ 1 ∷ []) ∷ [], 10)
    ∷ (in_names 257 (0 ∷ 1 ∷ []) ∷ [], 10)
    ∷ (in_names 514 (0 ∷ 1 ∷ []) ∷ [], 10)
    ∷ (in_names 771 (0 ∷ 1 ∷ []) ∷ [], 10)
    ∷ (in_names 0 (255 ∷ 0 ∷ []) ∷ [], 0)
    ∷ (in_names 1028 (0 ∷ 1 ∷ []) ∷ [], 0)
    ∷ []

scope : ℕ → ℕ → ℕ → List ScopeRecord
scope c n d = record { constraint = c; number = n; depth = d } ∷ []

-- open scopes, which are number 1 on the first element and number 2 on the second: a constraint that is not defined; a number not given; on no open
-- element; numbers that do not rise; a number 0; depths that fall; a depth 0; and what is behind the second is nobody's
abbrev scope-rows : List Row
scope-rows =
    (in_scopes 0 (scope 1 1 1) ∷ [], 10)
    ∷ (in_scopes 1 (scope 0 3 2) ∷ [], 10)
    ∷ (in_scopes 1 (scope 0 2 3) ∷ [], 10)
    ∷ (in_scopes 0 (scope 0 2 1) ∷ [], 10)
    ∷ (in_scopes 0 (scope 0 0 1) ∷ [], 10)
    ∷ (set_running (packed 3 2 0 2) ∷ in_scopes 0 (scope 0 1 2 ++ scope 0 2 1) ∷ [], 10)
    ∷ (in_scopes 0 (scope 0 1 0) ∷ [], 10)
    ∷ (in_scopes 2 (scope 9 9 9) ∷ [], 0)
    ∷ []

names-scopes-read : answers (name-rows ++ scope-rows) ≡ expected (name-rows ++ scope-rows)
unfolding answers expected scope
names-scopes-read = refl

-- open selections: of scope 1 on the first element, of scope 1 and of scope 2 on the second. A selection has 512 bytes, a cell 128. The first one's
-- place 5 is no open scope; its depth is 0; the third's depth is above the current one, and below its scope's; the second and third stand in the wrong order
abbrev selection-rows : List Row
selection-rows =
    (in_cells 256 (40 ∷ []) ∷ [], 10)
    ∷ (in_cells 0 (1 ∷ []) ∷ [], 10)
    ∷ (in_cells 1024 (25 ∷ []) ∷ [], 10)
    ∷ (in_cells 1024 (9 ∷ []) ∷ [], 10)
    ∷ (in_cells 768 (8 ∷ []) ∷ in_cells 1280 (0 ∷ []) ∷ [], 10)
    ∷ []

-- the first cell of the first one: the states 5 and 7, a key of 127 bytes, also of a marked one, an Unset cell with the key still there, a key longer than its length says, a byte far behind it
abbrev cell-rows : List Row
cell-rows =
    (in_cells 0 (13 ∷ []) ∷ [], 10)
    ∷ (in_cells 0 (15 ∷ []) ∷ [], 10)
    ∷ (in_cells 1 (127 ∷ []) ∷ [], 10)
    ∷ (in_cells 0 (12 ∷ 127 ∷ []) ∷ [], 10)
    ∷ (in_cells 0 (8 ∷ []) ∷ [], 10)
    ∷ (in_cells 1 (0 ∷ []) ∷ [], 10)
    ∷ (in_cells 127 (1 ∷ []) ∷ [], 10)
    ∷ []

-- the cells of the fields that the constraint lacks: a state, a length, a byte of a key; a small number in the last one
abbrev blank-rows : List Row
blank-rows =
    (in_cells 128 (2 ∷ []) ∷ [], 10)
    ∷ (in_cells 257 (1 ∷ []) ∷ [], 10)
    ∷ (in_cells 386 (97 ∷ []) ∷ [], 10)
    ∷ (in_cells 384 (8 ∷ []) ∷ [], 10)
    ∷ (in_cells 896 (8 ∷ []) ∷ [], 10)
    ∷ []

-- another key, each other state and a key of 126 bytes are fine, and what is behind the last selection is nobody's
abbrev fine-rows : List Row
fine-rows =
    (in_cells 2 (98 ∷ []) ∷ [], 0)
    ∷ (in_cells 0 (10 ∷ 0 ∷ 0 ∷ []) ∷ [], 0)
    ∷ (in_cells 0 (11 ∷ 0 ∷ 0 ∷ []) ∷ [], 0)
    ∷ (in_cells 0 (8 ∷ 0 ∷ 0 ∷ []) ∷ [], 0)
    ∷ (in_cells 0 (12 ∷ []) ∷ [], 0)
    ∷ (in_cells 1 (126 ∷ replicate 126 99) ∷ [], 0)
    ∷ (in_cells 1536 (255 ∷ []) ∷ [], 0)
    ∷ []

cells-read : answers (selection-rows ++ (cell-rows ++ (blank-rows ++ fine-rows))) ≡ expected (selection-rows ++ (cell-rows ++ (blank-rows ++ fine-rows)))
unfolding answers expected
cells-read = refl

-- ---- before the first ES nothing was opened and nothing put out

begun-wrongly : replies_in fi (map (changed (lent 64 64 64)) ([] ∷ (set_running (packed 0 1 0 0) ∷ []) ∷ (set_running (packed 0 0 0 1) ∷ []) ∷ (set_tuples 1 ∷ []) ∷ (set_reports 18 ∷ []) ∷ [])) ≡ 0 ∷ 10 ∷ 10 ∷ 10 ∷ 10 ∷ []
unfolding replies_in
begun-wrongly = refl

-- ---- seventeen scopes, 33 selections: each of them is well formed, there are too many

abbrev zeros : ℕ → Bytes
zeros n = replicate n 0

-- scope n on the first element
first_scope : ℕ → ScopeRecord
first_scope n = record { constraint = 0; number = n; depth = 1 }

-- the cells of a selection with no hit: its depth, below 32, and its scope's place
blank_at : ℕ → ℕ → Bytes
blank_at d i = (8 * d ∷ zeros 255) ++ (8 * i ∷ zeros 255)

-- three elements are open, the scopes 1 to 17 on the first, and of each element the selections of the first sixteen
crowded : (scopes selections : ℕ) → World
unfolding changed holding packed first_scope blank_at counting_from
crowded n m =
    changed (holding (id 0 "" "q" ("@id" ∷ []) ∷ []))
    (set_events 4
    ∷ set_running (packed 4 n m 17)
    ∷ in_names 0 (zeros 1542)
    ∷ in_scopes 0 (map first_scope (counting_from 0 17))
    ∷ in_cells 0 (flat_map (λ d. flat_map (λ i. blank_at d i) (0 ∷ counting_from 0 15)) (counting_from 0 3))
    ∷ [])

too-many-open : replies_in (es "x" [] []) (crowded 16 0 ∷ crowded 17 0 ∷ crowded 16 32 ∷ crowded 16 33 ∷ []) ≡ 0 ∷ 10 ∷ 0 ∷ 10 ∷ []
unfolding replies_in crowded
too-many-open = refl

-- ---- the definition store: it is exactly a list of ID and NS records, each of which is taken once more

abbrev plain : Bytes
plain = id 0 "" "" ("" ∷ [])

-- the reply to FI where it holds these
abbrev finished : List (List Bytes) → List ℕ
finished xs = replies_in fi (map holding xs)

definitions-read : finished ([] ∷ (plain ∷ []) ∷ (ns 0 "p" "" ∷ plain ∷ ns 1 "p" "" ∷ ns 2 "p" "" ∷ plain ∷ []) ∷ []) ≡ 0 ∷ 0 ∷ 0 ∷ []
unfolding replies_in
definitions-read = refl

-- bytes that are no record, less than a header, a record cut off; ES, EE and FI; one that is refused by 1, by 2, by 3, by 4, by 5
definitions-unread : finished (((7 ∷ 7 ∷ 7 ∷ 7 ∷ []) ∷ []) ∷ ((73 ∷ 68 ∷ []) ∷ []) ∷ (plain ∷ (73 ∷ 68 ∷ 1 ∷ 0 ∷ []) ∷ []) ∷ (es "r" [] [] ∷ []) ∷ (ee ∷ []) ∷ (plain ∷ fi ∷ []) ∷ ((88 ∷ 88 ∷ 0 ∷ 0 ∷ []) ∷ []) ∷ ((73 ∷ 68 ∷ 0 ∷ 0 ∷ []) ∷ []) ∷ ((78 ∷ 83 ∷ 6 ∷ 0 ∷ 0 ∷ 1 ∷ 0 ∷ 255 ∷ 0 ∷ 0 ∷ []) ∷ []) ∷ (id 3 "" "" ("" ∷ []) ∷ []) ∷ (id 0 "" "" [] ∷ []) ∷ []) ≡ replicate 11 10
unfolding replies_in
definitions-unread = refl

-- one that 12, 17 or 18 would meet: NS 1 before an ID, NS past the fields, a prefix bound again, 33 constraints, 65 bindings
definitions-not-taken : finished ((ns 1 "p" "" ∷ plain ∷ []) ∷ (plain ∷ ns 3 "p" "" ∷ []) ∷ (ns 0 "p" "" ∷ ns 0 "p" "u" ∷ []) ∷ replicate 32 plain ∷ replicate 33 plain ∷ (plain ∷ replicate 64 (ns 1 "" "")) ∷ (plain ∷ replicate 65 (ns 1 "" "")) ∷ []) ≡ 10 ∷ 10 ∷ 10 ∷ 0 ∷ 10 ∷ 0 ∷ 10 ∷ []
unfolding replies_in
definitions-not-taken = refl

-- ---- the tuple store and the report store. One constraint, an ES and an EE were taken, one scope was opened.

storing : Bytes → Bytes → World
unfolding changed holding packed
storing ts rs =
    changed (holding (plain ∷ []))
    (set_events 3 ∷ set_running (packed 1 0 0 1) ∷ in_tuples 0 ts ∷ set_tuples (length ts) ∷ in_reports 0 rs ∷ set_reports (length rs) ∷ [])

abbrev with_tuples : List Bytes → List ℕ
with_tuples xs = replies_in fi (map (λ ts. storing ts []) xs)

-- constraint, scope and field count of a TU whose length is stated as n, and its keys
tu : ℕ → ℕ → ℕ → Bytes → Bytes
tu n c s ks = 84 ∷ 85 ∷ n ∷ 0 ∷ c ∷ s ∷ 0 ∷ 0 ∷ 0 ∷ ks

-- none; two; one without fields; 96 of these, which is 32 for each event
tuples-read : with_tuples ([] ∷ (tu 9 0 1 (1 ∷ 1 ∷ 0 ∷ 97 ∷ []) ++ tu 8 0 0 (1 ∷ 0 ∷ 0 ∷ [])) ∷ tu 6 0 1 (0 ∷ []) ∷ flat_map (λ (i : ℕ). tu 6 0 1 (0 ∷ [])) (replicate 96 0) ∷ []) ≡ 0 ∷ 0 ∷ 0 ∷ 0 ∷ []
unfolding replies_in storing tu
tuples-read = refl

-- bytes that are none; another mark; a length one too short and one too long; cut off; a constraint that is not defined; a scope not opened; 97 of them
tuples-unread : with_tuples ((7 ∷ []) ∷ (84 ∷ 86 ∷ 6 ∷ 0 ∷ 0 ∷ 1 ∷ 0 ∷ 0 ∷ 0 ∷ 0 ∷ []) ∷ tu 8 0 1 (1 ∷ 1 ∷ 0 ∷ 97 ∷ []) ∷ tu 10 0 1 (1 ∷ 1 ∷ 0 ∷ 97 ∷ []) ∷ (tu 6 0 1 (0 ∷ []) ++ tu 9 0 1 (1 ∷ 1 ∷ 0 ∷ [])) ∷ tu 6 1 1 (0 ∷ []) ∷ tu 6 0 2 (0 ∷ []) ∷ flat_map (λ (i : ℕ). tu 6 0 1 (0 ∷ [])) (replicate 97 0) ∷ []) ≡ replicate 8 10
unfolding replies_in storing tu
tuples-unread = refl

abbrev with_reports : List Bytes → List ℕ
with_reports xs = replies_in fi (map (storing []) xs)

-- the first bytes of an RP, and all of them
rp : ℕ → ℕ → ℕ → Bytes → Bytes
rp a b c more = 82 ∷ a ∷ 4 ∷ b ∷ 0 ∷ c ∷ more

-- two; then another mark, a constraint that is not defined, a last byte that is not 0, cut off, a byte too many
reports-read : with_reports ((rp 80 0 0 (zeros 12) ++ rp 80 0 0 (zeros 12)) ∷ rp 81 0 0 (zeros 12) ∷ rp 80 1 0 (zeros 12) ∷ rp 80 0 1 (zeros 12) ∷ rp 80 0 0 (zeros 11) ∷ rp 80 0 0 (zeros 13) ∷ []) ≡ 0 ∷ 10 ∷ 10 ∷ 10 ∷ 10 ∷ 10 ∷ []
unfolding replies_in storing rp
reports-read = refl

-- ---- 10 comes before the refusals because of the input

ten-first : replies_in [] (lent 0 0 0 ∷ changed (lent 0 0 0) (set_path_area 1023 ∷ []) ∷ []) ≡ 1 ∷ 10 ∷ []
unfolding replies_in
ten-first = refl
