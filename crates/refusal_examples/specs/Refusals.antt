-- Computed: one call for each refusal and each of its causes, from bytes; the last call of each kind that is taken; and which refusal comes first
-- where two hold. Those of number 10 are in Unfit.
-- Assumes nothing.
use Rattle.std.specs.Prelude.{ℕ, suc, replicate, ◌≡◌, refl, List, [], ◌∷◌, ◌++◌, map}
use Rattle.std.proofs.Math.Option
use Rattle.std.proofs.Math.Option.{Option, some}
use Rattle.tree.specs.Judge.{Tuple}
use Rattle.machine.specs.Machine.{State}
use Rattle.records.specs.Readers.{Bytes}
use Rattle.records.specs.Refusals.{refusal_number, first_of}
use Rattle.records.specs.Records.{EE}
use Rattle.tree.specs.Events.{Scope}
use Rattle.session_spec.specs.Definitions.{no_definitions, no_constraint}
use Rattle.session_spec.specs.Session.{World, Session, during, set_up, rows}
use Rattle.session_spec.specs.Examples.{small}
use Rattle.session_spec.specs.Computed.{id, ref_to, ns, es, ee, fi, lent, set_events, set_running, set_definitions, in_definitions, in_names, changed, packed, deep, holding, called, replies, replies_in, tree_replies}

-- a key on the element itself with the field `@id`: 17 bytes
abbrev keyed : Bytes
keyed = id 1 "" "." ("@id" ∷ [])

-- ---- because of the input, through a call: 1, 2, 3, 4, and 5 at the first look and by a limit

by-input : replies small ([] ∷ (73 ∷ []) ∷ (88 ∷ 88 ∷ 0 ∷ 0 ∷ []) ∷ (70 ∷ 73 ∷ []) ∷ (70 ∷ 73 ∷ 1 ∷ 0 ∷ []) ∷ (70 ∷ 73 ∷ 1 ∷ 0 ∷ 0 ∷ []) ∷ (69 ∷ 83 ∷ 1 ∷ 64 ∷ []) ∷ (69 ∷ 69 ∷ 4 ∷ 0 ∷ 0 ∷ 1 ∷ 0 ∷ 255 ∷ []) ∷ (69 ∷ 69 ∷ 3 ∷ 0 ∷ 3 ∷ 0 ∷ 0 ∷ []) ∷ id 0 "" "" [] ∷ es "r" (replicate 9 0) [] ∷ [])
    ≡ 1 ∷ 1 ∷ 1 ∷ 2 ∷ 2 ∷ 2 ∷ 5 ∷ 3 ∷ 4 ∷ 5 ∷ 5 ∷ []
unfolding replies
by-input = refl

-- they come before those of the session: an ID of kind 3 after the first ES, anything after FI
input-first : replies small (fi ∷ ee ∷ id 3 "" "" ("." ∷ []) ∷ [] ∷ []) ≡ 0 ∷ 11 ∷ 4 ∷ 1 ∷ []
unfolding replies
input-first = refl

-- ---- 11: ID or NS after the first ES, after all elements have ended too; any record after FI

abbrev late : List Bytes
late = keyed ∷ es "r" [] [] ∷ keyed ∷ ns 0 "p" "u" ∷ ns 7 "p" "u" ∷ ee ∷ keyed ∷ fi ∷ keyed ∷ ns 0 "p" "u" ∷ es "r" [] [] ∷ ee ∷ fi ∷ []

out-of-place : replies small late ≡ 0 ∷ 0 ∷ 11 ∷ 11 ∷ 4 ∷ 0 ∷ 11 ∷ 0 ∷ 11 ∷ 11 ∷ 11 ∷ 11 ∷ 11 ∷ []
unfolding replies
out-of-place = refl

out-of-place-tree : tree_replies small late ≡ 0 ∷ 0 ∷ 11 ∷ 11 ∷ 4 ∷ 0 ∷ 11 ∷ 0 ∷ 11 ∷ 11 ∷ 11 ∷ 11 ∷ 11 ∷ []
unfolding tree_replies
out-of-place-tree = refl

-- FI with no element ever is taken, and so is a second root
no-element : replies small (fi ∷ []) ++ replies small (es "r" [] [] ∷ ee ∷ es "r" [] [] ∷ ee ∷ fi ∷ []) ≡ replicate 6 0
unfolding replies
no-element = refl

-- ---- 12: NS 1 before an ID, NS past the latest ID's fields, an ES number never defined

abbrev unknown : List Bytes
unknown = ns 1 "p" "u" ∷ ns 2 "p" "u" ∷ keyed ∷ ns 1 "p" "u" ∷ ns 2 "p" "u" ∷ ns 3 "p" "u" ∷ es "r" (1 ∷ []) [] ∷ es "r" (0 ∷ 0 ∷ 1 ∷ []) [] ∷ es "r" (0 ∷ 0 ∷ []) [] ∷ []

undefined-numbers : replies (lent 64 64 64) unknown ≡ 12 ∷ 12 ∷ 0 ∷ 0 ∷ 0 ∷ 12 ∷ 12 ∷ 12 ∷ 0 ∷ []
unfolding replies
undefined-numbers = refl

undefined-numbers-tree : tree_replies (lent 64 64 64) unknown ≡ 12 ∷ 12 ∷ 0 ∷ 0 ∷ 0 ∷ 12 ∷ 12 ∷ 12 ∷ 0 ∷ []
unfolding tree_replies
undefined-numbers-tree = refl

-- the latest ID counts: the first has four fields, the second one
latest-fields : replies (lent 99 0 0) (id 0 "" "." ("." ∷ "." ∷ "." ∷ "." ∷ []) ∷ ns 5 "p" "u" ∷ keyed ∷ ns 5 "p" "u" ∷ ns 2 "p" "u" ∷ []) ≡ 0 ∷ 0 ∷ 0 ∷ 12 ∷ 0 ∷ []
unfolding replies
latest-fields = refl

-- ---- 13: EE with no element open, FI with one open

unbalanced-ends : replies small (ee ∷ es "r" [] [] ∷ fi ∷ es "r" [] [] ∷ ee ∷ fi ∷ ee ∷ ee ∷ fi ∷ []) ≡ 13 ∷ 0 ∷ 13 ∷ 0 ∷ 0 ∷ 13 ∷ 0 ∷ 13 ∷ 0 ∷ []
unfolding replies
unbalanced-ends = refl

unbalanced-ends-tree : tree_replies small (ee ∷ es "r" [] [] ∷ fi ∷ es "r" [] [] ∷ ee ∷ fi ∷ ee ∷ ee ∷ fi ∷ []) ≡ 13 ∷ 0 ∷ 13 ∷ 0 ∷ 0 ∷ 13 ∷ 0 ∷ 13 ∷ 0 ∷ []
unfolding tree_replies
unbalanced-ends-tree = refl

-- ---- 17: a schema-wide prefix bound again, whatever its URI; own bindings may repeat, `xml` and the empty prefix may be bound

abbrev bound-again : List Bytes
bound-again = ns 0 "p" "u" ∷ ns 0 "p" "u" ∷ ns 0 "p" "v" ∷ ns 0 "xml" "" ∷ ns 0 "" "u" ∷ ns 0 "" "v" ∷ keyed ∷ ns 1 "p" "u" ∷ ns 1 "p" "u" ∷ ns 0 "p" "w" ∷ []

bound-twice : replies (lent 99 0 0) bound-again ≡ 0 ∷ 17 ∷ 17 ∷ 0 ∷ 0 ∷ 17 ∷ 0 ∷ 0 ∷ 0 ∷ 17 ∷ []
unfolding replies
bound-twice = refl

bound-twice-tree : tree_replies (lent 99 0 0) bound-again ≡ 0 ∷ 17 ∷ 17 ∷ 0 ∷ 0 ∷ 17 ∷ 0 ∷ 0 ∷ 0 ∷ 17 ∷ []
unfolding tree_replies
bound-twice-tree = refl

-- ---- 18: the store is too short; 33rd constraint; 65th binding

-- two constraints of 17 bytes fit 34 bytes and no 33
store-short : replies (lent 34 0 0) (keyed ∷ keyed ∷ ns 0 "" "" ∷ []) ++ replies (lent 33 0 0) (keyed ∷ keyed ∷ ns 0 "" "" ∷ []) ≡ 0 ∷ 0 ∷ 18 ∷ 0 ∷ 18 ∷ 0 ∷ []
unfolding replies
store-short = refl

store-short-tree : tree_replies (lent 34 0 0) (keyed ∷ keyed ∷ ns 0 "" "" ∷ []) ++ tree_replies (lent 33 0 0) (keyed ∷ keyed ∷ ns 0 "" "" ∷ []) ≡ 0 ∷ 0 ∷ 18 ∷ 0 ∷ 18 ∷ 0 ∷ []
unfolding tree_replies
store-short-tree = refl

-- a definition store that holds 31 and 32 of them, 63 and 64 bindings; it has room for one constraint more
many-constraints : replies_in (id 0 "" "" ("" ∷ [])) (holding (replicate 31 (id 0 "" "" ("" ∷ []))) ∷ holding (replicate 32 (id 0 "" "" ("" ∷ []))) ∷ []) ≡ 0 ∷ 18 ∷ []
unfolding replies_in
many-constraints = refl

-- of both sorts: one is schema-wide, the others are the selector's
abbrev bindings : ℕ → List Bytes
bindings n = ns 0 "q" "" ∷ keyed ∷ replicate n (ns 1 "p" "")

many-bindings : replies_in (ns 0 "p" "") (holding (bindings 62) ∷ holding (bindings 63) ∷ []) ++ replies_in (ns 1 "p" "") (holding (bindings 62) ∷ holding (bindings 63) ∷ []) ≡ 0 ∷ 18 ∷ 0 ∷ 18 ∷ []
unfolding replies_in
many-bindings = refl

-- ---- 14: open scopes, open selections

-- sixteen scopes are taken, a seventeenth is not; those that do not read do not count
abbrev scopes-run : List Bytes
scopes-run = keyed ∷ id 0 "" "" ("" ∷ []) ∷ es "a" (replicate 8 0) [] ∷ es "a" (replicate 7 0) [] ∷ es "a" (0 ∷ 0 ∷ []) [] ∷ es "a" (0 ∷ 1 ∷ []) [] ∷ es "a" (0 ∷ []) [] ∷ es "a" (1 ∷ []) [] ∷ []

too-many-scopes : replies small scopes-run ≡ 0 ∷ 0 ∷ 0 ∷ 0 ∷ 20 ∷ 0 ∷ 20 ∷ 0 ∷ []
unfolding replies
too-many-scopes = refl

too-many-scopes-tree : tree_replies small scopes-run ≡ 0 ∷ 0 ∷ 0 ∷ 0 ∷ 20 ∷ 0 ∷ 20 ∷ 0 ∷ []
unfolding tree_replies
too-many-scopes-tree = refl

-- eight scopes select each `a` below them, four of these are open: 32. One more, of the scope that `b` opens, is not taken.
abbrev selections-run : List Bytes
selections-run =
    id 0 "" ".//a" ("@id" ∷ [])
    ∷ id 0 "" "." ("@id" ∷ [])
    ∷ es "r" (replicate 8 0) []
    ∷ es "a" [] [] ∷ es "a" [] [] ∷ es "a" [] [] ∷ es "a" [] []
    ∷ es "b" (1 ∷ []) []
    ∷ es "b" (0 ∷ []) []
    ∷ []

too-many-selections : replies small selections-run ≡ 0 ∷ 0 ∷ 0 ∷ 0 ∷ 0 ∷ 0 ∷ 0 ∷ 21 ∷ 0 ∷ []
unfolding replies
too-many-selections = refl

too-many-selections-tree : tree_replies small selections-run ≡ 0 ∷ 0 ∷ 0 ∷ 0 ∷ 0 ∷ 0 ∷ 0 ∷ 21 ∷ 0 ∷ []
unfolding tree_replies
too-many-selections-tree = refl

-- ---- 15 and 16: exactly enough is taken

-- the tuple of this run has 13 bytes
abbrev one-tuple : List Bytes
one-tuple = keyed ∷ es "r" (0 ∷ []) (("id", "a") ∷ []) ∷ ee ∷ ee ∷ []

tuples-full : replies (lent 17 12 0) one-tuple ++ replies (lent 17 13 0) one-tuple ≡ 0 ∷ 0 ∷ 15 ∷ 15 ∷ 0 ∷ 0 ∷ 0 ∷ 13 ∷ []
unfolding replies
tuples-full = refl

tuples-full-tree : tree_replies (lent 17 12 0) one-tuple ++ tree_replies (lent 17 13 0) one-tuple ≡ 0 ∷ 0 ∷ 15 ∷ 15 ∷ 0 ∷ 0 ∷ 0 ∷ 13 ∷ []
unfolding tree_replies
tuples-full-tree = refl

-- one report at EE, and at ES, of a constraint that does not read
abbrev one-report : List Bytes
one-report = keyed ∷ es "r" (0 ∷ []) [] ∷ ee ∷ ee ∷ []

reports-full : replies (lent 17 0 17) one-report ++ replies (lent 17 0 18) one-report ≡ 0 ∷ 0 ∷ 16 ∷ 16 ∷ 0 ∷ 0 ∷ 0 ∷ 13 ∷ []
unfolding replies
reports-full = refl

reports-full-tree : tree_replies (lent 17 0 17) one-report ++ tree_replies (lent 17 0 18) one-report ≡ 0 ∷ 0 ∷ 16 ∷ 16 ∷ 0 ∷ 0 ∷ 0 ∷ 13 ∷ []
unfolding tree_replies
reports-full-tree = refl

reports-full-at-start : replies (lent 17 0 17) (id 0 "" "" ("@id" ∷ []) ∷ es "r" (0 ∷ []) [] ∷ es "r" [] [] ∷ []) ≡ 0 ∷ 16 ∷ 0 ∷ []
unfolding replies
reports-full-at-start = refl

-- two tuples at one EE: 26 bytes, not 25; and kind 5 of both at FI: 36 bytes, not 35
abbrev two_at_once : List Bytes
two_at_once = ref_to "" "k" "." ("@id" ∷ []) ∷ es "r" (0 ∷ 0 ∷ []) (("id", "a") ∷ []) ∷ ee ∷ fi ∷ []

two-full : replies (lent 64 25 36) two_at_once ++ (replies (lent 64 26 35) two_at_once ++ replies (lent 64 26 36) two_at_once) ≡ 0 ∷ 0 ∷ 15 ∷ 13 ∷ 0 ∷ 0 ∷ 0 ∷ 16 ∷ 0 ∷ 0 ∷ 0 ∷ 0 ∷ []
unfolding replies
two-full = refl

-- ---- 19: 1,000,000 events already taken

-- so many records accepted, none of them an ES
abbrev counted : ℕ → World
counted n = changed small (set_events n ∷ [])

too-many-events : replies (counted 999999) (es "r" [] [] ∷ ee ∷ []) ++ replies (counted 1000000) (keyed ∷ es "r" [] [] ∷ fi ∷ []) ≡ 0 ∷ 19 ∷ 19 ∷ 19 ∷ 19 ∷ []
unfolding replies
too-many-events = refl

-- ---- where two hold

-- 11 before 19: ID where an ES was taken. 19 before 12: NS 1 with no ID, an ES number not defined. 19 before 13: EE with no element open
eleven-nineteen : replies_in keyed (changed (counted 1000000) (set_running (packed 1 0 0 0) ∷ []) ∷ []) ++ replies (counted 1000000) (ns 1 "" "" ∷ es "r" (0 ∷ []) [] ∷ ee ∷ []) ≡ 11 ∷ 19 ∷ 19 ∷ 19 ∷ []
unfolding replies replies_in
eleven-nineteen = refl

-- 12 before 14: a number not defined, with 64 elements open
twelve-fourteen : replies (deep 64) (es "r" (0 ∷ []) [] ∷ []) ≡ 12 ∷ []
unfolding replies
twelve-fourteen = refl

-- 12 before 18, 17 before 18: no room for the record either
seventeen-eighteen : replies (lent 10 0 0) (ns 0 "p" "" ∷ ns 1 "p" "" ∷ ns 0 "p" "" ∷ ns 0 "q" "" ∷ []) ≡ 0 ∷ 12 ∷ 17 ∷ 18 ∷ []
unfolding replies
seventeen-eighteen = refl

-- 15 before 16: a tuple of one constraint and a report of another
abbrev both : List Bytes
both = keyed ∷ id 1 "" "." ("@no" ∷ []) ∷ es "r" (0 ∷ 1 ∷ []) (("id", "a") ∷ []) ∷ ee ∷ []

fifteen-sixteen : replies (lent 64 12 17) both ++ (replies (lent 64 13 17) both ++ replies (lent 64 13 18) both) ≡ 0 ∷ 0 ∷ 0 ∷ 15 ∷ 0 ∷ 0 ∷ 0 ∷ 16 ∷ 0 ∷ 0 ∷ 0 ∷ 0 ∷ []
unfolding replies
fifteen-sixteen = refl

-- 14 before 16: an ES that does not read, with 64 elements open, or 63, and no room for its report
abbrev unread-at : ℕ → World
unread-at d =
    changed (lent 17 0 17)
    (set_events 64 ∷ set_definitions 17 ∷ in_definitions 0 (id 0 "" "|" ("@id" ∷ [])) ∷ set_running (packed (suc d) 0 0 0) ∷ in_names 0 (replicate 32896 0) ∷ [])

fourteen-sixteen : replies_in (es "r" (0 ∷ []) []) (unread-at 64 ∷ unread-at 63 ∷ []) ≡ 14 ∷ 16 ∷ []
unfolding replies_in
fourteen-sixteen = refl

-- 14, 20, 21, 15 in this order: no one call meets all four, since an ES puts out no tuple. So by the rows alone: with so many elements, scopes and selections open afterwards,
-- and a tuple more, for which there is no room
any_scope : Scope
any_scope = record { number = 0; constraint = no_constraint }

state_with : (elements scopes selections : ℕ) → List Tuple → State
unfolding any_scope
state_with n s k ts =
    record {
      names = replicate n (record { space = []; local = [] });
      scopes = replicate s (record { scope = any_scope; depth = 0 });
      selections = replicate k (record { scope = any_scope; depth = 0; cells = [] });
      count = 0;
      events = 0;
      out = record { tuples = ts; reports = []; told = [] };
    }

session_with : (elements scopes selections : ℕ) → List Tuple → Session
session_with n s k ts = record { defs = no_definitions; stage = during; state = state_with n s k ts }

first_row : ℕ × ℕ × ℕ → Option ℕ
unfolding called state_with session_with
first_row (n, s, k) =
    Option.map refusal_number
    (first_of
    (rows (set_up [] [] [] [] [] [] 0) (session_with 1 0 0 []) (EE (record { simple = 0; key = [] }))
    (session_with n s k (record { constraint = no_constraint; scope = 0; keys = [] } ∷ [])) []))

fourteen-to-fifteen : map first_row ((65, 17, 33) ∷ (64, 17, 33) ∷ (64, 16, 33) ∷ (64, 16, 32) ∷ []) ≡ some 14 ∷ some 20 ∷ some 21 ∷ some 15 ∷ []
unfolding first_row
fourteen-to-fifteen = refl

-- 20 before 21 by the bytes: eight scopes take every element, eight none; with three elements open in the first eight, an ES that opens a seventeenth scope makes 33 selections too
twenty-twenty-one :
    replies small
    (id 0 "" ".//." ("@id" ∷ []) ∷ id 0 "" "x" ("@id" ∷ []) ∷ es "e" (replicate 8 0) [] ∷ es "e" (replicate 8 1) [] ∷ es "e" [] [] ∷ es "e" (2 ∷ []) [] ∷ es "e" (0 ∷ []) [] ∷ es "e" [] [] ∷ es "e" [] [] ∷ [])
    ≡ 0 ∷ 0 ∷ 0 ∷ 0 ∷ 0 ∷ 12 ∷ 20 ∷ 0 ∷ 21 ∷ []
unfolding replies
twenty-twenty-one = refl
