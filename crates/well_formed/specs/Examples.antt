-- Computed: which worlds decode. A session with one element, one scope and one selection open, and worlds that differ from it in one thing.
-- Assumes nothing.
use Rattle.std.specs.Prelude.{ℕ, length, replicate, ◌≡◌, refl, Bool, true, false}
use mathlib.Core.List.{List, [], ◌∷◌, ◌++◌, map, flat_map}
use Rattle.std.proofs.Math.Option.{Option, none, some}
use Rattle.records.specs.Readers.{Bytes}
use Rattle.session_spec.specs.Definitions.{Definitions, no_definitions, is_some}
use Rattle.session_spec.specs.Session.{World, decode}
use Rattle.session_spec.specs.Computed.{id, packed, definitions_in, called}
use Rattle.open_scopes.specs.declared.Scope.{Scope}
use Rattle.open_scopes.specs.declared.Numbers.{Numbers}
use Rattle.open_scopes.specs.OpenScopes.{blank_scope}
use Rattle.worlds.specs.Worlds.{world_of}
use Rattle.well_formed.specs.Parts.{areas_read, stores_read}

-- ---- what is lent

abbrev numbers : (events running definitions tuples reports : ℕ) → Numbers
numbers e r d t p = record { events = e; running = r; definitions = d; tuples = t; reports = p }

-- of sixteen places: constraint, number, depth of the first
abbrev scopes : ℕ → ℕ → ℕ → List Scope
scopes c n d = record { constraint = c; number = n; depth = d } ∷ replicate 15 blank_scope

-- a key on the element itself with the field `@id`: 17 bytes, and three behind
abbrev defs : Bytes
defs = id 1 "" "." ("@id" ∷ []) ++ (7 ∷ 7 ∷ 7 ∷ [])

-- a TU of a constraint and a scope, with the key a: 13 bytes
abbrev tuple : (constraint scope : ℕ) → Bytes
tuple c s = 84 ∷ 85 ∷ 9 ∷ 0 ∷ c ∷ s ∷ 0 ∷ 0 ∷ 0 ∷ 1 ∷ 1 ∷ 0 ∷ 97 ∷ []

-- an RP of a constraint: kind 4, event 2, tuple 1
abbrev report : (constraint : ℕ) → Bytes
report c = 82 ∷ 80 ∷ 4 ∷ c ∷ 0 ∷ 0 ∷ 1 ∷ 0 ∷ 0 ∷ 0 ∷ 2 ∷ 0 ∷ 0 ∷ 0 ∷ 1 ∷ 0 ∷ 0 ∷ 0 ∷ []

-- open names: the length of the first namespace text, in two bytes
abbrev names : ℕ → ℕ → Bytes
names a b = a ∷ b ∷ replicate 32894 0

-- the first selection: the first bytes of its cells
abbrev cells : ℕ → ℕ → ℕ → Bytes
cells a b c = (a ∷ replicate 127 0) ++ ((b ∷ replicate 127 0) ++ ((c ∷ replicate 127 0) ++ replicate 16000 0))

fits : World → Bool
unfolding called
fits w = is_some (decode w)

-- ---- one element, one scope and one selection open after two records

abbrev lent : Numbers → List Scope → (tuples reports names cells : Bytes) → World
lent n l ts rs na cs = world_of n l 1024 defs ts rs na cs

-- stage, open scopes, open selections, scopes opened
abbrev counted : ℕ → ℕ → ℕ → ℕ → Numbers
counted stage scopes selections opened = numbers 2 (packed stage scopes selections opened) 17 13 18

abbrev usual : Numbers
usual = counted 2 1 1 1

-- as it is; a name of 255 bytes and a Set cell; nothing put out; the sixteenth scope that was opened; no selection open, whatever the cells hold
abbrev good : List World
good =
    lent usual (scopes 0 1 1) (tuple 0 1) (report 0) (names 0 0) (cells 8 0 0)
    ∷ lent usual (scopes 0 1 1) (tuple 0 1) (report 0) (names 255 0) (cells 9 0 0)
    ∷ lent (numbers 2 (packed 2 1 1 1) 17 0 0) (scopes 0 1 1) [] [] (names 0 0) (cells 8 0 0)
    ∷ lent (counted 2 1 1 16) (scopes 0 16 1) (tuple 0 16) (report 0) (names 0 0) (cells 8 0 0)
    ∷ lent (counted 2 1 0 1) (scopes 0 1 1) (tuple 0 1) (report 0) (names 0 0) (cells 99 0 0)
    ∷ []

-- a byte short: the path area; the definitions cut, and past their store; the tuples and the reports past theirs
abbrev short : List World
short =
    world_of usual (scopes 0 1 1) 1023 defs (tuple 0 1) (report 0) (names 0 0) (cells 8 0 0)
    ∷ lent (numbers 2 (packed 2 1 1 1) 16 13 18) (scopes 0 1 1) (tuple 0 1) (report 0) (names 0 0) (cells 8 0 0)
    ∷ lent (numbers 2 (packed 2 1 1 1) 21 13 18) (scopes 0 1 1) (tuple 0 1) (report 0) (names 0 0) (cells 8 0 0)
    ∷ lent (numbers 2 (packed 2 1 1 1) 17 14 18) (scopes 0 1 1) (tuple 0 1) (report 0) (names 0 0) (cells 8 0 0)
    ∷ lent (numbers 2 (packed 2 1 1 1) 17 13 19) (scopes 0 1 1) (tuple 0 1) (report 0) (names 0 0) (cells 8 0 0)
    ∷ []

-- what does not read: a name; a scope of constraint 1, of number 2, of depth 2; a selection of depth 2, one of the second scope, one with a field that the
-- constraint lacks; a TU of constraint 1, of scope 2; an RP of constraint 1; 17 scopes opened in two events
abbrev bad : List World
bad =
    lent usual (scopes 0 1 1) (tuple 0 1) (report 0) (names 0 1) (cells 8 0 0)
    ∷ lent usual (scopes 1 1 1) (tuple 0 1) (report 0) (names 0 0) (cells 8 0 0)
    ∷ lent usual (scopes 0 2 1) (tuple 0 1) (report 0) (names 0 0) (cells 8 0 0)
    ∷ lent usual (scopes 0 1 2) (tuple 0 1) (report 0) (names 0 0) (cells 8 0 0)
    ∷ lent usual (scopes 0 1 1) (tuple 0 1) (report 0) (names 0 0) (cells 16 0 0)
    ∷ lent usual (scopes 0 1 1) (tuple 0 1) (report 0) (names 0 0) (cells 8 0 8)
    ∷ lent usual (scopes 0 1 1) (tuple 0 1) (report 0) (names 0 0) (cells 8 1 0)
    ∷ lent usual (scopes 0 1 1) (tuple 1 1) (report 0) (names 0 0) (cells 8 0 0)
    ∷ lent usual (scopes 0 1 1) (tuple 0 2) (report 0) (names 0 0) (cells 8 0 0)
    ∷ lent usual (scopes 0 1 1) (tuple 0 1) (report 1) (names 0 0) (cells 8 0 0)
    ∷ lent (counted 2 1 1 17) (scopes 0 1 1) (tuple 0 1) (report 0) (names 0 0) (cells 8 0 0)
    ∷ []

which-decode : map fits (good ++ (short ++ bad)) ≡ replicate 5 true ++ replicate 16 false
unfolding fits
which-decode = refl

-- ---- what is asked of a record, and what is not

-- the same with other bytes in one thing: definitions; tuples; reports; names; cells
abbrev told : (definitions tuples reports names cells : Bytes) → World
told ds ts rs na cs = world_of (numbers 2 (packed 2 1 1 1) 17 (length ts) (length rs)) (scopes 0 1 1) 1024 ds ts rs na cs

-- a TU of constraint 0 or 1 with this scope and one key of one byte
abbrev keyed : (constraint scope key : ℕ) → Bytes
keyed c s k = 84 ∷ 85 ∷ 9 ∷ 0 ∷ c ∷ s ∷ 0 ∷ 0 ∷ 0 ∷ 1 ∷ 1 ∷ 0 ∷ k ∷ []

-- two keys, where the constraint has one field; a key of 127 bytes
abbrev wide : Bytes
wide = 84 ∷ 85 ∷ 10 ∷ 0 ∷ 0 ∷ 1 ∷ 0 ∷ 0 ∷ 0 ∷ 2 ∷ 0 ∷ 0 ∷ 0 ∷ 0 ∷ []

abbrev long : Bytes
long = (84 ∷ 85 ∷ 135 ∷ 0 ∷ 0 ∷ 1 ∷ 0 ∷ 0 ∷ 0 ∷ 1 ∷ 127 ∷ 0 ∷ []) ++ replicate 127 97

-- an RP of a constraint with kind, field, scope, event and tuple number 9
abbrev nines : (constraint : ℕ) → Bytes
nines c = 82 ∷ 80 ∷ 9 ∷ c ∷ 9 ∷ 0 ∷ 9 ∷ 0 ∷ 0 ∷ 0 ∷ 9 ∷ 0 ∷ 0 ∷ 0 ∷ 9 ∷ 0 ∷ 0 ∷ 0 ∷ []

-- a namespace text of one byte, with a byte behind it; a Set cell of this key length, with its first byte
abbrev one_name : ℕ → Bytes
one_name b = 1 ∷ 0 ∷ b ∷ 7 ∷ replicate 32892 0

abbrev one_key : ℕ → ℕ → Bytes
one_key n b = (9 ∷ n ∷ b ∷ replicate 125 0) ++ replicate 16256 0

-- the ID of `defs`, its selector this byte
abbrev one_selector : ℕ → Bytes
one_selector b = 73 ∷ 68 ∷ 13 ∷ 0 ∷ 1 ∷ 0 ∷ 0 ∷ 0 ∷ 1 ∷ 0 ∷ b ∷ 1 ∷ 3 ∷ 0 ∷ 64 ∷ 105 ∷ 100 ∷ []

-- NOT ASKED: that a TU's key is UTF-8; that its scope is not 0; that it has as many keys as its constraint has fields;
-- that a key has 126 bytes at most; kind, field, scope, event and tuple number of an RP; that an open name is UTF-8, and
-- what is behind it; that the key of a cell is UTF-8
abbrev let_through : List World
let_through =
    told defs (keyed 0 1 255) (report 0) (names 0 0) (cells 8 0 0)
    ∷ told defs (keyed 0 0 97) (report 0) (names 0 0) (cells 8 0 0)
    ∷ told defs wide (report 0) (names 0 0) (cells 8 0 0)
    ∷ told defs long (report 0) (names 0 0) (cells 8 0 0)
    ∷ told defs (keyed 0 1 97) (nines 0) (names 0 0) (cells 8 0 0)
    ∷ told defs (keyed 0 1 97) (report 0) (one_name 255) (cells 8 0 0)
    ∷ told defs (keyed 0 1 97) (report 0) (names 0 0) (one_key 1 255)
    ∷ []

-- ASKED: that what a TU and an RP refer to is there; that the key of a cell has 126 bytes at most; that a definition is
-- UTF-8
abbrev held_back : List World
held_back =
    told defs (keyed 1 1 255) (report 0) (names 0 0) (cells 8 0 0)
    ∷ told defs (keyed 0 2 255) (report 0) (names 0 0) (cells 8 0 0)
    ∷ told defs (keyed 0 1 97) (nines 1) (names 0 0) (cells 8 0 0)
    ∷ told defs (keyed 0 1 97) (report 0) (names 0 0) (one_key 127 97)
    ∷ told (one_selector 255) (keyed 0 1 97) (report 0) (names 0 0) (cells 8 0 0)
    ∷ []

asked-or-not : map fits (let_through ++ (held_back ++ (told (one_selector 46) (keyed 0 1 97) (report 0) (names 0 0) (cells 8 0 0) ∷ []))) ≡ replicate 7 true ++ (replicate 5 false ++ (true ∷ []))
unfolding fits
asked-or-not = refl

-- ---- the parts by themselves

abbrev or_none : Option Definitions → Definitions
or_none none = no_definitions
or_none (some d) = d

-- two elements open, and the namespace text of the second has 256 bytes
second-name : areas_read no_definitions (record { stage = 3; scopes = 0; selections = 0; opened = 0 }) [] (replicate 514 0 ++ (0 ∷ 1 ∷ replicate 512 0)) [] ≡ false
unfolding areas_read called
second-name = refl

-- one scope was opened, and 64 tuples may stand there: of scope 2 none may
second-scope : map (λ (s : ℕ). stores_read (or_none (definitions_in (id 1 "" "." ("@id" ∷ [])))) 1 64 (keyed 0 s 97) []) (1 ∷ 2 ∷ []) ≡ true ∷ false ∷ []
unfolding stores_read called
second-scope = refl

-- two events and 64 TUs with no key; one more
abbrev tuples : ℕ → Bytes
tuples n = flat_map (λ x. x) (replicate n (84 ∷ 85 ∷ 6 ∷ 0 ∷ 0 ∷ 1 ∷ 0 ∷ 0 ∷ 0 ∷ 0 ∷ []))

most-tuples : map fits (
    lent (numbers 2 (packed 2 1 1 1) 17 640 18) (scopes 0 1 1) (tuples 65) (report 0) (names 0 0) (cells 8 0 0)
    ∷ lent (numbers 2 (packed 2 1 1 1) 17 650 18) (scopes 0 1 1) (tuples 65) (report 0) (names 0 0) (cells 8 0 0)
    ∷ [])
    ≡ true ∷ false ∷ []
unfolding fits flat_map
most-tuples = refl

-- just set up, whatever the stores and areas hold
set-up : fits (world_of (numbers 0 0 0 0 0) (replicate 16 (record { constraint = 7; number = 7; depth = 7 })) 1024 [] [] [] (replicate 32896 7) (replicate 16384 7)) ≡ true
unfolding fits
set-up = refl
