-- How a session lies in bytes: TU and RP records, open names, open scopes, open selections, the packed number.
-- Assumes nothing.
use Rattle.std.specs.Prelude.{ℕ, zero, suc, ◌+◌, ◌-◌, ◌*◌, ◌/◌, ◌%◌, eqb, leb, ltb, length, take, drop, replicate, get_or, cond, ◌&&◌, List, [], ◌∷◌, ◌++◌}
use Rattle.std.proofs.Math.ListN.{get_elem?}
use Rattle.std.proofs.Math.Option.{Option, none, some}
use Rattle.texts.specs.Texts.{Text, same}
use Rattle.numbers.specs.Numbers.{two_bytes, four_bytes}
use Rattle.paths.specs.Names.{Name}
use Rattle.paths.specs.Reading.{on_some, every}
use Rattle.tree.specs.Cells.{Cell, Unset, Set, SetNillable, NotSimple, Multiple}
use Rattle.tree.specs.Judge.{Tuple, Report}
use Rattle.machine.specs.Machine.{OpenScope, Selection}
use Rattle.records.specs.Readers.{Bytes, Reader, ◌>>=◌, pass, require, read_byte, read_two, read_four, read_text, times, record_at, bytes_from, put_text, put_texts}
use Rattle.session_spec.specs.Definitions.{Definitions, constraint_at}

-- ---- TU: mark, length, constraint byte, scope number, field count, key texts

pub record TuRecord : Type 0 where
  pub constraint : ℕ
  pub scope : ℕ
  pub keys : List Text

unfoldable pub read_tu : Reader TuRecord
read_tu = do
  a ← read_byte
  b ← read_byte
  _ ← require (eqb a 84 && eqb b 85)
  n ← read_two
  c ← read_byte
  s ← read_four
  k ← read_byte
  ts ← times k read_text
  _ ← require (eqb n (6 + length (put_texts ts)))
  pass (record { constraint = c; scope = s; keys = ts })

unfoldable pub put_tu : Tuple → Bytes
put_tu t =
    84 ∷ 85 ∷ (two_bytes (6 + length (put_texts t.keys)) ++ (t.constraint.number ∷ (four_bytes t.scope ++ (length t.keys ∷ put_texts t.keys))))

-- the TU that a tuple is written as, and the tuple that a TU stands for
unfoldable pub tu_of : Tuple → TuRecord
tu_of t = record { constraint = t.constraint.number; scope = t.scope; keys = t.keys }

unfoldable pub as_tuple : Definitions → TuRecord → Tuple
as_tuple d t = record { constraint = constraint_at d t.constraint; scope = t.scope; keys = t.keys }

unfoldable pub key_at : Option TuRecord → ℕ → Text
key_at none i = []
key_at (some t) i = get_or t.keys i []

-- THE TUPLE VIEW: field i of TU number n, counting from 1, in the used part of a tuple store; empty where there is none.
unfoldable pub tuple_field : (used : Bytes) → (n i : ℕ) → Text
tuple_field used zero i = []
tuple_field used (suc n) i = key_at (record_at n read_tu used) i

-- A part of the tuple store: where it starts, and how many bytes it has.
pub record Part : Type 0 where
  pub start : ℕ
  pub size : ℕ

abbrev pub empty_part : Part
empty_part = record { start = 0; size = 0 }

-- field i of the TU `t` that begins `at`: behind ten bytes of head, the fields before it and its own length
unfoldable pub part_in : (at : ℕ) → TuRecord → (i : ℕ) → Part
part_in at t i =
    cond (ltb i (length t.keys)) (record { start = at + (12 + length (put_texts (take i t.keys))); size = length (get_or t.keys i []) }) empty_part

unfoldable pub part_of : (used : Bytes) → Option Bytes → Option TuRecord → (i : ℕ) → Part
part_of used none t i = empty_part
part_of used (some rest) none i = empty_part
part_of used (some rest) (some t) i = part_in (length used - length rest) t i

-- the part that holds it
unfoldable pub field_part : (used : Bytes) → (n i : ℕ) → Part
field_part used zero i = empty_part
field_part used (suc n) i = part_of used (bytes_from n read_tu used) (record_at n read_tu used) i

-- ---- RP: mark, kind, constraint, field index, a zero, scope, event and tuple number

unfoldable pub read_rp : Reader Report
read_rp = do
  a ← read_byte
  b ← read_byte
  k ← read_byte
  c ← read_byte
  f ← read_byte
  z ← read_byte
  _ ← require ((eqb a 82 && eqb b 80) && eqb z 0)
  s ← read_four
  e ← read_four
  t ← read_four
  pass (record { kind = k; constraint = c; field = f; scope = s; event = e; tuple = t })

unfoldable pub put_rp : Report → Bytes
put_rp r = 82 ∷ 80 ∷ r.kind ∷ r.constraint ∷ r.field ∷ 0 ∷ (four_bytes r.scope ++ (four_bytes r.event ++ four_bytes r.tuple))

-- ---- places of one width

-- the `k` parts of width `w` that stand at the front
unfoldable pub parts : (w k : ℕ) → Bytes → List Bytes
parts w zero xs = []
parts w (suc k) xs = take w xs ∷ parts w k (drop w xs)

-- with zeros behind, to a length of n
unfoldable pub pad : ℕ → Bytes → Bytes
pad n xs = xs ++ replicate (n - length xs) 0

-- ---- an open name: two texts of at most 255 bytes, each in 257

unfoldable pub put_name : Name → Bytes
put_name n = pad 257 (put_text n.space) ++ pad 257 (put_text n.local)

unfoldable pub text_in : Bytes → Option Text
text_in xs = on_some (read_text xs) (λ q. some q.0)

unfoldable pub name_in : Bytes → Option Name
name_in xs = on_some (text_in (take 257 xs)) (λ s. on_some (text_in (drop 257 xs)) (λ p. some (record { space = s; local = p })))

-- ---- an open scope: a record of three numbers

pub record ScopeRecord : Type 0 where
  pub constraint : ℕ
  pub number : ℕ
  pub depth : ℕ

unfoldable pub put_scope : OpenScope → ScopeRecord
put_scope o = record { constraint = o.scope.constraint.number; number = o.scope.number; depth = o.depth }

unfoldable pub scope_in : Definitions → ScopeRecord → OpenScope
scope_in d s = record { scope = record { number = s.number; constraint = constraint_at d s.constraint }; depth = s.depth }

-- ---- an open selection: four cells of 128 bytes. A cell's first byte is its state and eight times a small number: the depth's rest and
-- quotient by 32 in cells 0 and 1, the place of the scope among the open ones in cell 2. Its second byte is the length of the key behind it.

unfoldable pub cell_state : Cell → ℕ
cell_state Unset = 0
cell_state (Set k) = 1
cell_state NotSimple = 2
cell_state Multiple = 3
cell_state (SetNillable k) = 4

-- a key stands only in a Set cell, marked or not
unfoldable pub key_of : Cell → Text
key_of Unset = []
key_of (Set k) = k
key_of (SetNillable k) = k
key_of NotSimple = []
key_of Multiple = []

unfoldable pub put_cell : (more : ℕ) → Cell → Bytes
put_cell more c = pad 128 ((cell_state c + 8 * more) ∷ length (key_of c) ∷ key_of c)

unfoldable pub cell_from : (state : ℕ) → Text → Option Cell
cell_from zero k = some Unset
cell_from (suc zero) k = some (Set k)
cell_from (suc (suc zero)) k = some NotSimple
cell_from (suc (suc (suc zero))) k = some Multiple
cell_from (suc (suc (suc (suc zero)))) k = some (SetNillable k)
cell_from (suc (suc (suc (suc (suc n))))) k = none

unfoldable pub cell_in : Bytes → Option Cell
cell_in xs = cond (leb (get_or xs 1 0) 126) (cell_from (get_or xs 0 0 % 8) (take (get_or xs 1 0) (drop 2 xs))) none

-- the small number of cell i
unfoldable pub more_in : ℕ → Bytes → ℕ
more_in i xs = get_or xs (128 * i) 0 / 8

-- the first place, from 0, of the scope with this number
unfoldable pub place_of : ℕ → List OpenScope → ℕ
place_of n [] = 0
place_of n (o ∷ os) = cond (eqb o.scope.number n) 0 (suc (place_of n os))

-- a field that the constraint does not have is Unset
unfoldable pub head_cell : List Cell → Cell
head_cell [] = Unset
head_cell (c ∷ cs) = c

unfoldable pub tail_cells : List Cell → List Cell
tail_cells [] = []
tail_cells (c ∷ cs) = cs

unfoldable pub put_cells : List ℕ → List Cell → Bytes
put_cells [] cs = []
put_cells (m ∷ ms) cs = put_cell m (head_cell cs) ++ put_cells ms (tail_cells cs)

unfoldable pub put_selection : List OpenScope → Selection → Bytes
put_selection os s = put_cells (s.depth % 32 ∷ s.depth / 32 ∷ place_of s.scope.number os ∷ 0 ∷ []) s.cells

-- a selection with these cells, as many as its constraint has fields
unfoldable pub selection_of : (depth : ℕ) → OpenScope → List Cell → Selection
selection_of depth o cs = record { scope = o.scope; depth = depth; cells = take (length o.scope.constraint.fields) cs }

-- it lies within its scope, and its bytes are exactly those that are written for it
unfoldable pub exactly : List OpenScope → OpenScope → Bytes → Selection → Option Selection
exactly os o xs s = cond (leb o.depth s.depth && same xs (put_selection os s)) (some s) none

unfoldable pub selection_with : List OpenScope → (depth : ℕ) → Bytes → Option OpenScope → Option Selection
selection_with os depth xs none = none
selection_with os depth xs (some o) = on_some (every cell_in (parts 128 4 xs)) (λ cs. exactly os o xs (selection_of depth o cs))

unfoldable pub selection_in : List OpenScope → Bytes → Option Selection
selection_in os xs = selection_with os (more_in 0 xs + 32 * more_in 1 xs) xs (get_elem? os (more_in 2 xs))

-- ---- the packed number: stage, open scopes, open selections, scopes opened so far

pub record Counts : Type 0 where
  pub stage : ℕ
  pub scopes : ℕ
  pub selections : ℕ
  pub opened : ℕ

unfoldable pub pack : Counts → ℕ
pack c = c.stage + 128 * (c.scopes + 32 * (c.selections + 64 * c.opened))

unfoldable pub unpack : ℕ → Counts
unpack n = record { stage = n % 128; scopes = n / 128 % 32; selections = n / 4096 % 64; opened = n / 262144 }
