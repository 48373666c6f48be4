-- Field cells: what the value means, the cell at a place of the area, the numbers of a selection, and the bytes that hits leave.
-- Assumes nothing.
use Rattle.std.specs.Prelude.{ℕ, zero, suc, ◌+◌, ◌*◌, ◌/◌, ◌%◌, eqb, leb, length, take, drop, replicate, Bool, cond, ◌||◌, List, [], ◌∷◌, ◌++◌}
use Rattle.std.proofs.Math.Option.{Option, none, some}
use Rattle.lists.specs.Lists.{foldl, part, put}
use Rattle.texts.specs.Texts.{Text}
use Rattle.tree.specs.Cells as tree
use Rattle.tree.specs.Cells.{Hit, Unset, Set, SetNillable, NotSimple, Multiple, element_hit}
use Rattle.tree.specs.Judge.{is_multiple}
use Rattle.machine.specs.Machine.{Selection, hit}
use Rattle.records.specs.Readers.{Bytes}
use Rattle.session_spec.specs.Layout.{put_cell, cell_in, more_in, put_cells}
use Rattle.cells.specs.declared.Key.{Key}
use Rattle.cells.specs.declared.Cell.{Cell}
use Rattle.cells.specs.declared.Cell.TheVariants as code
use Rattle.cells.specs.declared.State.{State}
use Rattle.cells.specs.declared.State.TheVariants as state

-- ---- the value

abbrev pub text_of : Key → Text
text_of k = take k.len k.bytes

unfoldable pub cell_of : Cell → tree.Cell
cell_of code.Unset = Unset
cell_of (code.Set k) = Set (text_of k)
cell_of code.NotSimple = NotSimple
cell_of code.Multiple = Multiple
cell_of (code.Nillable k) = SetNillable (text_of k)

-- the cell of a state's number; only a Set one, marked or not, has a key
unfoldable pub cell_by : (state : ℕ) → Text → tree.Cell
cell_by zero k = Unset
cell_by (suc zero) k = Set k
cell_by (suc (suc zero)) k = NotSimple
cell_by (suc (suc (suc zero))) k = Multiple
cell_by (suc (suc (suc (suc zero)))) k = SetNillable k
cell_by (suc (suc (suc (suc (suc n))))) k = Multiple

-- the numbers of the states
abbrev pub state_number : State → ℕ
state_number state.Unset = 0
state_number state.Set = 1
state_number state.NotSimple = 2
state_number state.Multiple = 3
state_number state.Nillable = 4

-- those of the states that have a key
abbrev pub has_key : (state : ℕ) → Bool
has_key s = eqb s 1 || eqb s 4

-- The hit of an element with this simple byte and this key; that of an attribute is the hit of one with simple byte 1. A key of more than 126
-- bytes is refused before; of such a one the first 126 count.
unfoldable pub hit_of : (byte : ℕ) → Text → Hit
hit_of byte key = element_hit (record { simple = byte; key = take 126 key })

-- what a first hit makes of a blank cell; any other cell becomes Multiple
unfoldable pub blank_or : tree.Cell → (next : tree.Cell) → tree.Cell
blank_or Unset c = c
blank_or (Set k) c = Multiple
blank_or (SetNillable k) c = Multiple
blank_or NotSimple c = Multiple
blank_or Multiple c = Multiple

-- ---- the cell at a place

unfoldable pub or_unset : Option tree.Cell → tree.Cell
or_unset none = Unset
or_unset (some c) = c

-- the cell that 128 bytes are; Unset where they are none
unfoldable pub cell_for : Bytes → tree.Cell
cell_for xs = or_unset (cond (leb 128 (length xs)) (cell_in xs) none)

unfoldable pub cell_at : Bytes → (at : ℕ) → tree.Cell
cell_at area at = cell_for (part area at 128)

-- ---- the selection at a place: the depth of its element, the place of its scope among the open ones

unfoldable pub depth_at : Bytes → (at : ℕ) → ℕ
depth_at area at = more_in 0 (part area at 512) + 32 * more_in 1 (part area at 512)

unfoldable pub scope_at : Bytes → (at : ℕ) → ℕ
scope_at area at = more_in 2 (part area at 512)

-- its bytes before any hit; a depth is below 1,024 and a place below 32
unfoldable pub blank_cells : (depth scope : ℕ) → Bytes
blank_cells depth scope = put_cells (depth % 32 ∷ depth / 32 % 32 ∷ scope % 32 ∷ 0 ∷ []) []

-- ---- hits

-- A cell's bytes after a hit that comes so many times. Without a hit, and where the cell is Multiple already, they stay as they are.
unfoldable pub hit_bytes : Hit → (times : ℕ) → Bytes → Bytes
hit_bytes h times xs =
    cond (eqb times 0 || is_multiple (cell_for xs)) xs (put_cell (more_in 0 xs) (foldl hit (cell_for xs) (replicate times h)))

-- bytes in which the cell at a place takes them
unfoldable pub hit_at : Hit → (at : ℕ) → (times : ℕ) → Bytes → Bytes
hit_at h at times area = put area at (hit_bytes h times (part area at 128))

-- `f x` of each chunk of w bytes in its place, for the x of a list one after the other; what is past them stays
unfoldable pub each_chunk : {A : Type 0} → (w : ℕ) → (A → Bytes → Bytes) → List A → Bytes → Bytes
each_chunk w f [] area = area
each_chunk w f (x ∷ xs) area = f x (take w area) ++ each_chunk w f xs (drop w area)

-- The area after selection 0, 1, .. took a hit as often as the list says, each in the cell of this field.
unfoldable pub hit_selections : Hit → (field : ℕ) → (counts : List ℕ) → Bytes → Bytes
hit_selections h field counts area = each_chunk 512 (hit_at h (128 * field)) counts area

-- ---- the same of the machine's selections

-- cell i of a selection takes hits
unfoldable pub hit_nth : (i : ℕ) → List Hit → List tree.Cell → List tree.Cell
hit_nth i hs [] = []
hit_nth zero hs (c ∷ cs) = foldl hit c hs ∷ cs
hit_nth (suc i) hs (c ∷ cs) = c ∷ hit_nth i hs cs

unfoldable pub hit_field : (field : ℕ) → List Hit → Selection → Selection
hit_field field hs s = record { scope = s.scope; depth = s.depth; cells = hit_nth field hs s.cells }

-- each selection takes a hit as often as its count says
unfoldable pub hit_each : Hit → (field : ℕ) → (counts : List ℕ) → List Selection → List Selection
hit_each h field [] ss = ss
hit_each h field (t ∷ ts) [] = []
hit_each h field (t ∷ ts) (s ∷ ss) = hit_field field (replicate t h) s ∷ hit_each h field ts ss

-- one field after the other, from field i on
unfoldable pub hit_fields : (i : ℕ) → List (List Hit) → List tree.Cell → List tree.Cell
hit_fields i [] cs = cs
hit_fields i (hs ∷ hss) cs = hit_fields (suc i) hss (hit_nth i hs cs)
