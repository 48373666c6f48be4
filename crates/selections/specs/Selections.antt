-- When the open selections read: each of an open scope, on an open element, its bytes exactly as they are written, and all of them in order.
-- Assumes nothing.
use Rattle.std.specs.Prelude.{ℕ, ◌/◌, ◌%◌, eqb, leb, ltb, take, get_or, Bool, true, false, ◌&&◌, ◌||◌, List, [], ◌∷◌, map}
use Rattle.std.proofs.Math.ListN.{get_elem?}
use Rattle.std.proofs.Math.Option.{Option, none, some}
use Rattle.lists.specs.Lists.{all}
use Rattle.texts.specs.Texts.{same}
use Rattle.paths.specs.Reading.{every}
use Rattle.tree.specs.Cells.{Cell}
use Rattle.records.specs.Readers.{Bytes}
use Rattle.session_spec.specs.Layout.{ScopeRecord, parts, cell_in, put_cells}
use Rattle.cells.specs.Cells.{depth_at, scope_at}

-- What a selection is held against: the number and depth of its scope, and how many fields the scope's constraint has.
pub record Home : Type 0 where
  pub number : ℕ
  pub depth : ℕ
  pub fields : ℕ

-- an open scope whose constraint has so many fields
abbrev pub home_of : ScopeRecord → (fields : ℕ) → Home
home_of s n = record { number = s.number; depth = s.depth; fields = n }

-- each open scope with its count of fields; a count that is missing is 0
unfoldable pub homes : List ScopeRecord → List ℕ → List Home
homes [] ns = []
homes (s ∷ ss) [] = home_of s 0 ∷ homes ss []
homes (s ∷ ss) (n ∷ ns) = home_of s n ∷ homes ss ns

-- ---- one selection: its depth is `depth_at xs 0`, and its scope is the one at the place `scope_at xs 0`

-- the bytes are exactly those that are written for these cells, blank ones for the fields that are missing
unfoldable pub written_for : (fields : ℕ) → Bytes → Option (List Cell) → Bool
written_for fields xs none = false
written_for fields xs (some cs) = same xs (put_cells (depth_at xs 0 % 32 ∷ depth_at xs 0 / 32 ∷ scope_at xs 0 ∷ 0 ∷ []) (take fields cs))

-- for the cells that they hold
unfoldable pub written : (fields : ℕ) → Bytes → Bool
written fields xs = written_for fields xs (every cell_in (parts 128 4 xs))

-- it lies within a scope of depth `least` and on one of `depth` open elements, and is written so
unfoldable pub fits_within : (least fields depth : ℕ) → Bytes → Bool
fits_within least fields depth xs = leb least (depth_at xs 0) && (leb (depth_at xs 0) depth && written fields xs)

-- a selection of a scope that is not open does not fit
unfoldable pub fits_home : Option Home → (depth : ℕ) → Bytes → Bool
fits_home none depth xs = false
fits_home (some h) depth xs = fits_within h.depth h.fields depth xs

-- it fits the scope that it names
unfoldable pub selection_fits : List Home → (depth : ℕ) → Bytes → Bool
selection_fits hs depth xs = fits_home (get_elem? hs (scope_at xs 0)) depth xs

-- ---- all of them

-- the number of its scope
unfoldable pub number_in : List Home → Bytes → ℕ
number_in hs xs = get_or (map (λ h. h.number) hs) (scope_at xs 0) 0

-- behind a selection of depth `last` and scope `number` comes a deeper one or, on the same depth, one of a later scope
unfoldable pub is_after : (last number : ℕ) → (deep own : ℕ) → Bool
is_after last number deep own = ltb last deep || (eqb last deep && ltb number own)

-- each comes behind the one before it
unfoldable pub in_order : List Home → (last number : ℕ) → List Bytes → Bool
in_order hs last number [] = true
in_order hs last number (x ∷ xs) = is_after last number (depth_at x 0) (number_in hs x) && in_order hs (depth_at x 0) (number_in hs x) xs

-- THE SELECTIONS READ: each fits its scope, and they are in order.
unfoldable pub selections_fit : List Home → (depth : ℕ) → List Bytes → Bool
selections_fit hs depth xs = all (selection_fits hs depth) xs && in_order hs 0 0 xs
