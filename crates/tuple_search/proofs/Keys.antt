-- The keys of a finished selection are those of its outcome: where it has a tuple every cell is Set, marked or not, and the bytes of a selection are read cell
-- by cell.
-- Assumes nothing.
use Prim.Native.Nat.{ℕ, suc, ◌+◌, ◌*◌, ◌≤◌, ◌<◌, min}
use native.Mathlib.Nat.{zero-add}
use native.Mathlib.Omega.{arith}
use lib.ListN.{length, take, drop, get_or}
use lib.Seq.{drop-drop}
use mathlib.Core.Path.{◌≡◌, refl, ap, sym, ◌∙◌}
use mathlib.Core.Bool.{Bool, true, false, cond}
use mathlib.Core.List.{List, [], ◌∷◌, map}
use mathlib.Core.Option
use mathlib.Core.Option.{Option, none, some, some-injective, map-eq-none_iff}
use Rattle.lists.specs.Lists.{any, All}
use Rattle.texts.specs.Texts.{Text}
use Rattle.tree.specs.Cells.{Cell, Unset, Set, SetNillable, NotSimple, Multiple}
use Rattle.tree.specs.Judge.{is_multiple, is_not_simple, first_unset, first_nillable, keys_of, Outcome, several_nodes, no_simple_value, missing, on_nillable, complete, set_or, missing_or, outcome}
use Rattle.machine.specs.Machine.{OpenScope, Selection}
use Rattle.records.specs.Readers.{Bytes}
use Rattle.session_spec.specs.Layout.{key_of, put_selection}
use Rattle.session_laws.proofs.Areas.{CellFit}
use Rattle.cells.specs.Cells.{cell_for, cell_at}
use Rattle.cells.proofs.Selections.{cell-here}
use Rattle.tuple_search.specs.Search.{first_keys, keys_in}

-- ---- an outcome with a tuple

-- the tuple, where every field is Set
unfoldable pub tuple_in : Outcome → Option (List Text)
tuple_in several_nodes = none
tuple_in no_simple_value = none
tuple_in (missing i) = none
tuple_in (on_nillable i ks) = some ks
tuple_in (complete ks) = some ks

-- no cell is Multiple, none NotSimple, and none Unset
all_set : (cs : List Cell) → any is_multiple cs ≡ false → any is_not_simple cs ≡ false → first_unset cs ≡ none → map key_of cs ≡ keys_of cs
unfolding is_multiple is_not_simple first_unset keys_of key_of
all_set [] m n u = refl
all_set (Unset ∷ cs) m n u = let z : ◌≡◌ {A = ℕ} 0 1 = cc in absurd (omega arith)
all_set (Set k ∷ cs) m n u = ap (λ (l : List Text). k ∷ l) (all_set cs m n ((map-eq-none_iff suc (first_unset cs)).0 u))
all_set (SetNillable k ∷ cs) m n u = ap (λ (l : List Text). k ∷ l) (all_set cs m n ((map-eq-none_iff suc (first_unset cs)).0 u))
all_set (NotSimple ∷ cs) m n u = let z : ◌≡◌ {A = ℕ} 0 1 = cc in absurd (omega arith)
all_set (Multiple ∷ cs) m n u = let z : ◌≡◌ {A = ℕ} 0 1 = cc in absurd (omega arith)

-- whether a field is marked or not
pub either_way : (v : Option ℕ) (ks : List Text) → tuple_in (set_or v ks) ≡ some ks
unfolding tuple_in set_or
either_way none ks = refl
either_way (some i) ks = refl

-- the keys are those of all cells, and those of the Set ones
pub tuple-keys : (cs : List Cell) (ks : List Text) → tuple_in (outcome cs) ≡ some ks → (map key_of cs ≡ ks) × (keys_of cs ≡ ks)
unfolding outcome missing_or
tuple-keys cs ks h = by (any is_multiple cs) (any is_not_simple cs) (first_unset cs) refl refl refl h
  where
    by : (m n : Bool) (u : Option ℕ) → any is_multiple cs ≡ m → any is_not_simple cs ≡ n → first_unset cs ≡ u
        → tuple_in (cond m several_nodes (cond n no_simple_value (missing_or u (set_or (first_nillable cs) (keys_of cs))))) ≡ some ks → (map key_of cs ≡ ks) × (keys_of cs ≡ ks)
    by true n u p q r h = unfold tuple_in in (let z : ◌≡◌ {A = ℕ} 0 1 = cc in absurd (omega arith))
    by false true u p q r h = unfold tuple_in in (let z : ◌≡◌ {A = ℕ} 0 1 = cc in absurd (omega arith))
    by false false (some i) p q r h = unfold tuple_in in (let z : ◌≡◌ {A = ℕ} 0 1 = cc in absurd (omega arith))
    by false false none p q r h =
        let e : keys_of cs ≡ ks = some-injective (keys_of cs) ks (sym (either_way (first_nillable cs) (keys_of cs)) ∙ h) in (all_set cs p q r ∙ e, e)

-- ---- cells in bytes

keys-at : (cs : List Cell) (cells : Bytes) → ((i : ℕ) → i < length cs → cell_at cells (128 * i) ≡ get_or cs i Unset) → first_keys (length cs) cells ≡ map key_of cs
unfolding first_keys cell_at
keys-at [] cells h = refl
keys-at (c ∷ cs) cells h =
    let first : cell_for (take 128 cells) ≡ c = h 0 (omega arith) in
    ap (λ (x : Cell). key_of x ∷ first_keys (length cs) (drop 128 cells)) first
    ∙ ap (λ (l : List Text). key_of c ∷ l) (keys-at cs (drop 128 cells) (λ i l. next i ∙ h (suc i) (omega arith)))
  where
    next : (i : ℕ) → cell_at (drop 128 cells) (128 * i) ≡ cell_at cells (128 * suc i)
    next i =
        let e : 128 + 128 * i ≡ 128 * suc i = omega arith in
        ap (λ (x : Bytes). cell_for (take 128 x)) (drop-drop (128 * i) 128 cells ∙ ap (λ (k : ℕ). drop k cells) e)

pub keys-are : (cells : Bytes) (cs : List Cell) (ks : List Text) → length cs ≤ 4 → ((i : ℕ) → i < length cs → cell_at cells (128 * i) ≡ get_or cs i Unset)
    → tuple_in (outcome cs) ≡ some ks → keys_in (length cs) cells ≡ ks
unfolding keys_in
keys-are cells cs ks n h o =
    let e : min 4 (length cs) ≡ length cs = omega arith in
    rw e (keys-at cs cells h ∙ (tuple-keys cs ks o).0)

-- the 512 bytes of an open selection
pub selection-keys : (os : List OpenScope) (s : Selection) (cells : Bytes) (ks : List Text) → All CellFit s.cells → take 512 cells ≡ put_selection os s
    → length s.cells ≤ 4 → tuple_in (outcome s.cells) ≡ some ks → keys_in (length s.cells) cells ≡ ks
selection-keys os s cells ks fit here n o =
    keys-are cells s.cells ks n (λ i l. ap (cell_at cells) (sym (zero-add (128 * i))) ∙ cell-here os s cells 0 fit here i (omega arith)) o
