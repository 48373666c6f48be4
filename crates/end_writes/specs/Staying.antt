-- Which selections finish at the end of an element, and the area after the hits of those that stay open.
-- Assumes nothing.
use Rattle.std.specs.Prelude.{ℕ, zero, suc, min, ◌+◌, ◌*◌, ◌≤◌, ◌<◌, eqb, length, take, drop, get_or, ◌≡◌, cond}
use Rattle.std.proofs.Math.ListN.{get_elem?}
use mathlib.Core.List.{List, [], ◌∷◌, ◌++◌, map, flat_map}
use Rattle.std.proofs.Math.Option.{none, some}
use Rattle.lists.specs.Lists.{part, All}
use Rattle.texts.specs.Texts.{Text}
use Rattle.paths.specs.Names.{Name}
use Rattle.paths.specs.Reading.{every}
use Rattle.tree.specs.Events.{End}
use Rattle.tree.specs.Cells.{Hit, reach}
use Rattle.machine.specs.Machine.{OpenScope, Selection, end_gives, feed}
use Rattle.records.specs.Readers.{Bytes}
use Rattle.session_spec.specs.Layout.{parts, put_selection, selection_in}
use Rattle.session_laws.proofs.Areas.{SelectionFit}
use Rattle.cells.specs.Cells.{depth_at, hit_of, hit_selections}

-- ---- which finish

-- the place of the first of n selections, from place j on, whose element is at this depth
unfoldable pub deep_from : (cells : Bytes) → (j n depth : ℕ) → ℕ
deep_from cells j zero depth = j
deep_from cells j (suc n) depth = cond (eqb (depth_at cells (512 * j)) depth) j (deep_from cells (suc j) n depth)

unfoldable pub first_deep : (cells : Bytes) → (n depth : ℕ) → ℕ
first_deep cells n depth = deep_from cells 0 (min 32 n) depth

-- ---- hits

-- number 32 f + j of the counts says how often the element is reached from selection j by its field f
abbrev pub Reached : List Name → (counts : Bytes) → List Selection → Type 0
Reached names counts ss =
    (f j : ℕ) (x : Selection) → f < 4 → get_elem? ss j ≡ some x → get_or counts (32 * f + j) 0 ≡ reach (get_or x.scope.constraint.fields f []) (drop x.depth names) none

-- the row of a field
abbrev pub row_of : (counts : Bytes) → (first field : ℕ) → Bytes
row_of counts first f = take first (part counts (32 * f) 32)

-- one field after the other
abbrev pub hit_four : Hit → (first : ℕ) → (counts cells : Bytes) → Bytes
hit_four h first counts cells =
    hit_selections h 3 (row_of counts first 3)
    (hit_selections h 2 (row_of counts first 2)
    (hit_selections h 1 (row_of counts first 1)
    (hit_selections h 0 (row_of counts first 0) cells)))

-- the simple byte and the key are those of an EE
pub record EndIs (e : End) (byte : ℕ) (key : Text) : Type 0 where
  pub simple : byte ≡ e.simple
  pub text : key ≡ e.key
  pub short : length key ≤ 126

-- THE AREA: where it reads as selections, those with the element's hits, and all behind them as it was
pub record HitsStaying (cells : Bytes) (first : ℕ) (counts : Bytes) (byte : ℕ) (key : Text) (after : Bytes) : Type 0 where
  pub bytes : after ≡ hit_four (hit_of byte key) first counts cells
  pub says : (os : List OpenScope) (ss : List Selection) (names : List Name) (e : End) → EndIs e byte key
      → every (selection_in os) (parts 512 (length ss) cells) ≡ some ss → All (SelectionFit os) ss → length ss ≡ first → first ≤ 32 → length counts ≡ 128
      → Reached names counts ss
      → after ≡ flat_map (put_selection os) (map (feed names (end_gives e)) ss) ++ drop (512 * first) cells
