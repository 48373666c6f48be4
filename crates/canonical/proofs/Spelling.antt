-- The writer, by what it is to answer: it refuses nothing that it wrote and writes it again as it stands, and what it
-- writes is never empty. By the laws of the canonical text: it is read as the same path, it is UTF-8, it is within
-- the limits.
-- Assumes nothing.
use Prim.Native.Nat.{ℕ, ◌≤◌}
use native.Mathlib.Omega.{arith}
use lib.Dec.{eqb}
use lib.ListN.{length}
use borrow.Author.Tests.{le-ltb}
use mathlib.Core.Path.{◌≡◌, refl, sym, ◌∙◌}
use mathlib.Core.Bool.{Bool, false}
use mathlib.Core.List.{List, [], ◌∷◌, flat_map}
use mathlib.Core.Option.{none, some}
use Rattle.lists.specs.Lists.{all, passing}
use Rattle.texts.specs.Texts.{Text, same}
use Rattle.utf8.specs.Utf8.{decode_from, decode, utf8}
use Rattle.paths.specs.Reading.{WrittenAlt, on_some, every, or_else, split_at, behind, without_space, starts_well, name_test, element_part, part_of, as_part, is_nil, walk_part, walk_parts, marked, alt_of, read_alt, read_path}
use Rattle.reasons.proofs.Walks.{no-some}
use Rattle.records.specs.Readers.{Bytes}
use Rattle.canonical.specs.Canonical.{canonical}
use Rattle.canonical.specs.Writing.{path_over, placed, spelled_of, spelled}
use Rattle.canonical.proofs.Again.{canonical-read, canonical-utf8}
use Rattle.canonical.proofs.Weights.{canonical-within}

-- WRITTEN AGAIN IT STAYS: the text of a path within the limits is turned back by nothing but a short output, and is
-- its own text.
pub spelled-again : (kind : ℕ) → kind ≤ 1 → (t : Text) → path_over t ≡ false → (alts : List WrittenAlt) → read_path (eqb kind 1) t ≡ some alts → (out : Bytes)
    → spelled kind (canonical alts) out ≡ placed (canonical alts) out
unfolding spelled spelled_of
spelled-again kind k t l alts e out =
    rw (le-ltb 1 kind k, canonical-utf8 (eqb kind 1) t alts e, canonical-within (eqb kind 1) t alts e l, canonical-read (eqb kind 1) t alts e)

-- THE TEXT IS NEVER EMPTY: no path of no bytes is read.
empty-unread : (field : Bool) → read_path field [] ≡ none
unfolding read_path utf8 decode decode_from same without_space passing flat_map split_at every on_some read_alt alt_of behind marked walk_parts walk_part is_nil as_part part_of or_else element_part name_test starts_well
empty-unread field = refl

pub text-some : (field : Bool) (t : Text) (alts : List WrittenAlt) → read_path field t ≡ some alts → 1 ≤ length (canonical alts)
text-some field t alts e = by (canonical alts) (canonical-read field t alts e)
  where
    by : (s : Text) → read_path field s ≡ some alts → 1 ≤ length s
    by [] q = no-some (sym q ∙ empty-unread field)
    by (c ∷ s) q = omega arith
