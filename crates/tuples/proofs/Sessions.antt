-- The answer of `tuples_read` in a session's words: it says where the tuple store of a session decodes. Both are tests of the same list.
-- Assumes nothing.
use Prim.Native.Nat.{ℕ}
use lib.ListN.{length}
use mathlib.Core.Path.{◌≡◌, refl}
use mathlib.Core.Bool.{Bool, true, false, cond}
use mathlib.Core.List.{List, map}
use mathlib.Core.Option.{Option, none, some}
use Rattle.paths.specs.Reading.{on_some}
use Rattle.tree.specs.Judge.{Tuple}
use Rattle.records.specs.Readers.{Bytes, reads}
use Rattle.session_spec.specs.Definitions.{Definitions, is_some}
use Rattle.session_spec.specs.Layout.{TuRecord, read_tu, as_tuple}
use Rattle.session_spec.specs.Session.{tu_fits, tuples_in}
use Rattle.output_stores.specs.Stores.{on_list, reads_as}
use Rattle.tuples.specs.Tuples.{tuples_fit}

pub tuples-decode : (d : Definitions) (opened most : ℕ) (used : Bytes)
    → is_some (on_some (reads read_tu used) (tuples_in d opened most)) ≡ reads_as read_tu (tuples_fit (length d.ids) opened most) used
unfolding reads_as
tuples-decode d opened most used = by (reads read_tu used)
  where
    picked : (b : Bool) (ts : List Tuple) → is_some (cond b (some ts) none) ≡ b
    picked true ts = unfold is_some in refl
    picked false ts = unfold is_some in refl

    by : (o : Option (List TuRecord)) → is_some (on_some o (tuples_in d opened most)) ≡ on_list o (tuples_fit (length d.ids) opened most)
    by none = unfold is_some on_some on_list in refl
    by (some ts) = unfold on_some on_list tuples_in tu_fits tuples_fit in picked (tuples_fit (length d.ids) opened most ts) (map (as_tuple d) ts)
