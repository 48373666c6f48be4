-- The reports of kind 5 by the records that stand in the tuple store: which constraints answer which, which records lack an answer, and the report of each.
-- Assumes nothing.
use Rattle.std.specs.Prelude.{ℕ, zero, suc, ◌+◌, ◌*◌, ◌%◌, ◌≤◌, ◌<◌, leb, length, drop, get_or, ◌≡◌, Bool, true, ◌&&◌, not, is_some, Some, None}
use Rattle.std.specs.declared.option.Option.{Option}
use Rattle.std.specs.Option.{unwrap_or}
use Rattle.std.specs.Int.Bits.{bit_or}
use mathlib.Core.List.{List, [], ◌∷◌, ◌++◌, flat_map}
use Rattle.std.proofs.Math.Option.{some}
use Rattle.lists.specs.Lists.{only_if, passing, over}
use Rattle.numbers.specs.Numbers.{four}
use Rattle.tree.specs.Judge.{Report, is_keyref, named}
use Rattle.records.specs.Readers.{Bytes}
use Rattle.session_spec.specs.Definitions.{Definitions, frame, read_definitions, constraint_at}
use Rattle.session_spec.specs.Layout.{put_rp}
use Rattle.output_stores.specs.Stores.{standing, in_mask}
use Rattle.tuple_search.specs.Search.{answered_by}
use Rattle.event_answers.specs.declared.Refs.{Refs}

-- ---- which constraints answer which

-- A keyref has the set of those that answer it, and another constraint has none.
abbrev pub Ref : Type 0
Ref = Option ℕ

abbrev pub no_ref : Ref
no_ref = None

-- the set has the unique and key constraints that constraint k names in refer
abbrev pub Answering : Definitions → (k : ℕ) → (set : ℕ) → Type 0
Answering d k set =
    (c : ℕ) → c < length d.ids → in_mask set c ≡ (not (is_keyref (constraint_at d c).kind) && named (constraint_at d k).refer (constraint_at d c).name)

pub record RefIs (d : Definitions) (k : ℕ) (r : Ref) : Type 0 where
  pub keyref : is_some r ≡ is_keyref (constraint_at d k).kind
  pub answers : is_some r ≡ true → Answering d k (unwrap_or r 0)

-- of a constraint of the store, and of each
pub record RefOf (used : Bytes) (k : ℕ) (r : Ref) : Type 0 where
  pub says : (d : Definitions) → read_definitions used ≡ some d → k < length d.ids → RefIs d k r

pub record RefsOf (used : Bytes) (r : Refs) : Type 0 where
  pub each : (d : Definitions) → read_definitions used ≡ some d → (k : ℕ) → k < length d.ids → RefIs d k (get_or r.list k no_ref)

-- those that answer one of the first k
unfoldable pub answers_to : (k : ℕ) → List Ref → ℕ
answers_to zero rs = 0
answers_to (suc k) rs = bit_or (answers_to k rs) (unwrap_or (get_or rs k no_ref) 0)

-- ---- a record f of the store, whose constraint is its byte 4

abbrev pub ref_for : Refs → Bytes → Ref
ref_for refs f = get_or refs.list (get_or f 4 0) no_ref

unfoldable pub of_keyref : Refs → Bytes → Bool
of_keyref refs f = is_some (ref_for refs f)

-- it is of a keyref, and no record of the constraints that answer it has its texts
unfoldable pub is_lacking : Refs → (used : Bytes) → Bytes → Bool
is_lacking refs used f = is_some (ref_for refs f) && not (answered_by (unwrap_or (ref_for refs f) 0) (drop 9 f) (standing frame used))

-- kind 5 with its number i, in four bytes, its constraint and its scope
unfoldable pub five_of : (event i : ℕ) → Bytes → Report
five_of e i f = record { kind = 5; constraint = get_or f 4 0; field = 0; scope = four f 5; event = e; tuple = i % 4294967296 }

-- where it lacks an answer
unfoldable pub five_for : Refs → (used : Bytes) → (event i : ℕ) → Bytes → List Report
five_for refs used e i f = only_if (is_lacking refs used f) (five_of e i f ∷ [])

-- ---- all records; `i` stand before them

unfoldable pub fives_from : Refs → (used : Bytes) → (event i : ℕ) → List Bytes → List Report
fives_from refs used e i [] = []
fives_from refs used e i (f ∷ fs) = five_for refs used e (i + 1) f ++ fives_from refs used e (i + 1) fs

unfoldable pub fives_in : Refs → (used : Bytes) → (event : ℕ) → List Report
fives_in refs used e = fives_from refs used e 0 (standing frame used)

-- ---- reports more behind the used bytes of a store

-- where there is room for all of them
pub record Written (before : Bytes) (used : ℕ) (rs : List Report) (next : ℕ) (after : Bytes) : Type 0 where
  pub answers : used + 18 * length rs ≤ length before → next ≡ used + 18 * length rs
  pub leaves : used + 18 * length rs ≤ length before → after ≡ over before used (flat_map put_rp rs)

-- ---- room for them, and then they are written

-- at most so many lack an answer; where they do, all are written, and `f` is the new used length; else nothing changes, and there is none
pub record Judged (refs : Refs) (used : Bytes) (event most : ℕ) (before : Bytes) (at : ℕ) (f : Option ℕ) (after : Bytes) : Type 0 where
  pub fit : is_some f ≡ leb (length (passing (is_lacking refs used) (standing frame used))) most
  pub writes : (next : ℕ) → f ≡ Some next → Written before at (fives_in refs used event) next after
  pub keeps : f ≡ None → after ≡ before
