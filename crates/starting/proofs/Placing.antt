-- What each test on counts says: the first row that holds is the one tested first.
-- Assumes nothing.
use Prim.Native.Nat.{ℕ, suc, ◌+◌, ◌≤◌, ◌<◌}
use native.Mathlib.Omega.{arith}
use lib.Dec.{eqb, leb, ltb}
use lib.ListN.{length, drop, get_or, drop_of_length-le}
use borrow.Author.Tests.{lt-ltb, le-ltb, le-leb, lt-leb, eq-eqb, ne_eqb, ltb-true, ltb-false, leb-false}
use mathlib.Core.Path.{◌≡◌, refl, ap, sym, ◌∙◌}
use mathlib.Core.Bool.{Bool, true, false}
use mathlib.Core.List.{List, [], ◌∷◌}
use mathlib.Core.Option.{none, some}
use Rattle.lists.specs.Lists.{any}
use Rattle.records.specs.Refusals.{out_of_place, too_many_events, undefined, too_deep, Row, first_of}
use Rattle.session_spec.specs.Session.{stage_of, depth_of}
use Rattle.session_laws.proofs.Tests.{first-none}
use Rattle.event_answers.specs.StartRows.{place_rows}

-- ---- the rows

module _ (stage events : ℕ) (absent : Bool) where
  pub finished : stage ≡ 66 → some out_of_place ≡ first_of (place_rows stage events absent)
  unfolding place_rows first_of
  finished a = rw (eq-eqb stage 66 a)

  module _ (a : stage ≡ 66 → ⊥) where
    pub events-many : 1000000 ≤ events → some too_many_events ≡ first_of (place_rows stage events absent)
    unfolding place_rows first_of
    events-many b = rw (ne_eqb stage 66 a, le-leb 1000000 events b)

    module _ (b : events < 1000000) where
      pub number-absent : absent ≡ true → some undefined ≡ first_of (place_rows stage events absent)
      unfolding place_rows first_of
      number-absent c = rw (ne_eqb stage 66 a, lt-leb 1000000 events b, c)

      module _ (c : absent ≡ false) (depth : ℕ) (e : depth ≡ depth_of (stage_of stage) stage) where
        pub too-deep : 64 ≤ depth → some too_deep ≡ first_of (place_rows stage events absent)
        unfolding place_rows first_of
        too-deep k = rw (ne_eqb stage 66 a, lt-leb 1000000 events b, c, lt-ltb 64 (suc (depth_of (stage_of stage) stage)) (omega arith))

        pub good-place : depth < 64 → none ≡ first_of (place_rows stage events absent)
        unfolding place_rows first_of
        good-place k = rw (ne_eqb stage 66 a, lt-leb 1000000 events b, c, le-ltb 64 (suc (depth_of (stage_of stage) stage)) (omega arith))

-- where none holds
pub record Free (stage events : ℕ) (absent : Bool) : Type 0 where
  pub begun : eqb stage 66 ≡ false
  pub few : events < 1000000
  pub defined : absent ≡ false
  pub deep : suc (depth_of (stage_of stage) stage) ≤ 64

pub free : (stage events : ℕ) (absent : Bool) → first_of (place_rows stage events absent) ≡ none → Free stage events absent
unfolding place_rows
free stage events absent h =
    let deep_row : List Row = (ltb 64 (suc (depth_of (stage_of stage) stage)), too_deep) ∷ [] in
    let p = first-none (eqb stage 66) out_of_place ((leb 1000000 events, too_many_events) ∷ (absent, undefined) ∷ deep_row) h in
    let q = first-none (leb 1000000 events) too_many_events ((absent, undefined) ∷ deep_row) p.1 in
    let r = first-none absent undefined deep_row q.1 in
    let t = first-none (ltb 64 (suc (depth_of (stage_of stage) stage))) too_deep [] r.1 in
    record { begun = p.0; few = leb-false 1000000 events q.0; defined = r.0; deep = ltb-false 64 (suc (depth_of (stage_of stage) stage)) t.0 }
