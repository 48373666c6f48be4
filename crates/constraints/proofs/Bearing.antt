-- In a store that reads, the bits of the records with the mark of an ID are those of the constraints: kind and name stand in the record where the walk of the ID
-- reads them.
-- Assumes nothing.
use Prim.Native.Nat.{ℕ, ◌≤◌, ◌<◌}
use native.Mathlib.Omega.{arith}
use lib.ListN.{length, take, drop, get_or, length-map, get_or-eq_default}
use lib.Seq.{take_all}
use mathlib.Core.Path.{◌≡◌, refl, ap, sym, ◌∙◌, subst}
use mathlib.Core.Bool.{Bool, false, ◌&&◌, not}
use mathlib.Core.List.{List, [], map, append-nil}
use mathlib.Core.Option.{some}
use Rattle.lists.proofs.Places.{get_elem-some, map_found}
use Rattle.texts.specs.Texts.{Text, same}
use Rattle.tree.specs.Events.{Constraint}
use Rattle.tree.specs.Judge.{is_keyref}
use Rattle.records.specs.Readers.{Bytes, read_text}
use Rattle.records.specs.Records.{IdRecord, parse}
use Rattle.session_spec.specs.Definitions.{Definitions, read_definitions, kind_of, constraint_at}
use Rattle.output_stores.specs.Stores.{in_mask}
use Rattle.constraints.specs.Constraints.{id_of, SetOf, ids_in}
use Rattle.constraints.specs.Walks.{text_or, name_in, bears, ids_with, bearers_in}
use Rattle.constraints.proofs.Ids.{Read, said-id, parsed-read}
use Rattle.constraints.proofs.Places.{byte-reached}
use Rattle.constraints.proofs.Bits.{bit_is}
use Rattle.constraints.proofs.Replays.{ids-length, ids-few, id-at}
use Rattle.constraints.proofs.Stored.{named-at, kind_at}

module _ (barred : Bool) (t : Text) where
  abbrev wanted : Constraint → Bool
  wanted c = not (barred && is_keyref c.kind) && same t c.name

  -- ---- one ID

  id-bears : (f : Bytes) (i : IdRecord) → id_of (parse f) ≡ some i → bears barred t f ≡ (not (barred && is_keyref (kind_of i.kind)) && same t i.name)
  unfolding bears name_in text_or
  id-bears f i e =
      let w : Read (drop 4 f) i [] = subst (λ (l : Bytes). Read (drop 4 l) i []) (append-nil f) (parsed-read f i (said-id (parse f) i e) []) in
      let k = byte-reached f 4 i.kind w.behind_kind w.kind in
      let n : read_text (drop 5 f) ≡ some (i.name, w.behind_name) = ap read_text k.left ∙ w.name in
      rw (k.value, n)

  -- ---- all of them

  module _ (used : Bytes) (d : Definitions) (h : read_definitions used ≡ some d) where
    bit_at : (k : ℕ) → in_mask (bearers_in barred t used) k ≡ get_or (map (bears barred t) (ids_in used)) k false
    unfolding bearers_in ids_with
    bit_at k =
        let e = ids-length used d h in
        let l = ids-few used d h in
        bit_is (map (bears barred t) (take 32 (ids_in used))) k
        ∙ ap (λ (x : List Bytes). get_or (map (bears barred t) x) k false) (take_all 32 (ids_in used) (omega arith))

    bears-at : (k : ℕ) → k < length d.ids → in_mask (bearers_in barred t used) k ≡ wanted (constraint_at d k)
    bears-at k l =
        let p = get_elem-some d.ids k l in
        let c = p.0 in
        let q = id-at used d h k c p.1 in
        bit_at k
        ∙ map_found (bears barred t) (ids_in used) k q.0 false q.1
        ∙ id-bears q.0 c.id q.2
        ∙ sym (rw (named-at d k c p.1, kind_at d k c p.1))

    past_all : (k : ℕ) → length d.ids ≤ k → in_mask (bearers_in barred t used) k ≡ false
    past_all k l =
        let e = ids-length used d h in
        let m = length-map (ids_in used) (bears barred t) in
        bit_at k ∙ get_or-eq_default (map (bears barred t) (ids_in used)) false {n = k} (omega arith)

  by-name : (used : Bytes) → ids_with (bears barred t) used ≡ bearers_in barred t used
  unfolding ids_with bearers_in
  by-name used = refl

  -- THE LAW
  pub bearers-are : (used : Bytes) (r : ℕ) → r ≡ ids_with (bears barred t) used → SetOf used wanted r
  bearers-are used r e = rw (e, by-name used) (record { bears = λ d h. bears-at used d h; past = λ d h. past_all used d h })
