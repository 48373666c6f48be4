-- A store that reads is replayed record by record, and each record that is taken adds its ID at the end, or none. So the records with the mark of an ID are,
-- one by one, the IDs of the definitions; and there are at most 32.
-- Assumes nothing.
use Prim.Native.Nat.{ℕ, ◌≤◌}
use native.Mathlib.Omega.{arith}
use lib.Dec.{eqb}
use lib.ListN.{length, get_elem?, length-map}
use borrow.Author.Tests.{leb-false}
use mathlib.Core.Path.{◌≡◌, refl, ap, sym, ◌∙◌}
use mathlib.Core.Bool.{Bool, true, false}
use mathlib.Core.List.{List, [], ◌∷◌, ◌++◌, map, append-nil, append_assoc}
use mathlib.Core.Option
use mathlib.Core.Option.{Option, some, some-injective, map-eq-some_iff}
use Rattle.lists.specs.Lists.{only_if, passing, foldl}
use Rattle.lists.proofs.Folds.{length-snoc}
use Rattle.records.specs.Readers.{Bytes}
use Rattle.records.specs.Records.{IdRecord, NsRecord, Rec, ID, NS, ES, EE, FI, Parsed, parsed, parse}
use Rattle.session_spec.specs.Definitions.{Definition, Definitions, no_definitions, bind_last, bind, define, too_many_defined, replay, read_definitions}
use Rattle.session_laws.proofs.Replays.{taken, bind-length}
use Rattle.bindings.specs.Bindings.{frames_in}
use Rattle.bindings.specs.Own.{is_id}
use Rattle.bindings.proofs.Same.{own_mark, is_mark_id, parsed-id}
use Rattle.bindings.proofs.Uris.{replayed}
use Rattle.constraints.specs.Constraints.{id_of, ids_in}
use Rattle.lists.proofs.Places.{get_elem-map}

-- ---- the IDs

abbrev ids : List Definition → List (Option IdRecord)
ids ds = map (λ c. some c.id) ds

abbrev said : List Bytes → List (Option IdRecord)
said fs = map (λ f. id_of (parse f)) fs

ids-snoc : (ds : List Definition) (c : Definition) → ids (ds ++ (c ∷ [])) ≡ ids ds ++ (some c.id ∷ [])
ids-snoc [] c = refl
ids-snoc (d ∷ ds) c = ap (λ (l : List (Option IdRecord)). some d.id ∷ l) (ids-snoc ds c)

ids-bound : (b : NsRecord) (ds : List Definition) → ids (bind_last b ds) ≡ ids ds
unfolding bind_last
ids-bound b [] = refl
ids-bound b (d ∷ []) = refl
ids-bound b (d ∷ e ∷ ds) = ap (λ (l : List (Option IdRecord)). some d.id ∷ l) (ids-bound b (e ∷ ds))

-- what one record adds
define-ids : (r : Rec) (d : Definitions) → ids (define r d).ids ≡ ids d.ids ++ only_if (is_mark_id (own_mark r)) (id_of (parsed r) ∷ [])
unfolding define own_mark only_if id_of
define-ids (ID i) d = ids-snoc d.ids (record { id = i; own = [] })
define-ids (NS b) d = by (eqb b.target 0)
  where
    by : (t : Bool) → ids (bind t b d).ids ≡ ids d.ids ++ []
    by true = unfold bind in sym (append-nil (ids d.ids))
    by false = unfold bind in (ids-bound b d.ids ∙ sym (append-nil (ids d.ids)))
define-ids (ES r) d = sym (append-nil (ids d.ids))
define-ids (EE r) d = sym (append-nil (ids d.ids))
define-ids FI d = sym (append-nil (ids d.ids))

said-one : (i : Bool) (f : Bytes) (gs : List Bytes) → only_if i (id_of (parse f) ∷ []) ++ said gs ≡ said (only_if i (f ∷ []) ++ gs)
unfolding only_if
said-one true f gs = refl
said-one false f gs = refl

-- what all of them do
replay-ids : (fs : List Bytes) (d e : Definitions) → foldl replay (some d) fs ≡ some e → ids e.ids ≡ ids d.ids ++ said (passing is_id fs)
unfolding passing
replay-ids [] d e h =
    (let q : d ≡ e = some-injective _ _ h in sym (ap (λ (c : Definitions). ids c.ids) q) ∙ sym (append-nil (ids d.ids)))
replay-ids (f ∷ fs) d e h =
    let t = taken d f fs e h in
    let r : Rec = t.rec in
    let more : List (Option IdRecord) = said (passing is_id fs) in
    replay-ids fs (define r d) e t.rest
    ∙ ap (λ (l : List (Option IdRecord)). l ++ more) (define-ids r d)
    ∙ append_assoc (ids d.ids) (only_if (is_mark_id (own_mark r)) (id_of (parsed r) ∷ [])) more
    ∙ ap (λ (b : Bool). ids d.ids ++ (only_if b (id_of (parsed r) ∷ []) ++ more)) (sym (parsed-id f r t.says))
    ∙ ap (λ (p : Parsed). ids d.ids ++ (only_if (is_id f) (id_of p ∷ []) ++ more)) (sym t.says)
    ∙ ap (λ (l : List (Option IdRecord)). ids d.ids ++ l) (said-one (is_id f) f (passing is_id fs))

-- ---- there are at most 32

define-few : (r : Rec) (d : Definitions) → too_many_defined r d ≡ false → length d.ids ≤ 32 → length (define r d).ids ≤ 32
unfolding define too_many_defined
define-few (ID i) d h l =
    let g = leb-false 32 (length d.ids) h in
    let e = length-snoc d.ids (record { id = i; own = [] }) in
    omega arith
define-few (NS b) d h l = by (eqb b.target 0)
  where
    by : (t : Bool) → length (bind t b d).ids ≤ 32
    by true = unfold bind in l
    by false = unfold bind in (let e = bind-length b d.ids in omega arith)
define-few (ES r) d h l = l
define-few (EE r) d h l = l
define-few FI d h l = l

few-after : (fs : List Bytes) (d e : Definitions) → foldl replay (some d) fs ≡ some e → length d.ids ≤ 32 → length e.ids ≤ 32
few-after [] d e h l = (let q : d ≡ e = some-injective _ _ h in let m = ap (λ (c : Definitions). length c.ids) q in omega arith)
few-after (f ∷ fs) d e h l = let t = taken d f fs e h in few-after fs (define t.rec d) e t.rest (define-few t.rec d t.fits l)

-- ---- THE LAWS, of a store that reads

module _ (used : Bytes) (d : Definitions) (h : read_definitions used ≡ some d) where
  ids-are : said (ids_in used) ≡ ids d.ids
  unfolding ids_in
  ids-are = sym (replay-ids (frames_in used) no_definitions d (replayed used d h))

  pub ids-length : length (ids_in used) ≡ length d.ids
  ids-length = sym (length-map (ids_in used) (λ f. id_of (parse f))) ∙ ap length ids-are ∙ length-map d.ids (λ c. some c.id)

  pub ids-few : length d.ids ≤ 32
  ids-few = few-after (frames_in used) no_definitions d (replayed used d h) (omega arith)

  -- the record with the mark of an ID that has this number is the constraint's ID
  pub id-at : (k : ℕ) (c : Definition) → get_elem? d.ids k ≡ some c → (f : Bytes) × (get_elem? (ids_in used) k ≡ some f) × (id_of (parse f) ≡ some c.id)
  id-at k c at =
      (map-eq-some_iff (λ f. id_of (parse f)) (get_elem? (ids_in used) k)).0 (sym (get_elem-map (λ f. id_of (parse f)) (ids_in used) k) ∙ ap (λ (l : List (Option IdRecord)). get_elem? l k) ids-are ∙ get_elem-map (λ c. some c.id) d.ids k
      ∙ ap (Option.map (λ c. some c.id)) at)
