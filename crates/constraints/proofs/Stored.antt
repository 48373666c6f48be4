-- In a store that reads, the records of constraint k begin with its ID, which is record k with the mark of one; and what stands in them is what the definitions
-- say of it.
-- Assumes nothing.
use Prim.Native.Nat.{ℕ, zero, suc, ◌≤◌, ◌<◌}
use native.Mathlib.Omega.{arith}
use lib.ListN.{length, get_elem?, length-append, length-map}
use mathlib.Core.Path.{◌≡◌, refl, ap, ◌∙◌, subst}
use mathlib.Core.Bool.{Bool, true, false, cond}
use mathlib.Core.List.{List, [], ◌∷◌, ◌++◌, flatten}
use mathlib.Core.Option.{some, some-injective, none-ne-some}
use Rattle.lists.specs.Lists.{only_if, passing, All}
use Rattle.lists.proofs.Places.{get_elem-some}
use Rattle.texts.specs.Texts.{Text}
use Rattle.paths.specs.Reading.{on_some}
use Rattle.tree.specs.Events.{Constraint}
use Rattle.records.specs.Readers.{Bytes}
use Rattle.records.specs.Records.{parse}
use Rattle.session_spec.specs.Definitions.{Definition, Definitions, frame, read_definitions, kind_of, or_none, fields_of, constraint_of, constraint_from, constraint_at, uri_of}
use Rattle.session_laws.proofs.Constraints.{fields-length}
use Rattle.bindings.specs.Bindings.{frames_in, uri_in}
use Rattle.bindings.specs.Own.{is_id, until_id, own_frames}
use Rattle.frames.proofs.Fronts.{frame-cut}
use Rattle.bindings.proofs.Uris.{uri-is}
use Rattle.constraints.specs.Constraints.{joined, id_of, id_at, ids_in, count_in}
use Rattle.constraints.proofs.Cuts.{Whole, own-frames, own-whole}
use Rattle.constraints.proofs.Replays.{ids-length, ids-few, id-at}

-- ---- what the number of a constraint stands for

module _ (d : Definitions) (k : ℕ) (c : Definition) (at : get_elem? d.ids k ≡ some c) where
  pub stands-for : constraint_at d k ≡ constraint_of d k c
  unfolding constraint_at constraint_from
  stands-for = rw at

  pub named-at : (constraint_at d k).name ≡ c.id.name
  unfolding constraint_of
  named-at = ap (λ (x : Constraint). x.name) stands-for

  pub kind_at : (constraint_at d k).kind ≡ kind_of c.id.kind
  unfolding constraint_of
  kind_at = ap (λ (x : Constraint). x.kind) stands-for

  pub refer-at : (constraint_at d k).refer ≡ c.id.refer
  unfolding constraint_of
  refer-at = ap (λ (x : Constraint). x.refer) stands-for

  pub fields_at : length (constraint_at d k).fields ≡ length c.id.fields
  unfolding constraint_of
  fields_at =
      ap (λ (x : Constraint). length x.fields) stands-for
      ∙ length-map (fields_of d c 2 c.id.fields) or_none
      ∙ fields-length d c 2 c.id.fields

-- ---- the records of a constraint begin with its ID

own_first : (fs : List Bytes) (k : ℕ) (f : Bytes) → get_elem? (passing is_id fs) k ≡ some f → (more : List Bytes) × (own_frames k fs ≡ f ∷ more)
unfolding passing own_frames
own_first [] k f h = absurd (none-ne-some f h)
own_first (g ∷ fs) zero f h = by (is_id g) h (own_first fs zero f)
  where
    by : (i : Bool) → get_elem? (only_if i (g ∷ []) ++ passing is_id fs) zero ≡ some f → (get_elem? (passing is_id fs) zero ≡ some f → (more : List Bytes) × (own_frames zero fs ≡ f ∷ more))
        → (more : List Bytes) × (cond i (g ∷ until_id fs) (own_frames zero fs) ≡ f ∷ more)
    by true h ih = (until_id fs, ap (λ (x : Bytes). x ∷ until_id fs) (unfold only_if in some-injective _ _ h))
    by false h ih = ih (unfold only_if in h)
own_first (g ∷ fs) (suc k) f h = by (is_id g) h (own_first fs k f) (own_first fs (suc k) f)
  where
    by : (i : Bool) → get_elem? (only_if i (g ∷ []) ++ passing is_id fs) (suc k) ≡ some f → (get_elem? (passing is_id fs) k ≡ some f → (more : List Bytes) × (own_frames k fs ≡ f ∷ more))
        → (get_elem? (passing is_id fs) (suc k) ≡ some f → (more : List Bytes) × (own_frames (suc k) fs ≡ f ∷ more))
        → (more : List Bytes) × (cond i (own_frames k fs) (own_frames (suc k) fs) ≡ f ∷ more)
    by true h ih jh = ih (unfold only_if in h)
    by false h ih jh = jh (unfold only_if in h)

own-past : (fs : List Bytes) (k : ℕ) → length (passing is_id fs) ≤ k → own_frames k fs ≡ []
unfolding passing own_frames
own-past [] k h = refl
own-past (g ∷ fs) zero h = by (is_id g) h (own-past fs zero)
  where
    by : (i : Bool) → length (only_if i (g ∷ []) ++ passing is_id fs) ≤ zero → (length (passing is_id fs) ≤ zero → own_frames zero fs ≡ []) → cond i (g ∷ until_id fs) (own_frames zero fs) ≡ []
    by true h ih = absurd (unfold only_if in omega arith)
    by false h ih = ih (unfold only_if in h)
own-past (g ∷ fs) (suc k) h = by (is_id g) h (own-past fs k) (own-past fs (suc k))
  where
    by : (i : Bool) → length (only_if i (g ∷ []) ++ passing is_id fs) ≤ suc k → (length (passing is_id fs) ≤ k → own_frames k fs ≡ [])
        → (length (passing is_id fs) ≤ suc k → own_frames (suc k) fs ≡ []) → cond i (own_frames k fs) (own_frames (suc k) fs) ≡ []
    by true h ih jh = ih (unfold only_if in omega arith)
    by false h ih jh = jh (unfold only_if in h)

module _ (used : Bytes) (d : Definitions) (k : ℕ) (c : Definition) (h : read_definitions used ≡ some d) (at : get_elem? d.ids k ≡ some c) where
  abbrev own : Bytes
  own = joined (own_frames k (frames_in used))

  the-id : (f : Bytes) × (get_elem? (ids_in used) k ≡ some f) × (id_of (parse f) ≡ some c.id)
  the-id = id-at used d h k c at

  starts : (more : List Bytes) × (own_frames k (frames_in used) ≡ the-id.0 ∷ more)
  unfolding ids_in
  starts = own_first (frames_in used) k the-id.0 the-id.1

  first-cut : frame own ≡ some (the-id.0, joined starts.0)
  unfolding flatten
  first-cut =
      let w : All Whole (the-id.0 ∷ starts.0) = subst (All Whole) starts.1 (own-whole used k) in
      ap (λ (l : List Bytes). frame (joined l)) starts.1 ∙ w.0 (joined starts.0)

  -- ---- THE LAWS, of a store that reads

  -- its ID stands at the front of its records
  pub constraint-is : id_at (joined (own_frames k (frames_in used))) ≡ some c.id
  unfolding id_at on_some
  constraint-is = rw first-cut the-id.2

  not-empty : 0 < length own
  not-empty =
      let w = frame-cut own the-id.0 (joined starts.0) first-cut in
      let l = ap length w.0 ∙ length-append the-id.0 (joined starts.0) in
      let g : 4 ≤ length the-id.0 = w.1 in
      omega arith

  -- a prefix of one of its paths is looked up in its records, and then in the store
  pub own-uri : (target : ℕ) → 1 ≤ target → (p : Text) → uri_in (joined (own_frames k (frames_in used))) used target p ≡ uri_of d c target p
  own-uri target l p = uri-is used d h k c at own (own-frames used k) target l p

-- past the last constraint there are no records
pub none-own : (used : Bytes) (d : Definitions) (k : ℕ) → read_definitions used ≡ some d → length d.ids ≤ k → joined (own_frames k (frames_in used)) ≡ []
unfolding ids_in flatten
none-own used d k h l = let e = ids-length used d h in ap joined (own-past (frames_in used) k (omega arith))

-- and before it there are
pub some-own : (used : Bytes) (d : Definitions) (k : ℕ) → read_definitions used ≡ some d → k < length d.ids → 0 < length (joined (own_frames k (frames_in used)))
some-own used d k h l = let p = get_elem-some d.ids k l in not-empty used d k p.0 h p.1

-- their number
pub count-is : (used : Bytes) (d : Definitions) → read_definitions used ≡ some d → count_in used ≡ length d.ids
unfolding count_in
count-is used d h = let e = ids-length used d h in let l = ids-few used d h in omega arith
