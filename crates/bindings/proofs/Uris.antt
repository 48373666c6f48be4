-- `uri-is`: what the bytes of a store bind a prefix to is what the definitions say that are read from it. Each record of the store is taken once more, as a new one is: a schema-wide
-- binding goes behind the others, any other one to the latest constraint, and an ID is a new one; so a constraint's own bindings are those of its own records.
-- Assumes nothing.
use Prim.Native.Nat.{ℕ, zero, suc, ◌≤◌}
use native.Mathlib.Omega.{arith}
use lib.Dec.{eqb}
use lib.ListN.{get_elem?}
use borrow.Author.Tests.{eqb-true, ne_eqb}
use mathlib.Core.Path.{◌≡◌, refl, ap, sym, ◌∙◌}
use mathlib.Core.Bool.{Bool, true, false, cond, not, false≢true}
use mathlib.Core.List.{List, [], ◌∷◌, ◌++◌, map, flat_map, append_assoc, append-nil}
use mathlib.Core.Option
use mathlib.Core.Option.{Option, some, some-injective, none-ne-some}
use Rattle.lists.specs.Lists.{only_if, passing, foldl}
use Rattle.lists.proofs.Folds.{passing-append}
use Rattle.texts.specs.Texts.{Text}
use Rattle.records.specs.Readers.{Bytes, reads}
use Rattle.records.specs.Records.{NsRecord, Rec, ID, NS, ES, EE, FI}
use Rattle.session_spec.specs.Definitions.{Definition, Definitions, no_definitions, bind_last, bind, define, frame, replay, read_definitions, uri_of}
use Rattle.bindings.specs.Bindings.{frames_in, read_binding, as_list, bindings_in, bound_for, uri_in}
use Rattle.bindings.specs.Own.{is_id, until_id, own_frames}
use Rattle.session_laws.proofs.Replays.{Taken, taken}
use Rattle.output_stores.specs.Stores.{standing}
use Rattle.output_stores.proofs.Walks.{reads-standing}
use Rattle.frames.proofs.Fronts.{frame-shortens}
use Rattle.bindings.proofs.Same.{binding_of, parsed-binding, parsed-id, id-binding, own_mark, is_mark_id}
use Rattle.paths.proofs.Sure.{some-parts}

-- ---- schema-wide bindings

abbrev binds : List Bytes → List NsRecord
binds fs = flat_map (λ f. as_list (read_binding f)) fs

abbrev wide : List NsRecord → List NsRecord
wide bs = passing (λ b. eqb b.target 0) bs

define-schema : (r : Rec) (d : Definitions) → (define r d).schema ≡ d.schema ++ wide (binding_of r)
unfolding define binding_of passing
define-schema (ID r) d = sym (append-nil d.schema)
define-schema (NS b) d = by (eqb b.target 0)
  where
    by : (t : Bool) → (bind t b d).schema ≡ d.schema ++ (only_if t (b ∷ []) ++ [])
    by true = unfold bind only_if in refl
    by false = unfold bind only_if in sym (append-nil d.schema)
define-schema (ES r) d = sym (append-nil d.schema)
define-schema (EE r) d = sym (append-nil d.schema)
define-schema FI d = sym (append-nil d.schema)

schema-is : (fs : List Bytes) (d e : Definitions) → foldl replay (some d) fs ≡ some e → e.schema ≡ d.schema ++ wide (binds fs)
unfolding flat_map
schema-is [] d e h =
    unfold passing in (let q : d ≡ e = some-injective _ _ h in sym (ap (λ (c : Definitions). c.schema) q) ∙ sym (append-nil d.schema))
schema-is (f ∷ fs) d e h =
    let t = taken d f fs e h in
    let bs : List NsRecord = binding_of t.rec in
    let ih : e.schema ≡ (define t.rec d).schema ++ wide (binds fs) = schema-is fs (define t.rec d) e t.rest in
    let s : wide (binds (f ∷ fs)) ≡ wide bs ++ wide (binds fs) =
    ap (λ (l : List NsRecord). wide (l ++ binds fs)) (parsed-binding f t.rec t.says) ∙ passing-append (λ b. eqb b.target 0) bs (binds fs) in
    ih
    ∙ ap (λ (l : List NsRecord). l ++ wide (binds fs)) (define-schema t.rec d)
    ∙ append_assoc d.schema (wide bs) (wide (binds fs))
    ∙ ap (λ (l : List NsRecord). d.schema ++ l) (sym s)

-- ---- the bindings of each constraint

abbrev owns : List Definition → List (List NsRecord)
owns ds = map (λ c. c.own) ds

abbrev own_only : List NsRecord → List NsRecord
own_only bs = passing (λ b. not (eqb b.target 0)) bs

-- more bindings for the last one
unfoldable add_last : List (List NsRecord) → List NsRecord → List (List NsRecord)
add_last [] bs = []
add_last (l ∷ []) bs = (l ++ bs) ∷ []
add_last (l ∷ k ∷ ls) bs = l ∷ add_last (k ∷ ls) bs

add_nothing : (ls : List (List NsRecord)) → add_last ls [] ≡ ls
unfolding add_last
add_nothing [] = refl
add_nothing (l ∷ []) = ap (λ (k : List NsRecord). k ∷ []) (append-nil l)
add_nothing (l ∷ k ∷ ls) = ap (λ (m : List (List NsRecord)). l ∷ m) (add_nothing (k ∷ ls))

add_twice : (ls : List (List NsRecord)) (bs cs : List NsRecord) → add_last (add_last ls bs) cs ≡ add_last ls (bs ++ cs)
unfolding add_last
add_twice [] bs cs = refl
add_twice (l ∷ []) bs cs = ap (λ (k : List NsRecord). k ∷ []) (append_assoc l bs cs)
add_twice (l ∷ k ∷ []) bs cs = ap (λ (m : List NsRecord). l ∷ m ∷ []) (append_assoc k bs cs)
add_twice (l ∷ k ∷ m ∷ ls) bs cs = ap (λ (n : List (List NsRecord)). l ∷ n) (add_twice (k ∷ m ∷ ls) bs cs)

add-snoc : (ls : List (List NsRecord)) (l bs : List NsRecord) → add_last (ls ++ (l ∷ [])) bs ≡ ls ++ ((l ++ bs) ∷ [])
unfolding add_last
add-snoc [] l bs = refl
add-snoc (k ∷ []) l bs = refl
add-snoc (k ∷ m ∷ ls) l bs = ap (λ (n : List (List NsRecord)). k ∷ n) (add-snoc (m ∷ ls) l bs)

bind-owns : (b : NsRecord) (ds : List Definition) → owns (bind_last b ds) ≡ add_last (owns ds) (b ∷ [])
unfolding add_last bind_last
bind-owns b [] = refl
bind-owns b (d ∷ []) = refl
bind-owns b (d ∷ e ∷ ds) = ap (λ (n : List (List NsRecord)). d.own ∷ n) (bind-owns b (e ∷ ds))

map_snoc : (ds : List Definition) (d : Definition) → owns (ds ++ (d ∷ [])) ≡ owns ds ++ (d.own ∷ [])
map_snoc [] d = refl
map_snoc (e ∷ ds) d = ap (λ (n : List (List NsRecord)). e.own ∷ n) (map_snoc ds d)

define-new : (r : Rec) (d : Definitions) → is_mark_id (own_mark r) ≡ true → owns (define r d).ids ≡ owns d.ids ++ ([] ∷ [])
unfolding define own_mark
define-new (ID r) d h = map_snoc d.ids (record { id = r; own = [] })
define-new (NS b) d h = absurd (false≢true h)
define-new (ES r) d h = absurd (false≢true h)
define-new (EE r) d h = absurd (false≢true h)
define-new FI d h = absurd (false≢true h)

define-more : (r : Rec) (d : Definitions) → is_mark_id (own_mark r) ≡ false → owns (define r d).ids ≡ add_last (owns d.ids) (own_only (binding_of r))
unfolding define own_mark binding_of passing
define-more (ID r) d h = absurd (false≢true (sym h))
define-more (NS b) d h = by (eqb b.target 0)
  where
    by : (t : Bool) → owns (bind t b d).ids ≡ add_last (owns d.ids) (only_if (not t) (b ∷ []) ++ [])
    by true = unfold bind only_if in sym (add_nothing (owns d.ids))
    by false = unfold bind only_if in bind-owns b d.ids
define-more (ES r) d h = sym (add_nothing (owns d.ids))
define-more (EE r) d h = sym (add_nothing (owns d.ids))
define-more FI d h = sym (add_nothing (owns d.ids))

-- those of the constraints that the records define
unfoldable new_owns : List Bytes → List (List NsRecord)
new_owns [] = []
new_owns (f ∷ fs) = cond (is_id f) (own_only (binds (until_id fs)) ∷ new_owns fs) (new_owns fs)

-- the records before the next ID bind for the constraint before them
owns-are : (fs : List Bytes) (d e : Definitions) → foldl replay (some d) fs ≡ some e
    → owns e.ids ≡ add_last (owns d.ids) (own_only (binds (until_id fs))) ++ new_owns fs
unfolding until_id new_owns flat_map passing
owns-are [] d e h =
    (let q : d ≡ e = some-injective _ _ h in
    sym (ap (λ (c : Definitions). owns c.ids) q) ∙ sym (add_nothing (owns d.ids)) ∙ sym (append-nil (add_last (owns d.ids) [])))
owns-are (f ∷ fs) d e h = by (is_id f) refl (owns-are fs (define t.rec d) e t.rest)
  where
    t : Taken d f fs e
    t = taken d f fs e h

    bs : List NsRecord
    bs = binding_of t.rec

    more : List NsRecord
    more = own_only (binds (until_id fs))

    first : own_only (as_list (read_binding f) ++ binds (until_id fs)) ≡ own_only bs ++ more
    first =
        ap (λ (l : List NsRecord). own_only (l ++ binds (until_id fs))) (parsed-binding f t.rec t.says)
        ∙ passing-append (λ b. not (eqb b.target 0)) bs (binds (until_id fs))

    by : (i : Bool) → is_id f ≡ i → owns e.ids ≡ add_last (owns (define t.rec d).ids) more ++ new_owns fs
        → owns e.ids ≡ add_last (owns d.ids) (own_only (binds (cond i [] (f ∷ until_id fs)))) ++ cond i (more ∷ new_owns fs) (new_owns fs)
    by true i ih =
        ih
        ∙ ap (λ (l : List (List NsRecord)). add_last l more ++ new_owns fs) (define-new t.rec d (sym (parsed-id f t.rec t.says) ∙ i))
        ∙ ap (λ (l : List (List NsRecord)). l ++ new_owns fs) (add-snoc (owns d.ids) [] more)
        ∙ append_assoc (owns d.ids) (more ∷ []) (new_owns fs)
        ∙ ap (λ (l : List (List NsRecord)). l ++ (more ∷ new_owns fs)) (sym (add_nothing (owns d.ids)))
    by false i ih =
        ih
        ∙ ap (λ (l : List (List NsRecord)). add_last l more ++ new_owns fs) (define-more t.rec d (sym (parsed-id f t.rec t.says) ∙ i))
        ∙ ap (λ (l : List (List NsRecord)). l ++ new_owns fs) (add_twice (owns d.ids) (own_only bs) more)
        ∙ ap (λ (l : List NsRecord). add_last (owns d.ids) l ++ new_owns fs) (sym first)

own_at : (fs : List Bytes) (i : ℕ) (x : List NsRecord) → get_elem? (new_owns fs) i ≡ some x → x ≡ own_only (binds (own_frames i fs))
unfolding new_owns own_frames
own_at [] i x h = absurd (none-ne-some x h)
own_at (f ∷ fs) zero x h = by (is_id f) refl h (own_at fs zero x)
  where
    by : (t : Bool) → is_id f ≡ t → get_elem? (cond t (own_only (binds (until_id fs)) ∷ new_owns fs) (new_owns fs)) zero ≡ some x
        → (get_elem? (new_owns fs) zero ≡ some x → x ≡ own_only (binds (own_frames zero fs)))
        → x ≡ own_only (binds (cond t (f ∷ until_id fs) (own_frames zero fs)))
    by true e h ih = unfold flat_map in rw (id-binding f e) (sym (some-injective _ _ h))
    by false e h ih = ih h
own_at (f ∷ fs) (suc i) x h = by (is_id f) h (own_at fs i x) (own_at fs (suc i) x)
  where
    by : (t : Bool) → get_elem? (cond t (own_only (binds (until_id fs)) ∷ new_owns fs) (new_owns fs)) (suc i) ≡ some x
        → (get_elem? (new_owns fs) i ≡ some x → x ≡ own_only (binds (own_frames i fs)))
        → (get_elem? (new_owns fs) (suc i) ≡ some x → x ≡ own_only (binds (own_frames (suc i) fs)))
        → x ≡ own_only (binds (cond t (own_frames i fs) (own_frames (suc i) fs)))
    by true h ih jh = ih h
    by false h ih jh = jh h

-- ---- THE LAW

-- a path's bindings are none of the schema-wide ones
target-only : (t : ℕ) → 1 ≤ t → (bs : List NsRecord) → passing (λ b. eqb b.target t) (own_only bs) ≡ passing (λ b. eqb b.target t) bs
unfolding passing only_if
target-only t h [] = refl
target-only t h (b ∷ bs) = by (eqb b.target 0) refl (target-only t h bs)
  where
    by : (z : Bool) → eqb b.target 0 ≡ z → passing (λ b. eqb b.target t) (own_only bs) ≡ passing (λ b. eqb b.target t) bs
        → passing (λ b. eqb b.target t) (only_if (not z) (b ∷ []) ++ own_only bs) ≡ only_if (eqb b.target t) (b ∷ []) ++ passing (λ b. eqb b.target t) bs
    by true e ih =
        let z : b.target ≡ 0 = eqb-true b.target 0 e in
        rw (ne_eqb b.target t (λ q. omega arith)) ih
    by false e ih = ap (λ (l : List NsRecord). only_if (eqb b.target t) (b ∷ []) ++ l) ih

owns-at : (ds : List Definition) (i : ℕ) (c : Definition) → get_elem? ds i ≡ some c → get_elem? (owns ds) i ≡ some c.own
owns-at [] i c h = absurd (none-ne-some c h)
owns-at (d ∷ ds) zero c h = ap (λ (o : Option Definition). Option.map (λ e. e.own) o) h
owns-at (d ∷ ds) (suc i) c h = owns-at ds i c h

module _ (store : Bytes) (d : Definitions) (h : read_definitions store ≡ some d) where
  -- its records, taken one behind the other
  pub replayed : foldl replay (some no_definitions) (frames_in store) ≡ some d
  unfolding read_definitions standing
  replayed =
      let p = some-parts (reads frame store) (λ l. foldl replay (some no_definitions) l) d h in
      ap (foldl replay (some no_definitions)) (reads-standing frame frame-shortens store p.0 p.1) ∙ p.2

  -- the schema-wide bindings
  pub schema-bound : bound_for 0 store ≡ d.schema
  unfolding bound_for bindings_in
  schema-bound = sym (schema-is (frames_in store) no_definitions d replayed)

  module _ (i : ℕ) (c : Definition) (at : get_elem? d.ids i ≡ some c) where
    owns_of : c.own ≡ own_only (binds (own_frames i (frames_in store)))
    unfolding add_last
    owns_of = own_at (frames_in store) i c.own (sym (ap (λ (l : List (List NsRecord)). get_elem? l i) (owns-are (frames_in store) no_definitions d replayed)) ∙ owns-at d.ids i c at)

    module _ (own : Bytes) (e : frames_in own ≡ own_frames i (frames_in store)) (target : ℕ) (t : 1 ≤ target) where
      -- the bindings of a path of constraint i
      pub own-bound : bound_for target own ≡ passing (λ b. eqb b.target target) c.own
      unfolding bound_for bindings_in
      own-bound =
          ap (λ (l : List Bytes). passing (λ b. eqb b.target target) (binds l)) e
          ∙ sym (target-only target t (binds (own_frames i (frames_in store))))
          ∙ ap (passing (λ b. eqb b.target target)) (sym owns_of)

      pub uri-is : (p : Text) → uri_in own store target p ≡ uri_of d c target p
      unfolding uri_in uri_of
      uri-is p = rw (own-bound, schema-bound)
