-- In a tuple store that reads, its TUs are the records that stand there; so the searches find what `place` and a test of each TU find. The bytes from a place
-- on tell scope and texts apart, because what is written is read again.
-- Assumes nothing.
use Prim.Native.Nat.{ℕ, suc, ◌<◌}
use native.Mathlib.Omega.{arith}
use lib.Dec.{eqb}
use lib.ListN.{length, drop, get_or}
use borrow.Author.Tests.{eqb-true, eq-eqb}
use mathlib.Core.Path.{◌≡◌, refl, ap, sym, ◌∙◌, subst}
use mathlib.Core.Bool.{true, ◌&&◌}
use mathlib.Core.List.{List, [], ◌∷◌, ◌++◌, map, append-nil}
use mathlib.Core.Option.{Option, some, some-injective}
use Rattle.std.proofs.lemmas.Bool.{and_parts}
use Rattle.lists.specs.Lists.{any}
use Rattle.lists.proofs.Lists.{bool-ext}
use Rattle.texts.specs.Texts.{Text, same, same_all}
use Rattle.texts.proofs.Sameness.{same_refl, same-eq}
use Rattle.texts.proofs.Tuples.{same_all-refl, same_all-eq}
use Rattle.numbers.specs.Numbers.{four}
use Rattle.tree.specs.Judge.{is_tuple, place}
use Rattle.records.specs.Readers.{Bytes, read_four, read_text, times, reads, put_texts}
use Rattle.records.proofs.Readers.{four-put, texts-put}
use Rattle.session_spec.specs.Definitions.{Definitions, frame}
use Rattle.session_spec.specs.Layout.{TuRecord, read_tu, as_tuple}
use Rattle.output_stores.specs.Stores.{standing, in_mask}
use Rattle.output_stores.proofs.Walks.{standing_on, standing-end, reads_first, reads_nothing}
use Rattle.output_stores.proofs.Tus.{tu-shortens}
use Rattle.tuple_search.specs.Search.{tail_bytes, or_zero, place_with, first_with, is_answer, answered_by}
use Rattle.frames.proofs.Fronts.{frame-shortens}
use Rattle.tuple_search.proofs.Records.{Below, front_below, rest_below, tu-says, tu-texts, tu-tail, fronted}

-- ---- records and TUs, member by member

abbrev pub Each : (Bytes → TuRecord → Type 0) → List Bytes → List TuRecord → Type 0
Each p [] [] = Unit {0}
Each p [] (t ∷ ts) = ⊥
Each p (f ∷ fs) [] = ⊥
Each p (f ∷ fs) (t ∷ ts) = p f t × Each p fs ts

pub each-count : (p : Bytes → TuRecord → Type 0) (fs : List Bytes) (ts : List TuRecord) → Each p fs ts → length fs ≡ length ts
each-count p [] [] e = refl
each-count p [] (t ∷ ts) e = absurd e
each-count p (f ∷ fs) [] e = absurd e
each-count p (f ∷ fs) (t ∷ ts) e = ap suc (each-count p fs ts e.1)

-- `q` holds of the bytes and of those behind a record; then `p` holds of each record with its TU
each-standing : (q : Bytes → Type 0) (p : Bytes → TuRecord → Type 0) → ((f r : Bytes) → q (f ++ r) → q r)
    → ((f r : Bytes) (t : TuRecord) → q (f ++ r) → read_tu f ≡ some (t, []) → p f t)
    → (ts : List TuRecord) (used : Bytes) → q used → reads read_tu used ≡ some ts → Each p (standing frame used) ts
each-standing q p behind here [] used k h =
    let e : used ≡ [] = reads_nothing read_tu tu-shortens used h in
    subst (λ (l : List Bytes). Each p l []) (sym (standing-end frame used (omega (arith, ap length e)))) tt
each-standing q p behind here (t ∷ ts) used k h =
    let m = reads_first read_tu tu-shortens used t ts h in
    let r = m.0 in
    let f = fronted used t r m.1 in
    let w : q (f.alone ++ r) = subst q f.split k in
    subst (λ (l : List Bytes). Each p l (t ∷ ts)) (sym (standing_on frame frame-shortens used f.alone r f.framed))
    (here f.alone r t w f.reads, each-standing q p behind here ts r (behind f.alone r w) m.2)

-- ---- what a record says of its TU

pub record TuIn (f : Bytes) (t : TuRecord) : Type 0 where
  pub reads : read_tu f ≡ some (t, [])
  pub constraint : get_or f 4 0 ≡ t.constraint
  pub scope : four f 5 ≡ t.scope

pub tu-in : (f : Bytes) (t : TuRecord) → read_tu f ≡ some (t, []) → TuIn f t
tu-in f t h = let s = tu-says f t [] h in record { reads = h; constraint = s.constraint; scope = s.scope }

-- THE LAW of the walk: as many records stand there as the store has TUs, and each is its TU's
pub tuple-standing : (used : Bytes) (tus : List TuRecord) → reads read_tu used ≡ some tus → Each TuIn (standing frame used) tus
tuple-standing used tus h = each-standing (λ _. Unit {0}) TuIn (λ f r _. tt) (λ f r t _ e. tu-in f t e) tus used tt h

-- since its bytes are below 256, scope and texts are written as they are read
pub record Exact (f : Bytes) (t : TuRecord) : Type 0 where
  pub constraint : get_or f 4 0 ≡ t.constraint
  pub tail : drop 5 f ≡ tail_bytes t.scope t.keys
  pub texts : drop 9 f ≡ length t.keys ∷ put_texts t.keys

exact : (f : Bytes) (t : TuRecord) → Below f → read_tu f ≡ some (t, []) → Exact f t
exact f t b h = record { constraint = (tu-says f t [] h).constraint; tail = tu-tail f t h b; texts = tu-texts f t h b }

pub exact-standing : (used : Bytes) (tus : List TuRecord) → Below used → reads read_tu used ≡ some tus → Each Exact (standing frame used) tus
exact-standing used tus b h = each-standing Below Exact (λ f r w. rest_below f r w) (λ f r t w e. exact f t (front_below f r w) e) tus used b h

-- ---- the bytes tell the texts apart, and the scope

texts-back : (ks : List Text) → times (length ks) read_text (put_texts ks) ≡ some (ks, [])
texts-back ks = ap (times (length ks) read_text) (sym (append-nil (put_texts ks))) ∙ texts-put ks []

texts-apart : (ks ls : List Text) → length ks ∷ put_texts ks ≡ length ls ∷ put_texts ls → ks ≡ ls
texts-apart ks ls e =
    let n : length ks ≡ length ls = cc in
    let s : put_texts ks ≡ put_texts ls = cc in
    let w : ◌≡◌ {A = Option (List Text × Bytes)} (some (ks, [])) (some (ls, [])) =
    sym (texts-back ks) ∙ ap (λ (k : ℕ). times k read_text (put_texts ks)) n ∙ ap (times (length ls) read_text) s ∙ texts-back ls in
    ap (λ (u : List Text × Bytes). u.0) (some-injective _ _ w)

tails-apart : (s z : ℕ) (ks ls : List Text) → tail_bytes s ks ≡ tail_bytes z ls → (s ≡ z) × (ks ≡ ls)
unfolding tail_bytes
tails-apart s z ks ls e =
    let w : ◌≡◌ {A = Option (ℕ × Bytes)} (some (s, length ks ∷ put_texts ks)) (some (z, length ls ∷ put_texts ls)) =
    sym (four-put s (length ks ∷ put_texts ks)) ∙ ap read_four e ∙ four-put z (length ls ∷ put_texts ls) in
    let q = some-injective _ _ w in
    (ap (λ (u : ℕ × Bytes). u.0) q, texts-apart ks ls (ap (λ (u : ℕ × Bytes). u.1) q))

same-texts : (ks ls : List Text) → same (length ks ∷ put_texts ks) (length ls ∷ put_texts ls) ≡ same_all ks ls
same-texts ks ls =
    bool-ext (same (length ks ∷ put_texts ks) (length ls ∷ put_texts ls)) (same_all ks ls)
    (λ h. rw (texts-apart ks ls (same-eq (length ks ∷ put_texts ks) (length ls ∷ put_texts ls) h)) (same_all-refl ls))
    (λ h. rw (same_all-eq ks ls h) (same_refl (length ls ∷ put_texts ls)))

same-tails : (s z : ℕ) (ks ls : List Text) → same (tail_bytes s ks) (tail_bytes z ls) ≡ (eqb s z && same_all ks ls)
same-tails s z ks ls = bool-ext (same (tail_bytes s ks) (tail_bytes z ls)) (eqb s z && same_all ks ls) there back
  where
    there : same (tail_bytes s ks) (tail_bytes z ls) ≡ true → (eqb s z && same_all ks ls) ≡ true
    there h =
        let e = tails-apart s z ks ls (same-eq (tail_bytes s ks) (tail_bytes z ls) h) in
        rw (eq-eqb s z e.0, e.1, same_all-refl ls)

    back : (eqb s z && same_all ks ls) ≡ true → same (tail_bytes s ks) (tail_bytes z ls) ≡ true
    back h =
        let p = and_parts (eqb s z) (same_all ks ls) h in
        rw (eqb-true s z p.0, same_all-eq ks ls p.1) (same_refl (tail_bytes z ls))

-- ---- kind 4: the tuple of the same scope with the same texts

module _ (d : Definitions) (scope : ℕ) (keys : List Text) where
  place-each : (fs : List Bytes) (ts : List TuRecord) → Each Exact fs ts → place_with (tail_bytes scope keys) fs ≡ place scope keys (map (as_tuple d) ts)
  unfolding place_with place is_tuple as_tuple
  place-each [] [] e = refl
  place-each [] (t ∷ ts) e = absurd e
  place-each (f ∷ fs) [] e = absurd e
  place-each (f ∷ fs) (t ∷ ts) e =
      let b : same (drop 5 f) (tail_bytes scope keys) ≡ (eqb t.scope scope && same_all t.keys keys) =
      ap (λ (l : Bytes). same l (tail_bytes scope keys)) e.0.tail ∙ same-tails t.scope scope t.keys keys in
      rw (b, place-each fs ts e.1)

-- THE LAW of `find_tuple`
pub found-is : (used : Bytes) (tus : List TuRecord) (d : Definitions) (scope : ℕ) (keys : List Text) → ((i : ℕ) → get_or used i 0 < 256)
    → reads read_tu used ≡ some tus → first_with (tail_bytes scope keys) (standing frame used) ≡ or_zero (place scope keys (map (as_tuple d) tus))
unfolding first_with
found-is used tus d scope keys b h = ap or_zero (place-each d scope keys (standing frame used) tus (exact-standing used tus b h))

-- ---- kind 5: a tuple of one of these constraints with the same texts

module _ (named : ℕ) (keys : List Text) where
  any-each : (fs : List Bytes) (ts : List TuRecord) → Each Exact fs ts
      → any (is_answer named (length keys ∷ put_texts keys)) fs ≡ any (λ u. in_mask named u.constraint && same_all u.keys keys) ts
  unfolding is_answer
  any-each [] [] e = refl
  any-each [] (t ∷ ts) e = absurd e
  any-each (f ∷ fs) [] e = absurd e
  any-each (f ∷ fs) (t ∷ ts) e =
      let b : same (drop 9 f) (length keys ∷ put_texts keys) ≡ same_all t.keys keys =
      ap (λ (l : Bytes). same l (length keys ∷ put_texts keys)) e.0.texts ∙ same-texts t.keys keys in
      rw (b, e.0.constraint, any-each fs ts e.1)

  pub answered-texts : (used : Bytes) (tus : List TuRecord) → ((i : ℕ) → get_or used i 0 < 256) → reads read_tu used ≡ some tus
      → answered_by named (length keys ∷ put_texts keys) (standing frame used) ≡ any (λ u. in_mask named u.constraint && same_all u.keys keys) tus
  unfolding answered_by
  answered-texts used tus b h = any-each (standing frame used) tus (exact-standing used tus b h)

-- THE LAW of `answered`: the texts are those of a TU that stands as the record f
pub answered-is : (used : Bytes) (tus : List TuRecord) (named : ℕ) (f : Bytes) (t : TuRecord) → ((i : ℕ) → get_or used i 0 < 256) → ((i : ℕ) → get_or f i 0 < 256)
    → reads read_tu used ≡ some tus → read_tu f ≡ some (t, [])
    → answered_by named (drop 9 f) (standing frame used) ≡ any (λ u. in_mask named u.constraint && same_all u.keys t.keys) tus
answered-is used tus named f t b w h e =
    ap (λ (l : Bytes). answered_by named l (standing frame used)) (tu-texts f t e w) ∙ answered-texts named t.keys used tus b h
