-- What a walked record is answered by: the first of its three rows that holds. Of an ID and an ES each row is a chain of tests on places, since an empty
-- text passes every test and a limit on each member is a limit on the list.
-- Assumes nothing.
use Prim.Native.Nat.{ℕ, ◌*◌}
use native.Mathlib.Omega.{arith}
use lib.Dec.{eqb, ltb}
use lib.ListN.{length, drop}
use mathlib.Core.Path.{◌≡◌, refl, ap, sym, ◌∙◌}
use mathlib.Core.Bool.{Bool, true, false, cond, not, ◌||◌, or-false, or_assoc, or_comm}
use mathlib.Core.List.{List, [], ◌∷◌, ◌++◌, map, append-nil}
use mathlib.Core.Option.{none, some}
use Rattle.std.proofs.lemmas.List.Folds.{list_any-append}
use Rattle.lists.specs.Lists.{any, part}
use Rattle.lists.proofs.Writes.{length_part}
use Rattle.texts.specs.Texts.{Text}
use Rattle.utf8.proofs.Walk.{utf8-empty}
use Rattle.paths.specs.Names.{Attribute}
use Rattle.records.specs.Readers.{Bytes}
use Rattle.records.specs.Refusals.{first_of}
use Rattle.records.specs.Records.{Rec, refer_texts, attribute_name, attribute_key, texts_of, keys_in, has_bad_byte, long_path, counts_over, over_in, body_rows, parsed, judged}
use Rattle.std.specs.declared.result.Result.TheVariants.{Err}
use Rattle.record_places.specs.declared.Place.{Place}
use Rattle.record_places.specs.declared.Id.{Id}
use Rattle.record_places.specs.declared.Ns.{Ns}
use Rattle.record_places.specs.declared.Es.{Es}
use Rattle.record_places.specs.declared.Ee.{Ee}
use Rattle.record_places.specs.declared.Refusal.TheVariants.{NotUtf8, BadByte, OverLimit}
use Rattle.record_places.specs.Places.{text_in, Within, texts_at, attributes_at, id_in, ns_in, es_in, ee_in, InsideId, InsideNs, InsideEs, InsideEe, Walks}
use Rattle.record_places.specs.Checks.{not_utf8, any_not_utf8, over_field, over_attribute, judgement}
use Rattle.record_walk.proofs.Pairs.{pair-any}
use Rattle.lists.proofs.Folds.{any-map}
use Rattle.lists.proofs.Lists.{or_swap, or-pairs}

-- ---- the rows

module _ (s : Bytes) (r : Rec) where
  pub utf8-row : any_not_utf8 r ≡ true → Walks s (judgement r) (Err NotUtf8)
  unfolding any_not_utf8 judged first_of body_rows
  utf8-row a = record { says = rw a; inside = tt }

  pub byte-row : any_not_utf8 r ≡ false → has_bad_byte r ≡ true → Walks s (judgement r) (Err BadByte)
  unfolding any_not_utf8 judged first_of body_rows
  byte-row a b = record { says = rw (a, b); inside = tt }

  pub over-row : any_not_utf8 r ≡ false → has_bad_byte r ≡ false → over_in r ≡ true → Walks s (judgement r) (Err OverLimit)
  unfolding any_not_utf8 judged first_of body_rows
  over-row a b c = record { says = rw (a, b, c); inside = tt }

pub no_row : (r : Rec) → any_not_utf8 r ≡ false → has_bad_byte r ≡ false → over_in r ≡ false → parsed r ≡ judgement r
unfolding any_not_utf8 judged first_of body_rows
no_row r a b c = rw (a, b, c)

size_is : (s : Bytes) (p : Place) → Within s p → length (text_in s p) ≡ p.size
size_is s p h = length_part s p.start p.size h

-- ---- EE

module _ (s : Bytes) (r : Ee) where
  pub ee-utf8 : any_not_utf8 (ee_in s r) ≡ not_utf8 (text_in s r.key)
  unfolding any_not_utf8 ee_in texts_of keys_in
  ee-utf8 = or-false (not_utf8 (text_in s r.key))

  pub ee-byte : has_bad_byte (ee_in s r) ≡ ltb 2 r.simple
  unfolding has_bad_byte ee_in
  ee-byte = refl

  pub ee-over : InsideEe s r → over_in (ee_in s r) ≡ ltb 126 r.key.size
  unfolding over_in counts_over ee_in texts_of keys_in
  ee-over i = rw (size_is s r.key i.key, or-false, or-false)

-- ---- NS

module _ (s : Bytes) (r : Ns) where
  pub ns-utf8 : any_not_utf8 (ns_in s r) ≡ (not_utf8 (text_in s r.prefix) || (not_utf8 (text_in s r.uri) || false))
  unfolding any_not_utf8 ns_in texts_of keys_in
  ns-utf8 = refl

  pub ns-byte : has_bad_byte (ns_in s r) ≡ ltb 5 r.target
  unfolding has_bad_byte ns_in
  ns-byte = refl

  pub ns-over : InsideNs s r → over_in (ns_in s r) ≡ (ltb 255 r.prefix.size || (ltb 255 r.uri.size || false))
  unfolding over_in counts_over ns_in texts_of keys_in
  ns-over i = rw (size_is s r.prefix i.prefix, size_is s r.uri i.uri, or-false)

-- ---- tests on lists

any-or : {A : Type 0} (f g : A → Bool) (l : List A) → any (λ x. f x || g x) l ≡ (any f l || any g l)
any-or f g [] = refl
any-or f g (x ∷ l) = rw (any-or f g l) (or-pairs (f x) (g x) (any f l) (any g l))

empty-utf8 : not_utf8 [] ≡ false
empty-utf8 = ap not (sym (utf8-empty [] (omega arith)))

-- ---- ID

module _ (s : Bytes) (r : Id) (i : InsideId s r) where
  abbrev id-name : Text
  id-name = text_in s r.name

  abbrev id-refer : Text
  id-refer = text_in s r.refer

  abbrev id-selector : Text
  id-selector = text_in s r.selector

  abbrev id-fields : List Text
  id-fields = texts_at s r.first r.count

  -- where no text follows the refer byte, the empty one stands for it
  id-texts : (test : Text → Bool) → test [] ≡ false → any test (texts_of (id_in s r)) ≡ (test id-name || (test id-refer || (test id-selector || any test id-fields)))
  unfolding texts_of id_in refer_texts
  id-texts test z = by (eqb r.flag 1) refl
    where
      by : (b : Bool) → eqb r.flag 1 ≡ b
          → (test id-name || any test (refer_texts (cond b (some id-refer) none) ++ (id-selector ∷ id-fields))) ≡ (test id-name || (test id-refer || (test id-selector || any test id-fields)))
      by true e = refl
      by false e =
          let q : test id-refer ≡ false = ap (λ (k : ℕ). test (part s r.refer.start k)) (i.bare e) ∙ z in
          rw q

  pub id-utf8 : any_not_utf8 (id_in s r) ≡ (not_utf8 id-name || (not_utf8 id-refer || (not_utf8 id-selector || any not_utf8 id-fields)))
  unfolding any_not_utf8 keys_in id_in
  id-utf8 = ap (any not_utf8) (append-nil (texts_of (id_in s r))) ∙ id-texts not_utf8 empty-utf8

  pub id-over : over_in (id_in s r)
      ≡ (eqb r.count 0 || (ltb 4 r.count || (ltb 255 r.name.size || (ltb 255 r.refer.size || (over_field id-selector || any over_field id-fields)))))
  unfolding over_in counts_over keys_in id_in
  id-over =
      let n = length id-fields in
      let l = long_path id-selector in
      let y = any long_path id-fields in
      let x = any (λ t. ltb 255 (length t)) id-fields in
      let q = ltb 255 (length id-selector) in
      ap (λ (b : Bool). b || ((ltb 4 n || eqb n 0) || (l || y))) (id-texts (λ t. ltb 255 (length t)) refl)
      ∙ rw (size_is s r.name i.name, size_is s r.refer i.refer, i.whole, any-or (λ t. ltb 255 (length t)) long_path id-fields)
      (gather (eqb r.count 0) (ltb 4 r.count) (ltb 255 r.name.size) (ltb 255 r.refer.size) q l x y)
    where
      gather : (z f n p q l x y : Bool) → ((n || (p || (q || x))) || ((f || z) || (l || y))) ≡ (z || (f || (n || (p || ((q || l) || (x || y))))))
      gather z f n p q l x y = simp (or_assoc, or_comm, or_swap)

pub id-byte : (s : Bytes) (r : Id) → has_bad_byte (id_in s r) ≡ (ltb 2 r.kind || ltb 1 r.flag)
unfolding has_bad_byte id_in
id-byte s r = refl

-- ---- ES

pub es-byte : (s : Bytes) (r : Es) → has_bad_byte (es_in s r) ≡ false
unfolding has_bad_byte es_in
es-byte s r = refl

module _ (s : Bytes) (r : Es) (i : InsideEs s r) where
  abbrev es-space : Text
  es-space = text_in s r.space

  abbrev es-name : Text
  es-name = text_in s r.name

  abbrev es-attributes : List Attribute
  es-attributes = attributes_at s r.first r.count

  pub es-utf8 : any_not_utf8 (es_in s r) ≡ (not_utf8 es-space || (not_utf8 es-name || any not_utf8 (texts_at s r.first (2 * r.count))))
  unfolding any_not_utf8 texts_of keys_in es_in
  es-utf8 =
      rw (
        list_any-append not_utf8 (map attribute_name es-attributes) (map attribute_key es-attributes),
        pair-any not_utf8 r.count (drop r.first s) i.whole,
      )

  pub es-over : over_in (es_in s r)
      ≡ (ltb 8 r.numbers.size || (ltb 32 r.count || (ltb 255 r.space.size || (ltb 255 r.name.size || any over_attribute es-attributes))))
  unfolding over_in counts_over texts_of keys_in es_in attribute_name attribute_key
  es-over =
      rw (
        size_is s r.space i.space,
        size_is s r.name i.name,
        size_is s r.numbers i.numbers,
        i.whole,
        any-map (λ t. ltb 255 (length t)) attribute_name es-attributes,
        any-map (λ t. ltb 126 (length t)) attribute_key es-attributes,
        any-or (λ a. ltb 255 (length a.name)) (λ a. ltb 126 (length a.key)) es-attributes,
      )
      (gather (ltb 8 r.numbers.size) (ltb 32 r.count) (ltb 255 r.space.size) (ltb 255 r.name.size) (any (λ a. ltb 255 (length a.name)) es-attributes) (any (λ a. ltb 126 (length a.key)) es-attributes))
    where
      gather : (e t p n x y : Bool) → ((p || (n || x)) || (y || (e || t))) ≡ (e || (t || (p || (n || (x || y)))))
      gather e t p n x y = simp (or_assoc, or_comm, or_swap)
