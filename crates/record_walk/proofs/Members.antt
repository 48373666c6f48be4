-- The text and the attribute at a place, and lists of them: each is its readers one behind the other, and a list goes on behind its first member.
-- Assumes nothing.
use Prim.Native.Nat.{ℕ, zero, suc, ◌+◌, ◌*◌, ◌-◌, ◌≤◌, ◌<◌}
use native.Mathlib.Omega.{arith}
use borrow.Author.Tests.{eq-eqb, ne_eqb}
use lib.Dec.{eqb}
use lib.ListN.{length, take, drop, get_or, drop_of_length-le}
use mathlib.Core.Path.{◌≡◌, refl, ap, sym, ◌∙◌, subst}
use mathlib.Core.Bool.{true, false, false≢true}
use mathlib.Core.List.{List, [], ◌∷◌}
use mathlib.Core.Option.{none, some}
use denote.Ref.{Bor}
use denote.Param.Members.{Mut}
use Rattle.std.specs.List.{FoldsTo}
use Rattle.std.specs.Fn.{Called}
use Rattle.std.specs.Iterator.{YieldsFirstRef, YieldsFirstBy}
use Rattle.std.proofs.lemmas.Iterator.{YieldsList}
use Rattle.std.proofs.lemmas.Iterator.Consumers.{YieldsList-from_first}
use Rattle.record_walk.specs.declared.Texts.{Texts}
use Rattle.record_walk.specs.declared.Attributes.{Attributes}
use Rattle.lists.specs.Lists.{part}
use Rattle.texts.specs.Texts.{Text}
use Rattle.numbers.specs.Numbers.{two}
use Rattle.records.specs.Readers.{Bytes, Reader, on_read, ◌>>=◌, pass, read_byte, read_two, read_bytes, read_text, times, up_to}
use Rattle.records.specs.Records.{read_refer, read_attribute}
use Rattle.records.proofs.Places.{text-short}
use Rattle.record_places.specs.declared.Place.{Place}
use Rattle.record_places.specs.declared.TextAt.{TextAt}
use Rattle.paths.specs.Names.{Attribute}
use Rattle.record_places.specs.Places.{text_in, text_place, name_and_key, read_to, Reads, TextOf, texts_at, attributes_at, ReferOf}
use Rattle.record_places.proofs.Placing.{text-missing, text-stands}
use Rattle.std.specs.declared.option.Option.TheVariants.{Some, None}
use Rattle.record_walk.proofs.Reading.{to-past, by_end, then, pass-reads, byte_reads, bytes-reads, more, no_more, times-then}

-- ---- a text

two-reads : (s : Bytes) (i : ℕ) → Reads read_two s i (i + 2) (two s i)
unfolding read_two two
two-reads s i =
    let a = get_or s i 0 in
    let b = get_or s (i + 1) 0 in
    let e : i + 1 + 1 ≡ i + 2 = omega arith in
    subst (λ (k : ℕ). Reads read_two s i k (a + 256 * b)) e
    (then read_byte (λ a. read_byte >>= (λ b. pass (a + 256 * b))) s i (i + 1) (i + 1 + 1) a (a + 256 * b) (byte_reads s i)
    (then read_byte (λ b. pass (a + 256 * b)) s (i + 1) (i + 1 + 1) (i + 1 + 1) b (a + 256 * b) (byte_reads s (i + 1)) (pass-reads s (i + 1 + 1) (a + 256 * b))))

module _ (s : Bytes) (i : ℕ) where
  text-is : Reads read_text s i (i + 2 + two s i) (part s (i + 2) (two s i))
  unfolding read_text
  text-is = then read_two read_bytes s i (i + 2) (i + 2 + two s i) (two s i) (part s (i + 2) (two s i)) (two-reads s i) (bytes-reads (two s i) s (i + 2))

  abbrev pub no_text : ℕ → TextAt
  no_text n = record { text = record { start = n; size = 0 }; next = n + 1 }

  abbrev a_text : ℕ → TextAt
  a_text n = record { text = record { start = i + 2; size = n }; next = i + 2 + n }

  text-past : length s < i + 2 + two s i → TextOf s i (no_text (length s))
  text-past h = record {
    says = text-short s i h ∙ sym (to-past s (length s + 1) (text_in s (no_text (length s)).text) (omega arith));
    on = λ w. absurd (omega arith);
    near = omega arith;
    within = omega arith;
    bare = λ w. refl;
  }

  text-whole : (n : ℕ) → n ≡ two s i → i + 2 + n ≤ length s → TextOf s i (a_text n)
  text-whole n e h = record {
    says = subst (λ (k : ℕ). read_text (drop i s) ≡ read_to s (i + 2 + k) (part s (i + 2) k)) (sym e) (text-is.says (omega arith));
    on = λ w. omega arith;
    near = omega arith;
    within = omega arith;
    bare = λ w. absurd (omega arith);
  }

-- what was answered of its place
module _ (s : Bytes) (i : ℕ) where
  pub text-none-at : None ≡ text_place s i → TextOf s i (no_text s i (length s))
  text-none-at e = text-past s i (text-missing s i e)

  abbrev pub text_to : Place → TextAt
  text_to p = record { text = p; next = p.start + p.size }

  pub text-at : (p : Place) → Some p ≡ text_place s i → TextOf s i (text_to p)
  text-at p e =
      let t = text-stands s i p e in
      subst (λ (q : Place). TextOf s i (text_to q)) t.0 (text-whole s i (two s i) refl t.1)

  pub text-ends : (p : Place) → Some p ≡ text_place s i → p.start + p.size ≤ length s
  text-ends p e =
      let t = text-stands s i p e in
      subst (λ (q : Place). q.start + q.size ≤ length s) t.0 t.1

-- behind the end none stands
pub text-beyond : (s : Bytes) (i : ℕ) → length s < i → TextOf s i (no_text s i (length s))
text-beyond s i h = text-past s i (omega arith)

pub text-reads : (s : Bytes) (i : ℕ) (r : TextAt) → TextOf s i r → Reads read_text s i r.next (text_in s r.text)
text-reads s i r t = record { says = λ h. t.says; on = t.on }

-- ---- an attribute

module _ (s : Bytes) (i : ℕ) (n k : TextAt) (a : TextOf s i n) (b : TextOf s n.next k) where
  abbrev an_attribute : Attribute
  an_attribute = record { name = text_in s n.text; key = text_in s k.text }

  attribute-is : Reads read_attribute s i k.next an_attribute
  unfolding read_attribute
  attribute-is =
      then read_text (λ n. read_text >>= (λ k. pass (record { name = n; key = k }))) s i n.next k.next (text_in s n.text) an_attribute (text-reads s i n a)
      (then read_text (λ k. pass (record { name = text_in s n.text; key = k })) s n.next k.next k.next (text_in s k.text) an_attribute (text-reads s n.next k b)
      (pass-reads s k.next an_attribute))

  attribute-past : length s < i → read_attribute (drop i s) ≡ read_to s k.next an_attribute
  unfolding read_attribute read_text read_two ◌>>=◌ on_read read_byte
  attribute-past h =
      let past : length s < k.next =
      by_end s k.next i
      (λ w. by_end s n.next i (λ v. absurd (omega (arith, a.on v))) (λ v. absurd (omega (arith, b.on w))))
      (λ w. w) in
      let e : drop i s ≡ [] = drop_of_length-le s {i = i} (omega arith) in
      rw e (sym (to-past s k.next an_attribute past))

  pub attribute-says : read_attribute (drop i s) ≡ read_to s k.next an_attribute
  attribute-says = by_end s i i (λ w. attribute-is.says w) attribute-past

-- ---- the text behind the refer byte

refer-text : (s : Bytes) (i : ℕ) (r : TextAt) → TextOf s i r → Reads (read_refer true) s i r.next (some (text_in s r.text))
unfolding read_refer
refer-text s i r t =
    then read_text (λ t. pass (some t)) s i r.next r.next (text_in s r.text) (some (text_in s r.text)) (text-reads s i r t)
    (pass-reads s r.next (some (text_in s r.text)))

pub refer-some : (s : Bytes) (flag i : ℕ) (r : TextAt) → flag ≡ 1 → TextOf s i r → ReferOf s flag i r
refer-some s flag i r e t =
    let b : eqb flag 1 ≡ true = eq-eqb flag 1 e in
    record {
      reads = rw b (refer-text s i r t);
      within = t.within;
      bare = λ w. absurd (false≢true (sym w ∙ b));
    }

pub refer-none : (s : Bytes) (flag i : ℕ) → (flag ≡ 1 → ⊥) → ReferOf s flag i (record { text = record { start = 0; size = 0 }; next = i })
unfolding read_refer
refer-none s flag i e =
    let b : eqb flag 1 ≡ false = ne_eqb flag 1 e in
    record {
      reads = rw b (pass-reads s i none);
      within = omega arith;
      bare = λ w. refl;
    }

-- ---- the place behind n texts

module _ {A F : Type 0} (g : Mut F (ℕ × (A × Unit {0})) ℕ) (f : F) (s : Bytes)
    (each : (i : ℕ) (x : A) (r : ℕ) (q : F) → Called g f (i, (x, tt)) r q → (q ≡ f) × (t : TextAt) × TextOf s i t × (r ≡ t.next)) where
  -- where each step reads one more text, so many steps read so many
  pub texts-passed : (xs : List A) (p q : F × ℕ) → p.0 ≡ f → FoldsTo {P = F × ℕ} (λ a x b. Called g a.0 (a.1, (x, tt)) b.1 b.0) p xs q
      → Reads (times (length xs) read_text) s p.1 q.1 (texts_at s p.1 (length xs))
  unfolding times up_to
  texts-passed [] p q a c = subst (λ (k : ℕ). Reads {A = List Text} (pass []) s p.1 k []) (ap (λ w. w.1) c) (pass-reads s p.1 [])
  texts-passed (x ∷ xs) p q a c =
      let m = each p.1 x c.0.1 c.0.0 (subst (λ w. Called g w (p.1, (x, tt)) c.0.1 c.0.0) a c.1) in
      let t = m.1 in
      let rest = subst (λ (k : ℕ). Reads (times (length xs) read_text) s k q.1 (texts_at s k (length xs))) m.3 (texts-passed xs c.0 q m.0 c.2) in
      times-then read_text s p.1 t.next (text_in s t.text) m.2.says (length xs) q.1 m.2.on rest

-- none is whole where the first is not
none_whole : {A : Type 0} (p : Reader A) (s : Bytes) (i j : ℕ) (a : A) → p (drop i s) ≡ read_to s j a → (n : ℕ) → length s < j → up_to n p (drop i s) ≡ []
unfolding up_to
none_whole p s i j a e zero h = refl
none_whole p s i j a e (suc n) h = no_more p s i j a e n h

-- ---- the texts from a place on, one by one

module _ (s : Bytes) (at n : ℕ) where
  pub no-texts-asked : (1 ≤ n → ⊥) → texts_at s at n ≡ []
  unfolding up_to
  no-texts-asked h = let e : n ≡ 0 = omega arith in rw e refl

  pub no-text-there : None ≡ text_place s at → texts_at s at n ≡ []
  no-text-there e = none_whole read_text s at (length s + 1) (text_in s (no_text s at (length s)).text) (text-none-at s at e).says n (omega arith)

  pub text_first : (p : Place) → Some p ≡ text_place s at → 1 ≤ n → texts_at s at n ≡ text_in s p ∷ texts_at s (p.start + p.size) (n - 1)
  text_first p e h =
      let q : n ≡ suc (n - 1) = omega arith in
      ap (λ (m : ℕ). up_to m read_text (drop at s)) q ∙ more read_text s at (p.start + p.size) (text_in s p) (text-at s at p e).says (n - 1) (text-ends s at p e)

-- ---- the attributes from a place on, one by one

module _ (s : Bytes) (at n : ℕ) where
  pub no-attributes-asked : (1 ≤ n → ⊥) → attributes_at s at n ≡ []
  unfolding up_to
  no-attributes-asked h = let e : n ≡ 0 = omega arith in rw e refl

  pub no-name-there : None ≡ text_place s at → attributes_at s at n ≡ []
  no-name-there e =
      let past : length s < length s + 1 + 2 + two s (length s + 1) = omega arith in
      let a = attribute-says s at (no_text s at (length s)) (no_text s (length s + 1) (length s)) (text-none-at s at e) (text-past s (length s + 1) past) in
      none_whole read_attribute s at (length s + 1) _ a n (omega arith)

  module _ (p : Place) (e : Some p ≡ text_place s at) where
    pub no-key-there : None ≡ text_place s (p.start + p.size) → attributes_at s at n ≡ []
    no-key-there d =
        let a = attribute-says s at (text_to s at p) (no_text s (p.start + p.size) (length s)) (text-at s at p e) (text-none-at s (p.start + p.size) d) in
        none_whole read_attribute s at (length s + 1) _ a n (omega arith)

    pub attribute_first : (q : Place) → Some q ≡ text_place s (p.start + p.size) → 1 ≤ n
        → attributes_at s at n ≡ record { name = text_in s p; key = text_in s q } ∷ attributes_at s (q.start + q.size) (n - 1)
    attribute_first q d h =
        let a = attribute-says s at (text_to s at p) (text_to s (p.start + p.size) q) (text-at s at p e) (text-at s (p.start + p.size) q d) in
        let m : n ≡ suc (n - 1) = omega arith in
        ap (λ (m : ℕ). up_to m read_attribute (drop at s)) m ∙ more read_attribute s at (q.start + q.size) _ a (n - 1) (text-ends s (p.start + p.size) q d)

-- a text that is cut at its two ends
pub cut_at : (s : Bytes) (p : Place) → take (p.start + p.size - p.start) (drop p.start s) ≡ text_in s p
cut_at s p = let n : p.start + p.size - p.start ≡ p.size = omega arith in rw n

-- what is left is fewer by one
pub goes : {A : Type 0} (a : A) (xs ys : List A) → xs ≡ a ∷ ys → length ys < length xs
goes a xs ys e = let l = ap length e in omega (arith, l)

-- the walks go over what stands there
pub texts-walk : (t : Texts) → YieldsList (YieldsFirstRef {A = Text} (λ (t : Texts). texts_at t.rec.now t.at t.left)) (λ (b : Bor Bytes). b.now) t (texts_at t.rec.now t.at t.left)
texts-walk t = YieldsList-from_first (λ b. b.now) (λ t. texts_at t.rec.now t.at t.left) (texts_at t.rec.now t.at t.left) refl

pub attributes-walk : (t : Attributes) → YieldsList (YieldsFirstBy name_and_key (λ (t : Attributes). attributes_at t.rec.now t.at t.left)) name_and_key t (attributes_at t.rec.now t.at t.left)
attributes-walk t = YieldsList-from_first name_and_key (λ t. attributes_at t.rec.now t.at t.left) (attributes_at t.rec.now t.at t.left) refl
