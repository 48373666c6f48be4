-- `view-is-part`: the part of the tuple store that the view names holds the text of the field. A reader takes bytes from the front, so what it leaves
-- is the rest behind so many; the texts of a TU stand one behind the other behind its head.
-- Assumes nothing.
use Prim.Native.Nat.{ℕ, zero, suc, ◌+◌, ◌-◌, ◌*◌, ◌≤◌, ◌<◌}
use native.Mathlib.Omega.{arith}
use lib.Dec.{ltb}
use lib.ListN.{length, take, drop, get_or, length-append, length-drop, get_or-eq_default}
use lib.Seq.{take_at, drop-drop, drop-append_seam}
use borrow.Author.Tests.{ltb-true, ltb-false}
use mathlib.Core.Path.{◌≡◌, refl, ap, sym, ◌∙◌, subst}
use mathlib.Core.Bool.{Bool, true, false, cond}
use mathlib.Core.List.{List, [], ◌∷◌, ◌++◌, flat_map}
use mathlib.Core.Option.{Option, none, some, map, some-injective, none-ne-some}
use Rattle.lists.specs.Lists.{part}
use Rattle.texts.specs.Texts.{Text}
use Rattle.records.specs.Readers.{Bytes, Reader, on_read, ◌>>=◌, pass, require, read_byte, read_two, read_four, cons_on, read_bytes, read_text, times, on_behind, record_at, bytes_from, put_text, put_texts}
use Rattle.records.proofs.Readers.{text-length}
use Rattle.session_spec.specs.Layout.{TuRecord, read_tu, key_at, tuple_field, empty_part, part_in, part_of, field_part}

-- ---- what one reader behind another reads

pub record Both {A B : Type 0} (o : Option (A × Bytes)) (f : A → Reader B) (q : B × Bytes) : Type 0 where
  pub value : A
  pub rest : Bytes
  pub first : o ≡ some (value, rest)
  pub second : f value rest ≡ some q

both : {A B : Type 0} (o : Option (A × Bytes)) (f : A → Reader B) (q : B × Bytes) → on_read o f ≡ some q → Both o f q
unfolding on_read
both none f q e = absurd (none-ne-some q e)
both (some p) f q e = record { value = p.0; rest = p.1; first = refl; second = e }

required : (b : Bool) (xs : Bytes) (q : Bool × Bytes) → require b xs ≡ some q → xs ≡ q.1
unfolding require
required true xs q e = ap (λ (r : Bool × Bytes). r.1) (some-injective _ _ e)
required false xs q e = absurd (none-ne-some q e)

-- ---- texts

bytes_back : (n : ℕ) (xs t ys : Bytes) → read_bytes n xs ≡ some (t, ys) → xs ≡ t ++ ys
unfolding read_bytes cons_on
bytes_back zero xs t ys e =
    let q = some-injective _ _ e in
    let a : [] ≡ t = ap (λ (r : Bytes × Bytes). r.0) q in
    let b : xs ≡ ys = ap (λ (r : Bytes × Bytes). r.1) q in
    cc (a, b)
bytes_back (suc n) [] t ys e = absurd (none-ne-some (t, ys) e)
bytes_back (suc n) (x ∷ xs) t ys e = by (read_bytes n xs) refl e (λ u v h. bytes_back n xs u v h)
  where
    by : (o : Option (Bytes × Bytes)) → read_bytes n xs ≡ o → cons_on x o ≡ some (t, ys) → ((u v : Bytes) → read_bytes n xs ≡ some (u, v) → xs ≡ u ++ v) → x ∷ xs ≡ t ++ ys
    by none r h ih = absurd (none-ne-some (t, ys) h)
    by (some q) r h ih =
        let p = some-injective _ _ h in
        let a : x ∷ q.0 ≡ t = ap (λ (u : Bytes × Bytes). u.0) p in
        let b : q.1 ≡ ys = ap (λ (u : Bytes × Bytes). u.1) p in
        ap (λ (l : Bytes). x ∷ l) (ih q.0 q.1 r) ∙ ap (λ (l : Bytes). l ++ q.1) a ∙ ap (λ (l : Bytes). t ++ l) b

-- two bytes of length stand before a text
text-back : (xs : Bytes) (t ys : Bytes) → read_text xs ≡ some (t, ys) → (drop 2 xs ≡ t ++ ys) × (2 ≤ length xs)
unfolding read_text read_two read_byte ◌>>=◌ on_read pass
text-back [] t ys e = absurd (none-ne-some (t, ys) e)
text-back (a ∷ []) t ys e = absurd (none-ne-some (t, ys) e)
text-back (a ∷ b ∷ xs) t ys e = (bytes_back (a + 256 * b) xs t ys e, omega arith)

-- behind a text: its own bytes and two
text-rest : (xs t ys : Bytes) → read_text xs ≡ some (t, ys) → (ys ≡ drop (2 + length t) xs) × (2 + length t ≤ length xs)
text-rest xs t ys e =
    let p = text-back xs t ys e in
    let l : length xs - 2 ≡ length t + length ys = sym (length-drop 2 xs) ∙ ap length p.0 ∙ length-append t ys in
    let h = p.1 in
    (sym (drop-append_seam t ys) ∙ ap (drop (length t)) (sym p.0) ∙ drop-drop (length t) 2 xs, omega arith)

-- the texts of a list: text i stands behind those before it and its own length
pub record Texts (zs : Bytes) (ts : List Text) (ys : Bytes) : Type 0 where
  pub taken : ℕ
  pub fits : taken ≤ length zs
  pub left : ys ≡ drop taken zs
  pub stands : (i : ℕ) → i < length ts → part zs (length (put_texts (take i ts)) + 2) (length (get_or ts i [])) ≡ get_or ts i []

pub texts-length : (t : Text) (ts : List Text) → length (put_texts (t ∷ ts)) ≡ 2 + length t + length (put_texts ts)
unfolding put_texts flat_map
texts-length t ts = let e = length-append (put_text t) (flat_map put_text ts) in let l = text-length t in omega arith

one_more : (zs t ws : Bytes) (ts : List Text) (ys : Bytes) → read_text zs ≡ some (t, ws) → Texts ws ts ys → Texts zs (t ∷ ts) ys
one_more zs t ws ts ys e w =
    let p = text-back zs t ws e in
    let q = text-rest zs t ws e in
    let m : ℕ = 2 + length t in
    record {
      taken = m + w.taken;
      fits = let f = w.fits in let g = ap length q.0 ∙ length-drop m zs in let h = q.1 in omega arith;
      left = w.left ∙ ap (drop w.taken) q.0 ∙ drop-drop w.taken m zs;
      stands = λ i h. at i h;
    }
  where
    at : (i : ℕ) → i < length (t ∷ ts) → part zs (length (put_texts (take i (t ∷ ts))) + 2) (length (get_or (t ∷ ts) i [])) ≡ get_or (t ∷ ts) i []
    at zero h =
        let n : length (put_texts []) + 2 ≡ 2 = unfold put_texts flat_map in refl in
        ap (λ (k : ℕ). part zs k (length t)) n ∙ ap (take (length t)) (text-back zs t ws e).0 ∙ take_at t ws (length t) refl
    at (suc i) h =
        let n : length (put_texts (t ∷ take i ts)) + 2 ≡ 2 + length t + (length (put_texts (take i ts)) + 2) = let l = texts-length t (take i ts) in omega arith in
        let m : ℕ = length (put_texts (take i ts)) + 2 in
        ap (λ (k : ℕ). part zs k (length (get_or ts i []))) n
        ∙ ap (take (length (get_or ts i []))) (sym (drop-drop m (2 + length t) zs) ∙ ap (drop m) (sym (text-rest zs t ws e).0))
        ∙ w.stands i (omega arith)

texts-back : (k : ℕ) (zs : Bytes) (ts : List Text) (ys : Bytes) → times k read_text zs ≡ some (ts, ys) → Texts zs ts ys
unfolding times pass ◌>>=◌
texts-back zero zs ts ys e =
    let q = some-injective _ _ e in
    let a : [] ≡ ts = ap (λ (r : List Text × Bytes). r.0) q in
    let b : zs ≡ ys = ap (λ (r : List Text × Bytes). r.1) q in
    let n : length ts ≡ 0 = sym (ap length a) in
    record { taken = 0; fits = omega arith; left = sym b; stands = λ i h. absurd (omega arith) }
texts-back (suc k) zs ts ys e =
    let p = both (read_text zs) (λ a. λ xs. on_read (times k read_text xs) (λ l. λ us. some (a ∷ l, us))) (ts, ys) e in
    let q = both (times k read_text p.rest) (λ l. λ us. some (p.value ∷ l, us)) (ts, ys) p.second in
    let r = some-injective _ _ q.second in
    let a : p.value ∷ q.value ≡ ts = ap (λ (u : List Text × Bytes). u.0) r in
    let b : q.rest ≡ ys = ap (λ (u : List Text × Bytes). u.1) r in
    subst (λ (us : List Text). Texts zs us ys) a
    (subst (λ (us : Bytes). Texts zs (p.value ∷ q.value) us) b
    (one_more zs p.value p.rest q.value q.rest p.first (texts-back k p.rest q.value q.rest q.first)))

-- ---- a TU

-- so many bytes are read, and the rest is behind them
abbrev Behind : ℕ → Bytes → Bytes → Type 0
Behind k xs ys = (ys ≡ drop k xs) × (k ≤ length xs)

then-behind : (k m : ℕ) (xs ys zs : Bytes) → Behind k xs ys → Behind m ys zs → Behind (k + m) xs zs
then-behind k m xs ys zs p q =
    let l = ap length p.0 ∙ length-drop k xs in
    let a = p.1 in
    let b = q.1 in
    (q.0 ∙ ap (drop m) p.0 ∙ drop-drop m k xs, omega arith)

byte-behind : (xs : Bytes) (a : ℕ) (ys : Bytes) → read_byte xs ≡ some (a, ys) → Behind 1 xs ys
unfolding read_byte
byte-behind [] a ys e = absurd (none-ne-some (a, ys) e)
byte-behind (x ∷ xs) a ys e = (sym (ap (λ (r : ℕ × Bytes). r.1) (some-injective _ _ e)), omega arith)

two-behind : (xs : Bytes) (a : ℕ) (ys : Bytes) → read_two xs ≡ some (a, ys) → Behind 2 xs ys
unfolding read_two ◌>>=◌ pass
two-behind xs a ys e =
    let p = both (read_byte xs) _ (a, ys) e in
    let q = both (read_byte p.rest) _ (a, ys) p.second in
    let r : q.rest ≡ ys = ap (λ (u : ℕ × Bytes). u.1) (some-injective _ _ q.second) in
    subst (λ (l : Bytes). Behind 2 xs l) r
    (then-behind 1 1 xs p.rest q.rest (byte-behind xs p.value p.rest p.first) (byte-behind p.rest q.value q.rest q.first))

four-behind : (xs : Bytes) (a : ℕ) (ys : Bytes) → read_four xs ≡ some (a, ys) → Behind 4 xs ys
unfolding read_four ◌>>=◌ pass
four-behind xs a ys e =
    let p = both (read_two xs) _ (a, ys) e in
    let q = both (read_two p.rest) _ (a, ys) p.second in
    let r : q.rest ≡ ys = ap (λ (u : ℕ × Bytes). u.1) (some-injective _ _ q.second) in
    subst (λ (l : Bytes). Behind 4 xs l) r
    (then-behind 2 2 xs p.rest q.rest (two-behind xs p.value p.rest p.first) (two-behind p.rest q.value q.rest q.first))

-- ten bytes of head, then the texts
pub record Tu (xs : Bytes) (t : TuRecord) (ys : Bytes) : Type 0 where
  pub head : 10 ≤ length xs
  pub texts : Texts (drop 10 xs) t.keys ys

tu-back : (xs : Bytes) (t : TuRecord) (ys : Bytes) → read_tu xs ≡ some (t, ys) → Tu xs t ys
unfolding read_tu ◌>>=◌ pass
tu-back xs t ys e =
    let a = both (read_byte xs) _ (t, ys) e in
    let b = both (read_byte a.rest) _ (t, ys) a.second in
    let m = both (require _ b.rest) _ (t, ys) b.second in
    let n = both (read_two m.rest) _ (t, ys) m.second in
    let c = both (read_byte n.rest) _ (t, ys) n.second in
    let s = both (read_four c.rest) _ (t, ys) c.second in
    let k = both (read_byte s.rest) _ (t, ys) s.second in
    let l = both (times k.value read_text k.rest) _ (t, ys) k.second in
    let r = both (require _ l.rest) _ (t, ys) l.second in
    let q = some-injective _ _ r.second in
    let keys : l.value ≡ t.keys = ap (λ (u : TuRecord × Bytes). u.0.keys) q in
    let left : r.rest ≡ ys = ap (λ (u : TuRecord × Bytes). u.1) q in
    let two : Behind 2 xs m.rest =
    subst (λ (u : Bytes). Behind 2 xs u) (required _ b.rest (m.value, m.rest) m.first)
    (then-behind 1 1 xs a.rest b.rest (byte-behind xs a.value a.rest a.first) (byte-behind a.rest b.value b.rest b.first)) in
    let four = then-behind 2 2 xs m.rest n.rest two (two-behind m.rest n.value n.rest n.first) in
    let five = then-behind 4 1 xs n.rest c.rest four (byte-behind n.rest c.value c.rest c.first) in
    let nine = then-behind 5 4 xs c.rest s.rest five (four-behind c.rest s.value s.rest s.first) in
    let ten = then-behind 9 1 xs s.rest k.rest nine (byte-behind s.rest k.value k.rest k.first) in
    let ends : l.rest ≡ ys = required _ l.rest (r.value, r.rest) r.first ∙ left in
    let w : Texts k.rest l.value l.rest = texts-back k.value k.rest l.value l.rest l.first in
    record {
      head = ten.1;
      texts =
          subst (λ (u : Bytes). Texts u t.keys ys) ten.0
          (subst (λ (u : List Text). Texts k.rest u ys) keys (subst (λ (u : Bytes). Texts k.rest l.value u) ends w));
    }

-- ---- the TU with number n

pub record From (xs rest : Bytes) : Type 0 where
  pub passed : ℕ
  pub behind : Behind passed xs rest

tu-behind : (xs : Bytes) (t : TuRecord) (ys : Bytes) → read_tu xs ≡ some (t, ys) → From xs ys
tu-behind xs t ys e =
    let w = tu-back xs t ys e in
    record { passed = 10 + w.texts.taken; behind = then-behind 10 w.texts.taken xs (drop 10 xs) ys (refl, w.head) (w.texts.left, w.texts.fits) }

from-behind : (n : ℕ) (xs rest : Bytes) → bytes_from n read_tu xs ≡ some rest → From xs rest
unfolding bytes_from on_behind
from-behind zero xs rest e = record { passed = 0; behind = (sym (some-injective _ _ e), omega arith) }
from-behind (suc n) xs rest e = by (read_tu xs) refl e (λ ys. from-behind n ys rest)
  where
    by : (o : Option (TuRecord × Bytes)) → read_tu xs ≡ o → on_behind o (bytes_from n read_tu) ≡ some rest → ((ys : Bytes) → bytes_from n read_tu ys ≡ some rest → From ys rest) → From xs rest
    by none r h ih = absurd (none-ne-some rest h)
    by (some q) r h ih =
        let a = tu-behind xs q.0 q.1 r in
        let b = ih q.1 h in
        record { passed = a.passed + b.passed; behind = then-behind a.passed b.passed xs q.1 rest a.behind b.behind }

-- the bytes from a record on, and the record
record-there : (n : ℕ) (xs rest : Bytes) → bytes_from n read_tu xs ≡ some rest → record_at n read_tu xs ≡ map (λ q. q.0) (read_tu rest)
unfolding bytes_from record_at on_behind
record-there zero xs rest e = ap (λ (l : Bytes). map (λ q. q.0) (read_tu l)) (some-injective _ _ e)
record-there (suc n) xs rest e = by (read_tu xs) e (λ ys. record-there n ys rest)
  where
    by : (o : Option (TuRecord × Bytes)) → on_behind o (bytes_from n read_tu) ≡ some rest
        → ((ys : Bytes) → bytes_from n read_tu ys ≡ some rest → record_at n read_tu ys ≡ map (λ q. q.0) (read_tu rest))
        → on_behind o (record_at n read_tu) ≡ map (λ q. q.0) (read_tu rest)
    by none h ih = absurd (none-ne-some rest h)
    by (some q) h ih = ih q.1 h

record-none : (n : ℕ) (xs : Bytes) → bytes_from n read_tu xs ≡ none → record_at n read_tu xs ≡ none
unfolding bytes_from record_at on_behind
record-none zero xs e = absurd (none-ne-some xs (sym e))
record-none (suc n) xs e = by (read_tu xs) e (λ ys. record-none n ys)
  where
    by : (o : Option (TuRecord × Bytes)) → on_behind o (bytes_from n read_tu) ≡ none → ((ys : Bytes) → bytes_from n read_tu ys ≡ none → record_at n read_tu ys ≡ none) → on_behind o (record_at n read_tu) ≡ none
    by none h ih = refl
    by (some q) h ih = ih q.1 h

-- ---- the part holds the text

module _ (used rest : Bytes) (t : TuRecord) (ys : Bytes) (i : ℕ) (f : From used rest) (e : read_tu rest ≡ some (t, ys)) where
  before : ℕ
  before = length used - length rest

  -- so many bytes stand before the TU
  begins : drop before used ≡ rest
  unfolding before
  begins =
      let b = f.behind in
      let l = ap length b.0 ∙ length-drop f.passed used in
      let h = b.1 in
      let n : length used - length rest ≡ f.passed = omega arith in
      ap (λ (k : ℕ). drop k used) n ∙ sym b.0

  in-part : part used (part_in before t i).start (part_in before t i).size ≡ get_or t.keys i []
  unfolding part_in
  in-part = by (ltb i (length t.keys)) refl
    where
      m : ℕ
      m = length (put_texts (take i t.keys))

      by : (b : Bool) → ltb i (length t.keys) ≡ b
          → part used (cond b (record { start = before + (12 + m); size = length (get_or t.keys i []) }) empty_part).start (cond b (record { start = before + (12 + m); size = length (get_or t.keys i []) }) empty_part).size ≡ get_or t.keys i []
      by true h =
          let n : 12 + m ≡ 10 + (m + 2) = omega arith in
          ap (take (length (get_or t.keys i [])))
          (sym (drop-drop (12 + m) before used) ∙ ap (drop (12 + m)) begins ∙ ap (λ (k : ℕ). drop k rest) n ∙ sym (drop-drop (m + 2) 10 rest))
          ∙ (tu-back rest t ys e).texts.stands i (ltb-true i (length t.keys) h)
      by false h = sym (get_or-eq_default t.keys [] (ltb-false i (length t.keys) h))

-- THE VIEW IS A PART of the used tuple store.
pub view-is-part : (used : Bytes) (n i : ℕ) → part used (field_part used n i).start (field_part used n i).size ≡ tuple_field used n i
unfolding field_part tuple_field
view-is-part used zero i = refl
view-is-part used (suc n) i = by (bytes_from n read_tu used) refl
  where
    read : (rest : Bytes) → From used rest → (o : Option (TuRecord × Bytes)) → read_tu rest ≡ o
        → part used (part_of used (some rest) (map (λ q. q.0) o) i).start (part_of used (some rest) (map (λ q. q.0) o) i).size ≡ key_at (map (λ q. q.0) o) i
    read rest f none e = unfold part_of key_at in refl
    read rest f (some q) e = unfold part_of key_at before in (in-part used rest q.0 q.1 i f e)

    by : (o : Option Bytes) → bytes_from n read_tu used ≡ o
        → part used (part_of used o (record_at n read_tu used) i).start (part_of used o (record_at n read_tu used) i).size ≡ key_at (record_at n read_tu used) i
    by none e = rw (record-none n used e) (unfold part_of key_at in refl)
    by (some rest) e = rw (record-there n used rest e) (read rest (from-behind n used rest e) (read_tu rest) refl)
