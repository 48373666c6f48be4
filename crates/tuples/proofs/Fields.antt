-- Where a field stands: behind the TUs before its own, the ten bytes of head, the texts before it and its own length; and that this is within the used bytes.
-- Assumes nothing.
use Prim.Native.Nat.{ℕ, zero, suc, ◌+◌, ◌-◌, ◌≤◌, ◌<◌}
use native.Mathlib.Omega.{arith}
use lib.Dec.{ltb}
use lib.ListN.{length, take, drop, get_or, length-drop}
use borrow.Author.Tests.{lt-ltb, le-ltb, ltb-true, ltb-false}
use mathlib.Core.Path.{◌≡◌, refl, ap, sym, ◌∙◌, subst}
use mathlib.Core.Bool.{Bool, true, false}
use mathlib.Core.List.{[]}
use mathlib.Core.Option.{Option, none, some, some-injective, none-ne-some}
use Rattle.numbers.specs.Numbers.{two}
use Rattle.numbers.proofs.RoundTrip.{two-drop}
use Rattle.records.specs.Readers.{Bytes, read_text, on_behind, bytes_from, put_texts}
use Rattle.session_spec.specs.Layout.{TuRecord, read_tu, Part, empty_part, part_in, part_of, field_part}
use Rattle.tuples.specs.Tuples.{rest_of}
use Rattle.tuples.proofs.Behind.{first_of, record-there}
use Rattle.tuples.proofs.Texts.{TextsAt, texts-back}
use Rattle.output_stores.proofs.Tus.{tu-shortens, tu_in}
use Rattle.tuples.proofs.Reading.{Front, front_of, front, no_front}

-- ---- the TU with this number

-- it stands at the front of what is left behind the others
field-part : (used : Bytes) (number i : ℕ) → (number ≡ 0 → ⊥)
    → field_part used number i ≡ part_of used (bytes_from (number - 1) read_tu used) (first_of read_tu (bytes_from (number - 1) read_tu used)) i
unfolding field_part
field-part used zero i h = absurd (h refl)
field-part used (suc m) i h =
    let z : suc m - 1 ≡ m = omega arith in
    ap (λ (t : Option TuRecord). part_of used (bytes_from m read_tu used) t i) (record-there read_tu m used) ∙ rw z

pub rest-within : (n : ℕ) (used : Bytes) → length (rest_of (bytes_from n read_tu used)) ≤ length used
unfolding bytes_from rest_of on_behind
rest-within zero used = omega arith
rest-within (suc n) used = by (read_tu used) refl (λ ys. rest-within n ys)
  where
    by : (o : Option (TuRecord × Bytes)) → read_tu used ≡ o → ((ys : Bytes) → length (rest_of (bytes_from n read_tu ys)) ≤ length ys) → length (rest_of (on_behind o (bytes_from n read_tu))) ≤ length used
    by none e ih = omega arith
    by (some q) e ih = let h = tu-shortens used q.0 q.1 e in let k = ih q.1 in omega arith

module _ (used rest : Bytes) (i : ℕ) where
  none-there : (o : Option Bytes) → rest ≡ rest_of o → read_tu rest ≡ none → part_of used o (first_of read_tu o) i ≡ empty_part
  unfolding part_of first_of rest_of
  none-there none r e = refl
  none-there (some x) r e = let n : read_tu x ≡ none = ap read_tu (sym r) ∙ e in rw n

  one-there : (o : Option Bytes) → rest ≡ rest_of o → (f : Front rest) → part_of used o (first_of read_tu o) i ≡ part_in (length used - length rest) (tu_in rest f.keys) i
  unfolding part_of first_of rest_of
  one-there none r f = absurd (let n = ap length r in let l = f.long in omega arith)
  one-there (some x) r f =
      let n : read_tu x ≡ some (tu_in rest f.keys, drop (4 + two rest 2) rest) = ap read_tu (sym r) ∙ f.reads in
      rw n (ap (λ (l : Bytes). part_in (length used - length l) (tu_in rest f.keys) i) (sym r))

-- ---- its texts

module _ (s : Bytes) (f : Front s) where
  pub texts-at : TextsAt (get_or s 9 0) (drop 10 s) f.keys (drop (4 + two s 2) s)
  texts-at = texts-back (get_or s 9 0) (drop 10 s) f.keys _ f.texts

  part_off : (at i : ℕ) → get_or s 9 0 ≤ i → part_in at (tu_in s f.keys) i ≡ empty_part
  unfolding part_in
  part_off at i h = rw (le-ltb i (length f.keys) (let n = texts-at.count in omega arith))

  part-on : (at i : ℕ) → i < get_or s 9 0
      → part_in at (tu_in s f.keys) i ≡ record { start = at + (12 + length (put_texts (take i f.keys))); size = length (get_or f.keys i []) }
  unfolding part_in
  part-on at i h = rw (lt-ltb i (length f.keys) (let n = texts-at.count in omega arith))

-- ---- the answers of `place_in`

pub no_number : (used : Bytes) (number i : ℕ) → number ≡ 0 → empty_part ≡ field_part used number i
unfolding field_part
no_number used zero i h = refl
no_number used (suc m) i h = absurd (omega arith)

pub none-before : (used : Bytes) (number i : ℕ) → (number ≡ 0 → ⊥) → none ≡ bytes_from (number - 1) read_tu used → empty_part ≡ field_part used number i
unfolding part_of first_of
none-before used number i h e = sym (field-part used number i h ∙ by (bytes_from (number - 1) read_tu used) e)
  where
    by : (o : Option Bytes) → none ≡ o → part_of used o (first_of read_tu o) i ≡ empty_part
    by none e = refl
    by (some x) e = absurd (none-ne-some x e)

module _ (used : Bytes) (number i : ℕ) (h : number ≡ 0 → ⊥) (rest : Bytes) (there-is : some rest ≡ bytes_from (number - 1) read_tu used) where
  r : rest ≡ rest_of (bytes_from (number - 1) read_tu used)
  unfolding rest_of
  r = ap rest_of there-is

  pub rest-fits : length rest ≤ length used
  rest-fits = let n = ap length r in let k = rest-within (number - 1) used in omega arith

  pub no-tuple : none ≡ bytes_from 1 read_tu rest → empty_part ≡ field_part used number i
  no-tuple e = sym (field-part used number i h ∙ none-there used rest i (bytes_from (number - 1) read_tu used) r (no_front rest e))

  module _ (b : Bytes) (e : some b ≡ bytes_from 1 read_tu rest) where
    there : Front rest
    there = front rest b e

    part-is : field_part used number i ≡ part_in (length used - length rest) (tu_in rest there.keys) i
    part-is = field-part used number i h ∙ one-there used rest i (bytes_from (number - 1) read_tu used) r there

    pub head-there : 10 ≤ length rest
    head-there = there.long

    pub no_field : get_or rest 9 0 ≤ i → empty_part ≡ field_part used number i
    no_field k = sym (part-is ∙ part_off rest there (length used - length rest) i k)

    module _ (k : i < get_or rest 9 0) (texts : Bytes) (q : texts ≡ drop 10 rest) where
      -- the bytes of the texts before
      before : ℕ
      before = length (put_texts (take i there.keys))

      texts_there : bytes_from i read_text texts ≡ some (drop before texts)
      unfolding before
      texts_there = rw q ((texts-at rest there).behind i k)

      -- the texts before it are whole
      pub texts-whole : none ≡ bytes_from i read_text texts → ⊥
      texts-whole l = none-ne-some _ (l ∙ texts_there)

      module _ (text : Bytes) (l : some text ≡ bytes_from i read_text texts) where
        text-is : text ≡ drop before texts
        text-is = some-injective _ _ (l ∙ texts_there)

        room : before + (2 + length (get_or there.keys i [])) ≤ length rest - 10
        unfolding before
        room = let w = (texts-at rest there).within i k in let d = length-drop 10 rest in omega arith

        text-length : length text ≡ length rest - 10 - before
        text-length = ap length text-is ∙ length-drop before texts ∙ ap (λ (n : ℕ). n - before) (ap length q ∙ length-drop 10 rest)

        pub left-used : length text ≤ length used
        left-used = let n = text-length in let f = rest-fits in omega arith

        pub field-there : (size : ℕ) → size ≡ two text 0 → record { start = length used - length text + 2; size = size } ≡ field_part used number i
        field-there size z =
            let w : two text 0 ≡ two (drop 10 rest) before =
            ap (λ (x : Bytes). two x 0) (text-is ∙ ap (drop before) q) ∙ two-drop before (drop 10 rest) 0 ∙ ap (two (drop 10 rest)) (let y : before + 0 ≡ before = omega arith in y) in
            let g : size ≡ length (get_or there.keys i []) = z ∙ w ∙ (unfold before in (texts-at rest there).size i k) in
            let p : length used - length text + 2 ≡ length used - length rest + (12 + before) = (let n = text-length in let m = room in let f = rest-fits in let d = there.long in omega arith) in
            part_same p g ∙ sym (part-is ∙ (unfold before in part-on rest there (length used - length rest) i k))
          where
            part_same : {a b c d : ℕ} → a ≡ b → c ≡ d → ◌≡◌ {A = Part} (record { start = a; size = c }) (record { start = b; size = d })
            part_same p q = λ j. record { start = p j; size = q j }

-- ---- WITHIN THE USED BYTES

-- a part of the bytes
abbrev pub Within : Bytes → Part → Type 0
Within used p = p.start + p.size ≤ length used

module _ (used rest : Bytes) (i : ℕ) (h : length rest ≤ length used) (f : Front rest) where
  text-within : Within used (part_in (length used - length rest) (tu_in rest f.keys) i)
  text-within = by (ltb i (get_or rest 9 0)) refl
    where
      by : (b : Bool) → ltb i (get_or rest 9 0) ≡ b → Within used (part_in (length used - length rest) (tu_in rest f.keys) i)
      by true e =
          let k = ltb-true i (get_or rest 9 0) e in
          let w = (texts-at rest f).within i k in
          let d = length-drop 10 rest in
          let l = f.long in
          subst (λ (p : Part). Within used p) (sym (part-on rest f (length used - length rest) i k)) (omega arith)
      by false e = subst (λ (p : Part). Within used p) (sym (part_off rest f (length used - length rest) i (ltb-false i (get_or rest 9 0) e))) (omega arith)

-- what `field_place` gives
pub part-within : (used : Bytes) (number i : ℕ) → (field_part used number i).start + (field_part used number i).size ≤ length used
part-within used number i = by number refl
  where
    read : (rest : Bytes) → rest ≡ rest_of (bytes_from (number - 1) read_tu used) → (number ≡ 0 → ⊥) → (o : Option (TuRecord × Bytes)) → read_tu rest ≡ o → Within used (field_part used number i)
    read rest r h none e =
        let p = field-part used number i h ∙ none-there used rest i (bytes_from (number - 1) read_tu used) r e in
        subst (λ (p : Part). Within used p) (sym p) (omega arith)
    read rest r h (some q) e =
        let f = front_of rest q.0 q.1 e in
        let p = field-part used number i h ∙ one-there used rest i (bytes_from (number - 1) read_tu used) r f in
        let n = ap length r in
        let k = rest-within (number - 1) used in
        subst (λ (p : Part). Within used p) (sym p) (text-within used rest i (omega arith) f)

    by : (n : ℕ) → number ≡ n → Within used (field_part used number i)
    by zero z = subst (λ (p : Part). Within used p) (no_number used number i z) (omega arith)
    by (suc n) z = read (rest_of (bytes_from (number - 1) read_tu used)) refl (λ y. omega arith) (read_tu (rest_of (bytes_from (number - 1) read_tu used))) refl
