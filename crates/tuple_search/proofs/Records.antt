-- A TU alone: what stands in its places, that `frame` cuts off the same bytes, and, since bytes are below 256, that
-- from byte 5 on they are those that its scope and keys are written as. The texts are gone through by induction.
-- Assumes nothing.
use Prim.Native.Nat.{ℕ, zero, suc, ◌+◌, ◌*◌, ◌/◌, ◌%◌, ◌≤◌, ◌<◌}
use native.Mathlib.Omega.{arith}
use lib.Dec.{eqb, leb, ltb}
use lib.ListN.{length, take, drop, get_or, length-drop, length-append, take-append-drop, get_or-append, get_or-eq_default}
use lib.Seq.{drop-drop, drop-length, take-length, length-take-le, get_or-append-add}
use borrow.Author.Tests.{eqb-true, leb-true, leb-false, ltb-true, ltb-false}
use mathlib.Core.Path.{◌≡◌, refl, ap, sym, ◌∙◌, subst}
use mathlib.Core.Bool.{Bool, true, false}
use mathlib.Core.List.{List, [], ◌∷◌, ◌++◌, append_assoc, append-nil, flat_map}
use mathlib.Core.Option.{Option, none, some, some-injective, none-ne-some}
use Rattle.std.proofs.lemmas.List.{drop_more}
use Rattle.texts.specs.Texts.{Text}
use Rattle.numbers.specs.Numbers.{two, four, two_bytes, four_bytes}
use Rattle.numbers.proofs.RoundTrip as round
use Rattle.records.specs.Readers.{Bytes, on_read, ◌>>=◌, pass, require, read_byte, read_two, read_bytes, read_text, times, put_text, put_texts}
use Rattle.records.proofs.Readers.{text-length}
use Rattle.records.proofs.Places.{bytes-there, bytes-short}
use Rattle.session_spec.specs.Definitions.{frame}
use Rattle.session_spec.specs.Layout.{TuRecord, read_tu}
use Rattle.session_laws.proofs.Stores.{frame-stable}
use Rattle.output_stores.proofs.Tus.{tu-least, tu_in, tu_marked, tu_end, tu-read, tu-unmarked}
use Rattle.tuple_search.specs.Search.{tail_bytes}
use Rattle.frames.proofs.Fronts.{frame-there}
use Rattle.tuple_search.proofs.Cuts.{tu-cuts}

-- ---- bytes are below 256

abbrev pub Below : Bytes → Type 0
Below s = (i : ℕ) → get_or s i 0 < 256

pub front_below : (f r : Bytes) → Below (f ++ r) → Below f
front_below f r b i = by (ltb i (length f)) refl
  where
    by : (t : Bool) → ltb i (length f) ≡ t → get_or f i 0 < 256
    by true e = let k = b i in let g = get_or-append f r 0 i (ltb-true i (length f) e) in omega arith
    by false e = let g = get_or-eq_default f 0 {n = i} (ltb-false i (length f) e) in omega arith

pub rest_below : (f r : Bytes) → Below (f ++ r) → Below r
rest_below f r b i = let k = b (length f + i) in let g = get_or-append-add f r i 0 in omega arith

drop-below : (k : ℕ) (s : Bytes) → Below s → Below (drop k s)
drop-below k s b = rest_below (take k s) (drop k s) (λ i. rw (take-append-drop k s) (b i))

-- ---- what stands in its places

pub record Says (s : Bytes) (t : TuRecord) (r : Bytes) : Type 0 where
  pub long : 10 ≤ length s
  pub size : two s 2 ≡ 6 + length (put_texts t.keys)
  pub constraint : get_or s 4 0 ≡ t.constraint
  pub scope : four s 5 ≡ t.scope
  pub texts : times (get_or s 9 0) read_text (drop 10 s) ≡ some (t.keys, r)

tu-ended : (s : Bytes) (t : TuRecord) (r : Bytes) → 10 ≤ length s → on_read (times (get_or s 9 0) read_text (drop 10 s)) (tu_end s) ≡ some (t, r) → Says s t r
unfolding tu_end ◌>>=◌ on_read require pass
tu-ended s t r l h = by (times (get_or s 9 0) read_text (drop 10 s)) refl h
  where
    fits : (q : List Text × Bytes) → times (get_or s 9 0) read_text (drop 10 s) ≡ some q → (b : Bool) → eqb (two s 2) (6 + length (put_texts q.0)) ≡ b
        → on_read (require b q.1) (λ _. pass (tu_in s q.0)) ≡ some (t, r) → Says s t r
    fits q e true f h =
        let w = some-injective _ _ h in
        record {
          long = l;
          size = eqb-true (two s 2) (6 + length (put_texts q.0)) f ∙ ap (λ (u : TuRecord × Bytes). 6 + length (put_texts u.0.keys)) w;
          constraint = ap (λ (u : TuRecord × Bytes). u.0.constraint) w;
          scope = ap (λ (u : TuRecord × Bytes). u.0.scope) w;
          texts = e ∙ ap (λ (u : TuRecord × Bytes). some (u.0.keys, u.1)) w;
        }
    fits q e false f h = let z : ◌≡◌ {A = ℕ} 0 1 = cc in absurd (omega arith)

    by : (o : Option (List Text × Bytes)) → times (get_or s 9 0) read_text (drop 10 s) ≡ o → on_read o (tu_end s) ≡ some (t, r) → Says s t r
    by none e h = let z : ◌≡◌ {A = ℕ} 0 1 = cc in absurd (omega arith)
    by (some q) e h = fits q e (eqb (two s 2) (6 + length (put_texts q.0))) refl h

pub tu-says : (s : Bytes) (t : TuRecord) (r : Bytes) → read_tu s ≡ some (t, r) → Says s t r
tu-says s t r h = by (tu_marked s) refl
  where
    n : 10 ≤ length s
    n = let k = tu-least s t r h in omega arith

    by : (b : Bool) → tu_marked s ≡ b → Says s t r
    by true e = tu-ended s t r n (sym (tu-read s n e) ∙ h)
    by false e = absurd (none-ne-some (t, r) (sym (tu-unmarked s n e) ∙ h))

-- ---- its texts

bytes-exact : (n : ℕ) (xs t r : Bytes) → read_bytes n xs ≡ some (t, r) → (length t ≡ n) × (xs ≡ t ++ r)
bytes-exact n xs t r h = by (leb n (length xs)) refl
  where
    by : (b : Bool) → leb n (length xs) ≡ b → (length t ≡ n) × (xs ≡ t ++ r)
    by true e =
        let l = leb-true n (length xs) e in
        let w : ◌≡◌ {A = Bytes × Bytes} (take n xs, drop n xs) (t, r) = some-injective _ _ (sym (bytes-there n xs l) ∙ h) in
        (sym (ap (λ (u : Bytes × Bytes). length u.0) w) ∙ length-take-le n xs l, sym (take-append-drop n xs) ∙ ap (λ (u : Bytes × Bytes). u.0 ++ u.1) w)
    by false e = let z : ◌≡◌ {A = ℕ} 0 1 = cc (bytes-short n xs (leb-false n (length xs) e), h) in absurd (omega arith)

-- what stands there is written as it is read: the length in two bytes, where these are below 256
length-exact : (a b : ℕ) (xs t r : Bytes) → length t ≡ a + 256 * b → xs ≡ t ++ r → a < 256 → a ∷ b ∷ xs ≡ put_text t ++ r
unfolding put_text two_bytes
length-exact a b xs t r n e l =
    let low : a ≡ length t % 256 = omega arith in
    let high : b ≡ length t / 256 = omega arith in
    cc (low, high, e)

text-exact : (xs t r : Bytes) → read_text xs ≡ some (t, r) → (length xs ≡ length (put_text t) + length r) × (Below xs → xs ≡ put_text t ++ r)
unfolding read_text read_two read_byte ◌>>=◌ on_read pass
text-exact [] t r h = let z : ◌≡◌ {A = ℕ} 0 1 = cc in absurd (omega arith)
text-exact (a ∷ []) t r h = let z : ◌≡◌ {A = ℕ} 0 1 = cc in absurd (omega arith)
text-exact (a ∷ b ∷ xs) t r h =
    let p = bytes-exact (a + 256 * b) xs t r h in (
      (let k = ap length p.1 ∙ length-append t r in let l = text-length t in omega arith),
      λ w. length-exact a b xs t r p.0 p.1 (w 0),
    )

pub record Texts (n : ℕ) (xs : Bytes) (ts : List Text) (r : Bytes) : Type 0 where
  pub number : length ts ≡ n
  pub size : length xs ≡ length (put_texts ts) + length r
  pub exact : Below xs → xs ≡ put_texts ts ++ r

no-texts : (xs : Bytes) → Texts 0 xs [] xs
unfolding put_texts flat_map
no-texts xs = record { number = refl; size = omega arith; exact = λ _. refl }

one_more : (n : ℕ) (xs t ys : Bytes) (ts : List Text) (r : Bytes) → read_text xs ≡ some (t, ys) → Texts n ys ts r → Texts (suc n) xs (t ∷ ts) r
unfolding put_texts flat_map
one_more n xs t ys ts r e k =
    let p = text-exact xs t ys e in
    let q = p.0 in
    let m = k.number in
    let l = k.size in
    record {
      number = omega arith;
      size = omega (arith, length-append (put_text t) (put_texts ts));
      exact =
          λ w.
          let f = p.1 w in
          f
          ∙ ap (λ (z : Bytes). put_text t ++ z) (k.exact (rest_below (put_text t) ys (subst (λ (z : Bytes). Below z) f w)))
          ∙ sym (append_assoc (put_text t) (put_texts ts) r);
    }

texts-exact : (n : ℕ) (xs : Bytes) (ts : List Text) (r : Bytes) → times n read_text xs ≡ some (ts, r) → Texts n xs ts r
unfolding times ◌>>=◌ on_read pass
texts-exact zero xs ts r h =
    let w : ◌≡◌ {A = List Text × Bytes} ([], xs) (ts, r) = some-injective _ _ h in
    subst (λ (u : List Text × Bytes). Texts 0 xs u.0 u.1) w (no-texts xs)
texts-exact (suc n) xs ts r h = by (read_text xs) refl h (λ ys. texts-exact n ys)
  where
    rest : (t ys : Bytes) → read_text xs ≡ some (t, ys) → (o : Option (List Text × Bytes)) → times n read_text ys ≡ o
        → on_read o (λ l. pass (t ∷ l)) ≡ some (ts, r) → ((us : List Text) (q : Bytes) → times n read_text ys ≡ some (us, q) → Texts n ys us q) → Texts (suc n) xs ts r
    rest t ys d none e h ih = let z : ◌≡◌ {A = ℕ} 0 1 = cc in absurd (omega arith)
    rest t ys d (some q) e h ih =
        let w : ◌≡◌ {A = List Text × Bytes} (t ∷ q.0, q.1) (ts, r) = some-injective _ _ h in
        subst (λ (u : List Text × Bytes). Texts (suc n) xs u.0 u.1) w (one_more n xs t ys q.0 q.1 d (ih q.0 q.1 e))

    by : (o : Option (Text × Bytes)) → read_text xs ≡ o → on_read o (λ t. times n read_text >>= (λ l. pass (t ∷ l))) ≡ some (ts, r)
        → ((ys : Bytes) (us : List Text) (q : Bytes) → times n read_text ys ≡ some (us, q) → Texts n ys us q) → Texts (suc n) xs ts r
    by none e h ih = let z : ◌≡◌ {A = ℕ} 0 1 = cc in absurd (omega arith)
    by (some q) e h ih = rest q.0 q.1 e (times n read_text q.1) refl h (ih q.1)

-- ---- a TU and nothing behind it

module _ (f : Bytes) (t : TuRecord) (h : read_tu f ≡ some (t, [])) where
  its-texts : Texts (get_or f 9 0) (drop 10 f) t.keys []
  its-texts = texts-exact (get_or f 9 0) (drop 10 f) t.keys [] (tu-says f t [] h).texts

  pub tu-size : length f ≡ 10 + length (put_texts t.keys)
  tu-size =
      let l = (tu-says f t [] h).long in
      let s = its-texts.size in
      let d = length-drop 10 f in
      omega arith

  -- the length that it states is its own
  frame-alone : frame f ≡ some (f, [])
  frame-alone =
      let s = (tu-says f t [] h).size in
      let n : two f 2 + 4 ≡ length f = let l = tu-size in omega arith in
      frame-there f (omega arith) ∙ ap (λ (k : ℕ). some (take k f, drop k f)) n ∙ rw (take-length f, drop-length f)

  module _ (b : Below f) where
    -- the field count, and the key texts
    pub tu-texts : drop 9 f ≡ length t.keys ∷ put_texts t.keys
    tu-texts =
        let l = (tu-says f t [] h).long in
        let e : drop 10 f ≡ put_texts t.keys = its-texts.exact (drop-below 10 f b) ∙ append-nil (put_texts t.keys) in
        drop_more f 9 0 (omega arith) ∙ ap (λ (z : Bytes). get_or f 9 0 ∷ z) e ∙ ap (λ (k : ℕ). k ∷ put_texts t.keys) (sym its-texts.number)

    -- with the scope before them
    pub tu-tail : drop 5 f ≡ tail_bytes t.scope t.keys
    unfolding tail_bytes
    tu-tail =
        let l = (tu-says f t [] h).long in
        let s = (tu-says f t [] h).scope in
        sym (take-append-drop 4 (drop 5 f))
        ∙ ap (λ (z : Bytes). z ++ drop 4 (drop 5 f)) (sym (round.four-there f b 5 (omega arith)) ∙ ap four_bytes s)
        ∙ ap (λ (z : Bytes). four_bytes t.scope ++ z) (drop-drop 4 5 f ∙ tu-texts)

-- ---- a TU in front of others

-- `frame` cuts it off as its own reader does
pub record Fronted (s : Bytes) (t : TuRecord) (r : Bytes) : Type 0 where
  pub alone : Bytes
  pub split : s ≡ alone ++ r
  pub reads : read_tu alone ≡ some (t, [])
  pub framed : frame s ≡ some (alone, r)

pub fronted : (s : Bytes) (t : TuRecord) (r : Bytes) → read_tu s ≡ some (t, r) → Fronted s t r
fronted s t r h =
    let c = tu-cuts s t r h in
    record {
      alone = c.part;
      split = c.split;
      reads = c.alone;
      framed = ap frame c.split ∙ frame-stable c.part r c.part [] (frame-alone c.part t c.alone);
    }
