-- Texts one behind the other at the front of bytes: how many bytes they take, and where each stands. By induction on their number, from what is read of one.
-- Assumes nothing.
use Prim.Native.Nat.{ℕ, zero, suc, ◌+◌, ◌-◌, ◌*◌, ◌≤◌, ◌<◌}
use native.Mathlib.Omega.{arith}
use borrow.Author.Tests.{leb-true, leb-false}
use lib.Dec.{leb}
use lib.ListN.{length, take, drop, get_or, length-drop, drop_of_length-le}
use lib.Seq.{drop-drop, length-take-le, take-take, take-add}
use mathlib.Core.Path.{◌≡◌, refl, ap, sym, ◌∙◌, subst}
use mathlib.Core.Bool.{Bool, true, false}
use mathlib.Core.List.{List, [], ◌∷◌, ◌++◌, flat_map}
use mathlib.Core.Option.{Option, none, some, some-injective, none-ne-some}
use Rattle.texts.specs.Texts.{Text}
use Rattle.numbers.specs.Numbers.{two}
use Rattle.numbers.proofs.RoundTrip.{two-drop}
use Rattle.records.specs.Readers.{Bytes, on_read, ◌>>=◌, pass, read_byte, read_two, read_bytes, read_text, times, on_behind, bytes_from, put_texts}
use Rattle.records.proofs.Stores.{text-stable}
use Rattle.records.proofs.Places.{bytes-there, bytes-short, text-there, text-short}
use Rattle.session_laws.proofs.View.{texts-length}
use Rattle.tuples.proofs.Behind.{from_on, from-stop, from_end}

-- ---- one text

pub record TextAt (xs : Bytes) (t : Text) (ys : Bytes) : Type 0 where
  pub size : length t ≡ two xs 0
  pub fits : 2 + two xs 0 ≤ length xs
  pub left : ys ≡ drop (2 + two xs 0) xs
  pub exact : read_text (take (2 + two xs 0) xs) ≡ some (t, [])

-- so many bytes
bytes_back : (n : ℕ) (xs t ys : Bytes) → read_bytes n xs ≡ some (t, ys) → (n ≤ length xs) × (take n xs ≡ t) × (drop n xs ≡ ys)
bytes_back n xs t ys e = by (leb n (length xs)) refl
  where
    by : (b : Bool) → leb n (length xs) ≡ b → (n ≤ length xs) × (take n xs ≡ t) × (drop n xs ≡ ys)
    by true l =
        let h = leb-true n (length xs) l in
        let q = some-injective _ _ (sym (bytes-there n xs h) ∙ e) in
        (h, ap (λ (u : Bytes × Bytes). u.0) q, ap (λ (u : Bytes × Bytes). u.1) q)
    by false l = absurd (none-ne-some (t, ys) (sym (bytes-short n xs (leb-false n (length xs) l)) ∙ e))

bytes-exact : (n : ℕ) (xs : Bytes) → n ≤ length xs → read_bytes n (take n xs) ≡ some (take n xs, [])
bytes-exact n xs h =
    let l = length-take-le n xs h in
    bytes-there n (take n xs) (omega arith)
    ∙ rw (take-take n n xs (omega arith), drop_of_length-le (take n xs) {i = n} (omega arith))

pub text-back : (xs t ys : Bytes) → read_text xs ≡ some (t, ys) → TextAt xs t ys
unfolding read_text read_two read_byte ◌>>=◌ on_read pass two
text-back [] t ys e = absurd (none-ne-some (t, ys) e)
text-back (a ∷ []) t ys e = absurd (none-ne-some (t, ys) e)
text-back (a ∷ b ∷ xs) t ys e =
    let p = bytes_back (a + 256 * b) xs t ys e in
    let h = p.0 in
    let n : 2 + (a + 256 * b) ≡ suc (suc (a + 256 * b)) = omega arith in
    record {
      size = sym (ap length p.1) ∙ length-take-le (a + 256 * b) xs h;
      fits = omega arith;
      left = rw n (sym p.2);
      exact = rw n (bytes-exact (a + 256 * b) xs h ∙ ap (λ (u : Bytes). some (u, [])) p.1);
    }

-- ---- several texts

pub record TextsAt (k : ℕ) (xs : Bytes) (ts : List Text) (ys : Bytes) : Type 0 where
  pub count : length ts ≡ k
  pub fits : length (put_texts ts) ≤ length xs
  pub left : ys ≡ drop (length (put_texts ts)) xs
  pub exact : times k read_text (take (length (put_texts ts)) xs) ≡ some (ts, [])
  -- text i stands behind those before it, with its length first
  pub behind : (i : ℕ) → i < k → bytes_from i read_text xs ≡ some (drop (length (put_texts (take i ts))) xs)
  pub size : (i : ℕ) → i < k → two xs (length (put_texts (take i ts))) ≡ length (get_or ts i [])
  pub within : (i : ℕ) → i < k → length (put_texts (take i ts)) + (2 + length (get_or ts i [])) ≤ length xs

none-of-them : (xs : Bytes) → TextsAt 0 xs [] xs
unfolding times pass put_texts flat_map
none-of-them xs =
    record {
      count = refl;
      fits = omega arith;
      left = refl;
      exact = refl;
      behind = λ i h. absurd (omega arith);
      size = λ i h. absurd (omega arith);
      within = λ i h. absurd (omega arith);
    }

module _ (xs : Bytes) (t : Text) (ws : Bytes) (e : read_text xs ≡ some (t, ws)) (k : ℕ) (ts : List Text) (ys : Bytes) (w : TextsAt k ws ts ys) where
  one : TextAt xs t ws
  one = text-back xs t ws e

  -- the bytes of the first
  first : ℕ
  first = 2 + length t

  first-is : 2 + two xs 0 ≡ first
  unfolding first
  first-is = let n = one.size in omega arith

  left-first : ws ≡ drop first xs
  left-first = one.left ∙ ap (λ (n : ℕ). drop n xs) first-is

  longer : (i : ℕ) → length (put_texts (t ∷ take i ts)) ≡ first + length (put_texts (take i ts))
  unfolding first
  longer i = texts-length t (take i ts)

  rest-length : length ws ≡ length xs - first
  rest-length = ap length left-first ∙ length-drop first xs

  fits-first : first ≤ length xs
  fits-first = let n = first-is in let f = one.fits in omega arith

  more-exact : (m : ℕ) → times k read_text (take m ws) ≡ some (ts, []) → times (suc k) read_text (take (first + m) xs) ≡ some (t ∷ ts, [])
  unfolding times ◌>>=◌ on_read pass
  more-exact m h =
      let x : read_text (take first xs) ≡ some (t, []) = ap (λ (n : ℕ). read_text (take n xs)) (sym first-is) ∙ one.exact in
      let s : take (first + m) xs ≡ take first xs ++ take m ws = take-add first m xs ∙ ap (λ (l : Bytes). take first xs ++ take m l) (sym left-first) in
      rw (s, text-stable (take first xs) (take m ws) t [] x, h)

  behind_more : (i : ℕ) → i < suc k → bytes_from i read_text xs ≡ some (drop (length (put_texts (take i (t ∷ ts)))) xs)
  unfolding bytes_from on_behind
  behind_more zero h = unfold put_texts flat_map in refl
  behind_more (suc i) h =
      rw (e, w.behind i (omega arith), longer i) (ap some (ap (drop (length (put_texts (take i ts)))) left-first ∙ drop-drop (length (put_texts (take i ts))) first xs))

  size-more : (i : ℕ) → i < suc k → two xs (length (put_texts (take i (t ∷ ts)))) ≡ length (get_or (t ∷ ts) i [])
  size-more zero h = unfold put_texts flat_map in sym one.size
  size-more (suc i) h =
      rw (longer i) (sym (two-drop first xs (length (put_texts (take i ts)))) ∙ ap (λ (l : Bytes). two l (length (put_texts (take i ts)))) (sym left-first))
      ∙ w.size i (omega arith)

  within_more : (i : ℕ) → i < suc k → length (put_texts (take i (t ∷ ts))) + (2 + length (get_or (t ∷ ts) i [])) ≤ length xs
  within_more zero h =
      let n : length (put_texts []) ≡ 0 = unfold put_texts flat_map in refl in
      let f = one.fits in
      let z = one.size in
      omega arith
  within_more (suc i) h =
      let n = longer i in
      let l = rest-length in
      let b = w.within i (omega arith) in
      let f = fits-first in
      omega arith

  one_more : TextsAt (suc k) xs (t ∷ ts) ys
  one_more =
      let n = texts-length t ts in
      let f = fits-first in
      let g = w.fits in
      let l = rest-length in
      let m : length (put_texts (t ∷ ts)) ≡ first + length (put_texts ts) = unfold first in texts-length t ts in
      record {
        count = ap suc w.count;
        fits = omega arith;
        left = w.left ∙ ap (drop (length (put_texts ts))) left-first ∙ drop-drop (length (put_texts ts)) first xs ∙ ap (λ (n : ℕ). drop n xs) (sym m);
        exact = ap (λ (n : ℕ). times (suc k) read_text (take n xs)) m ∙ more-exact (length (put_texts ts)) w.exact;
        behind = behind_more;
        size = size-more;
        within = within_more;
      }

pub texts-back : (k : ℕ) (xs : Bytes) (ts : List Text) (ys : Bytes) → times k read_text xs ≡ some (ts, ys) → TextsAt k xs ts ys
unfolding times pass ◌>>=◌ on_read
texts-back zero xs ts ys e =
    let q = some-injective _ _ e in
    let a : [] ≡ ts = ap (λ (u : List Text × Bytes). u.0) q in
    let b : xs ≡ ys = ap (λ (u : List Text × Bytes). u.1) q in
    subst (λ (u : Bytes). TextsAt 0 xs ts u) b (subst (λ (u : List Text). TextsAt 0 xs u xs) a (none-of-them xs))
texts-back (suc k) xs ts ys e = by (read_text xs) refl e (λ ws us vs. texts-back k ws us vs)
  where
    tail : (t : Text) (ws : Bytes) → read_text xs ≡ some (t, ws) → (o : Option (List Text × Bytes)) → times k read_text ws ≡ o → on_read o (λ l. pass (t ∷ l)) ≡ some (ts, ys)
        → ((us : List Text) (vs : Bytes) → times k read_text ws ≡ some (us, vs) → TextsAt k ws us vs) → TextsAt (suc k) xs ts ys
    tail t ws r none g h ih = absurd (none-ne-some (ts, ys) h)
    tail t ws r (some q) g h ih =
        let p = some-injective _ _ h in
        let a : t ∷ q.0 ≡ ts = ap (λ (u : List Text × Bytes). u.0) p in
        let b : q.1 ≡ ys = ap (λ (u : List Text × Bytes). u.1) p in
        subst (λ (u : Bytes). TextsAt (suc k) xs ts u) b
        (subst (λ (u : List Text). TextsAt (suc k) xs u q.1) a (one_more xs t ws r k q.0 q.1 (ih q.0 q.1 g)))

    by : (o : Option (Text × Bytes)) → read_text xs ≡ o → on_read o (λ a. times k read_text >>= (λ l. pass (a ∷ l))) ≡ some (ts, ys)
        → ((ws : Bytes) (us : List Text) (vs : Bytes) → times k read_text ws ≡ some (us, vs) → TextsAt k ws us vs) → TextsAt (suc k) xs ts ys
    by none r h ih = absurd (none-ne-some (ts, ys) h)
    by (some q) r h ih = tail q.0 q.1 r (times k read_text q.1) refl h (ih q.1)

-- ---- the answers of `texts_behind`: of `count` texts of `s`, `left` are still to be passed in `rest`

module _ (s : Bytes) (count : ℕ) (rest : Bytes) (left : ℕ) (inv : bytes_from left read_text rest ≡ bytes_from count read_text s) where
  -- the next one is not whole
  pub text-cut : 0 < left → length rest < 2 + two rest 0 → none ≡ bytes_from count read_text s
  text-cut h l = sym (from-stop read_text left rest h (text-short rest 0 l)) ∙ inv

  pub texts-passed : left ≤ 0 → some rest ≡ bytes_from count read_text s
  texts-passed h = sym (from_end read_text left rest h) ∙ inv

  pub text-passed : 0 < left → (next : ℕ) → next ≡ left - 1 → (behind : Bytes) → 2 + two rest 0 ≤ length rest → behind ≡ drop (2 + two rest 0) rest
      → bytes_from next read_text behind ≡ bytes_from count read_text s
  text-passed h next m behind l e =
      let r : read_text rest ≡ some (take (two rest 0) (drop 2 rest), behind) =
      text-there rest 0 l ∙ ap (λ (b : Bytes). some (take (two rest 0) (drop 2 rest), b)) (sym e) in
      ap (λ (k : ℕ). bytes_from k read_text behind) m ∙ sym (from_on read_text left rest _ _ h r) ∙ inv
