-- Readers at a place of bytes: where enough bytes are left, a number or a text is read and so many bytes less are left;
-- else nothing is. And as many of a kind are read as are asked for.
-- Assumes nothing.
use Prim.Native.Nat.{ℕ, zero, suc, ◌+◌, ◌≤◌, ◌<◌}
use native.Mathlib.Omega.{arith}
use borrow.Author.Tests.{leb-true, leb-false}
use lib.Dec.{leb}
use lib.ListN.{length, take, drop, get_or, length-drop}
use lib.Seq.{drop-drop}
use mathlib.Core.Path.{◌≡◌, refl, ap, ◌∙◌}
use mathlib.Core.Bool.{Bool, true, false}
use mathlib.Core.List.{List, [], ◌∷◌}
use mathlib.Core.Option.{Option, none, some}
use Rattle.std.proofs.lemmas.List.{drop_more}
use Rattle.lists.specs.Lists.{part}
use Rattle.numbers.specs.Numbers.{two, four}
use Rattle.records.specs.Readers.{Bytes, Reader, on_read, ◌>>=◌, pass, read_byte, read_two, read_four, cons_on, read_bytes, read_text, times}

-- ---- bytes and numbers

module _ (s : Bytes) (i : ℕ) where
  pub byte-there : i < length s → read_byte (drop i s) ≡ some (get_or s i 0, drop (i + 1) s)
  unfolding read_byte
  byte-there h = rw (drop_more s i 0 h)

  pub two-there : i + 2 ≤ length s → read_two (drop i s) ≡ some (two s i, drop (i + 2) s)
  unfolding read_two read_byte ◌>>=◌ on_read pass two
  two-there h =
      let e : i + 1 + 1 ≡ i + 2 = omega arith in
      rw (drop_more s i 0 (omega arith), drop_more s (i + 1) 0 (omega arith), e)

pub four-there : (s : Bytes) (i : ℕ) → i + 4 ≤ length s → read_four (drop i s) ≡ some (four s i, drop (i + 4) s)
unfolding read_four ◌>>=◌ on_read pass four
four-there s i h =
    let e : i + 2 + 2 ≡ i + 4 = omega arith in
    rw (two-there s i (omega arith), two-there s (i + 2) (omega arith), e)

two-short : (xs : Bytes) → length xs < 2 → read_two xs ≡ none
unfolding read_two read_byte ◌>>=◌ on_read
two-short [] h = refl
two-short (a ∷ []) h = refl
two-short (a ∷ b ∷ xs) h = absurd (omega arith)

-- ---- so many bytes

pub bytes-there : (n : ℕ) (xs : Bytes) → n ≤ length xs → read_bytes n xs ≡ some (take n xs, drop n xs)
unfolding read_bytes cons_on
bytes-there zero xs h = refl
bytes-there (suc n) [] h = absurd (omega arith)
bytes-there (suc n) (x ∷ xs) h = rw (bytes-there n xs (omega arith))

pub bytes-short : (n : ℕ) (xs : Bytes) → length xs < n → read_bytes n xs ≡ none
unfolding read_bytes cons_on
bytes-short zero xs h = absurd (omega arith)
bytes-short (suc n) [] h = refl
bytes-short (suc n) (x ∷ xs) h = rw (bytes-short n xs (omega arith))

-- ---- a text: two bytes of length, and the bytes

module _ (s : Bytes) (i : ℕ) where
  pub text-there : i + 2 + two s i ≤ length s → read_text (drop i s) ≡ some (part s (i + 2) (two s i), drop (i + 2 + two s i) s)
  unfolding read_text ◌>>=◌ on_read
  text-there h =
      let l = length-drop (i + 2) s in
      let b = bytes-there (two s i) (drop (i + 2) s) (omega arith) in
      rw (two-there s i (omega arith), b, drop-drop (two s i) (i + 2) s)

  pub text-short : length s < i + 2 + two s i → read_text (drop i s) ≡ none
  unfolding read_text ◌>>=◌ on_read
  text-short h = by (leb (i + 2) (length s)) refl
    where
      by : (b : Bool) → leb (i + 2) (length s) ≡ b → on_read (read_two (drop i s)) read_bytes ≡ none
      by true e =
          let g = leb-true (i + 2) (length s) e in
          rw (two-there s i g, bytes-short (two s i) (drop (i + 2) s) (simp length-drop (omega arith)))
      by false e = rw (two-short (drop i s) (simp length-drop (omega (arith, leb-false (i + 2) (length s) e))))

-- ---- as many as are asked for

pub times-length : {A : Type 0} (p : Reader A) (n : ℕ) (xs : Bytes) (l : List A) (ys : Bytes) → times n p xs ≡ some (l, ys) → length l ≡ n
unfolding times ◌>>=◌ on_read pass
times-length {A} p zero xs l ys e =
    let q : ◌≡◌ {A = List A × Bytes} (l, ys) ([], xs) = cc in
    ap (λ (z : List A × Bytes). length z.0) q
times-length {A} p (suc n) xs l ys e = by (p xs) (times-length p n) e
  where
    behind : (a : A) (o : Option (List A × Bytes)) → ((k : List A) (z : Bytes) → o ≡ some (k, z) → length k ≡ n)
        → on_read o (λ k. pass (a ∷ k)) ≡ some (l, ys) → length l ≡ suc n
    behind a none f h = let z : ◌≡◌ {A = ℕ} 0 1 = cc in absurd (omega arith)
    behind a (some q) f h =
        let z : ◌≡◌ {A = List A × Bytes} (l, ys) (a ∷ q.0, q.1) = cc in
        ap (λ (y : List A × Bytes). length y.0) z ∙ ap suc (f q.0 q.1 refl)

    by : (o : Option (A × Bytes)) → ((xs : Bytes) (k : List A) (z : Bytes) → times n p xs ≡ some (k, z) → length k ≡ n)
        → on_read o (λ a. times n p >>= (λ k. pass (a ∷ k))) ≡ some (l, ys) → length l ≡ suc n
    by none f h = let z : ◌≡◌ {A = ℕ} 0 1 = cc in absurd (omega arith)
    by (some q) f h = behind q.0 (times n p q.1) (λ k z. f q.1 k z) h
