-- When a text, a name and a row of names are read: a text where its length and so many bytes are there, a name where both halves are, a row where each is.
-- Assumes nothing.
use Prim.Native.Nat.{ℕ, zero, suc, ◌+◌, ◌-◌, ◌*◌, ◌≤◌, ◌<◌}
use native.Mathlib.Omega.{arith}
use borrow.Author.Tests.{leb-true, leb-false}
use lib.Dec.{leb}
use lib.ListN.{length, take, drop, drop_of_length-le}
use lib.Seq.{drop-drop}
use mathlib.Core.Path.{◌≡◌, refl, ap, sym, ◌∙◌}
use mathlib.Core.Bool.{Bool, true, false, ◌&&◌}
use mathlib.Core.List.{List, [], ◌∷◌}
use mathlib.Core.Option.{Option, none, some, map}
use Rattle.std.proofs.Math.Bool.{and-false}
use Rattle.std.specs.List.{list_all, range_with_len}
use Rattle.lists.specs.Lists.{part}
use Rattle.numbers.specs.Numbers.{two}
use Rattle.paths.specs.Reading.{on_some, every}
use Rattle.records.specs.Readers.{Bytes, on_read, ◌>>=◌, pass, read_byte, read_two, cons_on, read_bytes, read_text}
use Rattle.session_spec.specs.Definitions.{is_some}
use Rattle.session_spec.specs.Layout.{text_in, name_in, parts}

-- ---- a text

-- so many bytes are read where they are there
abbrev bytes_read : ℕ → Bytes → Bool
bytes_read n s = is_some (read_bytes n s)

bytes-there : (n : ℕ) (s : Bytes) → n ≤ length s → bytes_read n s ≡ true
unfolding read_bytes is_some cons_on
bytes-there zero s h = refl
bytes-there (suc n) [] h = absurd (omega arith)
bytes-there (suc n) (x ∷ xs) h = by (read_bytes n xs) (bytes-there n xs (omega arith))
  where
    by : (o : Option (Bytes × Bytes)) → is_some o ≡ true → is_some (cons_on x o) ≡ true
    by none e = e
    by (some q) e = refl

bytes-missing : (n : ℕ) (s : Bytes) → length s < n → bytes_read n s ≡ false
unfolding read_bytes is_some cons_on
bytes-missing zero s h = absurd (omega arith)
bytes-missing (suc n) [] h = refl
bytes-missing (suc n) (x ∷ xs) h = by (read_bytes n xs) (bytes-missing n xs (omega arith))
  where
    by : (o : Option (Bytes × Bytes)) → is_some o ≡ false → is_some (cons_on x o) ≡ false
    by none e = refl
    by (some q) e = e

bytes-read : (n : ℕ) (s : Bytes) → leb n (length s) ≡ bytes_read n s
bytes-read n s = by (leb n (length s)) refl
  where
    by : (b : Bool) → leb n (length s) ≡ b → b ≡ bytes_read n s
    by true e = sym (bytes-there n s (leb-true n (length s) e))
    by false e = sym (bytes-missing n s (leb-false n (length s) e))

pub text-short : (s : Bytes) → length s < 2 → false ≡ is_some (text_in s)
unfolding is_some text_in on_some read_text ◌>>=◌ on_read read_two read_byte
text-short [] h = refl
text-short (a ∷ []) h = refl
text-short (a ∷ b ∷ s) h = absurd (omega arith)

pub text-there : (s : Bytes) → 2 ≤ length s → leb (two s 0) (length s - 2) ≡ is_some (text_in s)
unfolding is_some text_in read_text ◌>>=◌ on_read read_two read_byte pass two
text-there [] h = absurd (omega arith)
text-there (a ∷ []) h = absurd (omega arith)
text-there (a ∷ b ∷ s) h =
    let n : suc (suc (length s)) - 2 ≡ length s = omega arith in
    ap (λ (k : ℕ). leb (a + 256 * b) k) n ∙ bytes-read (a + 256 * b) s ∙ by (read_bytes (a + 256 * b) s)
  where
    by : (o : Option (Bytes × Bytes)) → is_some o ≡ is_some (on_some o (λ q. some q.0))
    by none = unfold on_some in refl
    by (some q) = unfold on_some in refl

-- ---- a place, as far as it is there

-- ---- a name

both_some : {A B C : Type 0} (o : Option A) (p : Option B) (f : A → B → C) → is_some (on_some o (λ a. on_some p (λ b. some (f a b)))) ≡ (is_some o && is_some p)
unfolding is_some on_some
both_some none p f = refl
both_some (some a) none f = refl
both_some (some a) (some b) f = refl

name-halves : (s : Bytes) → is_some (name_in s) ≡ (is_some (text_in (take 257 s)) && is_some (text_in (drop 257 s)))
unfolding name_in
name-halves s = both_some (text_in (take 257 s)) (text_in (drop 257 s)) (λ a b. record { space = a; local = b })

pub name-first-half : (s : Bytes) → false ≡ is_some (text_in (take 257 s)) → false ≡ is_some (name_in s)
name-first-half s e = sym (name-halves s ∙ rw (← e))

pub name-second-half : (s : Bytes) (b : Bool) → true ≡ is_some (text_in (take 257 s)) → b ≡ is_some (text_in (drop 257 s)) → b ≡ is_some (name_in s)
name-second-half s b e g = sym (name-halves s ∙ rw (← e, ← g))

-- half a place, or less, holds no name
pub name-short : (s : Bytes) → length s ≤ 257 → false ≡ is_some (name_in s)
name-short s h =
    let e : drop 257 s ≡ [] = drop_of_length-le s {i = 257} h in
    let n : false ≡ is_some (text_in (drop 257 s)) = rw e (text-short [] (omega arith)) in
    sym (name-halves s ∙ rw (← n) (and-false (is_some (text_in (take 257 s)))))

-- ---- a row of names

first-and-rest : {A : Type 0} (o : Option A) (p : Option (List A)) → is_some (on_some o (λ a. map (λ l. a ∷ l) p)) ≡ (is_some o && is_some p)
unfolding is_some on_some
first-and-rest none p = refl
first-and-rest (some a) none = refl
first-and-rest (some a) (some l) = refl

row_first : (s : Bytes) (k : ℕ) → is_some (every name_in (parts 514 (suc k) s)) ≡ (is_some (name_in (take 514 s)) && is_some (every name_in (parts 514 k (drop 514 s))))
unfolding parts every
row_first s k = first-and-rest (name_in (take 514 s)) (every name_in (parts 514 k (drop 514 s)))

-- whether the name with a number is read
abbrev pub reads-at : Bytes → ℕ → Bool
reads-at s i = is_some (name_in (part s (514 * i) 514))

row-from : (s : Bytes) (i n : ℕ) → list_all (reads-at s) (range_with_len i n) ≡ is_some (every name_in (parts 514 n (drop (514 * i) s)))
unfolding parts every is_some
row-from s i zero = refl
row-from s i (suc n) =
    let m : 514 * (i + 1) ≡ 514 * i + 514 = omega arith in
    ap (λ (b : Bool). reads-at s i && b) (row-from s (i + 1) n ∙ rw (m, drop-drop 514 (514 * i) s))
    ∙ sym (row_first (drop (514 * i) s) n)

pub row-reads : (s : Bytes) (n : ℕ) → list_all (reads-at s) (range_with_len 0 n) ≡ is_some (every name_in (parts 514 n s))
row-reads s n = row-from s 0 n
