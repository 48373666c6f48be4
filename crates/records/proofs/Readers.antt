-- What is written is read again, and the bytes behind it are left: numbers by division with remainder, texts and lists by induction.
-- Assumes nothing.
use Prim.Native.Nat.{ℕ, ◌+◌, ◌*◌, ◌/◌, ◌%◌}
use native.Mathlib.Omega.{arith}
use lib.ListN.{length}
use mathlib.Core.Path.{◌≡◌, refl, ap}
use mathlib.Core.List.{List, [], ◌∷◌, ◌++◌, flat_map, append_assoc}
use mathlib.Core.Option.{some}
use native.Mathlib.Nat.{mod-add-div}
use Rattle.texts.specs.Texts.{Text}
use Rattle.numbers.specs.Numbers.{two_bytes, four_bytes}
use Rattle.records.specs.Readers.{Bytes, Reader, on_read, ◌>>=◌, pass, read_byte, read_two, read_four, cons_on, read_bytes, read_text, times, put_text, put_texts}

-- ---- numbers

pub two-put : (n : ℕ) (rest : Bytes) → read_two (two_bytes n ++ rest) ≡ some (n, rest)
unfolding read_two two_bytes ◌>>=◌ on_read read_byte pass
two-put n rest = ap (λ (m : ℕ). some (m, rest)) (mod-add-div n 256)

pub four-put : (n : ℕ) (rest : Bytes) → read_four (four_bytes n ++ rest) ≡ some (n, rest)
unfolding read_four four_bytes ◌>>=◌ on_read pass
four-put n rest =
    rw (append_assoc (two_bytes (n % 65536)) (two_bytes (n / 65536)) rest, two-put (n % 65536) (two_bytes (n / 65536) ++ rest), two-put (n / 65536) rest)
    (ap (λ (m : ℕ). some (m, rest)) (sum n))
  where
    sum : (n : ℕ) → n % 65536 + 65536 * (n / 65536) ≡ n
    sum n = omega arith

-- ---- texts

pub bytes-put : (t : Text) (rest : Bytes) → read_bytes (length t) (t ++ rest) ≡ some (t, rest)
unfolding read_bytes cons_on
bytes-put [] rest = refl
bytes-put (x ∷ xs) rest = rw (bytes-put xs rest)

pub text-put : (t : Text) (rest : Bytes) → read_text (put_text t ++ rest) ≡ some (t, rest)
unfolding read_text put_text ◌>>=◌ on_read
text-put t rest = rw (append_assoc (two_bytes (length t)) t rest, two-put (length t) (t ++ rest)) (bytes-put t rest)

pub text-length : (t : Text) → length (put_text t) ≡ 2 + length t
unfolding put_text two_bytes
text-length t = omega arith

-- ---- several

-- as many as there are members, of which `p` reads each one back
pub times-put : {A : Type 0} (p : Reader A) (put : A → Bytes) → ((a : A) (rest : Bytes) → p (put a ++ rest) ≡ some (a, rest))
    → (l : List A) (rest : Bytes) → times (length l) p (flat_map put l ++ rest) ≡ some (l, rest)
unfolding times flat_map ◌>>=◌ on_read pass
times-put p put back [] rest = refl
times-put p put back (a ∷ l) rest =
    rw (append_assoc (put a) (flat_map put l) rest, back a (flat_map put l ++ rest), times-put p put back l rest)

pub texts-put : (ts : List Text) (rest : Bytes) → times (length ts) read_text (put_texts ts ++ rest) ≡ some (ts, rest)
unfolding put_texts
texts-put ts rest = times-put read_text put_text text-put ts rest
