-- Readers, which take something from the front of bytes: a byte, numbers, texts, so many of a kind, records to the end. And how texts are written.
-- Assumes nothing.
use Rattle.std.specs.Prelude.{ℕ, zero, suc, ◌+◌, ◌*◌, length, Bool, true, false}
use mathlib.Core.List.{List, [], ◌∷◌, ◌++◌, flat_map}
use Rattle.std.proofs.Math.Option.{Option, none, some, map}
use Rattle.texts.specs.Texts.{Text}
use Rattle.numbers.specs.Numbers.{two_bytes}

abbrev pub Bytes : Type 0
Bytes = List ℕ

-- What is read, and the bytes behind it; none where it is not there.
abbrev pub Reader : Type 0 → Type 0
Reader A = Bytes → Option (A × Bytes)

unfoldable pub on_read : {A B : Type 0} → Option (A × Bytes) → (A → Reader B) → Option (B × Bytes)
on_read none f = none
on_read (some q) f = f q.0 q.1

-- one behind the other
infixl 20 ◌>>=◌
unfoldable pub ◌>>=◌ : {A B : Type 0} → Reader A → (A → Reader B) → Reader B
◌>>=◌ p f = λ xs. on_read (p xs) f

unfoldable pub pass : {A : Type 0} → A → Reader A
pass a = λ xs. some (a, xs)

unfoldable pub require : Bool → Reader Bool
require true = λ xs. some (true, xs)
require false = λ xs. none

-- ---- bytes, numbers, texts

unfoldable pub read_byte : Reader ℕ
read_byte [] = none
read_byte (x ∷ xs) = some (x, xs)

-- the low byte first
unfoldable pub read_two : Reader ℕ
read_two = do
  a ← read_byte
  b ← read_byte
  pass (a + 256 * b)

unfoldable pub read_four : Reader ℕ
read_four = do
  a ← read_two
  b ← read_two
  pass (a + 65536 * b)

unfoldable pub cons_on : ℕ → Option (Bytes × Bytes) → Option (Bytes × Bytes)
cons_on x none = none
cons_on x (some q) = some (x ∷ q.0, q.1)

unfoldable pub read_bytes : ℕ → Reader Bytes
read_bytes zero xs = some ([], xs)
read_bytes (suc n) [] = none
read_bytes (suc n) (x ∷ xs) = cons_on x (read_bytes n xs)

-- A text is a two-byte length and so many bytes.
unfoldable pub read_text : Reader Text
read_text = read_two >>= read_bytes

-- ---- several

unfoldable pub times : {A : Type 0} → ℕ → Reader A → Reader (List A)
times zero p = pass []
times (suc n) p = p >>= (λ a. times n p >>= (λ l. pass (a ∷ l)))

-- a count byte, and so many
unfoldable pub counted : {A : Type 0} → Reader A → Reader (List A)
counted p = read_byte >>= (λ n. times n p)

unfoldable pub on_rest : {A : Type 0} → Option (A × Bytes) → (Bytes → Option (List A)) → Option (List A)
on_rest none f = none
on_rest (some q) f = map (λ l. q.0 ∷ l) (f q.1)

-- one behind the other to the very end; the first list bounds how many there can be
unfoldable pub read_all : {A : Type 0} → Reader A → Bytes → Bytes → Option (List A)
read_all p [] [] = some []
read_all p [] (x ∷ xs) = none
read_all p (f ∷ fs) [] = some []
read_all p (f ∷ fs) (x ∷ xs) = on_rest (p (x ∷ xs)) (λ r. read_all p fs r)

-- A store: records one behind the other and nothing else.
unfoldable pub reads : {A : Type 0} → Reader A → Bytes → Option (List A)
reads p xs = read_all p xs xs

unfoldable pub on_behind : {A B : Type 0} → Option (A × Bytes) → (Bytes → Option B) → Option B
on_behind none f = none
on_behind (some q) f = f q.1

-- the record with number n, counting from 0
unfoldable pub record_at : {A : Type 0} → ℕ → Reader A → Bytes → Option A
record_at zero p xs = map (λ q. q.0) (p xs)
record_at (suc n) p xs = on_behind (p xs) (record_at n p)

-- the bytes from that record on
unfoldable pub bytes_from : {A : Type 0} → ℕ → Reader A → Bytes → Option Bytes
bytes_from zero p xs = some xs
bytes_from (suc n) p xs = on_behind (p xs) (bytes_from n p)

-- at most n, one behind the other, as far as they are whole
unfoldable pub on_whole : {A : Type 0} → Option (A × Bytes) → (Bytes → List A) → List A
on_whole none next = []
on_whole (some q) next = q.0 ∷ next q.1

unfoldable pub up_to : {A : Type 0} → ℕ → Reader A → Bytes → List A
up_to zero p xs = []
up_to (suc n) p xs = on_whole (p xs) (up_to n p)

-- ---- writing

unfoldable pub put_text : Text → Bytes
put_text t = two_bytes (length t) ++ t

unfoldable pub put_texts : List Text → Bytes
put_texts ts = flat_map put_text ts
