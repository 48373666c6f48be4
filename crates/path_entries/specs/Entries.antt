-- How a read path lies in the parsed-path area: alternatives one behind the other, each with its steps. An entry says how long its texts are.
-- Assumes nothing.
use Rattle.std.specs.Prelude.{ℕ, zero, suc, eqb, length, Bool, true, false, not}
use mathlib.Core.List.{List, [], ◌∷◌, ◌++◌, flat_map}
use Rattle.std.proofs.Math.Option.{Option, none, some}
use Rattle.texts.specs.Texts.{Text}
use Rattle.paths.specs.Reading.{WrittenTest, WrittenAlt}
use Rattle.records.specs.Readers.{Bytes, Reader, ◌>>=◌, pass, read_byte, read_bytes, times, up_to}

-- ---- writing

-- 0 where there is no prefix; else 1, its length and its bytes
unfoldable pub put_prefix : Option Text → Bytes
put_prefix none = 0 ∷ []
put_prefix (some p) = 1 ∷ length p ∷ p

-- the local part's length and its bytes; no local part is empty, so 0 is `*`
unfoldable pub put_local : Option Text → Bytes
put_local none = 0 ∷ []
put_local (some l) = length l ∷ l

unfoldable pub put_test : WrittenTest → Bytes
put_test t = put_prefix t.prefix ++ put_local t.local

-- 0 where the alternative ends at an element; else 1 and the attribute test
unfoldable pub put_end : Option WrittenTest → Bytes
put_end none = 0 ∷ []
put_end (some t) = 1 ∷ put_test t

-- 1 for `.//`
unfoldable pub flag_of : Bool → ℕ
flag_of false = 0
flag_of true = 1

unfoldable pub put_alt : WrittenAlt → Bytes
put_alt a = flag_of a.descendant ∷ length a.steps ∷ (flat_map put_test a.steps ++ put_end a.attr)

-- THE ENTRIES of a read path
unfoldable pub put_path : List WrittenAlt → Bytes
put_path alts = length alts ∷ flat_map put_alt alts

-- ---- reading back

unfoldable pub read_short : Reader Text
read_short = read_byte >>= read_bytes

unfoldable pub prefix_after : (flag : ℕ) → Reader (Option Text)
prefix_after zero = pass none
prefix_after (suc n) = read_short >>= (λ p. pass (some p))

unfoldable pub local_from : Text → Option Text
local_from [] = none
local_from (c ∷ cs) = some (c ∷ cs)

unfoldable pub read_test : Reader WrittenTest
read_test = do
  f ← read_byte
  p ← prefix_after f
  l ← read_short
  pass (record { prefix = p; local = local_from l })

unfoldable pub end_after : (flag : ℕ) → Reader (Option WrittenTest)
end_after zero = pass none
end_after (suc n) = read_test >>= (λ t. pass (some t))

unfoldable pub read_alternative : Reader WrittenAlt
read_alternative = do
  d ← read_byte
  n ← read_byte
  ts ← times n read_test
  f ← read_byte
  e ← end_after f
  pass (record { descendant = not (eqb d 0); steps = ts; attr = e })

-- THE PATH whose entries stand at the front of an area: its alternatives, as far as they are whole
unfoldable pub path_in : Bytes → List WrittenAlt
path_in [] = []
path_in (n ∷ xs) = up_to n read_alternative xs
