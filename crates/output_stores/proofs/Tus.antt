-- A TU at the front of bytes: it has ten bytes at least, and behind these stand as many texts as the tenth says. Its
-- reader is gone through place by place.
-- Assumes nothing.
use Prim.Native.Nat.{◌+◌, ◌≤◌}
use native.Mathlib.Omega.{arith}
use lib.Dec.{eqb}
use lib.ListN.{length, drop, get_or}
use mathlib.Core.Path.{◌≡◌}
use mathlib.Core.Bool.{Bool, true, false, ◌&&◌}
use mathlib.Core.List.{List}
use mathlib.Core.Option.{none}
use Rattle.texts.specs.Texts.{Text}
use Rattle.numbers.specs.Numbers.{two, four}
use Rattle.records.specs.Readers.{Bytes, Reader, on_read, ◌>>=◌, pass, require, read_byte, read_two, read_four, read_text, times, put_texts}
use Rattle.records.proofs.Places.{byte-there, two-there, four-there}
use Rattle.session_spec.specs.Layout.{TuRecord, read_tu}
use Rattle.output_stores.proofs.Walks.{Shortens}
use Rattle.output_stores.proofs.Sizes.{AtLeast, shortens, bind-least, pass-least, require-least, byte-least, two-least, four-least, text-least, times-least}

-- ---- of fewer bytes nothing is read

-- a text may be any number of bytes, for the texts are not counted here
any-text : AtLeast 0 read_text
any-text xs t r e = let l = text-least xs t r e in omega arith

pub tu-least : AtLeast 10 read_tu
unfolding read_tu
tu-least =
    bind-least 1 9 read_byte _ byte-least (λ a.
    bind-least 1 8 read_byte _ byte-least (λ b.
    bind-least 0 8 (require (eqb a 84 && eqb b 85)) _ (require-least _) (λ u.
    bind-least 2 6 read_two _ two-least (λ n.
    bind-least 1 5 read_byte _ byte-least (λ c.
    bind-least 4 1 read_four _ four-least (λ s.
    bind-least 1 0 read_byte _ byte-least (λ k.
    bind-least 0 0 (times k read_text) _ (times-least read_text any-text k) (λ ts.
    bind-least 0 0 (require (eqb n (6 + length (put_texts ts)))) _ (require-least _) (λ v.
    pass-least (record { constraint = c; scope = s; keys = ts }))))))))))

pub tu-shortens : Shortens read_tu
tu-shortens = shortens 10 read_tu tu-least (omega arith)

-- ---- ten bytes of head

-- the TU with these texts
abbrev pub tu_in : Bytes → (keys : List Text) → TuRecord
tu_in s keys = record { constraint = get_or s 4 0; scope = four s 5; keys = keys }

unfoldable pub tu_marked : Bytes → Bool
tu_marked s = eqb (get_or s 0 0) 84 && eqb (get_or s 1 0) 85

-- what is read behind the texts
unfoldable pub tu_end : Bytes → (keys : List Text) → Reader TuRecord
tu_end s keys = require (eqb (two s 2) (6 + length (put_texts keys))) >>= (λ u. pass (tu_in s keys))

pub tu-read : (s : Bytes) → 10 ≤ length s → tu_marked s ≡ true → read_tu s ≡ on_read (times (get_or s 9 0) read_text (drop 10 s)) (tu_end s)
unfolding read_tu ◌>>=◌ on_read require tu_marked tu_end
tu-read s h e =
    rw (
      byte-there s 0 (omega arith),
      byte-there s 1 (omega arith),
      e,
      two-there s 2 (omega arith),
      byte-there s 4 (omega arith),
      four-there s 5 (omega arith),
      byte-there s 9 (omega arith),
    )

pub tu-unmarked : (s : Bytes) → 10 ≤ length s → tu_marked s ≡ false → read_tu s ≡ none
unfolding read_tu ◌>>=◌ on_read require tu_marked
tu-unmarked s h e = rw (byte-there s 0 (omega arith), byte-there s 1 (omega arith), e)
