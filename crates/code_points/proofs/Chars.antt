-- The character at a place, by its first byte: one law for each way that `char_at` returns.
-- Assumes nothing.
use Prim.Native.Nat.{ℕ, ◌+◌, ◌-◌, ◌*◌, ◌≤◌, ◌<◌}
use native.Mathlib.Omega.{arith}
use lib.ListN.{length, get_or, take, drop, get_or-eq_default}
use mathlib.Core.Path.{◌≡◌}
use Rattle.std.proofs.lemmas.List.{take_rest}
use Rattle.texts.specs.Texts.{Text}
use Rattle.utf8.specs.Front.{code_at, size_at}
use Rattle.code_points.specs.Chars.{char_at, bits_at}
use Rattle.code_points.specs.declared.Char.{Char}
use Rattle.utf8.proofs.Encoding.{size-one, size-two, size-three, size-four, code_one, code-two, code-three, code-four}

abbrev char : ℕ → ℕ → Char
char c n = record { code = c; size = n }

module _ (s : Text) (at : ℕ) where
  abbrev b : ℕ
  b = get_or s at 0

  -- the bytes behind the first, as they are lent
  abbrev lent : Text
  lent = take (length s - (at + 1)) (drop (at + 1) s)

  pub char-past : length s ≤ at → char 0 1 ≡ char_at s at
  unfolding code_at size_at
  char-past h =
      let z : get_or s at 0 ≡ 0 = get_or-eq_default s 0 h in
      rw (z, code_one 0 (drop (at + 1) s) (omega arith), size-one 0 (omega arith))

  pub char-one : b < 0xC0 → char b 1 ≡ char_at s at
  unfolding code_at size_at
  char-one h = rw (code_one b (drop (at + 1) s) h, size-one b h)

  module _ (g : 0xC0 ≤ b) (x : ℕ) (ex : x ≡ bits_at lent 0) where
    pub char-two : b < 0xE0 → char ((b - 0xC0) * 64 + x) 2 ≡ char_at s at
    unfolding code_at size_at
    char-two h = rw (ex, take_rest s (at + 1), code-two b (drop (at + 1) s) g h, size-two b g h)

    module _ (h : 0xE0 ≤ b) (y : ℕ) (ey : y ≡ bits_at lent 1) where
      pub char-three : b < 0xF0 → char ((b - 0xE0) * 4096 + x * 64 + y) 3 ≡ char_at s at
      unfolding code_at size_at
      char-three k = rw (ex, ey, take_rest s (at + 1), code-three b (drop (at + 1) s) h k, size-three b h k)

      pub char-four : 0xF0 ≤ b → (z : ℕ) → z ≡ bits_at lent 2 → char ((b - 0xF0) * 262144 + x * 4096 + y * 64 + z) 4 ≡ char_at s at
      unfolding code_at size_at
      char-four k z ez = rw (ex, ey, ez, take_rest s (at + 1), code-four b (drop (at + 1) s) k, size-four b k)
