-- The code points of bytes: the one at the front and those behind it. By the first byte.
-- Assumes nothing.
use Prim.Native.Nat.{ℕ, ◌<◌}
use native.Mathlib.Omega.{arith}
use lib.ListN.{length, drop}
use mathlib.Core.Path.{◌≡◌, refl}
use mathlib.Core.List.{[], ◌∷◌}
use Rattle.texts.specs.Texts.{Text}
use Rattle.utf8.specs.Utf8.{decode_from, decode}
use Rattle.utf8.specs.Front.{code_at, size_at}
use Rattle.utf8.proofs.Exact.{decode-first}
use Rattle.code_points.specs.declared.Char.{Char}
use Rattle.code_points.specs.Chars.{char_at}
use Rattle.code_points.proofs.Chars.{char-one}

pub front-none : (s : Text) → length s ≡ 0 → decode s ≡ []
unfolding decode decode_from
front-none [] h = refl
front-none (b ∷ s) h = absurd (omega arith)

pub front_on : (s : Text) (c : Char) (behind : Text) → c ≡ char_at s 0 → 0 < length s → behind ≡ drop c.size s → decode s ≡ c.code ∷ decode behind
unfolding code_at size_at
front_on [] c behind e h f = absurd (omega arith)
front_on (b ∷ s) c behind e h f = rw (f, e) (decode-first b s)

pub front-ascii : (s : Text) (b : ℕ) (behind : Text) → s ≡ b ∷ behind → b < 0x80 → decode s ≡ b ∷ decode behind
front-ascii s b behind e h = rw e (front_on (b ∷ behind) (record { code = b; size = 1 }) behind (char-one (b ∷ behind) 0 (omega arith)) (omega arith) refl)
