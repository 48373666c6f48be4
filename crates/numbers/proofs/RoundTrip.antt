-- A number comes back from its bytes, and bytes from their number, by division with remainder; and where a number is read does not depend on what stands around it.
-- Assumes nothing.
use Prim.Native.Nat.{ℕ, ◌+◌, ◌*◌, ◌/◌, ◌%◌, ◌≤◌, ◌<◌}
use native.Mathlib.Nat.{add_assoc, add-zero, zero-add, add-mul-mod_self_left, add-mul-div_left, mod-eq_of_lt, div-eq_of_lt}
use native.Mathlib.Omega.{arith}
use lib.ListN.{length, get_or, take, drop, get_or-append, get_or-eq_default}
use lib.Seq.{length-take-le, drop_at, get_or-drop, drop-drop, take-add}
use mathlib.Core.Path.{◌≡◌, ap, sym, ◌∙◌}
use mathlib.Core.List.{List, [], ◌∷◌, ◌++◌}
use Rattle.std.proofs.lemmas.List.{drop_more}
use Rattle.lists.specs.Lists.{part, over}
use Rattle.numbers.specs.Numbers.{two, four, two_bytes, four_bytes}

-- ---- from the number to its bytes and back

pub two_back : (n : ℕ) → two (two_bytes n) 0 ≡ n
unfolding two two_bytes
two_back n = omega arith

pub four-back : (n : ℕ) → four (four_bytes n) 0 ≡ n
unfolding four four_bytes two two_bytes
four-back n = omega (arith, two_back (n % 65536), two_back (n / 65536))

-- ---- what stands around it

-- behind the number
pub two-append : (s t : List ℕ) (at : ℕ) → at + 2 ≤ length s → two (s ++ t) at ≡ two s at
unfolding two
two-append s t at h = rw (get_or-append s t 0 at (omega arith), get_or-append s t 0 (at + 1) (omega arith))

pub four-append : (s t : List ℕ) (at : ℕ) → at + 4 ≤ length s → four (s ++ t) at ≡ four s at
unfolding four
four-append s t at h = rw (two-append s t at (omega arith), two-append s t (at + 2) (omega arith))

-- before it
pub two-drop : (k : ℕ) (s : List ℕ) (at : ℕ) → two (drop k s) at ≡ two s (k + at)
unfolding two
two-drop k s at = rw (get_or-drop k s at 0, get_or-drop k s (at + 1) 0, add_assoc k at 1)

pub four-drop : (k : ℕ) (s : List ℕ) (at : ℕ) → four (drop k s) at ≡ four s (k + at)
unfolding four
four-drop k s at = rw (two-drop k s at, two-drop k s (at + 2), add_assoc k at 2)

-- nothing of it is there
pub two_past : (s : List ℕ) (at : ℕ) → length s ≤ at → two s at ≡ 0
unfolding two
two_past s at h = rw (get_or-eq_default s 0 {n = at} h, get_or-eq_default s 0 {n = at + 1} (omega arith))

pub four-past : (s : List ℕ) (at : ℕ) → length s ≤ at → four s at ≡ 0
unfolding four
four-past s at h = rw (two_past s at h, two_past s (at + 2) (omega arith))

-- ---- a number that was written over something

module _ (l : List ℕ) (at : ℕ) where
  drop-to-over : (vs : List ℕ) → at ≤ length l → drop at (over l at vs) ≡ vs ++ drop (at + length vs) l
  drop-to-over vs h = drop_at (take at l) (vs ++ drop (at + length vs) l) at (length-take-le at l h)

  pub two-over : (n : ℕ) → at + 2 ≤ length l → two (over l at (two_bytes n)) at ≡ n
  unfolding two_bytes
  two-over n h =
      let vs : List ℕ = two_bytes n in
      ap (λ (i : ℕ). two (over l at vs) i) (sym (add-zero at))
      ∙ sym (two-drop at (over l at vs) 0)
      ∙ ap (λ (z : List ℕ). two z 0) (drop-to-over vs (omega arith))
      ∙ two-append vs (drop (at + length vs) l) 0 (omega arith)
      ∙ two_back n

  pub four-over : (n : ℕ) → at + 4 ≤ length l → four (over l at (four_bytes n)) at ≡ n
  unfolding four_bytes two_bytes
  four-over n h =
      let vs : List ℕ = four_bytes n in
      ap (λ (i : ℕ). four (over l at vs) i) (sym (add-zero at))
      ∙ sym (four-drop at (over l at vs) 0)
      ∙ ap (λ (z : List ℕ). four z 0) (drop-to-over vs (omega arith))
      ∙ four-append vs (drop (at + length vs) l) 0 (omega arith)
      ∙ four-back n

-- ---- from bytes to their number and back

low : (m a b : ℕ) → a < m → (a + m * b) % m ≡ a
low m a b h = add-mul-mod_self_left a m b ∙ mod-eq_of_lt h

high : (m a b : ℕ) → a < m → (a + m * b) / m ≡ b
high m a b h = add-mul-div_left a b {y = m} (omega arith) ∙ rw (div-eq_of_lt h) (zero-add b)

part-two : (s : List ℕ) (at : ℕ) → at + 2 ≤ length s → part s at 2 ≡ get_or s at 0 ∷ get_or s (at + 1) 0 ∷ []
part-two s at h = rw (drop_more s at 0 (omega arith), drop_more s (at + 1) 0 (omega arith))

part-four : (s : List ℕ) (at : ℕ) → part s at 4 ≡ part s at 2 ++ part s (at + 2) 2
part-four s at = rw (take-add 2 2 (drop at s), drop-drop 2 at s)

module _ (s : List ℕ) (bytes : (i : ℕ) → get_or s i 0 < 256) (at : ℕ) where
  pub two-below : two s at < 65536
  unfolding two
  two-below = omega (arith, bytes at, bytes (at + 1))

  pub two-there : at + 2 ≤ length s → two_bytes (two s at) ≡ part s at 2
  unfolding two two_bytes
  two-there h =
      rw (low 256 (get_or s at 0) (get_or s (at + 1) 0) (bytes at), high 256 (get_or s at 0) (get_or s (at + 1) 0) (bytes at), part-two s at h)

pub four-there : (s : List ℕ) → ((i : ℕ) → get_or s i 0 < 256) → (at : ℕ) → at + 4 ≤ length s → four_bytes (four s at) ≡ part s at 4
unfolding four four_bytes
four-there s bytes at h =
    rw (
      low 65536 (two s at) (two s (at + 2)) (two-below s bytes at),
      high 65536 (two s at) (two s (at + 2)) (two-below s bytes at),
      two-there s bytes at (omega arith),
      two-there s bytes (at + 2) (omega arith),
      part-four s at,
    )
