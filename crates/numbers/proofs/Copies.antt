-- Bytes copied to a place one after the other: the library's `paste` with as many as have been passed; all of them is `put`.
-- Assumes nothing.
use Prim.Native.Nat.{ℕ, ◌+◌, ◌≤◌, ◌<◌}
use native.Mathlib.Numerals.{add-one}
use native.Mathlib.Omega.{arith}
use lib.ListN.{length, set, get_or, length-set}
use lib.Seq.{take-length, paste, paste-zero, paste-suc}
use mathlib.Core.Path.{◌≡◌, refl, ap, sym, ◌∙◌}
use mathlib.Core.List.{List, append_assoc}
use Rattle.lists.specs.Lists.{put}
use Rattle.lists.proofs.Writes.{put-fits}

-- i of the bytes have been copied
pub record Copied (store₀ : List ℕ) (at : ℕ) (bytes : List ℕ) (store : List ℕ) (i : ℕ) : Type 0 where
  pub room : at + length bytes ≤ length store₀
  pub passed : i ≤ length bytes
  pub size : length store ≡ length store₀
  pub now : store ≡ paste store₀ at bytes i

module _ (store₀ : List ℕ) (at : ℕ) (bytes : List ℕ) where
  pub none-copied : at + length bytes ≤ length store₀ → Copied store₀ at bytes store₀ 0
  none-copied h = record { room = h; passed = omega arith; size = refl; now = paste-zero store₀ at bytes }

  pub one-copied : (store : List ℕ) (i : ℕ) → Copied store₀ at bytes store i → i < length bytes
      → Copied store₀ at bytes (set store (at + i) (get_or bytes i 0)) (i + 1)
  one-copied store i c h =
      let r = c.room in
      record {
        room = r;
        passed = omega arith;
        size = length-set store (at + i) (get_or bytes i 0) ∙ c.size;
        now = ap (λ (s : List ℕ). set s (at + i) (get_or bytes i 0)) c.now ∙ rw add-one (paste-suc store₀ at bytes i 0 (omega arith) h);
      }

  pub all-copied : (store : List ℕ) (i : ℕ) → Copied store₀ at bytes store i → length bytes ≤ i → store ≡ put store₀ at bytes
  all-copied store i c h =
      let p = c.passed in
      let n : i ≡ length bytes = omega arith in
      c.now ∙ rw (n, take-length bytes, append_assoc) (sym (put-fits store₀ at bytes c.room))
