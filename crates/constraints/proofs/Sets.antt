-- The IDs of a store one after the other, as the chains over its records give them: a bit for each that passes a test, each above those that are there, is the set
-- of all that do.
-- Assumes nothing.
use Rattle.std.specs.Prelude.{min, ltb}
use Rattle.std.specs.declared.result.Result.{Result}
use Rattle.std.specs.declared.result.Result.TheVariants.{Ok, Err}
use Rattle.std.specs.Result.{OkIff, result_unwrap_or}
use Prim.Native.Nat.{ℕ, ◌+◌, ◌*◌, ◌%◌, ◌^◌, ◌≤◌, ◌<◌}
use native.Mathlib.Omega.{arith}
use native.Mathlib.Nat.{add-zero, zero-add, mul-zero, one-mul, pow-zero}
use lib.ListN.{length, take, get_or, length-take}
use borrow.Author.Tests.{ltb-true, ltb-false}
use mathlib.Core.Path.{◌≡◌, refl, ap, ◌∙◌}
use mathlib.Core.Bool.{Bool, true, false, cond}
use mathlib.Core.List.{List, [], ◌∷◌, map}
use Rattle.std.specs.List.{filter, fold, enumerate_from}
use Rattle.std.specs.Int.Bits.{bit_or}
use Rattle.records.specs.Readers.{Bytes}
use Rattle.output_stores.proofs.Masks.{with-bit}
use Rattle.bindings.specs.Bindings.{frames_in}
use Rattle.bindings.specs.Own.{is_id}
use Rattle.constraints.specs.Constraints.{ids_in}
use Rattle.constraints.specs.Walks.{bits_of, ids_with}
use Rattle.constraints.proofs.Bits.{below_next, bit_moved}
use Rattle.lists.proofs.Folds.{filter_passing}

-- ---- the IDs of a store

pub ids_are : (used : Bytes) → filter is_id (frames_in used) ≡ ids_in used
unfolding ids_in
ids_are used = filter_passing is_id (frames_in used)

-- as a number of four bytes it is no more than the largest of these
pub narrowed : {E : Type 0} (n : ℕ) (o : Result ℕ E) → OkIff o (n < 4294967296) n → (r : ℕ) → r ≡ result_unwrap_or o 4294967295 → r ≡ min n 4294967295
narrowed n (Ok x) h r q = q ∙ h.1 ∙ (let l = h.0 in omega arith)
narrowed n (Err x) h r q = q ∙ (let l : 4294967295 ≤ n = by (ltb n 4294967296) refl in omega arith)
  where
    by : (b : Bool) → ltb n 4294967296 ≡ b → 4294967295 ≤ n
    by true e = absurd (h (ltb-true n 4294967296 e))
    by false e = let l = ltb-false n 4294967296 e in omega arith

-- ---- the bits of IDs that come one after the other

module _ (test : Bytes → Bool) where
  -- the set with one more
  abbrev pub one_more : ℕ → ℕ × Bytes → ℕ
  one_more set p = bit_or set (cond (test p.1) 1 0 * 2 ^ p.0 % 4294967296)

  bits-grow : (ids : List Bytes) (k set : ℕ) → set < 2 ^ k → k + length ids ≤ 32
      → fold one_more set (enumerate_from k ids) ≡ set + 2 ^ k * bits_of (map test ids)
  bits-grow [] k set low few = unfold bits_of in (rw (mul-zero (2 ^ k), add-zero set))
  bits-grow (x ∷ ids) k set low few = one (bits-grow ids (k + 1) (set + cond (test x) (2 ^ k) 0) (below_next k set (test x) low) (omega arith))
    where
      one : fold one_more (set + cond (test x) (2 ^ k) 0) (enumerate_from (k + 1) ids) ≡ set + cond (test x) (2 ^ k) 0 + 2 ^ (k + 1) * bits_of (map test ids)
          → fold one_more set (enumerate_from k (x ∷ ids)) ≡ set + 2 ^ k * bits_of (map test (x ∷ ids))
      one e =
          ap (λ (m : ℕ). fold one_more m (enumerate_from (k + 1) ids))
          (with-bit set k (cond (test x) 1 0) (test x) (omega arith) low refl)
          ∙ e
          ∙ (unfold bits_of in bit_moved k set (bits_of (map test ids)) (test x))

  -- THE LAW
  pub bits-are : (used : Bytes) (r : ℕ) → r ≡ fold one_more 0 (enumerate_from 0 (take 32 (filter is_id (frames_in used)))) → r ≡ ids_with test used
  unfolding ids_with
  bits-are used r e =
      let l : List Bytes = take 32 (filter is_id (frames_in used)) in
      let f = length-take 32 (filter is_id (frames_in used)) in
      e
      ∙ bits-grow l 0 0 (rw (pow-zero 2) (omega arith)) (omega arith)
      ∙ (rw (pow-zero 2, one-mul (bits_of (map test l)), zero-add (bits_of (map test l))))
      ∙ ap (λ (x : List Bytes). bits_of (map test (take 32 x))) (ids_are used)
