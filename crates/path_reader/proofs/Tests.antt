-- What a name test is, by its bytes, its beginning, its colons and its stars: each way to answer is one law.
-- Assumes nothing.
use Rattle.std.specs.declared.option.Option as code
use Rattle.std.specs.declared.option.Option.TheVariants.{Some, None}
use Prim.Native.Nat.{◌+◌, ◌≤◌}
use native.Mathlib.Omega.{arith}
use denote.Ref.{Bor}
use lib.Dec.{eqb, leb}
use lib.ListN.{length, drop}
use borrow.Author.Tests.{leb-true, leb-false, eq-eqb, ne_eqb}
use mathlib.Core.Path.{◌≡◌, refl, ◌∙◌}
use mathlib.Core.Bool.{Bool, true, false, cond, and-false}
use mathlib.Core.List.{[], ◌∷◌}
use mathlib.Core.Option.{none, some}
use Rattle.lists.specs.Lists.{all}
use Rattle.texts.specs.Texts.{Text, same}
use Rattle.paths.specs.Reading.{split_at, test_byte, starts_well, star_alone, test_of, test_parts, name_test, local_of}
use Rattle.path_pieces.specs.Pieces.{piece_length, CutAt}
use Rattle.path_reader.specs.Places.{good_local, TestOf}
use Rattle.std.specs.Bool.{then_some}
use Rattle.path_reader.specs.declared.Test.{Test}
use Rattle.path_pieces.proofs.Pieces.{piece-any, piece-fits, split-whole, split-more, split-some}

-- ---- the star

pub alone-star : (t : Text) → same t (42 ∷ []) ≡ true → true ≡ star_alone t
unfolding star_alone
alone-star t e = rw e

pub alone-none : (t : Text) → same t (42 ∷ []) ≡ false → eqb (piece_length 42 t) (length t) ≡ star_alone t
unfolding star_alone
alone-none t e = rw e (piece-any 42 t)

-- ---- what may stand behind a colon

module _ (t : Text) (h : length t ≤ piece_length 58 t) where
  one : piece_length 58 t ≡ length t
  one = let k = piece-fits 58 t in omega arith

pub local-read : (p t : Text) → test_parts (p ∷ split_at 58 t) ≡ cond (good_local t) (some (record { prefix = some p; local = local_of t })) none
unfolding good_local test_parts test_of
local-read p t = by (leb (length t) (piece_length 58 t)) refl
  where
    by : (b : Bool) → leb (length t) (piece_length 58 t) ≡ b → test_parts (p ∷ split_at 58 t) ≡ cond (good_local t) (some (record { prefix = some p; local = local_of t })) none
    by true e =
        let h = leb-true (length t) (piece_length 58 t) e in
        rw (split-whole 58 t h, eq-eqb (piece_length 58 t) (length t) (one t h))
    by false e =
        let h = leb-false (length t) (piece_length 58 t) e in
        let m = split-some 58 (drop (piece_length 58 t + 1) t) in
        rw (split-more 58 t (piece_length 58 t) refl h, m.2, ne_eqb (piece_length 58 t) (length t) (omega arith))

-- ---- the whole test

module _ (t : Text) where
  pub test-bytes : all test_byte t ≡ false → TestOf t None
  unfolding name_test
  test-bytes e = record { reads = rw e; inside = omega arith }

  pub test-start : starts_well t ≡ false → TestOf t None
  unfolding name_test
  test-start e = record { reads = rw (e, and-false (all test_byte t)); inside = omega arith }

  module _ (a : all test_byte t ≡ true) (w : starts_well t ≡ true) where
    -- a text without a colon, by whether its stars stand alone
    pub test-whole : split_at 58 t ≡ t ∷ [] → (b : Bool) → b ≡ star_alone t → (u : Bor Text) → u.now ≡ t → (r : code.Option Test) → r ≡ then_some b (record { prefix = None; local = u }) → TestOf t r
    unfolding name_test test_parts test_of
    test-whole h true q u e r f = rw f (record { reads = rw (a, w, h, w, ← q, e); inside = rw e (omega arith) })
    test-whole h false q u e r f = rw f (record { reads = rw (a, w, h, w, ← q); inside = omega arith })

    -- one with a colon, by whether what stands behind it is a local part
    module _ (p l : Bor Text) (h : CutAt 58 t p.now l.now) where
      colon : name_test t ≡ cond (good_local l.now) (some (record { prefix = some p.now; local = local_of l.now })) none
      unfolding name_test
      colon = rw (a, w, h.pieces) (local-read p.now l.now)

      pub test-local : (b : Bool) → b ≡ good_local l.now → (r : code.Option Test) → r ≡ then_some b (record { prefix = Some p; local = l }) → TestOf t r
      test-local true g r f = let k = h.sizes in rw f (record { reads = colon ∙ rw (← g); inside = omega arith })
      test-local false g r f = rw f (record { reads = colon ∙ rw (← g); inside = omega arith })
