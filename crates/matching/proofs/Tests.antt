-- A name test by its bytes: each of its texts stands behind its length, so what is read is those bytes, or nothing where the bytes end before. And whether a
-- name fits it, by its local part first.
-- Assumes nothing.
use Prim.Native.Nat.{ℕ, zero, suc, ◌<◌}
use native.Mathlib.Omega.{arith}
use lib.ListN.{length}
use mathlib.Core.Path.{◌≡◌, refl, ap, sym, ◌∙◌}
use mathlib.Core.Bool.{Bool, true, false, ◌&&◌, and-false, and-true}
use mathlib.Core.List.{[], ◌∷◌}
use mathlib.Core.Option.{Option, some}
use Rattle.texts.specs.Texts.{Text, same}
use Rattle.paths.specs.Names.{Name}
use Rattle.paths.specs.Matching.{NameTest, space_fits, local_fits, fits}
use Rattle.paths.specs.Reading.{WrittenTest, on_some, resolved}
use Rattle.records.specs.Readers.{Bytes, Reader, on_read, ◌>>=◌, pass, read_byte}
use Rattle.records.proofs.Places.{bytes-there, bytes-short}
use Rattle.path_entries.specs.Entries.{read_short, prefix_after, local_from, read_test}
use Rattle.std.specs.declared.option.Option as code
use Rattle.std.specs.declared.option.Option.TheVariants.{Some, None}
use Rattle.matching.specs.declared.Test.{Test}
use Rattle.std.proofs.Common.{Bor}
use Rattle.std.specs.Prelude.{MatchOption}
use Rattle.std.specs.List.{IsSplitAt}
use Rattle.matching.specs.Walks.{ShortIn, PrefixIn, test_of, TestIn}

-- ---- a text behind its length

pub short-none : (s : Bytes) → length s ≡ 0 → ShortIn s None
unfolding read_short ◌>>=◌ on_read read_byte
short-none [] h = refl
short-none (x ∷ s) h = absurd (omega arith)

pub short-read : (s rest : Bytes) (size n : ℕ) → s ≡ size ∷ rest → n ≡ size → (r : code.Option (Bor Text × Bor Bytes))
    → MatchOption r (length rest < n) (λ q. IsSplitAt rest n q.0.now q.1.now) → ShortIn s r
unfolding read_short ◌>>=◌ on_read read_byte
short-read s rest size n e z None h = rw (e, ← z, bytes-short n rest h)
short-read s rest size n e z (Some q) h = rw (e, ← z, bytes-there n rest h.0, h.1, h.2)

-- ---- the prefix

pub prefix-none : (s : Bytes) → length s ≡ 0 → PrefixIn s None
unfolding on_read read_byte
prefix-none [] h = refl
prefix-none (x ∷ s) h = absurd (omega arith)

module _ (s : Bytes) (rest : Bor Bytes) (flag : ℕ) (e : s ≡ flag ∷ rest.now) where
  pub prefix-plain : flag ≡ 0 → PrefixIn s (Some (None, rest))
  unfolding on_read read_byte prefix_after pass
  prefix-plain z = rw (e, z)

  module _ (d : flag ≡ 0 → ⊥) where
    behind : on_read (read_byte s) prefix_after ≡ on_read (read_short rest.now) (λ p. pass (some p))
    unfolding on_read read_byte
    behind = rw e (by flag d)
      where
        by : (f : ℕ) → (f ≡ 0 → ⊥) → prefix_after f rest.now ≡ on_read (read_short rest.now) (λ p. pass (some p))
        by zero d = absurd (d refl)
        by (suc f) d = unfold prefix_after ◌>>=◌ in refl

    pub prefix-cut : ShortIn rest.now None → PrefixIn s None
    unfolding on_read
    prefix-cut h = behind ∙ rw h

    pub prefix-there : (q : Bor Text × Bor Bytes) → ShortIn rest.now (Some q) → PrefixIn s (Some (Some q.0, q.1))
    unfolding on_read pass
    prefix-there q h = behind ∙ rw h

-- ---- the whole test

abbrev behind_prefix : Option Text → Reader WrittenTest
behind_prefix p = read_short >>= (λ l. pass (record { prefix = p; local = local_from l }))

test-by : (s : Bytes) → read_test s ≡ on_read (on_read (read_byte s) prefix_after) behind_prefix
unfolding read_test ◌>>=◌ on_read read_byte
test-by [] = refl
test-by (f ∷ s) = refl

module _ (s : Bytes) where
  pub test-cut : PrefixIn s None → TestIn s None
  unfolding on_read
  test-cut h = test-by s ∙ rw h

  module _ (p : code.Option (Bor Text)) (rest : Bor Bytes) (h : PrefixIn s (Some (p, rest))) where
    pub test-no-local : ShortIn rest.now None → TestIn s None
    unfolding on_read ◌>>=◌
    test-no-local g = test-by s ∙ rw (h, g)

    pub test-there : (q : Bor Text × Bor Bytes) → ShortIn rest.now (Some q) → TestIn s (Some (record { prefix = p; local = q.0 }, q.1))
    unfolding on_read ◌>>=◌ pass
    test-there q g = test-by s ∙ rw (h, g)

-- ---- a name fits

-- a local part of no bytes is `*`
pub local-any : (t l : Text) → length t ≡ 0 → true ≡ local_fits (local_from t) l
unfolding local_fits local_from
local-any [] l h = refl
local-any (c ∷ t) l h = absurd (omega arith)

pub local_same : (t l : Text) → (length t ≡ 0 → ⊥) → same t l ≡ local_fits (local_from t) l
unfolding local_fits local_from
local_same [] l h = absurd (h refl)
local_same (c ∷ t) l h = refl

module _ (find : Text → Option Text) (t : Test) (n : Name) where
  abbrev asked : NameTest
  asked = resolved find (test_of t)

  pub fits_not : local_fits (local_from t.local.now) n.local ≡ false → false ≡ fits asked n
  unfolding fits resolved
  fits_not h = sym (ap (λ (b : Bool). space_fits asked.ns n.space && b) h ∙ and-false (space_fits asked.ns n.space))

  module _ (h : local_fits (local_from t.local.now) n.local ≡ true) where
    in_space : fits asked n ≡ (space_fits asked.ns n.space && true)
    unfolding fits resolved
    in_space = ap (λ (b : Bool). space_fits asked.ns n.space && b) h

    pub fits-plain : t.prefix ≡ None → true ≡ fits asked n
    unfolding resolved on_some space_fits
    fits-plain e = sym (in_space ∙ rw e)

    pub fits-prefixed : (p : Bor Text) → t.prefix ≡ Some p → space_fits (find p.now) n.space ≡ fits asked n
    unfolding resolved on_some
    fits-prefixed p e = sym (in_space ∙ rw e (and-true (space_fits (find p.now) n.space)))
