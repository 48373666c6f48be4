-- What stands first, by the tests that the code makes: a law for each way that one of its functions returns.
-- Assumes nothing.
use Prim.Native.Nat.{ℕ, ◌+◌, ◌-◌, ◌≤◌}
use native.Mathlib.Omega.{arith}
use native.Mathlib.Numerals.{add-one}
use lib.Dec.{eqb}
use lib.ListN.{length, take, drop, get_or, drop_of_length-le}
use borrow.Author.Tests.{ne_eqb}
use mathlib.Core.Path.{◌≡◌, refl, ◌∙◌}
use mathlib.Core.Bool.{Bool, true, false}
use mathlib.Core.List.{[], ◌∷◌}
use Rattle.std.proofs.lemmas.List.{drop_more, take_rest}
use Rattle.characters.specs.Ranges.{in_ranges}
use Rattle.characters.specs.Spaces.{xml_space}
use Rattle.ncname.specs.NCName.{nc_name}
use Rattle.grammar.specs.Tokens.{Points}
use Rattle.grammar.specs.Tokens.NameTest.{star, any_in, local, qualified}
use Rattle.grammar.specs.Tokens.Token.{dot, slash, slashes, colons, at, name}
use Rattle.reasons.specs.Reasons.{run_start, run, begins, end, found, fault, slash_first, colon_first, after_prefix, after_name, name_first, scan}
use Rattle.reasons.proofs.Chars.{other-than}
use Rattle.std.specs.Borrow.{Bor}
use Rattle.std.specs.List.{slice_get}
use Rattle.std.specs.Option.{option_copied, option_eq}
use Rattle.std.specs.declared.option.Option as code
use Rattle.std.specs.declared.option.Option.TheVariants.{Some, None}
use Rattle.std.specs.declared.result.Result.TheVariants.{Ok, Err}
use Rattle.tokens.specs.declared.Reason.{Reason}
use Rattle.tokens.specs.Places.{gap_length, number, name_of}
use Rattle.tokens.proofs.Runs.{gap-not, named-is, unnamed-is}

-- ---- the first character

-- as the library gives it
pub first-none : (s : Points) → None ≡ slice_get s 0 → length s ≡ 0
first-none [] e = refl
first-none (d ∷ s) e = absurd cc

pub first-there : (s : Points) (c : ℕ) → Some c ≡ slice_get s 0 → (length s ≡ 0 → ⊥) × (get_or s 0 0 ≡ c)
first-there [] c e = absurd cc
first-there (d ∷ s) c e = ((λ h. omega arith), cc)

pub begins-by : (s : Points) (c : ℕ) (r : code.Option (Bor ℕ)) → option_copied r ≡ slice_get s 0
    → (f : Bor ℕ → Bor ℕ → Bool) → ((x y : Bor ℕ) → f x y ≡ eqb x.now y.now) → (y : Bor ℕ) → y.now ≡ c → option_eq f r (Some y) ≡ begins c s
unfolding begins
begins-by [] c None v f k y e = refl
begins-by [] c (Some x) v f k y e = absurd cc
begins-by (d ∷ s) c None v f k y e = absurd cc
begins-by (d ∷ s) c (Some x) v f k y e = let q : x.now ≡ d = cc in k x y ∙ rw (q, e) refl

-- ---- after a prefix and ':'

module _ (s : Points) (n : ℕ) where
  pub prefix-none : length s ≡ n + 2 → fault 4 ≡ after_prefix (take (n + 1) s) n (drop (n + 2) s)
  unfolding after_prefix
  prefix-none h = rw (drop_of_length-le s {i = n + 2} (omega arith))

  module _ (h : n + 2 ≤ length s) (g : length s ≡ n + 2 → ⊥) where
    front : drop (n + 2) s ≡ get_or s (n + 2) 0 ∷ drop (n + 2 + 1) s
    front = drop_more s (n + 2) 0 (omega arith)

    pub prefix-star : get_or s (n + 2) 0 ≡ 42 → found (name (any_in (take (n + 1) s))) (n + 2) ≡ after_prefix (take (n + 1) s) n (drop (n + 2) s)
    unfolding after_prefix
    prefix-star e = rw (front, e)

    module _ (d : get_or s (n + 2) 0 ≡ 42 → ⊥) where
      pub prefix-not : run_start (get_or s (n + 2) 0) ≡ false → fault 4 ≡ after_prefix (take (n + 1) s) n (drop (n + 2) s)
      unfolding after_prefix
      prefix-not e = rw (front, ne_eqb (get_or s (n + 2) 0) 42 d, e)

      module _ (e : run_start (get_or s (n + 2) 0) ≡ true) where
        pub prefix-bad : (k : Reason) → Err k ≡ name_of (take (length s - (n + 2)) (drop (n + 2) s)) → fault (number k) ≡ after_prefix (take (n + 1) s) n (drop (n + 2) s)
        unfolding after_prefix
        prefix-bad k f =
            let f2 : Err k ≡ name_of (get_or s (n + 2) 0 ∷ drop (n + 2 + 1) s) = rw (take_rest s (n + 2), front) at f in
            let q = unnamed-is (get_or s (n + 2) 0 ∷ drop (n + 2 + 1) s) k f2 in
            rw (q.0, front, ne_eqb (get_or s (n + 2) 0) 42 d, e, q.1)

        pub prefix-name : (m : ℕ) → Ok m ≡ name_of (take (length s - (n + 2)) (drop (n + 2) s)) → found (name (qualified (take (n + 1) s) (take (m + 1) (drop (n + 2) s)))) (n + 2 + m) ≡ after_prefix (take (n + 1) s) n (drop (n + 2) s)
        unfolding after_prefix
        prefix-name m f =
            let f2 : Ok m ≡ name_of (get_or s (n + 2) 0 ∷ drop (n + 2 + 1) s) = rw (take_rest s (n + 2), front) at f in
            let q = named-is (get_or s (n + 2) 0 ∷ drop (n + 2 + 1) s) m f2 in
            rw (q.0, add-one (run (drop (n + 2 + 1) s)), front, ne_eqb (get_or s (n + 2) 0) 42 d, e, q.1)

-- ---- after a name

module _ (s : Points) (n : ℕ) where
  pub name-end : length s ≡ n + 1 → found (name (local (take (n + 1) s))) n ≡ after_name (take (n + 1) s) n (drop (n + 1) s)
  unfolding after_name
  name-end h = rw (drop_of_length-le s {i = n + 1} (omega arith))

  module _ (h : n + 1 ≤ length s) (g : length s ≡ n + 1 → ⊥) where
    after : drop (n + 1) s ≡ get_or s (n + 1) 0 ∷ drop (n + 1 + 1) s
    after = drop_more s (n + 1) 0 (omega arith)

    pub name-plain : (get_or s (n + 1) 0 ≡ 58 → ⊥) → found (name (local (take (n + 1) s))) n ≡ after_name (take (n + 1) s) n (drop (n + 1) s)
    unfolding after_name
    name-plain e = rw (after, ne_eqb (get_or s (n + 1) 0) 58 e)

    module _ (e : get_or s (n + 1) 0 ≡ 58) where
      pub name-axis : begins 58 (take (length s - (n + 1 + 1)) (drop (n + 1 + 1) s)) ≡ true → found (name (local (take (n + 1) s))) n ≡ after_name (take (n + 1) s) n (drop (n + 1) s)
      unfolding after_name
      name-axis b = rw (after, e, rw (take_rest s (n + 1 + 1)) at b)

      pub name-prefix : begins 58 (take (length s - (n + 1 + 1)) (drop (n + 1 + 1) s)) ≡ false → after_prefix (take (n + 1) s) n (drop (n + 2) s) ≡ after_name (take (n + 1) s) n (drop (n + 1) s)
      unfolding after_name
      name-prefix b =
          let a : n + 1 + 1 ≡ n + 2 = omega arith in
          rw (after, e, rw (take_rest s (n + 1 + 1)) at b, a)

-- ---- a name first

module _ (s : Points) (h : 1 ≤ length s) where
  pub first-name : (m : ℕ) → Ok m ≡ name_of s → after_name (take (m + 1) s) m (drop (m + 1) s) ≡ name_first (get_or s 0 0) (drop 1 s)
  first-name m f = by s h (named-is s m f)
    where
      by : (s : Points) → 1 ≤ length s → (m ≡ run (drop 1 s)) × (nc_name (get_or s 0 0 ∷ take (run (drop 1 s)) (drop 1 s)) ≡ true)
          → after_name (take (m + 1) s) m (drop (m + 1) s) ≡ name_first (get_or s 0 0) (drop 1 s)
      by [] h q = absurd (omega arith)
      by (c ∷ t) h q = unfold name_first in rw (q.0, add-one (run t), q.1)

  pub first-bad : (k : Reason) → Err k ≡ name_of s → fault (number k) ≡ name_first (get_or s 0 0) (drop 1 s)
  unfolding name_first
  first-bad k f = let q = unnamed-is s k f in rw (q.0, q.1)

-- ---- what stands first, where that is no white space

pub scan-none : (s : Points) → length s ≡ 0 → end ≡ scan s
unfolding scan
scan-none [] h = refl
scan-none (c ∷ t) h = absurd (omega arith)

module _ (s : Points) (h : length s ≡ 0 → ⊥) where
  pub scan-slashes : get_or s 0 0 ≡ 47 → begins 47 (take (length s - 1) (drop 1 s)) ≡ true → found slashes 1 ≡ scan s
  scan-slashes e b = by s h e (rw (take_rest s 1) at b)
    where
      by : (s : Points) → (length s ≡ 0 → ⊥) → get_or s 0 0 ≡ 47 → begins 47 (drop 1 s) ≡ true → found slashes 1 ≡ scan s
      by [] h e b = absurd (h refl)
      by (c ∷ t) h e b = unfold scan xml_space in_ranges slash_first in rw (e, b)

  pub scan-slash : get_or s 0 0 ≡ 47 → begins 47 (take (length s - 1) (drop 1 s)) ≡ false → found slash 0 ≡ scan s
  scan-slash e b = by s h e (rw (take_rest s 1) at b)
    where
      by : (s : Points) → (length s ≡ 0 → ⊥) → get_or s 0 0 ≡ 47 → begins 47 (drop 1 s) ≡ false → found slash 0 ≡ scan s
      by [] h e b = absurd (h refl)
      by (c ∷ t) h e b = unfold scan xml_space in_ranges slash_first in rw (e, b)

  pub scan-colons : get_or s 0 0 ≡ 58 → begins 58 (take (length s - 1) (drop 1 s)) ≡ true → found colons 1 ≡ scan s
  scan-colons e b = by s h e (rw (take_rest s 1) at b)
    where
      by : (s : Points) → (length s ≡ 0 → ⊥) → get_or s 0 0 ≡ 58 → begins 58 (drop 1 s) ≡ true → found colons 1 ≡ scan s
      by [] h e b = absurd (h refl)
      by (c ∷ t) h e b = unfold scan xml_space in_ranges colon_first in rw (e, b)

  pub scan-colon : get_or s 0 0 ≡ 58 → begins 58 (take (length s - 1) (drop 1 s)) ≡ false → fault 2 ≡ scan s
  scan-colon e b = by s h e (rw (take_rest s 1) at b)
    where
      by : (s : Points) → (length s ≡ 0 → ⊥) → get_or s 0 0 ≡ 58 → begins 58 (drop 1 s) ≡ false → fault 2 ≡ scan s
      by [] h e b = absurd (h refl)
      by (c ∷ t) h e b = unfold scan xml_space in_ranges colon_first in rw (e, b)

pub scan-at : (s : Points) → (length s ≡ 0 → ⊥) → get_or s 0 0 ≡ 64 → found at 0 ≡ scan s
unfolding scan xml_space in_ranges
scan-at [] h e = absurd (h refl)
scan-at (c ∷ t) h e = rw e

pub scan-star : (s : Points) → (length s ≡ 0 → ⊥) → get_or s 0 0 ≡ 42 → found (name star) 0 ≡ scan s
unfolding scan xml_space in_ranges
scan-star [] h e = absurd (h refl)
scan-star (c ∷ t) h e = rw e

pub scan-dot : (s : Points) → (length s ≡ 0 → ⊥) → get_or s 0 0 ≡ 46 → found dot 0 ≡ scan s
unfolding scan xml_space in_ranges
scan-dot [] h e = absurd (h refl)
scan-dot (c ∷ t) h e = rw e

pub scan-name : (s : Points) → (length s ≡ 0 → ⊥) → gap_length s ≡ 0 → run_start (get_or s 0 0) ≡ true → name_first (get_or s 0 0) (drop 1 s) ≡ scan s
unfolding scan run_start in_ranges
scan-name [] h w e = absurd (h refl)
scan-name (c ∷ t) h w e =
    let p = other-than run_start in
    rw (gap-not c t w, p 47 refl c e, p 58 refl c e, p 64 refl c e, p 42 refl c e, p 46 refl c e, e)

pub scan-bad : (s : Points) → (length s ≡ 0 → ⊥) → gap_length s ≡ 0 → run_start (get_or s 0 0) ≡ false → (get_or s 0 0 ≡ 47 → ⊥) → (get_or s 0 0 ≡ 58 → ⊥)
    → (get_or s 0 0 ≡ 64 → ⊥) → (get_or s 0 0 ≡ 42 → ⊥) → (get_or s 0 0 ≡ 46 → ⊥) → fault 5 ≡ scan s
unfolding scan
scan-bad [] h w g a b d e f = absurd (h refl)
scan-bad (c ∷ t) h w g a b d e f = rw (gap-not c t w, ne_eqb c 47 a, ne_eqb c 58 b, ne_eqb c 64 d, ne_eqb c 42 e, ne_eqb c 46 f, g)
