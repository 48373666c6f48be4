-- How many bytes the character at the front has: one law for each way that `char_size` returns.
-- A test that fails contradicts what is known of a character that stands there; where all pass, one stands there.
-- Assumes nothing.
use Prim.Native.Nat.{ℕ, suc, ◌-◌, ◌≤◌, ◌<◌}
use native.Mathlib.Omega.{arith}
use borrow.Author.Tests.{leb-true, leb-false}
use lib.Dec.{leb}
use lib.ListN.{length, get_or, take, drop}
use mathlib.Core.Path.{◌≡◌, refl, ap, sym, ◌∙◌}
use mathlib.Core.Bool.{Bool, true, false, cond, ◌&&◌, false≢true}
use mathlib.Core.List.{[], ◌∷◌}
use Rattle.lists.specs.Lists.{all}
use Rattle.texts.specs.Texts.{Text, same}
use Rattle.utf8.specs.Utf8.{scalar, encode, size_of, code_of}
use Rattle.std.specs.Bool.{then_some}
use Rattle.std.specs.declared.option.Option.{Option}
use Rattle.std.specs.declared.option.Option.TheVariants.{Some, None}
use Rattle.utf8.specs.Front.{code_at, size_at, tail, least, front, front_size}
use Rattle.code_points.specs.Chars.{char_at}
use Rattle.code_points.specs.declared.Char.{Char}
use Rattle.utf8.proofs.Encoding.{size-one}
use Rattle.utf8.proofs.Exact.{size-some}
use Rattle.utf8.proofs.Front.{Stands, front-stands, front-one, front-more, front-tail}

-- what `char_size` answers
abbrev pub answer : Text → Option ℕ
answer s = cond (front s) (Some (size_at s 0)) None

none-if : (s : Text) → (front s ≡ true → ⊥) → None ≡ answer s
none-if s f = by (front s) refl
  where
    by : (x : Bool) → front s ≡ x → None ≡ cond x (Some (size_at s 0)) None
    by true e = absurd (f e)
    by false e = refl

one-if : (s : Text) → front s ≡ true → Some (size_at s 0) ≡ answer s
one-if s f = rw f

pub size-empty : (s : Text) → length s ≡ 0 → None ≡ answer s
unfolding front code_at size_at scalar code_of size_of encode same
size-empty [] h = refl
size-empty (b ∷ s) h = absurd (omega arith)

module _ (s : Text) (h : length s ≡ 0 → ⊥) where
  pub size-ascii : get_or s 0 0 < 0x80 → Some 1 ≡ answer s
  unfolding code_at size_at
  size-ascii = by s h
    where
      by : (s : Text) → (length s ≡ 0 → ⊥) → get_or s 0 0 < 0x80 → Some 1 ≡ answer s
      by [] h g = absurd (h refl)
      by (b ∷ s) h g = ap Some (sym (size-one b (omega arith))) ∙ one-if (b ∷ s) (front-one b s g)

  pub none_tail : 0x80 ≤ get_or s 0 0 → get_or s 0 0 < 0xC0 → None ≡ answer s
  none_tail g k = none-if s (by s h g k)
    where
      by : (s : Text) → (length s ≡ 0 → ⊥) → 0x80 ≤ get_or s 0 0 → get_or s 0 0 < 0xC0 → front s ≡ true → ⊥
      by [] h g k e = h refl
      by (b ∷ s) h g k e = front-tail b s g k e

  -- c is the character as it was read
  module _ (c : Char) (is : c ≡ char_at s 0) where
    stands : front s ≡ true → Stands (get_or s 0 0) (drop 1 s)
    stands = by s h
      where
        by : (s : Text) → (length s ≡ 0 → ⊥) → front s ≡ true → Stands (get_or s 0 0) (drop 1 s)
        by [] h e = absurd (h refl)
        by (b ∷ s) h e = front-stands b s e

    size_is : c.size ≡ size_of (get_or s 0 0)
    unfolding code_at size_at
    size_is = ap (λ (x : Char). x.size) is

    code_is : c.code ≡ code_of (get_or s 0 0) (drop 1 s)
    unfolding code_at size_at
    code_is = ap (λ (x : Char). x.code) is

    length-is : suc (length (drop 1 s)) ≡ length s
    length-is = by s h
      where
        by : (s : Text) → (length s ≡ 0 → ⊥) → suc (length (drop 1 s)) ≡ length s
        by [] h = absurd (h refl)
        by (b ∷ s) h = refl

    pub none-short : length s < c.size → None ≡ answer s
    none-short k = none-if s (λ e. let f = (stands e).fits in let l = length-is in let n = size_is in omega arith)

    pub none-overlong : (n : ℕ) → n ≡ least c.size → c.code < n → None ≡ answer s
    none-overlong n e k = none-if s (λ f. let g = (stands f).needed in let m : n ≡ least (size_of (get_or s 0 0)) = e ∙ ap least size_is in let o = code_is in omega arith)

    pub none-scalar : (b : Bool) → b ≡ scalar c.code → b ≡ false → None ≡ answer s
    none-scalar b e k = none-if s (λ f. false≢true (sym k ∙ e ∙ ap scalar code_is ∙ (stands f).may))

    pub none-tails : (b : Bool) → b ≡ all tail (take (c.size - 1) (drop 1 s)) → b ≡ false → None ≡ answer s
    none-tails b e k = none-if s (λ f. false≢true (sym k ∙ e ∙ ap (λ (n : ℕ). all tail (take (n - 1) (drop 1 s))) size_is ∙ (stands f).tails))

    pub size-more : 0xC0 ≤ get_or s 0 0 → c.size ≤ length s → (n : ℕ) → n ≡ least c.size → n ≤ c.code → (a : Bool) → a ≡ scalar c.code → a ≡ true → (b : Bool) → b ≡ all tail (take (c.size - 1) (drop 1 s)) → b ≡ true → Some c.size ≡ answer s
    size-more g l n en k a ea ka b eb kb =
        ap (λ (x : Char). Some x.size) is
        ∙ one-if s
        (by s h g
        (rw size_is at l)
        (rw (en, size_is, code_is) at k)
        (ap scalar (sym code_is) ∙ sym ea ∙ ka)
        (ap (λ (n : ℕ). all tail (take (n - 1) (drop 1 s))) (sym size_is) ∙ sym eb ∙ kb))
      where
        by : (s : Text) → (length s ≡ 0 → ⊥) → 0xC0 ≤ get_or s 0 0 → size_of (get_or s 0 0) ≤ length s → least (size_of (get_or s 0 0)) ≤ code_of (get_or s 0 0) (drop 1 s)
            → scalar (code_of (get_or s 0 0) (drop 1 s)) ≡ true → all tail (take (size_of (get_or s 0 0) - 1) (drop 1 s)) ≡ true → front s ≡ true
        by [] h g l k m t = absurd (h refl)
        by (b ∷ s) h g l k m t = front-more b s g l k m t

-- whether all four tests pass
module _ (s : Text) (h : length s ≡ 0 → ⊥) (c : Char) (is : c ≡ char_at s 0) (g : 0xC0 ≤ get_or s 0 0) where
  by-tests : (x : Bool) → leb c.size (length s) ≡ x → (y : Bool) → leb (least c.size) c.code ≡ y → (z : Bool) → scalar c.code ≡ z → (w : Bool) → all tail (take (c.size - 1) (drop 1 s)) ≡ w
      → then_some (x && (y && (z && w))) c.size ≡ answer s
  by-tests false i y j z k w l = none-short s h c is (leb-false c.size (length s) i)
  by-tests true i false j z k w l = none-overlong s h c is (least c.size) refl (leb-false (least c.size) c.code j)
  by-tests true i true j false k w l = none-scalar s h c is false (sym k) refl
  by-tests true i true j true k false l = none-tails s h c is false (sym l) refl
  by-tests true i true j true k true l =
      size-more s h c is g (leb-true c.size (length s) i) (least c.size) refl (leb-true (least c.size) c.code j) true (sym k) refl true (sym l) refl

  pub size-whole : (b : Bool) → b ≡ (leb c.size (length s) && (leb (least c.size) c.code && (scalar c.code && all tail (take (c.size - 1) (drop 1 s))))) → then_some b c.size ≡ answer s
  size-whole b e = ap (λ (x : Bool). then_some x c.size) e ∙ by-tests _ refl _ refl _ refl _ refl

pub char-some : (s : Text) (c : Char) → c ≡ char_at s 0 → 1 ≤ c.size
unfolding code_at size_at
char-some s c e = let z = size-some (get_or s 0 0) in let n = ap (λ (x : Char). x.size) e in omega arith

-- ---- what an answer says to the walk

pub none-front : (s : Text) → None ≡ answer s → front_size s ≡ 0
unfolding front_size
none-front s = by (front s)
  where
    by : (x : Bool) → None ≡ cond x (Some (size_at s 0)) None → cond x (size_at s 0) 0 ≡ 0
    by true e = absurd cc
    by false e = refl

pub some-front : (s : Text) (n : ℕ) → Some n ≡ answer s → n ≡ front_size s
unfolding front_size
some-front s n = by (front s)
  where
    by : (x : Bool) → Some n ≡ cond x (Some (size_at s 0)) None → n ≡ cond x (size_at s 0) 0
    by true e = cc
    by false e = absurd cc

pub some-more : (s : Text) (n : ℕ) → Some n ≡ answer s → n ≡ 0 → ⊥
unfolding size_at
some-more s n e z = by (front s) e
  where
    by : (x : Bool) → Some n ≡ cond x (Some (size_at s 0)) None → ⊥
    by true e = let q : n ≡ size_of (get_or s 0 0) = cc in let m = size-some (get_or s 0 0) in omega arith
    by false e = absurd cc
