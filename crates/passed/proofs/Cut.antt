-- How the reader cuts a text: at a byte that a piece does not hold, the piece comes off whole; and what is behind given bytes stands behind them.
-- By induction on the text. And where the reader's combinators have an answer: where what they combine has one.
-- Assumes nothing.
use Prim.Native.Nat.{ℕ}
use lib.Dec.{eqb}
use borrow.Author.Tests.{eqb-true, eq-eqb}
use mathlib.Core.Path.{◌≡◌, refl, sym}
use mathlib.Core.Bool.{Bool, true, false, cond}
use mathlib.Core.List.{List, [], ◌∷◌, ◌++◌}
use mathlib.Core.Option.{Option, none, some, IsSome, map, some-injective}
use Rattle.lists.specs.Lists.{all, All}
use Rattle.texts.specs.Texts.{Text}
use Rattle.reasons.proofs.Chars.{other-than, all_pass}
use Rattle.reasons.proofs.Walks.{no-some}
use Rattle.paths.specs.Reading.{on_some, every, is_nil, on_front, split_at, behind}

-- the byte d does not stand in the text
abbrev pub Free : ℕ → Text → Type 0
Free d t = All (λ (b : ℕ). eqb b d ≡ false) t

-- all bytes pass a test that d fails
pub free-by : (test : ℕ → Bool) (d : ℕ) → test d ≡ false → (t : Text) → all test t ≡ true → Free d t
free-by test d f t h = all_pass test (λ (b : ℕ). eqb b d ≡ false) (other-than test d f) t h

-- ---- pieces

module _ (d : ℕ) where
  pub split-whole : (t : Text) → Free d t → split_at d t ≡ t ∷ []
  unfolding split_at on_front
  split-whole [] a = refl
  split-whole (c ∷ t) a = rw (a.0, split-whole t a.1)

  pub split-first : (t r : Text) → Free d t → split_at d (t ++ (d ∷ r)) ≡ t ∷ split_at d r
  unfolding split_at on_front
  split-first [] r a = rw (eq-eqb d d refl)
  split-first (c ∷ t) r a = rw (a.0, split-first t r a.1)

  -- there is always a piece
  front-some : (c : ℕ) (ts : List Text) → is_nil (on_front c ts) ≡ false
  unfolding is_nil on_front
  front-some c [] = refl
  front-some c (t ∷ ts) = refl

  pub split-some : (t : Text) → is_nil (split_at d t) ≡ false
  unfolding is_nil split_at
  split-some [] = refl
  split-some (c ∷ t) = by (eqb c d)
    where
      by : (b : Bool) → is_nil (cond b ([] ∷ split_at d t) (on_front c (split_at d t))) ≡ false
      by true = refl
      by false = front-some c (split_at d t)

-- ---- what is behind given bytes

pub behind-is : (w t : Text) {u : Text} → behind w t ≡ some u → t ≡ w ++ u
unfolding behind
behind-is [] t e = some-injective _ _ e
behind-is (c ∷ w) [] e = no-some (sym e)
behind-is (c ∷ w) (x ∷ t) {u} e = by (eqb c x) refl (behind-is w t) e
  where
    by : (b : Bool) → eqb c x ≡ b → (behind w t ≡ some u → t ≡ w ++ u) → cond b (behind w t) none ≡ some u → x ∷ t ≡ c ∷ (w ++ u)
    by true h rec e = let i = rec e in let j : c ≡ x = eqb-true c x h in cc (i, j)
    by false h rec e = no-some (sym e)

-- a text that does not begin with them
pub behind-none : (w t : Text) → ((u : Text) → t ≡ w ++ u → ⊥) → behind w t ≡ none
behind-none w t h = by (behind w t) refl
  where
    by : (o : Option Text) → behind w t ≡ o → o ≡ none
    by none e = refl
    by (some u) e = absurd (h u (behind-is w t e))

-- ---- where there is an answer

pub map-some : {A B : Type 0} (f : A → B) (o : Option A) → IsSome o → IsSome (map f o)
map-some f none h = absurd h
map-some f (some a) h = tt

pub on-some : {A B : Type 0} (f : A → Option B) → ((a : A) → IsSome (f a)) → (o : Option A) → IsSome o → IsSome (on_some o f)
unfolding on_some
on-some f g none h = absurd h
on-some f g (some a) h = g a

pub every_one : {A B : Type 0} (f : A → Option B) (x : A) → IsSome (f x) → (xs : List A) → IsSome (every f xs) → IsSome (every f (x ∷ xs))
unfolding every
every_one f x h xs g = on-some (λ b. map (λ l. b ∷ l) (every f xs)) (λ b. map-some (λ l. b ∷ l) (every f xs) g) (f x) h
