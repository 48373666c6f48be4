-- What holds of a thing where it is there, said along the combinators by which the reader is made; and what was there
-- before it. By cases on whether it is there.
-- Assumes nothing.
use mathlib.Core.Path.{◌≡◌, refl, subst}
use mathlib.Core.Bool.{Bool, true, false, cond}
use mathlib.Core.List.{List, [], ◌∷◌}
use mathlib.Core.Option.{Option, none, some, map, none-ne-some}
use Rattle.paths.specs.Reading.{on_some, every, or_else}
use Rattle.lists.specs.Lists.{All}

abbrev pub Sure : {A : Type 0} → (A → Type 0) → Option A → Type 0
Sure p none = Unit {0}
Sure p (some a) = p a

module _ {A : Type 0} (p : A → Type 0) where
  pub sure-cond : (b : Bool) (o q : Option A) → Sure p o → Sure p q → Sure p (cond b o q)
  sure-cond true o q x y = x
  sure-cond false o q x y = y

  pub sure-else : (o q : Option A) → Sure p o → Sure p q → Sure p (or_else o q)
  unfolding or_else
  sure-else none q x y = y
  sure-else (some a) q x y = x

  pub sure-map : {B : Type 0} (q : B → Type 0) (f : A → B) → ((a : A) → p a → q (f a)) → (o : Option A) → Sure p o → Sure q (map f o)
  sure-map q f k none x = tt
  sure-map q f k (some a) x = k a x

  pub sure-some : {B : Type 0} (q : B → Type 0) (f : A → Option B) → ((a : A) → p a → Sure q (f a)) → (o : Option A) → Sure p o → Sure q (on_some o f)
  unfolding on_some
  sure-some q f k none x = tt
  sure-some q f k (some a) x = k a x

  -- what is known of the thing that is there
  pub sure-at : (o : Option A) (a : A) → o ≡ some a → Sure p o → p a
  sure-at o a e x = subst (Sure p) e x

  pub sure-if : (o : Option A) → ((a : A) → o ≡ some a → p a) → Sure p o
  sure-if none f = tt
  sure-if (some a) f = f a refl

pub sure-every : {A B : Type 0} (p : A → Type 0) (q : B → Type 0) (f : A → Option B) → ((a : A) → p a → Sure q (f a)) → (xs : List A) → All p xs → Sure (All q) (every f xs)
unfolding every
sure-every p q f k [] h = tt
sure-every {B = B} p q f k (x ∷ xs) h =
    sure-some q (All q) (λ b. map (λ l. b ∷ l) (every f xs))
    (λ b g. sure-map (All q) (All q) (λ (l : List B). b ∷ l) (λ l gs. (g, gs)) (every f xs) (sure-every p q f k xs h.1))
    (f x) (k x h.0)

-- of two that stand one behind the other, both are there
pub some-parts : {A B : Type 0} (o : Option A) (f : A → Option B) (b : B) → on_some o f ≡ some b → (a : A) × (o ≡ some a) × (f a ≡ some b)
unfolding on_some
some-parts none f b e = absurd (none-ne-some b e)
some-parts (some a) f b e = (a, refl, e)
