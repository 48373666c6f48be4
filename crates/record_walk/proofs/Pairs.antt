-- An attribute is two texts: so n attributes end where twice as many texts do, and a test on all those texts is one on the names and one on the keys.
-- Assumes nothing.
use Prim.Native.Nat.{ℕ, zero, suc, ◌*◌}
use native.Mathlib.Omega.{arith}
use lib.ListN.{length, drop}
use mathlib.Core.Path.{◌≡◌, refl, ◌∙◌}
use mathlib.Core.Bool.{Bool, true, false, ◌||◌}
use mathlib.Core.List.{List, ◌∷◌, map}
use mathlib.Core.Option.{Option, none, some}
use Rattle.lists.specs.Lists.{any}
use Rattle.texts.specs.Texts.{Text}
use Rattle.paths.specs.Names.{Attribute}
use Rattle.records.specs.Readers.{Bytes, on_read, ◌>>=◌, pass, read_text, times, on_whole, up_to}
use Rattle.records.specs.Records.{read_attribute, attribute_name, attribute_key}
use Rattle.record_places.specs.Places.{Reads, texts_at, attributes_at}
use Rattle.record_walk.proofs.Reading.{then, pass-reads}

twice : (n : ℕ) → 2 * suc n ≡ suc (suc (2 * n))
twice n = omega arith

-- ---- where they end

pair-times : (n : ℕ) (xs : Bytes) → times n read_attribute xs ≡ (times (2 * n) read_text >>= (λ l. pass (up_to n read_attribute xs))) xs
unfolding times up_to on_whole read_attribute ◌>>=◌ on_read pass
pair-times zero xs = refl
pair-times (suc n) xs = rw (twice n) (by (read_text xs) (pair-times n))
  where
    -- the two texts of the first, and then the others
    others : (a : Attribute) (o : Option (List Text × Bytes)) (l : List Attribute)
        → on_read (on_read o (λ z. pass l)) (λ (z : List Attribute). pass (a ∷ z))
        ≡ on_read (on_read (on_read o (λ z. pass (a.key ∷ z))) (λ (z : List Text). pass (a.name ∷ z))) (λ z. pass (a ∷ l))
    others a none l = refl
    others a (some q) l = refl

    second : (t : Text) (o : Option (Text × Bytes)) → ((ys : Bytes) → times n read_attribute ys ≡ (times (2 * n) read_text >>= (λ l. pass (up_to n read_attribute ys))) ys)
        → on_read (on_read o (λ k. pass (record { name = t; key = k }))) (λ a. times n read_attribute >>= (λ l. pass (a ∷ l)))
        ≡ on_read (on_read (on_read o (λ k. times (2 * n) read_text >>= (λ l. pass (k ∷ l)))) (λ l. pass (t ∷ l)))
        (λ l. pass (on_whole (on_read o (λ k. pass (record { name = t; key = k }))) (up_to n read_attribute)))
    second t none f = refl
    second t (some q) f = rw (f q.1) (others (record { name = t; key = q.0 }) (times (2 * n) read_text q.1) (up_to n read_attribute q.1))

    by : (o : Option (Text × Bytes)) → ((ys : Bytes) → times n read_attribute ys ≡ (times (2 * n) read_text >>= (λ l. pass (up_to n read_attribute ys))) ys)
        → on_read (on_read o (λ t. read_text >>= (λ k. pass (record { name = t; key = k })))) (λ a. times n read_attribute >>= (λ l. pass (a ∷ l)))
        ≡ on_read (on_read o (λ t. (read_text >>= (λ k. times (2 * n) read_text >>= (λ l. pass (k ∷ l)))) >>= (λ l. pass (t ∷ l))))
        (λ l. pass (on_whole (on_read o (λ t. read_text >>= (λ k. pass (record { name = t; key = k })))) (up_to n read_attribute)))
    by none f = refl
    by (some q) f = second q.0 (read_text q.1) f

pub attributes-reads : (n : ℕ) (s : Bytes) (i k : ℕ) → Reads (times (2 * n) read_text) s i k (texts_at s i (2 * n)) → Reads (times n read_attribute) s i k (attributes_at s i n)
attributes-reads n s i k r =
    let t =
    then (times (2 * n) read_text) (λ l. pass (attributes_at s i n)) s i k k (texts_at s i (2 * n)) (attributes_at s i n) r (pass-reads s k (attributes_at s i n)) in
    record { says = λ h. pair-times n (drop i s) ∙ t.says h; on = r.on }

-- ---- a test on all of them

or-pairs : (a b c d : Bool) → (a || (b || (c || d))) ≡ ((a || c) || (b || d))
or-pairs true b c d = refl
or-pairs false true true d = refl
or-pairs false true false d = refl
or-pairs false false c d = refl

module _ (test : Text → Bool) where
  abbrev on_both : List Attribute → Bool
  on_both l = any test (map attribute_name l) || any test (map attribute_key l)

  pub pair-any : (n : ℕ) (xs : Bytes) → length (up_to n read_attribute xs) ≡ n → any test (up_to (2 * n) read_text xs) ≡ on_both (up_to n read_attribute xs)
  unfolding up_to on_whole read_attribute ◌>>=◌ on_read pass attribute_name attribute_key
  pair-any zero xs h = refl
  pair-any (suc n) xs h = rw (twice n) (by (read_text xs) (pair-any n) h)
    where
      second : (t : Text) (o : Option (Text × Bytes)) → ((ys : Bytes) → length (up_to n read_attribute ys) ≡ n → any test (up_to (2 * n) read_text ys) ≡ on_both (up_to n read_attribute ys))
          → length (on_whole (on_read o (λ k. pass (record { name = t; key = k }))) (up_to n read_attribute)) ≡ suc n
          → (test t || any test (on_whole o (up_to (2 * n) read_text))) ≡ on_both (on_whole (on_read o (λ k. pass (record { name = t; key = k }))) (up_to n read_attribute))
      second t none f h = absurd (omega arith)
      second t (some q) f h =
          let l = up_to n read_attribute q.1 in
          rw (f q.1 (omega arith)) (or-pairs (test t) (test q.0) (any test (map attribute_name l)) (any test (map attribute_key l)))

      by : (o : Option (Text × Bytes)) → ((ys : Bytes) → length (up_to n read_attribute ys) ≡ n → any test (up_to (2 * n) read_text ys) ≡ on_both (up_to n read_attribute ys))
          → length (on_whole (on_read o (λ t. read_text >>= (λ k. pass (record { name = t; key = k })))) (up_to n read_attribute)) ≡ suc n
          → any test (on_whole o (up_to (suc (2 * n)) read_text)) ≡ on_both (on_whole (on_read o (λ t. read_text >>= (λ k. pass (record { name = t; key = k })))) (up_to n read_attribute))
      by none f h = absurd (omega arith)
      by (some q) f h = second q.0 (read_text q.1) f h
