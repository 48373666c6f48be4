-- `respelled-is`: the canonical text of a path that is read is its text without white space, respelled. A name test
-- stands again by the bytes that it was read from.
-- Assumes nothing.
use mathlib.Core.Path.{◌≡◌, refl, ap, sym, ◌∙◌}
use mathlib.Core.Bool.{Bool, true, false, cond, ◌&&◌, false≢true}
use mathlib.Core.List.{List, [], ◌∷◌, ◌++◌, map, flat_map}
use mathlib.Core.Option
use mathlib.Core.Option.{Option, none, some}
use Rattle.lists.specs.Lists.{only_if}
use Rattle.texts.specs.Texts.{Text}
use Rattle.utf8.specs.Utf8.{utf8}
use Rattle.paths.specs.Reading.{WrittenTest, WrittenAlt, Walked, Part, attribute_part, self_part, child_part, every, is_nil, split_at, behind, without_space, name_test, as_part, walk_part, walk_parts, marked, alt_of, read_alt, read_path}
use Rattle.reasons.proofs.Walks.{no-some}
use Rattle.paths.proofs.Sure.{Sure, sure-map, sure-some, sure-at, sure-if}
use Rattle.canonical.specs.Canonical.{test_text, attribute_text, or_self, part_texts, joined, alt_text, canonical}
use Rattle.canonical.specs.Respelling.{respell_part, respelt_parts, respell_parts, respell_marked, respell_alt, respelled}
use Rattle.canonical.proofs.Again.{test-text}

abbrev Told : Walked → List Text
Told v = map test_text v.steps ++ attribute_text v.attr

-- the parts of a walk are those of its texts
abbrev Same : List Text → Walked → Type 0
Same us v = Told v ≡ us

part_same : (field last : Bool) (p : Part) (us : List Text) (rest : Option Walked) → (last ≡ true → us ≡ []) → Sure (Same us) rest
    → Sure (Same (respell_part p ++ us)) (walk_part field last p rest)
unfolding walk_part respell_part
part_same field last (attribute_part t) us rest l r = by field last l
  where
    by : (f b : Bool) → (b ≡ true → us ≡ []) → Sure (Same ((64 ∷ t) ∷ us)) (cond (f && b) (Option.map (λ n. record { steps = []; attr = some n }) (name_test t)) none)
    by true true k =
        sure-map (λ (n : WrittenTest). test_text n ≡ t) (Same ((64 ∷ t) ∷ us)) (λ n. record { steps = []; attr = some n })
        (λ n e. unfold attribute_text in (ap (λ (x : Text). (64 ∷ x) ∷ []) e ∙ ap (λ (x : List Text). (64 ∷ t) ∷ x) (sym (k refl)))) (name_test t)
        (sure-if (λ (n : WrittenTest). test_text n ≡ t) (name_test t) (test-text t))
    by true false k = tt
    by false b k = tt
part_same field last self_part us rest l r = r
part_same field last (child_part t) us rest l r =
    sure-some (λ (n : WrittenTest). test_text n ≡ t) (Same (t ∷ us)) (λ n. Option.map (λ w. record { steps = n ∷ w.steps; attr = w.attr }) rest)
    (λ n e. sure-map (Same us) (Same (t ∷ us)) (λ w. record { steps = n ∷ w.steps; attr = w.attr }) (λ w g. ap (λ (x : List Text). test_text n ∷ x) g ∙ ap (λ (x : Text). x ∷ us) e) rest r)
    (name_test t) (sure-if (λ (n : WrittenTest). test_text n ≡ t) (name_test t) (test-text t))

walk_same : (field : Bool) (ts : List Text) → Sure (Same (respelt_parts ts)) (walk_parts field ts)
unfolding walk_parts flat_map
walk_same field [] = unfold attribute_text in refl
walk_same field (t ∷ ts) = part_same field (is_nil ts) (as_part t) (respelt_parts ts) (walk_parts field ts) (last ts) (walk_same field ts)
  where
    last : (us : List Text) → is_nil us ≡ true → respelt_parts us ≡ []
    last [] h = unfold flat_map in refl
    last (u ∷ us) h = absurd (false≢true (unfold is_nil in h))

alt-same : (field : Bool) (t : Text) → Sure (λ (a : WrittenAlt). alt_text a ≡ respell_alt t) (read_alt field t)
unfolding read_alt respell_alt
alt-same field t = by (behind (46 ∷ 47 ∷ 47 ∷ []) t)
  where
    by : (o : Option Text) → Sure (λ (a : WrittenAlt). alt_text a ≡ respell_marked t o) (alt_of field t o)
    by none =
        unfold alt_of marked respell_marked respell_parts in
        sure-map (Same (respelt_parts (split_at 47 t))) (λ (a : WrittenAlt). alt_text a ≡ joined 47 (or_self (respelt_parts (split_at 47 t)))) (λ v. record { descendant = false; steps = v.steps; attr = v.attr })
        (λ v e. unfold alt_text only_if part_texts in ap (λ (l : List Text). joined 47 (or_self l)) e) (walk_parts field (split_at 47 t)) (walk_same field (split_at 47 t))
    by (some u) =
        unfold alt_of marked respell_marked respell_parts in
        sure-map (Same (respelt_parts (split_at 47 u))) (λ (a : WrittenAlt). alt_text a ≡ 46 ∷ 47 ∷ 47 ∷ joined 47 (or_self (respelt_parts (split_at 47 u)))) (λ v. record { descendant = true; steps = v.steps; attr = v.attr })
        (λ v e. unfold alt_text only_if part_texts in ap (λ (l : List Text). 46 ∷ 47 ∷ 47 ∷ joined 47 (or_self l)) e) (walk_parts field (split_at 47 u)) (walk_same field (split_at 47 u))

alts-same : (field : Bool) (ts : List Text) → Sure (λ (alts : List WrittenAlt). map alt_text alts ≡ map respell_alt ts) (every (read_alt field) ts)
unfolding every
alts-same field [] = refl
alts-same field (t ∷ ts) =
    sure-some (λ (a : WrittenAlt). alt_text a ≡ respell_alt t) (λ (alts : List WrittenAlt). map alt_text alts ≡ respell_alt t ∷ map respell_alt ts) (λ a. Option.map (λ l. a ∷ l) (every (read_alt field) ts))
    (λ a h. sure-map (λ (alts : List WrittenAlt). map alt_text alts ≡ map respell_alt ts) (λ (alts : List WrittenAlt). map alt_text alts ≡ respell_alt t ∷ map respell_alt ts) (λ (l : List WrittenAlt). a ∷ l)
    (λ l g. ap (λ (x : List Text). alt_text a ∷ x) g ∙ ap (λ (x : Text). x ∷ map respell_alt ts) h) (every (read_alt field) ts) (alts-same field ts))
    (read_alt field t) (alt-same field t)

-- THE CANONICAL TEXT IS THE PATH'S OWN, RESPELLED.
pub respelled-is : (field : Bool) (t : Text) (alts : List WrittenAlt) → read_path field t ≡ some alts → canonical alts ≡ respelled (without_space t)
unfolding read_path canonical respelled
respelled-is field t alts = by (utf8 t)
  where
    by : (b : Bool) → cond b (every (read_alt field) (split_at 124 (without_space t))) none ≡ some alts → joined 124 (map alt_text alts) ≡ joined 124 (map respell_alt (split_at 124 (without_space t)))
    by true e = ap (joined 124) (sure-at (λ (l : List WrittenAlt). map alt_text l ≡ map respell_alt (split_at 124 (without_space t))) _ alts e (alts-same field (split_at 124 (without_space t))))
    by false e = no-some (sym e)
