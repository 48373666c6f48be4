-- The entries of a read path are short: at most three bytes for each byte of it and for each separator. A name test of k bytes makes at most k + 2 and has one at least, so a part
-- and its separator make at most 3 (k + 1), the head and the end of an alternative included. By induction on the pieces.
-- Assumes nothing.
use Prim.Native.Nat.{ℕ, suc, ◌+◌, ◌*◌, ◌≤◌, ◌<◌}
use native.Mathlib.Omega.{arith}
use lib.Dec.{leb, eqb}
use lib.ListN.{length, take, drop, length-append, length-drop}
use lib.Seq.{length-take-le}
use borrow.Author.Tests.{leb-true, leb-false}
use mathlib.Core.Path.{◌≡◌, refl, ap, sym, ◌∙◌, subst}
use mathlib.Core.Bool.{Bool, true, false, cond, not, ◌&&◌}
use mathlib.Core.List.{List, [], ◌∷◌, ◌++◌, flat_map, append_assoc}
use mathlib.Core.Option.{Option, none, some, map, map-eq-some_iff}
use Rattle.std.proofs.lemmas.Bool.{and_parts}
use Rattle.lists.specs.Lists.{all, only_if, passing}
use Rattle.texts.specs.Texts.{Text, same}
use Rattle.texts.proofs.Sameness.{same-eq}
use Rattle.utf8.specs.Utf8.{scalar, encode, decode, utf8}
use Rattle.characters.specs.Spaces.{xml_space}
use Rattle.paths.specs.Reading as reading
use Rattle.paths.specs.Reading.{WrittenTest, WrittenAlt, Walked, on_some, every, or_else, is_nil, split_at, on_front, behind, without_space, test_byte, starts_well, star_alone, local_of, test_of, test_parts, name_test, attribute_axis, child_axis, element_part, part_of, as_part, attribute_part, self_part, child_part, walk_part, walk_parts, marked, alt_of, read_alt, read_path}
use Rattle.paths.proofs.Sure.{some-parts}
use Rattle.path_entries.specs.Entries.{put_prefix, put_local, put_test, put_end, put_alt, put_path}
use Rattle.path_pieces.specs.Pieces.{piece_length}
use Rattle.path_reader.specs.Places.{good_local, step_of, steps_bytes, walked_bytes}
use Rattle.path_pieces.proofs.Pieces.{behind-length, split-whole, split-more, split-some}
use Rattle.path_reader.proofs.Tests.{local-read}

-- ---- what is read where something is

cond-some : {A : Type 0} (b : Bool) (o : Option A) (a : A) → cond b o none ≡ some a → o ≡ some a
cond-some true o a e = e
cond-some false o a e = let z : ◌≡◌ {A = ℕ} 0 1 = cc in absurd (omega arith)

-- ---- a name test

local-short : (t : Text) → length (put_local (local_of t)) ≤ length t + 1
unfolding put_local local_of
local-short t = by (same t (42 ∷ []))
  where
    by : (b : Bool) → length (put_local (cond b none (some t))) ≤ length t + 1
    by true = unfold put_local in omega arith
    by false = unfold put_local in omega arith

no-prefix-short : length (put_prefix none) ≤ 1
unfolding put_prefix
no-prefix-short = omega arith

prefix-short : (p : Text) (n : ℕ) → length p ≡ n → length (put_prefix (some p)) ≤ n + 2
unfolding put_prefix
prefix-short p n e = omega arith

-- a test by its prefix and its local part
written-short : (prefix : Option Text) (t : Text) (k : ℕ) (a : WrittenTest) → length (put_prefix prefix) ≤ k → record { prefix = prefix; local = local_of t } ≡ a
    → length (put_test a) ≤ k + (length t + 1)
unfolding put_test
written-short prefix t k a h e =
    let n = length-append (put_prefix prefix) (put_local (local_of t)) in
    let m = local-short t in
    subst (λ (a : WrittenTest). length (put_test a) ≤ k + (length t + 1)) e (omega arith)

some-eq : {A : Type 0} (b : Bool) (x a : A) → cond b (some x) none ≡ some a → x ≡ a
some-eq b x a e = let q : some x ≡ some a = cond-some b (some x) a e in cc

pub test_short : (t : Text) (a : WrittenTest) → name_test t ≡ some a → length (put_test a) ≤ length t + 2
unfolding name_test test_parts test_of
test_short t a e = by (leb (length t) (piece_length 58 t)) refl
  where
    parts : test_parts (split_at 58 t) ≡ some a
    parts = cond-some (all test_byte t && starts_well t) (test_parts (split_at 58 t)) a e

    by : (b : Bool) → leb (length t) (piece_length 58 t) ≡ b → length (put_test a) ≤ length t + 2
    by true h =
        let q : test_parts (t ∷ []) ≡ some a = rw (split-whole 58 t (leb-true (length t) (piece_length 58 t) h)) at parts in
        let r = written-short none t 1 a no-prefix-short (some-eq (starts_well t && star_alone t) (record { prefix = none; local = local_of t }) a q) in
        omega arith
    by false h =
        let n : ℕ = piece_length 58 t in
        let k : n < length t = leb-false (length t) n h in
        let l : Text = drop (n + 1) t in
        let q : test_parts (take n t ∷ split_at 58 l) ≡ some a = rw (split-more 58 t n refl k) at parts in
        let d = length-drop (n + 1) t in
        let r =
        written-short (some (take n t)) l (n + 2) a (prefix-short (take n t) n (length-take-le n t (omega arith)))
        (some-eq (good_local l) (record { prefix = some (take n t); local = local_of l }) a (sym (local-read (take n t) l) ∙ q)) in
        omega arith

pub some-test : (t : Text) (a : WrittenTest) → name_test t ≡ some a → 1 ≤ length t
unfolding name_test starts_well
some-test [] a e = let z : ◌≡◌ {A = ℕ} 0 1 = cc in absurd (omega arith)
some-test (x ∷ xs) a e = omega arith

pub test_fits : (t : Text) (a : WrittenTest) → name_test t ≡ some a → length (put_test a) ≤ 3 * length t
test_fits t a e = let k = some-test t a e in let n = test_short t a e in omega arith

-- ---- a part

-- how many bytes the name test of a part has
abbrev part_length : reading.Part → ℕ
part_length (attribute_part t) = length t
part_length self_part = 0
part_length (child_part t) = length t

behind-less : (f s u : Text) → behind f s ≡ some u → length u ≤ length s
behind-less f s u e = omega (arith, behind-length f s u (sym e))

either-short : (t : Text) (o q : Option Text) → ((u : Text) → o ≡ some u → length u ≤ length t) → ((u : Text) → q ≡ some u → length u ≤ length t)
    → (u : Text) → or_else o q ≡ some u → length u ≤ length t
unfolding or_else
either-short t none q f g u e = g u e
either-short t (some v) q f g u e = f u e

element-short : (t : Text) (o : Option Text) → ((u : Text) → o ≡ some u → length u ≤ length t) → part_length (element_part t o) ≤ length t
unfolding element_part
element-short t none f = omega arith
element-short t (some u) f = f u refl

self-short : (b : Bool) (p : reading.Part) (n : ℕ) → part_length p ≤ n → part_length (cond b self_part p) ≤ n
self-short true p n h = omega arith
self-short false p n h = h

of-short : (t : Text) (o : Option Text) → ((u : Text) → o ≡ some u → length u ≤ length t) → part_length (part_of t o) ≤ length t
unfolding part_of
of-short t (some u) f = f u refl
of-short t none f = self-short (same t (46 ∷ [])) (element_part t (behind child_axis t)) (length t) (element-short t (behind child_axis t) (behind-less child_axis t))

part-short : (t : Text) → part_length (as_part t) ≤ length t
unfolding as_part
part-short t =
    of-short t (or_else (behind (64 ∷ []) t) (behind attribute_axis t))
    (either-short t (behind (64 ∷ []) t) (behind attribute_axis t) (behind-less (64 ∷ []) t) (behind-less attribute_axis t))

-- the tests of a part with others behind it
tests-fit : (p : reading.Part) (ts : List WrittenTest) → step_of p ≡ some ts → (length (steps_bytes ts) ≤ 3 * part_length p) × (length ts ≤ part_length p)
unfolding step_of flat_map
tests-fit (attribute_part t) ts e = let z : ◌≡◌ {A = ℕ} 0 1 = cc in absurd (omega arith)
tests-fit self_part ts e = let q : [] ≡ ts = cc in rw (← q) (omega arith, omega arith)
tests-fit (child_part t) ts e =
    let v = some-parts (name_test t) (λ n. some (n ∷ [])) ts e in
    let q : v.0 ∷ [] ≡ ts = cc v.2 in
    let n = test_fits t v.0 v.1 in
    let k = some-test t v.0 v.1 in
    let m = length-append (put_test v.0) [] in
    rw (← q) (omega arith, omega arith)

pub step_fits : (t : Text) (ts : List WrittenTest) → step_of (as_part t) ≡ some ts → (length (steps_bytes ts) ≤ 3 * length t) × (length ts ≤ length t)
step_fits t ts e = let f = tests-fit (as_part t) ts e in let k = part-short t in (omega arith, omega arith)

-- ---- the parts of an alternative

-- what was walked over is so many bytes with separators long, and fits three times as many with the head of its alternative
pub record Fits (w : Walked) (n : ℕ) : Type 0 where
  pub bytes : length (walked_bytes w) + 2 ≤ 3 * n
  pub steps : length w.steps + 1 ≤ n

-- one part before others that have n bytes with their separators; of none, n is 0
one-fits : (field last : Bool) (p : reading.Part) (o : Option Walked) (w : Walked) (k n : ℕ) → part_length p ≤ k
    → ((v : Walked) → o ≡ some v → (length (walked_bytes v) ≤ 1 + 3 * n) × (length v.steps ≤ n))
    → walk_part field last p o ≡ some w → Fits w (k + 1 + n)
unfolding walk_part put_end flat_map
one-fits field last (attribute_part t) o w k n h f e =
    let v = (map-eq-some_iff (λ a. record { steps = []; attr = some a }) (name_test t)).0 (cond-some (field && last) (map (λ a. record { steps = []; attr = some a }) (name_test t)) w e) in
    let b = test_short t v.0 v.1 in
    let s = some-test t v.0 v.1 in
    subst (λ (w : Walked). Fits w (k + 1 + n)) v.2 (record { bytes = omega arith; steps = omega arith })
one-fits field last self_part o w k n h f e = let g = f w e in record { bytes = omega arith; steps = omega arith }
one-fits field last (child_part t) o w k n h f e =
    let v = some-parts (name_test t) (λ a. map (λ u. record { steps = a ∷ u.steps; attr = u.attr }) o) w e in
    let u = (map-eq-some_iff (λ u. record { steps = v.0 ∷ u.steps; attr = u.attr }) o).0 v.2 in
    let g = f u.0 u.1 in
    let b = test_short t v.0 v.1 in
    let s = some-test t v.0 v.1 in
    let a = append_assoc (put_test v.0) (flat_map put_test u.0.steps) (put_end u.0.attr) in
    let m = ap length a ∙ length-append (put_test v.0) (walked_bytes u.0) in
    subst (λ (w : Walked). Fits w (k + 1 + n)) u.2 (record { bytes = omega arith; steps = omega arith })

-- the bytes of texts, each with a separator
abbrev total : List Text → ℕ
total [] = 0
total (t ∷ ts) = length t + 1 + total ts

end_fits : (v : Walked) → some (record { steps = []; attr = none }) ≡ some v → (length (walked_bytes v) ≤ 1 + 3 * 0) × (length v.steps ≤ 0)
unfolding flat_map put_end
end_fits v e =
    let q : record { steps = []; attr = none } ≡ v = cc in
    subst (λ (v : Walked). (length (walked_bytes v) ≤ 1 + 3 * 0) × (length v.steps ≤ 0)) q (omega arith, omega arith)

walk-fits : (field : Bool) (t : Text) (ts : List Text) (w : Walked) → walk_parts field (t ∷ ts) ≡ some w → Fits w (total (t ∷ ts))
unfolding walk_parts
walk-fits field t [] w e =
    one-fits field (is_nil []) (as_part t) (some (record { steps = []; attr = none })) w (length t) 0 (part-short t) end_fits e
walk-fits field t (u ∷ us) w e =
    one-fits field (is_nil (u ∷ us)) (as_part t) (walk_parts field (u ∷ us)) w (length t) (total (u ∷ us)) (part-short t)
    (λ v q. let g = walk-fits field u us v q in (omega (arith, g.bytes), omega (arith, g.steps))) e

-- ---- the pieces of a text, each with a separator, are the text with one more

front-total : (x : ℕ) (r : List Text) (n : ℕ) → total r ≡ n + 1 → total (on_front x r) ≡ suc n + 1
unfolding on_front
front-total x [] n e = absurd (omega arith)
front-total x (t ∷ ts) n e = omega arith

split-total : (c : ℕ) (s : Text) → total (split_at c s) ≡ length s + 1
unfolding split_at
split-total c [] = refl
split-total c (x ∷ xs) = by (eqb x c) (split-total c xs)
  where
    by : (b : Bool) → total (split_at c xs) ≡ length xs + 1 → total (cond b ([] ∷ split_at c xs) (on_front x (split_at c xs))) ≡ suc (length xs) + 1
    by true e = omega arith
    by false e = front-total x (split_at c xs) (length xs) e

pub walk-short : (field : Bool) (s : Text) (w : Walked) → walk_parts field (split_at 47 s) ≡ some w → Fits w (length s + 1)
walk-short field s w e =
    let p = split-some 47 s in
    let q : total (p.0 ∷ p.1) ≡ length s + 1 = ap total (sym p.2) ∙ split-total 47 s in
    subst (λ (n : ℕ). Fits w n) q (walk-fits field p.0 p.1 w (ap (walk_parts field) (sym p.2) ∙ e))

-- ---- an alternative

marked-short : (descendant field : Bool) (s : Text) (a : WrittenAlt) → marked descendant (walk_parts field (split_at 47 s)) ≡ some a → length (put_alt a) ≤ 3 * (length s + 1)
unfolding marked put_alt
marked-short d field s a e =
    let v = (map-eq-some_iff (λ v. record { descendant = d; steps = v.steps; attr = v.attr }) (walk_parts field (split_at 47 s))).0 e in
    let f = walk-short field s v.0 v.1 in
    subst (λ (a : WrittenAlt). length (put_alt a) ≤ 3 * (length s + 1)) v.2 (omega (arith, f.bytes))

pub alt-short : (field : Bool) (s : Text) (a : WrittenAlt) → read_alt field s ≡ some a → length (put_alt a) ≤ 3 * (length s + 1)
unfolding read_alt
alt-short field s a e = by (behind (46 ∷ 47 ∷ 47 ∷ []) s) (behind-less (46 ∷ 47 ∷ 47 ∷ []) s) e
  where
    by : (o : Option Text) → ((u : Text) → o ≡ some u → length u ≤ length s) → alt_of field s o ≡ some a → length (put_alt a) ≤ 3 * (length s + 1)
    by none f q = unfold alt_of in marked-short false field s a q
    by (some u) f q = unfold alt_of in (let k = f u refl in let n = marked-short true field u a q in omega arith)

-- nothing is no alternative
pub alt-some : (field : Bool) (s : Text) (a : WrittenAlt) → read_alt field s ≡ some a → 1 ≤ length s
unfolding read_alt alt_of behind marked split_at walk_parts walk_part as_part part_of or_else element_part same on_some name_test starts_well
alt-some field [] a e = let z : ◌≡◌ {A = ℕ} 0 1 = cc in absurd (omega arith)
alt-some field (x ∷ xs) a e = omega arith

-- ---- all of a path

alts-short : (field : Bool) (ts : List Text) (alts : List WrittenAlt) → every (read_alt field) ts ≡ some alts → length (flat_map put_alt alts) ≤ 3 * total ts
unfolding every flat_map
alts-short field [] alts e = let q : [] ≡ alts = cc in rw (← q) (omega arith)
alts-short field (t ∷ ts) alts e =
    let v = some-parts (read_alt field t) (λ b. map (λ l. b ∷ l) (every (read_alt field) ts)) alts e in
    let u = (map-eq-some_iff (λ l. v.0 ∷ l) (every (read_alt field) ts)).0 v.2 in
    let n = alt-short field t v.0 v.1 in
    let m = alts-short field ts u.0 u.1 in
    let k = length-append (put_alt v.0) (flat_map put_alt u.0) in
    subst (λ (l : List WrittenAlt). length (flat_map put_alt l) ≤ 3 * total (t ∷ ts)) u.2 (omega arith)

passing-short : (test : ℕ → Bool) (cs : List ℕ) → length (flat_map encode (passing test cs)) ≤ length (flat_map encode cs)
unfolding passing flat_map
passing-short test [] = omega arith
passing-short test (c ∷ cs) = by (test c) (passing-short test cs)
  where
    by : (b : Bool) → length (flat_map encode (passing test cs)) ≤ length (flat_map encode cs)
        → length (flat_map encode (only_if b (c ∷ []) ++ passing test cs)) ≤ length (encode c ++ flat_map encode cs)
    by true h = unfold only_if flat_map in (let n = length-append (encode c) (flat_map encode cs) in let m = length-append (encode c) (flat_map encode (passing test cs)) in omega arith)
    by false h = unfold only_if flat_map in (let n = length-append (encode c) (flat_map encode cs) in omega arith)

pub bare-short : (t : Text) → utf8 t ≡ true → length (without_space t) ≤ length t
unfolding utf8 without_space
bare-short t u =
    let e : flat_map encode (decode t) ≡ t = same-eq (flat_map encode (decode t)) t (and_parts (all scalar (decode t)) (same (flat_map encode (decode t)) t) u).1 in
    let n = passing-short (λ c. not (xml_space c)) (decode t) in
    let m = ap length e in
    omega arith

pub entries-short : (field : Bool) (t : Text) (alts : List WrittenAlt) → read_path field t ≡ some alts → length (put_path alts) ≤ 3 * (length t + 1) + 1
unfolding read_path put_path
entries-short field t alts e = by (utf8 t) refl e
  where
    by : (b : Bool) → utf8 t ≡ b → cond b (every (read_alt field) (split_at 124 (without_space t))) none ≡ some alts → length (put_path alts) ≤ 3 * (length t + 1) + 1
    by true u q =
        let n = alts-short field (split_at 124 (without_space t)) alts q in
        let m = split-total 124 (without_space t) in
        let k = bare-short t u in
        unfold put_path in omega arith
    by false u q = let z : ◌≡◌ {A = ℕ} 0 1 = cc in absurd (omega arith)
