-- The canonical text is within the limits where the path is. Bytes, `|` and `/` are counted by one law over weights
-- of bytes: the respelled text of any bytes weighs no more than they do, where `@`, which stands for `attribute::`,
-- weighs no more than `a`. Each part is counted with a slash behind it, and each alternative with a bar: so a part
-- that is left out takes its slash with it, and joining is adding.
-- Assumes nothing.
use Prim.Native.Nat.{ℕ, ◌+◌, ◌≤◌}
use native.Mathlib.Omega.{arith}
use lib.Dec.{eqb, ltb}
use lib.ListN.{length}
use borrow.Author.Tests.{ltb-false, le-ltb}
use mathlib.Core.Path.{◌≡◌, refl, ap, sym, ◌∙◌}
use mathlib.Core.Bool.{Bool, true, false, cond, not, ◌||◌, false≢true}
use mathlib.Core.List.{List, [], ◌∷◌, ◌++◌, map, flat_map}
use mathlib.Core.Option.{Option, none, some}
use Rattle.std.proofs.lemmas.Bool.{and_parts, or_parts}
use Rattle.lists.specs.Lists.{all, only_if, passing}
use Rattle.texts.specs.Texts.{Text, same}
use Rattle.texts.proofs.Sameness.{same-eq}
use Rattle.utf8.specs.Utf8.{scalar, encode, decode, utf8}
use Rattle.characters.specs.Spaces.{xml_space}
use Rattle.paths.specs.Reading.{WrittenAlt, Part, attribute_part, self_part, child_part, or_else, is_nil, split_at, behind, without_space, attribute_axis, child_axis, element_part, part_of, as_part, every, read_alt, read_path}
use Rattle.paths.proofs.Sure.{Sure, sure-else, sure-if}
use Rattle.reasons.proofs.Walks.{no-some}
use Rattle.records.specs.Records.{count_of, long_path}
use Rattle.passed.proofs.Cut.{split-some, behind-is}
use Rattle.canonical.specs.Canonical.{or_self, joined, canonical}
use Rattle.canonical.specs.Respelling.{respell_part, respelt_parts, respell_parts, respell_marked, respell_alt, respelled}
use Rattle.canonical.specs.Writing.{path_over}
use Rattle.canonical.proofs.Again.{split-joined}
use Rattle.canonical.proofs.Respelling.{respelled-is}

unfoldable pub weigh : (ℕ → ℕ) → Text → ℕ
weigh w [] = 0
weigh w (b ∷ t) = w b + weigh w t

-- texts, each with the byte c behind it
unfoldable pub weighs : (ℕ → ℕ) → (c : ℕ) → List Text → ℕ
weighs w c [] = 0
weighs w c (t ∷ ts) = weigh w t + (w c + weighs w c ts)

module _ (w : ℕ → ℕ) where
  weigh-append : (s t : Text) → weigh w (s ++ t) ≡ weigh w s + weigh w t
  unfolding weigh
  weigh-append [] t = omega arith
  weigh-append (b ∷ s) t = let h = weigh-append s t in omega arith

  module _ (c : ℕ) where
    weighs-append : (ts us : List Text) → weighs w c (ts ++ us) ≡ weighs w c ts + weighs w c us
    unfolding weighs
    weighs-append [] us = omega arith
    weighs-append (t ∷ ts) us = let h = weighs-append ts us in omega arith

    -- joined there is one byte c less
    weighs-joined : (ts : List Text) → is_nil ts ≡ false → weigh w (joined c ts) + w c ≡ weighs w c ts
    unfolding joined weigh weighs
    weighs-joined [] h = unfold is_nil in absurd (false≢true (sym h))
    weighs-joined (t ∷ []) h = omega arith
    weighs-joined (t ∷ u ∷ ts) h =
        let i = weighs-joined (u ∷ ts) (unfold is_nil in refl) in
        let j = weigh-append t (c ∷ joined c (u ∷ ts)) in
        omega arith

    weighs-pieces : (t : Text) → weighs w c (split_at c t) ≡ weigh w t + w c
    weighs-pieces t = sym (weighs-joined (split_at c t) (split-some c t)) ∙ ap (λ (s : Text). weigh w s + w c) (split-joined c t)

  -- ---- a part

  abbrev pub PartLight : Text → Part → Type 0
  PartLight t (attribute_part u) = w 64 + weigh w u ≤ weigh w t
  PartLight t self_part = t ≡ 46 ∷ []
  PartLight t (child_part u) = weigh w u ≤ weigh w t

  module _ (light : w 64 ≤ w 97) where
    abbrev Lights : Text → Text → Type 0
    Lights t u = w 64 + weigh w u ≤ weigh w t

    at-light : (t u : Text) → t ≡ 64 ∷ u → Lights t u
    unfolding weigh
    at-light t u e = rw e (omega arith)

    axis-light : (t u : Text) → t ≡ attribute_axis ++ u → Lights t u
    unfolding weigh
    axis-light t u e = rw e (omega arith)

    child-light : (t u : Text) → t ≡ child_axis ++ u → weigh w u ≤ weigh w t
    unfolding weigh
    child-light t u e = rw e (omega arith)

    pub part-light : (t : Text) → PartLight t (as_part t)
    unfolding as_part
    part-light t =
        by (or_else (behind (64 ∷ []) t) (behind attribute_axis t))
        (sure-else (Lights t) (behind (64 ∷ []) t) (behind attribute_axis t)
        (sure-if (Lights t) (behind (64 ∷ []) t) (λ u e. at-light t u (behind-is (64 ∷ []) t e)))
        (sure-if (Lights t) (behind attribute_axis t) (λ u e. axis-light t u (behind-is attribute_axis t e))))
      where
        child : (o : Option Text) → Sure (λ (u : Text). weigh w u ≤ weigh w t) o → PartLight t (element_part t o)
        child none x = unfold element_part in (omega arith)
        child (some u) x = unfold element_part in x

        self : (s : Bool) → same t (46 ∷ []) ≡ s → PartLight t (cond s self_part (element_part t (behind child_axis t)))
        self true e = same-eq t (46 ∷ []) e
        self false e = child (behind child_axis t) (sure-if (λ (u : Text). weigh w u ≤ weigh w t) (behind child_axis t) (λ u q. child-light t u (behind-is child_axis t q)))

        by : (o : Option Text) → Sure (Lights t) o → PartLight t (part_of t o)
        by none x = unfold part_of in self (same t (46 ∷ [])) refl
        by (some u) x = unfold part_of in x

    respelt-light : (t : Text) (p : Part) → PartLight t p → weighs w 47 (respell_part p) ≤ weigh w t + w 47
    unfolding weighs weigh respell_part
    respelt-light t (attribute_part u) h = omega arith
    respelt-light t self_part h = omega arith
    respelt-light t (child_part u) h = omega arith

    parts-light : (ts : List Text) → weighs w 47 (respelt_parts ts) ≤ weighs w 47 ts
    unfolding weighs flat_map
    parts-light [] = omega arith
    parts-light (t ∷ ts) =
        let h = respelt-light t (as_part t) (part-light t) in
        let i = weighs-append 47 (respell_part (as_part t)) (respelt_parts ts) in
        let j = parts-light ts in
        omega arith

    -- where nothing is written for the parts, the first of them is `.`
    self-light : (ts : List Text) → is_nil ts ≡ false → respelt_parts ts ≡ [] → w 46 + w 47 ≤ weighs w 47 ts
    unfolding weighs flat_map
    self-light [] h e = unfold is_nil in absurd (false≢true (sym h))
    self-light (t ∷ ts) h e = by (as_part t) (part-light t) e
      where
        apart : {u : Text} {us : List Text} → u ∷ us ≡ [] → ⊥
        apart q = let z : ◌≡◌ {A = ℕ} 0 1 = cc in absurd (omega arith)

        by : (p : Part) → PartLight t p → respell_part p ++ respelt_parts ts ≡ [] → w 46 + w 47 ≤ weigh w t + (w 47 + weighs w 47 ts)
        by (attribute_part u) l q = unfold respell_part in absurd (apart q)
        by self_part l q = let i : weigh w t ≡ w 46 + 0 = ap (weigh w) l ∙ (unfold weigh in refl) in omega arith
        by (child_part u) l q = unfold respell_part in absurd (apart q)

    walk-light : (t : Text) → weigh w (respell_parts t) ≤ weigh w t
    unfolding respell_parts
    walk-light t = by (respelt_parts (split_at 47 t)) refl
      where
        pieces : weighs w 47 (split_at 47 t) ≡ weigh w t + w 47
        pieces = weighs-pieces 47 t

        by : (us : List Text) → respelt_parts (split_at 47 t) ≡ us → weigh w (joined 47 (or_self us)) ≤ weigh w t
        by [] e =
            unfold or_self joined weigh in
            (let h = self-light (split_at 47 t) (split-some 47 t) e in
            let p = pieces in
            omega arith)
        by (u ∷ us) e =
            unfold or_self in
            (let h = parts-light (split_at 47 t) in
            let i = ap (weighs w 47) e in
            let j = weighs-joined 47 (u ∷ us) (unfold is_nil in refl) in
            let p = pieces in
            omega arith)

    -- ---- an alternative, and all of them

    marked-light : (t : Text) (o : Option Text) → behind (46 ∷ 47 ∷ 47 ∷ []) t ≡ o → weigh w (respell_marked t o) ≤ weigh w t
    unfolding respell_marked
    marked-light t none e = walk-light t
    marked-light t (some u) e =
        unfold weigh in
        (let h = walk-light u in
        let i = ap (weigh w) (behind-is (46 ∷ 47 ∷ 47 ∷ []) t e) in
        omega arith)

    pub alt-light : (t : Text) → weigh w (respell_alt t) ≤ weigh w t
    unfolding respell_alt
    alt-light t = marked-light t (behind (46 ∷ 47 ∷ 47 ∷ []) t) refl

    alts-light : (ts : List Text) → weighs w 124 (map respell_alt ts) ≤ weighs w 124 ts
    unfolding weighs
    alts-light [] = omega arith
    alts-light (t ∷ ts) = let h = alt-light t in let i = alts-light ts in omega arith

    map-some : (ts : List Text) → is_nil ts ≡ false → is_nil (map respell_alt ts) ≡ false
    unfolding is_nil
    map-some [] h = h
    map-some (t ∷ ts) h = refl

    -- ANY BYTES, RESPELLED, WEIGH NO MORE.
    pub respelled-light : (t : Text) → weigh w (respelled t) ≤ weigh w t
    unfolding respelled
    respelled-light t =
        let h = alts-light (split_at 124 t) in
        let i = weighs-joined 124 (map respell_alt (split_at 124 t)) (map-some (split_at 124 t) (split-some 124 t)) in
        let j = weighs-pieces 124 t in
        omega arith

    -- ---- white space that is dropped

    space-light : (ps : List ℕ) → weigh w (flat_map encode (passing (λ c. not (xml_space c)) ps)) ≤ weigh w (flat_map encode ps)
    unfolding passing flat_map
    space-light [] = omega arith
    space-light (c ∷ ps) = by (not (xml_space c)) (space-light ps)
      where
        by : (b : Bool) → weigh w (flat_map encode (passing (λ c. not (xml_space c)) ps)) ≤ weigh w (flat_map encode ps)
            → weigh w (flat_map encode (only_if b (c ∷ []) ++ passing (λ c. not (xml_space c)) ps)) ≤ weigh w (encode c ++ flat_map encode ps)
        by true h =
            unfold only_if flat_map in
            (let i = weigh-append (encode c) (flat_map encode (passing (λ c. not (xml_space c)) ps)) in
            let j = weigh-append (encode c) (flat_map encode ps) in
            omega arith)
        by false h = unfold only_if in (let j = weigh-append (encode c) (flat_map encode ps) in omega arith)

    text-light : (t : Text) → utf8 t ≡ true → weigh w (without_space t) ≤ weigh w t
    unfolding without_space utf8
    text-light t u =
        let p = and_parts (all scalar (decode t)) (same (flat_map encode (decode t)) t) u in
        let h = space-light (decode t) in
        let e : weigh w (flat_map encode (decode t)) ≡ weigh w t = ap (weigh w) (same-eq (flat_map encode (decode t)) t p.1) in
        omega arith

    -- a path that is read is UTF-8
    read-utf8 : (field : Bool) (t : Text) (alts : List WrittenAlt) → read_path field t ≡ some alts → utf8 t ≡ true
    unfolding read_path
    read-utf8 field t alts = by (utf8 t)
      where
        by : (b : Bool) → cond b (every (read_alt field) (split_at 124 (without_space t))) none ≡ some alts → b ≡ true
        by true e = refl
        by false e = no-some (sym e)

    -- THE TEXT WEIGHS NO MORE THAN THE PATH.
    pub canonical-light : (field : Bool) (t : Text) (alts : List WrittenAlt) → read_path field t ≡ some alts → weigh w (canonical alts) ≤ weigh w t
    canonical-light field t alts e =
        let h = respelled-light (without_space t) in
        let i = text-light t (read-utf8 field t alts e) in
        let j = ap (weigh w) (respelled-is field t alts e) in
        omega arith

-- ---- bytes and marks

one_each : (t : Text) → weigh (λ b. 1) t ≡ length t
unfolding weigh
one_each [] = refl
one_each (b ∷ t) = let h = one_each t in omega arith

marks-each : (c : ℕ) (t : Text) → weigh (λ b. cond (eqb b c) 1 0) t ≡ count_of c t
unfolding weigh count_of passing
marks-each c [] = refl
marks-each c (b ∷ t) = by (eqb b c) (marks-each c t)
  where
    by : (x : Bool) → weigh (λ b. cond (eqb b c) 1 0) t ≡ length (passing (λ x. eqb x c) t)
        → cond x 1 0 + weigh (λ b. cond (eqb b c) 1 0) t ≡ length (only_if x (b ∷ []) ++ passing (λ x. eqb x c) t)
    by true h = unfold only_if in omega arith
    by false h = unfold only_if in omega arith

-- no alternative gets longer, whatever its bytes
pub alt-short : (t : Text) → length (respell_alt t) ≤ length t
alt-short t =
    let h = alt-light (λ b. 1) (omega arith) t in
    let i = one_each t in
    let j = one_each (respell_alt t) in
    omega arith

-- neither does a part, `@` counted
abbrev pub PartShort : Text → Part → Type 0
PartShort t (attribute_part u) = 1 + length u ≤ length t
PartShort t self_part = t ≡ 46 ∷ []
PartShort t (child_part u) = length u ≤ length t

pub part-short : (t : Text) → PartShort t (as_part t)
part-short t = by (as_part t) (part-light (λ b. 1) (omega arith) t)
  where
    by : (p : Part) → PartLight (λ b. 1) t p → PartShort t p
    by (attribute_part u) h = let i = one_each t in let j = one_each u in omega arith
    by self_part h = h
    by (child_part u) h = let i = one_each t in let j = one_each u in omega arith

module _ (field : Bool) (t : Text) (alts : List WrittenAlt) (e : read_path field t ≡ some alts) where
  -- IT IS NO LONGER THAN THE PATH.
  pub canonical-short : length (canonical alts) ≤ length t
  canonical-short =
      let h = canonical-light (λ b. 1) (omega arith) field t alts e in
      let i = one_each t in
      let j = one_each (canonical alts) in
      omega arith

  marks-few : (c : ℕ) → cond (eqb 64 c) 1 0 ≤ cond (eqb 97 c) 1 0 → count_of c (canonical alts) ≤ count_of c t
  marks-few c l =
      let h = canonical-light (λ b. cond (eqb b c) 1 0) l field t alts e in
      let i = marks-each c t in
      let j = marks-each c (canonical alts) in
      omega arith

  -- WHERE THE PATH IS WITHIN THE LIMITS IT IS.
  pub canonical-within : path_over t ≡ false → path_over (canonical alts) ≡ false
  unfolding path_over long_path
  canonical-within h =
      let p = or_parts (ltb 255 (length t)) (ltb 7 (count_of 124 t) || ltb 16 (count_of 47 t)) h in
      let q = or_parts (ltb 7 (count_of 124 t)) (ltb 16 (count_of 47 t)) p.1 in
      let a = ltb-false 255 (length t) p.0 in
      let b = ltb-false 7 (count_of 124 t) q.0 in
      let c = ltb-false 16 (count_of 47 t) q.1 in
      let i = canonical-short in
      let j = marks-few 124 (omega arith) in
      let k = marks-few 47 (omega arith) in
      let x : length (canonical alts) ≤ 255 = omega arith in
      let y : count_of 124 (canonical alts) ≤ 7 = omega arith in
      let z : count_of 47 (canonical alts) ≤ 16 = omega arith in
      rw (le-ltb 255 (length (canonical alts)) x, le-ltb 7 (count_of 124 (canonical alts)) y, le-ltb 16 (count_of 47 (canonical alts)) z)
