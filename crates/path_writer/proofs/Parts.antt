-- The parts between slashes, each written with a slash behind it. Written so, the parts of a text are those of its
-- first piece and then those of the rest; and with the last slash taken off they are the respelled parts, or none was
-- written.
-- Assumes nothing.
use Prim.Native.Nat.{ℕ, zero, suc, ◌+◌, ◌-◌, ◌≤◌}
use native.Mathlib.Omega.{arith}
use denote.Ref.{Bor}
use lib.ListN.{length, take, length-append}
use lib.Seq.{length-take-le, take-append_seam, take-take}
use mathlib.Core.Path.{◌≡◌, refl, ap, sym, ◌∙◌, subst}
use mathlib.Core.List.{List, [], ◌∷◌, ◌++◌, flat_map, append-nil, append_assoc}
use Rattle.lists.proofs.Lists.{flat_map-append}
use Rattle.texts.specs.Texts.{Text}
use Rattle.paths.specs.Reading as reading
use Rattle.paths.specs.Reading.{attribute_part, self_part, child_part, split_at, as_part}
use Rattle.records.specs.Readers.{Bytes}
use Rattle.output_stores.specs.Stores.{Appended}
use Rattle.canonical.specs.Canonical.{or_self, joined}
use Rattle.canonical.specs.Respelling.{respell_part, respelt_parts, respell_parts}
use Rattle.canonical.proofs.Weights.{PartShort, part-short}
use Rattle.path_pieces.specs.declared.Part.{Part}
use Rattle.path_pieces.specs.declared.Part.TheVariants.{Attribute, Itself, Child}
use Rattle.path_pieces.specs.Pieces.{CutAt, part_by, tested, PartOf}
use Rattle.path_writer.specs.Spelling.{slashed, slashed_parts, Adds}
use Rattle.path_writer.proofs.Adding.{adds-nothing, adds-appended, adds_then}

-- ---- one part

module _ (t : Text) (r : Part) (g : PartOf t r) (l : Bytes) (at : ℕ) where
  -- the text that its case stands for
  told : (q : Part) → r ≡ q → slashed (respell_part (part_by q)) ≡ slashed (respell_part (as_part t))
  told q e = ap (λ (p : reading.Part). slashed (respell_part p)) (sym (g.reads ∙ ap part_by e))

  module _ (u : Bor Text) (e : r ≡ Attribute u) (n : ℕ) (m : Bytes) (a : Adds l at (64 ∷ []) n m) where
    -- what is left to write of it has room where the part had
    pub attribute-room : at + (length t + 1) ≤ length l → n + (length u.now + 1) ≤ length m
    attribute-room h =
        let s = subst (PartShort t) (g.reads ∙ ap part_by e) (part-short t) in
        omega (arith, a.ends, a.keeps)

    pub attribute-added : (p : ℕ) (o : Bytes) → Adds m n (u.now ++ (47 ∷ [])) p o → Adds l at (slashed (respell_part (as_part t))) p o
    attribute-added p o b =
        let i : (64 ∷ []) ++ (u.now ++ (47 ∷ [])) ≡ slashed (respell_part (attribute_part u.now)) =
        unfold slashed respell_part flat_map in sym (append-nil (64 ∷ (u.now ++ (47 ∷ [])))) in
        subst (λ (vs : Text). Adds l at vs p o) (i ∙ told (Attribute u) e) (adds_then l m o at n p (64 ∷ []) (u.now ++ (47 ∷ [])) a b)

  pub itself-added : r ≡ Itself → Adds l at (slashed (respell_part (as_part t))) at l
  itself-added e =
      let i : [] ≡ slashed (respell_part self_part) = unfold slashed respell_part flat_map in refl in
      subst (λ (vs : Text). Adds l at vs at l) (i ∙ told Itself e) (adds-nothing l at)

  module _ (u : Bor Text) (e : r ≡ Child u) where
    pub child-added : (p : ℕ) (o : Bytes) → Adds l at (u.now ++ (47 ∷ [])) p o → Adds l at (slashed (respell_part (as_part t))) p o
    child-added p o a =
        let i : u.now ++ (47 ∷ []) ≡ slashed (respell_part (child_part u.now)) =
        unfold slashed respell_part flat_map in sym (append-nil (u.now ++ (47 ∷ []))) in
        subst (λ (vs : Text). Adds l at vs p o) (i ∙ told (Child u) e) a

-- with its slash a part is at most one byte longer
slashed-short : (t : Text) → length (slashed (respell_part (as_part t))) ≤ length t + 1
slashed-short t = by (as_part t) (part-short t)
  where
    one : (u : Text) → length (slashed (u ∷ [])) ≡ length u + 1
    one u =
        let e : slashed (u ∷ []) ≡ u ++ (47 ∷ []) = unfold slashed flat_map in append-nil (u ++ (47 ∷ [])) in
        ap (λ (z : Text). length z) e ∙ length-append u (47 ∷ [])

    by : (p : reading.Part) → PartShort t p → length (slashed (respell_part p)) ≤ length t + 1
    by (attribute_part u) h = unfold respell_part in (let e = one (64 ∷ u) in omega arith)
    by self_part h = unfold respell_part slashed flat_map in (omega arith)
    by (child_part u) h = unfold respell_part in (let e = one u in omega arith)

-- ---- the parts, piece by piece

slashed-more : (s first behind : Text) → CutAt 47 s first behind → slashed_parts s ≡ slashed (respell_part (as_part first)) ++ slashed_parts behind
slashed-more s first behind c =
    ap (λ (ts : List Text). slashed (respelt_parts ts)) c.pieces
    ∙ (unfold slashed flat_map in flat_map-append (λ (t : Text). t ++ (47 ∷ [])) (respell_part (as_part first)) (respelt_parts (split_at 47 behind)))

slashed-last : (s : Text) → split_at 47 s ≡ s ∷ [] → slashed_parts s ≡ slashed (respell_part (as_part s))
slashed-last s e =
    ap (λ (ts : List Text). slashed (respelt_parts ts)) e
    ∙ (unfold flat_map in ap slashed (append-nil (respell_part (as_part s))))

-- ---- with the last slash taken off

slashed-none : (us : List Text) → length (slashed us) ≡ 0 → us ≡ []
unfolding slashed flat_map
slashed-none [] e = refl
slashed-none (u ∷ us) e =
    let a = length-append (u ++ (47 ∷ [])) (slashed us) in
    let b = length-append u (47 ∷ []) in
    absurd (omega arith)

slashed-joined : (u : Text) (us : List Text) → slashed (u ∷ us) ≡ joined 47 (u ∷ us) ++ (47 ∷ [])
unfolding joined slashed flat_map
slashed-joined u [] = append-nil (u ++ (47 ∷ []))
slashed-joined u (v ∷ us) =
    ap (λ (z : Text). (u ++ (47 ∷ [])) ++ z) (slashed-joined v us) ∙ append_assoc u (47 ∷ []) (joined 47 (v ∷ us) ++ (47 ∷ []))
    ∙ sym (append_assoc u (47 ∷ joined 47 (v ∷ us)) (47 ∷ []))

-- ---- the loop: what was written, and what is left

pub record Parting (s : Text) (l : Bytes) (start : ℕ) (m : Bytes) (rest : Text) (at : ℕ) : Type 0 where
  pub whole : take at m ++ slashed_parts rest ≡ take start l ++ slashed_parts s
  pub room : at + (length rest + 1) ≤ length l

module _ (s : Text) (l : Bytes) (start : ℕ) (m : Bytes) (rest : Text) (at : ℕ) (w : Parting s l start m rest at) (k : length m ≡ length l) where
  module _ (first behind : Text) (h : CutAt 47 rest first behind) where
    pub piece-room : at + (length first + 1) ≤ length m
    piece-room = omega (arith, w.room, h.sizes)

    pub parting-turn : (n : Bytes) (p : ℕ) → Adds m at (slashed (respell_part (as_part first))) p n → Parting s l start n behind p
    parting-turn n p a =
        let x : Text = slashed (respell_part (as_part first)) in
        let i = slashed-short first in
        record {
          whole = ap (λ (z : Bytes). z ++ slashed_parts behind) a.holds
              ∙ append_assoc (take at m) x (slashed_parts behind)
              ∙ ap (λ (z : Text). take at m ++ z) (sym (slashed-more rest first behind h))
              ∙ w.whole;
          room = omega (arith, w.room, h.sizes, a.ends);
        }

  module _ (h : split_at 47 rest ≡ rest ∷ []) where
    pub rest-room : at + (length rest + 1) ≤ length m
    rest-room = omega (arith, w.room)

    module _ (n : Bytes) (p : ℕ) (b : start + (length s + 1) ≤ length l) (a : Adds m at (slashed (respell_part (as_part rest))) p n) where
      long : length n ≡ length l
      long = a.keeps ∙ k

      ended : take p n ≡ take start l ++ slashed_parts s
      ended = a.holds ∙ ap (λ (z : Text). take at m ++ z) (sym (slashed-last rest h)) ∙ w.whole

      place : p ≡ start + length (slashed_parts s)
      place =
          let i = slashed-short rest in
          let q : length (take p n) ≡ p = length-take-le p n (omega (arith, a.ends, long, w.room)) in
          let x = ap (λ (z : Bytes). length z) ended ∙ length-append (take start l) (slashed_parts s) in
          let y = length-take-le start l (omega arith) in
          omega arith

      -- no part was written
      none_left : p ≡ start → respelt_parts (split_at 47 s) ≡ []
      none_left e = let x = place in slashed-none (respelt_parts (split_at 47 s)) (omega arith)

      pub self-room : start + 1 ≤ length n
      self-room = omega (arith, b, long, w.room, a.ends)

      pub self-added : p ≡ start → (o : Bytes) (q : ℕ) → Appended n start (46 ∷ []) q o → Adds l start (respell_parts s) q o
      self-added e o q c =
          let none = none_left e in
          let x : respell_parts s ≡ 46 ∷ [] = unfold respell_parts in (ap (λ (us : List Text). joined 47 (or_self us)) none ∙ (unfold or_self joined in refl)) in
          let d = adds-appended n o start q (46 ∷ []) self-room c in
          let y : take start n ≡ take start l =
          ap (λ (i : ℕ). take i n) (sym e) ∙ ended ∙ ap (λ (us : List Text). take start l ++ slashed us) none ∙ (unfold slashed flat_map in append-nil (take start l)) in
          subst (λ (vs : Text). Adds l start vs q o) (sym x) (record { ends = d.ends; holds = d.holds ∙ ap (λ (z : Bytes). z ++ (46 ∷ [])) y; keeps = d.keeps ∙ long })

      pub last-slash : (p ≡ start → ⊥) → 1 ≤ p
      last-slash f = let x = place in by p f x
        where
          by : (i : ℕ) → (i ≡ start → ⊥) → i ≡ start + length (slashed_parts s) → 1 ≤ i
          by zero f x = absurd (f (omega arith))
          by (suc i) f x = omega arith

      pub parts_added : (p ≡ start → ⊥) → Adds l start (respell_parts s) (p - 1) n
      parts_added f = by (respelt_parts (split_at 47 s)) refl
        where
          by : (us : List Text) → respelt_parts (split_at 47 s) ≡ us → Adds l start (respell_parts s) (p - 1) n
          by [] e = absurd (f (place ∙ ap (λ (us : List Text). start + length (slashed us)) e ∙ (unfold slashed flat_map in omega arith)))
          by (u ∷ us) e =
              let j : Text = joined 47 (u ∷ us) in
              let x : respell_parts s ≡ j = unfold respell_parts in (ap (λ (ts : List Text). joined 47 (or_self ts)) e ∙ (unfold or_self in refl)) in
              let y : slashed_parts s ≡ j ++ (47 ∷ []) = ap slashed e ∙ slashed-joined u us in
              let z = ap (λ (t : Text). length t) y ∙ length-append j (47 ∷ []) in
              let v = length-append (take start l) j in
              let o = length-take-le start l (omega arith) in
              let q = place in
              let g : p - 1 ≡ length (take start l ++ j) = omega arith in
              subst (λ (vs : Text). Adds l start vs (p - 1) n) (sym x)
              (record {
                ends = omega arith;
                holds = sym (take-take (p - 1) p n (omega arith)) ∙ ap (λ (t : Bytes). take (p - 1) t) (ended ∙ ap (λ (t : Text). take start l ++ t) y ∙ sym (append_assoc (take start l) j (47 ∷ [])))
                    ∙ ap (λ (i : ℕ). take i ((take start l ++ j) ++ (47 ∷ []))) g
                    ∙ take-append_seam (take start l ++ j) (47 ∷ []);
                keeps = long;
              })
