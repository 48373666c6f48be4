-- The pieces of a text at a byte as the library cuts it, by induction on the text; so the words between its spaces, and
-- whether a prefix is one of them, or `xml`.
-- Assumes nothing.
use Prim.Native.Nat.{ℕ}
use lib.Dec.{eqb}
use mathlib.Core.Path.{◌≡◌, refl, ap, sym, ◌∙◌}
use mathlib.Core.Bool.{Bool, true, false, cond, ◌||◌}
use mathlib.Core.List.{List, [], ◌∷◌, map}
use Rattle.std.specs.List.{list_any, slice_split, onto_first}
use Rattle.std.proofs.lemmas.List.Splits.{slice_split-cons_yes, slice_split-cons_no}
use Rattle.texts.specs.Texts.{Text, same}
use Rattle.utf8.specs.Utf8.{size_of, code_of, decode_from, decode}
use Rattle.grammar.specs.Tokens.{Points}
use Rattle.grammar.specs.Paths.{xml}
use Rattle.reasons.specs.Reasons.{declares, on_front, split_at}
use Rattle.prefixes.specs.Prefixes.{words_of}

-- ---- the words of a text

-- the library cuts as the definition does
pub pieces : (d : ℕ) (s : List ℕ) → slice_split (λ b. eqb b d) s ≡ split_at d s
unfolding split_at on_front
pieces d [] = refl
pieces d (b ∷ s) = by (eqb b d) refl (pieces d s)
  where
    front_on : (x : ℕ) (ps : List (List ℕ)) → onto_first x ps ≡ on_front x ps
    front_on x [] = refl
    front_on x (p ∷ ps) = refl

    by : (t : Bool) → eqb b d ≡ t → slice_split (λ x. eqb x d) s ≡ split_at d s → slice_split (λ x. eqb x d) (b ∷ s) ≡ cond t ([] ∷ split_at d s) (on_front b (split_at d s))
    by true e rec = slice_split-cons_yes (λ x. eqb x d) b s e ∙ ap (λ (ps : List (List ℕ)). [] ∷ ps) rec
    by false e rec =
        let f = front_on b (slice_split (λ x. eqb x d) s) in
        slice_split-cons_no (λ x. eqb x d) b s e ∙ f ∙ ap (on_front b) rec

-- a prefix is declared if some word spells it
pub some-spells : (p : Points) (ws : List Text) → list_any (λ w. same p (decode w)) ws ≡ declares (map decode ws) p
unfolding declares
some-spells p [] = refl
some-spells p (w ∷ ws) = ap (λ (b : Bool). same p (decode w) || b) (some-spells p ws)

pub words-listed : (p : Points) (s : Text) → list_any (λ w. same p (decode w)) (slice_split (λ b. eqb b 32) s) ≡ declares (words_of s) p
unfolding words_of
words-listed p s = ap (list_any (λ w. same p (decode w))) (pieces 32 s) ∙ some-spells p (split_at 32 s)

-- ---- whether a prefix is one of the words

declares-here : (p w : Points) (ds : List Points) → same p w ≡ true → declares (w ∷ ds) p ≡ true
unfolding declares
declares-here p w ds h = rw h

declares-on : (p w : Points) (ds : List Points) → same p w ≡ false → declares (w ∷ ds) p ≡ declares ds p
unfolding declares
declares-on p w ds h = rw h

-- ---- `xml`, which needs no declaration

xml-read : decode (0x78 ∷ 0x6D ∷ 0x6C ∷ []) ≡ xml
unfolding decode decode_from code_of size_of
xml-read = refl

module _ (p : Points) (ds : List Points) (r : Bool) (e : r ≡ same p (decode (0x78 ∷ 0x6D ∷ 0x6C ∷ []))) where
  xml-same : same p xml ≡ r
  xml-same = ap (same p) (sym xml-read) ∙ sym e

  pub xml-declared : r ≡ true → true ≡ declares (xml ∷ ds) p
  xml-declared h = sym (declares-here p xml ds (xml-same ∙ h))

  pub other-declared : r ≡ false → declares ds p ≡ declares (xml ∷ ds) p
  other-declared h = sym (declares-on p xml ds (xml-same ∙ h))
