-- Bare texts: the bytes of code points that may be encoded and are no white space. They read as they stand; what the
-- reader drops white space from is one, and so is every piece of a bare text between bytes of ASCII, and what stands
-- behind bytes of ASCII. By induction over the code points.
-- Assumes nothing.
use Prim.Native.Nat.{ℕ, ◌≤◌, ◌<◌}
use native.Mathlib.Omega.{arith}
use lib.Dec.{eqb}
use borrow.Author.Tests.{eqb-true, eqb-false, ne_eqb, eq-eqb, not-true}
use mathlib.Core.Path.{◌≡◌, refl, ap, sym, ◌∙◌, subst}
use mathlib.Core.Bool.{Bool, true, false, not}
use mathlib.Core.List.{List, [], ◌∷◌, ◌++◌, flat_map, append-nil}
use Rattle.std.proofs.lemmas.Bool.{and_parts}
use Rattle.lists.specs.Lists.{all, passing, All}
use Rattle.lists.proofs.Lists.{flat_map-append}
use Rattle.lists.proofs.Folds.{All-append, All-weaken, passing-all}
use Rattle.lists.proofs.Places.{each_of, All-passing}
use Rattle.texts.specs.Texts.{Text, same}
use Rattle.utf8.specs.Utf8.{scalar, encode, decode, utf8, Encodes}
use Rattle.utf8.specs.Utf8.Encodes.{nothing, next}
use Rattle.utf8.proofs.Encoding.{encode_one}
use Rattle.utf8.proofs.Exact.{encoded-passes}
use Rattle.characters.specs.Spaces.{xml_space}
use Rattle.paths.specs.Reading.{on_front, split_at, without_space}
use Rattle.passed.proofs.Names.{High, by-encoding}

-- a code point that may be encoded and is no white space
pub record Solid (c : ℕ) : Type 0 where
  pub may : scalar c ≡ true
  pub seen : xml_space c ≡ false

pub record Bare (t : Text) : Type 0 where
  pub points : List ℕ
  pub bytes : flat_map encode points ≡ t
  pub solid : All Solid points

-- ---- what is put together

pub bare-none : Bare []
unfolding flat_map
bare-none = record { points = []; bytes = refl; solid = tt }

pub bare-append : (s t : Text) → Bare s → Bare t → Bare (s ++ t)
bare-append s t a b =
    record {
      points = a.points ++ b.points;
      bytes = flat_map-append encode a.points b.points ∙ ap (λ (l : Text). l ++ flat_map encode b.points) a.bytes ∙ ap (λ (l : Text). s ++ l) b.bytes;
      solid = All-append Solid a.points b.points a.solid b.solid;
    }

pub bare-one : (c : ℕ) → c ≤ 0x7F → Solid c → Bare (c ∷ [])
unfolding flat_map
bare-one c h s = record { points = c ∷ []; bytes = rw (encode_one c h); solid = (s, tt) }

pub bare-cons : (c : ℕ) (t : Text) → c ≤ 0x7F → Solid c → Bare t → Bare (c ∷ t)
bare-cons c t h s b = bare-append (c ∷ []) t (bare-one c h s) b

-- ---- pieces between bytes of ASCII

abbrev Other : ℕ → ℕ → Type 0
Other d b = eqb b d ≡ false

other-bytes : (d c : ℕ) → d ≤ 0x7F → (c ≡ d → ⊥) → All (Other d) (encode c)
other-bytes d c h n = by-encoding (All (Other d)) c (λ l. (ne_eqb c d n, tt)) (λ l. high)
  where
    highs : (e : Text) → All (λ (x : ℕ). 128 ≤ x) e → All (Other d) e
    highs [] x = tt
    highs (b ∷ e) x = let k = x.0 in (ne_eqb b d (λ z. omega arith), highs e x.1)

    high : (e : Text) → High e → All (Other d) e
    high [] x = absurd x
    high (b ∷ e) x = highs (b ∷ e) x

-- all pieces bare, and there is a first
record Cut (d : ℕ) (s : Text) : Type 0 where
  first : Text
  others : List Text
  are : split_at d s ≡ first ∷ others
  bare : Bare first
  bares : All Bare others

-- other bytes go to the front of the first piece
cut-behind : (d : ℕ) (e s w : Text) (ws : List Text) → All (Other d) e → split_at d s ≡ w ∷ ws → split_at d (e ++ s) ≡ (e ++ w) ∷ ws
unfolding split_at on_front
cut-behind d [] s w ws a q = q
cut-behind d (b ∷ e) s w ws a q = rw (a.0, cut-behind d e s w ws a.1 q)

cut : (d : ℕ) → d ≤ 0x7F → (ps : List ℕ) → All Solid ps → Cut d (flat_map encode ps)
unfolding flat_map
cut d h [] a = record { first = []; others = []; are = unfold split_at in refl; bare = bare-none; bares = tt }
cut d h (c ∷ ps) a = by (eqb c d) refl (cut d h ps a.1)
  where
    by : (t : Bool) → eqb c d ≡ t → Cut d (flat_map encode ps) → Cut d (encode c ++ flat_map encode ps)
    by true e k =
        let i : c ≡ d = eqb-true c d e in
        record {
          first = [];
          others = k.first ∷ k.others;
          are = ap (λ (x : ℕ). split_at d (encode x ++ flat_map encode ps)) i ∙ ap (λ (l : Text). split_at d (l ++ flat_map encode ps)) (encode_one d h)
              ∙ (unfold split_at in rw (eq-eqb d d refl, k.are));
          bare = bare-none;
          bares = (k.bare, k.bares);
        }
    by false e k =
        record {
          first = encode c ++ k.first;
          others = k.others;
          are = cut-behind d (encode c) (flat_map encode ps) k.first k.others (other-bytes d c h (eqb-false c d e)) k.are;
          bare = bare-append (encode c) k.first (record { points = c ∷ []; bytes = one; solid = (a.0, tt) }) k.bare;
          bares = k.bares;
        }
      where
        one : flat_map encode (c ∷ []) ≡ encode c
        one = unfold flat_map in append-nil (encode c)

pub bare-pieces : (d : ℕ) → d ≤ 0x7F → (t : Text) → Bare t → All Bare (split_at d t)
bare-pieces d h t b =
    let k = cut d h b.points b.solid in
    subst (λ (s : Text). All Bare (split_at d s)) b.bytes (subst (All Bare) (sym k.are) (k.bare, k.bares))

-- ---- what stands behind bytes of ASCII

bare-tail : (b : ℕ) (u : Text) → b ≤ 0x7F → Bare (b ∷ u) → Bare u
bare-tail b u h k = by k.points k.bytes k.solid
  where
    by : (ps : List ℕ) → flat_map encode ps ≡ b ∷ u → All Solid ps → Bare u
    by [] e a = let z : ◌≡◌ {A = ℕ} 0 1 = unfold flat_map in cc in absurd (omega arith)
    by (c ∷ ps) e a = by-encoding (λ (w : Text). w ++ flat_map encode ps ≡ b ∷ u → Bare u) c low (λ l. high) (unfold flat_map in e)
      where
        low : c < 128 → c ∷ flat_map encode ps ≡ b ∷ u → Bare u
        low l q = record { points = ps; bytes = cc q; solid = a.1 }

        high : (w : Text) → High w → w ++ flat_map encode ps ≡ b ∷ u → Bare u
        high [] x q = absurd x
        high (y ∷ w) x q = let i : y ≡ b = cc q in let j = x.0 in absurd (omega arith)

pub bare-behind : (w u : Text) → All (λ (c : ℕ). c ≤ 0x7F) w → Bare (w ++ u) → Bare u
bare-behind [] u a b = b
bare-behind (c ∷ w) u a b = bare-behind w u a.1 (bare-tail c (w ++ u) a.0 b)

-- ---- a bare text is read as it stands

encodes : (ps : List ℕ) → All Solid ps → Encodes (flat_map encode ps) ps
unfolding flat_map
encodes [] a = nothing
encodes (c ∷ ps) a = next a.0.may (encodes ps a.1)

pub bare-text : (t : Text) → Bare t → (utf8 t ≡ true) × (without_space t ≡ t)
unfolding without_space
bare-text t b =
    let e = encoded-passes (subst (λ (s : Text). Encodes s b.points) b.bytes (encodes b.points b.solid)) in (
      e.0,
      ap (λ (l : List ℕ). flat_map encode (passing (λ c. not (xml_space c)) l)) e.1
          ∙ ap (flat_map encode) (passing-all (λ c. not (xml_space c)) b.points (All-weaken Solid (λ (c : ℕ). not (xml_space c) ≡ true) (λ c s. rw s.seen) b.points b.solid))
          ∙ b.bytes,
    )

-- what is left where white space is dropped
pub space-dropped : (t : Text) → utf8 t ≡ true → Bare (without_space t)
unfolding utf8
space-dropped t u =
    let p = and_parts (all scalar (decode t)) (same (flat_map encode (decode t)) t) u in
    record {
      points = passing (λ c. not (xml_space c)) (decode t);
      bytes = unfold without_space in refl;
      solid = All-weaken (λ (c : ℕ). (scalar c ≡ true) × (not (xml_space c) ≡ true)) Solid (λ c s. record { may = s.0; seen = not-true (xml_space c) s.1 })
          (passing (λ c. not (xml_space c)) (decode t))
          (All-passing (λ (c : ℕ). scalar c ≡ true) (λ c. not (xml_space c)) (decode t) (each_of scalar (decode t) p.0));
    }
