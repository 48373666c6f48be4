-- A bit that is set stays set, and that of the tuple which is marked is; so what is not marked is none of the tuples of a store all of which are.
-- Assumes nothing.
use Prim.Native.Nat.{ℕ, ◌*◌, ◌%◌, ◌^◌, ◌≤◌, ◌<◌}
use native.Mathlib.Omega.{arith}
use lib.Bits.{bit_or}
use lib.Dec.{eqb, ltb}
use lib.ListN.{length, drop, set, get_or, length-set}
use lib.Seq.{get_or-set_same, get_or-set_other}
use borrow.Author.Tests.{lt-ltb, le-ltb, ltb-true, ltb-false, eqb-true, eqb-false}
use mathlib.Core.Path.{◌≡◌, refl, ap, sym, ◌∙◌}
use mathlib.Core.Bool.{Bool, true, false, ◌||◌, true≢false, or-true}
use mathlib.Core.List.{List, [], ◌∷◌, ◌++◌}
use mathlib.Core.Option.{none}
use Rattle.std.specs.declared.option.Option as code
use Rattle.std.specs.declared.option.Option.TheVariants.{Some, None}
use Rattle.std.specs.Option.{MatchOption}
use Rattle.std.specs.Slice.{IsItemAt}
use denote.Ref.{Bor}
use Rattle.std.proofs.lemmas.Nat.{one_shl}
use Rattle.std.proofs.lemmas.List.{set_past}
use Rattle.lists.proofs.Folds.{All-append, All-weaken}
use Rattle.texts.specs.Texts.{same}
use Rattle.texts.proofs.Sameness.{same-differ}
use Rattle.records.specs.Readers.{Bytes}
use Rattle.output_stores.specs.Stores.{in_mask}
use Rattle.output_stores.proofs.Masks.{one_in, in_either}
use Rattle.tuple_search.specs.Search.{or_zero, place_with, first_with}
use Rattle.hashes.specs.Hashes.{hash_of}
use Rattle.tuple_marks.specs.Marks.{word_of, bit_of, marked, with_mark, with_marks}
use Rattle.lists.specs.Lists.{All}

-- ---- by the word and the bit that the code has

module _ (m : List ℕ) (t : Bytes) (h : ℕ) (e : h ≡ hash_of t) (w : ℕ) (f : w ≡ word_of h) where
  at : w ≡ word_of (hash_of t)
  at = f ∙ ap word_of e

  pub past-marks : length m ≤ w → true ≡ marked m t
  unfolding marked
  past-marks l = sym (rw (← at, le-ltb w (length m) l))

  pub mark-past : length m ≤ w → m ≡ with_mark m t
  unfolding with_mark
  mark-past l = sym (rw (← at) (set_past m w (bit_or (get_or m w 0) (2 ^ bit_of (hash_of t))) l))

  module _ (b : ℕ) (g : b ≡ bit_of h) where
    bit : b ≡ bit_of (hash_of t)
    bit = g ∙ ap bit_of e

    pub in-marks : w < length m → (r : Bool) → r ≡ in_mask (get_or m w 0) b → r ≡ marked m t
    unfolding marked
    in-marks l r p = sym (rw (← at, lt-ltb w (length m) l, ← bit) (sym p))

    -- what the code asks of the word
    pub marked-by : {P : Bor ℕ → Type 0} (o : code.Option (Bor ℕ)) → IsItemAt m w o → (r : Bool) → MatchOption o (r ≡ true) P
        → ((x : Bor ℕ) → P x → r ≡ in_mask x.now b) → r ≡ marked m t
    marked-by None l r q f = q ∙ past-marks (omega (arith, l.3))
    marked-by (Some x) l r q f = in-marks (omega (arith, l.3.0)) r (f x q ∙ ap (λ (k : ℕ). in_mask k b) (l.3.1 0))

    pub mark-in : set m w (bit_or (get_or m w 0) ((1 * 2 ^ b) % 4294967296)) ≡ with_mark m t
    unfolding with_mark
    mark-in = rw (one_shl b 32 (omega (arith, g)), at, bit)

-- within the marks
bit_is : (m : List ℕ) (t : Bytes) → word_of (hash_of t) < length m → marked m t ≡ in_mask (get_or m (word_of (hash_of t)) 0) (bit_of (hash_of t))
bit_is m t l = sym (in-marks m t (hash_of t) refl (word_of (hash_of t)) refl (bit_of (hash_of t)) refl l (in_mask (get_or m (word_of (hash_of t)) 0) (bit_of (hash_of t))) refl)

-- ---- one tuple more

module _ (m : List ℕ) (t : Bytes) where
  pub length-mark : length (with_mark m t) ≡ length m
  unfolding with_mark
  length-mark = length-set m (word_of (hash_of t)) (bit_or (get_or m (word_of (hash_of t)) 0) (2 ^ bit_of (hash_of t)))

  -- the words after it
  word-here : word_of (hash_of t) < length m → get_or (with_mark m t) (word_of (hash_of t)) 0 ≡ bit_or (get_or m (word_of (hash_of t)) 0) (2 ^ bit_of (hash_of t))
  unfolding with_mark
  word-here l = get_or-set_same m (word_of (hash_of t)) (bit_or (get_or m (word_of (hash_of t)) 0) (2 ^ bit_of (hash_of t))) 0 l

  word-other : (w : ℕ) → (w ≡ word_of (hash_of t) → ⊥) → get_or (with_mark m t) w 0 ≡ get_or m w 0
  unfolding with_mark
  word-other w h = get_or-set_other m (word_of (hash_of t)) w (bit_or (get_or m (word_of (hash_of t)) 0) (2 ^ bit_of (hash_of t))) 0 h

  -- its own bit is set then
  pub mark-here : marked (with_mark m t) t ≡ true
  mark-here = by (ltb (word_of (hash_of t)) (length m)) refl
    where
      by : (b : Bool) → ltb (word_of (hash_of t)) (length m) ≡ b → marked (with_mark m t) t ≡ true
      by true e =
          let l = ltb-true (word_of (hash_of t)) (length m) e in
          let old : ℕ = get_or m (word_of (hash_of t)) 0 in
          let bit : ℕ = bit_of (hash_of t) in
          bit_is (with_mark m t) t (omega (arith, l, length-mark))
          ∙ ap (λ (v : ℕ). in_mask v bit) (word-here l)
          ∙ in_either old (2 ^ bit) bit
          ∙ ap (λ (b : Bool). in_mask old bit || b) (one_in bit)
          ∙ or-true (in_mask old bit)
      by false e = sym (past-marks (with_mark m t) t (hash_of t) refl (word_of (hash_of t)) refl (omega (arith, ltb-false (word_of (hash_of t)) (length m) e, length-mark)))

  -- and one that was set is set
  pub mark-keeps : (u : Bytes) → marked m u ≡ true → marked (with_mark m t) u ≡ true
  mark-keeps u k = by (ltb (word_of (hash_of u)) (length m)) (eqb (word_of (hash_of u)) (word_of (hash_of t))) refl refl
    where
      by : (b c : Bool) → ltb (word_of (hash_of u)) (length m) ≡ b → eqb (word_of (hash_of u)) (word_of (hash_of t)) ≡ c → marked (with_mark m t) u ≡ true
      by true true e f =
          let l = ltb-true (word_of (hash_of u)) (length m) e in
          let q = eqb-true (word_of (hash_of u)) (word_of (hash_of t)) f in
          let bit : ℕ = bit_of (hash_of u) in
          let one : ℕ = 2 ^ bit_of (hash_of t) in
          let old : ℕ = get_or m (word_of (hash_of t)) 0 in
          let was : in_mask old bit ≡ true = ap (λ (w : ℕ). in_mask (get_or m w 0) bit) (sym q) ∙ sym (bit_is m u l) ∙ k in
          bit_is (with_mark m t) u (omega (arith, l, length-mark))
          ∙ ap (λ (w : ℕ). in_mask (get_or (with_mark m t) w 0) bit) q
          ∙ ap (λ (v : ℕ). in_mask v bit) (word-here (omega (arith, l, q)))
          ∙ in_either old one bit
          ∙ ap (λ (b : Bool). b || in_mask one bit) was
      by true false e f =
          let l = ltb-true (word_of (hash_of u)) (length m) e in
          let q = eqb-false (word_of (hash_of u)) (word_of (hash_of t)) f in
          bit_is (with_mark m t) u (omega (arith, l, length-mark)) ∙ ap (λ (v : ℕ). in_mask v (bit_of (hash_of u))) (word-other (word_of (hash_of u)) q) ∙ sym (bit_is m u l) ∙ k
      by false c e f = sym (past-marks (with_mark m t) u (hash_of u) refl (word_of (hash_of u)) refl (omega (arith, ltb-false (word_of (hash_of u)) (length m) e, length-mark)))

-- ---- many

pub marks-keep : (fs : List Bytes) (m : List ℕ) (u : Bytes) → marked m u ≡ true → marked (with_marks m fs) u ≡ true
unfolding with_marks
marks-keep [] m u k = k
marks-keep (f ∷ fs) m u k = marks-keep fs (with_mark m (drop 5 f)) u (mark-keeps m (drop 5 f) u k)

pub length-marks : (fs : List Bytes) (m : List ℕ) → length (with_marks m fs) ≡ length m
unfolding with_marks
length-marks [] m = refl
length-marks (f ∷ fs) m = length-marks fs (with_mark m (drop 5 f)) ∙ length-mark m (drop 5 f)

abbrev pub Each : List ℕ → List Bytes → Type 0
Each m fs = All (λ f. marked m (drop 5 f) ≡ true) fs

pub marks-here : (fs : List Bytes) (m : List ℕ) → Each (with_marks m fs) fs
unfolding with_marks
marks-here [] m = tt
marks-here (f ∷ fs) m = (marks-keep fs (with_mark m (drop 5 f)) (drop 5 f) (mark-here m (drop 5 f)), marks-here fs (with_mark m (drop 5 f)))

-- THE LAW of the marks: those that were marked, and these
pub marks-more : (m : List ℕ) (gs fs : List Bytes) → Each m gs → Each (with_marks m fs) (gs ++ fs)
marks-more m gs fs a =
    All-append (λ f. marked (with_marks m fs) (drop 5 f) ≡ true) gs fs
    (All-weaken (λ f. marked m (drop 5 f) ≡ true) (λ f. marked (with_marks m fs) (drop 5 f) ≡ true) (λ f k. marks-keep fs m (drop 5 f) k) gs a) (marks-here fs m)

-- ---- what is not marked is not there

pub none-marked : (m : List ℕ) (t : Bytes) → marked m t ≡ false → (fs : List Bytes) → Each m fs → place_with t fs ≡ none
unfolding place_with
none-marked m t n [] a = refl
none-marked m t n (f ∷ fs) a =
    let d : same (drop 5 f) t ≡ false =
    same-differ (drop 5 f) t (λ e. true≢false (sym a.0 ∙ ap (marked m) e ∙ n)) in
    rw (d, none-marked m t n fs a.1)

pub not_there : (m : List ℕ) (t : Bytes) → marked m t ≡ false → (fs : List Bytes) → Each m fs → 0 ≡ first_with t fs
unfolding first_with or_zero
not_there m t n fs a = sym (rw (none-marked m t n fs a))
