-- A name is written in bytes that a name test takes, with no ':' and no '*', and begins with no digit, '.' or '-'. A character of ASCII is written as
-- itself, and all 128 are tried one by one; a character beyond has only bytes of 128 and above.
-- Assumes nothing.
use native.Mathlib.Omega.{arith}
use Prim.Native.Nat.{ℕ, zero, suc, ◌≤◌, ◌<◌}
use lib.Dec.{eqb, leb}
use borrow.Author.Tests.{leb-true, leb-false, eqb-true, eqb-false, le-leb, lt-leb, ne_eqb}
use mathlib.Core.Path.{◌≡◌, refl, sym, subst}
use mathlib.Core.Bool.{Bool, true, false, not, ◌&&◌, ◌||◌}
use mathlib.Core.List.{List, [], ◌∷◌, ◌++◌, flat_map}
use Rattle.std.proofs.lemmas.List.Folds.{list_all-append}
use Rattle.std.proofs.lemmas.Bool.{and_parts, or_right}
use Rattle.lists.specs.Lists.{all, All}
use Rattle.texts.specs.Texts.{Text}
use Rattle.utf8.specs.Utf8.{encode}
use Rattle.utf8.proofs.Encoding.{encode_one, encode-two, encode-three, encode-four}
use Rattle.characters.specs.Ranges.{in_ranges}
use Rattle.characters.specs.Names.{start_ranges, more_ranges, name_start, name_char}
use Rattle.characters.proofs.Tables.{start-is-char}
use Rattle.grammar.specs.Tokens.{Points, NCName}
use Rattle.grammar.proofs.Words.{never}
use Rattle.reasons.proofs.Chars.{no_name, name-start, name-rest}
use Rattle.paths.specs.Reading.{within, test_byte, starts_well}

-- ---- the bytes of a character

-- bytes of 128 and above, at least one
abbrev pub High : Text → Type 0
High [] = ⊥
High (b ∷ s) = (128 ≤ b) × All (λ (x : ℕ). 128 ≤ x) s

-- a character beyond ASCII has such bytes
encode-high : (c : ℕ) → 0x7F < c → High (encode c)
encode-high c g = by (leb c 0x7FF) refl (leb c 0xFFFF) refl
  where
    by : (x : Bool) → leb c 0x7FF ≡ x → (y : Bool) → leb c 0xFFFF ≡ y → High (encode c)
    by true e y f = rw (encode-two c g (leb-true c 0x7FF e)) (omega arith, (omega arith, tt))
    by false e true f = rw (encode-three c (leb-false c 0x7FF e) (leb-true c 0xFFFF f)) (omega arith, (omega arith, (omega arith, tt)))
    by false e false f = rw (encode-four c (leb-false c 0xFFFF f)) (omega arith, (omega arith, (omega arith, (omega arith, tt))))

-- what is to hold of the bytes of a character: of itself in ASCII, of such bytes beyond
pub by-encoding : (P : Text → Type 0) (c : ℕ) → (c < 128 → P (c ∷ [])) → (0x7F < c → (e : Text) → High e → P e) → P (encode c)
by-encoding P c low high = by (leb c 0x7F) refl
  where
    by : (b : Bool) → leb c 0x7F ≡ b → P (encode c)
    by true e = let l = leb-true c 0x7F e in subst P (sym (encode_one c l)) (low (omega arith))
    by false e = let l = leb-false c 0x7F e in high l (encode c) (encode-high c l)

-- ---- ASCII, one by one

below : ℕ → List ℕ
below zero = []
below (suc n) = n ∷ below n

below_each : (p : ℕ → Bool) (n : ℕ) → all p (below n) ≡ true → (c : ℕ) → c < n → p c ≡ true
unfolding below
below_each p zero h c l = absurd (omega arith)
below_each p (suc n) h c l = let q = and_parts (p n) (all p (below n)) h in by (eqb c n) refl q.0 (below_each p n q.1 c)
  where
    by : (b : Bool) → eqb c n ≡ b → p n ≡ true → (c < n → p c ≡ true) → p c ≡ true
    by true e i rec = rw (eqb-true c n e) i
    by false e i rec = let k = eqb-false c n e in rec (omega (arith, k))

implied : (a b : Bool) → (not a || b) ≡ true → a ≡ true → b ≡ true
implied true b h e = h
implied false b h e = never e

-- each character of a class that is ASCII passes a test
ascii-each : (class test : ℕ → Bool) → all (λ c. not (class c) || test c) (below 128) ≡ true → (c : ℕ) → c < 128 → class c ≡ true → test c ≡ true
ascii-each class test h c l = implied (class c) (test c) (below_each (λ c. not (class c) || test c) 128 h c l)

-- ---- a name holds bytes of names

-- a test takes it, and it is no ':' and no '*'
unfoldable pub name_byte : ℕ → Bool
name_byte b = test_byte b && (not (eqb b 58) && not (eqb b 42))

ascii-name : (c : ℕ) → c < 128 → name_char c ≡ true → name_byte c ≡ true
unfolding name_byte test_byte within name_char more_ranges name_start start_ranges in_ranges below
ascii-name = ascii-each name_char name_byte refl

beyond-test : (b : ℕ) → 128 ≤ b → test_byte b ≡ true
unfolding test_byte
beyond-test b h = rw (le-leb 128 b h) (ors (within 97 122 b) (within 65 90 b) (within 48 58 b) (eqb b 95) (eqb b 45) (eqb b 46) (eqb b 42))
  where
    ors : (a b c d e f g : Bool) → (a || (b || (c || (d || (e || (f || (g || true))))))) ≡ true
    ors a b c d e f g = or_right a _ (or_right b _ (or_right c _ (or_right d _ (or_right e _ (or_right f _ (or_right g true refl))))))

beyond-name : (b : ℕ) → 128 ≤ b → name_byte b ≡ true
unfolding name_byte
beyond-name b h = rw (beyond-test b h, ne_eqb b 58 (λ e. omega arith), ne_eqb b 42 (λ e. omega arith))

beyond-names : (s : Text) → All (λ (x : ℕ). 128 ≤ x) s → all name_byte s ≡ true
beyond-names [] h = refl
beyond-names (b ∷ s) h = rw (beyond-name b h.0, beyond-names s h.1)

high-names : (e : Text) → High e → all name_byte e ≡ true
high-names [] h = absurd h
high-names (b ∷ s) h = beyond-names (b ∷ s) h

char-bytes : (c : ℕ) → name_char c ≡ true → all name_byte (encode c) ≡ true
char-bytes c h = by-encoding (λ e. all name_byte e ≡ true) c (λ l. rw (ascii-name c l h)) (λ l. high-names)

chars-bytes : (m : Points) → all name_char m ≡ true → all name_byte (flat_map encode m) ≡ true
unfolding flat_map
chars-bytes [] h = refl
chars-bytes (c ∷ m) h =
    let i = and_parts (name_char c) (all name_char m) h in
    rw (list_all-append name_byte (encode c) (flat_map encode m), char-bytes c i.0, chars-bytes m i.1)

pub name-bytes : (l : Points) → NCName l → all name_byte (flat_map encode l) ≡ true
unfolding flat_map
name-bytes [] h = no_name h
name-bytes (c ∷ m) h =
    let s = start-is-char c (name-start c m h) in
    rw (list_all-append name_byte (encode c) (flat_map encode m), char-bytes c s, chars-bytes m (name-rest c m h))

-- ---- a name begins with no digit, '.' or '-'

first_byte : ℕ → Bool
first_byte b = starts_well (b ∷ [])

ascii-first : (c : ℕ) → c < 128 → name_start c ≡ true → first_byte c ≡ true
unfolding first_byte starts_well within name_start start_ranges in_ranges below
ascii-first = ascii-each name_start first_byte refl

beyond-first : (b : ℕ) → 128 ≤ b → first_byte b ≡ true
unfolding first_byte starts_well within
beyond-first b h = rw (le-leb 48 b (omega arith), lt-leb b 57 (omega arith), ne_eqb b 46 (λ e. omega arith), ne_eqb b 45 (λ e. omega arith))

high-first : (s e : Text) → High e → starts_well (e ++ s) ≡ true
unfolding first_byte starts_well
high-first s [] h = absurd h
high-first s (b ∷ e) h = beyond-first b h.0

char-first : (c : ℕ) (s : Text) → name_start c ≡ true → starts_well (encode c ++ s) ≡ true
unfolding first_byte starts_well
char-first c s h = by-encoding (λ e. starts_well (e ++ s) ≡ true) c (λ l. ascii-first c l h) (λ l. high-first s)

pub name-starts : (l : Points) → NCName l → starts_well (flat_map encode l) ≡ true
unfolding flat_map
name-starts [] h = no_name h
name-starts (c ∷ m) h = char-first c (flat_map encode m) (name-start c m h)
