-- The reader reads every name test of the grammar: a name or '*' is a piece, and a test is one piece, or two with a ':' between them.
-- Assumes nothing.
use Prim.Native.Nat.{ℕ}
use lib.Dec.{eqb}
use mathlib.Core.Path.{◌≡◌, refl}
use mathlib.Core.Bool.{Bool, true, false, not, ◌&&◌}
use mathlib.Core.List.{[], ◌∷◌, ◌++◌, flat_map}
use mathlib.Core.Option.{Option, none, some, IsSome}
use Rattle.std.proofs.lemmas.List.Folds.{list_all-append}
use Rattle.std.proofs.lemmas.Bool.{and_parts, or_right}
use Rattle.lists.specs.Lists.{all, any}
use Rattle.lists.proofs.Lists.{flat_map-append}
use Rattle.texts.specs.Texts.{Text, same}
use Rattle.utf8.specs.Utf8.{encode}
use Rattle.grammar.specs.Tokens.{Points, NCName, NameTest}
use Rattle.grammar.specs.Tokens.NameTest.{star, any_in, local, qualified}
use Rattle.grammar.proofs.Words.{never}
use Rattle.paths.specs.Reading.{within, test_byte, starts_well, star_alone, test_of, test_parts, name_test}
use Rattle.passed.proofs.Spelling.{test_bytes, SoundTest}
use Rattle.passed.proofs.Cut.{Free, free-by, split-whole, split-first}
use Rattle.passed.proofs.Names.{name_byte, name-bytes, name-starts}

-- ---- pieces

-- What stands alone in a test, or beside its ':'.
record Piece (t : Text) : Type 0 where
  taken : all test_byte t ≡ true
  starts : starts_well t ≡ true
  stars : star_alone t ≡ true
  colons : Free 58 t

star-piece : Piece (42 ∷ [])
unfolding test_byte within starts_well star_alone same
star-piece = record { taken = refl; starts = refl; stars = refl; colons = (refl, tt) }

all_weaker : (p q : ℕ → Bool) → ((b : ℕ) → p b ≡ true → q b ≡ true) → (t : Text) → all p t ≡ true → all q t ≡ true
all_weaker p q f [] h = refl
all_weaker p q f (b ∷ t) h = let i = and_parts (p b) (all p t) h in rw (f b i.0, all_weaker p q f t i.1)

free-none : (d : ℕ) (t : Text) → Free d t → any (λ b. eqb b d) t ≡ false
free-none d [] a = refl
free-none d (b ∷ t) a = rw (a.0, free-none d t a.1)

name-byte-taken : (b : ℕ) → name_byte b ≡ true → test_byte b ≡ true
unfolding name_byte
name-byte-taken b h = (and_parts (test_byte b) (not (eqb b 58) && not (eqb b 42)) h).0

name-piece : (l : Points) → NCName l → Piece (flat_map encode l)
unfolding name_byte test_byte within star_alone
name-piece l h =
    let b = name-bytes l h in
    let t = flat_map encode l in
    record {
      taken = all_weaker name_byte test_byte name-byte-taken t b;
      starts = name-starts l h;
      stars = rw (free-none 42 t (free-by name_byte 42 refl t b)) (or_right (same t (42 ∷ [])) true refl);
      colons = free-by name_byte 58 refl t b;
    }

-- ---- one piece, or two with a ':' between them

test-of : (p : Option Text) (l : Text) → Piece l → IsSome (test_of p l)
unfolding test_of
test-of p l h = rw (h.starts, h.stars) tt

one_piece : (l : Text) → Piece l → IsSome (name_test l)
unfolding name_test test_parts
one_piece l h = rw (h.taken, h.starts, split-whole 58 l h.colons) (test-of none l h)

two-starts : (p r : Text) → starts_well p ≡ true → starts_well (p ++ r) ≡ true
unfolding starts_well
two-starts [] r h = never h
two-starts (b ∷ p) r h = h

two-taken : (p l : Text) → all test_byte p ≡ true → all test_byte l ≡ true → all test_byte (p ++ (58 ∷ l)) ≡ true
unfolding test_byte within
two-taken p l h g = rw (list_all-append test_byte p (58 ∷ l), h, g)

two-pieces : (p l : Text) → Piece p → Piece l → IsSome (name_test (p ++ (58 ∷ l)))
unfolding name_test test_parts
two-pieces p l h g =
    rw (two-taken p l h.taken g.taken, two-starts p (58 ∷ l) h.starts, split-first 58 p l h.colons, split-whole 58 l g.colons)
    (test-of (some p) l g)

-- EVERY NAME TEST OF THE GRAMMAR IS READ
pub test-read : (n : NameTest) → SoundTest n → IsSome (name_test (test_bytes n))
unfolding flat_map encode
test-read star h = one_piece (42 ∷ []) star-piece
test-read (any_in p) h = rw (flat_map-append encode p (58 ∷ 42 ∷ [])) (two-pieces (flat_map encode p) (42 ∷ []) (name-piece p h) star-piece)
test-read (local l) h = one_piece (flat_map encode l) (name-piece l h)
test-read (qualified p l) h = rw (flat_map-append encode p (58 ∷ l)) (two-pieces (flat_map encode p) (flat_map encode l) (name-piece p h.0) (name-piece l h.1))
