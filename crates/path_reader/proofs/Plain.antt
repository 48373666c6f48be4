-- A text of plain bytes: each byte is a character, and none is white space. So the path is read as it stands. Where all are below the bar it has none. By induction on the bytes.
-- Assumes nothing.
use Prim.Native.Nat.{ℕ, ◌≤◌, ◌<◌}
use native.Mathlib.Omega.{arith}
use lib.Dec.{ltb}
use lib.ListN.{length}
use borrow.Author.Tests.{ltb-true, lt-ltb, ne_eqb}
use mathlib.Core.Path.{◌≡◌, refl, ap, sym}
use mathlib.Core.Bool.{Bool, true, not}
use mathlib.Core.List.{[], ◌∷◌, flat_map}
use Rattle.std.proofs.lemmas.Bool.{and_parts}
use Rattle.lists.specs.Lists.{all, only_if, passing}
use Rattle.texts.specs.Texts.{Text}
use Rattle.texts.proofs.Sameness.{same_refl}
use Rattle.utf8.specs.Utf8.{scalar, encode, decode, decode_from, utf8}
use Rattle.utf8.proofs.Encoding.{encode_one, size-one, code_one}
use Rattle.characters.specs.Spaces.{xml_space}
use Rattle.characters.proofs.Spaces.{space-above}
use Rattle.paths.specs.Reading.{every, split_at, without_space, read_alt, read_path}
use Rattle.path_pieces.specs.Pieces.{piece_length}
use Rattle.path_reader.specs.Places.{plain_byte}

-- ---- one byte

module _ (limit b : ℕ) where
  bounds : plain_byte limit b ≡ true → (0x20 < b) × (b < limit)
  unfolding plain_byte
  bounds e =
      let p = and_parts (ltb 0x20 b) (ltb b limit) e in
      (ltb-true 0x20 b p.0, ltb-true b limit p.1)

scalar-low : (b : ℕ) → b < 0x80 → scalar b ≡ true
unfolding scalar
scalar-low b h = rw (lt-ltb b 0xD800 (omega arith))

-- ---- all of them

record Plain (t : Text) : Type 0 where
  decoded : decode t ≡ t
  may : all scalar t ≡ true
  encoded : flat_map encode t ≡ t
  passed : passing (λ c. not (xml_space c)) t ≡ t

module _ (limit : ℕ) (l : limit ≤ 0x80) where
  plain : (t : Text) → all (plain_byte limit) t ≡ true → Plain t
  unfolding decode decode_from flat_map passing only_if
  plain [] e = record { decoded = refl; may = refl; encoded = refl; passed = refl }
  plain (b ∷ s) e =
      let p = and_parts (plain_byte limit b) (all (plain_byte limit) s) e in
      let h = bounds limit b p.0 in
      let r = plain s p.1 in
      record {
        decoded = rw (code_one b s (omega arith), size-one b (omega arith)) (ap (λ (l : Text). b ∷ l) r.decoded);
        may = rw (scalar-low b (omega arith), r.may);
        encoded = rw (encode_one b (omega arith)) (ap (λ (l : Text). b ∷ l) r.encoded);
        passed = rw (sym (space-above b h.0)) (ap (λ (l : Text). b ∷ l) r.passed);
      }

  pub plain-reads : (field : Bool) (t : Text) → all (plain_byte limit) t ≡ true → read_path field t ≡ every (read_alt field) (split_at 124 t)
  unfolding read_path utf8 without_space
  plain-reads field t e =
      let p = plain t e in
      rw (p.decoded, p.may, p.encoded, same_refl t, p.passed, p.encoded)

-- below the bar there is none
pub no-bar : (t : Text) → all (plain_byte 124) t ≡ true → length t ≤ piece_length 124 t
unfolding piece_length
no-bar [] e = omega arith
no-bar (b ∷ s) e =
    let p = and_parts (plain_byte 124 b) (all (plain_byte 124) s) e in
    let h = bounds 124 b p.0 in
    let r = no-bar s p.1 in
    rw (ne_eqb b 124 (omega arith)) (omega arith)
