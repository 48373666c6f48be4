-- The names that open elements read as are the ones that matching takes: a text that reads is so many bytes behind its length.
-- Assumes nothing.
use Prim.Native.Nat.{ℕ, zero, suc, ◌+◌, ◌*◌}
use native.Mathlib.Omega.{arith}
use lib.ListN.{take, drop}
use mathlib.Core.Path.{◌≡◌, refl, ap, ap₂, sym, ◌∙◌}
use mathlib.Core.List.{List, [], ◌∷◌, map}
use mathlib.Core.Option.{Option, none, some, some-injective}
use Rattle.texts.specs.Texts.{Text}
use Rattle.paths.specs.Names.{Name}
use Rattle.paths.specs.Reading.{on_some, every}
use Rattle.paths.proofs.Sure.{some-parts}
use Rattle.records.specs.Readers.{Bytes, on_read, ◌>>=◌, pass, read_byte, read_two, cons_on, read_bytes, read_text}
use Rattle.session_spec.specs.Layout.{parts, text_in, name_in}
use Rattle.session_laws.proofs.Parts.{every-uncons}
use Rattle.matching.specs.Matched.{half_text, name_from, names_below}

bytes-are : (n : ℕ) (xs t r : Bytes) → read_bytes n xs ≡ some (t, r) → t ≡ take n xs
unfolding read_bytes cons_on
bytes-are zero xs t r h = sym (ap (λ (w : Bytes × Bytes). w.0) (some-injective ([], xs) (t, r) h))
bytes-are (suc n) [] t r h = let z : ◌≡◌ {A = ℕ} 0 1 = cc in absurd (omega arith)
bytes-are (suc n) (x ∷ xs) t r h = by (read_bytes n xs) refl h (bytes-are n xs)
  where
    by : (o : Option (Bytes × Bytes)) → read_bytes n xs ≡ o → cons_on x o ≡ some (t, r) → ((u q : Bytes) → read_bytes n xs ≡ some (u, q) → u ≡ take n xs) → t ≡ x ∷ take n xs
    by none e h ih = let z : ◌≡◌ {A = ℕ} 0 1 = cc in absurd (omega arith)
    by (some q) e h ih =
        let i : q.0 ≡ take n xs = ih q.0 q.1 e in
        let k : t ≡ x ∷ q.0 = sym (ap (λ (w : Bytes × Bytes). w.0) (some-injective (x ∷ q.0, q.1) (t, r) h)) in
        k ∙ ap (λ (l : Bytes). x ∷ l) i

text-is : (h : Bytes) (t : Text) → text_in h ≡ some t → half_text h ≡ t
unfolding text_in read_text read_two read_byte ◌>>=◌ on_read pass half_text
text-is [] t e = unfold on_some in (let z : ◌≡◌ {A = ℕ} 0 1 = cc in absurd (omega arith))
text-is (a ∷ []) t e = unfold on_some in (let z : ◌≡◌ {A = ℕ} 0 1 = cc in absurd (omega arith))
text-is (a ∷ b ∷ xs) t e =
    let p = some-parts (read_bytes (a + 256 * b) xs) (λ q. some q.0) t e in
    sym (bytes-are (a + 256 * b) xs p.0.0 p.0.1 p.1) ∙ some-injective p.0.0 t p.2

name-is : (xs : Bytes) (n : Name) → name_in xs ≡ some n → name_from xs ≡ n
unfolding name_in name_from
name-is xs n e =
    let p = some-parts (text_in (take 257 xs)) (λ s. on_some (text_in (drop 257 xs)) (λ l. some (record { space = s; local = l }))) n e in
    let q = some-parts (text_in (drop 257 xs)) (λ l. some (record { space = p.0; local = l })) n p.2 in
    let a : half_text (take 257 xs) ≡ p.0 = text-is (take 257 xs) p.0 p.1 in
    let b : half_text (drop 257 xs) ≡ q.0 = text-is (drop 257 xs) q.0 q.1 in
    (λ i. record { space = a i; local = b i }) ∙ some-injective (record { space = p.0; local = q.0 }) n q.2

names-are : (ps : List Bytes) (l : List Name) → every name_in ps ≡ some l → map name_from ps ≡ l
names-are [] l e = unfold every in (some-injective [] l e)
names-are (x ∷ ps) l e =
    let p = every-uncons name_in x ps l e in
    ap₂ {C = List Name} ◌∷◌ (name-is x p.head p.head_is) (names-are ps p.rest p.rest_is) ∙ sym p.split

-- THE NAMES BELOW A BASE, in the area of a session
pub names-below : (base depth : ℕ) (names : Bytes) (l : List Name) → every name_in (parts 514 depth names) ≡ some l → names_below base depth names ≡ drop base l
unfolding names_below
names-below base depth names l e = ap (drop base) (names-are (parts 514 depth names) l e)
