-- A text copied without its white space, one character at a time.
-- Assumes nothing.
use Prim.Native.Nat.{ℕ, ◌+◌, ◌≤◌, ◌<◌}
use native.Mathlib.Omega.{arith}
use lib.ListN.{length, take, drop, length-append, length-drop}
use lib.Seq.{length-take-le}
use mathlib.Core.Path.{◌≡◌, refl, ap, sym, ◌∙◌}
use mathlib.Core.Bool.{Bool, true, false, cond, not}
use mathlib.Core.List.{[], ◌∷◌, ◌++◌, flat_map, append-nil, append_assoc}
use Rattle.lists.specs.Lists.{only_if, passing, over}
use Rattle.lists.proofs.Lists.{flat_map-append}
use Rattle.lists.proofs.Writes.{length_over, over-then}
use Rattle.lists.proofs.Places.{over_nothing}
use Rattle.texts.specs.Texts.{Text}
use Rattle.utf8.specs.Utf8.{encode, decode, decode_from, utf8}
use Rattle.utf8.specs.Front.{code_at, size_at}
use Rattle.utf8.proofs.Walk.{Here, char-here}
use Rattle.code_points.specs.declared.Char.{Char}
use Rattle.code_points.specs.Chars.{char_at}
use Rattle.characters.specs.Spaces.{xml_space}
use Rattle.paths.specs.Reading.{without_space}
use Rattle.records.specs.Readers.{Bytes}

-- ---- one character

-- what is copied of a character
abbrev pub copied : ℕ → Text → Text
copied code s = cond (xml_space code) [] s

one_char : (b : Bool) (c : ℕ) → flat_map encode (only_if (not b) (c ∷ [])) ≡ cond b [] (encode c)
unfolding flat_map only_if
one_char true c = refl
one_char false c = append-nil (encode c)

space-turn : (s : Text) → 0 < length s → utf8 s ≡ true → without_space s ≡ copied (code_at s 0) (take (size_at s 0) s) ++ without_space (drop (size_at s 0) s)
unfolding without_space passing
space-turn s h u =
    let g = char-here s 0 h u in
    let z : 0 + size_at s 0 ≡ size_at s 0 = omega arith in
    let d : decode s ≡ code_at s 0 ∷ decode (drop (size_at s 0) s) = rw z at g.decoded in
    let cs = decode (drop (size_at s 0) s) in
    rw (d, ← g.encoded)
    (flat_map-append encode (only_if (not (xml_space (code_at s 0))) (code_at s 0 ∷ [])) (passing (λ c. not (xml_space c)) cs)
    ∙ ap (λ (l : Text). l ++ flat_map encode (passing (λ c. not (xml_space c)) cs)) (one_char (xml_space (code_at s 0)) (code_at s 0)))

piece-short : (b : Bool) (s : Text) → length (cond b [] s) ≤ length s
piece-short true s = omega arith
piece-short false s = omega arith

-- ---- the walk: what was copied, and what is left

pub record Copied (path bare₀ bare : Bytes) (rest : Text) (n : ℕ) : Type 0 where
  pub copy : Text
  pub long : n ≡ length copy
  pub less : n + length rest ≤ length path
  pub valid : utf8 rest ≡ true
  pub whole : without_space path ≡ copy ++ without_space rest
  pub written : bare ≡ over bare₀ 0 copy

module _ (path bare₀ bare : Bytes) (rest : Text) (n : ℕ) (w : Copied path bare₀ bare rest n) (h : 0 < length rest) (c : Char) (e : c ≡ char_at rest 0) where
  here : Here rest 0
  here = char-here rest 0 h w.valid

  size : c.size ≡ size_at rest 0
  size = ap (λ (c : Char). c.size) e

  code : c.code ≡ code_at rest 0
  code = ap (λ (c : Char). c.code) e

  pub char-fits : (0 < c.size) × (c.size ≤ length rest)
  char-fits = let a = here.some in let b = here.fits in let s = size in (omega arith, omega arith)

  module _ (k : length path ≤ length bare₀) (front behind : Text) (f : front ≡ take c.size rest) (b : behind ≡ drop c.size rest) where
    lengths : (length front ≡ c.size) × (length front + length behind ≡ length rest)
    lengths =
        let a = char-fits in
        let x = ap (λ (t : Text). length t) f ∙ length-take-le c.size rest a.1 in
        let y = ap (λ (t : Text). length t) b ∙ length-drop c.size rest in
        (x, omega arith)

    turn : without_space rest ≡ copied c.code front ++ without_space behind
    turn = rw (f, b, size, code) (space-turn rest h w.valid)

    valid : utf8 behind ≡ true
    valid = let z : 0 + size_at rest 0 ≡ size_at rest 0 = omega arith in rw (b, size) (rw z at here.behind)

    pub char-copied : (bare' : Bytes) (m : ℕ) → m ≡ n + length (copied c.code front) → bare' ≡ over bare n (copied c.code front) → Copied path bare₀ bare' behind m
    char-copied bare' m p q =
        let vs : Text = copied c.code front in
        let s = piece-short (xml_space c.code) front in
        let a = lengths in
        let v = length-append w.copy vs in
        record {
          copy = w.copy ++ vs;
          long = omega (arith, w.long);
          less = omega (arith, w.less);
          valid = valid;
          whole = w.whole ∙ ap (λ (l : Text). w.copy ++ l) turn ∙ sym (append_assoc w.copy vs (without_space behind));
          written = q ∙ ap (λ (l : Bytes). over l n vs) w.written ∙ over-then bare₀ 0 n w.copy vs (omega (arith, w.long)) (omega (arith, w.less));
        }

nothing_left : (rest : Text) → length rest ≡ 0 → without_space rest ≡ []
unfolding without_space decode decode_from passing flat_map
nothing_left [] h = refl
nothing_left (x ∷ rest) h = absurd (omega arith)

pub copied-end : (path bare₀ bare : Bytes) (rest : Text) (n : ℕ) → Copied path bare₀ bare rest n → length rest ≡ 0
    → (n ≡ length (without_space path)) × (bare ≡ over bare₀ 0 (without_space path))
copied-end path bare₀ bare rest n w h =
    let none : without_space rest ≡ [] = nothing_left rest h in
    let e : without_space path ≡ w.copy = w.whole ∙ ap (λ (l : Text). w.copy ++ l) none ∙ append-nil w.copy in
    (w.long ∙ ap length (sym e), w.written ∙ ap (λ (l : Text). over bare₀ 0 l) (sym e))
