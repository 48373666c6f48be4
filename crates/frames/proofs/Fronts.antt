-- The record at the front of bytes, cut off by the length that it states: it is there where so many bytes are, and those behind it are left.
-- Assumes nothing.
use Prim.Native.Nat.{ℕ, ◌+◌, ◌*◌, ◌≤◌, ◌<◌}
use native.Mathlib.Numerals.{unary_clauses}
use native.Mathlib.Omega.{arith}
use lib.Dec.{leb}
use lib.ListN.{length, take, drop, take-append-drop}
use lib.Seq.{length-take-le}
use borrow.Author.Tests.{leb-true, leb-false}
use mathlib.Core.Path.{◌≡◌, refl, ap, sym, ◌∙◌}
use mathlib.Core.Bool.{Bool, true, false}
use mathlib.Core.List.{[], ◌∷◌, ◌++◌}
use mathlib.Core.Option.{Option, none, some, some-injective}
use Rattle.numbers.specs.Numbers.{two}
use Rattle.std.specs.declared.option.Option as code
use Rattle.std.specs.declared.option.Option.TheVariants.{Some, None}
use Rattle.std.specs.Option.{MatchOption}
use Rattle.std.specs.List.{IsSplitAt}
use denote.Ref.{Bor}
use Rattle.records.specs.Readers.{Bytes, on_read, ◌>>=◌, pass, read_byte, read_bytes}
use Rattle.records.proofs.Places.{bytes-there, bytes-short}
use Rattle.session_spec.specs.Definitions.{frame}
use Rattle.output_stores.proofs.Walks.{Shortens, standing_on, standing-stop}
use Rattle.output_stores.specs.Stores.{standing}
use Rattle.output_stores.proofs.Sizes.{AtLeast, shortens, bind-least, pass-least, byte-least, bytes-least}
use Rattle.frames.specs.Frames.{parts}

frame-least : AtLeast 4 frame
unfolding frame
frame-least =
    bind-least 1 3 read_byte _ byte-least (λ a. bind-least 1 2 read_byte _ byte-least (λ b. bind-least 1 1 read_byte _ byte-least (λ c. bind-least 1 0 read_byte _ byte-least (λ d.
    bind-least 0 0 (read_bytes (c + 256 * d)) _ (bytes-least (c + 256 * d)) (λ x. pass-least (a ∷ b ∷ c ∷ d ∷ x))))))

pub frame-shortens : Shortens frame
frame-shortens = shortens 4 frame frame-least (omega arith)

-- ---- whether it is there

pub frame-there : (s : Bytes) → two s 2 + 4 ≤ length s → frame s ≡ some (take (two s 2 + 4) s, drop (two s 2 + 4) s)
unfolding frame ◌>>=◌ on_read read_byte pass two
frame-there [] h = absurd (omega arith)
frame-there (a ∷ []) h = absurd (omega arith)
frame-there (a ∷ b ∷ []) h = absurd (omega arith)
frame-there (a ∷ b ∷ c ∷ []) h = absurd (omega arith)
frame-there (a ∷ b ∷ c ∷ d ∷ s) h = rw (bytes-there (c + 256 * d) s (omega arith)) (simp unary_clauses)

pub frame-none : (s : Bytes) → length s < two s 2 + 4 → frame s ≡ none
unfolding frame ◌>>=◌ on_read read_byte two
frame-none [] h = refl
frame-none (a ∷ []) h = refl
frame-none (a ∷ b ∷ []) h = refl
frame-none (a ∷ b ∷ c ∷ []) h = refl
frame-none (a ∷ b ∷ c ∷ d ∷ s) h = rw (bytes-short (c + 256 * d) s (omega arith))

-- a record has at least the four bytes of its head, and the bytes are the record and those behind it
pub record Front (s f r : Bytes) : Type 0 where
  pub least : 4 ≤ length f
  pub states : two s 2 + 4 ≡ length f
  pub inside : length f ≤ length s
  pub front : f ≡ take (length f) s
  pub behind : r ≡ drop (length f) s
  pub joined : s ≡ f ++ r

pub front : (s f r : Bytes) → frame s ≡ some (f, r) → Front s f r
front s f r e = by (leb (two s 2 + 4) (length s)) refl
  where
    by : (b : Bool) → leb (two s 2 + 4) (length s) ≡ b → Front s f r
    by true t =
        let l = leb-true (two s 2 + 4) (length s) t in
        let w : ◌≡◌ {A = Bytes × Bytes} (take (two s 2 + 4) s, drop (two s 2 + 4) s) (f, r) = some-injective _ _ (sym (frame-there s l) ∙ e) in
        let n : two s 2 + 4 ≡ length f = sym (length-take-le (two s 2 + 4) s l) ∙ ap (λ (q : Bytes × Bytes). length q.0) w in
        record {
          least = omega arith;
          states = n;
          inside = omega arith;
          front = ap (λ (q : Bytes × Bytes). q.0) (sym w) ∙ ap (λ (k : ℕ). take k s) n;
          behind = ap (λ (q : Bytes × Bytes). q.1) (sym w) ∙ ap (λ (k : ℕ). drop k s) n;
          joined = sym (take-append-drop (two s 2 + 4) s) ∙ ap (λ (q : Bytes × Bytes). q.0 ++ q.1) w;
        }
    by false t = let z : ◌≡◌ {A = Option (Bytes × Bytes)} none (some (f, r)) = sym (frame-none s (leb-false (two s 2 + 4) (length s) t)) ∙ e in absurd (let y : ◌≡◌ {A = ℕ} 0 1 = cc in omega arith)

pub frame-cut : (s f r : Bytes) → frame s ≡ some (f, r) → (s ≡ f ++ r) × (4 ≤ length f)
frame-cut s f r e = let h = front s f r e in (h.joined, h.least)

-- ---- split there

pub split-there : (s : Bytes) (n : ℕ) (r : code.Option (Bor Bytes × Bor Bytes)) → n ≡ two s 2 + 4
    → MatchOption r (length s < n) (λ p. IsSplitAt s n p.0.now p.1.now) → parts r ≡ frame s
split-there s n None e h = sym (frame-none s (omega arith))
split-there s n (Some p) e h =
    let f = frame-there s (let l = h.0 in omega arith) in
    let x = h.1 in
    let y = h.2 in
    let g : ◌≡◌ {A = Bytes × Bytes} (take n s, drop n s) (take (two s 2 + 4) s, drop (two s 2 + 4) s) = cc in
    cc

pub stands : (s : Bytes) (r : code.Option (Bor Bytes × Bor Bytes)) → parts r ≡ frame s
    → MatchOption r (standing frame s ≡ []) (λ p. standing frame s ≡ p.0.now ∷ standing frame p.1.now)
stands s None e = standing-stop frame frame-shortens s (sym e)
stands s (Some p) e = standing_on frame frame-shortens s p.0.now p.1.now (sym e)
