-- The dispatcher's search: bit after bit, the byte without its lowest bits says who waits from there on.
-- Assumes nothing.
use Prim.Native.Nat.{ℕ, zero, suc, ◌+◌, ◌/◌, ◌^◌, ◌≤◌, ◌<◌, min}
use native.Mathlib.Omega.{arith}
use borrow.Author.Tests.{leb-true, le-leb, eqb-true, eq-eqb, ltb-true, ltb-false}
use lib.Dec.{eqb, leb, ltb}
use lib.ListN.{length}
use mathlib.Core.Path.{◌≡◌, refl, ap, sym, ◌∙◌}
use mathlib.Core.Bool.{Bool, true, false, cond, ◌&&◌}
use mathlib.Core.Option.{Option, none, some, or_else}
use Rattle.std.specs.declared.option.Option as code
use Rattle.std.specs.declared.option.Option.TheVariants.{Some, None}
use Rattle.std.specs.Int.{bit_at}
use Rattle.std.specs.Option.{MatchOption}
use Rattle.std.proofs.lemmas.Nat.{shr-shr}
use Rattle.allowance.specs.Dispatcher.{waiting_from, lowest_waiting, next_job, bits_from, waiting_in}
use Rattle.allowance.proofs.Fair.{last-past}
use Rattle.print_jobs.specs.Answers.{named_in}

-- ---- bit after bit

one-bit : (from w n k : ℕ) → waiting_from from n (bits_from (suc k) (w / 2 ^ n)) ≡ cond (eqb (bit_at w n) 1 && leb from n) (some n) (waiting_from from (suc n) (bits_from k (w / 2 ^ suc n)))
unfolding bits_from waiting_from
one-bit from w n k =
    ap (λ (b : ℕ). cond (eqb (bit_at w n) 1 && leb from n) (some n) (waiting_from from (suc n) (bits_from k b)))
    (shr-shr w n 1 ∙ ap (λ (e : ℕ). w / 2 ^ e) (omega arith))

is-passed : (from w n : ℕ) → (from ≤ n → bit_at w n ≡ 1 → ⊥) → (eqb (bit_at w n) 1 && leb from n) ≡ false
is-passed from w n h = by (eqb (bit_at w n) 1) refl (leb from n) refl
  where
    by : (b : Bool) → eqb (bit_at w n) 1 ≡ b → (d : Bool) → leb from n ≡ d → (b && d) ≡ false
    by true e true f = absurd (h (leb-true from n f) (eqb-true (bit_at w n) 1 e))
    by true e false f = refl
    by false e d f = refl

-- none of the bits that are left
seek_none : (from w k n : ℕ) → ((m : ℕ) → from ≤ m → m < n + k → bit_at w m ≡ 1 → ⊥) → none ≡ waiting_from from n (bits_from k (w / 2 ^ n))
seek_none from w zero n h = unfold bits_from waiting_from in refl
seek_none from w (suc k) n h =
    seek_none from w k (suc n) (λ m l b e. h m l (omega (arith, b)) e)
    ∙ sym (one-bit from w n k ∙ ap (λ (b : Bool). cond b (some n) (waiting_from from (suc n) (bits_from k (w / 2 ^ suc n)))) (is-passed from w n (λ l e. h n l (omega arith) e)))

-- the first of the bits that are left
seek-first : (from w i : ℕ) → from ≤ i → bit_at w i ≡ 1 → ((m : ℕ) → from ≤ m → m < i → bit_at w m ≡ 1 → ⊥)
    → (k n : ℕ) → n ≤ i → i < n + k → some i ≡ waiting_from from n (bits_from k (w / 2 ^ n))
seek-first from w i f e h zero n l m = absurd (omega (arith, l, m))
seek-first from w i f e h (suc k) n l m =
    by (ltb n i) refl (λ below. seek-first from w i f e h k (suc n) (omega (arith, below)) (omega (arith, m)))
  where
    turn : (b : Bool) → (eqb (bit_at w n) 1 && leb from n) ≡ b → waiting_from from n (bits_from (suc k) (w / 2 ^ n)) ≡ cond b (some n) (waiting_from from (suc n) (bits_from k (w / 2 ^ suc n)))
    turn b t = one-bit from w n k ∙ ap (λ (c : Bool). cond c (some n) (waiting_from from (suc n) (bits_from k (w / 2 ^ suc n)))) t

    by : (b : Bool) → ltb n i ≡ b → (n < i → some i ≡ waiting_from from (suc n) (bits_from k (w / 2 ^ suc n))) → some i ≡ waiting_from from n (bits_from (suc k) (w / 2 ^ n))
    by true t on =
        let below = ltb-true n i t in
        on below ∙ sym (turn false (is-passed from w n (λ a b. h n a below b)))
    by false t on =
        let above = ltb-false n i t in
        let here : n ≡ i = omega (arith, above, l) in
        let set_here : (eqb (bit_at w n) 1 && leb from n) ≡ true = rw (here, eq-eqb (bit_at w i) 1 e, le-leb from i f) refl in
        sym (turn true set_here ∙ ap some here)

-- what the search over the numbers names
pub seek-named : (waiting from : ℕ) (r : code.Option ℕ)
    → MatchOption r ((k : ℕ) → from ≤ k → k < 8 → bit_at waiting k ≡ 1 → ⊥) (λ i. (from ≤ i) × (i < 8) × (bit_at waiting i ≡ 1) × ((k : ℕ) → from ≤ k → k < i → bit_at waiting k ≡ 1 → ⊥))
    → named_in r ≡ waiting_from from 0 (waiting_in waiting)
seek-named waiting from None h = seek_none from waiting 8 0 (λ m l b e. h m l b e) ∙ ap (λ (b : ℕ). waiting_from from 0 (bits_from 8 b)) (omega arith)
seek-named waiting from (Some i) h =
    seek-first from waiting i h.0 h.2 h.3 8 0 (omega arith) (omega (arith, h.1))
    ∙ ap (λ (b : ℕ). waiting_from from 0 (bits_from 8 b)) (omega arith)

-- ---- the one above, else the lowest

eight-bits : (waiting : ℕ) → length (waiting_in waiting) ≡ 8
unfolding bits_from
eight-bits waiting = refl

next_past : (waiting last : ℕ) → 8 ≤ last → next_job (some last) (waiting_in waiting) ≡ waiting_from 0 0 (waiting_in waiting)
next_past waiting last h =
    let l = eight-bits waiting in
    last-past last (waiting_in waiting) (omega (arith, h, l)) ∙ unfold next_job lowest_waiting in refl

none-else : (x : Option ℕ) → or_else none x ≡ x
unfolding or_else
none-else x = refl

next_within : (waiting last : ℕ) → next_job (some last) (waiting_in waiting) ≡ or_else (waiting_from (suc last) 0 (waiting_in waiting)) (waiting_from 0 0 (waiting_in waiting))
unfolding next_job lowest_waiting
next_within waiting last = refl

-- one past the last in 32 bits: at the greatest number it stays, and nobody waits there either
next-by : (waiting last next : ℕ) → next ≡ min (last + 1) 4294967295 → next_job (some last) (waiting_in waiting) ≡ or_else (waiting_from next 0 (waiting_in waiting)) (waiting_from 0 0 (waiting_in waiting))
next-by waiting last next e = by (ltb last 4294967295) refl
  where
    by : (b : Bool) → ltb last 4294967295 ≡ b → next_job (some last) (waiting_in waiting) ≡ or_else (waiting_from next 0 (waiting_in waiting)) (waiting_from 0 0 (waiting_in waiting))
    by true t =
        let below = ltb-true last 4294967295 t in
        let z : suc last ≡ next = omega (arith, below, e) in
        next_within waiting last ∙ ap (λ (k : ℕ). or_else (waiting_from k 0 (waiting_in waiting)) (waiting_from 0 0 (waiting_in waiting))) z
    by false t =
        let above = ltb-false last 4294967295 t in
        let far : 8 ≤ next = omega (arith, above, e) in
        let z : waiting ≡ waiting / 2 ^ 0 = omega arith in
        let past : none ≡ waiting_from next 0 (waiting_in waiting) =
        seek_none next waiting 8 0 (λ m l b h. absurd (omega (arith, l, b, far))) ∙ ap (λ (b : ℕ). waiting_from next 0 (bits_from 8 b)) (sym z) in
        next_past waiting last (omega (arith, above))
        ∙ sym (none-else (waiting_from 0 0 (waiting_in waiting)))
        ∙ ap (λ (x : Option ℕ). or_else x (waiting_from 0 0 (waiting_in waiting))) past

pub next-named : (waiting last next : ℕ) → next ≡ min (last + 1) 4294967295 → (o : code.Option ℕ) → named_in o ≡ waiting_from next 0 (waiting_in waiting)
    → (r : code.Option ℕ) (F : Type 0) → (F → named_in r ≡ waiting_from 0 0 (waiting_in waiting)) → MatchOption o F (λ x. r ≡ Some x) → named_in r ≡ next_job (some last) (waiting_in waiting)
unfolding or_else
next-named waiting last next e None n r F f h = f h ∙ sym (next-by waiting last next e ∙ ap (λ (x : Option ℕ). or_else x (waiting_from 0 0 (waiting_in waiting))) (sym n))
next-named waiting last next e (Some k) n r F f h = ap named_in h ∙ sym (next-by waiting last next e ∙ ap (λ (x : Option ℕ). or_else x (waiting_from 0 0 (waiting_in waiting))) (sym n))
