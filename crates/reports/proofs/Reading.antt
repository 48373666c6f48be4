-- An RP at the front of bytes is eighteen of them, with a mark and a zero in their places; so a walk goes on by eighteen.
-- Assumes nothing.
use Prim.Native.Nat.{ℕ, ◌≤◌}
use native.Mathlib.Omega.{arith}
use lib.Dec.{eqb, leb}
use lib.ListN.{length, drop, get_or}
use borrow.Author.Tests.{leb-true, leb-false}
use mathlib.Core.Path.{◌≡◌, refl, ap, sym, ◌∙◌}
use mathlib.Core.Bool.{Bool, true, false, cond, ◌&&◌, false≢true}
use mathlib.Core.List.{[], ◌∷◌}
use mathlib.Core.Option.{Option, none, some}
use Rattle.std.specs.List.{starts_with}
use Rattle.numbers.specs.Numbers.{four}
use Rattle.tree.specs.Judge.{Report}
use Rattle.records.specs.Readers.{Bytes, on_read, ◌>>=◌, pass, require, read_byte, read_four}
use Rattle.records.proofs.Places.{byte-there, four-there}
use Rattle.session_spec.specs.Definitions.{is_some}
use Rattle.session_spec.specs.Layout.{read_rp}
use Rattle.output_stores.proofs.Walks.{Shortens}
use Rattle.output_stores.proofs.Sizes.{AtLeast, too_short, shortens, bind-least, pass-least, require-least, byte-least, four-least}
use Rattle.lists.proofs.Lists.{eqb_comm}

-- ---- what is read of eighteen bytes

abbrev pub rp_in : Bytes → Report
rp_in s = record { kind = get_or s 2 0; constraint = get_or s 3 0; field = get_or s 4 0; scope = four s 6; event = four s 10; tuple = four s 14 }

marked : Bytes → Bool
marked s = (eqb (get_or s 0 0) 82 && eqb (get_or s 1 0) 80) && eqb (get_or s 5 0) 0

rp-read : (s : Bytes) → 18 ≤ length s → (b : Bool) → marked s ≡ b → read_rp s ≡ cond b (some (rp_in s, drop 18 s)) none
unfolding read_rp ◌>>=◌ on_read require pass marked
rp-read s h true e =
    rw (
      byte-there s 0 (omega arith),
      byte-there s 1 (omega arith),
      byte-there s 2 (omega arith),
      byte-there s 3 (omega arith),
      byte-there s 4 (omega arith),
      byte-there s 5 (omega arith),
      e,
      four-there s 6 (omega arith),
      four-there s 10 (omega arith),
      four-there s 14 (omega arith),
    )
rp-read s h false e =
    rw (
      byte-there s 0 (omega arith),
      byte-there s 1 (omega arith),
      byte-there s 2 (omega arith),
      byte-there s 3 (omega arith),
      byte-there s 4 (omega arith),
      byte-there s 5 (omega arith),
      e,
    )

-- ---- of fewer nothing is

rp-least : AtLeast 18 read_rp
unfolding read_rp
rp-least =
    bind-least 1 17 read_byte _ byte-least (λ a. bind-least 1 16 read_byte _ byte-least (λ b. bind-least 1 15 read_byte _ byte-least (λ k.
    bind-least 1 14 read_byte _ byte-least (λ c. bind-least 1 13 read_byte _ byte-least (λ f. bind-least 1 12 read_byte _ byte-least (λ z.
    bind-least 0 12 (require ((eqb a 82 && eqb b 80) && eqb z 0)) _ (require-least ((eqb a 82 && eqb b 80) && eqb z 0)) (λ u.
    bind-least 4 8 read_four _ four-least (λ s. bind-least 4 4 read_four _ four-least (λ e. bind-least 4 0 read_four _ four-least (λ t.
    pass-least (record { kind = k; constraint = c; field = f; scope = s; event = e; tuple = t })))))))))))

pub rp-shortens : Shortens read_rp
rp-shortens = shortens 18 read_rp rp-least (omega arith)

-- ---- the tests of `is_report`

-- the mark of a report as its two bytes one by one
two-letters : (s : Bytes) → 2 ≤ length s → starts_with eqb s (82 ∷ 80 ∷ []) ≡ (eqb (get_or s 0 0) 82 && eqb (get_or s 1 0) 80)
two-letters [] h = absurd (omega arith)
two-letters (x ∷ []) h = absurd (omega arith)
two-letters (x ∷ y ∷ s) h = rw (eqb_comm 82 x, eqb_comm 80 y) (by (eqb x 82) (eqb y 80))
  where
    by : (t u : Bool) → (t && (u && true)) ≡ (t && u)
    by true true = refl
    by true false = refl
    by false u = refl

pub report-tests : (s : Bytes) → is_some (read_rp s) ≡ (leb 18 (length s) && (starts_with eqb s (82 ∷ 80 ∷ []) && eqb (get_or s 5 0) 0))
unfolding is_some marked
report-tests s = by (leb 18 (length s)) refl
  where
    marks : 18 ≤ length s → (b : Bool) → marked s ≡ b → is_some (read_rp s) ≡ b
    marks h true e = rw (rp-read s h true e)
    marks h false e = rw (rp-read s h false e)

    by : (b : Bool) → leb 18 (length s) ≡ b → is_some (read_rp s) ≡ (b && (starts_with eqb s (82 ∷ 80 ∷ []) && eqb (get_or s 5 0) 0))
    by true e =
        let l = leb-true 18 (length s) e in
        rw (two-letters s (omega (arith, l))) (marks l (marked s) refl)
    by false e = rw (too_short 18 read_rp rp-least s (leb-false 18 (length s) e))

-- ---- a report at the front

pub record Front (s : Bytes) : Type 0 where
  pub long : 18 ≤ length s
  pub reads : read_rp s ≡ some (rp_in s, drop 18 s)

pub front : (s : Bytes) → true ≡ is_some (read_rp s) → Front s
unfolding is_some
front s h = by (leb 18 (length s)) refl
  where
    read : 18 ≤ length s → (b : Bool) → marked s ≡ b → Front s
    read l true e = record { long = l; reads = rp-read s l true e }
    read l false e = absurd (false≢true (sym (h ∙ ap is_some (rp-read s l false e))))

    by : (b : Bool) → leb 18 (length s) ≡ b → Front s
    by true e = let l = leb-true 18 (length s) e in read l (marked s) refl
    by false e = absurd (false≢true (sym (h ∙ ap is_some (too_short 18 read_rp rp-least s (leb-false 18 (length s) e)))))

pub no_front : (s : Bytes) → false ≡ is_some (read_rp s) → read_rp s ≡ none
unfolding is_some
no_front s h = by (read_rp s) refl
  where
    by : (o : Option (Report × Bytes)) → read_rp s ≡ o → o ≡ none
    by none e = refl
    by (some q) e = absurd (false≢true (h ∙ ap is_some e))

-- the numbers read of it, and what stands behind it
pub front-read : (s : Bytes) → true ≡ is_some (read_rp s) → (k c f o e t : ℕ) (rest : Bytes) → k ≡ get_or s 2 0 → c ≡ get_or s 3 0 → f ≡ get_or s 4 0
    → o ≡ four s 6 → e ≡ four s 10 → t ≡ four s 14 → rest ≡ drop 18 s
    → some (record { kind = k; constraint = c; field = f; scope = o; event = e; tuple = t }, rest) ≡ read_rp s
front-read s h k c f o e t rest hk hc hf ho he ht hr = rw (hk, hc, hf, ho, he, ht, hr) (sym (front s h).reads)
