-- The mark and the stated length: what is answered for them, and that what is answered for the body is answered for the record.
-- Assumes nothing.
use Prim.Native.Nat.{ℕ, ◌-◌, ◌≤◌, ◌<◌}
use native.Mathlib.Omega.{arith}
use borrow.Author.Tests.{lt-ltb, le-ltb, eq-eqb, ne_eqb}
use lib.ListN.{length, drop, get_or, length-drop}
use mathlib.Core.Path.{◌≡◌, refl, ap, sym, ◌∙◌}
use mathlib.Core.List.{[], ◌∷◌}
use Rattle.std.proofs.lemmas.List.{drop_more}
use Rattle.numbers.specs.Numbers.{two}
use Rattle.records.specs.Readers.{Bytes}
use Rattle.records.specs.Refusals.{unknown_mark, misframed}
use Rattle.records.specs.Records as records
use Rattle.records.specs.Records.{read_body, mark_of, unparsed, exactly, body, framed, marked, parse}
use Rattle.std.specs.declared.option.Option as code
use Rattle.std.specs.declared.option.Option.TheVariants.{Some, None}
use Rattle.std.specs.declared.result.Result.TheVariants.{Err}
use Rattle.record_places.specs.declared.Mark.{Mark}
use Rattle.record_places.specs.declared.Refusal.TheVariants.{UnknownMark, TooLong, Misframed}
use Rattle.record_places.specs.Places.{Walked, Walks}
use Rattle.record_places.specs.Checks.{mark_by, marked_by}

-- ---- behind the mark

framed-short : (m : records.Mark) (xs : Bytes) → length xs < 2 → framed m xs ≡ unparsed misframed
unfolding framed
framed-short m [] h = refl
framed-short m (a ∷ []) h = refl
framed-short m (a ∷ b ∷ xs) h = absurd (omega arith)

module _ (s : Bytes) (m : records.Mark) where
  pub cut_short : length s < 4 → Walks s (framed m (drop 2 s)) (Err Misframed)
  cut_short h = record { says = sym (framed-short m (drop 2 s) (simp length-drop (omega arith))); inside = tt }

  module _ (h : 4 ≤ length s) (n : ℕ) (e : n ≡ two s 2) where
    framed_is : framed m (drop 2 s) ≡ body m n (drop 4 s)
    unfolding framed two
    framed_is = rw (e, drop_more s 2 0 (omega arith), drop_more s 3 0 (omega arith))

    pub too-long : 16384 < n → Walks s (framed m (drop 2 s)) (Err TooLong)
    unfolding body
    too-long a = record { says = sym (framed_is ∙ rw (lt-ltb 16384 n a)); inside = tt }

    module _ (a : n ≤ 16384) where
      pub not-as-stated : (length s - 4 ≡ n → ⊥) → Walks s (framed m (drop 2 s)) (Err Misframed)
      unfolding body
      not-as-stated b = record { says = sym (framed_is ∙ rw (le-ltb 16384 n a, length-drop 4 s, ne_eqb (length s - 4) n b)); inside = tt }

      pub as-stated : length s - 4 ≡ n → (w : Walked) → Walks s (exactly (read_body m (drop 4 s))) w → Walks s (framed m (drop 2 s)) w
      unfolding body
      as-stated b w f = record { says = f.says ∙ sym (framed_is ∙ rw (le-ltb 16384 n a, length-drop 4 s, eq-eqb (length s - 4) n b)); inside = f.inside }

-- ---- the mark

parse-short : (xs : Bytes) → length xs < 2 → parse xs ≡ unparsed unknown_mark
unfolding parse
parse-short [] h = refl
parse-short (a ∷ []) h = refl
parse-short (a ∷ b ∷ xs) h = absurd (omega arith)

module _ (s : Bytes) where
  pub no-mark : length s < 2 → Walks s (parse s) (Err UnknownMark)
  no-mark h = record { says = sym (parse-short s h); inside = tt }

  module _ (h : 2 ≤ length s) (r : code.Option Mark) (e : marked_by r ≡ mark_of (get_or s 0 0) (get_or s 1 0)) where
    parse-is : parse s ≡ marked (marked_by r) (drop 2 s)
    unfolding parse
    parse-is = ap parse (drop_more s 0 0 (omega arith) ∙ ap (λ (l : Bytes). get_or s 0 0 ∷ l) (drop_more s 1 0 (omega arith))) ∙ rw e

    pub unknown-mark : r ≡ None → Walks s (parse s) (Err UnknownMark)
    unfolding marked
    unknown-mark d = record { says = sym (parse-is ∙ ap (λ (x : code.Option Mark). marked (marked_by x) (drop 2 s)) d); inside = tt }

    pub known-mark : (m : Mark) → r ≡ Some m → (w : Walked) → Walks s (framed (mark_by m) (drop 2 s)) w → Walks s (parse s) w
    unfolding marked
    known-mark m d w f = record { says = f.says ∙ sym (parse-is ∙ ap (λ (x : code.Option Mark). marked (marked_by x) (drop 2 s)) d); inside = f.inside }

-- ---- the body, by the mark

pub mark-is : (s : Bytes) (m k : Mark) → m ≡ k → (w : Walked) → Walks s (exactly (read_body (mark_by k) (drop 4 s))) w → Walks s (exactly (read_body (mark_by m) (drop 4 s))) w
mark-is s m k e w f = rw e f
