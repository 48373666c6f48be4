-- Runs of characters by the place where they end: the first character that is none of the run. A run of name characters alone is an NCName's.
-- Assumes nothing.
use Prim.Native.Nat.{ℕ, suc, ◌+◌, ◌-◌, ◌≤◌, ◌<◌}
use native.Mathlib.Omega.{arith}
use lib.Dec.{eqb, ltb}
use borrow.Author.Tests.{eq-eqb, ne_eqb, eqb-true, eqb-false, lt-ltb, le-ltb, ltb-true, ltb-false}
use lib.ListN.{length, take, drop, get_or, length-drop}
use mathlib.Core.Path.{◌≡◌, refl, ap, sym, ◌∙◌}
use mathlib.Core.Bool.{Bool, true, false, cond, not, ◌&&◌}
use mathlib.Core.List.{List, [], ◌∷◌}
use native.Mathlib.Numerals.{one-add}
use Rattle.std.proofs.lemmas.List.{take_rest}
use Rattle.std.proofs.Math.Option.{none, some}
use Rattle.std.specs.declared.option.Option as code
use Rattle.std.specs.declared.option.Option.TheVariants.{Some, None}
use Rattle.std.specs.declared.result.Result.TheVariants.{Ok, Err}
use Rattle.std.specs.Option.{unwrap_or, ok_or}
use Rattle.std.specs.List.{position_or_len}
use Rattle.std.proofs.lemmas.List.Recursion.{is_position_or_len}
use Rattle.lists.specs.Lists.{all}
use Rattle.lists.specs.Answers.{given}
use Rattle.characters.specs.Spaces.{xml_space}
use Rattle.characters.specs.Names.{name_start, name_char}
use Rattle.ncname.specs.NCName.{nc_name}
use Rattle.grammar.specs.Tokens.{Points}
use Rattle.reasons.specs.Reasons.{run_char, run}
use Rattle.reasons.proofs.Chars.{run_fits, char-runs}
use Rattle.tokens.specs.declared.Reason.{Reason}
use Rattle.tokens.specs.declared.Reason.TheVariants.{NoNCName}
use Rattle.tokens.specs.Places.{gap_length, run_of, name_of}

-- ---- the place of the first member that passes a test, or else the length

place-fits : {X : Type 0} (p : X → Bool) (xs : List X) → position_or_len p xs ≤ length xs
place-fits p [] = omega arith
place-fits p (x ∷ xs) = by (p x) (place-fits p xs)
  where
    by : (b : Bool) → position_or_len p xs ≤ length xs → cond (not b) (1 + position_or_len p xs) 0 ≤ suc (length xs)
    by true h = omega arith
    by false h = omega arith

pub place : {X : Type 0} (p : X → Bool) (xs : List X) (o : code.Option ℕ) (r : ℕ) → o ≡ cond (ltb (position_or_len p xs) (length xs)) (Some (position_or_len p xs)) None
    → r ≡ unwrap_or o (length xs) → r ≡ position_or_len p xs
place p xs o r e q = by (ltb (position_or_len p xs) (length xs)) refl (q ∙ ap (λ (w : code.Option ℕ). unwrap_or w (length xs)) e)
  where
    by : (b : Bool) → ltb (position_or_len p xs) (length xs) ≡ b → r ≡ unwrap_or (cond b (Some (position_or_len p xs)) None) (length xs) → r ≡ position_or_len p xs
    by true g h = h
    by false g h = let a = ltb-false (position_or_len p xs) (length xs) g in let f = place-fits p xs in omega arith

-- ---- white space

pub gap-place : (s : Points) → position_or_len (λ c. not (xml_space c)) s ≡ gap_length s
unfolding gap_length
gap-place s = sym (is_position_or_len gap_length (λ c. not (xml_space c)) refl (λ c t. by (xml_space c) (gap_length t)) s)
  where
    by : (b : Bool) (n : ℕ) → cond b (suc n) 0 ≡ cond (not b) 0 (1 + n)
    by true n = omega arith
    by false n = refl

-- white space of length 0: the first character is none
pub gap-not : (c : ℕ) (s : Points) → gap_length (c ∷ s) ≡ 0 → xml_space c ≡ false
unfolding gap_length
gap-not c s g = by (xml_space c) refl
  where
    by : (b : Bool) → xml_space c ≡ b → xml_space c ≡ false
    by true e = let q : suc (gap_length s) ≡ 0 = rw e at g in absurd (omega arith)
    by false e = e

-- all is white space exactly if no character stands behind the first of it
pub gap-all : (s : Points) → eqb (gap_length s) (length s) ≡ all xml_space s
unfolding gap_length
gap-all [] = refl
gap-all (c ∷ s) = by (gap-all s) (xml_space c)
  where
    by : eqb (gap_length s) (length s) ≡ all xml_space s → (b : Bool) → eqb (cond b (suc (gap_length s)) 0) (suc (length s)) ≡ (b && all xml_space s)
    by rec true = step (eqb (gap_length s) (length s)) refl ∙ rec
      where
        step : (b : Bool) → eqb (gap_length s) (length s) ≡ b → eqb (suc (gap_length s)) (suc (length s)) ≡ b
        step true e = eq-eqb (suc (gap_length s)) (suc (length s)) (ap suc (eqb-true (gap_length s) (length s) e))
        step false e = ne_eqb (suc (gap_length s)) (suc (length s)) (λ q. eqb-false (gap_length s) (length s) e (omega arith))
    by rec false = ne_eqb 0 (suc (length s)) (omega arith)

-- ---- a run of name characters

-- where the first character stands that is none of a name
abbrev pub name_end : Points → ℕ
name_end s = position_or_len (λ c. not (name_char c)) s

both-more : (b t : Bool) (r n : ℕ) → cond b (some r) none ≡ cond t none (some n) → cond b (some (suc r)) none ≡ cond t none (some (suc n))
both-more true true r n e = cc
both-more true false r n e = let q : r ≡ n = cc in cc
both-more false true r n e = refl
both-more false false r n e = cc

same-less : (n m : ℕ) → ltb (suc n) (suc m) ≡ ltb n m
same-less n m = by (ltb n m) refl
  where
    by : (b : Bool) → ltb n m ≡ b → ltb (suc n) (suc m) ≡ b
    by true e = lt-ltb (suc n) (suc m) (let h = ltb-true n m e in omega arith)
    by false e = let h = ltb-false n m e in le-ltb (suc n) (suc m) (omega arith)

-- the run goes on there exactly if it holds what is no name character
pub run-by : (s : Points) → run_of s ≡ cond (ltb (name_end s) (length s) && run_char (get_or s (name_end s) 0)) none (some (name_end s))
unfolding run
run-by [] = refl
run-by (c ∷ s) = by (name_char c) refl (run-by s)
  where
    stop : name_char c ≡ false → (b : Bool) → cond (all name_char (take (cond b (suc (run s)) 0) (c ∷ s))) (some (cond b (suc (run s)) 0)) none ≡ cond b none (some 0)
    stop e true = rw e
    stop e false = refl

    by : (b : Bool) → name_char c ≡ b → run_of s ≡ cond (ltb (name_end s) (length s) && run_char (get_or s (name_end s) 0)) none (some (name_end s))
        → run_of (c ∷ s) ≡ cond (ltb (name_end (c ∷ s)) (length (c ∷ s)) && run_char (get_or (c ∷ s) (name_end (c ∷ s)) 0)) none (some (name_end (c ∷ s)))
    by true e rec = rw (char-runs c e, e, one-add (name_end s), same-less (name_end s) (length s)) (both-more _ (ltb (name_end s) (length s) && run_char (get_or s (name_end s) 0)) (run s) (name_end s) rec)
    by false e rec = rw (e, lt-ltb 0 (suc (length s)) (omega arith)) (stop e (run_char c))

module _ (s : Points) (n : ℕ) (q : n ≡ name_end s) where
  pub run-over : n < length s → run_char (get_or s n 0) ≡ true → none ≡ run_of s
  run-over h g = sym (run-by s ∙ rw (← q, lt-ltb n (length s) h, g))

  pub run-whole : length s ≤ n → some n ≡ run_of s
  run-whole h = sym (run-by s ∙ rw (← q, le-ltb n (length s) h))

  pub run-ends : n < length s → run_char (get_or s n 0) ≡ false → some n ≡ run_of s
  run-ends h g = sym (run-by s ∙ rw (← q, lt-ltb n (length s) h, g))

-- ---- the first character and the run behind it

pub name-no_start : (s : Points) → name_start (get_or s 0 0) ≡ false → Err NoNCName ≡ name_of s
unfolding nc_name
name-no_start s e = rw e

pub name-run : (s : Points) → name_start (get_or s 0 0) ≡ true → (o : code.Option ℕ) → given o ≡ run_of (take (length s - 1) (drop 1 s)) → ok_or o NoNCName ≡ name_of s
unfolding nc_name
name-run s e o f = rw e (by (all name_char (take (run (drop 1 s)) (drop 1 s))) o (rw (take_rest s 1) at f))
  where
    by : (b : Bool) (o : code.Option ℕ) → given o ≡ cond b (some (run (drop 1 s))) none → ok_or o NoNCName ≡ cond b (Ok (run (drop 1 s))) (Err NoNCName)
    by true (Some n) g = cc
    by true None g = cc
    by false (Some n) g = cc
    by false None g = refl

pub named-is : (t : Points) (m : ℕ) → Ok m ≡ name_of t → (m ≡ run (drop 1 t)) × (nc_name (get_or t 0 0 ∷ take (run (drop 1 t)) (drop 1 t)) ≡ true)
named-is t m = by (nc_name (get_or t 0 0 ∷ take (run (drop 1 t)) (drop 1 t)))
  where
    by : (b : Bool) → Ok m ≡ cond b (Ok (run (drop 1 t))) (Err NoNCName) → (m ≡ run (drop 1 t)) × (b ≡ true)
    by true e = (cc, refl)
    by false e = cc

pub unnamed-is : (t : Points) (k : Reason) → Err k ≡ name_of t → (k ≡ NoNCName) × (nc_name (get_or t 0 0 ∷ take (run (drop 1 t)) (drop 1 t)) ≡ false)
unnamed-is t k = by (nc_name (get_or t 0 0 ∷ take (run (drop 1 t)) (drop 1 t)))
  where
    by : (b : Bool) → Err k ≡ cond b (Ok (run (drop 1 t))) (Err NoNCName) → (k ≡ NoNCName) × (b ≡ false)
    by true e = cc
    by false e = (cc, refl)

-- a name at a place of a text fits into it
pub named-room : (s : Points) (k m : ℕ) → Ok m ≡ name_of (take (length s - k) (drop k s)) → k < length s → k + m + 1 ≤ length s
named-room s k m e h =
    let q = (named-is (take (length s - k) (drop k s)) m e).0 in
    let f : m ≡ run (drop 1 (drop k s)) = rw (take_rest s k) at q in
    let g = run_fits (drop 1 (drop k s)) in
    let l : length (drop 1 (drop k s)) ≡ length (drop k s) - 1 = length-drop 1 (drop k s) in
    let d : length (drop k s) ≡ length s - k = length-drop k s in
    omega arith
