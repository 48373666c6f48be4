-- How many scopes stay open: those before the first that `position` finds at the depth; and in a session these are the scopes of the other elements, because they come first.
-- Assumes nothing.
use Prim.Native.Nat.{ℕ, suc, ◌+◌}
use native.Mathlib.Omega.{arith}
use borrow.Author.Tests.{eq-eqb, ne_eqb, eqb-false, ltb-false, not-true}
use lib.Dec.{eqb, ltb}
use lib.ListN.{length}
use mathlib.Core.Path.{◌≡◌, refl, ap, sym, ◌∙◌}
use mathlib.Core.Bool.{Bool, true, false, cond, not}
use mathlib.Core.List.{List, [], ◌∷◌, ◌++◌, map}
use Rattle.std.specs.Prelude.{position, Some, None}
use Rattle.std.specs.List.{position_or_len}
use Rattle.std.specs.Option.{unwrap_or}
use Rattle.std.specs.declared.option.Option as code
use Rattle.std.proofs.lemmas.List.Sums.{prefix_len-le-length}
use Rattle.std.proofs.lemmas.List.Recursion.{is_position_or_len}
use Rattle.lists.specs.Lists.{passing, All}
use Rattle.lists.proofs.Folds.{All-weaken}
use Rattle.lists.proofs.Places.{All-of, All-passing}
use Rattle.machine.specs.Machine.{OpenScope}
use Rattle.session_spec.specs.Layout.{ScopeRecord, put_scope}
use Rattle.open_scopes.specs.declared.Scope.{Scope}
use Rattle.open_scopes.specs.OpenScopes.{record_of}
use Rattle.event_answers.specs.Ending.{left_open}

-- ---- the first scope at a depth, or the end

module _ (depth : ℕ) where
  abbrev pub at-depth : Scope → Bool
  at-depth s = eqb s.depth depth

  left-first : (l : List Scope) → position_or_len at-depth l ≡ left_open depth l
  unfolding left_open
  left-first l = sym (is_position_or_len (left_open depth) at-depth refl (λ x xs. by (at-depth x) (left_open depth xs)) l)
    where
      by : (b : Bool) (n : ℕ) → cond b 0 (suc n) ≡ cond b 0 (1 + n)
      by true n = refl
      by false n = omega arith

  -- what stays open is what `position` finds, and all where it finds none
  pub first-left : (l : List Scope) (o : code.Option ℕ) (end r : ℕ) → o ≡ position at-depth l → end ≡ length l → r ≡ unwrap_or o end → r ≡ left_open depth l
  first-left l o end r e k q =
      q
      ∙ ap (unwrap_or o) k
      ∙ ap (λ (x : code.Option ℕ). unwrap_or x (length l)) e
      ∙ by (ltb (position_or_len at-depth l) (length l)) refl
      ∙ left-first l
    where
      by : (b : Bool) → ltb (position_or_len at-depth l) (length l) ≡ b → unwrap_or (cond b (Some (position_or_len at-depth l)) None) (length l) ≡ position_or_len at-depth l
      by true f = refl
      by false f =
          let n = prefix_len-le-length (λ x. not (at-depth x)) l in
          let m = ltb-false (position_or_len at-depth l) (length l) f in
          omega arith

-- ---- in a session

-- scopes of other elements, and behind them those of the one at this depth
pub left_is : (depth : ℕ) (l : List Scope) (xs ys : List OpenScope) → map record_of l ≡ map put_scope (xs ++ ys)
    → All (λ (o : OpenScope). o.depth ≡ depth → ⊥) xs → All (λ (o : OpenScope). o.depth ≡ depth) ys → left_open depth l ≡ length xs
unfolding left_open put_scope
left_is depth [] [] ys e a b = refl
left_is depth [] (x ∷ xs) ys e a b = let z : ◌≡◌ {A = ℕ} 0 1 = cc in absurd (omega arith)
left_is depth (s ∷ l) [] [] e a b = let z : ◌≡◌ {A = ℕ} 0 1 = cc in absurd (omega arith)
left_is depth (s ∷ l) [] (y ∷ ys) e a b =
    let q : record_of s ≡ put_scope y = cc in
    let d : s.depth ≡ depth = ap (λ (r : ScopeRecord). r.depth) q ∙ b.0 in
    rw (eq-eqb s.depth depth d)
left_is depth (s ∷ l) (x ∷ xs) ys e a b =
    let q : record_of s ≡ put_scope x = cc in
    let t : map record_of l ≡ map put_scope (xs ++ ys) = cc in
    let d : s.depth ≡ x.depth = ap (λ (r : ScopeRecord). r.depth) q in
    rw (ne_eqb s.depth depth (λ z. a.0 (sym d ∙ z)), left_is depth l xs ys t a.1 b)

pub apart : (depth : ℕ) (os : List OpenScope) → All (λ (o : OpenScope). o.depth ≡ depth → ⊥) (passing (λ (o : OpenScope). not (eqb o.depth depth)) os)
apart depth os =
    All-weaken (λ (o : OpenScope). Unit {0} × (not (eqb o.depth depth) ≡ true)) (λ (o : OpenScope). o.depth ≡ depth → ⊥)
    (λ o h. eqb-false o.depth depth (not-true (eqb o.depth depth) h.1)) (passing (λ (o : OpenScope). not (eqb o.depth depth)) os)
    (All-passing (λ (o : OpenScope). Unit {0}) (λ (o : OpenScope). not (eqb o.depth depth)) os (All-of (λ (o : OpenScope). Unit {0}) (λ o. tt) os))
