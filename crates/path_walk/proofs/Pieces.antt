-- The alternatives of a text as the library cuts it: what is left to yield, from turn to turn.
-- Assumes nothing.
use Prim.Native.Nat.{ℕ}
use native.Mathlib.Omega.{arith}
use lib.Dec.{eqb}
use lib.ListN.{length, get_or}
use denote.Param.Members.{Mut}
use denote.Ref.{Bor}
use mathlib.Core.Path.{◌≡◌, refl, ap, sym, subst, ◌∙◌}
use mathlib.Core.Bool.{Bool, true, false, cond}
use mathlib.Core.List.{List, [], ◌∷◌, ◌++◌}
use Rattle.std.specs.Bool.{MatchBool}
use Rattle.std.specs.Fn.{ComputesKey, CalledAt}
use Rattle.std.specs.List.{All, slice_split, IsFirstMatchOrLen}
use Rattle.std.specs.Slice.Iter as slice
use Rattle.std.specs.declared.slice.Split.{Split}
use Rattle.std.specs.declared.option.Option.TheVariants.{Some}
use Rattle.std.proofs.lemmas.Fn.{always_returns_same}
use Rattle.std.proofs.lemmas.Grind.{common_steps}
use Rattle.std.proofs.lemmas.List.Splits.{slice_split_none, slice_split_at}
use Rattle.grammar.specs.Tokens.{Points}
use Rattle.reasons.specs.Reasons.{split_at}
use Rattle.prefixes.proofs.Words.{pieces}

-- ---- what is left to yield

abbrev pub left : {F : Type 0} → ℕ → Split ℕ F → List Points
left d t = cond (slice.split_done t) [] (split_at d (slice.split_rest t))

part_off : (p : ℕ → Bool) (xs x rest : Points) (done : Bool) → MatchBool done (xs ≡ x) ((y : ℕ) × (xs ≡ x ++ (y ∷ rest))) → IsFirstMatchOrLen p xs (length x)
    → slice_split p xs ≡ x ∷ cond done [] (slice_split p rest)
part_off p xs x rest true e h = ap (slice_split p) e ∙ slice_split_none p x (λ k d l. subst (λ ys. p (get_or ys k d) ≡ false) e (h.0 k d (omega arith) l))
part_off p xs x rest false e h =
    let front : All (λ z. p z ≡ false) x = λ k d l. let a = h.0 k d (omega arith) l in let b = e.1 in grind (arith, common_steps) in
    let hit : p e.0 ≡ true = let b = e.1 in let a = h.1 (grind (arith, common_steps)) e.0 in grind (arith, common_steps) in
    ap (slice_split p) e.1 ∙ slice_split_at p x e.0 rest front hit

pub left_none : {F : Type 0} (d : ℕ) (s : Split ℕ F) → slice.split_done s ≡ true → left d s ≡ []
left_none d s e = ap (λ (b : Bool). cond b [] (split_at d (slice.split_rest s))) e

module _ {F : Type 0} (d : ℕ) (g : Mut F (Bor ℕ × Unit {0}) Bool) (s t : Split ℕ F) where
  pub left-some : (x : Bor Points) → ((y : ℕ) (b : Bool) (q : F) → CalledAt g (slice.split_callee s) y b q → (q ≡ slice.split_callee s) × (b ≡ eqb y d)) → slice.split_steps g s (Some x) t
      → left d s ≡ x.now ∷ left d t
  left-some x tests k =
      let p = λ (c : ℕ). eqb c d in
      let key : ComputesKey g p (slice.split_callee s) = always_returns_same g (λ a r. r ≡ p a.0.now) (slice.split_callee s) (λ a r q k. let m = tests a.0.now r q (record { shown = a.0; shows = refl; called = k }) in (m.1, m.0)) in
      ap (λ (b : Bool). cond b [] (split_at d (slice.split_rest s))) k.0
      ∙ sym (pieces d (slice.split_rest s))
      ∙ part_off p _ x.now _ (slice.split_done t) k.1 (k.2 p key).1
      ∙ ap (λ (ps : List Points). x.now ∷ cond (slice.split_done t) [] ps) (pieces d (slice.split_rest t))
