-- Whether '::' stands first: by the first two characters behind the white space, since no other token begins with ':'.
-- Assumes nothing.
use Prim.Native.Nat.{ℕ, ◌+◌, ◌-◌}
use native.Mathlib.Omega.{arith}
use lib.Dec.{eqb}
use denote.Ref.{Bor}
use lib.ListN.{length, take, drop, length-drop}
use lib.Seq.{drop-drop}
use borrow.Author.Tests.{ne_eqb, eqb-true, eqb-false}
use mathlib.Core.Path.{◌≡◌, refl, ap, sym, ◌∙◌}
use mathlib.Core.Bool.{Bool, true, false, cond, not, ◌&&◌}
use mathlib.Core.List.{List, [], ◌∷◌}
use mathlib.Core.Option.{none}
use Rattle.std.proofs.lemmas.List.{take_rest}
use Rattle.characters.specs.Ranges.{in_ranges}
use Rattle.characters.specs.Spaces.{xml_space}
use Rattle.ncname.specs.NCName.{nc_name}
use Rattle.grammar.specs.Tokens.{Points, Token}
use Rattle.grammar.specs.Tokens.Token.{colons, bar}
use Rattle.reasons.specs.Reasons.{run_start, run, begins, Scan, slash_first, colon_first, after_prefix, after_name, name_first, scan, axis_test}
use Rattle.tokens.specs.Places.{gap_length, ahead, tokens_from, tokens_in}
use Rattle.tokens.proofs.Runs.{gap-not}
use Rattle.tokens.proofs.Firsts.{from-gap, gap-past}
use Rattle.std.specs.Option.{MatchOption}
use Rattle.std.specs.declared.option.Option as code
use Rattle.std.specs.declared.option.Option.TheVariants.{Some, None}
use Rattle.path_steps.specs.Steps.{ColonsTo}

-- ---- what stands first is no '::'

-- however it goes on, no name test stands behind '::'
abbrev NoAxis : Scan → Type 0
NoAxis f = (next : ℕ → List Token) → axis_test (ahead f next) ≡ none

cond-keeps : (b : Bool) (x y : Scan) → NoAxis x → NoAxis y → NoAxis (cond b x y)
cond-keeps true x y h g = h
cond-keeps false x y h g = g

prefix-other : (p : Points) (n : ℕ) (s : Points) → NoAxis (after_prefix p n s)
unfolding after_prefix
prefix-other p n [] = λ next. refl
prefix-other p n (c ∷ s) =
    cond-keeps (eqb c 42) _ _ (λ next. refl) (cond-keeps (run_start c) _ _ (cond-keeps (nc_name (c ∷ take (run s) s)) _ _ (λ next. refl) (λ next. refl)) (λ next. refl))

after-other : (p : Points) (n : ℕ) (s : Points) → NoAxis (after_name p n s)
unfolding after_name
after-other p n [] = λ next. refl
after-other p n (c ∷ s) = cond-keeps (eqb c 58 && not (begins 58 s)) _ _ (prefix-other p n s) (λ next. refl)

-- a first character that is neither white space nor ':'
other-first : (c : ℕ) (s : Points) → xml_space c ≡ false → (c ≡ 58 → ⊥) → NoAxis (scan (c ∷ s))
unfolding scan slash_first name_first
other-first c s h d =
    rw (h, ne_eqb c 58 d)
    (cond-keeps (eqb c 47) _ _ (cond-keeps (begins 47 s) _ _ (λ next. refl) (λ next. refl))
    (cond-keeps (eqb c 64) _ _ (λ next. refl)
    (cond-keeps (eqb c 42) _ _ (λ next. refl)
    (cond-keeps (eqb c 46) _ _ (λ next. refl)
    (cond-keeps (run_start c) _ _ (cond-keeps (nc_name (c ∷ take (run s) s)) _ _ (after-other _ _ _) (λ next. refl)) (λ next. refl))))))

-- ---- ':' first

half-colons : (s : Points) → begins 58 s ≡ false → tokens_in (58 ∷ s) ≡ bar ∷ []
unfolding tokens_from scan xml_space in_ranges colon_first
half-colons s h = rw h

whole-colons : (s : Points) → tokens_in (58 ∷ 58 ∷ s) ≡ colons ∷ tokens_in s
unfolding tokens_from scan xml_space in_ranges colon_first begins
whole-colons s = refl

-- one colon, and no second one
only-one : (l : Points) → ((b : Points) → l ≡ 58 ∷ b → ⊥) → begins 58 l ≡ false
unfolding begins
only-one [] h = refl
only-one (d ∷ m) h = ne_eqb d 58 (λ q. h m (ap (λ (n : ℕ). n ∷ m) q))

-- ---- what the code asks: whether the text behind the white space starts with the two

module _ (s : Points) (i : ℕ) (g : i ≡ gap_length s) where
  no-space : (c : ℕ) (l : Points) → drop i s ≡ c ∷ l → xml_space c ≡ false
  no-space c l e = gap-not c l (rw (take_rest s i, e) at (gap-past s i g))

  no-colons : (l : Points) → drop i s ≡ l → ((b : Points) → l ≡ 58 ∷ 58 ∷ b → ⊥) → axis_test (tokens_in l) ≡ none
  unfolding tokens_from
  no-colons [] e h = refl
  no-colons (c ∷ l) e h = by (eqb c 58) refl
    where
      by : (b : Bool) → eqb c 58 ≡ b → axis_test (tokens_in (c ∷ l)) ≡ none
      by false t = other-first c l (no-space c l e) (eqb-false c 58 t) (λ n. tokens_from n l)
      by true t =
          let q = eqb-true c 58 t in
          ap (λ (n : ℕ). axis_test (tokens_in (n ∷ l))) q
          ∙ ap axis_test (half-colons l (only-one l (λ b z. h b (ap (λ (n : ℕ). n ∷ l) q ∙ ap (λ (m : Points). 58 ∷ m) z))))

  -- the text behind the white space, and what is left of it behind the two
  module _ (t : Points) (e : t ≡ take (length s - i) (drop i s)) where
    pub colons-by : (r : code.Option (Bor Points)) → MatchOption r ((rest : Points) → t ≡ 58 ∷ 58 ∷ rest → ⊥) (λ x. t ≡ 58 ∷ 58 ∷ x.now) → ColonsTo s r
    colons-by None h = ap axis_test (from-gap s i g) ∙ no-colons (drop i s) refl (λ b z. h b (e ∙ take_rest s i ∙ z))
    colons-by (Some b) h =
        let q : drop i s ≡ 58 ∷ 58 ∷ b.now = sym (e ∙ take_rest s i) ∙ h in
        let l = ap length q in
        let k = length-drop i s in
        let n : i + 2 ≡ length s - length b.now = omega arith in
        let f = from-gap s i g in (
          f ∙ ap tokens_in q ∙ whole-colons b.now,
          (omega arith, sym (ap (drop 2) q) ∙ drop-drop 2 i s ∙ ap (λ (m : ℕ). drop m s) n),
        )
