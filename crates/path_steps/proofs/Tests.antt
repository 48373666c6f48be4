-- A name test that stands first, and one behind '::': from the first token, and from the text behind '::'.
-- Assumes nothing.
use Prim.Native.Nat.{ℕ, ◌-◌, ◌+◌, ◌≤◌}
use native.Mathlib.Omega.{arith}
use denote.Ref.{Bor}
use lib.ListN.{length, drop}
use lib.Seq.{drop-drop}
use mathlib.Core.Path.{◌≡◌, refl, ap, sym, ◌∙◌}
use mathlib.Core.List.{List, ◌∷◌}
use mathlib.Core.Option.{none}
use Rattle.grammar.specs.Tokens as grammar
use Rattle.grammar.specs.Tokens.{Points}
use Rattle.grammar.specs.Tokens.Token.{colons}
use Rattle.reasons.specs.Reasons.{first_test, axis_test}
use Rattle.tokens.specs.declared.NameTest.{NameTest}
use Rattle.tokens.specs.declared.Tok.{Tok}
use Rattle.tokens.specs.declared.Tok.TheVariants.{Dot, Slash, DoubleSlash, ColonColon, At, Name}
use Rattle.std.specs.declared.option.Option as code
use Rattle.std.specs.declared.option.Option.TheVariants.{Some, None}
use Rattle.std.specs.declared.result.Result.{Result}
use Rattle.std.specs.declared.result.Result.TheVariants.{Ok, Err}
use Rattle.tokens.specs.declared.Token.{Token}
use Rattle.tokens.specs.declared.Reason.{Reason}
use Rattle.tokens.specs.Places.{token_of, tokens_in, tokens_by, EndOf, FirstOf}
use Rattle.path_steps.specs.declared.Test.{Test}
use Rattle.path_steps.specs.Steps.{Follows, TestFirst, ColonsTo, AxisFirst}

-- ---- the end of an end is an end

module _ (s t u : Points) where
  pub end-of-end : EndOf s t → length u ≤ length t → u ≡ drop (length t - length u) t → EndOf s u
  end-of-end e l h =
      let x = e.0 in
      let n : length s - length t + (length t - length u) ≡ length s - length u = omega arith in
      (omega arith, h ∙ ap (drop (length t - length u)) e.1 ∙ drop-drop (length t - length u) (length s - length t) s ∙ ap (λ (m : ℕ). drop m s) n)

-- ---- the first token

tokenless : (r : Result (code.Option Token) Reason) → ((t : Token) → r ≡ Ok (Some t) → ⊥) → first_test (tokens_by r) ≡ none
tokenless (Ok None) h = refl
tokenless (Ok (Some t)) h = absurd (h t refl)
tokenless (Err k) h = refl

abbrev pub test_at : NameTest → Bor Points → Test
test_at n b = record { name = n; behind = b }

module _ (s : Points) (r : Result (code.Option Token) Reason) (f : FirstOf s r) where
  pub test-none : ((t : Token) → r ≡ Ok (Some t) → ⊥) → TestFirst s None
  test-none h = record { first = ap first_test f.tokens ∙ tokenless r h; follows = tt }

  module _ (t : Token) (q : r ≡ Ok (Some t)) where
    pub first-is : tokens_in s ≡ token_of t.tok ∷ tokens_in t.behind.now
    first-is = f.tokens ∙ rw q

    pub first-ends : EndOf s t.behind.now
    first-ends = rw q at f.inside

-- ---- behind '::'

module _ (s : Points) (r : code.Option (Bor Points)) (p : ColonsTo s r) where
  module _ (b : Bor Points) (z : r ≡ Some b) where
    colons-stand : (tokens_in s ≡ colons ∷ tokens_in b.now) × EndOf s b.now
    colons-stand = rw z at p

    pub axis-is : (v : code.Option Test) → TestFirst b.now v → AxisFirst s v
    axis-is v w = record { first = ap axis_test colons-stand.0 ∙ w.first; follows = by v w.follows }
      where
        by : (v : code.Option Test) → Follows 1 b.now v → Follows 2 s v
        by None f = tt
        by (Some t) f = let l = f.1.0 in (f.0 ∙ ap (drop 2) (sym colons-stand.0), end-of-end s b.now t.behind.now colons-stand.1 (omega arith) f.1.1)
