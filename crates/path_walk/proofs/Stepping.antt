-- From step to step: what the first token behind a step says of the steps that follow, and the walk at a place of the text.
-- Assumes nothing.
use Prim.Native.Nat.{◌<◌}
use native.Mathlib.Omega.{arith}
use denote.Ref.{Bor}
use lib.ListN.{length}
use mathlib.Core.Path.{◌≡◌, refl, ap, sym, ◌∙◌}
use mathlib.Core.List.{List, [], ◌∷◌}
use mathlib.Core.Option.{none, some}
use Rattle.grammar.specs.Tokens as grammar
use Rattle.grammar.specs.Tokens.{Points}
use Rattle.grammar.specs.Tokens.Token.{slash, bar}
use Rattle.grammar.specs.Paths.{Kind}
use Rattle.reasons.specs.Reasons.{start, within, steps}
use Rattle.tokens.specs.declared.Tok.{Tok}
use Rattle.tokens.specs.declared.Tok.TheVariants.{Dot, Slash, DoubleSlash, ColonColon, At, Name}
use Rattle.std.specs.declared.option.Option as code
use Rattle.std.specs.declared.option.Option.TheVariants.{Some, None}
use Rattle.std.specs.declared.result.Result.{Result}
use Rattle.std.specs.declared.result.Result.TheVariants.{Ok, Err}
use Rattle.tokens.specs.declared.Token.{Token}
use Rattle.tokens.specs.declared.Reason.{Reason}
use Rattle.tokens.specs.declared.Reason.TheVariants.{Separator}
use Rattle.tokens.specs.Places.{number, token_of, tokens_in, tokens_by, EndOf, FirstOf}
use Rattle.path_steps.specs.Steps.{StepIs}
use Rattle.path_steps.proofs.Tests.{first-is, first-ends}
use Rattle.path_walk.specs.Walk.{SeparatorIs}

-- ---- the first token behind a step

slashless : (k : Kind) (ds : List Points) (t : Tok) (ts : List grammar.Token) → (t ≡ Slash → ⊥) → steps k ds (within 0) (token_of t ∷ ts) ≡ some 14
unfolding steps
slashless k ds Dot ts h = refl
slashless k ds Slash ts h = absurd (h refl)
slashless k ds DoubleSlash ts h = refl
slashless k ds ColonColon ts h = refl
slashless k ds At ts h = refl
slashless k ds (Name n) ts h = refl

module _ (s : Points) (r : Result (code.Option Token) Reason) (f : FirstOf s r) where
  pub behind-end : r ≡ Ok None → SeparatorIs s (Ok None)
  unfolding steps
  behind-end q =
      let e : tokens_in s ≡ [] = f.tokens ∙ rw q in
      record { goes = (λ k ds. ap (steps k ds (within 0)) e); inside = tt }

  pub behind-fault : ((x : code.Option Token) → r ≡ Ok x → ⊥) → SeparatorIs s (Err Separator)
  unfolding steps
  behind-fault h = by r f.tokens h
    where
      by : (r : Result (code.Option Token) Reason) → tokens_in s ≡ tokens_by r → ((x : code.Option Token) → r ≡ Ok x → ⊥) → SeparatorIs s (Err Separator)
      by (Ok x) e h = absurd (h x refl)
      by (Err j) e h = record { goes = (λ k ds. ap (steps k ds (within 0)) e); inside = tt }

  module _ (t : Token) (q : r ≡ Ok (Some t)) where
    pub behind-slash : t.tok ≡ Slash → SeparatorIs s (Ok (Some t.behind))
    unfolding steps
    behind-slash h =
        let e : tokens_in s ≡ slash ∷ tokens_in t.behind.now = first-is s r f t q ∙ rw h in
        record { goes = (λ k ds. ap (steps k ds (within 0)) e); inside = first-ends s r f t q }

    pub behind-other : (t.tok ≡ Slash → ⊥) → SeparatorIs s (Err Separator)
    behind-other h =
        let e = first-is s r f t q in
        record {
          goes = (λ k ds. ap (steps k ds (within 0)) e ∙ slashless k ds t.tok (tokens_in t.behind.now) h);
          inside = tt;
        }

-- ---- the walk, where s is what is left

module _ (k : Kind) (ds : List Points) (s : Points) (v : Result (code.Option (Bor Points)) Reason) (w : StepIs k ds s v) where
  pub steps-fail : (j : Reason) → v ≡ Err j → some (number j) ≡ steps k ds start (tokens_in s)
  steps-fail j e = sym (w.goes ∙ rw e)

  pub steps-end : v ≡ Ok None → none ≡ steps k ds start (tokens_in s)
  steps-end e = sym (w.goes ∙ rw e)

  -- b stands behind the step
  module _ (b : Bor Points) (e : v ≡ Ok (Some b)) (y : Result (code.Option (Bor Points)) Reason) (z : SeparatorIs b.now y) where
    same-behind : steps k ds (within 0) (tokens_in b.now) ≡ steps k ds start (tokens_in s)
    same-behind = sym (w.goes ∙ rw e)

    pub steps-last : y ≡ Ok None → none ≡ steps k ds start (tokens_in s)
    steps-last q = sym (z.goes k ds ∙ rw q) ∙ same-behind

    pub steps-unseparated : (j : Reason) → y ≡ Err j → some (number j) ≡ steps k ds start (tokens_in s)
    steps-unseparated j q = sym (z.goes k ds ∙ rw q) ∙ same-behind

    module _ (c : Bor Points) (q : y ≡ Ok (Some c)) where
      pub steps_on : steps k ds start (tokens_in c.now) ≡ steps k ds start (tokens_in s)
      steps_on = sym (z.goes k ds ∙ rw q) ∙ same-behind

      pub rest-short : length c.now < length s
      rest-short =
          let x : EndOf b.now c.now = rw q at z.inside in
          let y : EndOf s b.now = rw e at w.ahead in
          let k = x.0 in
          let l = y.0 in
          omega arith
