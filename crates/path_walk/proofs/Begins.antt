-- How a path begins: the first character that is no white space tells whether its first token is '.', and the token behind that whether it is './/'.
-- Assumes nothing.
use Prim.Native.Nat.{ℕ, ◌+◌, ◌-◌, ◌<◌}
use native.Mathlib.Omega.{arith}
use denote.Ref.{Bor}
use lib.ListN.{length, take, drop, get_or, length-drop, drop_of_length-le}
use mathlib.Core.Path.{◌≡◌, refl, ap, sym, ◌∙◌}
use mathlib.Core.Bool.{Bool, true, false, cond, false≢true}
use mathlib.Core.List.{List, [], ◌∷◌}
use mathlib.Core.Option.{some}
use Rattle.std.proofs.lemmas.List.{drop_more, take_rest}
use Rattle.lists.specs.Lists.{all}
use Rattle.characters.specs.Spaces.{xml_space}
use Rattle.grammar.specs.Tokens as grammar
use Rattle.grammar.specs.Tokens.{Points}
use Rattle.grammar.specs.Tokens.Token.{dot, bar}
use Rattle.grammar.specs.Paths.{Kind}
use Rattle.reasons.specs.Reasons.{is_empty, start, steps, slashes_first, descent, validate_path}
use Rattle.tokens.specs.declared.Tok.{Tok}
use Rattle.tokens.specs.declared.Tok.TheVariants.{Dot, Slash, DoubleSlash, ColonColon, At, Name}
use Rattle.std.specs.declared.option.Option as code
use Rattle.std.specs.declared.option.Option.TheVariants.{Some, None}
use Rattle.std.specs.declared.result.Result.{Result}
use Rattle.std.specs.declared.result.Result.TheVariants.{Ok, Err}
use Rattle.tokens.specs.declared.Token.{Token}
use Rattle.tokens.specs.declared.Reason.{Reason}
use Rattle.tokens.specs.declared.Reason.TheVariants.{EmptyAlternative}
use Rattle.tokens.specs.Places.{gap_length, number, token_of, tokens_from, tokens_in, tokens_by, EndOf, FirstOf}
use Rattle.tokens.proofs.Firsts.{from-gap, blank-tokens, NoDot, dot-first, no-dot-first}
use Rattle.std.specs.Result.{result_unwrap_or}
use Rattle.path_steps.proofs.Tests.{end-of-end}
use Rattle.path_walk.specs.Walk.{BeginIs}

-- ---- the first token

slashes-not : (t : Tok) (ts : List grammar.Token) → (t ≡ DoubleSlash → ⊥) → slashes_first (token_of t ∷ ts) ≡ false
slashes-not Dot ts h = refl
slashes-not Slash ts h = refl
slashes-not DoubleSlash ts h = absurd (h refl)
slashes-not ColonColon ts h = refl
slashes-not At ts h = refl
slashes-not (Name n) ts h = refl

none-path : (k : Kind) (ds : List Points) (ts : List grammar.Token) → ts ≡ [] → validate_path k ds ts ≡ some 6
unfolding validate_path
none-path k ds ts e = rw e

other_path : (k : Kind) (ds : List Points) (ts : List grammar.Token) → NoDot ts → validate_path k ds ts ≡ steps k ds start ts
unfolding validate_path
other_path k ds ts d = rw (d.parts, d.differs)

dot-path : (k : Kind) (ds : List Points) (ts us : List grammar.Token) → ts ≡ dot ∷ us
    → validate_path k ds ts ≡ cond (slashes_first us) (descent k ds (drop 1 us)) (steps k ds start ts)
unfolding validate_path
dot-path k ds ts us e = rw e

module _ (s : Points) (i : ℕ) (g : i ≡ gap_length s) where
  pub begin-empty : length (take (length s - i) (drop i s)) ≡ 0 → BeginIs s (Err EmptyAlternative)
  unfolding tokens_from
  begin-empty h =
      let e : drop i s ≡ [] = drop_of_length-le s (omega (arith, ap length (take_rest s i), length-drop i s)) in
      record { goes = (λ k ds. none-path k ds (tokens_in s) (from-gap s i g ∙ rw e)); inside = tt }

  -- the first character and what stands behind it
  module _ (c : ℕ) (b : Points) (e : take (length s - i) (drop i s) ≡ c ∷ b) where
    rest-is : drop i s ≡ c ∷ b
    rest-is = sym (take_rest s i) ∙ e

    room : i < length s
    room = let l = ap length rest-is in let k = length-drop i s in omega arith

    parts : get_or s i 0 ∷ drop (i + 1) s ≡ c ∷ b
    parts = sym (drop_more s i 0 room) ∙ rest-is

    here : get_or s i 0 ≡ c
    here = let x = parts in cc

    behind-is : drop (i + 1) s ≡ b
    behind-is = let x = parts in cc

    behind-ends : EndOf s b
    behind-ends =
        let r = room in
        let l = ap length behind-is in
        let k = length-drop (i + 1) s in
        let n : i + 1 ≡ length s - length b = omega arith in
        (omega arith, sym behind-is ∙ ap (λ (m : ℕ). drop m s) n)

    pub begin-step : (c ≡ 46 → ⊥) → BeginIs s (Ok None)
    begin-step h = record { goes = (λ k ds. other_path k ds (tokens_in s) (no-dot-first s i g room (λ x. h (sym here ∙ x)))); inside = tt }

    module _ (d : c ≡ 46) (r : Result (code.Option Token) Reason) (f : FirstOf b r) where
      dot-begins : (k : Kind) (ds : List Points) → validate_path k ds (tokens_in s) ≡ cond (slashes_first (tokens_in b)) (descent k ds (drop 1 (tokens_in b))) (steps k ds start (tokens_in s))
      dot-begins k ds = dot-path k ds (tokens_in s) (tokens_in b) (dot-first s i g room (here ∙ d) ∙ ap (λ (t : Points). dot ∷ tokens_in t) behind-is)

      begin-by : slashes_first (tokens_in b) ≡ false → BeginIs s (Ok None)
      begin-by l = record { goes = (λ k ds. dot-begins k ds ∙ rw l); inside = tt }

      -- no token, or a fault
      pub begin-dot : result_unwrap_or r None ≡ None → BeginIs s (Ok None)
      begin-dot q = begin-by (ap slashes_first f.tokens ∙ by r q)
        where
          by : (r : Result (code.Option Token) Reason) → result_unwrap_or r None ≡ None → slashes_first (tokens_by r) ≡ false
          by (Ok None) q = refl
          by (Ok (Some t)) q = cc
          by (Err j) q = refl

      module _ (t : Token) (q : result_unwrap_or r None ≡ Some t) where
        was : r ≡ Ok (Some t)
        was = by r q
          where
            by : (r : Result (code.Option Token) Reason) → result_unwrap_or r None ≡ Some t → r ≡ Ok (Some t)
            by (Ok x) q = ap Ok q
            by (Err j) q = cc

        second_is : tokens_in b ≡ token_of t.tok ∷ tokens_in t.behind.now
        second_is = f.tokens ∙ rw was

        pub begin-other : (t.tok ≡ DoubleSlash → ⊥) → BeginIs s (Ok None)
        begin-other l = begin-by (ap slashes_first second_is ∙ slashes-not t.tok (tokens_in t.behind.now) l)

        second-ends : EndOf b t.behind.now
        second-ends = rw was at f.inside

        pub begin-descent : t.tok ≡ DoubleSlash → BeginIs s (Ok (Some t.behind))
        begin-descent l =
            let flag : slashes_first (tokens_in b) ≡ true = ap slashes_first second_is ∙ rw l in
            let d : drop 1 (tokens_in b) ≡ tokens_in t.behind.now = ap (drop 1) second_is in
            let x = second-ends.0 in
            record { goes = (λ k ds. dot-begins k ds ∙ rw (flag, d)); inside = end-of-end s b t.behind.now behind-ends (omega arith) second-ends.1 }

-- ---- the path that begins so

descent-none : (k : Kind) (ds : List Points) (ts : List grammar.Token) → is_empty ts ≡ true → descent k ds ts ≡ some 7
unfolding descent
descent-none k ds [] h = refl
descent-none k ds (t ∷ ts) h = absurd (false≢true h)

descent-some : (k : Kind) (ds : List Points) (ts : List grammar.Token) → is_empty ts ≡ false → descent k ds ts ≡ steps k ds start ts
unfolding descent
descent-some k ds [] h = absurd (false≢true (sym h))
descent-some k ds (t ∷ ts) h = refl

module _ (k : Kind) (ds : List Points) (s : Points) (v : Result (code.Option (Bor Points)) Reason) (w : BeginIs s v) where
  pub path-steps : v ≡ Ok None → steps k ds start (tokens_in s) ≡ validate_path k ds (tokens_in s)
  path-steps e = sym (w.goes k ds ∙ rw e)

  module _ (b : Bor Points) (e : v ≡ Ok (Some b)) (l : Bool) (q : l ≡ all xml_space b.now) where
    below-goes : validate_path k ds (tokens_in s) ≡ descent k ds (tokens_in b.now)
    below-goes = w.goes k ds ∙ rw e

    below-empty : is_empty (tokens_in b.now) ≡ l
    below-empty = sym (q ∙ blank-tokens b.now)

    pub path-descent-alone : l ≡ true → some 7 ≡ validate_path k ds (tokens_in s)
    path-descent-alone h = sym (below-goes ∙ descent-none k ds (tokens_in b.now) (below-empty ∙ h))

    pub path-descent : l ≡ false → steps k ds start (tokens_in b.now) ≡ validate_path k ds (tokens_in s)
    path-descent h = sym (below-goes ∙ descent-some k ds (tokens_in b.now) (below-empty ∙ h))
