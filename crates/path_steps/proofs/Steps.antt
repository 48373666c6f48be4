-- A step: the definition at the answers that the code meets, a law for each way that one of its functions returns.
-- Assumes nothing.
use Prim.Native.Nat.{ℕ, zero, suc, ◌-◌}
use native.Mathlib.Omega.{arith}
use denote.Ref.{Bor}
use lib.ListN.{length, drop}
use mathlib.Core.Logic.{◌⊎◌, inl, inr}
use mathlib.Core.Path.{◌≡◌, refl, ap, sym, subst, ◌∙◌}
use mathlib.Core.Bool.{Bool, true, false, cond, ◌&&◌, and-true, and-false}
use mathlib.Core.List.{List, [], ◌∷◌}
use mathlib.Core.Option.{none, some}
use Rattle.lists.specs.Lists.{all}
use Rattle.texts.specs.Texts.{same}
use Rattle.utf8.specs.Utf8.{size_of, code_of, decode_from, decode}
use Rattle.characters.specs.Spaces.{xml_space}
use Rattle.grammar.specs.Tokens as grammar
use Rattle.grammar.specs.Tokens.{Points}
use Rattle.grammar.specs.Tokens.Token.{name}
use Rattle.grammar.specs.Paths.{Kind, child, attribute}
use Rattle.reasons.specs.Reasons as reasons
use Rattle.reasons.specs.Reasons.{test_declared, fails, ends, takes, check_prefix, is_field, is_empty, first_test, axis_test, attribute_step, axis_step, step, start, within, step_on, steps}
use Rattle.tokens.specs.declared.NameTest.{NameTest}
use Rattle.tokens.specs.declared.NameTest.TheVariants.{Star, PrefixStar, Local, Prefixed}
use Rattle.tokens.specs.declared.Tok.TheVariants.{Dot, Slash, DoubleSlash, ColonColon, At, Name}
use Rattle.std.specs.Result.{MatchResult, IsErrAnd}
use Rattle.std.specs.declared.option.Option as code
use Rattle.std.specs.declared.option.Option.TheVariants.{Some, None}
use Rattle.std.specs.declared.result.Result.{Result}
use Rattle.std.specs.declared.result.Result.TheVariants.{Ok, Err}
use Rattle.tokens.specs.declared.Token.{Token}
use Rattle.tokens.specs.declared.Reason.{Reason}
use Rattle.tokens.specs.declared.Reason.TheVariants.{UndeclaredPrefix, Step, TrailingSlash}
use Rattle.tokens.specs.Places.{test_of, token_of, tokens_in, tokens_by, EndOf, FirstOf}
use Rattle.tokens.proofs.Firsts.{blank-tokens}
use Rattle.path_steps.specs.declared.PathKind.{PathKind}
use Rattle.path_steps.specs.declared.Test.{Test}
use Rattle.path_steps.specs.declared.Axis.{Axis}
use Rattle.path_steps.specs.declared.Axis.TheVariants.{Last, Child}
use Rattle.path_steps.specs.Steps.{kind_of, TestFirst, AxisFirst, attribute_by, axis_by, Behind, NameStepIs, Ahead, StepIs}
use Rattle.path_steps.proofs.Tests.{end-of-end, test_at, first-is, first-ends}

-- ---- the first token, each of whose faults is one of the step

module _ {T : Type 0} (Q : Reason → Reason → Type 0) (r m : Result T Reason) (h : MatchResult r (λ x. m ≡ Ok x) (λ e. IsErrAnd m (Q e))) where
  pub first-given : (x : T) → m ≡ Ok x → r ≡ Ok x
  first-given x q = by r h
    where
      by : (r : Result T Reason) → MatchResult r (λ x. m ≡ Ok x) (λ e. IsErrAnd m (Q e)) → r ≡ Ok x
      by (Ok y) h = sym h ∙ q
      by (Err e) h = absurd (subst (λ m. IsErrAnd m (Q e)) q h)

  pub first-refused : ((e k : Reason) → Q e k → k ≡ Step) → (k : Reason) → m ≡ Err k → ((x : T) → r ≡ Ok x → ⊥) × (k ≡ Step)
  first-refused g k q = by r h
    where
      by : (r : Result T Reason) → MatchResult r (λ x. m ≡ Ok x) (λ e. IsErrAnd m (Q e)) → ((x : T) → r ≡ Ok x → ⊥) × (k ≡ Step)
      by (Ok y) h = absurd cc
      by (Err e) h = ((λ x z. cc), g e k (subst (λ m. IsErrAnd m (Q e)) q h))

-- ---- the answer of a prefix

pub undeclared : (d : Bool) (r : Result (Unit {0}) Reason) → r ≡ cond d (Ok tt) (Err UndeclaredPrefix) → (k : Reason) → r ≡ Err k → (d ≡ false) × (k ≡ UndeclaredPrefix)
undeclared true r e k h = absurd cc
undeclared false r e k h = (refl, cc)

pub is_declared : (d : Bool) (r : Result (Unit {0}) Reason) → r ≡ cond d (Ok tt) (Err UndeclaredPrefix) → (x : Unit {0}) → r ≡ Ok x → d ≡ true
is_declared true r e x h = refl
is_declared false r e x h = absurd cc

-- ---- the two axes

-- the bytes of an axis's name are its code points
module _ (p : Points) (r : Bool) where
  pub child-word : r ≡ same p (decode child) → r ≡ same p child
  unfolding decode decode_from size_of code_of
  child-word e = e

  attribute-word : r ≡ same p (decode attribute) → r ≡ same p attribute
  unfolding decode decode_from size_of code_of
  attribute-word e = e

-- whether the axis `attribute` may stand: v is what follows its name test
abbrev pub attribute_at : Points → Points → PathKind → Bool
attribute_at p v f = same p attribute && is_field (kind_of f) && is_empty (tokens_in v)

module _ (p : Points) (v : Points) (f : PathKind) where
  pub attribute-selector : is_field (kind_of f) ≡ false → false ≡ attribute_at p v f
  attribute-selector h = rw (h, and-false (same p attribute))

  module _ (h : is_field (kind_of f) ≡ true) (l : Bool) (e : l ≡ all xml_space v) where
    blank-is : is_empty (tokens_in v) ≡ l
    blank-is = sym (e ∙ blank-tokens v)

    pub attribute-more : l ≡ false → false ≡ attribute_at p v f
    attribute-more g = rw (h, blank-is, g) (sym (and-false (same p attribute && true)))

    pub attribute-is : l ≡ true → (r : Bool) → r ≡ same p (decode attribute) → r ≡ attribute_at p v f
    attribute-is g r w = attribute-word p r w ∙ rw (h, blank-is, g, and-true (same p attribute), and-true (same p attribute))

-- ---- '@' and a name test

-- what the step with '@' is, where s follows
abbrev pub attribute_in : PathKind → List Points → Points → reasons.Stepped
attribute_in f ds s = attribute_step (kind_of f) ds (first_test (tokens_in s)) (is_empty (drop 1 (tokens_in s)))

module _ (f : PathKind) (ds : List Points) (s : Points) (v : code.Option Test) (w : TestFirst s v) where
  pub at_none : v ≡ None → fails 12 ≡ attribute_in f ds s
  at_none q = rw (w.first, q)

  module _ (t : Test) (q : v ≡ Some t) where
    test-is : first_test (tokens_in s) ≡ some (test_of t.name)
    test-is = w.first ∙ rw q

    test-follows : (tokens_in t.behind.now ≡ drop 1 (tokens_in s)) × EndOf s t.behind.now
    test-follows = rw q at w.follows

    module _ (l : Bool) (e : l ≡ all xml_space t.behind.now) where
      last-is : is_empty (drop 1 (tokens_in s)) ≡ l
      last-is = sym (e ∙ blank-tokens t.behind.now ∙ ap is_empty test-follows.0)

      pub at_more : l ≡ false → fails 12 ≡ attribute_in f ds s
      at_more g = rw (test-is, last-is, g)

      module _ (g : l ≡ true) where
        pub at-selector : is_field (kind_of f) ≡ false → fails 8 ≡ attribute_in f ds s
        at-selector h = rw (test-is, last-is, g, h)

        -- by what is said of its prefix
        module _ (h : is_field (kind_of f) ≡ true) where
          at-last : (d : Bool) → test_declared ds (test_of t.name) ≡ d → attribute_by (cond d (Ok tt) (Err UndeclaredPrefix)) ≡ attribute_in f ds s
          unfolding check_prefix
          at-last true x = rw (test-is, last-is, g, h, x)
          at-last false x = rw (test-is, last-is, g, h, x)

          pub at-prefix : (r : Result (Unit {0}) Reason) → r ≡ cond (test_declared ds (test_of t.name)) (Ok tt) (Err UndeclaredPrefix) → attribute_by r ≡ attribute_in f ds s
          at-prefix r a = ap attribute_by a ∙ at-last (test_declared ds (test_of t.name)) refl

-- ---- an axis and its name test

-- what the step with the axis m is, where its name test is n and v follows
abbrev pub axis_in : PathKind → List Points → NameTest → grammar.NameTest → Points → reasons.Stepped
axis_in f ds m n v = axis_step (kind_of f) ds (test_of m) n (is_empty (tokens_in v))

module _ (f : PathKind) (ds : List Points) (m : NameTest) (n : grammar.NameTest) (v : Points) where
  module _ (l : Bor Points) (q : m ≡ Local l) (x : Bool) (c : x ≡ same l.now child) where
    module _ (g : x ≡ true) (d : Bool) (t : d ≡ test_declared ds n) where
      pub child-undeclared : d ≡ false → fails 11 ≡ axis_in f ds m n v
      unfolding check_prefix
      child-undeclared y = rw (q, ← c, g, ← t, y)

      pub child-step : d ≡ true → takes 2 ≡ axis_in f ds m n v
      unfolding check_prefix
      child-step y = rw (q, ← c, g, ← t, y)

    module _ (g : x ≡ false) (y : Bool) (a : y ≡ attribute_at l.now v f) where
      module _ (h : y ≡ true) (d : Bool) (t : d ≡ test_declared ds n) where
        pub last-undeclared : d ≡ false → fails 11 ≡ axis_in f ds m n v
        unfolding check_prefix
        last-undeclared k = rw (q, ← c, g, ← a, h, ← t, k)

        pub last_step : d ≡ true → ends ≡ axis_in f ds m n v
        unfolding check_prefix
        last_step k = rw (q, ← c, g, ← a, h, ← t, k)

-- ---- how the steps go on

-- tokens that belong to a step already read are dropped
within-drop : (k : Kind) (ds : List Points) (n : ℕ) (ts : List grammar.Token) → steps k ds (within n) ts ≡ steps k ds (within 0) (drop n ts)
unfolding steps
within-drop k ds zero [] = refl
within-drop k ds (suc n) [] = refl
within-drop k ds zero (t ∷ ts) = refl
within-drop k ds (suc n) (t ∷ ts) = within-drop k ds n ts

-- the first token decides
steps_first : (k : Kind) (ds : List Points) (t : grammar.Token) (ts : List grammar.Token)
    → steps k ds start (t ∷ ts) ≡ step_on (step k ds t ts) (λ n. steps k ds (within n) ts)
unfolding steps
steps_first k ds t ts = refl

-- ---- a name test first

module _ (f : PathKind) (ds : List Points) (m : Test) where
  name-goes : steps (kind_of f) ds start (name (test_of m.name) ∷ tokens_in m.behind.now)
      ≡ step_on (step (kind_of f) ds (name (test_of m.name)) (tokens_in m.behind.now)) (λ n. steps (kind_of f) ds (within n) (tokens_in m.behind.now))
  name-goes = steps_first (kind_of f) ds (name (test_of m.name)) (tokens_in m.behind.now)

  module _ (v : code.Option Test) (w : AxisFirst m.behind.now v) where
    -- no axis
    module _ (e : v ≡ None) (d : Bool) (t : d ≡ test_declared ds (test_of m.name)) where
      none_here : axis_test (tokens_in m.behind.now) ≡ none
      none_here = w.first ∙ rw e

      pub name-undeclared : d ≡ false → NameStepIs (kind_of f) ds m (Err UndeclaredPrefix)
      unfolding step check_prefix
      name-undeclared x = record { goes = name-goes ∙ rw (none_here, ← t, x); ahead = tt }

      pub name-takes : d ≡ true → NameStepIs (kind_of f) ds m (Ok (Some m.behind))
      unfolding step check_prefix
      name-takes x =
          let n : 0 ≡ length m.behind.now - length m.behind.now = omega arith in
          record { goes = name-goes ∙ rw (none_here, ← t, x); ahead = (omega arith, ap (λ (i : ℕ). drop i m.behind.now) n) }

    -- m is an axis
    module _ (t : Test) (e : v ≡ Some t) where
      follows-here : (tokens_in t.behind.now ≡ drop 2 (tokens_in m.behind.now)) × EndOf m.behind.now t.behind.now
      follows-here = rw e at w.follows

      some-here : axis_test (tokens_in m.behind.now) ≡ some (test_of t.name)
      some-here = w.first ∙ rw e

      module _ (y : Result Axis Reason) (g : axis_by y ≡ axis_step (kind_of f) ds (test_of m.name) (test_of t.name) (is_empty (tokens_in t.behind.now))) where
        axis-is : axis_step (kind_of f) ds (test_of m.name) (test_of t.name) (is_empty (drop 2 (tokens_in m.behind.now))) ≡ axis_by y
        axis-is = sym (g ∙ rw follows-here.0)

        axis-goes : steps (kind_of f) ds start (name (test_of m.name) ∷ tokens_in m.behind.now) ≡ step_on (axis_by y) (λ n. steps (kind_of f) ds (within n) (tokens_in m.behind.now))
        unfolding step
        axis-goes = name-goes ∙ rw (some-here, axis-is)

        pub axis-fails : (k : Reason) → y ≡ Err k → NameStepIs (kind_of f) ds m (Err k)
        axis-fails k z = record { goes = axis-goes ∙ rw z; ahead = tt }

        pub axis-ends : y ≡ Ok Last → NameStepIs (kind_of f) ds m (Ok None)
        axis-ends z = record { goes = axis-goes ∙ rw z; ahead = tt }

        pub axis-takes : y ≡ Ok Child → NameStepIs (kind_of f) ds m (Ok (Some t.behind))
        axis-takes z =
            record {
              goes = axis-goes ∙ rw z (within-drop (kind_of f) ds 2 (tokens_in m.behind.now) ∙ ap (steps (kind_of f) ds (within 0)) (sym follows-here.0));
              ahead = (let x = follows-here.1.0 in omega arith, follows-here.1.1);
            }

-- ---- any token first

module _ (f : PathKind) (ds : List Points) (s : Points) (r : Result (code.Option Token) Reason) (F : FirstOf s r) where
  pub step-none : r ≡ Ok None → StepIs (kind_of f) ds s (Err TrailingSlash)
  unfolding steps
  step-none q = record { goes = ap (steps (kind_of f) ds start) F.tokens ∙ rw q; ahead = tt }

  pub step-bad : ((x : code.Option Token) → r ≡ Ok x → ⊥) → StepIs (kind_of f) ds s (Err Step)
  step-bad h = by r F.tokens h
    where
      by : (r : Result (code.Option Token) Reason) → tokens_in s ≡ tokens_by r → ((x : code.Option Token) → r ≡ Ok x → ⊥) → StepIs (kind_of f) ds s (Err Step)
      by (Ok x) e h = absurd (h x refl)
      by (Err k) e h = record { goes = ap (steps (kind_of f) ds start) e ∙ unfold steps step in refl; ahead = tt }

  module _ (t : Token) (q : r ≡ Ok (Some t)) where
    token-goes : steps (kind_of f) ds start (tokens_in s)
        ≡ step_on (step (kind_of f) ds (token_of t.tok) (tokens_in t.behind.now)) (λ n. steps (kind_of f) ds (within n) (tokens_in t.behind.now))
    token-goes = ap (steps (kind_of f) ds start) (first-is s r F t q) ∙ steps_first (kind_of f) ds (token_of t.tok) (tokens_in t.behind.now)

    pub step-wrong : (t.tok ≡ Slash) ⊎ ((t.tok ≡ DoubleSlash) ⊎ (t.tok ≡ ColonColon)) → StepIs (kind_of f) ds s (Err Step)
    unfolding step
    step-wrong (inl e) = record { goes = token-goes ∙ rw e; ahead = tt }
    step-wrong (inr (inl e)) = record { goes = token-goes ∙ rw e; ahead = tt }
    step-wrong (inr (inr e)) = record { goes = token-goes ∙ rw e; ahead = tt }

    pub step-dot : t.tok ≡ Dot → StepIs (kind_of f) ds s (Ok (Some t.behind))
    unfolding step
    step-dot e = record { goes = token-goes ∙ rw e; ahead = first-ends s r F t q }

    pub step-name : (n : NameTest) → t.tok ≡ Name n → (v : Result (code.Option (Bor Points)) Reason) → NameStepIs (kind_of f) ds (test_at n t.behind) v → StepIs (kind_of f) ds s v
    step-name n e v w = record { goes = ap (steps (kind_of f) ds start) (first-is s r F t q ∙ rw e) ∙ w.goes; ahead = by v w.ahead }
      where
        by : (v : Result (code.Option (Bor Points)) Reason) → Behind t.behind.now v → Ahead s v
        by (Ok None) h = tt
        by (Ok (Some b)) h = end-of-end s t.behind.now b.now (first-ends s r F t q) h.0 h.1
        by (Err j) h = tt

    module _ (e : t.tok ≡ At) (y : Result (Unit {0}) Reason) (g : attribute_by y ≡ attribute_in f ds t.behind.now) where
      at_goes : steps (kind_of f) ds start (tokens_in s) ≡ step_on (attribute_by y) (λ n. steps (kind_of f) ds (within n) (tokens_in t.behind.now))
      unfolding step
      at_goes = token-goes ∙ rw (e, sym g)

      pub at-ends : (x : Unit {0}) → y ≡ Ok x → StepIs (kind_of f) ds s (Ok None)
      at-ends x z = record { goes = at_goes ∙ rw z; ahead = tt }

      pub at-fails : (k : Reason) → y ≡ Err k → StepIs (kind_of f) ds s (Err k)
      at-fails k z = record { goes = at_goes ∙ rw z; ahead = tt }
