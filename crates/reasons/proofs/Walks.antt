-- The walk over the tokens of one alternative passes exactly the paths of the grammar whose prefixes are declared: what each answer for a step
-- says, and then induction on the tokens; back by induction on the path.
-- Assumes nothing.
use native.Mathlib.Omega.{arith}
use Prim.Native.Nat.{ℕ, zero, suc}
use lib.ListN.{length, drop}
use lib.Seq.{drop_at, drop-nil}
use mathlib.Core.Path.{◌≡◌, refl, ap, sym, ◌∙◌, subst}
use mathlib.Core.Bool.{Bool, true, false, cond, ◌&&◌}
use mathlib.Core.List.{List, [], ◌∷◌, ◌++◌, append-nil, Memᴰ}
use mathlib.Core.Logic.{⊎_elim}
use mathlib.Core.Option.{Option, none, some, some-injective}
use Rattle.std.proofs.lemmas.Bool.{or_cases, or_left, or_right}
use Rattle.texts.specs.Texts.{same}
use Rattle.texts.proofs.Sameness.{same_refl, same-eq}
use Rattle.grammar.specs.Tokens.{Points, NameTest, Token}
use Rattle.grammar.specs.Tokens.NameTest.{star, any_in, local, qualified}
use Rattle.grammar.specs.Tokens.Token.{dot, slash, slashes, colons, at, bar, name}
use Rattle.grammar.specs.Paths.{Kind, child, attribute, xml, Step, AttributeStep, Steps, Path, TestDeclared, TokenDeclared}
use Rattle.grammar.specs.Paths.Kind.{selector, field}
use Rattle.grammar.specs.Paths.Step.{self, test, child_test}
use Rattle.grammar.specs.Paths.AttributeStep.{attr_test, attribute_test}
use Rattle.grammar.specs.Paths.Steps.{last, last_attribute, then}
use Rattle.grammar.specs.Paths.Path.{here, anywhere}
use Rattle.grammar.proofs.Words.{never}
use Rattle.reasons.specs.Reasons.{X8-attribute-in-selector, X10-axis-not-allowed, X11-undeclared-prefix, declares, test_declared, Stepped, fails, ends, takes, check_prefix, is_field, is_empty, first_test, axis_test, attribute_step, axis_step, name_step, step, Place, start, within, step_on, separated, steps, is_dot, slashes_first, descent, validate_path}
use Rattle.reasons.proofs.Tokenizes.{NoBar}
use Rattle.lists.specs.Lists.{All}
use Rattle.lists.proofs.Folds.{All-append}

-- ---- none and some

pub no-some : {A : Type 0} {X : Type 0} {x : X} → some x ≡ none → A
no-some e = let z : ◌≡◌ {A = ℕ} 0 1 = cc in absurd (omega arith)

no_none : {A : Type 0} {X : Type 0} {x : X} → none ≡ some x → A
no_none e = let z : ◌≡◌ {A = ℕ} 0 1 = cc in absurd (omega arith)

-- ---- declared prefixes

declares-member : (ds : List Points) (p : Points) → declares ds p ≡ true → Memᴰ p ds
unfolding declares
declares-member [] p h = never h
declares-member (d ∷ ds) p h =
    ⊎_elim (λ e. Memᴰ.head (same-eq p d e)) (λ e. Memᴰ.tail (declares-member ds p e)) (or_cases (same p d) (declares ds p) h)

member-declares : {p : Points} {ds : List Points} → Memᴰ p ds → declares ds p ≡ true
unfolding declares
member-declares {p} (Memᴰ.head {x = d} {xs = ds} e) = or_left (same p d) (declares ds p) (rw e (same_refl d))
member-declares {p} (Memᴰ.tail {x = d} {xs = ds} m) = or_right (same p d) (declares ds p) (member-declares m)

test-declared : (ds : List Points) (n : NameTest) → test_declared ds n ≡ true → TestDeclared ds n
unfolding test_declared
test-declared ds star h = tt
test-declared ds (any_in p) h = declares-member (xml ∷ ds) p h
test-declared ds (local l) h = tt
test-declared ds (qualified p l) h = declares-member (xml ∷ ds) p h

declared-test : (ds : List Points) (n : NameTest) → TestDeclared ds n → test_declared ds n ≡ true
unfolding test_declared
declared-test ds star h = refl
declared-test ds (any_in p) h = member-declares h
declared-test ds (local l) h = refl
declared-test ds (qualified p l) h = member-declares h

-- ---- what one step takes

dot-is : (t : Token) → is_dot t ≡ true → t ≡ dot
dot-is dot h = refl
dot-is slash h = never h
dot-is slashes h = never h
dot-is colons h = never h
dot-is at h = never h
dot-is bar h = never h
dot-is (name n) h = never h

slashes-are : (ts : List Token) → slashes_first ts ≡ true → slashes ∷ drop 1 ts ≡ ts
slashes-are [] h = never h
slashes-are (dot ∷ ts) h = never h
slashes-are (slash ∷ ts) h = never h
slashes-are (slashes ∷ ts) h = refl
slashes-are (colons ∷ ts) h = never h
slashes-are (at ∷ ts) h = never h
slashes-are (bar ∷ ts) h = never h
slashes-are (name n ∷ ts) h = never h

field_is : (k : Kind) → is_field k ≡ true → k ≡ field
field_is selector h = never h
field_is field h = refl

module _ (k : Kind) (ds : List Points) where
  abbrev pub Known : List Token → Type 0
  Known ts = All (TokenDeclared ds) ts

  -- t and n more tokens of ts are a step of the grammar
  record Taken (t : Token) (ts : List Token) (n : ℕ) : Type 0 where
    pub more : List Token
    pub rest : List Token
    pub parts : more ++ rest ≡ ts
    pub size : length more ≡ n
    pub one : Step (t ∷ more)
    pub known : Known (t ∷ more)

  -- what each answer for the step at t ∷ ts says
  abbrev Did : Token → List Token → Stepped → Type 0
  Did t ts (fails j) = Unit {0}
  Did t ts ends = Steps k (t ∷ ts) × Known (t ∷ ts)
  Did t ts (takes n) = Taken t ts n

  did-check : (t : Token) (ts : List Token) (n : NameTest) (x : Stepped) → (TestDeclared ds n → Did t ts x) → Did t ts (check_prefix ds n x)
  unfolding check_prefix
  did-check t ts n x f = by (test_declared ds n) refl
    where
      by : (b : Bool) → test_declared ds n ≡ b → Did t ts (cond b x (fails X11-undeclared-prefix))
      by true h = f (test-declared ds n h)
      by false h = tt

  first-parts : (ts : List Token) (n : NameTest) → first_test ts ≡ some n → name n ∷ drop 1 ts ≡ ts
  first-parts [] n e = no_none e
  first-parts (dot ∷ ts) n e = no_none e
  first-parts (slash ∷ ts) n e = no_none e
  first-parts (slashes ∷ ts) n e = no_none e
  first-parts (colons ∷ ts) n e = no_none e
  first-parts (at ∷ ts) n e = no_none e
  first-parts (bar ∷ ts) n e = no_none e
  first-parts (name m ∷ ts) n e = ap (λ (x : NameTest). name x ∷ ts) (sym (some-injective _ _ e))

  axis-parts : (ts : List Token) (n : NameTest) → axis_test ts ≡ some n → colons ∷ name n ∷ drop 2 ts ≡ ts
  axis-parts [] n e = no_none e
  axis-parts (dot ∷ ts) n e = no_none e
  axis-parts (slash ∷ ts) n e = no_none e
  axis-parts (slashes ∷ ts) n e = no_none e
  axis-parts (colons ∷ ts) n e = ap (λ (l : List Token). colons ∷ l) (first-parts ts n e)
  axis-parts (at ∷ ts) n e = no_none e
  axis-parts (bar ∷ ts) n e = no_none e
  axis-parts (name m ∷ ts) n e = no_none e

  empty-is : (ts : List Token) → is_empty ts ≡ true → ts ≡ []
  empty-is [] h = refl
  empty-is (t ∷ ts) h = never h

  attribute-last : (s : List Token) → is_field k ≡ true → AttributeStep s → Steps k s
  attribute-last s h a = rw (field_is k h) (last_attribute a)

  did-attribute : (ts : List Token) (o : Option NameTest) → first_test ts ≡ o → (b : Bool) → is_empty (drop 1 ts) ≡ b
      → Did at ts (attribute_step k ds o b)
  did-attribute ts none e b h = tt
  did-attribute ts (some n) e true h = by (is_field k) refl
    where
      whole : name n ∷ [] ≡ ts
      whole = ap (λ (l : List Token). name n ∷ l) (sym (empty-is (drop 1 ts) h)) ∙ first-parts ts n e

      by : (c : Bool) → is_field k ≡ c → Did at ts (cond c (check_prefix ds n ends) (fails X8-attribute-in-selector))
      by true f =
          did-check at ts n ends
          (λ d. subst (λ (l : List Token). Steps k (at ∷ l) × Known (at ∷ l)) whole (attribute-last (at ∷ name n ∷ []) f attr_test, (tt, (d, tt))))
      by false f = tt
  did-attribute ts (some n) e false h = tt

  did-axis : (ts : List Token) (l : Points) (n : NameTest) → axis_test ts ≡ some n
      → Did (name (local l)) ts (axis_step k ds (local l) n (is_empty (drop 2 ts)))
  did-axis ts l n e = by (same l child) refl (same l attribute) refl (is_field k) refl (is_empty (drop 2 ts)) refl
    where
      by : (b₁ : Bool) → same l child ≡ b₁ → (b₂ : Bool) → same l attribute ≡ b₂ → (b₃ : Bool) → is_field k ≡ b₃
          → (b₄ : Bool) → is_empty (drop 2 ts) ≡ b₄
          → Did (name (local l)) ts (cond b₁ (check_prefix ds n (takes 2)) (cond (b₂ && b₃ && b₄) (check_prefix ds n ends) (fails X10-axis-not-allowed)))
      by true h₁ b₂ h₂ b₃ h₃ b₄ h₄ =
          did-check (name (local l)) ts n (takes 2)
          (λ d. record {
            more = colons ∷ name n ∷ [];
            rest = drop 2 ts;
            parts = axis-parts ts n e;
            size = refl;
            one = rw (same-eq l child h₁) child_test;
            known = (tt, (tt, (d, tt)));
          })
      by false h₁ true h₂ true h₃ true h₄ =
          did-check (name (local l)) ts n ends
          (λ d.
          subst (λ (m : List Token). Steps k (name (local l) ∷ m) × Known (name (local l) ∷ m))
          (ap (λ (m : List Token). colons ∷ name n ∷ m) (sym (empty-is (drop 2 ts) h₄)) ∙ axis-parts ts n e)
          (attribute-last (name (local l) ∷ colons ∷ name n ∷ []) h₃ (rw (same-eq l attribute h₂) attribute_test), (tt, (tt, (d, tt)))))
      by false h₁ true h₂ true h₃ false h₄ = tt
      by false h₁ true h₂ false h₃ b₄ h₄ = tt
      by false h₁ false h₂ b₃ h₃ b₄ h₄ = tt

  took_one : (t : Token) (ts : List Token) → Step (t ∷ []) → TokenDeclared ds t → Taken t ts 0
  took_one t ts h d = record { more = []; rest = ts; parts = refl; size = refl; one = h; known = (d, tt) }

  did-name : (ts : List Token) (m : NameTest) (o : Option NameTest) → axis_test ts ≡ o → Did (name m) ts (name_step k ds m o (is_empty (drop 2 ts)))
  did-name ts m none e = did-check (name m) ts m (takes 0) (λ d. took_one (name m) ts test d)
  did-name ts star (some n) e = tt
  did-name ts (any_in p) (some n) e = tt
  did-name ts (local l) (some n) e = did-axis ts l n e
  did-name ts (qualified p l) (some n) e = tt

  step-did : (t : Token) (ts : List Token) → Did t ts (step k ds t ts)
  unfolding step
  step-did dot ts = took_one dot ts self tt
  step-did slash ts = tt
  step-did slashes ts = tt
  step-did colons ts = tt
  step-did at ts = did-attribute ts (first_test ts) refl (is_empty (drop 1 ts)) refl
  step-did bar ts = tt
  step-did (name m) ts = did-name ts m (axis_test ts) refl

  -- ---- the walk passes paths

  -- what may follow a step
  pub data After : List Token → Type 0 where
    ended : After []
    next : {ts : List Token} → Steps k ts → After (slash ∷ ts)

  with-after : {s r : List Token} → Step s → After r → Steps k (s ++ r)
  with-after {s} h ended = rw (append-nil s) (last h)
  with-after h (next r) = then h r

  abbrev pub Passed : Place → List Token → Type 0
  Passed start ts = Steps k ts × Known ts
  Passed (within n) ts = After (drop n ts) × Known (drop n ts)

  took : (t : Token) (ts : List Token) (n : ℕ) → Taken t ts n → Passed (within n) ts → Passed start (t ∷ ts)
  took t ts n w p =
      let d : drop n ts ≡ w.rest = ap (drop n) (sym w.parts) ∙ drop_at w.more w.rest n w.size in
      let q : After w.rest × Known w.rest = rw d at p in
      subst (λ (l : List Token). Steps k (t ∷ l) × Known (t ∷ l)) w.parts
      (with-after w.one q.0, All-append (TokenDeclared ds) (t ∷ w.more) w.rest w.known q.1)

  separated-pass : (t : Token) (ts : List Token) (o : Option ℕ) → (o ≡ none → Steps k ts × Known ts) → separated t (λ n. o) ≡ none
      → After (t ∷ ts) × Known (t ∷ ts)
  separated-pass dot ts o f e = no-some e
  separated-pass slash ts o f e = let p = f e in (next p.0, (tt, p.1))
  separated-pass slashes ts o f e = no-some e
  separated-pass colons ts o f e = no-some e
  separated-pass at ts o f e = no-some e
  separated-pass bar ts o f e = no-some e
  separated-pass (name m) ts o f e = no-some e

  pub steps-pass : (a : Place) (ts : List Token) → steps k ds a ts ≡ none → Passed a ts
  unfolding steps
  steps-pass start [] e = no-some e
  steps-pass start (t ∷ ts) e = by (step k ds t ts) (step-did t ts) (λ n. steps-pass (within n) ts) e
    where
      by : (x : Stepped) → Did t ts x → ((n : ℕ) → steps k ds (within n) ts ≡ none → Passed (within n) ts)
          → step_on x (λ n. steps k ds (within n) ts) ≡ none → Passed start (t ∷ ts)
      by (fails j) d rec e = no-some e
      by ends d rec e = d
      by (takes n) d rec e = took t ts n d (rec n e)
  steps-pass (within n) [] e = rw (drop-nil {A = Token} n) (ended, tt)
  steps-pass (within zero) (t ∷ ts) e = separated-pass t ts (steps k ds start ts) (steps-pass start ts) e
  steps-pass (within (suc n)) (t ∷ ts) e = steps-pass (within n) ts e

  under : (r : List Token) → descent k ds r ≡ none → Passed start r
  unfolding descent
  under [] e = no-some e
  under (u ∷ r) e = steps-pass start (u ∷ r) e

  pub path-pass : (ts : List Token) → validate_path k ds ts ≡ none → Path k ts × Known ts
  unfolding validate_path
  path-pass [] e = no-some e
  path-pass (t ∷ ts) e = by (is_dot t) refl (slashes_first ts) refl e
    where
      by : (b : Bool) → is_dot t ≡ b → (c : Bool) → slashes_first ts ≡ c → cond (b && c) (descent k ds (drop 1 ts)) (steps k ds start (t ∷ ts)) ≡ none
          → Path k (t ∷ ts) × Known (t ∷ ts)
      by true h true g e =
          let p = under (drop 1 ts) e in
          rw (dot-is t h, sym (slashes-are ts g)) (anywhere p.0, (tt, (tt, p.1)))
      by true h false g e = let p = steps-pass start (t ∷ ts) e in (here p.0, p.1)
      by false h c g e = let p = steps-pass start (t ∷ ts) e in (here p.0, p.1)

-- ---- and every path passes

module _ (ds : List Points) where
  known-check : (n : NameTest) (x : Stepped) → TestDeclared ds n → check_prefix ds n x ≡ x
  unfolding check_prefix
  known-check n x d = rw (declared-test ds n d)

  pass-steps : {k : Kind} {ts : List Token} → Steps k ts → All (TokenDeclared ds) ts → steps k ds start ts ≡ none
  unfolding steps step same
  pass-steps (last self) d = refl
  pass-steps (last (test {n = n})) d = rw (known-check n (takes 0) d.0)
  pass-steps (last (child_test {n = n})) d = rw (known-check n (takes 2) d.1.1.0)
  pass-steps (last_attribute (attr_test {n = n})) d = rw (known-check n ends d.1.0)
  pass-steps (last_attribute (attribute_test {n = n})) d = rw (known-check n ends d.1.1.0)
  pass-steps (then self r) d = pass-steps r d.1.1
  pass-steps (then (test {n = n}) r) d = rw (known-check n (takes 0) d.0) (pass-steps r d.1.1)
  pass-steps (then (child_test {n = n}) r) d = rw (known-check n (takes 2) d.1.1.0) (pass-steps r d.1.1.1.1)

  descent-is : {k : Kind} {ts : List Token} → Steps k ts → descent k ds ts ≡ steps k ds start ts
  unfolding descent
  descent-is (last self) = refl
  descent-is (last test) = refl
  descent-is (last child_test) = refl
  descent-is (last_attribute attr_test) = refl
  descent-is (last_attribute attribute_test) = refl
  descent-is (then self r) = refl
  descent-is (then test r) = refl
  descent-is (then child_test r) = refl

  here-is : {k : Kind} {ts : List Token} → Steps k ts → validate_path k ds ts ≡ steps k ds start ts
  unfolding validate_path
  here-is (last self) = refl
  here-is (last test) = refl
  here-is (last child_test) = refl
  here-is (last_attribute attr_test) = refl
  here-is (last_attribute attribute_test) = refl
  here-is (then self r) = refl
  here-is (then test r) = refl
  here-is (then child_test r) = refl

  pub pass-path : {k : Kind} {ts : List Token} → Path k ts → All (TokenDeclared ds) ts → validate_path k ds ts ≡ none
  unfolding validate_path
  pass-path (here r) d = here-is r ∙ pass-steps r d
  pass-path (anywhere r) d = descent-is r ∙ pass-steps r d.1.1

-- ---- no '|' stands in a path

steps-clear : {k : Kind} {ts : List Token} → Steps k ts → All NoBar ts
steps-clear (last self) = (refl, tt)
steps-clear (last test) = (refl, tt)
steps-clear (last child_test) = (refl, (refl, (refl, tt)))
steps-clear (last_attribute attr_test) = (refl, (refl, tt))
steps-clear (last_attribute attribute_test) = (refl, (refl, (refl, tt)))
steps-clear (then self r) = (refl, (refl, steps-clear r))
steps-clear (then test r) = (refl, (refl, steps-clear r))
steps-clear (then child_test r) = (refl, (refl, (refl, (refl, steps-clear r))))

pub path-clear : {k : Kind} {ts : List Token} → Path k ts → All NoBar ts
path-clear (here r) = steps-clear r
path-clear (anywhere r) = (refl, (refl, steps-clear r))
