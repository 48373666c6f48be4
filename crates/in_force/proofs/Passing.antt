-- `canonical-passes`: the canonical text of a path that passes the checker passes it, with the same prefixes declared.
-- The tests that are read of a path of the grammar are its name tests, so the canonical text is made of these, and is
-- itself a path of the grammar.
-- Assumes nothing.
use native.Mathlib.Omega.{arith}
use mathlib.Core.Path.{◌≡◌, refl, ap, sym, ◌∙◌, subst}
use mathlib.Core.Bool.{Bool, true, false, cond, ◌&&◌, false≢true}
use mathlib.Core.List.{List, [], ◌∷◌, ◌++◌, map, flat_map, append-nil}
use mathlib.Core.Option
use mathlib.Core.Option.{Option, none, some, IsSome, some-injective}
use Rattle.lists.specs.Lists.{all, only_if, All}
use Rattle.lists.proofs.Lists.{flat_map-append}
use Rattle.texts.specs.Texts.{Text, same}
use Rattle.utf8.specs.Utf8.{encode, decode, utf8}
use Rattle.grammar.specs.Tokens.{Points, NCName, NameTest, Token, Tokens}
use Rattle.grammar.specs.Tokens.NameTest.{star, any_in, local, qualified}
use Rattle.grammar.specs.Tokens.Token.{slash, bar}
use Rattle.grammar.specs.Paths.{Kind, Step, AttributeStep, Steps, Path, Expression, TokenDeclared}
use Rattle.grammar.specs.Paths.Kind.{selector, field}
use Rattle.grammar.specs.Paths.Step.{self, test, child_test}
use Rattle.grammar.specs.Paths.AttributeStep.{attr_test, attribute_test}
use Rattle.grammar.specs.Paths.Steps.{last, last_attribute, then}
use Rattle.grammar.specs.Paths.Path.{here, anywhere}
use Rattle.grammar.specs.Paths.Expression.{one, or}
use Rattle.reasons.specs.Reasons.{is_field, reason}
use Rattle.reasons.proofs.Tokenizes.{tokens-join}
use Rattle.reasons.proofs.Walks.{no-some}
use Rattle.reasons.proofs.Meets.{checker-meets-grammar}
use Rattle.paths.specs.Reading.{WrittenTest, WrittenAlt, Walked, Part, attribute_part, self_part, child_part, every, or_else, is_nil, split_at, behind, within, test_byte, starts_well, star_alone, local_of, test_of, test_parts, name_test, attribute_axis, child_axis, element_part, part_of, as_part, walk_part, walk_parts, marked, alt_of, read_alt, read_path}
use Rattle.passed.proofs.Spelling.{spell_test, test_bytes, SoundTest, Sound, tokens-sound, written, without-space}
use Rattle.passed.proofs.Cut.{Free, free-by, split-whole, split-first}
use Rattle.passed.proofs.Names.{name_byte, name-bytes}
use Rattle.passed.proofs.Tests.{test-read}
use Rattle.passed.proofs.Parts.{test-free, test-part, test-alone, child-axis, attr-at, attr-axis, slash-between, steps-read}
use Rattle.passed.proofs.Passed.{no_descent, path-free, bar-between}
use Rattle.canonical.specs.Canonical.{test_text, attribute_text, or_self, part_texts, joined, alt_text, canonical}
use Rattle.paths.proofs.Sure.{Sure, sure-map, sure-some, sure-at, sure-if}
use Rattle.canonical.proofs.Again.{test-text, EndAgain, AltAgain, path-again}
use Rattle.in_force.proofs.Grammatical.{tail_points, path_points, path_tokens, Known, KnownEnd, path-tokens, InKind, path-steps, path-declared, deep_points, deep_tokens, deep-tokens, deep-path, deep-declared, Small, path-small, deep-small, decoded}
use Rattle.lists.proofs.Folds.{All-append, All-parts}

-- ---- the prefix that is read of a name test

abbrev pub prefix_bytes : NameTest → Option Text
prefix_bytes star = none
prefix_bytes (any_in p) = some (flat_map encode p)
prefix_bytes (local l) = none
prefix_bytes (qualified p l) = some (flat_map encode p)

test-parts : (t : Text) (w : WrittenTest) → name_test t ≡ some w → test_parts (split_at 58 t) ≡ some w
unfolding name_test
test-parts t w e = by (all test_byte t && starts_well t) e
  where
    by : (b : Bool) → cond b (test_parts (split_at 58 t)) none ≡ some w → test_parts (split_at 58 t) ≡ some w
    by true e = e
    by false e = no-some (sym e)

of-prefix : (p : Option Text) (l : Text) (w : WrittenTest) → test_of p l ≡ some w → w.prefix ≡ p
unfolding test_of
of-prefix p l w e = by (starts_well l && star_alone l) e
  where
    by : (b : Bool) → cond b (some (record { prefix = p; local = local_of l })) none ≡ some w → w.prefix ≡ p
    by true e = ap (λ (x : WrittenTest). x.prefix) (sym (some-injective _ _ e))
    by false e = no-some (sym e)

one-prefix : (l : Text) (w : WrittenTest) → Free 58 l → name_test l ≡ some w → w.prefix ≡ none
unfolding test_parts
one-prefix l w f e = of-prefix none l w (subst (λ (ts : List Text). test_parts ts ≡ some w) (split-whole 58 l f) (test-parts l w e))

two-prefix : (p l : Text) (w : WrittenTest) → Free 58 p → Free 58 l → name_test (p ++ (58 ∷ l)) ≡ some w → w.prefix ≡ some p
unfolding test_parts
two-prefix p l w f g e =
    let s : split_at 58 (p ++ (58 ∷ l)) ≡ p ∷ l ∷ [] = split-first 58 p l f ∙ ap (λ (ts : List Text). p ∷ ts) (split-whole 58 l g) in
    of-prefix (some p) l w (subst (λ (ts : List Text). test_parts ts ≡ some w) s (test-parts (p ++ (58 ∷ l)) w e))

no-colon : (l : Points) → NCName l → Free 58 (flat_map encode l)
unfolding name_byte test_byte within
no-colon l h = free-by name_byte 58 refl (flat_map encode l) (name-bytes l h)

-- IT IS THE TEST'S OWN
test-prefix : (n : NameTest) → SoundTest n → (w : WrittenTest) → name_test (test_bytes n) ≡ some w → w.prefix ≡ prefix_bytes n
unfolding flat_map encode
test-prefix star h w e = one-prefix (42 ∷ []) w (refl, tt) e
test-prefix (any_in p) h w e =
    two-prefix (flat_map encode p) (42 ∷ []) w (no-colon p h) (refl, tt) (subst (λ (t : Text). name_test t ≡ some w) (flat_map-append encode p (58 ∷ 42 ∷ [])) e)
test-prefix (local l) h w e = one-prefix (flat_map encode l) w (no-colon l h) e
test-prefix (qualified p l) h w e =
    two-prefix (flat_map encode p) (flat_map encode l) w (no-colon p h.0) (no-colon l h.1) (subst (λ (t : Text). name_test t ≡ some w) (flat_map-append encode p (58 ∷ l)) e)

module _ (ds : List Points) where
  -- ---- the tests that are read are name tests of the path

  record GoodText (u : Text) : Type 0 where
    test : NameTest
    known : Known ds test
    bytes : u ≡ test_bytes test

  pub record Good (w : WrittenTest) : Type 0 where
    pub test : NameTest
    pub known : Known ds test
    pub bytes : test_text w ≡ test_bytes test
    pub prefix : w.prefix ≡ prefix_bytes test

  abbrev pub GoodEnd : Option WrittenTest → Type 0
  GoodEnd none = Unit {0}
  GoodEnd (some w) = Good w

  record GoodWalk (w : Walked) : Type 0 where
    steps : All Good w.steps
    attr : GoodEnd w.attr

  pub record GoodAlt (a : WrittenAlt) : Type 0 where
    pub steps : All Good a.steps
    pub attr : GoodEnd a.attr

  abbrev GoodPart : Part → Type 0
  GoodPart (attribute_part u) = GoodText u
  GoodPart self_part = Unit {0}
  GoodPart (child_part u) = GoodText u

  record PartOk (t : Text) : Type 0 where
    free : Free 47 t
    good : GoodPart (as_part t)

  no_slash : (n : NameTest) → Known ds n → Free 47 (test_bytes n)
  unfolding test_byte within
  no_slash n k = test-free 47 refl (test_bytes n) (test-read n k.0)

  good : (n : NameTest) → Known ds n → GoodText (test_bytes n)
  good n k = record { test = n; known = k; bytes = refl }

  test-ok : (n : NameTest) → Known ds n → PartOk (test_bytes n)
  test-ok n k = record { free = no_slash n k; good = subst GoodPart (sym (test-part (test_bytes n) (test-read n k.0))) (good n k) }

  child-ok : (n : NameTest) → Known ds n → PartOk (child_axis ++ test_bytes n)
  unfolding as_part part_of or_else behind same element_part
  child-ok n k = record { free = (refl, (refl, (refl, (refl, (refl, (refl, (refl, no_slash n k))))))); good = good n k }

  dot_ok : PartOk (46 ∷ [])
  unfolding as_part part_of or_else behind same
  dot_ok = record { free = (refl, tt); good = tt }

  at_ok : (n : NameTest) → Known ds n → PartOk (64 ∷ test_bytes n)
  unfolding as_part part_of or_else behind
  at_ok n k = record { free = (refl, no_slash n k); good = good n k }

  axis-ok : (n : NameTest) → Known ds n → PartOk (attribute_axis ++ test_bytes n)
  unfolding as_part part_of or_else behind
  axis-ok n k = record { free = (refl, (refl, (refl, (refl, (refl, (refl, (refl, (refl, (refl, (refl, (refl, no_slash n k))))))))))); good = good n k }

  step_ok : {s : List Token} → Step s → All Sound s → All (TokenDeclared ds) s → PartOk (written s)
  step_ok self h d = unfold written flat_map encode in dot_ok
  step_ok (test {n = n}) h d = subst PartOk (sym (test-alone n)) (test-ok n (h.0, d.0))
  step_ok (child_test {n = n}) h d = subst PartOk (sym (child-axis n)) (child-ok n (h.1.1.0, d.1.1.0))

  attribute-ok : {s : List Token} → AttributeStep s → All Sound s → All (TokenDeclared ds) s → PartOk (written s)
  attribute-ok (attr_test {n = n}) h d = subst PartOk (sym (attr-at n)) (at_ok n (h.1.0, d.1.0))
  attribute-ok (attribute_test {n = n}) h d = subst PartOk (sym (attr-axis n)) (axis-ok n (h.1.1.0, d.1.1.0))

  test_good : (u : Text) → GoodText u → Sure Good (name_test u)
  test_good u g =
      sure-if Good (name_test u)
      (λ w e.
      record {
        test = g.test;
        known = g.known;
        bytes = test-text u w e ∙ g.bytes;
        prefix = test-prefix g.test g.known.0 w (subst (λ (t : Text). name_test t ≡ some w) g.bytes e);
      })

  part-good : (f l : Bool) (p : Part) → GoodPart p → (rest : Option Walked) → Sure GoodWalk rest → Sure GoodWalk (walk_part f l p rest)
  unfolding walk_part
  part-good f l (attribute_part u) g rest r = by (f && l)
    where
      by : (b : Bool) → Sure GoodWalk (cond b (Option.map (λ n. record { steps = []; attr = some n }) (name_test u)) none)
      by true = sure-map Good GoodWalk (λ n. record { steps = []; attr = some n }) (λ n h. record { steps = tt; attr = h }) (name_test u) (test_good u g)
      by false = tt
  part-good f l self_part g rest r = r
  part-good f l (child_part u) g rest r =
      sure-some Good GoodWalk (λ n. Option.map (λ w. record { steps = n ∷ w.steps; attr = w.attr }) rest)
      (λ n h. sure-map GoodWalk GoodWalk (λ w. record { steps = n ∷ w.steps; attr = w.attr }) (λ w k. record { steps = (h, k.steps); attr = k.attr }) rest r)
      (name_test u) (test_good u g)

  last-good : (f : Bool) (t : Text) → PartOk t → Sure GoodWalk (walk_parts f (split_at 47 t))
  unfolding walk_parts
  last-good f t o = rw (split-whole 47 t o.free) (part-good f _ (as_part t) o.good (some (record { steps = []; attr = none })) (record { steps = tt; attr = tt }))

  then-good : (f : Bool) (t r : Text) → PartOk t → Sure GoodWalk (walk_parts f (split_at 47 r)) → Sure GoodWalk (walk_parts f (split_at 47 (t ++ (47 ∷ r))))
  unfolding walk_parts
  then-good f t r o h = rw (split-first 47 t r o.free) (part-good f _ (as_part t) o.good (walk_parts f (split_at 47 r)) h)

  steps-good : {k : Kind} {ts : List Token} → Steps k ts → All Sound ts → All (TokenDeclared ds) ts → Sure GoodWalk (walk_parts (is_field k) (split_at 47 (written ts)))
  steps-good {k} (last {s = s} h) a d = last-good (is_field k) (written s) (step_ok h a d)
  steps-good {k} (last_attribute {s = s} h) a d = last-good (is_field k) (written s) (attribute-ok h a d)
  steps-good {k} (then {s = s} {r = r} h g) a d =
      let b = (All-parts Sound s (slash ∷ r) a).1 in
      let e = (All-parts (TokenDeclared ds) s (slash ∷ r) d).1 in
      subst (λ (t : Text). Sure GoodWalk (walk_parts (is_field k) (split_at 47 t))) (sym (slash-between s r))
      (then-good (is_field k) (written s) (written r) (step_ok h (All-parts Sound s (slash ∷ r) a).0 (All-parts (TokenDeclared ds) s (slash ∷ r) d).0) (steps-good g b.1 e.1))

  marked-good : (d : Bool) (o : Option Walked) → Sure GoodWalk o → Sure GoodAlt (marked d o)
  unfolding marked
  marked-good d o h = sure-map GoodWalk GoodAlt (λ v. record { descendant = d; steps = v.steps; attr = v.attr }) (λ v g. record { steps = g.steps; attr = g.attr }) o h

  here-good : (f : Bool) (t : Text) → IsSome (walk_parts f (split_at 47 t)) → Sure GoodWalk (walk_parts f (split_at 47 t)) → Sure GoodAlt (read_alt f t)
  unfolding read_alt alt_of
  here-good f t i h = rw (no_descent f t i) (marked-good false (walk_parts f (split_at 47 t)) h)

  path-good : {k : Kind} {ts : List Token} → Path k ts → All Sound ts → All (TokenDeclared ds) ts → Sure GoodAlt (read_alt (is_field k) (written ts))
  path-good {k} (here {s = s} h) a d = here-good (is_field k) (written s) (steps-read h a) (steps-good h a d)
  path-good {k} (anywhere {s = s} h) a d =
      unfold written flat_map encode read_alt alt_of behind in
      marked-good true (walk_parts (is_field k) (split_at 47 (written s))) (steps-good h a.1.1 d.1.1)

  every-good : (f : Bool) (t : Text) (ts : List Text) → Sure GoodAlt (read_alt f t) → Sure (All GoodAlt) (every (read_alt f) ts) → Sure (All GoodAlt) (every (read_alt f) (t ∷ ts))
  unfolding every
  every-good f t ts h g =
      sure-some GoodAlt (All GoodAlt) (λ a. Option.map (λ l. a ∷ l) (every (read_alt f) ts))
      (λ a x. sure-map (All GoodAlt) (All GoodAlt) (λ (l : List WrittenAlt). a ∷ l) (λ l y. (x, y)) (every (read_alt f) ts) g) (read_alt f t) h

  expression-good : {k : Kind} {ts : List Token} → Expression k ts → All Sound ts → All (TokenDeclared ds) ts → Sure (All GoodAlt) (every (read_alt (is_field k)) (split_at 124 (written ts)))
  expression-good {k} (one {s = s} h) a d =
      subst (λ (l : List Text). Sure (All GoodAlt) (every (read_alt (is_field k)) l)) (sym (split-whole 124 (written s) (path-free h a)))
      (every-good (is_field k) (written s) [] (path-good h a d) (unfold every in tt))
  expression-good {k} (or {s = s} {r = r} h g) a d =
      let b = (All-parts Sound s (bar ∷ r) a).0 in
      let c = (All-parts Sound s (bar ∷ r) a).1 in
      let x = (All-parts (TokenDeclared ds) s (bar ∷ r) d).0 in
      let y = (All-parts (TokenDeclared ds) s (bar ∷ r) d).1 in
      subst (λ (l : List Text). Sure (All GoodAlt) (every (read_alt (is_field k)) l)) (sym (ap (split_at 124) (bar-between s r) ∙ split-first 124 (written s) (written r) (path-free h b)))
      (every-good (is_field k) (written s) (split_at 124 (written r)) (path-good h b x) (expression-good g c.1 y.1))

  pub path-read-good : (k : Kind) (t : Text) → utf8 t ≡ true → reason k (decode t) ds ≡ none → (alts : List WrittenAlt) → read_path (is_field k) t ≡ some alts → All GoodAlt alts
  unfolding read_path
  path-read-good k t u e alts r =
      let g = (checker-meets-grammar k (decode t) ds).0 e in
      let q : read_path (is_field k) t ≡ every (read_alt (is_field k)) (split_at 124 (written g.tokens)) = rw (u, without-space t g.spelled) in
      sure-at (All GoodAlt) _ alts (sym q ∙ r) (expression-good g.expression (tokens-sound g.spelled) g.prefixes)

  -- ---- the name tests of an alternative

  record Tests (ws : List WrittenTest) : Type 0 where
    tests : List NameTest
    known : All (Known ds) tests
    texts : map test_text ws ≡ map test_bytes tests

  tests-of : (ws : List WrittenTest) → All Good ws → Tests ws
  tests-of [] a = record { tests = []; known = tt; texts = refl }
  tests-of (w ∷ ws) a =
      let r = tests-of ws a.1 in
      record {
        tests = a.0.test ∷ r.tests;
        known = (a.0.known, r.known);
        texts = ap (λ (x : Text). x ∷ map test_text ws) a.0.bytes ∙ ap (λ (l : List Text). test_bytes a.0.test ∷ l) r.texts;
      }

  abbrev end_bytes : Option NameTest → List Text
  end_bytes none = []
  end_bytes (some n) = (64 ∷ test_bytes n) ∷ []

  record End (k : Kind) (o : Option WrittenTest) : Type 0 where
    end : Option NameTest
    known : KnownEnd ds end
    kind : InKind ds k end
    texts : attribute_text o ≡ end_bytes end

  end-of : (k : Kind) (o : Option WrittenTest) → GoodEnd o → EndAgain (is_field k) o → End k o
  unfolding attribute_text
  end-of selector none g a = record { end = none; known = tt; kind = tt; texts = refl }
  end-of field none g a = record { end = none; known = tt; kind = tt; texts = refl }
  end-of selector (some w) g a = absurd (false≢true a.1)
  end-of field (some w) g a = record { end = some g.test; known = g.known; kind = tt; texts = ap (λ (x : Text). (64 ∷ x) ∷ []) g.bytes }

  -- ---- their text

  abbrev enc : Points → Text
  enc ps = flat_map encode ps

  tail-text : (m : Text) (ns : List NameTest) (o : Option NameTest) → joined 47 (m ∷ (map test_bytes ns ++ end_bytes o)) ≡ m ++ enc (tail_points ns o)
  unfolding joined tail_points flat_map encode
  tail-text m [] none = sym (append-nil m)
  tail-text m [] (some n) = refl
  tail-text m (n ∷ ns) o =
      ap (λ (x : Text). m ++ (47 ∷ x)) (tail-text (test_bytes n) ns o ∙ sym (flat_map-append encode (spell_test n) (tail_points ns o)))

  path-text : (ns : List NameTest) (o : Option NameTest) → joined 47 (or_self (map test_bytes ns ++ end_bytes o)) ≡ enc (path_points ns o)
  unfolding or_self path_points
  path-text [] none = unfold joined flat_map encode in refl
  path-text [] (some n) = unfold joined flat_map encode in refl
  path-text (n ∷ ns) o = tail-text (test_bytes n) ns o ∙ sym (flat_map-append encode (spell_test n) (tail_points ns o))

  deep-text : (d : Bool) (s : Points) → only_if d (46 ∷ 47 ∷ 47 ∷ []) ++ enc s ≡ enc (deep_points ds d s)
  unfolding only_if deep_points
  deep-text false s = refl
  deep-text true s = unfold flat_map encode in refl

  -- ---- an alternative as a path of the grammar

  record PathOf (k : Kind) (a : WrittenAlt) : Type 0 where
    points : Points
    tokens : List Token
    text : alt_text a ≡ enc points
    spelled : Tokens points tokens
    path : Path k tokens
    declared : All (TokenDeclared ds) tokens
    small : All Small points

  alt-text : (a : WrittenAlt) (ns : List NameTest) (o : Option NameTest) → map test_text a.steps ≡ map test_bytes ns → attribute_text a.attr ≡ end_bytes o
      → alt_text a ≡ enc (deep_points ds a.descendant (path_points ns o))
  unfolding alt_text part_texts
  alt-text a ns o p q =
      ap (λ (l : List Text). only_if a.descendant (46 ∷ 47 ∷ 47 ∷ []) ++ joined 47 (or_self (l ++ attribute_text a.attr))) p
      ∙ ap (λ (l : List Text). only_if a.descendant (46 ∷ 47 ∷ 47 ∷ []) ++ joined 47 (or_self (map test_bytes ns ++ l))) q
      ∙ ap (λ (x : Text). only_if a.descendant (46 ∷ 47 ∷ 47 ∷ []) ++ x) (path-text ns o)
      ∙ deep-text a.descendant (path_points ns o)

  path-of : (k : Kind) (a : WrittenAlt) → GoodAlt a → AltAgain (is_field k) a → PathOf k a
  path-of k a g h =
      let t = tests-of a.steps g.steps in
      let e = end-of k a.attr g.attr h.attr in
      let ns = t.tests in
      let o = e.end in
      record {
        points = deep_points ds a.descendant (path_points ns o);
        tokens = deep_tokens ds a.descendant (path_tokens ns o);
        text = alt-text a ns o t.texts e.texts;
        spelled = deep-tokens ds a.descendant (path_points ns o) (path-tokens ds ns o t.known e.known);
        path = deep-path ds k a.descendant (path-steps ds k ns o e.kind);
        declared = deep-declared ds a.descendant (path_tokens ns o) (path-declared ds ns o t.known e.known);
        small = deep-small ds a.descendant (path_points ns o) (path-small ds ns o t.known e.known);
      }

  -- ---- all of them

  record WholeOf (k : Kind) (alts : List WrittenAlt) : Type 0 where
    points : Points
    tokens : List Token
    text : joined 124 (map alt_text alts) ≡ enc points
    spelled : Tokens points tokens
    expression : Expression k tokens
    declared : All (TokenDeclared ds) tokens
    small : All Small points

  whole_of : (k : Kind) (a : WrittenAlt) (alts : List WrittenAlt) → All GoodAlt (a ∷ alts) → All (AltAgain (is_field k)) (a ∷ alts) → WholeOf k (a ∷ alts)
  unfolding joined
  whole_of k a [] g h =
      let p = path-of k a g.0 h.0 in
      record { points = p.points; tokens = p.tokens; text = p.text; spelled = p.spelled; expression = one p.path; declared = p.declared; small = p.small }
  whole_of k a (b ∷ alts) g h =
      let p = path-of k a g.0 h.0 in
      let q = whole_of k b alts g.1 h.1 in
      record {
        points = p.points ++ (124 ∷ q.points);
        tokens = p.tokens ++ (bar ∷ q.tokens);
        text = ap (λ (x : Text). x ++ (124 ∷ joined 124 (map alt_text (b ∷ alts)))) p.text ∙ ap (λ (x : Text). enc p.points ++ (124 ∷ x)) q.text
            ∙ bar-text p.points q.points;
        spelled = tokens-join p.spelled q.spelled;
        expression = or p.path q.expression;
        declared = All-append (TokenDeclared ds) p.tokens (bar ∷ q.tokens) p.declared (tt, q.declared);
        small = All-append Small p.points (124 ∷ q.points) p.small (omega arith, q.small);
      }
    where
      bar-text : (x y : Points) → enc x ++ (124 ∷ enc y) ≡ enc (x ++ (124 ∷ y))
      bar-text x y = sym (flat_map-append encode x (124 ∷ y) ∙ (unfold flat_map encode in refl))

  -- THE CANONICAL TEXT OF A PATH THAT PASSES PASSES.
  pub canonical-passes : (k : Kind) (t : Text) → utf8 t ≡ true → reason k (decode t) ds ≡ none → (alts : List WrittenAlt) → read_path (is_field k) t ≡ some alts
      → reason k (decode (canonical alts)) ds ≡ none
  canonical-passes k t u e alts r =
      let p = path-again (is_field k) t alts r in
      by alts p.some-alt (path-read-good k t u e alts r) p.alts-stand
    where
      by : (bs : List WrittenAlt) → is_nil bs ≡ false → All GoodAlt bs → All (AltAgain (is_field k)) bs → reason k (decode (canonical bs)) ds ≡ none
      by [] n g h = absurd (false≢true (sym (unfold is_nil in n)))
      by (a ∷ bs) n g h =
          let w = whole_of k a bs g h in
          let c : decode (canonical (a ∷ bs)) ≡ w.points = unfold canonical in (ap decode w.text ∙ decoded w.points w.small) in
          subst (λ (s : Points). reason k s ds ≡ none) (sym c)
          ((checker-meets-grammar k w.points ds).1 (record { tokens = w.tokens; spelled = w.spelled; expression = w.expression; prefixes = w.declared }))
