-- The reader reads the steps of every path. What it takes for a name test is no '.', holds no '/', and begins with no '@' and no axis: so each step is one
-- part between slashes, and by induction on the path the parts are its steps.
-- Assumes nothing.
use Prim.Native.Nat.{ℕ}
use mathlib.Core.Path.{◌≡◌, refl, ap, sym, ◌∙◌, subst}
use mathlib.Core.Bool.{Bool, true, false, cond, ◌&&◌}
use mathlib.Core.List.{List, [], ◌∷◌, ◌++◌, flat_map, append-nil}
use mathlib.Core.Option.{Option, none, some, IsSome, map}
use Rattle.lists.specs.Lists.{all, All}
use Rattle.texts.specs.Texts.{Text, same}
use Rattle.texts.proofs.Sameness.{same-differ}
use Rattle.utf8.specs.Utf8.{encode}
use Rattle.grammar.specs.Tokens.{NameTest, Token}
use Rattle.grammar.specs.Tokens.NameTest.{local}
use Rattle.grammar.specs.Tokens.Token.{slash, colons, at, name}
use Rattle.grammar.specs.Paths.{Kind, child, attribute, Step, AttributeStep, Steps}
use Rattle.grammar.specs.Paths.Step.{self, test, child_test}
use Rattle.grammar.specs.Paths.AttributeStep.{attr_test, attribute_test}
use Rattle.grammar.specs.Paths.Steps.{last, last_attribute, then}
use Rattle.grammar.proofs.Words.{never}
use Rattle.reasons.specs.Reasons.{is_field}
use Rattle.paths.specs.Reading.{on_some, or_else, is_nil, split_at, behind, within, test_byte, starts_well, test_parts, name_test, Part, attribute_part, self_part, child_part, attribute_axis, child_axis, element_part, part_of, as_part, Walked, walk_part, walk_parts}
use Rattle.passed.proofs.Spelling.{test_bytes, Sound, written, written-append}
use Rattle.passed.proofs.Cut.{Free, free-by, split-whole, split-first, split-some, behind-none, map-some, on-some}
use Rattle.passed.proofs.Tests.{test-read}
use Rattle.lists.proofs.Folds.{All-parts}

-- ---- what a name test is not

-- a test is read
abbrev pub Test : Text → Type 0
Test t = IsSome (name_test t)

test-taken : (t : Text) → Test t → all test_byte t ≡ true
unfolding name_test
test-taken t h = by (all test_byte t) (starts_well t) h
  where
    by : (a b : Bool) → IsSome (cond (a && b) (test_parts (split_at 58 t)) none) → a ≡ true
    by true b h = refl
    by false b h = absurd h

-- it holds no byte that tests do not take: no '/' and no '|'
pub test-free : (d : ℕ) → test_byte d ≡ false → (t : Text) → Test t → Free d t
test-free d f t h = free-by test_byte d f t (test-taken t h)

-- three pieces are too many
three-pieces : (p l : Text) (ts : List Text) → is_nil ts ≡ false → test_parts (p ∷ l ∷ ts) ≡ none
unfolding test_parts is_nil
three-pieces p l [] h = never (sym h)
three-pieces p l (t ∷ ts) h = refl

-- no test begins with an axis
axis-no-test : (a u : Text) → Free 58 a → Test (a ++ (58 ∷ 58 ∷ u)) → ⊥
unfolding name_test split_at
axis-no-test a u f h =
    let s : split_at 58 (a ++ (58 ∷ 58 ∷ u)) ≡ a ∷ [] ∷ split_at 58 u = split-first 58 a (58 ∷ u) f in
    by (all test_byte (a ++ (58 ∷ 58 ∷ u)) && starts_well (a ++ (58 ∷ 58 ∷ u))) (ap test_parts s ∙ three-pieces a [] (split_at 58 u) (split-some 58 u)) h
  where
    by : (b : Bool) → test_parts (split_at 58 (a ++ (58 ∷ 58 ∷ u))) ≡ none → IsSome (cond b (test_parts (split_at 58 (a ++ (58 ∷ 58 ∷ u)))) none) → ⊥
    by true e h = rw e at h
    by false e h = h

at-no-test : (u : Text) → Test (64 ∷ u) → ⊥
unfolding name_test test_byte within
at-no-test u h = h

dot-no-test : Test (46 ∷ []) → ⊥
unfolding name_test test_byte within starts_well
dot-no-test h = h

-- so a test is a part of its own: a child
pub test-part : (t : Text) → Test t → as_part t ≡ child_part t
unfolding as_part part_of or_else element_part
test-part t h =
    rw (behind-none (64 ∷ []) t no-at, behind-none attribute_axis t no-attribute, same-differ t (46 ∷ []) no-dot, behind-none child_axis t no-child)
  where
    no-at : (u : Text) → t ≡ 64 ∷ u → ⊥
    no-at u e = at-no-test u (subst Test e h)

    no-dot : t ≡ 46 ∷ [] → ⊥
    no-dot e = dot-no-test (subst Test e h)

    no-attribute : (u : Text) → t ≡ attribute_axis ++ u → ⊥
    no-attribute u e = axis-no-test attribute u (refl, (refl, (refl, (refl, (refl, (refl, (refl, (refl, (refl, tt))))))))) (subst Test e h)

    no-child : (u : Text) → t ≡ child_axis ++ u → ⊥
    no-child u e = axis-no-test child u (refl, (refl, (refl, (refl, (refl, tt))))) (subst Test e h)

-- ---- a step is a part

-- a part that adds no step, or one
data Adds : Part → Type 0 where
  nothing : Adds self_part
  a_child : {t : Text} → Test t → Adds (child_part t)

record OnePart (t : Text) : Type 0 where
  free : Free 47 t
  adds : Adds (as_part t)

-- '/' is no byte of a test
no_slash : (t : Text) → Test t → Free 47 t
unfolding test_byte within
no_slash = test-free 47 refl

test-one : (t : Text) → Test t → OnePart t
test-one t h = record { free = no_slash t h; adds = rw (test-part t h) (a_child h) }

child-one : (t : Text) → Test t → OnePart (child_axis ++ t)
unfolding as_part part_of or_else behind same element_part
child-one t h = record { free = (refl, (refl, (refl, (refl, (refl, (refl, (refl, no_slash t h))))))); adds = a_child h }

dot-one : OnePart (46 ∷ [])
unfolding as_part part_of or_else behind same
dot-one = record { free = (refl, tt); adds = nothing }

-- a test alone, and behind an axis
pub test-alone : (n : NameTest) → written (name n ∷ []) ≡ test_bytes n
unfolding written flat_map
test-alone n = append-nil (test_bytes n)

pub child-axis : (n : NameTest) → written (name (local child) ∷ colons ∷ name n ∷ []) ≡ child_axis ++ test_bytes n
unfolding written flat_map encode
child-axis n = ap (λ (l : Text). child_axis ++ l) (append-nil (test_bytes n))

step-one : {s : List Token} → Step s → All Sound s → OnePart (written s)
unfolding written flat_map encode
step-one self h = dot-one
step-one (test {n = n}) h = rw (test-alone n) (test-one (test_bytes n) (test-read n h.0))
step-one (child_test {n = n}) h = rw (child-axis n) (child-one (test_bytes n) (test-read n h.1.1.0))

-- ---- an attribute step is a part that tests an attribute

record AttributePart (t : Text) : Type 0 where
  free : Free 47 t
  tested : Text
  part : as_part t ≡ attribute_part tested
  read : Test tested

at_one : (t : Text) → Test t → AttributePart (64 ∷ t)
unfolding as_part part_of or_else behind
at_one t h = record { free = (refl, no_slash t h); tested = t; part = refl; read = h }

axis-one : (t : Text) → Test t → AttributePart (attribute_axis ++ t)
unfolding as_part part_of or_else behind
axis-one t h =
    record {
      free = (refl, (refl, (refl, (refl, (refl, (refl, (refl, (refl, (refl, (refl, (refl, no_slash t h)))))))))));
      tested = t;
      part = refl;
      read = h;
    }

pub attr-at : (n : NameTest) → written (at ∷ name n ∷ []) ≡ 64 ∷ test_bytes n
unfolding written flat_map encode
attr-at n = ap (λ (l : Text). 64 ∷ l) (append-nil (test_bytes n))

pub attr-axis : (n : NameTest) → written (name (local attribute) ∷ colons ∷ name n ∷ []) ≡ attribute_axis ++ test_bytes n
unfolding written flat_map encode
attr-axis n = ap (λ (l : Text). attribute_axis ++ l) (append-nil (test_bytes n))

attribute-one : {s : List Token} → AttributeStep s → All Sound s → AttributePart (written s)
attribute-one (attr_test {n = n}) h = rw (attr-at n) (at_one (test_bytes n) (test-read n h.1.0))
attribute-one (attribute_test {n = n}) h = rw (attr-axis n) (axis-one (test_bytes n) (test-read n h.1.1.0))

-- ---- the walk over the parts

walk-adds : (f l : Bool) (p : Part) → Adds p → (rest : Option Walked) → IsSome rest → IsSome (walk_part f l p rest)
unfolding walk_part on_some
walk-adds f l self_part nothing rest g = g
walk-adds f l (attribute_part _) x3 rest g = elim x3 [ ]
walk-adds f l (child_part t) (a_child h) rest g =
    on-some (λ n. map (λ w. record { steps = n ∷ w.steps; attr = w.attr }) rest)
    (λ n. map-some (λ w. record { steps = n ∷ w.steps; attr = w.attr }) rest g)
    (name_test t) h

walk-attribute : (t : Text) → Test t → (rest : Option Walked) → IsSome (walk_part true true (attribute_part t) rest)
unfolding walk_part
walk-attribute t h rest = map-some (λ n. record { steps = []; attr = some n }) (name_test t) h

last-read : (f : Bool) (t : Text) → OnePart t → IsSome (walk_parts f (split_at 47 t))
unfolding walk_parts is_nil
last-read f t o = rw (split-whole 47 t o.free) (walk-adds f true (as_part t) o.adds (some (record { steps = []; attr = none })) tt)

attribute-read : (t : Text) → AttributePart t → IsSome (walk_parts true (split_at 47 t))
unfolding walk_parts is_nil
attribute-read t o = rw (split-whole 47 t o.free, o.part) (walk-attribute o.tested o.read (some (record { steps = []; attr = none })))

then-read : (f : Bool) (t r : Text) → OnePart t → IsSome (walk_parts f (split_at 47 r)) → IsSome (walk_parts f (split_at 47 (t ++ (47 ∷ r))))
unfolding walk_parts
then-read f t r o h =
    rw (split-first 47 t r o.free) (walk-adds f (is_nil (split_at 47 r)) (as_part t) o.adds (walk_parts f (split_at 47 r)) h)

pub slash-between : (s r : List Token) → written (s ++ (slash ∷ r)) ≡ written s ++ (47 ∷ written r)
unfolding written flat_map encode
slash-between s r = written-append s (slash ∷ r)

-- THE STEPS OF A PATH ARE READ
pub steps-read : {k : Kind} {ts : List Token} → Steps k ts → All Sound ts → IsSome (walk_parts (is_field k) (split_at 47 (written ts)))
steps-read {k} (last {s = s} h) a = last-read (is_field k) (written s) (step-one h a)
steps-read (last_attribute {s = s} h) a = attribute-read (written s) (attribute-one h a)
steps-read {k} (then {s = s} {r = r} h g) a =
    let b = (All-parts Sound s (slash ∷ r) a).1 in
    rw (slash-between s r) (then-read (is_field k) (written s) (written r) (step-one h (All-parts Sound s (slash ∷ r) a).0) (steps-read g b.1))
