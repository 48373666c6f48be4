-- `canonical-read`: the canonical text of a path that is read is read as the same path. What is read stands again as
-- it was read: a name test by the bytes that it was read from, and the texts that the canonical one is joined of hold
-- no byte at which the reader cuts.
-- Assumes nothing.
use Prim.Native.Nat.{ℕ, ◌≤◌}
use native.Mathlib.Omega.{arith}
use lib.Dec.{eqb}
use borrow.Author.Tests.{eqb-true}
use mathlib.Core.Path.{◌≡◌, refl, ap, sym, ◌∙◌, subst}
use mathlib.Core.Bool.{Bool, true, false, cond, ◌&&◌, false≢true}
use mathlib.Core.List.{List, [], ◌∷◌, ◌++◌, map, append_assoc}
use mathlib.Core.Option
use mathlib.Core.Option.{Option, none, some, IsSome, some-injective}
use Rattle.lists.specs.Lists.{all, only_if, All}
use Rattle.lists.proofs.Folds.{All-append}
use Rattle.texts.specs.Texts.{Text, same}
use Rattle.texts.proofs.Sameness.{same-eq}
use Rattle.utf8.specs.Utf8.{scalar, utf8}
use Rattle.characters.specs.Ranges.{in_ranges}
use Rattle.characters.specs.Spaces.{xml_space}
use Rattle.reasons.proofs.Walks.{no-some}
use Rattle.paths.specs.Reading.{WrittenTest, WrittenAlt, Walked, Part, attribute_part, self_part, child_part, on_some, every, or_else, is_nil, on_front, split_at, behind, without_space, test_byte, within, starts_well, star_alone, local_of, test_of, test_parts, name_test, attribute_axis, child_axis, element_part, part_of, as_part, walk_part, walk_parts, marked, alt_of, read_alt, read_path}
use Rattle.paths.proofs.Sure.{Sure, sure-else, sure-map, sure-some, sure-at, sure-if, sure-every}
use Rattle.passed.proofs.Cut.{Free, split-whole, split-first, split-some, behind-is}
use Rattle.passed.proofs.Parts.{Test, test-free, test-part}
use Rattle.passed.proofs.Passed.{no_descent}
use Rattle.canonical.specs.Canonical.{prefix_text, local_text, test_text, attribute_text, or_self, part_texts, joined, alt_text, canonical}
use Rattle.canonical.proofs.Bare.{Solid, Bare, bare-none, bare-append, bare-cons, bare-pieces, bare-behind, bare-text, space-dropped}

-- ---- joined and cut

front-joined : (d c : ℕ) (ts : List Text) → joined d (on_front c ts) ≡ c ∷ joined d ts
unfolding joined on_front
front-joined d c [] = refl
front-joined d c (t ∷ []) = refl
front-joined d c (t ∷ u ∷ ts) = refl

empty-joined : (d : ℕ) (ts : List Text) → is_nil ts ≡ false → joined d ([] ∷ ts) ≡ d ∷ joined d ts
unfolding joined is_nil
empty-joined d [] h = absurd (false≢true (sym h))
empty-joined d (t ∷ ts) h = refl

-- the pieces of a text, joined again
pub split-joined : (d : ℕ) (t : Text) → joined d (split_at d t) ≡ t
unfolding split_at
split-joined d [] = unfold joined in refl
split-joined d (c ∷ t) = by (eqb c d) refl (split-joined d t)
  where
    by : (b : Bool) → eqb c d ≡ b → joined d (split_at d t) ≡ t → joined d (cond b ([] ∷ split_at d t) (on_front c (split_at d t))) ≡ c ∷ t
    by true h e = empty-joined d (split_at d t) (split-some d t) ∙ ap (λ (l : Text). d ∷ l) e ∙ ap (λ (x : ℕ). x ∷ t) (sym (eqb-true c d h))
    by false h e = front-joined d c (split_at d t) ∙ ap (λ (l : Text). c ∷ l) e

-- texts without the byte, cut again
pub joined-split : (d : ℕ) (ts : List Text) → is_nil ts ≡ false → All (Free d) ts → split_at d (joined d ts) ≡ ts
unfolding joined
joined-split d [] h a = unfold is_nil in absurd (false≢true (sym h))
joined-split d (t ∷ []) h a = split-whole d t a.0
joined-split d (t ∷ u ∷ ts) h a = split-first d t (joined d (u ∷ ts)) a.0 ∙ ap (λ (l : List Text). t ∷ l) (joined-split d (u ∷ ts) (unfold is_nil in refl) a.1)

-- ---- a name test stands again by the bytes that it was read from

local-text : (l : Text) → local_text (local_of l) ≡ l
unfolding local_of
local-text l = by (same l (42 ∷ [])) refl
  where
    by : (b : Bool) → same l (42 ∷ []) ≡ b → local_text (cond b none (some l)) ≡ l
    by true e = unfold local_text in sym (same-eq l (42 ∷ []) e)
    by false e = unfold local_text in refl

of-text : (p : Option Text) (l : Text) (n : WrittenTest) → test_of p l ≡ some n → test_text n ≡ prefix_text p ++ l
unfolding test_of
of-text p l n = by (starts_well l && star_alone l)
  where
    by : (b : Bool) → cond b (some (record { prefix = p; local = local_of l })) none ≡ some n → test_text n ≡ prefix_text p ++ l
    by true e =
        let i : record { prefix = p; local = local_of l } ≡ n = some-injective _ _ e in
        subst (λ (m : WrittenTest). test_text m ≡ prefix_text p ++ l) i (unfold test_text in ap (λ (x : Text). prefix_text p ++ x) (local-text l))
    by false e = no-some (sym e)

parts-text : (ts : List Text) (n : WrittenTest) → test_parts ts ≡ some n → test_text n ≡ joined 58 ts
unfolding test_parts joined
parts-text [] n e = no-some (sym e)
parts-text (l ∷ []) n e = of-text none l n e ∙ (unfold prefix_text in refl)
parts-text (p ∷ l ∷ []) n e = of-text (some p) l n e ∙ (unfold prefix_text in append_assoc p (58 ∷ []) l)
parts-text (p ∷ l ∷ m ∷ ts) n e = no-some (sym e)

pub test-text : (u : Text) (n : WrittenTest) → name_test u ≡ some n → test_text n ≡ u
unfolding name_test
test-text u n = by (all test_byte u && starts_well u)
  where
    by : (b : Bool) → cond b (test_parts (split_at 58 u)) none ≡ some n → test_text n ≡ u
    by true e = parts-text (split_at 58 u) n e ∙ split-joined 58 u
    by false e = no-some (sym e)

-- A test that stands again.
pub record Again (n : WrittenTest) : Type 0 where
  pub bare : Bare (test_text n)
  pub read : name_test (test_text n) ≡ some n

test-again : (u : Text) → Bare u → Sure Again (name_test u)
test-again u b =
    sure-if Again (name_test u) (λ n e.
    let t = test-text u n e in
    record { bare = subst Bare (sym t) b; read = ap name_test t ∙ e })

is-test : (n : WrittenTest) → Again n → Test (test_text n)
is-test n a = subst (λ (o : Option WrittenTest). IsSome o) (sym a.read) tt

-- ---- what is read stands again

abbrev pub EndAgain : (field : Bool) → Option WrittenTest → Type 0
EndAgain field none = Unit {0}
EndAgain field (some t) = Again t × (field ≡ true)

record WalkAgain (field : Bool) (w : Walked) : Type 0 where
  steps : All Again w.steps
  attr : EndAgain field w.attr

pub record AltAgain (field : Bool) (a : WrittenAlt) : Type 0 where
  pub steps : All Again a.steps
  pub attr : EndAgain field a.attr

abbrev BarePart : Part → Type 0
BarePart (attribute_part t) = Bare t
BarePart self_part = Unit {0}
BarePart (child_part t) = Bare t

behind-bare : (w t : Text) → All (λ (c : ℕ). c ≤ 0x7F) w → Bare t → Sure Bare (behind w t)
behind-bare w t a b = sure-if Bare (behind w t) (λ u e. bare-behind w u a (subst Bare (behind-is w t e) b))

part-bare : (t : Text) → Bare t → BarePart (as_part t)
unfolding as_part
part-bare t b =
    by (or_else (behind (64 ∷ []) t) (behind attribute_axis t))
    (sure-else Bare (behind (64 ∷ []) t) (behind attribute_axis t) (behind-bare (64 ∷ []) t (omega arith) b) (behind-bare attribute_axis t (omega arith) b))
  where
    child : (o : Option Text) → Sure Bare o → BarePart (element_part t o)
    child none x = unfold element_part in b
    child (some u) x = unfold element_part in x

    self : (s : Bool) → BarePart (cond s self_part (element_part t (behind child_axis t)))
    self true = tt
    self false = child (behind child_axis t) (behind-bare child_axis t (omega arith) b)

    by : (o : Option Text) → Sure Bare o → BarePart (part_of t o)
    by none x = unfold part_of in self (same t (46 ∷ []))
    by (some u) x = unfold part_of in x

part-again : (field last : Bool) (p : Part) → BarePart p → (rest : Option Walked) → Sure (WalkAgain field) rest → Sure (WalkAgain field) (walk_part field last p rest)
unfolding walk_part
part-again field last (attribute_part t) b rest r = by field last
  where
    by : (f l : Bool) → Sure (WalkAgain f) (cond (f && l) (Option.map (λ n. record { steps = []; attr = some n }) (name_test t)) none)
    by true true = sure-map Again (WalkAgain true) (λ n. record { steps = []; attr = some n }) (λ n a. record { steps = tt; attr = (a, refl) }) (name_test t) (test-again t b)
    by true false = tt
    by false l = tt
part-again field last self_part b rest r = r
part-again field last (child_part t) b rest r =
    sure-some Again (WalkAgain field) (λ n. Option.map (λ w. record { steps = n ∷ w.steps; attr = w.attr }) rest)
    (λ n a. sure-map (WalkAgain field) (WalkAgain field) (λ w. record { steps = n ∷ w.steps; attr = w.attr }) (λ w g. record { steps = (a, g.steps); attr = g.attr }) rest r)
    (name_test t) (test-again t b)

walk-again : (field : Bool) (ts : List Text) → All Bare ts → Sure (WalkAgain field) (walk_parts field ts)
unfolding walk_parts
walk-again field [] b = record { steps = tt; attr = tt }
walk-again field (t ∷ ts) b = part-again field (is_nil ts) (as_part t) (part-bare t b.0) (walk_parts field ts) (walk-again field ts b.1)

alt-again : (field : Bool) (t : Text) → Bare t → Sure (AltAgain field) (read_alt field t)
unfolding read_alt
alt-again field t b = by (behind (46 ∷ 47 ∷ 47 ∷ []) t) (behind-bare (46 ∷ 47 ∷ 47 ∷ []) t (omega arith) b)
  where
    with : (d : Bool) (u : Text) → Bare u → Sure (AltAgain field) (marked d (walk_parts field (split_at 47 u)))
    with d u x =
        unfold marked in
        sure-map (WalkAgain field) (AltAgain field) (λ v. record { descendant = d; steps = v.steps; attr = v.attr }) (λ v g. record { steps = g.steps; attr = g.attr })
        (walk_parts field (split_at 47 u)) (walk-again field (split_at 47 u) (bare-pieces 47 (omega arith) u x))

    by : (o : Option Text) → Sure Bare o → Sure (AltAgain field) (alt_of field t o)
    by none x = unfold alt_of in with false t b
    by (some u) x = unfold alt_of in with true u x

every_some : {A B : Type 0} (f : A → Option B) (xs : List A) → is_nil xs ≡ false → Sure (λ (l : List B). is_nil l ≡ false) (every f xs)
unfolding every is_nil
every_some f [] h = absurd (false≢true (sym h))
every_some {B = B} f (x ∷ xs) h =
    sure-some (λ (b : B). Unit {0}) (λ (l : List B). is_nil l ≡ false) (λ b. Option.map (λ l. b ∷ l) (every f xs))
    (λ b t. sure-map (λ (l : List B). Unit {0}) (λ (l : List B). is_nil l ≡ false) (λ (l : List B). b ∷ l) (λ l u. refl) (every f xs) (nothing (every f xs)))
    (f x) (nothing (f x))
  where
    nothing : {C : Type 0} (o : Option C) → Sure (λ (c : C). Unit {0}) o
    nothing none = tt
    nothing (some c) = tt

-- A PATH THAT IS READ: it has an alternative, and each stands again.
pub record PathAgain (field : Bool) (alts : List WrittenAlt) : Type 0 where
  pub some-alt : is_nil alts ≡ false
  pub alts-stand : All (AltAgain field) alts

pub path-again : (field : Bool) (t : Text) (alts : List WrittenAlt) → read_path field t ≡ some alts → PathAgain field alts
unfolding read_path
path-again field t alts = by (utf8 t) refl
  where
    by : (b : Bool) → utf8 t ≡ b → cond b (every (read_alt field) (split_at 124 (without_space t))) none ≡ some alts → PathAgain field alts
    by true u e =
        record {
          some-alt = sure-at (λ (l : List WrittenAlt). is_nil l ≡ false) _ alts e (every_some (read_alt field) (split_at 124 (without_space t)) (split-some 124 (without_space t)));
          alts-stand = sure-at (All (AltAgain field)) _ alts e (sure-every Bare (AltAgain field) (read_alt field) (alt-again field) (split_at 124 (without_space t)) (bare-pieces 124 (omega arith) (without_space t) (space-dropped t u)));
        }
    by false u e = no-some (sym e)

-- ---- the parts of an alternative are read as it

end_back : (field : Bool) (o : Option WrittenTest) → EndAgain field o → walk_parts field (attribute_text o) ≡ some (record { steps = []; attr = o })
unfolding walk_parts attribute_text
end_back field none a = refl
end_back field (some t) a = unfold is_nil as_part part_of or_else behind walk_part in rw (a.1, a.0.read)

steps_back : (field : Bool) (ns : List WrittenTest) (o : Option WrittenTest) → All Again ns → EndAgain field o
    → walk_parts field (map test_text ns ++ attribute_text o) ≡ some (record { steps = ns; attr = o })
unfolding walk_parts walk_part on_some
steps_back field [] o a e = end_back field o e
steps_back field (n ∷ ns) o a e =
    rw (test-part (test_text n) (is-test n a.0), a.0.read, steps_back field ns o a.1 e)

self-back : (field : Bool) (ts : List Text) (w : Walked) → walk_parts field ts ≡ some w → walk_parts field (or_self ts) ≡ some w
unfolding or_self walk_parts is_nil as_part part_of or_else behind same walk_part
self-back field [] w e = e
self-back field (t ∷ ts) w e = e

parts-back : (field : Bool) (a : WrittenAlt) → AltAgain field a → walk_parts field (part_texts a) ≡ some (record { steps = a.steps; attr = a.attr })
unfolding part_texts
parts-back field a h = self-back field (map test_text a.steps ++ attribute_text a.attr) (record { steps = a.steps; attr = a.attr }) (steps_back field a.steps a.attr h.steps h.attr)

-- ---- the parts are bare, and hold neither '/' nor '|'

record Piece (t : Text) : Type 0 where
  bare : Bare t
  slash : Free 47 t
  bar : Free 124 t

solid : (c : ℕ) → scalar c ≡ true → xml_space c ≡ false → Solid c
solid c m s = record { may = m; seen = s }

test-piece : (n : WrittenTest) → Again n → Piece (test_text n)
unfolding test_byte within
test-piece n a = record { bare = a.bare; slash = test-free 47 refl (test_text n) (is-test n a); bar = test-free 124 refl (test_text n) (is-test n a) }

at_piece : (t : Text) → Piece t → Piece (64 ∷ t)
at_piece t p =
    record {
      bare = bare-cons 64 t (omega arith) (unfold scalar xml_space in solid 64 refl refl) p.bare;
      slash = (refl, p.slash);
      bar = (refl, p.bar);
    }

steps-pieces : (ns : List WrittenTest) → All Again ns → All Piece (map test_text ns)
steps-pieces [] a = tt
steps-pieces (n ∷ ns) a = (test-piece n a.0, steps-pieces ns a.1)

end-pieces : (field : Bool) (o : Option WrittenTest) → EndAgain field o → All Piece (attribute_text o)
unfolding attribute_text
end-pieces field none a = tt
end-pieces field (some t) a = (at_piece (test_text t) (test-piece t a.0), tt)

self-pieces : (ts : List Text) → All Piece ts → All Piece (or_self ts)
unfolding or_self
self-pieces [] a = (record { bare = bare-cons 46 [] (omega arith) (unfold scalar xml_space in solid 46 refl refl) bare-none; slash = (refl, tt); bar = (refl, tt) }, tt)
self-pieces (t ∷ ts) a = a

self-some : (ts : List Text) → is_nil (or_self ts) ≡ false
unfolding or_self is_nil
self-some [] = refl
self-some (t ∷ ts) = refl

part-pieces : (field : Bool) (a : WrittenAlt) → AltAgain field a → All Piece (part_texts a)
unfolding part_texts
part-pieces field a h = self-pieces _ (All-append Piece (map test_text a.steps) (attribute_text a.attr) (steps-pieces a.steps h.steps) (end-pieces field a.attr h.attr))

each-slash : (ts : List Text) → All Piece ts → All (Free 47) ts
each-slash [] a = tt
each-slash (t ∷ ts) a = (a.0.slash, each-slash ts a.1)

-- ---- an alternative is read as itself

joined_back : (field : Bool) (a : WrittenAlt) → AltAgain field a → walk_parts field (split_at 47 (joined 47 (part_texts a))) ≡ some (record { steps = a.steps; attr = a.attr })
joined_back field a h =
    ap (walk_parts field) (joined-split 47 (part_texts a) (unfold part_texts in self-some (map test_text a.steps ++ attribute_text a.attr)) (each-slash (part_texts a) (part-pieces field a h)))
    ∙ parts-back field a h

alt-back : (field : Bool) (a : WrittenAlt) → AltAgain field a → read_alt field (alt_text a) ≡ some a
unfolding read_alt alt_text
alt-back field a h = by a.descendant refl
  where
    by : (d : Bool) → a.descendant ≡ d → alt_of field (only_if d (46 ∷ 47 ∷ 47 ∷ []) ++ joined 47 (part_texts a)) (behind (46 ∷ 47 ∷ 47 ∷ []) (only_if d (46 ∷ 47 ∷ 47 ∷ []) ++ joined 47 (part_texts a))) ≡ some a
    by false e =
        unfold only_if in
        (ap (alt_of field (joined 47 (part_texts a))) (no_descent field (joined 47 (part_texts a)) (subst (λ (o : Option Walked). IsSome o) (sym (joined_back field a h)) tt))
        ∙ (unfold alt_of marked in (ap (Option.map (λ v. record { descendant = false; steps = v.steps; attr = v.attr })) (joined_back field a h)
        ∙ ap (λ (x : Bool). some (record { descendant = x; steps = a.steps; attr = a.attr })) (sym e))))
    by true e =
        unfold only_if behind alt_of marked in
        (ap (Option.map (λ v. record { descendant = true; steps = v.steps; attr = v.attr })) (joined_back field a h)
        ∙ ap (λ (x : Bool). some (record { descendant = x; steps = a.steps; attr = a.attr })) (sym e))

-- ---- the alternatives

alts-back : (field : Bool) (alts : List WrittenAlt) → All (AltAgain field) alts → every (read_alt field) (map alt_text alts) ≡ some alts
unfolding every on_some
alts-back field [] a = refl
alts-back field (x ∷ alts) a = rw (alt-back field x a.0, alts-back field alts a.1)

joined_free : (d c : ℕ) → eqb c d ≡ false → (ts : List Text) → All (Free d) ts → Free d (joined c ts)
unfolding joined
joined_free d c e [] a = tt
joined_free d c e (t ∷ []) a = a.0
joined_free d c e (t ∷ u ∷ ts) a = All-append (λ (b : ℕ). eqb b d ≡ false) t (c ∷ joined c (u ∷ ts)) a.0 (e, joined_free d c e (u ∷ ts) a.1)

each-bar : (ts : List Text) → All Piece ts → All (Free 124) ts
each-bar [] a = tt
each-bar (t ∷ ts) a = (a.0.bar, each-bar ts a.1)

alt-bar : (field : Bool) (a : WrittenAlt) → AltAgain field a → Free 124 (alt_text a)
unfolding alt_text
alt-bar field a h = by a.descendant
  where
    body : Free 124 (joined 47 (part_texts a))
    body = joined_free 124 47 refl (part_texts a) (each-bar (part_texts a) (part-pieces field a h))

    by : (d : Bool) → Free 124 (only_if d (46 ∷ 47 ∷ 47 ∷ []) ++ joined 47 (part_texts a))
    by false = unfold only_if in body
    by true = unfold only_if in (refl, (refl, (refl, body)))

alts-bar : (field : Bool) (alts : List WrittenAlt) → All (AltAgain field) alts → All (Free 124) (map alt_text alts)
alts-bar field [] a = tt
alts-bar field (x ∷ alts) a = (alt-bar field x a.0, alts-bar field alts a.1)

-- ---- the whole is bare

joined-bare : (c : ℕ) → c ≤ 0x7F → Solid c → (ts : List Text) → All Bare ts → Bare (joined c ts)
unfolding joined
joined-bare c h s [] a = bare-none
joined-bare c h s (t ∷ []) a = a.0
joined-bare c h s (t ∷ u ∷ ts) a = bare-append t (c ∷ joined c (u ∷ ts)) a.0 (bare-cons c (joined c (u ∷ ts)) h s (joined-bare c h s (u ∷ ts) a.1))

each_bare : (ts : List Text) → All Piece ts → All Bare ts
each_bare [] a = tt
each_bare (t ∷ ts) a = (a.0.bare, each_bare ts a.1)

slash-solid : Solid 47
unfolding scalar xml_space
slash-solid = solid 47 refl refl

dot-solid : Solid 46
unfolding scalar xml_space
dot-solid = solid 46 refl refl

bar-solid : Solid 124
unfolding scalar xml_space
bar-solid = solid 124 refl refl

alt-bare : (field : Bool) (a : WrittenAlt) → AltAgain field a → Bare (alt_text a)
unfolding alt_text
alt-bare field a h = by a.descendant
  where
    body : Bare (joined 47 (part_texts a))
    body = joined-bare 47 (omega arith) slash-solid (part_texts a) (each_bare (part_texts a) (part-pieces field a h))

    by : (d : Bool) → Bare (only_if d (46 ∷ 47 ∷ 47 ∷ []) ++ joined 47 (part_texts a))
    by false = unfold only_if in body
    by true = unfold only_if in bare-cons 46 _ (omega arith) dot-solid (bare-cons 47 _ (omega arith) slash-solid (bare-cons 47 _ (omega arith) slash-solid body))

alts-bare : (field : Bool) (alts : List WrittenAlt) → All (AltAgain field) alts → All Bare (map alt_text alts)
alts-bare field [] a = tt
alts-bare field (x ∷ alts) a = (alt-bare field x a.0, alts-bare field alts a.1)

canonical-bare : (field : Bool) (alts : List WrittenAlt) → All (AltAgain field) alts → Bare (canonical alts)
unfolding canonical
canonical-bare field alts a = joined-bare 124 (omega arith) bar-solid (map alt_text alts) (alts-bare field alts a)

map-some : (alts : List WrittenAlt) → is_nil alts ≡ false → is_nil (map alt_text alts) ≡ false
unfolding is_nil
map-some [] h = h
map-some (x ∷ alts) h = refl

-- ---- THE THEOREM

pub again-read : (field : Bool) (alts : List WrittenAlt) → PathAgain field alts → read_path field (canonical alts) ≡ some alts
unfolding read_path
again-read field alts h =
    let b = bare-text (canonical alts) (canonical-bare field alts h.alts-stand) in
    let c : split_at 124 (canonical alts) ≡ map alt_text alts = unfold canonical in joined-split 124 (map alt_text alts) (map-some alts h.some-alt) (alts-bar field alts h.alts-stand) in
    rw (b.0, b.1, c) (alts-back field alts h.alts-stand)

-- THE CANONICAL TEXT OF A PATH THAT IS READ IS READ AS THAT PATH.
pub canonical-read : (field : Bool) (t : Text) (alts : List WrittenAlt) → read_path field t ≡ some alts → read_path field (canonical alts) ≡ some alts
canonical-read field t alts e = again-read field alts (path-again field t alts e)

pub canonical-utf8 : (field : Bool) (t : Text) (alts : List WrittenAlt) → read_path field t ≡ some alts → utf8 (canonical alts) ≡ true
canonical-utf8 field t alts e = (bare-text (canonical alts) (canonical-bare field alts (path-again field t alts e).alts-stand)).0

-- ---- EQUAL TEXTS ARE EQUAL PATHS, also of a selector and a field

end-field : (f : Bool) (o : Option WrittenTest) → EndAgain f o → EndAgain true o
end-field f none a = tt
end-field f (some t) a = (a.0, refl)

alts-field : (f : Bool) (alts : List WrittenAlt) → All (AltAgain f) alts → All (AltAgain true) alts
alts-field f [] a = tt
alts-field f (x ∷ alts) a = (record { steps = a.0.steps; attr = end-field f x.attr a.0.attr }, alts-field f alts a.1)

as-field : (f : Bool) (t : Text) (alts : List WrittenAlt) → read_path f t ≡ some alts → read_path true (canonical alts) ≡ some alts
as-field f t alts e =
    let p = path-again f t alts e in
    again-read true alts (record { some-alt = p.some-alt; alts-stand = alts-field f alts p.alts-stand })

pub equal-texts : (f g : Bool) (t u : Text) (a b : List WrittenAlt) → read_path f t ≡ some a → read_path g u ≡ some b
    → (canonical a ≡ canonical b → a ≡ b) × (a ≡ b → canonical a ≡ canonical b)
equal-texts f g t u a b p q = ((λ e. some-injective a b (sym (as-field f t a p) ∙ ap (read_path true) e ∙ as-field g u b q)), (λ e. ap canonical e))

-- ---- AN AXIS IS NEVER NEEDED: a step is read the same with `child::` and without, an attribute test the same with `@` and with `attribute::`

pub child-not-needed : (u : Text) (n : WrittenTest) → name_test u ≡ some n → as_part u ≡ as_part (child_axis ++ u)
child-not-needed u n e =
    let z : as_part (child_axis ++ u) ≡ child_part u = unfold as_part part_of or_else behind same element_part in refl in
    test-part u (subst (λ (o : Option WrittenTest). IsSome o) (sym e) tt) ∙ sym z

pub at-for-attribute : (u : Text) → as_part (64 ∷ u) ≡ as_part (attribute_axis ++ u)
unfolding as_part part_of or_else behind
at-for-attribute u = refl
