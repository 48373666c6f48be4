-- Open selections: what hits leave of their cells, and that they come in the order of their depths and then of their scopes.
-- Assumes nothing.
use Prim.Native.Nat.{ℕ, suc, ◌≤◌, ◌<◌}
use native.Mathlib.Omega.{arith}
use borrow.Author.Tests.{eqb-true, ltb-true, lt-ltb, eq-eqb}
use lib.Dec.{eqb, ltb}
use lib.ListN.{length, drop, replicate, length-map}
use mathlib.Core.Path.{◌≡◌, refl, ap, ◌∙◌}
use mathlib.Core.Bool.{Bool, true, false, cond, ◌&&◌, ◌||◌, false≢true}
use mathlib.Core.List.{List, [], ◌∷◌, ◌++◌, map, flat_map, zip_with}
use mathlib.Core.Option.{none, some}
use Rattle.std.proofs.lemmas.Bool.{and_parts, and_from, or_right}
use Rattle.lists.specs.Lists.{only_if, passing, foldl, All}
use Rattle.lists.proofs.Folds.{All-only_if}
use Rattle.lists.proofs.Places.{All-flat_map, All-replicate}
use Rattle.paths.specs.Names.{Name, Attribute}
use Rattle.paths.specs.Matching.{FieldAlt}
use Rattle.tree.specs.Events.{End, selects}
use Rattle.tree.specs.Cells.{Hit, simple, nillable, complex, Cell, Unset, Set, SetNillable, NotSimple, Multiple, one, reach, attribute_hits, element_hit, element_hits}
use Rattle.machine.specs.Machine.{OpenScope, Selection, hit, feed_cells, Giving, feed, pick_up}
use Rattle.session_spec.specs.Definitions.{Definitions}
use Rattle.session_spec.specs.Layout.{key_of, put_scope}
use Rattle.session_spec.specs.Session.{rising, comes_after, climbing}
use Rattle.session_laws.proofs.Areas.{CellFit, SelectionFit}
use Rattle.session_laws.proofs.Constraints.{DefsFit, few-fields}
use Rattle.session_laws.proofs.OpenScopes.{rising-uncons, OpenFit, scope_records, Found, place-append}

-- ---- cells and hits

abbrev pub HitFit : Hit → Type 0
HitFit (simple k) = length k ≤ 126
HitFit (nillable k) = length k ≤ 126
HitFit complex = Unit {0}

one-fit : (h : Hit) → HitFit h → CellFit (one h)
unfolding one key_of
one-fit (simple k) f = f
one-fit (nillable k) f = f
one-fit complex f = omega arith

pub hit-fit : (c : Cell) (h : Hit) → HitFit h → CellFit (hit c h)
unfolding hit key_of
hit-fit Unset h f = one-fit h f
hit-fit (Set k) h f = omega arith
hit-fit (SetNillable k) h f = omega arith
hit-fit NotSimple h f = omega arith
hit-fit Multiple h f = omega arith

hits-fit : (hs : List Hit) (c : Cell) → All HitFit hs → CellFit c → CellFit (foldl hit c hs)
hits-fit [] c a f = f
hits-fit (h ∷ hs) c a f = hits-fit hs (hit c h) a.1 (hit-fit c h a.0)

module _ (give : List FieldAlt → List Hit) (fit : (alts : List FieldAlt) → All HitFit (give alts)) where
  fed-cells : (fs : List (List FieldAlt)) (cs : List Cell) → All CellFit cs → All CellFit (feed_cells give fs cs)
  unfolding feed_cells zip_with
  fed-cells [] [] a = tt
  fed-cells [] (c ∷ cs) a = tt
  fed-cells (f ∷ fs) [] a = tt
  fed-cells (f ∷ fs) (c ∷ cs) a = (hits-fit (give f) c (fit f) a.0, fed-cells fs cs a.1)

fed-length : (give : List FieldAlt → List Hit) (fs : List (List FieldAlt)) (cs : List Cell) → length cs ≡ length fs → length (feed_cells give fs cs) ≡ length cs
unfolding feed_cells zip_with
fed-length give [] [] h = refl
fed-length give [] (c ∷ cs) h = absurd (omega arith)
fed-length give (f ∷ fs) [] h = refl
fed-length give (f ∷ fs) (c ∷ cs) h = ap suc (fed-length give fs cs (omega arith))

abbrev pub AttributeFit : Attribute → Type 0
AttributeFit a = length a.key ≤ 126

pub attribute-hits : (xs : List Attribute) → All AttributeFit xs → (alts : List FieldAlt) (below : List Name) → All HitFit (attribute_hits alts below xs)
unfolding attribute_hits
attribute-hits xs a alts below =
    All-flat_map AttributeFit HitFit (λ x. replicate (reach alts below (some x)) (simple x.key))
    (λ x h. All-replicate HitFit (reach alts below (some x)) (simple x.key) h) xs a

pub element-hit : (e : End) → length e.key ≤ 126 → HitFit (element_hit e)
unfolding element_hit
element-hit e h = by (eqb e.simple 0) (eqb e.simple 2)
  where
    by : (b c : Bool) → HitFit (cond b complex (cond c (nillable e.key) (simple e.key)))
    by true c = tt
    by false true = h
    by false false = h

pub element-hits : (e : End) → length e.key ≤ 126 → (alts : List FieldAlt) (below : List Name) → All HitFit (element_hits alts below e)
unfolding element_hits
element-hits e h alts below = All-replicate HitFit (reach alts below none) (element_hit e) (element-hit e h)

-- ---- selections

-- an open selection; its element is open
pub record OpenSelection (os : List OpenScope) (depth : ℕ) (s : Selection) : Type 0 where
  pub fit : SelectionFit os s
  pub high : s.depth ≤ depth

module _ (os : List OpenScope) (depth : ℕ) (names : List Name) (give : Giving)
    (fit : (alts : List FieldAlt) (below : List Name) → All HitFit (give alts below)) where
  pub feed-fit : (s : Selection) → OpenSelection os depth s → OpenSelection os depth (feed names give s)
  unfolding feed
  feed-fit s f =
      let g : List FieldAlt → List Hit = λ alts. give alts (drop s.depth names) in
      let l : length (feed_cells g s.scope.constraint.fields s.cells) ≡ length s.cells = fed-length g s.scope.constraint.fields s.cells f.fit.many in
      record {
        fit = record {
          home = f.fit.home;
          found = f.fit.found;
          scope = f.fit.scope;
          within = f.fit.within;
          many = l ∙ f.fit.many;
          few = rw l f.fit.few;
          keys = fed-cells g (λ alts. fit alts (drop s.depth names)) s.scope.constraint.fields s.cells f.fit.keys;
        };
        high = f.high;
      }

-- more scopes, deeper
pub selection-later : (os more : List OpenScope) (c e : ℕ) → c ≤ e → (s : Selection) → OpenSelection os c s → OpenSelection (os ++ more) e s
selection-later os more c e h s f =
    record {
      fit = record {
        home = f.fit.home;
        found = place-append s.scope.number os more f.fit.home f.fit.found;
        scope = f.fit.scope;
        within = f.fit.within;
        many = f.fit.many;
        few = f.fit.few;
        keys = f.fit.keys;
      };
      high = omega (arith, f.high);
    }

unset-fit : (fs : List (List FieldAlt)) → All CellFit (map (λ _. Unset) fs)
unfolding key_of
unset-fit [] = tt
unset-fit (f ∷ fs) = (omega arith, unset-fit fs)

pub pick-fit : (d : Definitions) (n : ℕ) (os : List OpenScope) (names : List Name) → DefsFit d → (o : OpenScope) → OpenFit d n (length names) o × Found os o
    → All (OpenSelection os (length names)) (pick_up names o)
unfolding pick_up
pick-fit d n os names df o h =
    All-only_if (OpenSelection os (length names)) (selects o.scope.constraint (drop o.depth names)) _
    (record {
      fit = record {
        home = o;
        found = h.1;
        scope = refl;
        within = h.0.high;
        many = length-map o.scope.constraint.fields (λ _. Unset);
        few = rw (length-map o.scope.constraint.fields (λ (_ : List FieldAlt). Unset)) (few-fields d o.scope.constraint df h.0.scope.constraint);
        keys = unset-fit o.scope.constraint.fields;
      };
      high = omega arith;
    })

-- ---- selections come in the order of their depths and then of their scopes

pub data Later (n m : ℕ) (s : Selection) : Type 0 where
  deeper : n < s.depth → Later n m s
  level : n ≡ s.depth → m < s.scope.number → Later n m s

is-after : (n m : ℕ) (s : Selection) → comes_after n m s ≡ true → Later n m s
unfolding comes_after
is-after n m s h = by (ltb n s.depth) refl (eqb n s.depth) refl (ltb m s.scope.number) refl h
  where
    by : (a : Bool) → ltb n s.depth ≡ a → (b : Bool) → eqb n s.depth ≡ b → (c : Bool) → ltb m s.scope.number ≡ c → (a || (b && c)) ≡ true → Later n m s
    by true p b q c r h = deeper (ltb-true n s.depth p)
    by false p true q true r h = level (eqb-true n s.depth q) (ltb-true m s.scope.number r)
    by false p true q false r h = absurd (false≢true h)
    by false p false q c r h = absurd (false≢true h)

after_is : (n m : ℕ) (s : Selection) → Later n m s → comes_after n m s ≡ true
unfolding comes_after
after_is n m s (deeper h) = rw (lt-ltb n s.depth h)
after_is n m s (level e h) =
    or_right (ltb n s.depth) (eqb n s.depth && ltb m s.scope.number)
    (and_from (eqb n s.depth) (ltb m s.scope.number) (rw e (eq-eqb s.depth s.depth refl)) (lt-ltb m s.scope.number h))

after-trans : (n m : ℕ) (s t : Selection) → Later n m s → Later s.depth s.scope.number t → Later n m t
after-trans n m s t (deeper h) (deeper k) = deeper (omega arith)
after-trans n m s t (deeper h) (level e k) = deeper (omega arith)
after-trans n m s t (level e h) (deeper k) = deeper (omega arith)
after-trans n m s t (level e h) (level f k) = level (omega arith) (omega arith)

climb-cons : (n m : ℕ) (s : Selection) (ss : List Selection) → Later n m s → climbing s.depth s.scope.number ss ≡ true → climbing n m (s ∷ ss) ≡ true
unfolding climbing
climb-cons n m s ss a r = and_from (comes_after n m s) (climbing s.depth s.scope.number ss) (after_is n m s a) r

pub climb-parts : (n m : ℕ) (s : Selection) (ss : List Selection) → climbing n m (s ∷ ss) ≡ true → Later n m s × (climbing s.depth s.scope.number ss ≡ true)
unfolding climbing
climb-parts n m s ss r =
    let p = and_parts (comes_after n m s) (climbing s.depth s.scope.number ss) r in
    (is-after n m s p.0, p.1)

climb-nil : (n m : ℕ) → climbing n m [] ≡ true
unfolding climbing
climb-nil n m = refl

-- the first one may be left out, or a bound lowered
climb-skip : (n m : ℕ) (s : Selection) (ss : List Selection) → Later n m s → climbing s.depth s.scope.number ss ≡ true → climbing n m ss ≡ true
climb-skip n m s [] a r = climb-nil n m
climb-skip n m s (t ∷ ss) a r =
    let p = climb-parts s.depth s.scope.number t ss r in
    climb-cons n m t ss (after-trans n m s t a p.0) p.1

lower : (n k m : ℕ) (s : Selection) → k ≤ m → Later n m s → Later n k s
lower n k m s h (deeper p) = deeper p
lower n k m s h (level e p) = level e (omega arith)

climb-lower : (n k m : ℕ) (ss : List Selection) → k ≤ m → climbing n m ss ≡ true → climbing n k ss ≡ true
climb-lower n k m [] h r = climb-nil n k
climb-lower n k m (s ∷ ss) h r =
    let p = climb-parts n m s ss r in
    climb-cons n k s ss (lower n k m s h p.0) p.1

climb-raise : (n m d : ℕ) (ss : List Selection) → n < d → All (λ (s : Selection). s.depth ≡ d) ss → climbing d 0 ss ≡ true → climbing n m ss ≡ true
climb-raise n m d [] h a r = climb-nil n m
climb-raise n m d (s ∷ ss) h a r =
    let p = climb-parts d 0 s ss r in
    let e : s.depth ≡ d = a.0 in
    climb-cons n m s ss (deeper (omega arith)) p.1

pub climb-append : (n m d : ℕ) (xs ys : List Selection) → n < d → All (λ (s : Selection). s.depth < d) xs → climbing n m xs ≡ true
    → All (λ (s : Selection). s.depth ≡ d) ys → climbing d 0 ys ≡ true → climbing n m (xs ++ ys) ≡ true
climb-append n m d [] ys h a r c q = climb-raise n m d ys h c q
climb-append n m d (x ∷ xs) ys h a r c q =
    let p = climb-parts n m x xs r in
    climb-cons n m x (xs ++ ys) p.0 (climb-append x.depth x.scope.number d xs ys a.0 a.1 p.1 c q)

-- what the open scopes select of one element comes in the order of the scopes
pub climb-picked : (names : List Name) (n c : ℕ) (os : List OpenScope) → rising n c (scope_records os) ≡ true
    → climbing (length names) n (flat_map (pick_up names) os) ≡ true
unfolding flat_map pick_up put_scope
climb-picked names n c [] r = climb-nil (length names) n
climb-picked names n c (o ∷ os) r =
    let u = rising-uncons n c (put_scope o) (scope_records os) r in
    by (selects o.scope.constraint (drop o.depth names)) u.number (climb-picked names o.scope.number o.depth os u.rest)
  where
    by : (b : Bool) → n < o.scope.number → climbing (length names) o.scope.number (flat_map (pick_up names) os) ≡ true
        → climbing (length names) n (only_if b (record { scope = o.scope; depth = length names; cells = map (λ _. Unset) o.scope.constraint.fields } ∷ []) ++ flat_map (pick_up names) os) ≡ true
    by true h k =
        unfold only_if in
        climb-cons (length names) n (record { scope = o.scope; depth = length names; cells = map (λ _. Unset) o.scope.constraint.fields }) (flat_map (pick_up names) os) (level refl h) k
    by false h k = unfold only_if in climb-lower (length names) n o.scope.number (flat_map (pick_up names) os) (omega arith) k

fed-after : (names : List Name) (give : Giving) (n m : ℕ) (s : Selection) → Later n m s → Later n m (feed names give s)
unfolding feed
fed-after names give n m s (deeper h) = deeper h
fed-after names give n m s (level e h) = level e h

pub climb-feed : (names : List Name) (give : Giving) (n m : ℕ) (ss : List Selection) → climbing n m ss ≡ true → climbing n m (map (feed names give) ss) ≡ true
unfolding feed
climb-feed names give n m [] r = climb-nil n m
climb-feed names give n m (s ∷ ss) r =
    let p = climb-parts n m s ss r in
    climb-cons n m (feed names give s) (map (feed names give) ss) (fed-after names give n m s p.0) (climb-feed names give s.depth s.scope.number ss p.1)

pub climb-passing : (p : Selection → Bool) (n m : ℕ) (ss : List Selection) → climbing n m ss ≡ true → climbing n m (passing p ss) ≡ true
unfolding passing
climb-passing p n m [] r = climb-nil n m
climb-passing p n m (s ∷ ss) r =
    let q = climb-parts n m s ss r in
    by (p s) (climb-passing p s.depth s.scope.number ss q.1) q.0
  where
    by : (b : Bool) → climbing s.depth s.scope.number (passing p ss) ≡ true → Later n m s → climbing n m (only_if b (s ∷ []) ++ passing p ss) ≡ true
    by true h k = unfold only_if in climb-cons n m s (passing p ss) k h
    by false h k = unfold only_if in climb-skip n m s (passing p ss) k h
