-- What holds of the state of every session that decodes. A start keeps it where the limits are kept, and an end keeps it.
-- Assumes nothing.
use Prim.Native.Nat.{ℕ, suc, ◌+◌, ◌-◌, ◌*◌, ◌≤◌, ◌<◌}
use native.Mathlib.Omega.{arith}
use borrow.Author.Tests.{eqb-false, not-true}
use lib.Dec.{eqb}
use lib.ListN.{length, take, drop, get_elem?, length-map, length-append, length-take}
use mathlib.Core.Path.{◌≡◌, refl, ap, ◌∙◌, subst}
use mathlib.Core.Bool.{true, not}
use mathlib.Core.List.{List, [], ◌∷◌, ◌++◌, map, map-append, flat_map}
use mathlib.Core.Option.{some}
use Rattle.lists.specs.Lists.{passing, All}
use Rattle.lists.proofs.Folds.{length-snoc, All-append, All-weaken, All-only_if}
use Rattle.lists.proofs.Places.{All-of, All-both, All-mapped, All-flat_map, All-take, All-passing, length-passing, All-get_elem}
use Rattle.paths.specs.Names.{Name}
use Rattle.tree.specs.Events.{Start, End, Defined, Opening, opens, fails, after, openings, opened, scopes_of, selects}
use Rattle.tree.specs.Tree.{Element, failed_item, failures}
use Rattle.tree.specs.Judge.{Out, judge_all}
use Rattle.machine.specs.Machine.{OpenScope, Selection, State, start_gives, end_gives, feed, at, pick_up, start_a, finished_item, end_open}
use Rattle.session_spec.specs.Definitions.{Definitions, defined_at}
use Rattle.session_spec.specs.Layout.{ScopeRecord, put_scope, place_of}
use Rattle.session_spec.specs.Session.{rising, climbing}
use Rattle.session_laws.proofs.Areas.{NameFit}
use Rattle.session_laws.proofs.Constraints.{DefsFit}
use Rattle.session_laws.proofs.Outs.{ScopeFit, ItemFit, OutFit, Grown, at_most, judge-all, out-later}
use Rattle.session_laws.proofs.OpenScopes.{UpTo, rising-append, rising-prefix, OpenFit, scope_records, Found, all-found, place-prefix, opened-grows, openings-rise, openings-fit, failures-fit, split-scopes, all_closed}
use Rattle.session_laws.proofs.OpenSelections.{AttributeFit, attribute-hits, element-hits, OpenSelection, feed-fit, selection-later, pick-fit, climb-append, climb-picked, climb-feed, climb-passing}

below-depth : (m n : ℕ) → m ≤ n → not (eqb m n) ≡ true → m < n
below-depth m n h k = let q : m ≡ n → ⊥ = eqb-false m n (not-true (eqb m n) k) in omega (arith, q)

-- ---- the state

pub record Fine (d : Definitions) (st : State) : Type 0 where
  pub names : All NameFit st.names
  pub deep : length st.names ≤ 64
  pub scopes : All (OpenFit d st.count (length st.names)) st.scopes
  pub rise : rising 0 1 (map put_scope st.scopes) ≡ true
  pub scopes_few : length st.scopes ≤ 16
  pub selections : All (OpenSelection st.scopes (length st.names)) st.selections
  pub climb : climbing 0 0 st.selections ≡ true
  pub selections_few : length st.selections ≤ 32
  pub out : OutFit d st.count st.out
  pub few : length st.out.tuples ≤ 32 * st.events
  pub opened : st.count ≤ 8 * st.events

-- what the limits on an ES give
pub record StartFit (d : Definitions) (s : Start) : Type 0 where
  pub name : NameFit s.name
  pub numbers : All (λ (i : ℕ). i < length d.ids) s.numbers
  pub eight : length s.numbers ≤ 8
  pub attributes : All AttributeFit s.attributes

scope-later : (d : Definitions) (m n c e : ℕ) → m ≤ n → c ≤ e → (o : OpenScope) → OpenFit d m c o → OpenFit d n e o
scope-later d m n c e h k o f =
    record { scope = record { constraint = f.scope.constraint; given = omega (arith, f.scope.given) }; high = omega (arith, f.high) }

up_to : (d : Definitions) (n c : ℕ) (o : OpenScope) → OpenFit d n c o → UpTo n c (put_scope o)
unfolding put_scope
up_to d n c o f = (f.scope.given, f.high)

depth-level : (names : List Name) (o : OpenScope) → All (λ (s : Selection). s.depth ≡ length names) (pick_up names o)
unfolding pick_up
depth-level names o = All-only_if (λ (s : Selection). s.depth ≡ length names) (selects o.scope.constraint (drop o.depth names)) _ refl

module _ (d : Definitions) (df : DefsFit d) (st : State) (f : Fine d st) (s : Start) (sf : StartFit d s) where
  abbrev pub names-after : List Name
  names-after = st.names ++ (s.name ∷ [])

  abbrev count-after : ℕ
  count-after = opened (defined_at d) st.count s.numbers

  abbrev pub new-scopes : List OpenScope
  new-scopes = map (at (length names-after)) (scopes_of (openings (defined_at d) st.count s.numbers))

  abbrev scopes-after : List OpenScope
  scopes-after = st.scopes ++ new-scopes

  longer : length names-after ≡ suc (length st.names)
  longer = length-snoc st.names s.name

  grows : (st.count ≤ count-after) × (count-after ≤ st.count + length s.numbers)
  grows = opened-grows (defined_at d) st.count s.numbers

  start-scopes : All (OpenFit d count-after (length names-after)) scopes-after
  unfolding at
  start-scopes =
      All-append (OpenFit d count-after (length names-after)) st.scopes new-scopes
      (All-weaken (OpenFit d st.count (length st.names)) (OpenFit d count-after (length names-after))
      (scope-later d st.count count-after (length st.names) (length names-after) grows.0 (omega (arith, longer))) st.scopes f.scopes)
      (All-mapped (OpenFit d count-after (length names-after)) (ScopeFit d count-after) (at (length names-after)) (λ x h. record { scope = h; high = omega arith })
      (scopes_of (openings (defined_at d) st.count s.numbers)) (openings-fit d st.count count-after s.numbers sf.numbers (omega arith)))

  start-rise : rising 0 1 (scope_records scopes-after) ≡ true
  start-rise =
      rw (map-append put_scope st.scopes new-scopes)
      (rising-append 0 st.count 1 (length names-after) (scope_records st.scopes) (scope_records new-scopes) (omega arith) (omega (arith, longer))
      (All-mapped (UpTo st.count (length names-after)) (OpenFit d st.count (length names-after)) put_scope (up_to d st.count (length names-after)) st.scopes
      (All-weaken (OpenFit d st.count (length st.names)) (OpenFit d st.count (length names-after))
      (scope-later d st.count st.count (length st.names) (length names-after) (omega arith) (omega (arith, longer))) st.scopes f.scopes))
      f.rise (openings-rise (defined_at d) st.count (length names-after) s.numbers))

  picked : List Selection
  picked = flat_map (pick_up names-after) scopes-after

  picked_fit : All (OpenSelection scopes-after (length names-after)) picked
  unfolding picked
  picked_fit =
      All-flat_map (λ (o : OpenScope). OpenFit d count-after (length names-after) o × Found scopes-after o) (OpenSelection scopes-after (length names-after)) (pick_up names-after)
      (pick-fit d count-after scopes-after names-after df) scopes-after
      (All-both (OpenFit d count-after (length names-after)) (Found scopes-after) scopes-after start-scopes (all-found 0 1 scopes-after start-rise))

  before-feed : All (OpenSelection scopes-after (length names-after)) (st.selections ++ picked)
  before-feed =
      All-append (OpenSelection scopes-after (length names-after)) st.selections picked
      (All-weaken (OpenSelection st.scopes (length st.names)) (OpenSelection scopes-after (length names-after))
      (selection-later st.scopes new-scopes (length st.names) (length names-after) (omega (arith, longer))) st.selections f.selections)
      picked_fit

  start-selections : All (OpenSelection scopes-after (length names-after)) (map (feed names-after (start_gives s)) (st.selections ++ picked))
  start-selections =
      All-mapped (OpenSelection scopes-after (length names-after)) (OpenSelection scopes-after (length names-after)) (feed names-after (start_gives s))
      (feed-fit scopes-after (length names-after) names-after (start_gives s) (attribute-hits s.attributes sf.attributes)) (st.selections ++ picked) before-feed

  start-climb : climbing 0 0 (map (feed names-after (start_gives s)) (st.selections ++ picked)) ≡ true
  unfolding picked
  start-climb =
      climb-feed names-after (start_gives s) 0 0 (st.selections ++ picked)
      (climb-append 0 0 (length names-after) st.selections picked (omega (arith, longer))
      (All-weaken (OpenSelection st.scopes (length st.names)) (λ (x : Selection). x.depth < length names-after) (λ x h. omega (arith, h.high, longer)) st.selections f.selections)
      f.climb
      (All-flat_map (λ (o : OpenScope). Unit {0}) (λ (x : Selection). x.depth ≡ length names-after) (pick_up names-after) (λ o u. depth-level names-after o) scopes-after
      (All-of (λ (o : OpenScope). Unit {0}) (λ o. tt) scopes-after))
      (climb-picked names-after 0 1 scopes-after start-rise))

  abbrev element-after : Element
  element-after = record { event = suc st.events; start = s; openings = openings (defined_at d) st.count s.numbers }

  start-judged : OutFit d count-after (judge_all st.out (failures element-after)) × Grown st.out (judge_all st.out (failures element-after)) (length (failures element-after))
  unfolding failures
  start-judged =
      judge-all d count-after (failures element-after) st.out (out-later d st.count count-after st.out grows.0 f.out)
      (failures-fit d st.count count-after (suc st.events) s.numbers sf.numbers)

pub failures-few : (e : ℕ) (os : List Opening) → length (flat_map (failed_item e) os) ≤ length os
unfolding flat_map failed_item
failures-few e [] = omega arith
failures-few e (opens sc ∷ os) = let h = failures-few e os in omega arith
failures-few e (fails c t ∷ os) = let h = failures-few e os in omega arith

pub openings-length : (defs : ℕ → Defined) (n : ℕ) (is : List ℕ) → length (openings defs n is) ≡ length is
unfolding openings
openings-length defs n [] = refl
openings-length defs n (i ∷ is) = ap suc (openings-length defs (after (defs i) n) is)

grown-length : (o p : Out) (m : ℕ) → Grown o p m → length p.tuples ≤ length o.tuples + m
grown-length o p m g = rw (g.tuples, length-append o.tuples g.more_tuples) (omega (arith, g.few))

-- A START keeps it, where the limits of 14 are kept.
pub start_fine : (d : Definitions) → DefsFit d → (st : State) → Fine d st → (s : Start) → StartFit d s
    → length (start_a (defined_at d) st s).names ≤ 64
    → length (start_a (defined_at d) st s).scopes ≤ 16
    → length (start_a (defined_at d) st s).selections ≤ 32
    → Fine d (start_a (defined_at d) st s) × Grown st.out (start_a (defined_at d) st s).out 8
unfolding start_a picked
start_fine d df st f s sf h k l =
    let j = start-judged d df st f s sf in
    let u : length (failures (element-after d df st f s sf)) ≤ length s.numbers =
    rw (← (openings-length (defined_at d) st.count s.numbers)) (unfold failures in failures-few (suc st.events) (openings (defined_at d) st.count s.numbers)) in
    let g = grown-length st.out (judge_all st.out (failures (element-after d df st f s sf))) (length (failures (element-after d df st f s sf))) j.1 in
    let w = grows d df st f s sf in (
      record {
        names = All-append NameFit st.names (s.name ∷ []) f.names (sf.name, tt);
        deep = h;
        scopes = start-scopes d df st f s sf;
        rise = start-rise d df st f s sf;
        scopes_few = k;
        selections = start-selections d df st f s sf;
        climb = start-climb d df st f s sf;
        selections_few = l;
        out = j.0;
        few = omega (arith, f.few, sf.eight);
        opened = omega (arith, f.opened, sf.eight);
      },
      at_most st.out (judge_all st.out (failures (element-after d df st f s sf))) (length (failures (element-after d df st f s sf))) 8 (omega (arith, sf.eight)) j.1,
    )

-- ---- an end

module _ (d : Definitions) (st : State) (f : Fine d st) (e : End) (short : length e.key ≤ 126) where
  abbrev pub depth-now : ℕ
  depth-now = length st.names

  abbrev fed : List Selection
  fed = map (feed st.names (end_gives e)) st.selections

  fed-fit : All (OpenSelection st.scopes depth-now) fed
  fed-fit =
      All-mapped (OpenSelection st.scopes depth-now) (OpenSelection st.scopes depth-now) (feed st.names (end_gives e))
      (feed-fit st.scopes depth-now st.names (end_gives e) (element-hits e short)) st.selections f.selections

  abbrev pub left : List OpenScope
  left = passing (λ o. not (eqb o.depth depth-now)) st.scopes

  abbrev pub gone : List OpenScope
  gone = passing (λ o. eqb o.depth depth-now) st.scopes

  pub parted : st.scopes ≡ left ++ gone
  parted =
      split-scopes depth-now 0 1 st.scopes f.rise
      (All-weaken (OpenFit d st.count depth-now) (λ (o : OpenScope). o.depth ≤ depth-now) (λ o h. h.high) st.scopes f.scopes)

  selection-left : (s : Selection) → OpenSelection st.scopes depth-now s × (not (eqb s.depth depth-now) ≡ true) → OpenSelection left (depth-now - 1) s
  selection-left s h =
      let b : s.depth < depth-now = below-depth s.depth depth-now h.0.high h.1 in
      let w : h.0.fit.home.depth ≤ s.depth = h.0.fit.within in
      record {
        fit = record {
          home = h.0.fit.home;
          found =
              place-prefix s.scope.number left gone h.0.fit.home (λ (o : OpenScope). o.depth ≡ depth-now) (all_closed depth-now st.scopes)
              (λ q. omega arith)
              (subst (λ (os : List OpenScope). get_elem? os (place_of s.scope.number os) ≡ some h.0.fit.home) parted h.0.fit.found);
          scope = h.0.fit.scope;
          within = h.0.fit.within;
          many = h.0.fit.many;
          few = h.0.fit.few;
          keys = h.0.fit.keys;
        };
        high = omega arith;
      }

  scope-left : (o : OpenScope) → OpenFit d st.count depth-now o × (not (eqb o.depth depth-now) ≡ true) → OpenFit d st.count (depth-now - 1) o
  scope-left o h =
      let b : o.depth < depth-now = below-depth o.depth depth-now h.0.high h.1 in
      record { scope = h.0.scope; high = omega arith }

  item-fit : (s : Selection) → OpenSelection st.scopes depth-now s → ItemFit d st.count (finished_item (suc st.events) s)
  unfolding finished_item
  item-fit s h =
      let o = All-get_elem (OpenFit d st.count depth-now) st.scopes (place_of s.scope.number st.scopes) h.fit.home f.scopes h.fit.found in
      subst (ScopeFit d st.count) h.fit.scope o.scope

  abbrev finishing : List Selection
  finishing = passing (λ s. eqb s.depth depth-now) fed

  end-judged : OutFit d st.count (judge_all st.out (map (finished_item (suc st.events)) finishing))
      × Grown st.out (judge_all st.out (map (finished_item (suc st.events)) finishing)) (length (map (finished_item (suc st.events)) finishing))
  end-judged =
      judge-all d st.count (map (finished_item (suc st.events)) finishing) st.out f.out
      (All-mapped (ItemFit d st.count) (λ (s : Selection). OpenSelection st.scopes depth-now s × (eqb s.depth depth-now ≡ true)) (finished_item (suc st.events))
      (λ s h. item-fit s h.0) finishing (All-passing (OpenSelection st.scopes depth-now) (λ s. eqb s.depth depth-now) fed fed-fit))

  short-names : length (take (depth-now - 1) st.names) ≡ depth-now - 1
  short-names = length-take (depth-now - 1) st.names ∙ omega arith

  many-finish : length (map (finished_item (suc st.events)) finishing) ≤ 32
  many-finish =
      rw (length-map finishing (finished_item (suc st.events)))
      (omega (arith, length-passing (λ (s : Selection). eqb s.depth depth-now) fed, length-map st.selections (feed st.names (end_gives e)), f.selections_few))

  left-rise : rising 0 1 (scope_records left) ≡ true
  left-rise =
      rising-prefix 0 1 (scope_records left) (scope_records gone)
      (subst (λ (l : List ScopeRecord). rising 0 1 l ≡ true) (ap (map put_scope) parted ∙ map-append put_scope left gone) f.rise)

  -- AN END keeps it.
  pub end-fine : Fine d (end_open st e) × Grown st.out (end_open st e).out 32
  unfolding end_open
  end-fine =
      let g = grown-length st.out (judge_all st.out (map (finished_item (suc st.events)) finishing)) (length (map (finished_item (suc st.events)) finishing)) end-judged.1 in (
        record {
          names = All-take NameFit (depth-now - 1) st.names f.names;
          deep = rw short-names (omega (arith, f.deep));
          scopes = rw short-names
              (All-weaken (λ (o : OpenScope). OpenFit d st.count depth-now o × (not (eqb o.depth depth-now) ≡ true)) (OpenFit d st.count (depth-now - 1)) scope-left left
              (All-passing (OpenFit d st.count depth-now) (λ o. not (eqb o.depth depth-now)) st.scopes f.scopes));
          rise = left-rise;
          scopes_few = omega (arith, length-passing (λ (o : OpenScope). not (eqb o.depth depth-now)) st.scopes, f.scopes_few);
          selections = rw short-names
              (All-weaken (λ (s : Selection). OpenSelection st.scopes depth-now s × (not (eqb s.depth depth-now) ≡ true)) (OpenSelection left (depth-now - 1)) selection-left
              (passing (λ s. not (eqb s.depth depth-now)) fed)
              (All-passing (OpenSelection st.scopes depth-now) (λ s. not (eqb s.depth depth-now)) fed fed-fit));
          climb = climb-passing (λ s. not (eqb s.depth depth-now)) 0 0 fed (climb-feed st.names (end_gives e) 0 0 st.selections f.climb);
          selections_few = omega (arith, length-passing (λ (s : Selection). not (eqb s.depth depth-now)) fed, length-map st.selections (feed st.names (end_gives e)), f.selections_few);
          out = end-judged.0;
          few = omega (arith, f.few, many-finish);
          opened = omega (arith, f.opened);
        },
        at_most st.out (judge_all st.out (map (finished_item (suc st.events)) finishing)) (length (map (finished_item (suc st.events)) finishing)) 32 many-finish end-judged.1,
      )
