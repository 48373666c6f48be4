-- DEMAND 3 OVER A LIST OF HAPPENINGS, for one unique or key scope number. An invariant of the fold: the selections of the number so far that are not
-- dropped are as many as their different complete tuples and the reports that bear the number, and a complete tuple is kept exactly if it is among
-- theirs. A selection of the number is dropped, or reported, or repeats a tuple and is reported, or adds one; everything else leaves the three alone.
-- Assumes nothing.
use Prim.Native.Nat.{ℕ, suc, ◌+◌}
use native.Mathlib.Omega.{arith}
use lib.Dec.{eqb}
use lib.ListN.{length}
use borrow.Author.Tests.{eqb-true}
use mathlib.Core.Path.{◌≡◌, refl, ap, ap₂, sym, ◌∙◌, subst}
use mathlib.Core.Bool.{Bool, true, false, cond, ◌&&◌, ◌||◌, not, false≢true, or-false}
use mathlib.Core.List.{List, [], ◌∷◌, ◌++◌, map, flat_map, map-append, append_assoc, append-nil}
use mathlib.Core.Option
use mathlib.Core.Option.{Option, none, some}
use Rattle.std.proofs.lemmas.List.Folds.{list_any-append}
use Rattle.std.proofs.lemmas.Bool.{and_parts}
use Rattle.lists.specs.Lists.{any, only_if, passing, foldl, All}
use Rattle.lists.proofs.Lists.{flat_map-append}
use Rattle.lists.proofs.Folds.{passing-append, count-snoc, All-append, All-parts}
use Rattle.texts.specs.Texts.{Text, same, same_all}
use Rattle.texts.proofs.Tuples.{same_all-eq, same_all-sym}
use Rattle.tree.specs.Events.{Kind, unique, key, keyref, Scope}
use Rattle.tree.specs.Cells.{Cell}
use Rattle.tree.specs.Tree.{Item, failed, finished}
use Rattle.tree.specs.Judge.{Tuple, Report, Out, blank, Outcome, several_nodes, no_simple_value, missing, on_nillable, complete, outcome, report, keep, against, tuple_of, is_tuple, place, keep_or, completed, missed, nillable_key, settle, present, kind_six, tell, judge, judge_all, is_keyref, answers, kind_five, unanswered, kind_fives, finish_out}
use Rattle.tree.specs.Counts.{drops, first, allowed, complete_in, tuples_in, has, nub, second, bears, reports_against, Keyed, unique-keyed, key-keyed}
use Rattle.machine.proofs.Distinct.{has-snoc, nub-snoc}

-- ---- the selections of one scope number

pub record Selected : Type 0 where
  pub scope : Scope
  pub cells : List Cell

abbrev pub selected : Scope → List Cell → Selected
selected sc cs = record { scope = sc; cells = cs }

unfoldable pub of_item : ℕ → Item → List Selected
of_item s (failed e c t) = []
of_item s (finished e sc cs) = only_if (eqb sc.number s) (selected sc cs ∷ [])

unfoldable pub of_number : ℕ → List Item → List Selected
of_number s is = flat_map (of_item s) is

abbrev pub cells_in : List Selected → List (List Cell)
cells_in ds = map (λ d. d.cells) ds

abbrev pub OfKind : Kind → Selected → Type 0
OfKind k d = d.scope.constraint.kind ≡ k

-- ---- the counts with one more at the end

module _ (k : Kind) (css : List (List Cell)) (cs : List Cell) (oc : Outcome) (is : outcome cs ≡ oc) where
  first-snoc : first k (css ++ (cs ∷ [])) ≡ first k css + cond (not (drops k oc)) 1 0
  unfolding first
  first-snoc = rw (← is) (count-snoc (λ cs. not (drops k (outcome cs))) css cs)

  tuples-snoc : tuples_in k (css ++ (cs ∷ [])) ≡ tuples_in k css ++ complete_in k oc
  unfolding tuples_in flat_map
  tuples-snoc =
      rw (← is)
      (flat_map-append (λ cs. complete_in k (outcome cs)) css (cs ∷ [])
      ∙ ap (λ (l : List (List Text)). flat_map (λ cs. complete_in k (outcome cs)) css ++ l) (append-nil (complete_in k (outcome cs))))

  -- where no tuple is complete
  tuples-same : complete_in k oc ≡ [] → tuples_in k (css ++ (cs ∷ [])) ≡ tuples_in k css
  tuples-same n = tuples-snoc ∙ ap (λ (l : List (List Text)). tuples_in k css ++ l) n ∙ append-nil (tuples_in k css)

  second-same : complete_in k oc ≡ [] → second k (css ++ (cs ∷ [])) ≡ second k css
  unfolding second
  second-same n = ap (λ (l : List (List Text)). length (nub l)) (tuples-same n)

  -- where `ks` is
  module _ (ks : List Text) (one : complete_in k oc ≡ ks ∷ []) where
    tuples-one : tuples_in k (css ++ (cs ∷ [])) ≡ tuples_in k css ++ (ks ∷ [])
    tuples-one = tuples-snoc ∙ ap (λ (l : List (List Text)). tuples_in k css ++ l) one

    second-snoc : second k (css ++ (cs ∷ [])) ≡ second k css + cond (has ks (tuples_in k css)) 0 1
    unfolding second
    second-snoc = ap (λ (l : List (List Text)). length (nub l)) tuples-one ∙ nub-snoc (tuples_in k css) ks

    has-complete : (js : List Text) → has js (tuples_in k (css ++ (cs ∷ []))) ≡ (has js (tuples_in k css) || same_all js ks)
    has-complete js = ap (has js) tuples-one ∙ has-snoc js (tuples_in k css) ks

reports-snoc : (s : ℕ) (rs : List Report) (r : Report) → reports_against s (rs ++ (r ∷ [])) ≡ reports_against s rs + cond (eqb r.scope s) 1 0
unfolding reports_against bears
reports-snoc s rs r = count-snoc (bears s) rs r

-- ---- kept tuples

-- a tuple of scope `s` with these keys has been kept
unfoldable pub kept : ℕ → List Text → List Tuple → Bool
kept s ks ts = any (is_tuple s ks) ts

unfoldable pub is_some : {A : Type 0} → Option A → Bool
is_some none = false
is_some (some a) = true

kept-place : (s : ℕ) (ks : List Text) (ts : List Tuple) → kept s ks ts ≡ is_some (place s ks ts)
unfolding kept place is_some
kept-place s ks [] = refl
kept-place s ks (t ∷ ts) = by (is_tuple s ks t) (place s ks ts) (kept-place s ks ts)
  where
    by : (b : Bool) (p : Option ℕ) → kept s ks ts ≡ is_some p → (b || kept s ks ts) ≡ is_some (cond b (some 1) (Option.map suc p))
    by true p h = refl
    by false none h = h
    by false (some n) h = h

kept-snoc : (s : ℕ) (ks : List Text) (ts : List Tuple) (t : Tuple) → kept s ks (ts ++ (t ∷ [])) ≡ (kept s ks ts || is_tuple s ks t)
unfolding kept
kept-snoc s ks ts t = list_any-append (is_tuple s ks) ts (t ∷ []) ∙ ap (λ (b : Bool). any (is_tuple s ks) ts || b) (or-false (is_tuple s ks t))

-- ---- the invariant

-- a kept tuple of the number is of the kind
abbrev pub TupleOf : ℕ → Kind → Tuple → Type 0
TupleOf s k t = eqb t.scope s ≡ true → t.constraint.kind ≡ k

-- `css`: the cells of the number's selections so far
pub record Inv (s : ℕ) (k : Kind) (o : Out) (css : List (List Cell)) : Type 0 where
  pub sum : first k css ≡ second k css + reports_against s o.reports
  pub known : (ks : List Text) → kept s ks o.tuples ≡ has ks (tuples_in k css)
  pub kinds : All (TupleOf s k) o.tuples

nothing_yet : (s : ℕ) (k : Kind) → Inv s k blank []
unfolding first second reports_against passing tuples_in flat_map nub kept has
nothing_yet s k = record { sum = refl; known = λ ks. refl; kinds = tt }

-- ---- what does not concern the number

unfoldable pub Apart : ℕ → Out → Out → Type 0
Apart s o p =
    (reports_against s p.reports ≡ reports_against s o.reports)
    × ((ks : List Text) → kept s ks p.tuples ≡ kept s ks o.tuples)
    × ((k : Kind) → All (TupleOf s k) o.tuples → All (TupleOf s k) p.tuples)

apart-inv : (s : ℕ) (k : Kind) (o p : Out) (css : List (List Cell)) → Apart s o p → Inv s k o css → Inv s k p css
unfolding Apart
apart-inv s k o p css h i = record { sum = omega (arith, i.sum, h.0); known = λ ks. h.1 ks ∙ i.known ks; kinds = h.2 k i.kinds }

apart-same : (s : ℕ) (o : Out) → Apart s o o
unfolding Apart
apart-same s o = (refl, λ ks. refl, λ k a. a)

-- a finished selection of another number
module _ (s e : ℕ) (sc : Scope) (o : Out) (other : eqb sc.number s ≡ false) where
  apart-report : (kind field tuple : ℕ) → Apart s o (report (against e sc kind field tuple) o)
  unfolding Apart against report
  apart-report kind field tuple =
      (omega (arith, rw other at (reports-snoc s o.reports (against e sc kind field tuple))), λ ks. refl, λ k a. a)

  apart-keep : (ks : List Text) → Apart s o (keep (tuple_of sc ks) o)
  unfolding Apart keep tuple_of is_tuple
  apart-keep ks = (
    refl,
    λ js. kept-snoc s js o.tuples (tuple_of sc ks) ∙ rw other (or-false (kept s js o.tuples)),
    λ k a. All-append (TupleOf s k) o.tuples (tuple_of sc ks ∷ []) a (λ h. absurd (false≢true (sym other ∙ h)), tt),
  )

  apart-keep_or : (p : Option ℕ) (ks : List Text) → Apart s o (keep_or p e sc ks o)
  unfolding keep_or
  apart-keep_or none ks = apart-keep ks
  apart-keep_or (some t) ks = apart-report 4 0 t

  apart-keyref : (b : Bool) (ks : List Text) → Apart s o (cond b (keep (tuple_of sc ks) o) o)
  apart-keyref true ks = apart-keep ks
  apart-keyref false ks = apart-same s o

  apart-settle : (k : Kind) (oc : Outcome) → Apart s o (settle k oc e sc o)
  unfolding settle missed completed nillable_key
  apart-settle k several_nodes = apart-report 1 0 0
  apart-settle k no_simple_value = apart-report 2 0 0
  apart-settle unique (missing i) = apart-same s o
  apart-settle key (missing i) = apart-report 3 i 0
  apart-settle keyref (missing i) = apart-same s o
  apart-settle unique (on_nillable i ks) = apart-keep_or (place sc.number ks o.tuples) ks
  apart-settle key (on_nillable i ks) = apart-report 7 i 0
  apart-settle keyref (on_nillable i ks) = apart-keyref (present sc.constraint.refer) ks
  apart-settle unique (complete ks) = apart-keep_or (place sc.number ks o.tuples) ks
  apart-settle key (complete ks) = apart-keep_or (place sc.number ks o.tuples) ks
  apart-settle keyref (complete ks) = apart-keyref (present sc.constraint.refer) ks

-- kind 6 bears the number 0
apart-tell : (s e c : ℕ) (t : Text) (o : Out) → eqb 0 s ≡ false → Apart s o (tell e c t o)
unfolding Apart tell kind_six
apart-tell s e c t o h = by (any (same t) o.told)
  where
    by : (b : Bool) → Apart s o (cond b o (record { tuples = o.tuples; reports = o.reports ++ (kind_six e c ∷ []); told = o.told ++ (t ∷ []) }))
    by true = apart-same s o
    by false = (omega (arith, rw h at (reports-snoc s o.reports (kind_six e c))), λ ks. refl, λ k a. a)

-- ---- a selection of the number

absorb : (a b : Bool) → (b ≡ true → a ≡ true) → a ≡ (a || b)
absorb true b h = refl
absorb false true h = h refl
absorb false false h = refl

module _ (s : ℕ) (k : Kind) (o : Out) (css : List (List Cell)) (cs : List Cell) (i : Inv s k o css) where
  -- it is dropped
  inv-dropped : (oc : Outcome) → outcome cs ≡ oc → drops k oc ≡ true → complete_in k oc ≡ [] → Inv s k o (css ++ (cs ∷ []))
  inv-dropped oc is d n =
      record {
        sum = omega (arith, i.sum, rw d at (first-snoc k css cs oc is), second-same k css cs oc is n);
        known = λ ks. i.known ks ∙ ap (has ks) (sym (tuples-same k css cs oc is n));
        kinds = i.kinds;
      }

  -- it has no complete tuple and is reported
  inv-reported : (oc : Outcome) → outcome cs ≡ oc → drops k oc ≡ false → complete_in k oc ≡ [] → (r : Report) → eqb r.scope s ≡ true
      → Inv s k (report r o) (css ++ (cs ∷ []))
  unfolding report
  inv-reported oc is d n r b =
      record {
        sum =
            omega (arith, i.sum, rw d at (first-snoc k css cs oc is), second-same k css cs oc is n, rw b at (reports-snoc s o.reports r));
        known = λ ks. i.known ks ∙ ap (has ks) (sym (tuples-same k css cs oc is n));
        kinds = i.kinds;
      }

  -- it has one, which is not dropped
  module _ (oc : Outcome) (is : outcome cs ≡ oc) (d : drops k oc ≡ false) (ks : List Text) (one : complete_in k oc ≡ ks ∷ []) where
    -- its complete tuple is there already and is reported
    inv-repeated : has ks (tuples_in k css) ≡ true → (r : Report) → eqb r.scope s ≡ true → Inv s k (report r o) (css ++ (cs ∷ []))
    unfolding report
    inv-repeated h r b =
        record {
          sum =
              omega (
                arith,
                i.sum,
                rw d at (first-snoc k css cs oc is),
                rw h at (second-snoc k css cs oc is ks one),
                rw b at (reports-snoc s o.reports r),
              );
          known = λ js.
              i.known js
              ∙ absorb (has js (tuples_in k css)) (same_all js ks) (λ e. rw (same_all-eq js ks e) h)
              ∙ sym (has-complete k css cs oc is ks one js);
          kinds = i.kinds;
        }

    -- its complete tuple is a new one and is kept
    inv-kept : has ks (tuples_in k css) ≡ false → (t : Tuple) → ((js : List Text) → is_tuple s js t ≡ same_all js ks) → TupleOf s k t
        → Inv s k (keep t o) (css ++ (cs ∷ []))
    unfolding keep
    inv-kept h t e m =
        record {
          sum = omega (arith, i.sum, rw d at (first-snoc k css cs oc is), rw h at (second-snoc k css cs oc is ks one));
          known = λ js. kept-snoc s js o.tuples t ∙ rw (i.known js, e js) (sym (has-complete k css cs oc is ks one js));
          kinds = All-append (TupleOf s k) o.tuples (t ∷ []) i.kinds (m, tt);
        }

module _ (s e : ℕ) (sc : Scope) (o : Out) (css : List (List Cell)) (cs : List Cell) (own : eqb sc.number s ≡ true) where
  own-tuple : (ks js : List Text) → is_tuple s js (tuple_of sc ks) ≡ same_all js ks
  unfolding is_tuple tuple_of
  own-tuple ks js = rw own (same_all-sym ks js)

  module _ (k : Kind) (m : sc.constraint.kind ≡ k) (i : Inv s k o css) (oc : Outcome) (is : outcome cs ≡ oc) (d : drops k oc ≡ false) (ks : List Text) (one : complete_in k oc ≡ ks ∷ []) where
    own-keep_or : (p : Option ℕ) → place s ks o.tuples ≡ p → Inv s k (keep_or p e sc ks o) (css ++ (cs ∷ []))
    unfolding keep_or against tuple_of is_some
    own-keep_or none h =
        inv-kept s k o css cs i oc is d ks one (sym (i.known ks) ∙ kept-place s ks o.tuples ∙ ap is_some h) (tuple_of sc ks) (own-tuple ks) (λ _. m)
    own-keep_or (some t) h =
        inv-repeated s k o css cs i oc is d ks one (sym (i.known ks) ∙ kept-place s ks o.tuples ∙ ap is_some h) (against e sc 4 0 t) own

    own-complete : Inv s k (keep_or (place sc.number ks o.tuples) e sc ks o) (css ++ (cs ∷ []))
    own-complete =
        own-keep_or (place sc.number ks o.tuples) (ap (λ n. place n ks o.tuples) (sym (eqb-true sc.number s own)))

  own-settle : (k : Kind) → Keyed k → sc.constraint.kind ≡ k → Inv s k o css → (oc : Outcome) → outcome cs ≡ oc
      → Inv s k (settle k oc e sc o) (css ++ (cs ∷ []))
  unfolding settle missed completed nillable_key against drops allowed complete_in
  own-settle k unique-keyed m i several_nodes is = inv-reported s unique o css cs i several_nodes is refl refl (against e sc 1 0 0) own
  own-settle k unique-keyed m i no_simple_value is = inv-reported s unique o css cs i no_simple_value is refl refl (against e sc 2 0 0) own
  own-settle k unique-keyed m i (missing n) is = inv-dropped s unique o css cs i (missing n) is refl refl
  own-settle k unique-keyed m i (on_nillable n ks) is = own-complete unique m i (on_nillable n ks) is refl ks refl
  own-settle k unique-keyed m i (complete ks) is = own-complete unique m i (complete ks) is refl ks refl
  own-settle k key-keyed m i several_nodes is = inv-reported s key o css cs i several_nodes is refl refl (against e sc 1 0 0) own
  own-settle k key-keyed m i no_simple_value is = inv-reported s key o css cs i no_simple_value is refl refl (against e sc 2 0 0) own
  own-settle k key-keyed m i (missing n) is = inv-reported s key o css cs i (missing n) is refl refl (against e sc 3 n 0) own
  own-settle k key-keyed m i (on_nillable n ks) is = inv-reported s key o css cs i (on_nillable n ks) is refl refl (against e sc 7 n 0) own
  own-settle k key-keyed m i (complete ks) is = own-complete key m i (complete ks) is refl ks refl

-- ---- FI adds nothing against a unique or key scope

not-keyref : (k : Kind) → Keyed k → is_keyref k ≡ false
unfolding is_keyref
not-keyref k unique-keyed = refl
not-keyref k key-keyed = refl

none-bears : (s : ℕ) (r : Report) (b : Bool) → (b ≡ true → eqb r.scope s ≡ false) → passing (bears s) (only_if b (r ∷ [])) ≡ []
unfolding passing only_if bears
none-bears s r true h = rw (h refl)
none-bears s r false h = refl

-- a keyref tuple is of another number
other-scope : (s : ℕ) (k : Kind) (t : Tuple) → Keyed k → TupleOf s k t → is_keyref t.constraint.kind ≡ true → eqb t.scope s ≡ false
other-scope s k t d m h = by (eqb t.scope s) refl
  where
    by : (b : Bool) → eqb t.scope s ≡ b → b ≡ false
    by true e = absurd (false≢true (sym (not-keyref k d) ∙ ap is_keyref (sym (m e)) ∙ h))
    by false e = refl

fives-apart : (s : ℕ) (k : Kind) (e : ℕ) (every : List Tuple) → Keyed k → (i : ℕ) (ts : List Tuple) → All (TupleOf s k) ts
    → passing (bears s) (kind_fives e every i ts) ≡ []
unfolding kind_fives unanswered passing kind_five
fives-apart s k e every d i [] a = refl
fives-apart s k e every d i (t ∷ ts) a =
    let open_ref : Bool = is_keyref t.constraint.kind && not (any (answers t) every) in
    passing-append (bears s) (unanswered e every (suc i) t) (kind_fives e every (suc i) ts)
    ∙ ap₂ {C = List Report} ◌++◌
    (none-bears s (kind_five e (suc i) t) open_ref
    (λ h. other-scope s k t d a.0 (and_parts (is_keyref t.constraint.kind) (not (any (answers t) every)) h).0))
    (fives-apart s k e every d (suc i) ts a.1)

finish-apart : (s : ℕ) (k : Kind) (e : ℕ) (o : Out) → Keyed k → All (TupleOf s k) o.tuples
    → reports_against s (finish_out e o).reports ≡ reports_against s o.reports
unfolding reports_against finish_out
finish-apart s k e o d a =
    ap length
    (passing-append (bears s) o.reports (kind_fives e o.tuples 0 o.tuples)
    ∙ ap (λ (l : List Report). passing (bears s) o.reports ++ l) (fives-apart s k e o.tuples d 0 o.tuples a)
    ∙ append-nil (passing (bears s) o.reports))

-- ---- the happenings one after another

module _ (s : ℕ) (k : Kind) (not-zero : eqb 0 s ≡ false) (keyed : Keyed k) where
  by_number : (e : ℕ) (sc : Scope) (cs : List Cell) (o : Out) (css : List (List Cell)) (b : Bool) → eqb sc.number s ≡ b
      → All (OfKind k) (only_if b (selected sc cs ∷ [])) → Inv s k o css
      → Inv s k (settle sc.constraint.kind (outcome cs) e sc o) (css ++ cells_in (only_if b (selected sc cs ∷ [])))
  unfolding only_if
  by_number e sc cs o css true q a i =
      subst (λ (κ : Kind). Inv s k (settle κ (outcome cs) e sc o) (css ++ (cs ∷ []))) (sym a.0)
      (own-settle s e sc o css cs q k keyed a.0 i (outcome cs) refl)
  by_number e sc cs o css false q a i =
      rw append-nil
      (apart-inv s k o (settle sc.constraint.kind (outcome cs) e sc o) css (apart-settle s e sc o q sc.constraint.kind (outcome cs)) i)

  judged : (is : List Item) (o : Out) (css : List (List Cell)) → All (OfKind k) (of_number s is) → Inv s k o css
      → Inv s k (judge_all o is) (css ++ cells_in (of_number s is))
  unfolding judge_all judge of_number flat_map of_item
  judged [] o css a i = rw append-nil i
  judged (failed e c t ∷ is) o css a i = judged is (tell e c t o) css a (apart-inv s k o (tell e c t o) css (apart-tell s e c t o not-zero) i)
  judged (finished e sc cs ∷ is) o css a i =
      let now : List Selected = only_if (eqb sc.number s) (selected sc cs ∷ []) in
      let later : List Selected = flat_map (of_item s) is in
      let parts = All-parts (OfKind k) now later a in
      rw (map-append (λ (d : Selected). d.cells) now later, ← append_assoc css (cells_in now) (cells_in later))
      (judged is (settle sc.constraint.kind (outcome cs) e sc o) (css ++ cells_in now) parts.1
      (by_number e sc cs o css (eqb sc.number s) refl parts.0 i))

  pub counted : (is : List Item) → All (OfKind k) (of_number s is)
      → first k (cells_in (of_number s is)) ≡ second k (cells_in (of_number s is)) + reports_against s (judge_all blank is).reports
  counted is a = (judged is blank [] a (nothing_yet s k)).sum

  pub counted-finished : (is : List Item) (e : ℕ) → All (OfKind k) (of_number s is)
      → first k (cells_in (of_number s is)) ≡ second k (cells_in (of_number s is)) + reports_against s (finish_out e (judge_all blank is)).reports
  counted-finished is e a =
      rw (finish-apart s k e (judge_all blank is) keyed (judged is blank [] a (nothing_yet s k)).kinds) (counted is a)
