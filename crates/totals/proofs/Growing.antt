-- How much is put out: a happening brings one tuple or report at most, and FI one report at most for a tuple, of the same constraint.
-- Assumes nothing.
use Prim.Native.Nat.{ℕ, zero, suc, ◌+◌, ◌-◌, ◌*◌, ◌≤◌, ◌<◌}
use native.Mathlib.Nat.{add-zero}
use native.Mathlib.Omega.{arith}
use lib.Dec.{eqb, leb}
use lib.ListN.{length, drop, length-map}
use lib.Seq.{drop-append_seam}
use mathlib.Core.Path.{◌≡◌, ap₂, sym, subst}
use mathlib.Core.Bool.{Bool, true, false, cond, ◌&&◌, not, false≢true}
use mathlib.Core.List.{List, [], ◌∷◌, ◌++◌, map, flat_map, append-nil}
use mathlib.Core.Option.{Option, none, some}
use Rattle.lists.specs.Lists.{any, only_if, passing, foldl}
use Rattle.lists.proofs.Folds.{length-snoc, count-append}
use Rattle.lists.proofs.Places.{length-passing}
use Rattle.texts.specs.Texts.{Text, same}
use Rattle.tree.specs.Events.{Kind, unique, key, keyref, Scope, Event, es, ee, Start, Opening, Defined, openings}
use Rattle.tree.specs.Tree.{Item, failed, finished, Element, failed_item, failures, items}
use Rattle.tree.specs.Judge.{Tuple, Report, Out, Outcome, several_nodes, no_simple_value, missing, on_nillable, complete, outcome, report, keep, against, tuple_of, place, keep_or, present, completed, missed, nillable_key, settle, kind_six, tell, judge, judge_all, is_keyref, answers, kind_five, unanswered, kind_fives, finish_out}
use Rattle.machine.specs.Machine.{State, start_a}
use Rattle.session_laws.proofs.States.{failures-few, openings-length}
use Rattle.totals.specs.Counts.{tuples_of, reports_of}

-- ---- counts of lists that grow

pub tuples-append : (k : ℕ) (xs ys : List Tuple) → tuples_of k (xs ++ ys) ≡ tuples_of k xs + tuples_of k ys
unfolding tuples_of
tuples-append k xs ys = count-append (λ t. eqb t.constraint.number k) xs ys

pub reports-append : (k : ℕ) (xs ys : List Report) → reports_of k (xs ++ ys) ≡ reports_of k xs + reports_of k ys
unfolding reports_of
reports-append k xs ys = count-append (λ r. eqb r.constraint k) xs ys

pub tuples-few : (k : ℕ) (xs : List Tuple) → tuples_of k xs ≤ length xs
unfolding tuples_of
tuples-few k xs = length-passing (λ t. eqb t.constraint.number k) xs

pub reports-few : (k : ℕ) (xs : List Report) → reports_of k xs ≤ length xs
unfolding reports_of
reports-few k xs = length-passing (λ r. eqb r.constraint k) xs

-- ---- each happening puts out one thing at most

abbrev pub size : Out → ℕ
size o = length o.tuples + length o.reports

module _ (o : Out) where
  report-size : (r : Report) → size (report r o) ≤ suc (size o)
  unfolding report
  report-size r = omega (arith, length-snoc o.reports r)

  keep-size : (t : Tuple) → size (keep t o) ≤ suc (size o)
  unfolding keep
  keep-size t = omega (arith, length-snoc o.tuples t)

  keep-or-size : (q : Option ℕ) (e : ℕ) (s : Scope) (ks : List Text) → size (keep_or q e s ks o) ≤ suc (size o)
  unfolding keep_or
  keep-or-size none e s ks = keep-size (tuple_of s ks)
  keep-or-size (some t) e s ks = report-size (against e s 4 0 t)

  refer-size : (b : Bool) (t : Tuple) → size (cond b (keep t o) o) ≤ suc (size o)
  refer-size true t = keep-size t
  refer-size false t = omega arith

  complete-size : (k : Kind) (e : ℕ) (s : Scope) (ks : List Text) → size (completed k e s ks o) ≤ suc (size o)
  unfolding completed
  complete-size unique e s ks = keep-or-size (place s.number ks o.tuples) e s ks
  complete-size key e s ks = keep-or-size (place s.number ks o.tuples) e s ks
  complete-size keyref e s ks = refer-size (present s.constraint.refer) (tuple_of s ks)

  missed-size : (k : Kind) (e : ℕ) (s : Scope) (i : ℕ) → size (missed k e s i o) ≤ suc (size o)
  unfolding missed
  missed-size unique e s i = omega arith
  missed-size key e s i = report-size (against e s 3 i 0)
  missed-size keyref e s i = omega arith

  nillable-size : (k : Kind) (e : ℕ) (s : Scope) (i : ℕ) (ks : List Text) → size (nillable_key k e s i ks o) ≤ suc (size o)
  unfolding nillable_key
  nillable-size unique e s i ks = complete-size unique e s ks
  nillable-size key e s i ks = report-size (against e s 7 i 0)
  nillable-size keyref e s i ks = complete-size keyref e s ks

  settle-size : (k : Kind) (x : Outcome) (e : ℕ) (s : Scope) → size (settle k x e s o) ≤ suc (size o)
  unfolding settle
  settle-size k several_nodes e s = report-size (against e s 1 0 0)
  settle-size k no_simple_value e s = report-size (against e s 2 0 0)
  settle-size k (missing i) e s = missed-size k e s i
  settle-size k (on_nillable i ks) e s = nillable-size k e s i ks
  settle-size k (complete ks) e s = complete-size k e s ks

  tell-size : (e c : ℕ) (t : Text) → size (tell e c t o) ≤ suc (size o)
  unfolding tell
  tell-size e c t = by (any (same t) o.told)
    where
      by : (b : Bool) → size (cond b o (record { tuples = o.tuples; reports = o.reports ++ (kind_six e c ∷ []); told = o.told ++ (t ∷ []) })) ≤ suc (size o)
      by true = omega arith
      by false = omega (arith, length-snoc o.reports (kind_six e c))

  judge-size : (i : Item) → size (judge o i) ≤ suc (size o)
  unfolding judge
  judge-size (failed e c t) = tell-size e c t
  judge-size (finished e s cs) = settle-size s.constraint.kind (outcome cs) e s

pub judge-all-size : (is : List Item) (o : Out) → size (judge_all o is) ≤ size o + length is
unfolding judge_all
judge-all-size [] o = omega arith
judge-all-size (i ∷ is) o = let a = judge-size o i in let b = judge-all-size is (judge o i) in omega (arith, b)

pub start-size : (defs : ℕ → Defined) (st : State) (s : Start) → size (start_a defs st s).out ≤ size st.out + length s.numbers
unfolding start_a failures
start-size defs st s =
    let os : List Opening = openings defs st.count s.numbers in
    let a = judge-all-size (flat_map (failed_item (suc st.events)) os) st.out in
    let b = failures-few (suc st.events) os in
    let c = openings-length defs st.count s.numbers in
    omega (arith, a, b, c)

-- ---- kind 5 for a tuple of the constraint, once

five-few : (k e : ℕ) (b : Bool) (i : ℕ) (t : Tuple) → reports_of k (only_if b (kind_five e i t ∷ [])) ≤ tuples_of k (t ∷ [])
unfolding reports_of tuples_of passing only_if kind_five
five-few k e false i t = omega arith
five-few k e true i t = by (eqb t.constraint.number k)
  where
    by : (b : Bool) → length {A = Report} (only_if b (record { kind = 5; constraint = t.constraint.number; field = 0; scope = t.scope; event = e; tuple = i } ∷ []) ++ []) ≤ length (only_if b (t ∷ []) ++ [])
    by true = omega arith
    by false = omega arith

pub fives-few : (k e : ℕ) (every : List Tuple) (i : ℕ) (ts : List Tuple) → reports_of k (kind_fives e every i ts) ≤ tuples_of k ts
unfolding kind_fives unanswered
fives-few k e every i [] = unfold reports_of tuples_of passing in omega arith
fives-few k e every i (t ∷ ts) =
    let a = five-few k e (is_keyref t.constraint.kind && not (any (answers t) every)) (suc i) t in
    let b = fives-few k e every (suc i) ts in
    let c = reports-append k (unanswered e every (suc i) t) (kind_fives e every (suc i) ts) in
    let d = tuples-append k (t ∷ []) ts in
    omega (arith, a, b, c, d)
