-- There are as many origins as tuples: no happening takes a tuple away, so that what it adds is what there are more.
-- Assumes nothing.
use Prim.Native.Nat.{ℕ, zero, suc, ◌+◌, ◌-◌, ◌≤◌}
use native.Mathlib.Omega.{arith}
use lib.ListN.{length, replicate, length-append, length-replicate}
use mathlib.Core.Path.{◌≡◌, refl, ap, sym, ◌∙◌}
use mathlib.Core.Bool.{Bool, true, false, cond}
use mathlib.Core.List.{List, [], ◌∷◌, ◌++◌}
use mathlib.Core.Option.{Option, none, some}
use Rattle.lists.specs.Lists.{any, foldl}
use Rattle.texts.specs.Texts.{Text, same}
use Rattle.tree.specs.Events.{Kind, unique, key, keyref, Scope}
use Rattle.tree.specs.Tree.{Item, failed, finished}
use Rattle.tree.specs.Judge.{Out, Outcome, several_nodes, no_simple_value, missing, on_nillable, complete, outcome, report, keep, tuple_of, place, keep_or, present, completed, missed, nillable_key, settle, kind_six, tell, judge, judge_all}
use Rattle.origins.specs.Origins.{event_of, kept_by, origins_of}

-- no happening takes a tuple away
module _ (o : Out) where
  reported : (r : _) → length o.tuples ≤ length (report r o).tuples
  unfolding report
  reported r = omega arith

  keeping : (t : _) → length o.tuples ≤ length (keep t o).tuples
  unfolding keep
  keeping t = omega (arith, length-append o.tuples (t ∷ []))

  told_more : (e c : ℕ) (t : Text) → length o.tuples ≤ length (tell e c t o).tuples
  unfolding tell
  told_more e c t = by (any (same t) o.told)
    where
      by : (b : Bool) → length o.tuples ≤ length (cond b o (record { tuples = o.tuples; reports = o.reports ++ (kind_six e c ∷ []); told = o.told ++ (t ∷ []) })).tuples
      by true = omega arith
      by false = omega arith

  kept-or : (p : Option ℕ) (e : ℕ) (s : Scope) (ks : List Text) → length o.tuples ≤ length (keep_or p e s ks o).tuples
  unfolding keep_or
  kept-or none e s ks = keeping (tuple_of s ks)
  kept-or (some t) e s ks = reported _

  completed-more : (k : Kind) (e : ℕ) (s : Scope) (ks : List Text) → length o.tuples ≤ length (completed k e s ks o).tuples
  unfolding completed
  completed-more unique e s ks = kept-or (place s.number ks o.tuples) e s ks
  completed-more key e s ks = kept-or (place s.number ks o.tuples) e s ks
  completed-more keyref e s ks = by (present s.constraint.refer)
    where
      by : (b : Bool) → length o.tuples ≤ length (cond b (keep (tuple_of s ks) o) o).tuples
      by true = keeping (tuple_of s ks)
      by false = omega arith

  missed_more : (k : Kind) (e : ℕ) (s : Scope) (i : ℕ) → length o.tuples ≤ length (missed k e s i o).tuples
  unfolding missed
  missed_more unique e s i = omega arith
  missed_more key e s i = reported _
  missed_more keyref e s i = omega arith

  nillable-more : (k : Kind) (e : ℕ) (s : Scope) (i : ℕ) (ks : List Text) → length o.tuples ≤ length (nillable_key k e s i ks o).tuples
  unfolding nillable_key
  nillable-more unique e s i ks = completed-more unique e s ks
  nillable-more key e s i ks = reported _
  nillable-more keyref e s i ks = completed-more keyref e s ks

  settle-more : (k : Kind) (c : Outcome) (e : ℕ) (s : Scope) → length o.tuples ≤ length (settle k c e s o).tuples
  unfolding settle
  settle-more k several_nodes e s = reported _
  settle-more k no_simple_value e s = reported _
  settle-more k (missing i) e s = missed_more k e s i
  settle-more k (on_nillable i ks) e s = nillable-more k e s i ks
  settle-more k (complete ks) e s = completed-more k e s ks

  pub judge-more : (i : Item) → length o.tuples ≤ length (judge o i).tuples
  unfolding judge
  judge-more (failed e c t) = told_more e c t
  judge-more (finished e s cs) = settle-more s.constraint.kind (outcome cs) e s

-- THE LAW: an origin for each tuple
pub origins-sized : (o : Out) (is : List Item) → length o.tuples + length (origins_of o is) ≡ length (judge_all o is).tuples
unfolding origins_of kept_by judge_all
origins-sized o [] = omega arith
origins-sized o (i ∷ is) =
    let a = length-append (replicate (kept_by o i) (event_of i)) (origins_of (judge o i) is) in
    let b : length (replicate (kept_by o i) (event_of i)) ≡ kept_by o i = length-replicate (kept_by o i) (event_of i) in
    let m = judge-more o i in
    let r = origins-sized (judge o i) is in
    omega arith
