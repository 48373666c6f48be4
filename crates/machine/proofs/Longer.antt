-- What has been put out stays: each happening and FI add tuples and reports behind those that are there.
-- Assumes nothing.
use Prim.Native.Nat.{ℕ}
use mathlib.Core.Path.{◌≡◌, refl, ap, sym, ◌∙◌}
use mathlib.Core.Bool.{Bool, true, false, cond}
use mathlib.Core.List.{List, [], ◌∷◌, ◌++◌, append_assoc, append-nil}
use mathlib.Core.Option.{Option, none, some}
use Rattle.lists.specs.Lists.{any, foldl}
use Rattle.texts.specs.Texts.{Text, same}
use Rattle.tree.specs.Events.{Kind, unique, key, keyref, Scope}
use Rattle.tree.specs.Tree.{Item, failed, finished}
use Rattle.tree.specs.Judge.{Tuple, Report, Out, Outcome, several_nodes, no_simple_value, missing, on_nillable, complete, outcome, report, keep, against, tuple_of, place, keep_or, present, completed, missed, nillable_key, settle, kind_six, tell, judge, judge_all, kind_fives, finish_out}

pub record Longer (o p : Out) : Type 0 where
  pub new_tuples : List Tuple
  pub tuples : p.tuples ≡ o.tuples ++ new_tuples
  pub new_reports : List Report
  pub reports : p.reports ≡ o.reports ++ new_reports

pub still : (o : Out) → Longer o o
still o = record { new_tuples = []; tuples = sym (append-nil o.tuples); new_reports = []; reports = sym (append-nil o.reports) }

then-longer : (o p q : Out) → Longer o p → Longer p q → Longer o q
then-longer o p q a b =
    record {
      new_tuples = a.new_tuples ++ b.new_tuples;
      tuples = b.tuples ∙ ap (λ (l : List Tuple). l ++ b.new_tuples) a.tuples ∙ append_assoc o.tuples a.new_tuples b.new_tuples;
      new_reports = a.new_reports ++ b.new_reports;
      reports = b.reports ∙ ap (λ (l : List Report). l ++ b.new_reports) a.reports ∙ append_assoc o.reports a.new_reports b.new_reports;
    }

reported : (r : Report) (o : Out) → Longer o (report r o)
unfolding report
reported r o = record { new_tuples = []; tuples = sym (append-nil o.tuples); new_reports = r ∷ []; reports = refl }

kept : (t : Tuple) (o : Out) → Longer o (keep t o)
unfolding keep
kept t o = record { new_tuples = t ∷ []; tuples = refl; new_reports = []; reports = sym (append-nil o.reports) }

kept-or : (n : Option ℕ) (e : ℕ) (s : Scope) (ks : List Text) (o : Out) → Longer o (keep_or n e s ks o)
unfolding keep_or
kept-or none e s ks o = kept (tuple_of s ks) o
kept-or (some t) e s ks o = reported (against e s 4 0 t) o

kept_if : (b : Bool) (t : Tuple) (o : Out) → Longer o (cond b (keep t o) o)
kept_if true t o = kept t o
kept_if false t o = still o

completed-longer : (k : Kind) (e : ℕ) (s : Scope) (ks : List Text) (o : Out) → Longer o (completed k e s ks o)
unfolding completed
completed-longer unique e s ks o = kept-or (place s.number ks o.tuples) e s ks o
completed-longer key e s ks o = kept-or (place s.number ks o.tuples) e s ks o
completed-longer keyref e s ks o = kept_if (present s.constraint.refer) (tuple_of s ks) o

missed-longer : (k : Kind) (e : ℕ) (s : Scope) (i : ℕ) (o : Out) → Longer o (missed k e s i o)
unfolding missed
missed-longer unique e s i o = still o
missed-longer key e s i o = reported (against e s 3 i 0) o
missed-longer keyref e s i o = still o

nillable-longer : (k : Kind) (e : ℕ) (s : Scope) (i : ℕ) (ks : List Text) (o : Out) → Longer o (nillable_key k e s i ks o)
unfolding nillable_key
nillable-longer unique e s i ks o = completed-longer unique e s ks o
nillable-longer key e s i ks o = reported (against e s 7 i 0) o
nillable-longer keyref e s i ks o = completed-longer keyref e s ks o

settled-longer : (k : Kind) (c : Outcome) (e : ℕ) (s : Scope) (o : Out) → Longer o (settle k c e s o)
unfolding settle
settled-longer k several_nodes e s o = reported (against e s 1 0 0) o
settled-longer k no_simple_value e s o = reported (against e s 2 0 0) o
settled-longer k (missing i) e s o = missed-longer k e s i o
settled-longer k (on_nillable i ks) e s o = nillable-longer k e s i ks o
settled-longer k (complete ks) e s o = completed-longer k e s ks o

told-longer : (b : Bool) (e c : ℕ) (t : Text) (o : Out)
    → Longer o (cond b o (record { tuples = o.tuples; reports = o.reports ++ (kind_six e c ∷ []); told = o.told ++ (t ∷ []) }))
told-longer true e c t o = still o
told-longer false e c t o = record { new_tuples = []; tuples = sym (append-nil o.tuples); new_reports = kind_six e c ∷ []; reports = refl }

judge-longer : (o : Out) (i : Item) → Longer o (judge o i)
unfolding judge tell
judge-longer o (failed e c t) = told-longer (any (same t) o.told) e c t o
judge-longer o (finished e s cs) = settled-longer s.constraint.kind (outcome cs) e s o

pub judge-all-longer : (o : Out) (is : List Item) → Longer o (judge_all o is)
unfolding judge_all
judge-all-longer o [] = still o
judge-all-longer o (i ∷ is) = then-longer o (judge o i) (judge_all (judge o i) is) (judge-longer o i) (judge-all-longer (judge o i) is)

pub finish-longer : (e : ℕ) (o : Out) → Longer o (finish_out e o)
unfolding finish_out
finish-longer e o = record { new_tuples = []; tuples = sym (append-nil o.tuples); new_reports = kind_fives e o.tuples 0 o.tuples; reports = refl }
