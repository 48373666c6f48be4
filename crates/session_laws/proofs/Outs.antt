-- What holds of scopes, of happenings and of what is put out: a constraint is what its number stands for, a scope number was given, `told` is what the
-- reports of kind 6 say. Each happening keeps it and adds at most one tuple; nothing that was put out is taken back.
-- Assumes nothing.
use Prim.Native.Nat.{ℕ, suc, ◌+◌, ◌≤◌, ◌<◌}
use native.Mathlib.Omega.{arith}
use lib.Dec.{eqb}
use lib.ListN.{length, length-append}
use mathlib.Core.Path.{◌≡◌, refl, ap, ap₂, sym, ◌∙◌}
use mathlib.Core.Bool.{Bool, true, false, cond, ◌&&◌, not}
use mathlib.Core.List.{List, [], ◌∷◌, ◌++◌, flat_map, append_assoc, append-nil}
use mathlib.Core.Option.{Option, none, some}
use Rattle.lists.specs.Lists.{any, only_if, foldl, All}
use Rattle.lists.proofs.Lists.{flat_map-append}
use Rattle.lists.proofs.Folds.{All-append, All-weaken, All-only_if}
use Rattle.texts.specs.Texts.{Text, same}
use Rattle.tree.specs.Events.{Kind, unique, key, keyref, Scope}
use Rattle.tree.specs.Tree.{Item, failed, finished}
use Rattle.tree.specs.Judge.{Tuple, Report, Out, Outcome, several_nodes, no_simple_value, missing, on_nillable, complete, outcome, report, keep, against, tuple_of, place, keep_or, present, completed, missed, nillable_key, settle, kind_six, tell, judge, judge_all, is_keyref, answers, kind_five, unanswered, kind_fives, finish_out}
use Rattle.session_spec.specs.Definitions.{Definitions, constraint_at}
use Rattle.session_spec.specs.Session.{told_by}
use Rattle.session_laws.proofs.Constraints.{ConstraintFit}

-- ---- scopes and happenings; `n` scopes have been opened

pub record ScopeFit (d : Definitions) (n : ℕ) (sc : Scope) : Type 0 where
  pub constraint : ConstraintFit d sc.constraint
  pub given : sc.number ≤ n

abbrev pub ItemFit : Definitions → ℕ → Item → Type 0
ItemFit d n (failed e c t) = ((constraint_at d c).name ≡ t) × (c < length d.ids)
ItemFit d n (finished e sc cs) = ScopeFit d n sc

pub record TupleFit (d : Definitions) (n : ℕ) (t : Tuple) : Type 0 where
  pub constraint : ConstraintFit d t.constraint
  pub given : t.scope ≤ n

-- a report's constraint is defined
abbrev pub ReportFit : Definitions → Report → Type 0
ReportFit d r = r.constraint < length d.ids

pub record OutFit (d : Definitions) (n : ℕ) (o : Out) : Type 0 where
  pub tuples : All (TupleFit d n) o.tuples
  pub reports : All (ReportFit d) o.reports
  pub told : told_by d o.reports ≡ o.told

-- the tuples and reports only grow, the tuples by at most `m`
pub record Grown (o p : Out) (m : ℕ) : Type 0 where
  pub more_tuples : List Tuple
  pub tuples : p.tuples ≡ o.tuples ++ more_tuples
  pub few : length more_tuples ≤ m
  pub more_reports : List Report
  pub reports : p.reports ≡ o.reports ++ more_reports

pub same-grown : (o : Out) (m : ℕ) → Grown o o m
same-grown o m =
    record { more_tuples = []; tuples = sym (append-nil o.tuples); few = omega arith; more_reports = []; reports = sym (append-nil o.reports) }

pub join-grown : (o p q : Out) (m n : ℕ) → Grown o p m → Grown p q n → Grown o q (m + n)
join-grown o p q m n g h =
    record {
      more_tuples = g.more_tuples ++ h.more_tuples;
      tuples = h.tuples ∙ rw g.tuples (append_assoc o.tuples g.more_tuples h.more_tuples);
      few = rw (length-append g.more_tuples h.more_tuples) (omega (arith, g.few, h.few));
      more_reports = g.more_reports ++ h.more_reports;
      reports = h.reports ∙ rw g.reports (append_assoc o.reports g.more_reports h.more_reports);
    }

pub at_most : (o p : Out) (m n : ℕ) → m ≤ n → Grown o p m → Grown o p n
at_most o p m n h g =
    record { more_tuples = g.more_tuples; tuples = g.tuples; few = omega (arith, g.few); more_reports = g.more_reports; reports = g.reports }

report-grown : (r : Report) (o : Out) → Grown o (report r o) 1
unfolding report
report-grown r o = record { more_tuples = []; tuples = sym (append-nil o.tuples); few = omega arith; more_reports = r ∷ []; reports = refl }

keep-grown : (t : Tuple) (o : Out) → Grown o (keep t o) 1
unfolding keep
keep-grown t o = record { more_tuples = t ∷ []; tuples = refl; few = omega arith; more_reports = []; reports = sym (append-nil o.reports) }

-- ---- what one happening does

told-one : (d : Definitions) (rs : List Report) (r : Report)
    → told_by d (rs ++ (r ∷ [])) ≡ told_by d rs ++ only_if (eqb r.kind 6) ((constraint_at d r.constraint).name ∷ [])
unfolding told_by flat_map
told-one d rs r =
    flat_map-append (λ (q : Report). only_if (eqb q.kind 6) ((constraint_at d q.constraint).name ∷ [])) rs (r ∷ [])
    ∙ ap (λ (l : List Text). told_by d rs ++ l) (append-nil (only_if (eqb r.kind 6) ((constraint_at d r.constraint).name ∷ [])))

-- a report of another kind
report-fit : (d : Definitions) (n : ℕ) (o : Out) (r : Report) → eqb r.kind 6 ≡ false → ReportFit d r → OutFit d n o → OutFit d n (report r o)
unfolding report only_if
report-fit d n o r h g f =
    record {
      tuples = f.tuples;
      reports = All-append (ReportFit d) o.reports (r ∷ []) f.reports (g, tt);
      told = told-one d o.reports r ∙ rw h (append-nil (told_by d o.reports) ∙ f.told);
    }

keep-fit : (d : Definitions) (n : ℕ) (o : Out) (t : Tuple) → TupleFit d n t → OutFit d n o → OutFit d n (keep t o)
unfolding keep
keep-fit d n o t h f = record { tuples = All-append (TupleFit d n) o.tuples (t ∷ []) f.tuples (h, tt); reports = f.reports; told = f.told }

tuple-fit : (d : Definitions) (n : ℕ) (sc : Scope) (ks : List Text) → ScopeFit d n sc → TupleFit d n (tuple_of sc ks)
unfolding tuple_of
tuple-fit d n sc ks f = record { constraint = f.constraint; given = f.given }

abbrev Good : Definitions → ℕ → Out → Out → Type 0
Good d n o p = OutFit d n p × Grown o p 1

module _ (d : Definitions) (n : ℕ) (o : Out) (f : OutFit d n o) where
  still : Good d n o o
  still = (f, same-grown o 1)

  against-good : (e : ℕ) (sc : Scope) (k i t : ℕ) → eqb k 6 ≡ false → ScopeFit d n sc → Good d n o (report (against e sc k i t) o)
  unfolding against
  against-good e sc k i t h s = (report-fit d n o (against e sc k i t) h s.constraint.defined f, report-grown (against e sc k i t) o)

  keep-good : (sc : Scope) (ks : List Text) → ScopeFit d n sc → Good d n o (keep (tuple_of sc ks) o)
  keep-good sc ks s = (keep-fit d n o (tuple_of sc ks) (tuple-fit d n sc ks s) f, keep-grown (tuple_of sc ks) o)

  keep-or-good : (q : Option ℕ) (e : ℕ) (sc : Scope) (ks : List Text) → ScopeFit d n sc → Good d n o (keep_or q e sc ks o)
  unfolding keep_or
  keep-or-good none e sc ks s = keep-good sc ks s
  keep-or-good (some t) e sc ks s = against-good e sc 4 0 t refl s

  refer-good : (b : Bool) (sc : Scope) (ks : List Text) → ScopeFit d n sc → Good d n o (cond b (keep (tuple_of sc ks) o) o)
  refer-good true sc ks s = keep-good sc ks s
  refer-good false sc ks s = still

  complete-good : (k : Kind) (e : ℕ) (sc : Scope) (ks : List Text) → ScopeFit d n sc → Good d n o (completed k e sc ks o)
  unfolding completed
  complete-good unique e sc ks s = keep-or-good (place sc.number ks o.tuples) e sc ks s
  complete-good key e sc ks s = keep-or-good (place sc.number ks o.tuples) e sc ks s
  complete-good keyref e sc ks s = refer-good (present sc.constraint.refer) sc ks s

  missed-good : (k : Kind) (e : ℕ) (sc : Scope) (i : ℕ) → ScopeFit d n sc → Good d n o (missed k e sc i o)
  unfolding missed
  missed-good unique e sc i s = still
  missed-good key e sc i s = against-good e sc 3 i 0 refl s
  missed-good keyref e sc i s = still

  nillable-good : (k : Kind) (e : ℕ) (sc : Scope) (i : ℕ) (ks : List Text) → ScopeFit d n sc → Good d n o (nillable_key k e sc i ks o)
  unfolding nillable_key
  nillable-good unique e sc i ks s = complete-good unique e sc ks s
  nillable-good key e sc i ks s = against-good e sc 7 i 0 refl s
  nillable-good keyref e sc i ks s = complete-good keyref e sc ks s

  settle-good : (k : Kind) (x : Outcome) (e : ℕ) (sc : Scope) → ScopeFit d n sc → Good d n o (settle k x e sc o)
  unfolding settle
  settle-good k several_nodes e sc s = against-good e sc 1 0 0 refl s
  settle-good k no_simple_value e sc s = against-good e sc 2 0 0 refl s
  settle-good k (missing i) e sc s = missed-good k e sc i s
  settle-good k (on_nillable i ks) e sc s = nillable-good k e sc i ks s
  settle-good k (complete ks) e sc s = complete-good k e sc ks s

  tell-good : (e c : ℕ) (t : Text) → ((constraint_at d c).name ≡ t) × (c < length d.ids) → Good d n o (tell e c t o)
  unfolding tell kind_six only_if
  tell-good e c t h = by (any (same t) o.told)
    where
      by : (b : Bool) → Good d n o (cond b o (record { tuples = o.tuples; reports = o.reports ++ (kind_six e c ∷ []); told = o.told ++ (t ∷ []) }))
      by true = still
      by false = (
        record {
          tuples = f.tuples;
          reports = All-append (ReportFit d) o.reports (kind_six e c ∷ []) f.reports (h.1, tt);
          told = told-one d o.reports (kind_six e c) ∙ rw (h.0, f.told);
        },
        record { more_tuples = []; tuples = sym (append-nil o.tuples); few = omega arith; more_reports = kind_six e c ∷ []; reports = refl },
      )

  judge-good : (i : Item) → ItemFit d n i → Good d n o (judge o i)
  unfolding judge
  judge-good (failed e c t) h = tell-good e c t h
  judge-good (finished e sc cs) h = settle-good sc.constraint.kind (outcome cs) e sc h

pub judge-all : (d : Definitions) (n : ℕ) (is : List Item) (o : Out) → OutFit d n o → All (ItemFit d n) is
    → OutFit d n (judge_all o is) × Grown o (judge_all o is) (length is)
unfolding judge_all
judge-all d n [] o f a = (f, same-grown o 0)
judge-all d n (i ∷ is) o f a =
    let g = judge-good d n o f i a.0 in
    let r = judge-all d n is (judge o i) g.0 a.1 in
    let p : Out = judge_all (judge o i) is in
    (r.0, at_most o p (1 + length is) (suc (length is)) (omega arith) (join-grown o (judge o i) p 1 (length is) g.1 r.1))

-- ---- FI adds reports of kind 5, which tell nothing

told-append : (d : Definitions) (rs qs : List Report) → told_by d (rs ++ qs) ≡ told_by d rs ++ told_by d qs
unfolding told_by
told-append d rs qs = flat_map-append (λ (q : Report). only_if (eqb q.kind 6) ((constraint_at d q.constraint).name ∷ [])) rs qs

told-only_if : (d : Definitions) (b : Bool) (r : Report) → eqb r.kind 6 ≡ false → told_by d (only_if b (r ∷ [])) ≡ []
unfolding told_by flat_map only_if
told-only_if d true r h = rw h
told-only_if d false r h = refl

told-resolve : (d : Definitions) (e : ℕ) (ts : List Tuple) (i : ℕ) (us : List Tuple) → told_by d (kind_fives e ts i us) ≡ []
unfolding kind_fives unanswered told_by flat_map
told-resolve d e ts i [] = refl
told-resolve d e ts i (u ∷ us) =
    told-append d (unanswered e ts (suc i) u) (kind_fives e ts (suc i) us)
    ∙ ap₂ {C = List Text} ◌++◌
    (told-only_if d (is_keyref u.constraint.kind && not (any (answers u) ts)) (kind_five e (suc i) u) (unfold kind_five in refl))
    (told-resolve d e ts (suc i) us)

resolve-fit : (d : Definitions) (n e : ℕ) (ts : List Tuple) (i : ℕ) (us : List Tuple) → All (TupleFit d n) us → All (ReportFit d) (kind_fives e ts i us)
unfolding kind_fives unanswered
resolve-fit d n e ts i [] a = tt
resolve-fit d n e ts i (u ∷ us) a =
    All-append (ReportFit d) (unanswered e ts (suc i) u) (kind_fives e ts (suc i) us)
    (All-only_if (ReportFit d) (is_keyref u.constraint.kind && not (any (answers u) ts))
    (kind_five e (suc i) u) (unfold kind_five in a.0.constraint.defined))
    (resolve-fit d n e ts (suc i) us a.1)

pub finish-fit : (d : Definitions) (n e : ℕ) (o : Out) → OutFit d n o → OutFit d n (finish_out e o) × Grown o (finish_out e o) 0
unfolding finish_out
finish-fit d n e o f = (
  record {
    tuples = f.tuples;
    reports = All-append (ReportFit d) o.reports (kind_fives e o.tuples 0 o.tuples) f.reports (resolve-fit d n e o.tuples 0 o.tuples f.tuples);
    told = told-append d o.reports (kind_fives e o.tuples 0 o.tuples) ∙ rw (told-resolve d e o.tuples 0 o.tuples) (append-nil (told_by d o.reports) ∙ f.told);
  },
  record { more_tuples = []; tuples = sym (append-nil o.tuples); few = omega arith; more_reports = kind_fives e o.tuples 0 o.tuples; reports = refl },
)

-- more scopes opened
tuple-later : (d : Definitions) (m n : ℕ) → m ≤ n → (t : Tuple) → TupleFit d m t → TupleFit d n t
tuple-later d m n h t f = record { constraint = f.constraint; given = omega (arith, f.given) }

pub out-later : (d : Definitions) (m n : ℕ) (o : Out) → m ≤ n → OutFit d m o → OutFit d n o
out-later d m n o h f = record { tuples = All-weaken (TupleFit d m) (TupleFit d n) (tuple-later d m n h) o.tuples f.tuples; reports = f.reports; told = f.told }
