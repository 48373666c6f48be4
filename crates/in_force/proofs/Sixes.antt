-- `sixes-unread`: what the tree definition gives is of kind 6 only where the constraint of that number does not read.
-- By induction over the happenings: of the openings only one that fails is told, and the other kinds have other numbers.
-- Assumes nothing.
use Prim.Native.Nat.{ℕ, suc}
use native.Mathlib.Omega.{arith}
use lib.Dec.{eqb}
use lib.ListN.{length}
use mathlib.Core.Path.{◌≡◌, refl, sym, subst}
use mathlib.Core.Bool.{Bool, true, false, cond, ◌&&◌, not}
use mathlib.Core.List.{List, [], ◌∷◌, ◌++◌, map, flat_map}
use mathlib.Core.Option.{Option, none, some}
use Rattle.lists.specs.Lists.{any, only_if, passing, foldl, All}
use Rattle.lists.proofs.Folds.{All-append}
use Rattle.texts.specs.Texts.{Text, same}
use Rattle.tree.specs.Events.{Event, es, ee, Start, End, Kind, unique, key, keyref, Defined, reads, unread, Scope, opening, after, openings}
use Rattle.tree.specs.Tree.{Item, failed, finished, failed_item, items}
use Rattle.tree.specs.Tree as tree
use Rattle.tree.specs.Judge.{Tuple, Report, Out, blank, Outcome, several_nodes, no_simple_value, missing, on_nillable, complete, outcome, report, keep, against, tuple_of, place, keep_or, present, completed, missed, nillable_key, settle, kind_six, tell, judge, judge_all, is_keyref, answers, kind_five, unanswered, kind_fives, finish_out}
use Rattle.tree.specs.Build as build
use Rattle.machine.specs.Machine as machine
use Rattle.paths.specs.Names.{Name}
use Rattle.records.specs.Records.{Rec}
use Rattle.session_spec.specs.Definitions.{defined_at}
use Rattle.session_spec.specs.Runs.{definitions_of, defined_in, events_of, is_finish, tree_of, tree_out}
use Rattle.machine.proofs.Simulate.{streamed}
use Rattle.in_force.specs.InForce.{Unread, Six}

module _ (defs : ℕ → Defined) where
  abbrev ItemFit : Item → Type 0
  ItemFit (failed e c t) = Unread (defs c)
  ItemFit (finished e s cs) = Unit {0}

  abbrev Told : Out → Type 0
  Told o = All (Six defs) o.reports

  -- ---- what is put out

  other : (r : Report) (o : Out) → Six defs r → Told o → Told (report r o)
  unfolding report
  other r o n h = All-append (Six defs) o.reports (r ∷ []) h (n, tt)

  -- against a scope
  against-told : (e : ℕ) (s : Scope) (k f t : ℕ) (o : Out) → (k ≡ 6 → ⊥) → Told o → Told (report (against e s k f t) o)
  against-told e s k f t o n h = other (against e s k f t) o (unfold against in (λ z. absurd (n z))) h

  keep-told : (t : Tuple) (o : Out) → Told o → Told (keep t o)
  unfolding keep
  keep-told t o h = h

  keep_or-told : (p : Option ℕ) (e : ℕ) (s : Scope) (ks : List Text) (o : Out) → Told o → Told (keep_or p e s ks o)
  unfolding keep_or
  keep_or-told none e s ks o h = keep-told (tuple_of s ks) o h
  keep_or-told (some t) e s ks o h = against-told e s 4 0 t o (λ z. omega arith) h

  completed-told : (k : Kind) (e : ℕ) (s : Scope) (ks : List Text) (o : Out) → Told o → Told (completed k e s ks o)
  unfolding completed
  completed-told unique e s ks o h = keep_or-told (place s.number ks o.tuples) e s ks o h
  completed-told key e s ks o h = keep_or-told (place s.number ks o.tuples) e s ks o h
  completed-told keyref e s ks o h = by (present s.constraint.refer)
    where
      by : (b : Bool) → Told (cond b (keep (tuple_of s ks) o) o)
      by true = keep-told (tuple_of s ks) o h
      by false = h

  missed-told : (k : Kind) (e : ℕ) (s : Scope) (i : ℕ) (o : Out) → Told o → Told (missed k e s i o)
  unfolding missed
  missed-told unique e s i o h = h
  missed-told key e s i o h = against-told e s 3 i 0 o (λ z. omega arith) h
  missed-told keyref e s i o h = h

  nillable-told : (k : Kind) (e : ℕ) (s : Scope) (i : ℕ) (ks : List Text) (o : Out) → Told o → Told (nillable_key k e s i ks o)
  unfolding nillable_key
  nillable-told unique e s i ks o h = completed-told unique e s ks o h
  nillable-told key e s i ks o h = against-told e s 7 i 0 o (λ z. omega arith) h
  nillable-told keyref e s i ks o h = completed-told keyref e s ks o h

  settle-told : (k : Kind) (x : Outcome) (e : ℕ) (s : Scope) (o : Out) → Told o → Told (settle k x e s o)
  unfolding settle
  settle-told k several_nodes e s o h = against-told e s 1 0 0 o (λ z. omega arith) h
  settle-told k no_simple_value e s o h = against-told e s 2 0 0 o (λ z. omega arith) h
  settle-told k (missing i) e s o h = missed-told k e s i o h
  settle-told k (on_nillable i ks) e s o h = nillable-told k e s i ks o h
  settle-told k (complete ks) e s o h = completed-told k e s ks o h

  tell-told : (e c : ℕ) (t : Text) (o : Out) → Unread (defs c) → Told o → Told (tell e c t o)
  unfolding tell kind_six
  tell-told e c t o u h = by (any (same t) o.told)
    where
      by : (b : Bool) → Told (cond b o (record { tuples = o.tuples; reports = o.reports ++ (record { kind = 6; constraint = c; field = 0; scope = 0; event = e; tuple = 0 } ∷ []); told = o.told ++ (t ∷ []) }))
      by true = h
      by false = All-append (Six defs) o.reports _ h ((λ z. u), tt)

  judge-told : (o : Out) (i : Item) → ItemFit i → Told o → Told (judge o i)
  unfolding judge
  judge-told o (failed e c t) u h = tell-told e c t o u h
  judge-told o (finished e s cs) u h = settle-told s.constraint.kind (outcome cs) e s o h

  judge-all : (o : Out) (is : List Item) → All ItemFit is → Told o → Told (judge_all o is)
  unfolding judge_all
  judge-all o [] a h = h
  judge-all o (i ∷ is) a h = judge-all (judge o i) is a.1 (judge-told o i a.0 h)

  -- ---- what happens

  opening-fit : (e i n : ℕ) (d : Defined) → defs i ≡ d → All ItemFit (failed_item e (opening d i n))
  unfolding opening failed_item
  opening-fit e i n (reads c) q = tt
  opening-fit e i n (unread t) q = (subst Unread (sym q) tt, tt)

  openings-fit : (e n : ℕ) (is : List ℕ) → All ItemFit (flat_map (failed_item e) (openings defs n is))
  unfolding openings flat_map
  openings-fit e n [] = tt
  openings-fit e n (i ∷ is) =
      All-append ItemFit (failed_item e (opening (defs i) i n)) _ (opening-fit e i n (defs i) refl) (openings-fit e (after (defs i) n) is)

  finished-fit : (e : ℕ) (ss : List machine.Selection) → All ItemFit (map (machine.finished_item e) ss)
  unfolding machine.finished_item
  finished-fit e [] = tt
  finished-fit e (s ∷ ss) = (tt, finished-fit e ss)

  start-told : (st : machine.State) (s : Start) → Told st.out → Told (machine.start_a defs st s).out
  unfolding machine.start_a tree.failures
  start-told st s h = judge-all st.out _ (openings-fit (suc st.events) st.count s.numbers) h

  end-told : (ns : List Name) (st : machine.State) (e : End) → Told st.out → Told (machine.end_if ns st e).out
  unfolding machine.end_if machine.end_open
  end-told [] st e h = h
  end-told (n ∷ ns) st e h =
      let ss : List machine.Selection = passing (λ (s : machine.Selection). eqb s.depth (length st.names)) (map (machine.feed st.names (machine.end_gives e)) st.selections) in
      judge-all st.out (map (machine.finished_item (suc st.events)) ss) (finished-fit (suc st.events) ss) h

  step-told : (st : machine.State) (x : Event) → Told st.out → Told (machine.step defs st x).out
  unfolding machine.step machine.end_a
  step-told st (es s) h = start-told st s h
  step-told st (ee e) h = end-told st.names st e h

  run-told : (st : machine.State) (xs : List Event) → Told st.out → Told (machine.run defs st xs).out
  unfolding machine.run
  run-told st [] h = h
  run-told st (x ∷ xs) h = run-told (machine.step defs st x) xs (step-told st x h)

  -- ---- FI

  five : (e i : ℕ) (every : List Tuple) (t : Tuple) → All (Six defs) (unanswered e every i t)
  unfolding unanswered kind_five
  five e i every t = by (is_keyref t.constraint.kind && not (any (answers t) every))
    where
      by : (b : Bool) → All (Six defs) (only_if b (record { kind = 5; constraint = t.constraint.number; field = 0; scope = t.scope; event = e; tuple = i } ∷ []))
      by true = unfold only_if in ((λ z. let y : ◌≡◌ {A = ℕ} 5 6 = z in absurd (omega arith)), tt)
      by false = unfold only_if in tt

  fives : (e : ℕ) (every : List Tuple) (i : ℕ) (ts : List Tuple) → All (Six defs) (kind_fives e every i ts)
  unfolding kind_fives
  fives e every i [] = tt
  fives e every i (t ∷ ts) = All-append (Six defs) (unanswered e every (suc i) t) (kind_fives e every (suc i) ts) (five e (suc i) every t) (fives e every (suc i) ts)

  finish-told : (e : ℕ) (o : Out) → Told o → Told (finish_out e o)
  unfolding finish_out
  finish-told e o h = All-append (Six defs) o.reports _ h (fives e o.tuples 0 o.tuples)

-- ---- the tree of records

-- KIND 6 IS OF CONSTRAINTS THAT DO NOT READ
pub sixes-unread : (rs : List Rec) → All (Six (defined_at (definitions_of rs))) (tree_out rs).reports
unfolding tree_out tree_of
sixes-unread rs =
    let d = defined_at (definitions_of rs) in
    let h : Told d (judge_all blank (items [] (build.tree d (defined_in rs) (events_of rs)))) =
    subst (Told d) (streamed d (defined_in rs) (events_of rs)) (run-told d (machine.initial (defined_in rs)) (events_of rs) tt) in
    by (any is_finish rs) (judge_all blank (items [] (build.tree d (defined_in rs) (events_of rs)))) h
  where
    by : (b : Bool) (o : Out) → Told (defined_at (definitions_of rs)) o → Told (defined_at (definitions_of rs)) (cond b (finish_out (length rs) o) o)
    by true o h = finish-told (defined_at (definitions_of rs)) (length rs) o h
    by false o h = h
