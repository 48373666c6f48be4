-- NOTHING IS OF A NUMBER THAT NO CONSTRAINT HAS: tuples and reports by what holds of a session, selections since each is of an open scope; so nothing of it
-- is reached, record by record.
-- Assumes nothing.
use Prim.Native.Nat.{ℕ, ◌≤◌, ◌<◌}
use native.Mathlib.Omega.{arith}
use borrow.Author.Tests.{ne_eqb}
use lib.Dec.{eqb}
use lib.ListN.{length, length-append}
use mathlib.Core.Path.{◌≡◌, refl, ap, subst}
use mathlib.Core.Bool.{Bool, true, false}
use mathlib.Core.List.{List, [], ◌∷◌, ◌++◌, flat_map, append-nil}
use mathlib.Core.Option.{none}
use Rattle.lists.specs.Lists.{passing, All}
use Rattle.lists.proofs.Folds.{passing-none, All-weaken}
use Rattle.lists.proofs.Places.{All-get_elem, All-mapped, All-passing}
use Rattle.tree.specs.Events.{Event, es, ee}
use Rattle.tree.specs.Tree.{items}
use Rattle.tree.specs.Judge.{Tuple, Report}
use Rattle.machine.specs.Machine.{Selection}
use Rattle.records.specs.Readers.{Bytes}
use Rattle.records.specs.Refusals.{first_of}
use Rattle.records.specs.Records.{NsRecord, Rec, ID, NS, ES, EE, FI, parsed, parse}
use Rattle.session_spec.specs.Definitions.{Definitions, bind, define}
use Rattle.session_spec.specs.Layout.{place_of}
use Rattle.session_spec.specs.Session.{World, Session, next, rows}
use Rattle.session_spec.specs.Runs.{session_of, event_of, tree_of}
use Rattle.session_laws.proofs.Replays.{bind-length}
use Rattle.session_laws.proofs.Outs.{TupleFit, ReportFit}
use Rattle.session_laws.proofs.OpenScopes.{OpenFit}
use Rattle.session_laws.proofs.OpenSelections.{OpenSelection}
use Rattle.session_laws.proofs.Holds.{Holds}
use Rattle.runs.proofs.Trace.{session-snoc}
use Rattle.runs.proofs.Calls.{After}
use Rattle.totals.specs.Counts.{reached, tuples_of, reports_of, times, finishing}
use Rattle.totals.specs.Totals.{finished_by}
use Rattle.totals.proofs.Brought.{reached-brought}

-- ---- in a session

none_below : {A : Type 0} (f : A → ℕ) (n k : ℕ) → n ≤ k → (xs : List A) → All (λ (x : A). f x < n) xs → length (passing (λ x. eqb (f x) k) xs) ≡ 0
none_below f n k h xs a =
    ap length (passing-none (λ x. eqb (f x) k) xs (All-weaken _ (λ x. eqb (f x) k ≡ false) (λ x l. ne_eqb (f x) k (λ e. omega (arith, l, e))) xs a))

module _ (w : World) (s : Session) (h : Holds w s) (k : ℕ) (n : length s.defs.ids ≤ k) where
  pub no-tuples : tuples_of k s.state.out.tuples ≡ 0
  unfolding tuples_of
  no-tuples =
      none_below (λ (t : Tuple). t.constraint.number) (length s.defs.ids) k n s.state.out.tuples
      (All-weaken (TupleFit s.defs s.state.count) (λ (t : Tuple). t.constraint.number < length s.defs.ids) (λ t f. f.constraint.defined) s.state.out.tuples h.fine.out.tuples)

  pub no-reports : reports_of k s.state.out.reports ≡ 0
  unfolding reports_of
  no-reports = none_below (λ (r : Report). r.constraint) (length s.defs.ids) k n s.state.out.reports h.fine.out.reports

  defined-at : (x : Selection) → OpenSelection s.state.scopes (length s.state.names) x → x.scope.constraint.number < length s.defs.ids
  defined-at x f =
      let o = All-get_elem (OpenFit s.defs s.state.count (length s.state.names)) s.state.scopes (place_of x.scope.number s.state.scopes) f.fit.home h.fine.scopes f.fit.found in
      subst (λ sc. sc.constraint.number < length s.defs.ids) f.fit.scope o.scope.constraint.defined

  numbers-known : (e : Event) → All (λ (m : ℕ). m < length s.defs.ids) (finishing s.state e)
  unfolding finishing
  numbers-known (es q) = tt
  numbers-known (ee q) =
      let ends : List Selection = passing (λ (x : Selection). eqb x.depth (length s.state.names)) s.state.selections in
      All-mapped (λ (m : ℕ). m < length s.defs.ids) (λ (x : Selection). OpenSelection s.state.scopes (length s.state.names) x × (eqb x.depth (length s.state.names) ≡ true)) (λ (x : Selection). x.scope.constraint.number)
      (λ x f. defined-at x f.0) ends (All-passing (OpenSelection s.state.scopes (length s.state.names)) (λ (x : Selection). eqb x.depth (length s.state.names)) s.state.selections h.fine.selections)

  none_came : (r : Rec) → times k (finished_by s r) ≡ 0
  unfolding times finished_by event_of flat_map
  none_came (ID q) = unfold passing in refl
  none_came (NS q) = unfold passing in refl
  none_came (ES q) = rw append-nil (none_below (λ (m : ℕ). m) (length s.defs.ids) k n (finishing s.state _) (numbers-known _))
  none_came (EE q) = rw append-nil (none_below (λ (m : ℕ). m) (length s.defs.ids) k n (finishing s.state _) (numbers-known _))
  none_came FI = unfold passing in refl

-- ---- so in the tree of a run

abbrev pub Unknown : List Rec → Type 0
Unknown rs = (k : ℕ) → length (session_of rs).defs.ids ≤ k → reached k (items [] (tree_of rs)) ≡ 0

bound-many : (b : Bool) (q : NsRecord) (d : Definitions) → length d.ids ≤ length (bind b q d).ids
unfolding bind
bound-many true q d = omega arith
bound-many false q d = omega (arith, bind-length q d.ids)

ids-grow : (s : Session) (r : Rec) → length s.defs.ids ≤ length (next s r).defs.ids
unfolding next define
ids-grow s (ID q) = omega (arith, length-append s.defs.ids (record { id = q; own = [] } ∷ []))
ids-grow s (NS q) = bound-many (eqb q.target 0) q s.defs
ids-grow s (ES q) = omega arith
ids-grow s (EE q) = omega arith
ids-grow s FI = omega arith

module _ (w : World) (rs : List Rec) (a : After w rs) (x : Bytes) (r : Rec) (p : parse x ≡ parsed r) (e : first_of (rows w (session_of rs) r (next (session_of rs) r) x) ≡ none) where
  pub unknown-next : Unknown rs → Unknown (rs ++ (r ∷ []))
  unknown-next u k h =
      let g = ids-grow (session_of rs) r in
      let l : length (session_of rs).defs.ids ≤ k = omega (arith, g, subst (λ (z : Session). length z.defs.ids ≤ k) (session-snoc rs r) h) in
      let b = reached-brought w rs a x r p e k in
      let c = none_came w (session_of rs) a.holds k l r in
      let d = u k l in
      omega (arith, b, c, d)
