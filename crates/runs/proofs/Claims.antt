-- THE CLAIMS about a whole run: any list of calls of `step` from a session just set up, over stores and areas of any length and content. What the stores
-- hold is read off the session of the accepted records, whose state is the streaming machine's, and that machine puts out what the tree definition says.
-- Assumes nothing.
use Prim.Native.Nat.{ℕ, suc, ◌+◌}
use native.Mathlib.Omega.{arith}
use lib.ListN.{length, take}
use mathlib.Core.Path.{◌≡◌, refl, ap, sym, ◌∙◌, subst}
use mathlib.Core.Bool.{Bool, true, false, false≢true}
use mathlib.Core.List.{List, [], ◌∷◌, map, flat_map}
use mathlib.Core.Option.{some}
use Rattle.lists.specs.Lists.{any, passing, foldl}
use Rattle.tree.specs.Events.{Event, Defined, Scope}
use Rattle.tree.specs.Tree.{items}
use Rattle.tree.specs.Judge.{Out, blank, judge_all}
use Rattle.tree.specs.Build.{◌⊕◌, plug_with, plug, build, begun, tree}
use Rattle.tree.specs.Counts.{first, second, bears, reports_against, ClosedScope, selection}
use Rattle.machine.specs.Machine.{State, initial, run, finish_a}
use Rattle.machine.proofs.StateOf.{path_to, scopes_at, sels_at, state_of}
use Rattle.machine.proofs.Simulate.{run-simulated, streamed, streamed-finished}
use Rattle.machine.proofs.Demand.{demand, demand-finished}
use Rattle.records.specs.Readers.{Bytes, reads}
use Rattle.records.specs.Records.{Rec}
use Rattle.session_spec.specs.Definitions.{or_none, defined_at}
use Rattle.session_spec.specs.Layout.{tu_of, read_tu, put_tu, read_rp, put_rp, ScopeRecord}
use Rattle.session_spec.specs.Session.{World, Stage, before, during, done, Session, areas_fit, decode, set_up}
use Rattle.session_spec.specs.Runs.{new_session, session_of, run_calls, accepted, definition_bytes, stored_reports, definitions_of, defined_in, events_of, is_finish, tree_of, tree_out}
use Rattle.session_laws.proofs.Stores.{tuples-back, reports-back}
use Rattle.session_laws.proofs.Holds.{areas-are, decoded}
use Rattle.runs.proofs.Trace.{machine, Traced, Trace, new-trace}
use Rattle.runs.proofs.Calls.{Sized, After, sized, after_run, kept_run}
use Rattle.runs.proofs.Refused.{short-run}

-- ---- what the session has put out is what the tree definition says

module _ (rs : List Rec) where
  told-during : (st : State) → st ≡ machine rs → any is_finish rs ≡ false → st.out ≡ tree_out rs
  unfolding tree_out tree_of
  told-during st e f = ap (λ (x : State). x.out) e ∙ rw f (streamed (defined_at (definitions_of rs)) (defined_in rs) (events_of rs))

  told-done : (st : State) → st ≡ finish_a (machine rs) → st.events ≡ length rs
      → any is_finish rs ≡ true → st.out ≡ tree_out rs
  unfolding tree_out tree_of
  told-done st e n f =
      let m : suc (machine rs).events ≡ length rs = unfold finish_a in (sym (ap (λ (x : State). x.events) e) ∙ n) in
      ap (λ (x : State). x.out) e ∙ streamed-finished (defined_at (definitions_of rs)) (defined_in rs) (events_of rs) ∙ rw (m, f)

pub out-traced : (g : Stage) (rs : List Rec) (st : State) → Traced g rs st → st.events ≡ length rs → st.out ≡ tree_out rs
out-traced before rs st t n = told-during rs st t.0 t.2
out-traced during rs st t n = told-during rs st t.0 t.1
out-traced done rs st t n = told-done rs st t.0 n t.1

pub out-tree : (w : World) (rs : List Rec) → After w rs → (session_of rs).state.out ≡ tree_out rs
out-tree w rs a = out-traced (session_of rs).stage rs (session_of rs).state a.trace.traced a.trace.counted

nothing-out : tree_out [] ≡ blank
unfolding tree_out tree_of tree build plug plug_with ◌⊕◌ events_of flat_map items judge_all
nothing-out = refl

-- ---- the counts, over the tree of `rs`

abbrev Balanced : List Rec → Type 0
Balanced rs =
    (sc : Scope) (c : ClosedScope (tree_of rs) sc)
    → first sc.constraint.kind (selection (tree_of rs) sc c) ≡ second sc.constraint.kind (selection (tree_of rs) sc c) + reports_against sc.number (tree_out rs).reports

balance : (rs : List Rec) (sc : Scope) (c : ClosedScope (tree_of rs) sc) (g : Stage) (st : State) → Traced g rs st
    → first sc.constraint.kind (selection (tree_of rs) sc c) ≡ second sc.constraint.kind (selection (tree_of rs) sc c) + reports_against sc.number st.out.reports
unfolding tree_of
balance rs sc c before st t = rw t.0 (demand (defined_at (definitions_of rs)) (defined_in rs) (events_of rs) sc c)
balance rs sc c during st t = rw t.0 (demand (defined_at (definitions_of rs)) (defined_in rs) (events_of rs) sc c)
balance rs sc c done st t = rw t.0 (demand-finished (defined_at (definitions_of rs)) (defined_in rs) (events_of rs) sc c)

balanced : (rs : List Rec) (s : Session) → Trace rs s → Balanced rs
balanced rs s t sc c = rw (← (out-traced s.stage rs s.state t.traced t.counted)) (balance rs sc c s.stage s.state t.traced)

-- ---- THE CLAIMS

-- From `begun` the records `xs` lead to `w`, and the used bytes of its stores are, one behind the other: those of the records that define, as they were
-- handed in; the tuples and the reports that the tree definition gives on the tree of the accepted records, as TU and RP are written.
pub record Stored (begun : World) (xs : List Bytes) (w : World) : Type 0 where
  pub definitions : take w.definitions w.definition_store ≡ definition_bytes begun xs
  pub tuples : take w.tuples w.tuple_store ≡ flat_map put_tu (tree_out (accepted begun xs)).tuples
  pub reports : take w.reports w.report_store ≡ flat_map put_rp (tree_out (accepted begun xs)).reports

-- Those of the last two, read as records, are what the tree definition gives.
pub record IsTree (w : World) (xs : List Bytes) : Type 0 where
  pub reports : reads read_rp (take (run_calls w xs).reports (run_calls w xs).report_store) ≡ some (tree_out (accepted w xs)).reports
  pub tuples : reads read_tu (take (run_calls w xs).tuples (run_calls w xs).tuple_store) ≡ some (map tu_of (tree_out (accepted w xs)).tuples)

module _ (ds ts rs na : Bytes) (ss : List ScopeRecord) (cs : Bytes) (ps : ℕ) where
  abbrev w : World
  w = set_up ds ts rs na ss cs ps

  -- With areas long enough, what the calls leave decodes to the session that the accepted records make.
  pub run-decodes : areas_fit w ≡ true → (xs : List Bytes) → decode (run_calls w xs) ≡ some (session_of (accepted w xs))
  run-decodes a xs = decoded (run_calls w xs) (session_of (accepted w xs)) (after_run ds ts rs na ss cs ps (areas-are w a) xs).holds

  long-holds : areas_fit w ≡ true → (xs : List Bytes) → Stored w xs (run_calls w xs)
  long-holds f xs =
      let a = after_run ds ts rs na ss cs ps (areas-are w f) xs in
      let o = out-tree (run_calls w xs) (accepted w xs) a in
      record {
        definitions = (kept_run ds ts rs na ss cs ps (areas-are w f) xs).bytes ∙ (unfold set_up in refl);
        tuples = a.written.tuples ∙ ap (λ (o : Out). flat_map put_tu o.tuples) o;
        reports = a.written.reports ∙ ap (λ (o : Out). flat_map put_rp o.reports) o;
      }

  short-holds : areas_fit w ≡ false → (xs : List Bytes) → Stored w xs (run_calls w xs)
  short-holds f xs =
      let s = short-run w f xs in
      record {
        definitions = rw (s.0, s.2) (unfold set_up in refl);
        tuples = rw (s.0, s.1, nothing-out) (unfold set_up flat_map in refl);
        reports = rw (s.0, s.1, nothing-out) (unfold set_up flat_map in refl);
      }

  -- THE STORES HOLD THE TREE'S OUTPUT and the definitions, byte for byte, areas of any length.
  pub stores-hold : (xs : List Bytes) → Stored w xs (run_calls w xs)
  stores-hold xs = by (areas_fit w) refl
    where
      by : (f : Bool) → areas_fit w ≡ f → Stored w xs (run_calls w xs)
      by true e = long-holds e xs
      by false e = short-holds e xs

  -- A RUN IS ITS TREE, record for record: what is written is read again.
  pub run-is-tree : (xs : List Bytes) → IsTree w xs
  run-is-tree xs =
      let o : Out = tree_out (accepted w xs) in
      let s = stores-hold xs in
      record { reports = ap (reads read_rp) s.reports ∙ reports-back o.reports; tuples = ap (reads read_tu) s.tuples ∙ tuples-back o.tuples }

  pub record-for-record : (xs : List Bytes) → stored_reports (run_calls w xs) ≡ (tree_out (accepted w xs)).reports
  unfolding stored_reports or_none
  record-for-record xs = rw (run-is-tree xs).reports

  -- so those that bear a scope's number are
  pub reports-against : (xs : List Bytes) (n : ℕ) → passing (bears n) (stored_reports (run_calls w xs)) ≡ passing (bears n) (tree_out (accepted w xs)).reports
  reports-against xs n = ap (passing (bears n)) (record-for-record xs)

  run-balanced : (xs : List Bytes) → Balanced (accepted w xs)
  run-balanced xs = by (areas_fit w) refl
    where
      by : (f : Bool) → areas_fit w ≡ f → Balanced (accepted w xs)
      by true e = balanced (accepted w xs) (session_of (accepted w xs)) (after_run ds ts rs na ss cs ps (areas-are w e) xs).trace
      by false e = subst Balanced (sym (short-run w e xs).1) (balanced [] new_session new-trace)

  -- DEMAND 3. For each closed unique or key scope of the tree of the accepted records, the first count is the second count and the reports against the
  -- scope, read from the bytes of the used report store, together.
  pub demand-3 : (xs : List Bytes) (sc : Scope) (c : ClosedScope (tree_of (accepted w xs)) sc)
      → first sc.constraint.kind (selection (tree_of (accepted w xs)) sc c)
      ≡ second sc.constraint.kind (selection (tree_of (accepted w xs)) sc c) + reports_against sc.number (stored_reports (run_calls w xs))
  demand-3 xs sc c = rw (record-for-record xs) (run-balanced xs sc c)

  -- The two counts are equal exactly where no report stands against the scope.
  pub equal-counts : (xs : List Bytes) (sc : Scope) (c : ClosedScope (tree_of (accepted w xs)) sc)
      → (first sc.constraint.kind (selection (tree_of (accepted w xs)) sc c) ≡ second sc.constraint.kind (selection (tree_of (accepted w xs)) sc c)
      → reports_against sc.number (stored_reports (run_calls w xs)) ≡ 0)
      × (reports_against sc.number (stored_reports (run_calls w xs)) ≡ 0
      → first sc.constraint.kind (selection (tree_of (accepted w xs)) sc c) ≡ second sc.constraint.kind (selection (tree_of (accepted w xs)) sc c))
  equal-counts xs sc c = let h = demand-3 xs sc c in (λ e. omega arith, λ e. omega arith)

-- ---- the refusals speak of the tree

pub as-tree : (defs : ℕ → Defined) (k : ℕ) (xs : List Event) → run defs (initial k) xs ≡ state_of (build defs (begun k) xs)
unfolding state_of plug plug_with path_to scopes_at sels_at ◌⊕◌ items judge_all
as-tree defs k xs = run-simulated defs (begun k) xs

-- Until FI, the state that refusals 13 and 14 look at is the tree's: its open elements, their scopes, their selections.
pub state-of-tree : (rs : List Rec) (g : Stage) (st : State) → Traced g rs st → any is_finish rs ≡ false
    → st ≡ state_of (build (defined_at (definitions_of rs)) (begun (defined_in rs)) (events_of rs))
state-of-tree rs before st t f = t.0 ∙ as-tree (defined_at (definitions_of rs)) (defined_in rs) (events_of rs)
state-of-tree rs during st t f = t.0 ∙ as-tree (defined_at (definitions_of rs)) (defined_in rs) (events_of rs)
state-of-tree rs done st t f = absurd (false≢true (sym f ∙ t.1))

-- And the used lengths, which 15 and 16 look at, are those of the tree's tuples and reports.
pub used-are : (ds ts rs na : Bytes) (ss : List ScopeRecord) (cs : Bytes) (ps : ℕ) → areas_fit (set_up ds ts rs na ss cs ps) ≡ true → (xs : List Bytes)
    → Sized (run_calls (set_up ds ts rs na ss cs ps) xs) (tree_out (accepted (set_up ds ts rs na ss cs ps) xs))
used-are ds ts rs na ss cs ps f xs =
    let w : World = set_up ds ts rs na ss cs ps in
    let a = after_run ds ts rs na ss cs ps (areas-are w f) xs in
    subst (Sized (run_calls w xs)) (out-tree (run_calls w xs) (accepted w xs) a) (sized (run_calls w xs) (accepted w xs) a)
