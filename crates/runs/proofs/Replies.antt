-- `replies-are`: every reply of a run is the one that the tree gives (`tree_reply`); `accepted-are`: so the accepted records are those taken on the tree.
-- Row by row the two lists of refusals have equal tests, as long as no earlier row has decided: the open names, scopes and selections are those of the
-- tree, and the used lengths those of what it has put out.
-- Assumes nothing.
use Prim.Native.Nat.{ℕ, ◌+◌, ◌*◌}
use native.Mathlib.Nat.{zero-add}
use native.Mathlib.Omega.{arith}
use lib.Dec.{leb, ltb}
use lib.ListN.{length, drop, length-append}
use lib.Seq.{drop-append_seam}
use mathlib.Core.Path.{◌≡◌, refl, ap, sym, ◌∙◌, subst}
use mathlib.Core.Bool.{Bool, true, false, ◌&&◌, ◌||◌}
use mathlib.Core.List.{List, [], ◌∷◌, ◌++◌, flat_map}
use mathlib.Core.Option.{Option, none, some}
use Rattle.lists.proofs.Lists.{flat_map-append}
use Rattle.tree.specs.Judge.{Tuple, Report, Out}
use Rattle.tree.specs.Build.{build, begun}
use Rattle.tree.specs.Open.{open_elements, open_scopes, open_selections}
use Rattle.machine.specs.Machine.{State, start_a, end_open, end_if, end_a, run, finish_a}
use Rattle.machine.proofs.StateOf.{state_of}
use Rattle.machine.proofs.Opened.{tree-elements, tree-scopes, tree-selections}
use Rattle.machine.proofs.Longer.{Longer, still, judge-all-longer, finish-longer}
use Rattle.records.specs.Readers.{Bytes}
use Rattle.records.specs.Refusals.{Refusal, Row, first_of, out_of_place, too_many_events, undefined, unbalanced, bound_twice, definitions_full, too_deep, too_many_scopes, too_many_selections, tuples_full, reports_full}
use Rattle.records.specs.Records.{Rec, ID, NS, ES, EE, FI, Parsed, unparsed, parsed, parse}
use Rattle.session_spec.specs.Definitions.{is_undefined, is_bound, too_many_defined, is_definition, defined_at}
use Rattle.session_spec.specs.Layout.{put_tu, put_rp, ScopeRecord}
use Rattle.session_spec.specs.Session.{World, Stage, before, during, done, Session, tick, next, new_tuples, new_reports, tuple_bytes, report_bytes, misplaced, is_unbalanced, rows, Reply, settled, considered, step, set_up, areas_fit}
use Rattle.session_spec.specs.Runs.{session_of, run_calls, taken_of, accepted, defining_bytes, definition_bytes, definitions_of, defined_in, events_of, tree_of, tree_out, Room, room_of, tree_rows, answered, tree_answer, tree_reply, tree_taken}
use Rattle.runs.proofs.Trace.{machine, Traced, Trace, trace-next}
use Rattle.runs.proofs.Calls.{Sized, After, sized, step_is, step_after, step_kept, after_run, kept_run}
use Rattle.session_laws.proofs.Holds.{areas-are}
use Rattle.runs.proofs.Claims.{out-traced, as-tree}
use Rattle.session_laws.proofs.Stores.{reports-size}

-- ---- rows, one after another

alike : (p q : Bool) (c : Refusal) (xs ys : List Row) → p ≡ q → (p ≡ false → first_of xs ≡ first_of ys) → first_of ((p, c) ∷ xs) ≡ first_of ((q, c) ∷ ys)
unfolding first_of
alike true q c xs ys e f = rw (← e)
alike false q c xs ys e f = rw (← e) (f refl)

-- ---- what is open

record Open (rs : List Rec) (st : State) : Type 0 where
  names : length st.names ≡ open_elements (tree_of rs)
  scopes : length st.scopes ≡ open_scopes (tree_of rs)
  selections : length st.selections ≡ open_selections [] (tree_of rs)

machine-open : (rs : List Rec) → Open rs (machine rs)
unfolding tree_of state_of
machine-open rs =
    let defs = defined_at (definitions_of rs) in
    let k : ℕ = defined_in rs in
    let xs = events_of rs in
    let e : machine rs ≡ state_of (build defs (begun k) xs) = as-tree defs k xs in
    record {
      names = ap (λ (x : State). length x.names) e ∙ sym (tree-elements defs k xs);
      scopes = ap (λ (x : State). length x.scopes) e ∙ sym (tree-scopes defs k xs);
      selections = ap (λ (x : State). length x.selections) e ∙ sym (tree-selections defs k xs);
    }

-- FI leaves it as it is
finished_open : (rs : List Rec) (m : State) → Open rs m → Open rs (finish_a m)
unfolding finish_a
finished_open rs m o = record { names = o.names; scopes = o.scopes; selections = o.selections }

traced-open : (g : Stage) (rs : List Rec) (st : State) → Traced g rs st → Open rs st
traced-open before rs st t = subst (Open rs) (sym t.0) (machine-open rs)
traced-open during rs st t = subst (Open rs) (sym t.0) (machine-open rs)
traced-open done rs st t = subst (Open rs) (sym t.0) (finished_open rs (machine rs) (machine-open rs))

-- ---- what is put out

end-longer : (names : List _) (st : State) (e : _) → Longer st.out (end_if names st e).out
unfolding end_if end_open
end-longer [] st e = still st.out
end-longer (n ∷ ns) st e = judge-all-longer st.out _

next-longer : (s : Session) (r : Rec) → Longer s.state.out (next s r).state.out
unfolding next tick start_a end_a finish_a
next-longer s (ID r) = still s.state.out
next-longer s (NS r) = still s.state.out
next-longer s (ES r) = judge-all-longer s.state.out _
next-longer s (EE r) = end-longer s.state.names s.state _
next-longer s FI = finish-longer _ s.state.out

-- the used bytes and the new ones are all
tuples-all : (w : World) (s t : Session) → Sized w s.state.out → Longer s.state.out t.state.out → w.tuples + length (tuple_bytes s t) ≡ length (flat_map put_tu t.state.out.tuples)
unfolding tuple_bytes new_tuples
tuples-all w s t z l =
    let old : List Tuple = s.state.out.tuples in
    let e : drop (length old) t.state.out.tuples ≡ l.new_tuples = ap (drop (length old)) l.tuples ∙ drop-append_seam old l.new_tuples in
    let a : length (flat_map put_tu (drop (length old) t.state.out.tuples)) ≡ length (flat_map put_tu l.new_tuples) = ap (λ (x : List Tuple). length (flat_map put_tu x)) e in
    let b : length (flat_map put_tu t.state.out.tuples) ≡ length (flat_map put_tu old ++ flat_map put_tu l.new_tuples) =
    ap (λ (x : List Tuple). length (flat_map put_tu x)) l.tuples ∙ ap length (flat_map-append put_tu old l.new_tuples) in
    let c = length-append (flat_map put_tu old) (flat_map put_tu l.new_tuples) in
    let d = z.tuples in
    omega arith

reports-all : (w : World) (s t : Session) → Sized w s.state.out → Longer s.state.out t.state.out → w.reports + length (report_bytes s t) ≡ length (flat_map put_rp t.state.out.reports)
unfolding report_bytes new_reports
reports-all w s t z l =
    let old : List Report = s.state.out.reports in
    let e : drop (length old) t.state.out.reports ≡ l.new_reports = ap (drop (length old)) l.reports ∙ drop-append_seam old l.new_reports in
    let a : length (flat_map put_rp (drop (length old) t.state.out.reports)) ≡ length (flat_map put_rp l.new_reports) = ap (λ (x : List Report). length (flat_map put_rp x)) e in
    let b : length (flat_map put_rp t.state.out.reports) ≡ length (flat_map put_rp old ++ flat_map put_rp l.new_reports) =
    ap (λ (x : List Report). length (flat_map put_rp x)) l.reports ∙ ap length (flat_map-append put_rp old l.new_reports) in
    let c = length-append (flat_map put_rp old) (flat_map put_rp l.new_reports) in
    let d = z.reports in
    omega arith

-- ---- the rows

module _ (v w : World) (rs : List Rec) (kept : ℕ) (a : After w rs) (room : room_of w ≡ room_of v) (used : w.definitions ≡ kept) (r : Rec) (x : Bytes) where
  abbrev s : Session
  s = session_of rs

  abbrev t : Session
  t = next s r

  abbrev after : List Rec
  after = rs ++ (r ∷ [])

  -- 18
  full-alike : (too_many_defined r s.defs || (is_definition r && ltb (length w.definition_store) (w.definitions + length x)))
      ≡ (too_many_defined r (definitions_of rs) || (is_definition r && ltb (room_of v).definitions (kept + length x)))
  full-alike =
      let d : length w.definition_store ≡ (room_of v).definitions = unfold room_of in ap (λ (q : Room). q.definitions) room in
      ap (λ y. too_many_defined r y || (is_definition r && ltb (length w.definition_store) (w.definitions + length x))) a.trace.defs
      ∙ ap (λ (n : ℕ). too_many_defined r (definitions_of rs) || (is_definition r && ltb n (w.definitions + length x))) d
      ∙ ap (λ (n : ℕ). too_many_defined r (definitions_of rs) || (is_definition r && ltb (room_of v).definitions (n + length x))) used

  -- 14, 15 and 16 look at the tree with this record, where neither 11 nor 13 stands against it
  module _ (m : misplaced s.stage r ≡ false) (u : is_unbalanced (length s.state.names) r ≡ false) where
    goes : Trace after t
    goes = trace-next rs s r a.trace m u

    opens : Open after t.state
    opens = traced-open t.stage after t.state goes.traced

    out : t.state.out ≡ tree_out after
    out = out-traced t.stage after t.state goes.traced goes.counted

    tuples-alike : ltb (length w.tuple_store) (w.tuples + length (tuple_bytes s t)) ≡ ltb (room_of v).tuples (length (flat_map put_tu (tree_out after).tuples))
    tuples-alike =
        let d : length w.tuple_store ≡ (room_of v).tuples = unfold room_of in ap (λ (q : Room). q.tuples) room in
        ap (λ (n : ℕ). ltb n (w.tuples + length (tuple_bytes s t))) d
        ∙ ap (λ (n : ℕ). ltb (room_of v).tuples n) (tuples-all w s t (sized w rs a) (next-longer s r) ∙ ap (λ (o : Out). length (flat_map put_tu o.tuples)) out)

    reports-alike : ltb (length w.report_store) (w.reports + length (report_bytes s t)) ≡ ltb (room_of v).reports (18 * length (tree_out after).reports)
    reports-alike =
        let d : length w.report_store ≡ (room_of v).reports = unfold room_of in ap (λ (q : Room). q.reports) room in
        ap (λ (n : ℕ). ltb n (w.reports + length (report_bytes s t))) d
        ∙ ap (λ (n : ℕ). ltb (room_of v).reports n)
        (reports-all w s t (sized w rs a) (next-longer s r) ∙ reports-size t.state.out.reports
        ∙ ap (λ (o : Out). 18 * length o.reports) out)

  rows_alike : first_of (rows w s r t x) ≡ first_of (tree_rows (room_of v) kept rs r x)
  unfolding rows tree_rows
  rows_alike =
      let now = traced-open s.stage rs s.state a.trace.traced in
      alike _ _ out_of_place _ _ (ap (λ (g : Stage). misplaced g r) a.trace.staged) (λ m.
      alike _ _ too_many_events _ _ (ap (λ (n : ℕ). leb 1000000 n) a.trace.counted) (λ _.
      alike _ _ undefined _ _ (ap (is_undefined r) a.trace.defs) (λ _.
      alike _ _ unbalanced _ _ (ap (λ (n : ℕ). is_unbalanced n r) now.names) (λ u.
      alike _ _ bound_twice _ _ (ap (is_bound r) a.trace.defs) (λ _.
      alike _ _ definitions_full _ _ full-alike (λ _.
      alike _ _ too_deep _ _ (ap (λ (n : ℕ). ltb 64 n) (opens m u).names) (λ _.
      alike _ _ too_many_scopes _ _ (ap (λ (n : ℕ). ltb 16 n) (opens m u).scopes) (λ _.
      alike _ _ too_many_selections _ _ (ap (λ (n : ℕ). ltb 32 n) (opens m u).selections) (λ _.
      alike _ _ tuples_full _ _ (tuples-alike m u) (λ _.
      alike _ _ reports_full _ _ (reports-alike m u) (λ _. refl)))))))))))

-- ---- the replies

settled-reply : (w : World) (s : Session) (r : Rec) (t : Session) (bs : Bytes) (o : Option Refusal) → (settled w s r t bs o).0 ≡ answered o
unfolding settled answered
settled-reply w s r t bs none = refl
settled-reply w s r t bs (some c) = refl

reply-is : (v w : World) (rs : List Rec) (kept : ℕ) → After w rs → room_of w ≡ room_of v → w.definitions ≡ kept → (x : Bytes) → (step w x).0 ≡ tree_reply (room_of v) kept rs x
unfolding tree_reply
reply-is v w rs kept a room used x = ap (λ (q : Reply × World). q.0) (step_is w rs a x) ∙ by (parse x)
  where
    by : (p : Parsed) → (considered w (session_of rs) x p).0 ≡ tree_answer (room_of v) kept rs x p
    by (unparsed c) = unfold considered tree_answer in refl
    by (parsed r) =
        unfold considered tree_answer in
        (settled-reply w (session_of rs) r (next (session_of rs) r) x (first_of (rows w (session_of rs) r (next (session_of rs) r) x))
        ∙ ap answered (rows_alike v w rs kept a room used r x))

-- EVERY REPLY OF A RUN IS THE TREE'S, over stores of any length and areas that are long enough.
pub replies-are : (ds ts rs na : Bytes) (ss : List ScopeRecord) (cs : Bytes) (ps : ℕ) → areas_fit (set_up ds ts rs na ss cs ps) ≡ true → (xs : List Bytes) (x : Bytes)
    → (step (run_calls (set_up ds ts rs na ss cs ps) xs) x).0
    ≡ tree_reply (room_of (set_up ds ts rs na ss cs ps)) (length (definition_bytes (set_up ds ts rs na ss cs ps) xs)) (accepted (set_up ds ts rs na ss cs ps) xs) x
replies-are ds ts rs na ss cs ps f xs x =
    let v : World = set_up ds ts rs na ss cs ps in
    let a = areas-are v f in
    let k = kept_run ds ts rs na ss cs ps a xs in
    reply-is v (run_calls v xs) (accepted v xs) (length (definition_bytes v xs)) (after_run ds ts rs na ss cs ps a xs) k.room
    (k.used ∙ (unfold set_up in zero-add (length (definition_bytes v xs)))) x

-- ---- which records are accepted

accepted-is : (v w : World) (rs : List Rec) (kept : ℕ) → After w rs → room_of w ≡ room_of v → w.definitions ≡ kept → (xs : List Bytes)
    → accepted w xs ≡ tree_taken (room_of v) kept rs xs
unfolding accepted tree_taken
accepted-is v w rs kept a room used [] = refl
accepted-is v w rs kept a room used (x ∷ xs) =
    let k = step_kept w rs a x in
    let more : Bytes = defining_bytes (step w x).0 (parse x) x in
    rw (← (reply-is v w rs kept a room used x))
    (ap (λ (l : List Rec). taken_of (step w x).0 (parse x) ++ l)
    (accepted-is v (step w x).1 (rs ++ taken_of (step w x).0 (parse x)) (kept + length more) (step_after w rs a x) (k.room ∙ room)
    (k.used ∙ ap (λ (n : ℕ). n + length more) used) xs))

-- THE RECORDS THAT A RUN ACCEPTS ARE THOSE TAKEN ON THE TREE: nothing that `step` does stands on the right.
pub accepted-are : (ds ts rs na : Bytes) (ss : List ScopeRecord) (cs : Bytes) (ps : ℕ) → areas_fit (set_up ds ts rs na ss cs ps) ≡ true → (xs : List Bytes)
    → accepted (set_up ds ts rs na ss cs ps) xs ≡ tree_taken (room_of (set_up ds ts rs na ss cs ps)) 0 [] xs
accepted-are ds ts rs na ss cs ps f xs =
    let v : World = set_up ds ts rs na ss cs ps in
    accepted-is v v [] 0 (unfold run_calls accepted in after_run ds ts rs na ss cs ps (areas-are v f) []) refl (unfold set_up in refl) xs
