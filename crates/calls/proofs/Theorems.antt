-- THE THEOREMS, about every run of the record call: what it leaves is what the calls of `step` leave, so what is proved of these holds of it.
-- Assumes nothing.
use Prim.Native.Nat.{ℕ, ◌+◌, ◌≤◌}
use native.Mathlib.Omega.{arith}
use lib.ListN.{length, take, drop}
use mathlib.Core.Path.{◌≡◌, refl, ap, sym, ◌∙◌, subst}
use mathlib.Core.Bool.{true, false}
use mathlib.Core.List.{List, [], ◌∷◌, ◌++◌, map, append_assoc, append-nil}
use mathlib.Core.Option.{some}
use Rattle.lists.specs.Lists.{passing}
use Rattle.tree.specs.Events.{Scope}
use Rattle.tree.specs.Counts.{ClosedScope, selection, first, second, bears, reports_against}
use Rattle.records.specs.Readers.{Bytes, reads}
use Rattle.records.specs.Refusals.{unfit, unknown_mark, too_long, misframed, not_utf8, bad_byte, over_limit, out_of_place, too_many_events, undefined, unbalanced, bound_twice, definitions_full, too_deep, too_many_scopes, too_many_selections, tuples_full, reports_full}
use Rattle.session_spec.specs.Layout.{read_tu, read_rp, tu_of}
use Rattle.session_spec.specs.Session.{World, areas_fit, Reply, taken, refused, reply_number, step, set_up}
use Rattle.session_spec.specs.Runs.{run_calls, accepted, definition_bytes, stored_reports, tree_of, tree_out, room_of, tree_reply, tree_taken}
use Rattle.session_spec.specs.Former.{former_step, former_calls, SameLengths, SameLeft}
use Rattle.runs.proofs.Claims as claims
use Rattle.runs.proofs.Claims.{Stored}
use Rattle.runs.proofs.Refused as refusals
use Rattle.runs.proofs.Replies as replies
use Rattle.runs.proofs.SameLengths as lengths
use Rattle.runs.proofs.SameLengths.{again}
use Rattle.runs.proofs.SmallerArea as smaller
use Rattle.open_scopes.specs.declared.Scope as scopes
use Rattle.open_scopes.specs.declared.Numbers.{Numbers}
use Rattle.record_places.specs.declared.Refusal.TheVariants.{UnknownMark, TooLong, Misframed, NotUtf8, BadByte, OverLimit}
use Rattle.worlds.specs.declared.SessionRefusal.TheVariants.{OutOfPlace, TooManyEvents, Undefined, Unbalanced, BoundTwice, DefinitionsFull, TooDeep, TooManyScopes, TooManySelections, TuplesFull, ReportsFull}
use Rattle.std.specs.declared.result.Result.TheVariants.{Ok, Err}
use Rattle.worlds.specs.declared.Refused.TheVariants as why
use Rattle.worlds.specs.Replies as code
use Rattle.worlds.specs.Replies.{Taken, Unfit, Input, Session, reply_of}
use Rattle.worlds.specs.Worlds.{world_of}
use Rattle.worlds.specs.declared.Done.{Done}
use Rattle.calls.specs.declared.RunDone.{RunDone}
use Rattle.calls.specs.Calls.{Call, Called, Starts, Fresh}
use Rattle.calls.specs.Runs.{Run, start, call}
use Rattle.calls.specs.Buffers.{frames_of, ran_on, run_frames, handed_on, handed_in}
use Rattle.calls.specs.Running.{Runs}

-- ---- a run of calls is a list of steps

run-snoc : (w : World) (xs : List Bytes) (x : Bytes) → run_calls w (xs ++ (x ∷ [])) ≡ (step (run_calls w xs) x).1
unfolding run_calls
run-snoc w [] x = refl
run-snoc w (y ∷ xs) x = run-snoc (step w y).1 xs x

pub run_is : (begun : World) (xs : List Bytes) (w : World) → Run begun xs w → w ≡ run_calls begun xs
run_is begun xs w (start f) = unfold run_calls in refl
run_is begun xs w (call {xs = ys} {v = v} {x = x} r c) =
    c.leaves ∙ ap (λ (u : World). (step u x).1) (run_is begun ys v r) ∙ sym (run-snoc begun ys x)

fresh_start : (begun : World) (xs : List Bytes) (w : World) → Run begun xs w → Fresh begun
fresh_start begun xs w (start f) = f
fresh_start begun xs w (call {xs = ys} {v = v} r c) = fresh_start begun ys v r

-- a session just set up is five zeros over what is lent
fresh-is : (w : World) → Fresh w → w ≡ again w
unfolding set_up
fresh-is w f = λ i.
    record {
      events = f.events i;
      running = f.running i;
      definitions = f.definitions i;
      tuples = f.tuples i;
      reports = f.reports i;
      definition_store = w.definition_store;
      tuple_store = w.tuple_store;
      report_store = w.report_store;
      names = w.names;
      scopes = w.scopes;
      cells = w.cells;
      path_area = w.path_area;
    }

-- ---- the theorems

-- the used parts of the tuple and report stores, read as records
pub record IsTree (begun : World) (xs : List Bytes) (w : World) : Type 0 where
  pub reports : reads read_rp (take w.reports w.report_store) ≡ some (tree_out (accepted begun xs)).reports
  pub tuples : reads read_tu (take w.tuples w.tuple_store) ≡ some (map tu_of (tree_out (accepted begun xs)).tuples)

module _ (begun : World) (xs : List Bytes) (w : World) (r : Run begun xs w) where
  abbrev fresh : Fresh begun
  fresh = fresh_start begun xs w r

  -- what holds of the calls of `step` from set-up, with these records, holds of the run
  pub as-calls : (P : World → World → Type 0) → P (again begun) (run_calls (again begun) xs) → P begun w
  as-calls P p = subst (P begun) (sym (run_is begun xs w r)) (subst (λ (b : World). P b (run_calls b xs)) (sym (fresh-is begun fresh)) p)

  -- STORES-HOLD: the used bytes of the definition store are those of the accepted records that define, as they were handed in; the used bytes of the tuple
  -- and the report store are the TUs and RPs of what the tree definition gives on the tree of the accepted records. Areas of any length.
  pub stores-hold : Stored begun xs w
  stores-hold =
      as-calls (λ b v. Stored b xs v)
      (claims.stores-hold begun.definition_store begun.tuple_store begun.report_store begun.names begun.scopes begun.cells begun.path_area xs)

  -- RUN-IS-TREE: what a run leaves in the stores is what the tree definition gives on the tree of the accepted records, record for record.
  pub run-is-tree : IsTree begun xs w
  run-is-tree =
      as-calls (λ b v. IsTree b xs v)
      (let t = claims.run-is-tree begun.definition_store begun.tuple_store begun.report_store begun.names begun.scopes begun.cells begun.path_area xs in
      record { reports = t.reports; tuples = t.tuples })

  -- DEMAND 3: of each closed unique or key scope the first count is the second count and the reports against it, together.
  pub demand-3 : (sc : Scope) (c : ClosedScope (tree_of (accepted begun xs)) sc)
      → first sc.constraint.kind (selection (tree_of (accepted begun xs)) sc c)
      ≡ second sc.constraint.kind (selection (tree_of (accepted begun xs)) sc c) + reports_against sc.number (stored_reports w)
  demand-3 =
      as-calls (λ b v. (sc : Scope) (c : ClosedScope (tree_of (accepted b xs)) sc)
      → first sc.constraint.kind (selection (tree_of (accepted b xs)) sc c)
      ≡ second sc.constraint.kind (selection (tree_of (accepted b xs)) sc c) + reports_against sc.number (stored_reports v))
      (claims.demand-3 begun.definition_store begun.tuple_store begun.report_store begun.names begun.scopes begun.cells begun.path_area xs)

  -- EQUAL-COUNTS: the two are equal exactly where no report stands against the scope.
  pub equal-counts : (sc : Scope) (c : ClosedScope (tree_of (accepted begun xs)) sc)
      → (first sc.constraint.kind (selection (tree_of (accepted begun xs)) sc c) ≡ second sc.constraint.kind (selection (tree_of (accepted begun xs)) sc c)
      → reports_against sc.number (stored_reports w) ≡ 0)
      × (reports_against sc.number (stored_reports w) ≡ 0
      → first sc.constraint.kind (selection (tree_of (accepted begun xs)) sc c) ≡ second sc.constraint.kind (selection (tree_of (accepted begun xs)) sc c))
  equal-counts sc c = let h = demand-3 sc c in (λ e. omega arith, λ e. omega arith)

  -- and the reports against it are, record for record, those that the tree definition gives
  pub reports-against : (n : ℕ) → passing (bears n) (stored_reports w) ≡ passing (bears n) (tree_out (accepted begun xs)).reports
  reports-against n =
      as-calls (λ b v. passing (bears n) (stored_reports v) ≡ passing (bears n) (tree_out (accepted b xs)).reports)
      (claims.reports-against begun.definition_store begun.tuple_store begun.report_store begun.names begun.scopes begun.cells begun.path_area xs n)

  -- ACCEPTED-ARE: with areas long enough the accepted records are those taken on the tree; nothing that a call does stands on the right.
  pub accepted-are : areas_fit begun ≡ true → accepted begun xs ≡ tree_taken (room_of begun) 0 [] xs
  accepted-are =
      as-calls (λ b v. areas_fit b ≡ true → accepted b xs ≡ tree_taken (room_of b) 0 [] xs)
      (λ a. replies.accepted-are begun.definition_store begun.tuple_store begun.report_store begun.names begun.scopes begun.cells begun.path_area a xs)

  module _ (x : Bytes) (reply : code.Reply) (after : World) (c : Call w x reply after) where
    -- REPLIES-ARE: with areas long enough every call of a run is answered as it is on the tree.
    pub replies-are : areas_fit begun ≡ true → reply_of reply ≡ tree_reply (room_of begun) (length (definition_bytes begun xs)) (accepted begun xs) x
    replies-are a =
        c.replies
        ∙ as-calls (λ b v. areas_fit b ≡ true → (step v x).0 ≡ tree_reply (room_of b) (length (definition_bytes b xs)) (accepted b xs) x)
        (λ e. replies.replies-are begun.definition_store begun.tuple_store begun.report_store begun.names begun.scopes begun.cells begun.path_area e xs x) a

    -- NO-TEN: none of them answers 10.
    pub no-ten : areas_fit begun ≡ true → reply_number (reply_of reply) ≡ 10 → ⊥
    no-ten a e =
        as-calls (λ b v. areas_fit b ≡ true → reply_number (step v x).0 ≡ 10 → ⊥)
        (λ f. refusals.no-ten begun.definition_store begun.tuple_store begun.report_store begun.names begun.scopes begun.cells begun.path_area f xs x) a
        (ap reply_number (sym c.replies) ∙ e)

    -- ALWAYS-TEN: with an area too short every call does.
    pub always-ten : areas_fit begun ≡ false → reply_number (reply_of reply) ≡ 10
    always-ten a =
        ap reply_number c.replies
        ∙ as-calls (λ b v. areas_fit b ≡ false → reply_number (step v x).0 ≡ 10)
        (λ f. refusals.always-ten begun.definition_store begun.tuple_store begun.report_store begun.names begun.scopes begun.cells begun.path_area f xs x) a

-- REFUSED-KEEPS: a call that refuses leaves everything as it was, in a run or not.
pub refused-keeps : (before : World) (rec : Bytes) (reply : code.Reply) (after : World) → Call before rec reply after → (reply ≡ Taken → ⊥) → after ≡ before
refused-keeps before rec (Ok x) after c n = absurd (n refl)
refused-keeps before rec (Err why.Unfit) after c n = c.leaves ∙ refusals.refused-keeps before rec _ (sym c.replies)
refused-keeps before rec (Err (why.Input x)) after c n = c.leaves ∙ refusals.refused-keeps before rec _ (sym c.replies)
refused-keeps before rec (Err (why.Session x)) after c n = c.leaves ∙ refusals.refused-keeps before rec _ (sym c.replies)

-- ---- two runs of the same records, over other stores and areas of the same lengths, whatever these hold

module _ (begun : World) (xs : List Bytes) (w : World) (r : Run begun xs w) where
  module _ (other v : World) (q : Run other xs v) (l : SameLengths begun other) (p : begun.path_area ≡ other.path_area) where
    -- two worlds that the calls lead to, in place of those that the runs have
    as-both : (P : World → World → Type 0) → P (run_calls (again begun) xs) (run_calls (again other) xs) → P w v
    as-both P z = as-calls begun xs w r (λ b u. P u v) (as-calls other xs v q (λ b u. P (run_calls (again begun) xs) u) z)

    areas-alike : areas_fit (again begun) ≡ areas_fit (again other)
    unfolding areas_fit set_up
    areas-alike = rw (p, l.scopes, l.names, l.cells)

    -- SAME-LENGTHS: both leave the same numbers, and the same used bytes in the stores.
    pub same-lengths : SameLeft w v
    same-lengths = as-both SameLeft (lengths.same-lengths begun other l areas-alike xs)

    -- SAME-REPLIES: one more record is answered alike by both.
    pub same-replies : (x : Bytes) (reply reply' : code.Reply) (after after' : World) → Call w x reply after → Call v x reply' after' → reply_of reply ≡ reply_of reply'
    same-replies x reply reply' after after' c d =
        c.replies
        ∙ as-both (λ a b. (step a x).0 ≡ (step b x).0) (lengths.same-replies begun other l areas-alike xs x)
        ∙ sym d.replies

  module _ (former : World) (f : Fresh former) (l : SameLengths begun former) (enough : 1024 ≤ begun.path_area) (long : 16384 ≤ former.path_area) where
    -- the run and the former session, by the worlds that the calls lead to
    as-former : (P : World → World → Type 0) → P (run_calls (again begun) xs) (former_calls (again former) xs) → P w (former_calls former xs)
    as-former P z =
        as-calls begun xs w r (λ b u. P u (former_calls former xs)) (subst (λ (b : World). P (run_calls (again begun) xs) (former_calls b xs)) (sym (fresh-is former f)) z)

    -- SMALLER-AREA: with 1,024 bytes of path area a run leaves what the session left that asked for 16,384 and had them: the numbers and the used bytes of
    -- the stores, so tuples and reports.
    pub smaller-area : SameLeft w (former_calls former xs)
    smaller-area = as-former SameLeft (smaller.smaller-area begun former l enough long xs)

    -- SMALLER-REPLIES: and one more record is answered as it was by that session.
    pub smaller-replies : (x : Bytes) (reply : code.Reply) (after : World) → Call w x reply after → reply_of reply ≡ (former_step (former_calls former xs) x).0
    smaller-replies x reply after c =
        c.replies ∙ as-former (λ a b. (step a x).0 ≡ (former_step b x).0) (smaller.smaller-replies begun former l enough long xs x)

-- ---- calls by `step` alone

-- each reply is one of the code's
code_of : (r : Reply) → (c : code.Reply) × (reply_of c ≡ r)
code_of taken = (Taken, refl)
code_of (refused unfit) = (Unfit, refl)
code_of (refused unknown_mark) = (Input UnknownMark, refl)
code_of (refused too_long) = (Input TooLong, refl)
code_of (refused misframed) = (Input Misframed, refl)
code_of (refused not_utf8) = (Input NotUtf8, refl)
code_of (refused bad_byte) = (Input BadByte, refl)
code_of (refused over_limit) = (Input OverLimit, refl)
code_of (refused out_of_place) = (Session OutOfPlace, refl)
code_of (refused too_many_events) = (Session TooManyEvents, refl)
code_of (refused undefined) = (Session Undefined, refl)
code_of (refused unbalanced) = (Session Unbalanced, refl)
code_of (refused bound_twice) = (Session BoundTwice, refl)
code_of (refused definitions_full) = (Session DefinitionsFull, refl)
code_of (refused too_deep) = (Session TooDeep, refl)
code_of (refused too_many_scopes) = (Session TooManyScopes, refl)
code_of (refused too_many_selections) = (Session TooManySelections, refl)
code_of (refused tuples_full) = (Session TuplesFull, refl)
code_of (refused reports_full) = (Session ReportsFull, refl)

-- what `step` does is a call
pub step_call : (before : World) (rec : Bytes) → (reply : code.Reply) × Call before rec reply (step before rec).1
step_call before rec = let c = code_of (step before rec).0 in (c.0, record { replies = c.1; leaves = refl })

-- A RUN OVER A BUFFER is a run: the frames that are handed in are its calls, so the theorems are about it too.
pub buffer-run : (begun : World) (xs : List Bytes) (w : World) → Run begun xs w → (fs : List Bytes) → Run begun (xs ++ handed_in w fs) (run_frames w fs).world
unfolding run_frames ran_on handed_in handed_on
buffer-run begun xs w r [] = subst (λ (l : List Bytes). Run begun l w) (sym (append-nil xs)) r
buffer-run begun xs w r (x ∷ fs) = by (step w x) refl (λ (v : World) (q : Run begun (xs ++ (x ∷ [])) v). buffer-run begun (xs ++ (x ∷ [])) v q fs)
  where
    by : (o : Reply × World) → step w x ≡ o → ((v : World) → Run begun (xs ++ (x ∷ [])) v → Run begun ((xs ++ (x ∷ [])) ++ handed_in v fs) (run_frames v fs).world)
        → Run begun (xs ++ (x ∷ handed_on o (λ v. handed_in v fs))) (ran_on o (length x) (λ v. run_frames v fs)).world
    by (taken, v) e more =
        subst (λ (l : List Bytes). Run begun l (run_frames v fs).world) (append_assoc xs (x ∷ []) (handed_in v fs))
        (more v (subst (λ (o : Reply × World). Run begun (xs ++ (x ∷ [])) o.1) e (call r (step_call w x).1)))
    by (refused c, v) e more = subst (λ (o : Reply × World). Run begun (xs ++ (x ∷ [])) o.1) e (call r (step_call w x).1)

-- ---- the calls over what is lent go on with a run

-- a session just set up, whatever is lent
pub starts-run : (n : Numbers) (list : List scopes.Scope) (paths : ℕ) (defs tuples reports names cells : Bytes) → Starts n
    → Run (world_of n list paths defs tuples reports names cells) [] (world_of n list paths defs tuples reports names cells)
starts-run n list paths defs tuples reports names cells s = start s

module _ (n : Numbers) (list : List scopes.Scope) (defs tuples reports paths names cells defs' tuples' reports' paths' names' cells' : Bytes) where
  abbrev lent : World
  lent = world_of n list (length paths) defs tuples reports names cells

  abbrev left : Numbers → List scopes.Scope → ℕ → World
  left n' list' size = world_of n' list' size defs' tuples' reports' names' cells'

  -- the path area keeps its length
  called-left : (rec : Bytes) (d : Done) → Called n list rec defs tuples reports paths names cells d defs' tuples' reports' paths' names' cells'
      → left d.numbers d.list (length paths) ≡ left d.numbers d.list (length paths')
  called-left rec d c = ap (λ (k : ℕ). left d.numbers d.list k) (sym c.area.size)

  ran-left : (buffer : Bytes) (d : RunDone) → Runs n list buffer defs tuples reports paths names cells d defs' tuples' reports' paths' names' cells'
      → left d.last.numbers d.last.list (length paths) ≡ left d.last.numbers d.last.list (length paths')
  ran-left buffer d c = ap (λ (k : ℕ). left d.last.numbers d.last.list k) (sym c.size)

  -- and all behind its first 1,024 bytes
  pub called-behind : (rec : Bytes) (d : Done) → Called n list rec defs tuples reports paths names cells d defs' tuples' reports' paths' names' cells' → drop 1024 paths' ≡ drop 1024 paths
  called-behind rec d c = c.area.behind

  pub ran-behind : (buffer : Bytes) (d : RunDone) → Runs n list buffer defs tuples reports paths names cells d defs' tuples' reports' paths' names' cells' → drop 1024 paths' ≡ drop 1024 paths
  ran-behind buffer d c = c.behind

  module _ (begun : World) (xs : List Bytes) (r : Run begun xs lent) where
    -- A RECORD CALL over what a run has left is one call more.
    pub called-run : (rec : Bytes) (d : Done) → Called n list rec defs tuples reports paths names cells d defs' tuples' reports' paths' names' cells'
        → Run begun (xs ++ (rec ∷ [])) (world_of d.numbers d.list (length paths') defs' tuples' reports' names' cells')
    called-run rec d c = subst (Run begun (xs ++ (rec ∷ []))) (called-left rec d c) (call r c.calls)

    -- A RUN OVER A BUFFER, over what a run has left, is a call more for each frame that is handed in.
    pub ran-run : (buffer : Bytes) (d : RunDone) → Runs n list buffer defs tuples reports paths names cells d defs' tuples' reports' paths' names' cells'
        → Run begun (xs ++ handed_in lent (frames_of buffer)) (world_of d.last.numbers d.last.list (length paths') defs' tuples' reports' names' cells')
    ran-run buffer d c =
        subst (Run begun (xs ++ handed_in lent (frames_of buffer))) (sym c.leaves ∙ ran-left buffer d c) (buffer-run begun xs lent r (frames_of buffer))
