-- A call on an FI is `step`: what the code tests of the counts and lengths is what the rows of an FI test of the session that the world decodes to, and what it
-- leaves is the world after it.
-- Assumes nothing.
use Prim.Native.Nat.{ℕ, suc, ◌+◌, ◌*◌, ◌-◌, ◌/◌, ◌≤◌, ◌<◌}
use native.Mathlib.Omega.{arith}
use native.Mathlib.Numerals.{add-one}
use borrow.Author.Tests.{le-leb, lt-leb, lt-ltb, le-ltb, eq-eqb, ne_eqb, leb-true, leb-false}
use lib.Dec.{eqb, leb}
use lib.ListN.{length, take, drop, length-map, take-append-drop}
use mathlib.Core.Path.{◌≡◌, ap, sym, ◌∙◌, subst, refl}
use mathlib.Core.Bool.{Bool, true, false}
use mathlib.Core.List.{List, map, flat_map}
use mathlib.Core.Option.{none, some}
use Rattle.lists.specs.Lists.{passing, over}
use Rattle.tree.specs.Judge.{Tuple, Report, kind_fives}
use Rattle.records.specs.Readers.{Bytes}
use Rattle.records.specs.Refusals.{out_of_place, too_many_events, unbalanced, reports_full, first_of}
use Rattle.records.specs.Records.{FI, parsed, parse}
use Rattle.session_spec.specs.Definitions.{frame, is_definition}
use Rattle.session_spec.specs.Layout.{Counts, as_tuple, pack, unpack, put_rp}
use Rattle.session_spec.specs.Session.{World, Session, stage_of, depth_of, stage_number, misplaced, counts_of, decode, step, Reply, taken, refused}
use Rattle.session_laws.proofs.Holds.{Holds, stage-depth, counts-back, defs-read, stage-done}
use Rattle.runs.proofs.WellFormed.{well-formed}
use Rattle.output_stores.specs.Stores.{standing}
use Rattle.open_scopes.specs.declared.Scope.{Scope}
use Rattle.open_scopes.specs.declared.Counts as code
use Rattle.open_scopes.specs.declared.Numbers.{Numbers}
use Rattle.open_scopes.specs.OpenScopes.{record_of}
use Rattle.open_scopes.specs.Counting.{as_counts, packed}
use Rattle.open_scopes.proofs.Counting.{packed-few}
use Rattle.worlds.specs.declared.SessionRefusal.{SessionRefusal}
use Rattle.worlds.specs.declared.SessionRefusal.TheVariants.{OutOfPlace, TooManyEvents, Unbalanced, ReportsFull}
use Rattle.worlds.specs.Replies as reply
use Rattle.worlds.specs.Replies.{because_of_session, refusal}
use Rattle.worlds.specs.Worlds.{world_of}
use Rattle.worlds.specs.declared.Done.{Done}
use Rattle.plans.specs.Plans.{answered, fives, finish_rows, finish_counts, finished_by}
use Rattle.plans.proofs.Steps.{step-fi}
use Rattle.tuple_search.proofs.Records.{Below, front_below}
use Rattle.event_answers.specs.declared.Refs.{Refs}
use Rattle.event_answers.specs.Finishing.{TakesFi, finished_counts}
use Rattle.event_answers.specs.Fives.{RefsOf, is_lacking, fives_in, Written}
use Rattle.finishing.proofs.Walking.{fives-count}
use Rattle.finishing.proofs.Sessions.{fives-are}

-- ---- a part of bytes has bytes

take_below : (k : ℕ) (xs : Bytes) → Below xs → Below (take k xs)
take_below k xs b = front_below (take k xs) (drop k xs) (λ i. rw (take-append-drop k xs) (b i))

-- ---- a world that decodes

module _ (n : Numbers) (defs tuples reports : Bytes) (list : List Scope) (paths : ℕ) (names cells : Bytes) (s : Session) where
  abbrev world : World
  world = world_of n list paths defs tuples reports names cells

  module _ (dec : decode world ≡ some s) where
    -- named so in three modules, of an EE, an ES and an FI: one law for all is handed the facts, and is no plainer
    holds : Holds world s
    holds = well-formed world s dec

    -- what refuses, refuses
    refuses : (q : SessionRefusal) → first_of (finish_rows world s) ≡ some (because_of_session q) → (rec : Bytes) → parse rec ≡ parsed FI
        → ◌≡◌ {A = Reply × World} (refused (because_of_session q), world) (step world rec)
    unfolding answered
    refuses q e rec p = sym (step-fi world rec s dec p ∙ ap (answered world (finished_by world s)) e)

    -- ---- the counts

    module _ (c : code.Counts) (u : as_counts c ≡ unpack n.running) where
      counts-are : as_counts c ≡ counts_of s
      counts-are = u ∙ counts-back world s holds

      stage_is : c.stage ≡ stage_number s.stage (length s.state.names)
      unfolding counts_of
      stage_is = ap (λ (x : Counts). x.stage) counts-are

      out-of-place : misplaced s.stage FI ≡ eqb c.stage 66
      out-of-place = stage-done s.stage FI (length s.state.names) (unfold is_definition in refl) holds.fine.deep ∙ ap (λ (k : ℕ). eqb k 66) (sym stage_is)

      in-place : (c.stage ≡ 66 → ⊥) → misplaced s.stage FI ≡ false
      in-place a = out-of-place ∙ ne_eqb c.stage 66 a

      -- 13: the open elements
      depth_is : depth_of (stage_of c.stage) c.stage ≡ length s.state.names
      depth_is = ap (λ (k : ℕ). depth_of (stage_of k) k) stage_is ∙ stage-depth s.stage s.state holds.stage holds.fine.deep

      -- the counts after the FI
      counts-then : packed (finished_counts c) ≡ pack (finish_counts s)
      unfolding finish_counts counts_of
      counts-then =
          let o : c.opened ≡ s.state.count = ap (λ (x : Counts). x.opened) counts-are in
          sym (packed-few (finished_counts c) (omega (arith, holds.fine.opened, holds.early)))
          ∙ ap (λ (x : Counts). pack (record { stage = 66; scopes = x.scopes; selections = x.selections; opened = x.opened })) counts-are

      row-place : c.stage ≡ 66 → first_of (finish_rows world s) ≡ some out_of_place
      unfolding finish_rows first_of
      row-place a = rw (out-of-place ∙ eq-eqb c.stage 66 a)

      module _ (a : c.stage ≡ 66 → ⊥) where
        row-events : 1000000 ≤ n.events → first_of (finish_rows world s) ≡ some too_many_events
        unfolding finish_rows first_of
        row-events b = rw (in-place a, le-leb 1000000 n.events b)

        module _ (b : n.events < 1000000) where
          row_open : (depth : ℕ) → depth ≡ depth_of (stage_of c.stage) c.stage → 0 < depth → first_of (finish_rows world s) ≡ some unbalanced
          unfolding finish_rows first_of
          row_open depth e k = rw (in-place a, lt-leb 1000000 n.events b, lt-ltb 0 (length s.state.names) (omega (arith, depth_is)))

          module _ (depth : ℕ) (e : depth ≡ depth_of (stage_of c.stage) c.stage) (k : depth ≤ 0) where
            row-full : length reports < n.reports + 18 * length (fives s) → first_of (finish_rows world s) ≡ some reports_full
            unfolding finish_rows first_of
            row-full l =
                rw (
                  in-place a,
                  lt-leb 1000000 n.events b,
                  le-ltb 0 (length s.state.names) (omega (arith, depth_is)),
                  lt-ltb (length reports) (n.reports + 18 * length (fives s)) l,
                )

            rows_none : n.reports + 18 * length (fives s) ≤ length reports → first_of (finish_rows world s) ≡ none
            unfolding finish_rows first_of
            rows_none l =
                rw (
                  in-place a,
                  lt-leb 1000000 n.events b,
                  le-ltb 0 (length s.state.names) (omega (arith, depth_is)),
                  le-ltb (length reports) (n.reports + 18 * length (fives s)) l,
                )

    -- ---- the reports

    module _ (refs : Refs) (r : RefsOf (take n.definitions defs) refs) (below : Below tuples) where
      tus-few : length holds.tus < 4294967296
      tus-few =
          let l : length holds.tus ≡ length s.state.out.tuples = sym (length-map holds.tus (as_tuple s.defs)) ∙ ap length holds.tus_are in
          omega (arith, holds.fine.few, holds.early)

      fives-then : fives_in refs (take n.tuples tuples) (n.events + 1) ≡ fives s
      unfolding fives
      fives-then =
          let e : n.events + 1 ≡ suc s.state.events = omega (arith, holds.events) in
          fives-are s.defs s.state.count refs (r.each s.defs (defs-read world s holds)) (take n.tuples tuples) holds.tus
          (take_below n.tuples tuples below) holds.tuples.read holds.tus_fit (n.events + 1) tus-few
          ∙ ap (λ (k : ℕ). kind_fives k (map (as_tuple s.defs) holds.tus) 0 (map (as_tuple s.defs) holds.tus)) e
          ∙ ap (λ (ts : List Tuple). kind_fives (suc s.state.events) ts 0 ts) holds.tus_are

      lacking-then : length (passing (is_lacking refs (take n.tuples tuples)) (standing frame (take n.tuples tuples))) ≡ length (fives s)
      lacking-then = sym (fives-count refs (take n.tuples tuples) (n.events + 1)) ∙ ap length fives-then

-- ---- the answers of `take_fi`

abbrev pub taken_with : Numbers → List Scope → (running reports : ℕ) → Done
taken_with n list running reports =
    record { reply = reply.Taken; numbers = record { events = n.events + 1; running = running; definitions = n.definitions; tuples = n.tuples; reports = reports }; list = list }

module _ (n : Numbers) (list : List Scope) (defs tuples reports : Bytes) (c : code.Counts) (u : as_counts c ≡ unpack n.running) where
  answers-refusal : (q : SessionRefusal) (r : Done) → r ≡ refusal n list q
      → ((paths : ℕ) (names cells : Bytes) (s : Session) → decode (world_of n list paths defs tuples reports names cells) ≡ some s
      → first_of (finish_rows (world_of n list paths defs tuples reports names cells) s) ≡ some (because_of_session q))
      → TakesFi n list defs tuples reports r reports
  answers-refusal q r e f =
      subst (λ (x : Done). TakesFi n list defs tuples reports x reports) (sym e)
      (record { steps = λ paths names cells s rec d p. refuses n defs tuples reports list paths names cells s d q (f paths names cells s d) rec p })

  -- 11
  pub takes-done : c.stage ≡ 66 → (r : Done) → r ≡ refusal n list OutOfPlace → TakesFi n list defs tuples reports r reports
  takes-done a r e = answers-refusal OutOfPlace r e (λ paths names cells s d. row-place n defs tuples reports list paths names cells s d c u a)

  module _ (a : c.stage ≡ 66 → ⊥) where
    -- 19
    pub takes-many : 1000000 ≤ n.events → (r : Done) → r ≡ refusal n list TooManyEvents → TakesFi n list defs tuples reports r reports
    takes-many b r e =
        answers-refusal TooManyEvents r e (λ paths names cells s d. row-events n defs tuples reports list paths names cells s d c u a b)

    module _ (b : n.events < 1000000) (depth : ℕ) (g : depth ≡ depth_of (stage_of c.stage) c.stage) where
      -- 13
      pub takes-open : 0 < depth → (r : Done) → r ≡ refusal n list Unbalanced → TakesFi n list defs tuples reports r reports
      takes-open k r e =
          answers-refusal Unbalanced r e (λ paths names cells s d. row_open n defs tuples reports list paths names cells s d c u a b depth g k)

      module _ (k : depth ≤ 0) where
        -- no session has more reports than its store has bytes
        pub takes-past : length reports < n.reports → (r : Done) → r ≡ refusal n list ReportsFull → TakesFi n list defs tuples reports r reports
        takes-past l r e =
            answers-refusal ReportsFull r e
            (λ paths names cells s d. let h = (holds n defs tuples reports list paths names cells s d).reports.room in absurd (omega arith))

        module _ (refs : Refs) (o : RefsOf (take n.definitions defs) refs) (below : Below tuples) (used : Bytes) (t : used ≡ take n.tuples tuples)
            (left : ℕ) (l : (n.reports ≤ length reports) × (left ≡ length reports - n.reports)) (few : Bool)
            (f : few ≡ leb (length (passing (is_lacking refs used) (standing frame used))) (left / 18)) where
          lacking-is : (paths : ℕ) (names cells : Bytes) (s : Session) → decode (world_of n list paths defs tuples reports names cells) ≡ some s
              → length (passing (is_lacking refs used) (standing frame used)) ≡ length (fives s)
          lacking-is paths names cells s d =
              ap (λ (x : Bytes). length (passing (is_lacking refs x) (standing frame x))) t ∙ lacking-then n defs tuples reports list paths names cells s d refs o below

          -- 16
          pub takes-full : few ≡ false → (r : Done) → r ≡ refusal n list ReportsFull → TakesFi n list defs tuples reports r reports
          takes-full z r e =
              answers-refusal ReportsFull r e
              (λ paths names cells s d.
              let m = lacking-is paths names cells s d in
              let y = leb-false (length (passing (is_lacking refs used) (standing frame used))) (left / 18) (sym f ∙ z) in
              row-full n defs tuples reports list paths names cells s d c u a b depth g k (omega arith))

          -- taken
          module _ (z : few ≡ true) (next : ℕ) (after : Bytes) (w : Written reports n.reports (fives_in refs used (n.events + 1)) next after)
              (running : ℕ) (v : running ≡ packed (finished_counts c)) where
            module _ (paths : ℕ) (names cells : Bytes) (s : Session) (d : decode (world_of n list paths defs tuples reports names cells) ≡ some s) where
              fives-is : fives_in refs used (n.events + 1) ≡ fives s
              fives-is = ap (λ (x : Bytes). fives_in refs x (n.events + 1)) t ∙ fives-then n defs tuples reports list paths names cells s d refs o below

              room : n.reports + 18 * length (fives s) ≤ length reports
              room =
                  let m = lacking-is paths names cells s d in
                  let y = leb-true (length (passing (is_lacking refs used) (standing frame used))) (left / 18) (sym f ∙ z) in
                  omega arith

              room-written : n.reports + 18 * length (fives_in refs used (n.events + 1)) ≤ length reports
              room-written = rw fives-is room

              world-then : world_of (taken_with n list running next).numbers list paths defs tuples after names cells ≡ finished_by (world_of n list paths defs tuples reports names cells) s
              unfolding finished_by
              world-then = λ j.
                  record {
                    events = add-one n.events j;
                    running = (v ∙ counts-then n defs tuples reports list paths names cells s d c u) j;
                    definitions = n.definitions;
                    tuples = n.tuples;
                    reports = (w.answers room-written ∙ ap (λ (x : List Report). n.reports + 18 * length x) fives-is) j;
                    definition_store = defs;
                    tuple_store = tuples;
                    report_store = (w.leaves room-written ∙ ap (λ (x : List Report). over reports n.reports (flat_map put_rp x)) fives-is) j;
                    names = names;
                    scopes = map record_of list;
                    cells = cells;
                    path_area = paths;
                  }

            pub takes-fi : TakesFi n list defs tuples reports (taken_with n list running next) after
            unfolding answered
            takes-fi =
                record {
                  steps = λ paths names cells s rec d p.
                      ap (λ (x : World). (taken, x)) (world-then paths names cells s d)
                      ∙ sym (step-fi (world_of n list paths defs tuples reports names cells) rec s d p
                      ∙ ap (answered (world_of n list paths defs tuples reports names cells) (finished_by (world_of n list paths defs tuples reports names cells) s))
                      (rows_none n defs tuples reports list paths names cells s d c u a b depth g k (room paths names cells s d)));
                }
