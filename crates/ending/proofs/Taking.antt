-- A call on an EE is `step`: what the code tests of the counts and lengths is what the rows of an EE test of the session that the world decodes to, and what it
-- leaves is the world after it. A refusal has put the parsed-path area back.
-- Assumes nothing.
use Prim.Native.Nat.{ℕ, suc, ◌+◌, ◌*◌, ◌-◌, ◌/◌, ◌≤◌, ◌<◌}
use native.Mathlib.Omega.{arith}
use native.Mathlib.Numerals.{add-one}
use borrow.Author.Tests.{le-leb, lt-leb, lt-ltb, le-ltb, eq-eqb, ne_eqb}
use lib.Dec.{eqb}
use lib.ListN.{length, take, drop}
use mathlib.Core.Path.{◌≡◌, refl, ap, sym, ◌∙◌, subst}
use mathlib.Core.Bool.{false}
use mathlib.Core.List.{List, map, flat_map}
use mathlib.Core.Option.{none, some}
use Rattle.lists.specs.Lists.{over, put}
use Rattle.records.specs.Readers.{Bytes}
use Rattle.records.specs.Refusals.{out_of_place, too_many_events, unbalanced, tuples_full, reports_full, first_of}
use Rattle.records.specs.Records.{EE, EeRecord, parsed, parse}
use Rattle.record_places.specs.declared.Ee.{Ee}
use Rattle.record_places.specs.Places.{text_in, ee_in}
use Rattle.session_spec.specs.Layout.{Counts, pad, unpack, put_tu, put_rp}
use Rattle.session_spec.specs.Session.{World, Session, done, stage_of, depth_of, stage_number, misplaced, counts_of, decode, step, Reply, taken, refused}
use Rattle.session_laws.proofs.Holds.{Holds, stage-depth, counts-back, stage-done}
use Rattle.runs.proofs.TwoPass.{Added}
use Rattle.runs.proofs.WellFormed.{well-formed}
use Rattle.open_scopes.specs.declared.Scope.{Scope}
use Rattle.open_scopes.specs.declared.Scopes.{Scopes}
use Rattle.open_scopes.specs.declared.Counts as code
use Rattle.open_scopes.specs.declared.Numbers.{Numbers}
use Rattle.open_scopes.specs.OpenScopes.{record_of}
use Rattle.open_scopes.specs.Counting.{as_counts}
use Rattle.worlds.specs.declared.SessionRefusal.{SessionRefusal}
use Rattle.worlds.specs.declared.SessionRefusal.TheVariants.{OutOfPlace, TooManyEvents, Unbalanced, TuplesFull, ReportsFull}
use Rattle.worlds.specs.Replies as reply
use Rattle.worlds.specs.Replies.{because_of_session, refusal}
use Rattle.worlds.specs.Worlds.{world_of}
use Rattle.worlds.specs.declared.Done.{Done}
use Rattle.path_area.proofs.Scratch.{put_back}
use Rattle.element_hits.specs.ElementHits.{HitsOf}
use Rattle.end_writes.specs.Staying.{first_deep}
use Rattle.settlements.specs.declared.Settling.{Settling}
use Rattle.tuple_marks.specs.Marks.{AllMarked}
use Rattle.settlements.specs.Ending.{Ended, Finishing, TuplesIn, SettledAll, WrittenAll, all_add}
use Rattle.plans.specs.Plans.{answered, end_adds, end_rows, ended_by}
use Rattle.plans.proofs.Steps.{step-ee}
use Rattle.event_answers.specs.Ending.{TakesEe, InPlace}
use Rattle.ending.specs.Writing.{WritesEnd}
use Rattle.ending.proofs.Sessions as session
use Rattle.session_spec.specs.Definitions.{is_definition}

-- ---- the stage

module _ (n : Numbers) (list : List Scope) (ee : Ee) (rec defs tuples reports paths names cells : Bytes) where
  abbrev world : World
  world = world_of n list (length paths) defs tuples reports names cells

  abbrev end : EeRecord
  end = record { simple = ee.simple; key = text_in rec ee.key }

  -- ---- a world that decodes

  module _ (s : Session) (dec : decode world ≡ some s) (says : parse rec ≡ parsed (EE end)) where
    -- named so in three modules, of an EE, an ES and an FI: one law for all is handed the facts, and is no plainer
    holds : Holds world s
    holds = well-formed world s dec

    -- what refuses, refuses
    refuses : (q : SessionRefusal) → first_of (end_rows world s end) ≡ some (because_of_session q)
        → ◌≡◌ {A = Reply × World} (refused (because_of_session q), world) (step world rec)
    unfolding answered
    refuses q e = sym (step-ee world rec s dec end says ∙ ap (answered world (ended_by world s end)) e)

    module _ (c : code.Counts) (u : as_counts c ≡ unpack n.running) where
      counts-are : as_counts c ≡ counts_of s
      counts-are = u ∙ counts-back world s holds

      stage_is : c.stage ≡ stage_number s.stage (length s.state.names)
      unfolding counts_of
      stage_is = ap (λ (x : Counts). x.stage) counts-are

      out-of-place : misplaced s.stage (EE end) ≡ eqb c.stage 66
      out-of-place = stage-done s.stage (EE end) (length s.state.names) (unfold is_definition in refl) holds.fine.deep ∙ ap (λ (k : ℕ). eqb k 66) (sym stage_is)

      in-place : (c.stage ≡ 66 → ⊥) → misplaced s.stage (EE end) ≡ false
      in-place a = out-of-place ∙ ne_eqb c.stage 66 a

      -- 13: the open elements
      depth_is : depth_of (stage_of c.stage) c.stage ≡ length s.state.names
      depth_is = ap (λ (k : ℕ). depth_of (stage_of k) k) stage_is ∙ stage-depth s.stage s.state holds.stage holds.fine.deep

      row-place : c.stage ≡ 66 → first_of (end_rows world s end) ≡ some out_of_place
      unfolding end_rows first_of
      row-place a = rw (out-of-place ∙ eq-eqb c.stage 66 a)

      row-events : (c.stage ≡ 66 → ⊥) → 1000000 ≤ n.events → first_of (end_rows world s end) ≡ some too_many_events
      unfolding end_rows first_of
      row-events a b = rw (in-place a, le-leb 1000000 n.events b)

      row-none : (c.stage ≡ 66 → ⊥) → n.events < 1000000 → (depth : ℕ) → depth ≡ depth_of (stage_of c.stage) c.stage → depth ≡ 0
          → first_of (end_rows world s end) ≡ some unbalanced
      unfolding end_rows first_of
      row-none a b depth e z = rw (in-place a, lt-leb 1000000 n.events b, eq-eqb (length s.state.names) 0 (sym depth_is ∙ sym e ∙ z))

    -- ---- with an element open

    abbrev tuples_more : ℕ
    tuples_more = length (flat_map put_tu (end_adds s end).tuples)

    abbrev reports_more : ℕ
    reports_more = 18 * length (end_adds s end).reports

    module _ (c : code.Counts) (depth : ℕ) (p : InPlace n c depth) where
      level-is : depth ≡ length s.state.names
      level-is = p.level ∙ depth_is c p.counts

      inside : eqb (length s.state.names) 0 ≡ false
      inside = ne_eqb (length s.state.names) 0 (λ z. p.inside (level-is ∙ z))

      row-tuples : length tuples < n.tuples + tuples_more → first_of (end_rows world s end) ≡ some tuples_full
      unfolding end_rows first_of
      row-tuples l = rw (in-place c p.counts p.unfinished, lt-leb 1000000 n.events p.early, inside, lt-ltb (length tuples) (n.tuples + tuples_more) l)

      row-reports : n.tuples + tuples_more ≤ length tuples → length reports < n.reports + reports_more → first_of (end_rows world s end) ≡ some reports_full
      unfolding end_rows first_of
      row-reports k l =
          rw (
            in-place c p.counts p.unfinished,
            lt-leb 1000000 n.events p.early,
            inside,
            le-ltb (length tuples) (n.tuples + tuples_more) k,
            lt-ltb (length reports) (n.reports + reports_more) l,
          )

      rows_none : n.tuples + tuples_more ≤ length tuples → n.reports + reports_more ≤ length reports → first_of (end_rows world s end) ≡ none
      unfolding end_rows first_of
      rows_none k l =
          rw (
            in-place c p.counts p.unfinished,
            lt-leb 1000000 n.events p.early,
            inside,
            le-ltb (length tuples) (n.tuples + tuples_more) k,
            le-ltb (length reports) (n.reports + reports_more) l,
          )

  -- ---- refusals

  answers-refusal : (q : SessionRefusal) (r : Done) → r ≡ refusal n list q → (paths' : Bytes) → (1024 ≤ length paths → paths' ≡ paths)
      → ((s : Session) → decode world ≡ some s → parse rec ≡ parsed (EE end) → first_of (end_rows world s end) ≡ some (because_of_session q))
      → TakesEe n list ee rec defs tuples reports paths names cells r tuples reports paths' cells
  unfolding ee_in
  answers-refusal q r e paths' g f =
      subst (λ (x : Done). TakesEe n list ee rec defs tuples reports paths names cells x tuples reports paths' cells) (sym e)
      (record { steps = λ s d says. refuses s d says q (f s d says); area = λ l. record { size = ap length (g l); behind = ap (drop 1024) (g l); kept = λ z. g l } })

  module _ (c : code.Counts) (u : as_counts c ≡ unpack n.running) where
    -- 11
    pub takes-done : c.stage ≡ 66 → (r : Done) → r ≡ refusal n list OutOfPlace → TakesEe n list ee rec defs tuples reports paths names cells r tuples reports paths cells
    takes-done a r e = answers-refusal OutOfPlace r e paths (λ l. refl) (λ s d says. row-place s d says c u a)

    module _ (a : c.stage ≡ 66 → ⊥) where
      -- 19
      pub takes-many : 1000000 ≤ n.events → (r : Done) → r ≡ refusal n list TooManyEvents → TakesEe n list ee rec defs tuples reports paths names cells r tuples reports paths cells
      takes-many b r e = answers-refusal TooManyEvents r e paths (λ l. refl) (λ s d says. row-events s d says c u a b)

      -- 13
      pub takes_none : n.events < 1000000 → (depth : ℕ) → depth ≡ depth_of (stage_of c.stage) c.stage → depth ≡ 0
          → (r : Done) → r ≡ refusal n list Unbalanced → TakesEe n list ee rec defs tuples reports paths names cells r tuples reports paths cells
      takes_none b depth g z r e = answers-refusal Unbalanced r e paths (λ l. refl) (λ s d says. row-none s d says c u a b depth g z)

  -- ---- the end of an element

  -- what the code has found before the tests for room
  pub record Found (c : code.Counts) (depth : ℕ) (saved used text : Bytes) (byte : ℕ) (hits scratch : Bytes) (first : ℕ) (marks : List ℕ) (done : Settling) : Type 0 where
    pub saved_is : saved ≡ pad 1024 (take 1024 paths)
    pub used_is : used ≡ take n.definitions defs
    pub text_is : text ≡ text_in rec ee.key
    pub simple_is : byte ≡ ee.simple
    pub hits_are : HitsOf cells c.selections (record { list = list; n = c.scopes }) names depth used paths hits scratch
    pub first_is : first ≡ first_deep cells c.selections depth
    pub settles : (k : Ended) → Finishing k cells first c.selections hits byte text (record { list = list; n = c.scopes }) used
        → TuplesIn k (take n.tuples tuples) marks → SettledAll k first done

  module _ (c : code.Counts) (depth : ℕ) (p : InPlace n c depth) (saved used text : Bytes) (byte : ℕ) (hits scratch : Bytes) (first : ℕ) (marks : List ℕ) (settled : Settling)
      (f : Found c depth saved used text byte hits scratch first marks settled) (marked : AllMarked marks (take n.tuples tuples)) where
    abbrev scopes : Scopes
    scopes = record { list = list; n = c.scopes }

    back : (paths' : Bytes) → paths' ≡ put scratch 0 saved → 1024 ≤ length paths → paths' ≡ paths
    back paths' e l = e ∙ ap (put scratch 0) f.saved_is ∙ put_back paths scratch l f.hits_are.scratched

    module _ (s : Session) (dec : decode world ≡ some s) (says : parse rec ≡ parsed (EE end)) where
      abbrev h : Holds world s
      h = holds s dec says

      abbrev u : as_counts c ≡ counts_of s
      u = counts-are s dec says c p.counts

      abbrev v : depth ≡ length s.state.names
      v = level-is s dec says c depth p

      abbrev k : Ended
      k = session.known world s end rec h says

      hits-are : HitsOf cells c.selections scopes names depth (take n.definitions defs) paths hits scratch
      hits-are = subst (λ (b : Bytes). HitsOf cells c.selections scopes names depth b paths hits scratch) f.used_is f.hits_are

      finishing : Finishing k cells first c.selections hits byte text scopes used
      finishing =
          subst (Finishing k cells first c.selections hits byte text scopes) (sym f.used_is)
          (session.finishing world s end rec h says c u list refl depth v paths h.areas.paths hits scratch hits-are byte f.simple_is text f.text_is first)

      all_settled : SettledAll k first settled
      all_settled = f.settles k finishing (session.tuples-in world s end rec h says marks marked)

      first-is : first ≡ session.front world s end rec h says
      first-is = f.first_is ∙ session.first-is world s end rec h says c.selections depth (session.count-selections world s end rec h says c u list refl depth v) v

      adds-are : (e : ℕ) → e ≡ suc s.state.events → all_add k first e ≡ end_adds s end
      adds-are e q = session.adds-are world s end rec h says first e first-is q

      bytes-are : settled.bytes ≡ tuples_more s dec says
      bytes-are = all_settled.bytes (suc s.state.events) ∙ ap (λ (a : Added). length (flat_map put_tu a.tuples)) (adds-are (suc s.state.events) refl)

      reports-are : 18 * settled.reports ≡ reports_more s dec says
      reports-are = ap (λ (m : ℕ). 18 * m) (all_settled.reports (suc s.state.events) ∙ ap (λ (a : Added). length a.reports) (adds-are (suc s.state.events) refl))

    -- 15
    pub takes-tuples : (left : ℕ) → left ≡ length tuples - n.tuples → left < settled.bytes → (paths' : Bytes) → paths' ≡ put scratch 0 saved
        → (r : Done) → r ≡ refusal n list TuplesFull → TakesEe n list ee rec defs tuples reports paths names cells r tuples reports paths' cells
    takes-tuples left a b paths' e r q =
        answers-refusal TuplesFull r q paths' (back paths' e)
        (λ s dec says. row-tuples s dec says c depth p (omega (arith, bytes-are s dec says)))

    module _ (left : ℕ) (a : left ≡ length tuples - n.tuples) (b : settled.bytes ≤ left) (more : ℕ) (d : more ≡ length reports - n.reports) where
      room-tuples : (s : Session) (dec : decode world ≡ some s) (says : parse rec ≡ parsed (EE end)) → n.tuples + tuples_more s dec says ≤ length tuples
      room-tuples s dec says = omega (arith, bytes-are s dec says, (holds s dec says).tuples.room)

      -- 16
      pub takes-reports : more / 18 < settled.reports → (paths' : Bytes) → paths' ≡ put scratch 0 saved
          → (r : Done) → r ≡ refusal n list ReportsFull → TakesEe n list ee rec defs tuples reports paths names cells r tuples reports paths' cells
      takes-reports g paths' e r q =
          answers-refusal ReportsFull r q paths' (back paths' e)
          (λ s dec says. row-reports s dec says c depth p (room-tuples s dec says) (omega (arith, reports-are s dec says)))

      -- taken
      module _ (g : settled.reports ≤ more / 18) (numbers : Numbers) (tuples' reports' cells' : Bytes)
          (wrote : WritesEnd n c depth scopes settled first hits byte text used tuples reports cells numbers tuples' reports' cells') where
        module _ (s : Session) (dec : decode world ≡ some s) (says : parse rec ≡ parsed (EE end)) where
          room-reports : n.reports + reports_more s dec says ≤ length reports
          room-reports = omega (arith, reports-are s dec says, (holds s dec says).reports.room)

          event-is : n.events + 1 ≡ suc s.state.events
          event-is = omega (arith, (holds s dec says).events)

          adds-now : all_add (k s dec says) first (n.events + 1) ≡ end_adds s end
          adds-now = adds-are s dec says (n.events + 1) event-is

          written : WrittenAll (k s dec says) first (n.events + 1) tuples n.tuples reports n.reports wrote.written tuples' reports'
          written =
              wrote.stores (k s dec says) (finishing s dec says) ((all_settled s dec says).each (n.events + 1))
              (subst (λ (x : Added). n.tuples + length (flat_map put_tu x.tuples) ≤ length tuples) (sym adds-now) (room-tuples s dec says))
              (subst (λ (x : Added). n.reports + 18 * length x.reports ≤ length reports) (sym adds-now) room-reports)

          world-then : world_of numbers list (length paths) defs tuples' reports' names cells' ≡ ended_by world s end
          unfolding ended_by
          world-then =
              ap (λ (x : Numbers). world_of x list (length paths) defs tuples' reports' names cells') wrote.numbers
              ∙ (λ j.
              record {
                events = add-one n.events j;
                running = session.counts-then world s end rec (h s dec says) says c (u s dec says) list refl depth (v s dec says) first (first-is s dec says) j;
                definitions = n.definitions;
                tuples = (written.tuples_used ∙ ap (λ (x : Added). n.tuples + length (flat_map put_tu x.tuples)) adds-now) j;
                reports = (written.reports_used ∙ ap (λ (x : Added). n.reports + 18 * length x.reports) adds-now) j;
                definition_store = defs;
                tuple_store = (written.tuple_store ∙ ap (λ (x : Added). over tuples n.tuples (flat_map put_tu x.tuples)) adds-now) j;
                report_store = (written.report_store ∙ ap (λ (x : Added). over reports n.reports (flat_map put_rp x.reports)) adds-now) j;
                names = names;
                scopes = map record_of list;
                cells = session.cells-then world s end rec (h s dec says) says c (u s dec says) list refl depth (v s dec says) paths (h s dec says).areas.paths hits scratch (hits-are s dec says) byte f.simple_is text f.text_is first (first-is s dec says) cells' wrote.staying j;
                path_area = length paths;
              })

        pub takes-ee : TakesEe n list ee rec defs tuples reports paths names cells (record { reply = reply.Taken; numbers = numbers; list = list }) tuples' reports' scratch cells'
        unfolding answered ee_in
        takes-ee =
            record {
              steps = λ s dec says.
                  ap (λ (x : World). (taken, x)) (world-then s dec says)
                  ∙ sym (step-ee world rec s dec end says
                  ∙ ap (answered world (ended_by world s end)) (rows_none s dec says c depth p (room-tuples s dec says) (room-reports s dec says)));
              area = λ l. record { size = f.hits_are.scratched.size; behind = f.hits_are.scratched.behind; kept = λ z. absurd (z refl) };
            }
