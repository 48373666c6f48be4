-- A run, call by call: what the calls leave decodes to the session of the accepted records, and the used bytes are those of what that session has put
-- out and of the records that define. By induction on the calls, from what holds just after set-up.
-- Assumes nothing.
use Prim.Native.Nat.{ℕ, ◌+◌}
use native.Mathlib.Nat.{add-zero}
use native.Mathlib.Omega.{arith}
use lib.ListN.{length, take, length-append}
use lib.Seq.{length-take-le}
use mathlib.Core.Path.{◌≡◌, refl, ap, ap₂, sym, ◌∙◌}
use mathlib.Core.List.{List, [], ◌∷◌, ◌++◌, flat_map, append_assoc, append-nil}
use mathlib.Core.Option.{Option, none, some}
use Rattle.lists.specs.Lists.{only_if, foldl}
use Rattle.lists.proofs.Lists.{flat_map-append}
use Rattle.lists.proofs.Writes.{take-over, length_over}
use Rattle.paths.specs.Reading.{every}
use Rattle.tree.specs.Judge.{Tuple, Report, Out}
use Rattle.records.specs.Readers.{Bytes, Reader, read_all, reads}
use Rattle.records.specs.Refusals.{Refusal, first_of}
use Rattle.records.specs.Records.{Rec, Parsed, unparsed, parsed, parse}
use Rattle.session_spec.specs.Definitions.{no_definitions, is_definition, frame}
use Rattle.session_spec.specs.Layout.{read_tu, put_tu, read_rp, put_rp, parts, ScopeRecord, pack}
use Rattle.session_spec.specs.Session.{World, Session, stage_number, next, tuple_bytes, report_bytes, rows, counts_of, patch, settled, considered, attempt, step, set_up}
use Rattle.session_spec.specs.Runs.{new_session, session_of, run_calls, taken_of, accepted, defining_bytes, definition_bytes, room_of}
use Rattle.session_laws.proofs.Stores.{Used}
use Rattle.session_laws.proofs.Outs.{Grown}
use Rattle.session_laws.proofs.Holds.{Areas, Holds, decoded}
use Rattle.session_laws.proofs.Patched.{new-tuples, new-reports, patched}
use Rattle.session_laws.proofs.Follows.{cleared, initial-fine, follows}
use Rattle.runs.proofs.Trace.{session-snoc, Trace, trace-next, new-trace}

-- ---- one call

-- the used bytes of two stores are those that are written for what was put out
pub record Written (w : World) (o : Out) : Type 0 where
  pub tuples : take w.tuples w.tuple_store ≡ flat_map put_tu o.tuples
  pub reports : take w.reports w.report_store ≡ flat_map put_rp o.reports

written_next : (w : World) (s t : Session) (r : Rec) (bs : Bytes) (m : ℕ) → Holds w s → Grown s.state.out t.state.out m → Written w s.state.out
    → Written (patch w s r t bs) t.state.out
unfolding patch
written_next w s t r bs m h g z =
    record {
      tuples =
          take-over w.tuple_store w.tuples (tuple_bytes s t) h.tuples.room
          ∙ ap₂ {C = Bytes} ◌++◌ z.tuples (new-tuples s t m g)
          ∙ sym (flat_map-append put_tu s.state.out.tuples g.more_tuples)
          ∙ ap (λ (l : List Tuple). flat_map put_tu l) (sym g.tuples);
      reports =
          take-over w.report_store w.reports (report_bytes s t) h.reports.room
          ∙ ap₂ {C = Bytes} ◌++◌ z.reports (new-reports s t m g)
          ∙ sym (flat_map-append put_rp s.state.out.reports g.more_reports)
          ∙ ap (λ (l : List Report). flat_map put_rp l) (sym g.reports);
    }

-- what holds after the records `rs`
pub record After (w : World) (rs : List Rec) : Type 0 where
  pub holds : Holds w (session_of rs)
  pub trace : Trace rs (session_of rs)
  pub written : Written w (session_of rs).state.out

-- so the used lengths are those of the records
pub record Sized (w : World) (o : Out) : Type 0 where
  pub tuples : w.tuples ≡ length (flat_map put_tu o.tuples)
  pub reports : w.reports ≡ length (flat_map put_rp o.reports)

pub sized : (w : World) (rs : List Rec) → After w rs → Sized w (session_of rs).state.out
sized w rs a =
    record {
      tuples = sym (length-take-le w.tuples w.tuple_store a.holds.tuples.room) ∙ ap length a.written.tuples;
      reports = sym (length-take-le w.reports w.report_store a.holds.reports.room) ∙ ap length a.written.reports;
    }

module _ (w : World) (rs : List Rec) (a : After w rs) (x : Bytes) where
  abbrev pub now : Session
  now = session_of rs

  settled-after : (r : Rec) → parse x ≡ parsed r → (o : Option Refusal) → first_of (rows w now r (next now r) x) ≡ o
      → After (settled w now r (next now r) x o).1 (rs ++ taken_of (settled w now r (next now r) x o).0 (parsed r))
  unfolding settled taken_of
  settled-after r p none e =
      let c = cleared w now r (next now r) x e in
      let f = follows w now x a.holds r p e in
      record {
        holds = rw (session-snoc rs r) (patched w now (next now r) r x a.holds f);
        trace = rw (session-snoc rs r) (trace-next rs now r a.trace c.in_place c.balanced);
        written = rw (session-snoc rs r) (written_next w now (next now r) r x f.most a.holds f.grown a.written);
      }
  settled-after r p (some c) e = rw append-nil a

  considered-after : (p : Parsed) → parse x ≡ p → After (considered w now x p).1 (rs ++ taken_of (considered w now x p).0 p)
  unfolding considered
  considered-after (unparsed c) e = unfold taken_of in (rw append-nil a)
  considered-after (parsed r) e = settled-after r e (first_of (rows w now r (next now r) x)) refl

  pub step_is : step w x ≡ considered w now x (parse x)
  unfolding step attempt
  step_is = rw (decoded w now a.holds)

  pub step_after : After (step w x).1 (rs ++ taken_of (step w x).0 (parse x))
  step_after = rw step_is (considered-after (parse x) refl)

pub run-after : (w : World) (rs : List Rec) → After w rs → (xs : List Bytes) → After (run_calls w xs) (rs ++ accepted w xs)
unfolding run_calls accepted
run-after w rs a [] = rw append-nil a
run-after w rs a (x ∷ xs) =
    rw (← (append_assoc rs (taken_of (step w x).0 (parse x)) (accepted (step w x).1 xs)))
    (run-after (step w x).1 (rs ++ taken_of (step w x).0 (parse x)) (step_after w rs a x) xs)

-- ---- the stores keep their lengths, and behind the used bytes of the definition store stand those of each record that defines

pub record Kept (v w : World) (kept : Bytes) : Type 0 where
  pub room : room_of w ≡ room_of v
  pub used : w.definitions ≡ v.definitions + length kept
  pub bytes : take w.definitions w.definition_store ≡ take v.definitions v.definition_store ++ kept

still_kept : (w : World) → Kept w w []
still_kept w = record { room = refl; used = sym (add-zero w.definitions); bytes = sym (append-nil (take w.definitions w.definition_store)) }

module _ (w : World) (rs : List Rec) (a : After w rs) (x : Bytes) where
  settled-kept : (r : Rec) → parse x ≡ parsed r → (o : Option Refusal) → first_of (rows w (session_of rs) r (next (session_of rs) r) x) ≡ o
      → Kept w (settled w (session_of rs) r (next (session_of rs) r) x o).1 (defining_bytes (settled w (session_of rs) r (next (session_of rs) r) x o).0 (parsed r) x)
  unfolding settled defining_bytes patch room_of
  settled-kept r p none e =
      let s : Session = session_of rs in
      let f = follows w s x a.holds r p e in
      record {
        room =
            λ i. record {
              definitions = length_over w.definition_store w.definitions (only_if (is_definition r) x) f.room_defs i;
              tuples = length_over w.tuple_store w.tuples (tuple_bytes s (next s r)) f.room_tuples i;
              reports = length_over w.report_store w.reports (report_bytes s (next s r)) f.room_reports i;
            };
        used = refl;
        bytes = take-over w.definition_store w.definitions (only_if (is_definition r) x) a.holds.definitions.room;
      }
  settled-kept r p (some c) e = still_kept w

  considered-kept : (p : Parsed) → parse x ≡ p → Kept w (considered w (session_of rs) x p).1 (defining_bytes (considered w (session_of rs) x p).0 p x)
  unfolding considered
  considered-kept (unparsed c) e = unfold defining_bytes in (still_kept w)
  considered-kept (parsed r) e = settled-kept r e (first_of (rows w (session_of rs) r (next (session_of rs) r) x)) refl

  pub step_kept : Kept w (step w x).1 (defining_bytes (step w x).0 (parse x) x)
  step_kept = rw (step_is w rs a x) (considered-kept (parse x) refl)

join_kept : (u v w : World) (xs ys : Bytes) → Kept u v xs → Kept v w ys → Kept u w (xs ++ ys)
join_kept u v w xs ys k l =
    record {
      room = l.room ∙ k.room;
      used = omega (arith, k.used, l.used, length-append xs ys);
      bytes = l.bytes ∙ ap (λ (b : Bytes). b ++ ys) k.bytes ∙ append_assoc (take u.definitions u.definition_store) xs ys;
    }

pub run-kept : (w : World) (rs : List Rec) → After w rs → (xs : List Bytes) → Kept w (run_calls w xs) (definition_bytes w xs)
unfolding run_calls definition_bytes
run-kept w rs a [] = still_kept w
run-kept w rs a (x ∷ xs) =
    let v : World = (step w x).1 in
    join_kept w v (run_calls v xs) (defining_bytes (step w x).0 (parse x) x) (definition_bytes v xs) (step_kept w rs a x)
    (run-kept v (rs ++ taken_of (step w x).0 (parse x)) (step_after w rs a x) xs)

-- ---- set-up

nothing-used : {A : Type 0} (p : Reader A) (store : Bytes) → Used p 0 store []
unfolding reads read_all
nothing-used p store = record { read = refl; room = omega arith }

module _ (ds ts rs na : Bytes) (ss : List ScopeRecord) (cs : Bytes) (ps : ℕ) where
  abbrev begun : World
  begun = set_up ds ts rs na ss cs ps

  set-up-holds : Areas begun → Holds begun new_session
  unfolding set_up flat_map pack counts_of stage_number every parts
  set-up-holds a =
      record {
        areas = a;
        raws = [];
        definitions = nothing-used frame ds;
        made = refl;
        defs_fit = record { few = tt };
        fine = initial-fine no_definitions 0;
        early = omega arith;
        stage = refl;
        unbegun = (refl, refl);
        events = refl;
        packed = refl;
        tus = [];
        tuples = nothing-used read_tu ts;
        tus_are = refl;
        tus_fit = tt;
        reports = nothing-used read_rp rs;
        names = refl;
        scopes = refl;
        cells = refl;
      }

  set-up-after : Areas begun → After begun []
  unfolding session_of set_up flat_map
  set-up-after a = record { holds = set-up-holds a; trace = new-trace; written = record { tuples = refl; reports = refl } }

  pub after_run : Areas begun → (xs : List Bytes) → After (run_calls begun xs) (accepted begun xs)
  after_run a xs = run-after begun [] (set-up-after a) xs

  pub kept_run : Areas begun → (xs : List Bytes) → Kept begun (run_calls begun xs) (definition_bytes begun xs)
  kept_run a xs = run-kept begun [] (set-up-after a) xs
