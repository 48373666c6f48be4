-- The session that accepted records make: its state is the streaming machine's over their events, until FI, and then the machine's with FI. By induction
-- on the records: one more at the end is one more for both.
-- Assumes nothing.
use Prim.Native.Nat.{suc, ◌+◌}
use native.Mathlib.Nat.{add-zero}
use native.Mathlib.Omega.{arith}
use lib.Dec.{eqb}
use lib.ListN.{length, length-append}
use mathlib.Core.Path.{◌≡◌, refl, ap, sym, ◌∙◌}
use mathlib.Core.Bool.{Bool, true, false, ◌||◌, false≢true, or-true, or-false}
use mathlib.Core.List.{List, [], ◌∷◌, ◌++◌, flat_map, append-nil}
use Rattle.std.proofs.lemmas.List.Folds.{list_any-append}
use Rattle.std.proofs.lemmas.List.Sums.{fold-append}
use Rattle.lists.specs.Lists.{any, only_if, foldl}
use Rattle.lists.proofs.Lists.{flat_map-append}
use Rattle.lists.proofs.Folds.{length-snoc}
use Rattle.tree.specs.Events.{Event, es, ee}
use Rattle.machine.specs.Machine
use Rattle.machine.specs.Machine.{State, initial, start_a, end_open, end_if, end_a, run, finish_a}
use Rattle.records.specs.Records.{EsRecord, EeRecord, Rec, ID, NS, ES, EE, FI}
use Rattle.session_spec.specs.Definitions.{no_definitions, define, is_definition, defined_at}
use Rattle.session_spec.specs.Session.{Stage, before, during, done, Session, start_of, end_of, tick, next, misplaced, is_unbalanced}
use Rattle.session_spec.specs.Runs.{new_session, session_of, definitions_of, defined_in, event_of, events_of, is_start, is_finish, stage_in}

-- ---- the session that records make

pub session-snoc : (rs : List Rec) (r : Rec) → session_of (rs ++ (r ∷ [])) ≡ next (session_of rs) r
unfolding session_of
session-snoc rs r = fold-append next new_session rs (r ∷ [])

-- ---- the state is the streaming machine's

abbrev pub machine : List Rec → State
machine rs = run (defined_at (definitions_of rs)) (initial (defined_in rs)) (events_of rs)

-- after FI it is the machine's with FI; before the first ES no event has come
abbrev pub Traced : Stage → List Rec → State → Type 0
Traced before rs st = (st ≡ machine rs) × (events_of rs ≡ []) × (any is_finish rs ≡ false)
Traced during rs st = (st ≡ machine rs) × (any is_finish rs ≡ false)
Traced done rs st = (st ≡ finish_a (machine rs)) × (any is_finish rs ≡ true)

-- the session is the one of these records
pub record Trace (rs : List Rec) (s : Session) : Type 0 where
  pub defs : s.defs ≡ definitions_of rs
  pub counted : s.state.events ≡ length rs
  pub staged : s.stage ≡ stage_in rs
  pub traced : Traced s.stage rs s.state

-- ---- one record more

pub defs-snoc : (rs : List Rec) (r : Rec) → definitions_of (rs ++ (r ∷ [])) ≡ define r (definitions_of rs)
unfolding definitions_of
defs-snoc rs r = fold-append (λ d q. define q d) no_definitions rs (r ∷ [])

pub events-snoc : (rs : List Rec) (r : Rec) → events_of (rs ++ (r ∷ [])) ≡ events_of rs ++ event_of r
unfolding events_of flat_map
events-snoc rs r = flat_map-append event_of rs (r ∷ []) ∙ ap (λ (l : List Event). flat_map event_of rs ++ l) (append-nil (event_of r))

defined-snoc : (rs : List Rec) (r : Rec) → defined_in (rs ++ (r ∷ [])) ≡ defined_in rs + length (only_if (is_definition r) (r ∷ []))
unfolding defined_in flat_map
defined-snoc rs r =
    let f : Rec → List Rec = λ q. only_if (is_definition q) (q ∷ []) in
    ap length (flat_map-append f rs (r ∷ []) ∙ ap (λ (l : List Rec). flat_map f rs ++ l) (append-nil (f r))) ∙ length-append (flat_map f rs) (f r)

any_snoc : (test : Rec → Bool) (rs : List Rec) (r : Rec) → any test (rs ++ (r ∷ [])) ≡ (any test rs || test r)
any_snoc test rs r = list_any-append test rs (r ∷ []) ∙ ap (λ (b : Bool). any test rs || b) (or-false (test r))

-- ---- the machine and the records, one more of them

module _ (rs : List Rec) (r : Rec) where
  machine-def : is_definition r ≡ true → event_of r ≡ [] → events_of rs ≡ [] → machine (rs ++ (r ∷ [])) ≡ initial (suc (defined_in rs))
  unfolding run
  machine-def i e z = rw (events-snoc rs r, e, z, defined-snoc rs r, i) (unfold only_if in (ap initial (omega arith)))

  machine-event : is_definition r ≡ false → define r (definitions_of rs) ≡ definitions_of rs → (x : Event) → event_of r ≡ x ∷ []
      → machine (rs ++ (r ∷ [])) ≡ Machine.step (defined_at (definitions_of rs)) (machine rs) x
  unfolding run only_if
  machine-event i d x e =
      rw (events-snoc rs r, e, defs-snoc rs r, d, defined-snoc rs r, i, add-zero)
      (fold-append (Machine.step (defined_at (definitions_of rs))) (initial (defined_in rs)) (events_of rs) (x ∷ []))

  machine-still : is_definition r ≡ false → define r (definitions_of rs) ≡ definitions_of rs → event_of r ≡ [] → machine (rs ++ (r ∷ [])) ≡ machine rs
  unfolding only_if
  machine-still i d e = rw (events-snoc rs r, e, append-nil, defs-snoc rs r, d, defined-snoc rs r, i, add-zero)

-- ---- ID and NS

no-events : (rs : List Rec) → events_of rs ≡ [] → machine rs ≡ initial (defined_in rs)
unfolding run
no-events rs h = rw h

still_open : (rs : List Rec) (r : Rec) → any is_finish rs ≡ false → is_finish r ≡ false → any is_finish (rs ++ (r ∷ [])) ≡ false
still_open rs r h k = any_snoc is_finish rs r ∙ rw (h, k)

define-traced : (rs : List Rec) (r : Rec) (g : Stage) (st : State) → Traced g rs st → misplaced g r ≡ false → is_definition r ≡ true → event_of r ≡ []
    → is_finish r ≡ false → Traced g (rs ++ (r ∷ [])) (tick st)
unfolding misplaced tick
define-traced rs r before st t m i e f =
    (ap tick (t.0 ∙ no-events rs t.1) ∙ sym (machine-def rs r i e t.1), events-snoc rs r ∙ rw (e, t.1), still_open rs r t.2 f)
define-traced rs r during st t m i e f = absurd (false≢true (sym m ∙ i))
define-traced rs r done st t m i e f = absurd (false≢true (sym m))

-- ---- ES

module _ (rs : List Rec) (q : EsRecord) where
  machine-start : machine (rs ++ (ES q ∷ [])) ≡ start_a (defined_at (definitions_of rs)) (machine rs) (start_of q)
  unfolding Machine.step is_definition define event_of
  machine-start = machine-event rs (ES q) refl refl (es (start_of q)) refl

  start-traced : (g : Stage) (st : State) → Traced g rs st → misplaced g (ES q) ≡ false
      → Traced during (rs ++ (ES q ∷ [])) (start_a (defined_at (definitions_of rs)) st (start_of q))
  unfolding misplaced is_finish
  start-traced before st t m = (ap (λ (x : State). start_a (defined_at (definitions_of rs)) x (start_of q)) t.0 ∙ sym machine-start, still_open rs (ES q) t.2 refl)
  start-traced during st t m = (ap (λ (x : State). start_a (defined_at (definitions_of rs)) x (start_of q)) t.0 ∙ sym machine-start, still_open rs (ES q) t.1 refl)
  start-traced done st t m = absurd (false≢true (sym m))

-- ---- EE

module _ (rs : List Rec) (q : EeRecord) where
  machine-end : machine (rs ++ (EE q ∷ [])) ≡ end_a (machine rs) (end_of q)
  unfolding Machine.step is_definition define event_of
  machine-end = machine-event rs (EE q) refl refl (ee (end_of q)) refl

  end-traced : (g : Stage) (st : State) → Traced g rs st → misplaced g (EE q) ≡ false → is_unbalanced (length st.names) (EE q) ≡ false
      → Traced g (rs ++ (EE q ∷ [])) (end_a st (end_of q))
  unfolding misplaced is_finish is_unbalanced
  end-traced before st t m u = absurd (false≢true (sym u ∙ ap (λ (x : State). eqb (length x.names) 0) (t.0 ∙ no-events rs t.1)))
  end-traced during st t m u = (ap (λ (x : State). end_a x (end_of q)) t.0 ∙ sym machine-end, still_open rs (EE q) t.1 refl)
  end-traced done st t m u = absurd (false≢true (sym m))

end-counts : (st : State) (q : EeRecord) → is_unbalanced (length st.names) (EE q) ≡ false → (end_a st (end_of q)).events ≡ suc st.events
unfolding end_a is_unbalanced
end-counts st q u = by st.names u
  where
    by : (names : List _) → eqb (length names) 0 ≡ false → (end_if names st (end_of q)).events ≡ suc st.events
    by [] h = absurd (false≢true (sym h))
    by (n ∷ l) h = unfold end_if end_open in refl

-- ---- FI

module _ (rs : List Rec) where
  machine-finish : machine (rs ++ (FI ∷ [])) ≡ machine rs
  unfolding is_definition define event_of
  machine-finish = machine-still rs FI refl refl refl

  with-fi : any is_finish (rs ++ (FI ∷ [])) ≡ true
  unfolding is_finish
  with-fi = any_snoc is_finish rs FI ∙ or-true (any is_finish rs)

  finish-traced : (g : Stage) (st : State) → Traced g rs st → misplaced g FI ≡ false → Traced done (rs ++ (FI ∷ [])) (finish_a st)
  unfolding misplaced
  finish-traced before st t m = (ap finish_a (t.0 ∙ sym machine-finish), with-fi)
  finish-traced during st t m = (ap finish_a (t.0 ∙ sym machine-finish), with-fi)
  finish-traced done st t m = absurd (false≢true (sym m))

-- ---- the stage

stage-still : (rs : List Rec) (r : Rec) → is_finish r ≡ false → is_start r ≡ false → stage_in (rs ++ (r ∷ [])) ≡ stage_in rs
unfolding stage_in
stage-still rs r f e = rw (any_snoc is_finish rs r, any_snoc is_start rs r, f, e, or-false (any is_finish rs), or-false (any is_start rs))

-- no FI is among those before one that is in its place
pub not_done : (g : Stage) (rs : List Rec) (st : State) (r : Rec) → Traced g rs st → misplaced g r ≡ false → any is_finish rs ≡ false
unfolding misplaced
not_done before rs st r t m = t.2
not_done during rs st r t m = t.1
not_done done rs st r t m = absurd (false≢true (sym m))

stage-start : (rs : List Rec) (q : EsRecord) → any is_finish rs ≡ false → stage_in (rs ++ (ES q ∷ [])) ≡ during
unfolding stage_in is_finish is_start
stage-start rs q f = rw (any_snoc is_finish rs (ES q), any_snoc is_start rs (ES q), f, or-true (any is_start rs))

stage-finish : (rs : List Rec) → stage_in (rs ++ (FI ∷ [])) ≡ done
unfolding stage_in
stage-finish rs = rw (with-fi rs)

-- ---- ONE RECORD MORE, where neither 11 nor 13 stands against it

pub trace-next : (rs : List Rec) (s : Session) (r : Rec) → Trace rs s → misplaced s.stage r ≡ false → is_unbalanced (length s.state.names) r ≡ false
    → Trace (rs ++ (r ∷ [])) (next s r)
unfolding next define
trace-next rs s (ID q) t m u =
    record {
      defs = ap (define (ID q)) t.defs ∙ sym (defs-snoc rs (ID q));
      counted = unfold tick in (ap suc t.counted ∙ sym (length-snoc rs (ID q)));
      staged = t.staged ∙ sym (stage-still rs (ID q) (unfold is_finish in refl) (unfold is_start in refl));
      traced = define-traced rs (ID q) s.stage s.state t.traced m (unfold is_definition in refl) (unfold event_of in refl) (unfold is_finish in refl);
    }
trace-next rs s (NS q) t m u =
    record {
      defs = ap (define (NS q)) t.defs ∙ sym (defs-snoc rs (NS q));
      counted = unfold tick in (ap suc t.counted ∙ sym (length-snoc rs (NS q)));
      staged = t.staged ∙ sym (stage-still rs (NS q) (unfold is_finish in refl) (unfold is_start in refl));
      traced = define-traced rs (NS q) s.stage s.state t.traced m (unfold is_definition in refl) (unfold event_of in refl) (unfold is_finish in refl);
    }
trace-next rs s (ES q) t m u =
    record {
      defs = t.defs ∙ sym (defs-snoc rs (ES q));
      counted = unfold start_a in (ap suc t.counted ∙ sym (length-snoc rs (ES q)));
      staged = sym (stage-start rs q (not_done s.stage rs s.state (ES q) t.traced m));
      traced = rw t.defs (start-traced rs q s.stage s.state t.traced m);
    }
trace-next rs s (EE q) t m u =
    record {
      defs = t.defs ∙ sym (defs-snoc rs (EE q));
      counted = end-counts s.state q u ∙ ap suc t.counted ∙ sym (length-snoc rs (EE q));
      staged = t.staged ∙ sym (stage-still rs (EE q) (unfold is_finish in refl) (unfold is_start in refl));
      traced = end-traced rs q s.stage s.state t.traced m u;
    }
trace-next rs s FI t m u =
    record {
      defs = t.defs ∙ sym (defs-snoc rs FI);
      counted = unfold finish_a in (ap suc t.counted ∙ sym (length-snoc rs FI));
      staged = sym (stage-finish rs);
      traced = finish-traced rs s.stage s.state t.traced m;
    }

-- ---- no record yet

pub new-trace : Trace [] new_session
unfolding definitions_of defined_in events_of flat_map run stage_in
new-trace = record { defs = refl; counted = refl; staged = refl; traced = (refl, refl, refl) }
