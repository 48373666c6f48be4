-- A record that no refusal meets is followed by a session for which all holds again: ID and NS, ES, EE and FI one by one.
-- Assumes nothing.
use Prim.Native.Nat.{ℕ, suc, ◌+◌, ◌-◌, ◌≤◌, ◌<◌}
use native.Mathlib.Omega.{arith}
use borrow.Author.Tests.{leb-false, ltb-false}
use lib.Dec.{eqb, ltb}
use lib.ListN.{length, drop, take-append-drop}
use lib.Seq.{drop-length}
use mathlib.Core.Path.{◌≡◌, refl, ap, sym, ◌∙◌, subst}
use mathlib.Core.Bool.{true, false, ◌&&◌, false≢true}
use mathlib.Core.List.{List, [], ◌∷◌, ◌++◌, flat_map, append-nil, map-eq-nil_iff}
use mathlib.Core.Option.{none, some}
use Rattle.std.proofs.lemmas.List.Sums.{fold-append}
use Rattle.std.proofs.lemmas.Bool.{or_parts}
use Rattle.lists.specs.Lists.{only_if, foldl}
use Rattle.lists.proofs.Folds.{All-weaken}
use Rattle.paths.specs.Names.{Name}
use Rattle.tree.specs.Events.{End}
use Rattle.tree.specs.Judge.{finish_out}
use Rattle.machine.specs.Machine.{State, initial, start_a, end_open, end_if, end_a, finish_a}
use Rattle.records.specs.Readers.{Bytes, read_all, reads}
use Rattle.records.specs.Refusals.{first_of}
use Rattle.records.specs.Records.{EsRecord, EeRecord, Rec, ID, NS, ES, EE, FI, parsed, parse}
use Rattle.session_spec.specs.Definitions.{Definitions, no_definitions, define, is_definition, is_undefined, is_bound, too_many_defined, frame, replay, defined_at}
use Rattle.session_spec.specs.Layout.{TuRecord, as_tuple}
use Rattle.session_spec.specs.Session.{World, Stage, before, during, done, Session, rising, climbing, told_by, start_of, end_of, tick, next, new_tuples, new_reports, tuple_bytes, report_bytes, misplaced, is_unbalanced, rows, patch}
use Rattle.session_laws.proofs.Tests.{first-none}
use Rattle.session_laws.proofs.Stores.{parsed-framed, frame-reads, replay-one}
use Rattle.session_laws.proofs.Outs.{Grown, same-grown, finish-fit}
use Rattle.session_laws.proofs.OpenScopes.{opened-grows}
use Rattle.session_laws.proofs.States.{Fine, StartFit, start_fine, gone, parted, end-fine}
use Rattle.session_laws.proofs.Limits.{limited, start-fit, define-fit, read_short}
use Rattle.session_laws.proofs.Holds.{StageFit, NothingYet, TuFit, Holds}
use Rattle.session_laws.proofs.Patched.{Change, grows, shrinks, Follows}

-- ---- no row stands against it

pub record Clear (w : World) (s : Session) (r : Rec) (t : Session) (bs : Bytes) : Type 0 where
  pub in_place : misplaced s.stage r ≡ false
  pub number : s.state.events < 1000000
  pub target : is_undefined r s.defs ≡ false
  pub balanced : is_unbalanced (length s.state.names) r ≡ false
  pub free : is_bound r s.defs ≡ false
  pub counts : too_many_defined r s.defs ≡ false
  pub room_defs : (is_definition r && ltb (length w.definition_store) (w.definitions + length bs)) ≡ false
  pub deep : length t.state.names ≤ 64
  pub scopes : length t.state.scopes ≤ 16
  pub selections : length t.state.selections ≤ 32
  pub room_tuples : w.tuples + length (tuple_bytes s t) ≤ length w.tuple_store
  pub room_reports : w.reports + length (report_bytes s t) ≤ length w.report_store

pub cleared : (w : World) (s : Session) (r : Rec) (t : Session) (bs : Bytes) → first_of (rows w s r t bs) ≡ none → Clear w s r t bs
unfolding rows
cleared w s r t bs h =
    let h1 = first-none _ _ _ h in
    let h2 = first-none _ _ _ h1.1 in
    let h3 = first-none _ _ _ h2.1 in
    let h4 = first-none _ _ _ h3.1 in
    let h5 = first-none _ _ _ h4.1 in
    let h6 = first-none _ _ _ h5.1 in
    let h7 = first-none _ _ _ h6.1 in
    let h8 = first-none _ _ _ h7.1 in
    let h9 = first-none _ _ _ h8.1 in
    let ha = first-none _ _ _ h9.1 in
    let hb = first-none _ _ _ ha.1 in
    let q = or_parts (too_many_defined r s.defs) (is_definition r && ltb (length w.definition_store) (w.definitions + length bs)) h6.0 in
    record {
      in_place = h1.0;
      number = leb-false 1000000 s.state.events h2.0;
      target = h3.0;
      balanced = h4.0;
      free = h5.0;
      counts = q.0;
      room_defs = q.1;
      deep = ltb-false 64 (length t.state.names) h7.0;
      scopes = ltb-false 16 (length t.state.scopes) h8.0;
      selections = ltb-false 32 (length t.state.selections) h9.0;
      room_tuples = ltb-false (length w.tuple_store) (w.tuples + length (tuple_bytes s t)) ha.0;
      room_reports = ltb-false (length w.report_store) (w.reports + length (report_bytes s t)) hb.0;
    }

-- ---- nothing read yet

pub initial-fine : (d : Definitions) (k : ℕ) → Fine d (initial k)
unfolding rising climbing told_by flat_map
initial-fine d k =
    record {
      names = tt;
      deep = omega arith;
      scopes = tt;
      rise = refl;
      scopes_few = omega arith;
      selections = tt;
      climb = refl;
      selections_few = omega arith;
      out = record { tuples = tt; reports = tt; told = refl };
      few = omega arith;
      opened = omega arith;
    }

no_change : {A : Type 0} (l : List A) → Change l l
no_change l = grows [] (sym (append-nil l))

tick-initial : (st : State) → st ≡ initial st.events → tick st ≡ initial (suc st.events)
unfolding tick
tick-initial st h = ap tick h

-- ---- ID and NS come before the first ES

early-stage : (g : Stage) (r : Rec) → is_definition r ≡ true → misplaced g r ≡ false → g ≡ before
unfolding misplaced
early-stage before r i h = refl
early-stage during r i h = absurd (false≢true (sym h ∙ i))
early-stage done r i h = absurd (false≢true (sym h))

tu-later : (d : Definitions) (m n : ℕ) → m ≤ n → (t : TuRecord) → TuFit d m t → TuFit d n t
tu-later d m n h t f = record { defined = f.defined; given = omega (arith, f.given) }

-- the session after a definition
abbrev pub with_def : Session → Rec → Session
with_def s r = record { defs = define r s.defs; stage = s.stage; state = tick s.state }

module _ (w : World) (s : Session) (bs : Bytes) (h : Holds w s) where
  nothing_put : (r : Rec) → NothingYet before w → NothingYet before (patch w s r (with_def s r) bs)
  unfolding patch tick tuple_bytes report_bytes new_tuples new_reports
  nothing_put r u =
      (rw (u.0, drop-length s.state.out.tuples) (unfold flat_map in refl), rw (u.1, drop-length s.state.out.reports) (unfold flat_map in refl))

  define-follows : (r : Rec) → parse bs ≡ parsed r → is_definition r ≡ true → Clear w s r (with_def s r) bs → Follows w s (with_def s r) r bs h.raws h.tus
  unfolding tick only_if
  define-follows r p i c =
      let g : s.stage ≡ before = early-stage s.stage r i c.in_place in
      let z : s.state ≡ initial s.state.events = subst (λ (x : Stage). StageFit x s.state) g h.stage in
      let y : tick s.state ≡ initial (suc s.state.events) = tick-initial s.state z in
      let whole : only_if (is_definition r) bs ≡ bs = rw i in
      let u : NothingYet before w = subst (λ (x : Stage). NothingYet x w) g h.unbegun in
      let v : s.state.out.tuples ≡ [] = ap (λ (x : State). x.out.tuples) z in
      let x : h.tus ≡ [] = (map-eq-nil_iff (as_tuple s.defs)).0 (h.tus_are ∙ v) in
      record {
        more = bs ∷ [];
        more_read = rw whole (frame-reads bs (parsed-framed bs r p));
        made = fold-append replay (some no_definitions) h.raws (bs ∷ []) ∙ rw h.made (replay-one bs r s.defs p i c.target c.free c.counts);
        defs_fit = define-fit r s.defs (limited bs r p) h.defs_fit;
        fine = subst (Fine (define r s.defs)) (sym y) (initial-fine (define r s.defs) (suc s.state.events));
        early = omega (arith, c.number);
        stage = subst (λ (x : Stage). StageFit x (tick s.state)) (sym g) y;
        unbegun = subst (λ (x : Stage). NothingYet x (patch w s r (with_def s r) bs)) (sym g) (nothing_put r u);
        tus_are = rw (x, v);
        tus_fit = rw x tt;
        most = 0;
        grown = same-grown s.state.out 0;
        names = no_change s.state.names;
        scopes = no_change s.state.scopes;
        room_defs = rw whole (ltb-false (length w.definition_store) (w.definitions + length bs) (rw i at c.room_defs));
        room_tuples = c.room_tuples;
        room_reports = c.room_reports;
      }

  -- ---- a record that defines nothing

  nothing_read : reads frame [] ≡ some []
  unfolding reads read_all
  nothing_read = refl

  still-made : foldl replay (some no_definitions) (h.raws ++ []) ≡ some s.defs
  still-made = rw append-nil h.made

  defs-room : w.definitions + length {A = ℕ} [] ≤ length w.definition_store
  defs-room = omega (arith, h.definitions.room)

  -- ---- ES

  start-follows : (r : EsRecord) → parse bs ≡ parsed (ES r) → Clear w s (ES r) (next s (ES r)) bs → Follows w s (next s (ES r)) (ES r) bs h.raws h.tus
  unfolding next is_definition only_if
  start-follows r p c =
      let sf : StartFit s.defs (start_of r) = start-fit s.defs r (limited bs (ES r) p) c.target in
      let q = start_fine s.defs h.defs_fit s.state h.fine (start_of r) sf c.deep c.scopes c.selections in
      record {
        more = [];
        more_read = nothing_read;
        made = still-made;
        defs_fit = h.defs_fit;
        fine = q.0;
        early = unfold start_a in omega (arith, c.number);
        stage = tt;
        unbegun = tt;
        tus_are = h.tus_are;
        tus_fit = All-weaken (TuFit s.defs s.state.count) (TuFit s.defs (start_a (defined_at s.defs) s.state (start_of r)).count)
            (tu-later s.defs s.state.count (start_a (defined_at s.defs) s.state (start_of r)).count
            (unfold start_a in (opened-grows (defined_at s.defs) s.state.count (start_of r).numbers).0)) h.tus h.tus_fit;
        most = 8;
        grown = q.1;
        names = unfold start_a in grows ((start_of r).name ∷ []) refl;
        scopes = unfold start_a in grows _ refl;
        room_defs = defs-room;
        room_tuples = c.room_tuples;
        room_reports = c.room_reports;
      }

  -- ---- EE

  end-is-open : (st : State) (e : End) (names : List Name) → eqb (length names) 0 ≡ false → end_if names st e ≡ end_open st e
  unfolding end_if
  end-is-open st e [] k = absurd (false≢true (sym k))
  end-is-open st e (n ∷ l) k = refl

  end-stage : (g : Stage) (st : State) (r : EeRecord) → StageFit g st → eqb (length st.names) 0 ≡ false → misplaced g (EE r) ≡ false → g ≡ during
  unfolding misplaced
  end-stage before st r f k m = absurd (false≢true (sym k ∙ ap (λ (x : State). eqb (length x.names) 0) f))
  end-stage during st r f k m = refl
  end-stage done st r f k m = absurd (false≢true (sym m))

  ended : (r : EeRecord) → Clear w s (EE r) (next s (EE r)) bs → end_a s.state (end_of r) ≡ end_open s.state (end_of r)
  unfolding end_a is_unbalanced
  ended r c = end-is-open s.state (end_of r) s.state.names c.balanced

  abbrev with_end : EeRecord → Session
  with_end r = record { defs = s.defs; stage = s.stage; state = end_open s.state (end_of r) }

  next-end : (r : EeRecord) → Clear w s (EE r) (next s (EE r)) bs → next s (EE r) ≡ with_end r
  unfolding next
  next-end r c = λ i. record { defs = s.defs; stage = s.stage; state = ended r c i }

  end-follows : (r : EeRecord) → parse bs ≡ parsed (EE r) → Clear w s (EE r) (next s (EE r)) bs → Follows w s (next s (EE r)) (EE r) bs h.raws h.tus
  unfolding is_definition only_if is_unbalanced end_open
  end-follows r p c =
      let e : next s (EE r) ≡ with_end r = next-end r c in
      let k : Clear w s (EE r) (with_end r) bs = subst (λ (x : Session). Clear w s (EE r) x bs) e c in
      let short : length (end_of r).key ≤ 126 = read_short r bs p in
      let q = end-fine s.defs s.state h.fine (end_of r) short in
      let g : s.stage ≡ during = end-stage s.stage s.state r h.stage c.balanced c.in_place in
      subst (λ (x : Session). Follows w s x (EE r) bs h.raws h.tus) (sym e)
      (record {
        more = [];
        more_read = nothing_read;
        made = still-made;
        defs_fit = h.defs_fit;
        fine = q.0;
        early = omega (arith, c.number);
        stage = subst (λ (x : Stage). StageFit x (end_open s.state (end_of r))) (sym g) tt;
        unbegun = subst (λ (x : Stage). NothingYet x (patch w s (EE r) (with_end r) bs)) (sym g) tt;
        tus_are = h.tus_are;
        tus_fit = h.tus_fit;
        most = 32;
        grown = q.1;
        names = shrinks (drop (length s.state.names - 1) s.state.names) (sym (take-append-drop (length s.state.names - 1) s.state.names));
        scopes = shrinks (gone s.defs s.state h.fine (end_of r) short) (parted s.defs s.state h.fine (end_of r) short);
        room_defs = defs-room;
        room_tuples = k.room_tuples;
        room_reports = k.room_reports;
      })

  -- ---- FI

  no_names : (l : List Name) → ltb 0 (length l) ≡ false → l ≡ []
  no_names [] k = refl
  no_names (n ∷ l) k = let z = ltb-false 0 (suc (length l)) k in absurd (omega arith)

  finish-fine : Fine s.defs (finish_a s.state) × Grown s.state.out (finish_a s.state).out 0
  unfolding finish_a
  finish-fine =
      let q = finish-fit s.defs s.state.count (suc s.state.events) s.state.out h.fine.out in (
        record {
          names = h.fine.names;
          deep = h.fine.deep;
          scopes = h.fine.scopes;
          rise = h.fine.rise;
          scopes_few = h.fine.scopes_few;
          selections = h.fine.selections;
          climb = h.fine.climb;
          selections_few = h.fine.selections_few;
          out = q.0;
          few = unfold finish_out in omega (arith, h.fine.few);
          opened = omega (arith, h.fine.opened);
        },
        q.1,
      )

  finish-follows : Clear w s FI (next s FI) bs → Follows w s (next s FI) FI bs h.raws h.tus
  unfolding next is_definition only_if is_unbalanced
  finish-follows c =
      record {
        more = [];
        more_read = nothing_read;
        made = still-made;
        defs_fit = h.defs_fit;
        fine = finish-fine.0;
        early = unfold finish_a in omega (arith, c.number);
        stage = unfold finish_a in no_names s.state.names c.balanced;
        unbegun = tt;
        tus_are = h.tus_are;
        tus_fit = unfold finish_a in h.tus_fit;
        most = 0;
        grown = finish-fine.1;
        names = unfold finish_a in no_change s.state.names;
        scopes = unfold finish_a in no_change s.state.scopes;
        room_defs = defs-room;
        room_tuples = c.room_tuples;
        room_reports = c.room_reports;
      }

  pub follows : (r : Rec) → parse bs ≡ parsed r → first_of (rows w s r (next s r) bs) ≡ none → Follows w s (next s r) r bs h.raws h.tus
  follows (ID r) p e = unfold next is_definition in define-follows (ID r) p refl (cleared w s (ID r) (next s (ID r)) bs e)
  follows (NS r) p e = unfold next is_definition in define-follows (NS r) p refl (cleared w s (NS r) (next s (NS r)) bs e)
  follows (ES r) p e = start-follows r p (cleared w s (ES r) (next s (ES r)) bs e)
  follows (EE r) p e = end-follows r p (cleared w s (EE r) (next s (EE r)) bs e)
  follows FI p e = finish-follows (cleared w s FI (next s FI) bs e)
