-- `same-lengths`: two sessions over stores and areas of the same lengths answer the same records alike and leave the same, whatever the bytes that they were
-- lent. By induction on the calls: a call looks at the session that its world decodes to, at the lengths and at the used numbers, and at nothing else.
-- Assumes nothing.
use Prim.Native.Nat.{ℕ, ◌+◌, ◌≤◌}
use lib.ListN.{length, take}
use mathlib.Core.Path.{◌≡◌, refl, ap, sym, ◌∙◌, subst}
use mathlib.Core.Bool.{Bool, true, false}
use mathlib.Core.List.{List, [], ◌∷◌, ◌++◌}
use mathlib.Core.Option.{Option, none, some}
use Rattle.lists.specs.Lists.{only_if, over}
use Rattle.lists.proofs.Writes.{length_over, take-over}
use Rattle.records.specs.Readers.{Bytes}
use Rattle.records.specs.Refusals.{Refusal, first_of}
use Rattle.records.specs.Records.{Rec, Parsed, unparsed, parsed, parse}
use Rattle.session_spec.specs.Definitions.{is_definition}
use Rattle.session_spec.specs.Session as session
use Rattle.session_spec.specs.Session.{World, Session, areas_fit, decode, next, rows, patch, Reply, taken, settled, considered, attempt, step, set_up}
use Rattle.session_spec.specs.Runs.{session_of, run_calls, accepted}
use Rattle.session_spec.specs.Former.{SameLengths, SameLeft}
use Rattle.session_laws.proofs.Holds.{Holds}
use Rattle.session_laws.proofs.Follows.{follows}
use Rattle.runs.proofs.Refused.{short-decode}
use Rattle.runs.proofs.Claims.{run-decodes}
use Rattle.runs.proofs.WellFormed.{well-formed, taken-decodes}

-- THE SAME TO EVERY CALL: the session that is decoded, what `SameLeft` says, and how long the stores are.
pub record Agree (v w : World) : Type 0 where
  pub decodes : decode v ≡ decode w
  pub left : SameLeft v w
  pub definition_room : length v.definition_store ≡ length w.definition_store
  pub tuple_room : length v.tuple_store ≡ length w.tuple_store
  pub report_room : length v.report_store ≡ length w.report_store

-- ---- one call

-- the refusals ask the same
same_rows : (v w : World) → Agree v w → (s : Session) (r : Rec) (t : Session) (x : Bytes) → rows v s r t x ≡ rows w s r t x
unfolding rows
same_rows v w q s r t x =
    rw (q.definition_room, q.left.definitions, q.tuple_room, q.left.tuples, q.report_room, q.left.reports)

-- what is written behind the used bytes leaves a store as long as it was
same-room : (l k : Bytes) (m n : ℕ) (vs : Bytes) → length l ≡ length k → m + length vs ≤ length l → n + length vs ≤ length k
    → length (over l m vs) ≡ length (over k n vs)
same-room l k m n vs e h g = length_over l m vs h ∙ e ∙ sym (length_over k n vs g)

-- and stands behind the same bytes
same-grown : (l k : Bytes) (m n : ℕ) (vs : Bytes) → m ≤ length l → n ≤ length k → take m l ≡ take n k
    → take (m + length vs) (over l m vs) ≡ take (n + length vs) (over k n vs)
same-grown l k m n vs h g u = take-over l m vs h ∙ ap (λ (x : Bytes). x ++ vs) u ∙ sym (take-over k n vs g)

module _ (v w : World) (q : Agree v w) (s : Session) (dv : decode v ≡ some s) (dw : decode w ≡ some s) (x : Bytes) (r : Rec) (p : parse x ≡ parsed r) where
  abbrev t : Session
  t = next s r

  -- nothing stands against the record
  abbrev clear : World → Type 0
  clear u = first_of (rows u s r t x) ≡ none

  taken_step : (u : World) → decode u ≡ some s → clear u → step u x ≡ (taken, patch u s r t x)
  unfolding step attempt considered settled
  taken_step u d e = rw (d, p, e)

  patched-decodes : (u : World) → decode u ≡ some s → clear u → decode (patch u s r t x) ≡ some t
  patched-decodes u d e =
      let o = taken_step u d e in
      subst (λ (y : Reply × World). decode y.1 ≡ some t) o (taken-decodes u s x r d p (ap (λ (y : Reply × World). y.0) o))

  module _ (ev : clear v) (ew : clear w) where
    hv : Holds v s
    hv = well-formed v s dv

    hw : Holds w s
    hw = well-formed w s dw

    patched-left : SameLeft (patch v s r t x) (patch w s r t x)
    patched-left =
        unfold patch in
        record {
          events = refl;
          running = refl;
          definitions = ap (λ (y : ℕ). y + length (only_if (is_definition r) x)) q.left.definitions;
          tuples = ap (λ (y : ℕ). y + length (session.tuple_bytes s t)) q.left.tuples;
          reports = ap (λ (y : ℕ). y + length (session.report_bytes s t)) q.left.reports;
          definition_bytes = same-grown v.definition_store w.definition_store v.definitions w.definitions (only_if (is_definition r) x)
              hv.definitions.room hw.definitions.room q.left.definition_bytes;
          tuple_bytes = same-grown v.tuple_store w.tuple_store v.tuples w.tuples (session.tuple_bytes s t) hv.tuples.room hw.tuples.room q.left.tuple_bytes;
          report_bytes = same-grown v.report_store w.report_store v.reports w.reports (session.report_bytes s t) hv.reports.room hw.reports.room q.left.report_bytes;
        }

    patched-agree : Agree (patch v s r t x) (patch w s r t x)
    patched-agree =
        let fv = follows v s x hv r p ev in
        let fw = follows w s x hw r p ew in
        record {
          decodes = patched-decodes v dv ev ∙ sym (patched-decodes w dw ew);
          left = patched-left;
          definition_room = unfold patch in same-room v.definition_store w.definition_store v.definitions w.definitions (only_if (is_definition r) x) q.definition_room fv.room_defs fw.room_defs;
          tuple_room = unfold patch in same-room v.tuple_store w.tuple_store v.tuples w.tuples (session.tuple_bytes s t) q.tuple_room fv.room_tuples fw.room_tuples;
          report_room = unfold patch in same-room v.report_store w.report_store v.reports w.reports (session.report_bytes s t) q.report_room fv.room_reports fw.room_reports;
        }

-- what two calls answer and leave is the same
record Alike (o p : Reply × World) : Type 0 where
  reply : o.0 ≡ p.0
  world : Agree o.1 p.1

settled-alike : (v w : World) (q : Agree v w) (s : Session) → decode v ≡ some s → decode w ≡ some s → (x : Bytes) (r : Rec) → parse x ≡ parsed r
    → (o : Option Refusal) → first_of (rows v s r (next s r) x) ≡ o → first_of (rows w s r (next s r) x) ≡ o
    → Alike (settled v s r (next s r) x o) (settled w s r (next s r) x o)
unfolding settled
settled-alike v w q s dv dw x r p none ev ew = record { reply = refl; world = patched-agree v w q s dv dw x r p ev ew }
settled-alike v w q s dv dw x r p (some c) ev ew = record { reply = refl; world = q }

considered-alike : (v w : World) → Agree v w → (s : Session) → decode v ≡ some s → decode w ≡ some s → (x : Bytes) (p : Parsed) → parse x ≡ p
    → Alike (considered v s x p) (considered w s x p)
unfolding considered
considered-alike v w q s dv dw x (unparsed c) e = record { reply = refl; world = q }
considered-alike v w q s dv dw x (parsed r) e =
    let z : first_of (rows w s r (next s r) x) ≡ first_of (rows v s r (next s r) x) = ap first_of (sym (same_rows v w q s r (next s r) x)) in
    subst (λ (o : Option Refusal). Alike (settled v s r (next s r) x (first_of (rows v s r (next s r) x))) (settled w s r (next s r) x o)) (sym z)
    (settled-alike v w q s dv dw x r e (first_of (rows v s r (next s r) x)) refl z)

attempt-alike : (v w : World) → Agree v w → (x : Bytes) (o : Option Session) → decode v ≡ o → decode w ≡ o → Alike (attempt v x o) (attempt w x o)
unfolding attempt
attempt-alike v w q x none dv dw = record { reply = refl; world = q }
attempt-alike v w q x (some s) dv dw = considered-alike v w q s dv dw x (parse x) refl

step-alike : (v w : World) → Agree v w → (x : Bytes) → Alike (step v x) (step w x)
unfolding step
step-alike v w q x =
    subst (λ (o : Option Session). Alike (attempt v x o) (attempt w x (decode w))) (sym q.decodes) (attempt-alike v w q x (decode w) q.decodes refl)

-- ---- lists of calls, from any two worlds that agree

pub agree-run : (v w : World) → Agree v w → (xs : List Bytes) → Agree (run_calls v xs) (run_calls w xs)
unfolding run_calls
agree-run v w q [] = q
agree-run v w q (x ∷ xs) = agree-run (step v x).1 (step w x).1 (step-alike v w q x).world xs

pub agree-reply : (v w : World) → Agree v w → (xs : List Bytes) (x : Bytes) → (step (run_calls v xs) x).0 ≡ (step (run_calls w xs) x).0
agree-reply v w q xs x = (step-alike (run_calls v xs) (run_calls w xs) (agree-run v w q xs) x).reply

-- ---- from set-up

-- a session just set up over what a world has
abbrev pub again : World → World
again w = set_up w.definition_store w.tuple_store w.report_store w.names w.scopes w.cells w.path_area

-- with areas that are long enough it decodes to a session just set up
begun-decodes : (w : World) → areas_fit (again w) ≡ true → decode (again w) ≡ some (session_of [])
unfolding run_calls accepted
begun-decodes w h = run-decodes w.definition_store w.tuple_store w.report_store w.names w.scopes w.cells w.path_area h []

-- both have such areas, or neither has
module _ (v w : World) (l : SameLengths v w) (areas : areas_fit (again v) ≡ areas_fit (again w)) where
  begun-alike : (f : Bool) → areas_fit (again v) ≡ f → areas_fit (again w) ≡ f → decode (again v) ≡ decode (again w)
  begun-alike true e g = begun-decodes v e ∙ sym (begun-decodes w g)
  begun-alike false e g = short-decode (again v) e ∙ sym (short-decode (again w) g)

  begun-agree : Agree (again v) (again w)
  begun-agree =
      record {
        decodes = begun-alike (areas_fit (again w)) areas refl;
        left = unfold set_up in record { events = refl; running = refl; definitions = refl; tuples = refl; reports = refl; definition_bytes = refl; tuple_bytes = refl; report_bytes = refl };
        definition_room = unfold set_up in l.definition_stores;
        tuple_room = unfold set_up in l.tuple_stores;
        report_room = unfold set_up in l.report_stores;
      }

  -- THE SAME LENGTHS, THE SAME RUN: after any records the numbers and the used bytes of the stores,
  pub same-lengths : (xs : List Bytes) → SameLeft (run_calls (again v) xs) (run_calls (again w) xs)
  same-lengths xs = (agree-run (again v) (again w) begun-agree xs).left

  -- and every reply
  pub same-replies : (xs : List Bytes) (x : Bytes) → (step (run_calls (again v) xs) x).0 ≡ (step (run_calls (again w) xs) x).0
  same-replies xs x = agree-reply (again v) (again w) begun-agree xs x
