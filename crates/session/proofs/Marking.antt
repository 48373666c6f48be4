-- What a call leaves of the tuple store: its used bytes are those of before and, behind them, new ones; so marks of the old and of the new are marks of all.
-- Assumes nothing.
use Prim.Native.Nat.{ℕ, ◌+◌, ◌-◌, ◌≤◌}
use native.Mathlib.Omega.{arith}
use lib.ListN.{take}
use lib.Seq.{take-add}
use mathlib.Core.Path.{◌≡◌, refl, ap, sym, ◌∙◌, subst}
use mathlib.Core.List.{List, ◌++◌}
use mathlib.Core.Option.{Option, none, some}
use Rattle.lists.specs.Lists.{part}
use Rattle.lists.proofs.Writes.{take-before-over}
use Rattle.records.specs.Readers.{Bytes}
use Rattle.records.specs.Records.{Rec, Parsed, unparsed, parsed, parse}
use Rattle.records.specs.Refusals.{Refusal}
use Rattle.session_spec.specs.Definitions.{frame}
use Rattle.session_spec.specs.Session.{World, Session, decode, next, tuple_bytes, patch, settled, considered, attempt, step}
use Rattle.session_laws.proofs.Holds.{Holds}
use Rattle.runs.proofs.WellFormed.{well-formed}
use Rattle.output_stores.specs.Stores.{standing}
use Rattle.tuple_marks.specs.Marks.{with_marks, AllMarked}
use Rattle.tuple_marks.proofs.Growing.{marked-then, first-marked}

-- the used bytes of before stay at the front
record Stays (w v : World) : Type 0 where
  pub more : w.tuples ≤ v.tuples
  pub front : take w.tuples v.tuple_store ≡ take w.tuples w.tuple_store

as_it_was : (w : World) → Stays w w
as_it_was w = record { more = omega arith; front = refl }

module _ (w : World) (s : Session) (x : Bytes) (h : Holds w s) where
  settled-stays : (r : Rec) (o : Option Refusal) → Stays w (settled w s r (next s r) x o).1
  unfolding settled patch
  settled-stays r none =
      record { more = omega arith; front = take-before-over w.tuple_store w.tuples (tuple_bytes s (next s r)) w.tuples (omega arith) h.tuples.room }
  settled-stays r (some c) = as_it_was w

  considered-stays : (p : Parsed) → Stays w (considered w s x p).1
  unfolding considered
  considered-stays (unparsed c) = as_it_was w
  considered-stays (parsed r) = settled-stays r _

step_stays : (w : World) (s : Session) (x : Bytes) → decode w ≡ some s → Stays w (step w x).1
unfolding step attempt
step_stays w s x d = rw d (considered-stays w s x (well-formed w s d) (parse x))

-- THE LAW of the marks of a run
pub marked_more : (w : World) (s : Session) (x : Bytes) → decode w ≡ some s → (v : World) → v ≡ (step w x).1
    → (m m' : List ℕ) → m' ≡ with_marks m (standing frame (part v.tuple_store w.tuples (v.tuples - w.tuples)))
    → AllMarked m (take w.tuples w.tuple_store) → AllMarked m' (take v.tuples v.tuple_store)
marked_more w s x d v e m m' f a =
    let st : Stays w v = subst (Stays w) (sym e) (step_stays w s x d) in
    let new : Bytes = part v.tuple_store w.tuples (v.tuples - w.tuples) in
    let k : w.tuples + (v.tuples - w.tuples) ≡ v.tuples = omega (arith, st.more) in
    let all : take w.tuples w.tuple_store ++ new ≡ take v.tuples v.tuple_store =
    ap (λ (l : Bytes). l ++ new) (sym st.front) ∙ sym (take-add w.tuples (v.tuples - w.tuples) v.tuple_store) ∙ ap (λ (n : ℕ). take n v.tuple_store) k in
    let h = well-formed w s d in
    subst (λ (l : List ℕ). AllMarked l (take v.tuples v.tuple_store)) (sym f)
    (subst (AllMarked (with_marks m (standing frame new))) all (marked-then m (take w.tuples w.tuple_store) new h.tus h.tuples.read a))

-- before the first frame all that stands in the store is marked
pub ready : (m m' : List ℕ) (used xs : Bytes) → used ≡ xs → m' ≡ with_marks m (standing frame used) → AllMarked m' xs
ready m m' used xs e f = subst (AllMarked m') e (subst (λ (l : List ℕ). AllMarked l used) (sym f) (first-marked m used))
