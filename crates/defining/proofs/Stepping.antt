-- What is decided is what `step` asks of a definition, in a world that decodes: the stage number says the stage, and the used bytes read as the definitions of the session.
-- Assumes nothing.
use Prim.Native.Nat.{ℕ, suc, ◌+◌}
use native.Mathlib.Omega.{arith}
use lib.Dec.{eqb, ltb}
use lib.ListN.{length, take}
use borrow.Author.Tests.{ne_eqb}
use mathlib.Core.Path.{◌≡◌, refl, ap, sym, ◌∙◌}
use mathlib.Core.Bool.{Bool, true, false, ◌||◌, not}
use mathlib.Core.List.{List, [], ◌∷◌}
use mathlib.Core.Option.{Option, some}
use Rattle.records.specs.Readers.{Bytes}
use Rattle.records.specs.Refusals.{Refusal, undefined, bound_twice, definitions_full, first_of}
use Rattle.records.specs.Records.{IdRecord, NsRecord, Rec, ID, NS}
use Rattle.session_spec.specs.Definitions.{is_definition, is_undefined, is_bound, too_many_defined}
use Rattle.session_spec.specs.Layout.{Counts, unpack}
use Rattle.session_spec.specs.Session.{World, Stage, before, during, done, Session, stage_number, misplaced, counts_of, decode, step}
use Rattle.session_laws.proofs.Holds.{Holds, counts-back, defs-read}
use Rattle.runs.proofs.WellFormed.{well-formed}
use Rattle.definition_store.specs.Store.{defined_by, verdict}
use Rattle.definition_store.proofs.Verdicts.{id-verdict-is, ns-verdict-is}
use Rattle.record_places.specs.declared.Ns.{Ns}
use Rattle.record_places.specs.Places.{text_in, ns_in}
use Rattle.open_scopes.specs.declared.Scope.{Scope}
use Rattle.open_scopes.specs.declared.Numbers.{Numbers}
use Rattle.worlds.specs.Replies.{reply_of}
use Rattle.worlds.specs.Worlds.{world_of}
use Rattle.worlds.specs.declared.Done.{Done}
use Rattle.plans.specs.Plans.{answered, definition_rows, defined}
use Rattle.plans.proofs.Steps.{step-id, step-ns}
use Rattle.defining.specs.Deciding.{room_for, against, decided, judged_by, id_judged, ns_judged, Answers}
use Rattle.defining.specs.Defining.{TakesId, TakesNs}

-- ---- what decodes

-- a definition is out of place where the stage number is not 0
placed : (g : Stage) (d : ℕ) (r : Rec) → is_definition r ≡ true → not (eqb (stage_number g d) 0) ≡ misplaced g r
unfolding stage_number misplaced
placed before d r i = refl
placed during d r i = rw (ne_eqb (suc d) 0 (λ e. omega arith), i)
placed done d r i = refl

module _ (w : World) (s : Session) (h : Holds w s) where
  stage_is : (unpack w.running).stage ≡ stage_number s.stage (length s.state.names)
  unfolding counts_of
  stage_is = ap (λ (c : Counts). c.stage) (counts-back w s h)

  late_is : (r : Rec) → is_definition r ≡ true → not (eqb (unpack w.running).stage 0) ≡ misplaced s.stage r
  late_is r i = ap (λ (n : ℕ). not (eqb n 0)) stage_is ∙ placed s.stage (length s.state.names) r i

-- ---- the rows

weighed : (u b f : Bool) (used size room : ℕ)
    → against (verdict u b f) used size room ≡ first_of ((u, undefined) ∷ (b, bound_twice) ∷ (f || ltb room (used + size), definitions_full) ∷ [])
unfolding against verdict room_for first_of
weighed true b f used size room = refl
weighed false true f used size room = refl
weighed false false true used size room = refl
weighed false false false used size room = refl

module _ (n : Numbers) (list : List Scope) (paths : ℕ) (store tuples reports names cells rec : Bytes) (s : Session) where
  abbrev w : World
  w = world_of n list paths store tuples reports names cells

  -- the verdict is what the session asks of the record
  abbrev Judges : Option Refusal → Rec → Type 0
  Judges v r = v ≡ verdict (is_undefined r s.defs) (is_bound r s.defs) (too_many_defined r s.defs)

  module _ (d : decode w ≡ some s) where
    rows_are : (v : Option Refusal) (r : Rec) → is_definition r ≡ true → Judges v r → decided n v (length rec) (length store) ≡ first_of (definition_rows w s r rec)
    unfolding decided definition_rows first_of
    rows_are v r i j =
        rw (late_is w s (well-formed w s d) r i, j, weighed (is_undefined r s.defs) (is_bound r s.defs) (too_many_defined r s.defs) n.definitions (length rec) (length store))

    id-judges : (i : IdRecord) → Judges (id_judged (take n.definitions store)) (ID i)
    unfolding id_judged defined_by judged_by
    id-judges i = rw (defs-read w s (well-formed w s d)) (id-verdict-is s.defs i)

    ns-judges : (b : NsRecord) → Judges (ns_judged (take n.definitions store) b.target b.prefix) (NS b)
    unfolding ns_judged defined_by judged_by
    ns-judges b =
        let e = defs-read w s (well-formed w s d) in
        rw e (ns-verdict-is (take n.definitions store) s.defs b e)

    -- what is answered by that verdict is what `step` is
    steps-by : (v : Option Refusal) (r : Rec) (made : Done) (after : Bytes) → is_definition r ≡ true → Judges v r → Answers n list v rec store made after
        → step w rec ≡ answered w (defined w rec) (first_of (definition_rows w s r rec))
        → (reply_of made.reply, world_of made.numbers made.list paths after tuples reports names cells) ≡ step w rec
    steps-by v r made after i j a e =
        a.leaves paths tuples reports names cells ∙ ap (λ (o : Option Refusal). answered w (defined w rec) o) (rows_are v r i j) ∙ sym e

-- ---- THE CALLS

module _ (n : Numbers) (list : List Scope) (rec store : Bytes) (r : Done) (after : Bytes) (v : Option Refusal) where
  pub takes-id : v ≡ id_judged (take n.definitions store) → Answers n list v rec store r after → TakesId n list rec store r after
  takes-id e a =
      record {
        steps = λ paths tuples reports names cells s i d p.
            steps-by n list paths store tuples reports names cells rec s d v (ID i) r after (unfold is_definition in refl)
            (e ∙ id-judges n list paths store tuples reports names cells rec s d i) a
            (step-id (world_of n list paths store tuples reports names cells) rec s d i p);
      }

  pub takes-ns : (ns : Ns) → v ≡ ns_judged (take n.definitions store) ns.target (text_in rec ns.prefix) → Answers n list v rec store r after → TakesNs n list ns rec store r after
  unfolding ns_in
  takes-ns ns e a =
      let b : NsRecord = record { target = ns.target; prefix = text_in rec ns.prefix; uri = text_in rec ns.uri } in
      record {
        steps = λ paths tuples reports names cells s d p.
            steps-by n list paths store tuples reports names cells rec s d v (NS b) r after (unfold is_definition in refl)
            (e ∙ ns-judges n list paths store tuples reports names cells rec s d b) a
            (step-ns (world_of n list paths store tuples reports names cells) rec s d b p);
      }
