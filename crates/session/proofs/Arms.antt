-- Each kind of record: what its own call leaves, with all else as it was, is what the record call leaves. A record that is walked to a refusal changes nothing.
-- Assumes nothing.
use Prim.Native.Nat.{ℕ, ◌≤◌}
use lib.ListN.{length}
use mathlib.Core.Path.{◌≡◌, refl, ap, sym, ◌∙◌, subst}
use mathlib.Core.Bool.{true, false}
use mathlib.Core.List.{List}
use mathlib.Core.Option.{none, some}
use Rattle.records.specs.Readers.{Bytes}
use Rattle.records.specs.Records.{IdRecord, ID, FI, Parsed, unparsed, parsed, parse}
use Rattle.record_places.specs.declared.Id.{Id}
use Rattle.record_places.specs.declared.Ns.{Ns}
use Rattle.record_places.specs.declared.Refusal as walk
use Rattle.record_places.specs.declared.Es.{Es}
use Rattle.record_places.specs.declared.Ee.{Ee}
use Rattle.std.specs.declared.result.Result.TheVariants.{Ok, Err}
use Rattle.record_places.specs.declared.Record.TheVariants as walked
use Rattle.record_places.specs.Places.{id_in, ns_in, es_in, ee_in, refusal_of, parsed_by, Inside, InsideEs, Walked, Walks}
use Rattle.session_spec.specs.Session.{World, Session, Reply, decode, step}
use Rattle.open_scopes.specs.declared.Scope.{Scope}
use Rattle.open_scopes.specs.declared.Numbers.{Numbers}
use Rattle.worlds.specs.Replies as reply
use Rattle.worlds.specs.Replies.{reply_of}
use Rattle.worlds.specs.Worlds.{world_of}
use Rattle.worlds.specs.PathArea.{PathArea}
use Rattle.session_spec.specs.Definitions.{is_some}
use Rattle.well_formed.proofs.Decodes.{well-formed-is, unfit-is}
use Rattle.runs.proofs.WellFormed.{well-formed}
use Rattle.plans.proofs.Steps.{step-unfit, step-unparsed}
use Rattle.defining.specs.Defining.{TakesId, TakesNs}
use Rattle.event_answers.specs.Finishing.{TakesFi}
use Rattle.event_answers.specs.Starting.{TakesEs}
use Rattle.event_answers.specs.Ending.{TakesEe}
use Rattle.worlds.specs.declared.Done.{Done}
use Rattle.calls.specs.Calls.{Call, done_with, Called, TakesRecord}

-- ---- a pair of reply and world

pub pair-call : (before : World) (rec : Bytes) (r : reply.Reply) (after : World) → ◌≡◌ {A = Reply × World} (reply_of r, after) (step before rec) → Call before rec r after
pair-call before rec r after e = record { replies = ap (λ (p : Reply × World). p.0) e; leaves = ap (λ (p : Reply × World). p.1) e }

same_area : (r : reply.Reply) (paths : Bytes) → PathArea r paths paths
same_area r paths = record { size = refl; behind = refl; kept = λ q. refl }

module _ (n : Numbers) (list : List Scope) (rec defs tuples reports paths names cells : Bytes) where
  abbrev w : World
  w = world_of n list (length paths) defs tuples reports names cells

  -- 10
  pub unfit-called : false ≡ is_some (decode w) → Called n list rec defs tuples reports paths names cells (done_with reply.Unfit n list) defs tuples reports paths names cells
  unfit-called d = record { calls = pair-call w rec reply.Unfit w (sym (step-unfit w rec (unfit-is w d))); area = same_area reply.Unfit paths }

  -- what is answered is what its own call answers
  pub answered : (defs' tuples' reports' paths' names' cells' : Bytes) (d r : Done) → d ≡ r
      → TakesRecord n list rec defs tuples reports paths names cells r defs' tuples' reports' paths' names' cells'
      → TakesRecord n list rec defs tuples reports paths names cells d defs' tuples' reports' paths' names' cells'
  answered defs' tuples' reports' paths' names' cells' d r e t =
      subst (λ (z : Done). TakesRecord n list rec defs tuples reports paths names cells z defs' tuples' reports' paths' names' cells') (sym e) t

  -- what is walked to is what the record says
  said : (v : Walked) → Walks rec (parse rec) v → (u : Walked) → v ≡ u → parsed_by rec u ≡ parse rec
  said v k u e = ap (parsed_by rec) (sym e) ∙ k.says

  -- 1 to 5
  pub input-taken : (v : Walked) → Walks rec (parse rec) v → (c : walk.Refusal) → v ≡ Err c
      → TakesRecord n list rec defs tuples reports paths names cells (done_with (reply.Input c) n list) defs tuples reports paths names cells
  input-taken v k c e =
      let p = said v k (Err c) e in
      record {
        takes = λ s d. record { calls = pair-call w rec (reply.Input c) w (sym (step-unparsed w rec s d (refusal_of c) (sym p))); area = same_area (reply.Input c) paths };
      }

  pub id-taken : (v : Walked) → Walks rec (parse rec) v → (i : Id) → v ≡ Ok (walked.Id i) → (r : Done) (after : Bytes) → TakesId n list rec defs r after
      → TakesRecord n list rec defs tuples reports paths names cells r after tuples reports paths names cells
  unfolding id_in
  id-taken v k i e r after t =
      let p = said v k (Ok (walked.Id i)) e in
      record {
        takes = λ s d.
            record {
              calls = pair-call w rec r.reply (world_of r.numbers r.list (length paths) after tuples reports names cells) (t.steps (length paths) tuples reports names cells s _ d (sym p));
              area = same_area r.reply paths;
            };
      }

  pub ns-taken : (v : Walked) → Walks rec (parse rec) v → (b : Ns) → v ≡ Ok (walked.Ns b) → (r : Done) (after : Bytes) → TakesNs n list b rec defs r after
      → TakesRecord n list rec defs tuples reports paths names cells r after tuples reports paths names cells
  ns-taken v k b e r after t =
      let p = said v k (Ok (walked.Ns b)) e in
      record {
        takes = λ s d.
            record {
              calls = pair-call w rec r.reply (world_of r.numbers r.list (length paths) after tuples reports names cells) (t.steps (length paths) tuples reports names cells s d (sym p));
              area = same_area r.reply paths;
            };
      }

  pub fi-taken : (v : Walked) → Walks rec (parse rec) v → v ≡ Ok walked.Fi → (r : Done) (after : Bytes) → TakesFi n list defs tuples reports r after
      → TakesRecord n list rec defs tuples reports paths names cells r defs tuples after paths names cells
  fi-taken v k e r after t =
      let p = said v k (Ok walked.Fi) e in
      record {
        takes = λ s d.
            record {
              calls = pair-call w rec r.reply (world_of r.numbers r.list (length paths) defs tuples after names cells) (t.steps (length paths) names cells s rec d (sym p));
              area = same_area r.reply paths;
            };
      }

  -- the areas of what decodes are long enough for every path
  roomy : (s : Session) → decode w ≡ some s → 1024 ≤ length paths
  roomy s d = (well-formed w s d).areas.paths

  pub es-taken : (v : Walked) → Walks rec (parse rec) v → (es : Es) → v ≡ Ok (walked.Es es) → (r : Done) (reports' paths' names' cells' : Bytes)
      → TakesEs n list es rec defs reports paths names cells r reports' paths' names' cells'
      → TakesRecord n list rec defs tuples reports paths names cells r defs tuples reports' paths' names' cells'
  es-taken v k es e r reports' paths' names' cells' t =
      let p = said v k (Ok (walked.Es es)) e in
      let i : InsideEs rec es = subst (Inside rec) e k.inside in
      record {
        takes = λ s d.
            record {
              calls = pair-call w rec r.reply (world_of r.numbers r.list (length paths) defs tuples reports' names' cells') (t.steps tuples s d (sym p) i);
              area = t.area (roomy s d);
            };
      }

  pub ee-taken : (v : Walked) → Walks rec (parse rec) v → (ee : Ee) → v ≡ Ok (walked.Ee ee) → (r : Done) (tuples' reports' paths' cells' : Bytes)
      → TakesEe n list ee rec defs tuples reports paths names cells r tuples' reports' paths' cells'
      → TakesRecord n list rec defs tuples reports paths names cells r defs tuples' reports' paths' names cells'
  ee-taken v k ee e r tuples' reports' paths' cells' t =
      let p = said v k (Ok (walked.Ee ee)) e in
      record {
        takes = λ s d.
            record {
              calls = pair-call w rec r.reply (world_of r.numbers r.list (length paths) defs tuples' reports' names cells') (t.steps s d (sym p));
              area = t.area (roomy s d);
            };
      }

  pub found-called : (r : Done) (defs' tuples' reports' paths' names' cells' : Bytes) → true ≡ is_some (decode w)
      → TakesRecord n list rec defs tuples reports paths names cells r defs' tuples' reports' paths' names' cells'
      → Called n list rec defs tuples reports paths names cells r defs' tuples' reports' paths' names' cells'
  found-called r defs' tuples' reports' paths' names' cells' h t =
      let z = well-formed-is w h in t.takes z.0 z.1
