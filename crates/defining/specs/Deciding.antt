-- What stands against a definition, by what the code has of a session: its numbers, the verdict of the definitions that are there, and lengths.
-- Assumes nothing.
use Rattle.std.specs.Prelude.{ℕ, ◌+◌, eqb, leb, ltb, length, ◌≡◌, cond, not, List}
use Rattle.std.proofs.Math.Option.{Option, none, some}
use Rattle.texts.specs.Texts.{Text}
use Rattle.records.specs.Readers.{Bytes}
use Rattle.records.specs.Refusals.{Refusal, out_of_place, too_many_events, definitions_full}
use Rattle.session_spec.specs.Definitions.{read_definitions}
use Rattle.session_spec.specs.Layout.{unpack}
use Rattle.definition_store.specs.declared.Tally.{Tally}
use Rattle.std.specs.declared.option.Option.TheVariants.{Some, None}
use Rattle.definition_store.specs.Store.{Defined, defined_by, id_verdict, ns_verdict}
use Rattle.open_scopes.specs.declared.Scope.{Scope}
use Rattle.open_scopes.specs.declared.Numbers.{Numbers}
use Rattle.worlds.specs.Replies.{reply_of}
use Rattle.worlds.specs.Worlds.{world_of}
use Rattle.worlds.specs.declared.Done.{Done}
use Rattle.plans.specs.Plans.{answered, defined}

-- 18: so many bytes behind the used ones are more than the store has
unfoldable pub room_for : (used size room : ℕ) → Option Refusal
room_for used size room = cond (ltb room (used + size)) (some definitions_full) none

-- 12, 17, 18: what stands against it, and then the room
unfoldable pub against : Option Refusal → (used size room : ℕ) → Option Refusal
against (some c) used size room = some c
against none used size room = room_for used size room

-- 11, 19, and then these
unfoldable pub decided : Numbers → Option Refusal → (size room : ℕ) → Option Refusal
decided n v size room =
    cond (not (eqb (unpack n.running).stage 0)) (some out_of_place)
    (cond (leb 1000000 n.events) (some too_many_events) (against v n.definitions size room))

-- what stands against it by what the used bytes come to; 18 where they are no definitions
unfoldable pub judged_by : Defined → (Tally → Option Refusal) → Option Refusal
judged_by None f = some definitions_full
judged_by (Some t) f = f t

-- of an ID, and of an NS
unfoldable pub id_judged : (used : Bytes) → Option Refusal
id_judged used = judged_by (defined_by (read_definitions used)) id_verdict

unfoldable pub ns_judged : (used : Bytes) → (target : ℕ) → (prefix : Text) → Option Refusal
ns_judged used target p = judged_by (defined_by (read_definitions used)) (λ t. ns_verdict used t target p)

-- A call with this verdict answers and leaves what is decided, whatever else is lent.
pub record Answers (n : Numbers) (list : List Scope) (v : Option Refusal) (rec before : Bytes) (r : Done) (after : Bytes) : Type 0 where
  pub leaves : (paths : ℕ) (tuples reports names cells : Bytes)
      → (reply_of r.reply, world_of r.numbers r.list paths after tuples reports names cells)
      ≡ answered (world_of n list paths before tuples reports names cells) (defined (world_of n list paths before tuples reports names cells) rec)
      (decided n v (length rec) (length before))
