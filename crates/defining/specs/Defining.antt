-- A CALL ON AN ID AND ON AN NS IS `step`: in every world of these numbers, scopes and this definition store that decodes, whatever else is lent.
-- Assumes nothing.
use Rattle.std.specs.Prelude.{ℕ, ◌≡◌, List}
use Rattle.std.proofs.Math.Option.{some}
use Rattle.records.specs.Readers.{Bytes}
use Rattle.records.specs.Records.{IdRecord, ID, parsed, parse}
use Rattle.session_spec.specs.Session.{Session, decode, step}
use Rattle.record_places.specs.declared.Ns.{Ns}
use Rattle.record_places.specs.Places.{ns_in}
use Rattle.open_scopes.specs.declared.Scope.{Scope}
use Rattle.open_scopes.specs.declared.Numbers.{Numbers}
use Rattle.worlds.specs.Replies.{reply_of}
use Rattle.worlds.specs.Worlds.{world_of}
use Rattle.worlds.specs.declared.Done.{Done}

-- the reply and the world after an ID
pub record TakesId (n : Numbers) (list : List Scope) (rec before : Bytes) (r : Done) (after : Bytes) : Type 0 where
  pub steps : (paths : ℕ) (tuples reports names cells : Bytes) (s : Session) (i : IdRecord)
      → decode (world_of n list paths before tuples reports names cells) ≡ some s → parse rec ≡ parsed (ID i)
      → (reply_of r.reply, world_of r.numbers r.list paths after tuples reports names cells) ≡ step (world_of n list paths before tuples reports names cells) rec

-- and after an NS
pub record TakesNs (n : Numbers) (list : List Scope) (ns : Ns) (rec before : Bytes) (r : Done) (after : Bytes) : Type 0 where
  pub steps : (paths : ℕ) (tuples reports names cells : Bytes) (s : Session)
      → decode (world_of n list paths before tuples reports names cells) ≡ some s → parse rec ≡ parsed (ns_in rec ns)
      → (reply_of r.reply, world_of r.numbers r.list paths after tuples reports names cells) ≡ step (world_of n list paths before tuples reports names cells) rec
