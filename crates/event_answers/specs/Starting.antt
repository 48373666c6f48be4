-- A CALL ON AN ES IS `step`: in every world of these numbers, scopes, stores and areas that decodes, whatever tuple store is lent.
-- Assumes nothing.
use Rattle.std.specs.Prelude.{◌≤◌, length, ◌≡◌, List}
use Rattle.std.proofs.Math.Option.{some}
use Rattle.records.specs.Readers.{Bytes}
use Rattle.records.specs.Records.{parsed, parse}
use Rattle.session_spec.specs.Session.{Session, decode, step}
use Rattle.record_places.specs.declared.Es.{Es}
use Rattle.record_places.specs.Places.{es_in, InsideEs}
use Rattle.open_scopes.specs.declared.Scope.{Scope}
use Rattle.open_scopes.specs.declared.Numbers.{Numbers}
use Rattle.worlds.specs.Replies.{reply_of}
use Rattle.worlds.specs.Worlds.{world_of}
use Rattle.worlds.specs.PathArea.{PathArea}
use Rattle.worlds.specs.declared.Done.{Done}

-- the reply and the world after an ES, and what holds of the parsed-path area
pub record TakesEs (n : Numbers) (list : List Scope) (es : Es) (rec defs reports paths names cells : Bytes) (r : Done) (reports' paths' names' cells' : Bytes) : Type 0 where
  pub steps : (tuples : Bytes) (s : Session) → decode (world_of n list (length paths) defs tuples reports names cells) ≡ some s
      → parse rec ≡ parsed (es_in rec es) → InsideEs rec es
      → (reply_of r.reply, world_of r.numbers r.list (length paths) defs tuples reports' names' cells') ≡ step (world_of n list (length paths) defs tuples reports names cells) rec
  pub area : 1024 ≤ length paths → PathArea r.reply paths paths'
