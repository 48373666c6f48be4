-- WHAT A CALL PROMISES, by `step`: the reply, and all that is lent as it leaves it. And what set-up promises.
-- Assumes nothing.
use Rattle.std.specs.Prelude.{length, ◌≡◌, List}
use Rattle.std.proofs.Math.Option.{some}
use Rattle.records.specs.Readers.{Bytes}
use Rattle.session_spec.specs.Session.{World, Session, decode, step}
use Rattle.open_scopes.specs.declared.Scope.{Scope}
use Rattle.open_scopes.specs.declared.Numbers.{Numbers}
use Rattle.worlds.specs.Replies.{Reply, reply_of}
use Rattle.worlds.specs.Worlds.{world_of}
use Rattle.worlds.specs.PathArea.{PathArea}
use Rattle.worlds.specs.declared.Done.{Done}

-- the reply, the session's numbers and every store and area but the path area
pub record Call (before : World) (rec : Bytes) (reply : Reply) (after : World) : Type 0 where
  pub replies : reply_of reply ≡ (step before rec).0
  pub leaves : after ≡ (step before rec).1

-- what a call answers, of its parts
abbrev pub done_with : Reply → Numbers → List Scope → Done
done_with r n list = record { reply = r; numbers = n; list = list }

-- THE RECORD CALL, over what is lent to it
pub record Called (n : Numbers) (list : List Scope) (rec defs tuples reports paths names cells : Bytes) (r : Done) (defs' tuples' reports' paths' names' cells' : Bytes) : Type 0 where
  pub calls : Call (world_of n list (length paths) defs tuples reports names cells) rec r.reply (world_of r.numbers r.list (length paths) defs' tuples' reports' names' cells')
  pub area : PathArea r.reply paths paths'

-- the same of a session that decodes
pub record TakesRecord (n : Numbers) (list : List Scope) (rec defs tuples reports paths names cells : Bytes) (r : Done) (defs' tuples' reports' paths' names' cells' : Bytes) : Type 0 where
  pub takes : (s : Session) → decode (world_of n list (length paths) defs tuples reports names cells) ≡ some s
      → Called n list rec defs tuples reports paths names cells r defs' tuples' reports' paths' names' cells'

-- a session just set up: five zeros
pub record Starts (n : Numbers) : Type 0 where
  pub events : n.events ≡ 0
  pub running : n.running ≡ 0
  pub definitions : n.definitions ≡ 0
  pub tuples : n.tuples ≡ 0
  pub reports : n.reports ≡ 0

-- whatever is lent to it
abbrev pub numbers_in : World → Numbers
numbers_in w = record { events = w.events; running = w.running; definitions = w.definitions; tuples = w.tuples; reports = w.reports }

abbrev pub Fresh : World → Type 0
Fresh w = Starts (numbers_in w)
