-- A CALL ON AN FI IS `step`: in every world of these numbers, scopes and stores that decodes, whatever else is lent.
-- Assumes nothing.
use Rattle.std.specs.Prelude.{ℕ, ◌≡◌, List}
use Rattle.std.proofs.Math.Option.{some}
use Rattle.records.specs.Readers.{Bytes}
use Rattle.records.specs.Records.{FI, parsed, parse}
use Rattle.session_spec.specs.Session.{Session, decode, step}
use Rattle.open_scopes.specs.declared.Scope.{Scope}
use Rattle.session_spec.specs.Layout.{Counts}
use Rattle.open_scopes.specs.declared.Counts as code
use Rattle.open_scopes.specs.declared.Numbers.{Numbers}
use Rattle.worlds.specs.Replies.{reply_of}
use Rattle.worlds.specs.Worlds.{world_of}
use Rattle.worlds.specs.declared.Done.{Done}

-- the reply and the world after an FI
pub record TakesFi (n : Numbers) (list : List Scope) (defs tuples before : Bytes) (r : Done) (after : Bytes) : Type 0 where
  pub steps : (paths : ℕ) (names cells : Bytes) (s : Session) (rec : Bytes)
      → decode (world_of n list paths defs tuples before names cells) ≡ some s → parse rec ≡ parsed FI
      → (reply_of r.reply, world_of r.numbers r.list paths defs tuples after names cells) ≡ step (world_of n list paths defs tuples before names cells) rec

-- after an FI: stage 66, and all else as it was
abbrev pub finished_counts : code.Counts → Counts
finished_counts c = record { stage = 66; scopes = c.scopes; selections = c.selections; opened = c.opened }
