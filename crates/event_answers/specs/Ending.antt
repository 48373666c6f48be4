-- A CALL ON AN EE IS `step`: in every world of these numbers, stores and areas that decodes.
-- Assumes nothing.
use Rattle.std.specs.Prelude.{ℕ, suc, ◌+◌, ◌%◌, ◌≤◌, ◌<◌, eqb, length, ◌≡◌, cond, List, [], ◌∷◌}
use Rattle.std.proofs.Math.Option.{some}
use Rattle.records.specs.Readers.{Bytes}
use Rattle.records.specs.Records.{parsed, parse}
use Rattle.record_places.specs.declared.Ee.{Ee}
use Rattle.record_places.specs.Places.{ee_in}
use Rattle.session_spec.specs.Layout.{Counts, unpack}
use Rattle.session_spec.specs.Session.{Session, stage_of, depth_of, decode, step}
use Rattle.open_scopes.specs.declared.Scope.{Scope}
use Rattle.open_scopes.specs.declared.Counts as code
use Rattle.open_scopes.specs.declared.Numbers.{Numbers}
use Rattle.open_scopes.specs.Counting.{as_counts, packed}
use Rattle.worlds.specs.Replies.{reply_of}
use Rattle.worlds.specs.Worlds.{world_of}
use Rattle.worlds.specs.PathArea.{PathArea}
use Rattle.worlds.specs.declared.Done.{Done}

-- the reply and the world after an EE, and the parsed-path area
pub record TakesEe (n : Numbers) (list : List Scope) (ee : Ee) (rec defs tuples reports paths names cells : Bytes) (r : Done) (tuples' reports' paths' cells' : Bytes) : Type 0 where
  pub steps : (s : Session) → decode (world_of n list (length paths) defs tuples reports names cells) ≡ some s → parse rec ≡ parsed (ee_in rec ee)
      → (reply_of r.reply, world_of r.numbers r.list (length paths) defs tuples' reports' names cells') ≡ step (world_of n list (length paths) defs tuples reports names cells) rec
  pub area : 1024 ≤ length paths → PathArea r.reply paths paths'

-- ---- the parts of an answer

-- the counts are those of the session, neither 11 nor 19 holds of an EE, and an element is open at this depth
pub record InPlace (n : Numbers) (c : code.Counts) (depth : ℕ) : Type 0 where
  pub counts : as_counts c ≡ unpack n.running
  pub unfinished : c.stage ≡ 66 → ⊥
  pub early : n.events < 1000000
  pub level : depth ≡ depth_of (stage_of c.stage) c.stage
  pub inside : depth ≡ 0 → ⊥

-- how many scopes stand before the first whose element is at this depth
unfoldable pub left_open : (depth : ℕ) → List Scope → ℕ
left_open depth [] = 0
left_open depth (s ∷ ss) = cond (eqb s.depth depth) 0 (suc (left_open depth ss))

-- after the end of an element at this depth, where the selections from `first` on finish
abbrev pub ended_counts : code.Counts → (depth : ℕ) → List Scope → (first : ℕ) → Counts
ended_counts c depth ss first = record { stage = depth; scopes = left_open depth ss % 32; selections = first % 64; opened = c.opened }

-- the number of the event that the EE is
abbrev pub event_then : Numbers → ℕ
event_then n = n.events + 1

-- the numbers then, where so much of the stores is used
abbrev pub ended_numbers : Numbers → code.Counts → (depth : ℕ) → List Scope → (first tuples reports : ℕ) → Numbers
ended_numbers n c depth ss first tuples reports =
    record { events = event_then n; running = packed (ended_counts c depth ss first); definitions = n.definitions; tuples = tuples; reports = reports }
