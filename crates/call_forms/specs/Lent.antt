-- WHAT THE RECORD CALL PROMISES over what is lent, by `step`: the session's five numbers behind one reference, the open scopes as a list of records, stores and areas as bytes.
-- Assumes nothing.
use Rattle.std.specs.Prelude.{length, take, drop, ◌≡◌, List, ◌++◌, map}
use Rattle.records.specs.Readers.{Bytes}
use Rattle.session_spec.specs.Layout.{ScopeRecord}
use Rattle.session_spec.specs.Session.{World, step}
use Rattle.open_scopes.specs.declared.Scope.{Scope}
use Rattle.open_scopes.specs.declared.Numbers.{Numbers}
use Rattle.worlds.specs.Replies.{Reply, reply_of}
use Rattle.worlds.specs.Worlds.{world_of}
use Rattle.worlds.specs.PathArea.{PathArea}

-- ---- all that is lent

pub record Lent : Type 0 where
  pub numbers : Numbers
  pub scopes : List Scope
  pub defs : Bytes
  pub tuples : Bytes
  pub reports : Bytes
  pub paths : Bytes
  pub names : Bytes
  pub cells : Bytes

abbrev pub lent : Numbers → List Scope → (defs tuples reports paths names cells : Bytes) → Lent
lent n scopes defs tuples reports paths names cells =
    record { numbers = n; scopes = scopes; defs = defs; tuples = tuples; reports = reports; paths = paths; names = names; cells = cells }

-- ---- the world that it makes

-- the sixteen records at the front of the scope list; a shorter list has no more than it has
abbrev pub held : List Scope → List Scope
held scopes = take 16 scopes

abbrev pub world_in : Lent → World
world_in l = world_of l.numbers (held l.scopes) (length l.paths) l.defs l.tuples l.reports l.names l.cells

-- ---- the scope list that a world leaves

-- the scope that a record is
abbrev pub scope_of : ScopeRecord → Scope
scope_of s = record { constraint = s.constraint; number = s.number; depth = s.depth }

-- the world's records at the front; what is behind the sixteen stays
abbrev pub written : List ScopeRecord → List Scope → List Scope
written records scopes = map scope_of records ++ drop 16 scopes

-- ---- THE PROMISE: the reply, the world after it, and of the two areas of which a world has not all, the rest

pub record Recorded (before : Lent) (rec : Bytes) (reply : Reply) (after : Lent) : Type 0 where
  pub replies : reply_of reply ≡ (step (world_in before) rec).0
  pub leaves : world_in after ≡ (step (world_in before) rec).1
  -- the scope list is that of the world after the call, and what was behind the sixteen records
  pub scope_list : after.scopes ≡ written (step (world_in before) rec).1.scopes before.scopes
  -- the path area keeps its length and all behind 1,024 bytes, and a refused call hands it back as it was; what a taken record leaves in these is free
  pub area : PathArea reply before.paths after.paths
