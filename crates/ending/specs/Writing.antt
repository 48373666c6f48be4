-- What the end of an element leaves of the stores, the cells and the numbers.
-- Assumes nothing.
use Rattle.std.specs.Prelude.{ℕ, ◌≡◌}
use Rattle.texts.specs.Texts.{Text}
use Rattle.records.specs.Readers.{Bytes}
use Rattle.open_scopes.specs.declared.Scopes.{Scopes}
use Rattle.open_scopes.specs.declared.Counts as code
use Rattle.open_scopes.specs.declared.Numbers.{Numbers}
use Rattle.open_scopes.specs.OpenScopes.{open_of}
use Rattle.settlements.specs.declared.Settling.{Settling}
use Rattle.settlements.specs.declared.Written.{Written}
use Rattle.settlements.specs.Ending.{WritesAll}
use Rattle.end_writes.specs.Staying.{HitsStaying}
use Rattle.event_answers.specs.Ending.{event_then, ended_numbers}

-- both stores, the cells and the numbers after it
pub record WritesEnd (n : Numbers) (c : code.Counts) (depth : ℕ) (scopes : Scopes) (s : Settling) (first : ℕ) (counts : Bytes) (byte : ℕ) (key : Text) (defs tuples reports cells : Bytes)
    (r : Numbers) (tuples' reports' cells' : Bytes) : Type 0 where
  pub written : Written
  pub stores : WritesAll s cells first c.selections counts byte key scopes defs (event_then n) tuples n.tuples reports n.reports written tuples' reports'
  pub staying : HitsStaying cells first counts byte key cells'
  pub numbers : r ≡ ended_numbers n c depth (open_of scopes) first written.tuples written.reports
