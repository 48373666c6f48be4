-- The world that a call is lent, as the code has it: five numbers and the open scopes by value, stores and areas as bytes.
-- Assumes nothing.
use Rattle.std.specs.Prelude.{ℕ, List, map}
use Rattle.records.specs.Readers.{Bytes}
use Rattle.session_spec.specs.Session.{World}
use Rattle.open_scopes.specs.declared.Scope.{Scope}
use Rattle.open_scopes.specs.declared.Numbers.{Numbers}
use Rattle.open_scopes.specs.OpenScopes.{record_of}

-- THE WORLD of these numbers, scopes, stores and areas; `paths` is how long the path area is
abbrev pub world_of : Numbers → List Scope → (paths : ℕ) → (defs tuples reports names cells : Bytes) → World
world_of n list paths defs tuples reports names cells =
    record {
      events = n.events;
      running = n.running;
      definitions = n.definitions;
      tuples = n.tuples;
      reports = n.reports;
      definition_store = defs;
      tuple_store = tuples;
      report_store = reports;
      names = names;
      scopes = map record_of list;
      cells = cells;
      path_area = paths;
    }
