-- The packed number, and the numbers and lengths of a session: when no count is above its limit and no used length past its store.
-- Assumes nothing.
use Rattle.std.specs.Prelude.{ℕ, ◌*◌, eqb, leb, length, Bool, cond, ◌&&◌, ◌||◌, not}
use Rattle.session_spec.specs.Layout.{Counts, pack}
use Rattle.session_spec.specs.Session.{World}
use Rattle.open_scopes.specs.declared.Counts as code
use Rattle.open_scopes.specs.declared.Numbers.{Numbers}
use Rattle.open_scopes.specs.declared.Lengths.{Lengths}

-- THE COUNTS that the code's are
abbrev pub as_counts : code.Counts → Counts
as_counts c = record { stage = c.stage; scopes = c.scopes; selections = c.selections; opened = c.opened }

-- the packed number, where the scopes opened are few enough for four bytes; else 0
unfoldable pub packed : Counts → ℕ
packed c = cond (leb c.opened 4294967295) (pack c) 0

-- ---- the numbers and lengths of a world

abbrev pub numbers_of : World → Numbers
numbers_of w = record { events = w.events; running = w.running; definitions = w.definitions; tuples = w.tuples; reports = w.reports }

abbrev pub lengths_of : World → Lengths
lengths_of w =
    record {
      definitions = length w.definition_store;
      tuples = length w.tuple_store;
      reports = length w.report_store;
      names = length w.names;
      scopes = length w.scopes;
      cells = length w.cells;
      paths = w.path_area;
    }

-- ---- well formed: what `counts_fit` says of a world with these numbers and lengths

unfoldable pub areas_long : Lengths → Bool
areas_long l = leb 1024 l.paths && (leb 16 l.scopes && (leb 32896 l.names && leb 16384 l.cells))

unfoldable pub begun : Numbers → Counts → Bool
begun n c = not (eqb c.stage 0) || (eqb n.running 0 && (eqb n.tuples 0 && eqb n.reports 0))

unfoldable pub within_limits : Numbers → Counts → Bool
within_limits n c =
    leb n.events 1000000 && (leb c.stage 66 && (leb c.scopes 16 && (leb c.selections 32 && leb c.opened (8 * n.events))))

unfoldable pub used_within : Numbers → Lengths → Bool
used_within n l = leb n.definitions l.definitions && (leb n.tuples l.tuples && leb n.reports l.reports)

unfoldable pub numbers_fit : Numbers → Lengths → Counts → Bool
numbers_fit n l c = (areas_long l && begun n c) && (within_limits n c && used_within n l)
