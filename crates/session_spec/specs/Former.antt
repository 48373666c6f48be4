-- THE FORMER SESSION, which asked for a path area of 16,384 bytes; and when two sessions are lent alike, and leave alike.
-- Assumes nothing.
use Rattle.std.specs.Prelude.{ℕ, ltb, length, take, ◌≡◌, cond, List, [], ◌∷◌}
use Rattle.records.specs.Readers.{Bytes}
use Rattle.records.specs.Refusals.{unfit}
use Rattle.session_spec.specs.Session.{World, Reply, refused, step}

-- What the 16,384-byte area gave: refusal 10 where the path area is under 16,384 bytes, and else what `step` gives.
unfoldable pub former_step : World → Bytes → Reply × World
former_step w x = cond (ltb w.path_area 16384) (refused unfit, w) (step w x)

-- call after call, each with the world as the last one left it
unfoldable pub former_calls : World → List Bytes → World
former_calls w [] = w
former_calls w (x ∷ xs) = former_calls (former_step w x).1 xs

-- OTHER STORES AND AREAS OF THE SAME LENGTHS, all but the path area. What they hold may differ.
pub record SameLengths (v w : World) : Type 0 where
  pub definition_stores : length v.definition_store ≡ length w.definition_store
  pub tuple_stores : length v.tuple_store ≡ length w.tuple_store
  pub report_stores : length v.report_store ≡ length w.report_store
  pub names : length v.names ≡ length w.names
  pub scopes : length v.scopes ≡ length w.scopes
  pub cells : length v.cells ≡ length w.cells

-- THE SAME IS LEFT: the session's five numbers, and of each store the bytes that are used. The tuples and the reports are among them.
pub record SameLeft (v w : World) : Type 0 where
  pub events : v.events ≡ w.events
  pub running : v.running ≡ w.running
  pub definitions : v.definitions ≡ w.definitions
  pub tuples : v.tuples ≡ w.tuples
  pub reports : v.reports ≡ w.reports
  pub definition_bytes : take v.definitions v.definition_store ≡ take w.definitions w.definition_store
  pub tuple_bytes : take v.tuples v.tuple_store ≡ take w.tuples w.tuple_store
  pub report_bytes : take v.reports v.report_store ≡ take w.reports w.report_store
