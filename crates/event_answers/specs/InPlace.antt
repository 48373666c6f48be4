-- What stands against an event by the counts: 11 where the session is finished, 19 after a million events, and then what the event is refused for where it is
-- misplaced among the elements.
-- Assumes nothing.
use Rattle.std.specs.Prelude.{ℕ, eqb, leb, Bool, cond}
use Rattle.std.specs.declared.result.Result.{Result}
use Rattle.std.specs.declared.result.Result.TheVariants.{Ok, Err}
use Rattle.worlds.specs.declared.SessionRefusal.{SessionRefusal}
use Rattle.worlds.specs.declared.SessionRefusal.TheVariants.{OutOfPlace, TooManyEvents}

unfoldable pub placed : (stage events : ℕ) → (misplaced : Bool) → SessionRefusal → Result (Unit {0}) SessionRefusal
placed stage events misplaced why = cond (eqb stage 66) (Err OutOfPlace) (cond (leb 1000000 events) (Err TooManyEvents) (cond misplaced (Err why) (Ok tt)))
