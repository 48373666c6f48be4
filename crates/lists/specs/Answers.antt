-- An answer that code gives, as definitions have it: an Option, and the error of a Result.
-- Assumes nothing.
use Rattle.std.specs.declared.option.Option as code
use Rattle.std.specs.declared.option.Option.TheVariants.{Some, None}
use Rattle.std.specs.declared.result.Result.{Result}
use Rattle.std.specs.declared.result.Result.TheVariants.{Ok, Err}
use Rattle.std.proofs.Math.Option.{Option, none, some}

-- what an Option holds
abbrev pub given : {A : Type 0} → code.Option A → Option A
given None = none
given (Some x) = some x

-- the error of an answer, if it is one
abbrev pub error_of : {A E : Type 0} → Result A E → Option E
error_of (Ok x) = none
error_of (Err e) = some e
