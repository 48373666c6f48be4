-- The record at the front of bytes and those behind it, as code answers them.
-- Assumes nothing.
use Rattle.std.proofs.Math.Option.{Option, none, some}
use Rattle.std.specs.declared.option.Option as code
use Rattle.std.specs.declared.option.Option.TheVariants.{Some, None}
use denote.Ref.{Bor}
use Rattle.records.specs.Readers.{Bytes}
use Rattle.output_stores.specs.Stores.{halves}

-- what code answers of the front of bytes, as a reader says it: the record there and the bytes behind it, or none
abbrev pub parts : code.Option (Bor Bytes × Bor Bytes) → Option (Bytes × Bytes)
parts None = none
parts (Some q) = some (halves q)
