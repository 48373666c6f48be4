-- In a store that reads there stand as many tuples as it has TUs.
-- Assumes nothing.
use lib.ListN.{length}
use mathlib.Core.Path.{◌≡◌}
use mathlib.Core.List.{List}
use mathlib.Core.Option.{some}
use Rattle.records.specs.Readers.{Bytes, reads}
use Rattle.session_spec.specs.Definitions.{frame}
use Rattle.session_spec.specs.Layout.{TuRecord, read_tu}
use Rattle.output_stores.specs.Stores.{standing}
use Rattle.tuple_search.proofs.Found.{TuIn, each-count, tuple-standing}

-- COUNTED: the count of a store that reads is the number of its TUs.
pub counted : (used : Bytes) (tus : List TuRecord) → reads read_tu used ≡ some tus → length (standing frame used) ≡ length tus
counted used tus h = each-count TuIn (standing frame used) tus (tuple-standing used tus h)
