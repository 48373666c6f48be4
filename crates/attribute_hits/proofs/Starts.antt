-- What the attributes of an ES record give is what the start that it stands for gives: they are its attributes.
-- Assumes nothing.
use Prim.Native.Nat.{ℕ}
use mathlib.Core.Path.{◌≡◌, sym}
use mathlib.Core.List.{List}
use Rattle.paths.specs.Names.{Name}
use Rattle.paths.specs.Matching.{FieldAlt}
use Rattle.tree.specs.Events.{Start}
use Rattle.tree.specs.Cells.{attribute_hits}
use Rattle.machine.specs.Machine.{start_gives}
use Rattle.records.specs.Readers.{Bytes}
use Rattle.records.specs.Records.{EsRecord}
use Rattle.record_places.specs.Places.{attributes_at}
use Rattle.session_spec.specs.Session.{start_of}
use Rattle.attribute_hits.specs.AttributeHits.{given_at}

pub start-gives : (s : Start) (rec : Bytes) (first count : ℕ) → s.attributes ≡ attributes_at rec first count → given_at rec first count ≡ start_gives s
start-gives s rec first count e = λ i. λ (alts : List FieldAlt). λ (below : List Name). attribute_hits alts below (sym e i)

pub record-gives : (r : EsRecord) (rec : Bytes) (first count : ℕ) → r.attributes ≡ attributes_at rec first count → given_at rec first count ≡ start_gives (start_of r)
unfolding start_of
record-gives r rec first count e = start-gives (start_of r) rec first count e
