-- The tally of a store record by record.
-- Assumes nothing.
use Rattle.std.specs.Prelude.{ℕ, ◌+◌, length}
use Rattle.std.specs.declared.option.Option.TheVariants.{Some, None}
use Rattle.std.proofs.Math.Option.{Option, none, some}
use Rattle.records.specs.Readers.{Bytes}
use Rattle.records.specs.Refusals.{Refusal}
use Rattle.records.specs.Records.{Rec, ID, NS, ES, EE, FI, Parsed, unparsed, parsed}
use Rattle.definition_store.specs.declared.Tally.{Tally}
use Rattle.definition_store.specs.Store.{Defined, id_verdict, ns_verdict}

-- a constraint more, which is the latest
abbrev pub with_id : (fields : ℕ) → Tally → Tally
with_id n t = record { constraints = t.constraints + 1; fields = n; bindings = t.bindings }

-- a binding more
abbrev pub with_ns : Tally → Tally
with_ns t = record { constraints = t.constraints; fields = t.fields; bindings = t.bindings + 1 }

-- a record more
unfoldable pub tallied : Rec → Tally → Tally
tallied (ID r) t = with_id (length r.fields) t
tallied (NS b) t = with_ns t
tallied (ES r) t = t
tallied (EE r) t = t
tallied FI t = t

-- the tally, where nothing stands against it
unfoldable pub if_good : Option Refusal → Tally → Defined
if_good none t = Some t
if_good (some c) t = None

-- the tally behind a record; only an ID and an NS are definitions
unfoldable pub counted : (used : Bytes) → Tally → Rec → Defined
counted used t (ID r) = if_good (id_verdict t) (tallied (ID r) t)
counted used t (NS b) = if_good (ns_verdict used t b.target b.prefix) (tallied (NS b) t)
counted used t (ES r) = None
counted used t (EE r) = None
counted used t FI = None

-- what does not parse is no definition
unfoldable pub counted_by : (used : Bytes) → Tally → Parsed → Defined
counted_by used t (unparsed c) = None
counted_by used t (parsed r) = counted used t r
