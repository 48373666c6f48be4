-- The bindings that lent bytes hold, and what a prefix is bound to.
-- Assumes nothing.
use Rattle.std.specs.Prelude.{ℕ, ◌+◌, ◌≤◌, eqb, length, ◌≡◌, cond, ◌&&◌}
use mathlib.Core.List.{List, [], ◌∷◌, flat_map}
use Rattle.std.proofs.Math.Option.{Option, none, some}
use Rattle.lists.specs.Lists.{part, passing}
use Rattle.texts.specs.Texts.{Text, same}
use Rattle.paths.specs.Reading.{or_else}
use Rattle.records.specs.Readers.{Bytes, Reader, ◌>>=◌, pass, require, read_byte, read_two, read_text}
use Rattle.records.specs.Records.{NsRecord}
use Rattle.output_stores.specs.Stores.{standing}
use Rattle.session_spec.specs.Definitions.{frame, xml_prefix, xml_namespace, look_up}
use Rattle.std.specs.declared.option.Option as code
use Rattle.std.specs.declared.option.Option.TheVariants.{Some, None}
use Rattle.bindings.specs.declared.Bindings.{Bindings}
use Rattle.bindings.specs.declared.Uri.{Uri}
use Rattle.bindings.specs.declared.Uri.TheVariants.{Xml, Own, Schema}

-- ---- the bindings that bytes hold

-- the records that stand one behind the other, as far as they are whole
abbrev pub frames_in : Bytes → List Bytes
frames_in xs = standing frame xs

-- the binding that an NS record is: behind mark and length the target, the prefix and the URI
unfoldable pub read_binding : Reader NsRecord
read_binding = do
  a ← read_byte
  b ← read_byte
  _ ← require (eqb a 78 && eqb b 83)
  _ ← read_two
  t ← read_byte
  p ← read_text
  u ← read_text
  pass (record { target = t; prefix = p; uri = u })

unfoldable pub as_list : {A : Type 0} → Option (A × Bytes) → List A
as_list none = []
as_list (some q) = q.0 ∷ []

unfoldable pub bindings_in : Bytes → List NsRecord
bindings_in xs = flat_map (λ f. as_list (read_binding f)) (frames_in xs)

-- those for a target: 0 schema-wide, 1 the selector, 2 + i field i
unfoldable pub bound_for : ℕ → Bytes → List NsRecord
bound_for target xs = passing (λ b. eqb b.target target) (bindings_in xs)

-- ---- THE URI of a prefix: `xml` before all; the own bindings of the path, first wins; then the schema-wide ones

unfoldable pub uri_in : (own schema : Bytes) → (target : ℕ) → Text → Option Text
uri_in own schema target p = cond (same p xml_prefix) (some xml_namespace) (or_else (look_up p (bound_for target own)) (look_up p (bound_for 0 schema)))

-- ---- where it stands

abbrev pub stands_at : (own schema : Bytes) → code.Option Uri → Option Text
stands_at own schema None = none
stands_at own schema (Some Xml) = some xml_namespace
stands_at own schema (Some (Own r)) = some (part own r.start r.size)
stands_at own schema (Some (Schema r)) = some (part schema r.start r.size)

abbrev pub Inside : (own schema : Bytes) → code.Option Uri → Type 0
Inside own schema None = Unit {0}
Inside own schema (Some Xml) = Unit {0}
Inside own schema (Some (Own r)) = r.start + r.size ≤ length own
Inside own schema (Some (Schema r)) = r.start + r.size ≤ length schema

pub record FoundIn (own schema : Bytes) (target : ℕ) (p : Text) (r : code.Option Uri) : Type 0 where
  pub stands : stands_at own schema r ≡ uri_in own schema target p
  pub inside : Inside own schema r

-- the stretch that holds it; empty where there is none
abbrev pub stretch : (own schema : Bytes) → code.Option Uri → Bytes
stretch own schema None = []
stretch own schema (Some Xml) = []
stretch own schema (Some (Own r)) = part own r.start r.size
stretch own schema (Some (Schema r)) = part schema r.start r.size

-- what the bindings of a path bind a prefix to
abbrev pub bound_by : Bindings → Text → Option Text
bound_by b = uri_in b.own.now b.schema.now b.target
