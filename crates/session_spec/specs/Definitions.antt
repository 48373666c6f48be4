-- The definition store's meaning: ID and NS records one after another, and what a constraint number stands for.
-- Assumes nothing.
use Rattle.std.specs.Prelude.{ℕ, zero, suc, ◌+◌, ◌*◌, eqb, leb, ltb, length, Bool, true, false, cond, ◌&&◌, ◌||◌, not, List, [], ◌∷◌, ◌++◌, map}
use Rattle.std.proofs.Math.ListN.{get_elem?}
use Rattle.std.proofs.Math.Option
use Rattle.std.proofs.Math.Option.{Option, none, some}
use Rattle.lists.specs.Lists.{all, any, passing, foldl}
use Rattle.texts.specs.Texts.{Text, same}
use Rattle.paths.specs.Matching.{StepPath, FieldAlt}
use Rattle.paths.specs.Reading.{on_some, or_else, read_path, step_path_of, field_alt_of}
use Rattle.tree.specs.Events.{Kind, unique, key, keyref, Constraint, Defined}
use Rattle.tree.specs.Events
use Rattle.records.specs.Readers.{Bytes, Reader, ◌>>=◌, pass, read_byte, read_bytes, reads}
use Rattle.records.specs.Records.{IdRecord, NsRecord, Rec, ID, NS, ES, EE, FI, Parsed, unparsed, parsed, parse}

-- A constraint with the bindings of its own paths, in order.
pub record Definition : Type 0 where
  pub id : IdRecord
  pub own : List NsRecord

-- All constraints, the schema-wide bindings, and how many bindings there are of both sorts.
pub record Definitions : Type 0 where
  pub ids : List Definition
  pub schema : List NsRecord
  pub bindings : ℕ

abbrev pub no_definitions : Definitions
no_definitions = record { ids = []; schema = []; bindings = 0 }

-- ---- one record more

-- an own binding goes to the latest ID
unfoldable pub bind_last : NsRecord → List Definition → List Definition
bind_last b [] = []
bind_last b (d ∷ []) = record { id = d.id; own = d.own ++ (b ∷ []) } ∷ []
bind_last b (d ∷ e ∷ ds) = d ∷ bind_last b (e ∷ ds)

unfoldable pub bind : (schema_wide : Bool) → NsRecord → Definitions → Definitions
bind true b d = record { ids = d.ids; schema = d.schema ++ (b ∷ []); bindings = suc d.bindings }
bind false b d = record { ids = bind_last b d.ids; schema = d.schema; bindings = suc d.bindings }

unfoldable pub define : Rec → Definitions → Definitions
define (ID r) d = record { ids = d.ids ++ (record { id = r; own = [] } ∷ []); schema = d.schema; bindings = d.bindings }
define (NS b) d = bind (eqb b.target 0) b d
define (ES r) d = d
define (EE r) d = d
define FI d = d

unfoldable pub is_definition : Rec → Bool
is_definition (ID r) = true
is_definition (NS b) = true
is_definition (ES r) = false
is_definition (EE r) = false
is_definition FI = false

-- ---- what stands against it: 12, 17 and the counts of 18

unfoldable pub latest : List Definition → Option Definition
latest [] = none
latest (d ∷ []) = some d
latest (d ∷ e ∷ ds) = latest (e ∷ ds)

-- a target of 1 or above: the selector or a field of the latest ID
unfoldable pub has_target : ℕ → Option Definition → Bool
has_target t none = false
has_target t (some d) = ltb t (length d.id.fields + 2)

-- 12: NS 1 or above before an ID, or past its fields; an ES number never defined
unfoldable pub is_undefined : Rec → Definitions → Bool
is_undefined (ID r) d = false
is_undefined (NS b) d = ltb 0 b.target && not (has_target b.target (latest d.ids))
is_undefined (ES r) d = any (λ i. leb (length d.ids) i) r.numbers
is_undefined (EE r) d = false
is_undefined FI d = false

-- 17: a schema-wide prefix bound again
unfoldable pub is_bound : Rec → Definitions → Bool
is_bound (ID r) d = false
is_bound (NS b) d = eqb b.target 0 && any (λ c. same b.prefix c.prefix) d.schema
is_bound (ES r) d = false
is_bound (EE r) d = false
is_bound FI d = false

-- 18: 33rd constraint, 65th binding
unfoldable pub too_many_defined : Rec → Definitions → Bool
too_many_defined (ID r) d = leb 32 (length d.ids)
too_many_defined (NS b) d = leb 64 d.bindings
too_many_defined (ES r) d = false
too_many_defined (EE r) d = false
too_many_defined FI d = false

-- ---- the definition store keeps ID and NS records whole

unfoldable pub frame : Reader Bytes
frame = do
  a ← read_byte
  b ← read_byte
  c ← read_byte
  d ← read_byte
  x ← read_bytes (c + 256 * d)
  pass (a ∷ b ∷ c ∷ d ∷ x)

unfoldable pub replay_rec : Rec → Definitions → Option Definitions
replay_rec r d = cond (is_definition r && not (is_undefined r d || (is_bound r d || too_many_defined r d))) (some (define r d)) none

unfoldable pub replay_parsed : Parsed → Definitions → Option Definitions
replay_parsed (unparsed c) d = none
replay_parsed (parsed r) d = replay_rec r d

unfoldable pub replay : Option Definitions → Bytes → Option Definitions
replay o xs = on_some o (λ d. replay_parsed (parse xs) d)

-- the definitions that the bytes hold: each record taken once more, as a new one is
unfoldable pub read_definitions : Bytes → Option Definitions
read_definitions xs = on_some (reads frame xs) (λ l. foldl replay (some no_definitions) l)

-- ---- prefixes

abbrev pub xml_prefix : Text
xml_prefix = 120 ∷ 109 ∷ 108 ∷ []

-- http://www.w3.org/XML/1998/namespace
abbrev pub xml_namespace : Text
xml_namespace =
    104 ∷ 116 ∷ 116 ∷ 112 ∷ 58 ∷ 47 ∷ 47 ∷ 119 ∷ 119 ∷ 119 ∷ 46 ∷ 119 ∷ 51 ∷ 46 ∷ 111 ∷ 114 ∷ 103 ∷ 47 ∷ 88 ∷ 77 ∷ 76 ∷ 47
    ∷ 49 ∷ 57 ∷ 57 ∷ 56 ∷ 47 ∷ 110 ∷ 97 ∷ 109 ∷ 101 ∷ 115 ∷ 112 ∷ 97 ∷ 99 ∷ 101 ∷ []

-- first wins
unfoldable pub look_up : Text → List NsRecord → Option Text
look_up p [] = none
look_up p (b ∷ bs) = cond (same p b.prefix) (some b.uri) (look_up p bs)

-- `xml`, then the own bindings of the path with this target (1 the selector, 2 + i field i), then schema-wide
unfoldable pub uri_of : Definitions → Definition → ℕ → Text → Option Text
uri_of d c target p =
    cond (same p xml_prefix) (some xml_namespace)
    (or_else (look_up p (passing (λ b. eqb b.target target) c.own)) (look_up p d.schema))

-- ---- what a number stands for

unfoldable pub kind_of : ℕ → Kind
kind_of zero = unique
kind_of (suc zero) = key
kind_of (suc (suc n)) = keyref

unfoldable pub or_none : {A : Type 0} → Option (List A) → List A
or_none none = []
or_none (some l) = l

unfoldable pub is_some : {A : Type 0} → Option A → Bool
is_some none = false
is_some (some a) = true

unfoldable pub selector_of : Definitions → Definition → Option (List StepPath)
selector_of d c = Option.map (map (step_path_of (uri_of d c 1))) (read_path false c.id.selector)

-- `n` is the first field's target
unfoldable pub fields_of : Definitions → Definition → ℕ → List Text → List (Option (List FieldAlt))
fields_of d c n [] = []
fields_of d c n (t ∷ ts) = Option.map (map (field_alt_of (uri_of d c n))) (read_path true t) ∷ fields_of d c (suc n) ts

-- its paths read
unfoldable pub paths_read : Definitions → Definition → Bool
paths_read d c = is_some (selector_of d c) && all is_some (fields_of d c 2 c.id.fields)

-- the constraint with number i; a path that does not read takes nothing
unfoldable pub constraint_of : Definitions → ℕ → Definition → Constraint
constraint_of d i c =
    record {
      number = i;
      name = c.id.name;
      kind = kind_of c.id.kind;
      refer = c.id.refer;
      selector = or_none (selector_of d c);
      fields = map or_none (fields_of d c 2 c.id.fields);
    }

unfoldable pub defined_of : Definitions → ℕ → Definition → Defined
defined_of d i c = cond (paths_read d c) (Events.reads (constraint_of d i c)) (Events.unread c.id.name)

-- a number that is not defined stands for nothing: refusal 12 keeps it out
abbrev pub no_constraint : Constraint
no_constraint = record { number = 0; name = []; kind = unique; refer = none; selector = []; fields = [] }

unfoldable pub constraint_from : Definitions → ℕ → Option Definition → Constraint
constraint_from d i none = no_constraint
constraint_from d i (some c) = constraint_of d i c

unfoldable pub constraint_at : Definitions → ℕ → Constraint
constraint_at d i = constraint_from d i (get_elem? d.ids i)

unfoldable pub defined_from : Definitions → ℕ → Option Definition → Defined
defined_from d i none = Events.unread []
defined_from d i (some c) = defined_of d i c

unfoldable pub defined_at : Definitions → ℕ → Defined
defined_at d i = defined_from d i (get_elem? d.ids i)
