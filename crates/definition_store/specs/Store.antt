-- What the definitions of a store come to, and what stands against one more: 12, 17 and the counts of 18.
-- Assumes nothing.
use Rattle.std.specs.Prelude.{ℕ, ◌+◌, eqb, leb, ltb, length, Bool, true, false, ◌&&◌, ◌||◌}
use Rattle.std.specs.declared.option.Option as code
use Rattle.std.specs.declared.option.Option.TheVariants.{Some, None}
use Rattle.std.specs.declared.result.Result.{Result}
use Rattle.std.specs.declared.result.Result.TheVariants.{Ok, Err}
use Rattle.std.proofs.Math.Option.{Option, none, some}
use Rattle.lists.specs.Lists.{any}
use Rattle.texts.specs.Texts.{Text, same}
use Rattle.records.specs.Readers.{Bytes}
use Rattle.records.specs.Refusals.{Refusal, undefined, bound_twice, definitions_full}
use Rattle.session_spec.specs.Definitions.{Definition, Definitions, latest}
use Rattle.bindings.specs.Bindings.{bound_for}
use Rattle.definition_store.specs.declared.Tally.{Tally}
use Rattle.definition_store.specs.declared.Against.{Against}
use Rattle.definition_store.specs.declared.Against.TheVariants.{Undefined, BoundTwice, Full}

-- ---- what definitions come to

-- how many fields a constraint has; 0 where there is none
unfoldable pub field_count : Option Definition → ℕ
field_count none = 0
field_count (some c) = length c.id.fields

-- how many constraints, how many fields the latest of them has, how many bindings of both sorts
unfoldable pub tally_of : Definitions → Tally
tally_of d = record { constraints = length d.ids; fields = field_count (latest d.ids); bindings = d.bindings }

-- what is answered of a store: what its definitions come to, if its bytes are such
abbrev pub Defined : Type 0
Defined = code.Option Tally

unfoldable pub defined_by : Option Definitions → Defined
defined_by none = None
defined_by (some d) = Some (tally_of d)

-- ---- what stands against one more

abbrev pub Verdict : Type 0
Verdict = Result (Unit {0}) Against

-- THE REFUSAL that each verdict is, which has its number in document 01: 12, 17, 18; none where nothing stands against
-- it
abbrev pub stands_against : Verdict → Option Refusal
stands_against (Ok x) = none
stands_against (Err Undefined) = some undefined
stands_against (Err BoundTwice) = some bound_twice
stands_against (Err Full) = some definitions_full

-- 12, 17, 18: the first that holds
unfoldable pub verdict : (lacks bound full : Bool) → Option Refusal
verdict true bound full = some undefined
verdict false true full = some bound_twice
verdict false false true = some definitions_full
verdict false false false = none

-- 18: a 33rd constraint
unfoldable pub id_verdict : Tally → Option Refusal
id_verdict t = verdict false false (leb 32 t.constraints)

-- 12: a path of the latest ID, where there is no ID, or past its fields
unfoldable pub lacks_target : Tally → ℕ → Bool
lacks_target t target = ltb 0 target && (eqb t.constraints 0 || leb (t.fields + 2) target)

-- 17: a prefix that the used bytes bind schema-wide, again
unfoldable pub bound_again : (used : Bytes) → (target : ℕ) → Text → Bool
bound_again used target p = eqb target 0 && any (λ b. same p b.prefix) (bound_for 0 used)

-- 12, 17, and 18: a 65th binding
unfoldable pub ns_verdict : (used : Bytes) → Tally → (target : ℕ) → Text → Option Refusal
ns_verdict used t target p = verdict (lacks_target t target) (bound_again used target p) (leb 64 t.bindings)
