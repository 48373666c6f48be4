-- Computed: what small stores come to and what of bytes is no store of definitions, the limits, and the order of what
-- stands against one more.
-- Assumes nothing.
use Rattle.std.specs.Prelude.{ℕ, take, replicate, ◌≡◌, refl, true, false}
use mathlib.Core.List.{List, [], ◌∷◌, ◌++◌, map, flat_map}
use Rattle.std.specs.declared.option.Option.TheVariants.{Some, None}
use Rattle.std.specs.declared.result.Result.TheVariants.{Ok, Err}
use Rattle.std.proofs.Math.Option
use Rattle.std.proofs.Math.Option.{Option, none, some}
use Rattle.lists.specs.Lists.{only_if, passing}
use Rattle.texts.specs.Texts.{same}
use Rattle.paths.specs.Examples.{codes}
use Rattle.records.specs.Readers.{Bytes, on_whole, up_to}
use Rattle.records.specs.Records.{parse}
use Rattle.records.specs.Refusals.{Refusal, undefined, bound_twice, definitions_full, refusal_number}
use Rattle.output_stores.specs.Stores.{standing}
use Rattle.session_spec.specs.Definitions.{read_definitions}
use Rattle.session_spec.specs.Computed.{id, ns, es, fi, definitions_in}
use Rattle.bindings.specs.Bindings.{read_binding, as_list, bindings_in, bound_for}
use Rattle.definition_store.specs.declared.Tally.{Tally}
use Rattle.definition_store.specs.declared.Against.TheVariants.{Undefined, BoundTwice, Full}
use Rattle.definition_store.specs.Store.{Defined, Verdict, stands_against, field_count, tally_of, defined_by, verdict, id_verdict, lacks_target, bound_again, ns_verdict}
use Rattle.definition_store.specs.Counting.{tallied, if_good, counted, counted_by}

abbrev tally : (constraints fields bindings : ℕ) → Tally
tally c f b = record { constraints = c; fields = f; bindings = b }

-- ---- stores

unfoldable defined : Bytes → Defined
unfolding definitions_in codes id ns es fi same field_count tally_of defined_by
defined xs = defined_by (read_definitions xs)

-- a constraint with two fields
abbrev two : Bytes
two = id 0 "" "r" ("@a" ∷ "@b" ∷ [])

-- nothing; the fields are those of the latest constraint, and bindings of both sorts count
read : map defined ([] ∷ two ∷ (two ++ (ns 0 "p" "u" ++ (ns 3 "p" "v" ++ (id 1 "k" "s" ("@c" ∷ []) ++ ns 1 "q" "w")))) ∷ [])
    ≡ Some (tally 0 0 0) ∷ Some (tally 1 2 0) ∷ Some (tally 2 1 3) ∷ []
unfolding defined
read = refl

-- an own binding may repeat, and a prefix may be bound schema-wide and for a path
repeated : map defined ((two ++ (ns 1 "p" "u" ++ ns 1 "p" "u")) ∷ (two ++ (ns 0 "p" "u" ++ ns 1 "p" "u")) ∷ (ns 0 "p" "u" ++ ns 0 "q" "u") ∷ [])
    ≡ Some (tally 1 2 2) ∷ Some (tally 1 2 2) ∷ Some (tally 0 0 2) ∷ []
unfolding defined
repeated = refl

-- 12: no ID stands before; a path past its fields. 17: bound schema-wide again
undefined-or-bound : map defined (ns 1 "p" "u" ∷ (two ++ ns 4 "p" "u") ∷ (ns 0 "p" "u" ++ (two ++ ns 0 "p" "v")) ∷ []) ≡ None ∷ None ∷ None ∷ []
unfolding defined
undefined-or-bound = refl

-- what is no definition, what does not parse, what is cut short
no-definition : map defined (es "t" [] [] ∷ (two ++ fi) ∷ id 3 "" "r" ("@a" ∷ []) ∷ take 15 two ∷ (two ++ (73 ∷ [])) ∷ []) ≡ None ∷ None ∷ None ∷ None ∷ None ∷ []
unfolding defined
no-definition = refl

-- 32 constraints and 64 bindings are taken, and not one more
many : ℕ → Bytes → Bytes
many n xs = flat_map (λ (y : Bytes). y) (replicate n xs)

full : map defined (many 32 two ∷ many 33 two ∷ (two ++ many 64 (ns 2 "p" "u")) ∷ (two ++ many 65 (ns 2 "p" "u")) ∷ [])
    ≡ Some (tally 32 2 0) ∷ None ∷ Some (tally 1 2 64) ∷ None ∷ []
unfolding defined many
full = refl

-- ---- what stands against one more

-- document 01's number, where there is one
abbrev number : Option Refusal → Option ℕ
number c = Option.map refusal_number c

numbers : map (λ (v : Verdict). number (stands_against v)) (Ok tt ∷ Err Undefined ∷ Err BoundTwice ∷ Err Full ∷ []) ≡ none ∷ some 12 ∷ some 17 ∷ some 18 ∷ []
unfolding refusal_number
numbers = refl

first_of : map number (verdict true true true ∷ verdict false true true ∷ verdict false false true ∷ verdict false false false ∷ []) ≡ some 12 ∷ some 17 ∷ some 18 ∷ none ∷ []
unfolding verdict refusal_number
first_of = refl

-- as the paper has them
abbrev good : Option Refusal
good = none

abbrev lacking : Option Refusal
lacking = some undefined

abbrev again : Option Refusal
again = some bound_twice

abbrev over : Option Refusal
over = some definitions_full

constraints : map (λ (n : ℕ). id_verdict (tally n 1 64)) (0 ∷ 31 ∷ 32 ∷ []) ≡ good ∷ good ∷ over ∷ []
unfolding id_verdict verdict
constraints = refl

-- a store that binds `p` schema-wide: a tally, and one more binding of `p` or `q`
unfoldable against : Tally → (target : ℕ) → List (Option Refusal)
unfolding definitions_in codes id ns same only_if passing flat_map on_whole up_to standing read_binding as_list bindings_in bound_for verdict lacks_target bound_again ns_verdict
against t target = map (ns_verdict (two ++ ns 0 "p" "u") t target) (codes "p" ∷ codes "q" ∷ [])

-- only a schema-wide one is bound again
wide-or-own : map (against (tally 1 2 1)) (0 ∷ 1 ∷ 2 ∷ 3 ∷ []) ≡ (again ∷ good ∷ []) ∷ (good ∷ good ∷ []) ∷ (good ∷ good ∷ []) ∷ (good ∷ good ∷ []) ∷ []
unfolding against
wide-or-own = refl

-- a path that is not there: without an ID; past two fields
no-path : against (tally 0 2 1) 1 ∷ against (tally 1 2 1) 4 ∷ against (tally 1 2 1) 5 ∷ against (tally 0 0 0) 0 ∷ []
    ≡ (lacking ∷ lacking ∷ []) ∷ (lacking ∷ lacking ∷ []) ∷ (lacking ∷ lacking ∷ []) ∷ (again ∷ good ∷ []) ∷ []
unfolding against
no-path = refl

-- 63 bindings leave room for one
bindings : against (tally 1 2 63) 1 ∷ against (tally 1 2 64) 1 ∷ [] ≡ (good ∷ good ∷ []) ∷ (over ∷ over ∷ []) ∷ []
unfolding against
bindings = refl

-- with 64 a path that is not there, and a prefix that is bound, still come first
before-full : against (tally 1 2 64) 4 ∷ against (tally 1 2 64) 0 ∷ [] ≡ (lacking ∷ lacking ∷ []) ∷ (again ∷ over ∷ []) ∷ []
unfolding against
before-full = refl

-- ---- record by record

unfoldable behind : Bytes → Defined
unfolding against defined id_verdict tallied if_good counted counted_by
behind x = counted_by two (tally 1 2 0) (parse x)

-- a constraint more, a binding more; a path that is not there, no definition, no record
one_more : map behind (id 1 "k" "s" ("@c" ∷ []) ∷ ns 3 "p" "u" ∷ ns 4 "p" "u" ∷ fi ∷ [] ∷ [])
    ≡ Some (tally 2 1 0) ∷ Some (tally 1 2 1) ∷ None ∷ None ∷ None ∷ []
unfolding behind
one_more = refl
