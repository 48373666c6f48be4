-- Computed: what two attributes give the fields of a selection, which selections a step is about, and a small session that is described.
-- Assumes nothing.
use Prim.Native.String.{String}
use Rattle.std.specs.Prelude.{ℕ, replicate, ◌≡◌, refl, true, false}
use Rattle.std.proofs.Common.{arith}
use mathlib.Core.List.{List, [], ◌∷◌, map, flat_map, zip_with}
use Rattle.std.proofs.Math.Option.{Option, none, some}
use Rattle.texts.specs.Texts.{Text, same}
use Rattle.paths.specs.Names.{Name, after_colon}
use Rattle.paths.specs.Matching.{FieldAlt, space_fits, local_fits, fits, attribute_fits, fit_all, matches}
use Rattle.paths.specs.Examples.{codes}
use Rattle.tree.specs.Events.{Scope, unique}
use Rattle.tree.specs.Cells.{complex, Cell, Unset, Set, NotSimple, Multiple, one, ends_at, reaches, reach, attribute_hits}
use Rattle.machine.specs.Machine.{OpenScope, Selection, hit, feed_cells, feed}
use Rattle.records.specs.Readers.{Bytes, on_read, ◌>>=◌, pass, read_byte, read_two, cons_on, read_bytes, read_text, on_whole, up_to}
use Rattle.records.specs.Records.{read_attribute}
use Rattle.session_spec.specs.Definitions.{Definitions, no_definitions, constraint_at}
use Rattle.session_spec.specs.Layout.{place_of, put_name, put_selection}
use Rattle.session_spec.specs.Computed.{definitions_in}
use Rattle.session_spec.specs.Computed as computed
use Rattle.open_scopes.specs.declared.Scopes.{Scopes}
use Rattle.open_scopes.specs.OpenScopes.{blank_scope, open_of, records_of}
use Rattle.cells.specs.Cells.{hit_nth, hit_field}
use Rattle.attribute_hits.specs.AttributeHits.{given_at, Described}
use Rattle.attribute_hits.specs.Steps.{is_of, hit_here, fed_here}

-- ---- two attributes, from place 1 on: a with key 1, p:b with key 2

abbrev attributes : Bytes
attributes = 9 ∷ 1 ∷ 0 ∷ 97 ∷ 1 ∷ 0 ∷ 49 ∷ 3 ∷ 0 ∷ 112 ∷ 58 ∷ 98 ∷ 1 ∷ 0 ∷ 50 ∷ 7 ∷ []

abbrev attr : Option Text → FieldAlt
attr t = record { path = record { descendant = false; steps = [] }; attr = some t }

abbrev called : String → FieldAlt
called t = attr (some (codes t))

-- an element one level below
abbrev child : String → FieldAlt
child t = record { path = record { descendant = false; steps = record { ns = none; local = some (codes t) } ∷ [] }; attr = some (some (codes t)) }

-- @a; @b twice; @*; @c; a/@a
abbrev fields : List (List FieldAlt)
fields = (called "a" ∷ []) ∷ (called "b" ∷ called "b" ∷ []) ∷ (attr none ∷ []) ∷ (called "c" ∷ []) ∷ (child "a" ∷ []) ∷ []

abbrev scope : ℕ → Scope
scope n = record { number = n; constraint = record { number = 0; name = []; kind = unique; refer = none; selector = []; fields = fields } }

abbrev blank : ℕ → Selection
blank n = record { scope = scope n; depth = 1; cells = Unset ∷ Unset ∷ Unset ∷ Set [] ∷ Unset ∷ [] }

abbrev named : String → Name
named t = record { space = []; local = codes t }

unfoldable fed : (first count : ℕ) → List Name → List Cell
unfolding codes zip_with flat_map same after_colon space_fits local_fits fits attribute_fits fit_all matches one ends_at reaches reach attribute_hits hit feed_cells feed on_read ◌>>=◌ pass read_byte read_two cons_on read_bytes read_text on_whole up_to read_attribute place_of hit_nth hit_field is_of hit_here fed_here
fed first count ns = (feed ns (given_at attributes first count) (blank 1)).cells

-- one hit sets, by two alternatives too; two attributes are Multiple; what none reaches stays
of-itself : fed 1 2 (named "e" ∷ []) ≡ Set (49 ∷ []) ∷ Set (50 ∷ []) ∷ Multiple ∷ Set [] ∷ Unset ∷ []
unfolding fed
of-itself = refl

-- the second attribute alone; none; none is whole
fewer : map (λ (n : ℕ × ℕ). fed n.0 n.1 (named "e" ∷ [])) ((7, 1) ∷ (1, 0) ∷ (15, 1) ∷ [])
    ≡ (Unset ∷ Set (50 ∷ []) ∷ Set (50 ∷ []) ∷ Set [] ∷ Unset ∷ [])
    ∷ (Unset ∷ Unset ∷ Unset ∷ Set [] ∷ Unset ∷ [])
    ∷ (Unset ∷ Unset ∷ Unset ∷ Set [] ∷ Unset ∷ [])
    ∷ []
unfolding fed
fewer = refl

-- of an element below the selected one
from-above : fed 1 2 (named "e" ∷ named "a" ∷ []) ≡ Unset ∷ Unset ∷ Unset ∷ Set [] ∷ Set (49 ∷ []) ∷ []
unfolding fed
from-above = refl

-- ---- steps: the scopes with numbers 4 and 6 are open

abbrev open-ones : List OpenScope
open-ones = record { scope = scope 4; depth = 1 } ∷ record { scope = scope 6; depth = 1 } ∷ []

of-which : map (λ (n : ℕ). is_of open-ones 1 (blank n)) (4 ∷ 6 ∷ []) ≡ false ∷ true ∷ []
unfolding fed
of-which = refl

-- as many hits as the selected element is deep, on field 2
here : map (λ (n : ℕ). (hit_here open-ones 1 2 (λ d. replicate d complex) (blank n)).cells) (4 ∷ 6 ∷ [])
    ≡ (Unset ∷ Unset ∷ Unset ∷ Set [] ∷ Unset ∷ []) ∷ (Unset ∷ Unset ∷ NotSimple ∷ Set [] ∷ Unset ∷ []) ∷ []
unfolding fed
here = refl

fed-there : map (λ (n : ℕ). (fed_here open-ones 0 (named "e" ∷ []) (given_at attributes 1 1) (blank n)).cells) (4 ∷ 6 ∷ [])
    ≡ (Set (49 ∷ []) ∷ Unset ∷ Set (49 ∷ []) ∷ Set [] ∷ Unset ∷ []) ∷ (Unset ∷ Unset ∷ Unset ∷ Set [] ∷ Unset ∷ []) ∷ []
unfolding fed
fed-there = refl

-- of a scope that is not open, no selection takes anything
abbrev untouched : List (List Cell)
untouched = map (λ (n : ℕ). (blank n).cells) (4 ∷ 6 ∷ [])

hit-elsewhere : map (λ (n : ℕ). (hit_here open-ones 5 2 (λ d. replicate d complex) (blank n)).cells) (4 ∷ 6 ∷ []) ≡ untouched
unfolding fed
hit-elsewhere = refl

fed-elsewhere : map (λ (n : ℕ). (fed_here open-ones 5 (named "e" ∷ []) (λ alts below. complex ∷ []) (blank n)).cells) (4 ∷ 6 ∷ []) ≡ untouched
unfolding fed
fed-elsewhere = refl

-- ---- a session: one constraint, and one scope and one selection on the only element

abbrev store : Bytes
store = computed.id 0 "k" "." ("@a" ∷ [])

abbrev or_nothing : Option Definitions → Definitions
or_nothing none = no_definitions
or_nothing (some d) = d

abbrev defs : Definitions
defs = or_nothing (definitions_in store)

abbrev one-scope : OpenScope
one-scope = record { scope = record { number = 1; constraint = constraint_at defs 0 }; depth = 1 }

abbrev one-selection : Selection
one-selection = record { scope = one-scope.scope; depth = 1; cells = Unset ∷ [] }

abbrev scopes : Scopes
scopes = record { list = record { constraint = 0; number = 1; depth = 1 } ∷ replicate 15 blank_scope; n = 1 }

described : Described (put_selection (one-scope ∷ []) one-selection) 1 scopes (put_name (named "e")) 1 store (replicate 1024 7) attributes 1 2
    defs (named "e" ∷ []) (one-scope ∷ []) (one-selection ∷ [])
unfolding fed computed.called open_of records_of
described =
    record {
      definitions = refl;
      named = refl;
      scoped = refl;
      known = (record { known = refl; defined = omega arith }, tt);
      selected = refl;
      many = refl;
      few = omega arith;
      fit = (record { home = one-scope; found = refl; scope = refl; within = omega arith; many = refl; few = omega arith; keys = (omega arith, tt) }, tt);
      room = omega arith;
      whole = refl;
      keys = (omega arith, (omega arith, tt));
    }
