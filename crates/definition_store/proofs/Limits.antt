-- How much a store that reads can hold: at most 32 constraints and 64 bindings, for each count is looked at before it grows; and an ID that parses has at most four
-- fields, since no test on its body holds.
-- Assumes nothing.
use Prim.Native.Nat.{◌≤◌}
use native.Mathlib.Omega.{arith}
use lib.ListN.{length}
use borrow.Author.Tests.{leb-false}
use mathlib.Core.Path.{◌≡◌, sym, subst}
use mathlib.Core.Bool.{false}
use mathlib.Core.List.{List, [], ◌∷◌}
use mathlib.Core.Option.{Option, none, some, some-injective, none-ne-some}
use Rattle.lists.specs.Lists.{foldl}
use Rattle.paths.specs.Reading.{on_some}
use Rattle.records.specs.Readers.{Bytes, reads}
use Rattle.records.specs.Records.{Rec, ID, NS, ES, EE, FI, parsed, parse}
use Rattle.session_spec.specs.Definitions.{Definitions, no_definitions, define, latest, too_many_defined, frame, replay, read_definitions}
use Rattle.session_laws.proofs.Replays.{taken}
use Rattle.definition_store.specs.declared.Tally.{Tally}
use Rattle.definition_store.specs.Store.{field_count, tally_of}
use Rattle.definition_store.specs.Counting.{tallied}
use Rattle.definition_store.proofs.Tallies.{tally-more}
use Rattle.session_laws.proofs.Limits.{id-few, limited}

-- ---- the counts

pub record Small (t : Tally) : Type 0 where
  pub constraints : t.constraints ≤ 32
  pub fields : t.fields ≤ 4
  pub bindings : t.bindings ≤ 64

small-tallied : (f : Bytes) (r : Rec) (d : Definitions) → parse f ≡ parsed r → too_many_defined r d ≡ false → Small (tally_of d) → Small (tallied r (tally_of d))
unfolding tallied tally_of too_many_defined
small-tallied f (ID r) d p h s =
    let n = id-few r (limited f (ID r) p) in
    let m = leb-false 32 (length d.ids) h in
    record { constraints = omega arith; fields = n; bindings = s.bindings }
small-tallied f (NS b) d p h s =
    let m = leb-false 64 d.bindings h in
    record { constraints = s.constraints; fields = s.fields; bindings = omega arith }
small-tallied f (ES r) d p h s = s
small-tallied f (EE r) d p h s = s
small-tallied f FI d p h s = s

small_all : (l : List Bytes) (d e : Definitions) → foldl replay (some d) l ≡ some e → Small (tally_of d) → Small (tally_of e)
small_all [] d e h s = subst (λ (x : Definitions). Small (tally_of x)) (some-injective _ _ h) s
small_all (f ∷ l) d e h s =
    let t = taken d f l e h in
    small_all l (define t.rec d) e t.rest
    (subst Small (sym (tally-more t.rec d)) (small-tallied f t.rec d t.says t.fits s))

small-start : Small (tally_of no_definitions)
unfolding tally_of latest field_count
small-start = record { constraints = omega arith; fields = omega arith; bindings = omega arith }

-- THE LAW
pub tally-small : (used : Bytes) (d : Definitions) → read_definitions used ≡ some d → Small (tally_of d)
unfolding read_definitions
tally-small used d h = by (reads frame used) h
  where
    by : (o : Option (List Bytes)) → on_some o (λ l. foldl replay (some no_definitions) l) ≡ some d → Small (tally_of d)
    by none h = unfold on_some in absurd (none-ne-some d h)
    by (some l) h = unfold on_some in small_all l no_definitions d h small-start
