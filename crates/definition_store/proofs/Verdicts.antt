-- The verdicts are what a session asks of an ID and an NS record. The latest constraint is there exactly where the count is not 0, and the schema-wide bindings
-- are those that the used bytes hold.
-- Assumes nothing.
use Prim.Native.Nat.{ℕ, ◌+◌}
use native.Mathlib.Omega.{arith}
use lib.Dec.{eqb, leb, ltb}
use lib.ListN.{length}
use borrow.Author.Tests.{ltb-true, ltb-false, le-leb, lt-leb, ne_eqb}
use mathlib.Core.Path.{◌≡◌, refl, ap, ◌∙◌}
use mathlib.Core.Bool.{Bool, true, false, ◌&&◌, ◌||◌, not}
use mathlib.Core.List.{List, [], ◌∷◌}
use mathlib.Core.Option.{some}
use Rattle.lists.specs.Lists.{any}
use Rattle.texts.specs.Texts.{same}
use Rattle.records.specs.Readers.{Bytes}
use Rattle.records.specs.Records.{IdRecord, NsRecord, ID, NS}
use Rattle.session_spec.specs.Definitions.{Definition, Definitions, latest, has_target, is_undefined, is_bound, too_many_defined, read_definitions}
use Rattle.bindings.proofs.Uris.{schema-bound}
use Rattle.definition_store.specs.Store.{field_count, tally_of, verdict, id_verdict, lacks_target, bound_again, ns_verdict}

-- ---- the target

past-not : (m n : ℕ) → leb m n ≡ not (ltb n m)
past-not m n = by (ltb n m) refl
  where
    by : (b : Bool) → ltb n m ≡ b → leb m n ≡ not b
    by true e = lt-leb m n (ltb-true n m e)
    by false e = le-leb m n (ltb-false n m e)

-- the latest of some constraints is one of them
some-latest : (c : Definition) (ds : List Definition) → (e : Definition) × (latest (c ∷ ds) ≡ some e)
unfolding latest
some-latest c [] = (c, refl)
some-latest c (d ∷ ds) = some-latest d ds

lacks-latest : (ds : List Definition) (t : ℕ) → (eqb (length ds) 0 || leb (field_count (latest ds) + 2) t) ≡ not (has_target t (latest ds))
lacks-latest [] t = unfold latest has_target in refl
lacks-latest (c ∷ ds) t =
    let l = some-latest c ds in
    rw (ne_eqb (length (c ∷ ds)) 0 (λ z. omega arith), l.1) (unfold field_count has_target in past-not (length l.0.id.fields + 2) t)

target_is : (d : Definitions) (b : NsRecord) → lacks_target (tally_of d) b.target ≡ is_undefined (NS b) d
unfolding lacks_target tally_of is_undefined
target_is d b = ap (λ (x : Bool). ltb 0 b.target && x) (lacks-latest d.ids b.target)

-- ---- the prefix

prefix-is : (used : Bytes) (d : Definitions) (b : NsRecord) → read_definitions used ≡ some d → bound_again used b.target b.prefix ≡ is_bound (NS b) d
unfolding bound_again is_bound
prefix-is used d b h = ap (λ (l : List NsRecord). eqb b.target 0 && any (λ c. same b.prefix c.prefix) l) (schema-bound used d h)

-- ---- THE LAWS

pub id-verdict-is : (d : Definitions) (r : IdRecord) → id_verdict (tally_of d) ≡ verdict (is_undefined (ID r) d) (is_bound (ID r) d) (too_many_defined (ID r) d)
unfolding id_verdict tally_of is_undefined is_bound too_many_defined
id-verdict-is d r = refl

pub ns-verdict-is : (used : Bytes) (d : Definitions) (b : NsRecord) → read_definitions used ≡ some d
    → ns_verdict used (tally_of d) b.target b.prefix ≡ verdict (is_undefined (NS b) d) (is_bound (NS b) d) (too_many_defined (NS b) d)
unfolding ns_verdict verdict too_many_defined tally_of
ns-verdict-is used d b h =
    ap (λ (x : Bool). verdict x (bound_again used b.target b.prefix) (leb 64 d.bindings)) (target_is d b)
    ∙ ap (λ (x : Bool). verdict (is_undefined (NS b) d) x (leb 64 d.bindings)) (prefix-is used d b h)
