-- Computed: the constraints of a small store, one by one, with the parts of an ID by their places, and the sets of those that bear a name.
-- Assumes nothing.
use Prim.Native.String.{String}
use Rattle.std.specs.Prelude.{ℕ, ◌<◌, ltb, length, take, ◌≡◌, refl, true, false}
use Rattle.std.proofs.Common.{arith}
use mathlib.Core.List.{[], ◌∷◌, ◌++◌, map, flatten, flat_map}
use Rattle.std.specs.declared.option.Option.TheVariants.{Some, None}
use Rattle.std.proofs.Math.Option
use Rattle.std.proofs.Math.Option.{Option, none, some}
use Rattle.lists.specs.Lists.{only_if, passing}
use Rattle.texts.specs.Texts.{same}
use Rattle.paths.specs.Reading.{on_some}
use Rattle.paths.specs.Examples.{codes}
use Rattle.tree.specs.Judge.{is_keyref}
use Rattle.records.specs.Readers.{Bytes, on_read, ◌>>=◌, pass, read_byte, read_two, cons_on, read_bytes, read_text, on_whole, up_to}
use Rattle.records.specs.Records.{IdRecord}
use Rattle.records.specs.Examples.{said}
use Rattle.output_stores.specs.Stores.{standing}
use Rattle.session_spec.specs.Definitions.{Definitions, no_definitions, frame, kind_of, is_some}
use Rattle.session_spec.specs.Computed.{id, ref_to, ns, fi, definitions_in}
use Rattle.output_stores.specs.Stores.{in_mask}
use Rattle.bindings.specs.Bindings.{frames_in}
use Rattle.bindings.specs.Own.{is_id, until_id, own_frames}
use Rattle.constraints.specs.declared.Parts.{Parts}
use Rattle.constraints.specs.Constraints.{joined, id_of, id_at, PartsAre, NamedBy, AnsweredBy, ids_in, count_in}
use Rattle.constraints.specs.Walks.{text_or, name_in, bears, bits_of, ids_with, bearers_in}

-- ---- a store of three constraints: a key and a unique of one name, and a keyref that refers to it; bindings before, between and behind them

abbrev first : Bytes
first = id 1 "k" "r" ("@a" ∷ "b" ∷ []) ++ (ns 1 "p" "u" ++ ns 0 "q" "v")

abbrev second : Bytes
second = ref_to "ref" "k" "s" ("@c" ∷ [])

abbrev third : Bytes
third = id 0 "k" "." ("." ∷ []) ++ ns 2 "p" "w"

abbrev store : Bytes
store = ns 0 "o" "x" ++ (first ++ (second ++ third))

-- it reads, and holds three
three-defined : Option.map (λ (d : Definitions). length d.ids) (definitions_in store) ≡ some 3
unfolding definitions_in id ref_to ns
three-defined = refl

-- ---- the records of each

unfoldable own : ℕ → Bytes
unfolding codes id ref_to ns fi said is_some is_id until_id own_frames flatten flat_map only_if passing same on_some on_read ◌>>=◌ pass read_byte read_two cons_on read_bytes read_text on_whole up_to frame standing id_of id_at text_or name_in is_keyref kind_of bears bits_of ids_in count_in ids_with bearers_in
own i = joined (own_frames i (frames_in store))

in_one : joined ((1 ∷ 2 ∷ []) ∷ [] ∷ (3 ∷ []) ∷ (2 ∷ []) ∷ []) ≡ 1 ∷ 2 ∷ 3 ∷ 2 ∷ []
unfolding own
in_one = refl

-- those before the first ID are no constraint's, and there is no fourth
own-bytes : map own (0 ∷ 1 ∷ 2 ∷ 3 ∷ []) ≡ first ∷ second ∷ third ∷ [] ∷ []
unfolding own
own-bytes = refl

-- ---- the ID at the front

abbrev first_id : IdRecord
first_id = record { kind = 1; name = codes "k"; flag = 0; refer = none; selector = codes "r"; fields = codes "@a" ∷ codes "b" ∷ [] }

abbrev second_id : IdRecord
second_id = record { kind = 2; name = codes "ref"; flag = 1; refer = some (codes "k"); selector = codes "s"; fields = codes "@c" ∷ [] }

abbrev third_id : IdRecord
third_id = record { kind = 0; name = codes "k"; flag = 0; refer = none; selector = codes "."; fields = codes "." ∷ [] }

the-ids : map (λ (i : ℕ). id_at (own i)) (0 ∷ 1 ∷ 2 ∷ 3 ∷ []) ≡ some first_id ∷ some second_id ∷ some third_id ∷ none ∷ []
unfolding own
the-ids = refl

-- an ID that is not first, one of which a byte is missing, one that does not parse, another record
no-ids : map (λ (s : Bytes). is_some (id_at s)) (second ∷ (ns 0 "p" "u" ++ second) ∷ take 21 second ∷ id 3 "k" "r" ("." ∷ []) ∷ fi ∷ [] ∷ [])
    ≡ true ∷ false ∷ false ∷ false ∷ false ∷ false ∷ []
unfolding own
no-ids = refl

-- ---- the parts by their places

-- mark and length are four bytes; then kind, name, refer byte, refer, selector, count, and the field
abbrev second_parts : Parts
second_parts =
    record {
      kind = 2;
      name = record { start = 7; size = 3 };
      refer = Some (record { start = 13; size = 1 });
      selector = record { start = 16; size = 1 };
      first = 18;
      count = 1;
    }

-- without refer nothing stands between its byte and the selector
abbrev first_parts : Parts
first_parts =
    record {
      kind = 1;
      name = record { start = 7; size = 1 };
      refer = None;
      selector = record { start = 11; size = 1 };
      first = 13;
      count = 2;
    }

second-parts : PartsAre second second_parts second_id
unfolding own
second-parts = record { kind = refl; name = refl; refer = refl; selector = refl; count = refl; fields = refl }

first-parts : PartsAre first first_parts first_id
unfolding own
first-parts = record { kind = refl; name = refl; refer = refl; selector = refl; count = refl; fields = refl }

-- ---- sets and the number

-- three have the mark of an ID
how-many : map count_in (store ∷ first ∷ ns 0 "p" "u" ∷ [] ∷ []) ≡ 3 ∷ 1 ∷ 0 ∷ 0 ∷ []
unfolding own
how-many = refl

-- of the records these alone
the-marked : map length (ids_in store) ≡ 20 ∷ 22 ∷ 16 ∷ []
unfolding own
the-marked = refl

-- all of them count
all-counted : count_in (second ++ (second ++ second)) ≡ 3
unfolding own
all-counted = refl

-- a name is borne whole, and not by its front
whole-name : map (λ (t : String). bears false (codes t) second) ("ref" ∷ "re" ∷ "" ∷ []) ≡ true ∷ false ∷ false ∷ []
unfolding own
whole-name = refl

-- those of so many bytes at most: the third, the first too, and all
who-passes : map (λ (n : ℕ). ids_with (λ f. ltb (length f) n) store) (17 ∷ 21 ∷ 23 ∷ []) ≡ 4 ∷ 5 ∷ 7 ∷ []
unfolding own
who-passes = refl

-- number 0 and 2 bear `k`, number 1 `ref`; none a name that only begins so, and none the empty one
who-bears : map (λ (t : String). bearers_in false (codes t) store) ("k" ∷ "ref" ∷ "re" ∷ "refer" ∷ "" ∷ []) ≡ 5 ∷ 2 ∷ 0 ∷ 0 ∷ 0 ∷ []
unfolding own
who-bears = refl

-- where keyrefs are left out
who-answers : map (λ (t : String). bearers_in true (codes t) store) ("k" ∷ "ref" ∷ []) ≡ 5 ∷ 0 ∷ []
unfolding own
who-answers = refl

-- a keyref bears its name, and answers none: so say the sets of a store that has only one

abbrev or_none : Option Definitions → Definitions
or_none none = no_definitions
or_none (some d) = d

keyref-bears : (r : ℕ) → NamedBy second (codes "ref") r → in_mask r 0 ≡ true
unfolding definitions_in own
keyref-bears r s = let h : 0 < 1 = omega arith in s.bears (or_none (definitions_in second)) refl 0 h

keyref-answers-none : (r : ℕ) → AnsweredBy second (codes "ref") r → in_mask r 0 ≡ false
unfolding definitions_in own
keyref-answers-none r s = let h : 0 < 1 = omega arith in s.bears (or_none (definitions_in second)) refl 0 h

-- as bits
in-five : map (in_mask 5) (0 ∷ 1 ∷ 2 ∷ 3 ∷ []) ≡ true ∷ false ∷ true ∷ false ∷ []
unfolding in_mask
in-five = refl
