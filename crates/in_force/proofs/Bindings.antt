-- `bindings-fit`: the text of the bindings that a session holds for a path is one that the checker takes. By induction
-- over the definition records: each prefix is UTF-8 and has at most 255 bytes, and there are at most 64 of them.
-- Assumes nothing.
use Prim.Native.Nat.{ℕ, suc, ◌+◌, ◌*◌, ◌≤◌, ◌<◌}
use native.Mathlib.Omega.{arith}
use borrow.Author.Tests.{leb-false, not-false}
use lib.Dec.{eqb}
use lib.ListN.{length, length-append, length-map, get_elem?}
use mathlib.Core.Path.{◌≡◌, refl, sym, subst}
use mathlib.Core.Bool.{Bool, true, false, not}
use mathlib.Core.List.{List, [], ◌∷◌, ◌++◌, flat_map, append_assoc}
use mathlib.Core.Option.{some}
use Rattle.lists.specs.Lists.{all, any, foldl, passing, All}
use Rattle.lists.proofs.Folds.{All-append, All-map, All-weaken, length-snoc}
use Rattle.lists.proofs.Places.{none_of, All-passing, All-get_elem, length-passing}
use Rattle.texts.specs.Texts.{Text, same}
use Rattle.utf8.specs.Utf8.{Encodes, scalar, encode, code_of, decode_from, decode, utf8}
use Rattle.utf8.specs.Utf8.Encodes.{nothing, next}
use Rattle.utf8.proofs.Exact.{encoded-passes, passed-encodes}
use Rattle.records.specs.Readers.{Bytes}
use Rattle.records.specs.Refusals.{not_utf8, bad_byte, over_limit}
use Rattle.records.specs.Records.{NsRecord, Rec, ID, NS, ES, EE, FI, parsed, parse, texts_of, keys_in, has_bad_byte, over_in, body_rows}
use Rattle.session_spec.specs.Definitions.{Definition, Definitions, no_definitions, bind_last, bind, define, too_many_defined}
use Rattle.session_spec.specs.Session.{World, areas_fit}
use Rattle.session_spec.specs.Runs.{accepted, session_of, definitions_of}
use Rattle.session_laws.proofs.Tests.{first-none}
use Rattle.session_laws.proofs.Limits.{limited, parsed-within}
use Rattle.session_laws.proofs.Holds.{areas-are}
use Rattle.runs.proofs.Calls.{after_run}
use Rattle.runs.proofs.Refused.{short-run}
use Rattle.runs.proofs.Pieces.{replays-keep}
use Rattle.runs.proofs.SameLengths.{again}
use Rattle.calls.specs.Runs.{Run}
use Rattle.calls.proofs.Theorems.{as-calls}
use Rattle.canonical.specs.Canonical.{joined}
use Rattle.in_force.specs.InForce.{bound_prefixes, declared_for}

-- ---- texts put together

encodes-append : {s t : Text} {cs ds : List ℕ} → Encodes s cs → Encodes t ds → Encodes (s ++ t) (cs ++ ds)
encodes-append nothing g = g
encodes-append {t = t} {ds = ds} (next {c = c} {s = s} {cs = cs} k e) g =
    subst (λ (l : Text). Encodes l (c ∷ (cs ++ ds))) (sym (append_assoc (encode c) s t)) (next k (encodes-append e g))

utf8_append : (s t : Text) → utf8 s ≡ true → utf8 t ≡ true → utf8 (s ++ t) ≡ true
utf8_append s t h g = (encoded-passes (encodes-append (passed-encodes s h) (passed-encodes t g))).0

-- a prefix that an NS record may have
abbrev pub Prefix : Text → Type 0
Prefix t = (length t ≤ 255) × (utf8 t ≡ true)

space-utf8 : (t : Text) → utf8 t ≡ true → utf8 (32 ∷ t) ≡ true
space-utf8 t h = utf8_append (32 ∷ []) t (unfold utf8 decode decode_from code_of scalar encode same flat_map in refl) h

joined-utf8 : (ts : List Text) → All Prefix ts → utf8 (joined 32 ts) ≡ true
unfolding joined
joined-utf8 [] a = (encoded-passes nothing).0
joined-utf8 (t ∷ []) a = a.0.1
joined-utf8 (t ∷ u ∷ ts) a = utf8_append t (32 ∷ joined 32 (u ∷ ts)) a.0.1 (space-utf8 (joined 32 (u ∷ ts)) (joined-utf8 (u ∷ ts) a.1))

joined_length : (ts : List Text) → All Prefix ts → length (joined 32 ts) ≤ 256 * length ts
unfolding joined
joined_length [] a = omega arith
joined_length (t ∷ []) a = let l = a.0.0 in omega arith
joined_length (t ∷ u ∷ ts) a =
    let l = a.0.0 in
    let h = joined_length (u ∷ ts) a.1 in
    let n = length-append t (32 ∷ joined 32 (u ∷ ts)) in
    omega arith

-- ---- the bindings of definitions

abbrev Fit : NsRecord → Type 0
Fit b = Prefix b.prefix

-- at most 64 bindings, each of them fit
pub record Bound (d : Definitions) : Type 0 where
  pub most : d.bindings ≤ 64
  pub counted : All (λ (c : Definition). length c.own + length d.schema ≤ d.bindings) d.ids
  pub schema_counted : length d.schema ≤ d.bindings
  pub own : All (λ (c : Definition). All Fit c.own) d.ids
  pub schema : All Fit d.schema

nothing_bound : Bound no_definitions
nothing_bound = record { most = omega arith; counted = tt; schema_counted = omega arith; own = tt; schema = tt }

-- one more for the latest constraint
last-all : (P Q : Definition → Type 0) (b : NsRecord) → ((c : Definition) → P c → Q c)
    → ((c : Definition) → P c → Q (record { id = c.id; own = c.own ++ (b ∷ []) })) → (ds : List Definition) → All P ds → All Q (bind_last b ds)
unfolding bind_last
last-all P Q b stays grows [] a = tt
last-all P Q b stays grows (d ∷ []) a = (grows d a.0, tt)
last-all P Q b stays grows (d ∷ e ∷ ds) a = (stays d a.0, last-all P Q b stays grows (e ∷ ds) a.1)

bind-bound : (wide : Bool) (b : NsRecord) (d : Definitions) → Fit b → d.bindings < 64 → Bound d → Bound (bind wide b d)
unfolding bind
bind-bound true b d f l h =
    let n = length-snoc d.schema b in
    let s = h.schema_counted in
    record {
      most = l;
      counted =
          All-weaken (λ (c : Definition). length c.own + length d.schema ≤ d.bindings) (λ (c : Definition). length c.own + length (d.schema ++ (b ∷ [])) ≤ suc d.bindings)
          (λ c k. omega arith) d.ids h.counted;
      schema_counted = omega arith;
      own = h.own;
      schema = All-append Fit d.schema (b ∷ []) h.schema (f, tt);
    }
bind-bound false b d f l h =
    let s = h.schema_counted in
    record {
      most = l;
      counted =
          last-all (λ (c : Definition). length c.own + length d.schema ≤ d.bindings) (λ (c : Definition). length c.own + length d.schema ≤ suc d.bindings) b
          (λ c k. omega arith) (λ c k. let n = length-snoc c.own b in omega arith) d.ids h.counted;
      schema_counted = omega arith;
      own =
          last-all (λ (c : Definition). All Fit c.own) (λ (c : Definition). All Fit c.own) b
          (λ c k. k) (λ c k. All-append Fit c.own (b ∷ []) k (f, tt)) d.ids h.own;
      schema = h.schema;
    }

texts-utf8 : (x : Bytes) (r : Rec) → parse x ≡ parsed r → All (λ (t : Text). utf8 t ≡ true) (texts_of r ++ keys_in r)
texts-utf8 x r h =
    let p = first-none (any (λ t. not (utf8 t)) (texts_of r ++ keys_in r)) not_utf8 ((has_bad_byte r, bad_byte) ∷ (over_in r, over_limit) ∷ []) (unfold body_rows in (parsed-within x r h)) in
    All-weaken (λ (t : Text). not (utf8 t) ≡ false) (λ (t : Text). utf8 t ≡ true) (λ t e. not-false (utf8 t) e) (texts_of r ++ keys_in r)
    (none_of (λ t. not (utf8 t)) (texts_of r ++ keys_in r) p.0)

define-bound : (x : Bytes) (r : Rec) (d : Definitions) → parse x ≡ parsed r → too_many_defined r d ≡ false → Bound d → Bound (define r d)
unfolding define
define-bound x (ID r) d q t h =
    let s = h.schema_counted in
    record {
      most = h.most;
      counted = All-append (λ (c : Definition). length c.own + length d.schema ≤ d.bindings) d.ids (record { id = r; own = [] } ∷ []) h.counted (omega arith, tt);
      schema_counted = s;
      own = All-append (λ (c : Definition). All Fit c.own) d.ids (record { id = r; own = [] } ∷ []) h.own (tt, tt);
      schema = h.schema;
    }
define-bound x (NS b) d q t h =
    bind-bound (eqb b.target 0) b d (unfold texts_of in ((limited x (NS b) q).texts.0, (texts-utf8 x (NS b) q).0)) (unfold too_many_defined in (leb-false 64 d.bindings t)) h
define-bound x (ES r) d q t h = h
define-bound x (EE r) d q t h = h
define-bound x FI d q t h = h

-- ---- in a run

module _ (begun : World) (xs : List Bytes) (w : World) (r : Run begun xs w) where
  -- with areas long enough the definition store holds these records; with shorter ones no record is taken
  pub run-bound : Bound (definitions_of (accepted begun xs))
  run-bound = as-calls begun xs w r (λ b v. Bound (definitions_of (accepted b xs))) (by (areas_fit (again begun)) refl)
    where
      by : (f : Bool) → areas_fit (again begun) ≡ f → Bound (definitions_of (accepted (again begun) xs))
      by true e =
          let a = after_run begun.definition_store begun.tuple_store begun.report_store begun.names begun.scopes begun.cells begun.path_area (areas-are (again begun) e) xs in
          subst Bound a.trace.defs (replays-keep Bound define-bound a.holds.raws no_definitions (session_of (accepted (again begun) xs)).defs a.holds.made nothing_bound)
      by false e = subst (λ rs. Bound (definitions_of rs)) (sym (short-run (again begun) e xs).1) (unfold definitions_of in nothing_bound)

-- ---- THE TEXT OF A PATH'S BINDINGS

-- at most 64 prefixes, each of them fit
pub prefixes-bound : (d : Definitions) → Bound d → (i : ℕ) (c : Definition) → get_elem? d.ids i ≡ some c → (n : ℕ)
    → All Prefix (bound_prefixes d c n) × (length (bound_prefixes d c n) ≤ 64)
unfolding bound_prefixes
prefixes-bound d h i c e n =
    let own : List NsRecord = passing (λ b. eqb b.target n) c.own in
    let few = length-passing (λ b. eqb b.target n) c.own in
    let both = length-append own d.schema in
    let mapped = length-map (own ++ d.schema) (λ b. b.prefix) in
    let count = All-get_elem (λ (c : Definition). length c.own + length d.schema ≤ d.bindings) d.ids i c h.counted e in
    let most = h.most in
    let fit = All-get_elem (λ (c : Definition). All Fit c.own) d.ids i c h.own e in
    let owns = All-weaken (λ (b : NsRecord). Fit b × (eqb b.target n ≡ true)) Fit (λ b k. k.0) own (All-passing Fit (λ b. eqb b.target n) c.own fit) in
    (All-map Prefix (λ (b : NsRecord). b.prefix) (own ++ d.schema) (All-append Fit own d.schema owns h.schema), omega arith)

-- THE CHECKER TAKES IT: whatever the session holds, its bindings for a path are a text within the checker's limits.
pub bindings-fit : (begun : World) (xs : List Bytes) (w : World) → Run begun xs w
    → (i : ℕ) (c : Definition) → get_elem? (definitions_of (accepted begun xs)).ids i ≡ some c → (n : ℕ)
    → (length (declared_for (definitions_of (accepted begun xs)) c n) ≤ 16384) × (utf8 (declared_for (definitions_of (accepted begun xs)) c n) ≡ true)
unfolding declared_for
bindings-fit begun xs w r i c e n =
    let d : Definitions = definitions_of (accepted begun xs) in
    let p = prefixes-bound d (run-bound begun xs w r) i c e n in
    let l = joined_length (bound_prefixes d c n) p.0 in
    let m = p.1 in
    (omega arith, joined-utf8 (bound_prefixes d c n) p.0)
