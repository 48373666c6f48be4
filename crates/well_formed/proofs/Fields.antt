-- How many fields a constraint has: what its ID says, and never more than four. And those of the open scopes, one scope more at a time.
-- Assumes nothing.
use Prim.Native.Nat.{ℕ, ◌+◌, ◌≤◌, ◌<◌}
use native.Mathlib.Omega.{arith}
use native.Mathlib.Numerals.{add-one}
use borrow.Author.Tests.{ltb-true}
use lib.Dec.{ltb}
use lib.ListN.{length, take, set, get_or}
use lib.Seq.{take-suc, take-suc-set, take_all}
use mathlib.Core.Path.{◌≡◌, refl, ap, sym, ◌∙◌}
use mathlib.Core.Bool.{Bool, true}
use mathlib.Core.List.{List, [], ◌∷◌, ◌++◌, map-append}
use mathlib.Core.Option.{some}
use Rattle.std.proofs.lemmas.List.Folds.{list_all-append}
use Rattle.std.proofs.lemmas.Bool.{and_parts}
use Rattle.std.specs.Result.{OkIff, result_unwrap_or}
use Rattle.std.specs.declared.result.Result.{Result}
use Rattle.std.specs.declared.result.Result.TheVariants.{Ok, Err}
use Rattle.lists.specs.Lists.{all, foldl}
use Rattle.paths.proofs.Sure.{some-parts}
use Rattle.lists.proofs.Places.{get_elem-some}
use Rattle.records.specs.Readers.{Bytes, reads}
use Rattle.session_spec.specs.Definitions.{Definitions, no_definitions, frame, replay, read_definitions, constraint_at}
use Rattle.session_laws.proofs.Constraints.{DefsFit, few-fields}
use Rattle.runs.proofs.Pieces.{replays-fit, constraint-at}
use Rattle.bindings.specs.Bindings.{frames_in}
use Rattle.bindings.specs.Own.{own_frames}
use Rattle.constraints.specs.declared.Parts.{Parts}
use Rattle.constraints.specs.Constraints.{joined, id_at, PartsOf}
use Rattle.constraints.proofs.Stored.{fields_at, constraint-is}
use Rattle.open_scopes.specs.declared.Scope.{Scope}
use Rattle.open_scopes.specs.OpenScopes.{blank_scope}
use Rattle.well_formed.specs.Parts.{HasFields, HaveFields}

-- ---- never more than four

module _ (used : Bytes) (d : Definitions) (e : read_definitions used ≡ some d) where
  defs-fit : DefsFit d
  unfolding read_definitions
  defs-fit =
      let p = some-parts (reads frame used) (λ l. foldl replay (some no_definitions) l) d e in
      replays-fit p.0 no_definitions d p.2 (record { few = tt })

  few-here : (k : ℕ) → k < length d.ids → length (constraint_at d k).fields ≤ 4
  few-here k l = few-fields d (constraint_at d k) defs-fit (constraint-at d 0 0 k l)

-- ---- what the ID says

module _ (used own : Bytes) (k : ℕ) (p : Parts) (o : own ≡ joined (own_frames k (frames_in used))) (says : PartsOf own p) where
  pub counted_is : HasFields used k p.count
  counted_is d e l =
      let c = get_elem-some d.ids k l in
      (says.says c.0.id (ap id_at o ∙ constraint-is used d k c.0 e c.1)).count ∙ sym (fields_at d k c.0 c.1)

  -- as a byte it is what it was, since it is never more
  pub as-byte : {E : Type 0} (o : Result ℕ E) → OkIff o (p.count < 256) p.count → (r : ℕ) → r ≡ result_unwrap_or o 0 → HasFields used k r
  as-byte (Ok x) h r q d e l = q ∙ h.1 ∙ counted_is d e l
  as-byte (Err x) h r q d e l =
      let n = counted_is d e l in
      let few = few-here used d e k l in
      absurd (h (omega arith))

-- ---- the open scopes

module _ (used : Bytes) where
  pub no_fields : (l : List Scope) → HaveFields used (take 0 l) []
  no_fields l d e h = refl

  one_more : (l : List Scope) (ns : List ℕ) (s : Scope) (v : ℕ) → HaveFields used l ns → HasFields used s.constraint v → HaveFields used (l ++ (s ∷ [])) (ns ++ (v ∷ []))
  one_more l ns s v f g d e h =
      let is_defined : Scope → Bool = λ t. ltb t.constraint (length d.ids) in
      let p = and_parts (all is_defined l) (all is_defined (s ∷ [])) (sym (list_all-append is_defined l (s ∷ [])) ∙ h) in
      let q = and_parts (is_defined s) true p.1 in
      let k : v ≡ length (constraint_at d s.constraint).fields = g d e (ltb-true s.constraint (length d.ids) q.0) in
      rw (f d e p.0, k) (sym (map-append (λ (t : Scope). length (constraint_at d t.constraint).fields) l (s ∷ [])))

  pub fields-more : (l : List Scope) (f : List ℕ) (i v : ℕ) (one : Scope) → one ≡ get_or l i blank_scope → i < length l → i < length f → HasFields used one.constraint v
      → HaveFields used (take i l) (take i f) → HaveFields used (take (i + 1) l) (take (i + 1) (set f i v))
  fields-more l f i v one p h k g inv =
      rw (add-one i, take-suc l i blank_scope h, take-suc-set f i v k, ← p) (one_more (take i l) (take i f) one v inv g)

  pub all-fields : (l : List Scope) (f : List ℕ) (i end : ℕ) → end ≡ length l → i ≤ end → end ≤ i → HaveFields used (take i l) (take i f) → HaveFields used l (take (length l) f)
  all-fields l f i end p h k inv =
      let e : i ≡ length l = omega arith in
      rw (← e) (rw (take_all i l (omega arith)) at inv)
