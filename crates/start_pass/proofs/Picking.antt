-- The walk of `picks`: of the places that are passed by, those of scopes that select the element are in the set.
-- Assumes nothing.
use Prim.Native.Nat.{ℕ, ◌+◌, ◌^◌, ◌≤◌, ◌<◌}
use native.Mathlib.Omega.{arith}
use lib.ListN.{length, drop, get_or, get_elem?, length-take, get_or-map}
use mathlib.Core.Path.{◌≡◌, ap, ap₂, sym, ◌∙◌}
use mathlib.Core.Bool.{Bool, cond}
use mathlib.Core.List.{List, map}
use mathlib.Core.Option.{some}
use borrow.Author.Count.{below_more}
use Rattle.lists.proofs.Places.{All-get_elem, map_found, found-within}
use Rattle.paths.specs.Names.{Name}
use Rattle.paths.specs.Reading.{every}
use Rattle.tree.specs.Events.{Constraint, selects}
use Rattle.machine.specs.Machine.{OpenScope}
use Rattle.records.specs.Readers.{Bytes}
use Rattle.session_spec.specs.Definitions.{Definitions, read_definitions, constraint_at}
use Rattle.session_spec.specs.Layout.{ScopeRecord, parts, name_in, put_scope}
use Rattle.session_laws.proofs.Constraints.{ConstraintFit}
use Rattle.output_stores.specs.Stores.{in_mask}
use Rattle.path_area.specs.Scratch.{Scratched}
use Rattle.path_area.proofs.Scratch.{scratch-same, scratch-then}
use Rattle.open_scopes.specs.OpenScopes.{record_of, blank_scope, open_of, records_of}
use Rattle.open_scopes.specs.declared.Scope.{Scope}
use Rattle.open_scopes.specs.declared.Scopes.{Scopes}
use Rattle.open_scopes.proofs.Places.{as_many}
use Rattle.start_places.specs.StartPass.{Picks}
use Rattle.start_places.specs.Turns.{PicksOne}
use Rattle.start_pass.proofs.Marks.{Grown, grown-none, grown-places, grown-on, as_before, decided}
use Rattle.lists.specs.Lists.{All}

-- ---- the scope at a place

module _ (scopes : Scopes) (os : List OpenScope) (re : records_of scopes ≡ map put_scope os) where
  at_place : (i : ℕ) (o : OpenScope) → get_elem? os i ≡ some o → record_of (get_or (open_of scopes) i blank_scope) ≡ put_scope o
  unfolding records_of
  at_place i o e =
      sym (get_or-map record_of (open_of scopes) i blank_scope)
      ∙ ap (λ (l : List ScopeRecord). get_or l i (record_of blank_scope)) re
      ∙ map_found put_scope os i o (record_of blank_scope) e

  -- what it selects is what the constraint of its number does, from its depth
  pub selects_at : (d : Definitions) (i : ℕ) (o : OpenScope) → get_elem? os i ≡ some o → ConstraintFit d o.scope.constraint → (ns : List Name) (s : Scope) → s ≡ get_or (open_of scopes) i blank_scope
      → (s.constraint < length d.ids) × (selects (constraint_at d s.constraint) (drop s.depth ns) ≡ selects o.scope.constraint (drop o.depth ns))
  unfolding put_scope
  selects_at d i o e fit ns s se =
      let q : record_of s ≡ put_scope o = ap record_of se ∙ at_place i o e in
      let n : s.constraint ≡ o.scope.constraint.number = ap (λ (r : ScopeRecord). r.constraint) q in
      let h : s.depth ≡ o.depth = ap (λ (r : ScopeRecord). r.depth) q in (
        omega (arith, fit.defined),
        ap₂ (λ (c : Constraint) (k : ℕ). selects c (drop k ns)) (ap (constraint_at d) n ∙ fit.known) h,
      )

-- ---- the walk

pub record PickedTo (defs : Bytes) (scopes : Scopes) (names : Bytes) (depth : ℕ) (before : Bytes) (mask j : ℕ) (area : Bytes) : Type 0 where
  pub grown : Grown mask j
  pub within : j ≤ length (open_of scopes)
  pub so_far : 1024 ≤ length before → (d : Definitions) → read_definitions defs ≡ some d → (ns : List Name) → every name_in (parts 514 depth names) ≡ some ns
      → (os : List OpenScope) → records_of scopes ≡ map put_scope os → All (λ (o : OpenScope). ConstraintFit d o.scope.constraint) os
      → (i : ℕ) → i < j → (o : OpenScope) → get_elem? os i ≡ some o → in_mask mask i ≡ selects o.scope.constraint (drop o.depth ns)
  pub scratched : Scratched before area

module _ (defs : Bytes) (scopes : Scopes) (names : Bytes) (depth : ℕ) (before : Bytes) where
  pub picked_none : PickedTo defs scopes names depth before 0 0 before
  picked_none =
      record { grown = grown-none; within = omega arith; so_far = λ long d h ns ne os re fit i l. absurd (omega arith); scratched = scratch-same before }

  module _ (mask j : ℕ) (area : Bytes) (w : PickedTo defs scopes names depth before mask j area) where
    -- all are passed by: there are sixteen places, so the way out at 32 is none
    pub picked_all : length scopes.list ≡ 16 → (j ≤ 31 → length (open_of scopes) ≤ j) → Picks defs scopes names depth before mask area
    unfolding open_of
    picked_all sixteen stop =
        let few = length-take scopes.n scopes.list in
        record {
          says = λ long d h ns ne os re fit.
              let same = as_many scopes os re in (
                λ i o e.
                    let l = found-within os i o e in
                    w.so_far long d h ns ne os re fit i (omega (arith, w.within, stop (omega (arith, w.within)))) o e,
                grown-places mask j w.grown os (omega (arith, w.within)),
              );
          scratched = w.scratched;
        }

    module _ (l : j ≤ 31) (more : j < length (open_of scopes)) (s : Scope) (se : s ≡ get_or (open_of scopes) j blank_scope) (here : Bool) (after : Bytes)
        (o : PicksOne defs s names depth area here after) (mask2 : ℕ) (is : mask2 ≡ mask + cond here (2 ^ j) 0) where
      pub picked-on : PickedTo defs scopes names depth before mask2 (j + 1) after
      picked-on =
          record {
            grown = grown-on mask j w.grown l here mask2 is;
            within = omega arith;
            so_far = λ long d h ns ne os re fit.
                below_more (λ (i : ℕ). (p : OpenScope) → get_elem? os i ≡ some p → in_mask mask2 i ≡ selects p.scope.constraint (drop p.depth ns)) j
                (λ i q p e. as_before mask j w.grown l here mask2 is i q ∙ w.so_far long d h ns ne os re fit i q p e)
                (λ p e.
                let z = selects_at scopes os re d j p e (All-get_elem (λ (x : OpenScope). ConstraintFit d x.scope.constraint) os j p fit e) ns s se in
                decided mask j w.grown l here mask2 is ∙ o.says (omega (arith, w.scratched.size)) d h z.0 ns ne ∙ z.1);
            scratched = scratch-then before area after w.scratched o.scratched;
          }
