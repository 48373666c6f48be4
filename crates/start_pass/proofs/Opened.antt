-- What the sets come to in the machine: the scopes that an ES opens, numbered on, and the new selections of the element, member by member.
-- Assumes nothing.
use Prim.Native.Nat.{ℕ, suc, ◌+◌, ◌<◌}
use native.Mathlib.Omega.{arith}
use native.Mathlib.Nat.{add-zero}
use lib.ListN.{length, drop, get_or, get_elem?, length-map}
use mathlib.Core.Path.{◌≡◌, refl, ap, ap₂, sym, ◌∙◌}
use mathlib.Core.Bool.{Bool}
use mathlib.Core.List.{List, [], ◌∷◌, ◌++◌, map, flat_map, map-append}
use mathlib.Core.Option.{some}
use Rattle.lists.specs.Lists.{only_if}
use Rattle.lists.proofs.Folds.{map-only_if}
use Rattle.paths.specs.Names.{Name}
use Rattle.tree.specs.Events.{Constraint, Scope, Defined, reads, unread, opening, after, openings, opened, scope_of, scopes_of, selects}
use Rattle.machine.specs.Machine.{OpenScope, Selection, pick_up}
use Rattle.session_spec.specs.Definitions.{Definitions, constraint_at, defined_at}
use Rattle.session_laws.proofs.Constraints.{reads-from}
use Rattle.output_stores.specs.Stores.{in_mask}
use Rattle.constraint_paths.proofs.Stands.{is_read}
use Rattle.start_places.specs.StartPass.{marked, Reading, Selecting, numbered, blank_on}

-- ---- the scopes

pub reads_at : (d : Definitions) (i : ℕ) (c : Constraint) → defined_at d i ≡ reads c → constraint_at d i ≡ c
unfolding defined_at constraint_at
reads_at d i c h = reads-from d i (get_elem? d.ids i) c h

pub numbered-length : (n : ℕ) (cs : List Constraint) → length (numbered n cs) ≡ length cs
unfolding numbered
numbered-length n [] = refl
numbered-length n (c ∷ cs) = ap suc (numbered-length (suc n) cs)

-- the scopes are those of the marked constraints, and as many are opened more
pub record ScopesAre (d : Definitions) (n : ℕ) (numbers marks : List ℕ) : Type 0 where
  pub scopes : scopes_of (openings (defined_at d) n numbers) ≡ numbered n (map (constraint_at d) marks)
  pub many : length (scopes_of (openings (defined_at d) n numbers)) ≡ length marks
  pub after : opened (defined_at d) n numbers ≡ n + length marks

module _ (d : Definitions) (mask : ℕ) where
  scopes-from : (k n : ℕ) (is : List ℕ) → ((j : ℕ) → j < length is → in_mask mask (k + j) ≡ is_read (defined_at d (get_or is j 0)))
      → (scopes_of (openings (defined_at d) n is) ≡ numbered n (map (constraint_at d) (marked mask k is))) × (opened (defined_at d) n is ≡ n + length (marked mask k is))
  unfolding scopes_of openings opened numbered marked flat_map opening after scope_of only_if
  scopes-from k n [] h = (refl, sym (add-zero n))
  scopes-from k n (i ∷ is) h =
      let e : in_mask mask k ≡ is_read (defined_at d i) = ap (in_mask mask) (sym (add-zero k)) ∙ h 0 (omega arith) in
      let next : (j : ℕ) → j < length is → in_mask mask (suc k + j) ≡ is_read (defined_at d (get_or is j 0)) =
      λ j l. (let q : suc k + j ≡ k + suc j = omega arith in ap (in_mask mask) q ∙ h (suc j) (omega arith)) in
      by (defined_at d i) refl e (scopes-from (suc k) (suc n) is next) (scopes-from (suc k) n is next)
    where
      by : (x : Defined) → defined_at d i ≡ x → in_mask mask k ≡ is_read x
          → (scopes_of (openings (defined_at d) (suc n) is) ≡ numbered (suc n) (map (constraint_at d) (marked mask (suc k) is)))
          × (opened (defined_at d) (suc n) is ≡ suc n + length (marked mask (suc k) is))
          → (scopes_of (openings (defined_at d) n is) ≡ numbered n (map (constraint_at d) (marked mask (suc k) is)))
          × (opened (defined_at d) n is ≡ n + length (marked mask (suc k) is))
          → (scopes_of (opening x i n ∷ openings (defined_at d) (after x n) is) ≡ numbered n (map (constraint_at d) (only_if (in_mask mask k) (i ∷ []) ++ marked mask (suc k) is)))
          × (opened (defined_at d) (after x n) is ≡ n + length (only_if (in_mask mask k) (i ∷ []) ++ marked mask (suc k) is))
      by (reads c) q e a b =
          let m : constraint_at d i ≡ c = reads_at d i c q in
          (rw (e, m) (ap (λ (l : List Scope). record { number = suc n; constraint = c } ∷ l) a.0), rw e (omega (arith, a.1)))
      by (unread t) q e a b = (rw e b.0, rw e b.1)

  -- THE SCOPES THAT OPEN
  pub opened-scopes : (numbers : List ℕ) → Reading d numbers mask → (n : ℕ) → ScopesAre d n numbers (marked mask 0 numbers)
  opened-scopes numbers r n =
      let p = scopes-from 0 n numbers (λ j l. (let e : 0 + j ≡ j = omega arith in ap (in_mask mask) e ∙ r j l)) in
      record {
        scopes = p.0;
        many = ap length p.0 ∙ numbered-length n (map (constraint_at d) (marked mask 0 numbers)) ∙ length-map (marked mask 0 numbers) (constraint_at d);
        after = p.1;
      }

-- ---- the selections

picked-from : (names : List Name) (mask k : ℕ) (os : List OpenScope)
    → ((j : ℕ) (o : OpenScope) → get_elem? os j ≡ some o → in_mask mask (k + j) ≡ selects o.scope.constraint (drop o.depth names))
    → flat_map (pick_up names) os ≡ map (blank_on names) (marked mask k os)
unfolding flat_map marked
picked-from names mask k [] h = refl
picked-from names mask k (o ∷ os) h =
    let e : in_mask mask k ≡ selects o.scope.constraint (drop o.depth names) = ap (in_mask mask) (sym (add-zero k)) ∙ h 0 o refl in
    let rest = picked-from names mask (suc k) os (λ j p q. (let z : suc k + j ≡ k + suc j = omega arith in ap (in_mask mask) z ∙ h (suc j) p q)) in
    ap₂ {C = List Selection} ◌++◌ (one (in_mask mask k) e) rest ∙ sym (map-append (blank_on names) (only_if (in_mask mask k) (o ∷ [])) (marked mask (suc k) os))
  where
    one : (b : Bool) → b ≡ selects o.scope.constraint (drop o.depth names) → pick_up names o ≡ map (blank_on names) (only_if b (o ∷ []))
    one b e = unfold pick_up in (ap (λ (x : Bool). only_if x (blank_on names o ∷ [])) (sym e) ∙ map-only_if (blank_on names) b o)

-- the selections are those of the marked scopes, and as many
pub record SelectionsAre (names : List Name) (os marks : List OpenScope) : Type 0 where
  pub selections : flat_map (pick_up names) os ≡ map (blank_on names) marks
  pub many : length (flat_map (pick_up names) os) ≡ length marks

-- THE NEW SELECTIONS
pub picked-are : (names : List Name) (mask : ℕ) (os : List OpenScope) → Selecting names os mask → SelectionsAre names os (marked mask 0 os)
picked-are names mask os s =
    let p = picked-from names mask 0 os (λ j o e. (let z : 0 + j ≡ j = omega arith in ap (in_mask mask) z ∙ s j o e)) in
    record { selections = p; many = ap length p ∙ length-map (marked mask 0 os) (blank_on names) }
