-- The paths of the constraint that a number stands for: what code reads and matches in its records is what the session's definitions say of it.
-- Assumes nothing.
use Prim.Native.Nat.{ℕ, zero, suc, ◌+◌, ◌≤◌, ◌<◌}
use native.Mathlib.Omega.{arith}
use lib.ListN.{length, get_or, get_elem?}
use mathlib.Core.Path.{◌≡◌, refl, ap, ap₂, sym, ◌∙◌}
use mathlib.Core.Bool.{Bool, true, false, cond, ◌&&◌}
use mathlib.Core.List.{List, [], ◌∷◌, map, flatten}
use mathlib.Core.Option
use mathlib.Core.Option.{Option, none, some}
use Rattle.lists.specs.Lists.{all, any}
use Rattle.texts.specs.Texts.{Text}
use Rattle.paths.specs.Names.{Name}
use Rattle.paths.specs.Matching.{matches}
use Rattle.paths.specs.Reading.{read_path, step_path_of, field_alt_of}
use Rattle.tree.specs.Events.{Constraint, Defined, reads, unread, selects}
use Rattle.records.specs.Readers.{Bytes}
use Rattle.session_spec.specs.Definitions.{Definition, Definitions, read_definitions, uri_of, or_none, is_some, selector_of, fields_of, paths_read, constraint_of, defined_of, constraint_at, defined_from, defined_at}
use Rattle.session_laws.proofs.Tests.{map-is_some}
use Rattle.bindings.specs.Bindings.{frames_in, uri_in}
use Rattle.bindings.specs.Own.{own_frames}
use Rattle.constraints.proofs.Stored.{own-uri, stands-for}
use Rattle.constraint_paths.specs.Paths.{field_reads, all_read, taken}
use Rattle.lists.proofs.Folds.{any-map}

-- ---- whether they read

fields_read : (d : Definitions) (c : Definition) (n : ℕ) (ts : List Text) → all field_reads ts ≡ all is_some (fields_of d c n ts)
unfolding fields_of
fields_read d c n [] = refl
fields_read d c n (t ∷ ts) =
    ap₂ ◌&&◌ (sym (map-is_some (map (field_alt_of (uri_of d c n))) (read_path true t))) (fields_read d c (suc n) ts)

pub reads-is : (d : Definitions) (c : Definition) → all_read c.id ≡ paths_read d c
unfolding all_read paths_read selector_of
reads-is d c =
    ap₂ ◌&&◌ (sym (map-is_some (map (step_path_of (uri_of d c 1))) (read_path false c.id.selector)))
    (fields_read d c 2 c.id.fields)

abbrev pub is_read : Defined → Bool
is_read (reads c) = true
is_read (unread t) = false

-- THE CONSTRAINT OF A NUMBER opens a scope where its paths read
pub opens-is : (d : Definitions) (k : ℕ) (c : Definition) → get_elem? d.ids k ≡ some c → all_read c.id ≡ is_read (defined_at d k)
unfolding defined_at defined_from defined_of
opens-is d k c e = reads-is d c ∙ sym (ap (λ (o : Option Definition). is_read (defined_from d k o)) e ∙ by (paths_read d c))
  where
    by : (b : Bool) → is_read (cond b (reads (constraint_of d k c)) (unread c.id.name)) ≡ b
    by true = refl
    by false = refl

-- ---- what the selector takes

none-map : {A B : Type 0} (f : A → B) (o : Option (List A)) → or_none (Option.map (map f) o) ≡ map f (or_none o)
unfolding or_none
none-map f none = refl
none-map f (some l) = refl

module _ (store : Bytes) (d : Definitions) (h : read_definitions store ≡ some d) (k : ℕ) (c : Definition) (at : get_elem? d.ids k ≡ some c) where
  abbrev own : Bytes
  own = flatten (own_frames k (frames_in store))

  -- the bindings that hold for a path
  finds : (target : ℕ) → 1 ≤ target → uri_in own store target ≡ uri_of d c target
  finds target t = λ i. λ (p : Text). own-uri store d k c h at target t p i

  pub taken_is : (below : List Name) → taken (uri_in own store 1) c.id below ≡ selects (constraint_at d k) below
  unfolding taken
  taken_is below =
      ap (λ (find : Text → Option Text). any (λ a. matches (step_path_of find a) below) (or_none (read_path false c.id.selector))) (finds 1 (omega arith))
      ∙ sym (any-map (λ p. matches p below) (step_path_of (uri_of d c 1)) (or_none (read_path false c.id.selector)))
      ∙ ap (any (λ p. matches p below)) (sym (none-map (step_path_of (uri_of d c 1)) (read_path false c.id.selector)))
      ∙ sym (ap (λ (x : Constraint). selects x below) (stands-for d k c at)
      ∙ unfold selects constraint_of selector_of in refl)

  -- ---- what a field reaches

  fields_at : (n : ℕ) (ts : List Text) (f : ℕ) → f < length ts
      → get_or (map or_none (fields_of d c n ts)) f [] ≡ map (field_alt_of (uri_of d c (n + f))) (or_none (read_path true (get_or ts f [])))
  unfolding fields_of
  fields_at n [] f r = absurd (omega arith)
  fields_at n (t ∷ ts) zero r =
      let e : n ≡ n + 0 = omega arith in
      none-map (field_alt_of (uri_of d c n)) (read_path true t) ∙ ap (λ (m : ℕ). map (field_alt_of (uri_of d c m)) (or_none (read_path true t))) e
  fields_at n (t ∷ ts) (suc f) r =
      let e : suc n + f ≡ n + suc f = omega arith in
      fields_at (suc n) ts f (omega arith) ∙ ap (λ (m : ℕ). map (field_alt_of (uri_of d c m)) (or_none (read_path true (get_or ts f [])))) e

  -- THE ALTERNATIVES OF FIELD f, as the code reads them: target 2 + f
  pub field_is : (f : ℕ) → f < length c.id.fields
      → map (field_alt_of (uri_in own store (2 + f))) (or_none (read_path true (get_or c.id.fields f []))) ≡ get_or (constraint_at d k).fields f []
  field_is f r =
      ap (λ (find : Text → Option Text). map (field_alt_of find) (or_none (read_path true (get_or c.id.fields f [])))) (finds (2 + f) (omega arith))
      ∙ sym (fields_at 2 c.id.fields f r)
      ∙ sym (ap (λ (x : Constraint). get_or x.fields f []) (stands-for d k c at) ∙ unfold constraint_of in refl)
