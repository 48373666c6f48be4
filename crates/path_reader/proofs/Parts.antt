-- Parts between slashes: what is written for a name test, for a part with others behind it, and for the last one.
-- Assumes nothing.
use Rattle.std.specs.declared.option.Option as code
use Rattle.std.specs.declared.option.Option.TheVariants.{Some, None}
use Prim.Native.Nat.{ℕ, ◌+◌, ◌*◌, ◌≤◌}
use native.Mathlib.Nat.{add-zero}
use native.Mathlib.Omega.{arith}
use denote.Ref.{Bor}
use lib.ListN.{length}
use mathlib.Core.Path.{◌≡◌, refl, ap, sym, ◌∙◌, subst}
use mathlib.Core.Bool.{Bool, true, false}
use Prim.{⊥}
use mathlib.Core.List.{List, [], ◌∷◌, ◌++◌, flat_map, append-nil}
use mathlib.Core.Option.{Option, none, some}
use Rattle.lists.proofs.Places.{over_nothing}
use Rattle.texts.specs.Texts.{Text}
use Rattle.paths.specs.Reading.{WrittenTest, Walked, on_some, is_nil, local_of, name_test, attribute_part, self_part, child_part, walk_part, walk_parts}
use Rattle.records.specs.Readers.{Bytes}
use Rattle.path_entries.specs.Entries.{put_prefix, put_local, put_test, put_end}
use Rattle.path_pieces.specs.declared.Part.{Part}
use Rattle.path_pieces.specs.declared.Part.TheVariants.{Attribute, Itself, Child}
use Rattle.path_reader.specs.declared.Test.{Test}
use Rattle.path_reader.specs.declared.Steps.{Steps}
use Rattle.path_reader.specs.Places.{test_by, before_local, test_length, TestOf, step_of, Written, Wrote, WroteSteps, steps_bytes, walked_steps, walked_bytes}
use Rattle.path_pieces.specs.Pieces.{standing, part_by, PartOf}
use Rattle.path_reader.proofs.Walking.{with_steps, part_none, part-some}
use Rattle.path_reader.proofs.Short.{some-test, step_fits}
use Rattle.path_reader.proofs.Writing.{written_then, kept_same, kept_then, kept-written, wrote_none, wrote-some, steps-none, steps-some}

-- ---- a name test is written

pub prefix_length : (o : code.Option (Bor Text)) → length (put_prefix (standing o)) ≡ before_local o + 1
unfolding put_prefix
prefix_length None = omega arith
prefix_length (Some p) = omega arith

module _ (t : Text) (r : code.Option Test) (g : TestOf t r) where
  pub test-none : r ≡ None → name_test t ≡ none
  test-none e = g.reads ∙ rw e

  module _ (n : Test) (e : r ≡ Some n) where
    pub test-some : name_test t ≡ some (record { prefix = standing n.prefix; local = local_of n.local.now })
    test-some = g.reads ∙ ap test_by e

    pub test-room : (1 ≤ length t) × (before_local n.prefix + length n.local.now ≤ length t)
    test-room = (some-test t _ test-some, subst (λ (o : code.Option Test). test_length o ≤ length t) e g.inside)

    pub test-written : (l m o : Bytes) (at p q : ℕ) → at ≤ length l → Written l at (put_prefix (standing n.prefix)) p m → Written m p (put_local (local_of n.local.now)) q o
        → Wrote put_test (name_test t) l at (Some q) o
    unfolding put_test
    test-written l m o at p q h a b = (
      record { prefix = standing n.prefix; local = local_of n.local.now },
      test-some,
      written_then l m o (put_prefix (standing n.prefix)) (put_local (local_of n.local.now)) at p q h a b,
    )

module _ (t : Text) (a : WrittenTest) (e : name_test t ≡ some a) where
  step-of : step_of (child_part t) ≡ some (a ∷ [])
  unfolding step_of on_some
  step-of = rw e

  attribute-of : walk_part true true (attribute_part t) none ≡ some (record { steps = []; attr = some a })
  unfolding walk_part
  attribute-of = rw e

-- ---- a part with others behind it

module _ (p : Part) (l : Bytes) (at n : ℕ) where
  pub step-attribute : (u : Bor Text) → p ≡ Attribute u → WroteSteps length steps_bytes (step_of (part_by p)) l at n None l
  unfolding step_of
  step-attribute u e = rw e (refl, kept_same l)

  pub step-self : p ≡ Itself → WroteSteps length steps_bytes (step_of (part_by p)) l at n (Some (record { count = n; end = at })) l
  unfolding step_of flat_map
  step-self e = rw e ([], refl, sym (add-zero n), (sym (add-zero at), sym (over_nothing l at)))

  module _ (u : Bor Text) (e : p ≡ Child u) (m : Bytes) (r : code.Option ℕ) (w : Wrote put_test (name_test u.now) l at r m) where
    pub step-none : r ≡ None → WroteSteps length steps_bytes (step_of (part_by p)) l at n None m
    unfolding step_of on_some
    step-none f =
        let v = wrote_none put_test (name_test u.now) l m at r w f in
        rw e (rw v.0, v.1)

    pub step-some : (q : ℕ) → r ≡ Some q → WroteSteps length steps_bytes (step_of (part_by p)) l at n (Some (record { count = n + 1; end = q })) m
    unfolding flat_map
    step-some q f =
        let v = wrote-some put_test (name_test u.now) l m at r w q f in
        rw e (v.0 ∷ [], step-of u.now v.0 v.1, refl, subst (λ (z : Bytes). Written l at z q m) (sym (append-nil (put_test v.0))) v.2)

-- ---- an attribute test

module _ (t : Text) (l m n : Bytes) (at p k : ℕ) (a : Written l at (1 ∷ []) p m) (r : code.Option ℕ) (w : Wrote put_test (name_test t) m p r n) where
  pub attribute-none : 1024 ≤ length l → at + 1 ≤ 1024 → r ≡ None
      → WroteSteps walked_steps walked_bytes (walk_part true true (attribute_part t) none) l at k None n
  unfolding walk_part
  attribute-none h f e =
      let v = wrote_none put_test (name_test t) m n p r w e in
      (rw v.0, kept_then l m n (kept-written l m (1 ∷ []) at p h f a) v.1)

  pub attribute-some : at ≤ length l → (q : ℕ) → r ≡ Some q
      → WroteSteps walked_steps walked_bytes (walk_part true true (attribute_part t) none) l at k (Some (record { count = k; end = q })) n
  unfolding put_end flat_map
  attribute-some h q e =
      let v = wrote-some put_test (name_test t) m n p r w q e in
      (record { steps = []; attr = some v.0 }, attribute-of t v.0 v.1, sym (add-zero k), written_then l m n (1 ∷ []) (put_test v.0) at p q h a v.2)

-- ---- the last part

-- where nothing stands behind it
pub ended : Option Walked
ended = some (record { steps = []; attr = none })

module _ (t : Text) (p : Part) (g : PartOf t p) (field : Bool) (l : Bytes) (at n : ℕ) where
  walked : walk_parts field (t ∷ []) ≡ walk_part field true (part_by p) ended
  unfolding walk_parts is_nil ended
  walked = rw g.reads

  pub last-attribute : field ≡ true → (u : Bor Text) → p ≡ Attribute u → (m : Bytes) (s : code.Option Steps)
      → WroteSteps walked_steps walked_bytes (walk_part true true (attribute_part u.now) none) l at n s m
      → WroteSteps walked_steps walked_bytes (walk_parts field (t ∷ [])) l at n s m
  unfolding walk_part
  last-attribute f u e m s w = rw (walked, f, e) w

  pub last-not : field ≡ false → (u : Bor Text) → p ≡ Attribute u → WroteSteps walked_steps walked_bytes (walk_parts field (t ∷ [])) l at n None l
  unfolding walk_part
  last-not f u e = (walked ∙ rw (f, e), kept_same l)

  module _ (m : Bytes) (s : code.Option Steps) (w : WroteSteps length steps_bytes (step_of (part_by p)) l at n s m) where
    pub last_none : ((u : Bor Text) → p ≡ Attribute u → ⊥) → s ≡ None → WroteSteps walked_steps walked_bytes (walk_parts field (t ∷ [])) l at n None m
    last_none h e =
        let v = steps-none length steps_bytes (step_of (part_by p)) l m at n s w e in
        (walked ∙ by p h v.0, v.1)
      where
        by : (p : Part) → ((u : Bor Text) → p ≡ Attribute u → ⊥) → step_of (part_by p) ≡ none → walk_part field true (part_by p) ended ≡ none
        by (Attribute u) h e = absurd (h u refl)
        by Itself h e = part_none field true self_part ended e (λ t q. cc)
        by (Child u) h e = part_none field true (child_part u.now) ended e (λ t q. cc)

    module _ (u : Steps) (e : s ≡ Some u) where
      wrote : (ts : List WrittenTest) × (step_of (part_by p) ≡ some ts) × (u.count ≡ n + length ts) × Written l at (steps_bytes ts) u.end m
      wrote = steps-some length steps_bytes (step_of (part_by p)) l m at n s w u e

      -- the byte that ends the alternative has room
      pub last-end : u.end ≤ at + 3 * length t
      last-end = let v = wrote in let f = step_fits t v.0 (ap step_of g.reads ∙ v.1) in omega (arith, v.3.0)

      pub last_some : at ≤ length l → (o : Bytes) (q : ℕ) → Written m u.end (0 ∷ []) q o
          → WroteSteps walked_steps walked_bytes (walk_parts field (t ∷ [])) l at n (Some (record { count = u.count; end = q })) o
      unfolding put_end with_steps ended
      last_some k o q x =
          let v = wrote in (
            record { steps = v.0 ++ []; attr = none },
            walked ∙ part-some field true (part_by p) ended v.0 v.1,
            v.2 ∙ ap (λ (ts : List WrittenTest). n + length ts) (sym (append-nil v.0)),
            subst (λ (ts : List WrittenTest). Written l at (flat_map put_test ts ++ put_end none) q o) (sym (append-nil v.0)) (written_then l m o (steps_bytes v.0) (0 ∷ []) at u.end q k v.3 x),
          )
