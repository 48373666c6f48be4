-- What one listed number adds to the reports of kind 6: itself, where its paths do not read and its name is not among those reported so far.
-- Assumes nothing.
use Prim.Native.Nat.{ℕ, suc}
use mathlib.Core.Path.{◌≡◌, refl, ap, ap₂, ◌∙◌}
use mathlib.Core.Bool.{Bool, true, false, cond, ◌&&◌, not, or-false}
use mathlib.Core.List.{List, [], ◌∷◌, ◌++◌, map, append-nil}
use Rattle.lists.specs.Lists.{any, only_if}
use Rattle.lists.proofs.Lists.{bool-ext}
use Rattle.texts.specs.Texts.{Text, same}
use Rattle.texts.proofs.Sameness.{same-eq, same_refl}
use Rattle.tree.specs.Events.{Defined, reads, unread, opening, after, openings}
use Rattle.tree.specs.Judge.{Report, kind_six}
use Rattle.session_spec.specs.Definitions.{Definitions, constraint_at, defined_at}
use Rattle.session_laws.proofs.Constraints.{unread-fit}
use Rattle.constraint_paths.proofs.Stands.{is_read}
use Rattle.plans.specs.Plans.{six_from}

-- how many scopes were opened before is nothing to them
pub six-any : (defs : ℕ → Defined) (e : ℕ) (told : List Text) (n m : ℕ) (is : List ℕ) → six_from e told (openings defs n is) ≡ six_from e told (openings defs m is)
unfolding six_from openings
six-any defs e told n m [] = refl
six-any defs e told n m (i ∷ is) =
    by (defs i) (six-any defs e told (suc n) (suc m) is) (six-any defs e told n m is) (λ t. six-any defs e (told ++ (t ∷ [])) n m is)
  where
    by : (x : Defined) → six_from e told (openings defs (suc n) is) ≡ six_from e told (openings defs (suc m) is) → six_from e told (openings defs n is) ≡ six_from e told (openings defs m is)
        → ((t : Text) → six_from e (told ++ (t ∷ [])) (openings defs n is) ≡ six_from e (told ++ (t ∷ [])) (openings defs m is))
        → six_from e told (opening x i n ∷ openings defs (after x n) is) ≡ six_from e told (opening x i m ∷ openings defs (after x m) is)
    by (reads c) a b f = unfold opening after six_from in a
    by (unread t) a b f = unfold opening after six_from in (ap₂ (λ (x y : List Report). cond (any (same t) told) x (kind_six e i ∷ y)) b (f t))

module _ (d : Definitions) where
  abbrev pub name_at : ℕ → Text
  name_at c = (constraint_at d c).name

  -- ONE NUMBER MORE
  pub six-on : (e : ℕ) (told : List Text) (i : ℕ) (is : List ℕ) (b : Bool) → b ≡ (not (is_read (defined_at d i)) && not (any (same (name_at i)) told))
      → six_from e told (openings (defined_at d) 0 (i ∷ is))
      ≡ map (λ k. kind_six e k) (only_if b (i ∷ [])) ++ six_from e (told ++ map name_at (only_if b (i ∷ []))) (openings (defined_at d) 0 is)
  unfolding openings opening after six_from only_if
  six-on e told i is b h = by (defined_at d i) refl h
    where
      none_more : (x : Bool) → x ≡ false → six_from e told (openings (defined_at d) 0 is)
          ≡ map (λ k. kind_six e k) (only_if x (i ∷ [])) ++ six_from e (told ++ map name_at (only_if x (i ∷ []))) (openings (defined_at d) 0 is)
      none_more x q = rw (q, append-nil told)

      found : (t : Text) (s x : Bool) → name_at i ≡ t → any (same t) told ≡ s → x ≡ not s
          → cond s (six_from e told (openings (defined_at d) 0 is)) (kind_six e i ∷ six_from e (told ++ (t ∷ [])) (openings (defined_at d) 0 is))
          ≡ map (λ k. kind_six e k) (only_if x (i ∷ [])) ++ six_from e (told ++ map name_at (only_if x (i ∷ []))) (openings (defined_at d) 0 is)
      found t true x n q z = none_more x z
      found t false x n q z = rw (z, n)

      by : (x : Defined) → defined_at d i ≡ x → b ≡ (not (is_read x) && not (any (same (name_at i)) told))
          → six_from e told (opening x i 0 ∷ openings (defined_at d) (after x 0) is)
          ≡ map (λ k. kind_six e k) (only_if b (i ∷ [])) ++ six_from e (told ++ map name_at (only_if b (i ∷ []))) (openings (defined_at d) 0 is)
      by (reads c) q z = six-any (defined_at d) e told 1 0 is ∙ none_more b z
      by (unread t) q z =
          let n : name_at i ≡ t = unread-fit d i t q in
          found t (any (same t) told) b n refl (z ∙ ap (λ (x : Text). not (any (same x) told)) n)

-- ---- the names of this event

same-sym : (a b : Text) → same a b ≡ same b a
same-sym a b = bool-ext (same a b) (same b a) (λ h. rw (same-eq a b h) (same_refl b)) (λ h. rw (same-eq b a h) (same_refl a))

pub any-one : (d : Definitions) (t : Text) (b : Bool) (i : ℕ) → any (same t) (map (name_at d) (only_if b (i ∷ []))) ≡ (b && same (name_at d i) t)
unfolding only_if
any-one d t true i = or-false (same t (name_at d i)) ∙ same-sym t (name_at d i)
any-one d t false i = refl
