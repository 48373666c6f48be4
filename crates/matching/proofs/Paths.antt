-- The alternatives of a path, one behind the other: one that was walked over stands before those behind it, and where one is cut off there are none. So a
-- selector and a field go on with what is left of their bytes.
-- Assumes nothing.
use Prim.Native.Nat.{ℕ, zero, suc, ◌+◌, ◌-◌, ◌≤◌, ◌<◌}
use native.Mathlib.Omega.{arith}
use lib.ListN.{length}
use mathlib.Core.Path.{◌≡◌, refl, ap, ◌∙◌}
use mathlib.Core.Bool.{Bool, true, false, cond, ◌&&◌, ◌||◌}
use mathlib.Core.List.{List, [], ◌∷◌, map}
use mathlib.Core.Option
use mathlib.Core.Option.{Option, none, some}
use Rattle.lists.specs.Lists.{any}
use Rattle.texts.specs.Texts.{Text}
use Rattle.paths.specs.Names.{Name, after_colon}
use Rattle.paths.specs.Matching.{matches, attribute_fits}
use Rattle.paths.specs.Reading.{WrittenAlt, step_path_of, field_alt_of}
use Rattle.tree.specs.Cells.{ends_at, reaches, reach}
use Rattle.records.specs.Readers.{Bytes, on_whole, up_to}
use Rattle.path_entries.specs.Entries.{read_alternative, path_in}
use Rattle.std.specs.declared.option.Option as code
use Rattle.std.specs.declared.option.Option.TheVariants.{Some, None}
use Rattle.std.proofs.Common.{Bor}
use Rattle.std.specs.Prelude.{MatchOption, IsSomeAnd}
use Rattle.matching.specs.declared.Alt.{Alt}
use Rattle.matching.specs.Matched.{selected_by, reached_by}
use Rattle.matching.specs.Walks.{Seen, attr_of, alt_seen, attribute_of, seen_of, AltIn, some_seen, node_in, ends}

-- ---- at most n alternatives at the front of bytes

alts : ℕ → Bytes → List WrittenAlt
alts n xs = up_to n read_alternative xs

alts-none : (n : ℕ) (xs : Bytes) → n ≤ 0 → alts n xs ≡ []
unfolding alts up_to
alts-none zero xs h = refl
alts-none (suc n) xs h = absurd (omega arith)

-- the path at the front of an area
path-none : (area : Bytes) → length area ≡ 0 → path_in area ≡ []
unfolding path_in
path-none [] h = refl
path-none (n ∷ xs) h = absurd (omega arith)

path-is : (area : Bytes) (n : ℕ) (xs : Bytes) → area ≡ n ∷ xs → path_in area ≡ alts n xs
unfolding path_in alts
path-is area n xs e = rw e

-- An alternative that was walked over, before those behind it, of which so many are left.
record Next (find : Text → Option Text) (below : List Name) (xs : Bytes) (a : Alt) (behind : Bytes) (left : ℕ) : Type 0 where
  alt : WrittenAlt
  stand : alts (suc left) xs ≡ alt ∷ alts left behind
  path : matches (step_path_of find alt) below ≡ a.matched
  end : attr_of alt.attr ≡ attribute_of a.attribute

module _ (find : Text → Option Text) (below : List Name) (xs : Bytes) (left : ℕ) where
  cut-off : AltIn find below xs None → alts (suc left) xs ≡ []
  unfolding alts up_to
  cut-off f = by (read_alternative xs) f
    where
      by : (o : Option (WrittenAlt × Bytes)) → Option.map (alt_seen find below) o ≡ none → on_whole o (up_to left read_alternative) ≡ []
      by none e = unfold on_whole in refl
      by (some q) e = let z : ◌≡◌ {A = ℕ} 0 1 = cc in absurd (omega arith)

  next : (a : Alt) (behind : Bor Bytes) → AltIn find below xs (Some (a, behind)) → Next find below xs a behind.now left
  unfolding on_whole
  next a behind f = by (read_alternative xs) (unfold alts up_to in refl) f
    where
      seen : Seen × Bytes
      seen = (seen_of a, behind.now)

      by : (o : Option (WrittenAlt × Bytes)) → alts (suc left) xs ≡ on_whole o (alts left) → Option.map (alt_seen find below) o ≡ some seen → Next find below xs a behind.now left
      by none s e = let z : ◌≡◌ {A = ℕ} 0 1 = cc in absurd (omega arith)
      by (some q) s e =
          let g : alt_seen find below q ≡ seen = cc in
          record {
            alt = q.0;
            stand = s ∙ ap (λ (ys : Bytes). q.0 ∷ alts left ys) (ap (λ (x : Seen × Bytes). x.1) g);
            path = ap (λ (x : Seen × Bytes). x.0.matched) g;
            end = ap (λ (x : Seen × Bytes). x.0.attr) g;
          }

-- one more of those from number i to before number `end`
pub one_more : (i end : ℕ) → i < end → end - i ≡ suc (end - (i + 1))
one_more i end h = omega arith

-- ---- by a test of what is seen of an alternative

module _ (test : Bool → Option (Option Text) → Bool) (find : Text → Option Text) (below : List Name) where
  pub some_left : ℕ → Bytes → Bool
  some_left n xs = any (λ a. test (matches (step_path_of find a) below) (attr_of a.attr)) (alts n xs)

  pub seen-nothing : (area : Bytes) → length area ≡ 0 → false ≡ some_seen test find below area
  unfolding some_seen
  seen-nothing area h = rw (path-none area h)

  pub seen-starts : (area : Bytes) (n : ℕ) (xs : Bytes) → area ≡ n ∷ xs → some_left (n - 0) xs ≡ some_seen test find below area
  unfolding some_seen some_left
  seen-starts area n xs e = let z : n - 0 ≡ n = omega arith in rw (z, path-is area n xs e)

  pub seen-ends : (n : ℕ) (xs : Bytes) → n ≤ 0 → some_left n xs ≡ false
  unfolding some_left
  seen-ends n xs h = rw (alts-none n xs h)

  module _ (xs : Bytes) (i end : ℕ) (more : i < end) where
    pub seen-cut : AltIn find below xs None → some_left (end - i) xs ≡ false
    unfolding some_left
    seen-cut f = rw (one_more i end more, cut-off find below xs (end - (i + 1)) f)

    module _ (a : Alt) (behind : Bor Bytes) (f : AltIn find below xs (Some (a, behind))) (hit : Bool) (h : hit ≡ test a.matched (attribute_of a.attribute)) where
      one : some_left (end - i) xs ≡ (hit || some_left (end - (i + 1)) behind.now)
      unfolding some_left
      one = let n = next find below xs (end - (i + 1)) a behind f in rw (one_more i end more, n.stand, n.path, n.end, ← h)

      pub seen-hit : hit ≡ true → some_left (end - i) xs ≡ true
      seen-hit m = one ∙ ap (λ (b : Bool). b || some_left (end - (i + 1)) behind.now) m

      pub seen-on : hit ≡ false → some_left (end - i) xs ≡ some_left (end - (i + 1)) behind.now
      seen-on m = one ∙ ap (λ (b : Bool). b || some_left (end - (i + 1)) behind.now) m

-- ---- a selector asks whether the path matches

pub selected : (find : Text → Option Text) (below : List Name) (area : Bytes) → some_seen (λ m e. m) find below area ≡ selected_by find area below
unfolding some_seen selected_by
selected find below area = refl

-- ---- a field asks where the alternative ends, too

-- the part of the name behind its last `:`, if a name is asked for
abbrev Behind : (attribute local : code.Option (Bor Text)) → Type 0
Behind None None = Unit {0}
Behind None (Some local) = ⊥
Behind (Some name) None = ⊥
Behind (Some name) (Some local) = local.now ≡ after_colon name.now

pub behind-if : (P : Bor Text → Bor Text → Type 0) (attribute local : code.Option (Bor Text)) → ((x y : Bor Text) → P x y → y.now ≡ after_colon x.now)
    → MatchOption attribute (local ≡ None) (λ x. IsSomeAnd local (P x)) → Behind attribute local
behind-if P None None f h = tt
behind-if P None (Some l) f h = let z : ◌≡◌ {A = ℕ} 0 1 = cc in absurd (omega arith)
behind-if P (Some n) None f h = h
behind-if P (Some n) (Some l) f h = f n l h

-- by where the alternative ends
ends-at : (o : Option (Option Text)) (attribute local : code.Option (Bor Text)) → Behind attribute local → ends o local ≡ ends_at o (node_in attribute)
unfolding ends_at attribute_fits
ends-at none None None e = refl
ends-at none (Some n) (Some l) e = refl
ends-at (some t) None None e = refl
ends-at (some t) (Some n) (Some l) e = rw e
ends-at o None (Some l) e = absurd e
ends-at o (Some n) None e = absurd e

pub reached : (find : Text → Option Text) (below : List Name) (area : Bytes) (attribute local : code.Option (Bor Text)) → Behind attribute local
    → cond {A = ℕ} (some_seen (λ m e. ends e local && m) find below area) 1 0 ≡ reached_by find area below (node_in attribute)
unfolding some_seen reached_by reach
reached find below area attribute local h = ap (λ (b : Bool). cond {A = ℕ} b 1 0) (by (path_in area))
  where
    one : (a : WrittenAlt) (l : List WrittenAlt)
        → any (λ a. ends (attr_of a.attr) local && matches (step_path_of find a) below) l ≡ any (reaches below (node_in attribute)) (map (field_alt_of find) l)
        → any (λ a. ends (attr_of a.attr) local && matches (step_path_of find a) below) (a ∷ l) ≡ any (reaches below (node_in attribute)) (map (field_alt_of find) (a ∷ l))
    one a l k = unfold reaches field_alt_of in (rw (ends-at (attr_of a.attr) attribute local h, k))

    by : (l : List WrittenAlt)
        → any (λ a. ends (attr_of a.attr) local && matches (step_path_of find a) below) l ≡ any (reaches below (node_in attribute)) (map (field_alt_of find) l)
    by [] = refl
    by (a ∷ l) = one a l (by l)
