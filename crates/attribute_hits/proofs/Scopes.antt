-- SCOPE AFTER SCOPE: each selection is of one of the open scopes, so that when all have been fed every selection has, and once. With no attribute, or no selection, nothing changes.
-- Assumes nothing.
use Prim.Native.Nat.{ℕ, ◌+◌, ◌*◌, ◌≤◌, ◌<◌}
use native.Mathlib.Omega.{arith}
use borrow.Author.Tests.{eqb-true, eqb-false, le-leb, lt-leb, leb-true, leb-false}
use lib.Dec.{leb}
use lib.ListN.{length, drop, get_or, get_elem?, get_or-map}
use mathlib.Core.Path.{◌≡◌, refl, ap, ap₂, sym, ◌∙◌, subst}
use mathlib.Core.Bool.{Bool, true, false, cond}
use mathlib.Core.List.{List, [], ◌∷◌, ◌++◌, map, flat_map, zip_with, map-map, map-id}
use mathlib.Core.Option.{some}
use Rattle.std.proofs.lemmas.List.{nil_from_length}
use Rattle.lists.specs.Lists.{foldl}
use Rattle.lists.proofs.Folds.{map-alike}
use Rattle.lists.proofs.Places.{get_elem-some, All-get_elem, map_found, found-within}
use Rattle.paths.specs.Names.{Name}
use Rattle.paths.specs.Matching.{FieldAlt}
use Rattle.tree.specs.Cells as tree
use Rattle.tree.specs.Cells.{Hit, attribute_hits}
use Rattle.machine.specs.Machine.{OpenScope, Selection, Giving, hit, feed_cells, feed}
use Rattle.records.specs.Readers.{Bytes, up_to}
use Rattle.session_spec.specs.Definitions.{Definitions}
use Rattle.session_spec.specs.Layout.{ScopeRecord, parts, place_of, put_scope, put_selection, selection_in}
use Rattle.paths.specs.Reading.{every}
use Rattle.session_laws.proofs.Areas.{SelectionFit}
use Rattle.session_laws.proofs.Constraints.{ConstraintFit}
use Rattle.open_scopes.specs.declared.Scope.{Scope}
use Rattle.open_scopes.specs.declared.Scopes.{Scopes}
use Rattle.open_scopes.specs.OpenScopes.{record_of, blank_scope, open_of, records_of}
use Rattle.open_scopes.proofs.Places.{as_many}
use Rattle.path_area.specs.Scratch.{Scratched}
use Rattle.path_area.proofs.Scratch.{scratch-same, scratch-then}
use Rattle.cells.proofs.Machine.{area-is}
use Rattle.attribute_hits.specs.AttributeHits.{given_at, Described, TakesAttributes}
use Rattle.attribute_hits.specs.Steps.{Stand, is_of, fed_here, Known, Placed, TakesScope}
use Rattle.attribute_hits.proofs.Hits.{with_cells}

-- ---- the selections of a session stand in its area

module _ (cells : Bytes) (n : ℕ) (scopes : Scopes) (names : Bytes) (depth : ℕ) (defs before rec : Bytes) (first count : ℕ)
    (d : Definitions) (called : List Name) (os : List OpenScope) (ss : List Selection) (k : Described cells n scopes names depth defs before rec first count d called os ss) where
  they-stand : Stand os n (drop (512 * n) cells) ss cells
  they-stand =
      let e : every (selection_in os) (parts 512 (length ss) cells) ≡ some ss = subst (λ (m : ℕ). every (selection_in os) (parts 512 m cells) ≡ some ss) k.many k.selected in
      record {
        bytes = area-is os ss cells e ∙ ap (λ (m : ℕ). flat_map (put_selection os) ss ++ drop (512 * m) cells) (sym k.many);
        many = k.many;
        few = k.few;
        fit = k.fit;
      }

-- ---- nothing to do

fed-nothing : (g : List FieldAlt → List Hit) → ((alts : List FieldAlt) → g alts ≡ []) → (fs : List (List FieldAlt)) (cs : List tree.Cell) → length cs ≡ length fs → feed_cells g fs cs ≡ cs
unfolding feed_cells zip_with
fed-nothing g e [] [] h = refl
fed-nothing g e [] (c ∷ cs) h = absurd (omega arith)
fed-nothing g e (f ∷ fs) [] h = refl
fed-nothing g e (f ∷ fs) (c ∷ cs) h = ap₂ {C = List tree.Cell} ◌∷◌ (ap (foldl hit c) (e f)) (fed-nothing g e fs cs (omega arith))

module _ (cells : Bytes) (n : ℕ) (scopes : Scopes) (names : Bytes) (depth : ℕ) (defs before rec : Bytes) (first count : ℕ) where
  given-none : count ≡ 0 → (alts : List FieldAlt) (below : List Name) → given_at rec first count alts below ≡ []
  unfolding attribute_hits flat_map up_to
  given-none e alts below = ap (λ (m : ℕ). given_at rec first m alts below) e

  -- an element without attributes
  pub no-attributes : count ≡ 0 → TakesAttributes cells n scopes names depth defs before rec first count cells before
  unfolding feed
  no-attributes z =
      record {
        says = λ d called os ss k.
            let e : map (feed called (given_at rec first count)) ss ≡ ss =
            map-alike (SelectionFit os) (feed called (given_at rec first count)) (λ s. s)
            (λ s f. ap (with_cells s) (fed-nothing (λ alts. given_at rec first count alts (drop s.depth called)) (λ alts. given-none z alts (drop s.depth called)) s.scope.constraint.fields s.cells f.many))
            ss k.fit
            ∙ map-id ss in
            (they-stand cells n scopes names depth defs before rec first count d called os ss k).bytes
            ∙ ap (λ (l : List Selection). flat_map (put_selection os) l ++ drop (512 * n) cells) (sym e);
        scratched = scratch-same before;
        size = refl;
      }

  -- no open selection
  pub no-selections : n ≡ 0 → TakesAttributes cells n scopes names depth defs before rec first count cells before
  no-selections z =
      record {
        says = λ d called os ss k.
            let e : ss ≡ [] = nil_from_length ss (sym k.many ∙ z) in
            let m : map (feed called (given_at rec first count)) ss ≡ ss = ap (map (feed called (given_at rec first count))) e ∙ sym e in
            (they-stand cells n scopes names depth defs before rec first count d called os ss k).bytes
            ∙ ap (λ (l : List Selection). flat_map (put_selection os) l ++ drop (512 * n) cells) (sym m);
        scratched = scratch-same before;
        size = refl;
      }

-- ---- the selections of the scopes from place k on

module _ (os : List OpenScope) (called : List Name) (give : Giving) where
  abbrev is_past : ℕ → Selection → Bool
  is_past k s = leb k (place_of s.scope.number os)

  unfoldable pub fed_past : (k : ℕ) → Selection → Selection
  fed_past k s = cond (is_past k s) (feed called give s) s

  past-start : (s : Selection) → fed_past 0 s ≡ feed called give s
  unfolding fed_past
  past-start s = ap (λ (b : Bool). cond b (feed called give s) s) (le-leb 0 (place_of s.scope.number os) (omega arith))

  past-turn : (k : ℕ) (s : Selection) → fed_past (k + 1) (fed_here os k called give s) ≡ fed_past k s
  unfolding fed_past fed_here feed
  past-turn k s = by (is_of os k s) refl (is_past k s) refl
    where
      by : (b : Bool) → is_of os k s ≡ b → (p : Bool) → is_past k s ≡ p
          → fed_past (k + 1) (cond b (feed called give s) s) ≡ cond p (feed called give s) s
      by true q true r =
          let e : place_of s.scope.number os ≡ k = eqb-true (place_of s.scope.number os) k q in
          ap (λ (x : Bool). cond x (feed called give (feed called give s)) (feed called give s)) (lt-leb (k + 1) (place_of s.scope.number os) (omega arith))
      by true q false r =
          let e : place_of s.scope.number os ≡ k = eqb-true (place_of s.scope.number os) k q in
          let l = leb-false k (place_of s.scope.number os) r in
          absurd (omega arith)
      by false q true r =
          let l = leb-true k (place_of s.scope.number os) r in
          let z = eqb-false (place_of s.scope.number os) k q in
          ap (λ (x : Bool). cond x (feed called give s) s) (le-leb (k + 1) (place_of s.scope.number os) (omega (arith, z)))
      by false q false r =
          let l = leb-false k (place_of s.scope.number os) r in
          ap (λ (x : Bool). cond x (feed called give s) s) (lt-leb (k + 1) (place_of s.scope.number os) (omega arith))

  past_end : (k : ℕ) → length os ≤ k → (s : Selection) → SelectionFit os s → fed_past k s ≡ s
  unfolding fed_past
  past_end k h s f =
      let l = found-within os (place_of s.scope.number os) f.home f.found in
      ap (λ (b : Bool). cond b (feed called give s) s) (lt-leb k (place_of s.scope.number os) (omega arith))

-- ---- the open scope at a place

module _ (scopes : Scopes) (os : List OpenScope) (e : records_of scopes ≡ map put_scope os) where
  constraint-of : (k : ℕ) (one : Scope) → one ≡ get_or (open_of scopes) k blank_scope → (o : OpenScope) → get_elem? os k ≡ some o → o.scope.constraint.number ≡ one.constraint
  unfolding records_of put_scope
  constraint-of k one g o h =
      sym (ap (λ (s : Scope). s.constraint) g
      ∙ ap (λ (r : ScopeRecord). r.constraint)
      (sym (get_or-map record_of (open_of scopes) k blank_scope) ∙ ap (λ (l : List ScopeRecord). get_or l k (record_of blank_scope)) e ∙ map_found put_scope os k o (record_of blank_scope) h))

-- ---- the loop

pub record ScopesLeft (os : List OpenScope) (n : ℕ) (called : List Name) (give : Giving) (rest : Bytes) (ss : List Selection) (k : ℕ) (cells : Bytes) : Type 0 where
  pub present : List Selection
  pub stand : Stand os n rest present cells
  pub same : map (fed_past os called give k) present ≡ map (feed called give) ss

-- the selections of k scopes have been fed
pub record ScopesFed (cells₀ : Bytes) (n : ℕ) (scopes : Scopes) (names : Bytes) (depth : ℕ) (defs before rec : Bytes) (first count : ℕ) (k : ℕ) (cells area : Bytes) : Type 0 where
  pub size : length cells ≡ length cells₀
  pub scratched : Scratched before area
  pub so_far : (d : Definitions) (called : List Name) (os : List OpenScope) (ss : List Selection) → Described cells₀ n scopes names depth defs before rec first count d called os ss
      → ScopesLeft os n called (given_at rec first count) (drop (512 * n) cells₀) ss k cells

module _ (cells₀ : Bytes) (n : ℕ) (scopes : Scopes) (names : Bytes) (depth : ℕ) (defs before rec : Bytes) (first count : ℕ) where
  pub no-scope-fed : ScopesFed cells₀ n scopes names depth defs before rec first count 0 cells₀ before
  no-scope-fed =
      record {
        size = refl;
        scratched = scratch-same before;
        so_far = λ d called os ss k.
            record {
              present = ss;
              stand = they-stand cells₀ n scopes names depth defs before rec first count d called os ss k;
              same = map-alike (SelectionFit os) (fed_past os called (given_at rec first count) 0) (feed called (given_at rec first count))
                  (λ s f. past-start os called (given_at rec first count) s) ss k.fit;
            };
      }

  module _ (j : ℕ) (cells area : Bytes) (q : ScopesFed cells₀ n scopes names depth defs before rec first count j cells area) where
    pub one-scope-fed : j < length (open_of scopes) → (one : Scope) → one ≡ get_or (open_of scopes) j blank_scope → (cells' area' : Bytes)
        → TakesScope cells n j one.constraint names depth defs area rec first count cells' area'
        → ScopesFed cells₀ n scopes names depth defs before rec first count (j + 1) cells' area'
    one-scope-fed h one g cells' area' t =
        record {
          size = t.size ∙ q.size;
          scratched = scratch-then before area area' q.scratched t.scratched;
          so_far = λ d called os ss k.
              let give : Giving = given_at rec first count in
              let l = q.so_far d called os ss k in
              let m = as_many scopes os k.scoped in
              let p = get_elem-some os j (omega arith) in
              let known : Known names depth defs area rec first count d called =
              record {
                definitions = k.definitions;
                named = k.named;
                room = omega (arith, k.room, q.scratched.size);
                whole = record { all = k.whole; keys = k.keys };
              } in
              let placed : Placed os j one.constraint d p.0 =
              record {
                here = p.1;
                number = constraint-of scopes os k.scoped j one g p.0 p.1;
                fit = All-get_elem (λ (o : OpenScope). ConstraintFit d o.scope.constraint) os j p.0 k.known p.1;
              } in
              record {
                present = map (fed_here os j called give) l.present;
                stand = t.says d called known os (drop (512 * n) cells₀) l.present l.stand p.0 placed;
                same =
                    map-map (fed_past os called give (j + 1)) (fed_here os j called give) l.present
                    ∙ map-alike (SelectionFit os) (λ s. fed_past os called give (j + 1) (fed_here os j called give s)) (fed_past os called give j)
                    (λ s f. past-turn os called give j s) l.present l.stand.fit
                    ∙ l.same;
              };
        }

    pub all-scopes-fed : length (open_of scopes) ≤ j → TakesAttributes cells₀ n scopes names depth defs before rec first count cells area
    all-scopes-fed h =
        record {
          says = λ d called os ss k.
              let give : Giving = given_at rec first count in
              let l = q.so_far d called os ss k in
              let m = as_many scopes os k.scoped in
              let e : l.present ≡ map (feed called give) ss =
              sym (map-id l.present)
              ∙ sym (map-alike (SelectionFit os) (fed_past os called give j) (λ s. s) (past_end os called give j (omega arith)) l.present l.stand.fit)
              ∙ l.same in
              l.stand.bytes ∙ ap (λ (z : List Selection). flat_map (put_selection os) z ++ drop (512 * n) cells₀) e;
          scratched = q.scratched;
          size = q.size;
        }
