-- ATTRIBUTE AFTER ATTRIBUTE: the selections that stand in the area, with the hits of the attributes that are left, are those with the hits of all. At the end none is left.
-- Assumes nothing.
use Prim.Native.Nat.{ℕ, ◌≤◌, ◌<◌}
use lib.ListN.{length, replicate}
use lib.Seq.{take_all}
use mathlib.Core.Path.{◌≡◌, refl, ap, ap₂, sym, ◌∙◌, subst}
use mathlib.Core.Bool.{Bool, cond, ◌&&◌}
use mathlib.Core.List.{List, [], ◌∷◌, ◌++◌, map, flat_map, map-map, map-id}
use mathlib.Core.Option.{Option, none, some}
use Rattle.lists.specs.Lists.{any, All}
use Rattle.lists.proofs.Folds.{map-alike}
use Rattle.lists.proofs.Places.{All-of, All-mapped}
use Rattle.texts.specs.Texts.{Text}
use Rattle.paths.specs.Names.{Name, Attribute}
use Rattle.paths.specs.Reading.{field_alt_of}
use Rattle.paths.specs.Matching.{FieldAlt, attribute_fits, matches}
use Rattle.tree.specs.Cells.{Hit, simple, ends_at, reaches, reach, attribute_hits, element_hit}
use Rattle.machine.specs.Machine.{OpenScope, Selection}
use Rattle.records.specs.Readers.{Bytes}
use Rattle.record_places.specs.Places.{attributes_at}
use Rattle.session_laws.proofs.OpenSelections.{AttributeFit}
use Rattle.path_entries.specs.Entries.{path_in}
use Rattle.matching.specs.Matched.{names_below, reached_by}
use Rattle.cells.specs.Cells.{hit_of}
use Rattle.reaching.specs.Rows.{reach_from}
use Rattle.attribute_hits.specs.Steps.{Stand, Has, hit_here, TakesHits, Whole, one_hits}
use Rattle.attribute_hits.proofs.Hits.{here-none, here-then, here-has}

-- ---- maps over selections

pub map_same : (f g : Selection → Selection) → ((s : Selection) → f s ≡ g s) → (ss : List Selection) → map f ss ≡ map g ss
map_same f g e ss = map-alike (λ (s : Selection). Unit {0}) f g (λ s u. e s) ss (All-of (λ (s : Selection). Unit {0}) (λ s. tt) ss)

-- ---- the hits of one attribute

ends-key : (name k l : Text) (o : Option (Option Text)) → ends_at o (some (record { name = name; key = k })) ≡ ends_at o (some (record { name = name; key = l }))
unfolding ends_at attribute_fits
ends-key name k l none = refl
ends-key name k l (some t) = refl

-- a key has no say in what is reached
reach-key : (alts : List FieldAlt) (below : List Name) (name k l : Text) → reach alts below (some (record { name = name; key = k })) ≡ reach alts below (some (record { name = name; key = l }))
unfolding reach reaches
reach-key alts below name k l =
    ap (λ (p : FieldAlt → Bool). cond (any p alts) 1 0) (λ i. λ (a : FieldAlt). ends-key name k l a.attr i && matches a.path below)

key-whole : (key : Text) → length key ≤ 126 → hit_of 1 key ≡ simple key
unfolding hit_of element_hit
key-whole key h = ap simple (take_all 126 key h)

module _ (find : Text → Option Text) (area names : Bytes) (depth : ℕ) where
  abbrev alts : List FieldAlt
  alts = map (field_alt_of find) (path_in area)

  one-is : (name key : Text) → length key ≤ 126 → (base : ℕ)
      → one_hits find area names depth name key base ≡ replicate (reach alts (names_below base depth names) (some (record { name = name; key = key }))) (simple key)
  unfolding reach_from reached_by
  one-is name key h base =
      ap₂ replicate (reach-key alts (names_below base depth names) name [] key) (key-whole key h)

  -- of those in a list
  abbrev pub list_hits : List Attribute → (base : ℕ) → List Hit
  list_hits xs base = attribute_hits alts (names_below base depth names) xs

  -- and of those behind it
  one_more : (xs ys : List Attribute) (x : Attribute) → xs ≡ x ∷ ys → length x.key ≤ 126 → (base : ℕ)
      → one_hits find area names depth x.name x.key base ++ list_hits ys base ≡ list_hits xs base
  unfolding attribute_hits flat_map
  one_more xs ys x e h base =
      ap (λ (l : List Hit). l ++ list_hits ys base) (one-is x.name x.key h base)
      ∙ ap (attribute_hits alts (names_below base depth names)) (sym e)

  none_more : (xs : List Attribute) → xs ≡ [] → (base : ℕ) → list_hits xs base ≡ []
  unfolding attribute_hits flat_map
  none_more xs e base = ap (attribute_hits alts (names_below base depth names)) e

-- ---- the loop

-- `now` stand in the area; these attributes are left
pub record Left (find : Text → Option Text) (area names : Bytes) (depth n place field : ℕ) (all : List Attribute) (os : List OpenScope) (rest : Bytes) (ss : List Selection) (left : List Attribute) (cells : Bytes) : Type 0 where
  pub present : List Selection
  pub stand : Stand os n rest present cells
  pub has : All (Has os place field) present
  pub keys : All AttributeFit left
  pub same : map (hit_here os place field (list_hits find area names depth left)) present
      ≡ map (hit_here os place field (list_hits find area names depth all)) ss

-- all but these have been met
pub record Met (find : Text → Option Text) (area names : Bytes) (depth n place field : ℕ) (all : List Attribute) (cells₀ : Bytes) (left : List Attribute) (cells : Bytes) : Type 0 where
  pub size : length cells ≡ length cells₀
  pub so_far : All AttributeFit all → field < 4 → (os : List OpenScope) (rest : Bytes) (ss : List Selection) → Stand os n rest ss cells₀ → All (Has os place field) ss
      → Left find area names depth n place field all os rest ss left cells

module _ (find : Text → Option Text) (area names : Bytes) (depth n place field : ℕ) (all : List Attribute) (cells₀ : Bytes) where
  module _ (left : List Attribute) (cells : Bytes) (q : Met find area names depth n place field all cells₀ left cells) where
    module _ (x : Attribute) (more : List Attribute) (e : left ≡ x ∷ more) (cells' : Bytes)
        (one : TakesHits (Unit {0}) n place field (one_hits find area names depth x.name x.key) cells cells') where
      step : (os : List OpenScope) (rest : Bytes) (ss : List Selection) → field < 4 → Left find area names depth n place field all os rest ss left cells
          → Left find area names depth n place field all os rest ss more cells'
      step os rest ss r p =
          let mine : ℕ → List Hit = one_hits find area names depth x.name x.key in
          let behind : ℕ → List Hit = list_hits find area names depth more in
          let both : ℕ → List Hit = list_hits find area names depth left in
          let fit : All AttributeFit (x ∷ more) = subst (All AttributeFit) e p.keys in
          record {
            present = map (hit_here os place field mine) p.present;
            stand = one.says tt r os rest p.present p.stand p.has;
            has = All-mapped (Has os place field) (Has os place field) (hit_here os place field mine) (here-has os place field mine) p.present p.has;
            keys = fit.1;
            same =
                map-map (hit_here os place field behind) (hit_here os place field mine) p.present
                ∙ map_same (λ s. hit_here os place field behind (hit_here os place field mine s)) (hit_here os place field both)
                (here-then os place field mine behind both (one_more find area names depth left more x e fit.0)) p.present
                ∙ p.same;
          }

      pub one-met : Met find area names depth n place field all cells₀ more cells'
      one-met =
          record {
            size = one.size ∙ q.size;
            so_far = λ w r os rest ss st has. step os rest ss r (q.so_far w r os rest ss st has);
          }

    last : left ≡ [] → (os : List OpenScope) (rest : Bytes) (ss : List Selection) → Left find area names depth n place field all os rest ss left cells
        → Stand os n rest (map (hit_here os place field (list_hits find area names depth all)) ss) cells
    last z os rest ss p =
        let e : p.present ≡ map (hit_here os place field (list_hits find area names depth all)) ss =
        sym (map-id p.present)
        ∙ sym (map_same (hit_here os place field (list_hits find area names depth left)) (λ s. s)
        (here-none os place field (list_hits find area names depth left) (none_more find area names depth left z)) p.present)
        ∙ p.same in
        subst (λ (l : List Selection). Stand os n rest l cells) e p.stand

    pub all-met : left ≡ [] → TakesHits (All AttributeFit all) n place field (list_hits find area names depth all) cells₀ cells
    all-met z = record { says = λ w r os rest ss st has. last z os rest ss (q.so_far w r os rest ss st has); size = q.size }

-- of the attributes of a record
pub of-record : (n place field : ℕ) (hits : ℕ → List Hit) (rec : Bytes) (first count : ℕ) (cells cells' : Bytes)
    → TakesHits (All AttributeFit (attributes_at rec first count)) n place field hits cells cells' → TakesHits (Whole rec first count) n place field hits cells cells'
of-record n place field hits rec first count cells cells' t = record { says = λ w. t.says w.keys; size = t.size }
