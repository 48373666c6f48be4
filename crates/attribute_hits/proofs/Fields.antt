-- FIELD AFTER FIELD. First the path of one field, as it reads; then the selections of one scope: hitting their fields in turn is feeding them. The code's fields are those of the
-- constraint that the scope's number stands for.
-- Assumes nothing.
use Prim.Native.Nat.{ℕ, zero, suc, min, ◌+◌, ◌≤◌, ◌<◌}
use native.Mathlib.Omega.{arith}
use native.Mathlib.Numerals.{add-one}
use borrow.Author.Tests.{eqb-true}
use lib.ListN.{length, drop, get_or, get_elem?, length-drop, drop_of_length-le}
use mathlib.Core.Path.{◌≡◌, refl, ap, sym, ◌∙◌, subst}
use mathlib.Core.Bool.{Bool, true, false, cond}
use mathlib.Core.List.{List, [], ◌∷◌, map, flat_map, map-map, map-id}
use mathlib.Core.Option.{Option, none, some, some-injective}
use Rattle.std.proofs.lemmas.List.{drop_more}
use Rattle.std.proofs.Math.Nat.{min-eq_left}
use Rattle.lists.proofs.Folds.{All-weaken, map-alike}
use Rattle.lists.proofs.Places.{get_elem-some, All-get_or}
use Rattle.texts.specs.Texts.{Text}
use Rattle.paths.specs.Names.{Name, Attribute}
use Rattle.paths.specs.Matching.{FieldAlt}
use Rattle.paths.specs.Reading.{WrittenAlt, read_path, field_alt_of}
use Rattle.tree.specs.Events.{Constraint, Scope}
use Rattle.tree.specs.Cells as tree
use Rattle.tree.specs.Cells.{Hit, reach, attribute_hits}
use Rattle.machine.specs.Machine.{OpenScope, Selection, Giving, feed}
use Rattle.records.specs.Readers.{Bytes}
use Rattle.record_places.specs.Places.{attributes_at, texts_at}
use Rattle.session_spec.specs.Definitions.{Definition, Definitions, is_some, or_none, constraint_at}
use Rattle.session_spec.specs.Layout.{place_of}
use Rattle.session_laws.proofs.Areas.{SelectionFit}
use Rattle.session_laws.proofs.Tests.{or_none-nothing}
use Rattle.path_entries.specs.Entries.{path_in}
use Rattle.path_reader.proofs.Parsing.{room_for}
use Rattle.path_area.specs.Scratch.{Scratched, ReadsInto}
use Rattle.path_area.proofs.Scratch.{scratch-same, scratch-then}
use Rattle.bindings.specs.Bindings.{frames_in, uri_in}
use Rattle.bindings.specs.Own.{own_frames}
use Rattle.matching.specs.Matched.{names_below}
use Rattle.cells.specs.Cells.{hit_nth, hit_field, hit_fields}
use Rattle.cells.proofs.Machine.{fed-in-turn}
use Rattle.reaching.proofs.Names.{names-below}
use Rattle.constraints.specs.Constraints.{joined, id_at, PartsOf}
use Rattle.constraints.specs.declared.Parts.{Parts}
use Rattle.constraints.proofs.Stored.{constraint-is, fields_at}
use Rattle.constraint_paths.proofs.Short.{id-short}
use Rattle.constraint_paths.proofs.Stands.{field_is}
use Rattle.attribute_hits.specs.AttributeHits.{given_at}
use Rattle.attribute_hits.specs.Steps.{Stand, is_of, Has, hit_here, fed_here, TakesHits, Whole, bound, area_hits, path_hits, Ready, TakesField, Known, Placed, TakesScope}
use Rattle.attribute_hits.proofs.Hits.{with_cells, here-none}
use Rattle.attribute_hits.proofs.Attributes.{map_same}

-- ---- one path

no-alternatives : (below : List Name) (xs : List Attribute) → attribute_hits [] below xs ≡ []
unfolding attribute_hits flat_map reach
no-alternatives below [] = refl
no-alternatives below (x ∷ xs) = no-alternatives below xs

read_some : (o : Option (List WrittenAlt)) → is_some o ≡ true → (alts : List WrittenAlt) × (o ≡ some alts)
unfolding is_some
read_some none h = let z : ◌≡◌ {A = ℕ} 0 1 = cc in absurd (omega arith)
read_some (some l) h = (l, refl)

module _ (cells : Bytes) (n place field : ℕ) (own : Bytes) (path : Text) (names : Bytes) (depth : ℕ) (schema before rec : Bytes) (first count : ℕ)
    (b : Bool) (mid : Bytes) (ri : ReadsInto true path before b mid) where
  answer : Ready path before rec first count → b ≡ is_some (read_path true path)
  answer k = ri.answers (room_for path before k.short k.room)

  pub field-unread : b ≡ false → TakesField cells n place field own path names depth schema before rec first count cells mid
  field-unread q =
      record {
        hits = record {
          says = λ k r os rest ss st has.
              let hits : ℕ → List Hit = path_hits own schema path names depth field rec first count in
              let z : or_none (read_path true path) ≡ [] = or_none-nothing (read_path true path) (sym (answer k) ∙ q) in
              let nothing : (base : ℕ) → hits base ≡ [] = λ base.
              ap (λ (l : List WrittenAlt). attribute_hits (bound own schema field l) (names_below base depth names) (attributes_at rec first count)) z
              ∙ no-alternatives (names_below base depth names) (attributes_at rec first count) in
              let e : ss ≡ map (hit_here os place field hits) ss =
              sym (map_same (hit_here os place field hits) (λ s. s) (here-none os place field hits nothing) ss ∙ map-id ss) in
              subst (λ (l : List Selection). Stand os n rest l cells) e st;
          size = refl;
        };
        scratched = ri.scratched;
      }

  pub field-read : b ≡ true → (find : Text → Option Text) → find ≡ uri_in own schema (min field 3 + 2) → (cells' : Bytes)
      → TakesHits (Whole rec first count) n place field (area_hits find mid names depth rec first count) cells cells'
      → TakesField cells n place field own path names depth schema before rec first count cells' mid
  unfolding or_none
  field-read q find fe cells' t =
      record {
        hits = record {
          says = λ k r os rest ss st has.
              let a = read_some (read_path true path) (sym (answer k) ∙ q) in
              let e : path_in mid ≡ or_none (read_path true path) = ri.entries (room_for path before k.short k.room) a.0 a.1 ∙ sym (ap or_none a.1) in
              let ge : find ≡ uri_in own schema (field + 2) = fe ∙ ap (λ (m : ℕ). uri_in own schema (m + 2)) (min-eq_left (omega arith)) in
              let given : (Text → Option Text) → List WrittenAlt → List Selection = λ f l.
              map (hit_here os place field (λ base. attribute_hits (map (field_alt_of f) l) (names_below base depth names) (attributes_at rec first count))) ss in
              subst (λ (f : Text → Option Text). Stand os n rest (given f (or_none (read_path true path))) cells') ge
              (subst (λ (l : List WrittenAlt). Stand os n rest (given find l) cells') e (t.says k.whole r os rest ss st has));
          size = t.size;
        };
        scratched = ri.scratched;
      }

-- ---- the fields of one selection, from field f on

fields-turn : (g : List FieldAlt → List Hit) (fs : List (List FieldAlt)) (cs : List tree.Cell) (f : ℕ) (hs : List Hit) → f < length fs → hs ≡ g (get_or fs f [])
    → hit_fields (f + 1) (map g (drop (f + 1) fs)) (hit_nth f hs cs) ≡ hit_fields f (map g (drop f fs)) cs
unfolding hit_fields
fields-turn g fs cs f hs h e =
    ap (λ (l : List Hit). hit_fields (f + 1) (map g (drop (f + 1) fs)) (hit_nth f l cs)) e
    ∙ ap (λ (k : ℕ). hit_fields k (map g (drop (f + 1) fs)) (hit_nth f (g (get_or fs f [])) cs)) (add-one f)
    ∙ ap (λ (l : List (List FieldAlt)). hit_fields f (map g l) cs) (sym (drop_more fs f [] h))

fields-end : (g : List FieldAlt → List Hit) (fs : List (List FieldAlt)) (cs : List tree.Cell) (f : ℕ) → length fs ≤ f → hit_fields f (map g (drop f fs)) cs ≡ cs
unfolding hit_fields
fields-end g fs cs f h = ap (λ (l : List (List FieldAlt)). hit_fields f (map g l) cs) (drop_of_length-le fs {i = f} h)

module _ (os : List OpenScope) (place : ℕ) (called : List Name) (give : Giving) where
  -- what a selection gives the fields: by the names below its element
  abbrev gives_to : Selection → List FieldAlt → List Hit
  gives_to s alts = give alts (drop s.depth called)

  -- a selection of that scope with its fields hit in turn, from field f on
  unfoldable pub fed_from : (f : ℕ) → Selection → Selection
  fed_from f s = cond (is_of os place s) (with_cells s (hit_fields f (map (gives_to s) (drop f s.scope.constraint.fields)) s.cells)) s

  fed-start : (s : Selection) → SelectionFit os s → fed_from 0 s ≡ fed_here os place called give s
  unfolding fed_from fed_here feed
  fed-start s k = by (is_of os place s)
    where
      by : (b : Bool) → cond b (with_cells s (hit_fields 0 (map (gives_to s) s.scope.constraint.fields) s.cells)) s ≡ cond b (feed called give s) s
      by true = ap (with_cells s) (fed-in-turn (gives_to s) s.scope.constraint.fields s.cells k.many)
      by false = refl

  module _ (o : OpenScope) (here : get_elem? os place ≡ some o) where
    -- a selection of the scope at that place has its constraint
    home-is : (s : Selection) → SelectionFit os s → is_of os place s ≡ true → s.scope.constraint.fields ≡ o.scope.constraint.fields
    home-is s k q =
        let e : place_of s.scope.number os ≡ place = eqb-true (place_of s.scope.number os) place q in
        let h : k.home ≡ o = some-injective k.home o (sym k.found ∙ ap (get_elem? os) e ∙ here) in
        ap (λ (x : Scope). x.constraint.fields) (sym k.scope) ∙ ap (λ (x : OpenScope). x.scope.constraint.fields) h

    has-field : (f : ℕ) → f < length o.scope.constraint.fields → (s : Selection) → SelectionFit os s → Has os place f s
    has-field f h s k q =
        let e = ap length (home-is s k q) in
        let m = k.many in
        omega arith

    fed-turn : (f : ℕ) (hits : ℕ → List Hit) → ((base : ℕ) → hits base ≡ give (get_or o.scope.constraint.fields f []) (drop base called)) → f < length o.scope.constraint.fields
        → (s : Selection) → SelectionFit os s → fed_from (f + 1) (hit_here os place f hits s) ≡ fed_from f s
    unfolding fed_from hit_here hit_field
    fed-turn f hits e h s k = by (is_of os place s) refl
      where
        by : (b : Bool) → is_of os place s ≡ b
            → fed_from (f + 1) (cond b (hit_field f (hits s.depth) s) s) ≡ cond b (with_cells s (hit_fields f (map (gives_to s) (drop f s.scope.constraint.fields)) s.cells)) s
        by true q =
            let w = home-is s k q in
            let l = ap length w in
            ap (λ (b : Bool). cond b (with_cells s (hit_fields (f + 1) (map (gives_to s) (drop (f + 1) s.scope.constraint.fields)) (hit_nth f (hits s.depth) s.cells))) (with_cells s (hit_nth f (hits s.depth) s.cells))) q
            ∙ ap (with_cells s)
            (fields-turn (gives_to s) s.scope.constraint.fields s.cells f (hits s.depth) (omega arith)
            (e s.depth ∙ ap (λ (l : List (List FieldAlt)). give (get_or l f []) (drop s.depth called)) (sym w)))
        by false q = ap (λ (b : Bool). cond b (with_cells s (hit_fields (f + 1) (map (gives_to s) (drop (f + 1) s.scope.constraint.fields)) s.cells)) s) q

    -- no selection has more than four fields
    fed-end : (f : ℕ) → min 4 (length o.scope.constraint.fields) ≤ f → (s : Selection) → SelectionFit os s → fed_from f s ≡ s
    unfolding fed_from
    fed-end f h s k = by (is_of os place s) refl
      where
        by : (b : Bool) → is_of os place s ≡ b → cond b (with_cells s (hit_fields f (map (gives_to s) (drop f s.scope.constraint.fields)) s.cells)) s ≡ s
        by true q =
            let w = ap length (home-is s k q) in
            let m = k.many in
            let l = k.few in
            ap (with_cells s) (fields-end (gives_to s) s.scope.constraint.fields s.cells f (omega arith))
        by false q = refl

-- ---- what the code reads of a constraint

module _ (names : Bytes) (depth : ℕ) (defs before rec : Bytes) (first count : ℕ) (d : Definitions) (called : List Name) (k : Known names depth defs before rec first count d called)
    (os : List OpenScope) (place constraint : ℕ) (o : OpenScope) (pl : Placed os place constraint d o) (own : Bytes) (oe : own ≡ joined (own_frames constraint (frames_in defs)))
    (p : Parts) (po : PartsOf own p) where
  defined : (c : Definition) × (get_elem? d.ids constraint ≡ some c)
  defined =
      let l = pl.fit.defined in
      let e = pl.number in
      get_elem-some d.ids constraint (omega arith)

  stands : constraint_at d constraint ≡ o.scope.constraint
  stands = ap (constraint_at d) (sym pl.number) ∙ pl.fit.known

  id-is : id_at own ≡ some defined.0.id
  id-is = ap id_at oe ∙ constraint-is defs d constraint defined.0 k.definitions defined.1

  pub count-is : p.count ≡ length o.scope.constraint.fields
  count-is = (po.says defined.0.id id-is).count ∙ sym (fields_at d constraint defined.0 defined.1) ∙ ap (λ (x : Constraint). length x.fields) stands

  pub many-are : length (texts_at own p.first p.count) ≡ length o.scope.constraint.fields
  many-are = ap length (po.says defined.0.id id-is).fields ∙ sym (fields_at d constraint defined.0 defined.1) ∙ ap (λ (x : Constraint). length x.fields) stands

  module _ (f : ℕ) (h : f < p.count) (path : Text) (pe : path ≡ get_or (texts_at own p.first p.count) f []) where
    within : f < length defined.0.id.fields
    within = let e = (po.says defined.0.id id-is).count in omega arith

    path-is : path ≡ get_or defined.0.id.fields f []
    path-is = pe ∙ ap (λ (l : List Text). get_or l f []) (po.says defined.0.id id-is).fields

    pub path-short : length path ≤ 255
    path-short = rw path-is (All-get_or (λ (t : Text). length t ≤ 255) defined.0.id.fields f [] (id-short own defined.0.id id-is).fields within)

    alts-are : bound own defs f (or_none (read_path true path)) ≡ get_or o.scope.constraint.fields f []
    alts-are =
        let e : f + 2 ≡ 2 + f = omega arith in
        ap (λ (m : ℕ). map (field_alt_of (uri_in own defs m)) (or_none (read_path true path))) e
        ∙ ap (λ (t : Text). map (field_alt_of (uri_in own defs (2 + f))) (or_none (read_path true t))) path-is
        ∙ ap (λ (x : Bytes). map (field_alt_of (uri_in x defs (2 + f))) (or_none (read_path true (get_or defined.0.id.fields f [])))) oe
        ∙ field_is defs d k.definitions constraint defined.0 defined.1 f within
        ∙ ap (λ (x : Constraint). get_or x.fields f []) stands

    pub hits-are : (base : ℕ) → path_hits own defs path names depth f rec first count base ≡ given_at rec first count (get_or o.scope.constraint.fields f []) (drop base called)
    hits-are base =
        ap (λ (l : List FieldAlt). attribute_hits l (names_below base depth names) (attributes_at rec first count)) alts-are
        ∙ ap (λ (l : List Name). attribute_hits (get_or o.scope.constraint.fields f []) l (attributes_at rec first count)) (names-below base depth names called k.named)

-- ---- the loop

pub record FieldsLeft (os : List OpenScope) (n place : ℕ) (called : List Name) (give : Giving) (rest : Bytes) (ss : List Selection) (f : ℕ) (cells : Bytes) : Type 0 where
  pub present : List Selection
  pub stand : Stand os n rest present cells
  pub same : map (fed_from os place called give f) present ≡ map (fed_here os place called give) ss

-- f fields have been hit
pub record FieldsFed (cells₀ : Bytes) (n place constraint : ℕ) (names : Bytes) (depth : ℕ) (defs before rec : Bytes) (first count : ℕ) (f : ℕ) (cells area : Bytes) : Type 0 where
  pub size : length cells ≡ length cells₀
  pub scratched : Scratched before area
  pub so_far : (d : Definitions) (called : List Name) → Known names depth defs before rec first count d called
      → (os : List OpenScope) (rest : Bytes) (ss : List Selection) → Stand os n rest ss cells₀ → (o : OpenScope) → Placed os place constraint d o
      → FieldsLeft os n place called (given_at rec first count) rest ss f cells

module _ (cells₀ : Bytes) (n place constraint : ℕ) (names : Bytes) (depth : ℕ) (defs before rec : Bytes) (first count : ℕ) where
  pub none-fed : FieldsFed cells₀ n place constraint names depth defs before rec first count 0 cells₀ before
  none-fed =
      record {
        size = refl;
        scratched = scratch-same before;
        so_far = λ d called k os rest ss st o pl.
            record {
              present = ss;
              stand = st;
              same = map-alike (SelectionFit os) (fed_from os place called (given_at rec first count) 0) (fed_here os place called (given_at rec first count))
                  (fed-start os place called (given_at rec first count)) ss st.fit;
            };
      }

  module _ (own : Bytes) (oe : own ≡ joined (own_frames constraint (frames_in defs))) (p : Parts) (po : PartsOf own p) (f : ℕ)
      (cells area : Bytes) (q : FieldsFed cells₀ n place constraint names depth defs before rec first count f cells area) where
    one-fed : f < 4 → f < length (texts_at own p.first p.count) → (path : Text) → path ≡ get_or (texts_at own p.first p.count) f [] → (cells' area' : Bytes)
        → TakesField cells n place f own path names depth defs area rec first count cells' area'
        → FieldsFed cells₀ n place constraint names depth defs before rec first count (f + 1) cells' area'
    one-fed few h path pe cells' area' t =
        record {
          size = t.hits.size ∙ q.size;
          scratched = scratch-then before area area' q.scratched t.scratched;
          so_far = λ d called k os rest ss st o pl.
              let give : Giving = given_at rec first count in
              let hits : ℕ → List Hit = path_hits own defs path names depth f rec first count in
              let l = q.so_far d called k os rest ss st o pl in
              let many = count-is names depth defs before rec first count d called k os place constraint o pl own oe p po in
              let texts = many-are names depth defs before rec first count d called k os place constraint o pl own oe p po in
              let fh : f < length o.scope.constraint.fields = omega arith in
              let r : f < p.count = omega arith in
              let room : 1024 ≤ length area = omega (arith, k.room, q.scratched.size) in
              let ready : Ready path area rec first count =
              record { short = path-short names depth defs before rec first count d called k os place constraint o pl own oe p po f r path pe; room = room; whole = k.whole } in
              record {
                present = map (hit_here os place f hits) l.present;
                stand = t.hits.says ready (omega arith) os rest l.present l.stand
                    (All-weaken (SelectionFit os) (Has os place f) (has-field os place called give o pl.here f fh) l.present l.stand.fit);
                same =
                    map-map (fed_from os place called give (f + 1)) (hit_here os place f hits) l.present
                    ∙ map-alike (SelectionFit os) (λ s. fed_from os place called give (f + 1) (hit_here os place f hits s)) (fed_from os place called give f)
                    (fed-turn os place called give o pl.here f hits (hits-are names depth defs before rec first count d called k os place constraint o pl own oe p po f r path pe) fh)
                    l.present l.stand.fit
                    ∙ l.same;
              };
        }

    all-fed : min 4 (length (texts_at own p.first p.count)) ≤ f → TakesScope cells₀ n place constraint names depth defs before rec first count cells area
    all-fed h =
        record {
          says = λ d called k os rest ss st o pl.
              let give : Giving = given_at rec first count in
              let l = q.so_far d called k os rest ss st o pl in
              let many = many-are names depth defs before rec first count d called k os place constraint o pl own oe p po in
              let e : l.present ≡ map (fed_here os place called give) ss =
              sym (map-id l.present)
              ∙ sym (map-alike (SelectionFit os) (fed_from os place called give f) (λ s. s) (fed-end os place called give o pl.here f (omega arith)) l.present l.stand.fit)
              ∙ l.same in
              subst (λ (z : List Selection). Stand os n rest z cells) e l.stand;
          scratched = q.scratched;
          size = q.size;
        }

-- f fields have been hit, and the texts of the others are to come, four in all at most
pub record FieldsWalked (cells₀ : Bytes) (n place constraint : ℕ) (names : Bytes) (depth : ℕ) (defs before rec : Bytes) (first count : ℕ) (own : Bytes) (p : Parts)
    (f left : ℕ) (texts : List Text) (cells area : Bytes) : Type 0 where
  pub counted : f + left ≡ 4
  pub behind : texts ≡ drop f (texts_at own p.first p.count)
  pub fed : FieldsFed cells₀ n place constraint names depth defs before rec first count f cells area

module _ (cells₀ : Bytes) (n place constraint : ℕ) (names : Bytes) (depth : ℕ) (defs before rec : Bytes) (first count : ℕ) (own : Bytes) (p : Parts)
    (f left : ℕ) (texts : List Text) where
  pub walk-first : f ≡ 0 → left ≡ 4 → texts ≡ texts_at own p.first p.count
      → FieldsWalked cells₀ n place constraint names depth defs before rec first count own p f left texts cells₀ before
  walk-first z four e =
      record {
        counted = omega arith;
        behind = e ∙ ap (λ (i : ℕ). drop i (texts_at own p.first p.count)) (sym z);
        fed = subst (λ (i : ℕ). FieldsFed cells₀ n place constraint names depth defs before rec first count i cells₀ before) (sym z)
            (none-fed cells₀ n place constraint names depth defs before rec first count);
      }

  module _ (cells area : Bytes) (q : FieldsWalked cells₀ n place constraint names depth defs before rec first count own p f left texts cells area)
      (oe : own ≡ joined (own_frames constraint (frames_in defs))) (po : PartsOf own p) where
    pub walk-on : (path : Text) (texts' : List Text) → texts ≡ path ∷ texts' → (left' : ℕ) → left' + 1 ≡ left → (i : ℕ) → i ≡ f → (f' : ℕ) → f' ≡ f + 1
        → (cells' area' : Bytes) → TakesField cells n place i own path names depth defs area rec first count cells' area'
        → FieldsWalked cells₀ n place constraint names depth defs before rec first count own p f' left' texts' cells' area'
    walk-on path texts' e left' le i ie f' fe cells' area' t =
        let l : List Text = texts_at own p.first p.count in
        let a : length (path ∷ texts') ≡ length (drop f l) = ap length (sym e ∙ q.behind) in
        let c = q.counted in
        let there : f < length l = omega (arith, length-drop f l) in
        let s : drop f l ≡ get_or l f [] ∷ drop (f + 1) l = drop_more l f [] there in
        let both : path ∷ texts' ≡ get_or l f [] ∷ drop (f + 1) l = sym e ∙ q.behind ∙ s in
        let pe : path ≡ get_or l f [] = cc in
        let re : texts' ≡ drop (f + 1) l = cc in
        record {
          counted = omega arith;
          behind = re ∙ ap (λ (j : ℕ). drop j l) (sym fe);
          fed = subst (λ (j : ℕ). FieldsFed cells₀ n place constraint names depth defs before rec first count j cells' area') (sym fe)
              (one-fed cells₀ n place constraint names depth defs before rec first count own oe p po f cells area q.fed (omega arith) there path pe cells' area'
              (subst (λ (j : ℕ). TakesField cells n place j own path names depth defs area rec first count cells' area') ie t));
        }

    pub walk-end : (0 < left → texts ≡ []) → TakesScope cells₀ n place constraint names depth defs before rec first count cells area
    walk-end h = all-fed cells₀ n place constraint names depth defs before rec first count own oe p po f cells area q.fed (enough left q.counted h)
      where
        enough : (m : ℕ) → f + m ≡ 4 → (0 < m → texts ≡ []) → min 4 (length (texts_at own p.first p.count)) ≤ f
        enough zero z k = omega arith
        enough (suc m) z k =
            let l : List Text = texts_at own p.first p.count in
            let a : length (drop f l) ≡ 0 = ap length (sym q.behind ∙ k (omega arith)) in
            omega (arith, length-drop f l)
