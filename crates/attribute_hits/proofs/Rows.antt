-- ONE ATTRIBUTE. The numbers of a row are those of the selections, one for each; so the selections that stand in the area become those that took so many hits.
-- Assumes nothing.
use Prim.Native.Nat.{ℕ, min, ◌*◌, ◌≤◌, ◌<◌}
use native.Mathlib.Omega.{arith}
use borrow.Author.Tests.{lt-ltb}
use lib.Dec.{eqb}
use lib.ListN.{length, take, replicate, get_or, get_elem?, length-take, length-map, get_or-replicate}
use lib.Seq.{get_or-take, ext_get_or}
use mathlib.Core.Path.{◌≡◌, refl, ap, sym, ◌∙◌, subst}
use mathlib.Core.Bool.{Bool, cond, ◌&&◌}
use mathlib.Core.List.{List, ◌++◌, map, flat_map}
use mathlib.Core.Option.{some}
use Rattle.lists.proofs.Folds.{All-weaken, map-alike}
use Rattle.lists.proofs.Places.{All-of, get_elem-some, map_found}
use Rattle.texts.specs.Texts.{Text}
use Rattle.paths.specs.Reading.{every}
use Rattle.tree.specs.Cells.{Hit, element_hit}
use Rattle.machine.specs.Machine.{OpenScope, Selection}
use Rattle.records.specs.Readers.{Bytes}
use Rattle.session_spec.specs.Layout.{parts, put_selection, selection_in}
use Rattle.session_laws.proofs.Areas.{SelectionFit, selections-back}
use Rattle.session_laws.proofs.OpenSelections.{HitFit}
use Rattle.cells.specs.Cells.{hit_of, depth_at, scope_at, hit_selections, hit_each, hit_field}
use Rattle.cells.proofs.Machine.{Counted, selections-hit, hit-fits}
use Rattle.cells.proofs.Chunks.{length-selections}
use Rattle.reaching.specs.Rows.{picked, RowOf}
use Rattle.reaching.proofs.Selected.{depth_is, scope-is}
use Rattle.attribute_hits.specs.Steps.{Stand, is_of, Has, hit_here, TakesHits}
use Rattle.attribute_hits.proofs.Hits.{each_map, counted-map, count_of, count-here, count_none}
use Rattle.lists.specs.Lists.{All}

-- the first 126 bytes of a key fit
hit-of-fit : (key : Text) → HitFit (hit_of 1 key)
unfolding hit_of element_hit
hit-of-fit key = omega (arith, length-take 126 key)

module _ (os : List OpenScope) (n : ℕ) (rest : Bytes) (ss : List Selection) (cells : Bytes) (st : Stand os n rest ss cells) where
  pub read_again : every (selection_in os) (parts 512 (length ss) cells) ≡ some ss
  read_again = subst (λ (z : Bytes). every (selection_in os) (parts 512 (length ss) z) ≡ some ss) (sym st.bytes) (selections-back os ss rest st.fit)

  module _ (place field : ℕ) (reached : ℕ → ℕ) (counts : Bytes) (row : RowOf reached place n cells (replicate 32 0) counts) (h : Hit) where
    number : (j : ℕ) (s : Selection) → get_elem? ss j ≡ some s → j < n → get_or counts j 0 ≡ count_of os place field h reached s
    unfolding picked
    number j s g l =
        let few : n ≤ 32 = st.few in
        let t = lt-ltb j (min 32 n) (omega arith) in
        row.each j (omega arith)
        ∙ ap (λ (b : Bool). cond (b && eqb (scope_at cells (512 * j)) place) (reached (depth_at cells (512 * j))) (get_or (replicate 32 0) j 0)) t
        ∙ ap (λ (k : ℕ). cond (eqb k place) (reached (depth_at cells (512 * j))) (get_or (replicate 32 0) j 0)) (scope-is os ss cells read_again st.fit j s g)
        ∙ ap (λ (k : ℕ). cond (is_of os place s) (reached k) (get_or (replicate 32 0) j 0)) (depth_is os ss cells read_again st.fit j s g)
        ∙ ap (λ (k : ℕ). cond (is_of os place s) (reached s.depth) k) (get_or-replicate 32 j 0 0 (omega arith))

    numbers : take n counts ≡ map (count_of os place field h reached) ss
    numbers =
        let few : n ≤ 32 = st.few in
        let many : n ≡ length ss = st.many in
        let same : length counts ≡ 32 = row.same in
        let lt : length (take n counts) ≡ n = length-take n counts ∙ omega arith in
        let lm : length (map (count_of os place field h reached) ss) ≡ length ss = length-map ss (count_of os place field h reached) in
        ext_get_or 0 (take n counts) (map (count_of os place field h reached) ss) (lt ∙ many ∙ sym lm)
        (λ j l.
        let p = get_elem-some ss j (omega arith) in
        get_or-take n counts j 0 (omega arith)
        ∙ number j p.0 p.1 (omega arith)
        ∙ sym (map_found (count_of os place field h reached) ss j p.0 0 p.1))

    -- THE SELECTIONS after the hits
    stand-hit : HitFit h → field < 4 → All (Has os place field) ss → (cells' : Bytes) → cells' ≡ hit_selections h field (take n counts) cells
        → Stand os n rest (map (hit_here os place field (λ d. replicate (reached d) h)) ss) cells'
    stand-hit f r has cells' e =
        let count : Selection → ℕ = count_of os place field h reached in
        let c : Counted field (map count ss) ss =
        counted-map field count ss (All-weaken (Has os place field) (λ (s : Selection). length s.cells ≤ field → count s ≡ 0) (count_none os place field h reached) ss has) in
        let m : hit_each h field (map count ss) ss ≡ map (hit_here os place field (λ d. replicate (reached d) h)) ss =
        each_map h field count ss
        ∙ map-alike (λ (s : Selection). Unit {0}) (λ s. hit_field field (replicate (count s) h) s) (hit_here os place field (λ d. replicate (reached d) h))
        (λ s u. count-here os place field h reached s) ss (All-of (λ (s : Selection). Unit {0}) (λ s. tt) ss) in
        record {
          bytes =
              e
              ∙ ap (λ (l : Bytes). hit_selections h field l cells) numbers
              ∙ ap (hit_selections h field (map count ss)) st.bytes
              ∙ selections-hit os h f field r (map count ss) ss rest st.fit c
              ∙ ap (λ (l : List Selection). flat_map (put_selection os) l ++ rest) m;
          many = st.many ∙ sym (length-map ss (hit_here os place field (λ d. replicate (reached d) h)));
          few = st.few;
          fit = subst (λ (l : List Selection). All (SelectionFit os) l) m (hit-fits os h f field r (map count ss) ss st.fit);
        }

-- ONE ATTRIBUTE: what a row and the hits by it leave
pub one-taken : (n place field : ℕ) (reached : ℕ → ℕ) (cells counts cells' : Bytes) (key : Text) → RowOf reached place n cells (replicate 32 0) counts
    → cells' ≡ hit_selections (hit_of 1 key) field (take n counts) cells
    → TakesHits (Unit {0}) n place field (λ base. replicate (reached base) (hit_of 1 key)) cells cells'
one-taken n place field reached cells counts cells' key row e =
    record {
      says = λ u r os rest ss st has. stand-hit os n rest ss cells st place field reached counts row (hit_of 1 key) (hit-of-fit key) r has cells' e;
      size = ap length e ∙ length-selections (hit_of 1 key) field (take n counts) cells;
    }

-- a field that no selection can have
pub no_field : (known : Type 0) (n place field : ℕ) (hits : ℕ → List Hit) (cells : Bytes) → 4 ≤ field → TakesHits known n place field hits cells cells
no_field known n place field hits cells l = record { says = λ k r os rest ss st has. absurd (omega arith); size = refl }
