-- What the code finds of a session that decodes, at the end of an element: the counts, the open scopes and selections in the areas, which selections finish, and
-- what they put out. Those that finish come behind those that stay open, so one place parts them.
-- Assumes nothing.
use Prim.Native.Nat.{ℕ, zero, suc, min, ◌+◌, ◌*◌, ◌%◌, ◌≤◌}
use native.Mathlib.Nat.{zero-add}
use native.Mathlib.Omega.{arith}
use borrow.Author.Tests.{eqb-true, eqb-false, not-true}
use lib.Dec.{eqb}
use lib.ListN.{length, take, drop, get_elem?, length-map, length-append, length-take, take-append-drop}
use lib.Seq.{take-append_seam, drop-append_seam}
use mathlib.Core.Path.{◌≡◌, refl, ap, sym, ◌∙◌, subst}
use mathlib.Core.Bool.{true, not}
use mathlib.Core.List.{List, [], ◌∷◌, ◌++◌, map, flat_map, append_assoc}
use mathlib.Core.Option.{some}
use Rattle.std.proofs.lemmas.List.{take-map}
use Rattle.lists.specs.Lists.{over, All}
use Rattle.lists.proofs.Lists.{flat_map-append}
use Rattle.lists.proofs.Folds.{All-weaken}
use Rattle.lists.proofs.Places.{All-of, All-mapped, All-take, All-passing, length-passing, found-within}
use Rattle.texts.specs.Texts.{Text}
use Rattle.paths.specs.Reading.{every}
use Rattle.machine.specs.Machine.{OpenScope, Selection, State, end_gives, feed}
use Rattle.records.specs.Readers.{Bytes}
use Rattle.records.specs.Records.{EE, EeRecord, parsed, parse}
use Rattle.session_spec.specs.Layout.{Counts, pack, parts, name_in, put_scope, put_selection, selection_in}
use Rattle.session_spec.specs.Session.{World, Session, end_of, counts_of}
use Rattle.session_laws.proofs.Areas.{SelectionFit, selections-back, selections-length}
use Rattle.session_laws.proofs.Constraints.{ConstraintFit}
use Rattle.session_laws.proofs.OpenScopes.{OpenFit, all_closed}
use Rattle.session_laws.proofs.OpenSelections.{OpenSelection, feed-fit, element-hits}
use Rattle.session_laws.proofs.States.{parted, gone}
use Rattle.session_laws.proofs.Holds.{Holds, defs-read}
use Rattle.cells.specs.Cells.{depth_at}
use Rattle.cells.proofs.Machine.{area-is}
use Rattle.open_scopes.specs.declared.Scope.{Scope}
use Rattle.open_scopes.specs.declared.Scopes.{Scopes}
use Rattle.open_scopes.specs.declared.Counts as code
use Rattle.open_scopes.specs.OpenScopes.{record_of, open_of, records_of}
use Rattle.open_scopes.specs.Counting.{as_counts, packed}
use Rattle.open_scopes.proofs.Counting.{packed-few}
use Rattle.reaching.proofs.Selected.{depth_is}
use Rattle.element_hits.specs.ElementHits.{hits_of, hits_at, Described, HitsOf}
use Rattle.runs.proofs.TwoPass.{adds_all}
use Rattle.plans.specs.Plans.{fed, staying, ending, end_adds, scopes_left, end_counts}
use Rattle.plans.proofs.Ending as plan
use Rattle.tuple_marks.specs.Marks.{AllMarked}
use Rattle.settlements.specs.Ending.{Ended, fed_by, finished, Finishing, TuplesIn, all_add}
use Rattle.end_writes.specs.Staying.{deep_from, first_deep, Reached, HitsStaying}
use Rattle.end_writes.proofs.Deep.{deep_is}
use Rattle.event_answers.specs.Ending.{left_open, ended_counts}
use Rattle.ending.proofs.Closing.{left_is, apart}
use Rattle.session_laws.proofs.Limits.{read_short}

-- ---- lists

module _ {A B : Type 0} (f : A → B) where
  found_map : (l : List A) (i : ℕ) (b : B) → get_elem? (map f l) i ≡ some b → (a : A) × (get_elem? l i ≡ some a) × (f a ≡ b)
  found_map [] i b e = let z : ◌≡◌ {A = ℕ} 0 1 = cc in absurd (omega arith)
  found_map (x ∷ l) zero b e = (x, refl, cc)
  found_map (x ∷ l) (suc i) b e = found_map l i b e

module _ {A : Type 0} where
  found_take : (n : ℕ) (l : List A) (i : ℕ) (a : A) → get_elem? (take n l) i ≡ some a → get_elem? l i ≡ some a
  found_take zero l i a e = let z : ◌≡◌ {A = ℕ} 0 1 = cc in absurd (omega arith)
  found_take (suc n) [] i a e = e
  found_take (suc n) (x ∷ l) zero a e = e
  found_take (suc n) (x ∷ l) (suc i) a e = found_take n l i a e

-- ---- a session

module _ (w : World) (s : Session) (r : EeRecord) (bs : Bytes) (h : Holds w s) (says : parse bs ≡ parsed (EE r)) where
  abbrev st : State
  st = s.state

  abbrev deep : ℕ
  deep = length st.names

  -- what is known when the element ends
  abbrev pub known : Ended
  known =
      record { defs = s.defs; scopes = st.scopes; selections = st.selections; names = st.names; end = end_of r; tuples = st.out.tuples }

  -- the place of the first selection that finishes
  abbrev pub front : ℕ
  front = length (staying s r)

  fed-split : fed s r ≡ staying s r ++ ending s r
  fed-split = (plan.parts w s r bs h says).0

  fits : All (SelectionFit st.scopes) st.selections
  fits = All-weaken (OpenSelection st.scopes deep) (SelectionFit st.scopes) (λ x f. f.fit) st.selections h.fine.selections

  -- ---- those that finish, and those that stay open

  finished-is : finished known front ≡ ending s r
  unfolding finished fed
  finished-is = ap (drop front) fed-split ∙ drop-append_seam (staying s r) (ending s r)

  staying-is : map (fed_by known) (take front st.selections) ≡ staying s r
  unfolding fed
  staying-is = sym (take-map (fed_by known) front st.selections) ∙ ap (take front) fed-split ∙ take-append_seam (staying s r) (ending s r)

  pub adds-are : (first e : ℕ) → first ≡ front → e ≡ suc st.events → all_add known first e ≡ end_adds s r
  unfolding end_adds
  adds-are first e p q =
      ap (λ (k : ℕ). all_add known k e) p
      ∙ ap (λ (k : ℕ). adds_all st.out.tuples k (finished known front)) q
      ∙ ap (adds_all st.out.tuples (suc st.events)) finished-is

  many : length (staying s r ++ ending s r) ≡ length st.selections
  unfolding fed
  many = ap length (sym fed-split) ∙ length-map st.selections (feed st.names (end_gives (end_of r)))

  pub front-few : front ≤ length st.selections
  front-few = omega (arith, many, length-append (staying s r) (ending s r))

  fed-depth : (i : ℕ) (x : Selection) → get_elem? (staying s r ++ ending s r) i ≡ some x → depth_at w.cells (512 * (0 + i)) ≡ x.depth
  unfolding fed feed
  fed-depth i x g =
      let m = found_map (fed_by known) st.selections i x (ap (λ (l : List Selection). get_elem? l i) fed-split ∙ g) in
      ap (λ (k : ℕ). depth_at w.cells (512 * k)) (zero-add i)
      ∙ depth_is st.scopes st.selections w.cells h.cells fits i m.0 m.1
      ∙ ap (λ (y : Selection). y.depth) m.2

  others : All (λ (x : Selection). x.depth ≡ deep → ⊥) (staying s r)
  unfolding staying
  others =
      All-weaken (λ (x : Selection). Unit {0} × (not (eqb x.depth deep) ≡ true)) (λ (x : Selection). x.depth ≡ deep → ⊥)
      (λ x k. eqb-false x.depth deep (not-true (eqb x.depth deep) k.1)) (staying s r)
      (All-passing (λ (x : Selection). Unit {0}) (λ (x : Selection). not (eqb x.depth deep)) (fed s r) (All-of (λ (x : Selection). Unit {0}) (λ x. tt) (fed s r)))

  own : All (λ (x : Selection). x.depth ≡ deep) (ending s r)
  unfolding ending
  own =
      All-weaken (λ (x : Selection). Unit {0} × (eqb x.depth deep ≡ true)) (λ (x : Selection). x.depth ≡ deep)
      (λ x k. eqb-true x.depth deep k.1) (ending s r)
      (All-passing (λ (x : Selection). Unit {0}) (λ (x : Selection). eqb x.depth deep) (fed s r) (All-of (λ (x : Selection). Unit {0}) (λ x. tt) (fed s r)))

  pub first-is : (n d : ℕ) → n ≡ length st.selections → d ≡ deep → first_deep w.cells n d ≡ front
  unfolding first_deep
  first-is n d p q =
      let m : min 32 n ≡ length (staying s r ++ ending s r) = omega (arith, many, h.fine.selections_few) in
      ap (λ (k : ℕ). deep_from w.cells 0 k d) m
      ∙ ap (deep_from w.cells 0 (length (staying s r ++ ending s r))) q
      ∙ deep_is w.cells deep 0 (staying s r) (ending s r) fed-depth others own
      ∙ zero-add front

  -- ---- the tuples so far

  pub tuples-in : (marks : List ℕ) → AllMarked marks (take w.tuples w.tuple_store) → TuplesIn known (take w.tuples w.tuple_store) marks
  tuples-in marks marked =
      record { tus = h.tus; read = h.tuples.read; same = h.tus_are; few = omega (arith, h.fine.few, h.early); marked = marked }

  -- ---- with the counts, the scopes and the parsed-path area as the code has them

  module _ (c : code.Counts) (u : as_counts c ≡ counts_of s) (list : List Scope) (l : w.scopes ≡ map record_of list) (d : ℕ) (v : d ≡ deep) where
    abbrev pub scopes_now : Scopes
    scopes_now = record { list = list; n = c.scopes }

    count-scopes : c.scopes ≡ length st.scopes
    unfolding counts_of
    count-scopes = ap (λ (x : Counts). x.scopes) u

    pub count-selections : c.selections ≡ length st.selections
    unfolding counts_of
    count-selections = ap (λ (x : Counts). x.selections) u

    count-opened : c.opened ≡ st.count
    unfolding counts_of
    count-opened = ap (λ (x : Counts). x.opened) u

    records : records_of scopes_now ≡ map put_scope st.scopes
    unfolding records_of open_of
    records =
        sym (take-map record_of c.scopes list)
        ∙ ap (λ (k : ℕ). take k (map record_of list)) count-scopes
        ∙ ap (take (length st.scopes)) (sym l)
        ∙ h.scopes

    constraints-known : All (λ (o : OpenScope). ConstraintFit s.defs o.scope.constraint) st.scopes
    constraints-known =
        All-weaken (OpenFit s.defs st.count deep) (λ (o : OpenScope). ConstraintFit s.defs o.scope.constraint) (λ o f. f.scope.constraint) st.scopes h.fine.scopes

    selected : every (selection_in st.scopes) (parts 512 c.selections w.cells) ≡ some st.selections
    selected = ap (λ (k : ℕ). every (selection_in st.scopes) (parts 512 k w.cells)) count-selections ∙ h.cells

    -- ---- the counts after the end

    scopes-left : left_open d (open_of scopes_now) ≡ length (scopes_left s)
    unfolding scopes_left
    scopes-left =
        ap (λ (k : ℕ). left_open k (open_of scopes_now)) v
        ∙ left_is deep (open_of scopes_now) (scopes_left s) (gone s.defs st h.fine (end_of r) (read_short r bs says))
        (unfold records_of in (records ∙ ap (map put_scope) (parted s.defs st h.fine (end_of r) (read_short r bs says))))
        (apart deep st.scopes) (all_closed deep st.scopes)

    pub counts-then : (first : ℕ) → first ≡ front → packed (ended_counts c d (open_of scopes_now) first) ≡ pack (end_counts s r)
    unfolding end_counts
    counts-then first p =
        let left : length (scopes_left s) ≤ length st.scopes = unfold scopes_left in length-passing (λ (o : OpenScope). not (eqb o.depth deep)) st.scopes in
        let a : left_open d (open_of scopes_now) % 32 ≡ length (scopes_left s) = omega (arith, scopes-left, h.fine.scopes_few) in
        let b : first % 64 ≡ front = omega (arith, front-few, h.fine.selections_few) in
        sym (packed-few (ended_counts c d (open_of scopes_now) first) (omega (arith, count-opened, h.fine.opened, h.early)))
        ∙ (λ j. pack (record { stage = v j; scopes = a j; selections = b j; opened = count-opened j }))

    module _ (paths : Bytes) (size : 1024 ≤ length paths) where
      pub described : Described w.cells c.selections scopes_now w.names d (take w.definitions w.definition_store) paths s.defs st.names st.scopes st.selections
      described =
          record {
            defined = defs-read w s h;
            named = ap (λ (k : ℕ). every name_in (parts 514 k w.names)) v ∙ h.names;
            opened = records;
            known = constraints-known;
            many = count-selections;
            selected = selected;
            fit = fits;
            room = omega arith;
          }

      module _ (hits after : Bytes) (o : HitsOf w.cells c.selections scopes_now w.names d (take w.definitions w.definition_store) paths hits after) where
        reached : Reached st.names hits st.selections
        unfolding hits_at hits_of
        reached f j x k g =
            o.says s.defs st.names st.scopes st.selections described f j k (omega (arith, found-within st.selections j x g, h.fine.selections_few))
            ∙ ap (hits_of st.names f) g

        module _ (byte : ℕ) (p : byte ≡ r.simple) (text : Text) (q : text ≡ r.key) where
          key-short : length text ≤ 126
          unfolding end_of
          key-short = subst (λ (t : Text). length t ≤ 126) (sym q) (read_short r bs says)

          pub finishing : (first : ℕ) → Finishing known w.cells first c.selections hits byte text scopes_now (take w.definitions w.definition_store)
          unfolding end_of
          finishing first =
              record {
                scopes_in = record { defined = defs-read w s h; same = records; known = constraints-known };
                end_is = record { simple = p; text = q; short = key-short };
                many = sym count-selections;
                few = omega (arith, count-selections, h.fine.selections_few);
                read = selected;
                fit = fits;
                counted = λ j x k g f m. reached f j x m g;
              }

          -- ---- the area of cells

          abbrev before : List Selection
          before = take front st.selections

          area-split : w.cells
              ≡ flat_map (put_selection st.scopes) before
              ++ (flat_map (put_selection st.scopes) (drop front st.selections) ++ drop (512 * length st.selections) w.cells)
          area-split =
              let rest : Bytes = drop (512 * length st.selections) w.cells in
              area-is st.scopes st.selections w.cells h.cells
              ∙ ap (λ (l : List Selection). flat_map (put_selection st.scopes) l ++ rest) (sym (take-append-drop front st.selections))
              ∙ ap (λ (l : Bytes). l ++ rest) (flat_map-append (put_selection st.scopes) before (drop front st.selections))
              ∙ append_assoc (flat_map (put_selection st.scopes) before) (flat_map (put_selection st.scopes) (drop front st.selections)) rest

          before-fit : All (SelectionFit st.scopes) before
          before-fit = All-take (SelectionFit st.scopes) front st.selections fits

          before-read : every (selection_in st.scopes) (parts 512 (length before) w.cells) ≡ some before
          before-read =
              ap (λ (b : Bytes). every (selection_in st.scopes) (parts 512 (length before) b)) area-split
              ∙ selections-back st.scopes before (flat_map (put_selection st.scopes) (drop front st.selections) ++ drop (512 * length st.selections) w.cells) before-fit

          staying-fit : All (SelectionFit st.scopes) (staying s r)
          staying-fit =
              subst (All (SelectionFit st.scopes)) staying-is
              (All-mapped (SelectionFit st.scopes) (OpenSelection st.scopes deep) (fed_by known)
              (λ x f.
              let hits = element-hits (end_of r) (read_short r bs says) in
              (feed-fit st.scopes deep st.names (end_gives (end_of r)) hits x f).fit) before
              (All-take (OpenSelection st.scopes deep) front st.selections h.fine.selections))

          pub cells-then : (first : ℕ) → first ≡ front → (cells' : Bytes) → HitsStaying w.cells first hits byte text cells'
              → cells' ≡ over w.cells 0 (flat_map (put_selection st.scopes) (staying s r))
          unfolding end_of
          cells-then first e cells' k =
              let n : length before ≡ front = length-take front st.selections ∙ omega (arith, front-few) in
              let z : 512 * first ≡ 0 + length (flat_map (put_selection st.scopes) (staying s r)) = omega (arith, selections-length st.scopes (staying s r) staying-fit) in
              k.says st.scopes before st.names (end_of r) (record { simple = p; text = q; short = key-short }) before-read before-fit (n ∙ sym e)
              (omega (arith, front-few, h.fine.selections_few)) o.sized (λ f j x m g. reached f j x m (found_take front st.selections j x g))
              ∙ ap (λ (l : List Selection). flat_map (put_selection st.scopes) l ++ drop (512 * first) w.cells) staying-is
              ∙ ap (λ (m : ℕ). flat_map (put_selection st.scopes) (staying s r) ++ drop m w.cells) z
