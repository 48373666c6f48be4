-- A RECORD THAT WAS TAKEN: the places that the code reads off the bytes are those of the selections that it finished and of the TUs and reports that it
-- brought, so the totals grow by what it brings. Selections finish from the last one on and keep their bytes; what is new stands behind what was used.
-- Assumes nothing.
use Prim.Native.Nat.{ℕ, zero, suc, ◌+◌, ◌-◌, ◌*◌, ◌/◌, ◌≤◌, ◌<◌}
use native.Mathlib.Omega.{arith}
use lib.Dec.{eqb}
use lib.ListN.{length, take, drop, get_or, length-append, length-map, drop_of_length-le}
use lib.Seq.{drop-cons, drop-append_seam}
use mathlib.Core.Path.{◌≡◌, refl, ap, ap₂, sym, ◌∙◌}
use mathlib.Core.Bool.{Bool, true, false≢true}
use mathlib.Core.List.{List, [], ◌∷◌, ◌++◌, map, flat_map, map-append, map-map, append-nil}
use mathlib.Core.Option.{Option, none, some}
use Rattle.std.proofs.lemmas.List.{take-map}
use Rattle.lists.specs.Lists.{passing, part, All}
use Rattle.lists.proofs.Folds.{All-weaken, passing-map}
use Rattle.lists.proofs.Places.{get_elem-some, All-get_elem, map_found, alike_at}
use Rattle.lists.proofs.Writes.{part-over, drop-over}
use Rattle.paths.specs.Names.{Name}
use Rattle.paths.specs.Reading.{every}
use Rattle.tree.specs.Events as tree
use Rattle.tree.specs.Judge.{Tuple, Report}
use Rattle.machine.specs.Machine.{OpenScope, Selection, State, end_gives, feed, start_a, end_open, end_if, end_a, finish_a}
use Rattle.records.specs.Readers.{Bytes}
use Rattle.records.specs.Refusals.{Refusal, first_of}
use Rattle.records.specs.Records.{EeRecord, Rec, ID, NS, ES, EE, FI, Parsed, unparsed, parsed, parse}
use Rattle.session_spec.specs.Definitions.{frame}
use Rattle.session_spec.specs.Layout.{TuRecord, tu_of, put_tu, put_rp, parts, ScopeRecord, put_scope, place_of, put_selection, selection_in, Counts, unpack}
use Rattle.session_spec.specs.Session.{World, Session, decode, start_of, end_of, tick, next, new_tuples, new_reports, tuple_bytes, report_bytes, is_unbalanced, rows, counts_of, patch, Reply, taken, refused, settled, considered, attempt, step}
use Rattle.session_spec.specs.Runs.{event_of}
use Rattle.session_laws.proofs.Areas.{SelectionFit, selections-length, selection-at}
use Rattle.session_laws.proofs.Stores.{tuples-back, rp-length, reports-size}
use Rattle.session_laws.proofs.OpenSelections.{OpenSelection}
use Rattle.session_laws.proofs.Holds.{Holds, counts-back}
use Rattle.session_laws.proofs.Patched.{Follows, patched}
use Rattle.session_laws.proofs.Follows.{cleared, follows}
use Rattle.runs.proofs.WellFormed.{well-formed}
use Rattle.plans.specs.Plans.{fed, staying, ending}
use Rattle.plans.proofs.Ending as plans
use Rattle.cells.specs.Cells.{scope_at}
use Rattle.cells.proofs.Selections.{scope-here}
use Rattle.output_stores.specs.Stores.{standing}
use Rattle.tuple_search.proofs.Found.{Each, TuIn, tuple-standing}
use Rattle.open_scopes.specs.declared.Scope.{Scope}
use Rattle.open_scopes.specs.declared.Numbers.{Numbers}
use Rattle.open_scopes.specs.OpenScopes.{blank_scope, record_of, open_of}
use Rattle.worlds.specs.Worlds.{world_of}
use Rattle.totals.specs.Counts.{tuples_of, reports_of, times, finishing}
use Rattle.totals.specs.Totals.{Total, Totals, totals_fit, finished_by, brings, sum_up_to, grown_from, grown_by}
use Rattle.counting.specs.Places.{raised_all, finished_places, tuple_places, report_places, places_of}
use Rattle.counting.proofs.Sums.{places_for, raised-grown}
use Rattle.counting.proofs.Raising.{finished-end}

-- ---- TUs and reports

each-place : (fs : List Bytes) (ts : List TuRecord) → Each TuIn fs ts → map (λ f. 3 * get_or f 4 0 + 1) fs ≡ map (λ c. 3 * c + 1) (map (λ t. t.constraint) ts)
each-place [] [] e = refl
each-place [] (t ∷ ts) e = absurd e
each-place (f ∷ fs) [] e = absurd e
each-place (f ∷ fs) (t ∷ ts) e = ap₂ {C = List ℕ} ◌∷◌ (ap (λ (c : ℕ). 3 * c + 1) e.0.constraint) (each-place fs ts e.1)

tuples-placed : (ts : List Tuple) → tuple_places (flat_map put_tu ts) ≡ map (λ c. 3 * c + 1) (map (λ t. t.constraint.number) ts)
unfolding tuple_places tu_of
tuples-placed ts =
    each-place (standing frame (flat_map put_tu ts)) (map tu_of ts) (tuple-standing (flat_map put_tu ts) (map tu_of ts) (tuples-back ts))
    ∙ ap (map (λ c. 3 * c + 1)) (map-map (λ (t : TuRecord). t.constraint) tu_of ts)

parts_are : (rs : List Report) → parts 18 (length rs) (flat_map put_rp rs) ≡ map put_rp rs
unfolding parts flat_map
parts_are [] = refl
parts_are (r ∷ rs) =
    ap₂ {C = List Bytes} ◌∷◌ (lib.Seq.take_at (put_rp r) (flat_map put_rp rs) 18 (rp-length r))
    (ap (parts 18 (length rs)) (lib.Seq.drop_at (put_rp r) (flat_map put_rp rs) 18 (rp-length r)) ∙ parts_are rs)

reports-placed : (rs : List Report) → report_places (flat_map put_rp rs) ≡ map (λ c. 3 * c + 2) (map (λ r. r.constraint) rs)
unfolding report_places
reports-placed rs =
    let n : length (flat_map put_rp rs) / 18 ≡ length rs = omega (arith, reports-size rs) in
    ap (λ (k : ℕ). map (λ (f : Bytes). 3 * get_or f 3 0 + 2) (parts 18 k (flat_map put_rp rs))) n
    ∙ ap (map (λ (f : Bytes). 3 * get_or f 3 0 + 2)) (parts_are rs)
    ∙ map-map (λ (f : Bytes). 3 * get_or f 3 0 + 2) put_rp rs
    ∙ (unfold put_rp in sym (map-map (λ (c : ℕ). 3 * c + 2) (λ (r : Report). r.constraint) rs))

-- how often a constraint's number is there
times-of : {A : Type 0} (number : A → ℕ) (k : ℕ) (xs : List A) → length (passing (λ x. eqb (number x) k) xs) ≡ times k (map number xs)
unfolding times
times-of number k xs = sym (ap length (passing-map (λ m. eqb m k) number xs) ∙ length-map (passing (λ x. eqb (number x) k) xs) number)

-- ---- selections

abbrev number : Selection → ℕ
number x = x.scope.constraint.number

placed-from : (list : List Scope) (cells : Bytes) (ns : List ℕ) (j count : ℕ) → j + count ≡ length ns
    → ((i : ℕ) → j ≤ i → i < length ns → (get_or list (scope_at cells (512 * i)) blank_scope).constraint ≡ get_or ns i 0)
    → finished_places list cells j count ≡ map (λ c. 3 * c + 0) (drop j ns)
unfolding finished_places
placed-from list cells ns j zero e h = ap (map (λ c. 3 * c + 0)) (sym (drop_of_length-le ns {i = j} (omega (arith, e))))
placed-from list cells ns j (suc n) e h =
    let l : j < length ns = omega (arith, e) in
    let z : (c : ℕ) → 3 * c ≡ 3 * c + 0 = λ c. omega arith in
    ap₂ {C = List ℕ} ◌∷◌ (ap (λ (c : ℕ). 3 * c) (h j (omega arith) l) ∙ z (get_or ns j 0))
    (placed-from list cells ns (suc j) n (omega (arith, e)) (λ i a b. h i (omega arith) b))
    ∙ sym (ap (map (λ c. 3 * c + 0)) (drop-cons ns j 0 l))

-- of any bytes that hold selection i as the session's bytes do, the code reads its constraint's number
module _ (os : List OpenScope) (ss : List Selection) (cells : Bytes) (read : every (selection_in os) (parts 512 (length ss) cells) ≡ some ss)
    (fit : All (SelectionFit os) ss) (list : List Scope) (same : map record_of list ≡ map put_scope os) where
  reads-number : (later : Bytes) (i : ℕ) → i < length ss → part later (512 * i) 512 ≡ part cells (512 * i) 512
      → (get_or list (scope_at later (512 * i)) blank_scope).constraint ≡ get_or (map number ss) i 0
  unfolding put_scope
  reads-number later i l e =
      let g = get_elem-some ss i l in
      let x : Selection = g.0 in
      let f : SelectionFit os x = All-get_elem (SelectionFit os) ss i x fit g.1 in
      let bytes : part later (512 * i) 512 ≡ put_selection os x =
      e ∙ selection-at os (length ss) ss cells read i x g.1 in
      let place : scope_at later (512 * i) ≡ place_of x.scope.number os = scope-here os x later (512 * i) f.keys bytes in
      ap (λ (p : ℕ). (get_or list p blank_scope).constraint) place
      ∙ ap (λ (r : ScopeRecord). r.constraint) (alike_at record_of put_scope list os (place_of x.scope.number os) blank_scope f.home same f.found)
      ∙ ap (λ (c : tree.Scope). c.constraint.number) f.scope
      ∙ sym (map_found number ss i x 0 g.1)

-- ---- what it finished

module _ (w : World) (s : Session) (bs : Bytes) (h : Holds w s) (r : Rec) (says : parse bs ≡ parsed r) (clear : first_of (rows w s r (next s r) bs) ≡ none) where
  abbrev t : Session
  t = next s r

  comes : Follows w s t r bs h.raws h.tus
  comes = follows w s bs h r says clear

  then-holds : Holds (patch w s r t bs) t
  then-holds = patched w s t r bs h comes

  -- the selections that stay in the area behind those that are written
  behind-written : (i : ℕ) → length t.state.selections ≤ i
      → part (patch w s r t bs).cells (512 * i) 512 ≡ part w.cells (512 * i) 512
  unfolding patch
  behind-written i l =
      let fit : All (SelectionFit t.state.scopes) t.state.selections =
      All-weaken (OpenSelection t.state.scopes (length t.state.names)) (SelectionFit t.state.scopes) (λ x f. f.fit) t.state.selections comes.fine.selections in
      let long = selections-length t.state.scopes t.state.selections fit in
      ap (take 512) (drop-over w.cells 0 (flat_map (put_selection t.state.scopes) t.state.selections) (512 * i) (omega arith) (omega (arith, long, l)))

  module _ (list : List Scope) (same : map record_of list ≡ map put_scope s.state.scopes) where
    abbrev first : ℕ
    first = length t.state.selections

    abbrev many : ℕ
    many = length s.state.selections

    finished-places : first ≤ many
        → finished_places list (patch w s r t bs).cells first (many - first) ≡ map (λ c. 3 * c + 0) (drop first (map number s.state.selections))
    finished-places l =
        let fit : All (SelectionFit s.state.scopes) s.state.selections =
        All-weaken (OpenSelection s.state.scopes (length s.state.names)) (SelectionFit s.state.scopes) (λ x f. f.fit) s.state.selections h.fine.selections in
        let n : length (map number s.state.selections) ≡ many = length-map s.state.selections number in
        placed-from list (patch w s r t bs).cells (map number s.state.selections) first (many - first) (omega (arith, n, l))
        (λ i a b.
        reads-number s.state.scopes s.state.selections w.cells h.cells fit list same (patch w s r t bs).cells i (omega (arith, b, n)) (behind-written i a))

-- which selections those are

fed-longer : (f : Selection → Selection) (xs ys : List Selection) → length xs ≤ length (map f (xs ++ ys))
fed-longer f xs ys = omega (arith, length-map (xs ++ ys) f, length-append xs ys)

start-grows : (defs : ℕ → tree.Defined) (st : State) (q : tree.Start) → length st.selections ≤ length (start_a defs st q).selections
unfolding start_a
start-grows defs st q = fed-longer _ st.selections _

end-open : (names : List Name) (st : State) (e : tree.End) → (length names ≡ 0 → ⊥) → end_if names st e ≡ end_open st e
unfolding end_if
end-open [] st e n = absurd (n refl)
end-open (x ∷ names) st e n = refl

module _ (w : World) (s : Session) (bs : Bytes) (h : Holds w s) (q : EeRecord) (says : parse bs ≡ parsed (EE q)) (clear : first_of (rows w s (EE q) (next s (EE q)) bs) ≡ none) where
  some-open : length s.state.names ≡ 0 → ⊥
  unfolding is_unbalanced
  some-open e =
      let c = (cleared w s (EE q) (next s (EE q)) bs clear).balanced in
      false≢true (sym c ∙ borrow.Author.Tests.eq-eqb (length s.state.names) 0 e)

  stay-selections : (next s (EE q)).state.selections ≡ staying s q
  unfolding next end_a end_open staying fed
  stay-selections = ap (λ (st : State). st.selections) (end-open s.state.names s.state (end_of q) some-open)

  fed-numbers : map number (fed s q) ≡ map number s.state.selections
  unfolding fed feed
  fed-numbers = map-map number (feed s.state.names (end_gives (end_of q))) s.state.selections

  ending-numbers : map number (ending s q) ≡ finished_by s (EE q)
  unfolding ending fed feed finished_by flat_map event_of finishing
  ending-numbers =
      let inner : Selection → Bool = λ x. eqb x.depth (length s.state.names) in
      ap (map number) (passing-map inner (feed s.state.names (end_gives (end_of q))) s.state.selections)
      ∙ map-map number (feed s.state.names (end_gives (end_of q))) (passing inner s.state.selections)
      ∙ sym (append-nil (map number (passing inner s.state.selections)))

  numbers-split : map number s.state.selections ≡ map number (staying s q) ++ finished_by s (EE q)
  numbers-split =
      sym fed-numbers ∙ ap (map number) (plans.parts w s q bs h says).0 ∙ map-append number (staying s q) (ending s q)
      ∙ ap (λ (l : List ℕ). map number (staying s q) ++ l) ending-numbers

  stay-many : length (next s (EE q)).state.selections ≡ length (map number (staying s q))
  stay-many = ap length stay-selections ∙ sym (length-map (staying s q) number)

  end-few : length (next s (EE q)).state.selections ≤ length s.state.selections
  end-few = omega (arith, stay-many, ap length numbers-split ∙ length-append (map number (staying s q)) (finished_by s (EE q)), length-map s.state.selections number)

  end-finished : drop (length (next s (EE q)).state.selections) (map number s.state.selections) ≡ finished_by s (EE q)
  end-finished =
      ap₂ {C = List ℕ} drop stay-many numbers-split ∙ drop-append_seam (map number (staying s q)) (finished_by s (EE q))

abbrev FinishedIs : World → Session → Bytes → Rec → List Scope → Type 0
FinishedIs w s bs r list =
    finished_places list (patch w s r (next s r) bs).cells (length (next s r).state.selections) (length s.state.selections - length (next s r).state.selections)
    ≡ map (λ c. 3 * c + 0) (finished_by s r)

none-finished : (w : World) (s : Session) (bs : Bytes) (r : Rec) (list : List Scope) → length s.state.selections ≤ length (next s r).state.selections → finished_by s r ≡ []
    → FinishedIs w s bs r list
none-finished w s bs r list l e =
    finished-end list (patch w s r (next s r) bs).cells (length (next s r).state.selections) (length s.state.selections)
    l ∙ sym (ap (map (λ c. 3 * c + 0)) e)

finished-is : (w : World) (s : Session) (bs : Bytes) (h : Holds w s) (r : Rec) (says : parse bs ≡ parsed r) (clear : first_of (rows w s r (next s r) bs) ≡ none)
    (list : List Scope) (same : map record_of list ≡ map put_scope s.state.scopes) → FinishedIs w s bs r list
finished-is w s bs h (ID q) says clear list same = none-finished w s bs (ID q) list (unfold next tick in omega arith) (unfold finished_by flat_map event_of in refl)
finished-is w s bs h (NS q) says clear list same = none-finished w s bs (NS q) list (unfold next tick in omega arith) (unfold finished_by flat_map event_of in refl)
finished-is w s bs h (ES q) says clear list same =
    none-finished w s bs (ES q) list (unfold next in (start-grows _ s.state (start_of q))) (unfold finished_by flat_map event_of finishing in refl)
finished-is w s bs h (EE q) says clear list same =
    finished-places w s bs h (EE q) says clear list same (end-few w s bs h q says clear) ∙ ap (map (λ c. 3 * c + 0)) (end-finished w s bs h q says clear)
finished-is w s bs h FI says clear list same = none-finished w s bs FI list (unfold next finish_a in omega arith) (unfold finished_by flat_map event_of in refl)

-- ---- all of it

alike-grown : (f g : ℕ → Total) → ((k : ℕ) → f k ≡ g k) → (k : ℕ) (ns : Totals) → grown_from f k ns ≡ grown_from g k ns
unfolding grown_from
alike-grown f g e k [] = refl
alike-grown f g e k (a ∷ []) = refl
alike-grown f g e k (a ∷ b ∷ []) = refl
alike-grown f g e k (a ∷ b ∷ c ∷ ns) =
    ap₂ {C = Totals} (λ (x : Total) (l : Totals). sum_up_to a x.reached ∷ sum_up_to b x.tuples ∷ sum_up_to c x.reports ∷ l) (e k) (alike-grown f g e (suc k) ns)

module _ (n m : Numbers) (list list' : List Scope) (paths : ℕ) (defs tuples reports names cells defs' tuples' reports' names' cells' : Bytes) where
  abbrev was : World
  was = world_of n list paths defs tuples reports names cells

  abbrev is : World
  is = world_of m list' paths defs' tuples' reports' names' cells'

  module _ (s : Session) (bs : Bytes) (h : Holds was s) (r : Rec) (says : parse bs ≡ parsed r) (clear : first_of (rows was s r (next s r) bs) ≡ none) (left : is ≡ patch was s r (next s r) bs) where
    new-tuple-bytes : part tuples' n.tuples (m.tuples - n.tuples) ≡ flat_map put_tu (new_tuples s (next s r))
    unfolding tuple_bytes patch
    new-tuple-bytes =
        let f = comes was s bs h r says clear in
        let k : m.tuples - n.tuples ≡ length (tuple_bytes s (next s r)) = omega (arith, ap (λ (v : World). v.tuples) left) in
        ap₂ {C = Bytes} (λ (l : Bytes) (i : ℕ). part l n.tuples i) (ap (λ (v : World). v.tuple_store) left) k ∙ part-over tuples n.tuples (tuple_bytes s (next s r)) f.room_tuples

    new-report-bytes : part reports' n.reports (m.reports - n.reports) ≡ flat_map put_rp (new_reports s (next s r))
    unfolding report_bytes patch
    new-report-bytes =
        let f = comes was s bs h r says clear in
        let k : m.reports - n.reports ≡ length (report_bytes s (next s r)) = omega (arith, ap (λ (v : World). v.reports) left) in
        ap₂ {C = Bytes} (λ (l : Bytes) (i : ℕ). part l n.reports i) (ap (λ (v : World). v.report_store) left) k ∙ part-over reports n.reports (report_bytes s (next s r)) f.room_reports

    counts-now : unpack m.running ≡ counts_of (next s r)
    counts-now =
        ap (λ (v : World). unpack v.running) left
        ∙ counts-back (patch was s r (next s r) bs) (next s r) (then-holds was s bs h r says clear)

    open-list : List Scope
    open-list = open_of (record { list = list; n = (unpack n.running).scopes })

    open-same : map record_of open-list ≡ map put_scope s.state.scopes
    unfolding open-list open_of counts_of
    open-same =
        sym (take-map record_of (unpack n.running).scopes list)
        ∙ ap (λ (c : Counts). take c.scopes (map record_of list)) (counts-back was s h)
        ∙ h.scopes

    places-are : places_of n m list tuples' reports' cells'
        ≡ places_for (finished_by s r) (map (λ t. t.constraint.number) (new_tuples s (next s r))) (map (λ p. p.constraint) (new_reports s (next s r)))
    unfolding places_of counts_of open-list
    places-are =
        ap₂ {C = List ℕ} ◌++◌
        (ap₂ {C = List ℕ}
        (λ (c d : Counts). finished_places open-list cells' d.selections (c.selections - d.selections))
        (counts-back was s h) counts-now
        ∙ ap (λ (v : World). finished_places open-list v.cells (length (next s r).state.selections) (length s.state.selections - length (next s r).state.selections)) left
        ∙ finished-is was s bs h r says clear open-list open-same)
        (ap₂ {C = List ℕ} ◌++◌
        (ap tuple_places new-tuple-bytes ∙ tuples-placed (new_tuples s (next s r)))
        (ap report_places new-report-bytes ∙ reports-placed (new_reports s (next s r))))

    brought : (k : ℕ) → record { reached = times k (finished_by s r); tuples = times k (map (λ t. t.constraint.number) (new_tuples s (next s r))); reports = times k (map (λ p. p.constraint) (new_reports s (next s r))) }
        ≡ brings s r (next s r) k
    unfolding brings tuples_of reports_of
    brought k =
        λ i. record {
          reached = times k (finished_by s r);
          tuples = sym (times-of (λ (t : Tuple). t.constraint.number) k (new_tuples s (next s r))) i;
          reports = sym (times-of (λ (p : Report). p.constraint) k (new_reports s (next s r))) i;
        }

    settled-grows : (ns : Totals) → totals_fit ns ≡ true → length ns ≡ 96 → raised_all ns (places_of n m list tuples' reports' cells') ≡ grown_from (brings s r (next s r)) 0 ns
    settled-grows ns f l =
        ap (raised_all ns) places-are
        ∙ raised-grown (finished_by s r) (map (λ t. t.constraint.number) (new_tuples s (next s r))) (map (λ p. p.constraint) (new_reports s (next s r))) 32 ns f l
        ∙ alike-grown _ _ brought 0 ns

  abbrev Grows : Session → Bytes → Parsed → Reply × World → Totals → Type 0
  Grows s bs p o ns = o.0 ≡ taken → is ≡ o.1 → raised_all ns (places_of n m list tuples' reports' cells') ≡ grown_by (some s) p ns

  not_taken : (c : Refusal) → refused c ≡ taken → ⊥
  not_taken c e = let z : ◌≡◌ {A = ℕ} 0 1 = cc in omega arith

  module _ (s : Session) (bs : Bytes) (h : Holds was s) (ns : Totals) (fit : totals_fit ns ≡ true) (many : length ns ≡ 96) where
    settled_case : (r : Rec) → parse bs ≡ parsed r → (o : Option Refusal) → first_of (rows was s r (next s r) bs) ≡ o
        → Grows s bs (parsed r) (settled was s r (next s r) bs o) ns
    unfolding settled grown_by
    settled_case r p none e y left = settled-grows s bs h r p e left ns fit many
    settled_case r p (some c) e y left = absurd (not_taken c y)

    considered-case : (p : Parsed) → parse bs ≡ p → Grows s bs p (considered was s bs p) ns
    unfolding considered
    considered-case (unparsed c) e y left = absurd (not_taken c y)
    considered-case (parsed r) e y left = settled_case r e (first_of (rows was s r (next s r) bs)) refl y left

  -- THE LAW of counting: what the code raises for a record that was taken is what the record brings
  pub taken-grows : (s : Session) → decode was ≡ some s → (bs : Bytes) → (step was bs).0 ≡ taken → is ≡ (step was bs).1
      → (ns : Totals) → totals_fit ns ≡ true → length ns ≡ 96
      → raised_all ns (places_of n m list tuples' reports' cells') ≡ grown_by (decode was) (parse bs) ns
  unfolding step attempt
  taken-grows s d bs y left ns fit many =
      rw d (considered-case s bs (well-formed was s d) ns fit many (parse bs) refl (rw d at y) (rw d at left))
