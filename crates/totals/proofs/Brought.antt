-- WHAT A RECORD THAT IS TAKEN BRINGS is what the tree definition has more: selections finished, tuples, reports. And it is little: at most 32 of each for a
-- constraint, so that in a million records no sum comes to its limit.
-- Assumes nothing.
use Prim.Native.Nat.{ℕ, zero, suc, ◌+◌, ◌-◌, ◌*◌, ◌≤◌, ◌<◌}
use native.Mathlib.Nat.{add-zero}
use native.Mathlib.Omega.{arith}
use borrow.Author.Tests.{le-leb, leb-true, ltb-true, ltb-false, ne_eqb, eq-eqb, lt-ltb}
use lib.Dec.{eqb, leb, ltb}
use lib.ListN.{length, take, drop, get_or, replicate, length-append, length-map}
use lib.Seq.{drop-append_seam, drop-length}
use mathlib.Core.Path.{◌≡◌, refl, ap, ap₂, sym, ◌∙◌, subst}
use mathlib.Core.Bool.{Bool, true, false, cond, ◌&&◌, not, false≢true}
use mathlib.Core.List.{List, [], ◌∷◌, ◌++◌, map, flat_map, append-nil, append_assoc}
use mathlib.Core.Option.{Option, none, some}
use Rattle.std.proofs.lemmas.List.Sums.{fold-append}
use Rattle.lists.specs.Lists.{all, only_if, passing, foldl}
use Rattle.lists.proofs.Lists.{flat_map-append}
use Rattle.lists.proofs.Folds.{length-snoc, passing-none, All-append}
use Rattle.lists.proofs.Places.{length-passing, all_true}
use Rattle.tree.specs.Events.{Event, es, ee, Defined}
use Rattle.tree.specs.Tree.{Forest, items}
use Rattle.tree.specs.Judge.{Tuple, Report, Out, finish_out, kind_fives}
use Rattle.tree.specs.Build.{◌⊕◌, plug_with, plug, build, begun, step_b, tree, Built}
use Rattle.machine.specs.Machine.{Selection, State, initial, end_gives, feed, finished_item, start_a, end_open, end_if, end_a, finish_a}
use Rattle.machine.proofs.StateOf.{state_of}
use Rattle.records.specs.Readers.{Bytes}
use Rattle.records.specs.Refusals.{Refusal, first_of}
use Rattle.records.specs.Records.{EsRecord, EeRecord, Rec, ID, NS, ES, EE, FI, Parsed, unparsed, parsed, parse}
use Rattle.session_spec.specs.Definitions.{define, is_definition, defined_at}
use Rattle.session_spec.specs.Layout.{ScopeRecord}
use Rattle.session_spec.specs.Session.{World, Stage, before, during, done, Session, start_of, end_of, tick, next, new_tuples, new_reports, misplaced, is_unbalanced, rows, Reply, taken, refused, areas_fit, decode, settled, considered, step, set_up}
use Rattle.session_spec.specs.Runs.{session_of, new_session, run_calls, taken_of, accepted, definitions_of, defined_in, event_of, events_of, tree_of, tree_out}
use Rattle.session_laws.proofs.Outs.{Grown}
use Rattle.session_laws.proofs.Limits.{limited, start-fit}
use Rattle.session_laws.proofs.Holds.{Holds, areas-are, decoded}
use Rattle.session_laws.proofs.Patched.{Follows}
use Rattle.session_laws.proofs.Follows.{Clear, cleared, follows}
use Rattle.runs.proofs.Trace.{machine, Traced, Trace, trace-next, session-snoc, defs-snoc, events-snoc, not_done}
use Rattle.runs.proofs.Calls.{After, step_is, run-after, after_run}
use Rattle.runs.proofs.Claims.{state-of-tree}
use Rattle.totals.specs.Counts.{reached, tuples_of, reports_of, times, finishing}
use Rattle.totals.specs.Totals.{Total, finished_by, brings, sum_up_to}
use Rattle.totals.proofs.Reached.{event-reached}
use Rattle.totals.proofs.Growing.{tuples-append, reports-append, tuples-few, reports-few, size, judge-all-size, start-size, fives-few}

-- ---- the tree of one record more

pub no_items : (rs : List Rec) → events_of rs ≡ [] → items [] (tree_of rs) ≡ []
unfolding tree_of tree build plug plug_with ◌⊕◌ items
no_items rs h = rw h

module _ (rs : List Rec) (r : Rec) where
  abbrev defs : ℕ → Defined
  defs = defined_at (definitions_of rs)

  abbrev built : Built
  built = build defs (begun (defined_in rs)) (events_of rs)

  -- a record that defines nothing leaves their number as it is
  defined-snoc : is_definition r ≡ false → defined_in (rs ++ (r ∷ [])) ≡ defined_in rs
  unfolding defined_in flat_map only_if
  defined-snoc i =
      let defining : Rec → List Rec = λ q. only_if (is_definition q) (q ∷ []) in
      let none_more : defining r ≡ [] = rw i in
      ap length (flat_map-append defining rs (r ∷ []) ∙ ap (λ (l : List Rec). flat_map defining rs ++ (l ++ [])) none_more ∙ append-nil (flat_map defining rs))

  tree-event : is_definition r ≡ false → define r (definitions_of rs) ≡ definitions_of rs → (x : Event) → event_of r ≡ x ∷ []
      → tree_of (rs ++ (r ∷ [])) ≡ plug (step_b defs built x).zipper
  unfolding tree_of tree build
  tree-event i d x e =
      rw (events-snoc rs r, e, defs-snoc rs r, d, defined-snoc i)
      (ap (λ (b : Built). plug b.zipper) (fold-append (step_b defs) (begun (defined_in rs)) (events_of rs) (x ∷ [])))

  tree-still : is_definition r ≡ false → define r (definitions_of rs) ≡ definitions_of rs → event_of r ≡ [] → tree_of (rs ++ (r ∷ [])) ≡ tree_of rs
  unfolding tree_of
  tree-still i d e = rw (events-snoc rs r, e, append-nil, defs-snoc rs r, d, defined-snoc i)

-- ---- a record that is taken

pub unbegun : (g : Stage) (rs : List Rec) (st : State) (r : Rec) → Traced g rs st → misplaced g r ≡ false → is_definition r ≡ true → events_of rs ≡ []
unfolding misplaced
unbegun before rs st r t m i = t.1
unbegun during rs st r t m i = absurd (false≢true (sym m ∙ i))
unbegun done rs st r t m i = absurd (false≢true (sym m))

module _ (w : World) (rs : List Rec) (a : After w rs) (x : Bytes) (r : Rec) (p : parse x ≡ parsed r) (e : first_of (rows w (session_of rs) r (next (session_of rs) r) x) ≡ none) (k : ℕ) where
  abbrev s : Session
  s = session_of rs

  abbrev t : Session
  t = next s r

  pub clear : Clear w s r t x
  clear = cleared w s r t x e

  after : Follows w s t r x a.holds.raws a.holds.tus
  after = follows w s x a.holds r p e

  -- ---- tuples and reports

  new-tuples : new_tuples s t ≡ after.grown.more_tuples
  unfolding new_tuples
  new-tuples = ap (drop (length s.state.out.tuples)) after.grown.tuples ∙ drop-append_seam s.state.out.tuples after.grown.more_tuples

  new-reports : new_reports s t ≡ after.grown.more_reports
  unfolding new_reports
  new-reports = ap (drop (length s.state.out.reports)) after.grown.reports ∙ drop-append_seam s.state.out.reports after.grown.more_reports

  tuples-brought : tuples_of k t.state.out.tuples ≡ tuples_of k s.state.out.tuples + tuples_of k (new_tuples s t)
  tuples-brought = ap (tuples_of k) after.grown.tuples ∙ tuples-append k s.state.out.tuples after.grown.more_tuples ∙ ap (λ (l : List Tuple). tuples_of k s.state.out.tuples + tuples_of k l) (sym new-tuples)

  reports-brought : reports_of k t.state.out.reports ≡ reports_of k s.state.out.reports + reports_of k (new_reports s t)
  reports-brought = ap (reports_of k) after.grown.reports ∙ reports-append k s.state.out.reports after.grown.more_reports ∙ ap (λ (l : List Report). reports_of k s.state.out.reports + reports_of k l) (sym new-reports)

  -- ---- reached

  abbrev came : ℕ
  came = times k (finished_by s r)

  defines-none : is_definition r ≡ true → event_of r ≡ [] → reached k (items [] (tree_of (rs ++ (r ∷ [])))) ≡ reached k (items [] (tree_of rs)) + came
  unfolding finished_by flat_map
  defines-none i v =
      let u = unbegun s.stage rs s.state r a.trace.traced clear.in_place i in
      ap (reached k) (no_items (rs ++ (r ∷ [])) (events-snoc rs r ∙ rw (u, v)) ∙ sym (no_items rs u))
      ∙ rw v (sym (unfold times passing in (add-zero (reached k (items [] (tree_of rs))))))

  event-came : is_definition r ≡ false → define r (definitions_of rs) ≡ definitions_of rs → (v : Event) → event_of r ≡ v ∷ []
      → reached k (items [] (tree_of (rs ++ (r ∷ [])))) ≡ reached k (items [] (tree_of rs)) + came
  unfolding finished_by flat_map tree_of tree
  event-came i d v q =
      let st : s.state ≡ state_of (built rs r) = state-of-tree rs s.stage s.state a.trace.traced (not_done s.stage rs s.state r a.trace.traced clear.in_place) in
      let g = event-reached k (defs rs r) (built rs r) v in
      ap (λ (f : Forest). reached k (items [] f)) (tree-event rs r i d v q) ∙ g
      ∙ ap (λ (l : List ℕ). reached k (items [] (plug (built rs r).zipper)) + times k l) (ap (λ (z : State). finishing z v) (sym st) ∙ sym (append-nil (finishing s.state v)) ∙ rw q)

  still-came : is_definition r ≡ false → define r (definitions_of rs) ≡ definitions_of rs → event_of r ≡ [] → reached k (items [] (tree_of (rs ++ (r ∷ [])))) ≡ reached k (items [] (tree_of rs)) + came
  unfolding finished_by flat_map
  still-came i d v = ap (λ (f : Forest). reached k (items [] f)) (tree-still rs r i d v) ∙ rw v (sym (unfold times passing in (add-zero (reached k (items [] (tree_of rs))))))

pub reached-brought : (w : World) (rs : List Rec) (a : After w rs) (x : Bytes) (r : Rec) (p : parse x ≡ parsed r) (e : first_of (rows w (session_of rs) r (next (session_of rs) r) x) ≡ none) (k : ℕ)
    → reached k (items [] (tree_of (rs ++ (r ∷ [])))) ≡ reached k (items [] (tree_of rs)) + times k (finished_by (session_of rs) r)
reached-brought w rs a x (ID q) p e k = unfold is_definition event_of in (defines-none w rs a x (ID q) p e k refl refl)
reached-brought w rs a x (NS q) p e k = unfold is_definition event_of in (defines-none w rs a x (NS q) p e k refl refl)
reached-brought w rs a x (ES q) p e k = unfold is_definition define event_of in (event-came w rs a x (ES q) p e k refl refl (es (start_of q)) refl)
reached-brought w rs a x (EE q) p e k = unfold is_definition define event_of in (event-came w rs a x (EE q) p e k refl refl (ee (end_of q)) refl)
reached-brought w rs a x FI p e k = unfold is_definition define event_of in (still-came w rs a x FI p e k refl refl refl)

-- ---- how much it brings

-- an entry, grown by another one
abbrev pub grown : Total → Total → Total
grown i j = record { reached = sum_up_to i.reached j.reached; tuples = sum_up_to i.tuples j.tuples; reports = sum_up_to i.reports j.reports }

abbrev pub total_in : List Rec → ℕ → Total
total_in rs k =
    record {
      reached = reached k (items [] (tree_of rs));
      tuples = tuples_of k (session_of rs).state.out.tuples;
      reports = reports_of k (session_of rs).state.out.reports;
    }

-- an event brings a constraint at most 32 of each; kind 5 comes at most once for a tuple, and only at the end
pub record Small (s : Session) (t : Total) : Type 0 where
  pub reached : t.reached ≤ 32 * s.state.events
  pub tuples : t.tuples ≤ 32 * s.state.events
  pub reports : t.reports ≤ 32 * s.state.events
  pub live : (s.stage ≡ done → ⊥) → t.tuples + t.reports ≤ 32 * s.state.events

times-few : (k : ℕ) (ns : List ℕ) → times k ns ≤ length ns
unfolding times
times-few k ns = length-passing (λ n. eqb n k) ns

ends-few : (k : ℕ) (st : State) (q : EeRecord) → length st.selections ≤ 32 → times k (flat_map (finishing st) (event_of (EE q))) ≤ 32
unfolding event_of flat_map finishing
ends-few k st q h =
    let ns : List ℕ = map (λ (x : Selection). x.scope.constraint.number) (passing (λ (x : Selection). eqb x.depth (length st.names)) st.selections) in
    let a = times-few k (ns ++ []) in
    let b : length (ns ++ []) ≡ length ns = ap length (append-nil ns) in
    let c = length-map (passing (λ (x : Selection). eqb x.depth (length st.names)) st.selections) (λ (x : Selection). x.scope.constraint.number) in
    let d = length-passing (λ (x : Selection). eqb x.depth (length st.names)) st.selections in
    omega (arith, a, b, c, d)

nothing-came : (k : ℕ) (st : State) (r : Rec) → event_of r ≡ [] → times k (flat_map (finishing st) (event_of r)) ≡ 0
unfolding times passing flat_map
nothing-came k st r h = rw h

start-came : (k : ℕ) (st : State) (q : EsRecord) → times k (flat_map (finishing st) (event_of (ES q))) ≡ 0
unfolding times passing flat_map event_of finishing
start-came k st q = refl

end-size : (st : State) (q : EeRecord) → length st.selections ≤ 32 → size (end_a st (end_of q)).out ≤ size st.out + 32
unfolding end_a
end-size st q h = by st.names
  where
    by : (names : List _) → size (end_if names st (end_of q)).out ≤ size st.out + 32
    by [] = unfold end_if in omega arith
    by (n ∷ ns) =
        unfold end_if end_open in
        (let fed : List Selection = map (feed st.names (end_gives (end_of q))) st.selections in
        let ends : List Selection = passing (λ (x : Selection). eqb x.depth (length st.names)) fed in
        let a = judge-all-size (map (finished_item (suc st.events)) ends) st.out in
        let b = length-map ends (finished_item (suc st.events)) in
        let c = length-passing (λ (x : Selection). eqb x.depth (length st.names)) fed in
        let d = length-map st.selections (feed st.names (end_gives (end_of q))) in
        omega (arith, a, b, c, d))

module _ (w : World) (rs : List Rec) (a : After w rs) (x : Bytes) (k : ℕ) where
  abbrev now : Session
  now = session_of rs

  abbrev Came : Rec → Type 0
  Came r = first_of (rows w now r (next now r) x) ≡ none

  came-few : (r : Rec) → times k (finished_by now r) ≤ 32
  unfolding finished_by
  came-few (ID q) = let h = nothing-came k now.state (ID q) (unfold event_of in refl) in omega arith
  came-few (NS q) = let h = nothing-came k now.state (NS q) (unfold event_of in refl) in omega arith
  came-few (ES q) = let h = start-came k now.state q in omega arith
  came-few (EE q) = ends-few k now.state q a.holds.fine.selections_few
  came-few FI = let h = nothing-came k now.state FI (unfold event_of in refl) in omega arith

  -- but for FI, tuples and reports together
  size_few : (r : Rec) → parse x ≡ parsed r → Came r → (r ≡ FI → ⊥) → size (next now r).state.out ≤ size now.state.out + 32
  unfolding next
  size_few (ID q) p e n = unfold tick in omega arith
  size_few (NS q) p e n = unfold tick in omega arith
  size_few (ES q) p e n =
      let h = start-size (defined_at now.defs) now.state (start_of q) in
      let c = cleared w now (ES q) (next now (ES q)) x e in
      let f = start-fit now.defs q (limited x (ES q) p) c.target in
      omega (arith, h, f.eight)
  size_few (EE q) p e n = end-size now.state q a.holds.fine.selections_few
  size_few FI p e n = absurd (n refl)

  both-few : (r : Rec) (p : parse x ≡ parsed r) (e : Came r) → (r ≡ FI → ⊥) → tuples_of k (new_tuples now (next now r)) + reports_of k (new_reports now (next now r)) ≤ 32
  both-few r p e n =
      let g = (after w rs a x r p e k).grown in
      let h = size_few r p e n in
      let u = ap length g.tuples ∙ length-append now.state.out.tuples g.more_tuples in
      let v = ap length g.reports ∙ length-append now.state.out.reports g.more_reports in
      let i : tuples_of k (new_tuples now (next now r)) ≤ length g.more_tuples = rw (new-tuples w rs a x r p e k) (tuples-few k g.more_tuples) in
      let j : reports_of k (new_reports now (next now r)) ≤ length g.more_reports = rw (new-reports w rs a x r p e k) (reports-few k g.more_reports) in
      omega (arith, h, u, v, i, j)

  counted-more : (r : Rec) → Came r → (next now r).state.events ≡ suc now.state.events
  counted-more r e =
      let c = cleared w now r (next now r) x e in
      let t = trace-next rs now r a.trace c.in_place c.balanced in
      t.counted ∙ length-snoc rs r ∙ ap suc (sym a.trace.counted)

  not-finished : (r : Rec) → Came r → now.stage ≡ done → ⊥
  not-finished r e d =
      let c = cleared w now r (next now r) x e in
      false≢true (sym c.in_place ∙ ap (λ (g : Stage). misplaced g r) d ∙ unfold misplaced in refl)

  abbrev more : Rec → Total
  more r = brings now r (next now r) k

  abbrev plus : Total → Total → Total
  plus i j = record { reached = i.reached + j.reached; tuples = i.tuples + j.tuples; reports = i.reports + j.reports }

  pub total-next : (r : Rec) → parse x ≡ parsed r → Came r → total_in (rs ++ (r ∷ [])) k ≡ plus (total_in rs k) (more r)
  unfolding brings times
  total-next r p e =
      λ i. record {
        reached = reached-brought w rs a x r p e k i;
        tuples = (ap (λ (z : Session). tuples_of k z.state.out.tuples) (session-snoc rs r) ∙ tuples-brought w rs a x r p e k) i;
        reports = (ap (λ (z : Session). reports_of k z.state.out.reports) (session-snoc rs r) ∙ reports-brought w rs a x r p e k) i;
      }

  small-most : (r : Rec) (p : parse x ≡ parsed r) (e : Came r) → (r ≡ FI → ⊥) → Small now (total_in rs k) → Small (next now r) (plus (total_in rs k) (more r))
  unfolding brings times
  small-most r p e n s =
      let c = came-few r in
      let b = both-few r p e n in
      let l = s.live (not-finished r e) in
      let v = counted-more r e in
      record {
        reached = omega (arith, s.reached, c, v);
        tuples = omega (arith, l, b, v);
        reports = omega (arith, l, b, v);
        live = λ _. omega (arith, l, b, v);
      }

  -- at FI there are no tuples more, and reports at most as many as there are tuples
  fi-tuples : tuples_of k (new_tuples now (next now FI)) ≡ 0
  unfolding new_tuples next finish_a finish_out tuples_of passing
  fi-tuples = rw (drop-length now.state.out.tuples)

  fi-reports : reports_of k (new_reports now (next now FI)) ≤ tuples_of k now.state.out.tuples
  unfolding new_reports next finish_a finish_out
  fi-reports =
      let ts : List Tuple = now.state.out.tuples in
      rw (drop-append_seam now.state.out.reports (kind_fives (suc now.state.events) ts 0 ts)) (fives-few k (suc now.state.events) ts 0 ts)

  small-finish : Came FI → Small now (total_in rs k) → Small (next now FI) (plus (total_in rs k) (more FI))
  unfolding brings times finished_by
  small-finish e s =
      let c = nothing-came k now.state FI (unfold event_of in refl) in
      let l = s.live (not-finished FI e) in
      let v = counted-more FI e in
      let i = fi-tuples in
      let j = fi-reports in
      record {
        reached = omega (arith, s.reached, c, v);
        tuples = omega (arith, l, i, v);
        reports = omega (arith, l, j, v);
        live = λ n. absurd (n (unfold next in refl));
      }

  small-next : (r : Rec) (p : parse x ≡ parsed r) (e : Came r) → Small now (total_in rs k) → Small (next now r) (plus (total_in rs k) (more r))
  small-next (ID q) p e s = small-most (ID q) p e (λ h. let z : ◌≡◌ {A = ℕ} 0 1 = cc in omega arith) s
  small-next (NS q) p e s = small-most (NS q) p e (λ h. let z : ◌≡◌ {A = ℕ} 0 1 = cc in omega arith) s
  small-next (ES q) p e s = small-most (ES q) p e (λ h. let z : ◌≡◌ {A = ℕ} 0 1 = cc in omega arith) s
  small-next (EE q) p e s = small-most (EE q) p e (λ h. let z : ◌≡◌ {A = ℕ} 0 1 = cc in omega arith) s
  small-next FI p e s = small-finish e s

  -- no sum comes to the limit
  within : (r : Rec) (p : parse x ≡ parsed r) (e : Came r) → Small (next now r) (plus (total_in rs k) (more r)) → grown (total_in rs k) (more r) ≡ plus (total_in rs k) (more r)
  unfolding sum_up_to
  within r p e s =
      let f = (after w rs a x r p e k).early in
      let u = le-leb ((total_in rs k).reached + (more r).reached) 32000000 (omega (arith, s.reached, f)) in
      let v = le-leb ((total_in rs k).tuples + (more r).tuples) 32000000 (omega (arith, s.tuples, f)) in
      let y = le-leb ((total_in rs k).reports + (more r).reports) 32000000 (omega (arith, s.reports, f)) in
      rw (u, v, y)

  pub record Next (r : Rec) : Type 0 where
    pub same : grown (total_in rs k) (more r) ≡ total_in (rs ++ (r ∷ [])) k
    pub small : Small (session_of (rs ++ (r ∷ []))) (total_in (rs ++ (r ∷ [])) k)

  pub one_more : (r : Rec) (p : parse x ≡ parsed r) (e : Came r) → Small now (total_in rs k) → Next r
  one_more r p e s =
      let n = small-next r p e s in
      record {
        same = within r p e n ∙ sym (total-next r p e);
        small = subst (λ (z : Session). Small z (total_in (rs ++ (r ∷ [])) k)) (sym (session-snoc rs r)) (subst (Small (next now r)) (sym (total-next r p e)) n);
      }
