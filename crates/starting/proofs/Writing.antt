-- The world after a plan is carried out: the blank selections stand behind the open ones as those of the session do, so that the attributes' hits leave the bytes of
-- the selections after them; reports, scopes and counts are those of the session.
-- Assumes nothing.
use Prim.Native.Nat.{ℕ, suc, ◌+◌, ◌*◌, ◌%◌, ◌≤◌, ◌<◌}
use native.Mathlib.Omega.{arith}
use native.Mathlib.Nat.{zero-add}
use lib.ListN.{length, take, drop, length-map, length-append}
use lib.Seq.{take_at, drop_at}
use mathlib.Core.Path.{◌≡◌, refl, ap, ap₂, sym, ◌∙◌, subst}
use mathlib.Core.List.{List, ◌++◌, map, flat_map, append_assoc}
use mathlib.Core.Option.{some}
use Rattle.lists.specs.Lists.{over, All}
use Rattle.lists.proofs.Lists.{flat_map-append}
use Rattle.lists.proofs.Folds.{All-append, All-weaken, flat_map-of-map}
use Rattle.lists.proofs.Places.{All-both, All-flat_map}
use Rattle.paths.specs.Reading.{every}
use Rattle.tree.specs.Events.{opened}
use Rattle.tree.specs.Judge.{Report, kind_six}
use Rattle.machine.specs.Machine.{OpenScope, State, Giving, pick_up, start_gives, feed, start_a}
use Rattle.records.specs.Readers.{Bytes}
use Rattle.records.specs.Records.{EsRecord}
use Rattle.record_places.specs.declared.Es.{Es}
use Rattle.record_places.specs.Places.{text_in}
use Rattle.session_spec.specs.Definitions.{defined_at}
use Rattle.session_spec.specs.Layout.{pack, put_rp, place_of, parts, put_selection, selection_in}
use Rattle.session_spec.specs.Session.{Session, start_of}
use Rattle.session_laws.proofs.Areas.{SelectionFit, selections-back, selections-length}
use Rattle.session_laws.proofs.OpenScopes.{OpenFit, Found, all-found}
use Rattle.session_laws.proofs.OpenSelections.{OpenSelection, selection-later, pick-fit}
use Rattle.session_laws.proofs.States.{Fine, start_fine}
use Rattle.cells.specs.Cells.{blank_cells}
use Rattle.cells.proofs.Selections.{blank-selection}
use Rattle.cells.proofs.Machine.{area-is}
use Rattle.open_scopes.specs.declared.Scopes.{Scopes}
use Rattle.open_scopes.specs.declared.Numbers.{Numbers}
use Rattle.open_scopes.specs.OpenScopes.{open_of}
use Rattle.open_scopes.specs.Counting.{packed}
use Rattle.open_scopes.proofs.Counting.{packed-few}
use Rattle.open_scopes.proofs.Places.{as_many}
use Rattle.worlds.specs.Worlds.{world_of}
use Rattle.worlds.specs.Replies as reply
use Rattle.attribute_hits.specs.AttributeHits.{given_at, Described, TakesAttributes}
use Rattle.attribute_hits.proofs.Starts.{record-gives}
use Rattle.plans.specs.Plans.{listed, names_then, new_scopes, scopes_then, picked, selections_then, start_fed, sixes, start_counts, started_by}
use Rattle.plans.proofs.Ending.{bytes_same}
use Rattle.start_places.specs.StartPass.{marked, blank_on}
use Rattle.start_pass.proofs.Opened.{picked-are}
use Rattle.start_writes.specs.Writes as writes
use Rattle.start_writes.specs.Writes.{Sixes, Opened, places}
use Rattle.start_writes.proofs.Sets.{indexed, flat-members, places-marked}
use Rattle.worlds.specs.declared.Done.{Done}
use Rattle.event_answers.specs.declared.Spot.{Spot}
use Rattle.event_answers.specs.declared.Plan.{Plan}
use Rattle.event_answers.specs.StartSteps.{record_in, counts_then, Begun, Planned, WritesStart}
use Rattle.starting.proofs.Places.{its-place}
use Rattle.starting.proofs.Planning.{longer, depth_is, scopes-fit, selections-many}

module _ (n : Numbers) (spot : Spot) (scopes : Scopes) (es : Es) (rec defs reports names cells : Bytes) (s : Session) (plan : Plan) (names1 : Bytes)
    (b : Begun n spot scopes es rec defs reports names cells s) (p : Planned n spot scopes es rec reports names s plan names1) where
  abbrev r : EsRecord
  r = record_in rec es

  abbrev st : State
  st = s.state

  abbrev os : List OpenScope
  os = scopes_then s r

  -- ---- what holds of the session after the ES

  then-fine : Fine s.defs (start_a (defined_at s.defs) st (start_of r))
  unfolding start_a selections_then picked scopes_then new_scopes names_then listed start_of
  then-fine =
      (start_fine s.defs b.defs_fit st b.fine (start_of r) b.fit
      (omega (arith, longer n spot scopes es rec defs reports names cells s b, b.deep)) p.few_scopes
      (omega (arith, length-map (selections_then s r) (feed (names_then s r) (start_gives (start_of r))), p.few_selections))).0

  fed-fit : All (SelectionFit os) (start_fed s r)
  unfolding start_a start_fed selections_then picked scopes_then new_scopes names_then listed start_of
  fed-fit = All-weaken (OpenSelection os (length (names_then s r))) (SelectionFit os) (λ x f. f.fit) (start_fed s r) then-fine.selections

  rises : All (Found os) os
  unfolding start_a scopes_then new_scopes names_then listed start_of
  rises = all-found 0 1 os then-fine.rise

  at_place : All (λ (q : ℕ × OpenScope). (place_of q.1.scope.number os ≡ q.0) × (q.0 < length os)) (indexed 0 os)
  unfolding start_a scopes_then new_scopes names_then listed start_of
  at_place = its-place os then-fine.rise

  open-fit : All (OpenFit s.defs (opened (defined_at s.defs) st.count r.numbers) (length (names_then s r))) os
  unfolding start_a scopes_then new_scopes names_then listed start_of
  open-fit = then-fine.scopes

  picked_fit : All (OpenSelection os (length (names_then s r))) (picked s r)
  unfolding picked
  picked_fit =
      let count : ℕ = opened (defined_at s.defs) st.count r.numbers in
      All-flat_map (λ (o : OpenScope). OpenFit s.defs count (length (names_then s r)) o × Found os o) (OpenSelection os (length (names_then s r))) (pick_up (names_then s r))
      (pick-fit s.defs count os (names_then s r) b.defs_fit) os
      (All-both (OpenFit s.defs count (length (names_then s r))) (Found os) os open-fit rises)

  old-fit : All (OpenSelection os (length (names_then s r))) st.selections
  unfolding scopes_then
  old-fit =
      All-weaken (OpenSelection st.scopes (length st.names)) (OpenSelection os (length (names_then s r)))
      (selection-later st.scopes (new_scopes s r) (length st.names) (length (names_then s r)) (omega (arith, longer n spot scopes es rec defs reports names cells s b)))
      st.selections b.fine.selections

  all_fit : All (SelectionFit os) (selections_then s r)
  unfolding selections_then
  all_fit =
      All-weaken (OpenSelection os (length (names_then s r))) (SelectionFit os) (λ x f. f.fit) (selections_then s r)
      (All-append (OpenSelection os (length (names_then s r))) st.selections (picked s r) old-fit picked_fit)

  -- ---- the blank selections

  abbrev many : ℕ
  many = length (selections_then s r)

  many_is : spot.selections + length (marked plan.picked 0 (places (length os))) ≡ many
  many_is =
      ap (λ (k : ℕ). spot.selections + k) (places-marked plan.picked (length os) os refl)
      ∙ sym (selections-many n spot scopes es rec defs reports names cells s b plan.picked p.selecting)

  blank-here : All (λ (q : ℕ × OpenScope). blank_cells spot.depth q.0 ≡ put_selection os (blank_on (names_then s r) q.1)) (indexed 0 os)
  blank-here =
      All-weaken (λ (q : ℕ × OpenScope). (place_of q.1.scope.number os ≡ q.0) × (q.0 < length os))
      (λ (q : ℕ × OpenScope). blank_cells spot.depth q.0 ≡ put_selection os (blank_on (names_then s r) q.1)) one (indexed 0 os) at_place
    where
      one : (q : ℕ × OpenScope) → (place_of q.1.scope.number os ≡ q.0) × (q.0 < length os)
          → blank_cells spot.depth q.0 ≡ put_selection os (blank_on (names_then s r) q.1)
      one q h =
          ap₂ blank_cells (depth_is n spot scopes es rec defs reports names cells s b) (sym h.0)
          ∙ blank-selection os (blank_on (names_then s r) q.1) q.1.scope.constraint.fields refl
          (omega (arith, longer n spot scopes es rec defs reports names cells s b, b.deep)) (omega (arith, h.0, h.1, p.few_scopes))

  blanks-are : flat_map (blank_cells spot.depth) (marked plan.picked 0 (places (length os))) ≡ flat_map (put_selection os) (picked s r)
  unfolding picked
  blanks-are =
      flat-members plan.picked (length os) os refl (blank_cells spot.depth) (λ (o : OpenScope). put_selection os (blank_on (names_then s r) o)) blank-here
      ∙ sym (ap (flat_map (put_selection os)) (picked-are (names_then s r) plan.picked os p.selecting).selections
      ∙ flat_map-of-map (put_selection os) (blank_on (names_then s r)) (marked plan.picked 0 os))

  module _ (total next : ℕ) (te : total ≡ length (open_of plan.scopes)) (cells1 : Bytes) (o : Opened cells spot.selections plan.picked total spot.depth next cells1) where
    opens-here : Opened cells spot.selections plan.picked (length os) spot.depth next cells1
    opens-here =
        subst (λ (k : ℕ). Opened cells spot.selections plan.picked k spot.depth next cells1)
        (te ∙ as_many plan.scopes os p.scoped) o

    room-here : 512 * (spot.selections + length (marked plan.picked 0 (places (length os)))) ≤ length cells
    room-here = omega (arith, many_is, p.few_selections, b.cells_long)

    opened-here : (next ≡ spot.selections + length (marked plan.picked 0 (places (length os))))
        × (cells1 ≡ over cells (512 * spot.selections) (flat_map (blank_cells spot.depth) (marked plan.picked 0 (places (length os)))))
    opened-here = opens-here.opens (omega (arith, b.selections, b.fine.selections_few)) (omega (arith, p.few_scopes)) room-here

    next-is : next ≡ many
    next-is = opened-here.0 ∙ many_is

    -- the open ones in front
    old-bytes : take (512 * length st.selections) cells ≡ flat_map (put_selection os) st.selections
    unfolding scopes_then
    old-bytes =
        let f : All (SelectionFit st.scopes) st.selections =
        All-weaken (OpenSelection st.scopes (length st.names)) (SelectionFit st.scopes) (λ x g. g.fit) st.selections b.fine.selections in
        ap (take (512 * length st.selections)) (area-is st.scopes st.selections cells b.selected)
        ∙ take_at (flat_map (put_selection st.scopes) st.selections) (drop (512 * length st.selections) cells) (512 * length st.selections)
        (selections-length st.scopes st.selections f)
        ∙ bytes_same st.scopes (new_scopes s r) st.selections f

    new-length : length (flat_map (put_selection os) (picked s r)) ≡ 512 * length (picked s r)
    new-length =
        selections-length os (picked s r) (All-weaken (OpenSelection os (length (names_then s r))) (SelectionFit os) (λ x f. f.fit) (picked s r) picked_fit)

    many-parts : many ≡ length st.selections + length (picked s r)
    unfolding selections_then
    many-parts = length-append st.selections (picked s r)

    -- ALL OF THEM, and behind them what was there
    stand : cells1 ≡ flat_map (put_selection os) (selections_then s r) ++ drop (512 * many) cells
    unfolding selections_then
    stand =
        let e : 512 * length st.selections + length (flat_map (put_selection os) (picked s r)) ≡ 512 * many = omega (arith, new-length, many-parts) in
        opened-here.1
        ∙ ap₂ {C = Bytes} (λ (k : ℕ) (v : Bytes). over cells (512 * k) v) b.selections blanks-are
        ∙ ap₂ {C = Bytes} (λ (u : Bytes) (k : ℕ). u ++ (flat_map (put_selection os) (picked s r) ++ drop k cells)) old-bytes e
        ∙ sym (append_assoc (flat_map (put_selection os) st.selections) (flat_map (put_selection os) (picked s r)) (drop (512 * many) cells))
        ∙ ap (λ (z : Bytes). z ++ drop (512 * many) cells) (sym (flat_map-append (put_selection os) st.selections (picked s r)))

    selected : every (selection_in os) (parts 512 next cells1) ≡ some (selections_then s r)
    selected =
        ap₂ (λ (k : ℕ) (z : Bytes). every (selection_in os) (parts 512 k z)) next-is stand ∙ selections-back os (selections_then s r) (drop (512 * many) cells) all_fit

    left_behind : drop (512 * next) cells1 ≡ drop (512 * many) cells
    left_behind =
        ap₂ {C = Bytes} (λ (k : ℕ) (z : Bytes). drop (512 * k) z) next-is stand
        ∙ drop_at (flat_map (put_selection os) (selections_then s r)) (drop (512 * many) cells) (512 * many) (selections-length os (selections_then s r) all_fit)

    -- ---- the hits

    module _ (paths : Bytes) (long : 1024 ≤ length paths) (cells2 paths1 : Bytes)
        (t : TakesAttributes cells1 next plan.scopes names1 spot.depth defs paths rec es.first es.count cells2 paths1) where
      described : Described cells1 next plan.scopes names1 spot.depth defs paths rec es.first es.count s.defs (names_then s r) os (selections_then s r)
      unfolding start_of
      described =
          record {
            definitions = b.definitions;
            named = p.called;
            scoped = p.scoped;
            known = scopes-fit n spot scopes es rec defs reports names cells s b;
            selected = selected;
            many = next-is;
            few = omega (arith, next-is, p.few_selections);
            fit = all_fit;
            room = long;
            whole = b.whole;
            keys = b.fit.attributes;
          }

      gives : given_at rec es.first es.count ≡ start_gives (start_of r)
      gives = record-gives r rec es.first es.count refl

      fed-many : length (start_fed s r) ≡ many
      unfolding start_fed
      fed-many = length-map (selections_then s r) (feed (names_then s r) (start_gives (start_of r)))

      fed-length : length (flat_map (put_selection os) (start_fed s r)) ≡ 512 * many
      fed-length = selections-length os (start_fed s r) fed-fit ∙ ap (λ (k : ℕ). 512 * k) fed-many

      -- THE CELLS after the ES
      cells-then : cells2 ≡ over cells 0 (flat_map (put_selection os) (start_fed s r))
      unfolding start_fed
      cells-then =
          t.says s.defs (names_then s r) os (selections_then s r) described
          ∙ ap₂ {C = Bytes} (λ (g : Giving) (z : Bytes). flat_map (put_selection os) (map (feed (names_then s r) g) (selections_then s r)) ++ z) gives left_behind
          ∙ ap (λ (k : ℕ). flat_map (put_selection os) (start_fed s r) ++ drop k cells) (sym (zero-add (length (flat_map (put_selection os) (start_fed s r))) ∙ fed-length))

    -- ---- the counts

    counts-then : (running : ℕ) → running ≡ packed (counts_then spot total next plan.opened) → running ≡ pack (start_counts s r)
    unfolding start_counts
    counts-then running e =
        let scopes-mod : total % 4294967296 ≡ length os =
        omega (arith, te, as_many plan.scopes os p.scoped, p.few_scopes) in
        let selections-mod : next % 4294967296 ≡ many = omega (arith, next-is, p.few_selections) in
        let g : spot.stage ≡ suc (length (names_then s r)) = omega (arith, b.stage, longer n spot scopes es rec defs reports names cells s b) in
        e
        ∙ sym (packed-few (counts_then spot total next plan.opened) (omega (arith, few)))
        ∙ λ j. pack (record { stage = g j; scopes = scopes-mod j; selections = selections-mod j; opened = p.opens j })
      where
        few : spot.opened + plan.opened ≤ 4294967295
        few =
            let f : (start_a (defined_at s.defs) st (start_of r)).count ≤ 8 * (start_a (defined_at s.defs) st (start_of r)).events = then-fine.opened in
            unfold start_a start_of in omega (arith, p.opens, f, b.early)

  -- ---- the reports

  module _ (next : ℕ) (after : Bytes) (numbers : Bytes) (ne : numbers ≡ text_in rec es.numbers) (x : Sixes reports n.reports numbers plan.told spot.event next after) where
    abbrev told : List ℕ
    told = marked plan.told 0 r.numbers

    told-many : length (sixes s r) ≡ length told
    told-many = ap length p.told ∙ length-map told (λ i. kind_six (suc st.events) i)

    written : (next ≡ n.reports + 18 * length told) × (after ≡ over reports n.reports (writes.sixes spot.event told))
    unfolding start_of
    written =
        (subst (λ (l : Bytes). Sixes reports n.reports l plan.told spot.event next after) ne x).writes (omega (arith, b.fit.eight)) (omega (arith, told-many, p.room))

    used-then : next ≡ n.reports + 18 * length (sixes s r)
    used-then = written.0 ∙ ap (λ (k : ℕ). n.reports + 18 * k) (sym told-many)

    reports-then : after ≡ over reports n.reports (flat_map put_rp (sixes s r))
    reports-then =
        written.1
        ∙ ap (λ (e : ℕ). over reports n.reports (writes.sixes e told)) b.event
        ∙ ap (λ (l : List Report). over reports n.reports (flat_map put_rp l)) (sym p.told)

-- ---- THE WORLD AFTER THE ES

abbrev pub started : Numbers → Spot → Plan → (running reports : ℕ) → Done
started n spot plan running next =
    record {
      reply = reply.Taken;
      numbers = record { events = spot.event; running = running; definitions = n.definitions; tuples = n.tuples; reports = next };
      list = plan.scopes.list;
    }

module _ (n : Numbers) (spot : Spot) (plan : Plan) (es : Es) (rec defs names1 reports paths cells : Bytes)
    (numbers : Bytes) (ne : numbers ≡ text_in rec es.numbers) (next : ℕ) (reports1 : Bytes) (x : Sixes reports n.reports numbers plan.told spot.event next reports1)
    (total : ℕ) (te : total ≡ length (open_of plan.scopes))
    (many : ℕ) (cells1 : Bytes) (o : Opened cells spot.selections plan.picked total spot.depth many cells1)
    (cells2 paths1 : Bytes) (t : TakesAttributes cells1 many plan.scopes names1 spot.depth defs paths rec es.first es.count cells2 paths1)
    (running : ℕ) (re : running ≡ packed (counts_then spot total many plan.opened)) where
  pub writes_start : WritesStart n spot plan es rec defs names1 reports paths cells (started n spot plan running next) reports1 paths1 cells2
  writes_start =
      record {
        leaves = λ long scopes names s b p room store tuples. world long scopes names s b p room store tuples;
        taken = refl;
        scratched = t.scratched;
      }
    where
      world : 1024 ≤ length paths → (scopes : Scopes) (names : Bytes) (s : Session) → Begun n spot scopes es rec defs reports names cells s
          → Planned n spot scopes es rec reports names s plan names1 → (room : ℕ) (store tuples : Bytes)
          → world_of (started n spot plan running next).numbers plan.scopes.list room store tuples reports1 names1 cells2
          ≡ started_by (world_of n scopes.list room store tuples reports names cells) s (record_in rec es)
      world long scopes names s b p room store tuples =
          unfold started_by in λ j.
          record {
            events = (b.event ∙ ap suc (sym b.events)) j;
            running = counts-then n spot scopes es rec defs reports names cells s plan names1 b p total many te cells1 o running re j;
            definitions = n.definitions;
            tuples = n.tuples;
            reports = used-then n spot scopes es rec defs reports names cells s plan names1 b p next reports1 numbers ne x j;
            definition_store = store;
            tuple_store = tuples;
            report_store = reports-then n spot scopes es rec defs reports names cells s plan names1 b p next reports1 numbers ne x j;
            names = p.name j;
            scopes = p.listed j;
            cells = cells-then n spot scopes es rec defs reports names cells s plan names1 b p total many te cells1 o paths long cells2 paths1 t j;
            path_area = room;
          }
