-- A call on an ES is `step`: what counts alone tell is what the first rows of an ES ask of the session, and what the element then comes to is what the other rows and
-- the world after it say. A refusal puts back what was tried out.
-- Assumes nothing.
use Prim.Native.Nat.{ℕ, suc, ◌+◌, ◌*◌, ◌%◌, ◌≤◌}
use native.Mathlib.Omega.{arith}
use borrow.Author.Tests.{lt-ltb}
use lib.Dec.{eqb, leb, ltb}
use lib.ListN.{length, take, drop}
use mathlib.Core.Path.{◌≡◌, refl, ap, ap₂, sym, ◌∙◌, subst}
use mathlib.Core.Bool.{Bool, true, false}
use mathlib.Core.List.{List, [], ◌∷◌, ◌++◌, map}
use mathlib.Core.Option.{none, some}
use Rattle.std.proofs.lemmas.List.{take-map}
use Rattle.lists.specs.Lists.{any, part, put}
use Rattle.lists.proofs.Folds.{length-snoc}
use Rattle.lists.proofs.Places.{all_true}
use Rattle.lists.proofs.Writes.{length-put}
use Rattle.paths.specs.Reading.{on_some}
use Rattle.records.specs.Readers.{Bytes, reads}
use Rattle.records.specs.Refusals.{Refusal, out_of_place, too_many_events, undefined, too_deep, too_many_scopes, too_many_selections, reports_full, Row, first_of}
use Rattle.records.specs.Records.{EsRecord, ES, parsed, parse}
use Rattle.record_places.specs.declared.Es.{Es}
use Rattle.record_places.specs.Places.{text_in, es_in, InsideEs}
use Rattle.session_spec.specs.Definitions.{read_definitions, is_undefined, is_definition}
use Rattle.session_spec.specs.Layout.{Counts, pad, unpack, read_rp, put_scope}
use Rattle.session_spec.specs.Session.{World, Session, start_of, stage_of, depth_of, stage_number, misplaced, counts_of, rp_fits, reports_in, decode, step, Reply, taken, refused}
use Rattle.session_laws.proofs.Outs.{ReportFit}
use Rattle.session_laws.proofs.Limits.{limited, start-fit}
use Rattle.session_laws.proofs.Holds.{Holds, stage-depth, counts-back, defs-read, stage-done}
use Rattle.runs.proofs.WellFormed.{well-formed}
use Rattle.constraints.specs.Constraints.{count_in}
use Rattle.constraints.proofs.Stored.{count-is}
use Rattle.open_scopes.specs.declared.Scope.{Scope}
use Rattle.open_scopes.specs.declared.Scopes.{Scopes}
use Rattle.open_scopes.specs.declared.Counts as code
use Rattle.open_scopes.specs.declared.Numbers.{Numbers}
use Rattle.open_scopes.specs.OpenScopes.{record_of, open_of, records_of}
use Rattle.open_scopes.specs.Counting.{as_counts}
use Rattle.worlds.specs.declared.SessionRefusal.{SessionRefusal}
use Rattle.worlds.specs.Replies as answer
use Rattle.worlds.specs.Replies.{because_of_session, reason_of, reply_of, refusal}
use Rattle.worlds.specs.Worlds.{world_of}
use Rattle.path_area.proofs.Scratch.{put_back}
use Rattle.plans.specs.Plans.{answered, names_then, scopes_then, selections_then, sixes, start_rows, started_by}
use Rattle.plans.proofs.Steps.{step-es}
use Rattle.std.specs.declared.result.Result.{Result}
use Rattle.std.specs.declared.result.Result.TheVariants.{Ok, Err}
use Rattle.worlds.specs.declared.Done.{Done}
use Rattle.event_answers.specs.declared.Spot.{Spot}
use Rattle.event_answers.specs.declared.Plan.{Plan}
use Rattle.event_answers.specs.StartRows.{place_rows, path_rows}
use Rattle.event_answers.specs.StartSteps.{record_in, Begun, Considers, WritesStart, StartsElement}
use Rattle.event_answers.specs.Starting.{TakesEs}
use Rattle.starting.proofs.Placing.{Free, free}
use Rattle.starting.proofs.Places.{whole-kept}

-- ---- an element whose place and numbers are good

module _ (n : Numbers) (spot : Spot) (scopes : Scopes) (es : Es) (rec defs reports paths names cells : Bytes) (plan : Result Plan SessionRefusal) (paths1 names1 : Bytes)
    (c : Considers n spot scopes es rec defs reports paths names plan paths1 names1) where
  -- refused: the bytes are put back
  pub refuses-element : (q : SessionRefusal) → plan ≡ Err q → (saved kept paths2 names2 : Bytes) → saved ≡ pad 1024 (take 1024 paths)
      → kept ≡ pad 514 (part names (514 * spot.above) 514) → paths2 ≡ put paths1 0 saved → names2 ≡ put names1 (514 * spot.above) kept
      → (r : Done) → r ≡ refusal n scopes.list q → StartsElement n spot scopes es rec defs reports paths names cells r reports paths2 names2 cells
  unfolding answered
  refuses-element q e saved kept paths2 names2 se ke pe ne r re =
      subst (λ (x : Done). StartsElement n spot scopes es rec defs reports paths names cells x reports paths2 names2 cells) (sym re)
      (record {
        leaves = λ long s b room store tuples.
            let w : World = world_of n scopes.list room store tuples reports names cells in
            let k : first_of (path_rows s (record_in rec es) n.reports (length reports)) ≡ some (because_of_session q) = sym (c.decides long cells s b) ∙ ap reason_of e in
            ap (λ (l : Bytes). (refused (because_of_session q), world_of n scopes.list room store tuples reports l cells)) (names-back s b)
            ∙ ap (answered w (started_by w s (record_in rec es))) (sym k);
        area = λ long.
            record {
              size = ap length pe ∙ length-put paths1 0 saved ∙ c.scratched.size;
              behind = ap (drop 1024) (paths-back long);
              kept = λ _. paths-back long;
            };
      })
    where
      paths-back : 1024 ≤ length paths → paths2 ≡ paths
      paths-back long = pe ∙ ap (put paths1 0) se ∙ put_back paths paths1 long c.scratched

      names-back : (s : Session) → Begun n spot scopes es rec defs reports names cells s → names2 ≡ names
      names-back s b =
          ne
          ∙ ap (put names1 (514 * spot.above)) (ke ∙ whole-kept names (514 * spot.above) (omega (arith, b.above, b.deep, b.names_long)))
          ∙ c.backs cells s b

  -- carried out
  pub starts-element : (p : Plan) → plan ≡ Ok p → (r : Done) (reports1 paths2 cells1 : Bytes)
      → WritesStart n spot p es rec defs names1 reports paths1 cells r reports1 paths2 cells1
      → StartsElement n spot scopes es rec defs reports paths names cells r reports1 paths2 names1 cells1
  unfolding answered
  starts-element p e r reports1 paths2 cells1 w =
      record {
        leaves = λ long s b room store tuples.
            let v : World = world_of n scopes.list room store tuples reports names cells in
            let k : first_of (path_rows s (record_in rec es) n.reports (length reports)) ≡ none = sym (c.decides long cells s b) ∙ ap reason_of e in
            ap₂ (λ (x : answer.Reply) (y : World). (reply_of x, y)) w.taken (w.leaves (omega (arith, c.scratched.size)) scopes names s b (c.plans long cells s b p e) room store tuples)
            ∙ ap (answered v (started_by v s (record_in rec es))) (sym k);
        area = λ long. record { size = w.scratched.size ∙ c.scratched.size; behind = w.scratched.behind ∙ c.scratched.behind; kept = λ f. absurd (f w.taken) };
      }

-- ---- rows in front of others

front-holds : (q : Refusal) (xs ys : List Row) → first_of xs ≡ some q → first_of (xs ++ ys) ≡ some q
unfolding first_of
front-holds q [] ys h = let z : ◌≡◌ {A = ℕ} 0 1 = cc in absurd (omega arith)
front-holds q ((true, c) ∷ xs) ys h = h
front-holds q ((false, c) ∷ xs) ys h = front-holds q xs ys h

front-clear : (xs ys : List Row) → first_of xs ≡ none → first_of (xs ++ ys) ≡ first_of ys
unfolding first_of
front-clear [] ys h = refl
front-clear ((true, c) ∷ xs) ys h = let z : ◌≡◌ {A = ℕ} 0 1 = cc in absurd (omega arith)
front-clear ((false, c) ∷ xs) ys h = front-clear xs ys h

-- ---- THE CALL

abbrev pub spot_of : Numbers → code.Counts → (above : ℕ) → Spot
spot_of n c above =
    record { event = n.events + 1; above = above; depth = above + 1; stage = above + 2; selections = c.selections; opened = c.opened % 4294967296 }

abbrev pub open_in : List Scope → code.Counts → Scopes
open_in list c = record { list = list; n = c.scopes }

module _ (n : Numbers) (list : List Scope) (es : Es) (rec defs reports paths names cells : Bytes) (c : code.Counts) (u : as_counts c ≡ unpack n.running)
    (used : Bytes) (ue : used ≡ take n.definitions defs) (numbers : Bytes) (ne : numbers ≡ text_in rec es.numbers) (count : ℕ) (ce : count ≡ count_in used)
    (absent : Bool) (ae : absent ≡ any (λ i. leb count i) numbers) (decision : Result (Unit {0}) SessionRefusal) (de : reason_of decision ≡ first_of (place_rows c.stage n.events absent)) where
  abbrev r : EsRecord
  r = record_in rec es

  module _ (tuples : Bytes) (s : Session) (dec : decode (world_of n list (length paths) defs tuples reports names cells) ≡ some s) where
    abbrev w : World
    w = world_of n list (length paths) defs tuples reports names cells

    -- named so in three modules, of an EE, an ES and an FI: one law for all is handed the facts, and is no plainer
    holds : Holds w s
    holds = well-formed w s dec

    known : read_definitions used ≡ some s.defs
    known = ap read_definitions ue ∙ defs-read w s holds

    counts-are : as_counts c ≡ counts_of s
    counts-are = u ∙ counts-back w s holds

    stage_is : c.stage ≡ stage_number s.stage (length s.state.names)
    unfolding counts_of
    stage_is = ap (λ (x : Counts). x.stage) counts-are

    -- 14: the open elements
    depth_is : depth_of (stage_of c.stage) c.stage ≡ length s.state.names
    depth_is = ap (λ (k : ℕ). depth_of (stage_of k) k) stage_is ∙ stage-depth s.stage s.state holds.stage holds.fine.deep

    absent-is : is_undefined (ES r) s.defs ≡ absent
    unfolding is_undefined
    absent-is =
        sym (ae
        ∙ ap (any (λ (i : ℕ). leb count i)) ne
        ∙ ap (λ (k : ℕ). any (λ (i : ℕ). leb k i) r.numbers) (ce ∙ count-is used s.defs known))

    place_is : misplaced s.stage (ES r) ≡ eqb c.stage 66
    place_is = stage-done s.stage (ES r) (length s.state.names) (unfold is_definition in refl) holds.fine.deep ∙ ap (λ (k : ℕ). eqb k 66) (sym stage_is)

    deep_is : length (names_then s r) ≡ suc (depth_of (stage_of c.stage) c.stage)
    unfolding names_then
    deep_is = length-snoc s.state.names (start_of r).name ∙ ap suc (sym depth_is)

    -- the rows of an ES
    rows_are : start_rows w s r ≡ place_rows c.stage n.events absent ++ path_rows s r n.reports (length reports)
    unfolding start_rows place_rows path_rows
    rows_are = λ j.
        (place_is j, out_of_place)
        ∷ (leb 1000000 n.events, too_many_events)
        ∷ (absent-is j, undefined)
        ∷ (ltb 64 (deep_is j), too_deep)
        ∷ (ltb 16 (length (scopes_then s r)), too_many_scopes)
        ∷ (ltb 32 (length (selections_then s r)), too_many_selections)
        ∷ (ltb (length reports) (n.reports + 18 * length (sixes s r)), reports_full)
        ∷ []

    step_is : parse rec ≡ parsed (es_in rec es) → step w rec ≡ answered w (started_by w s r) (first_of (start_rows w s r))
    unfolding es_in
    step_is p = step-es w rec s dec r p

    reported : on_some (reads read_rp (take n.reports reports)) (reports_in s.defs) ≡ some s.state.out.reports
    unfolding on_some reports_in
    reported =
        rw (
          holds.reports.read,
          all_true (rp_fits s.defs) (ReportFit s.defs) (λ x f. unfold rp_fits in lt-ltb x.constraint (length s.defs.ids) f) s.state.out.reports holds.fine.out.reports,
        )

    scoped : records_of (open_in list c) ≡ map put_scope s.state.scopes
    unfolding records_of open_of counts_of
    scoped =
        sym (take-map record_of c.scopes list)
        ∙ ap (λ (k : ℕ). take k (map record_of list)) (ap (λ (x : Counts). x.scopes) counts-are)
        ∙ holds.scopes

    begun : (above : ℕ) → above ≡ depth_of (stage_of c.stage) c.stage → Free c.stage n.events absent → length list ≡ 16
        → parse rec ≡ parsed (es_in rec es) → InsideEs rec es
        → Begun n (spot_of n c above) (open_in list c) es rec used reports names cells s
    unfolding es_in counts_of
    begun above a f sixteen p inside =
        let o : c.opened ≡ s.state.count = ap (λ (x : Counts). x.opened) counts-are in
        record {
          definitions = known;
          defs_fit = holds.defs_fit;
          fine = holds.fine;
          fit = start-fit s.defs r (limited rec (ES r) p) (absent-is ∙ f.defined);
          whole = inside.whole;
          events = holds.events;
          early = omega (arith, f.few, holds.events);
          event = omega (arith, holds.events);
          above = a ∙ depth_is;
          depth = omega (arith, a, depth_is);
          stage = omega (arith, a, depth_is);
          selections = ap (λ (x : Counts). x.selections) counts-are;
          opened = omega (arith, o, holds.fine.opened, holds.early);
          held = ap (λ (x : Counts). x.scopes) counts-are;
          sixteen = sixteen;
          deep = omega (arith, f.deep, depth_is);
          names_long = holds.areas.names;
          cells_long = holds.areas.cells;
          named = holds.names;
          scoped = scoped;
          selected = holds.cells;
          reported = reported;
        }

  -- refused before any path is read
  pub takes-refused : (q : SessionRefusal) → decision ≡ Err q → (d : Done) → d ≡ refusal n list q → TakesEs n list es rec defs reports paths names cells d reports paths names cells
  unfolding answered
  takes-refused q e d re =
      subst (λ (x : Done). TakesEs n list es rec defs reports paths names cells x reports paths names cells) (sym re)
      (record {
        steps = λ tuples s dec p inside.
            let v : World = world_of n list (length paths) defs tuples reports names cells in
            let k : first_of (start_rows v s r) ≡ some (because_of_session q) =
            ap first_of (rows_are tuples s dec)
            ∙ front-holds (because_of_session q) (place_rows c.stage n.events absent) (path_rows s r n.reports (length reports)) (sym de ∙ ap reason_of e) in
            sym (step_is tuples s dec p ∙ ap (answered v (started_by v s r)) k);
        area = λ long. record { size = refl; behind = refl; kept = λ _. refl };
      })

  module _ (e : decision ≡ Ok tt) where
    pub free-to : Free c.stage n.events absent
    free-to = free c.stage n.events absent (sym de ∙ ap reason_of e)

    pub takes-es : (above : ℕ) → above ≡ depth_of (stage_of c.stage) c.stage → length list ≡ 16 → (d : Done) (reports1 paths1 names1 cells1 : Bytes)
        → StartsElement n (spot_of n c above) (open_in list c) es rec used reports paths names cells d reports1 paths1 names1 cells1
        → TakesEs n list es rec defs reports paths names cells d reports1 paths1 names1 cells1
    takes-es above a sixteen d reports1 paths1 names1 cells1 x =
        record {
          steps = λ tuples s dec p inside.
              let v : World = world_of n list (length paths) defs tuples reports names cells in
              x.leaves (omega (arith, (holds tuples s dec).areas.paths)) s (begun tuples s dec above a free-to sixteen p inside) (length paths) defs tuples
              ∙ ap (answered v (started_by v s r))
              (sym (ap first_of (rows_are tuples s dec)
              ∙ front-clear (place_rows c.stage n.events absent) (path_rows s r n.reports (length reports)) (sym de ∙ ap reason_of e)))
              ∙ sym (step_is tuples s dec p);
          area = x.area;
        }
