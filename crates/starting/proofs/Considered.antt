-- What each answer of `consider` says of the session: the tests that led there are the rows of the paths, in their order.
-- Assumes nothing.
use Prim.Native.Nat.{ℕ, ◌+◌, ◌*◌, ◌≤◌}
use native.Mathlib.Omega.{arith}
use lib.Dec.{ltb}
use lib.ListN.{length, take}
use borrow.Author.Tests.{ltb-false}
use mathlib.Core.Path.{◌≡◌, refl, ap, ap₂, sym, ◌∙◌, subst}
use mathlib.Core.Bool.{Bool, true, false, cond}
use mathlib.Core.Option.{some}
use Rattle.std.specs.declared.result.Result.TheVariants.{Ok, Err}
use Rattle.lists.specs.Lists.{part, over, put}
use Rattle.lists.proofs.Writes.{length-put}
use Rattle.paths.specs.Names.{Name, name_of}
use Rattle.paths.specs.Reading.{every}
use Rattle.records.specs.Readers.{Bytes}
use Rattle.records.specs.Refusals.{first_of}
use Rattle.records.specs.Records.{EsRecord}
use Rattle.record_places.specs.declared.Es.{Es}
use Rattle.record_places.specs.Places.{text_in}
use Rattle.session_spec.specs.Layout.{put_name, parts, name_in}
use Rattle.session_spec.specs.Session.{Session, start_of}
use Rattle.open_names.specs.OpenNames.{short, with_name}
use Rattle.open_scopes.specs.declared.Scopes.{Scopes}
use Rattle.open_scopes.specs.declared.Numbers.{Numbers}
use Rattle.worlds.specs.declared.SessionRefusal.{SessionRefusal}
use Rattle.worlds.specs.declared.SessionRefusal.TheVariants.{TooManyScopes, TooManySelections, ReportsFull}
use Rattle.path_area.specs.Scratch.{Scratched}
use Rattle.path_area.proofs.Scratch.{scratch-then}
use Rattle.plans.specs.Plans.{names_then, scopes_then, selections_then, sixes}
use Rattle.cells.proofs.Writes.{put_same}
use Rattle.start_places.specs.StartPass.{Places, Reading, Opens, Tells, Selecting, Picks}
use Rattle.std.specs.Prelude.{count_ones}
use Rattle.start_writes.specs.Writes.{PushedBy}
use Rattle.event_answers.specs.declared.Spot.{Spot}
use Rattle.event_answers.specs.declared.Plan.{Plan}
use Rattle.event_answers.specs.StartRows.{path_rows}
use Rattle.event_answers.specs.StartSteps.{record_in, Begun, Planned, Considers}
use Rattle.starting.proofs.Planning.{numbers-listed, name-written, name-read, name_back, scopes-fit, opens-are, scopes-many, scoped-then, listed_then, sixes-are, sixes-many, selections-many}

pub name-size : (names : Bytes) (depth : ℕ) (name : Name) → length (with_name names depth name) ≡ length names
unfolding with_name
name-size names depth name = by (short name)
  where
    by : (b : Bool) → length (cond b (put names (514 * depth) (put_name name)) names) ≡ length names
    by true = length-put names (514 * depth) (put_name name)
    by false = refl

module _ (n : Numbers) (spot : Spot) (scopes : Scopes) (es : Es) (rec defs reports paths names : Bytes) (numbers : Bytes) (ne : numbers ≡ text_in rec es.numbers)
    (reading : ℕ) (paths1 : Bytes) (o : Opens defs numbers paths reading paths1) (wide : Bool) (we : wide ≡ ltb 16 (scopes.n + count_ones reading)) where
  abbrev r : EsRecord
  r = record_in rec es

  opens-here : Opens defs r.numbers paths reading paths1
  opens-here = subst (λ (l : Bytes). Opens defs l paths reading paths1) ne o

  module _ (long : 1024 ≤ length paths) (cells : Bytes) (s : Session) (b : Begun n spot scopes es rec defs reports names cells s) where
    is-read : Reading s.defs r.numbers reading
    is-read = opens-here.says long s.defs b.definitions (numbers-listed n spot scopes es rec defs reports names cells s b)

    wide_is : wide ≡ ltb 16 (length (scopes_then s r))
    wide_is =
        we
        ∙ ap (λ (k : ℕ). ltb 16 (scopes.n + k)) opens-here.places.counted
        ∙ ap (ltb 16) (sym (scopes-many n spot scopes es rec defs reports names cells s b reading is-read))

  -- 14: scopes
  pub scopes-refused : wide ≡ true → Considers n spot scopes es rec defs reports paths names (Err TooManyScopes) paths1 names
  unfolding path_rows first_of
  scopes-refused w =
      record {
        decides = λ long cells s b. rw (sym (wide_is long cells s b) ∙ w);
        plans = λ long cells s b p q. let z : ◌≡◌ {A = ℕ} 0 1 = cc in absurd (omega arith);
        backs = λ cells s b. put_same names (514 * spot.above) 514;
        scratched = o.scratched;
        size = refl;
      }

  module _ (w : wide ≡ false) (then : Scopes) (p : PushedBy scopes numbers reading spot.opened spot.depth then)
      (space name : Bytes) (se : space ≡ text_in rec es.space) (qe : name ≡ text_in rec es.name)
      (names1 : Bytes) (wn : names1 ≡ with_name names spot.above (name_of space name)) (selecting : ℕ) (paths2 : Bytes)
      (k : Picks defs then names1 spot.depth paths1 selecting paths2) (many : Bool) (me : many ≡ ltb 32 (spot.selections + count_ones selecting)) where
    sized : length names1 ≡ length names
    sized = ap length wn ∙ name-size names spot.above (name_of space name)

    scratched : Scratched paths paths2
    scratched = scratch-then paths paths1 paths2 o.scratched k.scratched

    named : names1 ≡ with_name names spot.above (start_of r).name
    unfolding start_of
    named = wn ∙ ap₂ (λ (x y : Bytes). with_name names spot.above (name_of x y)) se qe

    pushed-here : PushedBy scopes r.numbers reading spot.opened spot.depth then
    pushed-here = subst (λ (l : Bytes). PushedBy scopes l reading spot.opened spot.depth then) ne p

    module _ (cells : Bytes) (s : Session) (b : Begun n spot scopes es rec defs reports names cells s) where
      name-is : names1 ≡ over names (514 * length s.state.names) (put_name (start_of r).name)
      name-is = named ∙ name-written n spot scopes es rec defs reports names cells s b

      called : every name_in (parts 514 spot.depth names1) ≡ some (names_then s r)
      called = ap (λ (l : Bytes). every name_in (parts 514 spot.depth l)) name-is ∙ name-read n spot scopes es rec defs reports names cells s b

      back : put names1 (514 * spot.above) (part names (514 * spot.above) 514) ≡ names
      back = ap (λ (l : Bytes). put l (514 * spot.above) (part names (514 * spot.above) 514)) name-is ∙ name_back n spot scopes es rec defs reports names cells s b

      module _ (long : 1024 ≤ length paths) where
        few : length (scopes_then s r) ≤ 16
        few = ltb-false 16 (length (scopes_then s r)) (sym (wide_is long cells s b) ∙ w)

        rd : Reading s.defs r.numbers reading
        rd = is-read long cells s b

        picked-here : Selecting (names_then s r) (scopes_then s r) selecting × Places (scopes_then s r) selecting
        picked-here =
            k.says (omega (arith, o.scratched.size)) s.defs b.definitions (names_then s r) called (scopes_then s r)
            (scoped-then n spot scopes es rec defs reports names cells s b reading rd few then pushed-here)
            (scopes-fit n spot scopes es rec defs reports names cells s b)

        many_is : many ≡ ltb 32 (length (selections_then s r))
        many_is =
            me
            ∙ ap (λ (x : ℕ). ltb 32 (spot.selections + x)) picked-here.1.counted
            ∙ ap (ltb 32) (sym (selections-many n spot scopes es rec defs reports names cells s b selecting picked-here.0))

    -- 14: selections
    pub selections-refused : many ≡ true → Considers n spot scopes es rec defs reports paths names (Err TooManySelections) paths2 names1
    unfolding path_rows first_of
    selections-refused m =
        record {
          decides = λ long cells s b. rw (sym (wide_is long cells s b) ∙ w, sym (many_is cells s b long) ∙ m);
          plans = λ long cells s b p q. let z : ◌≡◌ {A = ℕ} 0 1 = cc in absurd (omega arith);
          backs = λ cells s b. back cells s b;
          scratched = scratched;
          size = sized;
        }

    module _ (m : many ≡ false) (used : Bytes) (ue : used ≡ take n.reports reports) (failing : ℕ) (t : Tells defs numbers reading used failing)
        (full : Bool) (fe : full ≡ ltb (length reports) (n.reports + 18 * count_ones failing)) where
      tells-here : Tells defs r.numbers reading used failing
      tells-here = subst (λ (l : Bytes). Tells defs l reading used failing) ne t

      module _ (long : 1024 ≤ length paths) (cells : Bytes) (s : Session) (b : Begun n spot scopes es rec defs reports names cells s) where
        full_is : full ≡ ltb (length reports) (n.reports + 18 * length (sixes s r))
        full_is =
            fe
            ∙ ap (λ (x : ℕ). ltb (length reports) (n.reports + 18 * x))
            (sym (sixes-many n spot scopes es rec defs reports names cells s b reading (is-read long cells s b) failing used ue tells-here))

      -- 16
      pub reports-refused : full ≡ true → Considers n spot scopes es rec defs reports paths names (Err ReportsFull) paths2 names1
      unfolding path_rows first_of
      reports-refused f =
          record {
            decides = λ long cells s b. rw (sym (wide_is long cells s b) ∙ w, sym (many_is cells s b long) ∙ m, sym (full_is long cells s b) ∙ f);
            plans = λ long cells s b p q. let z : ◌≡◌ {A = ℕ} 0 1 = cc in absurd (omega arith);
            backs = λ cells s b. back cells s b;
            scratched = scratched;
            size = sized;
          }

      abbrev clear : Plan
      clear = record { scopes = then; opened = count_ones reading; picked = selecting; told = failing }

      -- nothing stands against it
      pub planned : full ≡ false → Considers n spot scopes es rec defs reports paths names (Ok clear) paths2 names1
      unfolding path_rows first_of
      planned f =
          record {
            decides = λ long cells s b. sym (rw (sym (wide_is long cells s b) ∙ w, sym (many_is cells s b long) ∙ m, sym (full_is long cells s b) ∙ f));
            plans = λ long cells s b p q.
                let same : clear ≡ p = cc in
                subst (λ (x : Plan). Planned n spot scopes es rec reports names s x names1) same (plans long cells s b);
            backs = λ cells s b. back cells s b;
            scratched = scratched;
            size = sized;
          }
        where
          plans : (long : 1024 ≤ length paths) (cells : Bytes) (s : Session) → Begun n spot scopes es rec defs reports names cells s
              → Planned n spot scopes es rec reports names s clear names1
          plans long cells s b =
              record {
                name = name-is cells s b;
                called = called cells s b;
                scoped = scoped-then n spot scopes es rec defs reports names cells s b reading (is-read long cells s b) (few cells s b long) then pushed-here;
                listed = listed_then n spot scopes es rec defs reports names cells s b reading (is-read long cells s b) (few cells s b long) then pushed-here;
                opens =
                    ap₂ (λ (x y : ℕ). x + y) b.opened opens-here.places.counted
                    ∙ sym (opens-are n spot scopes es rec defs reports names cells s b reading (is-read long cells s b));
                selecting = (picked-here cells s b long).0;
                told = sixes-are n spot scopes es rec defs reports names cells s b reading (is-read long cells s b) failing used ue tells-here;
                few_scopes = few cells s b long;
                few_selections = ltb-false 32 (length (selections_then s r)) (sym (many_is cells s b long) ∙ m);
                room = ltb-false (length reports) (n.reports + 18 * length (sixes s r)) (sym (full_is long cells s b) ∙ f);
              }
