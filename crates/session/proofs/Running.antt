-- The run over a buffer as the code goes through it: so far all is as the frames taken left it, and each exit is what the whole run comes to.
-- Assumes nothing.
use Prim.Native.Nat.{ℕ, ◌+◌, ◌-◌, ◌≤◌, ◌<◌}
use native.Mathlib.Nat.{add-zero}
use native.Mathlib.Omega.{arith}
use lib.ListN.{length, take, drop, length-drop}
use lib.Seq.{drop-drop}
use mathlib.Core.Path.{◌≡◌, refl, ap, sym, ◌∙◌, subst}
use mathlib.Core.Bool.{true, false}
use mathlib.Core.List.{List}
use mathlib.Core.Option.{none, some}
use Rattle.records.specs.Readers.{Bytes}
use Rattle.records.specs.Refusals.{Refusal}
use Rattle.session_spec.specs.Session as session
use Rattle.session_spec.specs.Session.{World, Session, taken, refused, decode, step}
use Rattle.open_scopes.specs.declared.Scope.{Scope}
use Rattle.open_scopes.specs.declared.Numbers.{Numbers}
use Rattle.worlds.specs.Replies as reply
use Rattle.worlds.specs.Replies.{reply_of}
use Rattle.worlds.specs.Worlds.{world_of}
use Rattle.output_stores.proofs.Walks.{standing_on, standing-stop}
use Rattle.well_formed.proofs.Decodes.{well-formed-is, unfit-is}
use Rattle.plans.proofs.Steps.{step-unfit}
use Rattle.lists.specs.Lists.{part}
use Rattle.session_spec.specs.Definitions.{frame, is_some}
use Rattle.output_stores.specs.Stores.{standing}
use Rattle.tuple_marks.specs.Marks.{with_marks, AllMarked}
use Rattle.tuple_marks.proofs.Marks.{length-marks}
use Rattle.worlds.specs.declared.Done.{Done}
use Rattle.calls.specs.declared.RunDone.{RunDone}
use Rattle.calls.specs.Calls.{done_with, Called, TakesRecord}
use Rattle.calls.specs.Buffers.{next_frame, frames_of, Ran, ran_on, run_frames}
use Rattle.calls.specs.Running.{is_taken, Runs, RunsFrames}
use Rattle.calls.proofs.Buffers.{frame-shortens, frame-is, Reached, reached-end, reached-refused, reached-more}
use Rattle.session.proofs.Marking.{marked_more}

-- ---- which reply it is

is-taken : (r : session.Reply) → is_taken r ≡ true → r ≡ taken
is-taken taken e = refl
is-taken (refused c) e = let z : ◌≡◌ {A = ℕ} 0 1 = cc in absurd (omega arith)

because : (r : session.Reply) → is_taken r ≡ false → (c : Refusal) × (r ≡ refused c)
because taken e = let z : ◌≡◌ {A = ℕ} 0 1 = cc in absurd (omega arith)
because (refused c) e = (c, refl)

not_taken : (r : reply.Reply) → is_taken (reply_of r) ≡ false → r ≡ reply.Taken → ⊥
not_taken r e q = let p : true ≡ false = ap (λ (x : reply.Reply). is_taken (reply_of x)) (sym q) ∙ e in let z : ◌≡◌ {A = ℕ} 0 1 = cc in omega arith

-- ---- all parts of a run at once

abbrev pub ran_with : reply.Reply → Numbers → List Scope → ℕ → RunDone
ran_with r n list k = record { last = done_with r n list; bytes = k }

-- what an equation with a run says of each part
ran-as : (n₀ : Numbers) (list₀ : List Scope) (buffer defs₀ tuples₀ reports₀ paths₀ names₀ cells₀ : Bytes) (r : reply.Reply) (n : Numbers) (list : List Scope) (k : ℕ) (defs tuples reports paths names cells : Bytes)
    → run_frames (world_of n₀ list₀ (length paths₀) defs₀ tuples₀ reports₀ names₀ cells₀) (frames_of buffer) ≡ record { reply = reply_of r; world = (world_of n list (length paths₀) defs tuples reports names cells); bytes = k }
    → length paths ≡ length paths₀ → drop 1024 paths ≡ drop 1024 paths₀ → (k ≡ 0 → paths ≡ paths₀)
    → Runs n₀ list₀ buffer defs₀ tuples₀ reports₀ paths₀ names₀ cells₀ (ran_with r n list k) defs tuples reports paths names cells
ran-as n₀ list₀ buffer defs₀ tuples₀ reports₀ paths₀ names₀ cells₀ r n list k defs tuples reports paths names cells e l b u =
    record {
      replies = ap (λ (x : Ran). x.reply) (sym e);
      leaves = ap (λ (x : Ran). x.world) (sym e);
      bytes = ap (λ (x : Ran). x.bytes) (sym e);
      size = l;
      behind = b;
      untaken = u;
    }

-- ---- whether the session is well formed

module _ (n : Numbers) (list : List Scope) (buffer defs tuples reports paths names cells : Bytes) where
  abbrev w : World
  w = world_of n list (length paths) defs tuples reports names cells

  -- no frame is whole
  pub unfit-none : next_frame buffer ≡ none → Runs n list buffer defs tuples reports paths names cells (ran_with reply.Taken n list 0) defs tuples reports paths names cells
  unfolding run_frames
  unfit-none e =
      ran-as n list buffer defs tuples reports paths names cells reply.Taken n list 0 defs tuples reports paths names cells (ap (run_frames w) (standing-stop next_frame frame-shortens buffer e)) refl refl (λ q. refl)

  -- the first one is refused
  pub unfit-first : false ≡ is_some (decode w) → (x rest : Bytes) → next_frame buffer ≡ some (x, rest) → Runs n list buffer defs tuples reports paths names cells (ran_with reply.Unfit n list 0) defs tuples reports paths names cells
  unfolding run_frames ran_on
  unfit-first d x rest e =
      ran-as n list buffer defs tuples reports paths names cells reply.Unfit n list 0 defs tuples reports paths names cells
      (ap (run_frames w) (standing_on next_frame frame-shortens buffer x rest e)
      ∙ ap (λ (o : session.Reply × World). ran_on o (length x) (λ u. run_frames u (frames_of rest))) (step-unfit w x (unfit-is w d)))
      refl refl (λ q. refl)

  -- one that decodes
  pub found-runs : (r : RunDone) (defs' tuples' reports' paths' names' cells' : Bytes) → true ≡ is_some (decode w)
      → RunsFrames n list buffer defs tuples reports paths names cells r defs' tuples' reports' paths' names' cells'
      → Runs n list buffer defs tuples reports paths names cells r defs' tuples' reports' paths' names' cells'
  found-runs r defs' tuples' reports' paths' names' cells' h t = let z = well-formed-is w h in t.runs z.0 z.1

-- ---- frame by frame

-- `at` bytes are taken and `rest` is behind them, all that is lent is as the frames taken left it, and all its tuples are marked
pub record SoFar (n₀ : Numbers) (list₀ : List Scope) (buffer defs₀ tuples₀ reports₀ paths₀ names₀ cells₀ : Bytes) (marks₀ : List ℕ) (n : Numbers) (list : List Scope) (at : ℕ) (rest defs tuples reports paths names cells : Bytes) (marks : List ℕ) : Type 0 where
  pub within : at ≤ length buffer
  pub left : rest ≡ drop at buffer
  pub long-defs : length defs ≡ length defs₀
  pub long-tuples : length tuples ≡ length tuples₀
  pub long-reports : length reports ≡ length reports₀
  pub long-paths : length paths ≡ length paths₀
  pub long-names : length names ≡ length names₀
  pub long-cells : length cells ≡ length cells₀
  pub long-marks : length marks ≡ length marks₀
  pub reached : AllMarked marks₀ (take n₀.tuples tuples₀) → (s : Session) → decode (world_of n₀ list₀ (length paths₀) defs₀ tuples₀ reports₀ names₀ cells₀) ≡ some s → Reached (world_of n₀ list₀ (length paths₀) defs₀ tuples₀ reports₀ names₀ cells₀) buffer at (world_of n list (length paths) defs tuples reports names cells)
  pub marked : AllMarked marks₀ (take n₀.tuples tuples₀) → (s : Session) → decode (world_of n₀ list₀ (length paths₀) defs₀ tuples₀ reports₀ names₀ cells₀) ≡ some s → AllMarked marks (take n.tuples tuples)
  pub behind : AllMarked marks₀ (take n₀.tuples tuples₀) → (s : Session) → decode (world_of n₀ list₀ (length paths₀) defs₀ tuples₀ reports₀ names₀ cells₀) ≡ some s → drop 1024 paths ≡ drop 1024 paths₀
  pub untouched : at ≡ 0 → paths ≡ paths₀

module _ (n₀ : Numbers) (list₀ : List Scope) (buffer defs₀ tuples₀ reports₀ paths₀ names₀ cells₀ : Bytes) (marks₀ : List ℕ) where
  -- the tuples that were there are marked
  abbrev Ready : Type 0
  Ready = AllMarked marks₀ (take n₀.tuples tuples₀)

  abbrev begun : World
  begun = world_of n₀ list₀ (length paths₀) defs₀ tuples₀ reports₀ names₀ cells₀

  module _ (n : Numbers) (list : List Scope) (at : ℕ) (rest defs tuples reports paths names cells : Bytes) (marks : List ℕ) (so : SoFar n₀ list₀ buffer defs₀ tuples₀ reports₀ paths₀ names₀ cells₀ marks₀ n list at rest defs tuples reports paths names cells marks) where
    abbrev here : World
    here = world_of n list (length paths) defs tuples reports names cells

    -- no frame is whole any more
    pub so-far-end : next_frame rest ≡ none → Ready → RunsFrames n₀ list₀ buffer defs₀ tuples₀ reports₀ paths₀ names₀ cells₀ (ran_with reply.Taken n list at) defs tuples reports paths names cells
    so-far-end e m =
        record {
          runs = λ s d.
              ran-as n₀ list₀ buffer defs₀ tuples₀ reports₀ paths₀ names₀ cells₀ reply.Taken n list at defs tuples reports paths names cells
              (reached-end begun buffer at here (so.reached m s d) (ap next_frame (sym so.left) ∙ e)
              ∙ (λ i. record { reply = taken; world = world_of n list (so.long-paths i) defs tuples reports names cells; bytes = add-zero at i }))
              so.long-paths (so.behind m s d) so.untouched;
        }

    module _ (rec behind : Bytes) (e : next_frame rest ≡ some (rec, behind)) where
      front : next_frame (drop at buffer) ≡ some (rec, behind)
      front = ap next_frame (sym so.left) ∙ e

      pub inside-buffer : at + length rec ≤ length buffer
      inside-buffer = omega (arith, so.within, (frame-is (drop at buffer) rec behind front).inside, length-drop at buffer)

      -- less is left behind it
      pub less-left : length behind < length rest
      less-left = frame-shortens rest rec behind e

      module _ (r : Done) (defs' tuples' reports' paths' names' cells' : Bytes)
          (t : AllMarked marks (take n.tuples tuples) → TakesRecord n list rec defs tuples reports paths names cells r defs' tuples' reports' paths' names' cells') where
        -- the world that the frame leaves
        abbrev there : World
        there = world_of r.numbers r.list (length paths) defs' tuples' reports' names' cells'

        took : Ready → (s : Session) → decode begun ≡ some s → Called n list rec defs tuples reports paths names cells r defs' tuples' reports' paths' names' cells'
        took m s d = (t (so.marked m s d)).takes (so.reached m s d).session (so.reached m s d).decodes

        steps : (m : Ready) (s : Session) (d : decode begun ≡ some s) (o : session.Reply) → reply_of r.reply ≡ o → step here rec ≡ (o, there)
        steps m s d o p = λ i. ((sym (took m s d).calls.replies ∙ p) i, sym (took m s d).calls.leaves i)

        -- it is refused
        pub so-far-refused : false ≡ is_taken (reply_of r.reply) → length paths' ≡ length paths → Ready
            → RunsFrames n₀ list₀ buffer defs₀ tuples₀ reports₀ paths₀ names₀ cells₀ (ran_with r.reply r.numbers r.list at) defs' tuples' reports' paths' names' cells'
        so-far-refused f k m =
            let c = because (reply_of r.reply) (sym f) in
            record {
              runs = λ s d.
                  ran-as n₀ list₀ buffer defs₀ tuples₀ reports₀ paths₀ names₀ cells₀ r.reply r.numbers r.list at defs' tuples' reports' paths' names' cells'
                  (reached-refused begun buffer at here (so.reached m s d) rec behind front c.0 there (steps m s d (refused c.0) c.1)
                  ∙ (λ i. record { reply = sym c.1 i; world = world_of r.numbers r.list (so.long-paths i) defs' tuples' reports' names' cells'; bytes = add-zero at i }))
                  (k ∙ so.long-paths) ((took m s d).area.behind ∙ so.behind m s d) (λ q. (took m s d).area.kept (not_taken r.reply (sym f)) ∙ so.untouched q);
            }

        -- it is taken
        pub so_far_more : true ≡ is_taken (reply_of r.reply)
            → length defs' ≡ length defs
            → length tuples' ≡ length tuples
            → length reports' ≡ length reports
            → length paths' ≡ length paths
            → length names' ≡ length names
            → length cells' ≡ length cells
            → (marks' : List ℕ) → marks' ≡ with_marks marks (standing frame (part tuples' n.tuples (r.numbers.tuples - n.tuples)))
            → SoFar n₀ list₀ buffer defs₀ tuples₀ reports₀ paths₀ names₀ cells₀ marks₀ r.numbers r.list (at + length rec) behind defs' tuples' reports' paths' names' cells' marks'
        so_far_more f kde ktu kre kpa kna kce marks' mk =
            record {
              within = inside-buffer;
              left = (frame-is (drop at buffer) rec behind front).behind ∙ drop-drop (length rec) at buffer;
              long-defs = kde ∙ so.long-defs;
              long-tuples = ktu ∙ so.long-tuples;
              long-reports = kre ∙ so.long-reports;
              long-paths = kpa ∙ so.long-paths;
              long-names = kna ∙ so.long-names;
              long-cells = kce ∙ so.long-cells;
              long-marks = ap length mk ∙ length-marks (standing frame (part tuples' n.tuples (r.numbers.tuples - n.tuples))) marks ∙ so.long-marks;
              reached = λ m s d.
                  subst (λ (k : ℕ). Reached begun buffer (at + length rec) (world_of r.numbers r.list k defs' tuples' reports' names' cells')) (sym kpa)
                  (reached-more begun buffer at here (so.reached m s d) rec behind front there (steps m s d taken (is-taken (reply_of r.reply) (sym f))));
              marked = λ m s d.
                  marked_more here (so.reached m s d).session rec (so.reached m s d).decodes there (took m s d).calls.leaves marks marks' mk (so.marked m s d);
              behind = λ m s d. (took m s d).area.behind ∙ so.behind m s d;
              untouched = λ q. absurd (let l = (frame-is (drop at buffer) rec behind front).long in omega (arith, q));
            }
