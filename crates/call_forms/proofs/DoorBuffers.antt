-- The promise of the run over a buffer at its door, from the library's: with too short a scope list the first record is refused; where no byte was taken all is as it was, else the scopes that were stored are
-- loaded again.
-- Assumes nothing.
use Prim.Native.Nat.{ℕ, ◌≤◌, ◌<◌}
use lib.Dec.{eqb}
use lib.ListN.{length}
use borrow.Author.Tests.{eqb-true, eqb-false}
use mathlib.Core.Path.{◌≡◌, refl, ap, sym, ◌∙◌}
use mathlib.Core.Bool.{Bool, true, false, cond}
use mathlib.Core.List.{List, map, flat_map}
use mathlib.Core.Option.{Option, none, some}
use Rattle.lists.specs.Lists.{put}
use Rattle.records.specs.Readers.{Bytes}
use Rattle.records.specs.Refusals.{refusal_number, unfit}
use Rattle.session_spec.specs.Definitions.{is_some}
use Rattle.session_spec.specs.Session.{World, Reply, taken, refused, reply_number}
use Rattle.output_stores.proofs.Walks.{standing_on, standing-stop}
use Rattle.runs.proofs.Refused.{short-step}
use Rattle.open_scopes.specs.declared.Scope.{Scope}
use Rattle.open_scopes.specs.declared.Numbers.{Numbers}
use Rattle.open_scopes.specs.OpenScopes.{record_of}
use Rattle.scope_bytes.specs.ScopeBytes.{scope_bytes}
use Rattle.worlds.specs.Worlds.{world_of}
use Rattle.calls.specs.declared.RunDone.{RunDone}
use Rattle.calls.specs.Buffers.{next_frame, frames_of, Ran, ran_on, run_frames}
use Rattle.calls.specs.Calls.{numbers_in}
use Rattle.calls.specs.Running.{Runs}
use Rattle.calls.proofs.Buffers.{frame-shortens, untaken-keeps}
use Rattle.call_forms.specs.Doors.{scopes_held, record_bytes, HandsOutRun, RanOver}
use Rattle.call_forms.proofs.DoorCalls.{no-list, held-again, record-bytes}

module _ (n : Numbers) (buffer defs tuples reports paths scopes names cells : Bytes) where
  abbrev before : World
  before = world_of n (scopes_held scopes) (length paths) defs tuples reports names cells

  -- ---- an area too short

  -- what such a run comes to: nothing changes
  abbrev stopped : Reply → Ran
  stopped r = record { reply = r; world = before; bytes = 0 }

  no-frame : next_frame buffer ≡ none → run_frames before (frames_of buffer) ≡ stopped taken
  unfolding run_frames
  no-frame e = ap (run_frames before) (standing-stop next_frame frame-shortens buffer e)

  first-refused : length scopes < 192 → (x rest : Bytes) → next_frame buffer ≡ some (x, rest) → run_frames before (frames_of buffer) ≡ stopped (refused unfit)
  unfolding run_frames ran_on
  first-refused h x rest e =
      ap (run_frames before) (standing_on next_frame frame-shortens buffer x rest e)
      ∙ ap (λ (o : Reply × World). ran_on o (length x) (λ v. run_frames v (frames_of rest))) (short-step before (no-list n buffer defs tuples reports paths scopes names cells h) x)

  -- a run that comes to this, by its reply
  ran-nothing : (number : ℕ) (r : Reply) → number ≡ reply_number r → run_frames before (frames_of buffer) ≡ stopped r → RanOver before buffer paths scopes number before 0 paths scopes
  ran-nothing number r e s =
      record {
        replies = e ∙ ap (λ (x : Ran). reply_number x.reply) (sym s);
        leaves = ap (λ (x : Ran). x.world) (sym s);
        bytes = ap (λ (x : Ran). x.bytes) (sym s);
        scope_list = refl;
        path_size = refl;
        path_behind = refl;
        path_kept = λ k. refl;
      }

  pub ran-short : length scopes < 192 → (number : ℕ) → number ≡ cond (is_some (next_frame buffer)) 10 0 → RanOver before buffer paths scopes number before 0 paths scopes
  unfolding is_some
  ran-short h number e = by (next_frame buffer) refl
    where
      by : (o : Option (Bytes × Bytes)) → next_frame buffer ≡ o → RanOver before buffer paths scopes number before 0 paths scopes
      by none t = ran-nothing number taken (e ∙ ap (λ (o : Option (Bytes × Bytes)). cond (is_some o) 10 0) t ∙ (unfold reply_number in refl)) (no-frame t)
      by (some (x, rest)) t =
          ran-nothing number (refused unfit) (e ∙ ap (λ (o : Option (Bytes × Bytes)). cond (is_some o) 10 0) t ∙ (unfold reply_number refusal_number in refl)) (first-refused h x rest t)

  -- ---- one that is long enough

  module _ (d : RunDone) (defs' tuples' reports' paths' names' cells' : Bytes)
      (c : Runs n (scopes_held scopes) buffer defs tuples reports paths names cells d defs' tuples' reports' paths' names' cells')
      (n' : Numbers) (e : n' ≡ d.last.numbers) (number : ℕ) (scopes' : Bytes) (o : HandsOutRun d.last.reply d.last.list d.bytes scopes number scopes') where
    abbrev left : World
    left = world_of n' (scopes_held scopes') (length paths') defs' tuples' reports' names' cells'

    replied : number ≡ reply_number (run_frames before (frames_of buffer)).reply
    replied = o.replies ∙ ap reply_number c.replies

    chosen : (b : Bool) → eqb d.bytes 0 ≡ b → scopes' ≡ cond b scopes (put scopes 0 (flat_map scope_bytes d.last.list))
    chosen b t = o.stores ∙ ap (λ (x : Bool). cond x scopes (put scopes 0 (flat_map scope_bytes d.last.list))) t

    nothing-taken : eqb d.bytes 0 ≡ true → RanOver before buffer paths scopes number left d.bytes paths' scopes'
    nothing-taken t =
        let z : d.bytes ≡ 0 = eqb-true d.bytes 0 t in
        let kept : (run_frames before (frames_of buffer)).world ≡ before = untaken-keeps before buffer (sym c.bytes ∙ z) in
        record {
          replies = replied;
          leaves = as_before (c.leaves ∙ kept) ∙ sym kept;
          bytes = c.bytes;
          scope_list = rw t (chosen true t);
          path_size = c.size;
          path_behind = c.behind;
          path_kept = λ k. c.untaken z;
        }
      where
        as_before : world_of d.last.numbers d.last.list (length paths) defs' tuples' reports' names' cells' ≡ before → left ≡ before
        as_before w =
            ap (λ (k : Numbers). world_of k (scopes_held scopes') (length paths') defs' tuples' reports' names' cells') e
            ∙ (λ i. world_of (numbers_in (w i)) (scopes_held (chosen true t i)) (c.size i) (w i).definition_store (w i).tuple_store (w i).report_store (w i).names (w i).cells)

    something-taken : length d.last.list ≡ 16 → 192 ≤ length scopes → eqb d.bytes 0 ≡ false → RanOver before buffer paths scopes number left d.bytes paths' scopes'
    something-taken l h t =
        let p = chosen false t in
        let again : scopes_held scopes' ≡ d.last.list = ap scopes_held p ∙ held-again scopes d.last.list l h in
        record {
          replies = replied;
          leaves = (λ i. world_of (e i) (again i) (c.size i) defs' tuples' reports' names' cells') ∙ c.leaves;
          bytes = c.bytes;
          scope_list = rw t (p ∙ ap (put scopes 0) (record-bytes d.last.list ∙ ap (λ (x : List Scope). flat_map record_bytes (map record_of x)) (sym again)));
          path_size = c.size;
          path_behind = c.behind;
          path_kept = λ k. absurd (eqb-false d.bytes 0 t k);
        }

    pub ran : length d.last.list ≡ 16 → 192 ≤ length scopes → RanOver before buffer paths scopes number left d.bytes paths' scopes'
    ran l h = by (eqb d.bytes 0) refl
      where
        by : (b : Bool) → eqb d.bytes 0 ≡ b → RanOver before buffer paths scopes number left d.bytes paths' scopes'
        by true t = nothing-taken t
        by false t = something-taken l h t
