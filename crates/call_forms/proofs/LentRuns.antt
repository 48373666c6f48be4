-- THE THEOREMS about the record call over what is lent: a refused call leaves all of it as it was; a run from a session just set up is a run of the library's calls, so that what is proved of these holds of it;
-- and what is behind the sixteen scope records stays.
-- Assumes nothing.
use lib.ListN.{drop, take-append-drop}
use mathlib.Core.Path.{◌≡◌, refl, ap, sym, ◌∙◌}
use mathlib.Core.List.{List, ◌++◌, append_cancel_left}
use Rattle.records.specs.Readers.{Bytes}
use Rattle.session_spec.specs.Session.{World}
use Rattle.open_scopes.specs.declared.Scope.{Scope}
use Rattle.worlds.specs.Replies.{Reply, Taken}
use Rattle.calls.specs.Calls.{Call, numbers_in}
use Rattle.calls.specs.Runs as library
use Rattle.calls.specs.Runs.{Run}
use Rattle.calls.proofs.Theorems as session
use Rattle.call_forms.specs.Lent.{Lent, held, world_in, written, Recorded}
use Rattle.call_forms.specs.LentRuns.{LentRun, start, call}
use Rattle.call_forms.proofs.LentCalls.{scopes-again, written_same}

-- a call over what is lent is a call of the library
pub call-is : (before : Lent) (rec : Bytes) (reply : Reply) (after : Lent) → Recorded before rec reply after → Call (world_in before) rec reply (world_in after)
call-is before rec reply after r = record { replies = r.replies; leaves = r.leaves }

-- A REFUSED CALL leaves all that is lent as it was, the path area and the scopes behind the sixteen too
pub refused-keeps : (before : Lent) (rec : Bytes) (reply : Reply) (after : Lent) → Recorded before rec reply after → (reply ≡ Taken → ⊥) → after ≡ before
refused-keeps before rec reply after r refused =
    let same : world_in after ≡ world_in before = session.refused-keeps (world_in before) rec reply (world_in after) (call-is before rec reply after r) refused in
    let scopes : after.scopes ≡ before.scopes =
    r.scope_list ∙ ap (λ (w : World). written w.scopes before.scopes) (sym r.leaves ∙ same) ∙ written_same before.scopes in
    λ i.
    record {
      numbers = numbers_in (same i);
      scopes = scopes i;
      defs = (same i).definition_store;
      tuples = (same i).tuple_store;
      reports = (same i).report_store;
      paths = r.area.kept refused i;
      names = (same i).names;
      cells = (same i).cells;
    }

-- A RUN OVER WHAT IS LENT is a run: `run-is-tree`, `demand-3` and `no-ten` of the library are about it
pub lent-run : (begun : Lent) (xs : List Bytes) (l : Lent) → LentRun begun xs l → Run (world_in begun) xs (world_in l)
lent-run begun xs l (start s) = library.start s
lent-run begun xs l (call {xs = ys} {l = m} {x = x} {reply = reply} r c) = library.call (lent-run begun ys m r) (call-is m x reply l c)

-- ---- what is behind the sixteen records

-- WHAT IS BEHIND the sixteen records of the scope list stays, whatever a call answers
pub behind-stays : (before : Lent) (rec : Bytes) (reply : Reply) (after : Lent) → Recorded before rec reply after → drop 16 after.scopes ≡ drop 16 before.scopes
behind-stays before rec reply after r =
    append_cancel_left (held after.scopes) (drop 16 after.scopes) (drop 16 before.scopes)
    (take-append-drop 16 after.scopes ∙ r.scope_list ∙ ap (λ (w : World). written w.scopes before.scopes) (sym r.leaves) ∙ ap (λ (z : List Scope). z ++ drop 16 before.scopes) (scopes-again (held after.scopes)))

-- and over a run
pub run-behind-stays : (begun : Lent) (xs : List Bytes) (l : Lent) → LentRun begun xs l → drop 16 l.scopes ≡ drop 16 begun.scopes
run-behind-stays begun xs l (start s) = refl
run-behind-stays begun xs l (call {xs = ys} {l = m} {x = x} {reply = reply} r c) = behind-stays m x reply l c ∙ run-behind-stays begun ys m r
