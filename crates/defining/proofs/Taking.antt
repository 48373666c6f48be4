-- The world after a call: as it was where the record is refused; where it is taken, there is room, so that the record stands behind the used bytes.
-- Assumes nothing.
use Prim.Native.Nat.{ℕ, ◌+◌}
use native.Mathlib.Numerals.{add-one}
use lib.ListN.{length}
use borrow.Author.Tests.{le-leb}
use mathlib.Core.Path.{◌≡◌, ap, sym, ◌∙◌, subst}
use mathlib.Core.List.{List}
use mathlib.Core.Option.{Option, none, some}
use Rattle.lists.specs.Lists.{over}
use Rattle.lists.proofs.Writes.{put-fits}
use Rattle.records.specs.Readers.{Bytes}
use Rattle.output_stores.specs.Stores.{used_after, Appended}
use Rattle.records.specs.Refusals.{Refusal}
use Rattle.open_scopes.specs.declared.Scope.{Scope}
use Rattle.open_scopes.specs.declared.Numbers.{Numbers}
use Rattle.worlds.specs.declared.SessionRefusal.{SessionRefusal}
use Rattle.worlds.specs.Replies as reply
use Rattle.worlds.specs.Replies.{because_of_session, reason_of, refusal}
use Rattle.worlds.specs.declared.Done.{Done}
use Rattle.plans.specs.Plans.{answered, defined}
use Rattle.std.specs.declared.result.Result.{Result}
use Rattle.std.specs.declared.result.Result.TheVariants.{Ok, Err}
use Rattle.defining.specs.Deciding.{decided, Answers}
use Rattle.defining.proofs.Deciding.{Free, free}

module _ (n : Numbers) (list : List Scope) (v : Option Refusal) (rec before : Bytes) (d : Result (Unit {0}) SessionRefusal) (is : reason_of d ≡ decided n v (length rec) (length before)) where
  pub refuses : (c : SessionRefusal) → d ≡ Err c → (r : Done) → r ≡ refusal n list c → Answers n list v rec before r before
  unfolding answered
  refuses c e r re =
      let k : decided n v (length rec) (length before) ≡ some (because_of_session c) = sym is ∙ ap reason_of e in
      subst (λ (x : Done). Answers n list v rec before x before) (sym re) (record { leaves = λ paths tuples reports names cells. rw k })

  module _ (e : d ≡ Ok tt) where
    clear : decided n v (length rec) (length before) ≡ none
    clear = sym is ∙ ap reason_of e

    pub free-to : Free n (length rec) (length before)
    free-to = free n v (length rec) (length before) clear

    pub takes : (next : ℕ) (after : Bytes) → Appended before n.definitions rec next after
        → Answers n list v rec before
        (record { reply = reply.Taken; numbers = record { events = n.events + 1; running = n.running; definitions = next; tuples = n.tuples; reports = n.reports }; list = list }) after
    unfolding answered defined used_after
    takes next after h =
        let used : next ≡ n.definitions + length rec = h.answers ∙ rw (le-leb (n.definitions + length rec) (length before) free-to.fits) in
        let kept : after ≡ over before n.definitions rec = h.leaves ∙ put-fits before n.definitions rec free-to.fits in
        record { leaves = λ paths tuples reports names cells. rw (clear, used, kept, add-one n.events) }
