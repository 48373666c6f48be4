-- What is handed out of what a call left, by the test: the scopes as they were, or those that the call left.
-- Assumes nothing.
use Prim.Native.Nat.{ℕ}
use native.Mathlib.Omega.{arith}
use borrow.Author.Tests.{eq-eqb, ne_eqb}
use mathlib.Core.Path.{◌≡◌, refl, ap, sym, ◌∙◌}
use mathlib.Core.List.{List, flat_map}
use Rattle.std.specs.declared.result.Result.TheVariants.{Ok, Err}
use Rattle.lists.specs.Lists.{put}
use Rattle.records.specs.Readers.{Bytes}
use Rattle.records.specs.Refusals as refusals
use Rattle.records.specs.Refusals.{refusal_number, unfit, unknown_mark, too_long, misframed, not_utf8, bad_byte, over_limit, out_of_place, too_many_events, undefined, unbalanced, bound_twice, definitions_full, too_deep, too_many_scopes, too_many_selections, tuples_full, reports_full}
use Rattle.session_spec.specs.Session.{taken, reply_number}
use Rattle.record_places.specs.Places.{refusal_of}
use Rattle.open_scopes.specs.declared.Scope.{Scope}
use Rattle.scope_bytes.specs.ScopeBytes.{scope_bytes}
use Rattle.worlds.specs.declared.Refused.{Refused}
use Rattle.worlds.specs.declared.Refused.TheVariants as why
use Rattle.worlds.specs.Replies.{because_of_session, Reply, reply_of}
use Rattle.call_forms.specs.Doors.{HandsOutRecord, HandsOutRun}

-- ---- no refusal has the number of a record that is taken

not-zero : (c : refusals.Refusal) → refusal_number c ≡ 0 → ⊥
unfolding refusal_number
not-zero unfit e = omega arith
not-zero unknown_mark e = omega arith
not-zero too_long e = omega arith
not-zero misframed e = omega arith
not-zero not_utf8 e = omega arith
not-zero bad_byte e = omega arith
not-zero over_limit e = omega arith
not-zero out_of_place e = omega arith
not-zero too_many_events e = omega arith
not-zero undefined e = omega arith
not-zero unbalanced e = omega arith
not-zero bound_twice e = omega arith
not-zero definitions_full e = omega arith
not-zero too_deep e = omega arith
not-zero too_many_scopes e = omega arith
not-zero too_many_selections e = omega arith
not-zero tuples_full e = omega arith
not-zero reports_full e = omega arith

refused-number : (c : Refused) → reply_number (reply_of (Err c)) ≡ 0 → ⊥
unfolding reply_number
refused-number why.Unfit = not-zero unfit
refused-number (why.Input c) = not-zero (refusal_of c)
refused-number (why.Session c) = not-zero (because_of_session c)

-- ---- what is handed out

module _ (reply : Reply) (list : List Scope) (scopes : Bytes) where
  pub record-refused : (c : Refused) → reply ≡ Err c → (number : ℕ) → number ≡ reply_number (reply_of (Err c)) → HandsOutRecord reply list scopes number scopes
  record-refused c is number e =
      record {
        replies = e ∙ ap (λ (r : Reply). reply_number (reply_of r)) (sym is);
        stores = rw (ne_eqb number 0 (λ z. refused-number c (sym e ∙ z)));
      }

  pub record-taken : (done : Unit {0}) → reply ≡ Ok done → (scopes' : Bytes) → scopes' ≡ put scopes 0 (flat_map scope_bytes list) → HandsOutRecord reply list scopes 0 scopes'
  record-taken done is scopes' p =
      let none : 0 ≡ reply_number taken = unfold reply_number in refl in
      record {
        replies = none ∙ ap (λ (r : Reply). reply_number (reply_of r)) (sym is);
        stores = p;
      }
