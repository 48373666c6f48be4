-- The promise of the record call at its door, from the library's: a list under 192 bytes makes a world that does not decode, a refused call keeps all, and scopes that were
-- stored are loaded again.
-- Assumes nothing.
use Prim.Native.Nat.{ℕ, ◌≤◌, ◌<◌}
use native.Mathlib.Omega.{arith}
use lib.Dec.{eqb, leb}
use lib.ListN.{length}
use borrow.Author.Tests.{le-leb, lt-leb, eqb-true, eqb-false}
use mathlib.Core.Path.{◌≡◌, refl, ap, sym, ◌∙◌}
use mathlib.Core.Bool.{Bool, true, false, cond, and-false}
use mathlib.Core.List.{List, [], ◌∷◌, ◌++◌, map, flat_map}
use Rattle.lists.specs.Lists.{put}
use Rattle.lists.proofs.Writes.{length-put}
use Rattle.records.specs.Readers.{Bytes}
use Rattle.records.specs.Refusals.{refusal_number}
use Rattle.session_spec.specs.Session.{World, areas_fit, Reply, reply_number, step}
use Rattle.runs.proofs.Refused.{short-step}
use Rattle.open_scopes.specs.declared.Scope.{Scope}
use Rattle.open_scopes.specs.declared.Numbers.{Numbers}
use Rattle.open_scopes.specs.OpenScopes.{record_of}
use Rattle.scope_bytes.specs.ScopeBytes.{scopes_in, scope_bytes}
use Rattle.scope_bytes.proofs.ScopeBytes.{loaded-again}
use Rattle.worlds.specs.Replies as code
use Rattle.worlds.specs.Replies.{Taken, reply_of}
use Rattle.worlds.specs.Worlds.{world_of}
use Rattle.worlds.specs.declared.Done.{Done}
use Rattle.calls.specs.Calls.{Called, numbers_in}
use Rattle.calls.proofs.Theorems.{refused-keeps}
use Rattle.call_forms.specs.Doors.{scopes_held, record_bytes, HandsOutRecord, Recorded}

-- ---- the scope list

pub held : (area : Bytes) → 192 ≤ length area → scopes_held area ≡ scopes_in area
unfolding scopes_held
held area h = rw (le-leb 192 (length area) h)

not-held : (area : Bytes) → length area < 192 → scopes_held area ≡ []
unfolding scopes_held
not-held area h = rw (lt-leb 192 (length area) h)

-- sixteen that were stored are held
pub held-again : (area : Bytes) (list : List Scope) → length list ≡ 16 → 192 ≤ length area → scopes_held (put area 0 (flat_map scope_bytes list)) ≡ list
held-again area list n h =
    let k = length-put area 0 (flat_map scope_bytes list) in
    held (put area 0 (flat_map scope_bytes list)) (omega arith) ∙ loaded-again area list n h

-- a scope by value has the bytes of its record
pub record-bytes : (list : List Scope) → flat_map scope_bytes list ≡ flat_map record_bytes (map record_of list)
unfolding flat_map scope_bytes record_bytes
record-bytes [] = refl
record-bytes (s ∷ list) = ap (λ (z : Bytes). record_bytes (record_of s) ++ z) (record-bytes list)

-- ---- the promise

module _ (n : Numbers) (rec defs tuples reports paths scopes names cells : Bytes) where
  abbrev before : World
  before = world_of n (scopes_held scopes) (length paths) defs tuples reports names cells

  -- an empty scope list is too short
  pub no-list : length scopes < 192 → areas_fit before ≡ false
  unfolding areas_fit
  no-list h = rw (not-held scopes h) (and-false (leb 1024 (length paths)))

  pub recorded-short : length scopes < 192 → Recorded before rec paths scopes 10 before paths scopes
  recorded-short h =
      let s = short-step before (no-list h) rec in
      record {
        replies = sym (ap (λ (p : Reply × World). reply_number p.0) s ∙ (unfold reply_number refusal_number in refl));
        leaves = sym (ap (λ (p : Reply × World). p.1) s);
        scope_list = refl;
        path_size = refl;
        path_behind = refl;
        path_kept = λ k. refl;
      }

  module _ (d : Done) (defs' tuples' reports' paths' names' cells' : Bytes)
      (c : Called n (scopes_held scopes) rec defs tuples reports paths names cells d defs' tuples' reports' paths' names' cells') where
    abbrev after : World
    after = world_of d.numbers d.list (length paths) defs' tuples' reports' names' cells'

    module _ (n' : Numbers) (e : n' ≡ d.numbers) (number : ℕ) (scopes' : Bytes) (o : HandsOutRecord d.reply d.list scopes number scopes') where
      abbrev left : World
      left = world_of n' (scopes_held scopes') (length paths') defs' tuples' reports' names' cells'

      replied : number ≡ reply_number (step before rec).0
      replied = o.replies ∙ ap reply_number c.calls.replies

      chosen : (b : Bool) → eqb number 0 ≡ b → scopes' ≡ cond b (put scopes 0 (flat_map scope_bytes d.list)) scopes
      chosen b t = o.stores ∙ ap (λ (x : Bool). cond x (put scopes 0 (flat_map scope_bytes d.list)) scopes) t

      -- all that is lent is as it was
      refused : eqb number 0 ≡ false → Recorded before rec paths scopes number left paths' scopes'
      refused t =
          let same = refused-keeps before rec d.reply after c.calls not_taken in
          record {
            replies = replied;
            leaves = as_before same c.area.size ∙ sym (sym c.calls.leaves ∙ same);
            scope_list = rw t (chosen false t);
            path_size = c.area.size;
            path_behind = c.area.behind;
            path_kept = λ k. c.area.kept not_taken;
          }
        where
          not_taken : d.reply ≡ Taken → ⊥
          not_taken z = eqb-false number 0 t (o.replies ∙ ap (λ (r : code.Reply). reply_number (reply_of r)) z ∙ (unfold reply_number in refl))

          as_before : after ≡ before → length paths' ≡ length paths → left ≡ before
          as_before w l =
              ap (λ (k : Numbers). world_of k (scopes_held scopes') (length paths') defs' tuples' reports' names' cells') e
              ∙ (λ i. world_of (numbers_in (w i)) (scopes_held (chosen false t i)) (l i) (w i).definition_store (w i).tuple_store (w i).report_store (w i).names (w i).cells)

      -- the scopes that were stored are loaded again
      taken : length d.list ≡ 16 → 192 ≤ length scopes → eqb number 0 ≡ true → Recorded before rec paths scopes number left paths' scopes'
      taken l h t =
          let p = chosen true t in
          let again : scopes_held scopes' ≡ d.list = ap scopes_held p ∙ held-again scopes d.list l h in
          record {
            replies = replied;
            leaves = (λ i. world_of (e i) (again i) (c.area.size i) defs' tuples' reports' names' cells') ∙ c.calls.leaves;
            scope_list = rw t (p ∙ ap (put scopes 0) (record-bytes d.list ∙ ap (λ (x : List Scope). flat_map record_bytes (map record_of x)) (sym again)));
            path_size = c.area.size;
            path_behind = c.area.behind;
            path_kept = λ k. absurd (k (eqb-true number 0 t));
          }

      pub recorded : length d.list ≡ 16 → 192 ≤ length scopes → Recorded before rec paths scopes number left paths' scopes'
      recorded l h = by (eqb number 0) refl
        where
          by : (b : Bool) → eqb number 0 ≡ b → Recorded before rec paths scopes number left paths' scopes'
          by true t = taken l h t
          by false t = refused t
