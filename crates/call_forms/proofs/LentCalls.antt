-- The promise of the record call over what is lent, from the library's: a list under sixteen records makes a world that does not decode, and a list with sixteen written to its front holds these.
-- Assumes nothing.
use Prim.Native.Nat.{ℕ, zero, suc, ◌<◌}
use native.Mathlib.Omega.{arith}
use lib.Dec.{leb}
use lib.ListN.{length, take, drop, length-map, take-append-drop}
use lib.Seq.{take_at}
use borrow.Author.Tests.{lt-leb}
use mathlib.Core.Path.{◌≡◌, refl, ap, sym, ◌∙◌}
use mathlib.Core.Bool.{false, and-false}
use mathlib.Core.List.{List, [], ◌∷◌, ◌++◌, map}
use Rattle.records.specs.Readers.{Bytes}
use Rattle.session_spec.specs.Session.{World, areas_fit, Reply}
use Rattle.runs.proofs.Refused.{short-step}
use Rattle.open_scopes.specs.declared.Scope.{Scope}
use Rattle.open_scopes.specs.OpenScopes.{record_of}
use Rattle.worlds.specs.Replies.{Unfit}
use Rattle.worlds.specs.Worlds.{world_of}
use Rattle.worlds.specs.declared.Done.{Done}
use Rattle.calls.specs.Calls.{Called}
use Rattle.call_forms.specs.Lent.{Lent, lent, held, world_in, scope_of, written, Recorded}

-- ---- the scope list

-- a scope is the scope of its record
pub scopes-again : (list : List Scope) → map scope_of (map record_of list) ≡ list
scopes-again [] = refl
scopes-again (s ∷ list) = ap (λ (z : List Scope). s ∷ z) (scopes-again list)

-- what a list holds, written to its front, changes nothing
pub written_same : (scopes : List Scope) → written (map record_of (held scopes)) scopes ≡ scopes
written_same scopes = ap (λ (z : List Scope). z ++ drop 16 scopes) (scopes-again (held scopes)) ∙ take-append-drop 16 scopes

held-short : (n : ℕ) (scopes : List Scope) → length scopes < n → length (take n scopes) < n
held-short zero scopes h = absurd (omega arith)
held-short (suc n) [] h = omega arith
held-short (suc n) (s ∷ scopes) h = let k = held-short n scopes (omega arith) in omega (arith, k)

-- ---- the promise

-- too short a list is no list of sixteen
pub recorded-short : (l : Lent) (rec : Bytes) → length l.scopes < 16 → Recorded l rec Unfit l
recorded-short l rec h =
    let s = short-step (world_in l) no-list rec in
    record {
      replies = sym (ap (λ (p : Reply × World). p.0) s);
      leaves = sym (ap (λ (p : Reply × World). p.1) s);
      scope_list = sym (ap (λ (p : Reply × World). written p.1.scopes l.scopes) s ∙ written_same l.scopes);
      area = record { size = refl; behind = refl; kept = λ k. refl };
    }
  where
    few : length (map record_of (held l.scopes)) < 16
    few = let k = held-short 16 l.scopes h in let e = length-map (held l.scopes) record_of in omega (arith, k, e)

    no-list : areas_fit (world_in l) ≡ false
    no-list = unfold areas_fit in rw (lt-leb 16 (length (map record_of (held l.scopes))) few) (and-false (leb 1024 (length l.paths)))

-- the library's call on the sixteen that are held, and what it hands out written to the front
pub recorded-long : (l : Lent) (rec : Bytes) (d : Done) (defs tuples reports paths names cells : Bytes) (scopes : List Scope) → length d.list ≡ 16
    → Called l.numbers (held l.scopes) rec l.defs l.tuples l.reports l.paths l.names l.cells d defs tuples reports paths names cells
    → scopes ≡ d.list ++ drop 16 l.scopes
    → Recorded l rec d.reply (lent d.numbers scopes defs tuples reports paths names cells)
recorded-long l rec d defs tuples reports paths names cells scopes sized c stored =
    let again : held scopes ≡ d.list = ap (take 16) stored ∙ take_at d.list (drop 16 l.scopes) 16 sized in
    record {
      replies = c.calls.replies;
      leaves = (λ i. world_of d.numbers (again i) (c.area.size i) defs tuples reports names cells) ∙ c.calls.leaves;
      scope_list = stored ∙ ap (λ (z : List Scope). z ++ drop 16 l.scopes) (sym (scopes-again d.list)) ∙ ap (λ (w : World). written w.scopes l.scopes) c.calls.leaves;
      area = c.area;
    }
