-- The tests of a verdict one after another, as the code makes them; and what a good verdict says of the counts.
-- Assumes nothing.
use Prim.Native.Nat.{ℕ, ◌≤◌, ◌<◌}
use native.Mathlib.Omega.{arith}
use lib.Dec.{leb}
use borrow.Author.Tests.{leb-false, le-leb, lt-leb}
use mathlib.Core.Path.{◌≡◌, refl, ap, sym, ◌∙◌}
use mathlib.Core.Bool.{Bool, true, false}
use mathlib.Core.Option.{Option, none, some}
use Rattle.texts.specs.Texts.{Text}
use Rattle.records.specs.Readers.{Bytes}
use Rattle.records.specs.Refusals.{Refusal, undefined, bound_twice, definitions_full}
use Rattle.definition_store.specs.declared.Tally.{Tally}
use Rattle.std.specs.declared.option.Option.TheVariants.{Some, None}
use Rattle.std.specs.declared.result.Result.TheVariants.{Ok, Err}
use Rattle.std.specs.Result.{result_ok}
use Rattle.definition_store.specs.Store.{Verdict, stands_against, verdict, id_verdict, lacks_target, bound_again, ns_verdict}
use Rattle.definition_store.specs.Counting.{if_good}
use Rattle.definition_store.specs.declared.Against.{Against}
use Rattle.definition_store.specs.declared.Against.TheVariants.{Undefined, BoundTwice, Full}

-- ---- an ID

module _ (t : Tally) where
  pub id-full : 32 ≤ t.constraints → some definitions_full ≡ id_verdict t
  unfolding id_verdict verdict
  id-full h = rw (le-leb 32 t.constraints h)

  pub id-good : t.constraints < 32 → none ≡ id_verdict t
  unfolding id_verdict verdict
  id-good h = rw (lt-leb 32 t.constraints h)

-- ---- an NS

module _ (used : Bytes) (t : Tally) (target : ℕ) (p : Text) (a : Bool) (e : a ≡ lacks_target t target) where
  pub ns-undefined : a ≡ true → some undefined ≡ ns_verdict used t target p
  unfolding ns_verdict verdict
  ns-undefined h = rw (← e, h)

  module _ (h : a ≡ false) (b : Bool) (f : b ≡ bound_again used target p) where
    pub ns-bound : b ≡ true → some bound_twice ≡ ns_verdict used t target p
    unfolding ns_verdict verdict
    ns-bound k = rw (← e, h, ← f, k)

    module _ (k : b ≡ false) where
      pub ns-full : 64 ≤ t.bindings → some definitions_full ≡ ns_verdict used t target p
      unfolding ns_verdict verdict
      ns-full l = rw (← e, h, ← f, k, le-leb 64 t.bindings l)

      pub ns-good : t.bindings < 64 → none ≡ ns_verdict used t target p
      unfolding ns_verdict verdict
      ns-good l = rw (← e, h, ← f, k, lt-leb 64 t.bindings l)

-- ---- what a good verdict says of the counts

good-free : (a b f : Bool) → verdict a b f ≡ none → f ≡ false
unfolding verdict
good-free true b f h = let z : ◌≡◌ {A = ℕ} 0 1 = cc in absurd (omega arith)
good-free false true f h = let z : ◌≡◌ {A = ℕ} 0 1 = cc in absurd (omega arith)
good-free false false true h = let z : ◌≡◌ {A = ℕ} 0 1 = cc in absurd (omega arith)
good-free false false false h = refl

pub id-room : (t : Tally) → id_verdict t ≡ none → t.constraints < 32
unfolding id_verdict
id-room t h = leb-false 32 t.constraints (good-free false false (leb 32 t.constraints) h)

pub ns-room : (used : Bytes) (t : Tally) (target : ℕ) (p : Text) → ns_verdict used t target p ≡ none → t.bindings < 64
unfolding ns_verdict
ns-room used t target p h = leb-false 64 t.bindings (good-free (lacks_target t target) (bound_again used target p) (leb 64 t.bindings) h)

-- ---- the tally, where the verdict is good

stopped : (v : Verdict) (t : Tally) → result_ok v ≡ None → if_good (stands_against v) t ≡ None
unfolding if_good
stopped (Ok x) t h = let z : ◌≡◌ {A = ℕ} 0 1 = cc in absurd (omega arith)
stopped (Err e) t h = by e
  where
    by : (e : Against) → if_good (stands_against (Err e)) t ≡ None
    by Undefined = refl
    by BoundTwice = refl
    by Full = refl

went_on : (v : Verdict) (x : Unit {0}) → result_ok v ≡ Some x → stands_against v ≡ none
went_on (Ok y) x h = refl
went_on (Err e) x h = let z : ◌≡◌ {A = ℕ} 0 1 = cc in absurd (omega arith)

module _ (v : Verdict) (o : Option Refusal) (e : stands_against v ≡ o) (t : Tally) where
  pub stands-against : result_ok v ≡ None → None ≡ if_good o t
  stands-against h = sym (stopped v t h) ∙ ap (λ (x : Option Refusal). if_good x t) e

  module _ (x : Unit {0}) (h : result_ok v ≡ Some x) where
    pub is_good : o ≡ none
    is_good = sym e ∙ went_on v x h

    pub nothing-against : Some t ≡ if_good o t
    unfolding if_good
    nothing-against = ap (λ (x : Option Refusal). if_good x t) (sym is_good)
