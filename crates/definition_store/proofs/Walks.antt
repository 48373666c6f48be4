-- The walk over the store. What is passed over reads as definitions with the local tally, and what is left is replayed behind them: so one record more keeps that, or nothing
-- reads; and at the end the tally is that of the whole store.
-- Assumes nothing.
use Prim.Native.Nat.{ℕ, ◌+◌, ◌≤◌, ◌<◌}
use native.Mathlib.Omega.{arith}
use lib.ListN.{length, take, drop, length-drop, drop_of_length-le}
use lib.Seq.{drop-drop, take-add}
use mathlib.Core.Path.{◌≡◌, refl, ap, sym, ◌∙◌}
use lib.Dec.{eqb}
use borrow.Author.Tests.{eqb-true, eqb-false}
use mathlib.Core.Bool.{Bool, true, false}
use Rattle.std.specs.Bool.{then_some}
use mathlib.Core.List.{List, [], ◌∷◌, ◌++◌}
use mathlib.Core.Option.{Option, none, some}
use Rattle.paths.specs.Reading.{on_some}
use Rattle.records.specs.Readers.{Bytes, read_all, reads}
use Rattle.records.specs.Records.{parse}
use Rattle.session_spec.specs.Definitions.{Definitions, latest, frame, replay, read_definitions}
use Rattle.frames.proofs.Walks.{Walking, walk-end, walk-here, walk-next}
use Rattle.definition_store.specs.declared.Tally.{Tally}
use Rattle.std.specs.declared.option.Option.TheVariants.{Some, None}
use Rattle.definition_store.specs.Store.{Defined, field_count, tally_of, defined_by}
use Rattle.definition_store.specs.Counting.{counted_by}
use Rattle.definition_store.proofs.Tallies.{record-counted}
use Rattle.definition_store.proofs.Replays.{onward, onward-on, onward-stop, onward-end, onward-none, frame-alone, read_more}

-- i bytes are passed over, and they come to t
pub record Upto (used : Bytes) (left : List Bytes) (i : ℕ) (t : Tally) : Type 0 where
  pub walk : Walking used left i
  pub defs : Definitions
  pub read : read_definitions (take i used) ≡ some defs
  pub tally : tally_of defs ≡ t
  pub onward-is : read_definitions used ≡ onward (some defs) (drop i used)

pub walk_start : (used : Bytes) (left : List Bytes) → Walking used left 0 → Upto used left 0 (record { constraints = 0; fields = 0; bindings = 0 })
unfolding read_definitions reads read_all on_some tally_of latest field_count onward
walk_start used left w = record { walk = w; defs = _; read = refl; tally = refl; onward-is = refl }

-- ---- definitions, or none

pub unread-none : (o : Option Definitions) → defined_by o ≡ None → o ≡ none
unfolding defined_by
unread-none none h = refl
unread-none (some d) h = let z : ◌≡◌ {A = ℕ} 0 1 = cc in absurd (omega arith)

read_some : (o : Option Definitions) (t : Tally) → defined_by o ≡ Some t → (d : Definitions) × (o ≡ some d) × (tally_of d ≡ t)
unfolding defined_by
read_some none t h = let z : ◌≡◌ {A = ℕ} 0 1 = cc in absurd (omega arith)
read_some (some d) t h = (d, refl, cc)

module _ (used : Bytes) (left : List Bytes) (i : ℕ) (t : Tally) (u : Upto used left i t) where
  -- ---- at the end

  all-read : length used ≤ i → Some t ≡ defined_by (read_definitions used)
  unfolding defined_by
  all-read h =
      let e : read_definitions used ≡ some u.defs = u.onward-is ∙ ap (onward (some u.defs)) (drop_of_length-le used h) ∙ onward-end (some u.defs) in
      sym (ap defined_by e ∙ ap Some u.tally)

  -- bytes are left, and no whole record stands at their front
  not-all-read : i < length used → left ≡ [] → None ≡ defined_by (read_definitions used)
  unfolding defined_by
  not-all-read h e =
      sym (ap defined_by (u.onward-is ∙ onward-stop (some u.defs) (drop i used) (simp length-drop (omega arith)) (walk-end used left i u.walk e)))

  pub read-whole : left ≡ [] → then_some (eqb i (length used)) t ≡ defined_by (read_definitions used)
  read-whole e = by (eqb i (length used)) refl
    where
      by : (b : Bool) → eqb i (length used) ≡ b → then_some b t ≡ defined_by (read_definitions used)
      by true q = all-read (omega (arith, eqb-true i (length used) q))
      by false q = not-all-read (omega (arith, u.walk.within, eqb-false i (length used) q)) e

  -- ---- one record more

  module _ (f : Bytes) (more : List Bytes) (e : left ≡ f ∷ more) where
    here : frame (drop i used) ≡ some (f, drop (i + length f) used)
    here = (walk-here used left i u.walk f more e).cut ∙ ap (λ (l : Bytes). some (f, l)) (drop-drop (length f) i used)

    replayed : read_definitions used ≡ onward (replay (some u.defs) f) (drop (i + length f) used)
    replayed = u.onward-is ∙ onward-on (some u.defs) (drop i used) f (drop (i + length f) used) here

    module _ (r : Defined) (q : r ≡ counted_by (take i used) t (parse f)) where
      counted-here : defined_by (replay (some u.defs) f) ≡ r
      counted-here = record-counted (take i used) u.defs u.read f ∙ ap (λ (x : Tally). counted_by (take i used) x (parse f)) u.tally ∙ sym q

      pub turn-stop : r ≡ None → None ≡ defined_by (read_definitions used)
      unfolding defined_by
      turn-stop n =
          sym
          (ap defined_by
          (replayed
          ∙ ap (λ (o : Option Definitions). onward o (drop (i + length f) used)) (unread-none (replay (some u.defs) f) (counted-here ∙ n))
          ∙ onward-none (drop (i + length f) used)))

      module _ (s : Tally) (n : r ≡ Some s) where
        pub turn_on : Upto used more (i + length f) s
        turn_on =
            let d = read_some (replay (some u.defs) f) s (counted-here ∙ n) in
            let p : take (length f) (drop i used) ≡ f = sym (walk-here used left i u.walk f more e).is.front in
            record {
              walk = walk-next used left i u.walk f more e;
              defs = d.0;
              read = ap read_definitions (take-add i (length f) used)
                  ∙ ap (λ (l : Bytes). read_definitions (take i used ++ l)) p
                  ∙ read_more (take i used) f u.defs u.read (frame-alone (drop i used) f (drop (i + length f) used) here)
                  ∙ d.1;
              tally = d.2;
              onward-is = replayed ∙ ap (λ (o : Option Definitions). onward o (drop (i + length f) used)) d.1;
            }
