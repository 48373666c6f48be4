-- Definitions replayed record by record: the first record is taken, and then the rest; what is not taken ends it.
-- And a binding adds no constraint.
-- Assumes nothing.
use Prim.Native.Nat.{suc}
use lib.ListN.{length}
use mathlib.Core.Path.{◌≡◌, refl, ap, sym, ◌∙◌}
use mathlib.Core.Bool.{Bool, true, false, cond, ◌&&◌, ◌||◌, not, false≢true}
use mathlib.Core.List.{List, [], ◌∷◌}
use mathlib.Core.Option.{none, some, none-ne-some}
use Rattle.std.proofs.lemmas.List.Folds.{fold_stays}
use Rattle.lists.specs.Lists.{foldl}
use Rattle.paths.specs.Reading.{on_some}
use Rattle.records.specs.Readers.{Bytes}
use Rattle.records.specs.Records.{NsRecord, Rec, Parsed, unparsed, parsed, parse}
use Rattle.session_spec.specs.Definitions.{Definition, Definitions, bind_last, define, is_definition, is_undefined, is_bound, too_many_defined, replay_rec, replay_parsed, replay}

-- what is not taken ends it
pub none-on : (fs : List Bytes) → foldl replay none fs ≡ none
unfolding replay on_some
none-on fs = fold_stays replay none (λ f. refl) fs

-- the first record is taken, and then the rest
pub record Taken (d : Definitions) (f : Bytes) (fs : List Bytes) (e : Definitions) : Type 0 where
  pub rec : Rec
  pub says : parse f ≡ parsed rec
  pub fits : too_many_defined rec d ≡ false
  pub rest : foldl replay (some (define rec d)) fs ≡ some e

no-refusal : (a b c d : Bool) → (a && not (b || (c || d))) ≡ true → d ≡ false
no-refusal true false false false h = refl
no-refusal true false false true h = absurd (false≢true h)
no-refusal true false true d h = absurd (false≢true h)
no-refusal true true c d h = absurd (false≢true h)
no-refusal false b c d h = absurd (false≢true h)

pub taken : (d : Definitions) (f : Bytes) (fs : List Bytes) (e : Definitions) → foldl replay (some d) (f ∷ fs) ≡ some e → Taken d f fs e
unfolding replay on_some replay_parsed replay_rec
taken d f fs e h = by (parse f) refl h
  where
    onward : (r : Rec) → parse f ≡ parsed r → (t : Bool)
        → (is_definition r && not (is_undefined r d || (is_bound r d || too_many_defined r d))) ≡ t
        → foldl replay (cond t (some (define r d)) none) fs ≡ some e → Taken d f fs e
    onward r q true u h =
        record {
          rec = r;
          says = q;
          fits = no-refusal (is_definition r) (is_undefined r d) (is_bound r d) (too_many_defined r d) u;
          rest = h;
        }
    onward r q false u h = absurd (none-ne-some e (sym (none-on fs) ∙ h))

    by : (p : Parsed) → parse f ≡ p → foldl replay (replay_parsed p d) fs ≡ some e → Taken d f fs e
    by (unparsed c) q h = absurd (none-ne-some e (sym (none-on fs) ∙ h))
    by (parsed r) q h =
        onward r q (is_definition r && not (is_undefined r d || (is_bound r d || too_many_defined r d))) refl h

-- a binding adds no constraint
pub bind-length : (b : NsRecord) (ds : List Definition) → length (bind_last b ds) ≡ length ds
unfolding bind_last
bind-length b [] = refl
bind-length b (d ∷ []) = refl
bind-length b (d ∷ e ∷ ds) = ap suc (bind-length b (e ∷ ds))
