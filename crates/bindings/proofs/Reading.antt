-- The text at a place: what a reader takes there is a part of the bytes.
-- Assumes nothing.
use Prim.Native.Nat.{ℕ}
use mathlib.Core.Path.{◌≡◌, subst}
use Rattle.records.specs.Readers.{Bytes}
use Rattle.records.proofs.Places.{text-there, text-short}
use Rattle.std.specs.declared.option.Option as code
use Rattle.std.specs.declared.option.Option.TheVariants.{Some, None}
use Rattle.record_places.specs.declared.Place.{Place}
use Rattle.record_places.specs.Places.{text_place}
use Rattle.record_places.proofs.Placing.{text-missing, text-stands}
use Rattle.bindings.specs.Places.{TextAt}

module _ (s : Bytes) (at : ℕ) where
  pub text-at : (r : code.Option Place) → r ≡ text_place s at → TextAt s at r
  text-at None e = record { reads = text-short s at (text-missing s at e); inside = tt }
  text-at (Some p) e =
      let t = text-stands s at p e in
      subst (λ (q : Place). TextAt s at (Some q)) t.0 (record { reads = text-there s at t.1; inside = t.1 })
