-- Where a text stands, or that none does: what the answer says of the bytes.
-- Assumes nothing.
use Prim.Native.Nat.{ℕ, ◌+◌, ◌≤◌, ◌<◌}
use borrow.Author.Tests.{leb-true, leb-false}
use lib.Dec.{leb}
use lib.ListN.{length}
use mathlib.Core.Path.{◌≡◌, refl, ◌∙◌}
use mathlib.Core.Bool.{Bool, true, false}
use Rattle.std.specs.declared.option.Option as code
use Rattle.std.specs.declared.option.Option.TheVariants.{Some, None}
use Rattle.numbers.specs.Numbers.{two}
use Rattle.records.specs.Readers.{Bytes}
use Rattle.record_places.specs.declared.Place.{Place}
use Rattle.record_places.specs.Places.{text_place}

module _ (s : Bytes) (at : ℕ) where
  abbrev pub whole_at : Place
  whole_at = record { start = at + 2; size = two s at }

  pub text-missing : None ≡ text_place s at → length s < at + 2 + two s at
  unfolding text_place
  text-missing e = by (leb (at + 2 + two s at) (length s)) refl
    where
      by : (t : Bool) → leb (at + 2 + two s at) (length s) ≡ t → length s < at + 2 + two s at
      by true q = let z : ◌≡◌ {A = code.Option Place} None (Some whole_at) = e ∙ rw q refl in cc
      by false q = leb-false (at + 2 + two s at) (length s) q

  pub text-stands : (p : Place) → Some p ≡ text_place s at → (whole_at ≡ p) × (at + 2 + two s at ≤ length s)
  unfolding text_place
  text-stands p e = by (leb (at + 2 + two s at) (length s)) refl
    where
      by : (t : Bool) → leb (at + 2 + two s at) (length s) ≡ t → (whole_at ≡ p) × (at + 2 + two s at ≤ length s)
      by true q = let z : ◌≡◌ {A = code.Option Place} (Some p) (Some whole_at) = e ∙ rw q refl in (cc, leb-true (at + 2 + two s at) (length s) q)
      by false q = let z : ◌≡◌ {A = code.Option Place} (Some p) None = e ∙ rw q refl in cc
