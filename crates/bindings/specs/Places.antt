-- What stands in bytes: a text at a place, and the URI that a prefix is bound to.
-- Assumes nothing.
use Rattle.std.specs.Prelude.{ℕ, ◌+◌, ◌≤◌, eqb, length, drop, ◌≡◌, Bool}
use Rattle.std.proofs.Math.Option.{Option, none, some}
use Rattle.lists.specs.Lists.{part, passing}
use Rattle.texts.specs.Texts.{Text}
use Rattle.paths.specs.Matching.{space_fits}
use Rattle.records.specs.Readers.{Bytes, read_text}
use Rattle.session_spec.specs.Definitions.{look_up}
use Rattle.bindings.specs.Bindings.{as_list, read_binding, bound_for}
use Rattle.std.specs.declared.option.Option as code
use Rattle.std.specs.declared.option.Option.TheVariants.{Some, None}
use Rattle.record_places.specs.declared.Place.{Place}

-- ---- a text at a place

abbrev pub Within : Bytes → code.Option Place → Type 0
Within s None = Unit {0}
Within s (Some p) = p.start + p.size ≤ length s

abbrev pub text_by : Bytes → code.Option Place → Option (Text × Bytes)
text_by s None = none
text_by s (Some p) = some (part s p.start p.size, drop (p.start + p.size) s)

pub record TextAt (s : Bytes) (at : ℕ) (r : code.Option Place) : Type 0 where
  pub reads : read_text (drop at s) ≡ text_by s r
  pub inside : Within s r

-- ---- the URI that a prefix is bound to

abbrev pub placed : Bytes → code.Option Place → Option Text
placed s None = none
placed s (Some p) = some (part s p.start p.size)

-- by one record
unfoldable pub uri_by : Bytes → (target : ℕ) → Text → Option Text
uri_by f target p = look_up p (passing (λ b. eqb b.target target) (as_list (read_binding f)))

pub record BoundIn (f : Bytes) (target : ℕ) (p : Text) (r : code.Option Place) : Type 0 where
  pub stands : placed f r ≡ uri_by f target p
  pub inside : Within f r

-- by the records that stand one behind the other
pub record LookedUp (s : Bytes) (target : ℕ) (p : Text) (r : code.Option Place) : Type 0 where
  pub stands : placed s r ≡ look_up p (bound_for target s)
  pub inside : Within s r

-- ---- a URI against an element's namespace

abbrev pub uri_fits : (uri space : Text) → Bool
uri_fits uri space = space_fits (some uri) space
