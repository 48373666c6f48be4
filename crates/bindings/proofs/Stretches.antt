-- The URI in a stretch of bytes against an element's namespace.
-- Assumes nothing.
use Prim.Native.Nat.{ℕ}
use native.Mathlib.Omega.{arith}
use lib.ListN.{length}
use mathlib.Core.Path.{◌≡◌, refl, ap, ◌∙◌}
use mathlib.Core.Bool.{Bool, true, false}
use mathlib.Core.List.{[], ◌∷◌}
use mathlib.Core.Option.{Option}
use Rattle.texts.specs.Texts.{Text, same}
use Rattle.paths.specs.Matching.{space_fits}
use Rattle.records.specs.Readers.{Bytes}
use Rattle.session_spec.specs.Definitions.{xml_namespace}
use Rattle.bindings.specs.Bindings.{uri_in, stands_at, FoundIn}
use Rattle.std.specs.declared.option.Option as code
use Rattle.bindings.specs.declared.Uri.{Uri}
use Rattle.std.specs.declared.option.Option.TheVariants.{Some, None}
use Rattle.bindings.specs.declared.Uri.TheVariants.{Xml}
use Rattle.bindings.specs.Places.{uri_fits}

-- ---- a URI against an element's namespace

pub no-uri-fits : (uri space : Text) → length uri ≡ 0 → false ≡ uri_fits uri space
unfolding space_fits
no-uri-fits [] space h = refl
no-uri-fits (x ∷ uri) space h = absurd (omega arith)

pub uri-fits : (uri space : Text) → (length uri ≡ 0 → ⊥) → same uri space ≡ uri_fits uri space
unfolding space_fits
uri-fits [] space h = absurd (h refl)
uri-fits (x ∷ uri) space h = refl

module _ (own schema : Bytes) (found : code.Option Uri) (space : Text) where
  pub fits-nowhere : found ≡ None → true ≡ space_fits (stands_at own schema found) space
  unfolding space_fits
  fits-nowhere e = rw e

  pub fits-xml : (u : Uri) → found ≡ Some u → u ≡ Xml → (b : Bool) → b ≡ same xml_namespace space → b ≡ space_fits (stands_at own schema found) space
  unfolding space_fits
  fits-xml u e f b h = rw (e, f) h
