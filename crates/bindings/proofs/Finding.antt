-- Where the URI of a prefix stands: one answer after the other, in the order in which the definition asks.
-- Assumes nothing.
use Prim.Native.Nat.{ℕ}
use mathlib.Core.Path.{◌≡◌, refl, ap, sym, ◌∙◌}
use mathlib.Core.Bool.{Bool, true, false, cond, ◌||◌}
use mathlib.Core.List.{List, [], ◌∷◌}
use mathlib.Core.Option.{some}
use Rattle.lists.specs.Lists.{any}
use Rattle.std.specs.Option as std
use Rattle.texts.specs.Texts.{Text, same}
use Rattle.paths.specs.Reading.{or_else}
use Rattle.records.specs.Readers.{Bytes}
use Rattle.records.specs.Records.{NsRecord}
use Rattle.session_spec.specs.Definitions.{xml_prefix, look_up, is_some}
use Rattle.bindings.specs.Bindings.{bound_for, uri_in, FoundIn}
use Rattle.std.specs.declared.option.Option.TheVariants.{Some, None}
use Rattle.bindings.specs.declared.Uri.TheVariants.{Xml, Own, Schema}
use Rattle.record_places.specs.declared.Place.{Place}
use Rattle.std.specs.declared.option.Option as code
use Rattle.bindings.specs.Places.{LookedUp}

module _ (own schema : Bytes) (t : ℕ) (p : Text) (b : Bool) (c : b ≡ same p xml_prefix) where
  pub found-xml : b ≡ true → FoundIn own schema t p (Some Xml)
  unfolding uri_in
  found-xml e = record { stands = rw (← c, e); inside = tt }

  module _ (e : b ≡ false) where
    bound : uri_in own schema t p ≡ or_else (look_up p (bound_for t own)) (look_up p (bound_for 0 schema))
    unfolding uri_in
    bound = rw (← c, e)

    pub found-own : (x : Place) → LookedUp own t p (Some x) → FoundIn own schema t p (Some (Own x))
    unfolding or_else
    found-own x w = record { stands = sym (bound ∙ rw (← w.stands)); inside = w.inside }

    module _ (w : LookedUp own t p None) where
      bound-schema : uri_in own schema t p ≡ look_up p (bound_for 0 schema)
      unfolding or_else
      bound-schema = bound ∙ rw (← w.stands)

      pub found-schema : (x : Place) → LookedUp schema 0 p (Some x) → FoundIn own schema t p (Some (Schema x))
      found-schema x v = record { stands = sym (bound-schema ∙ rw (← v.stands)); inside = v.inside }

      pub found_nowhere : LookedUp schema 0 p None → FoundIn own schema t p None
      found_nowhere v = record { stands = sym (bound-schema ∙ rw (← v.stands)); inside = tt }

-- ---- whether it stands anywhere: a URI is found where some binding has the prefix

found-any : (p : Text) (bs : List NsRecord) → is_some (look_up p bs) ≡ any (λ b. same p b.prefix) bs
unfolding look_up is_some
found-any p [] = refl
found-any p (b ∷ bs) = by (same p b.prefix) (found-any p bs)
  where
    by : (t : Bool) → is_some (look_up p bs) ≡ any (λ c. same p c.prefix) bs
        → is_some (cond t (some b.uri) (look_up p bs)) ≡ (t || any (λ c. same p c.prefix) bs)
    by true ih = refl
    by false ih = ih

pub bound-somewhere : (s : Bytes) (t : ℕ) (p : Text) (r : code.Option Place) → LookedUp s t p r → std.is_some r ≡ any (λ b. same p b.prefix) (bound_for t s)
unfolding is_some
bound-somewhere s t p None w = ap is_some w.stands ∙ found-any p (bound_for t s)
bound-somewhere s t p (Some x) w = ap is_some w.stands ∙ found-any p (bound_for t s)
