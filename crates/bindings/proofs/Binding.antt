-- What one record binds a prefix to: the tests on its front one after the other, then its two texts, where they stand.
-- Assumes nothing.
use Prim.Native.Nat.{ℕ, ◌+◌, ◌≤◌, ◌<◌}
use native.Mathlib.Omega.{arith}
use lib.Dec.{eqb}
use lib.ListN.{length, drop, get_or}
use borrow.Author.Tests.{eq-eqb, ne_eqb}
use mathlib.Core.Path.{◌≡◌, refl, ap, sym, ◌∙◌}
use mathlib.Core.Bool.{Bool, true, false, ◌&&◌}
use mathlib.Core.List.{[], ◌∷◌, ◌++◌}
use mathlib.Core.Option.{Option, none, some, map}
use Rattle.lists.specs.Lists.{part, only_if, passing}
use Rattle.texts.specs.Texts.{Text, same}
use Rattle.records.specs.Readers.{Bytes, Reader, on_read, ◌>>=◌, pass, require, read_byte, read_two, read_text}
use Rattle.records.specs.Records.{NsRecord}
use Rattle.session_spec.specs.Definitions.{look_up}
use Rattle.bindings.specs.Bindings.{read_binding, as_list}
use Rattle.record_places.specs.declared.Place.{Place}
use Rattle.std.specs.declared.option.Option as code
use Rattle.std.specs.declared.option.Option.TheVariants.{Some, None}
use Rattle.bindings.specs.Places.{text_by, TextAt, placed, uri_by, BoundIn}

-- ---- behind mark and length

-- the binding for target t, whose texts are still to be read
unfoldable pub uri_behind : ℕ → Text → Reader NsRecord
uri_behind t q = read_text >>= (λ u. pass (record { target = t; prefix = q; uri = u }))

unfoldable pub texts_behind : ℕ → Reader NsRecord
texts_behind t = read_text >>= uri_behind t

-- whatever the test says, nothing is read where nothing is read behind it
tested : {A : Type 0} (b : Bool) (xs : Bytes) (k : Bool → Reader A) → k true xs ≡ none → on_read (require b xs) k ≡ none
unfolding on_read require
tested true xs k h = h
tested false xs k h = refl

no-head : (f : Bytes) → length f < 5 → read_binding f ≡ none
unfolding read_binding read_two read_byte ◌>>=◌ on_read pass
no-head [] h = refl
no-head (a ∷ []) h = refl
no-head (a ∷ b ∷ []) h = tested (eqb a 78 && eqb b 83) [] _ refl
no-head (a ∷ b ∷ c ∷ []) h = tested (eqb a 78 && eqb b 83) (c ∷ []) _ refl
no-head (a ∷ b ∷ c ∷ d ∷ []) h = tested (eqb a 78 && eqb b 83) (c ∷ d ∷ []) _ refl
no-head (a ∷ b ∷ c ∷ d ∷ e ∷ f) h = absurd (omega arith)

no-mark : (f : Bytes) → 5 ≤ length f → (eqb (get_or f 0 0) 78 && eqb (get_or f 1 0) 83) ≡ false → read_binding f ≡ none
unfolding read_binding require read_byte ◌>>=◌ on_read
no-mark [] h e = absurd (omega arith)
no-mark (a ∷ []) h e = absurd (omega arith)
no-mark (a ∷ b ∷ f) h e = rw e

mark : (f : Bytes) → 5 ≤ length f → (eqb (get_or f 0 0) 78 && eqb (get_or f 1 0) 83) ≡ true → read_binding f ≡ texts_behind (get_or f 4 0) (drop 5 f)
unfolding read_binding require read_two read_byte ◌>>=◌ on_read pass texts_behind uri_behind
mark [] h e = absurd (omega arith)
mark (a ∷ []) h e = absurd (omega arith)
mark (a ∷ b ∷ []) h e = absurd (omega arith)
mark (a ∷ b ∷ c ∷ []) h e = absurd (omega arith)
mark (a ∷ b ∷ c ∷ d ∷ []) h e = absurd (omega arith)
mark (a ∷ b ∷ c ∷ d ∷ t ∷ f) h e = rw e

-- ---- the URI, where the binding is for this target and prefix

module _ (target : ℕ) (p : Text) where
  -- what a binding that is read, or none, gives
  unfoldable pub given : Option (NsRecord × Bytes) → Option Text
  given o = look_up p (passing (λ b. eqb b.target target) (as_list o))

  none-given : (o : Option (NsRecord × Bytes)) → o ≡ none → given o ≡ none
  unfolding given as_list passing look_up
  none-given o e = rw e

  module _ (t : ℕ) (q : Text) where
    other-target : (o : Option (Text × Bytes)) → eqb t target ≡ false
        → given (on_read o (λ u. pass (record { target = t; prefix = q; uri = u }))) ≡ none
    unfolding given on_read pass as_list passing only_if look_up
    other-target none e = refl
    other-target (some u) e = rw e

    other-prefix : (o : Option (Text × Bytes)) → same p q ≡ false
        → given (on_read o (λ u. pass (record { target = t; prefix = q; uri = u }))) ≡ none
    unfolding given on_read pass as_list passing only_if look_up
    other-prefix none e = refl
    other-prefix (some u) e = by (eqb t target)
      where
        by : (b : Bool) → look_up p (only_if b (record { target = t; prefix = q; uri = u.0 } ∷ []) ++ []) ≡ none
        by true = rw e
        by false = refl

    both-fit : (o : Option (Text × Bytes)) → eqb t target ≡ true → same p q ≡ true
        → given (on_read o (λ u. pass (record { target = t; prefix = q; uri = u }))) ≡ map (λ u. u.0) o
    unfolding given on_read pass as_list passing only_if look_up
    both-fit none e g = refl
    both-fit (some u) e g = rw (e, g)

-- ---- what `bound_in` answers

-- a place and what is read there: the text without what is behind it
placed-text : (s : Bytes) (r : code.Option Place) → placed s r ≡ map (λ u. u.0) (text_by s r)
placed-text s None = refl
placed-text s (Some r) = refl

module _ (f : Bytes) (target : ℕ) (p : Text) where
  not-bound : uri_by f target p ≡ none → BoundIn f target p None
  not-bound e = record { stands = sym e; inside = tt }

  unread : read_binding f ≡ none → BoundIn f target p None
  unfolding uri_by given
  unread e = not-bound (none-given target p (read_binding f) e)

  pub bound-no-head : length f < 5 → BoundIn f target p None
  bound-no-head h = unread (no-head f h)

  module _ (h : 5 ≤ length f) where
    pub bound-no-mark : (eqb (get_or f 0 0) 78 && eqb (get_or f 1 0) 83) ≡ false → BoundIn f target p None
    bound-no-mark e = unread (no-mark f h e)

    module _ (m : (eqb (get_or f 0 0) 78 && eqb (get_or f 1 0) 83) ≡ true) where
      texts-read : read_binding f ≡ texts_behind (get_or f 4 0) (drop 5 f)
      texts-read = mark f h m

      pub bound-target-differs : (get_or f 4 0 ≡ target → ⊥) → BoundIn f target p None
      unfolding uri_by given texts_behind uri_behind ◌>>=◌
      bound-target-differs e = not-bound (ap (given target p) texts-read ∙ by (read_text (drop 5 f)))
        where
          by : (o : Option (Text × Bytes)) → given target p (on_read o (uri_behind (get_or f 4 0))) ≡ none
          by none = unfold on_read in none-given target p none refl
          by (some q) = unfold on_read in other-target target p (get_or f 4 0) q.0 (read_text q.1) (ne_eqb (get_or f 4 0) target e)

      pub bound-no-prefix : TextAt f 5 None → BoundIn f target p None
      unfolding texts_behind ◌>>=◌ on_read
      bound-no-prefix w = unread (texts-read ∙ rw w.reads)

      module _ (q : Place) (w : TextAt f 5 (Some q)) where
        uri-left : read_binding f ≡ uri_behind (get_or f 4 0) (part f q.start q.size) (drop (q.start + q.size) f)
        unfolding texts_behind ◌>>=◌ on_read
        uri-left = texts-read ∙ rw w.reads

        module _ (b : Bool) (c : b ≡ same p (part f q.start q.size)) where
          pub bound-prefix-differs : b ≡ false → BoundIn f target p None
          unfolding uri_by given uri_behind ◌>>=◌
          bound-prefix-differs d =
              not-bound (ap (given target p) uri-left ∙ other-prefix target p (get_or f 4 0) (part f q.start q.size) (read_text (drop (q.start + q.size) f)) (sym c ∙ d))

          pub bound-here : get_or f 4 0 ≡ target → b ≡ true → (u : code.Option Place) → TextAt f (q.start + q.size) u → BoundIn f target p u
          unfolding uri_by given uri_behind ◌>>=◌
          bound-here t d u v =
              record {
                stands = placed-text f u
                    ∙ sym (ap (map (λ x. x.0)) v.reads)
                    ∙ sym (both-fit target p (get_or f 4 0) (part f q.start q.size) (read_text (drop (q.start + q.size) f)) (eq-eqb (get_or f 4 0) target t) (sym c ∙ d))
                    ∙ sym (ap (given target p) uri-left);
                inside = v.inside;
              }
