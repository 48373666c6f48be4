-- The verdict of the used bytes, by what reading them found.
-- Assumes nothing.
use Prim.Native.Nat.{ℕ}
use mathlib.Core.Path.{◌≡◌, ap, ◌∙◌}
use mathlib.Core.Option.{Option, some}
use Rattle.texts.specs.Texts.{Text}
use Rattle.records.specs.Readers.{Bytes}
use Rattle.records.specs.Refusals.{Refusal, definitions_full}
use Rattle.session_spec.specs.Definitions.{read_definitions}
use Rattle.definition_store.specs.declared.Tally.{Tally}
use Rattle.std.specs.declared.option.Option.TheVariants.{Some, None}
use Rattle.definition_store.specs.Store.{Defined, defined_by, id_verdict, ns_verdict}
use Rattle.defining.specs.Deciding.{judged_by, id_judged, ns_judged}

-- `part` is what was read, and `used` what is asked for
module _ (part used : Bytes) (same : part ≡ used) (d : Defined) (read : d ≡ defined_by (read_definitions part)) where
  by-unread : (f : Tally → Option Refusal) → d ≡ None → some definitions_full ≡ judged_by (defined_by (read_definitions used)) f
  unfolding judged_by
  by-unread f e = rw (← same, ← read, e)

  by_read : (f : Tally → Option Refusal) (t : Tally) → d ≡ Some t → f t ≡ judged_by (defined_by (read_definitions used)) f
  unfolding judged_by
  by_read f t e = rw (← same, ← read, e)

  pub id-unread : d ≡ None → some definitions_full ≡ id_judged used
  unfolding id_judged
  id-unread e = by-unread id_verdict e

  pub id-read : (t : Tally) → d ≡ Some t → (v : Option Refusal) → v ≡ id_verdict t → v ≡ id_judged used
  unfolding id_judged
  id-read t e v h = h ∙ by_read id_verdict t e

  module _ (target : ℕ) (prefix : Text) where
    pub ns-unread : d ≡ None → some definitions_full ≡ ns_judged used target prefix
    unfolding ns_judged
    ns-unread e = by-unread (λ t. ns_verdict used t target prefix) e

    pub ns-read : (t : Tally) → d ≡ Some t → (v : Option Refusal) (text : Text) → v ≡ ns_verdict part t target text → text ≡ prefix → v ≡ ns_judged used target prefix
    unfolding ns_judged
    ns-read t e v text h k =
        h ∙ ap (λ (x : Bytes). ns_verdict x t target text) same ∙ ap (λ (x : Text). ns_verdict used t target x) k ∙ by_read (λ t. ns_verdict used t target prefix) t e
