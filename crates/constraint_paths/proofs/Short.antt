-- The texts of an ID that parses have at most 255 bytes: refusal 5 comes before.
-- Assumes nothing.
use Prim.Native.Nat.{◌≤◌}
use lib.ListN.{length}
use mathlib.Core.Path.{◌≡◌}
use mathlib.Core.List.{◌∷◌}
use mathlib.Core.Option.{some}
use Rattle.lists.proofs.Folds.{All-parts}
use Rattle.texts.specs.Texts.{Text}
use Rattle.paths.proofs.Sure.{some-parts}
use Rattle.records.specs.Readers.{Bytes}
use Rattle.records.specs.Records.{IdRecord, ID, texts_of, refer_texts, parse}
use Rattle.session_spec.specs.Definitions.{frame}
use Rattle.session_laws.proofs.Limits.{limited}
use Rattle.constraints.specs.Constraints.{id_of, id_at}
use Rattle.constraints.proofs.Ids.{said-id}
use Rattle.lists.specs.Lists.{All}

pub record Short (i : IdRecord) : Type 0 where
  pub selector : length i.selector ≤ 255
  pub fields : All (λ (t : Text). length t ≤ 255) i.fields

pub id-short : (own : Bytes) (i : IdRecord) → id_at own ≡ some i → Short i
unfolding id_at texts_of
id-short own i h =
    let p = some-parts (frame own) (λ q. id_of (parse q.0)) i h in
    let a : All (λ (t : Text). length t ≤ 255) (texts_of (ID i)) = (limited p.0.0 (ID i) (said-id (parse p.0.0) i p.2)).texts in
    let c = All-parts (λ (t : Text). length t ≤ 255) (refer_texts i.refer) (i.selector ∷ i.fields) a.1 in
    record { selector = c.1.0; fields = c.1.1 }
