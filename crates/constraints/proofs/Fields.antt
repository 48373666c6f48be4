-- Field i as the one that a walk over the texts comes to, and nothing where it comes to none.
-- Assumes nothing.
use Prim.Native.Nat.{ℕ}
use denote.Ref.{Bor}
use lib.ListN.{get_or}
use mathlib.Core.Path.{◌≡◌, refl, ap, ◌∙◌}
use mathlib.Core.List.{List, []}
use Rattle.std.proofs.lemmas.Option.{unwrap_or-slice_get}
use Rattle.std.specs.declared.option.Option as code
use Rattle.std.specs.declared.option.Option.TheVariants.{Some, None}
use Rattle.std.specs.Option.{option_map, unwrap_or}
use Rattle.std.specs.List.{slice_get}
use Rattle.texts.specs.Texts.{Text}
use Rattle.records.specs.Readers.{Bytes}

now-or : (r : code.Option (Bor Bytes)) (d : Bor Bytes) → d.now ≡ [] → (unwrap_or r d).now ≡ unwrap_or (option_map (λ b. b.now) r) []
now-or None d e = e
now-or (Some b) d e = refl

pub field-is : (xs : List Text) (i : ℕ) (r : code.Option (Bor Bytes)) (d u : Bor Bytes) → option_map (λ b. b.now) r ≡ slice_get xs i → u ≡ unwrap_or r d → d.now ≡ [] → u.now ≡ get_or xs i []
field-is xs i r d u h q e = ap (λ (b : Bor Bytes). b.now) q ∙ now-or r d e ∙ ap (λ (o : code.Option Text). unwrap_or o []) h ∙ unwrap_or-slice_get xs i []
