-- What a door answers: by the case of the writer's answer, its number and the size of the text.
-- Assumes nothing.
use Prim.Native.Nat.{ℕ}
use mathlib.Core.Path.{◌≡◌, ap, sym, ◌∙◌}
use Rattle.texts.specs.Texts.{Text}
use Rattle.records.specs.Readers.{Bytes}
use Rattle.canonical.specs.Writing as writing
use Rattle.canonical.specs.Writing.{spelled_number, size_then, spelled}
use Rattle.std.specs.declared.result.Result.{Result}
use Rattle.std.specs.declared.result.Result.TheVariants.{Ok, Err}
use Rattle.path_writer.specs.declared.SpellRefusal.{SpellRefusal}
use Rattle.path_writer.specs.Spelling.{number_of, spelled_by, Spells, SpelledOut}

module _ (kind : ℕ) (path : Text) (out out' : Bytes) (r : Result ℕ SpellRefusal) (size : ℕ) (h : Spells kind path out r out') where
  pub text_out : (n : ℕ) → r ≡ Ok n → SpelledOut kind path out size 0 out' n
  unfolding spelled_number size_then
  text_out n e =
      let q : writing.text n ≡ (spelled kind path out).0 = ap spelled_by (sym e) ∙ h.answers in
      record { number = ap spelled_number q; output = h.leaves; sizes = ap (λ (a : writing.Spelled). size_then a size) q }

  pub refused-out : (x : SpellRefusal) → r ≡ Err x → SpelledOut kind path out size (number_of x) out' size
  unfolding spelled_number size_then
  refused-out x e =
      let q : writing.refused (number_of x) ≡ (spelled kind path out).0 = ap spelled_by (sym e) ∙ h.answers in
      record { number = ap spelled_number q; output = h.leaves; sizes = ap (λ (a : writing.Spelled). size_then a size) q }
