-- The word at the front of a text: how many bytes it has.
-- Assumes nothing.
use Prim.Native.Char.{code}
use Rattle.std.specs.Prelude.{ℕ, suc, eqb, cond, [], ◌∷◌}
use Rattle.texts.specs.Texts.{Text}

-- how many bytes stand before the first space
unfoldable pub word_length : Text → ℕ
word_length [] = 0
word_length (b ∷ s) = cond (eqb b (code " ")) 0 (suc (word_length s))
