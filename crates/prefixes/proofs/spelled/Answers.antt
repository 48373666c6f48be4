-- `spelled` meets its contract: the library compares the characters with the code points of the word.
-- Assumes nothing.
use mathlib.Core.Path.{◌≡◌}
use Rattle.std.proofs.lemmas.Iterator.{YieldsList-from_slice}
use Rattle.std.proofs.lemmas.Iterator.Consumers.{YieldsList-from_copied, YieldsList-from_first}
use Rattle.utf8.specs.Utf8.{decode}
use Rattle.prefixes.proofs.Spelling.{same-by_eq}
use Rattle.prefixes.proofs.spelled.Goals as goal

pub returns : goal.returns
returns c =
    same-by_eq (λ x y. y ≡ x) _ _ c.eq.ensures.ran (YieldsList-from_copied (YieldsList-from_slice c.args.p.now cc)) (λ it e. YieldsList-from_first (λ x. x) (λ p. decode p.0.now) (decode c.args.word.now) (cc))
