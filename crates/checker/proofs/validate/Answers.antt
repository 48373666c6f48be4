-- `validate` meets its contract: the points at the front of the array are the path's, and what is said of them is said of the path.
-- Assumes nothing.
use Rattle.std.proofs.Common.{rules}
use lib.Seq.{length-take-le}
use mathlib.Core.Path.{ap, sym, ◌∙◌}
use Rattle.grammar.specs.Tokens.{Points}
use Rattle.reasons.specs.Reasons.{reason}
use Rattle.prefixes.specs.Prefixes.{words_of}
use Rattle.path_steps.specs.Steps.{kind_of}
use Rattle.checker.proofs.validate.Goals as goal

pub slice_bounds-validate_identity_xpath-end-2 : goal.slice_bounds-validate_identity_xpath-end-2
slice_bounds-validate_identity_xpath-end-2 c = sym (length-take-le _ _ (search rules))

pub returns : goal.returns
returns c =
    let args = c.args in
    let decode-path = c.decode_path-n in
    let walk = c.validate_identity_xpath in
    walk.ensures ∙ ap (λ (s : Points). reason (kind_of args.kind) s (words_of args.prefixes.now)) decode-path.ensures.are
