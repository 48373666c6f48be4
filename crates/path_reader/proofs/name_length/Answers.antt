-- `name_length` meets its contract: the first place of another byte, or the length, is what std's `position_or_len` says of the test.
-- Assumes nothing.
use mathlib.Core.Bool.{not}
use mathlib.Core.Path.{◌≡◌, ◌∙◌}
use Rattle.std.proofs.Common.{rules, tests}
use Rattle.std.proofs.lemmas.Iterator.{YieldsList-from_slice}
use Rattle.std.proofs.lemmas.Iterator.Search.{position_from_yields_List}
use Rattle.std.specs.Prelude.{position}
use Rattle.path_pieces.proofs.Pieces.{first_or_end}
use Rattle.path_reader.specs.Places.{name_byte}
use Rattle.path_reader.proofs.Names.{name-first}
use Rattle.path_reader.proofs.name_length.Goals as goal

pub returns : goal.returns
returns c =
    let t = c.args.t.now in
    let e : c.position.result ≡ position (λ x. not (name_byte x)) t =
    position_from_yields_List (λ x. not (name_byte x)) _ _ _ c.position.ensures.ran (YieldsList-from_slice t (cc)) (λ x b q k. search (rules, tests)) in
    first_or_end (λ x. not (name_byte x)) t c.position.result c.unwrap_or.result e (cc) ∙ name-first t
