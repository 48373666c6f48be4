-- `piece_length` meets its contract: the first place of a c, or the length, is what std's `position_or_len` says of the test.
-- Assumes nothing.
use lib.Dec.{eqb}
use mathlib.Core.Path.{◌≡◌, ◌∙◌}
use Rattle.std.proofs.Common.{rules, tests}
use Rattle.std.proofs.lemmas.Iterator.{YieldsList-from_slice}
use Rattle.std.proofs.lemmas.Iterator.Search.{position_from_yields_List}
use Rattle.std.specs.Prelude.{position}
use Rattle.path_pieces.proofs.Pieces.{first_or_end, piece-first}
use Rattle.path_pieces.proofs.piece_length.Goals as goal

pub returns : goal.returns
returns c =
    let s = c.args.s.now in
    let e : c.position.result ≡ position (λ x. eqb x c.args.c) s =
    position_from_yields_List (λ x. eqb x c.args.c) _ _ _ c.position.ensures.ran (YieldsList-from_slice s (cc)) (λ x b q k. search (rules, tests)) in
    first_or_end (λ x. eqb x c.args.c) s c.position.result c.unwrap_or.result e (cc) ∙ piece-first c.args.c s
