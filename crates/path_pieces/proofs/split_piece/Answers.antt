-- `split_piece` meets its contract: the text is cut at the first place of a c, and where there is none it is one piece.
-- Assumes nothing.
use lib.Dec.{eqb}
use mathlib.Core.Path.{◌≡◌}
use Rattle.std.proofs.Common.{rules, tests}
use Rattle.std.proofs.lemmas.Iterator.{YieldsList-from_slice}
use Rattle.std.proofs.lemmas.Iterator.Search.{position_from_yields_List}
use Rattle.std.specs.Prelude.{position}
use Rattle.path_pieces.proofs.Pieces.{cut_none, cut-some}
use Rattle.path_pieces.proofs.split_piece.Goals as goal

pub returns-in_err-size : goal.returns-in_err-size
returns-in_err-size c =
    let s = c.args.s.now in
    let e : c.position.result ≡ position (λ x. eqb x c.args.c) s =
    position_from_yields_List (λ x. eqb x c.args.c) _ _ _ c.position.ensures.ran (YieldsList-from_slice s (cc)) (λ x b q k. search (rules, tests)) in
    rw c.from_residual.ensures (cut_none c.args.c s c.position.result e c.in_err-size.was)

pub returns : goal.returns
returns c =
    let s = c.args.s.now in
    let e : c.position.result ≡ position (λ x. eqb x c.args.c) s =
    position_from_yields_List (λ x. eqb x c.args.c) _ _ _ c.position.ensures.ran (YieldsList-from_slice s (cc)) (λ x b q k. search (rules, tests)) in
    cut-some c.args.c s c.position.result e c.in_ok-size.size c.in_ok-size.was
