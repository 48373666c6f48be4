-- `behind_colons` meets its contract: by whether the text behind the white space starts with two colons.
-- Assumes nothing.
use native.Mathlib.Omega.{arith}
use mathlib.Core.Path.{refl}
use mathlib.Core.List.{[], ◌∷◌}
use Rattle.std.proofs.lemmas.Bool.Decides.{Decides-eqb}
use Rattle.std.proofs.lemmas.Slice.Eq.{strip_prefix_is}
use Rattle.tokens.proofs.Firsts.{gap-room}
use Rattle.path_steps.proofs.Colons.{colons-by}
use Rattle.path_steps.proofs.behind_colons.Goals as goal

pub offset_bounds-s-i : goal.offset_bounds-s-i
offset_bounds-s-i c = let room = gap-room c.args.s.now c.gap_length-i.result c.gap_length-i.ensures in omega arith

pub slice_bounds-strip_prefix-count : goal.slice_bounds-strip_prefix-count
slice_bounds-strip_prefix-count c = let room = gap-room c.args.s.now c.gap_length-i.result c.gap_length-i.ensures in omega arith

pub slice_bounds-strip_prefix-start : goal.slice_bounds-strip_prefix-start
slice_bounds-strip_prefix-start c = let room = gap-room c.args.s.now c.gap_length-i.result c.gap_length-i.ensures in omega arith

pub returns : goal.returns
returns c =
    colons-by c.args.s.now c.gap_length-i.result c.gap_length-i.ensures _ refl c.strip_prefix.result
    (strip_prefix_is Decides-eqb _ (58 ∷ 58 ∷ []) c.strip_prefix.result c.strip_prefix.ensures.cases)
