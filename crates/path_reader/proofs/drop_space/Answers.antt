-- `drop_space` meets its contract: each turn copies one character of the path, or drops it.
-- Assumes nothing.
use Rattle.std.proofs.Common.{rules}
use native.Mathlib.Omega.{arith}
use Rattle.path_reader.proofs.Spaces.{char-fits, char-copied, copied-end}
use Rattle.path_reader.proofs.drop_space.Goals as goal

pub split_at-requires : goal.split_at-requires
split_at-requires c =
    let loop = c.loop-rest in
    (char-fits c.args.path.now c.args.bare.now loop.bare loop.rest.now loop.n loop.invariant.1 (grind (arith, c.is_empty.ensures)) c.char_at-c.result c.char_at-c.ensures).1

pub loop-rest-smaller : goal.loop-rest-smaller
loop-rest-smaller c =
    let loop = c.loop-rest in
    let fits = char-fits c.args.path.now c.args.bare.now loop.bare loop.rest.now loop.n loop.invariant.1 (grind (arith, c.is_empty.ensures)) c.char_at-c.result c.char_at-c.ensures in
    omega (arith, c.split_at.ensures.back_len)

pub loop-rest-preserved : goal.loop-rest-preserved
loop-rest-preserved c =
    let loop = c.loop-rest in
    let split = c.split_at in
    let copy = c.copy_char-n in
    (search rules, char-copied c.args.path.now c.args.bare.now loop.bare loop.rest.now loop.n loop.invariant.1 (grind (arith, c.is_empty.ensures)) c.char_at-c.result c.char_at-c.ensures c.requires.1 split.result.0.now split.result.1.now split.ensures.front split.ensures.back copy.new.bare copy.result copy.ensures.0 copy.ensures.1)

pub returns : goal.returns
returns c =
    let loop = c.loop-rest in
    copied-end c.args.path.now c.args.bare.now loop.bare loop.rest.now loop.n loop.invariant.1 (grind (arith, c.is_empty.ensures))
