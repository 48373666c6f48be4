-- `char_at` meets its contract: each way it returns is a law of proofs/Chars.antt, by the first byte.
-- Assumes nothing.
use native.Mathlib.Omega.{arith}
use lib.ListN.{get_or}
use mathlib.Core.Path.{◌≡◌}
use Rattle.code_points.proofs.Chars.{char-past, char-one, char-two, char-three, char-four}
use Rattle.code_points.proofs.char_at.Goals as goal

pub returns-in_default : goal.returns-in_default
returns-in_default c = char-past c.args.s.now c.args.at (omega (arith, c.in_default.ensures.lookup))

pub returns-in-0-to-191 : goal.returns-in-0-to-191
returns-in-0-to-191 c =
    let e : c.from-b.result ≡ get_or c.args.s.now c.args.at 0 = grind (arith, c.in-Some.ensures.lookup, c.from-b.ensures) in
    rw e (char-one c.args.s.now c.args.at (omega arith))

pub returns-in-192-to-223 : goal.returns-in-192-to-223
returns-in-192-to-223 c =
    let e : c.from-b.result ≡ get_or c.args.s.now c.args.at 0 = grind (arith, c.in-Some.ensures.lookup, c.from-b.ensures) in
    rw e (char-two c.args.s.now c.args.at (omega arith) c.bits.result c.bits.ensures (omega arith))

pub returns-in-224-to-239 : goal.returns-in-224-to-239
returns-in-224-to-239 c =
    let e : c.from-b.result ≡ get_or c.args.s.now c.args.at 0 = grind (arith, c.in-Some.ensures.lookup, c.from-b.ensures) in
    let x = c.bits-in-224-to-239 in
    let y = c.bits-in-224-to-239-2 in
    rw e (char-three c.args.s.now c.args.at (omega arith) x.result x.ensures (omega arith) y.result y.ensures (omega arith))

pub returns-in_default-b : goal.returns-in_default-b
returns-in_default-b c =
    let e : c.from-b.result ≡ get_or c.args.s.now c.args.at 0 = grind (arith, c.in-Some.ensures.lookup, c.from-b.ensures) in
    let x = c.bits-in_default-b in
    let y = c.bits-in_default-b-2 in
    let z = c.bits-in_default-b-3 in
    rw e (
    char-four c.args.s.now c.args.at (omega arith) x.result x.ensures (omega arith) y.result y.ensures (omega arith) z.result z.ensures)
