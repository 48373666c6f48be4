-- `text_place` meets its contract: the length is not there, or not all of the bytes, or the text is whole.
-- Assumes nothing.
use Rattle.std.proofs.Common.{◌≡◌, ◌+◌, refl, arith, length}
use Rattle.std.proofs.lemmas.Grind.{common_steps}
use borrow.Author.Tests.{le-leb, lt-leb}
use Rattle.numbers.specs.Numbers.{two}
use Rattle.record_places.specs.Places.{text_place}
use Rattle.record_places.proofs.text_place.Goals as goal

pub returns-in_err-get : goal.returns-in_err-get
unfolding text_place
returns-in_err-get c =
    let s = c.args.s.now in
    let at = c.args.at in
    rw (c.from_residual.ensures, lt-leb (at + 2 + two s at) (length s) (omega (arith, c.in_err-get.ensures.lookup))) refl

pub returns-in_err-stated : goal.returns-in_err-stated
unfolding text_place
returns-in_err-stated c =
    let s = c.args.s.now in
    let at = c.args.at in
    let e = c.in_ok-get.ensures.lookup.0.3 in
    rw (c.from_residual-in_err-stated.ensures, lt-leb (at + 2 + two s at) (length s) (omega (arith, e, c.in_err-stated.ensures.cases))) refl

pub returns-then-behind-size : goal.returns-then-behind-size
unfolding text_place two
returns-then-behind-size c =
    let s = c.args.s.now in
    let at = c.args.at in
    let n : c.from-size.result ≡ two s at = grind (arith, common_steps) in
    let e = c.in_ok-get.ensures.lookup.0.3 in
    rw (lt-leb (at + 2 + two s at) (length s) (omega (arith, n, e, c.in_ok-stated.ensures.cases.2))) refl

pub returns : goal.returns
unfolding text_place two
returns c =
    let s = c.args.s.now in
    let at = c.args.at in
    let n : c.from-size.result ≡ two s at = grind (arith, common_steps) in
    let e = c.in_ok-get.ensures.lookup.0.3 in
    rw (le-leb (at + 2 + two s at) (length s) (omega (arith, n, e, c.in_ok-stated.ensures.cases.2)), ← n) refl
