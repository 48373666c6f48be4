-- `find_same` meets its contract: what is looked for is all of the TU from byte 5 on, which does not name the constraint.
-- Assumes nothing.
use native.Mathlib.Omega.{arith}
use mathlib.Core.Path.{ap, ◌∙◌}
use Rattle.records.specs.Readers.{Bytes}
use Rattle.session_spec.specs.Definitions.{frame}
use Rattle.output_stores.specs.Stores.{standing}
use Rattle.tuple_search.specs.Search.{keys_in, place_with}
use Rattle.tuple_search.proofs.Added.{made-least, made-tail}
use Rattle.settling.proofs.find_same.Goals as goal

pub overflow_sub-size : goal.overflow_sub-size
overflow_sub-size c =
    let a = c.args in
    let m = c.make_tuple-made in
    omega (arith, made-least 0 a.home.number (keys_in a.home.fields a.cells.now) m.result m.ensures)

pub returns : goal.returns
returns c =
    let a = c.args in
    let m = c.make_tuple-made in
    λ marked. c.find_marked.ensures marked
    ∙ ap (λ (l : Bytes). place_with l (standing frame a.tuples.used.now)) (c.clipped.ensures ∙ made-tail 0 a.home.number (keys_in a.home.fields a.cells.now) m.result m.ensures)
