-- `store_parts_of` meets its contract: the parts are those of `parts_of`, with the refer as the C interface has it.
-- Assumes nothing.
use mathlib.Core.Path.{sym, subst}
use Rattle.std.specs.declared.option.Option as code
use Rattle.record_places.specs.declared.Place.{Place}
use Rattle.constraints.specs.declared.Parts.{Parts}
use Rattle.constraints.specs.Constraints.{PartsOf}
use Rattle.store_doors.proofs.store_parts_of.Goals as goal

pub returns-clause-parts : goal.returns-clause-parts
returns-clause-parts c =
    let p = c.parts_of-p in
    let with : code.Option Place → Parts =
    λ o. record { kind = p.result.kind; name = p.result.name; refer = o; selector = p.result.selector; first = p.result.first; count = p.result.count } in
    subst (λ (o : code.Option Place). PartsOf c.args.own.now (with o)) (sym c.refer_told-told.ensures.is) p.ensures
