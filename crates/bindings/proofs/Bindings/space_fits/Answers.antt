-- `space_fits` meets its contract: by what was found.
-- Assumes nothing.
use Rattle.bindings.proofs.Stretches.{fits-nowhere, fits-xml}
use Rattle.bindings.proofs.Bindings.space_fits.Goals as goal

pub returns-in-Xml : goal.returns-in-Xml
returns-in-Xml c = fits-xml c.args.self.now.own.now c.args.self.now.schema.now c.args.found c.args.space.now c.in-Some.uri c.in-Some.is c.in-Xml.is c.same.result c.same.ensures

pub returns-in_default : goal.returns-in_default
returns-in_default c = fits-nowhere c.args.self.now.own.now c.args.self.now.schema.now c.args.found c.args.space.now c.in_default.is
