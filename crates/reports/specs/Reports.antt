-- What the functions over a report store answer, over the RP records that stand there.
-- Assumes nothing.
use Rattle.std.specs.Prelude.{ℕ, eqb, ltb, Bool, ◌&&◌, List, [], ◌∷◌}
use Rattle.std.proofs.Math.Option.{Option, none, some}
use Rattle.std.specs.declared.option.Option as code
use Rattle.std.specs.declared.option.Option.TheVariants.{Some, None}
use denote.Ref.{Bor}
use Rattle.lists.specs.Lists.{all}
use Rattle.tree.specs.Judge.{Report}
use Rattle.records.specs.Readers.{Bytes}
use Rattle.output_stores.specs.Stores.{in_mask}
use Rattle.reports.specs.declared.Report as declared

-- the report that is handed in
abbrev pub report_of : declared.Report → Report
report_of r = record { kind = r.kind; constraint = r.constraint; field = r.field; scope = r.scope; event = r.event; tuple = r.tuple }

-- the report at the front of bytes and those behind it, as code answers them
abbrev pub split_of : code.Option (declared.Report × Bor Bytes) → Option (Report × Bytes)
split_of None = none
split_of (Some q) = some (report_of q.0, q.1.now)

-- a report's bytes before the three numbers: mark, kind, constraint, field index and a zero
abbrev pub rp_head : (kind constraint field : ℕ) → Bytes
rp_head k c f = 82 ∷ 80 ∷ k ∷ c ∷ f ∷ 0 ∷ []

-- it says that a constraint of the set does not read
unfoldable pub tells : (named : ℕ) → Report → Bool
tells named r = eqb r.kind 6 && in_mask named r.constraint

-- each is of one of so many constraints
unfoldable pub all_defined : (constraints : ℕ) → List Report → Bool
all_defined n rs = all (λ r. ltb r.constraint n) rs
