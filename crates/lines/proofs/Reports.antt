-- The report whose line is written is the RP that stands there.
-- Assumes nothing.
use mathlib.Core.Path.{◌≡◌, refl, ap, sym, ◌∙◌}
use mathlib.Core.Bool.{true}
use mathlib.Core.Option.{some, some-injective}
use Rattle.tree.specs.Judge.{Report}
use Rattle.records.specs.Readers.{Bytes}
use Rattle.session_spec.specs.Definitions.{is_some}
use Rattle.session_spec.specs.Layout.{read_rp}
use Rattle.reports.proofs.Reading.{front}
use Rattle.lines.specs.Lines.{report_in}

-- REPORT-IS: the bytes of an RP give back its report.
pub report-is : (s : Bytes) (r : Report) (rest : Bytes) → read_rp s ≡ some (r, rest) → report_in s ≡ r
report-is s r rest h =
    let f = front s (sym (ap is_some h ∙ unfold is_some in refl)) in
    ap (λ (q : Report × Bytes). q.0) (some-injective _ _ (sym f.reads ∙ h))
