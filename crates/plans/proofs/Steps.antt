-- `step` by what the world decodes to and what the bytes parse to: refusal 10 where nothing is decoded, the refusals because of the input, and for each kind of
-- record its rows and the world after it. What decodes is well formed, so the laws of the kinds apply.
-- Assumes nothing.
use mathlib.Core.Path.{◌≡◌, ap, sym, ◌∙◌}
use mathlib.Core.List.{List}
use mathlib.Core.Option.{Option, none, some}
use Rattle.records.specs.Readers.{Bytes}
use Rattle.records.specs.Refusals.{Refusal, unfit, first_of}
use Rattle.records.specs.Records.{IdRecord, NsRecord, EsRecord, EeRecord, ID, NS, ES, EE, FI, unparsed, parsed, parse}
use Rattle.session_spec.specs.Session.{World, Session, decode, refused, considered, attempt, step}
use Rattle.runs.proofs.WellFormed.{well-formed}
use Rattle.plans.specs.Plans.{answered, definition_rows, defined, start_rows, started_by, end_rows, ended_by, finish_rows, finished_by}
use Rattle.plans.proofs.Defining.{id-settled, ns-settled}
use Rattle.plans.proofs.Starting.{es-settled}
use Rattle.plans.proofs.Ending.{ee-settled}
use Rattle.plans.proofs.Finishing.{fi-settled}

module _ (w : World) (bs : Bytes) where
  pub step-unfit : decode w ≡ none → step w bs ≡ (refused unfit, w)
  unfolding step attempt
  step-unfit d = rw d

  module _ (s : Session) (d : decode w ≡ some s) where
    pub step-unparsed : (c : Refusal) → parse bs ≡ unparsed c → step w bs ≡ (refused c, w)
    unfolding step attempt considered
    step-unparsed c p = rw (d, p)

    pub step-id : (i : IdRecord) → parse bs ≡ parsed (ID i) → step w bs ≡ answered w (defined w bs) (first_of (definition_rows w s (ID i) bs))
    unfolding step attempt considered
    step-id i p = rw (d, p) (id-settled w s i bs (well-formed w s d))

    pub step-ns : (b : NsRecord) → parse bs ≡ parsed (NS b) → step w bs ≡ answered w (defined w bs) (first_of (definition_rows w s (NS b) bs))
    unfolding step attempt considered
    step-ns b p = rw (d, p) (ns-settled w s b bs (well-formed w s d))

    pub step-es : (r : EsRecord) → parse bs ≡ parsed (ES r) → step w bs ≡ answered w (started_by w s r) (first_of (start_rows w s r))
    unfolding step attempt considered
    step-es r p = rw (d, p) (es-settled w s r bs (well-formed w s d))

    pub step-ee : (r : EeRecord) → parse bs ≡ parsed (EE r) → step w bs ≡ answered w (ended_by w s r) (first_of (end_rows w s r))
    unfolding step attempt considered
    step-ee r p = rw (d, p) (ee-settled w s r bs (well-formed w s d) p)

    pub step-fi : parse bs ≡ parsed FI → step w bs ≡ answered w (finished_by w s) (first_of (finish_rows w s))
    unfolding step attempt considered
    step-fi p = rw (d, p) (fi-settled w s bs (well-formed w s d))
