-- The rows of refusals of an ES: those that are known by counts alone, and those that take its paths.
-- Assumes nothing.
use Rattle.std.specs.Prelude.{ℕ, suc, ◌+◌, ◌*◌, eqb, leb, ltb, length, Bool, List, [], ◌∷◌}
use Rattle.records.specs.Refusals.{out_of_place, too_many_events, undefined, too_deep, too_many_scopes, too_many_selections, reports_full, Row}
use Rattle.records.specs.Records.{EsRecord}
use Rattle.session_spec.specs.Session.{Session, stage_of, depth_of}
use Rattle.plans.specs.Plans.{scopes_then, selections_then, sixes}

-- 11, 19, 12, 14 for the depth: by the stage, the events taken, and whether a listed number is not defined
unfoldable pub place_rows : (stage events : ℕ) → (absent : Bool) → List Row
place_rows stage events absent =
    (eqb stage 66, out_of_place) ∷ (leb 1000000 events, too_many_events) ∷ (absent, undefined) ∷ (ltb 64 (suc (depth_of (stage_of stage) stage)), too_deep) ∷ []

-- 20 for scopes, 21 for selections, 16: where so many bytes of so long a report store are used
unfoldable pub path_rows : Session → EsRecord → (used room : ℕ) → List Row
path_rows s r used room =
    (ltb 16 (length (scopes_then s r)), too_many_scopes)
    ∷ (ltb 32 (length (selections_then s r)), too_many_selections)
    ∷ (ltb room (used + 18 * length (sixes s r)), reports_full)
    ∷ []
