-- WHICH NUMBERS A RECORD RAISES, by the bytes that it left: that of entry k for reached is number 3 k, for tuples the next, for reports the one behind.
-- Assumes nothing.
use Rattle.std.specs.Prelude.{ℕ, zero, suc, ◌+◌, ◌-◌, ◌*◌, ◌/◌, ltb, length, set, get_or, cond, List, [], ◌∷◌, ◌++◌, map}
use Rattle.lists.specs.Lists.{part}
use Rattle.records.specs.Readers.{Bytes}
use Rattle.session_spec.specs.Definitions.{frame}
use Rattle.session_spec.specs.Layout.{parts, unpack}
use Rattle.cells.specs.Cells.{scope_at}
use Rattle.output_stores.specs.Stores.{standing}
use Rattle.open_scopes.specs.declared.Scope.{Scope}
use Rattle.open_scopes.specs.declared.Numbers.{Numbers}
use Rattle.open_scopes.specs.OpenScopes.{blank_scope, open_of}
use Rattle.totals.specs.Totals.{Totals}

-- one more, up to the limit
abbrev pub raised : ℕ → ℕ
raised n = cond (ltb n 32000000) (n + 1) n

unfoldable pub raised_at : Totals → (place : ℕ) → Totals
raised_at ns p = set ns p (raised (get_or ns p 0))

unfoldable pub raised_all : Totals → (places : List ℕ) → Totals
raised_all ns [] = ns
raised_all ns (p ∷ ps) = raised_all (raised_at ns p) ps

-- ---- the places

-- for selections j and so many from there on
unfoldable pub finished_places : (scopes : List Scope) → (cells : Bytes) → (j count : ℕ) → List ℕ
finished_places scopes cells j zero = []
finished_places scopes cells j (suc n) = 3 * (get_or scopes (scope_at cells (512 * j)) blank_scope).constraint ∷ finished_places scopes cells (suc j) n

-- for the TUs in these bytes
unfoldable pub tuple_places : Bytes → List ℕ
tuple_places new = map (λ f. 3 * get_or f 4 0 + 1) (standing frame new)

-- for the RPs in these bytes
unfoldable pub report_places : Bytes → List ℕ
report_places new = map (λ f. 3 * get_or f 3 0 + 2) (parts 18 (length new / 18) new)

-- all of them: the selections that are open no more, and what is new in the stores
unfoldable pub places_of : (before after : Numbers) → List Scope → (tuples reports cells : Bytes) → List ℕ
places_of n m list tuples reports cells =
    finished_places (open_of (record { list = list; n = (unpack n.running).scopes })) cells (unpack m.running).selections ((unpack n.running).selections - (unpack m.running).selections)
    ++ (tuple_places (part tuples n.tuples (m.tuples - n.tuples)) ++ report_places (part reports n.reports (m.reports - n.reports)))
