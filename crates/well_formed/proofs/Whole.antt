-- The whole test: from the counts that fit, the definitions that read, and what the two other parts answer.
-- Assumes nothing.
use Prim.Native.Nat.{ℕ, ◌*◌}
use native.Mathlib.Omega.{arith}
use lib.ListN.{length, take}
use mathlib.Core.Path.{◌≡◌, refl, ap, sym, ◌∙◌}
use mathlib.Core.Bool.{Bool, true, false}
use mathlib.Core.List.{List}
use mathlib.Core.Option.{Option, none, some}
use Rattle.std.proofs.lemmas.List.{take-map}
use Rattle.records.specs.Readers.{Bytes}
use Rattle.session_spec.specs.Definitions.{Definitions, read_definitions, is_some}
use Rattle.session_spec.specs.Layout.{ScopeRecord, Counts, unpack}
use Rattle.session_spec.specs.Session.{World, counts_fit, decode}
use Rattle.open_scopes.specs.declared.Scope.{Scope}
use Rattle.open_scopes.specs.declared.Numbers.{Numbers}
use Rattle.open_scopes.specs.OpenScopes.{open_of, records_of, record_of}
use Rattle.open_scopes.proofs.Places.{scopes_with}
use Rattle.definition_store.specs.declared.Tally.{Tally}
use Rattle.std.specs.declared.option.Option.TheVariants.{Some, None}
use Rattle.definition_store.specs.Store.{Defined, defined_by, tally_of}
use Rattle.definition_store.proofs.Walks.{unread-none}
use Rattle.worlds.specs.Worlds.{world_of}
use Rattle.well_formed.specs.Parts.{areas_read, AreasAre, StoresAre}
use Rattle.well_formed.proofs.Decodes.{areas_of, unread, areas-unread, then-stores}

-- ---- the definitions

defined-some : (o : Option Definitions) (t : Tally) → defined_by o ≡ Some t → (d : Definitions) × (o ≡ some d) × (t.constraints ≡ length d.ids)
unfolding defined_by tally_of
defined-some none t e = let z : ◌≡◌ {A = ℕ} 0 1 = cc in absurd (omega arith)
defined-some (some d) t e = let k : tally_of d ≡ t = cc in (d, refl, sym (ap (λ (z : Tally). z.constraints) k))

-- ---- the open scopes

module _ (n : Numbers) (list : List Scope) (paths : ℕ) (defs tuples reports names cells : Bytes) where
  abbrev W : World
  W = world_of n list paths defs tuples reports names cells

  module _ (c : Counts) (p : c ≡ unpack n.running) (fit : true ≡ counts_fit W (unpack n.running))
      (used : Bytes) (u : used ≡ take n.definitions defs) (o : Defined) (said : o ≡ defined_by (read_definitions used)) where
    pub no-definitions : o ≡ None → false ≡ is_some (decode W)
    no-definitions e =
        unread W c p fit (ap read_definitions (sym u) ∙ unread-none (read_definitions used) (sym said ∙ e))

    module _ (t : Tally) (e : o ≡ Some t) where
      read_here : (d : Definitions) × (read_definitions used ≡ some d) × (t.constraints ≡ length d.ids)
      read_here = defined-some (read_definitions used) t (sym said ∙ e)

      there : read_definitions (take n.definitions defs) ≡ some read_here.0
      there = ap read_definitions (sym u) ∙ read_here.1

      -- the scopes that are open in the list
      area-at : (r : Bool) → AreasAre used t.constraints c (records_of (scopes_with list c.scopes)) names cells r → r ≡ areas_of W c read_here.0
      unfolding records_of open_of
      area-at r f =
          f read_here.0 read_here.1 read_here.2 ∙ ap (λ (z : List ScopeRecord). areas_read read_here.0 c z names cells) (sym (take-map record_of c.scopes list))

      pub no-areas : AreasAre used t.constraints c (records_of (scopes_with list c.scopes)) names cells false → false ≡ is_some (decode W)
      no-areas f = areas-unread W c p fit read_here.0 there (area-at false f)

      pub all-stores : AreasAre used t.constraints c (records_of (scopes_with list c.scopes)) names cells true → (tu rp : Bytes) → tu ≡ take n.tuples tuples → rp ≡ take n.reports reports
          → (r : Bool) → StoresAre t.constraints c.opened (32 * n.events) tu rp r → r ≡ is_some (decode W)
      all-stores f tu rp a b r g =
          then-stores W c p fit read_here.0 there r (area-at true f)
          (rw (a, b) at (g read_here.0 read_here.2))
