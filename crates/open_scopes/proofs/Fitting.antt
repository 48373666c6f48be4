-- Scopes one after the other: all of them fit exactly if the first fits and follows, and those behind it do. And what that says of a session's definitions.
-- Assumes nothing.
use Prim.Native.Nat.{ℕ, ◌+◌, ◌≤◌, ◌<◌}
use lib.ListN.{length, drop, get_or, drop_of_length-le}
use mathlib.Core.Path.{◌≡◌, refl, ap, sym, ◌∙◌}
use mathlib.Core.Bool.{Bool, true, false, cond, ◌&&◌, and-false}
use mathlib.Core.List.{List, [], ◌∷◌, map}
use mathlib.Core.Option.{none, some}
use Rattle.std.proofs.lemmas.List.{drop_more}
use Rattle.lists.specs.Lists.{all}
use Rattle.session_spec.specs.Definitions.{Definitions}
use Rattle.session_spec.specs.Layout.{ScopeRecord, scope_in}
use Rattle.session_spec.specs.Session.{scope_fits, rising, scopes_in}
use Rattle.open_scopes.specs.declared.Scope.{Scope}
use Rattle.open_scopes.specs.declared.Scopes.{Scopes}
use Rattle.open_scopes.specs.OpenScopes.{blank_scope, record_of, open_of, records_of, fits_among, follows, scopes_fit}

-- ---- what it says of definitions

each_fits : (d : Definitions) (depth opened : ℕ) (ss : List ScopeRecord) → all (fits_among (length d.ids) depth opened) ss ≡ all (scope_fits d depth opened) ss
unfolding fits_among scope_fits
each_fits d depth opened [] = refl
each_fits d depth opened (s ∷ ss) = ap (λ (b : Bool). scope_fits d depth opened s && b) (each_fits d depth opened ss)

pub scopes-fit : (d : Definitions) (depth opened : ℕ) (ss : List ScopeRecord) → scopes_fit (length d.ids) depth opened ss ≡ (all (scope_fits d depth opened) ss && rising 0 1 ss)
unfolding scopes_fit
scopes-fit d depth opened ss = ap (λ (b : Bool). b && rising 0 1 ss) (each_fits d depth opened ss)

-- the scopes that are read
pub scopes-in : (d : Definitions) (depth opened : ℕ) (ss : List ScopeRecord)
    → scopes_in d depth opened ss ≡ cond (scopes_fit (length d.ids) depth opened ss) (some (map (scope_in d) ss)) none
unfolding scopes_in
scopes-in d depth opened ss = rw (scopes-fit d depth opened ss)

-- ---- one after the other

-- what the first is held against: a scope follows it whose number and depth are not 0
abbrev pub before_first : Scope
before_first = record { constraint = 0; number = 0; depth = 1 }

module _ (constraints depth opened : ℕ) where
  -- those behind this one
  abbrev fit_behind : (last : ScopeRecord) → List ScopeRecord → Bool
  fit_behind last ss = all (fits_among constraints depth opened) ss && rising last.number last.depth ss

  module _ (last s : ScopeRecord) (ss : List ScopeRecord) where
    first-unfit : false ≡ fits_among constraints depth opened s → false ≡ fit_behind last (s ∷ ss)
    first-unfit e = rw (← e)

    first-stays : false ≡ follows last.number last.depth s → false ≡ fit_behind last (s ∷ ss)
    unfolding rising follows
    first-stays e = rw (← e) (sym (and-false (all (fits_among constraints depth opened) (s ∷ ss))))

    first_fits : true ≡ fits_among constraints depth opened s → true ≡ follows last.number last.depth s → fit_behind s ss ≡ fit_behind last (s ∷ ss)
    unfolding rising follows
    first_fits e f = rw (← e, ← f)

  -- those from a place on, behind this one
  abbrev pub fit_from : List Scope → (i : ℕ) → (last : Scope) → Bool
  fit_from l i last = fit_behind (record_of last) (map record_of (drop i l))

  pub fits-at-start : (ss : Scopes) → fit_from (open_of ss) 0 before_first ≡ scopes_fit constraints depth opened (records_of ss)
  unfolding scopes_fit records_of
  fits-at-start ss = refl

  module _ (l : List Scope) (i : ℕ) (last one : Scope) (p : one ≡ get_or l i blank_scope) (h : i < length l) where
    rest : List ScopeRecord
    rest = map record_of (drop (i + 1) l)

    at_place : fit_behind (record_of last) (record_of one ∷ rest) ≡ fit_from l i last
    unfolding rest
    at_place = rw p (ap (λ (z : List Scope). fit_behind (record_of last) (map record_of z)) (sym (drop_more l i blank_scope h)))

    pub unfit-here : false ≡ fits_among constraints depth opened (record_of one) → false ≡ fit_from l i last
    unfit-here e = first-unfit (record_of last) (record_of one) rest e ∙ at_place

    pub stays_here : false ≡ follows last.number last.depth (record_of one) → false ≡ fit_from l i last
    stays_here e = first-stays (record_of last) (record_of one) rest e ∙ at_place

    pub fits-here : true ≡ fits_among constraints depth opened (record_of one) → true ≡ follows last.number last.depth (record_of one)
        → fit_from l (i + 1) one ≡ fit_from l i last
    unfolding rest
    fits-here e f = first_fits (record_of last) (record_of one) rest e f ∙ at_place

  pub fits-at-end : (l : List Scope) (i : ℕ) (last : Scope) → length l ≤ i → true ≡ fit_from l i last
  unfolding rising
  fits-at-end l i last h = rw (drop_of_length-le l {i = i} h)
