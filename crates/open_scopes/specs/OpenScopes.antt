-- The open scopes by value: the first places of a list of sixteen; one more; and when they fit.
-- Assumes nothing.
use Rattle.std.specs.Prelude.{ℕ, ◌+◌, leb, ltb, take, set, Bool, cond, ◌&&◌, List, map}
use Rattle.lists.specs.Lists.{all}
use Rattle.session_spec.specs.Layout.{ScopeRecord}
use Rattle.session_spec.specs.Session.{rising}
use Rattle.open_scopes.specs.declared.Scope.{Scope}
use Rattle.open_scopes.specs.declared.Scopes.{Scopes}

-- THE RECORD that a scope is
abbrev pub record_of : Scope → ScopeRecord
record_of s = record { constraint = s.constraint; number = s.number; depth = s.depth }

abbrev pub blank_scope : Scope
blank_scope = record { constraint = 0; number = 0; depth = 0 }

-- the open ones
unfoldable pub open_of : Scopes → List Scope
open_of ss = take ss.n ss.list

-- the open ones as the session definition has them
unfoldable pub records_of : Scopes → List ScopeRecord
records_of ss = map record_of (open_of ss)

-- one more behind the open ones; where all places are taken, as they were
unfoldable pub pushed : Scopes → Scope → Scopes
pushed ss s = cond (ltb ss.n 16) (record { list = set ss.list ss.n s; n = ss.n + 1 }) ss

-- ---- well formed

-- among so many constraints: what `scope_fits` says of definitions with as many
unfoldable pub fits_among : (constraints depth opened : ℕ) → ScopeRecord → Bool
fits_among constraints depth opened s = ltb s.constraint constraints && (leb s.depth depth && leb s.number opened)

-- behind a scope with this number and depth
unfoldable pub follows : (number depth : ℕ) → ScopeRecord → Bool
follows number depth s = ltb number s.number && leb depth s.depth

unfoldable pub scopes_fit : (constraints depth opened : ℕ) → List ScopeRecord → Bool
scopes_fit constraints depth opened ss = all (fits_among constraints depth opened) ss && rising 0 1 ss
