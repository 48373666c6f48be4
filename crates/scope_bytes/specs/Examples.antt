-- Computed: a record read and written, what is missing at the end, sixteen records, and sixteen written back.
-- Assumes nothing.
use Rattle.std.specs.Prelude.{ℕ, replicate, ◌≡◌, refl}
use mathlib.Core.List.{List, [], ◌∷◌, ◌++◌, flat_map}
use Rattle.lists.specs.Lists.{put}
use Rattle.numbers.specs.Numbers.{two, four, two_bytes, four_bytes}
use Rattle.records.specs.Readers.{Bytes}
use Rattle.open_scopes.specs.declared.Scope.{Scope}
use Rattle.open_scopes.specs.OpenScopes.{blank_scope}
use Rattle.scope_bytes.specs.ScopeBytes.{scope_at, scopes_from, scopes_in, scope_bytes}

-- constraint, number, depth
abbrev scope : ℕ → ℕ → ℕ → Scope
scope c n d = record { constraint = c; number = n; depth = d }

-- ---- one record

-- 513 is 1 + 2 · 256, and 67305985 has the bytes 1, 2, 3, 4
abbrev one : Bytes
one = 7 ∷ 0 ∷ 0 ∷ 0 ∷ 1 ∷ 2 ∷ 0 ∷ 0 ∷ 1 ∷ 2 ∷ 3 ∷ 4 ∷ []

one-read : scope_at one 0 ≡ scope 7 513 67305985
unfolding scope_at four two
one-read = refl

-- behind one byte; and cut off in the number
one_further : scope_at (9 ∷ one) 1 ≡ scope 7 513 67305985
unfolding scope_at four two
one_further = refl

cut-off : scope_at (7 ∷ 0 ∷ 0 ∷ 0 ∷ 1 ∷ []) 0 ≡ scope 7 1 0
unfolding scope_at four two
cut-off = refl

one_written : scope_bytes (scope 7 513 67305985) ≡ one
unfolding scope_bytes four_bytes two_bytes
one_written = refl

-- ---- sixteen

-- the first place, the second, the last; a byte behind the 192
abbrev area : Bytes
area = one ++ ((1 ∷ replicate 3 0) ++ ((2 ∷ replicate 3 0) ++ ((3 ∷ replicate 3 0) ++ (replicate 156 0 ++ ((0 ∷ 1 ∷ 0 ∷ 0 ∷ []) ++ ((16 ∷ replicate 3 0) ++ ((0 ∷ 0 ∷ 1 ∷ 0 ∷ []) ++ (99 ∷ []))))))))

abbrev scopes : List Scope
scopes = scope 7 513 67305985 ∷ scope 1 2 3 ∷ (replicate 13 blank_scope ++ (scope 256 16 65536 ∷ []))

all-read : scopes_in area ≡ scopes
unfolding scopes_in scopes_from scope_at four two
all-read = refl

-- one record behind the other
two-read : scopes_from 2 (replicate 4 0 ++ ((1 ∷ replicate 3 0) ++ ((2 ∷ replicate 7 0) ++ ((3 ∷ replicate 3 0) ++ (4 ∷ replicate 3 0))))) ≡ scope 0 1 2 ∷ scope 0 3 4 ∷ []
unfolding scopes_from scope_at four two
two-read = refl

-- of no bytes: sixteen of zeros
none_read : scopes_in [] ≡ replicate 16 blank_scope
unfolding scopes_in scopes_from scope_at four two
none_read = refl

-- over other bytes; the one behind them stays
all-written : put (replicate 192 5 ++ (99 ∷ [])) 0 (flat_map scope_bytes scopes) ≡ area
unfolding put flat_map scope_bytes four_bytes two_bytes
all-written = refl

-- a byte too few: nothing changes
none_written : put (replicate 191 5) 0 (flat_map scope_bytes scopes) ≡ replicate 191 5
unfolding put flat_map scope_bytes four_bytes two_bytes
none_written = refl
