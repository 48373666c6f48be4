-- The records of open scopes as bytes: constraint, number and depth, four bytes each, the low byte first.
-- Assumes nothing.
use Rattle.std.specs.Prelude.{ℕ, zero, suc, ◌+◌, drop, List, [], ◌∷◌, ◌++◌}
use Rattle.numbers.specs.Numbers.{four, four_bytes}
use Rattle.records.specs.Readers.{Bytes}
use Rattle.open_scopes.specs.declared.Scope.{Scope}

-- the scope whose record stands at a place; a byte that is not there counts as 0
unfoldable pub scope_at : Bytes → (at : ℕ) → Scope
scope_at bytes at = record { constraint = four bytes at; number = four bytes (at + 4); depth = four bytes (at + 8) }

-- the first n, one record behind the other
unfoldable pub scopes_from : (n : ℕ) → Bytes → List Scope
scopes_from zero bytes = []
scopes_from (suc n) bytes = scope_at bytes 0 ∷ scopes_from n (drop 12 bytes)

-- THE SIXTEEN at the front
unfoldable pub scopes_in : Bytes → List Scope
scopes_in bytes = scopes_from 16 bytes

-- THE RECORD of a scope
unfoldable pub scope_bytes : Scope → Bytes
scope_bytes s = four_bytes s.constraint ++ (four_bytes s.number ++ four_bytes s.depth)
