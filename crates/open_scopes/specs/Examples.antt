-- Computed: one scope more, which scopes fit, the packed number of written-out counts, which numbers and lengths fit.
-- Assumes nothing.
use Rattle.std.specs.Prelude.{ℕ, replicate, ◌≡◌, refl, Bool, true, false, List, [], ◌∷◌, ◌++◌, map}
use Rattle.session_spec.specs.Layout.{Counts, pack, unpack}
use Rattle.session_spec.specs.Session.{stage_of, depth_of, rising}
use Rattle.open_scopes.specs.declared.Scope.{Scope}
use Rattle.open_scopes.specs.declared.Scopes.{Scopes}
use Rattle.open_scopes.specs.declared.Numbers.{Numbers}
use Rattle.open_scopes.specs.declared.Lengths.{Lengths}
use Rattle.open_scopes.specs.OpenScopes.{record_of, blank_scope, pushed, fits_among, scopes_fit}
use Rattle.open_scopes.specs.Counting.{packed, areas_long, begun, within_limits, used_within, numbers_fit}

-- ---- one more

-- constraint, number, depth
abbrev scope : ℕ → ℕ → ℕ → Scope
scope c n d = record { constraint = c; number = n; depth = d }

abbrev scopes : List Scope → ℕ → Scopes
scopes l n = record { list = l; n = n }

abbrev two : Scopes
two = scopes (scope 0 1 1 ∷ scope 1 2 1 ∷ replicate 14 blank_scope) 2

abbrev sixteen : Scopes
sixteen = scopes (replicate 16 (scope 0 1 1)) 16

one_more : pushed two (scope 0 3 2) ≡ scopes (scope 0 1 1 ∷ scope 1 2 1 ∷ scope 0 3 2 ∷ replicate 13 blank_scope) 3
unfolding pushed
one_more = refl

none_more : pushed sixteen (scope 0 3 2) ≡ sixteen
unfolding pushed
none_more = refl

-- the sixteenth place is taken, too
last-place : pushed (scopes (replicate 15 (scope 0 1 1) ++ (blank_scope ∷ [])) 15) (scope 0 1 1) ≡ sixteen
unfolding pushed
last-place = refl

-- ---- which scopes fit: two constraints, three elements open, five scopes opened

abbrev fit : List Scope → Bool
fit l = scopes_fit 2 3 5 (map record_of l)

these-fit : map fit ([] ∷ (scope 0 1 1 ∷ []) ∷ (scope 1 1 1 ∷ scope 0 2 1 ∷ scope 0 5 3 ∷ []) ∷ []) ≡ true ∷ true ∷ true ∷ []
unfolding scopes_fit fits_among rising
these-fit = refl

-- an undefined constraint; too deep; a number that was not given; number 0; depth 0; a number twice; a number that falls; a depth that falls
these-do-not : map fit ((scope 2 1 1 ∷ []) ∷ (scope 0 1 4 ∷ []) ∷ (scope 0 6 1 ∷ []) ∷ (scope 0 0 1 ∷ []) ∷ (scope 0 1 0 ∷ [])
    ∷ (scope 0 1 1 ∷ scope 0 1 2 ∷ []) ∷ (scope 0 2 1 ∷ scope 0 1 1 ∷ []) ∷ (scope 0 1 2 ∷ scope 0 2 1 ∷ []) ∷ [])
    ≡ replicate 8 false
unfolding scopes_fit fits_among rising
these-do-not = refl

-- ---- the packed number

abbrev counts : ℕ → ℕ → ℕ → ℕ → Counts
counts stage scopes selections opened = record { stage = stage; scopes = scopes; selections = selections; opened = opened }

-- 3 + 128 · (2 + 32 · (5 + 64 · 7))
packs : map packed (counts 0 0 0 0 ∷ counts 1 0 0 0 ∷ counts 0 1 0 0 ∷ counts 0 0 1 0 ∷ counts 0 0 0 1 ∷ counts 3 2 5 7 ∷ []) ≡ 0 ∷ 1 ∷ 128 ∷ 4096 ∷ 262144 ∷ 1855747 ∷ []
unfolding packed pack
packs = refl

unpacks : unpack 1855747 ≡ counts 3 2 5 7
unfolding unpack
unpacks = refl

-- the last that is packed, and the first that is not
packed-limit : map (λ (n : ℕ). packed (counts 66 16 32 n)) (4294967295 ∷ 4294967296 ∷ []) ≡ 1125899906713666 ∷ 0 ∷ []
unfolding packed pack
packed-limit = refl

-- ---- the elements open at a stage

depths : map (λ (n : ℕ). depth_of (stage_of n) n) (0 ∷ 1 ∷ 2 ∷ 65 ∷ 66 ∷ []) ≡ 0 ∷ 0 ∷ 1 ∷ 64 ∷ 0 ∷ []
unfolding depth_of stage_of
depths = refl

-- ---- which numbers and lengths fit

abbrev numbers : (events running definitions tuples reports : ℕ) → Numbers
numbers e r d t p = record { events = e; running = r; definitions = d; tuples = t; reports = p }

abbrev lengths : (definitions tuples reports names scopes cells paths : ℕ) → Lengths
lengths d t r n s c p = record { definitions = d; tuples = t; reports = r; names = n; scopes = s; cells = c; paths = p }

-- just long enough
abbrev areas : Lengths
areas = lengths 10 20 30 32896 16 16384 1024

-- the stores full, every count at its limit; and nothing at all
at-the-limits : numbers_fit (numbers 1000000 9 10 20 30) areas (counts 66 16 32 8000000) ≡ true
unfolding numbers_fit areas_long begun within_limits used_within
at-the-limits = refl

set-up : numbers_fit (numbers 0 0 0 0 0) areas (counts 0 0 0 0) ≡ true
unfolding numbers_fit areas_long begun within_limits used_within
set-up = refl

-- an area that is too short: names, scopes, cells, paths
short-areas : map (λ (l : Lengths). numbers_fit (numbers 0 0 0 0 0) l (counts 0 0 0 0))
    (lengths 0 0 0 32895 16 16384 1024 ∷ lengths 0 0 0 32896 15 16384 1024 ∷ lengths 0 0 0 32896 16 16383 1024 ∷ lengths 0 0 0 32896 16 16384 1023 ∷ [])
    ≡ replicate 4 false
unfolding numbers_fit areas_long begun within_limits used_within
short-areas = refl

-- a used length past its store, too many events
past-stores : map (λ (n : Numbers). numbers_fit n areas (counts 1 0 0 0)) (numbers 1 1 11 20 30 ∷ numbers 1 1 10 21 30 ∷ numbers 1 1 10 20 31 ∷ numbers 1000001 1 10 20 30 ∷ [])
    ≡ replicate 4 false
unfolding numbers_fit areas_long begun within_limits used_within
past-stores = refl

-- a count above its limit
past-limits : map (numbers_fit (numbers 2 9 0 0 0) areas) (counts 67 0 0 0 ∷ counts 1 17 0 0 ∷ counts 1 0 33 0 ∷ counts 1 0 0 17 ∷ []) ≡ replicate 4 false
unfolding numbers_fit areas_long begun within_limits used_within
past-limits = refl

-- at stage 0: scopes opened, tuples or reports
not-at-stage-0 : map (λ (n : Numbers). numbers_fit n areas (counts 0 0 0 0)) (numbers 1 128 0 0 0 ∷ numbers 1 0 0 1 0 ∷ numbers 1 0 0 0 1 ∷ numbers 1 0 1 0 0 ∷ [])
    ≡ false ∷ false ∷ false ∷ true ∷ []
unfolding numbers_fit areas_long begun within_limits used_within
not-at-stage-0 = refl
