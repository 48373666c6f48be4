-- Computed: of a list of scopes and of scopes as bytes, one that is too short, one that is just long enough and a longer one; each part of a world; and the records of small inputs, whole and in pieces.
-- Assumes nothing.
use Rattle.std.specs.Prelude.{length, replicate, ◌≡◌, refl, true, false, [], ◌∷◌, ◌++◌, map}
use Rattle.numbers.specs.Numbers.{two, four, two_bytes, four_bytes}
use Rattle.records.specs.Readers.{Bytes, up_to, on_whole}
use Rattle.output_stores.specs.Stores.{standing}
use Rattle.open_scopes.specs.declared.Scope.{Scope}
use Rattle.open_scopes.specs.declared.Numbers.{Numbers}
use Rattle.open_scopes.specs.OpenScopes.{blank_scope, record_of}
use Rattle.scope_bytes.specs.ScopeBytes.{scope_at, scopes_from, scopes_in}
use Rattle.calls.specs.Buffers.{cut, next_frame}
use Rattle.call_forms.specs.Lent.{Lent, lent, held, world_in, scope_of, written}
use Rattle.call_forms.specs.Doors.{scopes_held, record_bytes}
use Rattle.call_forms.specs.Input.{records_of_piece, total, rest_of, records_of, records_in}

-- constraint 7, number 513, which is 1 + 2 · 256, depth 64
abbrev scope : Scope
scope = record { constraint = 7; number = 513; depth = 64 }

same-scope : scope_of (record_of scope) ≡ scope
same-scope = refl

-- ---- a world's scopes, of a list of records

fifteen-held : length (held (replicate 15 blank_scope)) ≡ 15
fifteen-held = refl

sixteen-held : held (scope ∷ replicate 15 blank_scope) ≡ scope ∷ replicate 15 blank_scope
sixteen-held = refl

-- the seventeenth is behind
behind : held (replicate 16 blank_scope ++ (scope ∷ [])) ≡ replicate 16 blank_scope
behind = refl

-- ---- the list that a world leaves: its sixteen records, and the seventeenth as it was

written-again : written (map record_of (replicate 16 scope)) (replicate 16 blank_scope ++ (blank_scope ∷ [])) ≡ replicate 16 scope ++ (blank_scope ∷ [])
written-again = refl

seventeenth : written [] (replicate 16 blank_scope ++ (scope ∷ [])) ≡ scope ∷ []
seventeenth = refl

-- a list that is too short comes back as it was
short-again : written (map record_of (scope ∷ [])) (scope ∷ []) ≡ scope ∷ []
short-again = refl

-- ---- each part of the world is the one that was lent for it

abbrev numbers : Numbers
numbers = record { events = 1; running = 2; definitions = 3; tuples = 4; reports = 5 }

abbrev all : Lent
all = lent numbers (scope ∷ []) (10 ∷ []) (11 ∷ []) (12 ∷ []) (13 ∷ 13 ∷ []) (14 ∷ []) (15 ∷ [])

the-numbers : (world_in all).events ∷ (world_in all).running ∷ (world_in all).definitions ∷ (world_in all).tuples ∷ (world_in all).reports ∷ (world_in all).path_area ∷ [] ≡ 1 ∷ 2 ∷ 3 ∷ 4 ∷ 5 ∷ 2 ∷ []
the-numbers = refl

the-bytes : (world_in all).definition_store ∷ (world_in all).tuple_store ∷ (world_in all).report_store ∷ (world_in all).names ∷ (world_in all).cells ∷ []
    ≡ (10 ∷ []) ∷ (11 ∷ []) ∷ (12 ∷ []) ∷ (14 ∷ []) ∷ (15 ∷ []) ∷ []
the-bytes = refl

the-scopes : (world_in all).scopes ≡ record { constraint = 7; number = 513; depth = 64 } ∷ []
the-scopes = refl

-- ---- scopes as bytes: an area that is long enough, one that is a byte too short, and the record of a scope

area-held : scopes_held (replicate 192 0) ≡ replicate 16 blank_scope
unfolding scopes_held scopes_in scopes_from scope_at four two
area-held = refl

byte-too-short : scopes_held (replicate 191 0) ≡ []
unfolding scopes_held
byte-too-short = refl

one-record : record_bytes (record_of scope) ≡ 7 ∷ 0 ∷ 0 ∷ 0 ∷ 1 ∷ 2 ∷ 0 ∷ 0 ∷ 64 ∷ 0 ∷ 0 ∷ 0 ∷ []
unfolding record_bytes four_bytes two_bytes
one-record = refl

-- ---- the records of an input

abbrev finish : Bytes
finish = 70 ∷ 73 ∷ 0 ∷ 0 ∷ []

-- of the input 'FI, FI and one byte': two frames, and the byte alone
whole : records_of (finish ++ (finish ++ (70 ∷ []))) ≡ finish ∷ finish ∷ (70 ∷ []) ∷ []
unfolding records_of rest_of total records_of_piece standing up_to on_whole next_frame cut two
whole = refl

-- of the piece 'FI and one byte': a frame is handed in, the byte stays
frame-handed : records_of_piece false (finish ++ (70 ∷ [])) ≡ finish ∷ []
unfolding records_of_piece standing up_to on_whole next_frame cut two
frame-handed = refl

byte_left : rest_of (finish ++ (70 ∷ [])) ≡ 70 ∷ []
unfolding rest_of total standing up_to on_whole next_frame cut two
byte_left = refl

-- what is held stands before the next piece
held_first : records_in (70 ∷ []) ((73 ∷ []) ∷ []) ≡ records_of_piece false (70 ∷ 73 ∷ []) ++ records_of_piece true (rest_of (70 ∷ 73 ∷ []))
unfolding records_in
held_first = refl

-- cut inside the second frame: its first two bytes are held
in_pieces : records_in [] ((finish ++ (70 ∷ 73 ∷ [])) ∷ (0 ∷ 0 ∷ 70 ∷ []) ∷ []) ≡ finish ∷ finish ∷ (70 ∷ []) ∷ []
unfolding records_in rest_of total records_of_piece standing up_to on_whole next_frame cut two
in_pieces = refl

-- nothing at all
empty : records_in [] [] ≡ []
unfolding records_in records_of_piece
empty = refl

-- a header that states too much is handed in alone, and what is behind it as the next record
over-long : records_of (69 ∷ 83 ∷ 1 ∷ 64 ∷ 7 ∷ []) ≡ (69 ∷ 83 ∷ 1 ∷ 64 ∷ []) ∷ (7 ∷ []) ∷ []
unfolding records_of rest_of total records_of_piece standing up_to on_whole next_frame cut two
over-long = refl
