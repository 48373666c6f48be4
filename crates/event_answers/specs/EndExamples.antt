-- Computed: how many scopes stay open, the counts and the event after the end of an element; whole calls on small sessions.
-- Assumes nothing.
use Rattle.std.specs.Prelude.{ℕ, replicate, ◌≡◌, refl, List, [], ◌∷◌, map}
use Rattle.std.proofs.Common.{arith, ap}
use Rattle.records.specs.Readers.{Bytes}
use Rattle.records.specs.Refusals.{out_of_place, unbalanced}
use Rattle.record_places.specs.declared.Ee.{Ee}
use Rattle.record_places.specs.Places.{ee_in}
use Rattle.session_spec.specs.Layout.{ScopeRecord}
use Rattle.session_spec.specs.Session as session
use Rattle.session_spec.specs.Session.{refused}
use Rattle.session_spec.specs.Computed.{ee, called}
use Rattle.open_scopes.specs.declared.Scope.{Scope}
use Rattle.open_scopes.specs.declared.Numbers.{Numbers}
use Rattle.open_scopes.specs.OpenScopes.{record_of}
use Rattle.worlds.specs.declared.SessionRefusal.TheVariants.{Unbalanced}
use Rattle.worlds.specs.Replies as reply
use Rattle.worlds.specs.declared.Done.{Done}
use Rattle.worlds.specs.Replies.{reply_of, refusal}
use Rattle.event_answers.specs.Ending.{TakesEe, left_open, ended_counts, event_then}

-- so many events, and the packed number
abbrev numbers : ℕ → ℕ → Numbers
numbers events running = record { events = events; running = running; definitions = 0; tuples = 0; reports = 0 }

-- of elements at these depths
abbrev scopes : List ℕ → List Scope
scopes = map (λ (d : ℕ). record { constraint = 0; number = 1; depth = d })

-- the scopes of the element that ends are the last ones; it may have none
some_stay : map (λ (l : List ℕ). left_open 3 (scopes l)) ([] ∷ (1 ∷ 2 ∷ []) ∷ (1 ∷ 2 ∷ 3 ∷ 3 ∷ []) ∷ (3 ∷ []) ∷ (4 ∷ []) ∷ []) ≡ 0 ∷ 2 ∷ 2 ∷ 0 ∷ 1 ∷ []
unfolding left_open
some_stay = refl

-- two elements stay open, so the stage is 3
counts-ended : ended_counts (record { stage = 4; scopes = 4; selections = 7; opened = 9 }) 3 (scopes (1 ∷ 2 ∷ 3 ∷ 3 ∷ [])) 5 ≡ record { stage = 3; scopes = 2; selections = 5; opened = 9 }
unfolding left_open
counts-ended = refl

stage-of-depth : ended_counts (record { stage = 4; scopes = 2; selections = 7; opened = 9 }) 3 (scopes (1 ∷ 2 ∷ [])) 5 ≡ record { stage = 3; scopes = 2; selections = 5; opened = 9 }
unfolding left_open
stage-of-depth = refl

event-number : event_then (numbers 8 0) ≡ 9
event-number = refl

-- ---- whole calls

-- what is answered, the events, the packed number, the scopes and what is left of the stores
abbrev Left : Type 0
Left = session.Reply × ℕ × ℕ × List ScopeRecord × Bytes × Bytes

abbrev left_by : Done → (tuples reports : Bytes) → Left
left_by r tuples reports = (reply_of r.reply, r.numbers.events, r.numbers.running, map record_of r.list, tuples, reports)

abbrev left_in : session.Reply × session.World → Left
left_in q = (q.0, q.1.events, q.1.running, q.1.scopes, q.1.tuple_store, q.1.report_store)

-- areas of the least lengths that are taken
abbrev list : List Scope
list = replicate 16 (record { constraint = 7; number = 7; depth = 7 })

abbrev area : ℕ → Bytes
area n = replicate n 7

-- with no text
abbrev places : Ee
places = record { simple = 0; key = record { start = 7; size = 0 } }

abbrev Taking : (running : ℕ) → Done → (tuples' reports' paths' cells' : Bytes) → Type 0
Taking running r tuples' reports' paths' cells' =
    TakesEe (numbers 4 running) list places ee [] (1 ∷ []) (2 ∷ []) (area 1024) (area 32896) (area 16384) r tuples' reports' paths' cells'

-- after an FI; and with no element open
ee-late : (r : Done) (t u p c : Bytes) → Taking 66 r t u p c → left_by r t u ≡ (refused out_of_place, 4, 66, map record_of list, 1 ∷ [], 2 ∷ [])
unfolding called ee_in
ee-late r t u p c x = ap left_in (x.steps _ refl refl)

ee-refused : (r : Done) (t u p c : Bytes) → Taking 1 r t u p c → left_by r t u ≡ (refused unbalanced, 4, 1, map record_of list, 1 ∷ [], 2 ∷ [])
unfolding called ee_in
ee-refused r t u p c x = ap left_in (x.steps _ refl refl)

-- a refusal leaves the path area as it was
ended-area-kept : (r : Done) (t u p c : Bytes) → Taking 66 r t u p c → (r.reply ≡ reply.Taken → ⊥) → p ≡ area 1024
ended-area-kept r t u p c x f = (x.area (omega arith)).kept f

-- nothing is said of an area that is too short to be saved
short-area : TakesEe (numbers 4 1) list places ee [] [] [] (area 1023) (area 32896) (area 16384) (refusal (numbers 4 1) list Unbalanced) [] [] (8 ∷ []) (area 16384)
unfolding called ee_in
short-area = record { steps = λ s d p. absurd (let z : ◌≡◌ {A = ℕ} 0 1 = cc in omega arith); area = λ l. absurd (omega arith) }
