-- Computed: each part of a world is the one that was handed in for it; the numbers of the replies; what a refusal leaves.
-- Assumes nothing.
use Rattle.std.specs.Prelude.{ℕ, drop, replicate, ◌≡◌, refl, [], ◌∷◌, ◌++◌, map}
use Rattle.std.specs.declared.result.Result.TheVariants.{Ok, Err}
use Rattle.std.proofs.Math.Option.{none, some}
use Rattle.records.specs.Readers.{Bytes}
use Rattle.records.specs.Refusals.{out_of_place, undefined, refusal_number}
use Rattle.session_spec.specs.Session.{World, reply_number}
use Rattle.open_scopes.specs.declared.Scope.{Scope}
use Rattle.open_scopes.specs.declared.Numbers.{Numbers}
use Rattle.worlds.specs.declared.SessionRefusal.{SessionRefusal}
use Rattle.worlds.specs.declared.SessionRefusal.TheVariants.{OutOfPlace, TooManyEvents, Undefined, Unbalanced, BoundTwice, DefinitionsFull, TooDeep, TooManyScopes, TooManySelections, TuplesFull, ReportsFull}
use Rattle.worlds.specs.Replies as reply
use Rattle.worlds.specs.Replies.{because_of_session, reason_of, Reply, reply_of, refusal}
use Rattle.worlds.specs.Worlds.{world_of}
use Rattle.worlds.specs.PathArea.{PathArea}

abbrev numbers : Numbers
numbers = record { events = 1; running = 2; definitions = 3; tuples = 4; reports = 5 }

abbrev scope : Scope
scope = record { constraint = 6; number = 7; depth = 8 }

abbrev world : World
world = world_of numbers (scope ∷ []) 9 (10 ∷ []) (11 ∷ []) (12 ∷ []) (13 ∷ []) (14 ∷ [])

the-numbers : world.events ∷ world.running ∷ world.definitions ∷ world.tuples ∷ world.reports ∷ world.path_area ∷ [] ≡ 1 ∷ 2 ∷ 3 ∷ 4 ∷ 5 ∷ 9 ∷ []
the-numbers = refl

the-bytes : world.definition_store ∷ world.tuple_store ∷ world.report_store ∷ world.names ∷ world.cells ∷ []
    ≡ (10 ∷ []) ∷ (11 ∷ []) ∷ (12 ∷ []) ∷ (13 ∷ []) ∷ (14 ∷ []) ∷ []
the-bytes = refl

the-scopes : world.scopes ≡ record { constraint = 6; number = 7; depth = 8 } ∷ []
the-scopes = refl

-- ---- replies

-- taken, and a session that is not well formed
replies : map (λ (r : Reply). reply_number (reply_of r)) (reply.Taken ∷ reply.Unfit ∷ []) ≡ 0 ∷ 10 ∷ []
unfolding reply_number refusal_number
replies = refl

-- an answer of steps that is no refusal, and two that are
reasons : reason_of {A = ℕ} (Ok 1) ∷ reason_of {A = ℕ} (Err OutOfPlace) ∷ reason_of {A = ℕ} (Err Undefined) ∷ [] ≡ none ∷ some out_of_place ∷ some undefined ∷ []
reasons = refl

-- because of the session, in the order of the tests
because : map (λ (c : SessionRefusal). refusal_number (because_of_session c))
    (OutOfPlace ∷ TooManyEvents ∷ Undefined ∷ Unbalanced ∷ BoundTwice ∷ DefinitionsFull ∷ TooDeep ∷ TooManyScopes ∷ TooManySelections ∷ TuplesFull ∷ ReportsFull ∷ [])
    ≡ 11 ∷ 19 ∷ 12 ∷ 13 ∷ 17 ∷ 18 ∷ 14 ∷ 20 ∷ 21 ∷ 15 ∷ 16 ∷ []
unfolding refusal_number
because = refl

-- the refusal, and all else as it was
refused-as-it-was : (refusal numbers (scope ∷ []) TuplesFull) ≡ record { reply = reply.Session TuplesFull; numbers = numbers; list = scope ∷ [] }
refused-as-it-was = refl

-- ---- the path area of 1,025 bytes: a record that is taken may change all but the last of them

area-free : PathArea reply.Taken (replicate 1024 0 ++ (5 ∷ [])) (replicate 1024 1 ++ (5 ∷ []))
area-free = record { size = refl; behind = refl; kept = λ n. absurd (n refl) }

last-stays : (after : Bytes) → PathArea reply.Taken (replicate 1024 0 ++ (5 ∷ [])) after → drop 1024 after ≡ 5 ∷ []
last-stays after a = a.behind
