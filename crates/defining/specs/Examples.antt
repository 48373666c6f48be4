-- Computed: what is decided by numbers and lengths, the verdicts of small stores, and whole calls on a session just set up.
-- Assumes nothing.
use Rattle.std.specs.Prelude.{ℕ, replicate, ◌≡◌, refl, List, [], ◌∷◌, ◌++◌, map}
use Rattle.std.proofs.Common.{ap}
use Rattle.std.proofs.Math.Option.{Option, none, some}
use Rattle.lists.specs.Lists.{any, only_if, passing}
use Rattle.texts.specs.Texts.{same}
use Rattle.paths.specs.Examples.{codes}
use Rattle.records.specs.Readers.{Bytes, on_whole, up_to}
use Rattle.records.specs.Refusals.{Refusal, out_of_place, too_many_events, undefined, bound_twice, definitions_full}
use Rattle.output_stores.specs.Stores.{standing}
use Rattle.session_spec.specs.Layout.{unpack}
use Rattle.session_spec.specs.Session as session
use Rattle.session_spec.specs.Session.{taken, refused}
use Rattle.session_spec.specs.Computed.{id, ns, definitions_in, called}
use Rattle.bindings.specs.Bindings.{read_binding, as_list, bindings_in, bound_for}
use Rattle.definition_store.specs.Store.{field_count, tally_of, defined_by, verdict, id_verdict, lacks_target, bound_again, ns_verdict}
use Rattle.record_places.specs.declared.Ns.{Ns}
use Rattle.record_places.specs.Places.{ns_in}
use Rattle.open_scopes.specs.declared.Scope.{Scope}
use Rattle.open_scopes.specs.declared.Numbers.{Numbers}
use Rattle.open_scopes.specs.OpenScopes.{record_of}
use Rattle.worlds.specs.declared.SessionRefusal.TheVariants as refusal
use Rattle.worlds.specs.Replies.{reason_of, reply_of}
use Rattle.worlds.specs.declared.Done.{Done}
use Rattle.std.specs.declared.result.Result.TheVariants.{Ok, Err}
use Rattle.defining.specs.Deciding.{room_for, against, decided, judged_by, id_judged, ns_judged}
use Rattle.defining.specs.Defining.{TakesId, TakesNs}

-- ---- what is decided

-- events, the packed number, used bytes of definitions
abbrev numbers : ℕ → ℕ → ℕ → Numbers
numbers e r d = record { events = e; running = r; definitions = d; tuples = 0; reports = 0 }

-- what stands against it
abbrev good : Option Refusal
good = none

abbrev lacking : Option Refusal
lacking = some undefined

abbrev again : Option Refusal
again = some bound_twice

abbrev full : Option Refusal
full = some definitions_full

unfoldable decides : Numbers → Option Refusal → (size room : ℕ) → Option Refusal
unfolding decided against room_for unpack
decides n v size room = decided n v size room

-- an element was started, and ended; finished: before the events, and these before the verdict
place-first : decides (numbers 1 1 0) good 20 64 ∷ decides (numbers 1000000 66 0) lacking 20 64 ∷ decides (numbers 1000000 0 0) lacking 20 64 ∷ []
    ≡ some out_of_place ∷ some out_of_place ∷ some too_many_events ∷ []
unfolding decides
place-first = refl

last-event : decides (numbers 999999 0 0) good 20 64 ∷ decides (numbers 1000000 0 0) good 20 64 ∷ [] ≡ none ∷ some too_many_events ∷ []
unfolding decides
last-event = refl

-- 12 and 17 before 18, each by its verdict, though there is no room
verdict-first : map (λ (v : Option Refusal). decides (numbers 0 0 50) v 20 64) (lacking ∷ again ∷ full ∷ good ∷ [])
    ≡ some undefined ∷ some bound_twice ∷ some definitions_full ∷ some definitions_full ∷ []
unfolding decides
verdict-first = refl

-- an exact fit is taken, and not a byte more
exact-fit : decides (numbers 0 0 44) good 20 64 ∷ decides (numbers 0 0 45) good 20 64 ∷ decides (numbers 0 0 44) full 20 64 ∷ []
    ≡ none ∷ some definitions_full ∷ some definitions_full ∷ []
unfolding decides
exact-fit = refl

reasons : reason_of {A = ℕ} (Ok 1) ∷ reason_of {A = ℕ} (Err refusal.OutOfPlace) ∷ reason_of {A = ℕ} (Err refusal.Undefined) ∷ [] ≡ none ∷ some out_of_place ∷ some undefined ∷ []
reasons = refl

-- ---- the verdicts of small stores: empty, with a constraint, with a binding, and bytes that are no definitions

abbrev one_field : Bytes
one_field = id 1 "" "r" ("@id" ∷ [])

abbrev wide : Bytes
wide = ns 0 "p" "u"

unfoldable for_id : Bytes → Option Refusal
unfolding definitions_in codes id ns same field_count tally_of defined_by verdict id_verdict judged_by id_judged
for_id used = id_judged used

ids : map for_id ([] ∷ one_field ∷ wide ∷ (9 ∷ []) ∷ []) ≡ good ∷ good ∷ good ∷ full ∷ []
unfolding for_id
ids = refl

-- by target: 0, 2, 3
unfoldable for_ns : Bytes → List (Option Refusal)
unfolding definitions_in codes id ns same only_if passing on_whole up_to standing read_binding as_list bindings_in bound_for field_count tally_of defined_by verdict lacks_target bound_again ns_verdict judged_by ns_judged
for_ns used = map (λ (t : ℕ). ns_judged used t (codes "p")) (0 ∷ 2 ∷ 3 ∷ [])

bindings : map for_ns ([] ∷ one_field ∷ (one_field ++ wide) ∷ (9 ∷ []) ∷ [])
    ≡ (good ∷ lacking ∷ lacking ∷ []) ∷ (good ∷ good ∷ lacking ∷ []) ∷ (again ∷ good ∷ lacking ∷ []) ∷ (full ∷ full ∷ full ∷ []) ∷ []
unfolding for_ns
bindings = refl

-- ---- whole calls

-- what is answered, and what is left of numbers and store
abbrev Left : Type 0
Left = session.Reply × ℕ × ℕ × Bytes

abbrev left_by : Done → Bytes → Left
left_by r after = (reply_of r.reply, r.numbers.events, r.numbers.definitions, after)

abbrev left_in : session.Reply × session.World → Left
left_in q = (q.0, q.1.events, q.1.definitions, q.1.definition_store)

-- all else that is lent: areas of the least lengths that are taken
abbrev list : List Scope
list = replicate 16 (record { constraint = 7; number = 7; depth = 7 })

abbrev names : Bytes
names = replicate 32896 7

abbrev cells : Bytes
cells = replicate 16384 7

-- 17 bytes of an ID: behind nothing; where they fit exactly; and where a byte is missing
id-taken : (r : Done) (after : Bytes) → TakesId (numbers 0 0 0) list one_field (replicate 20 7) r after → left_by r after ≡ (taken, 1, 17, one_field ++ replicate 3 7)
unfolding called
id-taken r after t = ap left_in (t.steps 1024 [] [] names cells _ _ refl refl)

id-behind : (r : Done) (after : Bytes) → TakesId (numbers 1 0 11) list one_field (wide ++ replicate 17 7) r after → left_by r after ≡ (taken, 2, 28, wide ++ one_field)
unfolding called
id-behind r after t = ap left_in (t.steps 1024 [] [] names cells _ _ refl refl)

id-full : (r : Done) (after : Bytes) → TakesId (numbers 1 0 11) list one_field (wide ++ replicate 16 7) r after
    → left_by r after ≡ (refused definitions_full, 1, 11, wide ++ replicate 16 7)
unfolding called
id-full r after t = ap left_in (t.steps 1024 [] [] names cells _ _ refl refl)

-- the open scopes are as they were
id-keeps-scopes : (r : Done) (after : Bytes) → TakesId (numbers 0 0 0) list one_field (replicate 20 7) r after → map record_of r.list ≡ map record_of list
unfolding called
id-keeps-scopes r after t = ap (λ (q : session.Reply × session.World). q.1.scopes) (t.steps 1024 [] [] names cells _ _ refl refl)

-- an NS by its places, first and once more
abbrev places : Ns
places = record { target = 0; prefix = record { start = 7; size = 1 }; uri = record { start = 10; size = 1 } }

ns-taken : (r : Done) (after : Bytes) → TakesNs (numbers 0 0 0) list places wide (replicate 30 7) r after → left_by r after ≡ (taken, 1, 11, wide ++ replicate 19 7)
unfolding called ns_in
ns-taken r after t = ap left_in (t.steps 1024 [] [] names cells _ refl refl)

ns-again : (r : Done) (after : Bytes) → TakesNs (numbers 1 0 11) list places wide (wide ++ replicate 19 7) r after
    → left_by r after ≡ (refused bound_twice, 1, 11, wide ++ replicate 19 7)
unfolding called ns_in
ns-again r after t = ap left_in (t.steps 1024 [] [] names cells _ refl refl)

ns-keeps-scopes : (r : Done) (after : Bytes) → TakesNs (numbers 0 0 0) list places wide (replicate 30 7) r after → map record_of r.list ≡ map record_of list
unfolding called ns_in
ns-keeps-scopes r after t = ap (λ (q : session.Reply × session.World). q.1.scopes) (t.steps 1024 [] [] names cells _ refl refl)
