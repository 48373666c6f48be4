-- Computed: the rows of refusals by counts and by a small session, the record and the counts that are made of places and numbers, and whole calls on small sessions.
-- Assumes nothing.
use Rattle.std.specs.Prelude.{ℕ, take, replicate, ◌≡◌, refl, true, false}
use Rattle.std.proofs.Common.{arith, ap}
use mathlib.Core.List.{List, [], ◌∷◌, ◌++◌, map, flat_map}
use Rattle.std.proofs.Math.Option.{Option, none, some}
use Rattle.lists.specs.Lists.{any, only_if}
use Rattle.texts.specs.Texts.{same}
use Rattle.tree.specs.Events as events
use Rattle.tree.specs.Events.{Constraint, unique, opening, after, openings, scope_of, scopes_of, selects}
use Rattle.tree.specs.Judge.{blank}
use Rattle.machine.specs.Machine.{pick_up}
use Rattle.records.specs.Readers.{Bytes, on_read, ◌>>=◌, pass, read_byte, read_two, cons_on, read_bytes, read_text, on_whole, up_to}
use Rattle.records.specs.Refusals.{Refusal, out_of_place, too_many_events, undefined, too_deep, too_many_scopes, too_many_selections, reports_full, first_of}
use Rattle.records.specs.Records.{EsRecord, read_attribute}
use Rattle.record_places.specs.declared.Es.{Es}
use Rattle.record_places.specs.Places.{es_in, InsideEs}
use Rattle.session_spec.specs.Definitions.{no_definitions, defined_from, defined_at}
use Rattle.session_spec.specs.Layout.{ScopeRecord}
use Rattle.session_spec.specs.Session as session
use Rattle.session_spec.specs.Session.{Session, during, start_of, stage_of, depth_of, taken, refused}
use Rattle.session_spec.specs.Computed.{id, es, called}
use Rattle.open_scopes.specs.declared.Scope as code
use Rattle.open_scopes.specs.declared.Numbers.{Numbers}
use Rattle.open_scopes.specs.OpenScopes.{record_of}
use Rattle.worlds.specs.declared.SessionRefusal.TheVariants as refusal
use Rattle.worlds.specs.Replies as reply
use Rattle.worlds.specs.Replies.{reason_of, reply_of}
use Rattle.plans.specs.Plans.{listed, names_then, new_scopes, scopes_then, picked, selections_then, six_from, sixes}
use Rattle.std.specs.declared.result.Result.TheVariants.{Ok, Err}
use Rattle.worlds.specs.declared.Done.{Done}
use Rattle.event_answers.specs.declared.Spot.{Spot}
use Rattle.event_answers.specs.StartRows.{place_rows, path_rows}
use Rattle.event_answers.specs.StartSteps.{record_in, counts_then}
use Rattle.event_answers.specs.Starting.{TakesEs}

-- ---- counts alone

unfoldable placed : ℕ → ℕ → List (Option Refusal)
unfolding place_rows first_of stage_of depth_of
placed stage accepted = first_of (place_rows stage accepted true) ∷ first_of (place_rows stage accepted false) ∷ []

-- after an FI; after so many events; a number that is not defined
first_rows : map (λ (e : ℕ). placed 66 e) (1000000 ∷ 5 ∷ []) ++ (placed 1 1000000 ∷ placed 1 999999 ∷ [])
    ≡ (some out_of_place ∷ some out_of_place ∷ []) ∷ (some out_of_place ∷ some out_of_place ∷ [])
    ∷ (some too_many_events ∷ some too_many_events ∷ []) ∷ (some undefined ∷ none ∷ []) ∷ []
unfolding placed
first_rows = refl

-- with none, 63 and 64 elements open: depth 64 is taken
depths : placed 0 1 ++ (placed 64 1 ++ placed 65 1) ≡ some undefined ∷ none ∷ some undefined ∷ none ∷ some undefined ∷ some too_deep ∷ []
unfolding placed
depths = refl

reasons : reason_of {A = ℕ} (Ok 1) ∷ reason_of {A = ℕ} (Err refusal.TooManyScopes) ∷ reason_of {A = ℕ} (Err refusal.ReportsFull) ∷ [] ≡ none ∷ some too_many_scopes ∷ some reports_full ∷ []
reasons = refl

-- ---- a session with so many scopes and selections open, of a constraint that selects nothing

abbrev constraint : Constraint
constraint = record { number = 0; name = []; kind = unique; refer = none; selector = []; fields = [] }

abbrev scope : events.Scope
scope = record { number = 1; constraint = constraint }

abbrev opened : ℕ → ℕ → Session
opened scopes selections =
    record {
      defs = no_definitions;
      stage = during;
      state = record {
        names = [];
        scopes = replicate scopes (record { scope = scope; depth = 1 });
        selections = replicate selections (record { scope = scope; depth = 1; cells = [] });
        count = 1;
        events = 5;
        out = blank;
      };
    }

-- an ES that lists these numbers
abbrev start : List ℕ → EsRecord
start numbers = record { space = []; name = []; numbers = numbers; attributes = [] }

unfoldable weighed : Session → List ℕ → ℕ → ℕ → Option Refusal
unfolding path_rows first_of scopes_then new_scopes names_then listed selections_then picked sixes six_from start_of openings opening after scopes_of scope_of flat_map pick_up selects only_if same defined_at defined_from
weighed s numbers used room = first_of (path_rows s (start numbers) used room)

-- 16 scopes and 32 selections are taken; one more of either is not
limits : weighed (opened 16 32) [] 0 0 ∷ weighed (opened 17 33) [] 0 0 ∷ weighed (opened 16 33) [] 1 0 ∷ weighed (opened 16 32) [] 1 0 ∷ []
    ≡ none ∷ some too_many_scopes ∷ some too_many_selections ∷ some reports_full ∷ []
unfolding weighed
limits = refl

-- a number that does not read takes 18 bytes, and another one of its name none
sixes-fit : weighed (opened 1 1) (3 ∷ 4 ∷ []) 40 58 ∷ weighed (opened 1 1) (3 ∷ 4 ∷ []) 40 57 ∷ [] ≡ none ∷ some reports_full ∷ []
unfolding weighed
sixes-fit = refl

-- ---- a record by its places, and counts

abbrev places : Es
places = record { space = record { start = 0; size = 1 }; name = record { start = 1; size = 2 }; numbers = record { start = 2; size = 3 }; first = 5; count = 1 }

by-places : record_in (10 ∷ 11 ∷ 12 ∷ 13 ∷ 14 ∷ 1 ∷ 0 ∷ 97 ∷ 2 ∷ 0 ∷ 98 ∷ 99 ∷ []) places
    ≡ record { space = 10 ∷ []; name = 11 ∷ 12 ∷ []; numbers = 12 ∷ 13 ∷ 14 ∷ []; attributes = record { name = 97 ∷ []; key = 98 ∷ 99 ∷ [] } ∷ [] }
unfolding up_to on_whole read_attribute read_text read_two read_byte read_bytes cons_on ◌>>=◌ on_read pass
by-places = refl

abbrev spot : Spot
spot = record { event = 9; above = 2; depth = 3; stage = 4; selections = 5; opened = 6 }

counts-started : counts_then spot 7 8 1 ≡ record { stage = 4; scopes = 7; selections = 8; opened = 7 }
counts-started = refl

-- ---- whole calls: what is answered, the events, the packed number, the first two scopes, the used reports

abbrev Left : Type 0
Left = session.Reply × ℕ × ℕ × ℕ × List ScopeRecord

abbrev left_by : Done → Left
left_by r = (reply_of r.reply, r.numbers.events, r.numbers.running, r.numbers.reports, take 2 (map record_of r.list))

abbrev left_in : session.Reply × session.World → Left
left_in q = (q.0, q.1.events, q.1.running, q.1.reports, take 2 q.1.scopes)

abbrev numbers : ℕ → ℕ → Numbers
numbers running definitions = record { events = 1; running = running; definitions = definitions; tuples = 0; reports = 0 }

-- areas of the least lengths that are taken
abbrev seven : code.Scope
seven = record { constraint = 7; number = 7; depth = 7 }

abbrev list : List code.Scope
list = replicate 16 seven

abbrev area : ℕ → Bytes
area n = replicate n 7

-- an ES `t` that lists the one constraint
abbrev rec : Bytes
rec = es "t" (0 ∷ []) []

abbrev listing : Es
listing = record { space = record { start = 6; size = 0 }; name = record { start = 8; size = 1 }; numbers = record { start = 10; size = 1 }; first = 12; count = 0 }

inside : InsideEs rec listing
unfolding called es up_to
inside = record { space = omega arith; name = omega arith; numbers = omega arith; first = omega arith; whole = refl }

-- under these numbers, with these definitions and so many bytes for reports
abbrev Taking : (running definitions : ℕ) → Bytes → (room : ℕ) → Done → Type 0
Taking running definitions store room r =
    (reports' paths' names' cells' : Bytes)
    × TakesEs (numbers running definitions) list listing rec store (area room) (area 1024) (area 32896) (area 16384) r reports' paths' names' cells'

-- its paths read: scope 1 opens on the root
opens-scope : (r : Done) → Taking 0 17 (id 1 "" "r" ("@id" ∷ [])) 0 r → left_by r ≡ (taken, 2, 262274, 0, record { constraint = 0; number = 1; depth = 1 } ∷ record_of seven ∷ [])
unfolding called es_in up_to
opens-scope r t = ap left_in (t.4.steps [] _ refl refl inside)

-- its selector does not read: kind 6, where 18 bytes are there for it
tells-six : (r : Done) → Taking 0 19 (id 1 "" ".//" ("@id" ∷ [])) 18 r → left_by r ≡ (taken, 2, 2, 18, record_of seven ∷ record_of seven ∷ [])
unfolding called es_in up_to
tells-six r t = ap left_in (t.4.steps [] _ refl refl inside)

no_room : (r : Done) → Taking 0 19 (id 1 "" ".//" ("@id" ∷ [])) 17 r → left_by r ≡ (refused reports_full, 1, 0, 0, record_of seven ∷ record_of seven ∷ [])
unfolding called es_in up_to
no_room r t = ap left_in (t.4.steps [] _ refl refl inside)

-- after an FI; and with no constraint defined
finished : (r : Done) → Taking 66 17 (id 1 "" "r" ("@id" ∷ [])) 0 r → left_by r ≡ (refused out_of_place, 1, 66, 0, record_of seven ∷ record_of seven ∷ [])
unfolding called es_in up_to
finished r t = ap left_in (t.4.steps [] _ refl refl inside)

not-defined : (r : Done) → Taking 0 0 [] 0 r → left_by r ≡ (refused undefined, 1, 0, 0, record_of seven ∷ record_of seven ∷ [])
unfolding called es_in up_to
not-defined r t = ap left_in (t.4.steps [] _ refl refl inside)

-- a refusal leaves the path area as it was
area-kept : (r : Done) (t : Taking 0 0 [] 0 r) → (r.reply ≡ reply.Taken → ⊥) → t.1 ≡ area 1024
area-kept r t f = (t.4.area (omega arith)).kept f
