-- Computed: a small tuple store with a key and two keyrefs, which of its records lack an answer and their reports; which constraints answer a keyref; reports
-- behind the used bytes of a store; whether they fit; whole calls on small sessions.
-- Assumes nothing.
use Rattle.std.specs.Prelude.{ℕ, zero, suc, replicate, ◌≡◌, refl, Bool, true, false, Some, None}
use Rattle.std.specs.declared.option.Option as code
use Rattle.std.proofs.Common.{arith, ap}
use mathlib.Core.List.{List, [], ◌∷◌, ◌++◌, map, flat_map}
use Rattle.std.proofs.Math.Option.{Option, none, some}
use Rattle.lists.specs.Lists.{any, only_if, passing}
use Rattle.texts.specs.Texts.{Text, same}
use Rattle.numbers.specs.Numbers.{two, four, two_bytes, four_bytes}
use Rattle.tree.specs.Judge.{Report, is_keyref, named}
use Rattle.records.specs.Readers.{Bytes, on_read, ◌>>=◌, pass, read_byte, cons_on, read_bytes, on_whole, up_to}
use Rattle.session_spec.specs.Definitions.{Definition, Definitions, frame, kind_of, constraint_of, constraint_from, constraint_at}
use Rattle.records.specs.Refusals.{out_of_place}
use Rattle.session_spec.specs.Layout.{ScopeRecord, put_rp}
use Rattle.session_spec.specs.Session as session
use Rattle.session_spec.specs.Session.{taken, refused}
use Rattle.session_spec.specs.Computed.{fi, called}
use Rattle.open_scopes.specs.declared.Scope.{Scope}
use Rattle.open_scopes.specs.declared.Numbers.{Numbers}
use Rattle.open_scopes.specs.OpenScopes.{record_of}
use Rattle.worlds.specs.Replies.{reply_of}
use Rattle.worlds.specs.declared.Done.{Done}
use Rattle.output_stores.specs.Stores.{standing, in_mask}
use Rattle.tuple_search.specs.Search.{is_answer, answered_by}
use Rattle.event_answers.specs.declared.Refs.{Refs}
use Rattle.event_answers.specs.Finishing.{TakesFi, finished_counts}
use Rattle.event_answers.specs.Fives.{Ref, no_ref, Answering, RefIs, answers_to, of_keyref, is_lacking, five_of, five_for, fives_from, fives_in, Written, Judged}

-- ---- four TUs with one key each: constraint 0 with `a`; constraint 1 with `a` and with `b`, in scope 258; constraint 3 with `a`

abbrev tu : (constraint low high key : ℕ) → Bytes
tu c l h k = 84 ∷ 85 ∷ 9 ∷ 0 ∷ c ∷ l ∷ h ∷ 0 ∷ 0 ∷ 1 ∷ 1 ∷ 0 ∷ k ∷ []

abbrev store : Bytes
store = tu 0 1 0 97 ++ (tu 1 2 1 97 ++ (tu 1 2 1 98 ++ tu 3 5 0 97))

-- 1 is a keyref that 0 and 2 answer, 3 is one that nothing answers
abbrev refs : Refs
refs = record { list = no_ref ∷ Some 5 ∷ no_ref ∷ Some 0 ∷ replicate 28 no_ref }

-- past the last number there is no keyref
keyrefs : map (of_keyref refs) (tu 0 1 0 97 ∷ tu 1 2 1 97 ∷ tu 3 5 0 97 ∷ tu 4 1 0 97 ∷ tu 32 1 0 97 ∷ tu 255 1 0 97 ∷ []) ≡ false ∷ true ∷ true ∷ false ∷ false ∷ false ∷ []
unfolding of_keyref
keyrefs = refl

-- in any scope; another text, another set, and a second text are no answer; what is no keyref's lacks none
unfoldable lacking : Bytes → Bool
unfolding is_lacking answered_by is_answer in_mask same standing up_to on_whole frame read_byte read_bytes cons_on ◌>>=◌ on_read pass
lacking f = is_lacking refs store f

which-lack : map lacking (tu 0 1 0 98 ∷ tu 1 2 1 97 ∷ tu 1 9 9 97 ∷ tu 1 2 1 98 ∷ tu 3 5 0 97 ∷ (84 ∷ 85 ∷ 12 ∷ 0 ∷ 1 ∷ 2 ∷ 1 ∷ 0 ∷ 0 ∷ 2 ∷ 1 ∷ 0 ∷ 97 ∷ 1 ∷ 0 ∷ 97 ∷ []) ∷ [])
    ≡ false ∷ false ∷ false ∷ true ∷ true ∷ true ∷ []
unfolding lacking
which-lack = refl

-- the scope is none of the texts: of constraint 1 in a scope 1
scope-apart : lacking (tu 1 1 0 97) ≡ false
unfolding lacking
scope-apart = refl

-- ---- their reports, each with its own number, constraint and scope

abbrev five : (constraint scope event tuple : ℕ) → Report
five c s e t = record { kind = 5; constraint = c; field = 0; scope = s; event = e; tuple = t }

unfoldable reported : ℕ → List Report
unfolding fives_in fives_from five_for five_of is_lacking only_if two four answered_by is_answer in_mask same standing up_to on_whole frame read_byte read_bytes cons_on ◌>>=◌ on_read pass
reported e = fives_in refs store e

two-reports : reported 9 ≡ five 1 258 9 3 ∷ five 3 5 9 4 ∷ []
unfolding reported
two-reports = refl

-- numbered from 1, of two that nothing answers
unfoldable numbered : List Bytes → List ℕ
unfolding fives_from five_for five_of is_lacking only_if two four answered_by is_answer in_mask same standing up_to on_whole frame read_byte read_bytes cons_on ◌>>=◌ on_read pass
numbered fs = map (λ (r : Report). r.tuple) (fives_from refs [] 9 0 fs)

from_one : numbered (tu 3 3 0 97 ∷ tu 0 0 0 97 ∷ tu 3 3 0 98 ∷ []) ≡ 1 ∷ 3 ∷ []
unfolding numbered
from_one = refl

-- a number past four bytes
in-four-bytes : map (λ (i : ℕ). (five_of 1 i (tu 3 5 0 97)).tuple) (1 ∷ 4294967295 ∷ 4294967296 ∷ []) ≡ 1 ∷ 4294967295 ∷ 0 ∷ []
unfolding five_of
in-four-bytes = refl

-- ---- which constraints answer: a key and a unique with the name `k`, a keyref that refers to it, one with that name, and one with no refer

abbrev pub id_with : (kind : ℕ) → Text → Option Text → Definition
id_with k n r = record { id = record { kind = k; name = n; flag = 0; refer = r; selector = []; fields = [] }; own = [] }

abbrev pub defs : Definitions
defs =
    record {
      ids = id_with 1 (107 ∷ []) none ∷ id_with 2 (114 ∷ []) (some (107 ∷ [])) ∷ id_with 0 (107 ∷ []) (some (107 ∷ [])) ∷ id_with 2 (107 ∷ []) none ∷ [];
      schema = [];
      bindings = 0;
    }

abbrev pub keyref_to : ℕ → Ref
keyref_to set = Some set

-- both, and no keyref
pub zero-and-two : Answering defs 1 5
unfolding in_mask is_keyref named same kind_of constraint_at constraint_from constraint_of
zero-and-two zero l = refl
zero-and-two (suc zero) l = refl
zero-and-two (suc (suc zero)) l = refl
zero-and-two (suc (suc (suc zero))) l = refl
zero-and-two (suc (suc (suc (suc c)))) l = absurd (omega arith)

-- not the first alone, and not the keyref of that name

not-the-first : RefIs defs 1 (keyref_to 1) → ⊥
unfolding in_mask is_keyref named same kind_of constraint_at constraint_from constraint_of
not-the-first r = let z : ◌≡◌ {A = ℕ} 0 1 = cc (r.answers refl 2 (omega arith)) in omega arith

no-keyref-answers : RefIs defs 1 (keyref_to 13) → ⊥
unfolding in_mask is_keyref named same kind_of constraint_at constraint_from constraint_of
no-keyref-answers r = let z : ◌≡◌ {A = ℕ} 0 1 = cc (r.answers refl 3 (omega arith)) in omega arith

-- without refer nothing answers
none-answer : RefIs defs 3 (keyref_to 1) → ⊥
unfolding in_mask is_keyref named same kind_of constraint_at constraint_from constraint_of
none-answer r = let z : ◌≡◌ {A = ℕ} 0 1 = cc (r.answers refl 0 (omega arith)) in omega arith

-- a refer on a unique has no effect
no-keyrefs : RefIs defs 2 no_ref × (RefIs defs 0 (keyref_to 0) → ⊥)
unfolding is_keyref kind_of constraint_at constraint_from constraint_of
no-keyrefs =
    (record { keyref = refl; answers = λ e. let z : ◌≡◌ {A = ℕ} 0 1 = cc in absurd (omega arith) }, λ r. let z : ◌≡◌ {A = ℕ} 0 1 = cc r.keyref in omega arith)

-- ---- the sets of the constraints that answer, joined

sets-joined : map (λ (k : ℕ). answers_to k (keyref_to 5 ∷ no_ref ∷ keyref_to 6 ∷ [])) (0 ∷ 1 ∷ 2 ∷ 3 ∷ 32 ∷ []) ≡ 0 ∷ 5 ∷ 5 ∷ 7 ∷ 7 ∷ []
unfolding answers_to
sets-joined = refl

-- ---- a report behind one used byte of twenty

written : Written (replicate 20 7) 1 (five 1 258 9 3 ∷ []) 19 (7 ∷ 82 ∷ 80 ∷ 5 ∷ 1 ∷ 0 ∷ 0 ∷ 2 ∷ 1 ∷ 0 ∷ 0 ∷ 9 ∷ 0 ∷ 0 ∷ 0 ∷ 3 ∷ 0 ∷ 0 ∷ 0 ∷ 7 ∷ [])
unfolding put_rp four_bytes two_bytes flat_map
written = record { answers = λ h. refl; leaves = λ h. refl }

-- ---- whether all fit: two of the four lack an answer

abbrev said : (fit : Bool) → code.Option ℕ
said true = Some 1
said false = None

all-counted : (after : Bytes) → (Judged refs store 9 1 [] 1 (said true) after → ⊥) × (Judged refs store 9 2 [] 1 (said false) after → ⊥)
unfolding passing only_if is_lacking answered_by is_answer in_mask same standing up_to on_whole frame read_byte read_bytes cons_on ◌>>=◌ on_read pass
all-counted after =
    (λ j. let e : true ≡ false = j.fit in let z : ◌≡◌ {A = ℕ} 0 1 = cc in omega arith, λ j. let e : false ≡ true = j.fit in let z : ◌≡◌ {A = ℕ} 0 1 = cc in omega arith)

-- one of two, whatever its texts
one-counted : (after : Bytes) → (Judged refs (tu 0 0 0 97 ++ tu 3 3 0 97) 9 0 [] 1 (said true) after → ⊥) × (Judged refs (tu 0 0 0 97 ++ tu 3 3 0 97) 9 1 [] 1 (said false) after → ⊥)
unfolding passing only_if is_lacking answered_by is_answer in_mask same standing up_to on_whole frame read_byte read_bytes cons_on ◌>>=◌ on_read pass
one-counted after =
    (λ j. let e : true ≡ false = j.fit in let z : ◌≡◌ {A = ℕ} 0 1 = cc in omega arith, λ j. let e : false ≡ true = j.fit in let z : ◌≡◌ {A = ℕ} 0 1 = cc in omega arith)

left-as-it-was : Judged refs store 9 1 (7 ∷ []) 1 (said false) (8 ∷ []) → ⊥
left-as-it-was j = let e : ◌≡◌ {A = Bytes} (8 ∷ []) (7 ∷ []) = j.keeps refl in let z : ◌≡◌ {A = ℕ} 8 7 = cc in omega arith

-- ---- the counts after an FI

counts-finished : finished_counts (record { stage = 1; scopes = 2; selections = 3; opened = 4 }) ≡ record { stage = 66; scopes = 2; selections = 3; opened = 4 }
counts-finished = refl

-- ---- whole calls: what is answered, the events, the packed number, the used reports, the report store and the scopes

abbrev Left : Type 0
Left = session.Reply × ℕ × ℕ × ℕ × Bytes × List ScopeRecord

abbrev left_by : Done → Bytes → Left
left_by r after = (reply_of r.reply, r.numbers.events, r.numbers.running, r.numbers.reports, after, map record_of r.list)

abbrev left_in : session.Reply × session.World → Left
left_in q = (q.0, q.1.events, q.1.running, q.1.reports, q.1.report_store, q.1.scopes)

-- four events taken, and nothing used
abbrev numbers : ℕ → Numbers
numbers running = record { events = 4; running = running; definitions = 0; tuples = 0; reports = 0 }

-- all else that is lent: areas of the least lengths that are taken
abbrev list : List Scope
list = replicate 16 (record { constraint = 7; number = 7; depth = 7 })

abbrev names : Bytes
names = replicate 32896 7

abbrev cells : Bytes
cells = replicate 16384 7

-- all elements are ended; an FI was there before
fi-taken : (r : Done) (after : Bytes) → TakesFi (numbers 1) list [] [] (7 ∷ []) r after → left_by r after ≡ (taken, 5, 66, 0, 7 ∷ [], map record_of list)
unfolding called
fi-taken r after t = ap left_in (t.steps 1024 names cells _ fi refl refl)

fi-again : (r : Done) (after : Bytes) → TakesFi (numbers 66) list [] [] (7 ∷ []) r after → left_by r after ≡ (refused out_of_place, 4, 66, 0, 7 ∷ [], map record_of list)
unfolding called
fi-again r after t = ap left_in (t.steps 1024 names cells _ fi refl refl)
