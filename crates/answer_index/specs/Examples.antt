-- A store of three TUs, two of constraints that answer keyrefs and one of a keyref; classes, slots and tables by hand, and what each definition is to give on them.
-- Assumes nothing.
use Rattle.std.specs.Prelude.{ℕ, ◌≤◌, ◌≡◌, refl, true, false, List, [], ◌∷◌, ◌++◌, map}
use Rattle.std.proofs.Common.{arith}
use Rattle.std.proofs.Math.Option.{none, some}
use Rattle.lists.specs.Lists.{any}
use Rattle.texts.specs.Texts.{same}
use Rattle.numbers.specs.Numbers.{two}
use Rattle.hashes.specs.Hashes.{hash_of}
use Rattle.records.specs.Readers.{Bytes, on_read, ◌>>=◌, pass, read_byte, cons_on, read_bytes, on_whole, up_to}
use Rattle.session_spec.specs.Definitions.{frame}
use Rattle.output_stores.specs.Stores.{standing, in_mask}
use Rattle.tuple_search.specs.Search.{is_answer, answered_by}
use Rattle.tuple_index.specs.declared.Slot.{Slot}
use Rattle.tuple_index.specs.Index.{slots_of}
use Rattle.answer_index.specs.Answers.{class_given, class_for, class_of, is_of, Names, Answer, Matches, Noted, NotedBy, NotedIn, Tells, Moves, Extends, Notes}

-- constraint 0 with the key `b`, constraint 5 with the key `e`, constraint 1, a keyref, with the key `b`
abbrev first : Bytes
first = 84 ∷ 85 ∷ 9 ∷ 0 ∷ 0 ∷ 1 ∷ 0 ∷ 0 ∷ 0 ∷ 1 ∷ 1 ∷ 0 ∷ 98 ∷ []

abbrev second : Bytes
second = 84 ∷ 85 ∷ 9 ∷ 0 ∷ 5 ∷ 2 ∷ 0 ∷ 0 ∷ 0 ∷ 1 ∷ 1 ∷ 0 ∷ 101 ∷ []

abbrev third : Bytes
third = 84 ∷ 85 ∷ 9 ∷ 0 ∷ 1 ∷ 3 ∷ 0 ∷ 0 ∷ 0 ∷ 1 ∷ 1 ∷ 0 ∷ 98 ∷ []

abbrev store : Bytes
store = first ++ (second ++ third)

abbrev b : Bytes
b = 1 ∷ 1 ∷ 0 ∷ 98 ∷ []

abbrev e : Bytes
e = 1 ∷ 1 ∷ 0 ∷ 101 ∷ []

-- constraint 0 is of class 0, constraint 5 of class 5, and no other answers anything
abbrev classes : List ℕ
classes = 0 ∷ 255 ∷ 255 ∷ 255 ∷ 255 ∷ 5 ∷ []

-- ---- classes

given-classes : map class_given (0 ∷ 254 ∷ 255 ∷ []) ≡ some 0 ∷ some 254 ∷ none ∷ []
given-classes = refl

for-constraints : map (class_for classes) (0 ∷ 1 ∷ 5 ∷ 6 ∷ []) ≡ some 0 ∷ none ∷ some 5 ∷ none ∷ []
for-constraints = refl

their-classes : map (class_of classes) (first ∷ second ∷ third ∷ []) ≡ 0 ∷ 5 ∷ 255 ∷ []
unfolding class_of
their-classes = refl

-- past the last there is none
past-the-last : class_of (0 ∷ []) second ≡ 255
unfolding class_of
past-the-last = refl

-- class and texts both; the number is one more than the class
its-number : map (λ (n : ℕ). is_of classes n e second) (5 ∷ 6 ∷ []) ≡ false ∷ true ∷ []
unfolding is_of class_of same
its-number = refl

other-texts : is_of classes 6 b second ≡ false
unfolding is_of class_of same
other-texts = refl

-- constraints 0 and 1 are of one class, and in one set
of-class : Names (0 ∷ 0 ∷ []) 0 3 → in_mask 3 1 ≡ true
of-class n = n 1

no-class : Names classes 255 0 → in_mask 0 9 ≡ false
no-class n = n 9

-- ---- the index

abbrev of-second : Slot
of-second = record { place = 14; number = 6; hash = 7 }

its-hash : Answer classes (second ∷ []) store of-second → 7 ≡ hash_of e
unfolding two
its-hash a = a.hash

is-there : Answer classes (second ∷ []) store of-second → any (is_of classes 6 e) (second ∷ []) ≡ true
unfolding two
is-there a = a.stands

it-matches : Matches classes store second of-second
unfolding class_of two
it-matches = (refl, refl)

module _ (c : Noted classes 14 (of-second ∷ []) store) where
  ends-at : 13 ≤ 39
  ends-at = c.within

  behind : standing frame (store ++ []) ≡ c.before ++ standing frame ((second ++ third) ++ [])
  behind = c.stands []

  each_right : Answer classes c.before store of-second
  each_right = c.sound.0 refl

-- a first word of 0 says nothing
nothing_said : (used : Bytes) → NotedBy classes 0 (of-second ∷ []) used
nothing_said used p = absurd (omega arith)

abbrev table : List ℕ
table = 14 ∷ 9 ∷ 9 ∷ 1 ∷ 14 ∷ 6 ∷ 7 ∷ []

words-read : NotedIn classes table store → Noted classes 14 (of-second ∷ []) store
unfolding slots_of
words-read c = c (omega arith) (omega arith)

too_short : (used : Bytes) → NotedIn classes (14 ∷ 9 ∷ 9 ∷ []) used
too_short used h p = absurd (omega arith)

-- ---- what a call replies

-- a table of no words notes nothing: the reply is that of the walk
must-be-true : Names classes 5 32 → Tells store [] 5 32 e false → ⊥
unfolding answered_by is_answer in_mask same standing up_to on_whole frame read_byte read_bytes cons_on ◌>>=◌ on_read pass
must-be-true n t =
    let z : false ≡ true = t classes n (λ h. absurd (omega arith)) in
    let y : ◌≡◌ {A = ℕ} 0 1 = cc in omega arith

-- ---- what a call leaves

moved : Moves classes 1 [] store 14 (14 ∷ 6 ∷ 7 ∷ []) → NotedBy classes 1 [] store → NotedBy classes 14 (of-second ∷ []) store
unfolding slots_of
moved m c = m.noted c

extended : Extends classes [] store table → NotedIn classes [] store → NotedIn classes table store
extended x c = x.noted c

noted : Notes classes [] store table → NotedIn classes table store
noted n = n.noted
