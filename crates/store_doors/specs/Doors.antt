-- What a door answers in several numbers, or hands back in bytes: a record by its places or its refusal; a part of an area or a store.
-- Assumes nothing.
use Rattle.std.specs.Prelude.{ℕ, eqb, length, ◌≡◌, Bool, true, false, cond}
use Rattle.std.proofs.Math.Option.{Option, none, some}
use Rattle.lists.specs.Lists.{put}
use Rattle.records.specs.Readers.{Bytes}
use Rattle.records.specs.Refusals as refusals
use Rattle.records.specs.Refusals.{refusal_number}
use Rattle.std.specs.declared.option.Option as code
use Rattle.std.specs.declared.option.Option.TheVariants.{Some, None}
use Rattle.definition_store.specs.Store.{Defined}
use Rattle.record_places.specs.declared.Place.{Place}
use Rattle.record_places.specs.declared.Refusal.{Refusal}
use Rattle.record_places.specs.declared.Refusal.TheVariants.{UnknownMark, TooLong, Misframed, NotUtf8, BadByte, OverLimit}
use Rattle.std.specs.declared.result.Result.TheVariants.{Ok, Err}
use Rattle.record_places.specs.declared.Record.TheVariants as walked
use Rattle.record_places.specs.Places.{Walked}

-- a refusal by its place in the order of the tests, from 0
unfoldable pub refusal_by : ℕ → Refusal
refusal_by n =
    cond (eqb n 0) UnknownMark
    (cond (eqb n 1) TooLong (cond (eqb n 2) Misframed (cond (eqb n 3) NotUtf8 (cond (eqb n 4) BadByte OverLimit))))

abbrev pub place_by : (start size : ℕ) → Place
place_by start size = record { start = start; size = size }

-- the place of a refer, if there is one
abbrev pub refer_by : Bool → Place → code.Option Place
refer_by true p = Some p
refer_by false p = None

-- 0 refused, and `kind` says why; 1 ID, 2 NS, 3 ES, 4 EE, by their numbers and places in the order of the record; 5 FI
unfoldable pub walked_by : (sort kind flag : ℕ) → (a b c : Place) → (first count : ℕ) → Walked
walked_by sort kind flag a b c first count =
    cond (eqb sort 0) (Err (refusal_by kind))
    (cond (eqb sort 1) (Ok (walked.Id (record { kind = kind; name = a; flag = flag; refer = b; selector = c; first = first; count = count })))
    (cond (eqb sort 2) (Ok (walked.Ns (record { target = kind; prefix = a; uri = b })))
    (cond (eqb sort 3) (Ok (walked.Es (record { space = a; name = b; numbers = c; first = first; count = count })))
    (cond (eqb sort 4) (Ok (walked.Ee (record { simple = kind; key = a }))) (Ok walked.Fi)))))

-- A call that hands bytes back answers how many they are, and leaves them at the front of what it was lent; where they do not fit nothing changes.
pub record Handed (bytes before : Bytes) (size : ℕ) (after : Bytes) : Type 0 where
  pub answers : size ≡ length bytes
  pub leaves : after ≡ put before 0 bytes

-- ---- definitions

-- read, and then what the definitions come to
unfoldable pub defined_with : (is_read : Bool) → (constraints fields bindings : ℕ) → Defined
defined_with true constraints fields bindings = Some (record { constraints = constraints; fields = fields; bindings = bindings })
defined_with false constraints fields bindings = None

-- document 01's number of what stands against a definition; 0 where nothing does
abbrev pub verdict_number : Option refusals.Refusal → ℕ
verdict_number none = 0
verdict_number (some c) = refusal_number c
