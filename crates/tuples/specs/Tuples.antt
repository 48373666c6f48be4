-- What the functions over a tuple store answer, over the TU records that stand there.
-- Assumes nothing.
use Rattle.std.specs.Prelude.{ℕ, leb, ltb, length, take, Bool, cond, ◌&&◌, List, []}
use Rattle.std.proofs.Math.Option.{Option, none, some}
use Rattle.std.specs.declared.option.Option as code
use Rattle.std.specs.declared.option.Option.TheVariants.{Some, None}
use denote.Ref.{Bor}
use Rattle.lists.specs.Lists.{all}
use Rattle.records.specs.Readers.{Bytes, reads}
use Rattle.session_spec.specs.Definitions.{is_some}
use Rattle.session_spec.specs.Layout.{TuRecord, read_tu, Part}
use Rattle.record_places.specs.declared.Place.{Place}

-- each is of one of so many constraints and of a scope that was opened, and there are not more than `most`
unfoldable pub tuples_fit : (constraints opened most : ℕ) → List TuRecord → Bool
tuples_fit constraints opened most ts = all (λ t. ltb t.constraint constraints && leb t.scope opened) ts && leb (length ts) most

-- how many these are, where each passes a test of its constraint and its scope; none where one does not, or they are not there
unfoldable pub counted : (test : (constraint scope : ℕ) → Bool) → Option (List TuRecord) → Option ℕ
counted test none = none
counted test (some ts) = cond (all (λ t. test t.constraint t.scope) ts) (some (length ts)) none

-- a number that is not more than `most`; none where it is
unfoldable pub within : (most : ℕ) → Option ℕ → Option ℕ
within most none = none
within most (some n) = cond (leb n most) (some n) none

-- the bytes are TUs and nothing else
unfoldable pub all_read : Bytes → Bool
all_read xs = is_some (reads read_tu xs)

-- what a view looks at: the used part of a store; nothing of it where the used length is past the store, or the part does not read
unfoldable pub readable : (used : ℕ) → (store : Bytes) → Bytes
readable used store = cond (leb used (length store) && all_read (take used store)) (take used store) []

-- the part that a place stands for
abbrev pub placed : Place → Part
placed p = record { start = p.start; size = p.size }

-- what is left of bytes when something was read at their front; nothing where it is not there
unfoldable pub rest_of : (left : Option Bytes) → Bytes
rest_of none = []
rest_of (some left) = left

-- what is left, as code answers it
abbrev pub left_by : code.Option (Bor Bytes) → Option Bytes
left_by None = none
left_by (Some left) = some left.now
