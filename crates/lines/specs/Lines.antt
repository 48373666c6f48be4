-- THE LINES of a run's output: numbers in decimal with single spaces between, for each report and at the end.
-- Assumes nothing.
use Rattle.std.specs.Prelude.{ℕ, zero, suc, ◌^◌, ◌≤◌, ltb, length, take, get_or, ◌≡◌, cond, List, [], ◌∷◌, ◌++◌}
use Rattle.io.specs.Digits.{last_digits}
use Rattle.numbers.specs.Numbers.{four}
use Rattle.tree.specs.Judge.{Report}
use Rattle.records.specs.Readers.{Bytes}
use Rattle.lines.specs.declared.Line.{Line}

-- ---- numbers

-- how many digits hold n, from k on and f more at most
unfoldable pub width_from : (f k n : ℕ) → ℕ
width_from zero k n = k
width_from (suc f) k n = cond (ltb n (10 ^ k)) k (width_from f (suc k) n)

-- in decimal, without zeros in front; twenty digits hold any number of 64 bits
unfoldable pub decimal : ℕ → Bytes
decimal n = last_digits 10 (width_from 19 1 n) n

-- a number and the byte behind it, a space or the end of the line
unfoldable pub word : (n end : ℕ) → Bytes
word n end = decimal n ++ (end ∷ [])

-- ---- lines

-- a report: event kind constraint field scope tuple
unfoldable pub report_line : Report → Bytes
report_line r = word r.event 32 ++ (word r.kind 32 ++ (word r.constraint 32 ++ (word r.field 32 ++ (word r.scope 32 ++ word r.tuple 10))))

-- the end: events, tuples, reports
unfoldable pub end_line : (events tuples reports : ℕ) → Bytes
end_line e t r = 101 ∷ 110 ∷ 100 ∷ 32 ∷ (word e 32 ++ (word t 32 ++ word r 10))

-- a refusal: the place of the record, and the number
unfoldable pub refused_line : (place number : ℕ) → Bytes
refused_line p n = 114 ∷ 101 ∷ 102 ∷ 117 ∷ 115 ∷ 101 ∷ 100 ∷ 32 ∷ (word p 32 ++ word n 10)

-- the report that eighteen bytes hold
abbrev pub report_in : Bytes → Report
report_in s = record { kind = get_or s 2 0; constraint = get_or s 3 0; field = get_or s 4 0; scope = four s 6; event = four s 10; tuple = four s 14 }

-- The first `size` bytes are the line.
pub record LineOf (text : Bytes) (l : Line) : Type 0 where
  pub holds : take l.size l.bytes ≡ text
  pub short : l.size ≤ 128
