-- Two reports written out byte for byte, on which the definitions compute: what each is to give is written by hand.
-- Assumes nothing.
use Rattle.std.specs.Prelude.{ℕ, take, ◌≡◌, refl, true, false, [], ◌∷◌, ◌++◌, map}
use Rattle.lists.specs.Lists.{any}
use Rattle.numbers.specs.Numbers.{two_bytes, four_bytes}
use Rattle.records.specs.Readers.{Bytes, on_read, ◌>>=◌, pass, require, read_byte, read_two, read_four, on_rest, read_all, reads, on_whole, up_to}
use Rattle.session_spec.specs.Layout.{read_rp, put_rp}
use Rattle.output_stores.specs.Stores.{standing, on_list, reads_as, in_mask}
use Rattle.reports.specs.declared.Report as declared
use Rattle.reports.specs.Reports.{report_of, rp_head, tells, all_defined}

-- ---- two reports

-- kind, constraint, field, scope, event, tuple
abbrev handed : ℕ → ℕ → ℕ → ℕ → ℕ → ℕ → declared.Report
handed k c f s e t = record { kind = k; constraint = c; field = f; scope = s; event = e; tuple = t }

-- no two numbers of it are alike
abbrev first : declared.Report
first = handed 4 1 2 259 70000 5

-- constraint 3 does not read
abbrev second : declared.Report
second = handed 6 3 0 0 2 0

abbrev first_bytes : Bytes
first_bytes = 82 ∷ 80 ∷ 4 ∷ 1 ∷ 2 ∷ 0 ∷ 3 ∷ 1 ∷ 0 ∷ 0 ∷ 112 ∷ 17 ∷ 1 ∷ 0 ∷ 5 ∷ 0 ∷ 0 ∷ 0 ∷ []

abbrev second_bytes : Bytes
second_bytes = 82 ∷ 80 ∷ 6 ∷ 3 ∷ 0 ∷ 0 ∷ 0 ∷ 0 ∷ 0 ∷ 0 ∷ 2 ∷ 0 ∷ 0 ∷ 0 ∷ 0 ∷ 0 ∷ 0 ∷ 0 ∷ []

both-written : map (λ (r : declared.Report). put_rp (report_of r)) (first ∷ second ∷ []) ≡ first_bytes ∷ second_bytes ∷ []
unfolding put_rp four_bytes two_bytes
both-written = refl

-- the bytes before the three numbers
head-written : rp_head 4 1 2 ≡ take 6 first_bytes
head-written = refl

-- a report that is cut short does not hide those before it
both-stand : standing read_rp (first_bytes ++ (second_bytes ++ (82 ∷ 80 ∷ 6 ∷ []))) ≡ report_of first ∷ report_of second ∷ []
unfolding standing up_to on_whole read_rp read_four read_two read_byte require ◌>>=◌ on_read pass
both-stand = refl

-- ---- kind 6 for a constraint of a set, here 0 and 3

-- another kind for 3, kind 6 for 1, for 3 and for 0
tell : map (λ (r : declared.Report). tells 9 (report_of r)) (handed 4 3 0 0 2 0 ∷ handed 6 1 0 0 2 0 ∷ second ∷ handed 6 0 0 0 2 0 ∷ []) ≡ false ∷ false ∷ true ∷ true ∷ []
unfolding tells in_mask
tell = refl

-- of two reports in either order; not of the first alone, nor of an empty store, nor for a set without 3
told-of-two : map (λ (bs : Bytes). any (tells 9) (standing read_rp bs)) ((first_bytes ++ second_bytes) ∷ (second_bytes ++ first_bytes) ∷ first_bytes ∷ [] ∷ []) ≡ true ∷ true ∷ false ∷ false ∷ []
unfolding tells in_mask standing up_to on_whole read_rp read_four read_two read_byte require ◌>>=◌ on_read pass
told-of-two = refl

not-of-the-set : any (tells 7) (standing read_rp (first_bytes ++ second_bytes)) ≡ false
unfolding tells in_mask standing up_to on_whole read_rp read_four read_two read_byte require ◌>>=◌ on_read pass
not-of-the-set = refl

-- ---- which stores read

-- constraint 3 is defined where there are four
defined : map (λ (n : ℕ). all_defined n (report_of first ∷ report_of second ∷ [])) (4 ∷ 3 ∷ 1 ∷ 0 ∷ []) ≡ true ∷ false ∷ false ∷ false ∷ []
unfolding all_defined
defined = refl

none-asks-for-none : all_defined 0 [] ≡ true
unfolding all_defined
none-asks-for-none = refl

-- a byte left over, a zero byte that is 1, another mark
stores-read : map (reads_as read_rp (all_defined 4)) ((first_bytes ++ second_bytes) ∷ [] ∷ (first_bytes ++ (82 ∷ [])) ∷ (82 ∷ 80 ∷ 4 ∷ 1 ∷ 2 ∷ 1 ∷ 3 ∷ 1 ∷ 0 ∷ 0 ∷ 112 ∷ 17 ∷ 1 ∷ 0 ∷ 5 ∷ 0 ∷ 0 ∷ 0 ∷ []) ∷ (80 ∷ 82 ∷ 4 ∷ 1 ∷ 2 ∷ 0 ∷ 3 ∷ 1 ∷ 0 ∷ 0 ∷ 112 ∷ 17 ∷ 1 ∷ 0 ∷ 5 ∷ 0 ∷ 0 ∷ 0 ∷ []) ∷ []) ≡ true ∷ true ∷ false ∷ false ∷ false ∷ []
unfolding reads_as on_list reads read_all on_rest all_defined read_rp read_four read_two read_byte require ◌>>=◌ on_read pass
stores-read = refl
