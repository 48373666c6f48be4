-- Lines written out by hand, on which the definitions compute.
-- Assumes nothing.
use Rattle.std.specs.Prelude.{ℕ, ◌≡◌, refl, List, [], ◌∷◌, ◌++◌, map}
use Rattle.tree.specs.Judge.{Report}
use Rattle.records.specs.Readers.{Bytes}
use Rattle.numbers.specs.Numbers.{two, four}
use Rattle.lines.specs.Lines.{width_from, decimal, word, report_line, end_line, refused_line, report_in}

-- 0, 9, 10, 1000000
numbers : map decimal (0 ∷ 9 ∷ 10 ∷ 1000000 ∷ []) ≡ (48 ∷ []) ∷ (57 ∷ []) ∷ (49 ∷ 48 ∷ []) ∷ (49 ∷ 48 ∷ 48 ∷ 48 ∷ 48 ∷ 48 ∷ 48 ∷ []) ∷ []
unfolding decimal width_from
numbers = refl

-- `12` and a space
a_word : word 12 32 ≡ 49 ∷ 50 ∷ 32 ∷ []
unfolding word decimal width_from
a_word = refl

-- no two numbers of these eighteen bytes are alike
report-read : report_in (82 ∷ 80 ∷ 4 ∷ 1 ∷ 2 ∷ 0 ∷ 3 ∷ 1 ∷ 0 ∷ 0 ∷ 112 ∷ 17 ∷ 1 ∷ 0 ∷ 5 ∷ 0 ∷ 0 ∷ 0 ∷ []) ≡ record { kind = 4; constraint = 1; field = 2; scope = 259; event = 70000; tuple = 5 }
unfolding four two
report-read = refl

-- the lines of document 01's run: `6 4 0 0 1 1`, `8 3 0 0 1 0` and `end 10 1 2`
abbrev report : (event kind scope tuple : ℕ) → Report
report e k s t = record { kind = k; constraint = 0; field = 0; scope = s; event = e; tuple = t }

both : map report_line (report 6 4 1 1 ∷ report 8 3 1 0 ∷ []) ≡ (54 ∷ 32 ∷ 52 ∷ 32 ∷ 48 ∷ 32 ∷ 48 ∷ 32 ∷ 49 ∷ 32 ∷ 49 ∷ 10 ∷ []) ∷ (56 ∷ 32 ∷ 51 ∷ 32 ∷ 48 ∷ 32 ∷ 48 ∷ 32 ∷ 49 ∷ 32 ∷ 48 ∷ 10 ∷ []) ∷ []
unfolding report_line word decimal width_from
both = refl

the_end : end_line 10 1 2 ≡ 101 ∷ 110 ∷ 100 ∷ 32 ∷ 49 ∷ 48 ∷ 32 ∷ 49 ∷ 32 ∷ 50 ∷ 10 ∷ []
unfolding end_line word decimal width_from
the_end = refl

-- events, tuples, reports, each a word of its own
end-order : end_line 10 1 2 ≡ (101 ∷ 110 ∷ 100 ∷ 32 ∷ []) ++ (word 10 32 ++ (word 1 32 ++ word 2 10))
unfolding end_line
end-order = refl

-- `refused 3 12`
a-refusal : refused_line 3 12 ≡ 114 ∷ 101 ∷ 102 ∷ 117 ∷ 115 ∷ 101 ∷ 100 ∷ 32 ∷ 51 ∷ 32 ∷ 49 ∷ 50 ∷ 10 ∷ []
unfolding refused_line word decimal width_from
a-refusal = refl
