-- THE ELEVEN CASES MARKED P in document 01, one of them as request U5 has it, computed as one list from the definitions: of
-- the reader, of matching, of hits and cells, of the checker.
-- Assumes nothing.
use Prim.Native.String.{String}
use Rattle.std.specs.Prelude.{ℕ, length, ◌≡◌, Bool, true, false, List, [], ◌∷◌, map}
use Rattle.std.proofs.Math.Path.{refl}
use Rattle.std.proofs.Math.Option
use Rattle.std.proofs.Math.Option.{Option, none, some}
use Rattle.lists.specs.Lists.{all, any}
use Rattle.texts.specs.Texts.{Text, same}
use Rattle.utf8.specs.Utf8.{decode}
use Rattle.characters.specs.Ranges.{in_ranges}
use Rattle.characters.specs.Spaces.{xml_space}
use Rattle.characters.specs.Names.{start_ranges, more_ranges, name_start, name_char}
use Rattle.ncname.specs.NCName.{nc_name}
use Rattle.grammar.specs.Paths.{Kind}
use Rattle.grammar.specs.Paths.Kind.{selector}
use Rattle.reasons.specs.Reasons.{run_start, run_char, run, begins, slash_first, colon_first, after_prefix, after_name, name_first, scan, tokenize, declares, test_declared, check_prefix, is_field, step, steps, descent, validate_path, alternative, alternatives, on_front, split_at, reason}
use Rattle.paths.specs.Names.{Name}
use Rattle.paths.specs.Matching.{FieldAlt, space_fits, local_fits, fits, fit_all, fit_last, matches}
use Rattle.paths.specs.Reading.{WrittenTest, WrittenAlt, on_some, resolved, step_path_of, field_alt_of}
use Rattle.paths.specs.Examples.{codes, read}
use Rattle.tree.specs.Events.{End}
use Rattle.tree.specs.Cells.{Cell, Set, one, cell, ends_at, reaches, reach, attribute_hits, element_hit, element_hits}
use Rattle.tree.specs.Tree.{Element, Ended, empty, node, end_hits, hits, own_hits}

-- ---- what is asked

pub data Answer : Type 0 where
  -- whether a selector matches each path of names below its base element; none where it is not read
  matched : Option (List Bool) → Answer
  -- how many hits a child gives a field, and what the field's cell is; none where it is not read
  reached : Option (ℕ × Cell) → Answer
  -- the checker's reason, none where the text passes; and what the reader reads, none where it does not
  judged : Option ℕ → Option (List WrittenAlt) → Answer

-- a selector; `bound` says what a prefix is bound to
unfoldable pub matching : (Text → Option Text) → String → List (List Name) → Answer
unfolding read resolved step_path_of on_some space_fits local_fits fits fit_all fit_last matches
matching bound s paths =
    matched (Option.map (λ alts. map (λ below. any (λ a. matches (step_path_of bound a) below) alts) paths) (read false (codes s)))

-- an element without attributes, and its end
abbrev pub element : Name → Element
element n = record { event = 0; start = record { name = n; numbers = []; attributes = [] }; openings = [] }

abbrev pub ended : End → Option Ended
ended e = some (record { event = 0; close = e })

-- a field of a selected element, which has one child
unfoldable pub on_child : (Text → Option Text) → String → Name × End → Name × End → Answer
unfolding read resolved step_path_of field_alt_of on_some space_fits local_fits fits fit_all fit_last matches ends_at reaches reach attribute_hits element_hit element_hits one cell end_hits hits own_hits
on_child bound s selected child = reached (Option.map (λ alts. of (map (field_alt_of bound) alts)) (read true (codes s)))
  where
    of : List FieldAlt → ℕ × Cell
    of alts = (
      reach alts (child.0 ∷ []) none,
      cell (own_hits alts (element selected.0) (node (element child.0) empty (ended child.1) empty) (ended selected.1)),
    )

-- a text of this kind, where no prefix is declared
unfoldable pub checker_and_reader : Kind → Text → Answer
unfolding read same in_ranges xml_space start_ranges more_ranges name_start name_char nc_name run_start run_char run begins slash_first colon_first after_prefix after_name name_first scan tokenize declares test_declared check_prefix step steps descent validate_path alternative alternatives on_front split_at reason
checker_and_reader k t = judged (reason k (decode t) []) (read (is_field k) t)

-- ---- how an answer is written

-- a name in a namespace
abbrev pub named : Text → String → Name
named space s = record { space = space; local = codes s }

-- the reason Xk
abbrev pub X : ℕ → Option ℕ
X k = some k

-- read as one step
abbrev pub read_as : WrittenTest → Option (List WrittenAlt)
read_as t = some (record { descendant = false; steps = t ∷ []; attr = none } ∷ [])

-- `s`, and `p:s`
abbrev pub name : String → WrittenTest
name s = record { prefix = none; local = some (codes s) }

abbrev pub pre : String → String → WrittenTest
pre p s = record { prefix = some (codes p); local = some (codes s) }

abbrev pub unread : Option (List WrittenAlt)
unread = none

-- ---- the cases

-- what the definitions give, and what document 01 says
abbrev pub Case : Type 0
Case = Answer × Answer

-- whatever prefixes are bound to; `u` is any namespace, `n` any name and `ns` any names below it; the selected element ends with any value, its
-- child with any simple value `v`; the text is asked as either kind where the document names none
module _ (bound : Text → Option Text) (u : Text) (n : Name) (ns : List Name) (selected : End) (v : Text) (k : Kind) where
  abbrev pub cases : List Case
  cases =
      -- `.//.` matches the empty path and a/b
      (matching bound ".//." ([] ∷ (named [] "a" ∷ named [] "b" ∷ []) ∷ []), matched (some (true ∷ true ∷ [])))
      -- `.` matches the empty path only
      ∷ (matching bound "." ([] ∷ (n ∷ ns) ∷ []), matched (some (true ∷ false ∷ [])))
      -- `a` matches a in any namespace
      ∷ (matching bound "a" ((named u "a" ∷ []) ∷ []), matched (some (true ∷ [])))
      -- field `a|a` on one child a is Set, as U5 has it
      ∷ (on_child bound "a|a" (n, selected) (named u "a", record { simple = 1; key = v }), reached (some (1, Set v)))
      -- `:a` X2, read
      ∷ (checker_and_reader k (codes ":a"), judged (X 2) (read_as (pre "" "a")))
      -- `a b` X14, read as ab
      ∷ (checker_and_reader k (codes "a b"), judged (X 14) (read_as (name "ab")))
      -- `*:a` X2, read
      ∷ (checker_and_reader k (codes "*:a"), judged (X 2) (read_as (pre "*" "a")))
      -- `p:a`, p unbound, X11, read
      ∷ (checker_and_reader k (codes "p:a"), judged (X 11) (read_as (pre "p" "a")))
      -- `.//` X7, unread
      ∷ (checker_and_reader k (codes ".//"), judged (X 7) unread)
      -- `a|` X6, unread
      ∷ (checker_and_reader k (codes "a|"), judged (X 6) unread)
      -- selector `@id` X8, unread
      ∷ (checker_and_reader selector (codes "@id"), judged (X 8) unread)
      ∷ []

  pub p-cases : map (λ (c : Case). c.0) cases ≡ map (λ (c : Case). c.1) cases
  unfolding matching on_child checker_and_reader
  p-cases = refl

  eleven : length cases ≡ 11
  eleven = refl
