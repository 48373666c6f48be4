-- Computed: the entries of a path, and reading them back.
-- Assumes nothing.
use Rattle.std.specs.Prelude.{ℕ, length, take, ◌≡◌, refl, true}
use mathlib.Core.List.{[], ◌∷◌, ◌++◌, map, flat_map}
use Rattle.std.proofs.Math.Option
use Rattle.std.proofs.Math.Option.{none, some}
use Rattle.paths.specs.Examples.{codes, read}
use Rattle.records.specs.Readers.{Bytes, on_read, ◌>>=◌, pass, read_byte, cons_on, read_bytes, times, on_whole, up_to}
use Rattle.path_entries.specs.Entries.{put_prefix, put_local, put_test, put_end, flag_of, put_alt, put_path, read_short, prefix_after, local_from, read_test, end_after, read_alternative, path_in}

-- `.//a/p:*|:b/@c`: two alternatives; the first has `.//`, two steps and no attribute, the second one step and an attribute
abbrev area : Bytes
area = 2 ∷ 1 ∷ 2 ∷ 0 ∷ 1 ∷ 97 ∷ 1 ∷ 1 ∷ 112 ∷ 0 ∷ 0 ∷ 0 ∷ 1 ∷ 1 ∷ 0 ∷ 1 ∷ 98 ∷ 1 ∷ 0 ∷ 1 ∷ 99 ∷ []

entries : Option.map put_path (read true (codes ".//a/p:*|:b/@c")) ≡ some area
unfolding read codes flat_map put_prefix put_local put_test put_end flag_of put_alt put_path
entries = refl

-- read back, whatever stands behind them
back : some (path_in (area ++ (255 ∷ 7 ∷ []))) ≡ read true (codes ".//a/p:*|:b/@c")
unfolding read codes on_read ◌>>=◌ pass read_byte cons_on read_bytes times on_whole up_to read_short prefix_after local_from read_test end_after read_alternative path_in
back = refl

-- of an area that is cut off, the alternatives that are whole
cut : map (λ (n : ℕ). length (path_in (take n area))) (0 ∷ 1 ∷ 10 ∷ 11 ∷ 20 ∷ 21 ∷ []) ≡ 0 ∷ 0 ∷ 0 ∷ 1 ∷ 1 ∷ 2 ∷ []
unfolding on_read ◌>>=◌ pass read_byte cons_on read_bytes times on_whole up_to read_short prefix_after local_from read_test end_after read_alternative path_in
cut = refl

-- ---- each part by itself

-- no prefix, and the prefix ab with its length
no-prefix : put_prefix none ≡ 0 ∷ []
unfolding put_prefix
no-prefix = refl

prefix-with-length : put_prefix (some (97 ∷ 98 ∷ [])) ≡ 1 ∷ 2 ∷ 97 ∷ 98 ∷ []
unfolding put_prefix
prefix-with-length = refl

-- an alternative that ends at an element, `.//`, and no alternative
no-attribute : put_end none ≡ 0 ∷ []
unfolding put_end
no-attribute = refl

descent-marked : flag_of true ≡ 1
unfolding flag_of
descent-marked = refl

alternatives-counted : put_path [] ≡ 0 ∷ []
unfolding put_path flat_map
alternatives-counted = refl

-- a local part of no bytes is `*`
star-back : local_from [] ≡ none
unfolding local_from
star-back = refl
