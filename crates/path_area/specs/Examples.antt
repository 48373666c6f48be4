-- Computed: how much of the area a call may change, and that the longest paths of a constraint fit into 1,024 bytes.
-- Assumes nothing.
use Rattle.std.specs.Prelude.{ℕ, length, replicate, ◌≡◌, refl, false}
use mathlib.Core.List.{List, [], ◌∷◌, ◌++◌, map, flat_map}
use Rattle.std.proofs.Math.Option
use Rattle.std.proofs.Math.Option.{some}
use Rattle.paths.specs.Examples.{read}
use Rattle.records.specs.Readers.{Bytes}
use Rattle.path_entries.specs.Entries.{put_prefix, put_local, put_test, put_end, flag_of, put_alt, put_path}
use Rattle.path_area.specs.Scratch.{Scratched}

-- all of the first 1,024 bytes, and none behind them
all_changed : Scratched (replicate 1024 0 ++ (5 ∷ [])) (replicate 1024 1 ++ (5 ∷ []))
all_changed = record { size = refl; behind = refl }

-- ---- the paths of 255 bytes that the limits allow: one name; seven `|` and sixteen `/`, which is 24 names of 9 or 10 bytes

abbrev three : Bytes
three = replicate 10 97 ++ (47 ∷ (replicate 10 97 ++ (47 ∷ replicate 9 97)))

abbrev longest : List Bytes
longest = replicate 255 97 ∷ (three ++ flat_map (λ (n : ℕ). 124 ∷ three) (replicate 7 0)) ∷ []

-- how many bytes of the area the entries of each take
entries_fit : map (λ (p : Bytes). Option.map (λ alts. length (put_path alts)) (read false p)) longest ≡ some 261 ∷ some 305 ∷ []
unfolding read flat_map put_prefix put_local put_test put_end flag_of put_alt put_path
entries_fit = refl
