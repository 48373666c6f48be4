-- Computed: what a path matches and reaches, from its text and from the names of the open elements as they lie in bytes.
-- Assumes nothing.
use Prim.Native.String.{String}
use Rattle.std.specs.Prelude.{ℕ, take, ◌≡◌, refl, Bool, true, false, cond}
use mathlib.Core.List.{List, [], ◌∷◌, map, flat_map}
use Rattle.std.proofs.Math.Option.{Option, none, some}
use Rattle.texts.specs.Texts.{Text, same}
use Rattle.numbers.specs.Numbers.{two_bytes}
use Rattle.paths.specs.Names.{Name, Attribute, after_colon}
use Rattle.paths.specs.Matching.{space_fits, local_fits, fits, attribute_fits, fit_all, fit_last, matches}
use Rattle.paths.specs.Reading.{WrittenAlt, on_some, resolved, step_path_of, field_alt_of}
use Rattle.paths.specs.Examples.{codes, read}
use Rattle.tree.specs.Cells.{ends_at, reaches, reach}
use Rattle.records.specs.Readers.{Bytes, on_read, ◌>>=◌, pass, read_byte, cons_on, read_bytes, times, on_whole, up_to, put_text}
use Rattle.session_spec.specs.Layout.{parts, pad, put_name}
use Rattle.path_entries.specs.Entries.{put_prefix, put_local, put_test, put_end, flag_of, put_alt, put_path, read_short, prefix_after, local_from, read_test, end_after, read_alternative, path_in}
use Rattle.matching.specs.Matched.{half_text, name_from, names_below, selected_by, reached_by}

-- ---- the area of a path, the open names `r`, `a` and `b`, of which `b` is in the namespace `u`, and `p` bound to `u`

entries_of : Option (List WrittenAlt) → Bytes
entries_of none = []
entries_of (some alts) = put_path alts

unfoldable area_of : String → Bytes
unfolding codes read entries_of flat_map put_prefix put_local put_test put_end flag_of put_alt put_path
area_of t = entries_of (read true (codes t))

abbrev named : String → String → Name
named space local = record { space = codes space; local = codes local }

unfoldable open-names : Bytes
unfolding codes flat_map put_name pad put_text two_bytes
open-names = flat_map put_name (named "" "r" ∷ named "" "a" ∷ named "u" "b" ∷ [])

unfoldable bound : Text → Option Text
unfolding same codes
bound p = cond (same p (codes "p")) (some (codes "u")) none

-- ---- from bytes to an answer; to unfold one of these is to unfold all that it stands on

unfoldable below : (base depth : ℕ) → List Name
unfolding open-names parts half_text name_from names_below
below base depth = names_below base depth open-names

unfoldable chosen : (base depth : ℕ) → String → Bool
unfolding area_of bound below same space_fits local_fits fits fit_all fit_last matches on_some resolved step_path_of on_read ◌>>=◌ pass read_byte cons_on read_bytes times on_whole up_to read_short prefix_after local_from read_test end_after read_alternative path_in selected_by
chosen base depth t = selected_by bound (area_of t) (below base depth)

unfoldable reached_in : (base depth : ℕ) → Bytes → Option Attribute → ℕ
unfolding area_of bound below same after_colon space_fits local_fits fits attribute_fits fit_all fit_last matches on_some resolved step_path_of field_alt_of ends_at reaches reach on_read ◌>>=◌ pass read_byte cons_on read_bytes times on_whole up_to read_short prefix_after local_from read_test end_after read_alternative path_in reached_by
reached_in base depth area node = reached_by bound area (below base depth) node

abbrev called : String → Option Attribute
called t = some (record { name = codes t; key = [] })

-- ---- the names themselves

whole-path : below 0 3 ≡ named "" "r" ∷ named "" "a" ∷ named "u" "b" ∷ []
unfolding below
whole-path = refl

below-the-root : below 1 3 ≡ named "" "a" ∷ named "u" "b" ∷ []
unfolding below
below-the-root = refl

below-itself : below 2 2 ≡ []
unfolding below
below-itself = refl

-- a base that lies deeper has no names below it
below-a-deeper : below 3 2 ≡ []
unfolding below
below-a-deeper = refl

-- ---- selectors

-- the base itself: `.` and `.//.` take the empty path
at-the-base : map (chosen 1 1) ("." ∷ ".//." ∷ "./." ∷ "*" ∷ ".//*" ∷ "r" ∷ []) ≡ true ∷ true ∷ true ∷ false ∷ false ∷ false ∷ []
unfolding chosen
at-the-base = refl

-- `a` below `r`
at-a-child : map (chosen 1 2) ("a" ∷ "./a" ∷ ".//a" ∷ "*" ∷ ".//." ∷ "." ∷ "r" ∷ "r/a" ∷ ".//r/a" ∷ "a/b" ∷ [])
    ≡ true ∷ true ∷ true ∷ true ∷ true ∷ false ∷ false ∷ false ∷ false ∷ false ∷ []
unfolding chosen
at-a-child = refl

-- `b` below `a` below `r`
at-a-grandchild : map (chosen 1 3) ("a/b" ∷ ".//b" ∷ ".//a/b" ∷ "*/*" ∷ ".//." ∷ "a|a/b" ∷ "." ∷ "a" ∷ "b" ∷ ".//a" ∷ "*" ∷ ".//r/a/b" ∷ "a/c|c/b" ∷ [])
    ≡ true ∷ true ∷ true ∷ true ∷ true ∷ true ∷ false ∷ false ∷ false ∷ false ∷ false ∷ false ∷ false ∷ []
unfolding chosen
at-a-grandchild = refl

-- from above the root
from-the-top : map (chosen 0 3) ("r/a/b" ∷ ".//r/a/b" ∷ ".//b" ∷ ".//." ∷ "a/b" ∷ "*/*" ∷ []) ≡ true ∷ true ∷ true ∷ true ∷ false ∷ false ∷ []
unfolding chosen
from-the-top = refl

-- a prefix asks for its namespace, of `*` too; one that is not bound asks for none
with-prefixes : map (chosen 1 3) ("a/p:b" ∷ ".//p:*" ∷ "q:a/q:b" ∷ "p:a/p:b" ∷ "p:*/b" ∷ ".//p:a" ∷ []) ≡ true ∷ true ∷ true ∷ false ∷ false ∷ false ∷ []
unfolding chosen
with-prefixes = refl

-- ---- fields

-- the element is one hit where some alternative ends at it, however many do
at-the-element : map (λ t. reached_in 1 3 (area_of t) none) ("a/b" ∷ "a/b|.//b" ∷ ".//b|a|.//." ∷ "a" ∷ "a/b/@id" ∷ "a/b|a/b/@*" ∷ []) ≡ 1 ∷ 1 ∷ 1 ∷ 0 ∷ 0 ∷ 1 ∷ []
unfolding reached_in
at-the-element = refl

-- and an attribute likewise, by the part behind the last ':'; the test's own prefix has no say
at-an-attribute : map (λ t. reached_in 1 3 (area_of t) (called "x:id")) ("a/b/@id" ∷ "a/b/@*" ∷ "a/b/@p:id" ∷ ".//@id|a/b/@*" ∷ "a/b" ∷ "a/@id" ∷ "a/b/@x" ∷ [])
    ≡ 1 ∷ 1 ∷ 1 ∷ 1 ∷ 0 ∷ 0 ∷ 0 ∷ []
unfolding reached_in
at-an-attribute = refl

at-its-own-attribute : map (λ n. reached_in 2 2 (area_of "@id") (called n)) ("id" ∷ "x:id" ∷ "id:" ∷ "id:x" ∷ "i" ∷ "ids" ∷ []) ≡ 1 ∷ 1 ∷ 0 ∷ 0 ∷ 0 ∷ 0 ∷ []
unfolding reached_in
at-its-own-attribute = refl

-- of an area that is cut off, the alternatives that are whole
cut-off : map (λ n. reached_in 1 3 (take n (area_of ".//b|a/b")) none) (0 ∷ 1 ∷ 6 ∷ 7 ∷ 15 ∷ 16 ∷ []) ≡ 0 ∷ 0 ∷ 0 ∷ 1 ∷ 1 ∷ 1 ∷ []
unfolding reached_in
cut-off = refl
