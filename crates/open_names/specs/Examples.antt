-- Computed: local parts, a name written into a place of an area, and what is read as a name.
-- Assumes nothing.
use Prim.Native.String.{String}
use Rattle.std.specs.Prelude.{drop, replicate, ◌≡◌, refl, true, false, [], ◌∷◌, ◌++◌, map}
use Rattle.std.proofs.Math.Option.{some}
use Rattle.lists.specs.Lists.{put}
use Rattle.texts.specs.Texts.{Text, same}
use Rattle.numbers.specs.Numbers.{two_bytes}
use Rattle.paths.specs.Names.{Name, after_colon, name_of}
use Rattle.paths.specs.Reading.{on_some, every}
use Rattle.paths.specs.Examples.{codes}
use Rattle.records.specs.Readers.{Bytes, on_read, ◌>>=◌, pass, read_byte, read_two, cons_on, read_bytes, read_text, put_text}
use Rattle.session_spec.specs.Definitions.{is_some}
use Rattle.session_spec.specs.Layout.{parts, pad, put_name, text_in, name_in}
use Rattle.open_names.specs.OpenNames.{short, with_name}

-- ---- the part after the last ':'

local-parts : map (λ (s : String). after_colon (codes s)) ("a" ∷ "p:a" ∷ "p:q:ab" ∷ ":a" ∷ "a:" ∷ "" ∷ []) ≡ map codes ("a" ∷ "a" ∷ "ab" ∷ "a" ∷ "" ∷ "" ∷ [])
unfolding codes after_colon
local-parts = refl

-- ---- a name in its place

-- two places and a half, with sevens in them
abbrev area : Bytes
area = replicate 1285 7

abbrev name : Name
name = name_of (codes "u") (codes "p:ab")

-- behind the first: a length and a text, zeros to the half; a length and a text, zeros to the end. The rest is as it was.
written : with_name area 1 name
    ≡ replicate 514 7 ++ ((1 ∷ 0 ∷ 117 ∷ replicate 254 0) ++ ((2 ∷ 0 ∷ 97 ∷ 98 ∷ replicate 253 0) ++ replicate 257 7))
unfolding codes after_colon name_of two_bytes put_text pad put_name put short with_name
written = refl

-- with no place for it, or with a text of 256 bytes, nothing is written
abbrev long : Text
long = replicate 256 97

unwritten : map (same area) (with_name area 2 name ∷ with_name area 0 (name_of long (codes "a")) ∷ with_name area 0 (name_of [] long) ∷ with_name area 0 name ∷ []) ≡ true ∷ true ∷ true ∷ false ∷ []
unfolding codes after_colon name_of two_bytes put_text pad put_name put short with_name same
unwritten = refl

-- a text of 255 bytes fills its half
full : drop 257 (with_name (replicate 514 7) 0 (name_of (replicate 255 98) (replicate 255 97))) ≡ 255 ∷ 0 ∷ replicate 255 97
unfolding after_colon name_of two_bytes put_text pad put_name put short with_name
full = refl

-- ---- what is read

-- the name that was written, behind another one
read_again : every name_in (parts 514 2 (with_name (with_name area 0 (name_of [] (codes "r"))) 1 name)) ≡ some (name_of [] (codes "r") ∷ name ∷ [])
unfolding codes after_colon name_of two_bytes put_text pad put_name put short with_name name_in text_in parts every on_some on_read ◌>>=◌ pass read_byte read_two cons_on read_bytes read_text
read_again = refl

-- the length and the bytes of a text must lie in its half
halves-read : map (λ (xs : Bytes). is_some (text_in xs)) ([] ∷ (0 ∷ []) ∷ (0 ∷ 0 ∷ []) ∷ (2 ∷ 0 ∷ 97 ∷ []) ∷ (2 ∷ 0 ∷ 97 ∷ 98 ∷ []) ∷ (255 ∷ 0 ∷ replicate 255 97) ∷ (0 ∷ 1 ∷ replicate 255 97) ∷ [])
    ≡ false ∷ false ∷ true ∷ false ∷ true ∷ true ∷ false ∷ []
unfolding is_some text_in on_some on_read ◌>>=◌ pass read_byte read_two cons_on read_bytes read_text
halves-read = refl

names-read : map (λ (xs : Bytes). is_some (name_in xs)) (replicate 514 0 ∷ replicate 259 0 ∷ replicate 258 0 ∷ (replicate 257 0 ++ replicate 257 1) ∷ (0 ∷ 1 ∷ replicate 512 0) ∷ [])
    ≡ true ∷ true ∷ false ∷ false ∷ false ∷ []
unfolding is_some name_in text_in on_some on_read ◌>>=◌ pass read_byte read_two cons_on read_bytes read_text
names-read = refl
