-- What the walks over names and entries find: what is read from the front of bytes, and the bytes behind it.
-- Assumes nothing.
use Rattle.std.specs.Prelude.{ℕ, ◌*◌, eqb, leb, take, drop, ◌≡◌, Bool, true, false, cond, ◌&&◌, List, [], map}
use Rattle.std.proofs.Math.Option
use Rattle.std.proofs.Math.Option.{Option, none, some}
use Rattle.lists.specs.Lists.{any}
use Rattle.texts.specs.Texts.{Text}
use Rattle.paths.specs.Names.{Name, Attribute}
use Rattle.paths.specs.Matching.{local_fits, fit_all, matches}
use Rattle.paths.specs.Reading.{WrittenTest, WrittenAlt, resolved, step_path_of}
use Rattle.records.specs.Readers.{Bytes, on_read, read_byte, times}
use Rattle.session_spec.specs.Layout.{parts}
use Rattle.path_entries.specs.Entries.{read_short, prefix_after, local_from, read_test, end_after, read_alternative, path_in}
use Rattle.matching.specs.Matched.{name_from}
use Rattle.std.specs.declared.option.Option as code
use Rattle.std.specs.declared.option.Option.TheVariants.{Some, None}
use Rattle.std.proofs.Common.{Bor}
use Rattle.matching.specs.declared.Test.{Test}
use Rattle.matching.specs.declared.Alt.{Alt}

-- ---- names

-- the name with number i, counting from 0
unfoldable pub name_at : ℕ → Bytes → Name
name_at i names = name_from (take 514 (drop (514 * i) names))

-- and n from that one on
unfoldable pub names_from : (i n : ℕ) → Bytes → List Name
names_from i n names = map name_from (parts 514 n (drop (514 * i) names))

-- n steps can take m names: as many, or with `.//` no more. The flag is 0 where there is no `.//`.
abbrev pub may_match : (flag n m : ℕ) → Bool
may_match flag n m = cond (eqb flag 0) (eqb n m) (leb n m)

-- ---- what is read from the front of bytes: nothing, or what was read and the bytes behind it

abbrev pub answered : {A B : Type 0} → (A → B) → code.Option (A × Bor Bytes) → Option (B × Bytes)
answered f None = none
answered f (Some q) = some (f q.0, q.1.now)

-- a text, if there is one
abbrev pub text_of : Bor Text → Text
text_of t = t.now

abbrev pub text_if : code.Option (Bor Text) → Option Text
text_if None = none
text_if (Some t) = some t.now

-- ---- a name test

abbrev pub ShortIn : Bytes → code.Option (Bor Text × Bor Bytes) → Type 0
ShortIn s r = read_short s ≡ answered text_of r

abbrev pub PrefixIn : Bytes → code.Option (code.Option (Bor Text) × Bor Bytes) → Type 0
PrefixIn s r = on_read (read_byte s) prefix_after ≡ answered text_if r

abbrev pub test_of : Test → WrittenTest
test_of t = record { prefix = text_if t.prefix; local = local_from t.local.now }

abbrev pub TestIn : Bytes → code.Option (Test × Bor Bytes) → Type 0
TestIn s r = read_test s ≡ answered test_of r

-- ---- several, and whether names fit them one by one

abbrev pub steps_seen : (find : Text → Option Text) → Bool → List Name → (List WrittenTest × Bytes) → (Bool × Bytes)
steps_seen find live ns q = (live && fit_all (map (resolved find) q.0) ns, q.1)

abbrev pub StepsIn : (find : Text → Option Text) → (live : Bool) → List Name → (n : ℕ) → Bytes → code.Option (Bool × Bor Bytes) → Type 0
StepsIn find live ns n s r = Option.map (steps_seen find live ns) (times n read_test s) ≡ answered (λ (fit : Bool). fit) r

-- ---- an alternative

-- What is seen of it: whether its path matches, and its attribute test.
pub record Seen : Type 0 where
  pub matched : Bool
  pub attr : Option (Option Text)

abbrev pub attr_of : Option WrittenTest → Option (Option Text)
attr_of o = Option.map (λ n. n.local) o

abbrev pub alt_seen : (find : Text → Option Text) → List Name → (WrittenAlt × Bytes) → (Seen × Bytes)
alt_seen find below q = (record { matched = matches (step_path_of find q.0) below; attr = attr_of q.0.attr }, q.1)

abbrev pub attribute_of : code.Option (Bor Text) → Option (Option Text)
attribute_of None = none
attribute_of (Some t) = some (local_from t.now)

abbrev pub seen_of : Alt → Seen
seen_of a = record { matched = a.matched; attr = attribute_of a.attribute }

abbrev pub AltIn : (find : Text → Option Text) → List Name → Bytes → code.Option (Alt × Bor Bytes) → Type 0
AltIn find below s r = Option.map (alt_seen find below) (read_alternative s) ≡ answered seen_of r

-- its end, behind its steps
abbrev pub end_seen : (Option WrittenTest × Bytes) → (Option (Option Text) × Bytes)
end_seen q = (attr_of q.0, q.1)

abbrev pub EndIn : Bytes → code.Option (code.Option (Bor Text) × Bor Bytes) → Type 0
EndIn s r = Option.map end_seen (on_read (read_byte s) end_after) ≡ answered attribute_of r

-- some alternative of the path in the area passes a test of whether its path matches and of its attribute test
unfoldable pub some_seen : (Bool → Option (Option Text) → Bool) → (find : Text → Option Text) → List Name → (area : Bytes) → Bool
some_seen test find below area = any (λ a. test (matches (step_path_of find a) below) (attr_of a.attr)) (path_in area)

-- ---- nodes: an element, or an attribute of it by its name

-- an attribute's key has no say
abbrev pub node_of : (attribute : Bool) → Text → Option Attribute
node_of false name = none
node_of true name = some (record { name = name; key = [] })

-- the same by the name that is asked for, if one is
abbrev pub node_in : code.Option (Bor Text) → Option Attribute
node_in None = node_of false []
node_in (Some name) = node_of true name.now

-- an alternative with this attribute test ends at the element, or at an attribute with this local part
abbrev pub ends : Option (Option Text) → code.Option (Bor Text) → Bool
ends none None = true
ends none (Some local) = false
ends (some t) None = false
ends (some t) (Some local) = local_fits t local.now
