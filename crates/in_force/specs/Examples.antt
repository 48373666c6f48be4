-- Computed: which prefixes are declared for a path, constraints whose paths pass and constraints with one that does
-- not, a run with a report of kind 6, prefixes that are found, and constraints in canonical spelling.
-- Assumes nothing.
use Rattle.std.specs.Prelude.{ℕ, length, ◌≡◌, refl, Bool, true, false}
use Prim.Native.String.{String}
use Rattle.std.proofs.Common.{arith}
use mathlib.Core.List.{List, [], ◌∷◌, map, flat_map}
use Rattle.std.proofs.Math.Option.{none}
use Rattle.lists.specs.Lists.{all, any, only_if, passing}
use Rattle.texts.specs.Texts.{Text, same}
use Rattle.utf8.specs.Utf8.{scalar, encode, size_of, code_of, decode_from, decode, utf8}
use Rattle.characters.specs.Ranges.{in_ranges}
use Rattle.characters.specs.Spaces.{xml_space}
use Rattle.characters.specs.Names.{start_ranges, more_ranges, name_start, name_char}
use Rattle.ncname.specs.NCName.{nc_name}
use Rattle.reasons.specs.Reasons as reasons
use Rattle.reasons.specs.Reasons.{run_start, run_char, run, begins, slash_first, colon_first, after_prefix, after_name, name_first, scan, tokenize, declares, test_declared, check_prefix, step, steps, descent, validate_path, alternative, alternatives, reason}
use Rattle.prefixes.specs.Prefixes.{prefixes_of}
use Rattle.checker.specs.Answers.{Answer}
use Rattle.checker.specs.Answers.Answer.{Pass, Reason}
use Rattle.checker.specs.Answers.{kind_byte, checked}
use Rattle.paths.specs.Reading.{or_else}
use Rattle.paths.specs.Examples.{codes, read}
use Rattle.records.specs.Readers.{Bytes}
use Rattle.records.specs.Records.{NsRecord}
use Rattle.canonical.specs.Canonical.{prefix_text, local_text, test_text, attribute_text, or_self, part_texts, joined, alt_text, canonical}
use Rattle.session_spec.specs.Definitions.{Definition, Definitions, look_up, is_some, uri_of}
use Rattle.session_spec.specs.Runs.{stored_reports}
use Rattle.session_spec.specs.Computed.{id, ns, es, lent, after_calls}
use Rattle.in_force.specs.InForce.{bound_prefixes, declared_for, FieldsPass, Passes, told_six, given, alt_prefixes, path_prefixes, no_spaces, all_found, spelled_by, canonical_path, canonically}

-- ---- constraints, bindings, and the checker's answer

abbrev binding : ℕ → String → NsRecord
binding target prefix = record { target = target; prefix = codes prefix; uri = codes "u" }

-- a selector, fields, and bindings of its own
abbrev constraint : String → List String → List NsRecord → Definition
constraint selector fields own =
    record { id = record { kind = 0; name = codes "k"; flag = 0; refer = none; selector = codes selector; fields = map codes fields }; own = own }

-- these bindings are schema-wide
abbrev schema : List NsRecord → Definitions
schema bs = record { ids = []; schema = bs; bindings = length bs }

-- to unfold this is to unfold the whole checker
unfoldable answer : ℕ → Text → Text → Answer
unfolding codes flat_map only_if passing same in_ranges xml_space start_ranges more_ranges name_start name_char nc_name run_start run_char run begins slash_first colon_first after_prefix after_name name_first scan tokenize declares test_declared check_prefix step steps descent validate_path alternative alternatives reasons.on_front reasons.split_at reason scalar encode size_of code_of decode_from decode utf8 prefixes_of kind_byte checked bound_prefixes joined declared_for
answer kind path prefixes = checked kind path prefixes

-- ---- the prefixes that are declared

-- its own of this target, then the schema-wide ones
own-then-schema : bound_prefixes (schema (binding 0 "s" ∷ [])) (constraint "." ("." ∷ []) (binding 1 "p" ∷ binding 2 "q" ∷ binding 1 "r" ∷ [])) 1 ≡ map codes ("p" ∷ "r" ∷ "s" ∷ [])
unfolding bound_prefixes passing only_if codes
own-then-schema = refl

one-text : declared_for (schema (binding 0 "s" ∷ [])) (constraint "." ("." ∷ []) (binding 1 "p" ∷ binding 1 "r" ∷ [])) 1 ≡ codes "p r s"
unfolding answer
one-text = refl

none-bound : declared_for (schema []) (constraint "." ("." ∷ []) []) 1 ≡ []
unfolding answer
none-bound = refl

-- ---- all paths pass

-- `p` is bound schema-wide
schema-wide : Passes (schema (binding 0 "p" ∷ [])) (constraint "p:a" ("p:b" ∷ "@p:c" ∷ []) [])
unfolding answer
schema-wide = record { selector = refl; fields = (refl, (refl, tt)) }

-- bound for the selector alone
of-selector : Passes (schema []) (constraint "p:a" ("b" ∷ []) (binding 1 "p" ∷ []))
unfolding answer
of-selector = record { selector = refl; fields = (refl, tt) }

-- bound for the second field alone, whose target is 3
of-second : Passes (schema []) (constraint "a" ("b" ∷ "q:c" ∷ []) (binding 3 "q" ∷ []))
unfolding answer
of-second = record { selector = refl; fields = (refl, (refl, tt)) }

-- `xml` always
xml-bound : Passes (schema []) (constraint "xml:a" ("@xml:lang" ∷ []) [])
unfolding answer
xml-bound = record { selector = refl; fields = (refl, tt) }

-- ---- one of them does not

no-pass : {k : ℕ} → Reason k ≡ Pass → ⊥
no-pass e = let z : ◌≡◌ {A = ℕ} 0 1 = cc in absurd (omega arith)

-- X11: what is bound for a field is not bound for the selector
not-of-selector : Passes (schema []) (constraint "p:a" ("b" ∷ []) (binding 2 "p" ∷ [])) → ⊥
unfolding answer
not-of-selector h = no-pass {k = 11} h.selector

-- X6: the second field is no path
abbrev broken : Definition
broken = constraint "a" ("b" ∷ "c|" ∷ []) []

field-too : Passes (schema []) broken → ⊥
unfolding answer
field-too h = let f : FieldsPass (schema []) broken 2 broken.id.fields = h.fields in no-pass {k = 6} f.1.0

-- X8: an attribute test in a selector, which a field may have
selector-too : Passes (schema []) (constraint "@a" ("@a" ∷ []) []) → ⊥
unfolding answer
selector-too h = no-pass {k = 8} h.selector

-- ---- kind 6 in a run

-- constraint 0 does not read, constraint 1 passes: `p` is bound schema-wide
abbrev opened : List Bytes
opened = id 0 "u" "a|" ("." ∷ []) ∷ id 0 "v" "p:a" ("@p:b" ∷ []) ∷ ns 0 "p" "x" ∷ es "r" (0 ∷ 1 ∷ []) [] ∷ []

unfoldable told : ℕ → List Bytes → Bool
unfolding after_calls stored_reports told_six
told i xs = told_six i (after_calls (lent 128 64 64) xs)

unread-told : told 0 opened ≡ true
unfolding told
unread-told = refl

passed-not-told : told 1 opened ≡ false
unfolding told
passed-not-told = refl

-- ---- the prefixes of a path

unfoldable prefixes : Bool → String → List Text
unfolding read given alt_prefixes path_prefixes
prefixes field s = flat_map path_prefixes (given (read field (codes s)))

of_steps : prefixes false "p:a/b/q:*|*" ≡ map codes ("p" ∷ "q" ∷ [])
unfolding prefixes
of_steps = refl

of-attribute : prefixes true "p:a/@r:b" ≡ map codes ("p" ∷ "r" ∷ [])
unfolding prefixes
of-attribute = refl

-- each prefix of this field, the first one, is found
unfoldable found : Definitions → Definition → String → Bool
unfolding prefixes all_found uri_of look_up or_else is_some
found d c s = all (all_found d c 2) (given (read true (codes s)))

found_all : map (found (schema (binding 0 "s" ∷ [])) (constraint "." [] (binding 2 "p" ∷ binding 1 "q" ∷ []))) ("p:a/xml:b/@s:c" ∷ "p:a/q:b" ∷ [])
    ≡ true ∷ false ∷ []
unfolding found
found_all = refl

no-space : map no_spaces (map (map codes) (("p" ∷ "" ∷ []) ∷ ("p" ∷ "q r" ∷ []) ∷ [])) ≡ true ∷ false ∷ []
unfolding no_spaces codes
no-space = refl

-- WHY NO BOUND PREFIX MAY HOLD A SPACE there: with `p q` bound the text declares `p` and `q`, and `p:a` passes; but the
-- session has no `p`
abbrev spaced : Definition
spaced = constraint "." ("p:a" ∷ []) (binding 2 "p q" ∷ [])

spaced-passes : Passes (schema []) spaced
unfolding answer
spaced-passes = record { selector = refl; fields = (refl, tt) }

spaced-not-found : found (schema []) spaced "p:a" ≡ false
unfolding found
spaced-not-found = refl

-- ---- in canonical spelling

unfoldable respelt : Definition → Text × List Text
unfolding read prefix_text local_text test_text attribute_text or_self part_texts joined alt_text canonical spelled_by canonical_path canonically
respelt c = ((canonically c).id.selector, (canonically c).id.fields)

both-kinds : respelt (constraint ". / child::p:a" ("./@id" ∷ "attribute::b" ∷ []) []) ≡ (codes "p:a", map codes ("@id" ∷ "@b" ∷ []))
unfolding respelt codes
both-kinds = refl

-- an attribute test in a selector is not read: it stays
selector-stays : (respelt (constraint "./@id" [] [])).0 ≡ codes "./@id"
unfolding respelt codes
selector-stays = refl

-- nor is an empty alternative
field-stays : (respelt (constraint "." ("./a|" ∷ []) [])).1 ≡ codes "./a|" ∷ []
unfolding respelt codes
field-stays = refl

bindings-stay : (canonically (constraint "./a" [] (binding 1 "p" ∷ []))).own ≡ binding 1 "p" ∷ []
unfolding canonically
bindings-stay = refl
