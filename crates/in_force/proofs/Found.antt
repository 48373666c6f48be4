-- `prefixes-found`: of a passed path every prefix is found by the session's look-up. The text that the checker is
-- handed is cut at its spaces into the bound prefixes again, so a prefix that is declared there is one of them, byte for
-- byte.
-- Assumes nothing.
use Prim.Native.Nat.{ℕ}
use lib.Dec.{eqb}
use lib.ListN.{get_elem?}
use mathlib.Core.Path.{◌≡◌, refl, ap, sym, ◌∙◌, subst}
use mathlib.Core.Bool.{Bool, true, false, cond, not}
use mathlib.Core.List.{List, [], ◌∷◌, ◌++◌, map, flat_map, Memᴰ}
use mathlib.Core.Option.{Option, none, some}
use borrow.Author.Tests.{not-true}
use Rattle.std.proofs.lemmas.Bool.{and_parts}
use Rattle.lists.specs.Lists.{all, any, passing, All}
use Rattle.lists.proofs.Folds.{All-append, All-weaken}
use Rattle.lists.proofs.Places.{none_of, each_of, all_true, All-flat_map}
use Rattle.texts.specs.Texts.{Text, same}
use Rattle.texts.proofs.Sameness.{same_refl}
use Rattle.utf8.specs.Utf8.{scalar, encode, decode_from, decode, utf8}
use Rattle.grammar.specs.Tokens.{Points, NCName, NameTest}
use Rattle.grammar.specs.Tokens.NameTest.{star, any_in, local, qualified}
use Rattle.grammar.specs.Paths.{xml, Declared}
use Rattle.reasons.specs.Reasons as reasons
use Rattle.reasons.specs.Reasons.{is_field}
use Rattle.reasons.proofs.Chars.{no_name}
use Rattle.prefixes.specs.Prefixes.{prefixes_of, words_of}
use Rattle.prefixes.proofs.Decoded.{words-are-prefixes}
use Rattle.checker.specs.Answers.Answer.{Pass}
use Rattle.checker.specs.Answers.{kind_byte, checked}
use Rattle.checker.proofs.Meets.{pass-is-taken}
use Rattle.paths.specs.Reading.{WrittenTest, WrittenAlt, or_else, is_nil, on_front, split_at, read_path}
use Rattle.passed.proofs.Cut.{Free}
use Rattle.canonical.specs.Canonical.{joined}
use Rattle.canonical.proofs.Again.{joined-split}
use Rattle.records.specs.Readers.{Bytes}
use Rattle.records.specs.Records.{NsRecord}
use Rattle.session_spec.specs.Definitions.{Definition, Definitions, xml_prefix, xml_namespace, look_up, is_some, uri_of}
use Rattle.session_spec.specs.Session.{World}
use Rattle.session_spec.specs.Runs.{accepted, definitions_of}
use Rattle.calls.specs.Runs.{Run}
use Rattle.in_force.specs.InForce.{bound_prefixes, declared_for, given, alt_prefixes, path_prefixes, no_spaces, all_found}
use Rattle.in_force.proofs.Bindings.{Prefix, run-bound, prefixes-bound}
use Rattle.in_force.proofs.Grammatical.{Known}
use Rattle.in_force.proofs.Passing.{prefix_bytes, Good, GoodEnd, GoodAlt, path-read-good}
use Rattle.in_force.proofs.Theorems.{passed-reason}

-- ---- the words of the text

front_same : (c : ℕ) (ts : List Text) → reasons.on_front c ts ≡ on_front c ts
unfolding reasons.on_front on_front
front_same c [] = refl
front_same c (t ∷ ts) = refl

-- checker and reader cut alike
split-same : (d : ℕ) (t : Text) → reasons.split_at d t ≡ split_at d t
unfolding reasons.split_at split_at
split-same d [] = refl
split-same d (c ∷ t) = rw (split-same d t, front_same c (split_at d t))

-- prefixes without spaces are the text's words
words : (bs : List Text) → is_nil bs ≡ false → All (Free 32) bs → utf8 (joined 32 bs) ≡ true → prefixes_of (joined 32 bs) ≡ map decode bs
words bs n f u = sym (words-are-prefixes (joined 32 bs) u) ∙ (unfold words_of in ap (map decode) (split-same 32 (joined 32 bs) ∙ joined-split 32 bs n f))

-- an empty text has one word, an empty one, and that is no name
empty-word : (p : Points) → NCName p → Memᴰ p (prefixes_of (joined 32 [])) → NCName []
unfolding joined prefixes_of reasons.split_at decode decode_from
empty-word p h (Memᴰ.head e) = subst NCName e h
empty-word p h (Memᴰ.tail k) = elim k [ ]

free-of-spaces : (ts : List Text) → no_spaces ts ≡ true → All (Free 32) ts
unfolding no_spaces
free-of-spaces ts h =
    All-weaken (λ (t : Text). not (any (λ b. eqb b 32) t) ≡ true) (Free 32) (λ t e. none_of (λ b. eqb b 32) t (not-true (any (λ b. eqb b 32) t) e)) ts
    (each_of (λ t. not (any (λ b. eqb b 32) t)) ts h)

-- ---- looking up

-- where one of the bindings has the prefix
bound-found : (p : Points) (bs : List NsRecord) → All Prefix (map (λ b. b.prefix) bs) → Memᴰ p (map decode (map (λ b. b.prefix) bs))
    → is_some (look_up (flat_map encode p) bs) ≡ true
unfolding look_up
bound-found p [] a m = elim m [ ]
bound-found p (b ∷ bs) a (Memᴰ.head e) =
    let u = and_parts (all scalar (decode b.prefix)) (same (flat_map encode (decode b.prefix)) b.prefix) (unfold utf8 in a.0.1) in
    let s : same (flat_map encode p) b.prefix ≡ true = rw e u.1 in
    rw s (unfold is_some in refl)
bound-found p (b ∷ bs) a (Memᴰ.tail m) = by (same (flat_map encode p) b.prefix) (bound-found p bs a.1 m)
  where
    by : (s : Bool) → is_some (look_up (flat_map encode p) bs) ≡ true → is_some (cond s (some b.uri) (look_up (flat_map encode p) bs)) ≡ true
    by true h = unfold is_some in refl
    by false h = h

-- among own and schema-wide ones together
either-found : (p : Text) (bs cs : List NsRecord) → is_some (look_up p (bs ++ cs)) ≡ is_some (or_else (look_up p bs) (look_up p cs))
unfolding look_up
either-found p [] cs = unfold or_else in refl
either-found p (b ∷ bs) cs = by (same p b.prefix) (either-found p bs cs)
  where
    by : (s : Bool) → is_some (look_up p (bs ++ cs)) ≡ is_some (or_else (look_up p bs) (look_up p cs))
        → is_some (cond s (some b.uri) (look_up p (bs ++ cs))) ≡ is_some (or_else (cond s (some b.uri) (look_up p bs)) (look_up p cs))
    by true h = unfold or_else is_some in refl
    by false h = h

module _ (d : Definitions) (c : Definition) (n : ℕ) (fit : All Prefix (bound_prefixes d c n)) (clean : no_spaces (bound_prefixes d c n) ≡ true) (text : utf8 (declared_for d c n) ≡ true) where
  abbrev Found : Text → Type 0
  Found t = is_some (uri_of d c n t) ≡ true

  abbrev bound : List NsRecord
  bound = passing (λ b. eqb b.target n) c.own ++ d.schema

  listed_found : (p : Points) → is_some (look_up (flat_map encode p) bound) ≡ true → Found (flat_map encode p)
  unfolding uri_of
  listed_found p h = by (same (flat_map encode p) xml_prefix)
    where
      by : (s : Bool) → is_some (cond s (some xml_namespace) (or_else (look_up (flat_map encode p) (passing (λ b. eqb b.target n) c.own)) (look_up (flat_map encode p) d.schema))) ≡ true
      by true = unfold is_some in refl
      by false = sym (either-found (flat_map encode p) (passing (λ b. eqb b.target n) c.own) d.schema) ∙ h

  xml-found : Found (flat_map encode xml)
  unfolding uri_of flat_map encode
  xml-found = rw (same_refl xml_prefix) (unfold is_some in refl)

  member-found : (p : Points) → NCName p → Memᴰ p (prefixes_of (declared_for d c n)) → Found (flat_map encode p)
  unfolding declared_for bound_prefixes
  member-found p h m = by bound refl fit clean text m
    where
      by : (bs : List NsRecord) → bound ≡ bs → All Prefix (map (λ b. b.prefix) bs) → no_spaces (map (λ b. b.prefix) bs) ≡ true → utf8 (joined 32 (map (λ b. b.prefix) bs)) ≡ true
          → Memᴰ p (prefixes_of (joined 32 (map (λ b. b.prefix) bs))) → Found (flat_map encode p)
      by [] e a k u m = no_name (empty-word p h m)
      by (b ∷ bs) e a k u m =
          let q = words (map (λ b. b.prefix) (b ∷ bs)) (unfold is_nil in refl) (free-of-spaces (map (λ b. b.prefix) (b ∷ bs)) k) u in
          listed_found p (subst (λ (l : List NsRecord). is_some (look_up (flat_map encode p) l) ≡ true) (sym e) (bound-found p (b ∷ bs) a (subst (Memᴰ p) q m)))

  declared-found : (p : Points) → NCName p → Declared (prefixes_of (declared_for d c n)) p → Found (flat_map encode p)
  declared-found p h (Memᴰ.head e) = subst (λ (q : Points). Found (flat_map encode q)) (sym e) xml-found
  declared-found p h (Memᴰ.tail m) = member-found p h m

  -- ---- the prefix of a test, those of an alternative and of a path

  test-found : (t : NameTest) → Known (prefixes_of (declared_for d c n)) t → All Found (given (prefix_bytes t))
  unfolding given
  test-found star k = tt
  test-found (any_in p) k = (declared-found p k.0 k.1, tt)
  test-found (local l) k = tt
  test-found (qualified p l) k = (declared-found p k.0.0 k.1, tt)

  good-found : (w : WrittenTest) → Good (prefixes_of (declared_for d c n)) w → All Found (given w.prefix)
  good-found w g = subst (λ (o : Option Text). All Found (given o)) (sym g.prefix) (test-found g.test g.known)

  end-given : (o : Option WrittenTest) → GoodEnd (prefixes_of (declared_for d c n)) o → All (Good (prefixes_of (declared_for d c n))) (given o)
  unfolding given
  end-given none g = tt
  end-given (some w) g = (g, tt)

  alt-found : (a : WrittenAlt) → GoodAlt (prefixes_of (declared_for d c n)) a → All Found (alt_prefixes a)
  unfolding alt_prefixes
  alt-found a g =
      All-flat_map (Good (prefixes_of (declared_for d c n))) Found (λ t. given t.prefix) good-found (a.steps ++ given a.attr)
      (All-append (Good (prefixes_of (declared_for d c n))) a.steps (given a.attr) g.steps (end-given a.attr g.attr))

  path-found : (alts : List WrittenAlt) → All (GoodAlt (prefixes_of (declared_for d c n))) alts → all_found d c n alts ≡ true
  unfolding all_found path_prefixes
  path-found alts g =
      all_true (λ p. is_some (uri_of d c n p)) Found (λ p h. h) (flat_map alt_prefixes alts) (All-flat_map (GoodAlt (prefixes_of (declared_for d c n))) Found alt_prefixes alt-found alts g)

-- EVERY PREFIX OF A PASSED PATH IS FOUND, in every run from set-up, where no prefix that is bound for the path holds a
-- space: so each step of it is in the namespace that is bound to the prefix, and not in any.
pub prefixes-found : (begun : World) (xs : List Bytes) (w : World) → Run begun xs w
    → (i : ℕ) (c : Definition) → get_elem? (definitions_of (accepted begun xs)).ids i ≡ some c → (n : ℕ)
    → no_spaces (bound_prefixes (definitions_of (accepted begun xs)) c n) ≡ true
    → (kind : ℕ) (path : Text) → checked kind path (declared_for (definitions_of (accepted begun xs)) c n) ≡ Pass
    → (alts : List WrittenAlt) → read_path (is_field (kind_byte kind)) path ≡ some alts → all_found (definitions_of (accepted begun xs)) c n alts ≡ true
prefixes-found begun xs w r i c e n clean kind path h alts q =
    let d : Definitions = definitions_of (accepted begun xs) in
    let t = pass-is-taken kind path (declared_for d c n) h in
    path-found d c n (prefixes-bound d (run-bound begun xs w r) i c e n).0 clean t.words alts
    (path-read-good (prefixes_of (declared_for d c n)) (kind_byte kind) path t.text (passed-reason kind path (declared_for d c n) h) alts q)
