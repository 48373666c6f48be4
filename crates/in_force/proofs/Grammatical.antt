-- Name tests of the grammar, with slashes between, are a path of it as they stand: each is the longest token where it
-- stands, since a slash or the end follows.
-- Assumes nothing.
use Prim.Native.Nat.{ℕ, ◌≤◌}
use native.Mathlib.Omega.{arith}
use lib.Dec.{eqb, leb}
use borrow.Author.Tests.{leb-true}
use lib.ListN.{length, drop}
use lib.Seq.{drop_at}
use mathlib.Core.Path.{◌≡◌, refl, ap, sym, ◌∙◌, subst}
use mathlib.Core.Bool.{Bool, true, false, ◌&&◌, ◌||◌}
use mathlib.Core.List.{List, [], ◌∷◌, ◌++◌, flat_map, append-nil}
use mathlib.Core.Option.{Option, none, some}
use Rattle.std.proofs.lemmas.Bool.{and_parts}
use Rattle.utf8.specs.Utf8.{encode, decode, decode_from}
use Rattle.utf8.proofs.Exact.{decode-encoded}
use Rattle.characters.specs.Ranges.{in_ranges}
use Rattle.characters.specs.Spaces.{xml_space}
use Rattle.characters.specs.Names.{start_ranges, more_ranges, name_start, name_char}
use Rattle.characters.proofs.Tables.{start-is-char}
use Rattle.grammar.specs.Tokens.{Points, NCName, NameTest, Token, Tokens}
use Rattle.grammar.specs.Tokens.NameTest.{star, any_in, local, qualified}
use Rattle.grammar.specs.Tokens.Token.{dot, slash, slashes, at, name}
use Rattle.grammar.specs.Tokens.Tokens.{done}
use Rattle.grammar.specs.Paths.{Kind, Steps, Path, TestDeclared, TokenDeclared}
use Rattle.grammar.specs.Paths.Kind.{selector, field}
use Rattle.grammar.specs.Paths.Step.{self, test}
use Rattle.grammar.specs.Paths.AttributeStep.{attr_test}
use Rattle.grammar.specs.Paths.Steps.{last, last_attribute, then}
use Rattle.grammar.specs.Paths.Path.{here, anywhere}
use Rattle.grammar.proofs.Words.{never}
use Rattle.reasons.specs.Reasons.{run_start, run_char, begins, found, slash_first, scan}
use Rattle.reasons.proofs.Chars.{other-than, all_pass, no_name, name-start, name-rest, Stops}
use Rattle.reasons.proofs.Scans.{name-at, wildcard-first, begin-plain, after-local, qname-found, Paired}
use Rattle.reasons.proofs.Tokenizes.{found_first}
use Rattle.passed.proofs.Spelling.{spell_test, SoundTest}
use Rattle.lists.specs.Lists.{All}
use Rattle.lists.proofs.Folds.{All-append}

-- ---- what follows a name test

-- nothing, or a slash
abbrev Behind : Points → Type 0
Behind [] = Unit {0}
Behind (c ∷ s) = c ≡ 47

behind-stops : (r : Points) → Behind r → Stops r
behind-stops [] h = tt
behind-stops (c ∷ r) h = unfold run_char run_start in_ranges in rw h

behind-paired : (r : Points) → Behind r → Paired r
behind-paired [] h = tt
behind-paired (c ∷ r) h = λ e. never (sym (ap (λ (x : ℕ). eqb x 58) h) ∙ e)

-- ---- a name test is found

test-found : (n : NameTest) → SoundTest n → (r : Points) → Behind r → scan (spell_test n ++ r) ≡ found (name n) (length (drop 1 (spell_test n)))
test-found star h r b = unfold scan xml_space in refl
test-found (any_in []) h r b = no_name h
test-found (any_in (c ∷ m)) h r b = begin-plain c m ((m ++ (58 ∷ 42 ∷ [])) ++ r) h ∙ wildcard-first c m r h
test-found (local []) h r b = no_name h
test-found (local (c ∷ m)) h r b =
    begin-plain c m (m ++ r) h ∙ (name-at c m r h (behind-stops r b) ∙ after-local (c ∷ m) (length m) r (behind-paired r b))
test-found (qualified [] l) h r b = no_name h.0
test-found (qualified (c ∷ m) []) h r b = no_name h.1
test-found (qualified (c ∷ m) (d ∷ l)) h r b =
    begin-plain c m ((m ++ (58 ∷ d ∷ l)) ++ r) h.0 ∙ qname-found c m d l r h.0 h.1 (behind-stops r b)

-- its first character, which is no slash
record Starts (n : NameTest) : Type 0 where
  first : ℕ
  more : Points
  is : spell_test n ≡ first ∷ more
  other : eqb first 47 ≡ false

name-first : (c : ℕ) (m : Points) → NCName (c ∷ m) → eqb c 47 ≡ false
unfolding name_start start_ranges in_ranges
name-first c m h = other-than name_start 47 refl c (name-start c m h)

test-starts : (n : NameTest) → SoundTest n → Starts n
test-starts star h = record { first = 42; more = []; is = refl; other = refl }
test-starts (any_in []) h = no_name h
test-starts (any_in (c ∷ m)) h = record { first = c; more = m ++ (58 ∷ 42 ∷ []); is = refl; other = name-first c m h }
test-starts (local []) h = no_name h
test-starts (local (c ∷ m)) h = record { first = c; more = m; is = refl; other = name-first c m h }
test-starts (qualified [] l) h = no_name h.0
test-starts (qualified (c ∷ m) l) h = record { first = c; more = m ++ (58 ∷ l); is = refl; other = name-first c m h.0 }

-- a name test, and tokens behind it
test-tokens : (n : NameTest) → SoundTest n → (r : Points) → Behind r → {ts : List Token} → Tokens r ts → Tokens (spell_test n ++ r) (name n ∷ ts)
test-tokens n h r b {ts} k =
    let s = test-starts n h in
    let e : scan (s.first ∷ (s.more ++ r)) ≡ found (name n) (length s.more) = subst (λ (w : Points). scan (w ++ r) ≡ found (name n) (length (drop 1 w))) s.is (test-found n h r b) in
    let d : drop (length s.more) (s.more ++ r) ≡ r = drop_at s.more r (length s.more) refl in
    subst (λ (w : Points). Tokens (w ++ r) (name n ∷ ts)) (sym s.is)
    (found_first s.first (s.more ++ r) (name n) (length s.more) e (subst (λ (x : Points). Tokens x ts) (sym d) k))

slash-tokens : (c : ℕ) (s : Points) → eqb c 47 ≡ false → {ts : List Token} → Tokens (c ∷ s) ts → Tokens (47 ∷ c ∷ s) (slash ∷ ts)
unfolding scan xml_space slash_first begins
slash-tokens c s h k = found_first 47 (c ∷ s) slash 0 (rw h) k

at-tokens : (s : Points) → {ts : List Token} → Tokens s ts → Tokens (64 ∷ s) (at ∷ ts)
unfolding scan xml_space
at-tokens s k = found_first 64 s at 0 refl k

-- ---- name tests with slashes between, and an attribute test

unfoldable pub tail_points : List NameTest → Option NameTest → Points
tail_points [] none = []
tail_points [] (some n) = 47 ∷ 64 ∷ spell_test n
tail_points (m ∷ ns) o = 47 ∷ (spell_test m ++ tail_points ns o)

unfoldable pub tail_tokens : List NameTest → Option NameTest → List Token
tail_tokens [] none = []
tail_tokens [] (some n) = slash ∷ at ∷ name n ∷ []
tail_tokens (m ∷ ns) o = slash ∷ name m ∷ tail_tokens ns o

unfoldable pub path_points : List NameTest → Option NameTest → Points
path_points [] none = 46 ∷ []
path_points [] (some n) = 64 ∷ spell_test n
path_points (m ∷ ns) o = spell_test m ++ tail_points ns o

unfoldable pub path_tokens : List NameTest → Option NameTest → List Token
path_tokens [] none = dot ∷ []
path_tokens [] (some n) = at ∷ name n ∷ []
path_tokens (m ∷ ns) o = name m ∷ tail_tokens ns o

-- they are sound, and their prefixes declared
abbrev pub Known : List Points → NameTest → Type 0
Known ds n = SoundTest n × TestDeclared ds n

abbrev pub KnownEnd : List Points → Option NameTest → Type 0
KnownEnd ds none = Unit {0}
KnownEnd ds (some n) = Known ds n

module _ (ds : List Points) where
  tail-behind : (ns : List NameTest) (o : Option NameTest) → Behind (tail_points ns o)
  unfolding tail_points
  tail-behind [] none = tt
  tail-behind [] (some n) = refl
  tail-behind (m ∷ ns) o = refl

  alone : (n : NameTest) → SoundTest n → Tokens (spell_test n) (name n ∷ [])
  alone n h = subst (λ (w : Points). Tokens w (name n ∷ [])) (append-nil (spell_test n)) (test-tokens n h [] tt done)

  -- a slash before a name test
  slash-test : (n : NameTest) → SoundTest n → (r : Points) {ts : List Token} → Tokens (spell_test n ++ r) ts → Tokens (47 ∷ (spell_test n ++ r)) (slash ∷ ts)
  slash-test n h r {ts} k =
      let s = test-starts n h in
      subst (λ (w : Points). Tokens (47 ∷ (w ++ r)) (slash ∷ ts)) (sym s.is)
      (slash-tokens s.first (s.more ++ r) s.other (subst (λ (w : Points). Tokens (w ++ r) ts) s.is k))

  tail-tokens : (ns : List NameTest) (o : Option NameTest) → All (Known ds) ns → KnownEnd ds o → Tokens (tail_points ns o) (tail_tokens ns o)
  unfolding tail_points tail_tokens
  tail-tokens [] none a e = done
  tail-tokens [] (some n) a e = slash-tokens 64 (spell_test n) refl (at-tokens (spell_test n) (alone n e.0))
  tail-tokens (m ∷ ns) o a e =
      slash-test m a.0.0 (tail_points ns o) (test-tokens m a.0.0 (tail_points ns o) (tail-behind ns o) (tail-tokens ns o a.1 e))

  pub path-tokens : (ns : List NameTest) (o : Option NameTest) → All (Known ds) ns → KnownEnd ds o → Tokens (path_points ns o) (path_tokens ns o)
  unfolding path_points path_tokens
  path-tokens [] none a e = unfold scan xml_space in found_first 46 [] dot 0 refl done
  path-tokens [] (some n) a e = at-tokens (spell_test n) (alone n e.0)
  path-tokens (m ∷ ns) o a e = test-tokens m a.0.0 (tail_points ns o) (tail-behind ns o) (tail-tokens ns o a.1 e)

  -- ---- a path of the grammar

  abbrev pub InKind : Kind → Option NameTest → Type 0
  InKind selector none = Unit {0}
  InKind selector (some n) = ⊥
  InKind field o = Unit {0}

  last-test : (k : Kind) (m : NameTest) (o : Option NameTest) → InKind k o → Steps k (name m ∷ tail_tokens [] o)
  unfolding tail_tokens
  last-test k m none i = last (test {n = m})
  last-test selector m (some n) i = absurd i
  last-test field m (some n) i = then (test {n = m}) (last_attribute (attr_test {n = n}))

  pub path-steps : (k : Kind) (ns : List NameTest) (o : Option NameTest) → InKind k o → Steps k (path_tokens ns o)
  unfolding path_tokens
  path-steps k [] none i = last self
  path-steps selector [] (some n) i = absurd i
  path-steps field [] (some n) i = last_attribute (attr_test {n = n})
  path-steps k (m ∷ []) o i = last-test k m o i
  path-steps k (m ∷ l ∷ ns) o i = more (path-steps k (l ∷ ns) o i)
    where
      more : Steps k (name l ∷ tail_tokens ns o) → Steps k (name m ∷ tail_tokens (l ∷ ns) o)
      more s = unfold tail_tokens in then (test {n = m}) s

  tail-declared : (ns : List NameTest) (o : Option NameTest) → All (Known ds) ns → KnownEnd ds o → All (TokenDeclared ds) (tail_tokens ns o)
  unfolding tail_tokens
  tail-declared [] none a e = tt
  tail-declared [] (some n) a e = (tt, (tt, (e.1, tt)))
  tail-declared (m ∷ ns) o a e = (tt, (a.0.1, tail-declared ns o a.1 e))

  pub path-declared : (ns : List NameTest) (o : Option NameTest) → All (Known ds) ns → KnownEnd ds o → All (TokenDeclared ds) (path_tokens ns o)
  unfolding path_tokens
  path-declared [] none a e = (tt, tt)
  path-declared [] (some n) a e = (tt, (e.1, tt))
  path-declared (m ∷ ns) o a e = (a.0.1, tail-declared ns o a.1 e)

  -- ---- with './/' before it

  unfoldable pub deep_points : Bool → Points → Points
  deep_points false s = s
  deep_points true s = 46 ∷ 47 ∷ 47 ∷ s

  unfoldable pub deep_tokens : Bool → List Token → List Token
  deep_tokens false ts = ts
  deep_tokens true ts = dot ∷ slashes ∷ ts

  pub deep-tokens : (d : Bool) (s : Points) {ts : List Token} → Tokens s ts → Tokens (deep_points d s) (deep_tokens d ts)
  unfolding deep_points deep_tokens
  deep-tokens false s k = k
  deep-tokens true s k = unfold scan xml_space slash_first begins in found_first 46 (47 ∷ 47 ∷ s) dot 0 refl (found_first 47 (47 ∷ s) slashes 1 refl k)

  pub deep-path : (k : Kind) (d : Bool) {ts : List Token} → Steps k ts → Path k (deep_tokens d ts)
  unfolding deep_tokens
  deep-path k false s = here s
  deep-path k true s = anywhere s

  pub deep-declared : (d : Bool) (ts : List Token) → All (TokenDeclared ds) ts → All (TokenDeclared ds) (deep_tokens d ts)
  unfolding deep_tokens
  deep-declared false ts a = a
  deep-declared true ts a = (tt, (tt, a))

-- ---- encoded and decoded again

in_each : ℕ → List ℕ → Bool
in_each most [] = true
in_each most (low ∷ []) = true
in_each most (low ∷ high ∷ table) = leb high most && in_each most table

-- no code point of a table is above the last end
in-range : (most : ℕ) (table : List ℕ) → in_each most table ≡ true → (c : ℕ) → in_ranges table c ≡ true → c ≤ most
unfolding in_ranges in_each
in-range most [] h c e = never e
in-range most (low ∷ []) h c e = never e
in-range most (low ∷ high ∷ table) h c e =
    let p = and_parts (leb high most) (in_each most table) h in
    by (leb low c && leb c high) refl e (in-range most table p.1 c) (leb-true high most p.0)
  where
    by : (b : Bool) → (leb low c && leb c high) ≡ b → (b || in_ranges table c) ≡ true → (in_ranges table c ≡ true → c ≤ most) → high ≤ most → c ≤ most
    by true q e rec l = let r = leb-true c high (and_parts (leb low c) (leb c high) q).1 in omega arith
    by false q e rec l = rec e

char-small : (c : ℕ) → name_char c ≡ true → c ≤ 0x10FFFF
unfolding name_char name_start
char-small c h = by (in_ranges start_ranges c) refl h
  where
    by : (b : Bool) → in_ranges start_ranges c ≡ b → (b || in_ranges more_ranges c) ≡ true → c ≤ 0x10FFFF
    by true e h = unfold in_each start_ranges in in-range 0x10FFFF start_ranges refl c e
    by false e h = unfold in_each more_ranges in in-range 0x10FFFF more_ranges refl c h

abbrev pub Small : ℕ → Type 0
Small c = c ≤ 0x10FFFF

name-small : (l : Points) → NCName l → All Small l
name-small [] h = no_name h
name-small (c ∷ m) h =
    let s = start-is-char c (name-start c m h) in
    (char-small c s, all_pass name_char Small char-small m (name-rest c m h))

test-small : (n : NameTest) → SoundTest n → All Small (spell_test n)
test-small star h = (omega arith, tt)
test-small (any_in p) h = All-append Small p (58 ∷ 42 ∷ []) (name-small p h) (omega arith, (omega arith, tt))
test-small (local l) h = name-small l h
test-small (qualified p l) h = All-append Small p (58 ∷ l) (name-small p h.0) (omega arith, name-small l h.1)

pub decoded : (ps : Points) → All Small ps → decode (flat_map encode ps) ≡ ps
unfolding flat_map
decoded [] a = unfold decode decode_from in refl
decoded (c ∷ ps) a = decode-encoded c (flat_map encode ps) a.0 ∙ ap (λ (l : Points). c ∷ l) (decoded ps a.1)

tail-small : (ds : List Points) (ns : List NameTest) (o : Option NameTest) → All (Known ds) ns → KnownEnd ds o → All Small (tail_points ns o)
unfolding tail_points
tail-small ds [] none a e = tt
tail-small ds [] (some n) a e = (omega arith, (omega arith, test-small n e.0))
tail-small ds (m ∷ ns) o a e = (omega arith, All-append Small (spell_test m) (tail_points ns o) (test-small m a.0.0) (tail-small ds ns o a.1 e))

pub path-small : (ds : List Points) (ns : List NameTest) (o : Option NameTest) → All (Known ds) ns → KnownEnd ds o → All Small (path_points ns o)
unfolding path_points
path-small ds [] none a e = (omega arith, tt)
path-small ds [] (some n) a e = (omega arith, test-small n e.0)
path-small ds (m ∷ ns) o a e = All-append Small (spell_test m) (tail_points ns o) (test-small m a.0.0) (tail-small ds ns o a.1 e)

pub deep-small : (ds : List Points) (d : Bool) (s : Points) → All Small s → All Small (deep_points ds d s)
unfolding deep_points
deep-small ds false s a = a
deep-small ds true s a = (omega arith, (omega arith, (omega arith, a)))
