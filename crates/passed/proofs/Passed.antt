-- WHAT PASSES IS READ: a text with no white space but XML's that the checker passes for a kind, the reader reads for that kind. What passes is in the
-- grammar (`checker-meets-grammar`); without its white space it is the bytes of its tokens, and cut at '|' and '/' these are its paths and their steps.
-- Assumes nothing.
use mathlib.Core.Path.{◌≡◌, refl, sym, subst}
use mathlib.Core.Bool.{Bool, true}
use mathlib.Core.List.{List, [], ◌∷◌, ◌++◌, flat_map}
use mathlib.Core.Option.{none, IsSome}
use Rattle.lists.specs.Lists.{all, All}
use Rattle.texts.specs.Texts.{Text, same}
use Rattle.utf8.specs.Utf8.{encode, decode, utf8}
use Rattle.grammar.specs.Tokens.{Points, Token}
use Rattle.grammar.specs.Tokens.Token.{dot, slash, slashes, colons, at, bar, name}
use Rattle.grammar.specs.Paths.{Kind, Path, Expression, InGrammar}
use Rattle.grammar.specs.Paths.Path.{here, anywhere}
use Rattle.grammar.specs.Paths.Expression.{one, or}
use Rattle.grammar.proofs.Words.{never}
use Rattle.reasons.specs.Reasons.{is_field, reason}
use Rattle.reasons.proofs.Tokenizes.{NoBar}
use Rattle.reasons.proofs.Walks.{path-clear}
use Rattle.reasons.proofs.Meets.{checker-meets-grammar}
use Rattle.paths.specs.Reading.{on_some, or_else, every, split_at, on_front, behind, within, test_byte, starts_well, name_test, element_part, part_of, as_part, walk_part, walk_parts, marked, alt_of, read_alt, read_path}
use Rattle.passed.proofs.Spelling.{test_bytes, Sound, tokens-sound, bytes, written, written-append, without-space}
use Rattle.passed.proofs.Cut.{Free, split-whole, split-first, behind-none, map-some, every_one}
use Rattle.passed.proofs.Tests.{test-read}
use Rattle.passed.proofs.Parts.{test-free, steps-read}
use Rattle.lists.proofs.Folds.{All-append, All-parts}

-- ---- an alternative

-- where the parts are read, no './/' stands first: the part between its slashes would be empty, which no test is
descent-unread : (f : Bool) (u : Text) → walk_parts f (split_at 47 (46 ∷ 47 ∷ 47 ∷ u)) ≡ none
unfolding split_at on_front walk_parts walk_part as_part part_of or_else element_part behind same on_some name_test starts_well
descent-unread f u = refl

pub no_descent : (f : Bool) (t : Text) → IsSome (walk_parts f (split_at 47 t)) → behind (46 ∷ 47 ∷ 47 ∷ []) t ≡ none
no_descent f t h = behind-none (46 ∷ 47 ∷ 47 ∷ []) t (λ u e. rw (descent-unread f u) at (subst (λ (s : Text). IsSome (walk_parts f (split_at 47 s))) e h))

here-read : (f : Bool) (t : Text) → IsSome (walk_parts f (split_at 47 t)) → IsSome (read_alt f t)
unfolding read_alt alt_of marked
here-read f t h = rw (no_descent f t h) (map-some _ (walk_parts f (split_at 47 t)) h)

anywhere-read : (f : Bool) (t : Text) → IsSome (walk_parts f (split_at 47 t)) → IsSome (read_alt f (46 ∷ 47 ∷ 47 ∷ t))
unfolding read_alt alt_of behind marked
anywhere-read f t h = map-some _ (walk_parts f (split_at 47 t)) h

path-read : {k : Kind} {ts : List Token} → Path k ts → All Sound ts → IsSome (read_alt (is_field k) (written ts))
unfolding written flat_map encode
path-read {k} (here {s = s} h) a = here-read (is_field k) (written s) (steps-read h a)
path-read {k} (anywhere {s = s} h) a = anywhere-read (is_field k) (written s) (steps-read h a.1.1)

-- ---- no '|' stands in an alternative

token-free : (t : Token) → Sound t → NoBar t → Free 124 (bytes t)
unfolding flat_map encode test_byte within
token-free dot h b = (refl, tt)
token-free slash h b = (refl, tt)
token-free slashes h b = (refl, (refl, tt))
token-free colons h b = (refl, (refl, tt))
token-free at h b = (refl, tt)
token-free bar h b = never (sym b)
token-free (name n) h b = test-free 124 refl (test_bytes n) (test-read n h)

tokens-free : (ts : List Token) → All Sound ts → All NoBar ts → Free 124 (written ts)
unfolding written flat_map
tokens-free [] h b = tt
tokens-free (t ∷ ts) h b = All-append _ (bytes t) (written ts) (token-free t h.0 b.0) (tokens-free ts h.1 b.1)

pub path-free : {k : Kind} {ts : List Token} → Path k ts → All Sound ts → Free 124 (written ts)
path-free {ts = ts} h a = tokens-free ts a (path-clear h)

-- ---- the alternatives

pub bar-between : (s r : List Token) → written (s ++ (bar ∷ r)) ≡ written s ++ (124 ∷ written r)
unfolding written flat_map encode
bar-between s r = written-append s (bar ∷ r)

expression-read : {k : Kind} {ts : List Token} → Expression k ts → All Sound ts → IsSome (every (read_alt (is_field k)) (split_at 124 (written ts)))
unfolding every
expression-read {k} (one {s = s} h) a =
    rw (split-whole 124 (written s) (path-free h a)) (every_one (read_alt (is_field k)) (written s) (path-read h a) [] tt)
expression-read {k} (or {s = s} {r = r} h g) a =
    let b = (All-parts Sound s (bar ∷ r) a).0 in
    let c = (All-parts Sound s (bar ∷ r) a).1 in
    rw (bar-between s r, split-first 124 (written s) (written r) (path-free h b))
    (every_one (read_alt (is_field k)) (written s) (path-read h b) (split_at 124 (written r)) (expression-read g c.1))

-- ---- the theorem

grammar-read : (k : Kind) (t : Text) (ds : List Points) → utf8 t ≡ true → InGrammar k (decode t) ds → IsSome (read_path (is_field k) t)
unfolding read_path
grammar-read k t ds u g = rw (u, without-space t g.spelled) (expression-read g.expression (tokens-sound g.spelled))

-- For every kind, every text in UTF-8 and all declared prefixes.
pub passed-is-read : (k : Kind) (t : Text) (ds : List Points) → utf8 t ≡ true → reason k (decode t) ds ≡ none → IsSome (read_path (is_field k) t)
passed-is-read k t ds u e = grammar-read k t ds u ((checker-meets-grammar k (decode t) ds).0 e)
