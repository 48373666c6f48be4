-- A small machine reads words character by character, and every spelled token ends where the machine says that a word may end. So a word is the longest token
-- where no word ends behind it, and a text that isn't words and white space has no tokens: of a written text both are computed.
-- Assumes nothing.
use native.Mathlib.Omega.{arith}
use Prim.Native.Char.{code}
use Prim.Native.String.{String}
use Prim.Native.Nat.{ℕ, ◌≤◌}
use lib.Dec.{eqb}
use lib.ListN.{length, length-append}
use borrow.Author.Tests.{eqb-true, not-true}
use mathlib.Core.Path.{◌≡◌, refl, ap, sym, ◌∙◌}
use mathlib.Core.Bool.{Bool, true, false, cond, not, ◌&&◌, ◌||◌, false≢true, or-false}
use mathlib.Core.List.{List, [], ◌∷◌, ◌++◌, append-nil}
use Rattle.std.proofs.lemmas.Bool.{and_parts, or_left, or_right}
use Rattle.lists.specs.Lists.{all}
use Rattle.characters.specs.Ranges.{in_ranges}
use Rattle.characters.specs.Spaces.{xml_space}
use Rattle.characters.specs.Names.{start_ranges, more_ranges, name_start, name_char}
use Rattle.ncname.specs.NCName.{nc_name}
use Rattle.grammar.specs.Tokens.{Points, NCName, Token, Spells, Longest, Tokens}
use Rattle.grammar.specs.Tokens.Spells.{a-dot, a-slash, two-slashes, two-colons, an-at, a-bar, a-star, a-wildcard, an-ncname, a-qname}
use Rattle.grammar.specs.Tokens.Tokens.{done, space, token}

-- ---- the machine

-- Where it stands: before a word; after '/'; after ':'; in a name; after a name and ':'; in a local name; after a word that can't go on; in no word.
pub data State : Type 0 where
  before slashed coloned named prefixed local_named over lost : State

next : State → ℕ → State
next before c =
    cond (name_start c) named
    (cond (eqb c (code "/")) slashed
    (cond (eqb c (code ":")) coloned
    (cond (eqb c (code ".") || (eqb c (code "@") || (eqb c (code "|") || eqb c (code "*")))) over lost)))
next slashed c = cond (eqb c (code "/")) over lost
next coloned c = cond (eqb c (code ":")) over lost
next named c = cond (name_char c) named (cond (eqb c (code ":")) prefixed lost)
next prefixed c = cond (name_start c) local_named (cond (eqb c (code "*")) over lost)
next local_named c = cond (name_char c) local_named lost
next over c = lost
next lost c = lost

run : State → Points → State
run p [] = p
run p (c ∷ s) = run (next p c) s

-- a word may end here
ends : State → Bool
ends before = false
ends slashed = true
ends coloned = false
ends named = true
ends prefixed = false
ends local_named = true
ends over = true
ends lost = false

-- behind at least one more character a word may end
goes_on : State → Points → Bool
goes_on p [] = false
goes_on p (c ∷ s) = ends (next p c) || goes_on (next p c) s

-- the text is words and white space: the word goes on, or it ends and the next word or white space follows
reads : State → Points → Bool
reads p [] = ends p
reads p (c ∷ s) = reads (next p c) s || (ends p && (reads (next before c) s || (xml_space c && reads over s)))

-- ---- tests

pub never : {A : Type 0} → false ≡ true → A
never e = absurd (false≢true e)

-- ---- every spelled token ends

-- a name leads from p to q and stays there
module _ (p q : State) (starts : (c : ℕ) → name_start c ≡ true → next p c ≡ q) (stays : (c : ℕ) → name_char c ≡ true → next q c ≡ q) where
  chars-run : (m s : Points) → all name_char m ≡ true → run q (m ++ s) ≡ run q s
  unfolding run
  chars-run [] s h = refl
  chars-run (c ∷ m) s h =
      let g = and_parts (name_char c) (all name_char m) h in ap (λ (x : State). run x (m ++ s)) (stays c g.0) ∙ chars-run m s g.1

  ncname-run : (l s : Points) → NCName l → run p (l ++ s) ≡ run q s
  unfolding run nc_name
  ncname-run [] s h = never h
  ncname-run (c ∷ m) s h =
      let g = and_parts (name_start c) (all name_char m) h in ap (λ (x : State). run x (m ++ s)) (starts c g.0) ∙ chars-run m s g.1

name-run : (l s : Points) → NCName l → run before (l ++ s) ≡ run named s
unfolding next
name-run = ncname-run before named (λ c h. rw h) (λ c h. rw h)

local-run : (l s : Points) → NCName l → run prefixed (l ++ s) ≡ run local_named s
unfolding next
local-run = ncname-run prefixed local_named (λ c h. rw h) (λ c h. rw h)

spelled-ends : {t : Token} {w : Points} → Spells t w → ends (run before w) ≡ true
unfolding ends run next name_char name_start start_ranges more_ranges in_ranges
spelled-ends a-dot = refl
spelled-ends a-slash = refl
spelled-ends two-slashes = refl
spelled-ends two-colons = refl
spelled-ends an-at = refl
spelled-ends a-bar = refl
spelled-ends a-star = refl
spelled-ends (a-wildcard {p = p} h) = ap ends (name-run p (58 ∷ 42 ∷ []) h)
spelled-ends (an-ncname {l = l} h) = ap ends (ap (run before) (sym (append-nil l)) ∙ name-run l [] h)
spelled-ends (a-qname {p = p} {l = l} h g) =
    ap ends (name-run p (58 ∷ l) h ∙ (ap (run prefixed) (sym (append-nil l)) ∙ local-run l [] g))

-- ---- the longest word

goes-on : (p : State) (c : ℕ) (v r : Points) → ends (run p (c ∷ v)) ≡ true → goes_on p (c ∷ (v ++ r)) ≡ true
unfolding goes_on run
goes-on p c [] r h = or_left (ends (next p c)) _ h
goes-on p c (d ∷ v) r h = or_right (ends (next p c)) _ (goes-on (next p c) d v r h)

no_longer : (p : State) (v r w s : Points) → ends (run p v) ≡ true → goes_on (run p w) s ≡ false → v ++ r ≡ w ++ s → length v ≤ length w
unfolding run
no_longer p [] r w s h g e = omega arith
no_longer p (c ∷ v) r [] s h g e = never (sym g ∙ (ap (goes_on p) (sym e) ∙ goes-on p c v r h))
no_longer p (c ∷ v) r (d ∷ w) s h g e =
    let same_first : c ≡ d = cc in
    let same_rest : v ++ r ≡ w ++ s = cc in
    let i = no_longer (next p d) v r w s (rw same_first at h) g same_rest in
    omega arith

longest : (w s : Points) → goes_on (run before w) s ≡ false → Longest w s
longest w s g t v r sp e = no_longer before v r w s (spelled-ends sp) g e

-- ---- a text that has tokens is words and white space

lost-reads : (s : Points) (b : Bool) → (reads lost s || b) ≡ true → b ≡ true
unfolding reads ends next
lost-reads [] b h = h
lost-reads (c ∷ s) b h = lost-reads s b (rw (or-false (reads lost s)) at h)

word-reads : (p : State) (w s : Points) → ends (run p w) ≡ true → reads over s ≡ true → reads p (w ++ s) ≡ true
unfolding reads run ends next
word-reads p [] [] h g = h
word-reads p [] (c ∷ s) h g = or_right (reads (next p c) s) _ (rw h (lost-reads s _ g))
word-reads p (c ∷ w) s h g = or_left (reads (next p c) (w ++ s)) _ (word-reads (next p c) w s h g)

tokens-read : {s : Points} {ts : List Token} → Tokens s ts → reads over s ≡ true
unfolding reads run ends
tokens-read done = refl
tokens-read (space {c = c} {s = s} h r) =
    or_right (reads (next over c) s) _ (or_right (reads (next before c) s) _ (rw (h, tokens-read r)))
tokens-read (token {w = []} sp l r) = never (spelled-ends sp)
tokens-read (token {w = c ∷ m} {s = s} sp l r) =
    or_right (reads (next over c) (m ++ s)) _
    (or_left (reads (next before c) (m ++ s)) _ (word-reads (next before c) m s (spelled-ends sp) (tokens-read r)))

-- ---- a text that spells one token is one token

pub spelled-long : {t : Token} (w : Points) → Spells t w → 1 ≤ length w
unfolding run ends
spelled-long [] sp = never (spelled-ends sp)
spelled-long (c ∷ w) sp = omega arith

lost-stays : (s : Points) → run lost s ≡ lost
unfolding run next
lost-stays [] = refl
lost-stays (c ∷ s) = lost-stays s

-- no word begins with white space
space-lost : (c : ℕ) → xml_space c ≡ true → next before c ≡ lost
unfolding next xml_space name_start start_ranges in_ranges
space-lost c h = by (eqb c 0x20) refl (eqb c 0x9) refl (eqb c 0xD) refl h
  where
    is : (d : ℕ) → eqb c d ≡ true → next before d ≡ lost → next before c ≡ lost
    is d e f = ap (next before) (eqb-true c d e) ∙ f

    by : (b₁ : Bool) → eqb c 0x20 ≡ b₁ → (b₂ : Bool) → eqb c 0x9 ≡ b₂ → (b₃ : Bool) → eqb c 0xD ≡ b₃
        → (b₁ || (b₂ || (b₃ || eqb c 0xA))) ≡ true → next before c ≡ lost
    by true e b₂ f b₃ g h = is 0x20 e refl
    by false e true f b₃ g h = is 0x9 f refl
    by false e false f true g h = is 0xD g refl
    by false e false f false g h = is 0xA h refl

no-text : {s : Points} {ts : List Token} → Tokens s ts → length s ≤ 0 → length ts ≡ 0
no-text done h = refl
no-text (space g r) h = absurd (omega arith)
no-text (token {w = w} {s = s} sp l r) h = let i = spelled-long w sp in let j = length-append w s in absurd (omega arith)

pub one_token : {s : Points} {ts : List Token} {t : Token} → Tokens s ts → Spells t s → length ts ≡ 1
unfolding run ends
one_token done sp = never (spelled-ends sp)
one_token (space {c = c} {s = s} h r) sp =
    never (sym (ap ends (ap (λ (p : State). run p s) (space-lost c h) ∙ lost-stays s)) ∙ spelled-ends sp)
one_token {t = t} (token {w = w} {s = s} sp' l r) sp =
    let i = l t (w ++ s) [] sp (append-nil (w ++ s)) in
    let j = length-append w s in
    let k = no-text r (omega arith) in
    omega arith

-- ---- texts in quotes

-- the code points of a quoted text
abbrev pub codes : String → Points
codes = elim [ String.[] ↦ [] | String.◌∷◌ c (s → r) ↦ code c ∷ r ]

-- where s follows it, w begins no longer word
unfoldable pub cut_off : String → String → Bool
unfolding next run ends goes_on name_char name_start start_ranges more_ranges in_ranges
cut_off w s = not (goes_on (run before (codes w)) (codes s))

pub word : {t : Token} {ts : List Token} (w s : String) → Spells t (codes w) → cut_off w s ≡ true → Tokens (codes s) ts
    → Tokens (codes w ++ codes s) (t ∷ ts)
unfolding cut_off
word w s sp h r = token sp (longest (codes w) (codes s) (not-true (goes_on (run before (codes w)) (codes s)) h)) r

-- it is words and white space
unfoldable pub readable : String → Bool
unfolding next run ends reads xml_space name_char name_start start_ranges more_ranges in_ranges
readable s = reads over (codes s)

pub no-tokens : (s : String) → readable s ≡ false → {ts : List Token} → Tokens (codes s) ts → ⊥
unfolding readable
no-tokens s h r = never (sym h ∙ tokens-read r)
