-- `words-are-prefixes`: of UTF-8 it makes no difference whether a text is cut at spaces first or decoded first. By induction over the encodings of which the text
-- consists: no byte of an encoding is a space but that of U+0020, so the others all go to the front of one word, which is read as one character more.
-- Assumes nothing.
use Prim.Native.Nat.{ℕ, ◌≤◌}
use native.Mathlib.Omega.{arith}
use lib.Dec.{eqb, leb, ltb}
use borrow.Author.Tests.{ne_eqb, eqb-true, eqb-false, leb-true}
use mathlib.Core.Path.{◌≡◌, refl, ap, sym, ◌∙◌}
use mathlib.Core.Bool.{Bool, true, false, cond}
use mathlib.Core.List.{List, [], ◌∷◌, ◌++◌, map}
use Rattle.std.proofs.lemmas.Bool.{and_parts}
use Rattle.lists.specs.Lists.{all, All}
use Rattle.texts.specs.Texts.{Text}
use Rattle.utf8.specs.Utf8.{encode, Encodes, code_of, decode_from, decode, utf8}
use Rattle.utf8.specs.Utf8.Encodes.{nothing, next}
use Rattle.utf8.specs.Front.{tail}
use Rattle.utf8.proofs.Encoding.{Encoding, encoding, code_one, scalar-most}
use Rattle.utf8.proofs.Exact.{decode-encoded, passed-encodes}
use Rattle.grammar.specs.Tokens.{Points}
use Rattle.reasons.specs.Reasons.{on_front, split_at}
use Rattle.prefixes.specs.Prefixes.{prefixes_of, words_of}

-- ---- a text has a first word

record Cut (s : Text) : Type 0 where
  first : Text
  others : List Text
  are : split_at 32 s ≡ first ∷ others

cut : (s : Text) → Cut s
unfolding split_at on_front
cut [] = record { first = []; others = []; are = refl }
cut (b ∷ s) = by (eqb b 32) refl (cut s)
  where
    by : (t : Bool) → eqb b 32 ≡ t → Cut s → Cut (b ∷ s)
    by true e k = record { first = []; others = split_at 32 s; are = rw e }
    by false e k = record { first = b ∷ k.first; others = k.others; are = rw (e, k.are) }

-- ---- bytes that are no spaces

abbrev NoSpace : ℕ → Type 0
NoSpace b = b ≡ 32 → ⊥

-- they go to the front of the first word
cut-behind : (e s w : Text) (ws : List Text) → All NoSpace e → split_at 32 s ≡ w ∷ ws → split_at 32 (e ++ s) ≡ (e ++ w) ∷ ws
unfolding split_at on_front
cut-behind [] s w ws a q = q
cut-behind (b ∷ e) s w ws a q = rw (ne_eqb b 32 a.0, cut-behind e s w ws a.1 q)

tails-no-space : (e : Text) → all tail e ≡ true → All NoSpace e
unfolding tail
tails-no-space [] h = tt
tails-no-space (b ∷ e) h =
    let p = and_parts (tail b) (all tail e) h in
    let q = and_parts (leb 0x80 b) (ltb b 0xC0) p.0 in
    (λ z. let k = leb-true 0x80 b q.0 in omega arith, tails-no-space e p.1)

-- a first byte that is a space is the whole of U+0020
encoding-no-space : (c : ℕ) → c ≤ 0x10FFFF → NoSpace c → All NoSpace (encode c)
encoding-no-space c h k = by (encode c) (encoding c h)
  where
    by : (e : Text) → Encoding c e → All NoSpace e
    by [] f = tt
    by (b ∷ e) f = (λ z. let q : code_of b (e ++ []) ≡ c = f.reads [] in let r = code_one b (e ++ []) (omega arith) in k (sym q ∙ r ∙ z), tails-no-space e f.tails)

-- ---- one character more

-- what cutting does with it
abbrev before : ℕ → List Points → List Points
before c ps = cond (eqb c 32) ([] ∷ ps) (on_front c ps)

space-next : (s : Text) → map decode (split_at 32 (encode 32 ++ s)) ≡ [] ∷ map decode (split_at 32 s)
unfolding split_at encode decode decode_from
space-next s = refl

other-next : (c : ℕ) (s : Text) → c ≤ 0x10FFFF → NoSpace c → map decode (split_at 32 (encode c ++ s)) ≡ on_front c (map decode (split_at 32 s))
unfolding on_front
other-next c s h k =
    let f = cut s in
    ap (map decode) (cut-behind (encode c) s f.first f.others (encoding-no-space c h k) f.are)
    ∙ rw (f.are, decode-encoded c f.first h)

words-next : (c : ℕ) (s : Text) → c ≤ 0x10FFFF → map decode (split_at 32 (encode c ++ s)) ≡ before c (map decode (split_at 32 s))
words-next c s h = by (eqb c 32) refl
  where
    by : (t : Bool) → eqb c 32 ≡ t → map decode (split_at 32 (encode c ++ s)) ≡ cond t ([] ∷ map decode (split_at 32 s)) (on_front c (map decode (split_at 32 s)))
    by true e = ap (λ (x : ℕ). map decode (split_at 32 (encode x ++ s))) (eqb-true c 32 e) ∙ space-next s
    by false e = other-next c s h (eqb-false c 32 e)

words-of-encoded : {s : Text} {cs : List ℕ} → Encodes s cs → map decode (split_at 32 s) ≡ split_at 32 cs
unfolding split_at decode decode_from
words-of-encoded nothing = refl
words-of-encoded (next {c = c} {s = s} k e) = words-next c s (scalar-most c k) ∙ ap (before c) (words-of-encoded e)

pub words-are-prefixes : (s : Text) → utf8 s ≡ true → words_of s ≡ prefixes_of s
unfolding words_of prefixes_of
words-are-prefixes s u = words-of-encoded (passed-encodes s u)
