-- What `scan` finds is spelled as the grammar says and is the longest token, and a token that is spelled so is found. By cases on the first
-- character, and for names by the run. No two tokens are compared: a spelled token is never longer than what `scan` finds there.
-- Assumes nothing.
use native.Mathlib.Omega.{arith}
use Prim.Native.Nat.{ℕ, suc, ◌+◌, ◌≤◌}
use lib.Dec.{eqb}
use lib.ListN.{length, take, drop, length-append, take-append-drop}
use lib.Seq.{length-take-le, take_at, drop_at}
use borrow.Author.Tests.{eqb-true, not-false}
use mathlib.Core.Path.{◌≡◌, refl, ap, sym, ◌∙◌}
use mathlib.Core.Bool.{Bool, true, false, cond, not, ◌&&◌}
use mathlib.Core.List.{List, [], ◌∷◌, ◌++◌, append_assoc}
use Rattle.std.proofs.lemmas.Bool.{false_from_ne_true, both_ways}
use Rattle.lists.proofs.Lists.{bool-ext}
use Rattle.characters.specs.Ranges.{in_ranges}
use Rattle.characters.specs.Spaces.{xml_space}
use Rattle.characters.specs.Names.{start_ranges, more_ranges, name_start, name_char}
use Rattle.characters.proofs.Tables.{start-is-char}
use Rattle.ncname.specs.NCName.{nc_name}
use Rattle.grammar.specs.Tokens.{Points, NCName, Token, Spells, Longest, Tokens}
use Rattle.grammar.specs.Tokens.NameTest.{star, any_in, local, qualified}
use Rattle.grammar.specs.Tokens.Token.{dot, slash, slashes, colons, at, bar, name}
use Rattle.grammar.specs.Tokens.Spells.{a-dot, a-slash, two-slashes, two-colons, an-at, a-bar, a-star, a-wildcard, an-ncname, a-qname}
use Rattle.grammar.specs.Tokens.Tokens.{done, space, token}
use Rattle.grammar.proofs.Words.{never}
use Rattle.reasons.specs.Reasons.{X2-stray-colon, X3-no-NCName, X4-dangling-colon, X5-character, run_start, run_char, run, begins, gap, found, fault, slash_first, colon_first, after_prefix, after_name, name_first, scan}
use Rattle.reasons.proofs.Chars.{other-than, start-runs, no_name, name-start, name-rest, name-longer, run-covers, Stops, run_is, run_fits}

-- ---- white space

-- a test that fails at XML's four fails at each of them
pub space-four : (c : ℕ) → xml_space c ≡ true → (p : ℕ → Bool) → p 32 ≡ false → p 9 ≡ false → p 13 ≡ false → p 10 ≡ false → p c ≡ false
unfolding xml_space
space-four c h p a b d e =
    false_from_ne_true (p c) (λ i. never (sym (rw (other-than p 32 a c i, other-than p 9 b c i, other-than p 13 d c i, other-than p 10 e c i)) ∙ h))

-- ---- the word that is found

-- the text c ∷ s begins with a word that spells t and has n characters after c
pub record Word (c : ℕ) (s : Points) (t : Token) (n : ℕ) : Type 0 where
  pub more : Points
  pub rest : Points
  pub parts : more ++ rest ≡ s
  pub size : length more ≡ n
  pub spells : Spells t (c ∷ more)

token-is : {t u : Token} {m n : ℕ} → found t m ≡ found u n → t ≡ u
token-is e = cc

size_is : {t u : Token} {m n : ℕ} → found t m ≡ found u n → m ≡ n
size_is e = cc

no-fault : {A : Type 0} {k n : ℕ} {t : Token} → fault k ≡ found t n → A
no-fault e = let z : ◌≡◌ {A = ℕ} 0 1 = cc in absurd (omega arith)

no_gap : {A : Type 0} {n : ℕ} {t : Token} → gap ≡ found t n → A
no_gap e = let z : ◌≡◌ {A = ℕ} 0 1 = cc in absurd (omega arith)

word_of : (c : ℕ) (m r : Points) (t : Token) → Spells t (c ∷ m) → {u : Token} {n : ℕ} → found t (length m) ≡ found u n → Word c (m ++ r) u n
word_of c m r t p e = record { more = m; rest = r; parts = refl; size = size_is e; spells = rw (sym (token-is e)) p }

word-eq : (c : ℕ) (s m r : Points) (t : Token) (n : ℕ) → m ++ r ≡ s → length m ≡ n → Spells t (c ∷ m) → {u : Token} {k : ℕ}
    → found t n ≡ found u k → Word c s u k
word-eq c s m r t n e l p f = record { more = m; rest = r; parts = e; size = l ∙ size_is f; spells = rw (sym (token-is f)) p }

slash-word : (s : Points) {t : Token} {n : ℕ} → slash_first s ≡ found t n → Word 47 s t n
unfolding slash_first begins
slash-word [] e = word_of 47 [] [] slash a-slash e
slash-word (d ∷ s) e = by (eqb d 47) refl e
  where
    by : (b : Bool) → eqb d 47 ≡ b → {t : Token} {n : ℕ} → cond b (found slashes 1) (found slash 0) ≡ found t n → Word 47 (d ∷ s) t n
    by true h e = rw (eqb-true d 47 h) (word_of 47 (47 ∷ []) s slashes two-slashes e)
    by false h e = word_of 47 [] (d ∷ s) slash a-slash e

colon-word : (s : Points) {t : Token} {n : ℕ} → colon_first s ≡ found t n → Word 58 s t n
unfolding colon_first begins
colon-word [] e = no-fault e
colon-word (d ∷ s) e = by (eqb d 58) refl e
  where
    by : (b : Bool) → eqb d 58 ≡ b → {t : Token} {n : ℕ} → cond b (found colons 1) (fault X2-stray-colon) ≡ found t n → Word 58 (d ∷ s) t n
    by true h e = rw (eqb-true d 58 h) (word_of 58 (58 ∷ []) s colons two-colons e)
    by false h e = no-fault e

length_run : (s : Points) → length (take (run s) s) ≡ run s
length_run s = length-take-le (run s) s (run_fits s)

prefix-word : (c : ℕ) (m : Points) → NCName (c ∷ m) → (s : Points) {t : Token} {n : ℕ}
    → after_prefix (c ∷ m) (length m) s ≡ found t n → Word c (m ++ (58 ∷ s)) t n
unfolding after_prefix
prefix-word c m p [] e = no-fault e
prefix-word c m p (d ∷ s) e = by (eqb d 42) refl (run_start d) (nc_name (d ∷ take (run s) s)) refl e
  where
    by : (b₁ : Bool) → eqb d 42 ≡ b₁ → (b₂ b₃ : Bool) → nc_name (d ∷ take (run s) s) ≡ b₃ → {t : Token} {n : ℕ}
        → cond b₁ (found (name (any_in (c ∷ m))) (length m + 2))
        (cond b₂ (cond b₃ (found (name (qualified (c ∷ m) (d ∷ take (run s) s))) (length m + 2 + run s)) (fault X3-no-NCName)) (fault X4-dangling-colon))
        ≡ found t n
        → Word c (m ++ (58 ∷ d ∷ s)) t n
    by true h b₂ b₃ g e =
        rw (eqb-true d 42 h)
        (word-eq c (m ++ (58 ∷ 42 ∷ s)) (m ++ (58 ∷ 42 ∷ [])) s (name (any_in (c ∷ m))) (length m + 2)
        (append_assoc m (58 ∷ 42 ∷ []) s) (length-append m (58 ∷ 42 ∷ [])) (a-wildcard p) e)
    by false h true true g e =
        word-eq c (m ++ (58 ∷ d ∷ s)) (m ++ (58 ∷ d ∷ take (run s) s)) (drop (run s) s) (name (qualified (c ∷ m) (d ∷ take (run s) s))) (length m + 2 + run s)
        (append_assoc m (58 ∷ d ∷ take (run s) s) (drop (run s) s) ∙ ap (λ (l : Points). m ++ (58 ∷ d ∷ l)) (take-append-drop (run s) s))
        (let k = length-append m (58 ∷ d ∷ take (run s) s) in let j = length_run s in omega arith)
        (a-qname p g) e
    by false h true false g e = no-fault e
    by false h false b₃ g e = no-fault e

after-word : (c : ℕ) (m : Points) → NCName (c ∷ m) → (r : Points) {t : Token} {n : ℕ}
    → after_name (c ∷ m) (length m) r ≡ found t n → Word c (m ++ r) t n
unfolding after_name
after-word c m p [] e = word_of c m [] (name (local (c ∷ m))) (an-ncname p) e
after-word c m p (d ∷ s) e = by (eqb d 58) refl (begins 58 s) e
  where
    by : (b₁ : Bool) → eqb d 58 ≡ b₁ → (b₂ : Bool) → {t : Token} {n : ℕ}
        → cond (b₁ && not b₂) (after_prefix (c ∷ m) (length m) s) (found (name (local (c ∷ m))) (length m)) ≡ found t n
        → Word c (m ++ (d ∷ s)) t n
    by true h true e = word_of c m (d ∷ s) (name (local (c ∷ m))) (an-ncname p) e
    by true h false e = rw (eqb-true d 58 h) (prefix-word c m p s e)
    by false h b₂ e = word_of c m (d ∷ s) (name (local (c ∷ m))) (an-ncname p) e

name-word : (c : ℕ) (s : Points) {t : Token} {n : ℕ} → name_first c s ≡ found t n → Word c s t n
unfolding name_first
name-word c s e = by (nc_name (c ∷ take (run s) s)) refl e
  where
    by : (b : Bool) → nc_name (c ∷ take (run s) s) ≡ b → {t : Token} {n : ℕ}
        → cond b (after_name (c ∷ take (run s) s) (run s) (drop (run s) s)) (fault X3-no-NCName) ≡ found t n → Word c s t n
    by true h {t} {n} e =
        rw (take-append-drop (run s) s) at
        (after-word c (take (run s) s) h (drop (run s) s)
        (ap (λ (k : ℕ). after_name (c ∷ take (run s) s) k (drop (run s) s)) (length_run s) ∙ e))
    by false h e = no-fault e

pub scan-word : (c : ℕ) (s : Points) {t : Token} {n : ℕ} → scan (c ∷ s) ≡ found t n → Word c s t n
unfolding scan
scan-word c s e = by (xml_space c) (eqb c 47) refl (eqb c 58) refl (eqb c 64) refl (eqb c 42) refl (eqb c 46) refl (run_start c) e
  where
    by : (b₀ b₁ : Bool) → eqb c 47 ≡ b₁ → (b₂ : Bool) → eqb c 58 ≡ b₂ → (b₃ : Bool) → eqb c 64 ≡ b₃ → (b₄ : Bool) → eqb c 42 ≡ b₄
        → (b₅ : Bool) → eqb c 46 ≡ b₅ → (b₆ : Bool) {t : Token} {n : ℕ}
        → cond b₀ gap (cond b₁ (slash_first s) (cond b₂ (colon_first s) (cond b₃ (found at 0) (cond b₄ (found (name star) 0) (cond b₅ (found dot 0)
        (cond b₆ (name_first c s) (fault X5-character)))))))
        ≡ found t n
        → Word c s t n
    by true b₁ h₁ b₂ h₂ b₃ h₃ b₄ h₄ b₅ h₅ b₆ e = no_gap e
    by false true h₁ b₂ h₂ b₃ h₃ b₄ h₄ b₅ h₅ b₆ e = rw (eqb-true c 47 h₁) (slash-word s e)
    by false false h₁ true h₂ b₃ h₃ b₄ h₄ b₅ h₅ b₆ e = rw (eqb-true c 58 h₂) (colon-word s e)
    by false false h₁ false h₂ true h₃ b₄ h₄ b₅ h₅ b₆ e = rw (eqb-true c 64 h₃) (word_of 64 [] s at an-at e)
    by false false h₁ false h₂ false h₃ true h₄ b₅ h₅ b₆ e = rw (eqb-true c 42 h₄) (word_of 42 [] s (name star) a-star e)
    by false false h₁ false h₂ false h₃ false h₄ true h₅ b₆ e = rw (eqb-true c 46 h₅) (word_of 46 [] s dot a-dot e)
    by false false h₁ false h₂ false h₃ false h₄ false h₅ true e = name-word c s e
    by false false h₁ false h₂ false h₃ false h₄ false h₅ false e = no-fault e

-- ---- a name where it stands first

begin-scan : (c : ℕ) (s : Points) → name_start c ≡ true → scan (c ∷ s) ≡ cond (xml_space c) gap (name_first c s)
unfolding scan name_start start_ranges in_ranges
begin-scan c s h =
    let p = other-than name_start in
    rw (p 47 refl c h, p 58 refl c h, p 64 refl c h, p 42 refl c h, p 46 refl c h, start-runs c h)

pub name-at : (c : ℕ) (m r : Points) → NCName (c ∷ m) → Stops r → name_first c (m ++ r) ≡ after_name (c ∷ m) (length m) r
unfolding name_first
name-at c m r p h = rw (run_is m r (name-rest c m p) h, take_at m r (length m) refl, drop_at m r (length m) refl, p)

colon-at : (p : Points) (n d : ℕ) (s : Points) → eqb d 58 ≡ false → after_name p n (58 ∷ d ∷ s) ≡ after_prefix p n (d ∷ s)
unfolding after_name begins
colon-at p n d s h = rw h

local_at : (p : Points) (n d : ℕ) (m : Points) → name_start d ≡ true
    → after_prefix p n (d ∷ m) ≡ cond (nc_name (d ∷ take (run m) m)) (found (name (qualified p (d ∷ take (run m) m))) (n + 2 + run m)) (fault X3-no-NCName)
unfolding after_prefix name_start start_ranges in_ranges
local_at p n d m h = rw (other-than name_start 42 refl d h, start-runs d h)

-- ---- no token is longer than the one that is found

prefix-reach : (p : Points) (k : ℕ) (s : Points) {t : Token} {n : ℕ} → after_prefix p k s ≡ found t n → k ≤ n
unfolding after_prefix
prefix-reach p k [] e = no-fault e
prefix-reach p k (d ∷ s) e = by (eqb d 42) (run_start d) (nc_name (d ∷ take (run s) s)) e
  where
    by : (b₁ b₂ b₃ : Bool) {t : Token} {n : ℕ}
        → cond b₁ (found (name (any_in p)) (k + 2))
        (cond b₂ (cond b₃ (found (name (qualified p (d ∷ take (run s) s))) (k + 2 + run s)) (fault X3-no-NCName)) (fault X4-dangling-colon))
        ≡ found t n
        → k ≤ n
    by true b₂ b₃ e = let h = size_is e in omega arith
    by false true true e = let h = size_is e in omega arith
    by false true false e = no-fault e
    by false false b₃ e = no-fault e

after-reach : (p : Points) (k : ℕ) (r : Points) {t : Token} {n : ℕ} → after_name p k r ≡ found t n → k ≤ n
unfolding after_name
after-reach p k [] e = let h = size_is e in omega arith
after-reach p k (d ∷ s) e = by (eqb d 58 && not (begins 58 s)) e
  where
    by : (b : Bool) {t : Token} {n : ℕ} → cond b (after_prefix p k s) (found (name (local p)) k) ≡ found t n → k ≤ n
    by true e = prefix-reach p k s e
    by false e = let h = size_is e in omega arith

name-reach : (c : ℕ) (s : Points) {t : Token} {n : ℕ} → name_first c s ≡ found t n → run s ≤ n
unfolding name_first
name-reach c s e = by (nc_name (c ∷ take (run s) s)) e
  where
    by : (b : Bool) {t : Token} {n : ℕ} → cond b (after_name (c ∷ take (run s) s) (run s) (drop (run s) s)) (fault X3-no-NCName) ≡ found t n → run s ≤ n
    by true e = after-reach (c ∷ take (run s) s) (run s) (drop (run s) s) e
    by false e = no-fault e

-- where a token is found and a name may start, no white space stood
begun : (c : ℕ) (s : Points) → name_start c ≡ true → {t : Token} {n : ℕ} → scan (c ∷ s) ≡ found t n → name_first c s ≡ found t n
begun c s h {t} {n} e = by (xml_space c) (sym (begin-scan c s h) ∙ e)
  where
    by : (b : Bool) → cond b gap (name_first c s) ≡ found t n → name_first c s ≡ found t n
    by true e = no_gap e
    by false e = e

stops-colon : (r : Points) → Stops (58 ∷ r)
unfolding run_char run_start in_ranges
stops-colon r = refl

-- NCName ':' '*', and NCName ':' with the run of a local name
pub wildcard-first : (c : ℕ) (m r : Points) → NCName (c ∷ m)
    → name_first c ((m ++ (58 ∷ 42 ∷ [])) ++ r) ≡ found (name (any_in (c ∷ m))) (length (m ++ (58 ∷ 42 ∷ [])))
unfolding after_prefix
wildcard-first c m r p =
    rw (append_assoc m (58 ∷ 42 ∷ []) r, name-at c m (58 ∷ 42 ∷ r) p (stops-colon (42 ∷ r)))
    (rw (colon-at (c ∷ m) (length m) 42 r refl, length-append m (58 ∷ 42 ∷ [])))

qname-first : (c : ℕ) (m : Points) (d : ℕ) (l r : Points) → NCName (c ∷ m) → name_start d ≡ true
    → name_first c ((m ++ (58 ∷ d ∷ l)) ++ r)
    ≡ cond (nc_name (d ∷ take (run (l ++ r)) (l ++ r)))
    (found (name (qualified (c ∷ m) (d ∷ take (run (l ++ r)) (l ++ r)))) (length m + 2 + run (l ++ r))) (fault X3-no-NCName)
unfolding name_start start_ranges in_ranges
qname-first c m d l r p h =
    rw (append_assoc m (58 ∷ d ∷ l) r, name-at c m (58 ∷ d ∷ (l ++ r)) p (stops-colon (d ∷ (l ++ r))))
    (rw (colon-at (c ∷ m) (length m) d (l ++ r) (other-than name_start 58 refl d h))
    (local_at (c ∷ m) (length m) d (l ++ r) h))

picked : (b : Bool) (k : ℕ) (u : Token) {t : Token} {n : ℕ} → cond b (found u k) (fault X3-no-NCName) ≡ found t n → k ≡ n
picked true k u e = size_is e
picked false k u e = no-fault e

reach : {u : Token} {v : Points} → Spells u v → (r : Points) {t : Token} {n : ℕ} → scan (v ++ r) ≡ found t n → length v ≤ suc n
unfolding scan xml_space slash_first colon_first begins in_ranges
reach a-dot r e = omega arith
reach a-slash r e = omega arith
reach two-slashes r e = let h = size_is e in omega arith
reach two-colons r e = let h = size_is e in omega arith
reach an-at r e = omega arith
reach a-bar r e = omega arith
reach a-star r e = omega arith
reach (a-wildcard {p = []} h) r e = no_name h
reach (a-wildcard {p = c ∷ m} h) r {t} {n} e =
    let i = begun c ((m ++ (58 ∷ 42 ∷ [])) ++ r) (name-start c m h) e in
    let j = size_is (sym (wildcard-first c m r h) ∙ i) in
    omega arith
reach (an-ncname {l = []} h) r e = no_name h
reach (an-ncname {l = c ∷ m} h) r e =
    let i = name-reach c (m ++ r) (begun c (m ++ r) (name-start c m h) e) in
    let j = run-covers m r (name-rest c m h) in
    omega arith
reach (a-qname {p = []} h g) r e = no_name h
reach (a-qname {p = c ∷ m} {l = []} h g) r e = no_name g
reach (a-qname {p = c ∷ m} {l = d ∷ l} h g) r {t} {n} e =
    let a = begun c ((m ++ (58 ∷ d ∷ l)) ++ r) (name-start c m h) e in
    let w = d ∷ take (run (l ++ r)) (l ++ r) in
    let f = sym (qname-first c m d l r h (name-start d l g)) ∙ a in
    let b : length m + 2 + run (l ++ r) ≡ n = picked (nc_name w) _ (name (qualified (c ∷ m) w)) f in
    let k = run-covers l r (name-rest d l g) in
    let o = length-append m (58 ∷ d ∷ l) in
    omega arith

pub scan-longest : (c : ℕ) (s : Points) {t : Token} {n : ℕ} → scan (c ∷ s) ≡ found t n
    → (m r : Points) → m ++ r ≡ s → length m ≡ n → Longest (c ∷ m) r
scan-longest c s e m r p l u v q sp f =
    let i : scan (v ++ q) ≡ found _ _ = ap scan (f ∙ ap (λ (x : Points). c ∷ x) p) ∙ e in
    let j = reach sp q i in
    omega arith

-- ---- what follows a token

-- no ':' stands alone
abbrev pub Paired : Points → Type 0
Paired [] = Unit {0}
Paired (c ∷ s) = eqb c 58 ≡ true → begins 58 s ≡ true

-- no name goes on here
abbrev Ends : Points → Type 0
Ends [] = Unit {0}
Ends (c ∷ s) = name_char c ≡ false

name-no-colon : {A : Type 0} (c : ℕ) (m : Points) → NCName (c ∷ m) → eqb c 58 ≡ true → A
unfolding name_start start_ranges in_ranges
name-no-colon c m h e = absurd (both_ways (eqb c 58) (other-than name_start 58 refl c (name-start c m h)) e)

tokens-paired : {s : Points} {ts : List Token} → Tokens s ts → Paired s
unfolding begins
tokens-paired done = tt
tokens-paired (space {c = c} h r) = λ e. absurd (both_ways (eqb c 58) (space-four c h (λ (x : ℕ). eqb x 58) refl refl refl refl) e)
tokens-paired (token a-dot l r) = never
tokens-paired (token a-slash l r) = never
tokens-paired (token two-slashes l r) = never
tokens-paired (token two-colons l r) = λ e. refl
tokens-paired (token an-at l r) = never
tokens-paired (token a-bar l r) = never
tokens-paired (token a-star l r) = never
tokens-paired (token (a-wildcard {p = []} h) l r) = no_name h
tokens-paired (token (a-wildcard {p = c ∷ m} h) l r) = name-no-colon c m h
tokens-paired (token (an-ncname {l = []} h) l r) = no_name h
tokens-paired (token (an-ncname {l = c ∷ m} h) l r) = name-no-colon c m h
tokens-paired (token (a-qname {p = []} h g) l r) = no_name h
tokens-paired (token (a-qname {p = c ∷ m} h g) l r) = name-no-colon c m h

name-goes-on : {A : Type 0} (c : ℕ) (m : Points) → NCName (c ∷ m) → name_char c ≡ false → A
name-goes-on c m h e = absurd (both_ways (name_char c) e (start-is-char c (name-start c m h)))

-- where no name goes on, a run ends
tokens-stop : {s : Points} {ts : List Token} → Tokens s ts → Ends s → Stops s
unfolding name_char more_ranges name_start start_ranges run_char run_start in_ranges
tokens-stop done e = tt
tokens-stop (space {c = c} h r) e = space-four c h run_char refl refl refl refl
tokens-stop (token a-dot l r) e = never (sym e)
tokens-stop (token a-slash l r) e = refl
tokens-stop (token two-slashes l r) e = refl
tokens-stop (token two-colons l r) e = refl
tokens-stop (token an-at l r) e = refl
tokens-stop (token a-bar l r) e = refl
tokens-stop (token a-star l r) e = refl
tokens-stop (token (a-wildcard {p = []} h) l r) e = no_name h
tokens-stop (token (a-wildcard {p = c ∷ m} h) l r) e = name-goes-on c m h e
tokens-stop (token (an-ncname {l = []} h) l r) e = no_name h
tokens-stop (token (an-ncname {l = c ∷ m} h) l r) e = name-goes-on c m h e
tokens-stop (token (a-qname {p = []} h g) l r) e = no_name h
tokens-stop (token (a-qname {p = c ∷ m} h g) l r) e = name-goes-on c m h e

-- ---- what is spelled is found

-- the longest name is followed by no name character
module _ (c : ℕ) (m : Points) (h : NCName (c ∷ m)) where
  name-ends : (r : Points) → Longest (c ∷ m) r → Ends r
  name-ends [] l = tt
  name-ends (d ∷ r) l =
      false_from_ne_true (name_char d)
      (λ e.
      let same_text = ap (λ (x : Points). c ∷ x) (append_assoc m (d ∷ []) r) in
      let i : suc (length (m ++ (d ∷ []))) ≤ suc (length m) = l _ (c ∷ (m ++ (d ∷ []))) r (an-ncname (name-longer c m d h e)) same_text in
      let j = length-append m (d ∷ []) in
      omega arith)

  local-ends : (p : Points) → NCName p → (r : Points) → Longest (p ++ (58 ∷ c ∷ m)) r → Ends r
  local-ends p q [] l = tt
  local-ends p q (d ∷ r) l =
      false_from_ne_true (name_char d)
      (λ e.
      let i = l _ (p ++ (58 ∷ c ∷ (m ++ (d ∷ [])))) r (a-qname q (name-longer c m d h e)) (simp append_assoc) in
      let j = length-append m (d ∷ []) in
      let k = length-append p (58 ∷ c ∷ (m ++ (d ∷ []))) in
      let o = length-append p (58 ∷ c ∷ m) in
      omega arith)

start-no-space : (c : ℕ) → name_start c ≡ true → xml_space c ≡ false
unfolding xml_space name_start start_ranges in_ranges
start-no-space c h = let p = other-than name_start in rw (p 32 refl c h, p 9 refl c h, p 13 refl c h, p 10 refl c h)

pub begin-plain : (c : ℕ) (m s : Points) → NCName (c ∷ m) → scan (c ∷ s) ≡ name_first c s
begin-plain c m s h = let g = name-start c m h in rw (begin-scan c s g, start-no-space c g)

pub after-local : (p : Points) (n : ℕ) (r : Points) → Paired r → after_name p n r ≡ found (name (local p)) n
unfolding after_name
after-local p n [] h = refl
after-local p n (c ∷ s) h = by (eqb c 58) h
  where
    by : (b : Bool) → (b ≡ true → begins 58 s ≡ true)
        → cond (b && not (begins 58 s)) (after_prefix p n s) (found (name (local p)) n) ≡ found (name (local p)) n
    by true h = rw (h refl)
    by false h = refl

slash-alone : (s : Points) → Longest (47 ∷ []) s → slash_first s ≡ found slash 0
unfolding slash_first begins
slash-alone [] l = refl
slash-alone (d ∷ s) l =
    rw (false_from_ne_true (eqb d 47)
    (λ e.
    let i : 2 ≤ 1 = l slashes (47 ∷ 47 ∷ []) s two-slashes (ap (λ (x : ℕ). 47 ∷ x ∷ s) (sym (eqb-true d 47 e))) in
    omega arith))

pub qname-found : (c : ℕ) (m : Points) (d : ℕ) (l r : Points) → NCName (c ∷ m) → NCName (d ∷ l) → Stops r
    → name_first c ((m ++ (58 ∷ d ∷ l)) ++ r) ≡ found (name (qualified (c ∷ m) (d ∷ l))) (length (m ++ (58 ∷ d ∷ l)))
qname-found c m d l r p q e =
    let size : length m + 2 + length l ≡ length (m ++ (58 ∷ d ∷ l)) = let k = length-append m (58 ∷ d ∷ l) in omega arith in
    rw (qname-first c m d l r p (name-start d l q), run_is l r (name-rest d l q) e, take_at l r (length l) refl, q, size)

pub scan-finds : {t : Token} {w : Points} → Spells t w → (s : Points) {ts : List Token} → Longest w s → Tokens s ts → (t ≡ bar → ⊥)
    → scan (w ++ s) ≡ found t (length (drop 1 w))
unfolding scan xml_space slash_first colon_first begins in_ranges
scan-finds a-dot s l r b = refl
scan-finds a-slash s l r b = slash-alone s l
scan-finds two-slashes s l r b = refl
scan-finds two-colons s l r b = refl
scan-finds an-at s l r b = refl
scan-finds a-bar s l r b = absurd (b refl)
scan-finds a-star s l r b = refl
scan-finds (a-wildcard {p = []} h) s l r b = no_name h
scan-finds (a-wildcard {p = c ∷ m} h) s l r b =
    begin-plain c m ((m ++ (58 ∷ 42 ∷ [])) ++ s) h ∙ wildcard-first c m s h
scan-finds (an-ncname {l = []} h) s l r b = no_name h
scan-finds (an-ncname {l = c ∷ m} h) s l r b =
    begin-plain c m (m ++ s) h
    ∙ (name-at c m s h (tokens-stop r (name-ends c m h s l)) ∙ after-local (c ∷ m) (length m) s (tokens-paired r))
scan-finds (a-qname {p = []} h g) s l r b = no_name h
scan-finds (a-qname {p = c ∷ m} {l = []} h g) s l r b = no_name g
scan-finds (a-qname {p = c ∷ m} {l = d ∷ k} h g) s l r b =
    begin-plain c m ((m ++ (58 ∷ d ∷ k)) ++ s) h
    ∙ qname-found c m d k s h g (tokens-stop r (local-ends d k g (c ∷ m) h s l))
