-- The tokens that `tokenize` reads are the tokens of the grammar, for a text with no '|': by induction on the text, with the laws of `scan`.
-- And how a text with '|' falls into such texts: '|' is in no other token's spelling, so no token reaches across it.
-- Assumes nothing.
use native.Mathlib.Omega.{arith}
use Prim.Native.Nat.{ℕ, zero, suc, ◌≤◌}
use lib.Dec.{eqb}
use lib.ListN.{length, take, drop}
use lib.Seq.{drop_at, drop-nil}
use mathlib.Core.Path.{◌≡◌, refl, ap, sym, ◌∙◌, subst}
use mathlib.Core.Bool.{Bool, true, false, cond, not, ◌&&◌}
use mathlib.Core.List.{List, [], ◌∷◌, ◌++◌, append_assoc}
use mathlib.Core.Logic.{◌⊎◌, inl, inr, ⊎_elim}
use Rattle.std.proofs.lemmas.List.Prefix.{front_fits}
use Rattle.std.proofs.lemmas.Bool.{both_ways}
use Rattle.characters.specs.Ranges.{in_ranges}
use Rattle.characters.specs.Spaces.{xml_space}
use Rattle.characters.specs.Names.{start_ranges, more_ranges, name_start, name_char}
use Rattle.characters.proofs.Tables.{start-is-char}
use Rattle.ncname.specs.NCName.{nc_name}
use Rattle.grammar.specs.Tokens.{Points, NCName, Token, Spells, Longest, Tokens}
use Rattle.grammar.specs.Tokens.Token.{dot, slash, slashes, colons, at, bar, name}
use Rattle.grammar.specs.Tokens.Spells.{a-dot, a-slash, two-slashes, two-colons, an-at, a-bar, a-star, a-wildcard, an-ncname, a-qname}
use Rattle.grammar.specs.Tokens.Tokens.{done, space, token}
use Rattle.grammar.proofs.Words.{spelled-long}
use Rattle.reasons.specs.Reasons.{run_start, run, begins, Scan, end, gap, found, fault, slash_first, colon_first, after_prefix, after_name, name_first, scan, Tokenized, read, wrong, before, onward, tokenize}
use Rattle.reasons.proofs.Chars.{other-than, all_pass, no_name, name-start, name-rest}
use Rattle.reasons.proofs.Scans.{space-four, scan-word, scan-longest, scan-finds}
use Rattle.lists.specs.Lists.{All}
use Rattle.lists.proofs.Folds.{All-append}

-- ---- what is read is tokens

read_is : {ts us : List Token} → read ts ≡ read us → ts ≡ us
read_is e = cc

no-wrong : {A : Type 0} {k : ℕ} {ts : List Token} → wrong k ≡ read ts → A
no-wrong e = let z : ◌≡◌ {A = ℕ} 0 1 = cc in absurd (omega arith)

-- a token was put before what was read
record Headed (t : Token) (l : Tokenized) (ts : List Token) : Type 0 where
  pub tail : List Token
  pub parts : t ∷ tail ≡ ts
  pub rest : l ≡ read tail

headed : (t : Token) (l : Tokenized) {ts : List Token} → before t l ≡ read ts → Headed t l ts
headed t (read us) e = record { tail = us; parts = read_is e; rest = refl }
headed t (wrong k) e = no-wrong e

-- what stands first is a token or a fault
abbrev shown : Scan → Bool
shown end = false
shown gap = false
shown (found t n) = true
shown (fault k) = true

cond-shown : (b : Bool) (x y : Scan) → shown x ≡ true → shown y ≡ true → shown (cond b x y) ≡ true
cond-shown true x y h g = h
cond-shown false x y h g = g

prefix-shown : (p : Points) (n : ℕ) (s : Points) → shown (after_prefix p n s) ≡ true
unfolding after_prefix
prefix-shown p n [] = refl
prefix-shown p n (c ∷ s) = cond-shown (eqb c 42) _ _ refl (cond-shown (run_start c) _ _ (cond-shown (nc_name (c ∷ take (run s) s)) _ _ refl refl) refl)

after-shown : (p : Points) (n : ℕ) (s : Points) → shown (after_name p n s) ≡ true
unfolding after_name
after-shown p n [] = refl
after-shown p n (c ∷ s) = cond-shown (eqb c 58 && not (begins 58 s)) _ _ (prefix-shown p n s) refl

scan-shown : (c : ℕ) (s : Points) → xml_space c ≡ false → shown (scan (c ∷ s)) ≡ true
unfolding scan slash_first colon_first name_first
scan-shown c s h =
    rw h
    (cond-shown (eqb c 47) _ _ (cond-shown (begins 47 s) _ _ refl refl)
    (cond-shown (eqb c 58) _ _ (cond-shown (begins 58 s) _ _ refl refl)
    (cond-shown (eqb c 64) _ _ refl
    (cond-shown (eqb c 42) _ _ refl
    (cond-shown (eqb c 46) _ _ refl
    (cond-shown (run_start c) _ _ (cond-shown (nc_name (c ∷ take (run s) s)) _ _ (after-shown _ _ _) refl) refl))))))

pub space-gap : (c : ℕ) (s : Points) → xml_space c ≡ true → scan (c ∷ s) ≡ gap
unfolding scan
space-gap c s h = rw h

gap-space : (c : ℕ) (s : Points) → shown (scan (c ∷ s)) ≡ false → xml_space c ≡ true
gap-space c s e = by (xml_space c) refl
  where
    by : (b : Bool) → xml_space c ≡ b → b ≡ true
    by true h = refl
    by false h = absurd (both_ways (shown (scan (c ∷ s))) e (scan-shown c s h))

no-end-first : (c : ℕ) (s : Points) → scan (c ∷ s) ≡ end → ⊥
no-end-first c s e = let h = sym e ∙ space-gap c s (gap-space c s (ap shown e)) in let z : ◌≡◌ {A = ℕ} 0 1 = cc in omega arith

-- a token that is found, and the tokens of the rest
pub found_first : (c : ℕ) (s : Points) (t : Token) (n : ℕ) → scan (c ∷ s) ≡ found t n → {us : List Token} → Tokens (drop n s) us → Tokens (c ∷ s) (t ∷ us)
found_first c s t n e {us} r =
    let w = scan-word c s e in
    let d : drop n s ≡ w.rest = ap (drop n) (sym w.parts) ∙ drop_at w.more w.rest n w.size in
    let l = scan-longest c s e w.more w.rest w.parts w.size in
    let x : Tokens ((c ∷ w.more) ++ w.rest) (t ∷ us) = token w.spells l (rw d at r) in
    subst (λ (l : Points). Tokens (c ∷ l) (t ∷ us)) w.parts x

pub tokenize-reads : (k : ℕ) (s : Points) → {ts : List Token} → tokenize k s ≡ read ts → Tokens (drop k s) ts
unfolding tokenize
tokenize-reads k [] e = rw (drop-nil {A = ℕ} k, sym (read_is e)) done
tokenize-reads zero (c ∷ s) {ts} e = by (scan (c ∷ s)) refl (λ n us f. tokenize-reads n s f) e
  where
    by : (f : Scan) → scan (c ∷ s) ≡ f → ((n : ℕ) (us : List Token) → tokenize n s ≡ read us → Tokens (drop n s) us)
        → onward f (λ n. tokenize n s) ≡ read ts → Tokens (c ∷ s) ts
    by end g rec e = absurd (no-end-first c s g)
    by gap g rec e = space (gap-space c s (ap shown g)) (rec 0 ts e)
    by (found t n) g rec e = let h = headed t (tokenize n s) e in rw (sym h.parts) (found_first c s t n g (rec n h.tail h.rest))
    by (fault j) g rec e = no-wrong e
tokenize-reads (suc k) (c ∷ s) e = tokenize-reads k s e

-- ---- every text that has tokens, none of them '|', is read

abbrev pub is_bar : Token → Bool
is_bar dot = false
is_bar slash = false
is_bar slashes = false
is_bar colons = false
is_bar at = false
is_bar bar = true
is_bar (name n) = false

abbrev pub NoBar : Token → Type 0
NoBar t = is_bar t ≡ false

tokenize-skips : (m s : Points) → tokenize (length m) (m ++ s) ≡ tokenize 0 s
unfolding tokenize
tokenize-skips [] s = refl
tokenize-skips (c ∷ m) s = tokenize-skips m s

found-reads : (t : Token) (w s : Points) → 1 ≤ length w → scan (w ++ s) ≡ found t (length (drop 1 w))
    → (ts : List Token) → tokenize 0 s ≡ read ts → tokenize 0 (w ++ s) ≡ read (t ∷ ts)
unfolding tokenize
found-reads t [] s l e ts h = absurd (omega arith)
found-reads t (c ∷ m) s l e ts h = rw e (ap (before t) (tokenize-skips m s ∙ h))

pub tokens-read : {s : Points} {ts : List Token} → Tokens s ts → All NoBar ts → tokenize 0 s ≡ read ts
unfolding tokenize
tokens-read done b = refl
tokens-read (space {c = c} {s = s} h r) b = rw (space-gap c s h) (tokens-read r b)
tokens-read (token {t = t} {w = w} {s = s} {ts = ts} sp l r) b =
    found-reads t w s (spelled-long w sp) (scan-finds sp s l r (λ e. both_ways (is_bar t) b.0 (ap is_bar e))) ts
    (tokens-read r b.1)

-- ---- '|' in a text

abbrev pub Clear : ℕ → Type 0
Clear c = eqb c 124 ≡ false

char-clear : (c : ℕ) → name_char c ≡ true → Clear c
unfolding name_char more_ranges name_start start_ranges in_ranges
char-clear = other-than name_char 124 refl

ncname-clear : (m : Points) → NCName m → All Clear m
ncname-clear [] h = no_name h
ncname-clear (c ∷ m) h =
    let s = start-is-char c (name-start c m h) in
    (char-clear c s, all_pass name_char Clear char-clear m (name-rest c m h))

-- only '|' itself is spelled with one
spelled-clear : {t : Token} {w : Points} → Spells t w → ((t ≡ bar) × (w ≡ 124 ∷ [])) ⊎ (NoBar t × All Clear w)
spelled-clear a-dot = inr (refl, (refl, tt))
spelled-clear a-slash = inr (refl, (refl, tt))
spelled-clear two-slashes = inr (refl, (refl, (refl, tt)))
spelled-clear two-colons = inr (refl, (refl, (refl, tt)))
spelled-clear an-at = inr (refl, (refl, tt))
spelled-clear a-bar = inl (refl, refl)
spelled-clear a-star = inr (refl, (refl, tt))
spelled-clear (a-wildcard {p = p} h) = inr (refl, All-append Clear p (58 ∷ 42 ∷ []) (ncname-clear p h) (refl, (refl, tt)))
spelled-clear (an-ncname {l = l} h) = inr (refl, ncname-clear l h)
spelled-clear (a-qname {p = p} {l = l} h g) = inr (refl, All-append Clear p (58 ∷ l) (ncname-clear p h) (refl, ncname-clear l g))

pub tokens-clear : {s : Points} {ts : List Token} → Tokens s ts → All NoBar ts → All Clear s
tokens-clear done b = tt
tokens-clear (space {c = c} h r) b = (space-four c h (λ (x : ℕ). eqb x 124) refl refl refl refl, tokens-clear r b)
tokens-clear (token {t = t} {w = w} {s = s} sp l r) b =
    All-append Clear w s
    (⊎_elim (λ e. absurd (both_ways (is_bar t) b.0 (ap is_bar e.0))) (λ a. a.1) (spelled-clear sp))
    (tokens-clear r b.1)

-- a word with no '|' that begins a text begins the part before its first '|'
cut : (v r x q : Points) → All Clear v → v ++ r ≡ x ++ (124 ∷ q) → (y : Points) × (v ++ y ≡ x)
cut [] r x q a e = (x, refl)
cut (c ∷ v) r [] q a e = let h : c ≡ 124 = cc in absurd (both_ways (eqb c 124) a.0 (rw h))
cut (c ∷ v) r (d ∷ x) q a e =
    let h : c ≡ d = cc in
    let i : v ++ r ≡ x ++ (124 ∷ q) = cc in
    let j = cut v r x q a.1 i in
    (j.0, cc (h, j.1))

longest-bar : (w s q : Points) → 1 ≤ length w → Longest w s → Longest w (s ++ (124 ∷ q))
longest-bar w s q h l u v r sp e =
    ⊎_elim
    (λ b. let i = ap length b.1 in omega arith)
    (λ a. let k = cut v r (w ++ s) q a.1 (e ∙ sym (append_assoc w s (124 ∷ q))) in l u v k.0 sp k.1)
    (spelled-clear sp)

bar-longest : (q : Points) → Longest (124 ∷ []) q
bar-longest q u v r sp e =
    ⊎_elim
    (λ b. let i = ap length b.1 in omega arith)
    (λ a. let k = cut v r [] q a.1 e in let i = front_fits [] v k.0 (sym k.1) in omega arith)
    (spelled-clear sp)

pub tokens-join : {p q : Points} {ts us : List Token} → Tokens p ts → Tokens q us → Tokens (p ++ (124 ∷ q)) (ts ++ (bar ∷ us))
tokens-join {q = q} done y = token a-bar (bar-longest q) y
tokens-join (space h x) y = space h (tokens-join x y)
tokens-join {q = q} (token {w = w} {s = s} sp l x) y =
    rw (append_assoc w s (124 ∷ q)) (token sp (longest-bar w s q (spelled-long w sp) l) (tokens-join x y))

-- the tokens before and after a '|'
pub record Parts (s : Points) (ts us : List Token) : Type 0 where
  pub left : Points
  pub right : Points
  pub joined : left ++ (124 ∷ right) ≡ s
  pub before : Tokens left ts
  pub after : Tokens right us

bar-spelled : {t : Token} {w : Points} → Spells t w → is_bar t ≡ true → w ≡ 124 ∷ []
bar-spelled {t} sp h = ⊎_elim (λ b. b.1) (λ a. absurd (both_ways (is_bar t) a.0 h)) (spelled-clear sp)

longest-left : (w p q : Points) → Longest w (p ++ q) → Longest w p
longest-left w p q l u v r sp e =
    l u v (r ++ q) sp (sym (append_assoc v r q) ∙ (ap (λ (x : Points). x ++ q) e ∙ append_assoc w p q))

pub tokens-part : {s : Points} {vs : List Token} → Tokens s vs → (ts us : List Token) → vs ≡ ts ++ (bar ∷ us) → Parts s ts us
tokens-part done [] us e = absurd (omega (arith, ap length e))
tokens-part done (t ∷ ts) us e = absurd (omega (arith, ap length e))
tokens-part (space {c = c} h x) ts us e =
    let p = tokens-part x ts us e in
    record { left = c ∷ p.left; right = p.right; joined = ap (λ (l : Points). c ∷ l) p.joined; before = space h p.before; after = p.after }
tokens-part (token {t = t} {w = w} {s = s} {ts = vs} sp l x) [] us e =
    let h : t ≡ bar = cc in
    let i : vs ≡ us = cc in
    let j = bar-spelled sp (ap is_bar h) in
    record { left = []; right = s; joined = ap (λ (v : Points). v ++ s) (sym j); before = done; after = rw i at x }
tokens-part (token {t = t} {w = w} {s = s} {ts = vs} sp l x) (u ∷ ts) us e =
    let h : t ≡ u = cc in
    let i : vs ≡ ts ++ (bar ∷ us) = cc in
    let p = tokens-part x ts us i in
    record {
      left = w ++ p.left;
      right = p.right;
      joined = append_assoc w p.left (124 ∷ p.right) ∙ ap (λ (v : Points). w ++ v) p.joined;
      before = token (rw h at sp) (longest-left w p.left (124 ∷ p.right) (rw p.joined l)) p.before;
      after = p.after;
    }
