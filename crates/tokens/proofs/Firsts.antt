-- The first token behind white space, and the walk from token to token: white space is passed over, and a token that is found stands before those of the rest.
-- Assumes nothing.
use Prim.Native.Nat.{ℕ, zero, suc, ◌+◌, ◌-◌, ◌≤◌, ◌<◌}
use native.Mathlib.Omega.{arith}
use denote.Ref.{Bor}
use lib.Dec.{eqb}
use lib.ListN.{length, take, drop, get_or, length-drop, length-append}
use lib.Seq.{drop-drop}
use borrow.Author.Tests.{ne_eqb, eqb-true, not-true}
use mathlib.Core.Path.{◌≡◌, refl, ap, sym, ◌∙◌}
use mathlib.Core.Bool.{Bool, true, false, cond, not, ◌&&◌, false≢true}
use mathlib.Core.List.{List, [], ◌∷◌}
use mathlib.Core.Option.{none, some}
use Rattle.std.proofs.lemmas.List.{drop_more, take_rest}
use Rattle.lists.specs.Lists.{all, All}
use Rattle.characters.specs.Ranges.{in_ranges}
use Rattle.characters.specs.Spaces.{xml_space}
use Rattle.grammar.specs.Tokens as grammar
use Rattle.ncname.specs.NCName.{nc_name}
use Rattle.grammar.specs.Tokens.{Points}
use Rattle.grammar.specs.Tokens.Token.{dot, bar}
use Rattle.reasons.specs.Reasons.{run_start, run, begins, Scan, end, gap, found, fault, slash_first, colon_first, after_prefix, after_name, name_first, scan, Tokenized, read, wrong, before, onward, tokenize, is_empty, is_dot}
use Rattle.reasons.proofs.Scans.{scan-word}
use Rattle.reasons.proofs.Tokenizes.{space-gap, NoBar}
use Rattle.reasons.proofs.Walks.{no-some}
use Rattle.tokens.specs.declared.Tok.{Tok}
use Rattle.std.specs.declared.option.Option as code
use Rattle.std.specs.declared.option.Option.TheVariants.{Some, None}
use Rattle.std.specs.declared.result.Result.{Result}
use Rattle.std.specs.declared.result.Result.TheVariants.{Ok, Err}
use Rattle.tokens.specs.declared.Front.{Front}
use Rattle.tokens.specs.declared.Token.{Token}
use Rattle.tokens.specs.declared.Reason.{Reason}
use Rattle.tokens.proofs.Runs.{gap-not}
use Rattle.tokens.specs.Places.{gap_length, number, token_of, scan_of, ahead, tokens_from, tokens_in, FirstOf, fault_of}

-- ---- characters that belong to a token already read are dropped

tokenize-drop : (k : ℕ) (s : Points) → tokenize k s ≡ tokenize 0 (drop k s)
unfolding tokenize
tokenize-drop zero [] = refl
tokenize-drop (suc k) [] = refl
tokenize-drop zero (c ∷ s) = refl
tokenize-drop (suc k) (c ∷ s) = tokenize-drop k s

tokens-drop : (k : ℕ) (s : Points) → tokens_from k s ≡ tokens_in (drop k s)
unfolding tokens_from
tokens-drop zero [] = refl
tokens-drop (suc k) [] = refl
tokens-drop zero (c ∷ s) = refl
tokens-drop (suc k) (c ∷ s) = tokens-drop k s

-- ---- white space first

gap-tokenize : (s : Points) → tokenize 0 s ≡ tokenize 0 (drop (gap_length s) s)
unfolding tokenize gap_length
gap-tokenize [] = refl
gap-tokenize (c ∷ s) = by (gap-tokenize s) (xml_space c) refl
  where
    by : tokenize 0 s ≡ tokenize 0 (drop (gap_length s) s) → (b : Bool) → xml_space c ≡ b
        → tokenize 0 (c ∷ s) ≡ tokenize 0 (drop (cond b (suc (gap_length s)) 0) (c ∷ s))
    by rec true e = rw (space-gap c s e) rec
    by rec false e = refl

gap-tokens : (s : Points) → tokens_in s ≡ tokens_in (drop (gap_length s) s)
unfolding tokens_from gap_length
gap-tokens [] = refl
gap-tokens (c ∷ s) = by (gap-tokens s) (xml_space c) refl
  where
    by : tokens_in s ≡ tokens_in (drop (gap_length s) s) → (b : Bool) → xml_space c ≡ b
        → tokens_in (c ∷ s) ≡ tokens_in (drop (cond b (suc (gap_length s)) 0) (c ∷ s))
    by rec true e = rw (space-gap c s e) rec
    by rec false e = refl

gap-fits : (s : Points) → gap_length s ≤ length s
unfolding gap_length
gap-fits [] = omega arith
gap-fits (c ∷ s) = by (xml_space c) (gap-fits s)
  where
    by : (b : Bool) → gap_length s ≤ length s → cond b (suc (gap_length s)) 0 ≤ suc (length s)
    by true h = omega arith
    by false h = omega arith

gap-behind : (s : Points) → gap_length (drop (gap_length s) s) ≡ 0
unfolding gap_length
gap-behind [] = refl
gap-behind (c ∷ s) = by (gap-behind s) (xml_space c) refl
  where
    by : gap_length (drop (gap_length s) s) ≡ 0 → (b : Bool) → xml_space c ≡ b → gap_length (drop (cond b (suc (gap_length s)) 0) (c ∷ s)) ≡ 0
    by rec true e = rec
    by rec false e = rw e

-- behind the white space, where i is its length
pub from-gap : (s : Points) (i : ℕ) → i ≡ gap_length s → tokens_in s ≡ tokens_in (drop i s)
from-gap s i e = gap-tokens s ∙ ap (λ (n : ℕ). tokens_in (drop n s)) (sym e)

pub gap-room : (s : Points) (i : ℕ) → i ≡ gap_length s → i ≤ length s
gap-room s i e = rw e (gap-fits s)

pub gap-past : (s : Points) (i : ℕ) → i ≡ gap_length s → gap_length (take (length s - i) (drop i s)) ≡ 0
gap-past s i e = rw (take_rest s i, e) (gap-behind s)

-- ---- what stands behind the white space

abbrev token : Tok → ℕ → Bor Points → Token
token t i b = record { tok = t; start = i; behind = b }

-- what stands first decides how both readings go on
first-tokenize : (s : Points) (f : Scan) → scan s ≡ f → tokenize 0 s ≡ onward f (λ n. tokenize n (drop 1 s))
unfolding tokenize scan
first-tokenize [] f e = rw (← e)
first-tokenize (c ∷ s) f e = rw (← e)

first-tokens : (s : Points) (f : Scan) → scan s ≡ f → tokens_in s ≡ ahead f (λ n. tokens_from n (drop 1 s))
unfolding tokens_from scan
first-tokens [] f e = rw (← e)
first-tokens (c ∷ s) f e = rw (← e)

-- a token that is found fits into the text
found-fits : (s : Points) (t : grammar.Token) (n : ℕ) → scan s ≡ found t n → 1 + n ≤ length s
unfolding scan
found-fits [] t n h = let z : ◌≡◌ {A = ℕ} 0 1 = cc in absurd (omega arith)
found-fits (c ∷ s) t n h =
    let w = scan-word c s h in
    let a = ap length w.parts in
    let b = length-append w.more w.rest in
    omega (arith, w.size)

module _ (s : Points) (i : ℕ) (g : i ≡ gap_length s) (r : Result (code.Option Front) Reason) (e : scan_of r ≡ scan (take (length s - i) (drop i s))) where
  stands : scan (drop i s) ≡ scan_of r
  stands = sym (rw (take_rest s i) at e)

  goes-tokenize : tokenize 0 s ≡ onward (scan_of r) (λ n. tokenize n (drop 1 (drop i s)))
  goes-tokenize = gap-tokenize s ∙ ap (λ (n : ℕ). tokenize 0 (drop n s)) (sym g) ∙ first-tokenize (drop i s) (scan_of r) stands

  goes-tokens : tokens_in s ≡ ahead (scan_of r) (λ n. tokens_from n (drop 1 (drop i s)))
  goes-tokens = from-gap s i g ∙ first-tokens (drop i s) (scan_of r) stands

  pub first-end : r ≡ Ok None → FirstOf s (Ok None)
  first-end q = record { reads = goes-tokenize ∙ rw q; tokens = goes-tokens ∙ rw q; stands = tt; inside = tt }

  pub first-fault : (k : Reason) → r ≡ Err k → FirstOf s (Err k)
  first-fault k q = record { reads = goes-tokenize ∙ rw q; tokens = goes-tokens ∙ rw q; stands = tt; inside = tt }

  module _ (f : Front) (q : r ≡ Ok (Some f)) where
    pub first-room : i + f.more + 1 ≤ length s
    first-room =
        let h = found-fits (drop i s) (token_of f.tok) f.more (stands ∙ rw q) in
        let d = length-drop i s in
        let g = gap-room s i g in
        omega arith

    -- the text behind the white space
    module _ (rest : Points) (a : rest ≡ take (length s - i) (drop i s)) where
      pub rest-room : f.more + 1 ≤ length rest
      rest-room = let h = first-room in let l = ap length (a ∙ take_rest s i) ∙ length-drop i s in omega arith

      -- and the text behind the token
      module _ (b : Bor Points) (k : b.now ≡ take (length rest - (f.more + 1)) (drop (f.more + 1) rest)) where
        behind-is : b.now ≡ drop (i + f.more + 1) s
        behind-is =
            let n : i + (f.more + 1) ≡ i + f.more + 1 = omega arith in
            k ∙ take_rest rest (f.more + 1) ∙ ap (drop (f.more + 1)) (a ∙ take_rest s i) ∙ drop-drop (f.more + 1) i s ∙ ap (λ (m : ℕ). drop m s) n

        rest-is : drop f.more (drop 1 (drop i s)) ≡ b.now
        rest-is = let n : i + 1 + f.more ≡ i + f.more + 1 = omega arith in rw (drop-drop 1 i s, drop-drop f.more (i + 1) s, n, behind-is)

        behind-length : length b.now ≡ length s - (i + f.more + 1)
        behind-length = ap length behind-is ∙ length-drop (i + f.more + 1) s

        pub first_found : FirstOf s (Ok (Some (token f.tok i b)))
        first_found =
            let h = first-room in
            let l = behind-length in
            let n : i + f.more + 1 ≡ length s - length b.now = omega arith in
            record {
              reads = goes-tokenize ∙ rw (q, tokenize-drop f.more (drop 1 (drop i s)), rest-is);
              tokens = goes-tokens ∙ rw (q, tokens-drop f.more (drop 1 (drop i s)), rest-is);
              stands = g;
              inside = (omega arith, behind-is ∙ ap (λ (m : ℕ). drop m s) n);
            }

-- ---- from token to token

fault-before : (t : grammar.Token) (l : Tokenized) → fault_of (before t l) ≡ fault_of l
fault-before t (read ts) = refl
fault-before t (wrong k) = refl

module _ (s : Points) (r : Result (code.Option Token) Reason) (f : FirstOf s r) where
  pub fault-none : r ≡ Ok None → none ≡ fault_of (tokenize 0 s)
  fault-none q = rw (f.reads, q)

  pub fault-bad : (k : Reason) → r ≡ Err k → some (number k) ≡ fault_of (tokenize 0 s)
  fault-bad k q = rw (f.reads, q)

  module _ (t : Token) (q : r ≡ Ok (Some t)) where
    pub fault-on : fault_of (tokenize 0 t.behind.now) ≡ fault_of (tokenize 0 s)
    fault-on =
        let e : tokenize 0 s ≡ before (token_of t.tok) (tokenize 0 t.behind.now) = f.reads ∙ rw q in
        rw (e, fault-before (token_of t.tok) (tokenize 0 t.behind.now))

    pub behind-short : length t.behind.now < length s
    behind-short = let x : (length t.behind.now < length s) × (t.behind.now ≡ drop (length s - length t.behind.now) s) = rw q at f.inside in x.0

-- ---- where a text has no fault, these are its tokens

no-bar : {A : Type 0} → NoBar bar → A
no-bar e = absurd (false≢true (sym e))

before-read : (t : grammar.Token) (l : Tokenized) (ts : List grammar.Token) → l ≡ read ts → before t l ≡ read (t ∷ ts)
before-read t l ts e = rw e

-- no '|' among them: they are all that the text has
pub clear-read : (k : ℕ) (s : Points) → All NoBar (tokens_from k s) → tokenize k s ≡ read (tokens_from k s)
unfolding tokenize tokens_from
clear-read k [] a = refl
clear-read zero (c ∷ s) a = by (scan (c ∷ s)) (λ n. clear-read n s) a
  where
    by : (f : Scan) → ((n : ℕ) → All NoBar (tokens_from n s) → tokenize n s ≡ read (tokens_from n s)) → All NoBar (ahead f (λ n. tokens_from n s))
        → onward f (λ n. tokenize n s) ≡ read (ahead f (λ n. tokens_from n s))
    by end rec a = refl
    by gap rec a = rec 0 a
    by (found t n) rec a = before-read t (tokenize n s) (tokens_from n s) (rec n a.1)
    by (fault k) rec a = no-bar a.0
clear-read (suc k) (c ∷ s) a = clear-read k s a

pub faultless-read : (k : ℕ) (s : Points) → fault_of (tokenize k s) ≡ none → tokenize k s ≡ read (tokens_from k s)
unfolding tokenize tokens_from
faultless-read k [] a = refl
faultless-read zero (c ∷ s) a = by (scan (c ∷ s)) (λ n. faultless-read n s) a
  where
    by : (f : Scan) → ((n : ℕ) → fault_of (tokenize n s) ≡ none → tokenize n s ≡ read (tokens_from n s)) → fault_of (onward f (λ n. tokenize n s)) ≡ none
        → onward f (λ n. tokenize n s) ≡ read (ahead f (λ n. tokens_from n s))
    by end rec a = refl
    by gap rec a = rec 0 a
    by (found t n) rec a = before-read t (tokenize n s) (tokens_from n s) (rec n (sym (fault-before t (tokenize n s)) ∙ a))
    by (fault k) rec a = no-some a
faultless-read (suc k) (c ∷ s) a = faultless-read k s a

-- ---- a text with no token, and one that begins with '.'

-- a fault, or a token that is no '.'
abbrev other : Scan → Bool
other end = false
other gap = false
other (found t n) = not (is_dot t)
other (fault k) = true

cond-other : (b : Bool) (x y : Scan) → other x ≡ true → other y ≡ true → other (cond b x y) ≡ true
cond-other true x y h g = h
cond-other false x y h g = g

prefix-other : (p : Points) (n : ℕ) (s : Points) → other (after_prefix p n s) ≡ true
unfolding after_prefix
prefix-other p n [] = refl
prefix-other p n (c ∷ s) = cond-other (eqb c 42) _ _ refl (cond-other (run_start c) _ _ (cond-other (nc_name (c ∷ take (run s) s)) _ _ refl refl) refl)

after-other : (p : Points) (n : ℕ) (s : Points) → other (after_name p n s) ≡ true
unfolding after_name
after-other p n [] = refl
after-other p n (c ∷ s) = cond-other (eqb c 58 && not (begins 58 s)) _ _ (prefix-other p n s) refl

-- which is what stands first where neither white space nor '.' does
scan-other : (c : ℕ) (s : Points) → xml_space c ≡ false → eqb c 46 ≡ false → other (scan (c ∷ s)) ≡ true
unfolding scan slash_first colon_first name_first
scan-other c s h d =
    rw (h, d)
    (cond-other (eqb c 47) _ _ (cond-other (begins 47 s) _ _ refl refl)
    (cond-other (eqb c 58) _ _ (cond-other (begins 58 s) _ _ refl refl)
    (cond-other (eqb c 64) _ _ refl
    (cond-other (eqb c 42) _ _ refl
    (cond-other (run_start c) _ _ (cond-other (nc_name (c ∷ take (run s) s)) _ _ (after-other _ _ _) refl) refl)))))

scan-dot : (s : Points) → scan (46 ∷ s) ≡ found dot 0
unfolding scan xml_space in_ranges
scan-dot s = refl

-- no token stands in a text exactly if all of it is white space
pub blank-tokens : (s : Points) → all xml_space s ≡ is_empty (tokens_in s)
unfolding tokens_from
blank-tokens [] = refl
blank-tokens (c ∷ s) = by (blank-tokens s) (xml_space c) refl (eqb c 46) refl
  where
    some-token : (f : Scan) → other f ≡ true → false ≡ is_empty (ahead f (λ n. tokens_from n s))
    some-token end h = h
    some-token gap h = absurd (false≢true h)
    some-token (found t n) h = refl
    some-token (fault k) h = refl

    by : all xml_space s ≡ is_empty (tokens_in s) → (b : Bool) → xml_space c ≡ b → (d : Bool) → eqb c 46 ≡ d
        → (b && all xml_space s) ≡ is_empty (ahead (scan (c ∷ s)) (λ n. tokens_from n s))
    by rec true e d g = rw (space-gap c s e) rec
    by rec false e true g = rw (eqb-true c 46 g, scan-dot s)
    by rec false e false g = some-token (scan (c ∷ s)) (scan-other c s e g)

-- what begins a text: the first token is no '.'
pub record NoDot (ts : List grammar.Token) : Type 0 where
  pub first : grammar.Token
  pub rest : List grammar.Token
  pub parts : ts ≡ first ∷ rest
  pub differs : is_dot first ≡ false

module _ (s : Points) (i : ℕ) (g : i ≡ gap_length s) (h : i < length s) where
  behind-gap : tokens_in s ≡ tokens_in (get_or s i 0 ∷ drop (i + 1) s)
  behind-gap = from-gap s i g ∙ ap tokens_in (drop_more s i 0 h)

  pub dot-first : get_or s i 0 ≡ 46 → tokens_in s ≡ dot ∷ tokens_in (drop (i + 1) s)
  unfolding tokens_from
  dot-first e = behind-gap ∙ rw (e, scan-dot (drop (i + 1) s))

  pub no-dot-first : (get_or s i 0 ≡ 46 → ⊥) → NoDot (tokens_in s)
  unfolding tokens_from
  no-dot-first e = by (scan (get_or s i 0 ∷ drop (i + 1) s)) (scan-other (get_or s i 0) (drop (i + 1) s) no-space (ne_eqb (get_or s i 0) 46 e)) behind-gap
    where
      no-space : xml_space (get_or s i 0) ≡ false
      no-space = gap-not (get_or s i 0) (drop (i + 1) s) (rw (← drop_more s i 0 h, g) (gap-behind s))

      by : (f : Scan) → other f ≡ true → tokens_in s ≡ ahead f (λ n. tokens_from n (drop (i + 1) s)) → NoDot (tokens_in s)
      by end o q = absurd (false≢true o)
      by gap o q = absurd (false≢true o)
      by (found t n) o q = record { first = t; rest = tokens_from n (drop (i + 1) s); parts = q; differs = not-true (is_dot t) o }
      by (fault k) o q = record { first = bar; rest = []; parts = q; differs = refl }
