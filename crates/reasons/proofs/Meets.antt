-- PASSING IS THE GRAMMAR: a text passes the checker exactly if it is in the grammar of 3.11.6 with every prefix
-- declared. Alternative by alternative: the pieces between '|' joined again are the text, and a piece passes exactly if its tokens are a path.
-- Assumes nothing.
use Prim.Native.Nat.{ℕ}
use lib.Dec.{eqb}
use borrow.Author.Tests.{eqb-true}
use mathlib.Core.Path.{◌≡◌, refl, ap, sym, ◌∙◌, subst}
use mathlib.Core.Bool.{Bool, true, false, cond}
use mathlib.Core.List.{List, [], ◌∷◌, ◌++◌}
use mathlib.Core.Option.{Option, none, some}
use Rattle.std.proofs.lemmas.Bool.{and_parts}
use Rattle.lists.specs.Lists.{all, All}
use Rattle.characters.specs.Ranges.{in_ranges}
use Rattle.characters.specs.Spaces.{xml_space}
use Rattle.grammar.specs.Tokens.{Points, Token, Tokens}
use Rattle.grammar.specs.Tokens.Token.{bar}
use Rattle.grammar.specs.Paths.{Kind, Path, Expression, TokenDeclared, InGrammar}
use Rattle.grammar.specs.Paths.Expression.{one, or}
use Rattle.reasons.specs.Reasons.{X1-empty, X6-empty-alternative, Tokenized, read, wrong, tokenize, validate_path, path_of, alternative, first_of, alternatives, on_front, split_at, reason}
use Rattle.reasons.proofs.Chars.{other-than, all_pass}
use Rattle.reasons.proofs.Tokenizes.{space-gap, tokenize-reads, tokens-read, Clear, tokens-clear, tokens-join, tokens-part}
use Rattle.reasons.proofs.Walks.{no-some, path-pass, pass-path, path-clear}
use Rattle.lists.proofs.Folds.{All-append, All-parts}

-- ---- the pieces of a text, and the text again

joined : List Points → Points
joined [] = []
joined (s ∷ []) = s
joined (s ∷ t ∷ ss) = s ++ (124 ∷ joined (t ∷ ss))

front-joined : (c : ℕ) (ss : List Points) → joined (on_front c ss) ≡ c ∷ joined ss
unfolding joined on_front
front-joined c [] = refl
front-joined c (s ∷ []) = refl
front-joined c (s ∷ t ∷ ss) = refl

-- a list with a first text
abbrev Some : List Points → Type 0
Some [] = ⊥
Some (s ∷ ss) = Unit {0}

front-some : (c : ℕ) (ss : List Points) → Some (on_front c ss)
unfolding on_front
front-some c [] = tt
front-some c (s ∷ ss) = tt

split-some : (s : Points) → Some (split_at 124 s)
unfolding split_at
split-some [] = tt
split-some (c ∷ s) = by (eqb c 124)
  where
    by : (b : Bool) → Some (cond b ([] ∷ split_at 124 s) (on_front c (split_at 124 s)))
    by true = tt
    by false = front-some c (split_at 124 s)

bar-joined : (ss : List Points) → Some ss → joined ([] ∷ ss) ≡ 124 ∷ joined ss
unfolding joined
bar-joined [] h = absurd h
bar-joined (s ∷ ss) h = refl

split-joined : (s : Points) → joined (split_at 124 s) ≡ s
unfolding split_at joined
split-joined [] = refl
split-joined (c ∷ s) = by (eqb c 124) refl (split-joined s)
  where
    by : (b : Bool) → eqb c 124 ≡ b → joined (split_at 124 s) ≡ s → joined (cond b ([] ∷ split_at 124 s) (on_front c (split_at 124 s))) ≡ c ∷ s
    by true h e = bar-joined (split_at 124 s) (split-some s) ∙ (ap (λ (l : Points). 124 ∷ l) e ∙ ap (λ (x : ℕ). x ∷ s) (sym (eqb-true c 124 h)))
    by false h e = front-joined c (split_at 124 s) ∙ ap (λ (l : Points). c ∷ l) e

split-clear : (s : Points) → All Clear s → split_at 124 s ≡ s ∷ []
unfolding split_at on_front
split-clear [] a = refl
split-clear (c ∷ s) a = rw (a.0, split-clear s a.1)

split-bar : (s r : Points) → All Clear s → split_at 124 (s ++ (124 ∷ r)) ≡ s ∷ split_at 124 r
unfolding split_at on_front
split-bar [] r a = refl
split-bar (c ∷ s) r a = rw (a.0, split-bar s r a.1)

-- ---- what passes is in the grammar

module _ (k : Kind) (ds : List Points) where
  -- an alternative that is a path
  record OnePath (s : Points) : Type 0 where
    pub tokens : List Token
    pub spelled : Tokens s tokens
    pub path : Path k tokens
    pub known : All (TokenDeclared ds) tokens

  alternative-in : (s : Points) → alternative k ds s ≡ none → OnePath s
  unfolding alternative
  alternative-in s e = by (tokenize 0 s) refl e
    where
      by : (l : Tokenized) → tokenize 0 s ≡ l → path_of k ds l ≡ none → OnePath s
      by (read ts) h e =
          let q = path-pass k ds ts e in
          record { tokens = ts; spelled = tokenize-reads 0 s h; path = q.0; known = q.1 }
      by (wrong j) h e = no-some e

  first-none : (a b : Option ℕ) → first_of a b ≡ none → (a ≡ none) × (b ≡ none)
  first-none none b e = (refl, e)
  first-none (some j) b e = no-some e

  alternatives-in : (ss : List Points) → Some ss → alternatives k ds ss ≡ none → InGrammar k (joined ss) ds
  unfolding joined alternatives
  alternatives-in [] h e = absurd h
  alternatives-in (s ∷ []) h e =
      let q = alternative-in s (first-none (alternative k ds s) none e).0 in
      record { tokens = q.tokens; spelled = q.spelled; expression = one q.path; prefixes = q.known }
  alternatives-in (s ∷ t ∷ ss) h e =
      let f = first-none (alternative k ds s) (alternatives k ds (t ∷ ss)) e in
      let q = alternative-in s f.0 in
      let r = alternatives-in (t ∷ ss) tt f.1 in
      record {
        tokens = q.tokens ++ (bar ∷ r.tokens);
        spelled = tokens-join q.spelled r.spelled;
        expression = or q.path r.expression;
        prefixes = All-append (TokenDeclared ds) q.tokens (bar ∷ r.tokens) q.known (tt, r.prefixes);
      }

  passes-in : (s : Points) → alternatives k ds (split_at 124 s) ≡ none → InGrammar k s ds
  passes-in s e =
      let q = split-joined s in
      subst (λ (t : Points). InGrammar k t ds) q (alternatives-in (split_at 124 s) (split-some s) e)

-- ---- what is in the grammar passes

module _ (ds : List Points) where
  in-alternative : {k : Kind} {ts : List Token} → Path k ts → (s : Points) → Tokens s ts → All (TokenDeclared ds) ts
      → alternative k ds s ≡ none
  unfolding alternative
  in-alternative h s t d = rw (tokens-read t (path-clear h)) (pass-path ds h d)

  in-alternatives : {k : Kind} {ts : List Token} → Expression k ts → (s : Points) → Tokens s ts → All (TokenDeclared ds) ts
      → alternatives k ds (split_at 124 s) ≡ none
  unfolding alternatives
  in-alternatives (one h) s t d = rw (split-clear s (tokens-clear t (path-clear h)), in-alternative h s t d)
  in-alternatives (or {k = k} {s = ts} {r = us} h g) s t d =
      let q = tokens-part t ts us refl in
      let dl = (All-parts (TokenDeclared ds) ts (bar ∷ us) d).0 in
      let dr = (All-parts (TokenDeclared ds) ts (bar ∷ us) d).1.1 in
      let a : alternative k ds q.left ≡ none = in-alternative h q.left q.before dl in
      let b : alternatives k ds (split_at 124 q.right) ≡ none = in-alternatives g q.right q.after dr in
      let c = split-bar q.left q.right (tokens-clear q.before (path-clear h)) in
      let e : split_at 124 s ≡ q.left ∷ split_at 124 q.right = ap (split_at 124) (sym q.joined) ∙ c in
      rw (e, a, b)

-- ---- an empty text does not pass its alternatives either

blank-read : (s : Points) → all xml_space s ≡ true → tokenize 0 s ≡ read []
unfolding tokenize
blank-read [] h = refl
blank-read (c ∷ s) h = let p = and_parts (xml_space c) (all xml_space s) h in rw (space-gap c s p.0) (blank-read s p.1)

blank-clear : (s : Points) → all xml_space s ≡ true → All Clear s
unfolding xml_space in_ranges
blank-clear = all_pass xml_space Clear (other-than xml_space 124 refl)

blank-fails : (k : Kind) (ds : List Points) (s : Points) → all xml_space s ≡ true → alternatives k ds (split_at 124 s) ≡ some X6-empty-alternative
unfolding alternatives alternative validate_path
blank-fails k ds s h = rw (split-clear s (blank-clear s h), blank-read s h)

-- ---- the theorem

passing-in : (k : Kind) (s : Points) (ds : List Points) → reason k s ds ≡ none → InGrammar k s ds
unfolding reason
passing-in k s ds = by (all xml_space s)
  where
    by : (b : Bool) → cond b (some X1-empty) (alternatives k ds (split_at 124 s)) ≡ none → InGrammar k s ds
    by true e = no-some e
    by false e = passes-in k ds s e

in-passing : (k : Kind) (s : Points) (ds : List Points) → InGrammar k s ds → reason k s ds ≡ none
unfolding reason
in-passing k s ds g = by (all xml_space s) refl (in-alternatives ds g.expression s g.spelled g.prefixes)
  where
    by : (b : Bool) → all xml_space s ≡ b → alternatives k ds (split_at 124 s) ≡ none
        → cond b (some X1-empty) (alternatives k ds (split_at 124 s)) ≡ none
    by true h e = no-some (sym (blank-fails k ds s h) ∙ e)
    by false h e = e

-- For every kind, text and declared prefixes.
pub checker-meets-grammar : (k : Kind) (text : Points) (declared : List Points)
    → (reason k text declared ≡ none → InGrammar k text declared) × (InGrammar k text declared → reason k text declared ≡ none)
checker-meets-grammar k text declared = (passing-in k text declared, in-passing k text declared)
