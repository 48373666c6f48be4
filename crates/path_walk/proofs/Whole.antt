-- One alternative, and all of them: a path that passes holds no '|', so that no fault stands in it; the first reason is the first piece's, or that of the others.
-- Assumes nothing.
use Prim.Native.Nat.{ℕ}
use mathlib.Core.Path.{◌≡◌, refl, ap, sym, ◌∙◌}
use mathlib.Core.Bool.{true, false}
use mathlib.Core.List.{List, [], ◌∷◌}
use mathlib.Core.Option.{none, some}
use Rattle.lists.specs.Lists.{all, All}
use Rattle.characters.specs.Spaces.{xml_space}
use Rattle.grammar.specs.Tokens.{Points, Token}
use Rattle.grammar.specs.Paths.{Kind}
use Rattle.reasons.specs.Reasons.{Tokenized, read, wrong, tokenize, validate_path, path_of, alternative, first_of, alternatives, split_at, reason}
use Rattle.reasons.proofs.Tokenizes.{NoBar}
use Rattle.reasons.proofs.Walks.{no-some, path-pass, path-clear}
use Rattle.tokens.specs.Places.{tokens_in, fault_of}
use Rattle.tokens.proofs.Firsts.{clear-read, faultless-read}

-- ---- one alternative

pub passes-no-bar : (k : Kind) (ds : List Points) (ts : List Token) → validate_path k ds ts ≡ none → All NoBar ts
passes-no-bar k ds ts e = path-clear (path-pass k ds ts e).0

fault-first : (k : Kind) (ds : List Points) (l : Tokenized) (j : ℕ) → some j ≡ fault_of l → some j ≡ path_of k ds l
fault-first k ds (read ts) j e = no-some e
fault-first k ds (wrong i) j e = e

module _ (k : Kind) (ds : List Points) (s : Points) where
  pub alternative-passes : none ≡ validate_path k ds (tokens_in s) → none ≡ alternative k ds s
  unfolding alternative
  alternative-passes e = e ∙ ap (path_of k ds) (sym (clear-read 0 s (passes-no-bar k ds (tokens_in s) (sym e))))

  pub alternative-path : (j : ℕ) → some j ≡ validate_path k ds (tokens_in s) → none ≡ fault_of (tokenize 0 s) → some j ≡ alternative k ds s
  unfolding alternative
  alternative-path j e f = e ∙ ap (path_of k ds) (sym (faultless-read 0 s (sym f)))

  pub alternative-fault : (j : ℕ) → some j ≡ fault_of (tokenize 0 s) → some j ≡ alternative k ds s
  unfolding alternative
  alternative-fault j e = fault-first k ds (tokenize 0 s) j e

-- ---- the alternatives: the first and those behind it, or none

alternatives-first : (k : Kind) (ds : List Points) (s : Points) (ss : List Points) → alternatives k ds (s ∷ ss) ≡ first_of (alternative k ds s) (alternatives k ds ss)
unfolding alternatives
alternatives-first k ds s ss = refl

module _ (k : Kind) (ds : List Points) (s : Points) (ss us : List Points) (e : us ≡ s ∷ ss) where
  pub alternatives-fail : (j : ℕ) → some j ≡ alternative k ds s → some j ≡ alternatives k ds us
  alternatives-fail j g = rw (e, alternatives-first k ds s ss, ← g)

  pub alternatives-on : none ≡ alternative k ds s → alternatives k ds ss ≡ alternatives k ds us
  alternatives-on g = rw (e, alternatives-first k ds s ss, ← g)

pub alternatives-end : (k : Kind) (ds us : List Points) → us ≡ [] → none ≡ alternatives k ds us
unfolding alternatives
alternatives-end k ds us e = rw e

-- ---- the whole text

module _ (k : Kind) (ds : List Points) (s : Points) where
  pub reason-blank : true ≡ all xml_space s → some 1 ≡ reason k s ds
  unfolding reason
  reason-blank e = rw (← e)

  pub reason-alternatives : false ≡ all xml_space s → alternatives k ds (split_at 124 s) ≡ reason k s ds
  unfolding reason
  reason-alternatives e = rw (← e)
