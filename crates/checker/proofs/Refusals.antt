-- The refusals in their order, and the answer where there is none: a law for each way that `turn_back` and `check_path` return, by the tests that lead there.
-- Assumes nothing.
use Prim.Native.Nat.{ℕ, ◌≤◌, ◌<◌}
use lib.Dec.{ltb}
use lib.ListN.{length}
use borrow.Author.Tests.{lt-ltb, le-ltb, ltb-false}
use mathlib.Core.Path.{◌≡◌, ap, sym, ◌∙◌}
use mathlib.Core.Bool.{true, false, ◌&&◌, ◌||◌}
use mathlib.Core.List.{List}
use Rattle.texts.specs.Texts.{Text}
use Rattle.utf8.specs.Utf8.{utf8, decode}
use Rattle.grammar.specs.Tokens.{Points}
use Rattle.grammar.specs.Paths.{Kind}
use Rattle.reasons.specs.Reasons.{reason}
use mathlib.Core.Option.{Option}
use Rattle.std.proofs.lemmas.Bool.{and_parts, or_parts}
use Rattle.prefixes.specs.Prefixes.{prefixes_of, words_of}
use Rattle.prefixes.proofs.Decoded.{words-are-prefixes}
use Rattle.path_steps.specs.declared.PathKind.{PathKind}
use Rattle.path_steps.specs.Steps.{kind_of}
use Rattle.checker.specs.Answers.{kind_byte, answer_of, checked}
use Rattle.checker.specs.Answers.Answer.{Refused}
use Rattle.checker.specs.Parts.{Taken}

-- ---- the refusals

module _ (kind : ℕ) (path prefixes : Text) where
  pub turned-kind : 1 < kind → checked kind path prefixes ≡ Refused 4
  unfolding checked
  turned-kind h = rw (lt-ltb 1 kind h)

  module _ (k : kind ≤ 1) where
    pub turned-text : (utf8 path && utf8 prefixes) ≡ false → checked kind path prefixes ≡ Refused 3
    unfolding checked
    turned-text h = rw (le-ltb 1 kind k, h)

    module _ (p : (utf8 path && utf8 prefixes) ≡ true) where
      pub turned-long : (ltb 255 (length path) || ltb 16384 (length prefixes)) ≡ true → checked kind path prefixes ≡ Refused 5
      unfolding checked
      turned-long h = rw (le-ltb 1 kind k, p, h)

      pub turned_none : (ltb 255 (length path) || ltb 16384 (length prefixes)) ≡ false
          → Taken kind path prefixes × (checked kind path prefixes ≡ answer_of (reason (kind_byte kind) (decode path) (prefixes_of prefixes)))
      unfolding checked
      turned_none h =
          let q = and_parts (utf8 path) (utf8 prefixes) p in
          let l = or_parts (ltb 255 (length path)) (ltb 16384 (length prefixes)) h in (
            record { known = k; text = q.0; words = q.1; short = ltb-false 255 (length path) l.0; few = ltb-false 16384 (length prefixes) l.1 },
            rw (le-ltb 1 kind k, p, h),
          )

-- ---- the answer

module _ (kind : ℕ) (path prefixes : Text) (t : Taken kind path prefixes)
    (a : checked kind path prefixes ≡ answer_of (reason (kind_byte kind) (decode path) (prefixes_of prefixes))) where
  pub answer-given : (n : PathKind) → kind_of n ≡ kind_byte kind → (o : Option ℕ) → o ≡ reason (kind_of n) (decode path) (words_of prefixes) → answer_of o ≡ checked kind path prefixes
  answer-given n k o e =
      ap answer_of
      (e
      ∙ ap (λ (k : Kind). reason k (decode path) (words_of prefixes)) k
      ∙ ap (λ (ds : List Points). reason (kind_byte kind) (decode path) ds) (words-are-prefixes prefixes t.words))
      ∙ sym a
