-- A PASS IS THE GRAMMAR: on bytes that no refusal meets, the checker's answer is Pass exactly if the path's code points are in the grammar of 3.11.6
-- with every prefix declared. By `checker-meets-grammar`: no reason is a pass.
-- And a pass, or any reason, says that no refusal was met, by the tests in their order; so the door's number 0 says both.
-- Assumes nothing.
use Prim.Native.Nat.{ℕ}
use native.Mathlib.Omega.{arith}
use borrow.Author.Tests.{le-ltb, ltb-true, ltb-false}
use lib.Dec.{ltb}
use lib.ListN.{length}
use mathlib.Core.Path.{◌≡◌, refl, ap, sym, ◌∙◌}
use mathlib.Core.Bool.{Bool, true, false, ◌&&◌, ◌||◌}
use mathlib.Core.Logic.{◌⊎◌, inl, inr, ⊎_elim}
use mathlib.Core.Option.{Option, none, some}
use Rattle.texts.specs.Texts.{Text}
use Rattle.utf8.specs.Utf8.{utf8, decode}
use Rattle.grammar.specs.Paths.{InGrammar}
use Rattle.reasons.specs.Reasons.{reason}
use Rattle.reasons.proofs.Meets.{checker-meets-grammar}
use Rattle.prefixes.specs.Prefixes.{prefixes_of}
use Rattle.checker.specs.Answers.Answer.{Pass, Refused}
use Rattle.checker.specs.Answers.{kind_byte, answer_of, checked, number_of}
use Rattle.checker.specs.Parts.{Taken}
use Rattle.checker.proofs.Refusals.{turned-kind, turned-text, turned-long, turned_none}

no-reason : (o : Option ℕ) → answer_of o ≡ Pass → o ≡ none
no-reason none e = refl
no-reason (some k) e = cc

-- with no refusal, what the path's code points give
abbrev given-reason : ℕ → Text → Text → Option ℕ
given-reason kind path prefixes = reason (kind_byte kind) (decode path) (prefixes_of prefixes)

given : (kind : ℕ) (path prefixes : Text) → Taken kind path prefixes → checked kind path prefixes ≡ answer_of (given-reason kind path prefixes)
given kind path prefixes t =
    (turned_none kind path prefixes t.known (rw t.text t.words) (rw (le-ltb 255 (length path) t.short) (le-ltb 16384 (length prefixes) t.few))).1

-- For every kind byte, path and text of prefixes that no refusal meets.
pub pass-is-grammar : (kind : ℕ) (path prefixes : Text) → Taken kind path prefixes
    → (checked kind path prefixes ≡ Pass → InGrammar (kind_byte kind) (decode path) (prefixes_of prefixes))
    × (InGrammar (kind_byte kind) (decode path) (prefixes_of prefixes) → checked kind path prefixes ≡ Pass)
pass-is-grammar kind path prefixes t =
    let g = checker-meets-grammar (kind_byte kind) (decode path) (prefixes_of prefixes) in
    let a = given kind path prefixes t in
    ((λ e. g.0 (no-reason (given-reason kind path prefixes) (sym a ∙ e))), (λ i. a ∙ ap answer_of (g.1 i)))

-- ---- which input is refused

-- the input meets a refusal, whose number is not 0
record RefusedBy (kind : ℕ) (path prefixes : Text) : Type 0 where
  number : ℕ
  some_number : number ≡ 0 → ⊥
  answer : checked kind path prefixes ≡ Refused number

-- it meets one or none: each test in its order
module _ (kind : ℕ) (path prefixes : Text) where
  met : (n : ℕ) → checked kind path prefixes ≡ Refused n → (n ≡ 0 → ⊥) → Taken kind path prefixes ⊎ RefusedBy kind path prefixes
  met n e z = inr (record { number = n; some_number = z; answer = e })

  looked-at : Taken kind path prefixes ⊎ RefusedBy kind path prefixes
  looked-at = by (ltb 1 kind) refl (utf8 path && utf8 prefixes) refl (ltb 255 (length path) || ltb 16384 (length prefixes)) refl
    where
      by : (k : Bool) → ltb 1 kind ≡ k → (t : Bool) → (utf8 path && utf8 prefixes) ≡ t → (l : Bool) → (ltb 255 (length path) || ltb 16384 (length prefixes)) ≡ l
          → Taken kind path prefixes ⊎ RefusedBy kind path prefixes
      by true k t ht l hl = met 4 (turned-kind kind path prefixes (ltb-true 1 kind k)) (λ z. omega arith)
      by false k false ht l hl = met 3 (turned-text kind path prefixes (ltb-false 1 kind k) ht) (λ z. omega arith)
      by false k true ht true hl = met 5 (turned-long kind path prefixes (ltb-false 1 kind k) ht hl) (λ z. omega arith)
      by false k true ht false hl = inl (turned_none kind path prefixes (ltb-false 1 kind k) ht hl).0

no-refusal : (o : Option ℕ) (n : ℕ) → answer_of o ≡ Refused n → ⊥
no-refusal none n e = let z : ◌≡◌ {A = ℕ} 0 1 = cc in absurd (omega arith)
no-refusal (some k) n e = let z : ◌≡◌ {A = ℕ} 0 1 = cc in absurd (omega arith)

-- NO REFUSAL IS ANSWERED exactly where kind byte, UTF-8 and lengths are as they must be.
pub unrefused-is-taken : (kind : ℕ) (path prefixes : Text)
    → (((n : ℕ) → checked kind path prefixes ≡ Refused n → ⊥) → Taken kind path prefixes)
    × (Taken kind path prefixes → (n : ℕ) → checked kind path prefixes ≡ Refused n → ⊥)
unrefused-is-taken kind path prefixes = (
  (λ f. ⊎_elim (λ t. t) (λ r. absurd (f r.number r.answer)) (looked-at kind path prefixes)),
  (λ t n e. no-refusal (given-reason kind path prefixes) n (sym (given kind path prefixes t) ∙ e)),
)

-- A PASS SAYS that the kind byte is 0 or 1, that path and prefixes are UTF-8, and that they have at most 255 and 16,384 bytes.
pub pass-is-taken : (kind : ℕ) (path prefixes : Text) → checked kind path prefixes ≡ Pass → Taken kind path prefixes
pass-is-taken kind path prefixes e = (unrefused-is-taken kind path prefixes).0 (λ n f. no-refusal none n (sym e ∙ f))

-- ---- the number at the door

no_zero : (o : Option ℕ) → number_of (answer_of o) ≡ 0 → o ≡ none
no_zero none e = refl
no_zero (some k) e = absurd (omega arith)

zero-is-pass : (kind : ℕ) (path prefixes : Text) → number_of (checked kind path prefixes) ≡ 0 → checked kind path prefixes ≡ Pass
zero-is-pass kind path prefixes e =
    ⊎_elim
    (λ t. let a = given kind path prefixes t in a ∙ ap answer_of (no_zero (given-reason kind path prefixes) (ap number_of (sym a) ∙ e)))
    (λ r. absurd (r.some_number (ap number_of (sym r.answer) ∙ e)))
    (looked-at kind path prefixes)

-- THE DOOR ANSWERS 0 exactly where no refusal is met and the path is in the grammar, with every prefix declared.
pub zero-is-grammar : (kind : ℕ) (path prefixes : Text)
    → (number_of (checked kind path prefixes) ≡ 0 → Taken kind path prefixes × InGrammar (kind_byte kind) (decode path) (prefixes_of prefixes))
    × (Taken kind path prefixes → InGrammar (kind_byte kind) (decode path) (prefixes_of prefixes) → number_of (checked kind path prefixes) ≡ 0)
zero-is-grammar kind path prefixes = (
  (λ e.
      let p = zero-is-pass kind path prefixes e in
      let t = pass-is-taken kind path prefixes p in
      (t, (pass-is-grammar kind path prefixes t).0 p)),
  (λ t g. ap number_of ((pass-is-grammar kind path prefixes t).1 g)),
)
