-- THE CHECKER'S ANSWER for any kind byte, path and text of prefixes, and the number that the door gives for it.
-- Assumes nothing.
use Rattle.std.specs.Prelude.{ℕ, ◌+◌, eqb, ltb, length, cond, not, ◌&&◌, ◌||◌}
use Rattle.std.proofs.Math.Option.{Option, none, some}
use Rattle.texts.specs.Texts.{Text}
use Rattle.utf8.specs.Utf8.{utf8, decode}
use Rattle.grammar.specs.Paths.{Kind}
use Rattle.grammar.specs.Paths.Kind.{selector, field}
use Rattle.reasons.specs.Reasons.{reason}
use Rattle.prefixes.specs.Prefixes.{prefixes_of}
use Rattle.std.specs.declared.result.Result.{Result}
use Rattle.std.specs.declared.result.Result.TheVariants.{Ok, Err}
use Rattle.tokens.specs.Places.{number}
use Rattle.checker.specs.declared.Refusal.{Refusal}
use Rattle.checker.specs.declared.Refusal.TheVariants.{NotUtf8, UnknownKind, TooLong}
use Rattle.checker.specs.declared.Fault.{Fault}
use Rattle.checker.specs.declared.Fault.TheVariants as fault

-- an answer: a pass, a reason or a refusal by its number
pub data Answer : Type 0 where
  Pass : Answer
  Reason Refused : ℕ → Answer

abbrev pub refusal_number : Refusal → ℕ
refusal_number NotUtf8 = 3
refusal_number UnknownKind = 4
refusal_number TooLong = 5

-- what the code answers
abbrev pub told : Result (Unit {0}) Fault → Answer
told (Ok x) = Pass
told (Err (fault.Reason k)) = Reason (number k)
told (Err (fault.Refused k)) = Refused (refusal_number k)

-- the kind that a kind byte names: 0 selector, 1 field
unfoldable pub kind_byte : ℕ → Kind
kind_byte k = cond (eqb k 0) selector field

-- no reason is a pass
abbrev pub answer_of : Option ℕ → Answer
answer_of none = Pass
answer_of (some k) = Reason k

-- 4 for another kind byte; 3 if path or prefixes aren't UTF-8; 5 for a path over 255 or prefixes over 16,384 bytes; else what the path's code points give
unfoldable pub checked : ℕ → Text → Text → Answer
checked kind path prefixes =
    cond (ltb 1 kind) (Refused 4)
    (cond (not (utf8 path && utf8 prefixes)) (Refused 3)
    (cond (ltb 255 (length path) || ltb 16384 (length prefixes)) (Refused 5)
    (answer_of (reason (kind_byte kind) (decode path) (prefixes_of prefixes)))))

-- at the door: pass 0, refusal n is n, reason Xk is 100 + k
abbrev pub number_of : Answer → ℕ
number_of Pass = 0
number_of (Refused n) = n
number_of (Reason k) = 100 + k
