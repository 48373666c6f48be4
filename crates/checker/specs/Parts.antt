-- What the checker's parts promise each other: the kind that a byte names, which input no refusal meets, the refusal that one meets, and a decoded path.
-- Assumes nothing.
use Rattle.std.specs.Prelude.{ℕ, ◌<◌, ◌≤◌, length, take, ◌≡◌, true, List}
use Rattle.texts.specs.Texts.{Text}
use Rattle.utf8.specs.Utf8.{utf8, decode}
use Rattle.reasons.specs.Reasons.{reason}
use Rattle.prefixes.specs.Prefixes.{prefixes_of}
use Rattle.std.specs.declared.result.Result.{Result}
use Rattle.std.specs.declared.result.Result.TheVariants.{Ok, Err}
use Rattle.path_steps.specs.declared.PathKind.{PathKind}
use Rattle.path_steps.specs.Steps.{kind_of}
use Rattle.checker.specs.declared.Refusal.{Refusal}
use Rattle.checker.specs.declared.Refusal.TheVariants.{UnknownKind}
use Rattle.checker.specs.Answers.{refusal_number, kind_byte, answer_of, checked}
use Rattle.checker.specs.Answers.Answer.{Refused}

-- the kind that a byte names, or that it names none
abbrev pub Named : ℕ → Result PathKind Refusal → Type 0
Named kind (Ok n) = (kind ≤ 1) × (kind_of n ≡ kind_byte kind)
Named kind (Err r) = (1 < kind) × (r ≡ UnknownKind)

-- input that no refusal meets
pub record Taken (kind : ℕ) (path prefixes : Text) : Type 0 where
  pub known : kind ≤ 1
  pub text : utf8 path ≡ true
  pub words : utf8 prefixes ≡ true
  pub short : length path ≤ 255
  pub few : length prefixes ≤ 16384

-- the refusal that the input meets, or none
abbrev pub Turned : ℕ → Text → Text → Result (Unit {0}) Refusal → Type 0
Turned kind path prefixes (Ok x) = Taken kind path prefixes × (checked kind path prefixes ≡ answer_of (reason (kind_byte kind) (decode path) (prefixes_of prefixes)))
Turned kind path prefixes (Err r) = checked kind path prefixes ≡ Refused (refusal_number r)

-- the first n of the points are those of the path
pub record Decoded (path : Text) (points : List ℕ) (n : ℕ) : Type 0 where
  pub are : take n points ≡ decode path
  pub fit : n ≤ length path
