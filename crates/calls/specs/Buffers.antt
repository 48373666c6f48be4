-- A BUFFER OF RECORDS: its frames, and what running them one after another answers, leaves and takes.
-- Assumes nothing.
use Rattle.std.specs.Prelude.{ℕ, ◌+◌, leb, ltb, length, take, drop, ◌≡◌, cond, List, [], ◌∷◌}
use Rattle.std.proofs.Math.Option.{none, some}
use Rattle.std.specs.declared.option.Option as code
use Rattle.std.specs.declared.option.Option.TheVariants.{Some, None}
use denote.Ref.{Bor}
use Rattle.numbers.specs.Numbers.{two}
use Rattle.records.specs.Readers.{Bytes, Reader}
use Rattle.session_spec.specs.Session.{World, Reply, taken, refused, step}
use Rattle.output_stores.specs.Stores.{standing, halves}

-- ---- frames

-- so many bytes, and those behind
unfoldable pub cut : ℕ → Reader Bytes
cut n xs = some (take n xs, drop n xs)

-- The frame at the front: a header and the body that it states, where both are whole. A whole header that states over 16,384 is handed in as it is.
unfoldable pub next_frame : Reader Bytes
next_frame xs =
    cond (ltb (length xs) 4) none
    (cond (ltb 16384 (two xs 2)) (cut 4 xs)
    (cond (leb (4 + two xs 2) (length xs)) (cut (4 + two xs 2) xs) none))

-- the frame and the bytes behind it, as code answers them
abbrev pub FrameAt : Bytes → code.Option (Bor Bytes × Bor Bytes) → Type 0
FrameAt xs None = next_frame xs ≡ none
FrameAt xs (Some q) = next_frame xs ≡ some (halves q)

-- those that stand in a buffer one behind the other
abbrev pub frames_of : Bytes → List Bytes
frames_of xs = standing next_frame xs

-- ---- running them

-- The reply of the last frame that was handed in, the world then, and the bytes of the frames that were taken.
pub record Ran : Type 0 where
  pub reply : Reply
  pub world : World
  pub bytes : ℕ

-- a frame that is taken, and then the rest; a refusal ends the run
unfoldable pub ran_on : Reply × World → (size : ℕ) → (World → Ran) → Ran
ran_on (taken, v) n rest = record { reply = (rest v).reply; world = (rest v).world; bytes = n + (rest v).bytes }
ran_on (refused c, v) n rest = record { reply = refused c; world = v; bytes = 0 }

unfoldable pub run_frames : World → List Bytes → Ran
run_frames w [] = record { reply = taken; world = w; bytes = 0 }
run_frames w (x ∷ xs) = ran_on (step w x) (length x) (λ v. run_frames v xs)

-- ---- the frames that are handed in: all up to the first that is refused, that one included

unfoldable pub handed_on : Reply × World → (World → List Bytes) → List Bytes
handed_on (taken, v) rest = rest v
handed_on (refused c, v) rest = []

unfoldable pub handed_in : World → List Bytes → List Bytes
handed_in w [] = []
handed_in w (x ∷ xs) = x ∷ handed_on (step w x) (λ v. handed_in v xs)
