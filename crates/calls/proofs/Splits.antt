-- The frame at the front as code cuts it off, by what its header states: a law for a header that states too much, and one for the others, whose frame
-- is the record at the front.
-- Assumes nothing.
use Prim.Native.Nat.{ℕ, ◌+◌, ◌≤◌, ◌<◌}
use native.Mathlib.Omega.{arith}
use denote.Ref.{Bor}
use lib.Dec.{leb}
use lib.ListN.{length, take, drop}
use borrow.Author.Tests.{leb-true, leb-false}
use mathlib.Core.Path.{◌≡◌, refl, ap, sym, ◌∙◌}
use mathlib.Core.Bool.{Bool, true, false}
use mathlib.Core.Option.{some}
use Rattle.std.specs.declared.option.Option as code
use Rattle.std.specs.declared.option.Option.TheVariants.{Some, None}
use Rattle.numbers.specs.Numbers.{two}
use Rattle.records.specs.Readers.{Bytes}
use Rattle.session_spec.specs.Definitions.{frame}
use Rattle.frames.specs.Frames.{parts}
use Rattle.frames.proofs.Fronts.{frame-there, frame-none}
use Rattle.calls.specs.Buffers.{next_frame, FrameAt}
use Rattle.calls.proofs.Buffers.{frame-over, frame-cut, frame-whole}

as-parts : (xs : Bytes) (r : code.Option (Bor Bytes × Bor Bytes)) → next_frame xs ≡ parts r → FrameAt xs r
as-parts xs None e = e
as-parts xs (Some q) e = e

module _ (xs : Bytes) (l : 4 ≤ length xs) where
  pub split-over : 16384 < two xs 2 → (q : Bor Bytes × Bor Bytes) → q.0.now ≡ take 4 xs → q.1.now ≡ drop 4 xs → FrameAt xs (Some q)
  split-over h q a b = rw (a, b) (frame-over xs l h)

  same-frame : two xs 2 ≤ 16384 → next_frame xs ≡ frame xs
  same-frame k = by (leb (two xs 2 + 4) (length xs)) refl
    where
      by : (b : Bool) → leb (two xs 2 + 4) (length xs) ≡ b → next_frame xs ≡ frame xs
      by true t =
          let h = leb-true (two xs 2 + 4) (length xs) t in
          let c : 4 + two xs 2 ≡ two xs 2 + 4 = omega arith in
          frame-whole xs l k (omega (arith, h)) ∙ ap (λ (n : ℕ). some (take n xs, drop n xs)) c ∙ sym (frame-there xs h)
      by false t =
          let h = leb-false (two xs 2 + 4) (length xs) t in
          frame-cut xs l k (omega (arith, h)) ∙ sym (frame-none xs h)

  pub split-rest : two xs 2 ≤ 16384 → (r : code.Option (Bor Bytes × Bor Bytes)) → parts r ≡ frame xs → FrameAt xs r
  split-rest k r e = as-parts xs r (same-frame k ∙ sym e)
