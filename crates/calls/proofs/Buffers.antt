-- A run over a buffer, frame by frame: what is left to run, behind what was taken, is what the whole run comes to. What decodes goes on decoding, so one test is enough.
-- Assumes nothing.
use Prim.Native.Nat.{ℕ, ◌+◌, ◌≤◌, ◌<◌}
use native.Mathlib.Nat.{add_assoc, zero-add}
use native.Mathlib.Omega.{arith}
use borrow.Author.Tests.{lt-ltb, le-ltb, le-leb, lt-leb, leb-true, ltb-false}
use lib.Dec.{leb, ltb}
use lib.ListN.{length, take, drop, length-drop}
use lib.Seq.{drop-drop, length-take-le}
use mathlib.Core.Path.{◌≡◌, refl, ap, sym, ◌∙◌}
use mathlib.Core.Bool.{Bool, true, false, cond}
use mathlib.Core.List.{List, ◌∷◌}
use mathlib.Core.Option.{Option, none, some, some-injective}
use Rattle.lists.specs.Lists.{foldl}
use Rattle.numbers.specs.Numbers.{two}
use Rattle.records.specs.Readers.{Bytes}
use Rattle.records.specs.Refusals.{Refusal}
use Rattle.records.specs.Records.{parse}
use Rattle.session_spec.specs.Session.{World, Session, Reply, taken, refused, decode, next, step}
use Rattle.session_spec.specs.Runs.{taken_of}
use Rattle.output_stores.proofs.Walks.{Shortens, standing_on, standing-stop}
use Rattle.runs.proofs.Refused.{refused-keeps}
use Rattle.runs.proofs.WellFormed.{step-decodes}
use Rattle.calls.specs.Buffers.{cut, next_frame, frames_of, Ran, ran_on, run_frames}

-- ---- the frame at the front

module _ (xs : Bytes) where
  pub frame-short : length xs < 4 → next_frame xs ≡ none
  unfolding next_frame
  frame-short h = rw (lt-ltb (length xs) 4 h)

  module _ (l : 4 ≤ length xs) where
    pub frame-over : 16384 < two xs 2 → next_frame xs ≡ some (take 4 xs, drop 4 xs)
    unfolding next_frame cut
    frame-over h = rw (le-ltb (length xs) 4 l, lt-ltb 16384 (two xs 2) h)

    module _ (k : two xs 2 ≤ 16384) where
      pub frame-cut : length xs < 4 + two xs 2 → next_frame xs ≡ none
      unfolding next_frame
      frame-cut h = rw (le-ltb (length xs) 4 l, le-ltb 16384 (two xs 2) k, lt-leb (4 + two xs 2) (length xs) h)

      pub frame-whole : 4 + two xs 2 ≤ length xs → next_frame xs ≡ some (take (4 + two xs 2) xs, drop (4 + two xs 2) xs)
      unfolding next_frame cut
      frame-whole h = rw (le-ltb (length xs) 4 l, le-ltb 16384 (two xs 2) k, le-leb (4 + two xs 2) (length xs) h)

pub frame-shortens : Shortens next_frame
unfolding next_frame cut
frame-shortens xs f r e = by (ltb (length xs) 4) refl (ltb 16384 (two xs 2)) (leb (4 + two xs 2) (length xs)) e
  where
    shorter : (n : ℕ) → 4 ≤ n → 4 ≤ length xs → ◌≡◌ {A = Option (Bytes × Bytes)} (some (take n xs, drop n xs)) (some (f, r)) → length r < length xs
    shorter n a b q =
        let z : drop n xs ≡ r = ap (λ (p : Bytes × Bytes). p.1) (some-injective (take n xs, drop n xs) (f, r) q) in
        omega (arith, ap length z, length-drop n xs)

    by : (a : Bool) → ltb (length xs) 4 ≡ a → (b c : Bool)
        → ◌≡◌ {A = Option (Bytes × Bytes)} (cond a none (cond b (some (take 4 xs, drop 4 xs)) (cond c (some (take (4 + two xs 2) xs, drop (4 + two xs 2) xs)) none))) (some (f, r))
        → length r < length xs
    by true p b c q = let z : ◌≡◌ {A = ℕ} 0 1 = cc in absurd (omega arith)
    by false p true c q = shorter 4 (omega arith) (ltb-false (length xs) 4 p) q
    by false p false true q = shorter (4 + two xs 2) (omega arith) (ltb-false (length xs) 4 p) q
    by false p false false q = let z : ◌≡◌ {A = ℕ} 0 1 = cc in absurd (omega arith)

-- it has a byte at least, and is cut off the front
pub record CutOff (xs f r : Bytes) : Type 0 where
  pub long : 0 < length f
  pub inside : length f ≤ length xs
  pub behind : r ≡ drop (length f) xs

pub frame-is : (xs f r : Bytes) → next_frame xs ≡ some (f, r) → CutOff xs f r
unfolding next_frame cut
frame-is xs f r e = by (ltb (length xs) 4) refl (ltb 16384 (two xs 2)) (leb (4 + two xs 2) (length xs)) refl e
  where
    long : (n : ℕ) → 4 ≤ n → n ≤ length xs → ◌≡◌ {A = Option (Bytes × Bytes)} (some (take n xs, drop n xs)) (some (f, r)) → CutOff xs f r
    long n a b q =
        let s = some-injective (take n xs, drop n xs) (f, r) q in
        let z : take n xs ≡ f = ap (λ (p : Bytes × Bytes). p.0) s in
        let m : length f ≡ n = ap length (sym z) ∙ length-take-le n xs b in
        record { long = omega arith; inside = omega arith; behind = sym (ap (λ (p : Bytes × Bytes). p.1) s) ∙ ap (λ (k : ℕ). drop k xs) (sym m) }

    by : (a : Bool) → ltb (length xs) 4 ≡ a → (b c : Bool) → leb (4 + two xs 2) (length xs) ≡ c
        → ◌≡◌ {A = Option (Bytes × Bytes)} (cond a none (cond b (some (take 4 xs, drop 4 xs)) (cond c (some (take (4 + two xs 2) xs, drop (4 + two xs 2) xs)) none))) (some (f, r))
        → CutOff xs f r
    by true p b c k q = let z : ◌≡◌ {A = ℕ} 0 1 = cc in absurd (omega arith)
    by false p true c k q = long 4 (omega arith) (ltb-false (length xs) 4 p) q
    by false p false true k q = long (4 + two xs 2) (omega arith) (leb-true (4 + two xs 2) (length xs) k) q
    by false p false false k q = let z : ◌≡◌ {A = ℕ} 0 1 = cc in absurd (omega arith)

-- where no byte was taken, all is as it was
pub untaken-keeps : (w : World) (buffer : Bytes) → (run_frames w (frames_of buffer)).bytes ≡ 0 → (run_frames w (frames_of buffer)).world ≡ w
unfolding run_frames ran_on
untaken-keeps w buffer e = by (next_frame buffer) refl
  where
    by : (o : Option (Bytes × Bytes)) → next_frame buffer ≡ o → (run_frames w (frames_of buffer)).world ≡ w
    by none q = ap (λ (fs : List Bytes). (run_frames w fs).world) (standing-stop next_frame frame-shortens buffer q)
    by (some (f, r)) q =
        let frames : frames_of buffer ≡ f ∷ frames_of r = standing_on next_frame frame-shortens buffer f r q in
        ap (λ (fs : List Bytes). (run_frames w fs).world) frames ∙ first (step w f) refl (ap (λ (fs : List Bytes). (run_frames w fs).bytes) (sym frames) ∙ e)
      where
        first : (o : Reply × World) → step w f ≡ o → (ran_on o (length f) (λ v. run_frames v (frames_of r))).bytes ≡ 0 → (ran_on o (length f) (λ v. run_frames v (frames_of r))).world ≡ w
        first (taken, v) p b = absurd (let l = (frame-is buffer f r q).long in omega arith)
        first (refused c, v) p b = ap (λ (x : Reply × World). x.1) (sym p) ∙ refused-keeps w f c (ap (λ (x : Reply × World). x.0) p)

-- ---- frame by frame

-- bytes that were taken before
abbrev behind_taken : ℕ → Ran → Ran
behind_taken n r = record { reply = r.reply; world = r.world; bytes = n + r.bytes }

-- the world `w` is reached, `at` bytes of the buffer are taken
pub record Reached (begun : World) (buffer : Bytes) (at : ℕ) (w : World) : Type 0 where
  pub within : at ≤ length buffer
  pub left : run_frames begun (frames_of buffer) ≡ behind_taken at (run_frames w (frames_of (drop at buffer)))
  pub session : Session
  pub decodes : decode w ≡ some session

module _ (begun : World) (buffer : Bytes) (at : ℕ) (w : World) (q : Reached begun buffer at w) where
  -- no frame is whole any more
  pub reached-end : next_frame (drop at buffer) ≡ none → run_frames begun (frames_of buffer) ≡ record { reply = taken; world = w; bytes = at + 0 }
  reached-end e = q.left ∙ ap (λ (fs : List Bytes). behind_taken at (run_frames w fs)) (standing-stop next_frame frame-shortens (drop at buffer) e) ∙ unfold run_frames in refl

  module _ (frame rest : Bytes) (e : next_frame (drop at buffer) ≡ some (frame, rest)) where
    is : CutOff (drop at buffer) frame rest
    is = frame-is (drop at buffer) frame rest e

    pub rest-is : rest ≡ drop (at + length frame) buffer
    rest-is = is.behind ∙ drop-drop (length frame) at buffer

    first_frame : frames_of (drop at buffer) ≡ frame ∷ frames_of (drop (at + length frame) buffer)
    first_frame = standing_on next_frame frame-shortens (drop at buffer) frame rest e ∙ ap (λ (l : Bytes). frame ∷ frames_of l) rest-is

    -- it is refused
    pub reached-refused : (c : Refusal) (v : World) → step w frame ≡ (refused c, v) → run_frames begun (frames_of buffer) ≡ record { reply = refused c; world = v; bytes = at + 0 }
    unfolding run_frames ran_on
    reached-refused c v p = q.left ∙ ap (λ (fs : List Bytes). behind_taken at (run_frames w fs)) first_frame ∙ ap (λ (o : Reply × World). behind_taken at (ran_on o (length frame) (λ u. run_frames u (frames_of (drop (at + length frame) buffer))))) p

    -- it is taken
    pub reached-more : (v : World) → step w frame ≡ (taken, v) → Reached begun buffer (at + length frame) v
    unfolding run_frames ran_on
    reached-more v p =
        let r : Ran = run_frames v (frames_of (drop (at + length frame) buffer)) in
        record {
          within = omega (arith, q.within, is.inside, length-drop at buffer);
          left =
              q.left
              ∙ ap (λ (fs : List Bytes). behind_taken at (run_frames w fs)) first_frame
              ∙ ap (λ (o : Reply × World). behind_taken at (ran_on o (length frame) (λ u. run_frames u (frames_of (drop (at + length frame) buffer))))) p
              ∙ (λ i. record { reply = r.reply; world = r.world; bytes = sym (add_assoc at (length frame) r.bytes) i });
          session = foldl next q.session (taken_of (step w frame).0 (parse frame));
          decodes = ap (λ (o : Reply × World). decode o.1) (sym p) ∙ step-decodes w q.session frame q.decodes;
        }
