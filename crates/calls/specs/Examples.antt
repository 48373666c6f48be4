-- Computed: calls and runs of them, the frames of buffers, and what runs over them answer, leave and take.
-- Assumes nothing.
use Rattle.std.specs.Prelude.{ℕ, ◌≡◌, refl, true, false, [], ◌∷◌, ◌++◌}
use Rattle.std.proofs.Math.Option.{none, some}
use Rattle.numbers.specs.Numbers.{two}
use Rattle.records.specs.Readers.{Bytes, up_to, on_whole}
use Rattle.records.specs.Refusals.{out_of_place, unbalanced}
use Rattle.session_spec.specs.Session.{World, taken, refused, reply_number}
use Rattle.session_spec.specs.Computed.{id, es, ee, fi, lent, set_events, set_running, changed, called}
use Rattle.output_stores.specs.Stores.{standing}
use Rattle.worlds.specs.Replies as code
use Rattle.worlds.specs.Replies.{Taken, reply_of}
use Rattle.calls.specs.Buffers.{cut, next_frame, frames_of, Ran, ran_on, run_frames, handed_on, handed_in}
use Rattle.calls.specs.Calls.{Call, Starts, Fresh}
use Rattle.calls.specs.Runs.{Run, start, call}
use Rattle.calls.specs.Running.{is_taken}

-- ---- calls on a session just set up, over full areas and stores of 64 bytes

five-zeros : Starts (record { events = 0; running = 0; definitions = 0; tuples = 0; reports = 0 })
five-zeros = record { events = refl; running = refl; definitions = refl; tuples = refl; reports = refl }

-- FI is taken: one event, and the session is finished
one-taken : Call (lent 64 64 64) fi Taken (changed (lent 64 64 64) (set_events 1 ∷ set_running 66 ∷ []))
unfolding called
one-taken = record { replies = refl; leaves = refl }

-- EE gets no other answer than its refusal, for no element is open
one-refused : (reply : code.Reply) (after : World) → Call (lent 64 64 64) ee reply after → reply_of reply ≡ refused unbalanced
unfolding called
one-refused reply after c = c.replies

-- two calls are a run of their records, in this order
two-calls : (begun v w : World) (x y : Bytes) (p q : code.Reply) → Fresh begun → Call begun x p v → Call v y q w → Run begun (x ∷ y ∷ []) w
two-calls begun v w x y p q f c d = call (call (start f) c) d

-- ---- frames

-- an FI, and one byte behind it
abbrev last : Bytes
last = 70 ∷ 73 ∷ 0 ∷ 0 ∷ []

one-behind : next_frame (last ++ (9 ∷ [])) ≡ some (last, 9 ∷ [])
unfolding next_frame cut two
one-behind = refl

-- a body of two bytes that is whole, and one that is not; three bytes of a header
whole : next_frame (70 ∷ 73 ∷ 2 ∷ 0 ∷ 7 ∷ 8 ∷ []) ≡ some (70 ∷ 73 ∷ 2 ∷ 0 ∷ 7 ∷ 8 ∷ [], [])
unfolding next_frame cut two
whole = refl

not-whole : next_frame (70 ∷ 73 ∷ 2 ∷ 0 ∷ 7 ∷ []) ≡ none
unfolding next_frame cut two
not-whole = refl

no_header : next_frame (70 ∷ 73 ∷ 0 ∷ []) ≡ none
unfolding next_frame cut two
no_header = refl

-- 16,384 stated, and not there; 16,385 stated: the header is a frame of its own
at_most : next_frame (70 ∷ 73 ∷ 0 ∷ 64 ∷ 7 ∷ []) ≡ none
unfolding next_frame cut two
at_most = refl

over-long : next_frame (70 ∷ 73 ∷ 1 ∷ 64 ∷ 7 ∷ []) ≡ some (70 ∷ 73 ∷ 1 ∷ 64 ∷ [], 7 ∷ [])
unfolding next_frame cut two
over-long = refl

frames : frames_of (last ++ (last ++ (70 ∷ []))) ≡ last ∷ last ∷ []
unfolding standing up_to on_whole next_frame cut two
frames = refl

-- ---- runs over frames, from the same session

numbers : Ran → ℕ × ℕ × ℕ
numbers r = (reply_number r.reply, r.bytes, r.world.events)

-- two FI: the second is out of place, and its bytes are not taken
two_ends : numbers (run_frames (lent 64 64 64) (fi ∷ fi ∷ [])) ≡ (11, 4, 1)
unfolding numbers run_frames ran_on called
two_ends = refl

-- a constraint, an element, the end of it and FI: all is taken
all-taken : numbers (run_frames (lent 64 64 64) (id 0 "u" "." ("@a" ∷ []) ∷ es "r" (0 ∷ []) [] ∷ ee ∷ fi ∷ [])) ≡ (0, 40, 4)
unfolding numbers run_frames ran_on called
all-taken = refl

-- none is whole: nothing is done
none-whole : run_frames (lent 64 64 64) [] ≡ record { reply = taken; world = lent 64 64 64; bytes = 0 }
unfolding run_frames
none-whole = refl

-- of three FI, two are handed in: the second is refused
handed-in : handed_in (lent 64 64 64) (fi ∷ fi ∷ fi ∷ []) ≡ fi ∷ fi ∷ []
unfolding handed_in handed_on called
handed-in = refl

-- ---- answers

taken_is : is_taken taken ≡ true
taken_is = refl

refused-is : is_taken (refused out_of_place) ≡ false
refused-is = refl
