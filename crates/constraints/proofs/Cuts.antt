-- A record that was cut off the front of bytes is cut off again, whatever stands behind it. So records one behind the other are read as those records.
-- Assumes nothing.
use Prim.Native.Nat.{ℕ, zero, suc, ◌+◌, ◌*◌, ◌≤◌}
use native.Mathlib.Omega.{arith}
use lib.Dec.{leb}
use lib.ListN.{length, take, drop, get_or-append}
use lib.Seq.{length-take-le}
use borrow.Author.Tests.{leb-true, leb-false}
use mathlib.Core.Path.{◌≡◌, refl, ap, sym, ◌∙◌}
use mathlib.Core.Bool.{Bool, true, false, cond}
use mathlib.Core.List.{List, [], ◌∷◌, ◌++◌, flatten}
use mathlib.Core.Option.{Option, none, some, some-injective, none-ne-some}
use Rattle.records.specs.Readers.{Bytes, on_read, ◌>>=◌, pass, read_byte, read_bytes, on_whole, up_to}
use Rattle.records.proofs.Places.{bytes-there, bytes-short}
use Rattle.session_spec.specs.Definitions.{frame}
use Rattle.session_laws.proofs.Stores.{Framed, frame_back}
use Rattle.bindings.specs.Bindings.{frames_in}
use Rattle.bindings.specs.Own.{is_id, until_id, own_frames}
use Rattle.output_stores.specs.Stores.{standing}
use Rattle.frames.proofs.Fronts.{frame-cut}
use Rattle.frames.proofs.Walks.{frames-next, frames-stop}
use Rattle.constraints.specs.Constraints.{joined}
use Rattle.lists.specs.Lists.{All}

-- ---- a record that was cut off

bytes-size : (n : ℕ) (s t r : Bytes) → read_bytes n s ≡ some (t, r) → length t ≡ n
bytes-size n s t r e = by (leb n (length s)) refl
  where
    by : (b : Bool) → leb n (length s) ≡ b → length t ≡ n
    by true h =
        let l : n ≤ length s = leb-true n (length s) h in
        let q : ◌≡◌ {A = Bytes × Bytes} (take n s, drop n s) (t, r) = some-injective _ _ (sym (bytes-there n s l) ∙ e) in
        sym (ap (λ (w : Bytes × Bytes). length w.0) q) ∙ length-take-le n s l
    by false h = absurd (none-ne-some (t, r) (sym (bytes-short n s (leb-false n (length s) h)) ∙ e))

-- it has four bytes and as many as these say
cut-framed : (s f r : Bytes) → frame s ≡ some (f, r) → Framed f
unfolding frame read_byte ◌>>=◌ on_read pass
cut-framed [] f r e = absurd (none-ne-some (f, r) e)
cut-framed (a ∷ []) f r e = absurd (none-ne-some (f, r) e)
cut-framed (a ∷ b ∷ []) f r e = absurd (none-ne-some (f, r) e)
cut-framed (a ∷ b ∷ c ∷ []) f r e = absurd (none-ne-some (f, r) e)
cut-framed (a ∷ b ∷ c ∷ d ∷ s) f r e = by (read_bytes (c + 256 * d) s) refl e
  where
    by : (o : Option (Bytes × Bytes)) → read_bytes (c + 256 * d) s ≡ o → on_read o (λ x. pass (a ∷ b ∷ c ∷ d ∷ x)) ≡ some (f, r) → Framed f
    by none g e = absurd (none-ne-some (f, r) e)
    by (some q) g e =
        let w : ◌≡◌ {A = Bytes × Bytes} (a ∷ b ∷ c ∷ d ∷ q.0, q.1) (f, r) = some-injective _ _ e in
        record {
          a = a;
          b = b;
          c = c;
          d = d;
          rest = q.0;
          split = sym (ap (λ (u : Bytes × Bytes). u.0) w);
          size = bytes-size (c + 256 * d) s q.0 q.1 g;
        }

-- whatever stands behind it
abbrev pub Whole : Bytes → Type 0
Whole f = (rest : Bytes) → frame (f ++ rest) ≡ some (f, rest)

pub cut-whole : (s f r : Bytes) → frame s ≡ some (f, r) → Whole f
cut-whole s f r e = frame_back f (cut-framed s f r e)

-- its mark is that of the bytes
pub cut-mark : (s f r : Bytes) → frame s ≡ some (f, r) → is_id s ≡ is_id f
unfolding is_id
cut-mark s f r e =
    let w = frame-cut s f r e in
    let h : 4 ≤ length f = w.1 in
    rw (w.0, get_or-append f r 0 0 (omega arith), get_or-append f r 0 1 (omega arith))

-- ---- all that were

up-whole : (n : ℕ) (s : Bytes) → All Whole (up_to n frame s)
unfolding up_to
up-whole zero s = tt
up-whole (suc n) s = by (frame s) refl (up-whole n)
  where
    by : (o : Option (Bytes × Bytes)) → frame s ≡ o → ((r : Bytes) → All Whole (up_to n frame r)) → All Whole (on_whole o (up_to n frame))
    by none e ih = unfold on_whole in tt
    by (some q) e ih = unfold on_whole in (cut-whole s q.0 q.1 e, ih q.1)

frames-whole : (s : Bytes) → All Whole (frames_in s)
unfolding standing
frames-whole s = up-whole (length s) s

until-all : (p : Bytes → Type 0) (fs : List Bytes) → All p fs → All p (until_id fs)
unfolding until_id
until-all p [] h = tt
until-all p (f ∷ fs) h = by (is_id f) (until-all p fs h.1)
  where
    by : (b : Bool) → All p (until_id fs) → All p (cond b [] (f ∷ until_id fs))
    by true ih = tt
    by false ih = (h.0, ih)

own-all : (p : Bytes → Type 0) (i : ℕ) (fs : List Bytes) → All p fs → All p (own_frames i fs)
unfolding own_frames
own-all p i [] h = tt
own-all p zero (f ∷ fs) h = by (is_id f) (own-all p zero fs h.1)
  where
    by : (b : Bool) → All p (own_frames zero fs) → All p (cond b (f ∷ until_id fs) (own_frames zero fs))
    by true ih = (h.0, until-all p fs h.1)
    by false ih = ih
own-all p (suc i) (f ∷ fs) h = by (is_id f) (own-all p i fs h.1) (own-all p (suc i) fs h.1)
  where
    by : (b : Bool) → All p (own_frames i fs) → All p (own_frames (suc i) fs) → All p (cond b (own_frames i fs) (own_frames (suc i) fs))
    by true ih jh = ih
    by false ih jh = jh

-- ---- one behind the other

pub no_frames : frames_in [] ≡ []
no_frames = frames-stop [] (unfold frame read_byte ◌>>=◌ on_read in refl)

frames-joined : (fs : List Bytes) → All Whole fs → frames_in (joined fs) ≡ fs
unfolding flatten
frames-joined [] h = no_frames
frames-joined (f ∷ fs) h =
    frames-next (f ++ joined fs) f (joined fs) (h.0 (joined fs)) ∙ ap (λ (l : List Bytes). f ∷ l) (frames-joined fs h.1)

-- THE LAW: a constraint's records, one behind the other, are read as those records
pub own-frames : (used : Bytes) (k : ℕ) → frames_in (joined (own_frames k (frames_in used))) ≡ own_frames k (frames_in used)
own-frames used k = frames-joined (own_frames k (frames_in used)) (own-all Whole k (frames_in used) (frames-whole used))

-- each of them is whole
pub own-whole : (used : Bytes) (k : ℕ) → All Whole (own_frames k (frames_in used))
own-whole used k = own-all Whole k (frames_in used) (frames-whole used)
