-- Readers at a place: what reads up to a place goes on from there, and a place past the end leads only to places past it. So one
-- comparison of the last place with the length decides of a whole body.
-- Assumes nothing.
use Prim.Native.Nat.{ℕ, zero, suc, ◌+◌, ◌≤◌, ◌<◌}
use native.Mathlib.Omega.{arith}
use borrow.Author.Tests.{le-leb, lt-leb, leb-true, leb-false}
use lib.Dec.{leb}
use lib.ListN.{length, take, drop, get_or, length-drop, drop_of_length-le}
use lib.Seq.{drop-length, drop-drop}
use mathlib.Core.Path.{◌≡◌, refl, ap, sym, ◌∙◌}
use mathlib.Core.Bool.{Bool, true, false}
use mathlib.Core.List.{List, [], ◌∷◌}
use mathlib.Core.Option.{none, some}
use Rattle.std.proofs.lemmas.List.{drop_more}
use Rattle.lists.specs.Lists.{part}
use Rattle.records.specs.Readers.{Bytes, Reader, on_read, ◌>>=◌, pass, read_byte, read_bytes, times, on_whole, up_to}
use Rattle.records.specs.Records.{Rec, judged, body_rows, unparsed, exactly}
use Rattle.records.specs.Refusals.{misframed, first_of}
use Rattle.records.proofs.Places.{bytes-there, bytes-short, times-length}
use Rattle.record_places.specs.Places.{read_to, Reads}

module _ {A : Type 0} (s : Bytes) (next : ℕ) (a : A) where
  pub to_whole : next ≤ length s → read_to s next a ≡ some (a, drop next s)
  unfolding read_to
  to_whole h = rw (le-leb next (length s) h)

  pub to-past : length s < next → read_to s next a ≡ none
  unfolding read_to
  to-past h = rw (lt-leb next (length s) h)

  -- a fact of both cases
  pub by_end : {P : Type 0} → (next ≤ length s → P) → (length s < next → P) → P
  by_end {P} f g = by (leb next (length s)) refl
    where
      by : (t : Bool) → leb next (length s) ≡ t → P
      by true e = f (leb-true next (length s) e)
      by false e = g (leb-false next (length s) e)

-- ---- one reader behind another

module _ {A B : Type 0} (p : Reader A) (f : A → Reader B) where
  bind-some : (xs ys : Bytes) (a : A) → p xs ≡ some (a, ys) → (p >>= f) xs ≡ f a ys
  unfolding ◌>>=◌ on_read
  bind-some xs ys a e = rw e

  bind-none : (xs : Bytes) → p xs ≡ none → (p >>= f) xs ≡ none
  unfolding ◌>>=◌ on_read
  bind-none xs e = rw e

  pub then : (s : Bytes) (i j k : ℕ) (a : A) (b : B) → Reads p s i j a → Reads (f a) s j k b → Reads (p >>= f) s i k b
  then s i j k a b q r = record { says = says; on = on }
    where
      on : k ≤ length s → i ≤ k
      on h =
          let g = r.on h in
          omega (arith, q.on (omega arith))

      past : length s < j → length s < k
      past h = by_end s k b (λ w. absurd (omega (arith, r.on w))) (λ w. w)

      says : i ≤ length s → (p >>= f) (drop i s) ≡ read_to s k b
      says h =
          by_end s j a
          (λ w. bind-some (drop i s) (drop j s) a (q.says h ∙ to_whole s j a w) ∙ r.says w)
          (λ w. bind-none (drop i s) (q.says h ∙ to-past s j a w) ∙ sym (to-past s k b (past w)))

pub pass-reads : {A : Type 0} (s : Bytes) (i : ℕ) (a : A) → Reads (pass a) s i i a
unfolding pass
pass-reads s i a = record { says = λ h. sym (to_whole s i a h); on = λ h. omega arith }

-- ---- a byte, so many bytes

byte-says : (s : Bytes) (i : ℕ) → read_byte (drop i s) ≡ read_to s (i + 1) (get_or s i 0)
unfolding read_byte
byte-says s i =
    by_end s (i + 1) (get_or s i 0)
    (λ h. rw (drop_more s i 0 (omega arith)) (sym (to_whole s (i + 1) (get_or s i 0) h)))
    (λ h. rw (drop_of_length-le s {i = i} (omega arith)) (sym (to-past s (i + 1) (get_or s i 0) h)))

pub byte_reads : (s : Bytes) (i : ℕ) → Reads read_byte s i (i + 1) (get_or s i 0)
byte_reads s i = record { says = λ h. byte-says s i; on = λ h. omega arith }

numbers-whole : (n : ℕ) (xs : Bytes) → n ≤ length xs → times n read_byte xs ≡ some (take n xs, drop n xs)
unfolding times read_byte pass ◌>>=◌ on_read
numbers-whole zero xs h = refl
numbers-whole (suc n) [] h = absurd (omega arith)
numbers-whole (suc n) (x ∷ xs) h = rw (numbers-whole n xs (omega arith))

numbers-short : (n : ℕ) (xs : Bytes) → length xs < n → times n read_byte xs ≡ none
unfolding times read_byte pass ◌>>=◌ on_read
numbers-short zero xs h = absurd (omega arith)
numbers-short (suc n) [] h = refl
numbers-short (suc n) (x ∷ xs) h = rw (numbers-short n xs (omega arith))

-- what takes exactly n bytes, at a place
module _ (p : Reader Bytes) (n : ℕ) (whole : (xs : Bytes) → n ≤ length xs → p xs ≡ some (take n xs, drop n xs)) (short : (xs : Bytes) → length xs < n → p xs ≡ none) where
  exact-reads : (s : Bytes) (i : ℕ) → Reads p s i (i + n) (part s i n)
  exact-reads s i = record { says = says; on = λ h. omega arith }
    where
      says : i ≤ length s → p (drop i s) ≡ read_to s (i + n) (part s i n)
      says h =
          let l = length-drop i s in
          by_end s (i + n) (part s i n)
          (λ w. whole (drop i s) (omega arith) ∙ rw (drop-drop n i s) (sym (to_whole s (i + n) (part s i n) w)))
          (λ w. short (drop i s) (omega arith) ∙ sym (to-past s (i + n) (part s i n) w))

pub bytes-reads : (n : ℕ) (s : Bytes) (i : ℕ) → Reads (read_bytes n) s i (i + n) (part s i n)
bytes-reads n s i = exact-reads (read_bytes n) n (bytes-there n) (bytes-short n) s i

pub numbers-reads : (n : ℕ) (s : Bytes) (i : ℕ) → Reads (times n read_byte) s i (i + n) (part s i n)
numbers-reads n s i = exact-reads (times n read_byte) n (numbers-whole n) (numbers-short n) s i

-- ---- so many of a kind

module _ {A : Type 0} (p : Reader A) (s : Bytes) (i j : ℕ) (a : A) (e : p (drop i s) ≡ read_to s j a) where
  -- the first is there, and then the others
  pub more : (m : ℕ) → j ≤ length s → up_to (suc m) p (drop i s) ≡ a ∷ up_to m p (drop j s)
  unfolding up_to on_whole
  more m h = rw (e, to_whole s j a h)

  -- it is not
  pub no_more : (m : ℕ) → length s < j → up_to (suc m) p (drop i s) ≡ []
  unfolding up_to on_whole
  no_more m h = rw (e, to-past s j a h)

  pub times-then : (m k : ℕ) → (j ≤ length s → i ≤ j) → Reads (times m p) s j k (up_to m p (drop j s)) → Reads (times (suc m) p) s i k (up_to (suc m) p (drop i s))
  unfolding times
  times-then m k on r =
      let q : Reads p s i j a = record { says = λ h. e; on = on } in
      let t : Reads (times (suc m) p) s i k (a ∷ up_to m p (drop j s)) =
      then p (λ a. times m p >>= (λ l. pass (a ∷ l))) s i j k a (a ∷ up_to m p (drop j s)) q
      (then (times m p) (λ l. pass (a ∷ l)) s j k k (up_to m p (drop j s)) (a ∷ up_to m p (drop j s)) r (pass-reads s k (a ∷ up_to m p (drop j s)))) in
      record { says = λ h. t.says h ∙ same; on = t.on }
    where
      same : read_to s k (a ∷ up_to m p (drop j s)) ≡ read_to s k (up_to (suc m) p (drop i s))
      same =
          by_end s k a
          (λ w. by_end s j a (λ v. ap (read_to s k) (sym (more m v))) (λ v. absurd (omega (arith, r.on w))))
          (λ w. to-past s k (a ∷ up_to m p (drop j s)) w ∙ sym (to-past s k (up_to (suc m) p (drop i s)) w))

-- a list that is read is whole
pub reads-length : {A : Type 0} (p : Reader A) (n : ℕ) (s : Bytes) (i k : ℕ) (l : List A) → Reads (times n p) s i k l → k ≤ length s → length l ≡ n
reads-length p n s i k l r h =
    times-length p n (drop i s) l (drop k s) (r.says (omega (arith, r.on h)) ∙ to_whole s k l h)

-- ---- the whole body

module _ (p : Reader Rec) (s : Bytes) (k : ℕ) (r : Rec) (q : Reads p s 4 k r) (h : 4 ≤ length s) where
  pub exactly-whole : k ≡ length s → exactly (p (drop 4 s)) ≡ judged r (first_of (body_rows r))
  unfolding exactly
  exactly-whole e = rw (q.says h, to_whole s k r (omega arith), e, drop-length s)

  pub exactly-not : (k ≡ length s → ⊥) → exactly (p (drop 4 s)) ≡ unparsed misframed
  unfolding exactly
  exactly-not e =
      by_end s k r
      (λ w. rw (q.says h, to_whole s k r w, drop_more s k 0 (omega arith)))
      (λ w. rw (q.says h, to-past s k r w))
