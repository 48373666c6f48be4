-- The records of a constraint: an ID that is passed by lowers the number that is sought, and behind the ID that is found its records end before the next.
-- Assumes nothing.
use Prim.Native.Nat.{ℕ, zero, suc, ◌+◌, ◌-◌, ◌≤◌, ◌<◌}
use native.Mathlib.Omega.{arith}
use lib.ListN.{length, take, drop, length-append, length-drop}
use Rattle.std.specs.List.{prefix_len, fold, sum_by}
use Rattle.output_stores.specs.Stores.{standing}
use lib.Seq.{take-add}
use mathlib.Core.Path.{◌≡◌, refl, ap, sym, ◌∙◌}
use mathlib.Core.Bool.{Bool, true, false, cond, not}
use mathlib.Core.List.{List, [], ◌∷◌, ◌++◌, flatten}
use mathlib.Core.Option.{none, some}
use Rattle.records.specs.Readers.{Bytes}
use Rattle.bindings.specs.Bindings.{frames_in}
use Rattle.bindings.specs.Own.{is_id, until_id, own_frames}
use Rattle.session_spec.specs.Definitions.{frame}
use Rattle.frames.proofs.Fronts.{front}
use Rattle.frames.proofs.Walks.{frames-next, frames-stop, Walking, walk-here, First, first}
use Rattle.constraints.specs.Constraints.{joined}
use Rattle.constraints.specs.Walks.{StartsAt, EndsAt}
use Rattle.constraints.proofs.Cuts.{cut-mark, no_frames}

no_own : (i : ℕ) → own_frames i [] ≡ []
unfolding own_frames
no_own i = refl

-- a record is passed by, and the number that is sought is one lower where it is an ID
pass-by : (i one : ℕ) (f : Bytes) (fs : List Bytes) (b : Bool) → one ≡ cond b 1 0 → one ≤ i → is_id f ≡ b → own_frames i (f ∷ fs) ≡ own_frames (i - one) fs
unfolding own_frames
pass-by zero one f fs true q l e = absurd (omega arith)
pass-by (suc i) one f fs true q l e = let z : suc i - one ≡ i = omega arith in rw (e, z)
pass-by zero one f fs false q l e = let z : zero - one ≡ zero = omega arith in rw (e, z)
pass-by (suc i) one f fs false q l e = let z : suc i - one ≡ suc i = omega arith in rw (e, z)

-- ---- the walk of `from_id`: the records `rest` are left, and `left` IDs are still to be passed by

module _ (used : Bytes) (number : ℕ) (rest : List Bytes) (i : ℕ) (w : Walking used rest i) (left : ℕ) (inv : own_frames left rest ≡ own_frames number (frames_in used)) where
  pub from_end : rest ≡ [] → StartsAt used number (take 0 used)
  from_end e =
      record {
        own = ap (own_frames 0) no_frames ∙ no_own 0 ∙ sym (no_own left) ∙ ap (own_frames left) (sym e) ∙ inv;
        first = λ h. absurd (omega arith);
      }

  module _ (f : Bytes) (more : List Bytes) (e : rest ≡ f ∷ more) (one : ℕ) (v : one ≡ cond (is_id f) 1 0) where
    pub from_found : left < one → StartsAt used number (drop i used)
    from_found g = by (is_id f) refl v
      where
        by : (b : Bool) → is_id f ≡ b → one ≡ cond b 1 0 → StartsAt used number (drop i used)
        by true m q =
            let z : left ≡ 0 = omega arith in
            record {
              own = ap (own_frames 0) (sym w.stands) ∙ ap (λ (k : ℕ). own_frames k rest) (sym z) ∙ inv;
              first = λ _. cut-mark (drop i used) f (drop (length f) (drop i used)) (walk-here used rest i w f more e).cut ∙ m;
            }
        by false m q = absurd (omega arith)

    pub from_on : one ≤ left → own_frames (left - one) more ≡ own_frames number (frames_in used)
    from_on g = sym (ap (own_frames left) e ∙ pass-by left one f more (is_id f) v g refl) ∙ inv

-- ---- what stands before the next ID

pub before_id : (fs : List Bytes) → take (prefix_len (λ f. not (is_id f)) fs) fs ≡ until_id fs
unfolding until_id
before_id [] = refl
before_id (f ∷ fs) = by (is_id f) (before_id fs)
  where
    by : (b : Bool) → take (prefix_len (λ f. not (is_id f)) fs) fs ≡ until_id fs → take (cond (not b) (1 + prefix_len (λ f. not (is_id f)) fs) 0) (f ∷ fs) ≡ cond b [] (f ∷ until_id fs)
    by true e = refl
    by false e = let n = prefix_len (λ f. not (is_id f)) fs in let z : 1 + n ≡ suc n = omega arith in rw z (ap (λ (l : List Bytes). f ∷ l) e)

sizes : (n : ℕ) (fs : List Bytes) → fold (λ a f. a + length f) n fs ≡ n + length (joined fs)
unfolding flatten
sizes n [] = omega arith
sizes n (f ∷ fs) = let e = sizes (n + length f) fs in omega (arith, e, length-append f (joined fs))

Cut : Bytes → Bytes → Type 0
Cut l s = (l ≡ take (length l) s) × (length l ≤ length s)

cut-before : (rest : List Bytes) (s : Bytes) → rest ≡ standing frame s → Cut (joined (until_id rest)) s
unfolding until_id flatten Cut
cut-before [] s e = (refl, omega arith)
cut-before (f ∷ more) s e = by (is_id f) (cut-before more (drop (length f) s) h.stands)
  where
    h : First s f more
    h = first s f more (sym e)

    by : (b : Bool) → Cut (joined (until_id more)) (drop (length f) s) → Cut (joined (cond b [] (f ∷ until_id more))) s
    by true q = (refl, omega arith)
    by false q =
        let l = joined (until_id more) in
        let n = length-append f l in (
          ap (λ (x : Bytes). x ++ l) h.is.front ∙ ap (λ (x : Bytes). take (length f) s ++ x) q.0 ∙ sym (take-add (length f) (length l) s) ∙ ap (λ (k : ℕ). take k s) (sym n),
          omega (arith, n, q.1, length-drop (length f) s, h.is.inside),
        )

module _ (s : Bytes) where
  abbrev pub before : List Bytes
  before = take (prefix_len (λ f. not (is_id f)) (frames_in s)) (frames_in s)

  same_size : length (joined (until_id (frames_in s))) ≡ sum_by length before
  same_size = let e = sizes 0 before in let z = ap (λ (l : List Bytes). length (joined l)) (before_id (frames_in s)) in omega (arith, e, z)

  pub until-fits : sum_by length before ≤ length s
  unfolding Cut
  until-fits = omega (arith, same_size, (cut-before (frames_in s) s refl).1)

  pub until-ends : (m : ℕ) → m ≡ sum_by length before → EndsAt s m
  unfolding Cut
  until-ends m e =
      let z = cut-before (frames_in s) s refl in
      let k : length (joined (until_id (frames_in s))) ≡ m = omega (arith, e, same_size) in
      record { own = z.0 ∙ ap (λ (n : ℕ). take n s) k; inside = omega (arith, k, z.1) }

-- ---- what `own_of` answers

module _ (used : Bytes) (number : ℕ) (from : Bytes) (a : StartsAt used number from) where
  pub own-none : frame from ≡ none → take 0 from ≡ joined (own_frames number (frames_in used))
  unfolding flatten
  own-none e = sym (ap joined (sym a.own ∙ ap (own_frames 0) (frames-stop from e) ∙ no_own 0))

  module _ (id behind : Bytes) (c : frame from ≡ some (id, behind)) (m : ℕ) (v : EndsAt behind m) where
    pub own_room : length id + m ≤ length from
    own_room = let l = ap length (front from id behind c).joined ∙ length-append id behind in let j = v.inside in omega arith

    pub own-some : take (length id + m) from ≡ joined (own_frames number (frames_in used))
    unfolding own_frames flatten
    own-some =
        let h = front from id behind c in
        let l = h.least in
        let k : is_id id ≡ true = sym (cut-mark from id behind c) ∙ a.first (let n = h.inside in omega arith) in
        take-add (length id) m from
        ∙ ap (λ (x : Bytes). x ++ take m (drop (length id) from)) (sym h.front)
        ∙ ap (λ (x : Bytes). id ++ take m x) (sym h.behind)
        ∙ ap (λ (x : Bytes). id ++ x) (sym v.own)
        ∙ sym (rw (frames-next from id behind c, k))
        ∙ ap joined a.own
