-- The records that stand in bytes, one after the other: what stands first is cut off at the front, and behind it stand the others; so a walk that adds up their
-- sizes knows where each begins.
-- Assumes nothing.
use Prim.Native.Nat.{ℕ, ◌+◌, ◌≤◌}
use native.Mathlib.Omega.{arith}
use lib.ListN.{length, drop, length-drop}
use lib.Seq.{drop-drop}
use mathlib.Core.Path.{◌≡◌, refl, ap, sym, ◌∙◌}
use mathlib.Core.List.{List, [], ◌∷◌}
use mathlib.Core.Option.{Option, none, some}
use Rattle.records.specs.Readers.{Bytes}
use Rattle.session_spec.specs.Definitions.{frame}
use Rattle.output_stores.proofs.Walks.{standing_on, standing-stop, up_to-count}
use Rattle.output_stores.specs.Stores.{standing}
use Rattle.frames.proofs.Fronts.{frame-shortens, Front, front}

-- THE LAW: what stands first, and what stands behind it
pub frames-next : (s f r : Bytes) → frame s ≡ some (f, r) → standing frame s ≡ f ∷ standing frame r
frames-next = standing_on frame frame-shortens

pub frames-stop : (s : Bytes) → frame s ≡ none → standing frame s ≡ []
frames-stop = standing-stop frame frame-shortens

-- no more records stand there than bytes
pub standing_fits : (s : Bytes) → length (standing frame s) ≤ length s
unfolding standing
standing_fits s = up_to-count frame (length s) s

-- ---- the first one, and those behind it

pub record First (s f : Bytes) (more : List Bytes) : Type 0 where
  pub cut : frame s ≡ some (f, drop (length f) s)
  pub is : Front s f (drop (length f) s)
  pub stands : more ≡ standing frame (drop (length f) s)

pub first : (s f : Bytes) (more : List Bytes) → standing frame s ≡ f ∷ more → First s f more
first s f more h = by (frame s) refl
  where
    by : (o : Option (Bytes × Bytes)) → frame s ≡ o → First s f more
    by none e =
        let n : ◌≡◌ {A = List Bytes} (f ∷ more) [] = sym h ∙ frames-stop s e in
        let z : ◌≡◌ {A = ℕ} 0 1 = cc in absurd (omega arith)
    by (some q) e =
        let n : ◌≡◌ {A = List Bytes} (q.0 ∷ standing frame q.1) (f ∷ more) = sym (frames-next s q.0 q.1 e) ∙ h in
        let g : q.0 ≡ f = cc n in
        let m : standing frame q.1 ≡ more = cc n in
        let b : q.1 ≡ drop (length f) s = (front s q.0 q.1 e).behind ∙ ap (λ (l : Bytes). drop (length l) s) g in
        let c : frame s ≡ some (f, drop (length f) s) = e ∙ ap (λ (x : Bytes). some (x, q.1)) g ∙ ap (λ (x : Bytes). some (f, x)) b in
        record { cut = c; is = front s f (drop (length f) s) c; stands = sym m ∙ ap (standing frame) b }

pub none-first : (s : Bytes) → standing frame s ≡ [] → frame s ≡ none
none-first s h = by (frame s) refl
  where
    by : (o : Option (Bytes × Bytes)) → frame s ≡ o → frame s ≡ none
    by none e = e
    by (some q) e =
        let n : ◌≡◌ {A = List Bytes} (q.0 ∷ standing frame q.1) [] = sym (frames-next s q.0 q.1 e) ∙ h in
        let z : ◌≡◌ {A = ℕ} 0 1 = cc in absurd (omega arith)

-- ---- a walk: those that are left stand from the place on

pub record Walking (s : Bytes) (left : List Bytes) (place : ℕ) : Type 0 where
  pub within : place ≤ length s
  pub stands : left ≡ standing frame (drop place s)

pub walk-first : (s : Bytes) (left : List Bytes) → left ≡ standing frame s → Walking s left 0
walk-first s left e = record { within = omega arith; stands = e }

module _ (s : Bytes) (left : List Bytes) (place : ℕ) (w : Walking s left place) where
  pub walk-end : left ≡ [] → frame (drop place s) ≡ none
  walk-end e = none-first (drop place s) (sym w.stands ∙ e)

  module _ (f : Bytes) (more : List Bytes) (e : left ≡ f ∷ more) where
    pub walk-here : First (drop place s) f more
    walk-here = first (drop place s) f more (sym w.stands ∙ e)

    pub walk-fits : place + length f ≤ length s
    walk-fits = let i = walk-here.is.inside in let j = w.within in omega (arith, length-drop place s)

    pub walk-next : Walking s more (place + length f)
    walk-next = record { within = walk-fits; stands = walk-here.stands ∙ ap (standing frame) (drop-drop (length f) place s) }
