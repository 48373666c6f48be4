-- The bytes of a selection after the element's hits are those of the fed selection: its four fields are hit in turn, and a field that it lacks is hit no time.
-- Assumes nothing.
use Prim.Native.Nat.{ℕ, zero, suc, min, ◌+◌, ◌-◌, ◌*◌, ◌≤◌, ◌<◌}
use native.Mathlib.Omega.{arith}
use lib.Dec.{leb}
use borrow.Author.Tests.{leb-true, leb-false}
use lib.ListN.{length, drop, get_or, replicate, length-take}
use mathlib.Core.Path.{◌≡◌, refl, sym, ap, ◌∙◌}
use mathlib.Core.Bool.{Bool, true, false}
use mathlib.Core.List.{List, [], ◌∷◌, ◌++◌, append-nil}
use mathlib.Core.Option.{none}
use Rattle.lists.specs.Lists.{part, put}
use Rattle.paths.specs.Names.{Name}
use Rattle.tree.specs.Events.{End}
use Rattle.tree.specs.Cells.{Hit, Cell, reach, element_hit, element_hits}
use Rattle.machine.specs.Machine.{OpenScope, Selection, feed, end_gives}
use Rattle.records.specs.Readers.{Bytes}
use Rattle.session_spec.specs.Layout.{pad, put_selection}
use Rattle.session_laws.proofs.Areas.{SelectionFit, selection-width}
use Rattle.session_laws.proofs.OpenSelections.{HitFit}
use Rattle.cells.specs.Cells.{hit_at, hit_field, hit_each}
use Rattle.cells.proofs.Writes.{put-zeros}
use Rattle.cells.proofs.Machine.{selection-hit, hit-fits, fed-four, not-reached}
use Rattle.settlements.specs.Finished.{count_for, fed_bytes}

-- ---- what `fed_selection` writes, step by step

short-part : (l : Bytes) (at w : ℕ) → length (part l at w) ≤ w
short-part l at w = simp length-take (omega arith)

-- after the hits on so many fields
abbrev pub fed_to : Hit → (counts : Bytes) → (j : ℕ) → (cells : Bytes) → (fields : ℕ) → Bytes
fed_to h counts j cells zero = pad 512 (part cells (512 * j) 512)
fed_to h counts j cells (suc f) = hit_at h (128 * f) (count_for counts j f) (fed_to h counts j cells f)

pub fed-first : (h : Hit) (counts cells : Bytes) (j : ℕ) (xs b : Bytes) → xs ≡ part cells (512 * j) 512 → b ≡ put (replicate 512 0) 0 xs → b ≡ fed_to h counts j cells 0
fed-first h counts cells j xs b x e =
    e ∙ ap (put (replicate 512 0) 0) x ∙ put-zeros 512 (part cells (512 * j) 512) (short-part cells (512 * j) 512)

pub fed-last : (h : Hit) (counts cells : Bytes) (j f : ℕ) (b : Bytes) → f ≡ 4 → b ≡ fed_to h counts j cells f → b ≡ fed_bytes h counts j cells
unfolding fed_bytes
fed-last h counts cells j f b n e = e ∙ ap (fed_to h counts j cells) n

-- ---- one field more

module _ (os : List OpenScope) (h : Hit) (fit : HitFit h) (below : List Name) (x : Selection) (ok : SelectionFit os x) (f : ℕ) (r : f < 4) where
  abbrev times : ℕ
  times = reach (get_or x.scope.constraint.fields f []) below none

  one-field : hit_at h (128 * f) times (put_selection os x) ≡ put_selection os (hit_field f (replicate times h) x)
  one-field =
      let m = ok.many in
      selection-hit h fit times os x f ok.keys r (λ l. not-reached x.scope.constraint.fields below f (omega arith))

  still-fit : SelectionFit os (hit_field f (replicate times h) x)
  unfolding hit_each
  still-fit = (hit-fits os h fit f r (times ∷ []) (x ∷ []) (ok, tt)).0

-- ---- THE LAW of `fed_selection`

whole-pad : (xs : Bytes) → length xs ≡ 512 → pad 512 xs ≡ xs
unfolding pad
whole-pad xs e = let z : 512 - length xs ≡ 0 = omega arith in ap (λ (k : ℕ). xs ++ replicate k 0) z ∙ append-nil xs

module _ (os : List OpenScope) (names : List Name) (e : End) (short : HitFit (element_hit e)) (x : Selection) (ok : SelectionFit os x) where
  abbrev h : Hit
  h = element_hit e

  abbrev below : List Name
  below = drop x.depth names

  abbrev times-of : ℕ → ℕ
  times-of f = reach (get_or x.scope.constraint.fields f []) below none

  abbrev next : ℕ → Selection → Selection
  next f y = hit_field f (replicate (times-of f) h) y

  in-turn : put_selection os (next 3 (next 2 (next 1 (next 0 x)))) ≡ put_selection os (feed names (end_gives e) x)
  unfolding hit_field feed element_hits
  in-turn = ap (λ (cs : List Cell). put_selection os (record { scope = x.scope; depth = x.depth; cells = cs }))
      (fed-four (λ alts. end_gives e alts below) x.scope.constraint.fields x.cells ok.many (let m = ok.many in let n = ok.few in omega arith))

  pub selection-fed : (counts cells : Bytes) (j : ℕ) → part cells (512 * j) 512 ≡ put_selection os x
      → ((f : ℕ) → f < 4 → count_for counts j f ≡ times-of f)
      → fed_bytes (element_hit e) counts j cells ≡ put_selection os (feed names (end_gives e) x)
  unfolding fed_bytes hit_field
  selection-fed counts cells j here counted =
      let f₁ = still-fit os h short below x ok 0 (omega arith) in
      let f₂ = still-fit os h short below (next 0 x) f₁ 1 (omega arith) in
      let f₃ = still-fit os h short below (next 1 (next 0 x)) f₂ 2 (omega arith) in
      let p : pad 512 (part cells (512 * j) 512) ≡ put_selection os x = ap (pad 512) here ∙ whole-pad (put_selection os x) (selection-width os x ok) in
      rw (
        p,
        counted 0 (omega arith),
        counted 1 (omega arith),
        counted 2 (omega arith),
        counted 3 (omega arith),
        one-field os h short below x ok 0 (omega arith),
        one-field os h short below (next 0 x) f₁ 1 (omega arith),
        one-field os h short below (next 1 (next 0 x)) f₂ 2 (omega arith),
        one-field os h short below (next 2 (next 1 (next 0 x))) f₃ 3 (omega arith),
      ) in-turn
