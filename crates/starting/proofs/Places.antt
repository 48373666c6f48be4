-- A name written behind the open ones, and its place put back as it was; the place of each open scope, whose numbers rise.
-- Assumes nothing.
use Prim.Native.Nat.{ℕ, suc, ◌+◌, ◌*◌, ◌-◌, ◌≤◌, ◌<◌}
use native.Mathlib.Omega.{arith}
use lib.ListN.{length, take, drop, replicate, length-take}
use lib.Seq.{take_all}
use borrow.Author.Tests.{eq-eqb, ne_eqb}
use mathlib.Core.Path.{◌≡◌, refl, ap, ap₂, ◌∙◌}
use mathlib.Core.Bool.{true}
use mathlib.Core.List.{List, [], ◌∷◌, ◌++◌, map, append-nil}
use Rattle.lists.specs.Lists.{part, over, put, All}
use Rattle.lists.proofs.Folds.{All-weaken}
use Rattle.lists.proofs.Places.{All-both}
use Rattle.lists.proofs.Writes.{put-fits, length_part, length_over, over-part, take-before-over, drop-over}
use Rattle.records.specs.Readers.{Bytes}
use Rattle.machine.specs.Machine.{OpenScope}
use Rattle.session_spec.specs.Layout.{pad, put_scope, place_of}
use Rattle.session_spec.specs.Session.{rising}
use Rattle.session_laws.proofs.OpenScopes.{rising-uncons}
use Rattle.start_writes.proofs.Sets.{indexed}

-- ---- a place put back

pub kept-is : (l kept here : Bytes) (above : ℕ) → here ≡ part l (514 * above) 514 → kept ≡ pad 514 (take 514 here) → kept ≡ pad 514 (part l (514 * above) 514)
kept-is l kept here above e w =
    let n : length (part l (514 * above) 514) ≤ 514 = omega (arith, length-take 514 (drop (514 * above) l)) in
    w ∙ ap (λ (z : Bytes). pad 514 (take 514 z)) e ∙ ap (pad 514) (take_all 514 (part l (514 * above) 514) n)

pub whole-kept : (l : Bytes) (at : ℕ) → at + 514 ≤ length l → pad 514 (part l at 514) ≡ part l at 514
unfolding pad
whole-kept l at h =
    let n : length (part l at 514) ≡ 514 = length_part l at 514 h in
    let z : 514 - length (part l at 514) ≡ 0 = omega arith in
    ap (λ (k : ℕ). part l at 514 ++ replicate k 0) z ∙ append-nil (part l at 514)

pub over-back : (l : Bytes) (at w : ℕ) (vs : Bytes) → length vs ≡ w → at + w ≤ length l → put (over l at vs) at (part l at w) ≡ l
over-back l at w vs e h =
    let p : Bytes = part l at w in
    let n : length p ≡ w = length_part l at w h in
    let m : length (over l at vs) ≡ length l = length_over l at vs (omega arith) in
    put-fits (over l at vs) at p (omega arith)
    ∙ ap₂ {C = Bytes} (λ (x y : Bytes). x ++ (p ++ y)) (take-before-over l at vs at (omega arith) (omega arith)) (drop-over l at vs (at + length p) (omega arith) (omega arith))
    ∙ over-part l at w h

-- ---- the place of each open scope

-- each is found at its own place, counted from k on
abbrev At : List OpenScope → (k : ℕ) → ℕ × OpenScope → Type 0
At os k p = (k + place_of p.1.scope.number os ≡ p.0) × (p.0 < k + length os)

numbers-above : (n c k : ℕ) (os : List OpenScope) → rising n c (map put_scope os) ≡ true → All (λ (p : ℕ × OpenScope). n < p.1.scope.number) (indexed k os)
unfolding indexed put_scope
numbers-above n c k [] r = tt
numbers-above n c k (o ∷ os) r =
    let u = rising-uncons n c (put_scope o) (map put_scope os) r in (
      u.number,
      All-weaken (λ (p : ℕ × OpenScope). o.scope.number < p.1.scope.number) (λ (p : ℕ × OpenScope). n < p.1.scope.number) (λ p h. omega (arith, u.number))
          (indexed (suc k) os) (numbers-above o.scope.number o.depth (suc k) os u.rest),
    )

at_places : (n c k : ℕ) (os : List OpenScope) → rising n c (map put_scope os) ≡ true → All (At os k) (indexed k os)
unfolding indexed place_of put_scope
at_places n c k [] r = tt
at_places n c k (o ∷ os) r =
    let u = rising-uncons n c (put_scope o) (map put_scope os) r in (
      first,
      All-weaken (λ (p : ℕ × OpenScope). (o.scope.number < p.1.scope.number) × At os (suc k) p) (At (o ∷ os) k) later (indexed (suc k) os)
          (All-both (λ (p : ℕ × OpenScope). o.scope.number < p.1.scope.number) (At os (suc k)) (indexed (suc k) os)
          (numbers-above o.scope.number o.depth (suc k) os u.rest) (at_places o.scope.number o.depth (suc k) os u.rest)),
    )
  where
    first : At (o ∷ os) k (k, o)
    first = (rw (eq-eqb o.scope.number o.scope.number refl) (omega arith), omega arith)

    later : (p : ℕ × OpenScope) → (o.scope.number < p.1.scope.number) × At os (suc k) p → At (o ∷ os) k p
    later p h = (rw (ne_eqb o.scope.number p.1.scope.number (λ e. omega (arith, h.0))) (omega (arith, h.1.0)), omega (arith, h.1.1))

pub its-place : (os : List OpenScope) → rising 0 1 (map put_scope os) ≡ true
    → All (λ (p : ℕ × OpenScope). (place_of p.1.scope.number os ≡ p.0) × (p.0 < length os)) (indexed 0 os)
its-place os r =
    All-weaken (At os 0) (λ (p : ℕ × OpenScope). (place_of p.1.scope.number os ≡ p.0) × (p.0 < length os))
    (λ p h. (omega (arith, h.0), omega (arith, h.1))) (indexed 0 os) (at_places 0 1 0 os r)
