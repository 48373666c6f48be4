-- A name in its place: two bytes, the text and zeros, written one behind the other, are half a place; two halves are the place. What was written is read again.
-- Assumes nothing.
use Prim.Native.Nat.{ℕ, ◌+◌, ◌-◌, ◌*◌, ◌≤◌, ◌<◌}
use native.Mathlib.Omega.{arith}
use borrow.Rule.Slice.PartMut.{put_mid}
use borrow.Author.Tests.{le-leb, lt-leb}
use lib.Dec.{leb}
use lib.ListN.{length, replicate, length-append, length-replicate}
use lib.Seq.{drop_at}
use mathlib.Core.Path.{◌≡◌, refl, ap, ap₂, sym, ◌∙◌}
use mathlib.Core.Bool.{Bool, true, false, cond, ◌&&◌}
use mathlib.Core.List.{List, [], ◌∷◌, ◌++◌, flat_map, append-nil}
use mathlib.Core.Option.{some}
use Rattle.lists.specs.Lists.{part, over, put}
use Rattle.lists.proofs.Writes.{length_over, over-then, over-whole, put-fits, put_full, length-put, part-over, lent-over}
use Rattle.texts.specs.Texts.{Text}
use Rattle.numbers.specs.Numbers.{two_bytes}
use Rattle.paths.specs.Names.{Name, after_colon, name_of}
use Rattle.paths.specs.Reading.{every}
use Rattle.records.specs.Readers.{Bytes, put_text}
use Rattle.session_spec.specs.Layout.{pad, put_name, name_in, parts}
use Rattle.session_spec.specs.Session.{behind_old}
use Rattle.session_laws.proofs.Parts.{further}
use Rattle.session_laws.proofs.Areas.{NameFit, name-width, name_back, names-back, half_length}
use Rattle.open_names.specs.OpenNames.{short, with_name}

-- ---- half a place

-- its length, the text behind it, zeros to the end
half-made : (l text : Bytes) → length l ≡ 257 → length text ≤ 255
    → over (over (put l 0 (two_bytes (length text))) 2 text) (length text + 2) (replicate (257 - (length text + 2)) 0) ≡ pad 257 (put_text text)
unfolding pad put_text two_bytes
half-made l text h k =
    let n : Bytes = two_bytes (length text) in
    let z : Bytes = replicate (257 - (length text + 2)) 0 in
    let lz : length z ≡ 257 - (length text + 2) = length-replicate {A = ℕ} (257 - (length text + 2)) 0 in
    let e : 257 - (length text + 2) ≡ 257 - length (n ++ text) = omega arith in
    ap (λ (x : Bytes). over (over x 2 text) (length text + 2) z) (put-fits l 0 n (omega arith))
    ∙ ap (λ (x : Bytes). over x (length text + 2) z) (over-then l 0 2 n text refl (omega arith))
    ∙ over-then l 0 (length text + 2) (n ++ text) z (omega arith) (omega arith)
    ∙ over-whole l ((n ++ text) ++ z) (length-append (n ++ text) z ∙ omega arith)
    ∙ ap (λ (k : ℕ). (n ++ text) ++ replicate k 0) e

-- the same as the three writes leave it
pub half-written : (l x y z text : Bytes) → length l ≡ 257 → length text ≤ 255 → x ≡ put l 0 (two_bytes (length text)) → y ≡ over x 2 text
    → z ≡ over y (length text + 2) (replicate (length y - (length text + 2)) 0) → z ≡ pad 257 (put_text text)
half-written l x y z text h k p q r =
    let lx : length x ≡ 257 = ap length p ∙ length-put l 0 (two_bytes (length text)) ∙ h in
    let ly : length y ≡ 257 = ap length q ∙ length_over x 2 text (omega arith) ∙ lx in
    let e : y ≡ over (put l 0 (two_bytes (length text))) 2 text = q ∙ ap (λ (x : Bytes). over x 2 text) p in
    r
    ∙ ap (λ (k : ℕ). over y (length text + 2) (replicate (k - (length text + 2)) 0)) ly
    ∙ ap (λ (y : Bytes). over y (length text + 2) (replicate (257 - (length text + 2)) 0)) e
    ∙ half-made l text h k

-- the same where the zeros were a lent part of it
pub text-written : (l x y filled text : Bytes) → length l ≡ 257 → length text ≤ 255 → x ≡ put l 0 (two_bytes (length text)) → y ≡ put x 2 text
    → filled ≡ replicate (length y - (length text + 2)) 0 → put_mid (length text + 2) (length y - (length text + 2)) y filled ≡ pad 257 (put_text text)
text-written l x y filled text h k p q r =
    let lx : length x ≡ 257 = ap length p ∙ length-put l 0 (two_bytes (length text)) ∙ h in
    let f : length filled ≡ length y - (length text + 2) = ap length r ∙ length-replicate {A = ℕ} (length y - (length text + 2)) 0 in
    lent-over y filled (length text + 2) (length y - (length text + 2)) f
    ∙ half-written l x y (over y (length text + 2) filled) text h k p (q ∙ put-fits x 2 text (omega arith)) (ap (over y (length text + 2)) r)

-- ---- a place

fit-short : (n : Name) → NameFit n → short n ≡ true
unfolding short
fit-short n h = rw (le-leb (length n.space) 255 h.space, le-leb (length n.local) 255 h.local)

-- a name that is short, in a place that is there
pub with-fits : (names : Bytes) (depth : ℕ) (n : Name) → NameFit n → 514 * depth + 514 ≤ length names → with_name names depth n ≡ over names (514 * depth) (put_name n)
unfolding with_name
with-fits names depth n h g = rw (fit-short n h) (put-fits names (514 * depth) (put_name n) (rw (name-width n h) g))

-- a text is too long
with-long-space : (names : Bytes) (depth : ℕ) (n : Name) → 255 < length n.space → names ≡ with_name names depth n
unfolding with_name short
with-long-space names depth n h = rw (lt-leb (length n.space) 255 h)

with-long-local : (names : Bytes) (depth : ℕ) (n : Name) → 255 < length n.local → names ≡ with_name names depth n
unfolding with_name short
with-long-local names depth n h = by (leb (length n.space) 255)
  where
    by : (b : Bool) → names ≡ cond (b && leb (length n.local) 255) (put names (514 * depth) (put_name n)) names
    by true = rw (lt-leb (length n.local) 255 h)
    by false = refl

-- there is no such place
with-no-place : (names : Bytes) (depth : ℕ) (n : Name) → NameFit n → length names < 514 * depth + 514 → names ≡ with_name names depth n
unfolding with_name
with-no-place names depth n h g = rw (fit-short n h) (sym (put_full names (514 * depth) (put_name n) (rw (name-width n h) g)))

-- two halves, one behind the other
place-made : (names : Bytes) (depth : ℕ) (n : Name) → NameFit n → 514 * depth + 514 ≤ length names
    → over (over names (514 * depth) (pad 257 (put_text n.space))) (514 * depth + 257) (pad 257 (put_text n.local)) ≡ with_name names depth n
unfolding put_name
place-made names depth n h g =
    let xs : Bytes = pad 257 (put_text n.space) in
    let ys : Bytes = pad 257 (put_text n.local) in
    over-then names (514 * depth) (514 * depth + 257) xs ys (ap (λ (k : ℕ). 514 * depth + k) (half_length n.space h.space)) (omega arith)
    ∙ sym (with-fits names depth n h g)

-- ---- a name that is given by its namespace text and its qualified name

module _ (names : Bytes) (depth : ℕ) (space qualified local : Text) (p : local ≡ after_colon qualified) where
  name-fit : length space ≤ 255 → length local ≤ 255 → NameFit (name_of space qualified)
  unfolding name_of
  name-fit h k = record { space = h; local = rw (← p) k }

  pub space-long : 255 < length space → names ≡ with_name names depth (name_of space qualified)
  unfolding name_of
  space-long h = with-long-space names depth (name_of space qualified) h

  pub local-long : 255 < length local → names ≡ with_name names depth (name_of space qualified)
  unfolding name_of
  local-long h = with-long-local names depth (name_of space qualified) (rw (← p) h)

  pub no_place : length space ≤ 255 → length local ≤ 255 → length names < 514 * depth + 514 → names ≡ with_name names depth (name_of space qualified)
  no_place h k g = with-no-place names depth (name_of space qualified) (name-fit h k) g

  -- its two halves were lent, and come back as `xs` and `ys`
  pub place-written : (xs ys : Bytes) → length space ≤ 255 → length local ≤ 255 → 514 * depth + 514 ≤ length names
      → xs ≡ pad 257 (put_text space) → ys ≡ pad 257 (put_text local)
      → put_mid (514 * depth + 257) (514 * depth + 514 - (514 * depth + 257)) (put_mid (514 * depth) (514 * depth + 257 - 514 * depth) names xs) ys
      ≡ with_name names depth (name_of space qualified)
  unfolding name_of
  place-written xs ys h k g e f =
      let at : ℕ = 514 * depth in
      let lx : length xs ≡ at + 257 - at = ap length e ∙ half_length space h ∙ omega arith in
      let ly : length ys ≡ at + 514 - (at + 257) = ap length f ∙ half_length local k ∙ omega arith in
      lent-over (put_mid at (at + 257 - at) names xs) ys (at + 257) (at + 514 - (at + 257)) ly
      ∙ ap (λ (z : Bytes). over z (at + 257) ys) (lent-over names xs at (at + 257 - at) lx)
      ∙ ap₂ {C = Bytes} (λ (x y : Bytes). over (over names at x) (at + 257) y) e (f ∙ ap (λ (t : Text). pad 257 (put_text t)) p)
      ∙ place-made names depth (name_of space qualified) (name-fit h k) g

-- ---- what was written is read again

pub name-again : (names : Bytes) (depth : ℕ) (n : Name) → NameFit n → 514 * depth + 514 ≤ length names
    → name_in (part (with_name names depth n) (514 * depth) 514) ≡ some n
name-again names depth n h g =
    let w : length (put_name n) ≡ 514 = name-width n h in
    let p : part (over names (514 * depth) (put_name n)) (514 * depth) 514 ≡ put_name n =
    ap (λ (k : ℕ). part (over names (514 * depth) (put_name n)) (514 * depth) k) (sym w) ∙ part-over names (514 * depth) (put_name n) (rw w g) in
    ap (λ (z : Bytes). name_in (part z (514 * depth) 514)) (with-fits names depth n h g) ∙ ap name_in p ∙ name_back n h

-- behind the names that are read there, as a start of an element leaves them
pub names-again : (names : Bytes) (l : List Name) (n : Name) → NameFit n → 514 * length l + 514 ≤ length names → every name_in (parts 514 (length l) names) ≡ some l
    → every name_in (parts 514 (length (l ++ (n ∷ []))) (with_name names (length l) n)) ≡ some (l ++ (n ∷ []))
unfolding flat_map
names-again names l n h g e =
    rw (with-fits names (length l) n h g)
    (further 514 name_in names l (n ∷ []) (put_name n) (omega arith) e
    (λ rest. rw append-nil at (names-back (n ∷ []) rest (h, tt))))

-- the area that the session definition says
pub with-is-behind : (names : Bytes) (l : List Name) (n : Name) → NameFit n → 514 * length l + 514 ≤ length names
    → behind_old 514 put_name l (l ++ (n ∷ [])) names ≡ with_name names (length l) n
unfolding behind_old flat_map
with-is-behind names l n h g = rw (drop_at l (n ∷ []) (length l) refl, append-nil (put_name n)) (sym (with-fits names (length l) n h g))
