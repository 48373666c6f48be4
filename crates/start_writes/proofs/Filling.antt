-- Records of one width, one behind the other: writing more of them behind is writing all. A turn of a loop that writes those of a set adds the next one, if
-- it is in the set.
-- Assumes nothing.
use Prim.Native.Nat.{ℕ, ◌+◌, ◌*◌, ◌≤◌, ◌<◌}
use native.Mathlib.Omega.{arith}
use native.Mathlib.Nat.{add-zero, mul-add}
use borrow.Author.Tests.{le-leb}
use lib.Dec.{leb}
use lib.ListN.{length, take, get_or, length-append}
use lib.Seq.{length-take-le}
use mathlib.Core.Path.{◌≡◌, refl, ap, sym, ◌∙◌, subst}
use mathlib.Core.Bool.{Bool, true, false, cond, false≢true}
use mathlib.Core.List.{List, [], ◌∷◌, ◌++◌, flat_map, append-nil}
use Rattle.lists.specs.Lists.{only_if, over, put}
use Rattle.lists.proofs.Lists.{flat_map-append}
use Rattle.lists.proofs.Folds.{length-only_if, flat_map-of-map}
use Rattle.lists.proofs.Places.{over_nothing}
use Rattle.lists.proofs.Writes.{put-fits, length-put, over-then, length_over}
use Rattle.tree.specs.Judge.{Report, kind_six}
use Rattle.records.specs.Readers.{Bytes}
use Rattle.session_spec.specs.Layout.{put_rp}
use Rattle.session_laws.proofs.Stores.{rp-length}
use Rattle.cells.specs.Cells.{blank_cells}
use Rattle.cells.proofs.Selections.{blank-length}
use Rattle.output_stores.specs.Stores.{Appended, used_after, in_mask}
use Rattle.output_stores.proofs.Appends.{nothing-appended}
use Rattle.start_places.specs.StartPass.{marked}
use Rattle.start_writes.specs.Writes.{sixes, Sixes, places, OneOpened, Opened}
use Rattle.start_writes.proofs.Sets.{up_to, places-next, length_marked, length-places}

-- ---- records of one width

pub flat-width : {A B : Type 0} (f : A → List B) (w : ℕ) → ((x : A) → length (f x) ≡ w) → (xs : List A) → length (flat_map f xs) ≡ w * length xs
unfolding flat_map
flat-width f w h [] = omega arith
flat-width f w h (x ∷ xs) = omega (arith, length-append (f x) (flat_map f xs), h x, flat-width f w h xs)

-- written behind those that are there
module _ {A : Type 0} (f : A → Bytes) (w : ℕ) (v : (x : A) → length (f x) ≡ w) (before held after : Bytes) (at here : ℕ) (xs ys : List A) where
  pub flat-then : at + w * (length xs + length ys) ≤ length before → here ≡ at + w * length xs → held ≡ over before at (flat_map f xs)
      → after ≡ put held here (flat_map f ys) → after ≡ over before at (flat_map f (xs ++ ys))
  flat-then r e p q =
      let m : length (flat_map f xs) ≡ w * length xs = flat-width f w v xs in
      let n : length (flat_map f ys) ≡ w * length ys = flat-width f w v ys in
      let s : w * (length xs + length ys) ≡ w * length xs + w * length ys = mul-add w (length xs) (length ys) in
      let l : length held ≡ length before = ap length p ∙ length_over before at (flat_map f xs) (omega arith) in
      q
      ∙ put-fits held here (flat_map f ys) (omega arith)
      ∙ ap (λ (z : Bytes). over z here (flat_map f ys)) p
      ∙ over-then before at here (flat_map f xs) (flat_map f ys) (omega arith) (omega arith)
      ∙ ap (over before at) (sym (flat_map-append f xs ys))

-- nothing more
pub put-nothing : (l : Bytes) (at : ℕ) → put l at [] ≡ l
unfolding put
put-nothing l at = by (leb (at + 0) (length l))
  where
    by : (t : Bool) → cond t (over l at []) l ≡ l
    by true = over_nothing l at
    by false = refl

-- ---- reports of kind 6

pub sixes-flat : (event : ℕ) (cs : List ℕ) → sixes event cs ≡ flat_map (λ c. put_rp (kind_six event c)) cs
sixes-flat event cs = flat_map-of-map put_rp (λ i. kind_six event i) cs

pub sixes-length : (event : ℕ) (cs : List ℕ) → length (sixes event cs) ≡ 18 * length cs
sixes-length event cs =
    ap length (sixes-flat event cs)
    ∙ flat-width (λ c. put_rp (kind_six event c)) 18 (λ c. rp-length (kind_six event c)) cs

used-fits : (store : Bytes) (used : ℕ) (bs : Bytes) → used + length bs ≤ length store → used_after store used bs ≡ used + length bs
unfolding used_after
used-fits store used bs h = rw (le-leb (used + length bs) (length store) h)

-- one
pub one-six : (reports after : Bytes) (used next event c : ℕ) (r : Report) → r ≡ kind_six event c → Appended reports used (put_rp r) next after
    → Appended reports used (sixes event (c ∷ [])) next after
unfolding flat_map
one-six reports after used next event c r s a =
    subst (λ (z : Bytes). Appended reports used z next after) (ap put_rp s ∙ sym (append-nil (put_rp (kind_six event c)))) a

-- in a turn of the loop: where the set has no such place, and where it has one
module _ (reports after : Bytes) (used next event : ℕ) (b : Bool) (c : ℕ) where
  pub no_six : b ≡ false → next ≡ used → after ≡ reports → Appended reports used (sixes event (only_if b (c ∷ []))) next after
  no_six e q r = let a = none b e in record { answers = q ∙ a.answers; leaves = r ∙ a.leaves }
    where
      none : (b : Bool) → b ≡ false → Appended reports used (sixes event (only_if b (c ∷ []))) used reports
      none true e = absurd (false≢true (sym e))
      none false e = unfold only_if in unfold flat_map in nothing-appended reports used

  pub some-six : (there : Bytes) (at d : ℕ) → b ≡ true → next ≡ at → after ≡ there → d ≡ c → Appended reports used (sixes event (d ∷ [])) at there
      → Appended reports used (sixes event (only_if b (c ∷ []))) next after
  some-six there at d e q r k a = some b e
    where
      here : Appended reports used (sixes event (c ∷ [])) next after
      here =
          let f = subst (λ (z : ℕ). Appended reports used (sixes event (z ∷ [])) at there) k a in
          record { answers = q ∙ f.answers; leaves = r ∙ f.leaves }

      some : (b : Bool) → b ≡ true → Appended reports used (sixes event (only_if b (c ∷ []))) next after
      some true e = unfold only_if in here
      some false e = absurd (false≢true e)

pub no-sixes : (reports : Bytes) (used : ℕ) (numbers : List ℕ) (mask event : ℕ) → Sixes reports used (take 0 numbers) mask event used reports
unfolding marked flat_map
no-sixes reports used numbers mask event =
    record { writes = λ w r. (sym (add-zero used), sym (over_nothing reports used)); keeps = refl }

pub six-turn : (before held after : Bytes) (used at next : ℕ) (numbers : List ℕ) (mask event j : ℕ) (b : Bool) → j < length numbers → j < 32
    → b ≡ in_mask mask j → Sixes before used (take j numbers) mask event at held
    → Appended held at (sixes event (only_if b (get_or numbers j 0 ∷ []))) next after → Sixes before used (take (j + 1) numbers) mask event next after
six-turn before held after used at next numbers mask event j b h g e s a =
    record { writes = λ _ r. (number r, bytes r); keeps = ap length a.leaves ∙ length-put held at (sixes event one) ∙ s.keeps }
  where
    front : List ℕ
    front = marked mask 0 (take j numbers)

    one : List ℕ
    one = only_if b (get_or numbers j 0 ∷ [])

    all : List ℕ
    all = marked mask 0 (take (j + 1) numbers)

    split : all ≡ front ++ one
    split = up_to mask numbers j 0 b h e

    count : length all ≡ length front + length one
    count = ap length split ∙ length-append front one

    few : length (take j numbers) ≡ j
    few = length-take-le j numbers (omega arith)

    done : used + 18 * length all ≤ length before → (at ≡ used + 18 * length front) × (held ≡ over before used (sixes event front))
    done r = s.writes (omega (arith, few)) (omega (arith, count))

    number : used + 18 * length all ≤ length before → next ≡ used + 18 * length all
    number r =
        let w = sixes-length event one in
        let l = s.keeps in
        let fits : at + length (sixes event one) ≤ length held = omega (arith, count, (done r).0) in
        omega (arith, a.answers, used-fits held at (sixes event one) fits, count, (done r).0)

    bytes : used + 18 * length all ≤ length before → after ≡ over before used (sixes event all)
    bytes r =
        let f : ℕ → Bytes = λ c. put_rp (kind_six event c) in
        let room : used + 18 * (length front + length one) ≤ length before = omega (arith, count) in
        flat-then f 18 (λ c. rp-length (kind_six event c)) before held after used at front one room (done r).0
        ((done r).1 ∙ ap (over before used) (sixes-flat event front)) (a.leaves ∙ ap (put held at) (sixes-flat event one))
        ∙ ap (over before used) (sym (sixes-flat event (front ++ one)))
        ∙ ap (λ (z : List ℕ). over before used (sixes event z)) (sym split)

-- ---- blank selections

pub too_many : (cells : Bytes) (n : ℕ) (b : Bool) (depth scope : ℕ) → 64 ≤ n → OneOpened cells n b depth scope n cells
too_many cells n b depth scope h = record { opens = λ g. absurd (omega arith); keeps = refl }

pub one-opened : (cells after : Bytes) (n depth scope : ℕ) → after ≡ put cells (512 * n) (blank_cells depth scope) → OneOpened cells n true depth scope (n + 1) after
unfolding only_if flat_map
one-opened cells after n depth scope p =
    record {
      opens = λ h. (refl, p ∙ ap (put cells (512 * n)) (sym (append-nil (blank_cells depth scope))));
      keeps = ap length p ∙ length-put cells (512 * n) (blank_cells depth scope);
    }

-- in a turn of the loop: where the set has no such place, and where it has one
module _ (cells after : Bytes) (n : ℕ) (b : Bool) (depth scope next : ℕ) where
  pub none-opened : b ≡ false → next ≡ n → after ≡ cells → OneOpened cells n b depth scope next after
  none-opened e q r = rw (e, q, r) none
    where
      none : OneOpened cells n false depth scope n cells
      none = unfold only_if in unfold flat_map in record { opens = λ h. (sym (add-zero n), sym (put-nothing cells (512 * n))); keeps = refl }

  pub some-opened : (there : Bytes) (at : ℕ) → b ≡ true → next ≡ at → after ≡ there → OneOpened cells n true depth scope at there → OneOpened cells n b depth scope next after
  some-opened there at e q r a = rw (e, q, r) a

pub no-selections : (cells : Bytes) (n mask depth : ℕ) → Opened cells n mask 0 depth n cells
unfolding marked places flat_map
no-selections cells n mask depth =
    record { opens = λ h g r. (sym (add-zero n), sym (over_nothing cells (512 * n))); keeps = refl }

pub open_turn : (before held after : Bytes) (n count next mask depth j : ℕ) (b : Bool) → j < 32 → b ≡ in_mask mask j
    → Opened before n mask j depth count held → OneOpened held count b depth j next after → Opened before n mask (j + 1) depth next after
open_turn before held after n count next mask depth j b g e s a =
    record { opens = λ h _ r. (number h r, bytes h r); keeps = a.keeps ∙ s.keeps }
  where
    front : List ℕ
    front = marked mask 0 (places j)

    one : List ℕ
    one = only_if b (j ∷ [])

    all : List ℕ
    all = marked mask 0 (places (j + 1))

    split : all ≡ front ++ one
    split = places-next mask j ∙ ap (λ (t : Bool). front ++ only_if t (j ∷ [])) (sym e)

    many : length all ≡ length front + length one
    many = ap length split ∙ length-append front one

    few : length front ≤ j
    few = omega (arith, length_marked mask 0 (places j), length-places j)

    done : n ≤ 32 → 512 * (n + length all) ≤ length before → (count ≡ n + length front) × (held ≡ over before (512 * n) (flat_map (blank_cells depth) front))
    done h r = s.opens h (omega arith) (omega (arith, many))

    now : n ≤ 32 → 512 * (n + length all) ≤ length before
        → (next ≡ count + cond b 1 0) × (after ≡ put held (512 * count) (flat_map (blank_cells depth) one))
    now h r = a.opens (omega (arith, (done h r).0, few))

    number : n ≤ 32 → 512 * (n + length all) ≤ length before → next ≡ n + length all
    number h r = omega (arith, (now h r).0, (done h r).0, many, length-only_if b (j ∷ []))

    bytes : n ≤ 32 → 512 * (n + length all) ≤ length before → after ≡ over before (512 * n) (flat_map (blank_cells depth) all)
    bytes h r =
        let room : 512 * n + 512 * (length front + length one) ≤ length before = omega (arith, many) in
        let here : 512 * count ≡ 512 * n + 512 * length front = omega (arith, (done h r).0) in
        flat-then (blank_cells depth) 512 (blank-length depth) before held after (512 * n) (512 * count) front one room here (done h r).1 (now h r).1
        ∙ ap (λ (z : List ℕ). over before (512 * n) (flat_map (blank_cells depth) z)) (sym split)
