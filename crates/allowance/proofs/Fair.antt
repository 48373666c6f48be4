-- A job that waits is served within 8 records: each other job that is served stands between the one served before it and
-- the job, going round.
-- Assumes nothing.
use Prim.Native.Nat.{ℕ, zero, suc, ◌+◌, ◌-◌, ◌≤◌, ◌<◌}
use native.Mathlib.Omega.{arith}
use borrow.Author.Tests.{ltb-true, ltb-false, eqb-false, leb-true, leb-false, le-leb}
use lib.Dec.{ltb, leb, eqb}
use lib.ListN.{length, get_or}
use mathlib.Core.Path.{◌≡◌, refl, ap, sym, ◌∙◌, subst}
use mathlib.Core.Bool.{Bool, true, false, cond, ◌&&◌, ◌||◌, false≢true}
use mathlib.Core.List.{List, [], ◌∷◌}
use mathlib.Core.Option.{Option, none, some, or_else, none-ne-some}
use Rattle.std.proofs.lemmas.Bool.{and_parts, or_parts}
use Rattle.lists.specs.Lists.{any, All}
use Rattle.allowance.specs.Dispatcher.{waiting_from, lowest_waiting, next_job, served_on, served_in, Waits}

-- ---- what is found

-- who is named waits, and is not below the number
record Named (from n : ℕ) (ws : List Bool) (k : ℕ) : Type 0 where
  above : from ≤ k
  place : ℕ
  at : k ≡ n + place
  inside : place < length ws
  waits : get_or ws place false ≡ true

named-on : (from n : ℕ) (w : Bool) (ws : List Bool) (k : ℕ) → Named from (suc n) ws k → Named from n (w ∷ ws) k
named-on from n w ws k q =
    record { above = q.above; place = suc q.place; at = omega (arith, q.at); inside = omega (arith, q.inside); waits = q.waits }

found-is : (from n : ℕ) (ws : List Bool) (k : ℕ) → waiting_from from n ws ≡ some k → Named from n ws k
unfolding waiting_from
found-is from n [] k h = let z : ◌≡◌ {A = ℕ} 0 1 = cc in absurd (omega arith)
found-is from n (w ∷ ws) k h = by (w && leb from n) refl h (found-is from (suc n) ws k)
  where
    by : (t : Bool) → (w && leb from n) ≡ t → cond t (some n) (waiting_from from (suc n) ws) ≡ some k → (waiting_from from (suc n) ws ≡ some k → Named from (suc n) ws k) → Named from n (w ∷ ws) k
    by true e h f =
        let q : n ≡ k = cc in
        let p = and_parts w (leb from n) e in
        record { above = let z = leb-true from n p.1 in omega (arith, z, q); place = 0; at = omega (arith, q); inside = omega arith; waits = p.0 }
    by false e h f = named-on from n w ws k (f h)

-- a job that waits and is not below the number is found, or one before it
finds : (from n : ℕ) (ws : List Bool) (i : ℕ) → get_or ws i false ≡ true → from ≤ n + i → (k : ℕ) × (waiting_from from n ws ≡ some k) × (k ≤ n + i)
unfolding waiting_from
finds from n [] i h l = absurd (false≢true h)
finds from n (w ∷ ws) zero h l = (n, rw (h, le-leb from n (omega arith)), omega arith)
finds from n (w ∷ ws) (suc i) h l = by (w && leb from n) (finds from (suc n) ws i h (omega arith))
  where
    by : (t : Bool) → (k : ℕ) × (waiting_from from (suc n) ws ≡ some k) × (k ≤ suc n + i) → (k : ℕ) × (cond t (some n) (waiting_from from (suc n) ws) ≡ some k) × (k ≤ n + suc i)
    by true q = (n, refl, omega arith)
    by false q = (q.0, q.1, omega (arith, q.2))

-- ---- WHO IS NAMED WAITS

waiting-named : (from : ℕ) (ws : List Bool) (k : ℕ) → waiting_from from 0 ws ≡ some k → (k < length ws) × (get_or ws k false ≡ true)
waiting-named from ws k h =
    let q = found-is from 0 ws k h in
    let e : q.place ≡ k = omega (arith, q.at) in
    (omega (arith, q.inside, e), subst (λ (i : ℕ). get_or ws i false ≡ true) e q.waits)

pub next-waits : (last : Option ℕ) (ws : List Bool) (k : ℕ) → next_job last ws ≡ some k → (k < length ws) × (get_or ws k false ≡ true)
unfolding next_job lowest_waiting
next-waits none ws k h = waiting-named 0 ws k h
next-waits (some l) ws k h = by (waiting_from (suc l) 0 ws) refl h
  where
    by : (o : Option ℕ) → waiting_from (suc l) 0 ws ≡ o → or_else o (waiting_from 0 0 ws) ≡ some k → (k < length ws) × (get_or ws k false ≡ true)
    by none e h = waiting-named 0 ws k (unfold or_else in h)
    by (some m) e h = let q : m ≡ k = unfold or_else in cc in waiting-named (suc l) ws k (e ∙ ap some q)

-- and none is named only where none waits
pub none-waits : (last : Option ℕ) (ws : List Bool) → next_job last ws ≡ none → (i : ℕ) → get_or ws i false ≡ true → ⊥
unfolding next_job lowest_waiting
none-waits none ws h i w = let q = finds 0 0 ws i w (omega arith) in none-ne-some q.0 (sym h ∙ q.1)
none-waits (some l) ws h i w = by (waiting_from (suc l) 0 ws) h
  where
    by : (o : Option ℕ) → or_else o (waiting_from 0 0 ws) ≡ none → ⊥
    by none h =
        let q = finds 0 0 ws i w (omega arith) in
        let g : waiting_from 0 0 ws ≡ none = unfold or_else in h in
        none-ne-some q.0 (sym g ∙ q.1)
    by (some m) h = let g : some m ≡ none = unfold or_else in h in none-ne-some m (sym g)

-- a last of 8 or more is as none
pub last-past : (l : ℕ) (ws : List Bool) → length ws ≤ suc l → next_job (some l) ws ≡ next_job none ws
unfolding next_job
last-past l ws h = by (waiting_from (suc l) 0 ws) refl
  where
    by : (o : Option ℕ) → waiting_from (suc l) 0 ws ≡ o → or_else o (lowest_waiting ws) ≡ lowest_waiting ws
    by none e = unfold or_else in refl
    by (some m) e = let q = found-is (suc l) 0 ws m e in absurd (omega (arith, q.above, q.at, q.inside, h))

-- ---- fewer than b jobs can come before job j

abbrev Near : Option ℕ → ℕ → ℕ → Type 0
Near none j b = j < b
Near (some l) j b = (l < j → j - l ≤ b) × (j ≤ l → l < 8 → (8 - l) + j ≤ b) × (8 ≤ l → j < b)

-- the turn goes to a job, and that is job j or one nearer
record Turned (last : Option ℕ) (ws : List Bool) (j b : ℕ) : Type 0 where
  job : ℕ
  named : next_job last ws ≡ some job
  near : (job ≡ j → ⊥) → Near (some job) j b

from_lowest : (ws : List Bool) (j b : ℕ) → j < 8 → Waits j ws → j ≤ b → (last : Option ℕ) → next_job last ws ≡ lowest_waiting ws → Turned last ws j b
unfolding lowest_waiting
from_lowest ws j b s w h last e =
    let q = finds 0 0 ws j w.1 (omega arith) in
    record {
      job = q.0;
      named = e ∙ q.1;
      near = λ m. (λ l. omega arith, λ l k. absurd (m (omega (arith, q.2))), λ l. absurd (omega (arith, q.2)));
    }

module _ (l : ℕ) (ws : List Bool) (j b : ℕ) (s : j < 8) (w : Waits j ws) (n : Near (some l) j (suc b)) where
  to-above : l < j → Turned (some l) ws j b
  unfolding next_job
  to-above h =
      let q = finds (suc l) 0 ws j w.1 (omega arith) in
      let a = found-is (suc l) 0 ws q.0 q.1 in
      record {
        job = q.0;
        named = rw q.1 (unfold or_else in refl);
        near = λ m. (λ x. let z = n.0 h in omega (arith, a.above), λ x y. absurd (m (omega (arith, q.2))), λ x. absurd (omega (arith, q.2)));
      }

  round : j ≤ l → (o : Option ℕ) → waiting_from (suc l) 0 ws ≡ o → Turned (some l) ws j b
  unfolding next_job
  round h none e = from_lowest ws j b s w (by (ltb l 8) refl) (some l) (rw e (unfold or_else in refl))
    where
      by : (c : Bool) → ltb l 8 ≡ c → j ≤ b
      by true g = let z = n.1 h (ltb-true l 8 g) in let y = ltb-true l 8 g in omega arith
      by false g = let z = n.2 (ltb-false l 8 g) in omega arith
  round h (some k) e =
      let a = found-is (suc l) 0 ws k e in
      let below : k < 8 = omega (arith, a.at, a.inside, w.0) in
      let z = n.1 h (omega (arith, a.above, below)) in
      record {
        job = k;
        named = rw e (unfold or_else in refl);
        near = λ m. (λ x. absurd (omega (arith, a.above)), λ x y. omega (arith, a.above, below, z), λ x. absurd (omega (arith, below)));
      }

turn : (last : Option ℕ) (ws : List Bool) (j b : ℕ) → j < 8 → Waits j ws → Near last j (suc b) → Turned last ws j b
unfolding next_job
turn none ws j b s w n = from_lowest ws j b s w (omega arith) none refl
turn (some l) ws j b s w n = by (ltb l j) refl
  where
    by : (c : Bool) → ltb l j ≡ c → Turned (some l) ws j b
    by true g = to-above l ws j b s w n (ltb-true l j g)
    by false g = round l ws j b s w n (ltb-false l j g) (waiting_from (suc l) 0 ws) refl

some_near : (last : Option ℕ) (j b : ℕ) → Near last j b → 0 < b
some_near none j b n = omega arith
some_near (some l) j b n = by (ltb l j) refl (ltb l 8) refl
  where
    by : (c : Bool) → ltb l j ≡ c → (d : Bool) → ltb l 8 ≡ d → 0 < b
    by true g d e = let z = n.0 (ltb-true l j g) in let y = ltb-true l j g in omega arith
    by false g true e = let z = n.1 (ltb-false l j g) (ltb-true l 8 e) in let y = ltb-true l 8 e in omega arith
    by false g false e = let z = n.2 (ltb-false l 8 e) in omega arith

unserved : (turns : List (List Bool)) (last : Option ℕ) (j b : ℕ) → j < 8 → Near last j b → All (Waits j) turns → any (eqb j) (served_in last turns) ≡ false → length turns < b
unfolding served_in served_on
unserved [] last j b s n a h = some_near last j b n
unserved (ws ∷ turns) last j zero s n a h = absurd (omega (arith, some_near last j 0 n))
unserved (ws ∷ turns) last j (suc b) s n a h =
    let t = turn last ws j b s a.0 n in
    let k : (eqb j t.job || any (eqb j) (served_in (some t.job) turns)) ≡ false = rw t.named at h in
    let p = or_parts (eqb j t.job) (any (eqb j) (served_in (some t.job) turns)) k in
    let r = unserved turns (some t.job) j b s (t.near (λ e. eqb-false j t.job p.0 (sym e))) a.1 p.1 in
    omega arith

-- SERVED WITHIN 8: as long as job j waits and has not been served, fewer than 8 records were handed in, whoever was served
-- before and whoever else waits
pub served-within-8 : (last : Option ℕ) (turns : List (List Bool)) (j : ℕ) → j < 8 → All (Waits j) turns → any (eqb j) (served_in last turns) ≡ false → length turns < 8
served-within-8 last turns j s a h = unserved turns last j 8 s (start last) a h
  where
    start : (o : Option ℕ) → Near o j 8
    start none = s
    start (some l) = (λ x. omega arith, λ x y. omega arith, λ x. omega arith)
