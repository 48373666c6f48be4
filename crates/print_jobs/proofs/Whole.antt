-- The 34 numbers are all that an allowance holds: two lists of them that hold the same allowance are the same, four numbers
-- after four. So an equation of allowances is one of every number.
-- Assumes nothing.
use Prim.Native.Nat.{ℕ, zero, suc, ◌*◌, ◌≤◌}
use native.Mathlib.Omega.{arith}
use lib.ListN.{length, drop, get_or, length-drop}
use mathlib.Core.Path.{◌≡◌, ap, ap₂, sym, ◌∙◌}
use mathlib.Core.List.{List, ◌∷◌}
use Rattle.std.proofs.lemmas.List.{drop_more, nil_from_length}
use Rattle.allowance.specs.Allowance.{Job, Allowance, no_job}
use Rattle.allowance.specs.Numbers.{job_in, jobs_from, allowance_in}

first_two : (ns : List ℕ) → 2 ≤ length ns → ns ≡ get_or ns 0 0 ∷ get_or ns 1 0 ∷ drop 2 ns
first_two ns h =
    drop_more ns 0 0 (omega (arith, h))
    ∙ ap (λ (l : List ℕ). get_or ns 0 0 ∷ l) (drop_more ns 1 0 (omega (arith, h)))

first-four : (ns : List ℕ) → 4 ≤ length ns → ns ≡ get_or ns 0 0 ∷ get_or ns 1 0 ∷ get_or ns 2 0 ∷ get_or ns 3 0 ∷ drop 4 ns
first-four ns h =
    first_two ns (omega (arith, h))
    ∙ ap (λ (l : List ℕ). get_or ns 0 0 ∷ get_or ns 1 0 ∷ l)
    (drop_more ns 2 0 (omega (arith, h)) ∙ ap (λ (l : List ℕ). get_or ns 2 0 ∷ l) (drop_more ns 3 0 (omega (arith, h))))

cons_same : (x y : ℕ) (xs ys : List ℕ) → x ≡ y → xs ≡ ys → ◌≡◌ {A = List ℕ} (x ∷ xs) (y ∷ ys)
cons_same x y xs ys p q = ap₂ {C = List ℕ} ◌∷◌ p q

rows_same : (n : ℕ) (ns ms : List ℕ) → length ns ≡ 4 * n → length ms ≡ 4 * n → jobs_from n ns ≡ jobs_from n ms → ns ≡ ms
unfolding jobs_from job_in
rows_same zero ns ms l k e = nil_from_length ns (omega (arith, l)) ∙ sym (nil_from_length ms (omega (arith, k)))
rows_same (suc n) ns ms l k e =
    let first : job_in ns ≡ job_in ms = ap (λ (js : List Job). get_or js 0 no_job) e in
    let p = length-drop 4 ns in
    let q = length-drop 4 ms in
    let rest = rows_same n (drop 4 ns) (drop 4 ms) (omega (arith, p, l)) (omega (arith, q, k)) (ap (λ (js : List Job). drop 1 js) e) in
    first-four ns (omega (arith, l))
    ∙ cons_same _ _ _ _ (ap (λ (j : Job). j.guarantee) first)
    (cons_same _ _ _ _ (ap (λ (j : Job). j.cap) first)
    (cons_same _ _ _ _ (ap (λ (j : Job). j.used) first)
    (cons_same _ _ _ _ (ap (λ (j : Job). j.mark) first) rest)))
    ∙ sym (first-four ms (omega (arith, k)))

pub same-numbers-in : (ns ms : List ℕ) → length ns ≡ 34 → length ms ≡ 34 → allowance_in ns ≡ allowance_in ms → ns ≡ ms
unfolding allowance_in
same-numbers-in ns ms l k e =
    let p = length-drop 2 ns in
    let q = length-drop 2 ms in
    let rest = rows_same 8 (drop 2 ns) (drop 2 ms) (omega (arith, p, l)) (omega (arith, q, k)) (ap (λ (a : Allowance). a.places) e) in
    first_two ns (omega (arith, l))
    ∙ cons_same _ _ _ _ (ap (λ (a : Allowance). a.total) e) (cons_same _ _ _ _ (ap (λ (a : Allowance). a.count) e) rest)
    ∙ sym (first_two ms (omega (arith, k)))
