-- Numbers raised one by one, at the places of constraints, are the totals grown by how often each constraint is there.
-- Assumes nothing.
use Prim.Native.Nat.{ℕ, zero, suc, ◌+◌, ◌*◌, ◌≤◌, ◌<◌}
use native.Mathlib.Nat.{add-zero}
use native.Mathlib.Omega.{arith}
use borrow.Author.Tests.{le-leb, leb-true, ltb-true, ltb-false, eq-eqb, ne_eqb, eqb-true, eqb-false}
use lib.Dec.{eqb, leb, ltb}
use lib.ListN.{length}
use mathlib.Core.Path.{◌≡◌, refl, ap, ap₂, sym, ◌∙◌}
use mathlib.Core.Bool.{Bool, true, false, cond}
use mathlib.Core.List.{List, [], ◌∷◌, ◌++◌, map}
use Rattle.std.proofs.lemmas.Bool.{and_parts, and_from}
use Rattle.lists.specs.Lists.{all, only_if, passing}
use Rattle.totals.specs.Counts.{times}
use Rattle.totals.specs.Totals.{Total, Totals, fits_total, totals_fit, sum_up_to, grown_from}
use Rattle.totals.proofs.Reached.{times-append}
use Rattle.counting.specs.Places.{raised, raised_at, raised_all}

-- ---- sums up to the limit

pub none_more : (a : ℕ) → a ≤ 32000000 → sum_up_to a 0 ≡ a
unfolding sum_up_to
none_more a h = rw (add-zero, le-leb a 32000000 h)

raised-fits : (a : ℕ) → a ≤ 32000000 → raised a ≤ 32000000
raised-fits a h = by (ltb a 32000000) refl
  where
    by : (b : Bool) → ltb a 32000000 ≡ b → cond b (a + 1) a ≤ 32000000
    by true e = omega (arith, ltb-true a 32000000 e)
    by false e = h

sum-after : (a b : ℕ) → a ≤ 32000000 → sum_up_to (raised a) b ≡ sum_up_to a (suc b)
unfolding sum_up_to
sum-after a b h = by (ltb a 32000000) refl
  where
    full : a ≡ 32000000 → (p q : Bool) → leb (a + b) 32000000 ≡ p → leb (a + suc b) 32000000 ≡ q → cond p (a + b) 32000000 ≡ cond q (a + suc b) 32000000
    full e true true f g = let z = leb-true (a + suc b) 32000000 g in absurd (omega arith)
    full e true false f g = let z = leb-true (a + b) 32000000 f in omega arith
    full e false true f g = let z = leb-true (a + suc b) 32000000 g in absurd (omega arith)
    full e false false f g = refl

    by : (c : Bool) → ltb a 32000000 ≡ c → cond (leb (cond c (a + 1) a + b) 32000000) (cond c (a + 1) a + b) 32000000 ≡ cond (leb (a + suc b) 32000000) (a + suc b) 32000000
    by true e = let k : a + 1 + b ≡ a + suc b = omega arith in ap (λ (n : ℕ). cond (leb n 32000000) n 32000000) k
    by false e =
        let i = ltb-false a 32000000 e in
        full (omega (arith, i, h)) (leb (a + b) 32000000) (leb (a + suc b) 32000000) refl refl

-- ---- each number grown by how often its place is there

counted_from : List ℕ → (j : ℕ) → Totals → Totals
counted_from ps j [] = []
counted_from ps j (n ∷ ns) = sum_up_to n (times j ps) ∷ counted_from ps (suc j) ns

not_there : (j p : ℕ) (ps : List ℕ) → (p ≡ j → ⊥) → times j (p ∷ ps) ≡ times j ps
unfolding times passing
not_there j p ps h = rw (ne_eqb p j h) (unfold only_if in refl)

there : (j p : ℕ) (ps : List ℕ) → p ≡ j → times j (p ∷ ps) ≡ suc (times j ps)
unfolding times passing
there j p ps h = rw (eq-eqb p j h) (unfold only_if in refl)

counted_none : (j : ℕ) (ns : Totals) → totals_fit ns ≡ true → counted_from [] j ns ≡ ns
unfolding counted_from totals_fit times passing
counted_none j [] h = refl
counted_none j (n ∷ ns) h =
    let p = and_parts (fits_total n) (all fits_total ns) h in
    ap₂ {C = Totals} ◌∷◌ (none_more n (leb-true n 32000000 p.0)) (counted_none (suc j) ns p.1)

-- a place before these numbers counts for none of them
counted-before : (ps : List ℕ) (p j : ℕ) (ns : Totals) → p < j → counted_from (p ∷ ps) j ns ≡ counted_from ps j ns
unfolding counted_from
counted-before ps p j [] h = refl
counted-before ps p j (n ∷ ns) h =
    ap₂ {C = Totals} ◌∷◌ (ap (sum_up_to n) (not_there j p ps (λ e. omega arith))) (counted-before ps p (suc j) ns (omega arith))

counted-raised : (ps : List ℕ) (j q : ℕ) (ns : Totals) → totals_fit ns ≡ true → counted_from ps j (raised_at ns q) ≡ counted_from ((j + q) ∷ ps) j ns
unfolding counted_from raised_at totals_fit
counted-raised ps j q [] h = refl
counted-raised ps j zero (n ∷ ns) h =
    let p = and_parts (fits_total n) (all fits_total ns) h in
    let e : j + 0 ≡ j = omega arith in
    ap₂ {C = Totals} ◌∷◌ (sum-after n (times j ps) (leb-true n 32000000 p.0) ∙ ap (sum_up_to n) (sym (there j (j + 0) ps e))) (sym (counted-before ps (j + 0) (suc j) ns (omega arith)))
counted-raised ps j (suc q) (n ∷ ns) h =
    let p = and_parts (fits_total n) (all fits_total ns) h in
    let e : suc j + q ≡ j + suc q = omega arith in
    ap₂ {C = Totals} ◌∷◌ (ap (sum_up_to n) (sym (not_there j (j + suc q) ps (λ i. omega arith))))
    (counted-raised ps (suc j) q ns p.1 ∙ ap (λ (k : ℕ). counted_from (k ∷ ps) (suc j) ns) e)

raised-fit : (q : ℕ) (ns : Totals) → totals_fit ns ≡ true → totals_fit (raised_at ns q) ≡ true
unfolding raised_at totals_fit
raised-fit q [] h = refl
raised-fit zero (n ∷ ns) h =
    let p = and_parts (fits_total n) (all fits_total ns) h in
    and_from (fits_total (raised n)) (all fits_total ns) (le-leb (raised n) 32000000 (raised-fits n (leb-true n 32000000 p.0))) p.1
raised-fit (suc q) (n ∷ ns) h =
    let p = and_parts (fits_total n) (all fits_total ns) h in
    and_from (fits_total n) _ p.0 (raised-fit q ns p.1)

raised-counted : (ps : List ℕ) (ns : Totals) → totals_fit ns ≡ true → raised_all ns ps ≡ counted_from ps 0 ns
unfolding raised_all
raised-counted [] ns h = sym (counted_none 0 ns h)
raised-counted (p ∷ ps) ns h =
    let e : 0 + p ≡ p = omega arith in
    raised-counted ps (raised_at ns p) (raised-fit p ns h) ∙ counted-raised ps 0 p ns h ∙ ap (λ (k : ℕ). counted_from (k ∷ ps) 0 ns) e

-- ---- three by three

-- a number stands as often in the places as its constraint does
times-same : (i k : ℕ) (cs : List ℕ) → times (3 * k + i) (map (λ c. 3 * c + i) cs) ≡ times k cs
times-same i k [] = unfold times passing in refl
times-same i k (c ∷ cs) = by (eqb c k) refl (times-same i k cs)
  where
    by : (b : Bool) → eqb c k ≡ b → times (3 * k + i) (map (λ d. 3 * d + i) cs) ≡ times k cs → times (3 * k + i) ((3 * c + i) ∷ map (λ d. 3 * d + i) cs) ≡ times k (c ∷ cs)
    by true e h = let q = eqb-true c k e in there (3 * k + i) (3 * c + i) _ (omega (arith, q)) ∙ ap suc h ∙ sym (there k c cs q)
    by false e h = let q = eqb-false c k e in not_there (3 * k + i) (3 * c + i) _ (λ z. q (omega (arith, z))) ∙ h ∙ sym (not_there k c cs q)

times-other : (i j k : ℕ) (cs : List ℕ) → i < 3 → j < 3 → (i ≡ j → ⊥) → times (3 * k + j) (map (λ c. 3 * c + i) cs) ≡ 0
times-other i j k [] a b n = unfold times passing in refl
times-other i j k (c ∷ cs) a b n = not_there (3 * k + j) (3 * c + i) _ (λ z. n (omega (arith, z, a, b))) ∙ times-other i j k cs a b n

-- the places of these constraints, for the three numbers of their entries
abbrev pub places_for : (finished tuples reports : List ℕ) → List ℕ
places_for cs ds es = map (λ c. 3 * c + 0) cs ++ (map (λ c. 3 * c + 1) ds ++ map (λ c. 3 * c + 2) es)

module _ (cs ds es : List ℕ) where
  abbrev ps : List ℕ
  ps = places_for cs ds es

  three : (p : ℕ) → times p ps ≡ times p (map (λ c. 3 * c + 0) cs) + (times p (map (λ c. 3 * c + 1) ds) + times p (map (λ c. 3 * c + 2) es))
  three p =
      times-append p (map (λ c. 3 * c + 0) cs) _
      ∙ ap (λ (n : ℕ). times p (map (λ c. 3 * c + 0) cs) + n) (times-append p (map (λ c. 3 * c + 1) ds) (map (λ c. 3 * c + 2) es))

  at-reached : (k : ℕ) → times (3 * k + 0) ps ≡ times k cs
  at-reached k =
      let a = times-same 0 k cs in
      let b = times-other 1 0 k ds (omega arith) (omega arith) (λ e. omega arith) in
      let c = times-other 2 0 k es (omega arith) (omega arith) (λ e. omega arith) in
      three (3 * k + 0) ∙ omega (arith, a, b, c)

  at-tuples : (k : ℕ) → times (3 * k + 1) ps ≡ times k ds
  at-tuples k =
      let a = times-other 0 1 k cs (omega arith) (omega arith) (λ e. omega arith) in
      let b = times-same 1 k ds in
      let c = times-other 2 1 k es (omega arith) (omega arith) (λ e. omega arith) in
      three (3 * k + 1) ∙ omega (arith, a, b, c)

  at-reports : (k : ℕ) → times (3 * k + 2) ps ≡ times k es
  at-reports k =
      let a = times-other 0 2 k cs (omega arith) (omega arith) (λ e. omega arith) in
      let b = times-other 1 2 k ds (omega arith) (omega arith) (λ e. omega arith) in
      let c = times-same 2 k es in
      three (3 * k + 2) ∙ omega (arith, a, b, c)

  abbrev more : ℕ → Total
  more k = record { reached = times k cs; tuples = times k ds; reports = times k es }

  entries-counted : (m k : ℕ) (ns : Totals) → totals_fit ns ≡ true → length ns ≡ 3 * m → counted_from ps (3 * k + 0) ns ≡ grown_from more k ns
  unfolding counted_from grown_from totals_fit
  entries-counted m k [] h l = refl
  entries-counted m k (a ∷ []) h l = absurd (omega arith)
  entries-counted m k (a ∷ b ∷ []) h l = absurd (omega arith)
  entries-counted zero k (a ∷ b ∷ c ∷ ns) h l = absurd (omega arith)
  entries-counted (suc m) k (a ∷ b ∷ c ∷ ns) h l =
      let p = and_parts (fits_total a) _ h in
      let q = and_parts (fits_total b) _ p.1 in
      let r = and_parts (fits_total c) _ q.1 in
      let e : suc (3 * k + 0) ≡ 3 * k + 1 = omega arith in
      let f : suc (suc (3 * k + 0)) ≡ 3 * k + 2 = omega arith in
      let g : suc (suc (suc (3 * k + 0))) ≡ 3 * suc k + 0 = omega arith in
      ap₂ {C = Totals} ◌∷◌ (ap (sum_up_to a) (at-reached k))
      (ap₂ {C = Totals} ◌∷◌ (ap (λ (i : ℕ). sum_up_to b (times i ps)) e ∙ ap (sum_up_to b) (at-tuples k))
      (ap₂ {C = Totals} ◌∷◌ (ap (λ (i : ℕ). sum_up_to c (times i ps)) f ∙ ap (sum_up_to c) (at-reports k))
      (ap (λ (i : ℕ). counted_from ps i ns) g ∙ entries-counted m (suc k) ns r.1 (omega arith))))

  -- THE LAW of the sums
  pub raised-grown : (m : ℕ) (ns : Totals) → totals_fit ns ≡ true → length ns ≡ 3 * m → raised_all ns ps ≡ grown_from more 0 ns
  raised-grown m ns h l = raised-counted ps ns h ∙ entries-counted m 0 ns h l
