-- What a call for a job meets, from what is left behind the walk over the jobs; what it spends; and set-up.
-- Assumes nothing.
use Prim.Native.Nat.{ℕ, ◌+◌, ◌-◌, ◌*◌, ◌≤◌, ◌<◌, min}
use native.Mathlib.Omega.{arith}
use borrow.Author.Tests.{le-leb, lt-leb, lt-ltb, le-ltb}
use lib.Dec.{leb, ltb, eqb}
use lib.ListN.{length, drop, get_or}
use mathlib.Core.Path.{◌≡◌, refl, ap, ap₂, sym, ◌∙◌}
use mathlib.Core.Bool.{Bool, true, false, cond, ◌&&◌}
use mathlib.Core.List.{List}
use mathlib.Core.Option.{none, some, none-ne-some}
use Rattle.lists.specs.Lists.{all}
use Rattle.allowance.specs.Allowance.{Job, Allowance, is_open, jobs_of, job_at, sum_of, held_by, cap_no_smaller, terms_fit, use_fits, allowance_fits, started_from, fresh_allowance, ready, broken, short, set_together, setting_number, held_then, spend, close_at, most_of, most_admitted, Standing, unknown_job, unfit_state, known, job_standing, standing_number, closed_by, close_call}
use Rattle.allowance.specs.Numbers.{job_in, jobs_from, allowance_in}
use Rattle.allowance.proofs.Jobs.{sum-has}
use Rattle.allowance.proofs.Laws.{fits-are, guaranteed, job-below, standing-known, known-there, fresh-fits}
use Rattle.std.specs.declared.option.Option as code
use Rattle.std.specs.declared.option.Option.TheVariants.{Some, None}
use Rattle.std.specs.Option.{ok_or}
use Rattle.lists.specs.Answers.{given}
use Rattle.std.specs.declared.result.Result.{Result}
use Rattle.std.specs.declared.result.Result.TheVariants.{Ok, Err}
use Rattle.print_jobs.specs.declared.Admitted.{Admitted}
use Rattle.print_jobs.specs.declared.JobRefusal.{JobRefusal}
use Rattle.print_jobs.specs.declared.JobRefusal.TheVariants.{Unknown, Unfit}
use Rattle.print_jobs.specs.Answers.{left_over, most_by, admission_of, room_at, spent_by, spent_in, refusal_number, SetsUp, Closes}
use Rattle.print_jobs.proofs.Reading.{left-over-is, jobs-in, job-in-place}

-- ---- what is left, and whether the state fits

fits-so : (a : Allowance) (total : ℕ) → a.total ≡ total → leb a.count 8 ≡ true → allowance_fits a
    ≡ ((all cap_no_smaller (jobs_of a) && leb (guaranteed (jobs_of a)) total) && (all use_fits (jobs_of a) && leb (sum_of held_by (jobs_of a)) total))
unfolding allowance_fits terms_fit
fits-so a total t c = rw (t, c)

fits-few : (a : Allowance) → leb a.count 8 ≡ false → allowance_fits a ≡ false
unfolding allowance_fits terms_fit
fits-few a c = rw c

rest-is : (ns : List ℕ) (count total : ℕ) → total ≡ get_or ns 0 0 → count ≡ get_or ns 1 0 → count ≤ 8
    → left_over total total (jobs_from count (drop 2 ns)) ≡ cond (allowance_fits (allowance_in ns)) (some (total - sum_of held_by (jobs_of (allowance_in ns)))) none
rest-is ns count total e f h =
    let js : jobs_from count (drop 2 ns) ≡ jobs_of (allowance_in ns) = ap (λ (n : ℕ). jobs_from n (drop 2 ns)) f ∙ sym (jobs-in ns (omega (arith, h, f))) in
    let t : (allowance_in ns).total ≡ total = unfold allowance_in in (sym e) in
    let d : (allowance_in ns).count ≡ count = unfold allowance_in in (sym f) in
    ap (left_over total total) js
    ∙ left-over-is (jobs_of (allowance_in ns)) total total
    ∙ ap (λ (b : Bool). cond b (some (total - sum_of held_by (jobs_of (allowance_in ns)))) none)
    (sym (fits-so (allowance_in ns) total t (le-leb (allowance_in ns).count 8 (omega (arith, d, h)))))

rest-none : (b : Bool) (n : ℕ) → none ≡ cond b (some n) none → b ≡ false
rest-none true n h = absurd (none-ne-some n h)
rest-none false n h = refl

rest_some : (b : Bool) (l n : ℕ) → some l ≡ cond b (some n) none → (b ≡ true) × (l ≡ n)
rest_some true l n h = (refl, cc)
rest_some false l n h = absurd (none-ne-some l (sym h))

-- an answer of the walk, with the reason where nothing is left
pub not_left : (o : code.Option ℕ) (e f : JobRefusal) → ok_or o e ≡ Err f → (none ≡ given o) × (e ≡ f)
not_left None e f h = (refl, cc)
not_left (Some n) e f h = absurd cc

pub is_left : (o : code.Option ℕ) (e : JobRefusal) (n : ℕ) → ok_or o e ≡ Ok n → some n ≡ given o
is_left None e n h = absurd cc
is_left (Some m) e n h = let q : m ≡ n = cc in ap some (sym q)

most-at : (a : Allowance) (i : ℕ) (j : Job) → job_at a i ≡ some j → most_admitted a i ≡ min j.cap ((a.total - sum_of held_by (jobs_of a)) + held_by j) - j.used
unfolding most_admitted most_of
most-at a i j e = rw e

-- ---- what a call meets

module _ (ns : List ℕ) (i count : ℕ) (f : count ≡ get_or ns 1 0) where
  abbrev now : Allowance
  now = allowance_in ns

  count-is : now.count ≡ count
  unfolding allowance_in
  count-is = sym f

  pub meets-unknown : count ≤ i → Err Unknown ≡ admission_of now i (job_standing now i)
  unfolding job_standing
  meets-unknown h = let e : ltb i now.count ≡ false = le-ltb i now.count (omega (arith, h, count-is)) in rw e

  pub meets-many : i < count → 8 < count → Err Unfit ≡ admission_of now i (job_standing now i)
  unfolding job_standing
  meets-many h m =
      let e : ltb i now.count ≡ true = lt-ltb i now.count (omega (arith, h, count-is)) in
      let g : leb now.count 8 ≡ false = lt-leb now.count 8 (omega (arith, m, count-is)) in
      let fit = fits-few now g in
      rw (e, fit)

  module _ (below : i < count) (few : count ≤ 8) (total : ℕ) (t : total ≡ get_or ns 0 0) where
    pub meets-past : none ≡ left_over total total (jobs_from count (drop 2 ns)) → Err Unfit ≡ admission_of now i (job_standing now i)
    unfolding job_standing
    meets-past h =
        let e : ltb i now.count ≡ true = lt-ltb i now.count (omega (arith, below, count-is)) in
        let fit : allowance_fits now ≡ false = rest-none (allowance_fits now) (total - sum_of held_by (jobs_of now)) (h ∙ rest-is ns count total t f few) in
        rw (e, fit)

    module _ (left : ℕ) (some_left : some left ≡ left_over total total (jobs_from count (drop 2 ns))) (j : Job) (is : j ≡ job_in (drop (2 + 4 * i) ns)) where
      both : (allowance_fits now ≡ true) × (left ≡ total - sum_of held_by (jobs_of now))
      both = rest_some (allowance_fits now) left (total - sum_of held_by (jobs_of now)) (some_left ∙ rest-is ns count total t f few)

      there : job_at now i ≡ some j
      there = job-in-place ns i (omega (arith, below, f)) (omega (arith, few, f)) ∙ ap some (sym is)

      total-is : now.total ≡ total
      unfolding allowance_in
      total-is = sym t

      -- what is left and what the job holds are within T
      pub sum-within : left + held_by j ≤ total
      sum-within =
          let h = sum-has held_by (jobs_of now) i j (unfold job_at in there) in
          let s = (fits-are now both.0).sum in
          omega (arith, h, s, both.1, total-is)

      most-same : most_by j left ≡ most_admitted now i
      unfolding most_by
      most-same = let m = most-at now i j there in omega (arith, m, both.1, total-is)

      pub meets-known : (o : Bool) → o ≡ eqb j.mark 1 → (most : ℕ) → most ≡ most_by j left → Ok (record { is_open = o; most = most }) ≡ admission_of now i (job_standing now i)
      meets-known o p most q =
          let open_is : o ≡ is_open j = unfold is_open in p in
          ap₂ {C = Result Admitted JobRefusal} (λ (x : Bool) (y : ℕ). Ok (record { is_open = x; most = y })) open_is (q ∙ most-same)
          ∙ ap (admission_of now i) (sym (standing-known now (fits-are now both.0) i j there))

-- ---- what follows from an answer

module _ (a : Allowance) (i : ℕ) where
  -- a refusal is the number of what the job stands at, and neither changes anything
  record Refused (e : JobRefusal) (s : Standing) : Type 0 where
    number : refusal_number e ≡ standing_number s
    spends : (n : ℕ) → spent_by s a i n ≡ a
    closes : closed_by s a i ≡ a

  is-refused : (s : Standing) (e : JobRefusal) → Err e ≡ admission_of a i s → Refused e s
  unfolding standing_number spent_by closed_by
  is-refused unknown_job e h = record { number = let q : e ≡ Unknown = cc in ap refusal_number q; spends = λ n. refl; closes = refl }
  is-refused unfit_state e h = record { number = let q : e ≡ Unfit = cc in ap refusal_number q; spends = λ n. refl; closes = refl }
  is-refused (known j) e h = absurd cc

  is_known : (s : Standing) (x : Admitted) → Ok x ≡ admission_of a i s → (j : Job) × (s ≡ known j) × (x.most ≡ most_admitted a i)
  is_known unknown_job x h = absurd cc
  is_known unfit_state x h = absurd cc
  is_known (known j) x h =
      let q : ◌≡◌ {A = Admitted} x (record { is_open = is_open j; most = most_admitted a i }) = cc in
      (j, refl, ap (λ (y : Admitted). y.most) q)

module _ (ns : List ℕ) (i : ℕ) where
  abbrev at : Allowance
  at = allowance_in ns

  -- 26 or 10: nothing is spent, nothing closed
  module _ (e : JobRefusal) where
    pub spent-refused : (n : ℕ) → Err e ≡ admission_of at i (job_standing at i) → at ≡ spent_in at i n
    unfolding spent_in
    spent-refused n h = sym ((is-refused at i (job_standing at i) e h).spends n)

    pub closes-refused : Err e ≡ admission_of at i (job_standing at i) → Closes ns i (Err e) ns
    closes-refused h =
        let r = is-refused at i (job_standing at i) e h in
        record { number = r.number; leaves = unfold close_call in (sym r.closes) }

  module _ (x : Admitted) (h : Ok x ≡ admission_of at i (job_standing at i)) where
    known_is : (j : Job) × (job_standing at i ≡ known j) × (x.most ≡ most_admitted at i)
    known_is = is_known at i (job_standing at i) x h

    -- a job that stands has a place
    pub stands-below : i < 8
    stands-below =
        let k = known_is in
        let t = known-there at i k.0 k.1 in
        let b = job-below at i k.0 t.1 in
        omega (arith, b, t.0.few)

    pub closes-known : (r : List ℕ) → allowance_in r ≡ close_at at i → Closes ns i (Ok tt) r
    closes-known r e =
        let s = known_is.1 in
        record { number = rw s (unfold standing_number in refl); leaves = e ∙ sym (unfold close_call in (rw s (unfold closed_by in refl))) }

    pub spent-over : (n : ℕ) → x.most < n → at ≡ spent_in at i n
    unfolding spent_in
    spent-over n l =
        let k = known_is in
        rw k.1 (unfold spent_by in (rw (lt-leb n (most_admitted at i) (omega (arith, l, k.2)))))

    pub spent-known : (n : ℕ) → n ≤ x.most → (r : List ℕ) → allowance_in r ≡ spend at i n → allowance_in r ≡ spent_in at i n
    unfolding spent_in
    spent-known n l r e =
        let k = known_is in
        e ∙ sym (rw k.1 (unfold spent_by in (rw (le-leb n (most_admitted at i) (omega (arith, l, k.2))))))

    -- what is admitted is between use and cap
    pub most-within : (n : ℕ) → n ≤ x.most → n ≤ room_at ns i
    unfolding room_at
    most-within n l =
        let k = known_is in
        let t = known-there at i k.0 k.1 in
        let q : (allowance_in ns).count ≡ get_or ns 1 0 = unfold allowance_in in refl in
        let below = job-below at i k.0 t.1 in
        let p = job-in-place ns i (omega (arith, below, q)) (omega (arith, t.0.few, q)) in
        let m = most-at at i (job_in (drop (2 + 4 * i) ns)) p in
        omega (arith, l, k.2, m)

-- with a cap and a use of 64 bits no sum is past them
pub use-within : (ns : List ℕ) (i n : ℕ) → n ≤ room_at ns i → (j : Job) → j ≡ job_in (drop (2 + 4 * i) ns) → (b : ℕ) → j.cap ≤ b → j.used ≤ b → j.used + n ≤ b
unfolding room_at
use-within ns i n h j e b c u =
    let p = ap (λ (x : Job). x.cap) e in
    let q = ap (λ (x : Job). x.used) e in
    omega (arith, h, p, q, c, u)

-- ---- set-up

module _ (total count : ℕ) (ts : List ℕ) (few : count ≤ 8) (enough : 2 * count ≤ length ts) where
  together-broken : terms_fit total count (started_from count ts) ≡ false → set_together total count ts ≡ broken
  unfolding set_together
  together-broken h = rw (le-ltb 8 count few, le-ltb (length ts) (2 * count) enough, h)

  together-ready : terms_fit total count (started_from count ts) ≡ true → set_together total count ts ≡ ready (fresh_allowance total count ts)
  unfolding set_together
  together-ready h = rw (le-ltb 8 count few, le-ltb (length ts) (2 * count) enough, h)

module _ (total count : ℕ) (ts before : List ℕ) where
  pub sets-many : 8 < count → SetsUp total count ts before (Err Unknown) before
  sets-many h =
      let e : set_together total count ts ≡ broken = unfold set_together in (rw (lt-ltb 8 count h)) in
      record { number = rw e (unfold setting_number in refl); leaves = rw e (unfold held_then in refl) }

  pub sets-short : count ≤ 8 → length ts < 2 * count → SetsUp total count ts before (Err Unfit) before
  sets-short h l =
      let e : set_together total count ts ≡ short = unfold set_together in (rw (le-ltb 8 count h, lt-ltb (length ts) (2 * count) l)) in
      record { number = rw e (unfold setting_number in refl); leaves = rw e (unfold held_then in refl) }

  module _ (few : count ≤ 8) (enough : 2 * count ≤ length ts) (fresh : List ℕ) (is : allowance_in fresh ≡ fresh_allowance total count ts) where
    walked : left_over total total (jobs_from count (drop 2 fresh)) ≡ cond (allowance_fits (allowance_in fresh)) (some (total - sum_of held_by (jobs_of (allowance_in fresh)))) none
    walked =
        let p : (allowance_in fresh).total ≡ total = ap (λ (x : Allowance). x.total) is ∙ unfold fresh_allowance in refl in
        let q : (allowance_in fresh).count ≡ count = ap (λ (x : Allowance). x.count) is ∙ unfold fresh_allowance in refl in
        rest-is fresh count total (sym p ∙ unfold allowance_in in refl) (sym q ∙ unfold allowance_in in refl) few

    fits-terms : allowance_fits (allowance_in fresh) ≡ terms_fit total count (started_from count ts)
    fits-terms = ap allowance_fits is ∙ fresh-fits total count ts

    pub sets-broken : none ≡ left_over total total (jobs_from count (drop 2 fresh)) → SetsUp total count ts before (Err Unknown) before
    sets-broken h =
        let b = rest-none (allowance_fits (allowance_in fresh)) _ (h ∙ walked) in
        let e = together-broken total count ts few enough (sym fits-terms ∙ b) in
        record { number = rw e (unfold setting_number in refl); leaves = rw e (unfold held_then in refl) }

    pub sets-ready : (left : ℕ) → some left ≡ left_over total total (jobs_from count (drop 2 fresh)) → SetsUp total count ts before (Ok tt) fresh
    sets-ready left h =
        let b = (rest_some (allowance_fits (allowance_in fresh)) left _ (h ∙ walked)).0 in
        let e = together-ready total count ts few enough (sym fits-terms ∙ b) in
        record { number = rw e (unfold setting_number in refl); leaves = is ∙ sym (rw e (unfold held_then in refl)) }
