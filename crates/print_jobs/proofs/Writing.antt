-- One number written at a job's place is that job changed, and no other; and jobs begun one after another.
-- Assumes nothing.
use Prim.Native.Nat.{ℕ, zero, suc, ◌+◌, ◌-◌, ◌*◌, ◌≤◌, ◌<◌}
use native.Mathlib.Omega.{arith}
use lib.Seq.{get_or-drop, get_or-set_same, get_or-set_other, drop-set-lt, drop-set-add}
use lib.ListN.{length, drop, get_or, set, get_elem?, replicate, length-drop, length-set}
use mathlib.Core.Path.{◌≡◌, refl, ap, ap₂, sym, ◌∙◌}
use mathlib.Core.List.{List, [], ◌∷◌, ◌++◌}
use mathlib.Core.Option.{some}
use Rattle.allowance.specs.Allowance.{Job, Allowance, started_from, no_job, fresh_allowance, changed_at, with_job, with_more, closing, spend, close_at}
use Rattle.allowance.specs.Numbers.{job_in, jobs_from, allowance_in}
use Rattle.print_jobs.specs.Answers.{started_at}
use Rattle.print_jobs.proofs.Reading.{place-from}

-- ---- one number of a job

abbrev with_guarantee : ℕ → Job → Job
with_guarantee n j = record { guarantee = n; cap = j.cap; used = j.used; mark = j.mark }

abbrev with_cap : ℕ → Job → Job
with_cap n j = record { guarantee = j.guarantee; cap = n; used = j.used; mark = j.mark }

abbrev with_use : ℕ → Job → Job
with_use n j = record { guarantee = j.guarantee; cap = j.cap; used = n; mark = j.mark }

abbrev with_mark : ℕ → Job → Job
with_mark n j = record { guarantee = j.guarantee; cap = j.cap; used = j.used; mark = n }

module _ (ns : List ℕ) (x : ℕ) (l : 4 ≤ length ns) where
  guarantee-set : job_in (set ns 0 x) ≡ with_guarantee x (job_in ns)
  unfolding job_in
  guarantee-set = λ t. record {
    guarantee = get_or-set_same ns 0 x 0 (omega (arith, l)) t;
    cap = get_or-set_other ns 0 1 x 0 (λ e. omega (arith, e)) t;
    used = get_or-set_other ns 0 2 x 0 (λ e. omega (arith, e)) t;
    mark = get_or-set_other ns 0 3 x 0 (λ e. omega (arith, e)) t;
  }

  cap-set : job_in (set ns 1 x) ≡ with_cap x (job_in ns)
  unfolding job_in
  cap-set = λ t. record {
    guarantee = get_or-set_other ns 1 0 x 0 (λ e. omega (arith, e)) t;
    cap = get_or-set_same ns 1 x 0 (omega (arith, l)) t;
    used = get_or-set_other ns 1 2 x 0 (λ e. omega (arith, e)) t;
    mark = get_or-set_other ns 1 3 x 0 (λ e. omega (arith, e)) t;
  }

  use-set : job_in (set ns 2 x) ≡ with_use x (job_in ns)
  unfolding job_in
  use-set = λ t. record {
    guarantee = get_or-set_other ns 2 0 x 0 (λ e. omega (arith, e)) t;
    cap = get_or-set_other ns 2 1 x 0 (λ e. omega (arith, e)) t;
    used = get_or-set_same ns 2 x 0 (omega (arith, l)) t;
    mark = get_or-set_other ns 2 3 x 0 (λ e. omega (arith, e)) t;
  }

  mark_set : job_in (set ns 3 x) ≡ with_mark x (job_in ns)
  unfolding job_in
  mark_set = λ t. record {
    guarantee = get_or-set_other ns 3 0 x 0 (λ e. omega (arith, e)) t;
    cap = get_or-set_other ns 3 1 x 0 (λ e. omega (arith, e)) t;
    used = get_or-set_other ns 3 2 x 0 (λ e. omega (arith, e)) t;
    mark = get_or-set_same ns 3 x 0 (omega (arith, l)) t;
  }

-- a number behind the first job
far-set : (ns : List ℕ) (m x : ℕ) → job_in (set ns (4 + m) x) ≡ job_in ns
unfolding job_in
far-set ns m x = λ t. record {
  guarantee = get_or-set_other ns (4 + m) 0 x 0 (λ e. omega (arith, e)) t;
  cap = get_or-set_other ns (4 + m) 1 x 0 (λ e. omega (arith, e)) t;
  used = get_or-set_other ns (4 + m) 2 x 0 (λ e. omega (arith, e)) t;
  mark = get_or-set_other ns (4 + m) 3 x 0 (λ e. omega (arith, e)) t;
}

-- ---- in the row of jobs

module _ (o x : ℕ) (g : Job → Job) (small : o < 4) (front : (ns : List ℕ) → 4 ≤ length ns → job_in (set ns o x) ≡ g (job_in ns)) where
  set-jobs : (n i : ℕ) (ns : List ℕ) → i < n → 4 * n ≤ length ns → jobs_from n (set ns (4 * i + o) x) ≡ changed_at i g (jobs_from n ns)
  unfolding jobs_from changed_at
  set-jobs zero i ns h l = absurd (omega arith)
  set-jobs (suc n) zero ns h l =
      ap (λ (m : ℕ). jobs_from (suc n) (set ns m x)) (omega arith)
      ∙ ap₂ {C = List Job} ◌∷◌ (front ns (omega arith)) (ap (jobs_from n) (drop-set-lt 4 ns o x small))
  set-jobs (suc n) (suc i) ns h l =
      ap (λ (m : ℕ). jobs_from (suc n) (set ns m x)) (omega arith)
      ∙ ap₂ {C = List Job} ◌∷◌ (far-set ns (4 * i + o) x)
      (ap (jobs_from n) (drop-set-add 4 ns (4 * i + o) x) ∙ set-jobs n i (drop 4 ns) (omega arith) (let e = length-drop 4 ns in omega (arith, e, l)))

  set-place : (ns : List ℕ) (i p : ℕ) → i < 8 → length ns ≡ 34 → p ≡ 2 + (4 * i + o) → allowance_in (set ns p x) ≡ with_job (allowance_in ns) i g
  unfolding allowance_in with_job
  set-place ns i p h l e =
      let places : jobs_from 8 (drop 2 (set ns p x)) ≡ changed_at i g (jobs_from 8 (drop 2 ns)) =
      ap (λ (m : ℕ). jobs_from 8 (drop 2 (set ns m x))) e
      ∙ ap (jobs_from 8) (drop-set-add 2 ns (4 * i + o) x)
      ∙ set-jobs 8 i (drop 2 ns) h (let d = length-drop 2 ns in omega (arith, d, l)) in
      λ t. record {
        total = get_or-set_other ns p 0 x 0 (λ q. omega (arith, q, e)) t;
        count = get_or-set_other ns p 1 x 0 (λ q. omega (arith, q, e)) t;
        places = places t;
      }

changed-alike : (g h : Job → Job) (js : List Job) (i : ℕ) (j : Job) → get_elem? js i ≡ some j → g j ≡ h j → changed_at i g js ≡ changed_at i h js
unfolding changed_at
changed-alike g h [] i j e s = refl
changed-alike g h (x ∷ js) zero j e s = let q : x ≡ j = cc in rw q (ap (λ (y : Job). y ∷ js) s)
changed-alike g h (x ∷ js) (suc i) j e s = ap (λ (l : List Job). x ∷ l) (changed-alike g h js i j e s)

changed_then : (g h : Job → Job) (js : List Job) (i : ℕ) → changed_at i h (changed_at i g js) ≡ changed_at i (λ j. h (g j)) js
unfolding changed_at
changed_then g h [] i = refl
changed_then g h (x ∷ js) zero = refl
changed_then g h (x ∷ js) (suc i) = ap (λ (l : List Job). x ∷ l) (changed_then g h js i)

-- ---- a job closes; a job spends

pub closed-numbers : (ns : List ℕ) (i : ℕ) → i < 8 → length ns ≡ 34 → (r : List ℕ) → r ≡ set ns (5 + 4 * i) 0 → allowance_in r ≡ close_at (allowance_in ns) i
closed-numbers ns i h l r e =
    ap allowance_in e
    ∙ set-place 3 0 (with_mark 0) (omega arith) (λ ms k. mark_set ms 0 k) ns i (5 + 4 * i) h l (omega arith)
    ∙ as-closed
  where
    as-closed : with_job (allowance_in ns) i (with_mark 0) ≡ close_at (allowance_in ns) i
    as-closed = unfold close_at closing in refl

pub spent-numbers : (ns : List ℕ) (i n : ℕ) → i < 8 → length ns ≡ 34 → (j : Job) → j ≡ job_in (drop (2 + 4 * i) ns) → (u : ℕ) → u ≡ j.used + n → (r : List ℕ) → r ≡ set ns (4 + 4 * i) u
    → allowance_in r ≡ spend (allowance_in ns) i n
spent-numbers ns i n h l j e u f r q =
    ap allowance_in q
    ∙ set-place 2 u (with_use u) (omega arith) (λ ms k. use-set ms u k) ns i (4 + 4 * i) h l (omega arith)
    ∙ alike
  where
    here : get_elem? (jobs_from 8 (drop 2 ns)) i ≡ some j
    here = place-from ns i h ∙ ap some (sym e)

    own : with_use u j ≡ with_more n j
    own = unfold with_more in (ap (λ (x : ℕ). with_use x j) f)

    places : changed_at i (with_use u) (jobs_from 8 (drop 2 ns)) ≡ changed_at i (with_more n) (jobs_from 8 (drop 2 ns))
    places = changed-alike (with_use u) (with_more n) (jobs_from 8 (drop 2 ns)) i j here own

    alike : with_job (allowance_in ns) i (with_use u) ≡ spend (allowance_in ns) i n
    alike = unfold spend with_job allowance_in in (λ t. record { total = get_or ns 0 0; count = get_or ns 1 0; places = places t })

-- ---- jobs begun one after another

abbrev begun : (guarantee cap : ℕ) → Job → Job
begun g c j = with_mark 1 (with_cap c (with_guarantee g j))

begin-next : (k : ℕ) (ts : List ℕ) (g c : ℕ) → g ≡ get_or ts (2 * k) 0 → c ≡ get_or ts (2 * k + 1) 0 → (rest : List Job)
    → changed_at k (begun g c) (started_from k ts ++ (no_job ∷ rest)) ≡ started_from (suc k) ts ++ rest
unfolding started_from changed_at
begin-next zero ts g c e f rest = λ t. record { guarantee = e t; cap = f t; used = 0; mark = 1 } ∷ rest
begin-next (suc k) ts g c e f rest =
    ap (λ (l : List Job). record { guarantee = get_or ts 0 0; cap = get_or ts 1 0; used = 0; mark = 1 } ∷ l)
    (begin-next k (drop 2 ts) g c
    (e ∙ ap (λ (n : ℕ). get_or ts n 0) (omega arith) ∙ sym (get_or-drop 2 ts (2 * k) 0))
    (f ∙ ap (λ (n : ℕ). get_or ts n 0) (omega arith) ∙ sym (get_or-drop 2 ts (2 * k + 1) 0))
    rest)

-- the first k jobs are begun
pub record Begun (total count : ℕ) (ts a : List ℕ) (k : ℕ) : Type 0 where
  pub within : k ≤ count
  pub many : length a ≡ 34
  pub same : allowance_in a ≡ record { total = total; count = count; places = started_from k ts ++ replicate (8 - k) no_job }

pub begin-none : (total count : ℕ) (ts : List ℕ) → Begun total count ts (set (set (replicate 34 0) 0 total) 1 count) 0
begin-none total count ts = record { within = omega arith; many = refl; same = unfold allowance_in jobs_from job_in started_from in refl }

begun-at : (a : List ℕ) (k g c : ℕ) → k < 8 → length a ≡ 34 → allowance_in (started_at a k g c) ≡ with_job (with_job (with_job (allowance_in a) k (with_guarantee g)) k (with_cap c)) k (with_mark 1)
unfolding started_at
begun-at a k g c h l =
    let b : List ℕ = set a (2 + 4 * k) g in
    let d : List ℕ = set b (3 + 4 * k) c in
    let lb : length b ≡ 34 = length-set a (2 + 4 * k) g ∙ l in
    let ld : length d ≡ 34 = length-set b (3 + 4 * k) c ∙ lb in
    set-place 3 1 (with_mark 1) (omega arith) (λ ms q. mark_set ms 1 q) d k (5 + 4 * k) h ld (omega arith)
    ∙ ap (λ (x : Allowance). with_job x k (with_mark 1))
    (set-place 1 c (with_cap c) (omega arith) (λ ms q. cap-set ms c q) b k (3 + 4 * k) h lb (omega arith)
    ∙ ap (λ (x : Allowance). with_job x k (with_cap c)) (set-place 0 g (with_guarantee g) (omega arith) (λ ms q. guarantee-set ms g q) a k (2 + 4 * k) h l (omega arith)))

pub begin-on : (total count : ℕ) (ts a : List ℕ) (k : ℕ) → Begun total count ts a k → k < count → count ≤ 8 → (g c : ℕ) → g ≡ get_or ts (2 * k) 0 → c ≡ get_or ts (2 * k + 1) 0
    → (b : List ℕ) → b ≡ started_at a k g c → Begun total count ts b (k + 1)
begin-on total count ts a k w h few g c e f b q =
    record {
      within = omega (arith, h);
      many = ap length q ∙ unfold started_at in (length-set (set (set a (2 + 4 * k) g) (3 + 4 * k) c) (5 + 4 * k) 1 ∙ length-set (set a (2 + 4 * k) g) (3 + 4 * k) c ∙ length-set a (2 + 4 * k) g ∙ w.many);
      same =
          ap allowance_in q
          ∙ begun-at a k g c (omega (arith, h, few)) w.many
          ∙ ap (λ (x : Allowance). with_job (with_job (with_job x k (with_guarantee g)) k (with_cap c)) k (with_mark 1)) w.same
          ∙ unfold with_job in (λ t. record { total = total; count = count; places = places t });
    }
  where
    places : changed_at k (with_mark 1) (changed_at k (with_cap c) (changed_at k (with_guarantee g) (started_from k ts ++ replicate (8 - k) no_job))) ≡ started_from (k + 1) ts ++ replicate (8 - (k + 1)) no_job
    places =
        changed_then (with_cap c) (with_mark 1) (changed_at k (with_guarantee g) (started_from k ts ++ replicate (8 - k) no_job)) k
        ∙ changed_then (with_guarantee g) (λ j. with_mark 1 (with_cap c j)) (started_from k ts ++ replicate (8 - k) no_job) k
        ∙ ap (λ (n : ℕ). changed_at k (begun g c) (started_from k ts ++ replicate n no_job)) (let z : 8 - k ≡ suc (8 - (k + 1)) = omega (arith, h, few) in z)
        ∙ begin-next k ts g c e f (replicate (8 - (k + 1)) no_job)
        ∙ ap (λ (n : ℕ). started_from n ts ++ replicate (8 - (k + 1)) no_job) (let z : suc k ≡ k + 1 = omega arith in z)

pub begin-all : (total count : ℕ) (ts a : List ℕ) (k : ℕ) → Begun total count ts a k → count ≤ k → allowance_in a ≡ fresh_allowance total count ts
unfolding fresh_allowance
begin-all total count ts a k w h =
    let e : k ≡ count = omega (arith, h, w.within) in
    w.same ∙ ap (λ (n : ℕ). record { total = total; count = count; places = started_from n ts ++ replicate (8 - n) no_job }) e
