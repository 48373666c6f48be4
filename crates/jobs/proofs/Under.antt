-- A record that is served under an allowance is one that the session alone takes, and what is refused leaves the session as
-- it was: the rows under an allowance are the session's with one more among them.
-- Assumes nothing.
use Prim.Native.Nat.{ℕ, ◌+◌}
use native.Mathlib.Omega.{arith}
use lib.ListN.{length, take, drop, take-append-drop}
use mathlib.Core.Path.{◌≡◌, refl, ap, sym, ◌∙◌, subst}
use mathlib.Core.Bool.{Bool, true, false, cond, not}
use mathlib.Core.List.{List, [], ◌∷◌, ◌++◌, map}
use mathlib.Core.Option.{Option, none, some}
use borrow.Author.Tests.{not-false}
use Rattle.records.specs.Readers.{Bytes}
use Rattle.records.specs.Refusals.{Refusal, unfit, out_of_place, Row, first_of}
use Rattle.records.specs.Records.{Rec, Parsed, unparsed, parsed, parse}
use Rattle.session_spec.specs.Session.{World, Session, decode, next, tuple_bytes, misplaced, rows, patch, Reply, taken, refused, settled, considered, attempt, step}
use Rattle.session_laws.proofs.Tests.{first-none}
use Rattle.jobs.specs.Within.{Against, by_session, over_allowance, JobReply, served, not_set_up, against, JobRow, first_met, own_rows, row25, rows_within, rows_under, settled_under, considered_under, attempt_under, step_under, step_within}

-- ---- rows

met-none : (b : Bool) (c : Against) (rs : List JobRow) → first_met ((b, c) ∷ rs) ≡ none → (b ≡ false) × (first_met rs ≡ none)
unfolding first_met
met-none true c rs h = let z : ◌≡◌ {A = ℕ} 0 1 = cc in absurd (omega arith)
met-none false c rs h = (refl, h)

met-parts : (xs ys : List JobRow) → first_met (xs ++ ys) ≡ none → (first_met xs ≡ none) × (first_met ys ≡ none)
unfolding first_met
met-parts [] ys h = (refl, h)
met-parts (x ∷ xs) ys h =
    let p = met-none x.0 x.1 (xs ++ ys) h in
    let q = met-parts xs ys p.1 in
    (rw p.0 q.0, q.1)

met-own : (rs : List Row) → first_met (own_rows rs) ≡ none → first_of rs ≡ none
unfolding first_met own_rows first_of
met-own [] h = refl
met-own (r ∷ rs) h = let p = met-none r.0 (by_session r.1) (own_rows rs) h in rw p.0 (met-own rs p.1)

of-both : (xs ys : List Row) → first_of xs ≡ none → first_of ys ≡ none → first_of (xs ++ ys) ≡ none
unfolding first_of
of-both [] ys p q = q
of-both (x ∷ xs) ys p q = let h = first-none x.0 x.1 xs p in rw h.0 (of-both xs ys h.1 q)

-- the rows of a session are those up to 15 and the one behind
split-none : (rs : List Row) → first_met (own_rows (take 10 rs)) ≡ none → first_met (own_rows (drop 10 rs)) ≡ none → first_of rs ≡ none
split-none rs p q = ap first_of (sym (take-append-drop 10 rs)) ∙ of-both (take 10 rs) (drop 10 rs) (met-own (take 10 rs) p) (met-own (drop 10 rs) q)

-- ---- what is served

no-served : (c : Against) (u v : World) → ◌≡◌ {A = JobReply × World} (against c, u) (served, v) → ⊥
no-served c u v h = let q : against c ≡ served = ap (λ (o : JobReply × World). o.0) h in let z : ◌≡◌ {A = ℕ} 0 1 = cc in omega arith

pub record Took (opened : Bool) (admitted : ℕ → Bool) (w : World) (x : Bytes) (v : World) : Type 0 where
  pub session : Session
  pub rec : Rec
  pub decodes : decode w ≡ some session
  pub parses : parse x ≡ parsed rec
  pub was_open : opened ≡ true
  pub few : admitted (length (tuple_bytes session (next session rec))) ≡ true
  pub used : v.tuples ≡ w.tuples + length (tuple_bytes session (next session rec))
  pub in_place : misplaced session.stage rec ≡ false
  pub alone : step w x ≡ (taken, v)

module _ (opened : Bool) (admitted : ℕ → Bool) (w : World) (x : Bytes) (v : World) where
  abbrev the_rows : Session → Rec → List JobRow
  the_rows s r = rows_under opened (some admitted) w s r (next s r) x

  taken-alone : (s : Session) (r : Rec) → decode w ≡ some s → parse x ≡ parsed r → first_of (rows w s r (next s r) x) ≡ none → step w x ≡ (taken, patch w s r (next s r) x)
  unfolding step attempt considered settled
  taken-alone s r d p e = rw (d, p, e)

  in-place : (s : Session) (r : Rec) → first_of (rows w s r (next s r) x) ≡ none → misplaced s.stage r ≡ false
  unfolding rows
  in-place s r e = (first-none (misplaced s.stage r) out_of_place _ e).0

  took-settled : (s : Session) (r : Rec) → decode w ≡ some s → parse x ≡ parsed r → (o : Option Against) → first_met (the_rows s r) ≡ o
      → settled_under w s r (next s r) x o ≡ (served, v) → Took opened admitted w x v
  unfolding settled_under rows_under rows_within row25
  took-settled s r d p (some c) e h = absurd (no-served c w v h)
  took-settled s r d p none e h =
      let l = met-none (not opened) (by_session out_of_place) _ e in
      let m = met-parts (own_rows (take 10 (rows w s r (next s r) x))) _ l.1 in
      let k = met-none (not (admitted (length (tuple_bytes s (next s r))))) over_allowance _ m.1 in
      let f = split-none (rows w s r (next s r) x) m.0 k.1 in
      let same : patch w s r (next s r) x ≡ v = ap (λ (q : JobReply × World). q.1) h in
      record {
        session = s;
        rec = r;
        decodes = d;
        parses = p;
        was_open = not-false opened l.0;
        few = not-false (admitted (length (tuple_bytes s (next s r)))) k.0;
        used = ap (λ (u : World). u.tuples) (sym same) ∙ unfold patch in refl;
        in_place = in-place s r f;
        alone = taken-alone s r d p f ∙ ap (λ (u : World). (taken, u)) same;
      }

  pub took : step_under opened (some admitted) w x ≡ (served, v) → Took opened admitted w x v
  unfolding step_under attempt_under considered_under
  took h = by (decode w) refl h
    where
      on : (s : Session) → decode w ≡ some s → (p : Parsed) → parse x ≡ p → considered_under opened (some admitted) w s x p ≡ (served, v) → Took opened admitted w x v
      on s d (unparsed c) e h = absurd (no-served (by_session c) w v h)
      on s d (parsed r) e h = took-settled s r d e (first_met (the_rows s r)) refl h

      by : (o : Option Session) → decode w ≡ o → attempt_under opened (some admitted) w x o ≡ (served, v) → Took opened admitted w x v
      by none d h = absurd (no-served (by_session unfit) w v h)
      by (some s) d h = on s d (parse x) refl h

-- ---- what is refused

-- the session is as it was
pub record Keeps (w : World) (o : JobReply × World) : Type 0 where
  pub keeps : (c : Against) → o.0 ≡ against c → o.1 ≡ w
  pub set-up : o.0 ≡ not_set_up → ⊥

refused-so : (c : Against) (w : World) → Keeps w (against c, w)
refused-so c w = record { keeps = λ d h. refl; set-up = λ h. let z : ◌≡◌ {A = ℕ} 0 1 = cc in omega arith }

served-so : (w v : World) → Keeps w (served, v)
served-so w v =
    record {
      keeps = λ d h. let z : ◌≡◌ {A = ℕ} 0 1 = cc in absurd (omega arith);
      set-up = λ h. let z : ◌≡◌ {A = ℕ} 0 1 = cc in omega arith;
    }

pub under-keeps : (opened : Bool) (a : Option (ℕ → Bool)) (w : World) (x : Bytes) → Keeps w (step_under opened a w x)
unfolding step_under attempt_under considered_under settled_under
under-keeps opened a w x = by (decode w)
  where
    on : (s : Session) (r : Rec) (o : Option Against) → Keeps w (settled_under w s r (next s r) x o)
    on s r none = served-so w (patch w s r (next s r) x)
    on s r (some c) = refused-so c w

    it : (s : Session) (p : Parsed) → Keeps w (considered_under opened a w s x p)
    it s (unparsed c) = refused-so (by_session c) w
    it s (parsed r) = on s r (first_met (rows_under opened a w s r (next s r) x))

    by : (o : Option Session) → Keeps w (attempt_under opened a w x o)
    by none = refused-so (by_session unfit) w
    by (some s) = it s (parse x)

-- ---- TO A CLOSED JOB a record that no refusal of its bytes meets is 11, whatever the allowance admits
pub closed-eleven : (a : Option (ℕ → Bool)) (w : World) (s : Session) (x : Bytes) (r : Rec) → decode w ≡ some s → parse x ≡ parsed r → step_under false a w x ≡ (against (by_session out_of_place), w)
unfolding step_under attempt_under considered_under rows_under first_met settled_under
closed-eleven a w s x r d p = rw (d, p)

-- ---- WITHOUT AN ALLOWANCE it is `step`

abbrev pub job_reply : Reply → JobReply
job_reply taken = served
job_reply (refused c) = against (by_session c)

abbrev as_met : Option Refusal → Option Against
as_met none = none
as_met (some c) = some (by_session c)

met-as : (rs : List Row) → first_met (own_rows rs) ≡ as_met (first_of rs)
unfolding first_met own_rows first_of
met-as [] = refl
met-as (r ∷ rs) = by r.0 (met-as rs)
  where
    by : (b : Bool) → first_met (own_rows rs) ≡ as_met (first_of rs) → cond b (some (by_session r.1)) (first_met (own_rows rs)) ≡ as_met (cond b (some r.1) (first_of rs))
    by true e = refl
    by false e = e

own-append : (xs ys : List Row) → own_rows xs ++ own_rows ys ≡ own_rows (xs ++ ys)
unfolding own_rows
own-append [] ys = refl
own-append (x ∷ xs) ys = ap (λ (l : List JobRow). (x.0, by_session x.1) ∷ l) (own-append xs ys)

rows-alone : (w : World) (s : Session) (r : Rec) (x : Bytes) → first_met (rows_under true none w s r (next s r) x) ≡ as_met (first_of (rows w s r (next s r) x))
rows-alone w s r x =
    let rs : List Row = rows w s r (next s r) x in
    let e : first_met (rows_under true none w s r (next s r) x) ≡ first_met (own_rows (take 10 rs) ++ own_rows (drop 10 rs)) = unfold rows_under rows_within row25 first_met in refl in
    e ∙ ap first_met (own-append (take 10 rs) (drop 10 rs) ∙ ap own_rows (take-append-drop 10 rs)) ∙ met-as rs

settled-alone : (w : World) (s : Session) (r : Rec) (x : Bytes) (o : Option Refusal) → settled_under w s r (next s r) x (as_met o) ≡ (job_reply (settled w s r (next s r) x o).0, (settled w s r (next s r) x o).1)
unfolding settled_under settled
settled-alone w s r x none = refl
settled-alone w s r x (some c) = refl

pub within_none : (w : World) (x : Bytes) → step_within none w x ≡ (job_reply (step w x).0, (step w x).1)
unfolding step_within step_under attempt_under considered_under step attempt considered
within_none w x = by (decode w)
  where
    on : (s : Session) (p : Parsed) → considered_under true none w s x p ≡ (job_reply (considered w s x p).0, (considered w s x p).1)
    on s (unparsed c) = refl
    on s (parsed r) = ap (settled_under w s r (next s r) x) (rows-alone w s r x) ∙ settled-alone w s r x (first_of (rows w s r (next s r) x))

    by : (o : Option Session) → attempt_under true none w x o ≡ (job_reply (attempt w x o).0, (attempt w x o).1)
    by none = refl
    by (some s) = on s (parse x)
