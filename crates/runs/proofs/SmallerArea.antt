-- `smaller-area`: with a path area of 1,024 bytes or more every reply and all that is left is what the session gave that asked for 16,384, over other stores
-- and areas of the same lengths. By `same-lengths`: with 16,384 bytes the former session is the present one, and no call changes the area's length.
-- Assumes nothing.
use Prim.Native.Nat.{ℕ, ◌≤◌}
use native.Mathlib.Omega.{arith}
use lib.Dec.{leb}
use borrow.Author.Tests.{le-leb, le-ltb}
use lib.ListN.{length}
use mathlib.Core.Path.{◌≡◌, refl, ap, sym, ◌∙◌, subst}
use mathlib.Core.Bool.{true, ◌&&◌}
use mathlib.Core.List.{List, [], ◌∷◌}
use mathlib.Core.Option.{Option, none, some}
use Rattle.records.specs.Readers.{Bytes}
use Rattle.records.specs.Refusals.{Refusal, first_of}
use Rattle.records.specs.Records.{Rec, Parsed, unparsed, parsed, parse}
use Rattle.session_spec.specs.Session.{World, Session, areas_fit, decode, next, rows, patch, Reply, settled, considered, attempt, step, set_up}
use Rattle.session_spec.specs.Runs.{run_calls}
use Rattle.session_spec.specs.Former.{former_step, former_calls, SameLengths, SameLeft}
use Rattle.runs.proofs.SameLengths.{again, same-lengths, same-replies}

-- ---- no call changes the length of the path area

settled-area : (w : World) (s : Session) (r : Rec) (t : Session) (x : Bytes) (o : Option Refusal) → (settled w s r t x o).1.path_area ≡ w.path_area
unfolding settled patch
settled-area w s r t x none = refl
settled-area w s r t x (some c) = refl

considered-area : (w : World) (s : Session) (x : Bytes) (p : Parsed) → (considered w s x p).1.path_area ≡ w.path_area
unfolding considered
considered-area w s x (unparsed c) = refl
considered-area w s x (parsed r) = settled-area w s r (next s r) x (first_of (rows w s r (next s r) x))

attempt-area : (w : World) (x : Bytes) (o : Option Session) → (attempt w x o).1.path_area ≡ w.path_area
unfolding attempt
attempt-area w x none = refl
attempt-area w x (some s) = considered-area w s x (parse x)

step-area : (w : World) (x : Bytes) → (step w x).1.path_area ≡ w.path_area
unfolding step
step-area w x = attempt-area w x (decode w)

-- ---- with 16,384 bytes the former session is the present one

former-step : (w : World) → 16384 ≤ w.path_area → (x : Bytes) → former_step w x ≡ step w x
unfolding former_step
former-step w h x = rw (le-ltb w.path_area 16384 h)

former-calls : (w : World) → 16384 ≤ w.path_area → (xs : List Bytes) → (former_calls w xs ≡ run_calls w xs) × (16384 ≤ (run_calls w xs).path_area)
unfolding former_calls run_calls
former-calls w h [] = (refl, h)
former-calls w h (x ∷ xs) =
    let e : (former_step w x).1 ≡ (step w x).1 = ap (λ (o : Reply × World). o.1) (former-step w h x) in
    let k : 16384 ≤ (step w x).1.path_area = subst (λ (n : ℕ). 16384 ≤ n) (sym (step-area w x)) h in
    let r = former-calls (step w x).1 k xs in
    (ap (λ (v : World). former_calls v xs) e ∙ r.0, r.1)

-- ---- THE SMALLER AREA: `w` is lent to the present session, `former` to the one that asked for 16,384 bytes

module _ (w former : World) (l : SameLengths w former) (enough : 1024 ≤ w.path_area) (long : 16384 ≤ former.path_area) where
  -- the other areas are long enough for both, or for neither
  areas-alike : areas_fit (again w) ≡ areas_fit (again former)
  unfolding areas_fit set_up
  areas-alike = rw (le-leb 1024 w.path_area enough, le-leb 1024 former.path_area (omega arith), l.scopes, l.names, l.cells)

  long-begun : 16384 ≤ (again former).path_area
  unfolding set_up
  long-begun = long

  -- after any records the numbers and the used bytes of the stores,
  pub smaller-area : (xs : List Bytes) → SameLeft (run_calls (again w) xs) (former_calls (again former) xs)
  smaller-area xs = subst (SameLeft (run_calls (again w) xs)) (sym (former-calls (again former) long-begun xs).0) (same-lengths w former l areas-alike xs)

  -- and every reply
  pub smaller-replies : (xs : List Bytes) (x : Bytes) → (step (run_calls (again w) xs) x).0 ≡ (former_step (former_calls (again former) xs) x).0
  smaller-replies xs x =
      let f = former-calls (again former) long-begun xs in
      same-replies w former l areas-alike xs x
      ∙ ap (λ (o : Reply × World). o.0) (sym (former-step (run_calls (again former) xs) f.1 x))
      ∙ ap (λ (v : World). (former_step v x).0) (sym f.0)
