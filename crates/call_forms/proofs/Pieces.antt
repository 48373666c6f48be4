-- What a piece hands in is run by the library's calls; and what is left of it is copied to the front.
-- Assumes nothing.
use Prim.Native.Nat.{ℕ, ◌+◌, ◌-◌, ◌≤◌, min}
use native.Mathlib.Nat.{zero-add}
use native.Mathlib.Omega.{arith}
use borrow.Author.Tests.{leb-true, leb-false}
use lib.Dec.{leb}
use lib.ListN.{length, take, drop, length-drop}
use lib.Seq.{length-take-le, take_at, paste}
use mathlib.Core.Path.{◌≡◌, refl, ap, sym, ◌∙◌}
use mathlib.Core.Bool.{Bool, true, false}
use mathlib.Core.List.{List, [], ◌∷◌, ◌++◌}
use Rattle.std.proofs.lemmas.Bool.{both_ways}
use Rattle.std.specs.List.{copy_within}
use Rattle.std.proofs.lemmas.List.Edits.{length-paste, take-paste}
use Rattle.lists.specs.Lists.{part}
use Rattle.records.specs.Readers.{Bytes}
use Rattle.session_spec.specs.Session.{World, Reply, taken, refused, step}
use Rattle.open_scopes.specs.declared.Scope.{Scope}
use Rattle.open_scopes.specs.declared.Numbers.{Numbers}
use Rattle.worlds.specs.Worlds.{world_of}
use Rattle.worlds.specs.declared.Done.{Done}
use Rattle.calls.specs.declared.RunDone.{RunDone}
use Rattle.calls.specs.Buffers.{frames_of, ran_on, run_frames}
use Rattle.calls.specs.Calls.{Called}
use Rattle.calls.specs.Running.{Runs}
use Rattle.output_stores.proofs.Walks.{standing-end}
use Rattle.call_forms.specs.Input.{records_of_piece, total, Takes, Kept}

-- ---- what a piece hands in

-- one record alone
one-reply : (w : World) (x : Bytes) → (run_frames w (x ∷ [])).reply ≡ (step w x).0
unfolding run_frames ran_on
one-reply w x = by (step w x)
  where
    by : (o : Reply × World) → (ran_on o (length x) (λ v. run_frames v [])).reply ≡ o.0
    by (taken, v) = refl
    by (refused c, v) = refl

one-world : (w : World) (x : Bytes) → (run_frames w (x ∷ [])).world ≡ (step w x).1
unfolding run_frames ran_on
one-world w x = by (step w x)
  where
    by : (o : Reply × World) → (ran_on o (length x) (λ v. run_frames v [])).world ≡ o.1
    by (taken, v) = refl
    by (refused c, v) = refl

-- where all are taken, so are all their bytes
all-bytes : (w : World) (fs : List Bytes) → (run_frames w fs).reply ≡ taken → (run_frames w fs).bytes ≡ total fs
unfolding run_frames ran_on total
all-bytes w [] e = refl
all-bytes w (x ∷ xs) e = by (step w x) e (λ v. all-bytes v xs)
  where
    by : (o : Reply × World) → (ran_on o (length x) (λ v. run_frames v xs)).reply ≡ taken → ((v : World) → (run_frames v xs).reply ≡ taken → (run_frames v xs).bytes ≡ total xs)
        → (ran_on o (length x) (λ v. run_frames v xs)).bytes ≡ length x + total xs
    by (taken, v) e ih = ap (λ (n : ℕ). length x + n) (ih v e)
    by (refused c, v) e ih = let z : ◌≡◌ {A = ℕ} 0 1 = cc in absurd (omega arith)

frames-handed : (piece : Bytes) (last : Bool) → last ≡ false → frames_of piece ≡ records_of_piece last piece
unfolding records_of_piece
frames-handed piece true e = let z : ◌≡◌ {A = ℕ} 0 1 = cc in absurd (omega arith)
frames-handed piece false e = refl

none-handed : (piece : Bytes) (last : Bool) → last ≡ true → length piece ≡ 0 → frames_of piece ≡ records_of_piece last piece
unfolding records_of_piece
none-handed [] true e h = standing-end _ [] (omega arith)
none-handed (x ∷ piece) true e h = absurd (omega arith)
none-handed piece false e h = let z : ◌≡◌ {A = ℕ} 0 1 = cc in absurd (omega arith)

rest-handed : (piece : Bytes) (last : Bool) → last ≡ true → (length piece ≡ 0 → ⊥) → piece ∷ [] ≡ records_of_piece last piece
unfolding records_of_piece
rest-handed [] true e h = absurd (h refl)
rest-handed (x ∷ piece) true e h = refl
rest-handed piece false e h = let z : ◌≡◌ {A = ℕ} 0 1 = cc in absurd (omega arith)

module _ (n : Numbers) (list : List Scope) (piece : Bytes) (last : Bool) (defs tuples reports paths names cells defs' tuples' reports' paths' names' cells' : Bytes) where
  abbrev lent_now : World
  lent_now = world_of n list (length paths) defs tuples reports names cells

  takes-frames : (r : RunDone) → frames_of piece ≡ records_of_piece last piece → Runs n list piece defs tuples reports paths names cells r defs' tuples' reports' paths' names' cells'
      → Takes n list piece last defs tuples reports paths names cells r defs' tuples' reports' paths' names' cells'
  takes-frames r e c =
      record {
        replies = c.replies ∙ ap (λ (fs : List Bytes). (run_frames lent_now fs).reply) e;
        leaves = c.leaves ∙ ap (λ (fs : List Bytes). (run_frames lent_now fs).world) e;
        bytes = λ f t. c.bytes ∙ all-bytes lent_now (frames_of piece) (sym c.replies ∙ t);
      }

  pub takes_whole : (r : RunDone) → last ≡ false → Runs n list piece defs tuples reports paths names cells r defs' tuples' reports' paths' names' cells'
      → Takes n list piece last defs tuples reports paths names cells r defs' tuples' reports' paths' names' cells'
  takes_whole r e c = takes-frames r (frames-handed piece last e) c

  pub takes_none : (r : RunDone) → last ≡ true → length piece ≡ 0 → Runs n list piece defs tuples reports paths names cells r defs' tuples' reports' paths' names' cells'
      → Takes n list piece last defs tuples reports paths names cells r defs' tuples' reports' paths' names' cells'
  takes_none r e h c = takes-frames r (none-handed piece last e h) c

  pub takes-rest : (d : Done) → last ≡ true → (length piece ≡ 0 → ⊥) → Called n list piece defs tuples reports paths names cells d defs' tuples' reports' paths' names' cells'
      → Takes n list piece last defs tuples reports paths names cells (record { last = d; bytes = 0 }) defs' tuples' reports' paths' names' cells'
  takes-rest d e h c =
      let q = rest-handed piece last e h in
      record {
        replies = c.calls.replies ∙ sym (one-reply lent_now piece) ∙ ap (λ (fs : List Bytes). (run_frames lent_now fs).reply) q;
        leaves = c.calls.leaves ∙ sym (one-world lent_now piece) ∙ ap (λ (fs : List Bytes). (run_frames lent_now fs).world) q;
        bytes = λ f t. absurd (both_ways last f e);
      }

-- ---- what stays

-- it is copied to the front; nothing of it where the place is past the end
module _ (before : Bytes) (from end start : ℕ) (is : start ≡ min from end) where
  same_part : (b : Bool) → leb from end ≡ b → take (end - start) (drop start before) ≡ part before from (end - start)
  same_part true q = let f = leb-true from end q in let m : start ≡ from = omega (arith, is) in ap (λ (k : ℕ). take (end - start) (drop k before)) m
  same_part false q = let f = leb-false from end q in let z : end - start ≡ 0 = omega (arith, is) in rw z refl

  pub all_moved : (l : Bytes) → end ≤ length before → l ≡ copy_within before start end 0 → Kept before from end (end - start) l
  all_moved l h e =
      let n : ℕ = end - start in
      let rest : Bytes = drop start before in
      let long : n ≤ length rest = omega (arith, length-drop start before, h) in
      record {
        sized = omega (arith, is);
        size = ap length e ∙ length-paste before 0 rest n (omega (arith, h)) long;
        front = ap (take n) e ∙ ap (λ (k : ℕ). take k (paste before 0 rest n)) (sym (zero-add n)) ∙ take-paste before 0 rest n (omega arith) long ∙ same_part (leb from end) refl;
      }

-- ---- what is read

pub held_stays : (l ys : Bytes) (held k : ℕ) → held ≤ length l → take held (take held l ++ (ys ++ drop k (drop held l))) ≡ take held l
held_stays l ys held k h = take_at (take held l) (ys ++ drop k (drop held l)) held (length-take-le held l h)
