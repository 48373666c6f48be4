-- Bytes added behind a place: nothing, what was appended, and one addition behind another.
-- Assumes nothing.
use Prim.Native.Nat.{ℕ, ◌+◌, ◌≤◌}
use native.Mathlib.Nat.{add-zero}
use native.Mathlib.Omega.{arith}
use lib.ListN.{length, take, length-take, length-append}
use borrow.Author.Tests.{le-leb}
use mathlib.Core.Path.{◌≡◌, refl, ap, sym, ◌∙◌}
use mathlib.Core.List.{◌++◌, [], append-nil, append_assoc}
use Rattle.lists.proofs.Writes.{take-over, put-fits, length-put}
use Rattle.texts.specs.Texts.{Text}
use Rattle.records.specs.Readers.{Bytes}
use Rattle.output_stores.specs.Stores.{used_after, Appended}
use Rattle.path_writer.specs.Spelling.{Adds}

pub adds-nothing : (l : Bytes) (at : ℕ) → Adds l at [] at l
adds-nothing l at = record { ends = sym (add-zero at); holds = sym (append-nil (take at l)); keeps = refl }

pub adds-appended : (l m : Bytes) (at n : ℕ) (vs : Text) → at + length vs ≤ length l → Appended l at vs n m → Adds l at vs n m
adds-appended l m at n vs h a =
    let e : n ≡ at + length vs = a.answers ∙ (unfold used_after in rw (le-leb (at + length vs) (length l) h)) in
    record {
      ends = e;
      holds = ap (λ (k : ℕ). take k m) e ∙ ap (λ (z : Bytes). take (at + length vs) z) (a.leaves ∙ put-fits l at vs h) ∙ take-over l at vs (omega arith);
      keeps = ap (λ (z : Bytes). length z) a.leaves ∙ length-put l at vs;
    }

pub adds_then : (l m n : Bytes) (at p q : ℕ) (us vs : Text) → Adds l at us p m → Adds m p vs q n → Adds l at (us ++ vs) q n
adds_then l m n at p q us vs a b =
    let k = length-append us vs in
    record {
      ends = omega (arith, a.ends, b.ends);
      holds = b.holds ∙ ap (λ (z : Bytes). z ++ vs) a.holds ∙ append_assoc (take at l) us vs;
      keeps = b.keeps ∙ a.keeps;
    }

pub appended-twice : (l m o : Bytes) (at n p : ℕ) (us vs : Text) → at + (length us + length vs) ≤ length l → Appended l at us n m → Appended m n vs p o → Adds l at (us ++ vs) p o
appended-twice l m o at n p us vs h a b =
    let c = adds-appended l m at n us (omega arith) a in
    adds_then l m o at n p us vs c (adds-appended m o n p vs (omega (arith, c.ends, c.keeps)) b)
