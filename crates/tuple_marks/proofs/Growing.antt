-- A store that grows: behind bytes that are whole TUs the records that follow stand as they would alone, so that marking these is enough.
-- Assumes nothing.
use Prim.Native.Nat.{ℕ}
use native.Mathlib.Omega.{arith}
use lib.ListN.{drop}
use borrow.Author.Tests.{le-ltb}
use mathlib.Core.Path.{◌≡◌, ap, sym, ◌∙◌, subst}
use mathlib.Core.Bool.{true}
use mathlib.Core.List.{List, [], ◌∷◌, ◌++◌}
use mathlib.Core.Option.{some}
use Rattle.records.specs.Readers.{Bytes, reads}
use Rattle.session_spec.specs.Definitions.{frame}
use Rattle.session_spec.specs.Layout.{TuRecord, read_tu}
use Rattle.session_laws.proofs.Stores.{frame-stable}
use Rattle.output_stores.specs.Stores.{standing}
use Rattle.output_stores.proofs.Walks.{standing_on, standing-end, reads_first, reads_nothing}
use Rattle.output_stores.proofs.Tus.{tu-shortens}
use Rattle.frames.proofs.Fronts.{frame-shortens}
use Rattle.tuple_search.proofs.Records.{fronted}
use Rattle.hashes.specs.Hashes.{hash_of}
use Rattle.tuple_marks.specs.Marks.{word_of, marked, with_marks, AllMarked}
use Rattle.tuple_marks.proofs.Marks.{marks-more}
use Rattle.lists.specs.Lists.{All}

standing-then : (tus : List TuRecord) (xs ys : Bytes) → reads read_tu xs ≡ some tus → standing frame (xs ++ ys) ≡ standing frame xs ++ standing frame ys
standing-then [] xs ys h =
    let e : xs ≡ [] = reads_nothing read_tu tu-shortens xs h in
    rw e (ap (λ (l : List Bytes). l ++ standing frame ys) (sym (standing-end frame [] (omega arith))))
standing-then (t ∷ tus) xs ys h =
    let m = reads_first read_tu tu-shortens xs t tus h in
    let r = m.0 in
    let f = fronted xs t r m.1 in
    standing_on frame frame-shortens (xs ++ ys) f.alone (r ++ ys) (frame-stable xs ys f.alone r f.framed)
    ∙ ap (λ (l : List Bytes). f.alone ∷ l) (standing-then tus r ys m.2)
    ∙ ap (λ (l : List Bytes). l ++ standing frame ys) (sym (standing_on frame frame-shortens xs f.alone r f.framed))

-- THE LAW of a store that grows
pub marked-then : (m : List ℕ) (xs ys : Bytes) (tus : List TuRecord) → reads read_tu xs ≡ some tus → AllMarked m xs → AllMarked (with_marks m (standing frame ys)) (xs ++ ys)
marked-then m xs ys tus h a =
    subst (All (λ f. marked (with_marks m (standing frame ys)) (drop 5 f) ≡ true)) (sym (standing-then tus xs ys h)) (marks-more m (standing frame xs) (standing frame ys) a)

-- without marks nothing is ruled out
open-to : (t : Bytes) → marked [] t ≡ true
unfolding marked
open-to t = rw (le-ltb (word_of (hash_of t)) 0 (omega arith))

each-open : (fs : List Bytes) → All (λ f. marked [] (drop 5 f) ≡ true) fs
each-open [] = tt
each-open (f ∷ fs) = (open-to (drop 5 f), each-open fs)

pub none-ruled-out : (used : Bytes) → AllMarked [] used
none-ruled-out used = each-open (standing frame used)

-- what is marked from nothing on
pub first-marked : (m : List ℕ) (used : Bytes) → AllMarked (with_marks m (standing frame used)) used
first-marked m used = marks-more m [] (standing frame used) tt
