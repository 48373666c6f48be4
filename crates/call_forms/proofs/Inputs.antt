-- However an input is cut into pieces, the records that are handed in are those of the whole: a frame that is whole stays whole with more behind it.
-- Assumes nothing.
use Prim.Native.Nat.{ℕ, zero, suc, ◌+◌, ◌≤◌}
use native.Mathlib.Omega.{arith}
use borrow.Author.Tests.{ltb-true, ltb-false, leb-true, leb-false}
use lib.Dec.{leb, ltb}
use lib.ListN.{length, take, drop, length-append, length-drop}
use lib.Seq.{length-take-le, take-append-le, drop-append-le, drop-drop}
use mathlib.Core.Path.{◌≡◌, refl, ap, sym, ◌∙◌, subst}
use mathlib.Core.Bool.{Bool, true, false}
use mathlib.Core.List.{List, [], ◌∷◌, ◌++◌, append-nil, append_assoc, flat_map}
use mathlib.Core.Option.{none, some}
use Rattle.numbers.specs.Numbers.{two}
use Rattle.numbers.proofs.RoundTrip.{two-append}
use Rattle.records.specs.Readers.{Bytes}
use Rattle.output_stores.proofs.Walks.{standing_on, standing-stop}
use Rattle.calls.specs.Buffers.{next_frame, frames_of}
use Rattle.calls.proofs.Buffers.{frame-short, frame-over, frame-cut, frame-whole, frame-shortens}
use Rattle.call_forms.specs.Input.{records_of_piece, total, rest_of, records_of, records_in}

-- ---- the frame at the front, with more behind it

-- so many bytes are a frame, also with more behind them
record Stands (xs : Bytes) (k : ℕ) : Type 0 where
  pub least : 4 ≤ k
  pub inside : k ≤ length xs
  pub alone : next_frame xs ≡ some (take k xs, drop k xs)
  pub longer : (ys : Bytes) → next_frame (xs ++ ys) ≡ some (take k xs, drop k xs ++ ys)

-- either none is whole, or one stands there
data Front (xs : Bytes) : Type 0 where
  cut_short : next_frame xs ≡ none → Front xs
  stands : (k : ℕ) → Stands xs k → Front xs

-- the same bytes of the longer input
same-cut : (xs ys : Bytes) (k : ℕ) → k ≤ length xs → next_frame (xs ++ ys) ≡ some (take k (xs ++ ys), drop k (xs ++ ys)) → next_frame (xs ++ ys) ≡ some (take k xs, drop k xs ++ ys)
same-cut xs ys k h e = e ∙ ap (λ (t : Bytes). some (t, drop k (xs ++ ys))) (take-append-le k xs ys h) ∙ ap (λ (d : Bytes). some (take k xs, d)) (drop-append-le k xs ys h)

front : (xs : Bytes) → Front xs
front xs = by (leb 4 (length xs)) refl
  where
    known : (k : ℕ) → 4 ≤ k → k ≤ length xs → next_frame xs ≡ some (take k xs, drop k xs)
        → ((ys : Bytes) → next_frame (xs ++ ys) ≡ some (take k (xs ++ ys), drop k (xs ++ ys))) → Stands xs k
    known k l h f g = record { least = l; inside = h; alone = f; longer = λ ys. same-cut xs ys k h (g ys) }

    size : 4 ≤ length xs → (b : Bool) → ltb 16384 (two xs 2) ≡ b → (c : Bool) → leb (4 + two xs 2) (length xs) ≡ c → Front xs
    size l true e c f =
        let o = ltb-true 16384 (two xs 2) e in
        stands 4
        (known 4 (omega arith) l (frame-over xs l o)
        (λ ys. let n = length-append xs ys in let t = two-append xs ys 2 l in frame-over (xs ++ ys) (omega (arith, n, l)) (omega (arith, t, o))))
    size l false e true f =
        let o = ltb-false 16384 (two xs 2) e in
        let w = leb-true (4 + two xs 2) (length xs) f in
        stands (4 + two xs 2)
        (known (4 + two xs 2) (omega arith) w (frame-whole xs l o w)
        (λ ys.
        let n = length-append xs ys in
        let t = two-append xs ys 2 l in
        subst (λ (z : ℕ). next_frame (xs ++ ys) ≡ some (take (4 + z) (xs ++ ys), drop (4 + z) (xs ++ ys))) t (frame-whole (xs ++ ys) (omega (arith, n, l)) (omega (arith, t, o)) (omega (arith, n, t, w)))))
    size l false e false f = cut_short (frame-cut xs l (ltb-false 16384 (two xs 2) e) (leb-false (4 + two xs 2) (length xs) f))

    by : (b : Bool) → leb 4 (length xs) ≡ b → Front xs
    by true e = size (leb-true 4 (length xs) e) (ltb 16384 (two xs 2)) refl (leb (4 + two xs 2) (length xs)) refl
    by false e = cut_short (frame-short xs (leb-false 4 (length xs) e))

-- ---- frames and rest, with more behind them

none-there : (xs : Bytes) → next_frame xs ≡ none → frames_of xs ≡ []
none-there xs e = standing-stop next_frame frame-shortens xs e

all_left : (xs : Bytes) → frames_of xs ≡ [] → rest_of xs ≡ xs
unfolding rest_of total
all_left xs e = ap (λ (fs : List Bytes). drop (total fs) xs) e

module _ (xs : Bytes) (k : ℕ) (s : Stands xs k) where
  first-there : frames_of xs ≡ take k xs ∷ frames_of (drop k xs)
  first-there = standing_on next_frame frame-shortens xs (take k xs) (drop k xs) s.alone

  first-longer : (ys : Bytes) → frames_of (xs ++ ys) ≡ take k xs ∷ frames_of (drop k xs ++ ys)
  first-longer ys = standing_on next_frame frame-shortens (xs ++ ys) (take k xs) (drop k xs ++ ys) (s.longer ys)

  rest-behind : rest_of xs ≡ rest_of (drop k xs)
  unfolding rest_of total
  rest-behind =
      ap (λ (fs : List Bytes). drop (total fs) xs) first-there
      ∙ ap (λ (n : ℕ). drop (n + total (frames_of (drop k xs))) xs) (length-take-le k xs s.inside)
      ∙ sym (drop-drop (total (frames_of (drop k xs))) k xs)

  rest-longer : (ys : Bytes) → rest_of (xs ++ ys) ≡ rest_of (drop k xs ++ ys)
  unfolding rest_of total
  rest-longer ys =
      ap (λ (fs : List Bytes). drop (total fs) (xs ++ ys)) (first-longer ys)
      ∙ ap (λ (n : ℕ). drop (n + total (frames_of (drop k xs ++ ys))) (xs ++ ys)) (length-take-le k xs s.inside)
      ∙ sym (drop-drop (total (frames_of (drop k xs ++ ys))) k (xs ++ ys))
      ∙ ap (drop (total (frames_of (drop k xs ++ ys)))) (drop-append-le k xs ys s.inside)

-- what is left has no frame, and the frames of the longer input are those of the first part and of what it leaves with the second
record Splits (xs ys : Bytes) : Type 0 where
  pub none_left : frames_of (rest_of xs) ≡ []
  pub frames : frames_of (xs ++ ys) ≡ frames_of xs ++ frames_of (rest_of xs ++ ys)
  pub rest : rest_of (xs ++ ys) ≡ rest_of (rest_of xs ++ ys)

splits-none : (xs ys : Bytes) → next_frame xs ≡ none → Splits xs ys
splits-none xs ys e =
    let f = none-there xs e in
    let r = all_left xs f in
    record {
      none_left = ap frames_of r ∙ f;
      frames = ap (λ (l : Bytes). frames_of (l ++ ys)) (sym r) ∙ ap (λ (fs : List Bytes). fs ++ frames_of (rest_of xs ++ ys)) (sym f);
      rest = ap (λ (l : Bytes). rest_of (l ++ ys)) (sym r);
    }

splits-more : (xs ys : Bytes) (k : ℕ) → Stands xs k → Splits (drop k xs) ys → Splits xs ys
splits-more xs ys k s q =
    let r = rest-behind xs k s in
    record {
      none_left = ap frames_of r ∙ q.none_left;
      frames =
          first-longer xs k s ys
          ∙ ap (λ (fs : List Bytes). take k xs ∷ fs) q.frames
          ∙ ap (λ (l : Bytes). (take k xs ∷ frames_of (drop k xs)) ++ frames_of (l ++ ys)) (sym r)
          ∙ ap (λ (fs : List Bytes). fs ++ frames_of (rest_of xs ++ ys)) (sym (first-there xs k s));
      rest = rest-longer xs k s ys ∙ q.rest ∙ ap (λ (l : Bytes). rest_of (l ++ ys)) (sym r);
    }

splits-within : (n : ℕ) (xs ys : Bytes) → length xs ≤ n → Splits xs ys
splits-within zero xs ys h = by (front xs)
  where
    by : Front xs → Splits xs ys
    by (cut_short e) = splits-none xs ys e
    by (stands k s) = absurd (omega (arith, s.least, s.inside, h))
splits-within (suc n) xs ys h = by (front xs) (λ k l. splits-within n (drop k xs) ys l)
  where
    by : Front xs → ((k : ℕ) → length (drop k xs) ≤ n → Splits (drop k xs) ys) → Splits xs ys
    by (cut_short e) ih = splits-none xs ys e
    by (stands k s) ih = splits-more xs ys k s (ih k (omega (arith, length-drop k xs, s.least, s.inside, h)))

splits : (xs ys : Bytes) → Splits xs ys
splits xs ys = splits-within (length xs) xs ys (omega arith)

-- ---- the theorem

abbrev joined : List Bytes → Bytes
joined ps = flat_map (λ (p : Bytes). p) ps

records-split : (xs ys : Bytes) → records_of (xs ++ ys) ≡ frames_of xs ++ records_of (rest_of xs ++ ys)
unfolding records_of
records-split xs ys =
    let s = splits xs ys in
    ap (λ (fs : List Bytes). fs ++ records_of_piece true (rest_of (xs ++ ys))) s.frames
    ∙ ap (λ (l : Bytes). (frames_of xs ++ frames_of (rest_of xs ++ ys)) ++ records_of_piece true l) s.rest
    ∙ append_assoc (frames_of xs) (frames_of (rest_of xs ++ ys)) (records_of_piece true (rest_of (rest_of xs ++ ys)))

records-held : (held : Bytes) → frames_of held ≡ [] → records_of_piece true held ≡ records_of held
unfolding records_of
records-held held e = ap (records_of_piece true) (sym (all_left held e)) ∙ ap (λ (fs : List Bytes). fs ++ records_of_piece true (rest_of held)) (sym e)

from-held : (held : Bytes) (ps : List Bytes) → frames_of held ≡ [] → records_in held ps ≡ records_of (held ++ joined ps)
unfolding records_in records_of_piece flat_map
from-held held [] e = records-held held e ∙ ap records_of (sym (append-nil held))
from-held held (p ∷ ps) e =
    let s = splits (held ++ p) (joined ps) in
    ap (λ (rs : List Bytes). frames_of (held ++ p) ++ rs) (from-held (rest_of (held ++ p)) ps s.none_left)
    ∙ sym (records-split (held ++ p) (joined ps))
    ∙ ap records_of (append_assoc held p (joined ps))

-- ANY-PIECES: the records that are handed in are those of the whole input, wherever it is cut.
pub any-pieces : (ps : List Bytes) → records_in [] ps ≡ records_of (joined ps)
any-pieces ps = from-held [] ps (none-there [] (frame-short [] (omega arith)))
