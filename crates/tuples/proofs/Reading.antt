-- A TU at the front of bytes: ten bytes of head, then as many texts as the tenth byte says, and nothing else within the stated length. So it is as long as
-- that length says, and a walk goes on behind it without its texts.
-- Assumes nothing.
use Prim.Native.Nat.{ℕ, ◌+◌, ◌-◌, ◌≤◌, ◌<◌}
use native.Mathlib.Omega.{arith}
use lib.Dec.{eqb, leb}
use lib.ListN.{length, take, drop, get_or, length-drop, take-append-drop}
use lib.Seq.{length-take-le, drop-drop}
use borrow.Author.Tests.{eq-eqb, ne_eqb, eqb-true, leb-true, leb-false}
use mathlib.Core.Path.{◌≡◌, refl, ap, sym, ◌∙◌}
use mathlib.Core.Bool.{Bool, true, false, ◌&&◌, true≢false}
use mathlib.Core.List.{List, [], ◌∷◌, ◌++◌}
use mathlib.Core.Option.{Option, none, some, some-injective, none-ne-some}
use Rattle.std.specs.Bool.{◌==◌, then_some}
use Rattle.std.specs.Cmp.Lexicographic.{pointwise}
use Rattle.std.proofs.lemmas.Slice.{between_is}
use denote.Ref.{Bor}
use Rattle.std.proofs.lemmas.Bool.{and_parts}
use Rattle.texts.specs.Texts.{Text}
use Rattle.numbers.specs.Numbers.{two}
use Rattle.records.specs.Readers.{Bytes, on_read, ◌>>=◌, pass, require, read_text, times, on_behind, bytes_from, put_texts}
use Rattle.records.proofs.Stores.{text-stable, times-stable}
use Rattle.session_spec.specs.Layout.{TuRecord, read_tu}
use Rattle.session_spec.specs.Definitions.{frame}
use Rattle.frames.proofs.Fronts as fronts
use Rattle.output_stores.proofs.Sizes.{too_short}
use Rattle.output_stores.proofs.Tus.{tu-least, tu_in, tu_marked, tu_end, tu-read, tu-unmarked}
use Rattle.tuples.specs.Tuples.{left_by}
use Rattle.tuples.proofs.Behind.{from-times}
use Rattle.tuples.proofs.Texts.{texts-back}

-- ---- the record at the front, as it is split off

pub record Whole (s f r : Bytes) : Type 0 where
  pub states : 4 + two s 2 ≡ length f
  pub fits : 4 + two s 2 ≤ length s
  pub front : f ≡ take (4 + two s 2) s
  pub behind : r ≡ drop (4 + two s 2) s

pub whole : (s f r : Bytes) → frame s ≡ some (f, r) → Whole s f r
whole s f r e =
    let w = fronts.front s f r e in
    let l = w.states in
    let i = w.inside in
    let n : length f ≡ 4 + two s 2 = omega arith in
    record {
      states = sym n;
      fits = omega arith;
      front = w.front ∙ ap (λ (k : ℕ). take k s) n;
      behind = w.behind ∙ ap (λ (k : ℕ). drop k s) n;
    }

pub not-whole : (s : Bytes) → none ≡ frame s → length s < 4 + two s 2
not-whole s e = by (leb (two s 2 + 4) (length s)) refl
  where
    by : (b : Bool) → leb (two s 2 + 4) (length s) ≡ b → length s < 4 + two s 2
    by true t = absurd (none-ne-some _ (e ∙ fronts.frame-there s (leb-true (two s 2 + 4) (length s) t)))
    by false t = let l = leb-false (two s 2 + 4) (length s) t in omega arith

-- ---- A TU AT THE FRONT

pub record Front (s : Bytes) : Type 0 where
  pub long : 10 ≤ length s
  pub first : get_or s 0 0 ≡ 84
  pub second : get_or s 1 0 ≡ 85
  pub keys : List Text
  pub stated : two s 2 ≡ 6 + length (put_texts keys)
  pub fits : 4 + two s 2 ≤ length s
  pub texts : times (get_or s 9 0) read_text (drop 10 s) ≡ some (keys, drop (4 + two s 2) s)
  pub reads : read_tu s ≡ some (tu_in s keys, drop (4 + two s 2) s)

-- its texts are read, and take as many bytes as is stated
front-with : (s : Bytes) → 10 ≤ length s → get_or s 0 0 ≡ 84 → get_or s 1 0 ≡ 85 → (ts : List Text) (ys : Bytes)
    → times (get_or s 9 0) read_text (drop 10 s) ≡ some (ts, ys) → two s 2 ≡ 6 + length (put_texts ts) → Front s
unfolding tu_marked tu_end ◌>>=◌ on_read require pass
front-with s h a b ts ys e n =
    let w = texts-back (get_or s 9 0) (drop 10 s) ts ys e in
    let f = w.fits in
    let l = length-drop 10 s in
    let k : 10 + length (put_texts ts) ≡ 4 + two s 2 = omega arith in
    let r : ys ≡ drop (4 + two s 2) s = w.left ∙ drop-drop (length (put_texts ts)) 10 s ∙ ap (λ (m : ℕ). drop m s) k in
    let m : tu_marked s ≡ true = rw (eq-eqb (get_or s 0 0) 84 a, eq-eqb (get_or s 1 0) 85 b) in
    record {
      long = h;
      first = a;
      second = b;
      keys = ts;
      stated = n;
      fits = omega arith;
      texts = e ∙ ap (λ (l : Bytes). some (ts, l)) r;
      reads = tu-read s h m ∙ rw (e, eq-eqb (two s 2) (6 + length (put_texts ts)) n) (ap (λ (l : Bytes). some (tu_in s ts, l)) r);
    }

-- whatever is read is such
pub front_of : (s : Bytes) (t : TuRecord) (r : Bytes) → read_tu s ≡ some (t, r) → Front s
front_of s t r e =
    let h : 10 ≤ length s = (let l = tu-least s t r e in omega arith) in
    by-mark h (tu_marked s) refl
  where
    by_length : (h : 10 ≤ length s) → tu_marked s ≡ true → (q : List Text × Bytes) → times (get_or s 9 0) read_text (drop 10 s) ≡ some q
        → (b : Bool) → eqb (two s 2) (6 + length (put_texts q.0)) ≡ b → Front s
    by_length h m q o true n =
        let p : (eqb (get_or s 0 0) 84 ≡ true) × (eqb (get_or s 1 0) 85 ≡ true) =
        (unfold tu_marked in and_parts (eqb (get_or s 0 0) 84) (eqb (get_or s 1 0) 85) m) in
        front-with s h (eqb-true (get_or s 0 0) 84 p.0) (eqb-true (get_or s 1 0) 85 p.1) q.0 q.1 o (eqb-true (two s 2) (6 + length (put_texts q.0)) n)
    by_length h m q o false n =
        let x : read_tu s ≡ none = tu-read s h m ∙ (unfold tu_end ◌>>=◌ on_read require in rw (o, n)) in
        absurd (none-ne-some (t, r) (sym x ∙ e))

    by-texts : (h : 10 ≤ length s) → tu_marked s ≡ true → (o : Option (List Text × Bytes)) → times (get_or s 9 0) read_text (drop 10 s) ≡ o → Front s
    by-texts h m none o = let x : read_tu s ≡ none = tu-read s h m ∙ (unfold on_read in rw o) in absurd (none-ne-some (t, r) (sym x ∙ e))
    by-texts h m (some q) o = by_length h m q o (eqb (two s 2) (6 + length (put_texts q.0))) refl

    by-mark : 10 ≤ length s → (b : Bool) → tu_marked s ≡ b → Front s
    by-mark h true m = by-texts h m (times (get_or s 9 0) read_text (drop 10 s)) refl
    by-mark h false m = absurd (none-ne-some (t, r) (sym (tu-unmarked s h m) ∙ e))

-- ---- what stands behind it

pub behind-front : (s : Bytes) → Front s → bytes_from 1 read_tu s ≡ some (drop (4 + two s 2) s)
unfolding bytes_from on_behind
behind-front s f = rw f.reads

none-behind : (s : Bytes) → read_tu s ≡ none → none ≡ bytes_from 1 read_tu s
unfolding bytes_from on_behind
none-behind s e = rw e

pub not-front : (s : Bytes) → (Front s → ⊥) → read_tu s ≡ none
not-front s h = by (read_tu s) refl
  where
    by : (o : Option (TuRecord × Bytes)) → read_tu s ≡ o → o ≡ none
    by none e = refl
    by (some q) e = absurd (h (front_of s q.0 q.1 e))

pub front : (s r : Bytes) → some r ≡ bytes_from 1 read_tu s → Front s
front s r e = by (read_tu s) refl
  where
    by : (o : Option (TuRecord × Bytes)) → read_tu s ≡ o → Front s
    by none n = absurd (none-ne-some r (none-behind s n ∙ sym e))
    by (some q) n = front_of s q.0 q.1 n

pub no_front : (s : Bytes) → none ≡ bytes_from 1 read_tu s → read_tu s ≡ none
no_front s e = not-front s (λ f. none-ne-some (drop (4 + two s 2) s) (e ∙ behind-front s f))

-- ---- the answers of `tuple_behind`

-- the mark, as it is compared
pub mark-there : (s : Bytes) → 10 ≤ length s → pointwise eqb (84 ∷ 85 ∷ []) (take 2 s) ≡ true → (get_or s 0 0 ≡ 84) × (get_or s 1 0 ≡ 85)
mark-there [] h e = absurd (omega arith)
mark-there (a ∷ []) h e = absurd (omega arith)
mark-there (a ∷ b ∷ s) h e =
    let p = and_parts (eqb 84 a) (eqb 85 b && true) e in
    let q = and_parts (eqb 85 b) true p.1 in
    (sym (eqb-true 84 a p.0), sym (eqb-true 85 b q.0))

mark-same : (s : Bytes) → 10 ≤ length s → get_or s 0 0 ≡ 84 → get_or s 1 0 ≡ 85 → pointwise eqb (84 ∷ 85 ∷ []) (take 2 s) ≡ true
mark-same [] h a b = absurd (omega arith)
mark-same (x ∷ []) h a b = absurd (omega arith)
mark-same (x ∷ y ∷ s) h a b = rw (eq-eqb 84 x (sym a), eq-eqb 85 y (sym b))

-- the bytes that are stated to hold the texts, as they are cut off
pub texts-inside : (s whole inside : Bytes) → whole ≡ take (4 + two s 2) s → inside ≡ drop 10 whole → inside ≡ take (4 + two s 2 - 10) (drop 10 s)
texts-inside s whole inside w i = i ∙ ap (drop 10) w ∙ sym (between_is s 10 (4 + two s 2))

module _ (s : Bytes) where
  pub no_room : length s < 10 → none ≡ bytes_from 1 read_tu s
  no_room h = none-behind s (too_short 10 read_tu tu-least s h)

  pub other-mark : pointwise eqb (84 ∷ 85 ∷ []) (take 2 s) ≡ false → none ≡ bytes_from 1 read_tu s
  other-mark h = none-behind s (not-front s (λ f. true≢false (sym (mark-same s f.long f.first f.second) ∙ h)))

  pub past_the_end : length s < 4 + two s 2 → none ≡ bytes_from 1 read_tu s
  past_the_end h = none-behind s (not-front s (λ f. let n = f.fits in omega arith))

  pub no-head : two s 2 + 4 < 10 → none ≡ bytes_from 1 read_tu s
  no-head h = none-behind s (not-front s (λ f. let n = f.stated in omega arith))

  module _ (inside : Bytes) (i : inside ≡ take (4 + two s 2 - 10) (drop 10 s)) (left : Option Bytes) (l : left ≡ bytes_from (get_or s 9 0) read_text inside) where
    pub not-filled : (left ≡ some [] → ⊥) → none ≡ bytes_from 1 read_tu s
    not-filled h = none-behind s (not-front s (λ f. h (filled f)))
      where
        filled : Front s → left ≡ some []
        filled f =
            let n = f.stated in
            let m : length (put_texts f.keys) ≡ 4 + two s 2 - 10 = omega arith in
            let x : times (get_or s 9 0) read_text inside ≡ some (f.keys, []) =
            ap (times (get_or s 9 0) read_text) i
            ∙ ap (λ (k : ℕ). times (get_or s 9 0) read_text (take k (drop 10 s))) (sym m) ∙ (texts-back (get_or s 9 0) (drop 10 s) f.keys _ f.texts).exact in
            l ∙ rw (from-times read_text (get_or s 9 0) inside, x)

    pub all-filled : 10 ≤ length s → get_or s 0 0 ≡ 84 → get_or s 1 0 ≡ 85 → 10 ≤ 4 + two s 2 → 4 + two s 2 ≤ length s → left ≡ some []
        → some (drop (4 + two s 2) s) ≡ bytes_from 1 read_tu s
    all-filled h a b g k z = by (times (get_or s 9 0) read_text inside) refl
      where
        inside-length : length inside ≡ 4 + two s 2 - 10
        inside-length = let d = length-drop 10 s in ap length i ∙ length-take-le (4 + two s 2 - 10) (drop 10 s) (omega arith)

        whole : (ts : List Text) → times (get_or s 9 0) read_text inside ≡ some (ts, []) → Front s
        whole ts o =
            let w = texts-back (get_or s 9 0) inside ts [] o in
            let f = w.fits in
            let d = ap length w.left ∙ length-drop (length (put_texts ts)) inside in
            let n = inside-length in
            let t = times-stable read_text text-stable (get_or s 9 0) inside (drop (4 + two s 2 - 10) (drop 10 s)) ts [] o in
            let j : times (get_or s 9 0) read_text (drop 10 s) ≡ some (ts, drop (4 + two s 2 - 10) (drop 10 s)) =
            ap (times (get_or s 9 0) read_text) (sym (take-append-drop (4 + two s 2 - 10) (drop 10 s)) ∙ ap (λ (x : Bytes). x ++ drop (4 + two s 2 - 10) (drop 10 s)) (sym i)) ∙ t in
            front-with s h a b ts (drop (4 + two s 2 - 10) (drop 10 s)) j (omega arith)

        by : (o : Option (List Text × Bytes)) → times (get_or s 9 0) read_text inside ≡ o → some (drop (4 + two s 2) s) ≡ bytes_from 1 read_tu s
        by none o = let n : none ≡ left = sym (l ∙ rw (from-times read_text (get_or s 9 0) inside, o)) in absurd (none-ne-some [] (n ∙ z))
        by (some q) o =
            let x : left ≡ some q.1 = l ∙ rw (from-times read_text (get_or s 9 0) inside, o) in
            let y : q.1 ≡ [] = some-injective _ _ (sym x ∙ z) in
            sym (behind-front s (whole q.0 (o ∙ ap (λ (r : Bytes). some (q.0, r)) y)))

-- nothing is left, or something
pub when-filled : (s inside : Bytes) → inside ≡ take (4 + two s 2 - 10) (drop 10 s) → (left : Bytes) → some left ≡ bytes_from (get_or s 9 0) read_text inside
    → 10 ≤ length s → get_or s 0 0 ≡ 84 → get_or s 1 0 ≡ 85 → 10 ≤ 4 + two s 2 → 4 + two s 2 ≤ length s
    → (behind : Bor Bytes) → behind.now ≡ drop (4 + two s 2) s → (b : Bool) → b ≡ (length left == 0) → left_by (then_some b behind) ≡ bytes_from 1 read_tu s
when-filled s inside i [] l h x y g k behind e true z = ap some e ∙ all-filled s inside i (some []) l h x y g k refl
when-filled s inside i (a ∷ left) l h x y g k behind e true z = absurd (true≢false (z ∙ ne_eqb (length (a ∷ left)) 0 (λ q. omega arith)))
when-filled s inside i [] l h x y g k behind e false z = absurd (true≢false (sym z))
when-filled s inside i (a ∷ left) l h x y g k behind e false z = not-filled s inside i (some (a ∷ left)) l (λ q. let n = ap length (some-injective _ _ q) in omega arith)
