-- Laws of `each_chunk`, for a function that keeps the length of what it is given: one chunk more is a change of the next part, and chunks past the end
-- change nothing. By induction on the list that tells what to do.
-- Assumes nothing.
use Prim.Native.Nat.{ℕ, suc, min, ◌+◌, ◌-◌, ◌*◌, ◌/◌, ◌≤◌, ◌<◌}
use native.Mathlib.Nat.{mul-zero, mul-suc, min-eq_left}
use native.Mathlib.Numerals.{add-one}
use native.Mathlib.Omega.{arith}
use lib.ListN.{length, take, drop, get_or, length-append, length-take, length-drop, take-append-drop, drop_of_length-le}
use lib.Seq.{length-take-le, take_all, take-nil, drop-nil, take-append-add, drop-append-add, take-suc, take-take}
use mathlib.Core.Path.{◌≡◌, refl, ap, sym, ◌∙◌, subst}
use mathlib.Core.List.{List, [], ◌∷◌, ◌++◌, append-nil, append_assoc}
use Rattle.std.proofs.lemmas.List.{nil_from_length, take_min, drop_min}
use Rattle.records.specs.Readers.{Bytes}
use Rattle.tree.specs.Cells.{Hit}
use Rattle.cells.specs.Cells.{hit_at, each_chunk, hit_selections}
use Rattle.cells.proofs.Writes.{by_le}
use Rattle.cells.proofs.Hits.{length-hit, hit-without-room}

module _ {A : Type 0} (w : ℕ) (f : A → Bytes → Bytes) where
  -- `f x` of one chunk, the one at a place
  abbrev pub on_chunk : A → (at : ℕ) → Bytes → Bytes
  on_chunk x at l = take at l ++ (f x (take w (drop at l)) ++ drop w (drop at l))

  -- a change that changes nothing
  pub each_same : ((x : A) (b : Bytes) → length b ≤ w → f x b ≡ b) → (xs : List A) (l : Bytes) → each_chunk w f xs l ≡ l
  unfolding each_chunk
  each_same same [] l = refl
  each_same same (x ∷ xs) l =
      rw (same x (take w l) (rw (length-take w l) (omega arith)), each_same same xs (drop w l)) (take-append-drop w l)

  module _ (keeps : (x : A) (b : Bytes) → length (f x b) ≡ length b) where
    empty : (x : A) → f x [] ≡ []
    empty x = nil_from_length (f x []) (keeps x [])

    pub length-each : (xs : List A) (l : Bytes) → length (each_chunk w f xs l) ≡ length l
    unfolding each_chunk
    length-each [] l = refl
    length-each (x ∷ xs) l =
        length-append (f x (take w l)) (each_chunk w f xs (drop w l))
        ∙ rw (keeps x (take w l), length-each xs (drop w l), length-take w l, length-drop w l) (omega arith)

    each-empty : (xs : List A) → each_chunk w f xs [] ≡ []
    each-empty xs = nil_from_length (each_chunk w f xs []) (length-each xs [])

    -- chunks past the end
    pub each-past : (xs ys : List A) (l : Bytes) → length l ≤ w * length xs → each_chunk w f (xs ++ ys) l ≡ each_chunk w f xs l
    unfolding each_chunk
    each-past [] ys l h =
        let e : l ≡ [] = nil_from_length l (let m = mul-zero w in omega arith) in
        rw e (each-empty ys)
    each-past (x ∷ xs) ys l h =
        let m = mul-suc w (length xs) in
        let r : length (drop w l) ≤ w * length xs = rw (length-drop w l) (omega arith) in
        ap (λ (z : Bytes). f x (take w l) ++ z) (each-past xs ys (drop w l) r)

    -- one more, where the first chunk is whole and where it is not
    next-whole : (x : A) (a t : Bytes) (n : ℕ) → length a ≡ w → a ++ on_chunk x (w * n) t ≡ on_chunk x (w * suc n) (a ++ t)
    next-whole x a t n e =
        let p : w * suc n ≡ length a + w * n = let m = mul-suc w n in omega arith in
        rw (p, take-append-add a t (w * n), drop-append-add a t (w * n))
        (sym (append_assoc a (take (w * n) t) (f x (take w (drop (w * n) t)) ++ drop w (drop (w * n) t))))

    past : (x : A) (at : ℕ) (z : Bytes) → length z ≤ at → on_chunk x at z ≡ z
    past x at z h =
        let e : drop at z ≡ [] = drop_of_length-le z {i = at} h in
        rw (take_all at z h, e, take-nil w, drop-nil w, empty x) (append-nil z)

    next-short : (x : A) (a : Bytes) (n : ℕ) → length a ≤ w → a ++ on_chunk x (w * n) [] ≡ on_chunk x (w * suc n) (a ++ [])
    next-short x a n h =
        let p : length (a ++ []) ≤ w * suc n = let m = mul-suc w n in let q = length-append a [] in omega arith in
        ap (λ (z : Bytes). a ++ z) (past x (w * n) [] (omega arith)) ∙ sym (past x (w * suc n) (a ++ []) p)

    pub each_more : (xs : List A) (x : A) (l : Bytes) → each_chunk w f (xs ++ (x ∷ [])) l ≡ on_chunk x (w * length xs) (each_chunk w f xs l)
    unfolding each_chunk
    each_more [] x l = rw (mul-zero w)
    each_more (y ∷ ys) x l =
        let a : Bytes = f y (take w l) in
        let t : Bytes = each_chunk w f ys (drop w l) in
        ap (λ (z : Bytes). a ++ z) (each_more ys x (drop w l))
        ∙ by_le w (length l)
        (λ h. next-whole x a t (length ys) (keeps y (take w l) ∙ length-take w l ∙ min-eq_left h))
        (λ h.
        let e : t ≡ [] = nil_from_length t (length-each ys (drop w l) ∙ length-drop w l ∙ omega arith) in
        let r : length a ≤ w = let k = keeps y (take w l) in let m = length-take w l in omega arith in
        subst (λ (z : Bytes). a ++ on_chunk x (w * length ys) z ≡ on_chunk x (w * suc (length ys)) (a ++ z)) (sym e) (next-short x a (length ys) r))

-- ---- the loop over the selections

module _ (h : Hit) (field : ℕ) where
  keeps : (t : ℕ) (b : Bytes) → length (hit_at h (128 * field) t b) ≡ length b
  keeps t b = length-hit h (128 * field) t b

  pub length-selections : (counts l : Bytes) → length (hit_selections h field counts l) ≡ length l
  unfolding hit_selections
  length-selections counts l = length-each 512 (hit_at h (128 * field)) keeps counts l

  -- a selection has no fifth cell
  pub no-such-field : (counts l : Bytes) → 4 ≤ field → l ≡ hit_selections h field counts l
  unfolding hit_selections
  no-such-field counts l r = sym (each_same 512 (hit_at h (128 * field)) (λ t b m. hit-without-room h (128 * field) t b (omega arith)) counts l)

  pub none_yet : (counts l : Bytes) → l ≡ hit_selections h field (take 0 counts) l
  unfolding hit_selections each_chunk
  none_yet counts l = refl

  -- a turn: the selection that was lent comes back
  pub turn : (l₀ l x counts : Bytes) (j w : ℕ) → j < length counts → w ≡ min 512 (length l - 512 * j) → l ≡ hit_selections h field (take j counts) l₀
      → x ≡ hit_at h (128 * field) (get_or counts j 0) (take w (drop (512 * j) l))
      → take (512 * j) l ++ (x ++ drop w (drop (512 * j) l)) ≡ hit_selections h field (take (j + 1) counts) l₀
  unfolding hit_selections
  turn l₀ l x counts j w r ew e ex =
      let f : ℕ → Bytes → Bytes = hit_at h (128 * field) in
      let d : Bytes = drop (512 * j) l in
      let c : ℕ = get_or counts j 0 in
      let m : w ≡ min 512 (length d) = ew ∙ ap (λ (k : ℕ). min 512 k) (sym (length-drop (512 * j) l)) in
      let p : take w d ≡ take 512 d = ap (λ (k : ℕ). take k d) m ∙ take_min 512 d in
      let q : drop w d ≡ drop 512 d = ap (λ (k : ℕ). drop k d) m ∙ drop_min 512 d in
      let n : take (j + 1) counts ≡ take j counts ++ (c ∷ []) = ap (λ (k : ℕ). take k counts) (add-one j) ∙ take-suc counts j 0 r in
      let i : length (take j counts) ≡ j = length-take-le j counts (omega arith) in
      ap (λ (z : Bytes). take (512 * j) l ++ (z ++ drop w d)) (ex ∙ ap (λ (z : Bytes). f c z) p)
      ∙ ap (λ (z : Bytes). take (512 * j) l ++ (f c (take 512 d) ++ z)) q
      ∙ ap (λ (k : ℕ). on_chunk 512 f c (512 * k) l) (sym i)
      ∙ ap (λ (z : Bytes). on_chunk 512 f c (512 * length (take j counts)) z) e
      ∙ sym (each_more 512 f keeps (take j counts) c l₀)
      ∙ ap (λ (z : Bytes). each_chunk 512 f z l₀) (sym n)

  -- the end: no count is left, or no selection
  pub all_done : (l₀ counts : Bytes) (n last : ℕ) → last ≡ min (length l₀ / 512 + 1) (min n (length counts))
      → hit_selections h field (take last counts) l₀ ≡ hit_selections h field (take n counts) l₀
  unfolding hit_selections
  all_done l₀ counts n last e =
      let f : ℕ → Bytes → Bytes = hit_at h (128 * field) in
      by_le (length l₀ / 512 + 1) (min n (length counts))
      (λ r.
      let a : length (take last counts) ≡ last = length-take-le last counts (omega arith) in
      let s : take last counts ++ drop last (take n counts) ≡ take n counts =
      ap (λ (z : Bytes). z ++ drop last (take n counts)) (sym (take-take last n counts (omega arith))) ∙ take-append-drop last (take n counts) in
      sym (each-past 512 f keeps (take last counts) (drop last (take n counts)) l₀ (omega arith)) ∙ ap (λ (z : Bytes). each_chunk 512 f z l₀) s)
      (λ r.
      let m : last ≡ min n (length counts) = omega arith in
      ap (λ (z : Bytes). each_chunk 512 f z l₀) (ap (λ (k : ℕ). take k counts) m ∙ take_min n counts))
