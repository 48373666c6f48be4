-- The TU of a selection: its keys are appended one behind the other, from byte 10 on, and at last the ten bytes before them are written.
-- Assumes nothing.
use Prim.Native.Nat.{ℕ, zero, suc, ◌+◌, ◌-◌, ◌*◌, ◌≤◌, ◌<◌, min}
use native.Mathlib.Numerals.{add-one}
use native.Mathlib.Omega.{arith}
use lib.ListN.{length, take, drop, replicate, length-append}
use lib.Seq.{drop-drop, drop_at, take_at, length-take-le}
use borrow.Author.Tests.{le-leb}
use mathlib.Core.Path.{◌≡◌, refl, ap, sym, ◌∙◌}
use mathlib.Core.List.{List, [], ◌∷◌, ◌++◌, append-nil, append_assoc, flat_map}
use Rattle.lists.specs.Lists.{over, put}
use Rattle.lists.proofs.Lists.{flat_map-append}
use Rattle.lists.proofs.Writes.{put-fits, put_then, length-put}
use Rattle.texts.specs.Texts.{Text}
use Rattle.numbers.specs.Numbers.{two_bytes, four_bytes}
use Rattle.records.specs.Readers.{Bytes, put_text, put_texts}
use Rattle.records.proofs.Readers.{text-length}
use Rattle.session_spec.specs.Layout.{key_of}
use Rattle.cells.specs.Cells.{cell_for, cell_at}
use Rattle.cells.proofs.Places.{for-fit}
use Rattle.output_stores.specs.Stores.{used_after, Appended}
use Rattle.output_stores.proofs.Appends.{not-appended, nothing-appended}
use Rattle.tuple_search.specs.Search.{first_keys, keys_in, tail_bytes, tu_bytes, tu_head, MadeOf}

-- ---- one append behind another

module _ (d : Bytes) (used : ℕ) (xs : Bytes) (next : ℕ) (after : Bytes) (a : Appended d used xs next after) (h : used + length xs ≤ length d) where
  pub fits_next : next ≡ used + length xs
  unfolding used_after
  fits_next = a.answers ∙ rw (le-leb (used + length xs) (length d) h)

  pub same_size : length after ≡ length d
  same_size = ap length a.leaves ∙ length-put d used xs

pub appended_then : (d : Bytes) (used : ℕ) (xs ys : Bytes) (mid next : ℕ) (m after : Bytes) → Appended d used xs mid m → Appended m mid ys next after
    → used + length xs + length ys ≤ length d → Appended d used (xs ++ ys) next after
unfolding used_after
appended_then d used xs ys mid next m after a b h =
    let e : mid ≡ used + length xs = fits_next d used xs mid m a (omega arith) in
    let s : length m ≡ length d = same_size d used xs mid m a (omega arith) in
    let n : next ≡ mid + length ys = fits_next m mid ys next after b (omega arith) in
    let l = length-append xs ys in
    record {
      answers = rw (le-leb (used + length (xs ++ ys)) (length d) (omega arith)) (omega arith);
      leaves = b.leaves ∙ ap (λ (z : Bytes). put z mid ys) a.leaves ∙ put_then d used mid xs ys (sym e) (omega arith);
    }

-- ---- a text behind the used bytes

module _ (d : Bytes) (used : ℕ) (t : Text) where
  pub text-not : length d < used + 2 + length t → Appended d used (put_text t) used d
  text-not h = not-appended d used (put_text t) (let l = text-length t in omega arith)

  pub text-appended : (size : ℕ) (m : Bytes) (next : ℕ) (after : Bytes) → used + 2 + length t ≤ length d → size ≡ length t → m ≡ put d used (two_bytes size)
      → Appended m (used + 2) t next after → Appended d used (put_text t) next after
  unfolding put_text used_after two_bytes
  text-appended size m next after h e w b =
      let v : m ≡ put d used (two_bytes (length t)) = w ∙ ap (λ (n : ℕ). put d used (two_bytes n)) e in
      let a : Appended d used (two_bytes (length t)) (used + 2) m = record { answers = rw (le-leb (used + 2) (length d) (omega arith)); leaves = v } in
      appended_then d used (two_bytes (length t)) t (used + 2) next m after a b h

-- ---- the head

pub head-made : (size constraint scope count : ℕ) (a b : Bytes)
    → a ≡ put (84 ∷ 85 ∷ 0 ∷ 0 ∷ constraint ∷ 0 ∷ 0 ∷ 0 ∷ 0 ∷ count ∷ []) 2 (two_bytes size)
    → b ≡ put a 5 (four_bytes scope) → b ≡ tu_head size constraint scope count
unfolding put two_bytes four_bytes
head-made size constraint scope count a b e f = f ∙ ap (λ (z : Bytes). put z 5 (four_bytes scope)) e ∙ refl

-- ---- the keys of cells

pub keys-count : (n : ℕ) (cells : Bytes) → length (first_keys n cells) ≡ n
unfolding first_keys
keys-count zero cells = refl
keys-count (suc n) cells = ap suc (keys-count n (drop 128 cells))

keys-suc : (n : ℕ) (cells : Bytes) → first_keys (suc n) cells ≡ first_keys n cells ++ (key_of (cell_at cells (128 * n)) ∷ [])
unfolding first_keys cell_at
keys-suc zero cells = refl
keys-suc (suc n) cells =
    let e : 128 + 128 * n ≡ 128 * suc n = omega arith in
    ap (λ (l : List Text). key_of (cell_for (take 128 cells)) ∷ l)
    (keys-suc n (drop 128 cells)
    ∙ ap (λ (x : Bytes). first_keys n (drop 128 cells) ++ (key_of (cell_for (take 128 x)) ∷ []))
    (drop-drop (128 * n) 128 cells ∙ ap (λ (k : ℕ). drop k cells) e))

pub key-short : (xs : Bytes) → length (key_of (cell_for xs)) ≤ 126
key-short xs = for-fit xs

-- so no TU is longer than its array
pub keys-short : (n : ℕ) (cells : Bytes) → length (put_texts (first_keys n cells)) ≤ 128 * n
unfolding first_keys put_texts flat_map
keys-short zero cells = omega arith
keys-short (suc n) cells =
    let k = key_of (cell_for (take 128 cells)) in
    omega (
      arith,
      length-append (put_text k) (put_texts (first_keys n (drop 128 cells))),
      text-length k,
      key-short (take 128 cells),
      keys-short n (drop 128 cells),
    )

texts-snoc : (ks : List Text) (k : Text) → put_texts (ks ++ (k ∷ [])) ≡ put_texts ks ++ put_text k
unfolding put_texts flat_map
texts-snoc ks k = flat_map-append put_text ks (k ∷ []) ∙ ap (λ (l : Bytes). put_texts ks ++ l) (append-nil (put_text k))

-- ---- what `append_key` adds

pub key-at-short : (cells : Bytes) (place : ℕ) (key : Text) → key ≡ key_of (cell_at cells place) → length key ≤ 126
unfolding cell_at
key-at-short cells place key e = rw e (key-short (take 128 (drop place cells)))

module _ (d : Bytes) (used : ℕ) (cells : Bytes) (place : ℕ) (key : Text) (e : key ≡ key_of (cell_at cells place)) where
  pub key-not : length d < used + 2 + length key → Appended d used (put_text (key_of (cell_at cells place))) used d
  key-not h = rw (← e) (text-not d used key h)

  pub key-appended : (m : Bytes) (next : ℕ) (after : Bytes) → used + 2 + length key ≤ length d → m ≡ put d used (two_bytes (length key))
      → Appended m (used + 2) key next after → Appended d used (put_text (key_of (cell_at cells place))) next after
  key-appended m next after h w b = rw (← e) (text-appended d used key (length key) m next after h refl w b)

-- ---- the walk of `make_tuple`: the keys of i cells are there

-- the array as it is made
unfoldable pub blank : Bytes
blank = replicate 522 0

blank-size : length blank ≡ 522
unfolding blank
blank-size = refl

pub record Putting (cells : Bytes) (count : ℕ) (d : Bytes) (used i : ℕ) : Type 0 where
  pub few : count ≤ 4
  pub passed : i ≤ count
  pub there : Appended blank 10 (put_texts (first_keys i cells)) used d

module _ (cells : Bytes) (count : ℕ) where
  pub put_first : count ≤ 4 → Putting cells count blank 10 0
  unfolding first_keys put_texts flat_map
  put_first f = record { few = f; passed = omega arith; there = nothing-appended blank 10 }

  pub put_on : (d : Bytes) (used i next : ℕ) (after : Bytes) → Putting cells count d used i → i < count
      → Appended d used (put_text (key_of (cell_at cells (128 * i)))) next after → Putting cells count after next (i + 1)
  put_on d used i next after p h a =
      let ks = first_keys i cells in
      let key = key_of (cell_at cells (128 * i)) in
      let n : first_keys (i + 1) cells ≡ ks ++ (key ∷ []) = rw add-one (keys-suc i cells) in
      let t : put_texts (first_keys (i + 1) cells) ≡ put_texts ks ++ put_text key = ap put_texts n ∙ texts-snoc ks key in
      let s : length (put_texts ks) + length (put_text key) ≡ length (put_texts (first_keys (i + 1) cells)) = sym (ap length t ∙ length-append (put_texts ks) (put_text key)) in
      let b = keys-short (i + 1) cells in
      let f = p.few in
      let r = blank-size in
      record {
        few = p.few;
        passed = omega arith;
        there = rw t (appended_then blank 10 (put_texts ks) (put_text key) used next d after p.there a (omega arith));
      }

  -- the array keeps its length, and what is used is within it
  pub put-size : (d : Bytes) (used i : ℕ) → Putting cells count d used i → (length d ≡ 522) × (10 ≤ used) × (used ≤ 522)
  put-size d used i p =
      let b = keys-short i cells in
      let f = p.few in
      let q = p.passed in
      let r = blank-size in
      let u = fits_next blank 10 (put_texts (first_keys i cells)) used d p.there (omega arith) in
      let s = same_size blank 10 (put_texts (first_keys i cells)) used d p.there (omega arith) in
      (omega arith, omega arith, omega arith)

  pub put-end : (d : Bytes) (used i fields : ℕ) → Putting cells count d used i → count ≤ i → count ≡ min 4 fields
      → Appended blank 10 (put_texts (keys_in fields cells)) used d
  unfolding keys_in
  put-end d used i fields p h e =
      let q = p.passed in
      let n : i ≡ min 4 fields = omega arith in
      rw (← n) p.there

-- ---- the whole TU

pub tu-length : (c s : ℕ) (ks : List Text) → length (tu_bytes c s ks) ≡ 10 + length (put_texts ks)
unfolding tu_bytes tail_bytes two_bytes four_bytes
tu-length c s ks = omega arith

head-length : (n c s k : ℕ) → length (tu_head n c s k) ≡ 10
unfolding two_bytes four_bytes
head-length n c s k = refl

head-then : (c s : ℕ) (ks : List Text) → tu_head (6 + length (put_texts ks)) c s (length ks) ++ put_texts ks ≡ tu_bytes c s ks
unfolding tu_bytes tail_bytes two_bytes four_bytes
head-then c s ks = refl

-- the head in front of what stands from byte 10 on
head-put : (z x d h : Bytes) → length h ≡ 10 → 10 + length x ≤ length z → d ≡ put z 10 x → take (10 + length x) (put d 0 h) ≡ h ++ x
head-put z x d h k r e =
    let o : d ≡ over z 10 x = e ∙ put-fits z 10 x r in
    let l : length d ≡ length z = ap length e ∙ length-put z 10 x in
    let p : put d 0 h ≡ h ++ drop (0 + length h) d = put-fits d 0 h (omega arith) in
    let n : 0 + length h ≡ 10 = omega arith in
    let q : drop 10 d ≡ x ++ drop (10 + length x) z = ap (drop 10) o ∙ drop_at (take 10 z) (x ++ drop (10 + length x) z) 10 (length-take-le 10 z (omega arith)) in
    let w : put d 0 h ≡ (h ++ x) ++ drop (10 + length x) z =
    p ∙ ap (λ (i : ℕ). h ++ drop i d) n ∙ ap (λ (y : Bytes). h ++ y) q ∙ sym (append_assoc h x (drop (10 + length x) z)) in
    ap (take (10 + length x)) w ∙ take_at (h ++ x) (drop (10 + length x) z) (10 + length x) (let a = length-append h x in omega arith)

module _ (cells : Bytes) (fields : ℕ) where
  pub keys-number : length (keys_in fields cells) ≡ min 4 fields
  unfolding keys_in
  keys-number = keys-count (min 4 fields) cells

  pub keys-room : length (put_texts (keys_in fields cells)) ≤ 512
  unfolding keys_in
  keys-room = omega (arith, keys-short (min 4 fields) cells)

  module _ (d : Bytes) (size : ℕ) (a : Appended blank 10 (put_texts (keys_in fields cells)) size d) where
    made-size : size ≡ 10 + length (put_texts (keys_in fields cells))
    made-size = fits_next blank 10 (put_texts (keys_in fields cells)) size d a (let r = keys-room in let h = blank-size in omega arith)

    pub made : (c s count : ℕ) (b : Bytes) → count ≡ min 4 fields → b ≡ put d 0 (tu_head (size - 4) c s count)
        → MadeOf c s (keys_in fields cells) (record { bytes = b; size = size })
    made c s count b n e =
        let ks = keys_in fields cells in
        let r = keys-room in
        let m = made-size in
        let h = blank-size in
        let i : size - 4 ≡ 6 + length (put_texts ks) = omega arith in
        let k : count ≡ length ks = n ∙ sym keys-number in
        let w : b ≡ put d 0 (tu_head (6 + length (put_texts ks)) c s (length ks)) =
        e ∙ ap (λ (j : ℕ). put d 0 (tu_head j c s count)) i ∙ ap (λ (j : ℕ). put d 0 (tu_head (6 + length (put_texts ks)) c s j)) k in
        record {
          holds =
              ap (λ (j : ℕ). take j b) m
              ∙ ap (take (10 + length (put_texts ks))) w
              ∙ head-put blank (put_texts ks) d (tu_head (6 + length (put_texts ks)) c s (length ks)) (head-length (6 + length (put_texts ks)) c s (length ks)) (omega arith) a.leaves
              ∙ head-then c s ks;
          sized = m ∙ sym (tu-length c s ks);
          short = omega arith;
        }
