-- Scopes come back from their bytes, and bytes from their scopes, record by record; what stands behind the sixteen is not touched.
-- Assumes nothing.
use Prim.Native.Nat.{ℕ, zero, suc, ◌+◌, ◌*◌, ◌≤◌, ◌<◌}
use native.Mathlib.Omega.{arith}
use borrow.Author.Tests.{leb-true, leb-false}
use lib.Dec.{leb}
use lib.ListN.{length, get_or, take, drop, length-append, length-drop}
use lib.Seq.{get_or-drop, drop-drop, take-add}
use mathlib.Core.Path.{◌≡◌, refl, ap, sym, ◌∙◌}
use mathlib.Core.Bool.{Bool, true, false}
use mathlib.Core.List.{List, [], ◌∷◌, ◌++◌, flat_map, append_assoc}
use Rattle.lists.specs.Lists.{over, put}
use Rattle.lists.proofs.Writes.{put-fits, put_full, over-part, drop-over}
use Rattle.numbers.specs.Numbers.{four, two_bytes, four_bytes}
use Rattle.numbers.proofs.RoundTrip.{four-back, four-append, four-drop, four-there}
use Rattle.records.specs.Readers.{Bytes}
use Rattle.open_scopes.specs.declared.Scope.{Scope}
use Rattle.scope_bytes.specs.ScopeBytes.{scope_at, scopes_from, scopes_in, scope_bytes}

-- ---- widths

pub record-width : (s : Scope) → length (scope_bytes s) ≡ 12
unfolding scope_bytes four_bytes two_bytes
record-width s = refl

pub all-width : (list : List Scope) → length (flat_map scope_bytes list) ≡ 12 * length list
unfolding flat_map
all-width [] = refl
all-width (s ∷ list) = length-append (scope_bytes s) (flat_map scope_bytes list) ∙ rw (record-width s, all-width list) (omega arith)

pub so-many : (n : ℕ) (bytes : Bytes) → length (scopes_from n bytes) ≡ n
unfolding scopes_from
so-many zero bytes = refl
so-many (suc n) bytes = ap suc (so-many n (drop 12 bytes))

pub sixteen : (bytes : Bytes) → length (scopes_in bytes) ≡ 16
unfolding scopes_in
sixteen bytes = so-many 16 bytes

-- ---- loaded and stored back

bytes-behind : (k : ℕ) (bytes : Bytes) → ((i : ℕ) → get_or bytes i 0 < 256) → (i : ℕ) → get_or (drop k bytes) i 0 < 256
bytes-behind k bytes small i = rw (get_or-drop k bytes i 0) (small (k + i))

record-there : (bytes : Bytes) → 12 ≤ length bytes → ((i : ℕ) → get_or bytes i 0 < 256) → scope_bytes (scope_at bytes 0) ≡ take 12 bytes
unfolding scope_bytes scope_at
record-there bytes h small =
    rw (four-there bytes small 0 (omega arith), four-there bytes small 4 (omega arith), four-there bytes small 8 (omega arith))
    (sym (take-add 4 8 bytes ∙ ap (λ (z : Bytes). take 4 bytes ++ z) (take-add 4 4 (drop 4 bytes) ∙ rw (drop-drop 4 4 bytes))))

records-there : (n : ℕ) (bytes : Bytes) → 12 * n ≤ length bytes → ((i : ℕ) → get_or bytes i 0 < 256) → flat_map scope_bytes (scopes_from n bytes) ≡ take (12 * n) bytes
unfolding scopes_from flat_map
records-there zero bytes h small = refl
records-there (suc n) bytes h small =
    let e : 12 * suc n ≡ 12 + 12 * n = omega arith in
    let k : 12 * n ≤ length (drop 12 bytes) = rw (length-drop 12 bytes) (omega arith) in
    rw (record-there bytes (omega arith) small, records-there n (drop 12 bytes) k (bytes-behind 12 bytes small), e) (sym (take-add 12 (12 * n) bytes))

-- THE BYTES stay as they were
pub stored-again : (bytes : Bytes) → 192 ≤ length bytes → ((i : ℕ) → get_or bytes i 0 < 256) → put bytes 0 (flat_map scope_bytes (scopes_in bytes)) ≡ bytes
unfolding scopes_in
stored-again bytes h small =
    let w = all-width (scopes_from 16 bytes) in
    let n = so-many 16 bytes in
    put-fits bytes 0 (flat_map scope_bytes (scopes_from 16 bytes)) (omega arith)
    ∙ ap (λ (z : Bytes). over bytes 0 z) (records-there 16 bytes h small)
    ∙ over-part bytes 0 192 h

-- ---- stored and loaded back

-- the number at the front, and after four bytes
number-first : (n : ℕ) (rest : Bytes) → four (four_bytes n ++ rest) 0 ≡ n
unfolding four_bytes two_bytes
number-first n rest = four-append (four_bytes n) rest 0 (omega arith) ∙ four-back n

number-next : (n : ℕ) (rest : Bytes) (at : ℕ) → four (four_bytes n ++ rest) (4 + at) ≡ four rest at
unfolding four_bytes two_bytes
number-next n rest at = sym (four-drop 4 (four_bytes n ++ rest) at)

module _ (s : Scope) (rest : Bytes) where
  record-parts : scope_bytes s ++ rest ≡ four_bytes s.constraint ++ (four_bytes s.number ++ (four_bytes s.depth ++ rest))
  unfolding scope_bytes four_bytes two_bytes
  record-parts = refl

  record-back : scope_at (scope_bytes s ++ rest) 0 ≡ s
  unfolding scope_at
  record-back =
      let n : Bytes = four_bytes s.number ++ (four_bytes s.depth ++ rest) in
      let d : Bytes = four_bytes s.depth ++ rest in
      let one : four (four_bytes s.constraint ++ n) 0 ≡ s.constraint = number-first s.constraint n in
      let two : four (four_bytes s.constraint ++ n) 4 ≡ s.number = number-next s.constraint n 0 ∙ number-first s.number d in
      let three : four (four_bytes s.constraint ++ n) 8 ≡ s.depth =
      number-next s.constraint n 4 ∙ number-next s.number d 0 ∙ number-first s.depth rest in
      ap (λ (z : Bytes). scope_at z 0) record-parts ∙ (λ i. record { constraint = one i; number = two i; depth = three i })

  behind-record : drop 12 (scope_bytes s ++ rest) ≡ rest
  unfolding scope_bytes four_bytes two_bytes
  behind-record = refl

records-back : (list : List Scope) (rest : Bytes) → scopes_from (length list) (flat_map scope_bytes list ++ rest) ≡ list
unfolding scopes_from flat_map
records-back [] rest = refl
records-back (s ∷ list) rest =
    let more : Bytes = flat_map scope_bytes list ++ rest in
    ap (scopes_from (suc (length list))) (append_assoc (scope_bytes s) (flat_map scope_bytes list) rest)
    ∙ rw (record-back s more, behind-record s more, records-back list rest)

-- THE SCOPES come back
pub loaded-again : (bytes : Bytes) (list : List Scope) → length list ≡ 16 → 192 ≤ length bytes → scopes_in (put bytes 0 (flat_map scope_bytes list)) ≡ list
unfolding scopes_in
loaded-again bytes list n h =
    let w = all-width list in
    let vs : Bytes = flat_map scope_bytes list in
    ap (scopes_from 16) (put-fits bytes 0 vs (omega arith))
    ∙ ap (λ (k : ℕ). scopes_from k (over bytes 0 vs)) (sym n)
    ∙ records-back list (drop (0 + length vs) bytes)

-- ---- what is not touched

-- behind the 192 bytes
pub behind-kept : (bytes : Bytes) (list : List Scope) → length list ≡ 16 → drop 192 (put bytes 0 (flat_map scope_bytes list)) ≡ drop 192 bytes
behind-kept bytes list n = by (leb 192 (length bytes)) refl
  where
    vs : Bytes
    vs = flat_map scope_bytes list

    width : length vs ≡ 192
    width = all-width list ∙ rw n

    by : (b : Bool) → leb 192 (length bytes) ≡ b → drop 192 (put bytes 0 vs) ≡ drop 192 bytes
    by true e =
        let h : 192 ≤ length bytes = leb-true 192 (length bytes) e in
        ap (drop 192) (put-fits bytes 0 vs (omega (arith, width))) ∙ drop-over bytes 0 vs 192 (omega arith) (omega (arith, width))
    by false e =
        let h : length bytes < 192 = leb-false 192 (length bytes) e in
        ap (drop 192) (put_full bytes 0 vs (omega (arith, width)))

-- with fewer bytes than that, nothing at all changes
pub none-stored : (bytes : Bytes) (list : List Scope) → length list ≡ 16 → length bytes < 192 → put bytes 0 (flat_map scope_bytes list) ≡ bytes
none-stored bytes list n h =
    let w = all-width list in
    put_full bytes 0 (flat_map scope_bytes list) (omega arith)
