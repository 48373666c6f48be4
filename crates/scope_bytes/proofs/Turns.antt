-- One more record loaded or stored: the first i + 1 are the first i and the one at 12 · i.
-- Assumes nothing.
use Prim.Native.Nat.{ℕ, zero, suc, ◌+◌, ◌*◌, ◌≤◌, ◌<◌}
use native.Mathlib.Nat.{add_assoc}
use native.Mathlib.Numerals.{add-one}
use native.Mathlib.Omega.{arith}
use denote.Param.Members.{Mut}
use lib.ListN.{length, get_or, take, drop, drop_of_length-le}
use lib.Seq.{length-take-le, take-suc, take_all, drop-drop}
use mathlib.Core.Path.{◌≡◌, refl, ap, sym, subst, ◌∙◌}
use mathlib.Core.List.{List, [], ◌∷◌, ◌++◌, flat_map, append-nil}
use Rattle.std.proofs.lemmas.List.{drop_more}
use Rattle.std.specs.Array.{IsFromFnResult, IsFromFnResultFrom}
use Rattle.std.specs.Fn.{Called}
use Rattle.lists.specs.Lists.{put}
use Rattle.lists.proofs.Lists.{flat_map-append}
use Rattle.lists.proofs.Writes.{put-fits, put_then, length-put}
use Rattle.numbers.specs.Numbers.{two_bytes, four_bytes}
use Rattle.numbers.proofs.RoundTrip.{four-drop}
use Rattle.records.specs.Readers.{Bytes}
use Rattle.open_scopes.specs.declared.Scope.{Scope}
use Rattle.open_scopes.specs.OpenScopes.{blank_scope}
use Rattle.scope_bytes.specs.ScopeBytes.{scope_at, scopes_from, scopes_in, scope_bytes}
use Rattle.scope_bytes.proofs.ScopeBytes.{record-width, all-width}

-- ---- loaded

scope-drop : (k : ℕ) (bytes : Bytes) (at : ℕ) → scope_at (drop k bytes) at ≡ scope_at bytes (k + at)
unfolding scope_at
scope-drop k bytes at =
    rw (four-drop k bytes at, four-drop k bytes (at + 4), four-drop k bytes (at + 8), add_assoc k at 4, add_assoc k at 8)

-- the scopes that calls gave, at each number in turn
module _ {F : Type 0} (g : Mut F (ℕ × Unit {0}) Scope) (f : F) (bytes : Bytes) (list : List Scope)
    (each : (i : ℕ) (s : Scope) (q : F) → Called g f (i, tt) s q → (q ≡ f) × (s ≡ scope_at bytes (12 * i))) where
  made-from : (i n : ℕ) → length list ≡ i + n → IsFromFnResultFrom g f list i n → drop i list ≡ scopes_from n (drop (12 * i) bytes)
  unfolding scopes_from
  made-from i zero h d = drop_of_length-le list {i = i} (omega arith)
  made-from i (suc n) h d =
      let c = each i d.1 d.0 d.3 in
      let m : 12 * (i + 1) ≡ 12 * i + 12 = omega arith in
      let e : 12 * i + 0 ≡ 12 * i = omega arith in
      let rest : drop (i + 1) list ≡ scopes_from n (drop (12 * (i + 1)) bytes) = made-from (i + 1) n (omega arith) (subst (λ q. IsFromFnResultFrom g q list (i + 1) n) c.0 d.4) in
      drop_more list i blank_scope (omega arith)
      ∙ rw (d.2.1 blank_scope ∙ c.1, rest, m, drop-drop 12 (12 * i) bytes, scope-drop (12 * i) bytes 0, e)

  pub made-is : IsFromFnResult g f list 16 → list ≡ scopes_in bytes
  unfolding scopes_in
  made-is d = made-from 0 16 d.long d.each

-- ---- stored

pub store-start : (all : Bytes) (list : List Scope) → all ≡ put all 0 (flat_map scope_bytes (take 0 list))
unfolding flat_map
store-start all list = sym (put-fits all 0 [] (omega arith))

-- three numbers one behind the other are a record
three-numbers : (bytes : Bytes) (at : ℕ) (s : Scope) → at + 12 ≤ length bytes
    → put (put (put bytes at (four_bytes s.constraint)) (at + 4) (four_bytes s.number)) (at + 8) (four_bytes s.depth) ≡ put bytes at (scope_bytes s)
unfolding scope_bytes four_bytes two_bytes
three-numbers bytes at s h =
    let c : Bytes = four_bytes s.constraint in
    let n : Bytes = four_bytes s.number in
    let d : Bytes = four_bytes s.depth in
    ap (λ (z : Bytes). put z (at + 8) d) (put_then bytes at (at + 4) c n refl (omega arith))
    ∙ put_then bytes at (at + 8) (c ++ n) d refl (omega arith)

one-record : (s : Scope) → flat_map scope_bytes (s ∷ []) ≡ scope_bytes s
unfolding flat_map
one-record s = append-nil (scope_bytes s)

-- b1, b2, b3: the bytes after each number of the turn
pub store-turn : (all bytes b1 b2 b3 : Bytes) (list : List Scope) (i : ℕ) (s : Scope) (d : Scope) → length list ≡ 16 → i < 16 → 192 ≤ length all
    → bytes ≡ put all 0 (flat_map scope_bytes (take i list)) → s ≡ get_or list i d
    → b1 ≡ put bytes (12 * i) (four_bytes s.constraint) → b2 ≡ put b1 (12 * i + 4) (four_bytes s.number) → b3 ≡ put b2 (12 * i + 8) (four_bytes s.depth)
    → b3 ≡ put all 0 (flat_map scope_bytes (take (i + 1) list))
store-turn all bytes b1 b2 b3 list i s d n h g e one p q r =
    let vs : Bytes = flat_map scope_bytes (take i list) in
    let w : length vs ≡ 12 * i = all-width (take i list) ∙ ap (λ (k : ℕ). 12 * k) (length-take-le i list (omega arith)) in
    let k : length bytes ≡ length all = ap length e ∙ length-put all 0 vs in
    let m = record-width s in
    let three : b3 ≡ put bytes (12 * i) (scope_bytes s) =
    r
    ∙ ap (λ (z : Bytes). put z (12 * i + 8) (four_bytes s.depth)) (q ∙ ap (λ (z : Bytes). put z (12 * i + 4) (four_bytes s.number)) p)
    ∙ three-numbers bytes (12 * i) s (omega arith) in
    let last : take (i + 1) list ≡ take i list ++ (s ∷ []) =
    rw (add-one i) (take-suc list i d (omega arith) ∙ ap (λ (z : Scope). take i list ++ (z ∷ [])) (sym one)) in
    three
    ∙ ap (λ (z : Bytes). put z (12 * i) (scope_bytes s)) e
    ∙ put_then all 0 (12 * i) vs (scope_bytes s) (omega arith) (omega arith)
    ∙ ap (put all 0) (sym (ap (flat_map scope_bytes) last ∙ flat_map-append scope_bytes (take i list) (s ∷ []) ∙ ap (λ (z : Bytes). vs ++ z) (one-record s)))
