-- The first places of a list of sixteen: how many they are and which, with one more. All from laws of `take`, `set`
-- and `map`.
-- Assumes nothing.
use Prim.Native.Nat.{ℕ, ◌+◌, ◌≤◌, ◌<◌}
use native.Mathlib.Omega.{arith}
use native.Mathlib.Numerals.{add-one}
use borrow.Author.Tests.{lt-ltb}
use lib.ListN.{length, take, drop, set, length-map, length-take}
use lib.Seq.{take-suc-set, set_split, take-append-le, drop-append-le}
use mathlib.Core.Path.{◌≡◌, ap, sym, ◌∙◌}
use mathlib.Core.List.{List, [], ◌∷◌, ◌++◌, map, map-append, append_assoc}
use Rattle.std.proofs.lemmas.List.{take-map, drop-map}
use Rattle.lists.specs.Lists.{over}
use Rattle.machine.specs.Machine.{OpenScope}
use Rattle.session_spec.specs.Layout.{ScopeRecord, put_scope}
use Rattle.open_scopes.specs.declared.Scope.{Scope}
use Rattle.open_scopes.specs.declared.Scopes.{Scopes}
use Rattle.open_scopes.specs.OpenScopes.{record_of, open_of, records_of, pushed}

abbrev pub scopes_with : List Scope → ℕ → Scopes
scopes_with l n = record { list = l; n = n }

-- ---- how many

-- there are sixteen places
pub few-open : (ss : Scopes) → length ss.list ≡ 16 → length (open_of ss) ≤ 16
unfolding open_of
few-open ss w = omega (arith, length-take ss.n ss.list)

-- as many as there are scopes whose records they are
pub as_many : (ss : Scopes) (os : List OpenScope) → records_of ss ≡ map put_scope os → length (open_of ss) ≡ length os
unfolding records_of
as_many ss os e = sym (length-map (open_of ss) record_of) ∙ ap length e ∙ length-map os put_scope

-- ---- one more

pub push-room : (ss : Scopes) (s : Scope) → ss.n < 16 → scopes_with (set ss.list ss.n s) (ss.n + 1) ≡ pushed ss s
unfolding pushed
push-room ss s h = rw (lt-ltb ss.n 16 h)

-- THE OPEN ONES, and the new one behind them
pub open_pushed : (ss : Scopes) (s : Scope) → length ss.list ≡ 16 → ss.n < 16 → open_of (pushed ss s) ≡ open_of ss ++ (s ∷ [])
unfolding open_of
open_pushed ss s w h =
    ap open_of (sym (push-room ss s h))
    ∙ ap (λ (k : ℕ). take k (set ss.list ss.n s)) (add-one ss.n)
    ∙ take-suc-set ss.list ss.n s (omega arith)

pub records-pushed : (ss : Scopes) (s : Scope) → length ss.list ≡ 16 → ss.n < 16 → records_of (pushed ss s) ≡ records_of ss ++ (record_of s ∷ [])
unfolding records_of
records-pushed ss s w h = ap (map record_of) (open_pushed ss s w h) ∙ map-append record_of (open_of ss) (s ∷ [])

-- the whole list, as the session definition writes it
pub list_pushed : (ss : Scopes) (s : Scope) → length ss.list ≡ 16 → ss.n < 16 → (pushed ss s).list ≡ over ss.list ss.n (s ∷ [])
list_pushed ss s w h =
    ap (λ (z : Scopes). z.list) (sym (push-room ss s h)) ∙ rw (add-one ss.n) (set_split ss.list ss.n s (omega arith))

-- ---- the area that the list is the front of

pub open-in-area : (ss : Scopes) (rest : List ScopeRecord) → ss.n ≤ length ss.list → take ss.n (map record_of ss.list ++ rest) ≡ records_of ss
unfolding records_of open_of
open-in-area ss rest h =
    take-append-le ss.n (map record_of ss.list) rest (rw (length-map ss.list record_of) h) ∙ take-map record_of ss.n ss.list

over-records : (l : List Scope) (n : ℕ) (s : Scope) → map record_of (over l n (s ∷ [])) ≡ over (map record_of l) n (record_of s ∷ [])
over-records l n s =
    map-append record_of (take n l) (s ∷ drop (n + 1) l) ∙ rw (take-map record_of n l, drop-map record_of (n + 1) l)

over-front : (l rest : List ScopeRecord) (n : ℕ) (r : ScopeRecord) → n < length l → over (l ++ rest) n (r ∷ []) ≡ over l n (r ∷ []) ++ rest
over-front l rest n r h =
    rw (take-append-le n l rest (omega arith), drop-append-le (n + 1) l rest (omega arith)) (sym (append_assoc (take n l) (r ∷ drop (n + 1) l) rest))

-- one more scope in the list is its record written behind the open ones
pub area-pushed : (ss : Scopes) (s : Scope) (rest : List ScopeRecord) → length ss.list ≡ 16 → ss.n < 16
    → map record_of (pushed ss s).list ++ rest ≡ over (map record_of ss.list ++ rest) ss.n (record_of s ∷ [])
area-pushed ss s rest w h =
    let m : length (map record_of ss.list) ≡ length ss.list = length-map ss.list record_of in
    ap (λ (z : List Scope). map record_of z ++ rest) (list_pushed ss s w h)
    ∙ ap (λ (z : List ScopeRecord). z ++ rest) (over-records ss.list ss.n s)
    ∙ sym (over-front (map record_of ss.list) rest ss.n (record_of s) (omega arith))
