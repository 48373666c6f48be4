-- Scopes pushed one after the other stand behind the open ones, in their order, while there are places: by induction on the new ones. A turn of the loop
-- that pushes those of a set adds the next one, if it is in the set, with the next number.
-- Assumes nothing.
use Prim.Native.Nat.{ℕ, suc, ◌+◌, ◌≤◌, ◌<◌, min}
use native.Mathlib.Nat.{add-zero}
use native.Mathlib.Omega.{arith}
use native.Mathlib.Numerals.{add-one}
use lib.ListN.{length, take, get_or}
use lib.Seq.{length-take-le, take_all}
use mathlib.Core.Path.{◌≡◌, refl, ap, ap₂, sym, ◌∙◌}
use mathlib.Core.Bool.{Bool, true, false, cond, false≢true}
use mathlib.Core.List.{List, [], ◌∷◌, ◌++◌, map, append-nil, append_assoc}
use Rattle.std.proofs.lemmas.List.Sums.{fold-append}
use Rattle.lists.specs.Lists.{only_if, foldl, over}
use Rattle.lists.proofs.Places.{over_nothing}
use Rattle.lists.proofs.Writes.{length_over, over-then}
use Rattle.session_spec.specs.Layout.{ScopeRecord}
use Rattle.output_stores.specs.Stores.{in_mask}
use Rattle.open_scopes.specs.declared.Scope.{Scope}
use Rattle.open_scopes.specs.declared.Scopes.{Scopes}
use Rattle.open_scopes.specs.OpenScopes.{record_of, open_of, records_of, pushed}
use Rattle.open_scopes.proofs.Places.{push-room, open_pushed, records-pushed, list_pushed}
use Rattle.start_places.specs.StartPass.{marked}
use Rattle.start_writes.specs.Writes.{new_scope, new_scopes, PushedBy}
use Rattle.start_writes.proofs.Sets.{length_marked, up_to, count-up-to}

-- ---- many behind the open ones

-- what pushing `xs` leaves
pub record Pushes (ss : Scopes) (xs : List Scope) (after : Scopes) : Type 0 where
  pub opens : open_of after ≡ open_of ss ++ xs
  pub records : records_of after ≡ records_of ss ++ map record_of xs
  pub lists : after.list ≡ over ss.list ss.n xs
  pub counts : after.n ≡ ss.n + length xs

pub pushed_open : (ss : Scopes) (xs : List Scope) → ss.n + length xs ≤ 16 → length ss.list ≡ 16 → Pushes ss xs (foldl pushed ss xs)
pushed_open ss [] h w =
    record {
      opens = sym (append-nil (open_of ss));
      records = sym (append-nil (records_of ss));
      lists = sym (over_nothing ss.list ss.n);
      counts = sym (add-zero ss.n);
    }
pushed_open ss (x ∷ xs) h w =
    let room : ss.n < 16 = omega arith in
    let l : (pushed ss x).list ≡ over ss.list ss.n (x ∷ []) = list_pushed ss x w room in
    let n : (pushed ss x).n ≡ ss.n + 1 = ap (λ (z : Scopes). z.n) (sym (push-room ss x room)) in
    let v : length (pushed ss x).list ≡ 16 = ap length l ∙ length_over ss.list ss.n (x ∷ []) (omega arith) ∙ w in
    let r = pushed_open (pushed ss x) xs (omega arith) v in
    record {
      opens = r.opens ∙ ap (λ (z : List Scope). z ++ xs) (open_pushed ss x w room) ∙ append_assoc (open_of ss) (x ∷ []) xs;
      records =
          r.records
          ∙ ap (λ (z : List ScopeRecord). z ++ map record_of xs) (records-pushed ss x w room)
          ∙ append_assoc (records_of ss) (record_of x ∷ []) (map record_of xs);
      lists =
          r.lists
          ∙ ap₂ (λ (z : List Scope) (k : ℕ). over z k xs) l n
          ∙ over-then ss.list ss.n (ss.n + 1) (x ∷ []) xs refl (omega arith);
      counts = r.counts ∙ omega arith;
    }

-- ---- the new ones

pub length-new_scopes : (n d : ℕ) (cs : List ℕ) → length (new_scopes n d cs) ≡ length cs
unfolding new_scopes
length-new_scopes n d [] = refl
length-new_scopes n d (c ∷ cs) = ap suc (length-new_scopes (suc n) d cs)

pub new_scopes-append : (n d : ℕ) (xs ys : List ℕ) → new_scopes n d (xs ++ ys) ≡ new_scopes n d xs ++ new_scopes (n + length xs) d ys
unfolding new_scopes
new_scopes-append n d [] ys = ap (λ (k : ℕ). new_scopes k d ys) (sym (add-zero n))
new_scopes-append n d (x ∷ xs) ys =
    let e : suc n + length xs ≡ n + suc (length xs) = omega arith in
    ap (λ (z : List Scope). new_scope x (suc n) d ∷ z)
    (new_scopes-append (suc n) d xs ys ∙ ap (λ (k : ℕ). new_scopes (suc n) d xs ++ new_scopes k d ys) e)

-- at most one
new-one : (b : Bool) (n next c d : ℕ) → next ≡ n + cond b 1 0 → new_scopes n d (only_if b (c ∷ [])) ≡ only_if b (new_scope c next d ∷ [])
unfolding new_scopes only_if
new-one true n next c d e = ap (λ (k : ℕ). new_scope c k d ∷ []) (sym (e ∙ add-one n))
new-one false n next c d e = refl

-- ---- the loop

-- in a turn: where the set has no such place, and where it has one
module _ (held after : Scopes) (b : Bool) (last next c depth : ℕ) where
  pub not-pushed : b ≡ false → after ≡ held → after ≡ foldl pushed held (only_if b (new_scope c next depth ∷ []))
  not-pushed e q = q ∙ none b e
    where
      none : (b : Bool) → b ≡ false → held ≡ foldl pushed held (only_if b (new_scope c next depth ∷ []))
      none true e = absurd (false≢true (sym e))
      none false e = unfold only_if in refl

  pub one-pushed : (d number : ℕ) → b ≡ true → next ≡ number → d ≡ c → after ≡ pushed held (new_scope d number depth) → after ≡ foldl pushed held (only_if b (new_scope c next depth ∷ []))
  one-pushed d number e q k p = p ∙ rw (k, ← q) (some b e)
    where
      some : (b : Bool) → b ≡ true → pushed held (new_scope c next depth) ≡ foldl pushed held (only_if b (new_scope c next depth ∷ []))
      some true e = unfold only_if in refl
      some false e = absurd (false≢true e)

  pub not-counted : b ≡ false → next ≡ last → last < 4294967295 → next ≡ last + cond b 1 0
  not-counted e q h = rw e (q ∙ sym (add-zero last))

  pub counted : b ≡ true → (last < 4294967295 → next ≡ last + 1) → last < 4294967295 → next ≡ last + cond b 1 0
  counted e q h = rw e (q h)

-- the number of the latest scope, up to a place
abbrev pub LastNumber : (numbers : List ℕ) → (mask opened last : ℕ) → Type 0
LastNumber numbers mask opened last = opened ≤ 4000000000 → last ≡ opened + length (marked mask 0 numbers)

module _ (numbers : List ℕ) (mask j : ℕ) (b : Bool) (h : j < length numbers) (e : b ≡ in_mask mask j) (ss : Scopes) (opened depth last next : ℕ)
    (l : last ≡ opened + length (marked mask 0 (take j numbers))) (n : next ≡ last + cond b 1 0) where
  -- the new ones up to the place
  new-up-to : new_scopes opened depth (marked mask 0 (take (j + 1) numbers))
      ≡ new_scopes opened depth (marked mask 0 (take j numbers)) ++ only_if b (new_scope (get_or numbers j 0) next depth ∷ [])
  new-up-to =
      let front = marked mask 0 (take j numbers) in
      let one = only_if b (get_or numbers j 0 ∷ []) in
      ap (new_scopes opened depth) (up_to mask numbers j 0 b h e)
      ∙ new_scopes-append opened depth front one
      ∙ ap (λ (k : ℕ). new_scopes opened depth front ++ new_scopes k depth one) (sym l)
      ∙ ap (λ (z : List Scope). new_scopes opened depth front ++ z) (new-one b last next (get_or numbers j 0) depth n)

  push-next : foldl pushed (foldl pushed ss (new_scopes opened depth (marked mask 0 (take j numbers)))) (only_if b (new_scope (get_or numbers j 0) next depth ∷ []))
      ≡ foldl pushed ss (new_scopes opened depth (marked mask 0 (take (j + 1) numbers)))
  push-next =
      sym (fold-append pushed ss (new_scopes opened depth (marked mask 0 (take j numbers))) (only_if b (new_scope (get_or numbers j 0) next depth ∷ [])))
      ∙ ap (foldl pushed ss) (sym new-up-to)

pub none-pushed : (ss : Scopes) (numbers : List ℕ) (mask opened depth : ℕ) → PushedBy ss (take 0 numbers) mask opened depth ss
unfolding marked new_scopes
none-pushed ss numbers mask opened depth o w = refl

pub none-numbered : (numbers : List ℕ) (mask opened : ℕ) → LastNumber (take 0 numbers) mask opened opened
unfolding marked
none-numbered numbers mask opened o = sym (add-zero opened)

module _ (ss held after : Scopes) (numbers : List ℕ) (mask opened depth last next j : ℕ) (b : Bool) (h : j < length numbers) (g : j < 32)
    (e : b ≡ in_mask mask j) (l : LastNumber (take j numbers) mask opened last) (n : last < 4294967295 → next ≡ last + cond b 1 0) where
  few : length (take j numbers) ≡ j
  few = length-take-le j numbers (omega arith)

  below : opened ≤ 4000000000 → last < 4294967295
  below o = omega (arith, l o, length_marked mask 0 (take j numbers), few)

  pub push-turn : PushedBy ss (take j numbers) mask opened depth held
      → after ≡ foldl pushed held (only_if b (new_scope (get_or numbers j 0) next depth ∷ []))
      → LastNumber (take (j + 1) numbers) mask opened next × PushedBy ss (take (j + 1) numbers) mask opened depth after
  push-turn p q = (number, scopes)
    where
      number : LastNumber (take (j + 1) numbers) mask opened next
      number o = omega (arith, n (below o), l o, count-up-to mask numbers j 0 b h e)

      scopes : PushedBy ss (take (j + 1) numbers) mask opened depth after
      scopes o w =
          q
          ∙ ap (λ (z : Scopes). foldl pushed z (only_if b (new_scope (get_or numbers j 0) next depth ∷ []))) (p o (omega (arith, few)))
          ∙ push-next numbers mask j b h e ss opened depth last next (l o) (n (below o))
