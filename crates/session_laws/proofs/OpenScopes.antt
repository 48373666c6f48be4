-- Open scopes: their numbers rise and their depths do not fall, so each is found at its own place, those that an ES opens come last, and those that
-- close at an EE are the last ones.
-- Assumes nothing.
use Prim.Native.Nat.{ℕ, suc, ◌+◌, ◌≤◌, ◌<◌}
use native.Mathlib.Omega.{arith}
use borrow.Author.Tests.{eqb-true, leb-true, ltb-true, le-leb, lt-ltb, eq-eqb}
use lib.Dec.{eqb, leb, ltb}
use lib.ListN.{length, get_elem?}
use mathlib.Core.Path.{◌≡◌, refl, ap}
use mathlib.Core.Bool.{Bool, true, false, cond, ◌&&◌, not}
use mathlib.Core.List.{List, [], ◌∷◌, ◌++◌, map, flat_map}
use mathlib.Core.Option.{some}
use Rattle.std.proofs.lemmas.Bool.{and_parts}
use Rattle.lists.specs.Lists.{only_if, passing, All}
use Rattle.lists.proofs.Folds.{All-weaken}
use Rattle.lists.proofs.Places.{All-of, All-both, All-passing, All-get_elem}
use Rattle.tree.specs.Events.{Defined, reads, unread, opening, after, openings, opened, scope_of, scopes_of}
use Rattle.tree.specs.Tree.{failed_item}
use Rattle.machine.specs.Machine.{OpenScope, at}
use Rattle.session_spec.specs.Definitions.{Definitions, defined_at}
use Rattle.session_spec.specs.Layout.{ScopeRecord, put_scope, place_of}
use Rattle.session_spec.specs.Session.{rising}
use Rattle.session_laws.proofs.Constraints.{reads_fit, unread-fit}
use Rattle.session_laws.proofs.Outs.{ScopeFit, ItemFit}

-- ---- open scopes: numbers rise, depths do not fall

rising-cons : (n c : ℕ) (s : ScopeRecord) (ss : List ScopeRecord) → n < s.number → c ≤ s.depth → rising s.number s.depth ss ≡ true
    → rising n c (s ∷ ss) ≡ true
unfolding rising
rising-cons n c s ss h k r = rw (lt-ltb n s.number h, le-leb c s.depth k) r

pub record Rise (n c : ℕ) (s : ScopeRecord) (ss : List ScopeRecord) : Type 0 where
  pub number : n < s.number
  pub depth : c ≤ s.depth
  pub rest : rising s.number s.depth ss ≡ true

pub rising-uncons : (n c : ℕ) (s : ScopeRecord) (ss : List ScopeRecord) → rising n c (s ∷ ss) ≡ true → Rise n c s ss
unfolding rising
rising-uncons n c s ss h =
    let p = and_parts (ltb n s.number && leb c s.depth) (rising s.number s.depth ss) h in
    let q = and_parts (ltb n s.number) (leb c s.depth) p.0 in
    record { number = ltb-true n s.number q.0; depth = leb-true c s.depth q.1; rest = p.1 }

rising-weaken : (n m c e : ℕ) (ss : List ScopeRecord) → n ≤ m → c ≤ e → rising m e ss ≡ true → rising n c ss ≡ true
rising-weaken n m c e [] h k r = unfold rising in refl
rising-weaken n m c e (s ∷ ss) h k r =
    let u = rising-uncons m e s ss r in
    rising-cons n c s ss (omega (arith, u.number)) (omega (arith, u.depth)) u.rest

abbrev pub UpTo : ℕ → ℕ → ScopeRecord → Type 0
UpTo n c s = (s.number ≤ n) × (s.depth ≤ c)

pub rising-append : (n m c e : ℕ) (xs ys : List ScopeRecord) → n ≤ m → c ≤ e → All (UpTo m e) xs → rising n c xs ≡ true → rising m e ys ≡ true
    → rising n c (xs ++ ys) ≡ true
rising-append n m c e [] ys h k a r q = rising-weaken n m c e ys h k q
rising-append n m c e (x ∷ xs) ys h k a r q =
    let u = rising-uncons n c x xs r in
    rising-cons n c x (xs ++ ys) u.number u.depth (rising-append x.number m x.depth e xs ys a.0.0 a.0.1 a.1 u.rest q)

pub rising-prefix : (n c : ℕ) (xs ys : List ScopeRecord) → rising n c (xs ++ ys) ≡ true → rising n c xs ≡ true
rising-prefix n c [] ys r = unfold rising in refl
rising-prefix n c (x ∷ xs) ys r =
    let u = rising-uncons n c x (xs ++ ys) r in
    rising-cons n c x xs u.number u.depth (rising-prefix x.number x.depth xs ys u.rest)

-- an open scope
pub record OpenFit (d : Definitions) (n depth : ℕ) (o : OpenScope) : Type 0 where
  pub scope : ScopeFit d n o.scope
  pub high : o.depth ≤ depth

abbrev pub scope_records : List OpenScope → List ScopeRecord
scope_records os = map put_scope os

-- each number is found at its own place
abbrev pub Found : List OpenScope → OpenScope → Type 0
Found os o = get_elem? os (place_of o.scope.number os) ≡ some o

found-head : (o : OpenScope) (os : List OpenScope) → Found (o ∷ os) o
unfolding place_of
found-head o os = rw (eq-eqb o.scope.number o.scope.number refl)

found-tail : (p : OpenScope) (os : List OpenScope) (o : OpenScope) → p.scope.number < o.scope.number → Found os o → Found (p ∷ os) o
unfolding place_of
found-tail p os o h f = by (eqb p.scope.number o.scope.number) refl
  where
    by : (b : Bool) → eqb p.scope.number o.scope.number ≡ b → get_elem? (p ∷ os) (cond b 0 (suc (place_of o.scope.number os))) ≡ some o
    by true e = let q = eqb-true p.scope.number o.scope.number e in absurd (omega arith)
    by false e = f

above : (n c : ℕ) (os : List OpenScope) → rising n c (scope_records os) ≡ true → All (λ (o : OpenScope). n < o.scope.number) os
unfolding put_scope
above n c [] r = tt
above n c (o ∷ os) r =
    let u = rising-uncons n c (put_scope o) (scope_records os) r in (
      u.number,
      All-weaken (λ (p : OpenScope). o.scope.number < p.scope.number) (λ (p : OpenScope). n < p.scope.number) (λ p h. omega (arith, u.number)) os
          (above o.scope.number o.depth os u.rest),
    )

pub all-found : (n c : ℕ) (os : List OpenScope) → rising n c (scope_records os) ≡ true → All (Found os) os
unfolding put_scope
all-found n c [] r = tt
all-found n c (o ∷ os) r =
    let u = rising-uncons n c (put_scope o) (scope_records os) r in (
      found-head o os,
      All-weaken (λ (p : OpenScope). (o.scope.number < p.scope.number) × Found os p) (Found (o ∷ os)) (λ p h. found-tail o os p h.0 h.1) os
          (All-both (λ (p : OpenScope). o.scope.number < p.scope.number) (Found os) os
          (above o.scope.number o.depth os u.rest) (all-found o.scope.number o.depth os u.rest)),
    )

-- what is found stays found when scopes are added or, at another depth, taken away
pub place-append : (n : ℕ) (xs ys : List OpenScope) (o : OpenScope) → get_elem? xs (place_of n xs) ≡ some o → get_elem? (xs ++ ys) (place_of n (xs ++ ys)) ≡ some o
unfolding place_of
place-append n [] ys o h = let z : ◌≡◌ {A = ℕ} 0 1 = cc in absurd (omega arith)
place-append n (x ∷ xs) ys o h = by (eqb x.scope.number n) h (place-append n xs ys o)
  where
    by : (b : Bool) → get_elem? (x ∷ xs) (cond b 0 (suc (place_of n xs))) ≡ some o
        → (get_elem? xs (place_of n xs) ≡ some o → get_elem? (xs ++ ys) (place_of n (xs ++ ys)) ≡ some o)
        → get_elem? (x ∷ (xs ++ ys)) (cond b 0 (suc (place_of n (xs ++ ys)))) ≡ some o
    by true h ih = h
    by false h ih = ih h

pub place-prefix : (n : ℕ) (xs ys : List OpenScope) (o : OpenScope) (p : OpenScope → Type 0) → All p ys → (p o → ⊥)
    → get_elem? (xs ++ ys) (place_of n (xs ++ ys)) ≡ some o → get_elem? xs (place_of n xs) ≡ some o
unfolding place_of
place-prefix n [] ys o p a c h = absurd (c (All-get_elem p ys (place_of n ys) o a h))
place-prefix n (x ∷ xs) ys o p a c h = by (eqb x.scope.number n) h (place-prefix n xs ys o p a c)
  where
    by : (b : Bool) → get_elem? (x ∷ (xs ++ ys)) (cond b 0 (suc (place_of n (xs ++ ys)))) ≡ some o
        → (get_elem? (xs ++ ys) (place_of n (xs ++ ys)) ≡ some o → get_elem? xs (place_of n xs) ≡ some o)
        → get_elem? (x ∷ xs) (cond b 0 (suc (place_of n xs))) ≡ some o
    by true h ih = h
    by false h ih = ih h

-- ---- the scopes that an ES opens

pub opened-grows : (defs : ℕ → Defined) (n : ℕ) (is : List ℕ) → (n ≤ opened defs n is) × (opened defs n is ≤ n + length is)
unfolding opened
opened-grows defs n [] = (omega arith, omega arith)
opened-grows defs n (i ∷ is) = by (defs i) (opened-grows defs (after (defs i) n) is)
  where
    by : (x : Defined) → (after x n ≤ opened defs (after x n) is) × (opened defs (after x n) is ≤ after x n + length is)
        → (n ≤ opened defs (after x n) is) × (opened defs (after x n) is ≤ n + suc (length is))
    by (reads c) h = unfold after in (omega arith, omega arith)
    by (unread t) h = unfold after in (omega arith, omega arith)

module _ (defs : ℕ → Defined) where
  pub openings-rise : (n depth : ℕ) (is : List ℕ) → rising n depth (scope_records (map (at depth) (scopes_of (openings defs n is)))) ≡ true
  unfolding openings scopes_of flat_map
  openings-rise n depth [] = unfold rising in refl
  openings-rise n depth (i ∷ is) = by (defs i) (openings-rise (after (defs i) n) depth is)
    where
      by : (x : Defined) → rising (after x n) depth (scope_records (map (at depth) (flat_map scope_of (openings defs (after x n) is)))) ≡ true
          → rising n depth (scope_records (map (at depth) (scope_of (opening x i n) ++ flat_map scope_of (openings defs (after x n) is)))) ≡ true
      by (reads c) h =
          unfold scope_of opening after put_scope at in
          rising-cons n depth (put_scope (at depth (record { number = suc n; constraint = c }))) (scope_records (map (at depth) (flat_map scope_of (openings defs (suc n) is))))
          (omega arith) (omega arith) h
      by (unread t) h = unfold scope_of opening after in h

module _ (d : Definitions) where
  pub openings-fit : (n m : ℕ) (is : List ℕ) → All (λ (i : ℕ). i < length d.ids) is → opened (defined_at d) n is ≤ m
      → All (ScopeFit d m) (scopes_of (openings (defined_at d) n is))
  unfolding openings scopes_of flat_map opened after scope_of opening
  openings-fit n m [] a h = tt
  openings-fit n m (i ∷ is) a h =
      by (defined_at d i) refl (openings-fit (after (defined_at d i) n) m is a.1 h) (opened-grows (defined_at d) (after (defined_at d i) n) is).0
    where
      by : (x : Defined) → defined_at d i ≡ x → All (ScopeFit d m) (flat_map scope_of (openings (defined_at d) (after (defined_at d i) n) is))
          → after (defined_at d i) n ≤ opened (defined_at d) (after (defined_at d i) n) is
          → All (ScopeFit d m) (scope_of (opening x i n) ++ flat_map scope_of (openings (defined_at d) (after (defined_at d i) n) is))
      by (reads c) e r g =
          let k : after (defined_at d i) n ≡ suc n = ap (λ (x : Defined). after x n) e in
          (record { constraint = reads_fit d i c a.0 e; given = omega arith }, r)
      by (unread t) e r g = r

  pub failures-fit : (n m e : ℕ) (is : List ℕ) → All (λ (i : ℕ). i < length d.ids) is → All (ItemFit d m) (flat_map (failed_item e) (openings (defined_at d) n is))
  unfolding openings flat_map
  failures-fit n m e [] a = tt
  failures-fit n m e (i ∷ is) a = by (defined_at d i) refl (failures-fit (after (defined_at d i) n) m e is a.1)
    where
      by : (x : Defined) → defined_at d i ≡ x → All (ItemFit d m) (flat_map (failed_item e) (openings (defined_at d) (after (defined_at d i) n) is))
          → All (ItemFit d m) (failed_item e (opening x i n) ++ flat_map (failed_item e) (openings (defined_at d) (after (defined_at d i) n) is))
      by (reads c) q r = unfold failed_item opening in r
      by (unread t) q r = unfold failed_item opening in ((unread-fit d i t q, a.0), r)

-- ---- the scopes that close at an end are the last ones

module _ (depth : ℕ) where
  abbrev stays : OpenScope → Bool
  stays o = not (eqb o.depth depth)

  abbrev closes : OpenScope → Bool
  closes o = eqb o.depth depth

  all-close : (n : ℕ) (os : List OpenScope) → rising n depth (scope_records os) ≡ true → All (λ (o : OpenScope). o.depth ≤ depth) os
      → (passing stays os ≡ []) × (passing closes os ≡ os)
  unfolding passing put_scope
  all-close n [] r a = (refl, refl)
  all-close n (o ∷ os) r a =
      let u = rising-uncons n depth (put_scope o) (scope_records os) r in
      let e : o.depth ≡ depth = omega (arith, u.depth, a.0) in
      let h = all-close o.scope.number os (rw e at u.rest) a.1 in
      let t : eqb o.depth depth ≡ true = rw e (eq-eqb depth depth refl) in
      (rw (t, h.0) (unfold only_if in refl), rw (t, h.1) (unfold only_if in refl))

  pub split-scopes : (n c : ℕ) (os : List OpenScope) → rising n c (scope_records os) ≡ true → All (λ (o : OpenScope). o.depth ≤ depth) os
      → os ≡ passing stays os ++ passing closes os
  unfolding passing put_scope
  split-scopes n c [] r a = refl
  split-scopes n c (o ∷ os) r a =
      let u = rising-uncons n c (put_scope o) (scope_records os) r in
      by (eqb o.depth depth) refl u.rest (split-scopes o.scope.number o.depth os u.rest a.1)
    where
      by : (b : Bool) → eqb o.depth depth ≡ b → rising o.scope.number o.depth (scope_records os) ≡ true → os ≡ passing stays os ++ passing closes os
          → o ∷ os ≡ (only_if (not b) (o ∷ []) ++ passing stays os) ++ (only_if b (o ∷ []) ++ passing closes os)
      by true e r h =
          let q = all-close o.scope.number os (rw (eqb-true o.depth depth e) at r) a.1 in
          unfold only_if in (rw (q.0, q.1))
      by false e r h = unfold only_if in ap (λ (l : List OpenScope). o ∷ l) h

  pub all_closed : (os : List OpenScope) → All (λ (o : OpenScope). o.depth ≡ depth) (passing closes os)
  all_closed os =
      All-weaken (λ (o : OpenScope). Unit {0} × (closes o ≡ true)) (λ (o : OpenScope). o.depth ≡ depth) (λ o h. eqb-true o.depth depth h.1) (passing closes os)
      (All-passing (λ (o : OpenScope). Unit {0}) closes os (All-of (λ (o : OpenScope). Unit {0}) (λ o. tt) os))
