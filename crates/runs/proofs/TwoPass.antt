-- What code needs at an EE: the selections that finish are the last ones, each of another scope, so each may be judged against the tuples as they stood
-- before the event. A selection adds only tuples of its own scope, and tuples of other scopes make no difference to it.
-- Assumes nothing.
use Prim.Native.Nat.{ℕ, ◌≤◌, ◌<◌}
use native.Mathlib.Omega.{arith}
use borrow.Author.Tests.{eqb-true, eq-eqb}
use lib.Dec.{eqb}
use mathlib.Core.Path.{◌≡◌, refl, ap, sym, ◌∙◌}
use mathlib.Core.Bool.{Bool, true, false, cond, not}
use mathlib.Core.List.{List, [], ◌∷◌, ◌++◌, map, append_assoc, append-nil}
use mathlib.Core.Option.{Option, none, some}
use Rattle.lists.specs.Lists.{only_if, passing, foldl, All}
use Rattle.lists.proofs.Folds.{All-append, All-weaken}
use Rattle.texts.specs.Texts.{Text}
use Rattle.tree.specs.Events.{Kind, unique, key, keyref, Scope}
use Rattle.tree.specs.Judge.{Tuple, Report, Out, Outcome, several_nodes, no_simple_value, missing, on_nillable, complete, outcome, report, keep, against, tuple_of, is_tuple, place, keep_or, present, completed, missed, nillable_key, settle, judge, judge_all}
use Rattle.machine.specs.Machine.{Selection, finished_item}
use Rattle.session_spec.specs.Session.{climbing}
use Rattle.session_laws.proofs.OpenSelections.{Later, deeper, level, climb-parts}

-- ---- what one finished selection adds, by the tuples that are there

pub record Added : Type 0 where
  pub tuples : List Tuple
  pub reports : List Report

abbrev nothing : Added
nothing = record { tuples = []; reports = [] }

abbrev told : Report → Added
told r = record { tuples = []; reports = r ∷ [] }

abbrev kept : Tuple → Added
kept t = record { tuples = t ∷ []; reports = [] }

unfoldable pub adds_or : Option ℕ → ℕ → Scope → List Text → Added
adds_or none e s ks = kept (tuple_of s ks)
adds_or (some t) e s ks = told (against e s 4 0 t)

unfoldable pub completes : Kind → List Tuple → ℕ → Scope → List Text → Added
completes unique ts e s ks = adds_or (place s.number ks ts) e s ks
completes key ts e s ks = adds_or (place s.number ks ts) e s ks
completes keyref ts e s ks = cond (present s.constraint.refer) (kept (tuple_of s ks)) nothing

unfoldable pub misses : Kind → ℕ → Scope → ℕ → Added
misses unique e s i = nothing
misses key e s i = told (against e s 3 i 0)
misses keyref e s i = nothing

unfoldable pub adds_marked : Kind → List Tuple → ℕ → Scope → ℕ → List Text → Added
adds_marked unique ts e s i ks = completes unique ts e s ks
adds_marked key ts e s i ks = told (against e s 7 i 0)
adds_marked keyref ts e s i ks = completes keyref ts e s ks

unfoldable pub adds : List Tuple → ℕ → Scope → Outcome → Added
adds ts e s several_nodes = told (against e s 1 0 0)
adds ts e s no_simple_value = told (against e s 2 0 0)
adds ts e s (missing i) = misses s.constraint.kind e s i
adds ts e s (on_nillable i ks) = adds_marked s.constraint.kind ts e s i ks
adds ts e s (complete ks) = completes s.constraint.kind ts e s ks

unfoldable pub plus : Out → Added → Out
plus o a = record { tuples = o.tuples ++ a.tuples; reports = o.reports ++ a.reports; told = o.told }

plus-nothing : (o : Out) → o ≡ plus o nothing
unfolding plus
plus-nothing o = λ i. record { tuples = sym (append-nil o.tuples) i; reports = sym (append-nil o.reports) i; told = o.told }

plus-told : (o : Out) (r : Report) → report r o ≡ plus o (told r)
unfolding plus report
plus-told o r = λ i. record { tuples = sym (append-nil o.tuples) i; reports = o.reports ++ (r ∷ []); told = o.told }

plus-kept : (o : Out) (t : Tuple) → keep t o ≡ plus o (kept t)
unfolding plus keep
plus-kept o t = λ i. record { tuples = o.tuples ++ (t ∷ []); reports = sym (append-nil o.reports) i; told = o.told }

keep-or-plus : (q : Option ℕ) (e : ℕ) (s : Scope) (ks : List Text) (o : Out) → keep_or q e s ks o ≡ plus o (adds_or q e s ks)
unfolding keep_or adds_or
keep-or-plus none e s ks o = plus-kept o (tuple_of s ks)
keep-or-plus (some t) e s ks o = plus-told o (against e s 4 0 t)

refer-plus : (b : Bool) (o : Out) (t : Tuple) → cond b (keep t o) o ≡ plus o (cond b (kept t) nothing)
refer-plus true o t = plus-kept o t
refer-plus false o t = plus-nothing o

complete-plus : (k : Kind) (e : ℕ) (s : Scope) (ks : List Text) (o : Out) → completed k e s ks o ≡ plus o (completes k o.tuples e s ks)
unfolding completed completes
complete-plus unique e s ks o = keep-or-plus (place s.number ks o.tuples) e s ks o
complete-plus key e s ks o = keep-or-plus (place s.number ks o.tuples) e s ks o
complete-plus keyref e s ks o = refer-plus (present s.constraint.refer) o (tuple_of s ks)

missed-plus : (k : Kind) (e : ℕ) (s : Scope) (i : ℕ) (o : Out) → missed k e s i o ≡ plus o (misses k e s i)
unfolding missed misses
missed-plus unique e s i o = plus-nothing o
missed-plus key e s i o = plus-told o (against e s 3 i 0)
missed-plus keyref e s i o = plus-nothing o

nillable-plus : (k : Kind) (e : ℕ) (s : Scope) (i : ℕ) (ks : List Text) (o : Out) → nillable_key k e s i ks o ≡ plus o (adds_marked k o.tuples e s i ks)
unfolding nillable_key adds_marked
nillable-plus unique e s i ks o = complete-plus unique e s ks o
nillable-plus key e s i ks o = plus-told o (against e s 7 i 0)
nillable-plus keyref e s i ks o = complete-plus keyref e s ks o

pub settle-plus : (x : Outcome) (e : ℕ) (s : Scope) (o : Out) → settle s.constraint.kind x e s o ≡ plus o (adds o.tuples e s x)
unfolding settle adds
settle-plus several_nodes e s o = plus-told o (against e s 1 0 0)
settle-plus no_simple_value e s o = plus-told o (against e s 2 0 0)
settle-plus (missing i) e s o = missed-plus s.constraint.kind e s i o
settle-plus (on_nillable i ks) e s o = nillable-plus s.constraint.kind e s i ks o
settle-plus (complete ks) e s o = complete-plus s.constraint.kind e s ks o

-- ---- tuples of other scopes make no difference

abbrev Other : ℕ → Tuple → Type 0
Other n t = eqb t.scope n ≡ false

place_none : (n : ℕ) (ks : List Text) (ts : List Tuple) → All (Other n) ts → place n ks ts ≡ none
unfolding place is_tuple
place_none n ks [] a = refl
place_none n ks (t ∷ ts) a = rw (a.0, place_none n ks ts a.1)

place-apart : (n : ℕ) (ks : List Text) (ts us : List Tuple) → All (Other n) us → place n ks (ts ++ us) ≡ place n ks ts
unfolding place
place-apart n ks [] us a = place_none n ks us a
place-apart n ks (t ∷ ts) us a = rw (place-apart n ks ts us a)

completes-apart : (k : Kind) (e : ℕ) (s : Scope) (ks : List Text) (ts us : List Tuple) → All (Other s.number) us
    → completes k (ts ++ us) e s ks ≡ completes k ts e s ks
unfolding completes
completes-apart unique e s ks ts us a = rw (place-apart s.number ks ts us a)
completes-apart key e s ks ts us a = rw (place-apart s.number ks ts us a)
completes-apart keyref e s ks ts us a = refl

marked-apart : (k : Kind) (e : ℕ) (s : Scope) (i : ℕ) (ks : List Text) (ts us : List Tuple) → All (Other s.number) us
    → adds_marked k (ts ++ us) e s i ks ≡ adds_marked k ts e s i ks
unfolding adds_marked
marked-apart unique e s i ks ts us a = completes-apart unique e s ks ts us a
marked-apart key e s i ks ts us a = refl
marked-apart keyref e s i ks ts us a = completes-apart keyref e s ks ts us a

adds-apart : (x : Outcome) (e : ℕ) (s : Scope) (ts us : List Tuple) → All (Other s.number) us → adds (ts ++ us) e s x ≡ adds ts e s x
unfolding adds
adds-apart several_nodes e s ts us a = refl
adds-apart no_simple_value e s ts us a = refl
adds-apart (missing i) e s ts us a = refl
adds-apart (on_nillable i ks) e s ts us a = marked-apart s.constraint.kind e s i ks ts us a
adds-apart (complete ks) e s ts us a = completes-apart s.constraint.kind e s ks ts us a

-- the tuples that a selection adds bear its scope's number
abbrev Own : ℕ → Tuple → Type 0
Own n t = t.scope ≡ n

adds-or-own : (q : Option ℕ) (e : ℕ) (s : Scope) (ks : List Text) → All (Own s.number) (adds_or q e s ks).tuples
unfolding adds_or tuple_of
adds-or-own none e s ks = (refl, tt)
adds-or-own (some t) e s ks = tt

refer-own : (b : Bool) (s : Scope) (ks : List Text) → All (Own s.number) (cond b (kept (tuple_of s ks)) nothing).tuples
unfolding tuple_of
refer-own true s ks = (refl, tt)
refer-own false s ks = tt

completes-own : (k : Kind) (ts : List Tuple) (e : ℕ) (s : Scope) (ks : List Text) → All (Own s.number) (completes k ts e s ks).tuples
unfolding completes
completes-own unique ts e s ks = adds-or-own (place s.number ks ts) e s ks
completes-own key ts e s ks = adds-or-own (place s.number ks ts) e s ks
completes-own keyref ts e s ks = refer-own (present s.constraint.refer) s ks

misses-own : (k : Kind) (e : ℕ) (s : Scope) (i : ℕ) → All (Own s.number) (misses k e s i).tuples
unfolding misses
misses-own unique e s i = tt
misses-own key e s i = tt
misses-own keyref e s i = tt

marked-own : (k : Kind) (ts : List Tuple) (e : ℕ) (s : Scope) (i : ℕ) (ks : List Text) → All (Own s.number) (adds_marked k ts e s i ks).tuples
unfolding adds_marked
marked-own unique ts e s i ks = completes-own unique ts e s ks
marked-own key ts e s i ks = tt
marked-own keyref ts e s i ks = completes-own keyref ts e s ks

adds-own : (x : Outcome) (ts : List Tuple) (e : ℕ) (s : Scope) → All (Own s.number) (adds ts e s x).tuples
unfolding adds
adds-own several_nodes ts e s = tt
adds-own no_simple_value ts e s = tt
adds-own (missing i) ts e s = misses-own s.constraint.kind e s i
adds-own (on_nillable i ks) ts e s = marked-own s.constraint.kind ts e s i ks
adds-own (complete ks) ts e s = completes-own s.constraint.kind ts e s ks

-- ---- the selections of one event

-- numbers rise from `n`
abbrev pub Rising : ℕ → List Selection → Type 0
Rising n [] = Unit {0}
Rising n (s ∷ ss) = (n < s.scope.number) × Rising s.scope.number ss

-- what each adds to the tuples `ts` as they stood
unfoldable pub adds_all : List Tuple → ℕ → List Selection → Added
adds_all ts e [] = nothing
adds_all ts e (s ∷ ss) =
    let a : Added = adds ts e s.scope (outcome s.cells) in
    let r : Added = adds_all ts e ss in
    record { tuples = a.tuples ++ r.tuples; reports = a.reports ++ r.reports }

plus-plus : (o : Out) (a r : Added) → plus (plus o a) r ≡ plus o (record { tuples = a.tuples ++ r.tuples; reports = a.reports ++ r.reports })
unfolding plus
plus-plus o a r = λ i. record { tuples = append_assoc o.tuples a.tuples r.tuples i; reports = append_assoc o.reports a.reports r.reports i; told = o.told }

abbrev UpTo : ℕ → Tuple → Type 0
UpTo n t = t.scope ≤ n

other : (n m : ℕ) → n < m → (t : Tuple) → UpTo n t → Other m t
other n m h t u = by (eqb t.scope m) refl
  where
    by : (b : Bool) → eqb t.scope m ≡ b → b ≡ false
    by true e = let q = eqb-true t.scope m e in absurd (omega arith)
    by false e = refl

-- `us`: what the selections before these have added; their scopes' numbers are at most `n`
judged-from : (e n : ℕ) (ss : List Selection) (o : Out) (ts us : List Tuple) → o.tuples ≡ ts ++ us → All (UpTo n) us → Rising n ss
    → judge_all o (map (finished_item e) ss) ≡ plus o (adds_all ts e ss)
unfolding judge_all adds_all finished_item judge
judged-from e n [] o ts us q a r = plus-nothing o
judged-from e n (s ∷ ss) o ts us q a r =
    let x : Outcome = outcome s.cells in
    let d : Added = adds ts e s.scope x in
    let p : settle s.scope.constraint.kind x e s.scope o ≡ plus o d =
    settle-plus x e s.scope o
    ∙ ap (plus o) (ap (λ (l : List Tuple). adds l e s.scope x) q ∙ adds-apart x e s.scope ts us (All-weaken (UpTo n) (Other s.scope.number) (other n s.scope.number r.0) us a)) in
    let m : (plus o d).tuples ≡ ts ++ (us ++ d.tuples) = unfold plus in (ap (λ (l : List Tuple). l ++ d.tuples) q ∙ append_assoc ts us d.tuples) in
    ap (λ (z : Out). foldl judge z (map (finished_item e) ss)) p
    ∙ judged-from e s.scope.number ss (plus o d) ts (us ++ d.tuples) m
    (All-append (UpTo s.scope.number) us d.tuples
    (All-weaken (UpTo n) (UpTo s.scope.number) (λ t u. omega (arith, r.0)) us a)
    (All-weaken (Own s.scope.number) (UpTo s.scope.number) (λ t u. omega arith) d.tuples (adds-own x ts e s.scope)))
    r.1
    ∙ plus-plus o d (adds_all ts e ss)

-- TWO PASSES. Selections of different scopes: each is judged against the tuples as they stood.
pub two-passes : (e n : ℕ) (ss : List Selection) (o : Out) → Rising n ss → judge_all o (map (finished_item e) ss) ≡ plus o (adds_all o.tuples e ss)
two-passes e n ss o r = judged-from e n ss o o.tuples [] (sym (append-nil o.tuples)) tt r

-- ---- the ones that finish are the last ones

module _ (depth : ℕ) where
  abbrev stays : Selection → Bool
  stays s = not (eqb s.depth depth)

  abbrev ends : Selection → Bool
  ends s = eqb s.depth depth

  deep-from : (n m : ℕ) (s : Selection) → Later n m s → n ≤ s.depth
  deep-from n m s (deeper h) = omega arith
  deep-from n m s (level e h) = omega arith

  number-from : (m : ℕ) (s : Selection) → Later depth m s → s.depth ≤ depth → m < s.scope.number
  number-from m s (deeper h) k = absurd (omega arith)
  number-from m s (level e h) k = h

  all_end : (m : ℕ) (ss : List Selection) → climbing depth m ss ≡ true → All (λ (s : Selection). s.depth ≤ depth) ss
      → (passing stays ss ≡ []) × (passing ends ss ≡ ss) × Rising m ss
  unfolding passing
  all_end m [] r a = (refl, refl, tt)
  all_end m (s ∷ ss) r a =
      let p = climb-parts depth m s ss r in
      let e : s.depth ≡ depth = omega (arith, deep-from depth m s p.0, a.0) in
      let t : eqb s.depth depth ≡ true = rw e (eq-eqb depth depth refl) in
      let h = all_end s.scope.number ss (rw e at p.1) a.1 in
      (rw (t, h.0) (unfold only_if in refl), rw (t, h.1) (unfold only_if in refl), (number-from m s p.0 a.0, h.2))

  -- a well-formed session's selections: those that stay, then those that finish, each of a later scope than the one before
  pub finish-last : (n m : ℕ) (ss : List Selection) → climbing n m ss ≡ true → All (λ (s : Selection). (s.depth ≤ depth) × (0 < s.scope.number)) ss
      → (ss ≡ passing stays ss ++ passing ends ss) × Rising 0 (passing ends ss)
  unfolding passing
  finish-last n m [] r a = (refl, tt)
  finish-last n m (s ∷ ss) r a =
      let p = climb-parts n m s ss r in
      by (eqb s.depth depth) refl p.1 (finish-last s.depth s.scope.number ss p.1 a.1)
    where
      by : (b : Bool) → eqb s.depth depth ≡ b → climbing s.depth s.scope.number ss ≡ true
          → (ss ≡ passing stays ss ++ passing ends ss) × Rising 0 (passing ends ss)
          → (s ∷ ss ≡ (only_if (not b) (s ∷ []) ++ passing stays ss) ++ (only_if b (s ∷ []) ++ passing ends ss)) × Rising 0 (only_if b (s ∷ []) ++ passing ends ss)
      by true e r h =
          let q = all_end s.scope.number ss (rw (eqb-true s.depth depth e) at r)
          (All-weaken (λ (x : Selection). (x.depth ≤ depth) × (0 < x.scope.number)) (λ (x : Selection). x.depth ≤ depth) (λ x k. k.0) ss a.1) in
          unfold only_if in (rw (q.0, q.1), (a.0.1, rw q.1 q.2))
      by false e r h = unfold only_if in (ap (λ (l : List Selection). s ∷ l) h.0, h.1)
