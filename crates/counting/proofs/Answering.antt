-- What is read of a constraint: each branch of the code that counts constraints, finds an entry and answers.
-- Assumes nothing.
use Prim.Native.Nat.{ℕ, zero, suc, ◌+◌, ◌*◌, ◌≤◌, ◌<◌}
use native.Mathlib.Omega.{arith}
use borrow.Author.Tests.{lt-ltb, le-ltb, le-leb, lt-leb}
use lib.ListN.{length, take, get_or}
use mathlib.Core.Path.{◌≡◌, refl, ap, sym, ◌∙◌}
use mathlib.Core.Bool.{true, false}
use mathlib.Core.List.{[], ◌∷◌}
use mathlib.Core.Option.{Option, none, some}
use Rattle.records.specs.Readers.{Bytes}
use Rattle.session_spec.specs.Definitions.{Definitions, read_definitions}
use Rattle.definition_store.specs.declared.Tally.{Tally}
use Rattle.std.specs.Borrow.{Bor}
use Rattle.std.specs.Option.{MatchOption}
use Rattle.std.specs.declared.option.Option as code
use Rattle.std.specs.declared.option.Option.TheVariants.{Some, None}
use Rattle.definition_store.specs.Store.{Defined, tally_of, defined_by}
use Rattle.totals.specs.Totals.{Total, nothing, Totals, entry_at, totals_fit, count_of, constraints_in, total_of}

-- ---- an entry

pub entry-none : (ns : Totals) (k : ℕ) → length ns ≤ 3 * k + 2 → nothing ≡ entry_at ns k
unfolding entry_at
entry-none [] k h = refl
entry-none (a ∷ []) k h = refl
entry-none (a ∷ b ∷ []) k h = refl
entry-none (a ∷ b ∷ c ∷ ns) zero h = absurd (omega arith)
entry-none (a ∷ b ∷ c ∷ ns) (suc k) h = entry-none ns k (omega arith)

pub entry-there : (ns : Totals) (k : ℕ) → 3 * k + 2 < length ns → record { reached = get_or ns (3 * k) 0; tuples = get_or ns (3 * k + 1) 0; reports = get_or ns (3 * k + 2) 0 } ≡ entry_at ns k
unfolding entry_at
entry-there [] k h = absurd (omega arith)
entry-there (a ∷ []) k h = absurd (omega arith)
entry-there (a ∷ b ∷ []) k h = absurd (omega arith)
entry-there (a ∷ b ∷ c ∷ ns) zero h = refl
entry-there (a ∷ b ∷ c ∷ ns) (suc k) h =
    let e : 3 * suc k ≡ suc (suc (suc (3 * k))) = omega arith in
    let f : 3 * suc k + 1 ≡ suc (suc (suc (3 * k + 1))) = omega arith in
    let g : 3 * suc k + 2 ≡ suc (suc (suc (3 * k + 2))) = omega arith in
    let l : Totals = a ∷ b ∷ c ∷ ns in
    (λ i. record { reached = get_or l (e i) 0; tuples = get_or l (f i) 0; reports = get_or l (g i) 0 }) ∙ entry-there ns k (omega arith)

-- ---- how many constraints

module _ (defs : Bytes) (used : ℕ) where
  pub past-store : length defs < used → 0 ≡ constraints_in used defs
  unfolding constraints_in
  past-store h = rw (lt-leb used (length defs) h)

  module _ (h : used ≤ length defs) (r : Defined) (e : r ≡ defined_by (read_definitions (take used defs))) where
    counted : constraints_in used defs ≡ count_of (read_definitions (take used defs))
    unfolding constraints_in
    counted = rw (le-leb used (length defs) h)

    not-read : (o : Option Definitions) → None ≡ defined_by o → 0 ≡ count_of o
    unfolding defined_by count_of
    not-read none q = refl
    not-read (some d) q = let z : ◌≡◌ {A = ℕ} 0 1 = cc in absurd (omega arith)

    as_read : (t : Tally) (o : Option Definitions) → Some t ≡ defined_by o → t.constraints ≡ count_of o
    unfolding defined_by count_of tally_of
    as_read t none q = let z : ◌≡◌ {A = ℕ} 0 1 = cc in absurd (omega arith)
    as_read t (some d) q = let p : t ≡ tally_of d = cc in ap (λ (x : Tally). x.constraints) p

    pub none_read : r ≡ None → 0 ≡ constraints_in used defs
    none_read q = not-read (read_definitions (take used defs)) (sym q ∙ e) ∙ sym counted

    pub some_read : (t : Tally) → r ≡ Some t → t.constraints ≡ constraints_in used defs
    some_read t q = as_read t (read_definitions (take used defs)) (sym q ∙ e) ∙ sym counted

-- by what is used, by what is read of it, and by what is counted
module _ (defs : Bytes) (used : ℕ) where
  pub counted-by : (d : code.Option (Bor Bytes)) (P : Type 0) (Q : Bor Bytes → Type 0) → (P → length defs < used) → ((x : Bor Bytes) → Q x → (used ≤ length defs) × (x.now ≡ take used defs)) → MatchOption d P Q
      → (r : Defined) (R : Bor Bytes → Type 0) → ((x : Bor Bytes) → R x → r ≡ defined_by (read_definitions x.now)) → MatchOption d (r ≡ None) R
      → (n : ℕ) (V : Tally → Type 0) → ((t : Tally) → V t → n ≡ t.constraints) → MatchOption r (n ≡ 0) V → n ≡ constraints_in used defs
  counted-by None P Q p q h None R g k n V v m = m ∙ past-store defs used (p h)
  counted-by None P Q p q h (Some t) R g k n V v m = absurd cc
  counted-by (Some x) P Q p q h None R g k n V v m =
      let w = q x h in
      m ∙ none_read defs used w.0 None (g x k ∙ ap (λ (l : Bytes). defined_by (read_definitions l)) w.1) refl
  counted-by (Some x) P Q p q h (Some t) R g k n V v m =
      let w = q x h in
      v t m ∙ some_read defs used w.0 (Some t) (g x k ∙ ap (λ (l : Bytes). defined_by (read_definitions l)) w.1) t refl

-- ---- the answer

module _ (ns : Totals) (n k : ℕ) where
  pub answer-unfit : totals_fit ns ≡ false → none ≡ total_of ns n k
  unfolding total_of
  answer-unfit h = rw h

  pub answer-nothing : totals_fit ns ≡ true → n ≤ k → some nothing ≡ total_of ns n k
  unfolding total_of
  answer-nothing h l = rw (h, le-ltb k n l)

  pub answer-entry : totals_fit ns ≡ true → k < n → (t : Total) → t ≡ entry_at ns k → some t ≡ total_of ns n k
  unfolding total_of
  answer-entry h l t e = rw (h, lt-ltb k n l, e)
