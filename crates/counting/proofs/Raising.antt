-- One number raised after another: each branch of the code that raises one, and each turn of the loops that count.
-- Assumes nothing.
use Prim.Native.Nat.{ℕ, suc, ◌+◌, ◌-◌, ◌*◌, ◌/◌, ◌≤◌, ◌<◌}
use native.Mathlib.Omega.{arith}
use borrow.Author.Tests.{lt-ltb, le-ltb}
use lib.ListN.{length, set, get_or, length-set, length-append}
use lib.Seq.{take_at, drop_at, set-get_or}
use mathlib.Core.Path.{◌≡◌, refl, ap, ap₂, sym, ◌∙◌}
use mathlib.Core.List.{List, [], ◌∷◌, ◌++◌, map}
use Rattle.std.proofs.lemmas.List.{set_past}
use Rattle.lists.specs.Lists.{part}
use Rattle.records.specs.Readers.{Bytes}
use Rattle.session_spec.specs.Definitions.{frame}
use Rattle.session_spec.specs.Layout.{parts, Counts, unpack}
use Rattle.cells.specs.Cells.{scope_at}
use Rattle.output_stores.specs.Stores.{standing}
use Rattle.open_scopes.specs.declared.Scope.{Scope}
use Rattle.open_scopes.specs.declared.Numbers.{Numbers}
use Rattle.open_scopes.specs.declared.Counts as code
use Rattle.open_scopes.specs.OpenScopes.{blank_scope, open_of}
use Rattle.open_scopes.specs.Counting.{as_counts}
use Rattle.totals.specs.Totals.{Totals}
use Rattle.counting.specs.Places.{raised, raised_at, raised_all, finished_places, tuple_places, report_places, places_of}

-- ---- one number

module _ (ns : Totals) (p : ℕ) where
  pub raise-past : length ns ≤ p → ns ≡ raised_at ns p
  unfolding raised_at
  raise-past l = sym (set_past ns p (raised (get_or ns p 0)) l)

  pub raise-full : 32000000 ≤ get_or ns p 0 → ns ≡ raised_at ns p
  unfolding raised_at
  raise-full l = rw (le-ltb (get_or ns p 0) 32000000 l) (sym (set-get_or ns p 0))

  pub raise-one : get_or ns p 0 < 32000000 → set ns p (get_or ns p 0 + 1) ≡ raised_at ns p
  unfolding raised_at
  raise-one l = rw (lt-ltb (get_or ns p 0) 32000000 l)

  pub length-raised : length (raised_at ns p) ≡ length ns
  unfolding raised_at
  length-raised = length-set ns p (raised (get_or ns p 0))

pub length-raised-all : (ns : Totals) (ps : List ℕ) → length (raised_all ns ps) ≡ length ns
unfolding raised_all
length-raised-all ns [] = refl
length-raised-all ns (p ∷ ps) = length-raised-all (raised_at ns p) ps ∙ length-raised ns p

pub raised-append : (ns : Totals) (ps qs : List ℕ) → raised_all ns (ps ++ qs) ≡ raised_all (raised_all ns ps) qs
unfolding raised_all
raised-append ns [] qs = refl
raised-append ns (p ∷ ps) qs = raised-append (raised_at ns p) ps qs

-- ---- so far in a list of places: what is left to raise, from the numbers as they stand, comes to what the whole list does

pub record Raising (ns₀ : Totals) (all left : List ℕ) (ns : Totals) : Type 0 where
  pub size : length ns ≡ length ns₀
  pub gives : raised_all ns left ≡ raised_all ns₀ all

module _ (ns₀ : Totals) (all : List ℕ) where
  pub none-raised : Raising ns₀ all all ns₀
  none-raised = record { size = refl; gives = refl }

  module _ (ns : Totals) (left : List ℕ) (r : Raising ns₀ all left ns) where
    pub all-raised : left ≡ [] → ns ≡ raised_all ns₀ all
    unfolding raised_all
    all-raised e = sym (ap (raised_all ns) e) ∙ r.gives

    pub one-raised : (p : ℕ) (more : List ℕ) → left ≡ p ∷ more → (ns' : Totals) → ns' ≡ raised_at ns p → Raising ns₀ all more ns'
    unfolding raised_all
    one-raised p more e ns' f =
        record {
          size = ap length f ∙ length-raised ns p ∙ r.size;
          gives = ap (λ (k : Totals). raised_all k more) f ∙ sym (ap (raised_all ns) e) ∙ r.gives;
        }

pub starts : (places : Bytes → List ℕ) (ns : Totals) (new rest : Bytes) → rest ≡ new → Raising ns (places new) (places rest) ns
starts places ns new rest e = rw e (none-raised ns (places new))

-- ---- what is left, at each turn

module _ (list : List Scope) (cells : Bytes) (j to : ℕ) where
  pub finished-more : j < to → (place : ℕ) → place ≡ scope_at cells (512 * j) → (c : ℕ) → c ≡ (get_or list place blank_scope).constraint
      → finished_places list cells j (to - j) ≡ (3 * c) ∷ finished_places list cells (j + 1) (to - (j + 1))
  unfolding finished_places
  finished-more h place e c f =
      let k : to - j ≡ suc (to - (j + 1)) = omega arith in
      let n : suc j ≡ j + 1 = omega arith in
      ap (finished_places list cells j) k
      ∙ ap₂ {C = List ℕ} (λ (x : ℕ) (l : List ℕ). (3 * x) ∷ l) (sym (f ∙ ap (λ (i : ℕ). (get_or list i blank_scope).constraint) e)) (ap (λ (i : ℕ). finished_places list cells i (to - (j + 1))) n)

  pub finished-end : to ≤ j → finished_places list cells j (to - j) ≡ []
  unfolding finished_places
  finished-end h = let k : to - j ≡ 0 = omega arith in ap (finished_places list cells j) k

module _ (rest : Bytes) where
  pub tuples-end : standing frame rest ≡ [] → tuple_places rest ≡ []
  unfolding tuple_places
  tuples-end e = rw e

  pub tuples-more : (f more : Bytes) → standing frame rest ≡ f ∷ standing frame more → (c : ℕ) → c ≡ get_or f 4 0 → tuple_places rest ≡ (3 * c + 1) ∷ tuple_places more
  unfolding tuple_places
  tuples-more f more h c e = rw (e, h)

  pub reports-end : length rest < 18 → report_places rest ≡ []
  unfolding report_places parts
  reports-end h = let k : length rest / 18 ≡ 0 = omega arith in ap (λ (m : ℕ). map (λ (f : Bytes). 3 * get_or f 3 0 + 2) (parts 18 m rest)) k

-- the first of them, and those behind it
pub reports-more : (rest f more : Bytes) → rest ≡ f ++ more → length f ≡ 18 → (c : ℕ) → c ≡ get_or f 3 0 → report_places rest ≡ (3 * c + 2) ∷ report_places more
unfolding report_places parts
reports-more rest f more h l c e =
    let n : length rest / 18 ≡ suc (length more / 18) = omega (arith, ap length h, length-append f more, l) in
    ap (λ (m : ℕ). map (λ (g : Bytes). 3 * get_or g 3 0 + 2) (parts 18 m rest)) n
    ∙ rw (h, take_at f more 18 l, drop_at f more 18 l, e)

-- ---- all that a record adds, one kind after the other

module _ (n m : Numbers) (list : List Scope) (tuples reports cells : Bytes) (ns : Totals) where
  pub added-all : (were are : code.Counts) → as_counts were ≡ unpack n.running → as_counts are ≡ unpack m.running
      → (ns₁ ns₂ ns₃ : Totals) (new₁ new₂ : Bytes)
      → ns₁ ≡ raised_all ns (finished_places (open_of (record { list = list; n = were.scopes })) cells are.selections (were.selections - are.selections))
      → new₁ ≡ part tuples n.tuples (m.tuples - n.tuples) → ns₂ ≡ raised_all ns₁ (tuple_places new₁)
      → new₂ ≡ part reports n.reports (m.reports - n.reports) → ns₃ ≡ raised_all ns₂ (report_places new₂)
      → ns₃ ≡ raised_all ns (places_of n m list tuples reports cells)
  unfolding places_of
  added-all were are e f ns₁ ns₂ ns₃ new₁ new₂ p q r u v =
      let reached : List ℕ = finished_places (open_of (record { list = list; n = were.scopes })) cells are.selections (were.selections - are.selections) in
      let first : raised_all ns reached ≡ ns₁ = sym p in
      v ∙ ap (λ (k : Totals). raised_all k (report_places new₂)) (r ∙ ap (λ (k : Totals). raised_all k (tuple_places new₁)) p)
      ∙ ap (λ (b : Bytes). raised_all (raised_all (raised_all ns reached) (tuple_places new₁)) (report_places b)) u
      ∙ ap (λ (b : Bytes). raised_all (raised_all (raised_all ns reached) (tuple_places b)) (report_places (part reports n.reports (m.reports - n.reports)))) q
      ∙ sym (raised-append ns reached _ ∙ raised-append (raised_all ns reached) (tuple_places (part tuples n.tuples (m.tuples - n.tuples))) _)
      ∙ ap₂ {C = Totals} (λ (c d : Counts). raised_all ns (finished_places (open_of (record { list = list; n = c.scopes })) cells d.selections (c.selections - d.selections) ++ (tuple_places (part tuples n.tuples (m.tuples - n.tuples)) ++ report_places (part reports n.reports (m.reports - n.reports))))) e f
