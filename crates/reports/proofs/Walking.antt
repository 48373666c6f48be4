-- One report passed: what is asked of the store is asked of what stands behind it, or answered by it.
-- Assumes nothing.
use Prim.Native.Nat.{ℕ, ◌≤◌, ◌<◌}
use native.Mathlib.Omega.{arith}
use lib.Dec.{eqb, ltb}
use lib.ListN.{length}
use borrow.Author.Tests.{lt-ltb, le-ltb, ne_eqb}
use mathlib.Core.Path.{◌≡◌, refl, sym, ◌∙◌}
use mathlib.Core.Bool.{Bool, true, false, ◌&&◌, ◌||◌}
use mathlib.Core.List.{List, [], ◌∷◌}
use mathlib.Core.Option.{Option, none, some, map}
use Rattle.lists.specs.Lists.{any}
use Rattle.tree.specs.Judge.{Report}
use Rattle.records.specs.Readers.{Bytes, reads}
use Rattle.session_spec.specs.Layout.{read_rp}
use Rattle.output_stores.specs.Stores.{standing, on_list, reads_as}
use Rattle.output_stores.proofs.Walks.{reads_on, reads-stop, reads_end, standing_on, standing-stop}
use Rattle.reports.specs.Reports.{tells, all_defined}
use Rattle.reports.proofs.Reading.{rp-shortens}

-- ---- kind 6

module _ (named : ℕ) (s : Bytes) where
  pub told-stop : none ≡ read_rp s → any (tells named) (standing read_rp s) ≡ false
  told-stop h = rw (standing-stop read_rp rp-shortens s (sym h))

  module _ (r : Report) (behind : Bytes) (q : some (r, behind) ≡ read_rp s) where
    told-by : any (tells named) (standing read_rp s) ≡ (tells named r || any (tells named) (standing read_rp behind))
    told-by = rw (standing_on read_rp rp-shortens s r behind (sym q))

    pub told_here : tells named r ≡ true → true ≡ any (tells named) (standing read_rp s)
    told_here t = sym (told-by ∙ rw t)

    pub told-on : tells named r ≡ false → any (tells named) (standing read_rp behind) ≡ any (tells named) (standing read_rp s)
    told-on t = sym (told-by ∙ rw t)

-- ---- the whole store

all_of : (r : Report) (n : ℕ) (o : Option (List Report)) → on_list (map (λ l. r ∷ l) o) (all_defined n) ≡ (ltb r.constraint n && on_list o (all_defined n))
unfolding on_list all_defined
all_of r n none = by (ltb r.constraint n)
  where
    by : (b : Bool) → false ≡ (b && false)
    by true = refl
    by false = refl
all_of r n (some l) = refl

module _ (constraints : ℕ) (s : Bytes) where
  -- no report stands there: nothing more is asked for where nothing is left
  pub reports-end : none ≡ read_rp s → (b : Bool) → b ≡ eqb (length s) 0 → b ≡ reads_as read_rp (all_defined constraints) s
  unfolding reads_as on_list all_defined
  reports-end h b e = by s h b e
    where
      by : (s : Bytes) → none ≡ read_rp s → (b : Bool) → b ≡ eqb (length s) 0 → b ≡ reads_as read_rp (all_defined constraints) s
      by [] h b e = rw (reads_end read_rp [] (omega arith)) e
      by (x ∷ s) h b e = rw (reads-stop read_rp rp-shortens (x ∷ s) (omega arith) (sym h)) (e ∙ ne_eqb (length (x ∷ s)) 0 (λ z. omega arith))

  module _ (r : Report) (behind : Bytes) (q : some (r, behind) ≡ read_rp s) where
    reports-by : reads_as read_rp (all_defined constraints) s ≡ (ltb r.constraint constraints && reads_as read_rp (all_defined constraints) behind)
    unfolding reads_as
    reports-by = rw (reads_on read_rp rp-shortens s r behind (sym q)) (all_of r constraints (reads read_rp behind))

    pub reports-undefined : constraints ≤ r.constraint → false ≡ reads_as read_rp (all_defined constraints) s
    reports-undefined h = sym (reports-by ∙ rw (le-ltb r.constraint constraints h))

    pub reports-on : r.constraint < constraints → reads_as read_rp (all_defined constraints) behind ≡ reads_as read_rp (all_defined constraints) s
    reports-on h = sym (reports-by ∙ rw (lt-ltb r.constraint constraints h))
