-- The counts of a world that is lent: its numbers and lengths say whether they fit, and where they do the events are few.
-- Assumes nothing.
use Prim.Native.Nat.{ℕ, ◌≤◌}
use lib.ListN.{length, length-map}
use mathlib.Core.Path.{◌≡◌, ap, sym, ◌∙◌}
use mathlib.Core.Bool.{Bool, true}
use mathlib.Core.List.{List}
use Rattle.records.specs.Readers.{Bytes}
use Rattle.session_spec.specs.Layout.{Counts}
use Rattle.session_spec.specs.Session.{World, counts_fit}
use Rattle.open_scopes.specs.declared.Scope.{Scope}
use Rattle.open_scopes.specs.declared.Numbers.{Numbers}
use Rattle.open_scopes.specs.declared.Lengths.{Lengths}
use Rattle.open_scopes.specs.OpenScopes.{record_of}
use Rattle.open_scopes.specs.Counting.{lengths_of, numbers_fit}
use Rattle.open_scopes.proofs.Counting.{counts-fit}
use Rattle.runs.proofs.Pieces.{lengths-of}
use Rattle.worlds.specs.Worlds.{world_of}

-- the lengths that the code has, with so many places for scopes
abbrev pub lengths_with : (scopes paths : ℕ) → (defs tuples reports names cells : Bytes) → Lengths
lengths_with scopes paths defs tuples reports names cells =
    record {
      definitions = length defs;
      tuples = length tuples;
      reports = length reports;
      names = length names;
      scopes = scopes;
      cells = length cells;
      paths = paths;
    }

module _ (n : Numbers) (list : List Scope) (paths : ℕ) (defs tuples reports names cells : Bytes) where
  lengths-same : (k : ℕ) → k ≡ length list → lengths_of (world_of n list paths defs tuples reports names cells) ≡ lengths_with k paths defs tuples reports names cells
  lengths-same k e = ap (λ (z : ℕ). lengths_with z paths defs tuples reports names cells) (length-map list record_of ∙ sym e)

  pub counted : (k : ℕ) → k ≡ length list → (c u : Counts) → c ≡ u → (r : Bool) → r ≡ numbers_fit n (lengths_with k paths defs tuples reports names cells) c
      → r ≡ counts_fit (world_of n list paths defs tuples reports names cells) u
  counted k e c u p r f =
      f ∙ ap (λ (z : Counts). numbers_fit n (lengths_with k paths defs tuples reports names cells) z) p
      ∙ ap (λ (z : Lengths). numbers_fit n z u) (sym (lengths-same k e))
      ∙ sym (counts-fit (world_of n list paths defs tuples reports names cells) u)

pub few-events : (w : World) (c : Counts) → true ≡ counts_fit w c → w.events ≤ 1000000
few-events w c e = (lengths-of w c (sym e)).events
