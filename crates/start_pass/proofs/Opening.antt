-- The walk of `opens`: of the places that are passed by, those whose paths read are in the set.
-- Assumes nothing.
use Prim.Native.Nat.{ℕ, ◌+◌, ◌^◌, ◌≤◌, ◌<◌}
use native.Mathlib.Omega.{arith}
use lib.ListN.{length, get_or}
use mathlib.Core.Path.{◌≡◌, ◌∙◌}
use mathlib.Core.Bool.{Bool, cond}
use mathlib.Core.Option.{some}
use borrow.Author.Count.{below_more}
use Rattle.records.specs.Readers.{Bytes}
use Rattle.session_spec.specs.Definitions.{Definitions, read_definitions, defined_at}
use Rattle.output_stores.specs.Stores.{in_mask}
use Rattle.path_area.specs.Scratch.{Scratched}
use Rattle.path_area.proofs.Scratch.{scratch-same, scratch-then}
use Rattle.constraint_paths.proofs.Stands.{is_read}
use Rattle.start_places.specs.StartPass.{Listed, Opens}
use Rattle.start_places.specs.Turns.{OpensOne}
use Rattle.start_pass.proofs.Marks.{Grown, grown-none, grown-places, grown-on, as_before, decided}
use Rattle.lists.proofs.Places.{All-get_or}

pub record OpenedTo (defs numbers before : Bytes) (mask j : ℕ) (area : Bytes) : Type 0 where
  pub grown : Grown mask j
  pub within : j ≤ length numbers
  pub so_far : 1024 ≤ length before → (d : Definitions) → read_definitions defs ≡ some d → Listed d numbers
      → (i : ℕ) → i < j → in_mask mask i ≡ is_read (defined_at d (get_or numbers i 0))
  pub scratched : Scratched before area

module _ (defs numbers before : Bytes) where
  pub opened-none : OpenedTo defs numbers before 0 0 before
  opened-none = record { grown = grown-none; within = omega arith; so_far = λ long d h ks i l. absurd (omega arith); scratched = scratch-same before }

  module _ (mask j : ℕ) (area : Bytes) (w : OpenedTo defs numbers before mask j area) where
    -- all are passed by, or as many as are looked at
    pub opened-all : (length numbers ≤ 32 → length numbers ≤ j) → Opens defs numbers before mask area
    opened-all stop =
        record {
          says = λ long d h ks i l. w.so_far long d h ks i (let s = stop ks.few in omega arith);
          places = grown-places mask j w.grown numbers w.within;
          scratched = w.scratched;
        }

    module _ (l : j ≤ 31) (more : j < length numbers) (here : Bool) (after : Bytes) (o : OpensOne defs (get_or numbers j 0) area here after) (mask2 : ℕ)
        (is : mask2 ≡ mask + cond here (2 ^ j) 0) where
      pub opened-on : OpenedTo defs numbers before mask2 (j + 1) after
      opened-on =
          record {
            grown = grown-on mask j w.grown l here mask2 is;
            within = omega arith;
            so_far = λ long d h ks.
                below_more (λ (i : ℕ). in_mask mask2 i ≡ is_read (defined_at d (get_or numbers i 0))) j
                (λ i q. as_before mask j w.grown l here mask2 is i q ∙ w.so_far long d h ks i q)
                (decided mask j w.grown l here mask2 is
                ∙ o.says (omega (arith, w.scratched.size)) d h (All-get_or (λ (i : ℕ). i < length d.ids) numbers j 0 ks.known more));
            scratched = scratch-then before area after w.scratched o.scratched;
          }
