-- Computed, of the small store of specs/Examples: what is told of five listed constraints.
-- Assumes nothing.
use Rattle.std.specs.Prelude.{ℕ, ◌≡◌, refl, List, [], ◌∷◌, map}
use Rattle.std.proofs.Common.{sym}
use Rattle.tree.specs.Judge.{kind_six}
use Rattle.session_spec.specs.Layout.{put_rp}
use Rattle.session_spec.specs.Computed.{called}
use Rattle.plans.specs.Plans.{six_from}
use Rattle.start_places.specs.StartPass.{marked, Tells}
use Rattle.start_places.specs.Examples.{store, held, listed, these-listed, one-reads}

-- once for each of the two names, in the listed order
tells-mean : (r : ℕ) → Tells store listed 2 [] r → map (λ i. kind_six 9 i) (marked r 0 listed) ≡ kind_six 9 1 ∷ kind_six 9 3 ∷ []
unfolding held called six_from
tells-mean r t = sym (t.says held refl these-listed one-reads [] refl 9 4)

-- where it was reported for one of the first name
tells-again : (r : ℕ) → Tells store listed 2 (put_rp (kind_six 6 2)) r → map (λ i. kind_six 9 i) (marked r 0 listed) ≡ kind_six 9 3 ∷ []
unfolding held called six_from
tells-again r t = sym (t.says held refl these-listed one-reads (kind_six 6 2 ∷ []) refl 9 4)
