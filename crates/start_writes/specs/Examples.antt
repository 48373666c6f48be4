-- Sets of places written out, on which the definitions compute, and what each call promises of them: what each is to
-- give is written by hand.
-- Assumes nothing.
use Rattle.std.specs.Prelude.{ℕ, replicate, ◌≡◌, refl, true}
use Rattle.std.proofs.Common.{arith}
use mathlib.Core.List.{[], ◌∷◌, flat_map}
use Rattle.lists.specs.Lists.{only_if}
use Rattle.numbers.specs.Numbers.{two_bytes, four_bytes}
use Rattle.tree.specs.Judge.{kind_six}
use Rattle.records.specs.Readers.{Bytes}
use Rattle.session_spec.specs.Layout.{put_rp}
use Rattle.output_stores.specs.Stores.{in_mask}
use Rattle.open_scopes.specs.declared.Scopes.{Scopes}
use Rattle.start_places.specs.StartPass.{marked}
use Rattle.start_writes.specs.Writes.{new_scope, new_scopes, PushedBy, sixes, Sixes, places, OneOpened, Opened}

-- places 0 and 2 of four constraints; 40 scopes were opened before
two-scopes : new_scopes 40 3 (marked 5 0 (7 ∷ 8 ∷ 9 ∷ 7 ∷ [])) ≡ new_scope 7 41 3 ∷ new_scope 9 42 3 ∷ []
unfolding new_scopes marked only_if in_mask
two-scopes = refl

-- a constraint that stands twice has two scopes
twice : new_scopes 0 1 (marked 9 0 (7 ∷ 8 ∷ 9 ∷ 7 ∷ [])) ≡ new_scope 7 1 1 ∷ new_scope 7 2 1 ∷ []
unfolding new_scopes marked only_if in_mask
twice = refl

-- kind, constraint, no field; no scope; event 258; no tuple
a-six : sixes 258 (marked 2 0 (7 ∷ 8 ∷ [])) ≡ 82 ∷ 80 ∷ 6 ∷ 8 ∷ 0 ∷ 0 ∷ 0 ∷ 0 ∷ 0 ∷ 0 ∷ 2 ∷ 1 ∷ 0 ∷ 0 ∷ 0 ∷ 0 ∷ 0 ∷ 0 ∷ []
unfolding marked only_if in_mask flat_map put_rp kind_six four_bytes two_bytes
a-six = refl

four-places : places 4 ≡ 0 ∷ 1 ∷ 2 ∷ 3 ∷ []
unfolding places
four-places = refl

marked-places : marked 10 0 (places 4) ≡ 1 ∷ 3 ∷ []
unfolding marked only_if in_mask places
marked-places = refl

no-places : marked 15 0 (places 0) ≡ []
unfolding marked places
no-places = refl

-- ---- what is promised

-- of a number that four bytes do not hold with those behind it nothing is
too-many-opened : (ss after : Scopes) → PushedBy ss (7 ∷ []) 1 4294967295 1 after
too-many-opened ss after few short = absurd (omega arith)

-- one report behind two bytes
sixes-used : (after : Bytes) (next : ℕ) → Sixes (replicate 20 0) 2 (7 ∷ 8 ∷ []) 2 258 next after → next ≡ 20
unfolding marked only_if in_mask
sixes-used after next s = (s.writes (omega arith) (omega arith)).0

-- one selection behind another
selections-opened : (after : Bytes) (next : ℕ) → Opened (replicate 1024 0) 1 1 1 3 next after → next ≡ 2
unfolding marked only_if in_mask places
selections-opened after next o = (o.opens (omega arith) (omega arith) (omega arith)).0

-- and none behind 64
none-behind : (before : Bytes) → OneOpened before 64 true 3 0 64 before
none-behind before = record { opens = λ few. absurd (omega arith); keeps = refl }
