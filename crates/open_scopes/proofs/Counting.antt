-- The packed number and back, and that a world's numbers and lengths say whether its counts fit: by the definitions' own clauses.
-- Assumes nothing.
use Prim.Native.Nat.{ℕ, ◌≤◌, ◌<◌}
use borrow.Author.Tests.{le-leb}
use mathlib.Core.Path.{◌≡◌, refl, ap, sym, ◌∙◌}
use Rattle.session_spec.specs.Layout.{Counts, pack, unpack}
use Rattle.session_spec.specs.Session.{World, areas_fit, begun_fit, counts_fit}
use Rattle.session_laws.proofs.Areas.{unpacked, packed-again}
use Rattle.open_scopes.specs.Counting.{packed, numbers_of, lengths_of, areas_long, begun, within_limits, used_within, numbers_fit}

-- ---- the packed number

pub packed-few : (c : Counts) → c.opened ≤ 4294967295 → pack c ≡ packed c
unfolding packed
packed-few c h = rw (le-leb c.opened 4294967295 h)

-- ROUND TRIP from the counts, and from the number
pub counts-again : (c : Counts) → c.stage < 128 → c.scopes < 32 → c.selections < 64 → c.opened ≤ 4294967295 → unpack (packed c) ≡ c
counts-again c s o n h = ap unpack (sym (packed-few c h)) ∙ unpacked c s o n

pub number-again : (n : ℕ) → (unpack n).opened ≤ 4294967295 → packed (unpack n) ≡ n
number-again n h = sym (packed-few (unpack n) h) ∙ packed-again n

-- ---- the numbers and lengths of a world

-- THEY SAY whether its counts fit
pub counts-fit : (w : World) (c : Counts) → counts_fit w c ≡ numbers_fit (numbers_of w) (lengths_of w) c
unfolding counts_fit areas_fit begun_fit numbers_fit areas_long begun within_limits used_within
counts-fit w c = refl
