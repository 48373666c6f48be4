-- THE DISPATCHER, told which jobs wait and which was served last, if any: it names the next waiting one above that by
-- number, else the lowest waiting, or that none waits.
-- Assumes nothing.
use Rattle.std.specs.Prelude.{ℕ, zero, suc, ◌/◌, ◌%◌, eqb, leb, length, get_or, ◌≡◌, Bool, true, false, cond, ◌&&◌, List, [], ◌∷◌}
use Rattle.std.proofs.Math.Option.{Option, none, some, or_else}

-- the lowest waiting number that is not below `from`; `ws` says of n, n + 1, .. whether they wait
unfoldable pub waiting_from : (from n : ℕ) → (ws : List Bool) → Option ℕ
waiting_from from n [] = none
waiting_from from n (w ∷ ws) = cond (w && leb from n) (some n) (waiting_from from (suc n) ws)

unfoldable pub lowest_waiting : List Bool → Option ℕ
lowest_waiting ws = waiting_from 0 0 ws

unfoldable pub next_job : (last : Option ℕ) → List Bool → Option ℕ
next_job none ws = lowest_waiting ws
next_job (some last) ws = or_else (waiting_from (suc last) 0 ws) (lowest_waiting ws)

-- ---- the jobs that wait as the bits of a byte, job 0 the lowest

unfoldable pub bits_from : (count : ℕ) → ℕ → List Bool
bits_from zero b = []
bits_from (suc n) b = eqb (b % 2) 1 ∷ bits_from n (b / 2)

abbrev pub waiting_in : (byte : ℕ) → List Bool
waiting_in b = bits_from 8 b

-- ---- turn after turn: who waits at each, and who is served; a record that is refused was served too

unfoldable pub served_on : Option ℕ → (last : Option ℕ) → (Option ℕ → List ℕ) → List ℕ
served_on none last rest = rest last
served_on (some k) last rest = k ∷ rest (some k)

unfoldable pub served_in : (last : Option ℕ) → (turns : List (List Bool)) → List ℕ
served_in last [] = []
served_in last (ws ∷ turns) = served_on (next_job last ws) last (λ l. served_in l turns)

-- job j waits, of eight
abbrev pub Waits : ℕ → List Bool → Type 0
Waits j ws = (length ws ≡ 8) × (get_or ws j false ≡ true)
