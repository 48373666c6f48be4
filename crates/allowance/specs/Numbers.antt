-- THE 34 NUMBERS that hold an allowance: T, how many jobs there are, and for each of eight places guarantee, cap, bytes
-- used and mark.
-- Assumes nothing.
use Rattle.std.specs.Prelude.{ℕ, zero, suc, ◌/◌, length, drop, get_or, List, [], ◌∷◌}
use Rattle.allowance.specs.Allowance.{Job, Allowance}

-- the job at the front
unfoldable pub job_in : List ℕ → Job
job_in ns = record { guarantee = get_or ns 0 0; cap = get_or ns 1 0; used = get_or ns 2 0; mark = get_or ns 3 0 }

-- so many jobs, one behind the other
unfoldable pub jobs_from : (count : ℕ) → List ℕ → List Job
jobs_from zero ns = []
jobs_from (suc n) ns = job_in ns ∷ jobs_from n (drop 4 ns)

unfoldable pub allowance_in : List ℕ → Allowance
allowance_in ns = record { total = get_or ns 0 0; count = get_or ns 1 0; places = jobs_from 8 (drop 2 ns) }
