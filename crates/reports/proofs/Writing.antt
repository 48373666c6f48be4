-- A report's bytes are its head and three numbers, written one behind the other.
-- Assumes nothing.
use Prim.Native.Nat.{ℕ, ◌≤◌}
use native.Mathlib.Omega.{arith}
use lib.ListN.{length, drop_of_length-le}
use mathlib.Core.Path.{◌≡◌, refl, ap, ◌∙◌}
use mathlib.Core.List.{List, ◌++◌, append-nil}
use Rattle.lists.specs.Lists.{put}
use Rattle.lists.proofs.Writes.{put_then, put-fits}
use Rattle.numbers.specs.Numbers.{two_bytes, four_bytes}
use Rattle.tree.specs.Judge.{Report}
use Rattle.session_spec.specs.Layout.{put_rp}
use Rattle.session_laws.proofs.Stores.{rp-length}
use Rattle.reports.specs.Reports.{rp_head}

pub rp-written : (d : List ℕ) (r : Report) → 18 ≤ length d
    → put (put (put (put d 0 (rp_head r.kind r.constraint r.field)) 6 (four_bytes r.scope)) 10 (four_bytes r.event)) 14 (four_bytes r.tuple) ≡ put d 0 (put_rp r)
unfolding put_rp four_bytes two_bytes
rp-written d r h =
    let k = rp_head r.kind r.constraint r.field in
    let s = four_bytes r.scope in
    let e = four_bytes r.event in
    let t = four_bytes r.tuple in
    ap (λ (l : List ℕ). put (put l 10 e) 14 t) (put_then d 0 6 k s refl (omega arith))
    ∙ ap (λ (l : List ℕ). put l 14 t) (put_then d 0 10 (k ++ s) e refl (omega arith))
    ∙ put_then d 0 14 ((k ++ s) ++ e) t refl (omega arith)

-- over bytes of the same length nothing else is left
pub rp-all : (d : List ℕ) (r : Report) → length d ≡ 18
    → put (put (put (put d 0 (rp_head r.kind r.constraint r.field)) 6 (four_bytes r.scope)) 10 (four_bytes r.event)) 14 (four_bytes r.tuple) ≡ put_rp r
rp-all d r h =
    let n = rp-length r in
    rp-written d r (omega arith)
    ∙ put-fits d 0 (put_rp r) (omega arith)
    ∙ ap (λ (l : List ℕ). put_rp r ++ l) (drop_of_length-le d (omega arith))
    ∙ append-nil (put_rp r)
