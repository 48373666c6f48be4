-- `reach_nodes` meets its contract: number by number.
-- Assumes nothing.
use Prim.Native.Nat.{ℕ, min, ◌*◌}
use native.Mathlib.Omega.{arith}
use lib.Dec.{eqb}
use lib.ListN.{length, take, get_or}
use lib.Seq.{length-take-le}
use mathlib.Core.Path.{◌≡◌, ap, sym, subst, ◌∙◌}
use mathlib.Core.Bool.{Bool, cond}
use Rattle.std.proofs.lemmas.Option.{cond_some}
use Rattle.records.specs.Readers.{Bytes}
use Rattle.cells.specs.Cells.{depth_at, scope_at}
use Rattle.bindings.specs.Bindings.{bound_by}
use Rattle.matching.specs.Walks.{node_in}
use Rattle.reaching.specs.Rows.{reach_from}
use Rattle.reaching.proofs.Rows.{Filled, base-not, one-filled, all-filled}
use Rattle.reaching.proofs.reach_nodes.Goals.{in-Some, in_default}
use Rattle.reaching.proofs.reach_nodes.Goals as goal

pub loop-j-preserved : goal.loop-j-preserved
unfolding reach_from
loop-j-preserved c =
    let a = c.args in
    let of = a.of.now in
    let l = c.loop-j in
    let cells : Bytes = of.cells.now in
    let f : ℕ → ℕ = reach_from (bound_by a.b.now) a.area.now a.names.now a.depth (node_in a.attribute) in
    let asked : Bool = eqb (scope_at cells (512 * l.j)) of.place in
    elim c.match-base_of.branch [
      | in-Some w ↦
          let t = cond_some asked (depth_at cells (512 * l.j)) w.in-Some.base (sym w.in-Some.ensures) in
          let e : w.reach_node.result ≡ cond asked (f (depth_at cells (512 * l.j))) (get_or l.count-items l.j 0) =
          w.reach_node.ensures ∙ ap f (sym t.1)
          ∙ sym (ap (λ (b : Bool). cond b (f (depth_at cells (512 * l.j))) (get_or l.count-items l.j 0)) t.0) in
          rw w.count-items-is (one-filled f of.place of.n cells _ l.count-items l.j w.reach_node.result l.invariant c.loop-j-test.true e)
      | in_default w ↦
          let v : ℕ = get_or l.count-items l.j 0 in
          let e : v ≡ cond asked (f (depth_at cells (512 * l.j))) v = sym (ap (λ (b : Bool). cond b (f (depth_at cells (512 * l.j))) v) (base-not asked (depth_at cells (512 * l.j)) w.in_default.ensures)) in
          rw w.count-items-is (one-filled f of.place of.n cells _ l.count-items l.j v l.invariant c.loop-j-test.true e)
    ]

pub returns : goal.returns
returns c =
    let a = c.args in
    let l = c.loop-j in
    let k : ℕ = c.min-last.result in
    let few : k ≡ min 32 (min a.of.now.n (length a.counts.now)) = omega (arith, c.min-last.ensures, c.min.ensures) in
    let f : ℕ → ℕ = reach_from (bound_by a.b.now) a.area.now a.names.now a.depth (node_in a.attribute) in
    let w : length (take k a.counts.now) ≡ k = length-take-le k a.counts.now (omega arith) in
    let e : l.j ≡ k = omega (arith, w, l.auto.j-end, c.loop-j-test.false) in
    all-filled f a.of.now.place a.of.now.n a.of.now.cells.now a.counts.now l.count-items k few
    (subst (Filled f a.of.now.place a.of.now.n a.of.now.cells.now (take k a.counts.now) l.count-items) e l.invariant)
