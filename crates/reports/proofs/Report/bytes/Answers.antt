-- `bytes` meets its contract: head and numbers are written one behind the other, over zeros of the same length.
-- Assumes nothing.
use Prim.Native.Nat.{ℕ}
use lib.ListN.{replicate}
use mathlib.Core.List.{List}
use mathlib.Core.Path.{refl, ap, ◌∙◌}
use Rattle.numbers.specs.Numbers.{four_bytes}
use Rattle.lists.specs.Lists.{put}
use Rattle.reports.proofs.Writing.{rp-all}
use Rattle.reports.specs.Reports.{report_of}
use Rattle.reports.proofs.Report.bytes.Goals as goal

pub returns : goal.returns
returns c =
    let r = c.args.self in
    c.put_four-3.ensures
    ∙ ap (λ (l : List ℕ). put l 14 (four_bytes r.tuple)) c.put_four-2.ensures
    ∙ ap (λ (l : List ℕ). put (put l 10 (four_bytes r.event)) 14 (four_bytes r.tuple)) c.put_four.ensures
    ∙ ap (λ (l : List ℕ). put (put (put l 6 (four_bytes r.scope)) 10 (four_bytes r.event)) 14 (four_bytes r.tuple)) c.put_bytes.ensures
    ∙ ap (λ (h : List ℕ). put (put (put (put (replicate 18 0) 0 h) 6 (four_bytes r.scope)) 10 (four_bytes r.event)) 14 (four_bytes r.tuple)) c.head.ensures
    ∙ rp-all (replicate 18 0) (report_of r) refl
