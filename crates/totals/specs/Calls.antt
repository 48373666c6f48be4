-- THE RECORD CALL of a session with its totals: what `step` does, and the totals grown by what the record brought.
-- Assumes nothing.
use Rattle.std.specs.Prelude.{ℕ, eqb, length, take, cond, List, [], ◌∷◌, ◌++◌}
use Rattle.lists.specs.Lists.{passing}
use Rattle.tree.specs.Tree.{items}
use Rattle.records.specs.Readers.{Bytes, reads}
use Rattle.records.specs.Refusals.{unfit}
use Rattle.records.specs.Records.{Rec, parse}
use Rattle.session_spec.specs.Definitions.{or_none}
use Rattle.session_spec.specs.Layout.{TuRecord, read_tu}
use Rattle.session_spec.specs.Session.{World, decode, Reply, taken, refused, step}
use Rattle.session_spec.specs.Runs.{taken_of, tree_of, tree_out}
use Rattle.totals.specs.Counts.{reached, tuples_of, reports_of}
use Rattle.totals.specs.Totals.{Total, Totals, totals_fit, grown_by}

-- all that is lent, and the totals
pub record Account : Type 0 where
  pub world : World
  pub totals : Totals

-- the totals beside what `step` comes to: a record that is taken counts, a refused one does not
unfoldable pub tallied : Account → Bytes → Reply × World → Reply × Account
tallied a bs (taken, v) = (taken, record { world = v; totals = grown_by (decode a.world) (parse bs) a.totals })
tallied a bs (refused c, v) = (refused c, record { world = v; totals = a.totals })

-- a total over its limit is refused as any session that is not well formed
unfoldable pub advance : Account → Bytes → Reply × Account
advance a bs = cond (totals_fit a.totals) (tallied a bs (step a.world bs)) (refused unfit, a)

-- ---- calls one after another

unfoldable pub advanced : Account → List Bytes → Account
advanced a [] = a
advanced a (x ∷ xs) = advanced (advance a x).1 xs

-- the records that no refusal meets
unfoldable pub taken_in : Account → List Bytes → List Rec
taken_in a [] = []
taken_in a (x ∷ xs) = taken_of (advance a x).0 (parse x) ++ taken_in (advance a x).1 xs

-- ---- what the totals of a run are to be

-- of constraint k, in the tree of the records that were taken and in what the tree definition puts out for it
unfoldable pub tree_total : List Rec → (k : ℕ) → Total
tree_total rs k =
    record {
      reached = reached k (items [] (tree_of rs));
      tuples = tuples_of k (tree_out rs).tuples;
      reports = reports_of k (tree_out rs).reports;
    }

-- the TUs in the used part of the tuple store, and how many of them bear a constraint's number
unfoldable pub stored_tuples : World → List TuRecord
stored_tuples w = or_none (reads read_tu (take w.tuples w.tuple_store))

unfoldable pub stored_for : (k : ℕ) → List TuRecord → ℕ
stored_for k ts = length (passing (λ t. eqb t.constraint k) ts)
