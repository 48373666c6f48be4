-- THE CLAIMS about the totals of a run: any list of calls from a session just set up, over stores and areas of any length and content. What is read of a
-- number is what the tree has of it; where an area is too short every call is refused, and all stays at nothing.
-- Assumes nothing.
use Prim.Native.Nat.{ℕ, ◌≤◌, ◌<◌}
use native.Mathlib.Omega.{arith}
use borrow.Author.Tests.{le-leb, ltb-true, ltb-false}
use lib.Dec.{eqb, leb, ltb}
use lib.ListN.{length, take, length-map}
use mathlib.Core.Path.{◌≡◌, refl, ap, ap₂, sym, ◌∙◌, subst}
use mathlib.Core.Bool.{Bool, true, false, cond}
use mathlib.Core.List.{List, [], ◌∷◌, ◌++◌, map, flat_map}
use mathlib.Core.Option.{Option, none, some}
use Rattle.lists.specs.Lists.{all, any, passing, foldl}
use Rattle.lists.proofs.Folds.{passing-map}
use Rattle.tree.specs.Tree.{items}
use Rattle.tree.specs.Judge.{Tuple, Out, blank, judge_all}
use Rattle.tree.specs.Build.{◌⊕◌, plug_with, plug, build, tree}
use Rattle.paths.specs.Reading.{on_some}
use Rattle.records.specs.Readers.{Bytes, reads, read_all}
use Rattle.records.specs.Refusals.{unfit}
use Rattle.records.specs.Records.{Rec, parse}
use Rattle.session_spec.specs.Definitions.{no_definitions, or_none, read_definitions}
use Rattle.session_spec.specs.Layout.{TuRecord, tu_of, ScopeRecord}
use Rattle.session_spec.specs.Session.{World, Reply, refused, areas_fit, step, set_up}
use Rattle.session_spec.specs.Runs.{session_of, run_calls, taken_of, accepted, stored_reports, events_of, tree_of, tree_out}
use Rattle.runs.proofs.Calls.{After}
use Rattle.runs.proofs.Refused.{short-step, short-run}
use Rattle.runs.proofs.Claims as claims
use Rattle.runs.proofs.Claims.{out-tree}
use Rattle.constraints.proofs.Replays.{ids-few}
use Rattle.totals.specs.Counts.{reached, tuples_of, reports_of}
use Rattle.totals.specs.Totals.{Total, nothing, Totals, no_totals, entry_at, totals_fit, count_of, constraints_in, total_of}
use Rattle.totals.specs.Calls.{Account, tallied, advance, advanced, taken_in, tree_total, stored_tuples, stored_for}
use Rattle.totals.proofs.Brought.{total_in}
use Rattle.totals.proofs.Unknown.{no-tuples, no-reports}
use Rattle.totals.proofs.Runs.{Good, good-fits, zeros-are, advance-world, account, advanced-good, advanced-world, begun-good}

-- ---- the reading of a session of which all this holds

ids-counted : (w : World) (rs : List Rec) → After w rs → constraints_in w.definitions w.definition_store ≡ length (session_of rs).defs.ids
unfolding constraints_in read_definitions count_of on_some
ids-counted w rs a =
    let h = a.holds in
    rw (le-leb w.definitions (length w.definition_store) h.definitions.room, h.definitions.read, h.made)

few-ids : (w : World) (rs : List Rec) → After w rs → length (session_of rs).defs.ids ≤ 32
few-ids w rs a =
    let h = a.holds in
    ids-few (take w.definitions w.definition_store) (session_of rs).defs (unfold read_definitions on_some in (rw h.definitions.read h.made))

tree-has : (w : World) (rs : List Rec) → After w rs → (k : ℕ) → total_in rs k ≡ tree_total rs k
unfolding tree_total
tree-has w rs a k = rw (out-tree w rs a)

good-read : (w : World) (ns : Totals) (rs : List Rec) → Good w ns rs → (k : ℕ) → total_of ns (constraints_in w.definitions w.definition_store) k ≡ some (tree_total rs k)
unfolding total_of
good-read w ns rs g k = rw (good-fits w ns rs g, ids-counted w rs g.after) (by (ltb k (length (session_of rs).defs.ids)) refl ∙ ap some (tree-has w rs g.after k))
  where
    by : (b : Bool) → ltb k (length (session_of rs).defs.ids) ≡ b → some (cond b (entry_at ns k) nothing) ≡ some (total_in rs k)
    by true e = ap some (g.told.each k (omega (arith, ltb-true k (length (session_of rs).defs.ids) e, few-ids w rs g.after)))
    by false e =
        let h = ltb-false k (length (session_of rs).defs.ids) e in
        let a = g.unknown k h in
        let b = no-tuples w (session_of rs) g.after.holds k h in
        let c = no-reports w (session_of rs) g.after.holds k h in
        ap some (λ i. record { reached = sym a i; tuples = sym b i; reports = sym c i })

-- ---- where an area is too short

module _ (w : World) (f : areas_fit w ≡ false) where
  zeros-fit : totals_fit no_totals ≡ true
  unfolding totals_fit
  zeros-fit = refl

  short-advance : (x : Bytes) → advance (account w no_totals) x ≡ (refused unfit, account w no_totals)
  unfolding advance tallied
  short-advance x = rw (zeros-fit, short-step w f x)

  short-advanced : (xs : List Bytes) → (advanced (account w no_totals) xs ≡ account w no_totals) × (taken_in (account w no_totals) xs ≡ [])
  unfolding advanced taken_in taken_of
  short-advanced [] = (refl, refl)
  short-advanced (x ∷ xs) = rw (short-advance x) (short-advanced xs)

-- of zeros nothing is read, however many constraints there are
zeros-read : (n k : ℕ) → total_of no_totals n k ≡ some nothing
unfolding total_of totals_fit
zeros-read n k = by (ltb k n)
  where
    by : (b : Bool) → some (cond b (entry_at no_totals k) nothing) ≡ some nothing
    by true = ap some (zeros-are 32 k)
    by false = refl

nothing-told : (k : ℕ) → tree_total [] k ≡ nothing
unfolding tree_total tree_out tree_of tree build plug plug_with ◌⊕◌ events_of flat_map items judge_all reached tuples_of reports_of passing
nothing-told k = refl

module _ (ds tus rps na : Bytes) (ss : List ScopeRecord) (cs : Bytes) (ps : ℕ) where
  abbrev fresh : World
  fresh = set_up ds tus rps na ss cs ps

  abbrev begun : Account
  begun = account fresh no_totals

  -- RUN-WORLD: the rest of the session, and which records are taken, do not depend on totals.
  pub run-world : (xs : List Bytes) → ((advanced begun xs).world ≡ run_calls fresh xs) × (taken_in begun xs ≡ accepted fresh xs)
  run-world xs = by (areas_fit fresh) refl
    where
      by : (b : Bool) → areas_fit fresh ≡ b → ((advanced begun xs).world ≡ run_calls fresh xs) × (taken_in begun xs ≡ accepted fresh xs)
      by true e = advanced-world fresh no_totals [] (begun-good ds tus rps na ss cs ps e) xs
      by false e =
          let s = short-advanced fresh e xs in
          let t = short-run fresh e xs in
          (ap (λ (a : Account). a.world) s.0 ∙ sym t.0, s.1 ∙ sym t.1)

  -- RUN-REPLY: and neither does the answer to one record more.
  pub run-reply : (xs : List Bytes) (x : Bytes) → (advance (advanced begun xs) x).0 ≡ (step (run_calls fresh xs) x).0
  run-reply xs x = by (areas_fit fresh) refl
    where
      by : (b : Bool) → areas_fit fresh ≡ b → (advance (advanced begun xs) x).0 ≡ (step (run_calls fresh xs) x).0
      by true e =
          let g = advanced-good fresh no_totals [] (begun-good ds tus rps na ss cs ps e) xs in
          (advance-world (advanced begun xs).world (advanced begun xs).totals (taken_in begun xs) g x).1
          ∙ ap (λ (v : World). (step v x).0) (run-world xs).0
      by false e =
          ap (λ (a : Account). (advance a x).0) (short-advanced fresh e xs).0
          ∙ ap (λ (o : Reply × Account). o.0) (short-advance fresh e x)
          ∙ sym (ap (λ (o : Reply × World). o.0) (short-step fresh e x))
          ∙ sym (ap (λ (v : World). (step v x).0) (short-run fresh e xs).0)

  -- RUN-FITS: no total comes over its limit.
  pub run_fits : (xs : List Bytes) → totals_fit (advanced begun xs).totals ≡ true
  run_fits xs = by (areas_fit fresh) refl
    where
      by : (b : Bool) → areas_fit fresh ≡ b → totals_fit (advanced begun xs).totals ≡ true
      by true e =
          good-fits (advanced begun xs).world (advanced begun xs).totals (taken_in begun xs)
          (advanced-good fresh no_totals [] (begun-good ds tus rps na ss cs ps e) xs)
      by false e = ap (λ (a : Account). totals_fit a.totals) (short-advanced fresh e xs).0 ∙ zeros-fit fresh e

  -- what is read of a number after these calls
  abbrev read_after : List Bytes → ℕ → Option Total
  read_after xs k =
      total_of (advanced begun xs).totals (constraints_in (advanced begun xs).world.definitions (advanced begun xs).world.definition_store) k

  -- TOTALS-ARE: of every number it is what the tree of the taken records has; of one that no constraint has, three zeros.
  pub totals-are : (xs : List Bytes) (k : ℕ) → read_after xs k ≡ some (tree_total (taken_in begun xs) k)
  totals-are xs k = by (areas_fit fresh) refl
    where
      by : (b : Bool) → areas_fit fresh ≡ b → read_after xs k ≡ some (tree_total (taken_in begun xs) k)
      by true e =
          good-read (advanced begun xs).world (advanced begun xs).totals (taken_in begun xs)
          (advanced-good fresh no_totals [] (begun-good ds tus rps na ss cs ps e) xs) k
      by false e =
          let s = short-advanced fresh e xs in
          rw (s.0, s.1, nothing-told k) (zeros-read _ k)

  -- TOTALS-STORED: and of tuples and reports, what stands in the stores' bytes.
  pub totals-stored : (xs : List Bytes) (k : ℕ)
      → ((tree_total (taken_in begun xs) k).tuples ≡ stored_for k (stored_tuples (advanced begun xs).world))
      × ((tree_total (taken_in begun xs) k).reports ≡ reports_of k (stored_reports (advanced begun xs).world))
  unfolding tree_total stored_tuples stored_for or_none tuples_of tu_of
  totals-stored xs k =
      let w = run-world xs in
      let t = claims.run-is-tree ds tus rps na ss cs ps xs in
      let ts : List Tuple = (tree_out (accepted fresh xs)).tuples in (
        rw (w.0, w.1, t.tuples) (sym (ap length (passing-map (λ (u : TuRecord). eqb u.constraint k) tu_of ts) ∙ length-map (passing (λ (u : Tuple). eqb u.constraint.number k) ts) tu_of)),
        rw (w.0, w.1, claims.record-for-record ds tus rps na ss cs ps xs),
      )
