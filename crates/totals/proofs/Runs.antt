-- THE TOTALS OF A RUN are those of the tree: by induction on the calls, beside what holds of the rest of the session.
-- Assumes nothing.
use Prim.Native.Nat.{ℕ, zero, suc, ◌+◌, ◌*◌, ◌≤◌, ◌<◌}
use native.Mathlib.Nat.{add-zero}
use native.Mathlib.Omega.{arith}
use borrow.Author.Tests.{le-leb}
use lib.ListN.{length, replicate}
use mathlib.Core.Path.{◌≡◌, refl, ap, ap₂, sym, ◌∙◌, subst}
use mathlib.Core.Bool.{Bool, true, false, cond}
use mathlib.Core.List.{List, [], ◌∷◌, ◌++◌, flat_map, append-nil, append_assoc}
use mathlib.Core.Option.{Option, none, some}
use Rattle.std.proofs.lemmas.Bool.{and_from}
use Rattle.lists.specs.Lists.{all, passing, foldl}
use Rattle.tree.specs.Tree.{items}
use Rattle.tree.specs.Build.{◌⊕◌, plug_with, plug, build, tree}
use Rattle.records.specs.Readers.{Bytes}
use Rattle.records.specs.Refusals.{Refusal, first_of}
use Rattle.records.specs.Records.{Rec, Parsed, unparsed, parsed, parse}
use Rattle.session_spec.specs.Layout.{ScopeRecord}
use Rattle.session_spec.specs.Session.{World, Session, next, rows, Reply, taken, refused, areas_fit, decode, settled, considered, step, set_up}
use Rattle.session_spec.specs.Runs.{session_of, run_calls, taken_of, accepted, events_of, tree_of}
use Rattle.session_laws.proofs.Holds.{areas-are, decoded}
use Rattle.runs.proofs.Calls.{After, step_is, step_after, after_run}
use Rattle.totals.specs.Counts.{reached, tuples_of, reports_of}
use Rattle.totals.specs.Totals.{Total, nothing, Totals, no_totals, entry_at, fits_total, totals_fit, brings, sum_up_to, grown_from, grown_by}
use Rattle.totals.specs.Calls.{Account, tallied, advance, advanced, taken_in}
use Rattle.totals.proofs.Brought.{grown, total_in, Small, Next, one_more}
use Rattle.totals.proofs.Unknown.{Unknown, unknown-next}

-- ---- the entries

-- they are those of the tree of `rs`
pub record Told (ns : Totals) (rs : List Rec) : Type 0 where
  pub many : length ns ≡ 96
  pub each : (k : ℕ) → k < 32 → entry_at ns k ≡ total_in rs k

pub length-grown : (f : ℕ → Total) (j : ℕ) (ns : Totals) → length (grown_from f j ns) ≡ length ns
unfolding grown_from
length-grown f j [] = refl
length-grown f j (a ∷ []) = refl
length-grown f j (a ∷ b ∷ []) = refl
length-grown f j (a ∷ b ∷ c ∷ ns) = ap (λ (n : ℕ). suc (suc (suc n))) (length-grown f (suc j) ns)

entry-grown : (f : ℕ → Total) (j : ℕ) (ns : Totals) (k : ℕ) → 3 * k + 2 < length ns → entry_at (grown_from f j ns) k ≡ grown (entry_at ns k) (f (j + k))
unfolding grown_from entry_at
entry-grown f j [] k h = absurd (omega arith)
entry-grown f j (a ∷ []) k h = absurd (omega arith)
entry-grown f j (a ∷ b ∷ []) k h = absurd (omega arith)
entry-grown f j (a ∷ b ∷ c ∷ ns) zero h = rw add-zero
entry-grown f j (a ∷ b ∷ c ∷ ns) (suc k) h = entry-grown f (suc j) ns k (omega arith) ∙ ap (λ (n : ℕ). grown (entry_at ns k) (f n)) (omega arith)

-- all numbers are within the limit where those of each entry are
abbrev Within : Total → Type 0
Within t = (t.reached ≤ 32000000) × ((t.tuples ≤ 32000000) × (t.reports ≤ 32000000))

entries_fit : (m : ℕ) (ns : Totals) → length ns ≡ 3 * m → ((k : ℕ) → k < m → Within (entry_at ns k)) → all fits_total ns ≡ true
unfolding entry_at
entries_fit m [] e h = refl
entries_fit m (a ∷ []) e h = absurd (omega arith)
entries_fit m (a ∷ b ∷ []) e h = absurd (omega arith)
entries_fit zero (a ∷ b ∷ c ∷ ns) e h = absurd (omega arith)
entries_fit (suc m) (a ∷ b ∷ c ∷ ns) e h =
    let t = h 0 (omega arith) in
    and_from (fits_total a) _ (le-leb a 32000000 t.0)
    (and_from (fits_total b) _ (le-leb b 32000000 t.1.0)
    (and_from (fits_total c) _ (le-leb c 32000000 t.1.1) (entries_fit m ns (omega arith) (λ k l. h (suc k) (omega arith)))))

pub record Good (w : World) (ns : Totals) (rs : List Rec) : Type 0 where
  pub after : After w rs
  pub told : Told ns rs
  pub small : (k : ℕ) → Small (session_of rs) (total_in rs k)
  pub unknown : Unknown rs

small-fits : (s : Session) (t : Total) → s.state.events ≤ 1000000 → Small s t → Within t
small-fits s t h m = (omega (arith, m.reached), (omega (arith, m.tuples), omega (arith, m.reports)))

pub good-fits : (w : World) (ns : Totals) (rs : List Rec) → Good w ns rs → totals_fit ns ≡ true
unfolding totals_fit
good-fits w ns rs g =
    entries_fit 32 ns g.told.many (λ k h. subst Within (sym (g.told.each k h)) (small-fits (session_of rs) (total_in rs k) g.after.holds.early (g.small k)))

-- ---- one call

module _ (w : World) (ns : Totals) (rs : List Rec) (g : Good w ns rs) (x : Bytes) where
  abbrev here : Account
  here = record { world = w; totals = ns }

  abbrev at : Session
  at = session_of rs

  told-next : (r : Rec) → parse x ≡ parsed r → first_of (rows w at r (next at r) x) ≡ none → Told (grown_from (brings at r (next at r)) 0 ns) (rs ++ (r ∷ []))
  told-next r p e =
      record {
        many = length-grown (brings at r (next at r)) 0 ns ∙ g.told.many;
        each = λ k h.
            entry-grown (brings at r (next at r)) 0 ns k (omega (arith, g.told.many))
            ∙ ap (λ (n : ℕ). grown (entry_at ns k) (brings at r (next at r) n)) (omega arith)
            ∙ ap (λ (t : Total). grown t (brings at r (next at r) k)) (g.told.each k h)
            ∙ (one_more w rs g.after x k r p e (g.small k)).same;
      }

  -- what `step` comes to, with the totals beside it
  abbrev Then : Reply × World → Type 0
  Then o = Good (tallied here x o).1.world (tallied here x o).1.totals (rs ++ taken_of o.0 (parse x))

  settled-then : (r : Rec) → parse x ≡ parsed r → (o : Option Refusal) → first_of (rows w at r (next at r) x) ≡ o
      → After (settled w at r (next at r) x o).1 (rs ++ taken_of (settled w at r (next at r) x o).0 (parsed r)) → Then (settled w at r (next at r) x o)
  unfolding settled tallied taken_of grown_by
  settled-then r p none e f =
      let d : decode w ≡ some at = decoded w at g.after.holds in
      record {
        after = rw p f;
        told = rw (d, p) (told-next r p e);
        small = λ k. rw p (one_more w rs g.after x k r p e (g.small k)).small;
        unknown = rw p (unknown-next w rs g.after x r p e g.unknown);
      }
  settled-then r p (some c) e f = rw append-nil g

  considered-then : (p : Parsed) → parse x ≡ p → After (considered w at x p).1 (rs ++ taken_of (considered w at x p).0 p) → Then (considered w at x p)
  unfolding considered
  considered-then (unparsed c) e f = unfold tallied taken_of in (rw append-nil g)
  considered-then (parsed r) e f = settled-then r e (first_of (rows w at r (next at r) x)) refl f

  step_then : Then (step w x)
  step_then =
      subst Then (sym (step_is w rs g.after x))
      (considered-then (parse x) refl (subst (λ (o : Reply × World). After o.1 (rs ++ taken_of o.0 (parse x))) (step_is w rs g.after x) (step_after w rs g.after x)))

  advance-is : advance here x ≡ tallied here x (step w x)
  unfolding advance
  advance-is = rw (good-fits w ns rs g)

  -- the rest of the session, and the reply, are those of `step`
  tallied-world : (o : Reply × World) → ((tallied here x o).1.world ≡ o.1) × ((tallied here x o).0 ≡ o.0)
  unfolding tallied
  tallied-world (taken, v) = (refl, refl)
  tallied-world (refused c, v) = (refl, refl)

  pub advance-world : ((advance here x).1.world ≡ (step w x).1) × ((advance here x).0 ≡ (step w x).0)
  advance-world = rw advance-is (tallied-world (step w x))

  pub advance-good : Good (advance here x).1.world (advance here x).1.totals (rs ++ taken_of (advance here x).0 (parse x))
  advance-good =
      let t = step_then in
      let q : (tallied here x (step w x)).0 ≡ (step w x).0 = (tallied-world (step w x)).1 in
      subst (λ (o : Reply × Account). Good o.1.world o.1.totals (rs ++ taken_of o.0 (parse x))) (sym advance-is)
      (subst (λ (y : Reply). Good (tallied here x (step w x)).1.world (tallied here x (step w x)).1.totals (rs ++ taken_of y (parse x))) (sym q) t)

-- ---- calls one after another

abbrev pub account : World → Totals → Account
account w ns = record { world = w; totals = ns }

pub advanced-good : (w : World) (ns : Totals) (rs : List Rec) → Good w ns rs → (xs : List Bytes)
    → Good (advanced (account w ns) xs).world (advanced (account w ns) xs).totals (rs ++ taken_in (account w ns) xs)
unfolding advanced taken_in
advanced-good w ns rs g [] = rw append-nil g
advanced-good w ns rs g (x ∷ xs) =
    let k : Account = (advance (account w ns) x).1 in
    rw (← (append_assoc rs (taken_of (advance (account w ns) x).0 (parse x)) (taken_in k xs)))
    (advanced-good k.world k.totals (rs ++ taken_of (advance (account w ns) x).0 (parse x)) (advance-good w ns rs g x) xs)

-- the rest of the session goes as it would without totals
pub advanced-world : (w : World) (ns : Totals) (rs : List Rec) → Good w ns rs → (xs : List Bytes)
    → ((advanced (account w ns) xs).world ≡ run_calls w xs) × (taken_in (account w ns) xs ≡ accepted w xs)
unfolding advanced taken_in run_calls accepted
advanced-world w ns rs g [] = (refl, refl)
advanced-world w ns rs g (x ∷ xs) =
    let k : Account = (advance (account w ns) x).1 in
    let c = advance-world w ns rs g x in
    let h = advanced-world k.world k.totals (rs ++ taken_of (advance (account w ns) x).0 (parse x)) (advance-good w ns rs g x) xs in
    (h.0 ∙ ap (λ (v : World). run_calls v xs) c.0, ap₂ {C = List Rec} ◌++◌ (ap (λ (y : Reply). taken_of y (parse x)) c.1) (h.1 ∙ ap (λ (v : World). accepted v xs) c.0))

-- ---- set-up

none_yet : (k : ℕ) → total_in [] k ≡ nothing
unfolding tree_of tree build plug plug_with ◌⊕◌ items reached tuples_of reports_of passing events_of flat_map session_of
none_yet k = refl

pub zeros-are : (n k : ℕ) → entry_at (replicate (3 * n) 0) k ≡ nothing
unfolding entry_at
zeros-are zero k = refl
zeros-are (suc n) zero = subst (λ (m : ℕ). entry_at (replicate m 0) 0 ≡ nothing) (let e : suc (suc (suc (3 * n))) ≡ 3 * suc n = omega arith in e) refl
zeros-are (suc n) (suc k) =
    subst (λ (m : ℕ). entry_at (replicate m 0) (suc k) ≡ nothing) (let e : suc (suc (suc (3 * n))) ≡ 3 * suc n = omega arith in e) (zeros-are n k)

none-known : Unknown []
unfolding tree_of tree build plug plug_with ◌⊕◌ items reached passing events_of flat_map
none-known k h = refl

small-none : (k : ℕ) → Small (session_of []) (total_in [] k)
small-none k = subst (Small (session_of [])) (sym (none_yet k)) (record { reached = omega arith; tuples = omega arith; reports = omega arith; live = λ _. omega arith })

module _ (ds tus rps na : Bytes) (ss : List ScopeRecord) (cs : Bytes) (ps : ℕ) where
  abbrev fresh : World
  fresh = set_up ds tus rps na ss cs ps

  pub begun-good : areas_fit fresh ≡ true → Good fresh no_totals []
  begun-good a =
      record {
        after = unfold run_calls accepted in (after_run ds tus rps na ss cs ps (areas-are fresh a) []);
        told = record { many = refl; each = λ k h. zeros-are 32 k ∙ sym (none_yet k) };
        small = small-none;
        unknown = none-known;
      }
