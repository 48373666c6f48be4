-- What `settle_one` answers of a selection is what the fed selection adds, and the size of its TU: the bytes are the fed selection's, their cells are its cells, and
-- only a complete one is kept.
-- Assumes nothing.
use Prim.Native.Nat.{ℕ, suc, ◌+◌, ◌*◌, ◌≤◌, ◌<◌, min}
use native.Mathlib.Omega.{arith}
use native.Mathlib.Nat.{zero-add}
use lib.ListN.{length, take, drop, get_or}
use lib.Seq.{drop-drop, take_all}
use mathlib.Core.Path.{◌≡◌, refl, ap, sym, ◌∙◌, subst}
use mathlib.Core.Bool.{Bool, true, false, cond, false≢true}
use mathlib.Core.List.{List, [], ◌∷◌, flat_map, append-nil}
use mathlib.Core.Option.{Option, none, some}
use Rattle.lists.specs.Lists.{any, only_if, part}
use Rattle.texts.specs.Texts.{Text}
use Rattle.tree.specs.Events as events
use Rattle.tree.specs.Events.{Kind, unique, key, keyref}
use Rattle.tree.specs.Cells.{Hit, Cell, Unset}
use Rattle.tree.specs.Judge.{Tuple, Outcome, is_multiple, is_not_simple, first_unset, first_nillable, keys_of, several_nodes, no_simple_value, set_or, missing_or, outcome, tuple_of, present}
use Rattle.machine.specs.Machine.{OpenScope, Selection, feed, end_gives}
use Rattle.records.specs.Readers.{Bytes}
use Rattle.session_spec.specs.Layout.{put_tu, put_selection}
use Rattle.session_laws.proofs.Areas.{SelectionFit, selection-width}
use Rattle.session_laws.proofs.OpenSelections.{feed-fit, element-hits, element-hit}
use Rattle.cells.specs.Cells.{hit_of, cell_for, cell_at}
use Rattle.cells.proofs.Selections.{cell-here}
use Rattle.cells.proofs.Machine.{hit-is}
use Rattle.tuple_search.specs.Search.{keys_in, tu_bytes}
use Rattle.tuple_marks.specs.Marks.{AllMarked}
use Rattle.tuple_search.proofs.Making.{tu-length}
use Rattle.tuple_search.proofs.Added.{tu-bytes}
use Rattle.tuple_search.proofs.Keys.{tuple_in, either_way}
use Rattle.outcomes.specs.Outcomes.{cells_from, cells_in}
use Rattle.open_scopes.specs.declared.Scopes.{Scopes}
use Rattle.runs.proofs.TwoPass.{Added, adds}
use Rattle.settlements.specs.declared.Settled.{Settled}
use Rattle.settlements.specs.declared.Home.{Home}
use Rattle.settlements.specs.Finished.{kind_in, Settlement, settlement_of, missing_by, settled_by, added_of, fed_bytes}
use Rattle.settlements.specs.Ending.{Ended, fed_by, ScopesIn, StandsAt, EndIs, CountedFor, TuplesIn, HomeOf, KeptSize, Comes, SettlesOne, adds_of}
use Rattle.settling.proofs.Fed.{selection-fed}
use Rattle.settling.proofs.Answers.{keys-in}
use Rattle.settling.proofs.Judged.{settle-adds}

-- ---- the fed selection

cells-back : (cs : List Cell) (xs : Bytes) → ((i : ℕ) → i < length cs → cell_at xs (128 * i) ≡ get_or cs i Unset) → cells_from (length cs) xs ≡ cs
unfolding cells_from cell_at
cells-back [] xs h = refl
cells-back (c ∷ cs) xs h =
    let first : cell_for (take 128 xs) ≡ c = h 0 (omega arith) in
    ap (λ (x : Cell). x ∷ cells_from (length cs) (drop 128 xs)) first
    ∙ ap (λ (l : List Cell). c ∷ l) (cells-back cs (drop 128 xs) (λ i l. next i ∙ h (suc i) (omega arith)))
  where
    next : (i : ℕ) → cell_at (drop 128 xs) (128 * i) ≡ cell_at xs (128 * suc i)
    next i =
        let e : 128 + 128 * i ≡ 128 * suc i = omega arith in
        ap (λ (x : Bytes). cell_for (take 128 x)) (drop-drop (128 * i) 128 xs ∙ ap (λ (k : ℕ). drop k xs) e)

-- its bytes hold its cells
pub cells_are : (os : List OpenScope) (y : Selection) (bytes : Bytes) (n : ℕ) → SelectionFit os y → bytes ≡ put_selection os y → n ≡ length y.cells → cells_in n bytes ≡ y.cells
unfolding cells_in
cells_are os y bytes n fit here many =
    let w : length bytes ≡ 512 = ap length here ∙ selection-width os y fit in
    let few = fit.few in
    let m : min 4 n ≡ length y.cells = omega arith in
    let p : part bytes 0 512 ≡ put_selection os y = take_all 512 bytes (omega arith) ∙ here in
    ap (λ (k : ℕ). cells_from k bytes) m
    ∙ cells-back y.cells bytes (λ i l. ap (cell_at bytes) (sym (zero-add (128 * i))) ∙ cell-here os y bytes 0 fit.keys p i (omega arith))

module _ (k : Ended) (x : Selection) (short : length k.end.key ≤ 126) (fit : SelectionFit k.scopes x) where
  pub fed-fit : SelectionFit k.scopes (fed_by k x)
  fed-fit = (feed-fit k.scopes x.depth k.names (end_gives k.end) (element-hits k.end short) x (record { fit = fit; high = omega arith })).fit

  -- it is of the same scope, and has as many cells
  pub home-fed : (h : Home) → HomeOf x h → HomeOf (fed_by k x) h
  unfolding feed
  home-fed h w =
      record { constraint = w.constraint; number = w.number; kind = w.kind; referred = w.referred; fields = w.fields ∙ fit.many ∙ sym fed-fit.many }

-- ---- only one with every field Set is kept

missing-kept : (i : ℕ) (k : Kind) → (missing_by k i).keeps ≡ true → ⊥
unfolding missing_by
missing-kept i unique e = false≢true e
missing-kept i key e = false≢true e
missing-kept i keyref e = false≢true e

kept_set : (k : Kind) (r : Bool) (n : ℕ) (used : Bytes) (cs : List Cell) → (settled_by k r n used (outcome cs)).keeps ≡ true → tuple_in (outcome cs) ≡ some (keys_of cs)
unfolding outcome missing_or
kept_set k r n used cs h = by (any is_multiple cs) (any is_not_simple cs) (first_unset cs) h
  where
    last : Outcome
    last = set_or (first_nillable cs) (keys_of cs)

    by : (m s : Bool) (u : Option ℕ) → (settled_by k r n used (cond m several_nodes (cond s no_simple_value (missing_or u last)))).keeps ≡ true
        → tuple_in (cond m several_nodes (cond s no_simple_value (missing_or u last))) ≡ some (keys_of cs)
    by true s u h = unfold settled_by in absurd (false≢true h)
    by false true u h = unfold settled_by in absurd (false≢true h)
    by false false (some i) h = unfold settled_by in absurd (missing-kept i k h)
    by false false none h = either_way (first_nillable cs) (keys_of cs)

tuple-length : (s : events.Scope) (ks : List Text) → length (tu_bytes 0 0 ks) ≡ length (flat_map put_tu (tuple_of s ks ∷ []))
unfolding tuple_of flat_map
tuple-length s ks =
    tu-length 0 0 ks
    ∙ sym (ap length (append-nil (put_tu (tuple_of s ks))) ∙ ap length (tu-bytes (tuple_of s ks)) ∙ tu-length s.constraint.number s.number ks)

-- ---- both together

module _ (home : Home) (bytes used : Bytes) (answer : Settled) (size : ℕ)
    (settled : settlement_of answer ≡ settled_by (kind_in home.kind) home.referred home.number used (outcome (cells_in home.fields bytes)))
    (sized : KeptSize (settlement_of answer).keeps home.fields bytes size) (below : (i : ℕ) → get_or used i 0 < 256)
    (k : Ended) (y : Selection) (fit : SelectionFit k.scopes y) (here : bytes ≡ put_selection k.scopes y) (at : HomeOf y home) (marks : List ℕ) (tuples : TuplesIn k used marks) where
  abbrev s : Settlement
  s = settlement_of answer

  abbrev cs : List Cell
  cs = cells_in home.fields bytes

  own-cells : cs ≡ y.cells
  own-cells = cells_are k.scopes y bytes home.fields fit here at.fields

  by-scope : s ≡ settled_by y.scope.constraint.kind (present y.scope.constraint.refer) y.scope.number used (outcome y.cells)
  by-scope =
      settled
      ∙ ap (λ (q : Kind). settled_by q home.referred home.number used (outcome cs)) at.kind
      ∙ ap (λ (b : Bool). settled_by y.scope.constraint.kind b home.number used (outcome cs)) at.referred
      ∙ ap (λ (n : ℕ). settled_by y.scope.constraint.kind (present y.scope.constraint.refer) n used (outcome cs)) at.number
      ∙ ap (λ (l : List Cell). settled_by y.scope.constraint.kind (present y.scope.constraint.refer) y.scope.number used (outcome l)) own-cells

  says-adds : (e : ℕ) → added_of s e y.scope (keys_of y.cells) ≡ adds_of k e y
  says-adds e =
      ap (λ (r : Settlement). added_of r e y.scope (keys_of y.cells)) by-scope
      ∙ subst (λ (ts : List Tuple). added_of (settled_by y.scope.constraint.kind (present y.scope.constraint.refer) y.scope.number used (outcome y.cells)) e y.scope (keys_of y.cells) ≡ adds ts e y.scope (outcome y.cells))
      tuples.same
      (settle-adds y.scope k.defs used tuples.tus y.cells e below tuples.read (rw tuples.same tuples.few))

  sizes : (e : ℕ) → size ≡ length (flat_map put_tu (adds_of k e y).tuples)
  unfolding added_of only_if flat_map
  sizes e = sized.same ∙ by s.keeps refl ∙ ap (λ (a : Added). length (flat_map put_tu a.tuples)) (says-adds e)
    where
      by : (b : Bool) → s.keeps ≡ b
          → cond b (length (tu_bytes 0 0 (keys_in home.fields bytes))) 0 ≡ length (flat_map put_tu (only_if b (tuple_of y.scope (keys_of y.cells) ∷ [])))
      by true h =
          let c = kept_set (kind_in home.kind) home.referred home.number used cs (ap (λ (r : Settlement). r.keeps) (sym settled) ∙ h) in
          ap (λ (ks : List Text). length (tu_bytes 0 0 ks)) (keys-in home.fields bytes c ∙ ap keys_of own-cells) ∙ tuple-length y.scope (keys_of y.cells)
      by false h = refl

  comes : Comes k y (record { settled = answer; size = size })
  comes = record { says = says-adds; size = sizes }

pub end_short : (k : Ended) (byte : ℕ) (text : Text) → EndIs k byte text → length k.end.key ≤ 126
end_short k byte text end = subst (λ (t : Text). length t ≤ 126) end.text end.short

-- the bytes are those of the fed selection
pub fed-here : (k : Ended) (x : Selection) (cells : Bytes) (j : ℕ) (counts : Bytes) (byte : ℕ) (text : Text) (bytes : Bytes)
    → bytes ≡ fed_bytes (hit_of byte text) counts j cells → StandsAt k cells j x → EndIs k byte text → CountedFor k counts j x
    → bytes ≡ put_selection k.scopes (fed_by k x)
fed-here k x cells j counts byte text bytes fed stands end counted =
    let short = end_short k byte text end in
    fed
    ∙ ap (λ (z : Hit). fed_bytes z counts j cells) (hit-is byte text k.end end.short end.simple end.text)
    ∙ selection-fed k.scopes k.names k.end (element-hit k.end short) x stands.fit counts cells j stands.bytes counted

pub one-settles : (cells : Bytes) (j : ℕ) (counts : Bytes) (byte : ℕ) (text : Text) (scopes : Scopes) (defs used : Bytes) (marks : List ℕ) (home : Home) (bytes : Bytes) (s : Settled) (size : ℕ)
    → ((k : Ended) (x : Selection) → ScopesIn k scopes defs → StandsAt k cells j x → HomeOf x home)
    → bytes ≡ fed_bytes (hit_of byte text) counts j cells
    → (AllMarked marks used → settlement_of s ≡ settled_by (kind_in home.kind) home.referred home.number used (outcome (cells_in home.fields bytes)))
    → KeptSize (settlement_of s).keeps home.fields bytes size → ((i : ℕ) → get_or used i 0 < 256)
    → SettlesOne cells j counts byte text scopes defs used marks (record { settled = s; size = size })
one-settles cells j counts byte text scopes defs used marks home bytes s size homes fed settled sized below =
    record {
      short = sized.short;
      says = λ k x there stands end counted tuples.
          let short = end_short k byte text end in
          comes home bytes used s size (settled tuples.marked) sized below k (fed_by k x) (fed-fit k x short stands.fit)
          (fed-here k x cells j counts byte text bytes fed stands end counted) (home-fed k x short stands.fit home (homes k x there stands)) marks tuples;
    }
