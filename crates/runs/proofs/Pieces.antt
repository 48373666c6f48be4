-- What each piece that `decode` reads gives: open names, definitions, open scopes, open selections, the stage, the counts. The tests of each are taken apart.
-- Assumes nothing.
use Prim.Native.Nat.{ℕ, zero, suc, ◌+◌, ◌-◌, ◌*◌, ◌≤◌, ◌<◌}
use native.Mathlib.Omega.{arith}
use borrow.Author.Tests.{eqb-true, leb-true, ltb-true}
use lib.Dec.{eqb, leb, ltb}
use lib.ListN.{length, take, drop, get_elem?, length-take, length-drop}
use lib.Seq.{length-take-le}
use mathlib.Core.Path.{◌≡◌, refl, ap, sym, ◌∙◌, subst}
use mathlib.Core.Bool.{Bool, true, false, cond, ◌&&◌, false≢true}
use mathlib.Core.List.{List, [], ◌∷◌, map}
use mathlib.Core.Option.{Option, none, some, some-injective}
use Rattle.std.proofs.lemmas.Bool.{and_parts}
use Rattle.lists.specs.Lists.{foldl, All}
use Rattle.lists.proofs.Places.{All-take, All-get_elem}
use Rattle.texts.specs.Texts.{same}
use Rattle.paths.specs.Names.{Name}
use Rattle.paths.specs.Reading.{on_some, every}
use Rattle.paths.proofs.Sure.{some-parts}
use Rattle.machine.specs.Machine.{OpenScope, Selection}
use Rattle.records.specs.Readers.{Bytes, on_read, ◌>>=◌, pass, read_byte, read_two, cons_on, read_bytes, read_text}
use Rattle.records.specs.Records.{Rec, parsed, parse}
use Rattle.session_spec.specs.Definitions.{Definitions, define, too_many_defined, replay, constraint_at}
use Rattle.session_spec.specs.Layout.{parts, text_in, name_in, ScopeRecord, put_scope, scope_in, cell_in, more_in, put_selection, selection_of, exactly, selection_with, selection_in, Counts}
use Rattle.session_spec.specs.Session.{World, Stage, before, during, done, stage_of, depth_of, stage_number, areas_fit, begun_fit, counts_fit, scope_fits, rising}
use Rattle.session_laws.proofs.Tests.{cond-parts}
use Rattle.session_laws.proofs.Replays.{taken}
use Rattle.session_laws.proofs.Parts.{every-length, every-all, parts-length, parts-short}
use Rattle.session_laws.proofs.Areas.{NameFit, CellFit, in-fit, SelectionFit}
use Rattle.session_laws.proofs.Constraints.{DefsFit, ConstraintFit, few-fields, number_at}
use Rattle.session_laws.proofs.OpenScopes.{OpenFit, scope_records, Found, all-found}
use Rattle.session_laws.proofs.Limits.{limited, define-fit}
use Rattle.session_laws.proofs.Holds.{Areas, areas-are}

-- ---- names

bytes-size : (n : ℕ) (xs : Bytes) (t r : Bytes) → read_bytes n xs ≡ some (t, r) → length t ≤ length xs
unfolding read_bytes
bytes-size zero xs t r h = let q : [] ≡ t = ap (λ (p : Bytes × Bytes). p.0) (some-injective ([], xs) (t, r) h) in rw (← q) (omega arith)
bytes-size (suc n) [] t r h = let z : ◌≡◌ {A = ℕ} 0 1 = cc in absurd (omega arith)
bytes-size (suc n) (x ∷ xs) t r h = by (read_bytes n xs) h (bytes-size n xs)
  where
    by : (o : Option (Bytes × Bytes)) → cons_on x o ≡ some (t, r) → ((u s : Bytes) → o ≡ some (u, s) → length u ≤ length xs) → length t ≤ suc (length xs)
    by none h ih = unfold cons_on in (let z : ◌≡◌ {A = ℕ} 0 1 = cc in absurd (omega arith))
    by (some q) h ih =
        let k = ih q.0 q.1 refl in
        let e : x ∷ q.0 ≡ t = unfold cons_on in (ap (λ (p : Bytes × Bytes). p.0) (some-injective (x ∷ q.0, q.1) (t, r) h)) in
        rw (← e) (omega arith)

text-size : (xs t r : Bytes) → read_text xs ≡ some (t, r) → length t + 2 ≤ length xs
unfolding read_text read_two ◌>>=◌ on_read read_byte pass
text-size [] t r h = let z : ◌≡◌ {A = ℕ} 0 1 = cc in absurd (omega arith)
text-size (a ∷ []) t r h = let z : ◌≡◌ {A = ℕ} 0 1 = cc in absurd (omega arith)
text-size (a ∷ b ∷ xs) t r h = let k = bytes-size (a + 256 * b) xs t r h in omega arith

text_in-size : (xs t : Bytes) → text_in xs ≡ some t → length t + 2 ≤ length xs
unfolding text_in
text_in-size xs t h =
    let p = some-parts (read_text xs) (λ q. some q.0) t h in
    rw (← (some-injective p.0.0 t p.2)) (text-size xs p.0.0 p.0.1 p.1)

pub name-fit : (xs : Bytes) (n : Name) → length xs ≤ 514 → name_in xs ≡ some n → NameFit n
unfolding name_in
name-fit xs n l h =
    let p = some-parts (text_in (take 257 xs)) (λ s. on_some (text_in (drop 257 xs)) (λ q. some (record { space = s; local = q }))) n h in
    let q = some-parts (text_in (drop 257 xs)) (λ t. some (record { space = p.0; local = t })) n p.2 in
    let a = text_in-size (take 257 xs) p.0 p.1 in
    let b = text_in-size (drop 257 xs) q.0 q.1 in
    rw (← (some-injective (record { space = p.0; local = q.0 }) n q.2))
    (record { space = omega (arith, length-take 257 xs); local = omega (arith, length-drop 257 xs) })

-- ---- definitions

-- what every definition that is taken keeps, all of them keep
module _ (P : Definitions → Type 0) (keeps : (x : Bytes) (r : Rec) (d : Definitions) → parse x ≡ parsed r → too_many_defined r d ≡ false → P d → P (define r d)) where
  pub replays-keep : (l : List Bytes) (d e : Definitions) → foldl replay (some d) l ≡ some e → P d → P e
  replays-keep [] d e h f = subst P (some-injective d e h) f
  replays-keep (x ∷ l) d e h f =
      let t = taken d x l e h in
      replays-keep l (define t.rec d) e t.rest (keeps x t.rec d t.says t.fits f)

pub replays-fit : (l : List Bytes) (d e : Definitions) → foldl replay (some d) l ≡ some e → DefsFit d → DefsFit e
replays-fit l d e h f = replays-keep DefsFit (λ x r c q t g. define-fit r c (limited x r q) g) l d e h f

-- ---- scopes

module _ (d : Definitions) (depth opened : ℕ) where
  pub constraint-at : (i : ℕ) → i < length d.ids → ConstraintFit d (constraint_at d i)
  constraint-at i l = let e = number_at d i l in record { known = ap (constraint_at d) e; defined = rw e l }

  pub open-fit : (s : ScopeRecord) → scope_fits d depth opened s ≡ true → OpenFit d opened depth (scope_in d s)
  unfolding scope_fits scope_in
  open-fit s h =
      let p = and_parts (ltb s.constraint (length d.ids)) (leb s.depth depth && leb s.number opened) h in
      let q = and_parts (leb s.depth depth) (leb s.number opened) p.1 in
      record {
        scope = record { constraint = constraint-at s.constraint (ltb-true s.constraint (length d.ids) p.0); given = leb-true s.number opened q.1 };
        high = leb-true s.depth depth q.0;
      }

  scope-same : (s : ScopeRecord) → scope_fits d depth opened s ≡ true → put_scope (scope_in d s) ≡ s
  unfolding scope_fits scope_in put_scope
  scope-same s h =
      let p = and_parts (ltb s.constraint (length d.ids)) (leb s.depth depth && leb s.number opened) h in
      λ i. record { constraint = number_at d s.constraint (ltb-true s.constraint (length d.ids) p.0) i; number = s.number; depth = s.depth }

  pub scopes-same : (ss : List ScopeRecord) → All (λ (s : ScopeRecord). scope_fits d depth opened s ≡ true) ss → map put_scope (map (scope_in d) ss) ≡ ss
  scopes-same [] a = refl
  scopes-same (s ∷ ss) a = rw (scope-same s a.0, scopes-same ss a.1)

-- ---- selections

module _ (d : Definitions) (df : DefsFit d) (n depth : ℕ) (os : List OpenScope) (fit : All (OpenFit d n depth) os) (rise : rising 0 1 (scope_records os) ≡ true) where
  pub selection-fit : (xs : Bytes) (s : Selection) → Unit {0} → selection_in os xs ≡ some s → SelectionFit os s
  unfolding selection_in selection_with exactly selection_of
  selection-fit xs s u h = by (get_elem? os (more_in 2 xs)) refl h
    where
      by : (o : Option OpenScope) → get_elem? os (more_in 2 xs) ≡ o → selection_with os (more_in 0 xs + 32 * more_in 1 xs) xs o ≡ some s → SelectionFit os s
      by none e h = let z : ◌≡◌ {A = ℕ} 0 1 = cc in absurd (omega arith)
      by (some o) e h =
          let q = some-parts (every cell_in (parts 128 4 xs)) (λ cs. exactly os o xs (selection_of (more_in 0 xs + 32 * more_in 1 xs) o cs)) s h in
          let t : Selection = selection_of (more_in 0 xs + 32 * more_in 1 xs) o q.0 in
          let p = cond-parts (leb o.depth t.depth && same xs (put_selection os t)) (some t) s q.2 in
          let i = and_parts (leb o.depth t.depth) (same xs (put_selection os t)) p.0 in
          let f : OpenFit d n depth o = All-get_elem (OpenFit d n depth) os (more_in 2 xs) o fit e in
          let few : length o.scope.constraint.fields ≤ 4 = few-fields d o.scope.constraint df f.scope.constraint in
          let four : length q.0 ≡ 4 = every-length cell_in (parts 128 4 xs) q.0 q.1 ∙ parts-length 128 4 xs in
          let m : length (take (length o.scope.constraint.fields) q.0) ≡ length o.scope.constraint.fields = length-take-le (length o.scope.constraint.fields) q.0 (omega arith) in
          subst (SelectionFit os) (some-injective t s p.1)
          (record {
            home = o;
            found = All-get_elem (Found os) os (more_in 2 xs) o (all-found 0 1 os rise) e;
            scope = refl;
            within = leb-true o.depth (more_in 0 xs + 32 * more_in 1 xs) i.0;
            many = m;
            few = rw m few;
            keys = All-take CellFit (length o.scope.constraint.fields) q.0
                (every-all cell_in (λ (x : Bytes). length x ≤ 128) CellFit (λ x c l. in-fit x c) (parts 128 4 xs) q.0
                (parts-short 128 4 xs) q.1);
          })

-- ---- stages

pub stage_cases : (n : ℕ) (g : Stage) → stage_of n ≡ g → stage_number g (depth_of g n) ≡ n
unfolding stage_of
stage_cases n g e = by (eqb n 0) refl (eqb n 66) refl e
  where
    by : (a : Bool) → eqb n 0 ≡ a → (c : Bool) → eqb n 66 ≡ c → cond a before (cond c done during) ≡ g → stage_number g (depth_of g n) ≡ n
    by true p c q e = rw (← e) (unfold stage_number depth_of in (sym (eqb-true n 0 p)))
    by false p true q e = rw (← e) (unfold stage_number depth_of in (sym (eqb-true n 66 q)))
    by false p false q e = rw (← e) (unfold stage_number depth_of in positive n p)
      where
        positive : (n : ℕ) → eqb n 0 ≡ false → suc (n - 1) ≡ n
        positive zero h = absurd (false≢true (sym h))
        positive (suc n) h = omega arith

pub stage-deep : (n : ℕ) (g : Stage) → stage_of n ≡ g → n ≤ 66 → depth_of g n ≤ 64
unfolding stage_of
stage-deep n g e l = by (eqb n 0) refl (eqb n 66) refl e
  where
    by : (a : Bool) → eqb n 0 ≡ a → (c : Bool) → eqb n 66 ≡ c → cond a before (cond c done during) ≡ g → depth_of g n ≤ 64
    by true p c q e = rw (← e) (unfold depth_of in omega arith)
    by false p true q e = rw (← e) (unfold depth_of in omega arith)
    by false p false q e = rw (← e) (unfold depth_of in less n l q)
      where
        less : (n : ℕ) → n ≤ 66 → eqb n 66 ≡ false → n - 1 ≤ 64
        less n h k = let z : n ≡ 66 → ⊥ = λ e. false≢true (sym k ∙ rw e) in omega (arith, z)

pub stage-zero : (n : ℕ) → stage_of n ≡ before → n ≡ 0
unfolding stage_of
stage-zero n e = by (eqb n 0) refl (eqb n 66) e
  where
    by : (a : Bool) → eqb n 0 ≡ a → (c : Bool) → cond a before (cond c done during) ≡ before → n ≡ 0
    by true p c e = eqb-true n 0 p
    by false p true e = let z : ◌≡◌ {A = ℕ} 0 1 = cc in absurd (omega arith)
    by false p false e = let z : ◌≡◌ {A = ℕ} 0 1 = cc in absurd (omega arith)

-- ---- lengths and counts

pub record Lengths (w : World) (c : Counts) : Type 0 where
  pub areas : Areas w
  pub begun : begun_fit w c ≡ true
  pub events : w.events ≤ 1000000
  pub stage : c.stage ≤ 66
  pub scopes : c.scopes ≤ 16
  pub selections : c.selections ≤ 32
  pub opened : c.opened ≤ 8 * w.events
  pub definitions : w.definitions ≤ length w.definition_store
  pub tuples : w.tuples ≤ length w.tuple_store
  pub reports : w.reports ≤ length w.report_store

pub lengths-of : (w : World) (c : Counts) → counts_fit w c ≡ true → Lengths w c
unfolding counts_fit
lengths-of w c h =
    let p = and_parts (areas_fit w && begun_fit w c) _ h in
    let q = and_parts (areas_fit w) (begun_fit w c) p.0 in
    let r = and_parts (leb w.events 1000000 && (leb c.stage 66 && (leb c.scopes 16 && (leb c.selections 32 && leb c.opened (8 * w.events))))) _ p.1 in
    let e = and_parts (leb w.events 1000000) _ r.0 in
    let s = and_parts (leb c.stage 66) _ e.1 in
    let t = and_parts (leb c.scopes 16) _ s.1 in
    let u = and_parts (leb c.selections 32) (leb c.opened (8 * w.events)) t.1 in
    let v = and_parts (leb w.definitions (length w.definition_store)) _ r.1 in
    let y = and_parts (leb w.tuples (length w.tuple_store)) (leb w.reports (length w.report_store)) v.1 in
    record {
      areas = areas-are w q.0;
      begun = q.1;
      events = leb-true w.events 1000000 e.0;
      stage = leb-true c.stage 66 s.0;
      scopes = leb-true c.scopes 16 t.0;
      selections = leb-true c.selections 32 u.0;
      opened = leb-true c.opened (8 * w.events) u.1;
      definitions = leb-true w.definitions (length w.definition_store) v.0;
      tuples = leb-true w.tuples (length w.tuple_store) y.0;
      reports = leb-true w.reports (length w.report_store) y.1;
    }

pub begun-zero : (w : World) (c : Counts) → begun_fit w c ≡ true → c.stage ≡ 0 → (w.running ≡ 0) × (w.tuples ≡ 0) × (w.reports ≡ 0)
unfolding begun_fit
begun-zero w c h e =
    let k : (eqb w.running 0 && (eqb w.tuples 0 && eqb w.reports 0)) ≡ true = rw e at h in
    let p = and_parts (eqb w.running 0) (eqb w.tuples 0 && eqb w.reports 0) k in
    let q = and_parts (eqb w.tuples 0) (eqb w.reports 0) p.1 in
    (eqb-true w.running 0 p.0, eqb-true w.tuples 0 q.0, eqb-true w.reports 0 q.1)
