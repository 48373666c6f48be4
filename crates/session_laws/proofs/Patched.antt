-- A record that is taken keeps what holds between world and session: what it appends is read behind the old part of each store and area, and what it
-- gives up is not read any more.
-- Assumes nothing.
use Prim.Native.Nat.{ℕ, ◌+◌, ◌*◌, ◌≤◌}
use native.Mathlib.Omega.{arith}
use lib.ListN.{length, take, drop, length-append, length-map, drop_of_length-le}
use lib.Seq.{drop-append_seam}
use mathlib.Core.Path.{◌≡◌, refl, ap, sym, ◌∙◌, subst}
use mathlib.Core.List.{List, [], ◌∷◌, ◌++◌, map, map-append, flat_map}
use mathlib.Core.Option.{some}
use Rattle.lists.specs.Lists.{only_if, foldl, over, All}
use Rattle.lists.proofs.Writes.{take-over, length_over}
use Rattle.lists.proofs.Folds.{All-append, All-parts, All-weaken}
use Rattle.lists.proofs.Places.{All-mapped, front-of-front, over_nothing}
use Rattle.paths.specs.Names.{Name}
use Rattle.paths.specs.Reading.{every}
use Rattle.tree.specs.Judge.{Tuple, Report}
use Rattle.machine.specs.Machine.{OpenScope}
use Rattle.records.specs.Readers.{Bytes, reads}
use Rattle.records.specs.Records.{Rec}
use Rattle.session_spec.specs.Definitions.{Definitions, no_definitions, is_definition, frame, replay}
use Rattle.session_spec.specs.Layout.{tu_of, TuRecord, read_tu, put_tu, as_tuple, read_rp, put_rp, parts, put_name, name_in, ScopeRecord, put_scope, put_selection, selection_in}
use Rattle.session_spec.specs.Session.{World, Session, new_tuples, new_reports, tuple_bytes, report_bytes, behind_old, one_scope, patch}
use Rattle.session_laws.proofs.Stores.{tu-stable, tuples-back, rp-stable, reports-back, frame-stable, Used, used-more}
use Rattle.session_laws.proofs.Parts.{fewer, further}
use Rattle.session_laws.proofs.Areas.{NameFit, names-back, names-length, SelectionFit, selections-back, selections-length}
use Rattle.session_laws.proofs.Constraints.{DefsFit}
use Rattle.session_laws.proofs.Outs.{TupleFit, Grown}
use Rattle.session_laws.proofs.OpenSelections.{OpenSelection}
use Rattle.session_laws.proofs.States.{Fine}
use Rattle.session_laws.proofs.Holds.{StageFit, NothingYet, TuFit, Holds}

-- ---- an area in which a list grows or shrinks at the end

pub data Change {A : Type 0} : List A → List A → Type 0 where
  grows : {old new : List A} (more : List A) → new ≡ old ++ more → Change old new
  shrinks : {old new : List A} (gone : List A) → old ≡ new ++ gone → Change old new

flat-nil : {A C : Type 0} (put : A → List C) → flat_map put [] ≡ []
unfolding flat_map
flat-nil put = refl

-- what is given up is not written
shorter : {A C : Type 0} (w : ℕ) (put : A → List C) (old new less : List A) (area : List C) → old ≡ new ++ less → behind_old w put old new area ≡ area
unfolding behind_old
shorter w put old new less area e =
    let l : length new ≤ length old = rw (e, length-append new less) (omega arith) in
    rw (drop_of_length-le new l, flat-nil put) (over_nothing area (w * length old))

-- what is appended is written behind the old part
written : {A C : Type 0} (w : ℕ) (put : A → List C) (old new more : List A) (area : List C) → new ≡ old ++ more
    → behind_old w put old new area ≡ over area (w * length old) (flat_map put more)
unfolding behind_old
written w put old new more area e = rw (e, drop-append_seam old more)

-- ---- open names

pub record Placed (old new : List Name) (area : Bytes) : Type 0 where
  pub read : every name_in (parts 514 (length new) (behind_old 514 put_name old new area)) ≡ some new
  pub same : length (behind_old 514 put_name old new area) ≡ length area

names-placed : (old new : List Name) (area : Bytes) → Change old new → All NameFit new → every name_in (parts 514 (length old) area) ≡ some old
    → 514 * length old ≤ length area → 514 * length new ≤ length area → Placed old new area
names-placed old new area (grows more e) a h o k =
    let g : behind_old 514 put_name old new area ≡ over area (514 * length old) (flat_map put_name more) = written 514 put_name old new more area e in
    let c : All NameFit more = (All-parts NameFit old more (subst (All NameFit) e a)).1 in
    let n : 514 * length old + length (flat_map put_name more) ≤ length area = rw (names-length more c) (omega (arith, ap length e, length-append old more)) in
    record {
      read = rw (g, e) (further 514 name_in area old more (flat_map put_name more) o h (λ rest. names-back more rest c));
      same = rw g (length_over area (514 * length old) (flat_map put_name more) n);
    }
names-placed old new area (shrinks less e) a h o k =
    record {
      read = rw (shorter 514 put_name old new less area e) (fewer 514 name_in area new less k (rw e at h));
      same = ap length (shorter 514 put_name old new less area e);
    }

-- ---- open scopes

pub record Kept (old new : List OpenScope) (area : List ScopeRecord) : Type 0 where
  pub starts : take (length new) (behind_old 1 one_scope old new area) ≡ map put_scope new
  pub same : length (behind_old 1 one_scope old new area) ≡ length area

pub records-are : (os : List OpenScope) → flat_map one_scope os ≡ map put_scope os
unfolding flat_map one_scope
records-are [] = refl
records-are (o ∷ os) = ap (λ (l : List ScopeRecord). put_scope o ∷ l) (records-are os)

records-length : (os : List OpenScope) → length (flat_map one_scope os) ≡ length os
records-length os = ap length (records-are os) ∙ length-map os put_scope

scopes-kept : (old new : List OpenScope) (area : List ScopeRecord) → Change old new → take (length old) area ≡ map put_scope old → length old ≤ length area
    → length new ≤ length area → Kept old new area
scopes-kept old new area (grows more e) h o k =
    let g : behind_old 1 one_scope old new area ≡ over area (1 * length old) (flat_map one_scope more) = written 1 one_scope old new more area e in
    let v : 1 * length old ≡ length old = omega arith in
    let u : length old + length (flat_map one_scope more) ≤ length area = rw (records-length more) (omega (arith, ap length e, length-append old more)) in
    let y : length new ≡ length old + length (flat_map one_scope more) = rw (records-length more, e) (length-append old more) in
    let t : map put_scope old ++ flat_map one_scope more ≡ map put_scope new = rw (records-are more, e) (sym (map-append put_scope old more)) in
    record {
      starts = rw (g, v, y) (take-over area (length old) (flat_map one_scope more) o ∙ rw h t);
      same = rw (g, v) (length_over area (length old) (flat_map one_scope more) u);
    }
scopes-kept old new area (shrinks less e) h o k =
    let p : take (length (map put_scope new ++ map put_scope less)) area ≡ map put_scope new ++ map put_scope less =
    subst (λ (l : List ScopeRecord). take (length l) area ≡ l) (ap (map put_scope) e ∙ map-append put_scope new less) (rw (length-map old put_scope) h) in
    record {
      starts = rw (shorter 1 one_scope old new less area e) (subst (λ (n : ℕ). take n area ≡ map put_scope new) (length-map new put_scope) (front-of-front (map put_scope new) (map put_scope less) area p));
      same = ap length (shorter 1 one_scope old new less area e);
    }

-- ---- what is put out

pub new-tuples : (s t : Session) (m : ℕ) (g : Grown s.state.out t.state.out m) → tuple_bytes s t ≡ flat_map put_tu g.more_tuples
unfolding tuple_bytes new_tuples
new-tuples s t m g =
    ap (λ (l : List Tuple). flat_map put_tu (drop (length s.state.out.tuples) l)) g.tuples ∙ ap (flat_map put_tu) (drop-append_seam s.state.out.tuples g.more_tuples)

pub new-reports : (s t : Session) (m : ℕ) (g : Grown s.state.out t.state.out m) → report_bytes s t ≡ flat_map put_rp g.more_reports
unfolding report_bytes new_reports
new-reports s t m g =
    ap (λ (l : List Report). flat_map put_rp (drop (length s.state.out.reports) l)) g.reports ∙ ap (flat_map put_rp) (drop-append_seam s.state.out.reports g.more_reports)

tuple-back : (d : Definitions) (n : ℕ) (t : Tuple) → TupleFit d n t → as_tuple d (tu_of t) ≡ t
unfolding as_tuple tu_of
tuple-back d n t f = rw f.constraint.known

tuples-all : (d : Definitions) (n : ℕ) (ts : List Tuple) → All (TupleFit d n) ts → map (as_tuple d) (map tu_of ts) ≡ ts
tuples-all d n [] a = refl
tuples-all d n (t ∷ ts) a = rw (tuple-back d n t a.0, tuples-all d n ts a.1)

tuple-fits : (d : Definitions) (n : ℕ) (t : Tuple) → TupleFit d n t → TuFit d n (tu_of t)
unfolding tu_of
tuple-fits d n t f = record { defined = f.constraint.defined; given = f.given }

-- ---- from one session to the next

-- what the session `t` behind record `r` must be
pub record Follows (w : World) (s t : Session) (r : Rec) (bs : Bytes) (raws : List Bytes) (tus : List TuRecord) : Type 0 where
  pub more : List Bytes
  pub more_read : reads frame (only_if (is_definition r) bs) ≡ some more
  pub made : foldl replay (some no_definitions) (raws ++ more) ≡ some t.defs
  pub defs_fit : DefsFit t.defs
  pub fine : Fine t.defs t.state
  pub early : t.state.events ≤ 1000000
  pub stage : StageFit t.stage t.state
  pub unbegun : NothingYet t.stage (patch w s r t bs)
  pub tus_are : map (as_tuple t.defs) tus ≡ s.state.out.tuples
  pub tus_fit : All (TuFit t.defs t.state.count) tus
  pub most : ℕ
  pub grown : Grown s.state.out t.state.out most
  pub names : Change s.state.names t.state.names
  pub scopes : Change s.state.scopes t.state.scopes
  pub room_defs : w.definitions + length (only_if (is_definition r) bs) ≤ length w.definition_store
  pub room_tuples : w.tuples + length (tuple_bytes s t) ≤ length w.tuple_store
  pub room_reports : w.reports + length (report_bytes s t) ≤ length w.report_store

module _ (w : World) (s t : Session) (r : Rec) (bs : Bytes) (h : Holds w s) (f : Follows w s t r bs h.raws h.tus) where
  names_in : Placed s.state.names t.state.names w.names
  names_in =
      names-placed s.state.names t.state.names w.names f.names f.fine.names h.names
      (omega (arith, h.fine.deep, h.areas.names)) (omega (arith, f.fine.deep, h.areas.names))

  scopes-in : Kept s.state.scopes t.state.scopes w.scopes
  scopes-in =
      scopes-kept s.state.scopes t.state.scopes w.scopes f.scopes h.scopes
      (omega (arith, h.fine.scopes_few, h.areas.scopes)) (omega (arith, f.fine.scopes_few, h.areas.scopes))

  abbrev cell-bytes : Bytes
  cell-bytes = flat_map (put_selection t.state.scopes) t.state.selections

  selections-fit : All (SelectionFit t.state.scopes) t.state.selections
  selections-fit = All-weaken (OpenSelection t.state.scopes (length t.state.names)) (SelectionFit t.state.scopes) (λ x g. g.fit) t.state.selections f.fine.selections

  cells_in : every (selection_in t.state.scopes) (parts 512 (length t.state.selections) (over w.cells 0 cell-bytes)) ≡ some t.state.selections
  cells_in = selections-back t.state.scopes t.state.selections (drop (0 + length cell-bytes) w.cells) selections-fit

  cells_same : length (over w.cells 0 cell-bytes) ≡ length w.cells
  cells_same =
      length_over w.cells 0 cell-bytes
      (omega (arith, selections-length t.state.scopes t.state.selections selections-fit, f.fine.selections_few, h.areas.cells))

  fresh-fit : All (TupleFit t.defs t.state.count) f.grown.more_tuples
  fresh-fit = (All-parts (TupleFit t.defs t.state.count) s.state.out.tuples f.grown.more_tuples
      (subst (All (TupleFit t.defs t.state.count)) f.grown.tuples f.fine.out.tuples)).1

  pub patched : Holds (patch w s r t bs) t
  unfolding patch
  patched =
      record {
        areas = record {
          paths = h.areas.paths;
          scopes = rw scopes-in.same h.areas.scopes;
          names = rw names_in.same h.areas.names;
          cells = rw cells_same h.areas.cells;
        };
        raws = h.raws ++ f.more;
        definitions = used-more frame frame-stable w.definitions w.definition_store h.raws (only_if (is_definition r) bs) f.more h.definitions f.more_read f.room_defs;
        made = f.made;
        defs_fit = f.defs_fit;
        fine = f.fine;
        early = f.early;
        stage = f.stage;
        unbegun = f.unbegun;
        events = refl;
        packed = refl;
        tus = h.tus ++ map tu_of f.grown.more_tuples;
        tuples =
            used-more read_tu tu-stable w.tuples w.tuple_store h.tus (tuple_bytes s t) (map tu_of f.grown.more_tuples) h.tuples
            (rw (new-tuples s t f.most f.grown) (tuples-back f.grown.more_tuples)) f.room_tuples;
        tus_are =
            map-append (as_tuple t.defs) h.tus (map tu_of f.grown.more_tuples)
            ∙ rw (f.tus_are, tuples-all t.defs t.state.count f.grown.more_tuples fresh-fit) (sym f.grown.tuples);
        tus_fit =
            All-append (TuFit t.defs t.state.count) h.tus (map tu_of f.grown.more_tuples) f.tus_fit
            (All-mapped (TuFit t.defs t.state.count) (TupleFit t.defs t.state.count) tu_of (tuple-fits t.defs t.state.count) f.grown.more_tuples fresh-fit);
        reports =
            subst (Used read_rp (w.reports + length (report_bytes s t)) (over w.report_store w.reports (report_bytes s t))) (sym f.grown.reports)
            (used-more read_rp rp-stable w.reports w.report_store s.state.out.reports (report_bytes s t) f.grown.more_reports h.reports
            (rw (new-reports s t f.most f.grown) (reports-back f.grown.more_reports)) f.room_reports);
        names = names_in.read;
        scopes = scopes-in.starts;
        cells = cells_in;
      }
