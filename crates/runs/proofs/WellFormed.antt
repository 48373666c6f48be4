-- What decodes is well formed: all that holds of a run's worlds holds of EVERY world that decodes. So a call that takes its record leaves a world that
-- decodes, to the session that the record makes.
-- Assumes nothing.
use Prim.Native.Nat.{ℕ, ◌*◌, ◌≤◌}
use native.Mathlib.Omega.{arith}
use borrow.Author.Tests.{leb-true, ltb-true}
use lib.Dec.{leb, ltb}
use lib.ListN.{length, take, length-map}
use lib.Seq.{length-take-le}
use mathlib.Core.Path.{◌≡◌, refl, ap, sym, ◌∙◌, subst}
use mathlib.Core.Bool.{Bool, true, false, ◌&&◌}
use mathlib.Core.List.{List, [], map, flat_map}
use mathlib.Core.Option.{Option, none, some, some-injective}
use Rattle.std.proofs.lemmas.List.{nil_from_length}
use Rattle.std.proofs.lemmas.Bool.{and_parts}
use Rattle.lists.specs.Lists.{all, foldl, All}
use Rattle.lists.proofs.Folds.{All-weaken}
use Rattle.lists.proofs.Places.{each_of, All-of, All-both, All-mapped}
use Rattle.paths.specs.Names.{Name}
use Rattle.paths.specs.Reading.{on_some, every}
use Rattle.paths.proofs.Sure.{some-parts}
use Rattle.tree.specs.Judge.{Tuple, Report}
use Rattle.machine.specs.Machine.{OpenScope, Selection, initial}
use Rattle.records.specs.Readers.{Bytes, read_all, reads}
use Rattle.records.specs.Refusals.{Refusal, first_of}
use Rattle.records.specs.Records.{Rec, Parsed, unparsed, parsed, parse}
use Rattle.session_spec.specs.Definitions.{Definitions, no_definitions, frame, replay, read_definitions}
use Rattle.session_spec.specs.Layout.{TuRecord, read_tu, as_tuple, read_rp, parts, name_in, ScopeRecord, put_scope, scope_in, selection_in, Counts, pack, unpack}
use Rattle.session_spec.specs.Session.{World, Stage, before, during, done, Session, stage_of, depth_of, counts_fit, scope_fits, rising, scopes_in, climbing, on_open, fitting, selections_in, tu_fits, tuples_in, rp_fits, reports_in, told_by, decode_with, decode_if, decode, next, rows, counts_of, taken, settled, considered, attempt, step}
use Rattle.session_spec.specs.Runs.{taken_of}
use Rattle.session_laws.proofs.Tests.{cond-parts, test-parts}
use Rattle.session_laws.proofs.Parts.{every-length, every-all, parts-length, parts-short}
use Rattle.session_laws.proofs.Areas.{NameFit, SelectionFit, packed-again}
use Rattle.session_laws.proofs.Constraints.{DefsFit}
use Rattle.session_laws.proofs.Outs.{TupleFit, ReportFit}
use Rattle.session_laws.proofs.OpenScopes.{OpenFit}
use Rattle.session_laws.proofs.OpenSelections.{OpenSelection}
use Rattle.session_laws.proofs.States.{Fine}
use Rattle.session_laws.proofs.Holds.{StageFit, NothingYet, TuFit, Holds, decoded}
use Rattle.session_laws.proofs.Patched.{patched}
use Rattle.session_laws.proofs.Follows.{follows}
use Rattle.runs.proofs.Pieces.{name-fit, replays-fit, constraint-at, open-fit, scopes-same, selection-fit, stage_cases, stage-deep, stage-zero, Lengths, lengths-of, begun-zero}

-- ---- all pieces together

-- what a well-formed session's bytes give
pub record Pieces (w : World) (c : Counts) : Type 0 where
  pub lengths : Lengths w c
  pub d : Definitions
  pub raws : List Bytes
  pub frames_read : reads frame (take w.definitions w.definition_store) ≡ some raws
  pub made : foldl replay (some no_definitions) raws ≡ some d
  pub names : List Name
  pub names_read : every name_in (parts 514 (depth_of (stage_of c.stage) c.stage) w.names) ≡ some names
  pub scopes_fit : All (λ (s : ScopeRecord). scope_fits d (depth_of (stage_of c.stage) c.stage) c.opened s ≡ true) (take c.scopes w.scopes)
  pub rise : rising 0 1 (take c.scopes w.scopes) ≡ true
  pub selections : List Selection
  pub selections_read : every (selection_in (map (scope_in d) (take c.scopes w.scopes))) (parts 512 c.selections w.cells) ≡ some selections
  pub high : All (λ (s : Selection). on_open (depth_of (stage_of c.stage) c.stage) s ≡ true) selections
  pub climb : climbing 0 0 selections ≡ true
  pub tus : List TuRecord
  pub tus_read : reads read_tu (take w.tuples w.tuple_store) ≡ some tus
  pub tus_fit : All (λ (t : TuRecord). tu_fits d c.opened t ≡ true) tus
  pub tus_few : length tus ≤ 32 * w.events
  pub reports : List Report
  pub reports_read : reads read_rp (take w.reports w.report_store) ≡ some reports
  pub reports_fit : All (λ (r : Report). rp_fits d r ≡ true) reports

unfoldable pub session_from : (w : World) (c : Counts) → Pieces w c → Session
session_from w c p =
    record {
      defs = p.d;
      stage = stage_of c.stage;
      state = record {
        names = p.names;
        scopes = map (scope_in p.d) (take c.scopes w.scopes);
        selections = p.selections;
        count = c.opened;
        events = w.events;
        out = record { tuples = map (as_tuple p.d) p.tus; reports = p.reports; told = told_by p.d p.reports };
      };
    }

module _ (w : World) (c : Counts) (unpacked : unpack w.running ≡ c) (p : Pieces w c) where
  abbrev depth : ℕ
  depth = depth_of (stage_of c.stage) c.stage

  abbrev scopes : List OpenScope
  scopes = map (scope_in p.d) (take c.scopes w.scopes)

  abbrev S : Session
  S = session_from w c p

  names-many : length p.names ≡ depth
  names-many = every-length name_in (parts 514 depth w.names) p.names p.names_read ∙ parts-length 514 depth w.names

  selections-many : length p.selections ≡ c.selections
  selections-many = every-length (selection_in scopes) (parts 512 c.selections w.cells) p.selections p.selections_read ∙ parts-length 512 c.selections w.cells

  scopes-many : length scopes ≡ c.scopes
  scopes-many =
      length-map (take c.scopes w.scopes) (scope_in p.d) ∙ length-take-le c.scopes w.scopes (omega (arith, p.lengths.scopes, p.lengths.areas.scopes))

  scopes-open : All (OpenFit p.d c.opened depth) scopes
  scopes-open =
      All-mapped (OpenFit p.d c.opened depth) (λ (s : ScopeRecord). scope_fits p.d depth c.opened s ≡ true) (scope_in p.d)
      (open-fit p.d depth c.opened) (take c.scopes w.scopes) p.scopes_fit

  scopes-are : map put_scope scopes ≡ take c.scopes w.scopes
  scopes-are = scopes-same p.d depth c.opened (take c.scopes w.scopes) p.scopes_fit

  scopes-rise : rising 0 1 (map put_scope scopes) ≡ true
  scopes-rise = rw scopes-are p.rise

  defs-fit : DefsFit p.d
  defs-fit = replays-fit p.raws no_definitions p.d p.made (record { few = tt })

  selections-open : All (OpenSelection scopes depth) p.selections
  unfolding on_open
  selections-open =
      All-weaken (λ (s : Selection). SelectionFit scopes s × (on_open depth s ≡ true)) (OpenSelection scopes depth)
      (λ s h. record { fit = h.0; high = leb-true s.depth depth h.1 }) p.selections
      (All-both (SelectionFit scopes) (λ (s : Selection). on_open depth s ≡ true) p.selections
      (every-all (selection_in scopes) (λ (x : Bytes). Unit {0}) (SelectionFit scopes) (selection-fit p.d defs-fit c.opened depth scopes scopes-open scopes-rise)
      (parts 512 c.selections w.cells) p.selections (All-of (λ (x : Bytes). Unit {0}) (λ x. tt) (parts 512 c.selections w.cells)) p.selections_read)
      p.high)

  tu-fit : (t : TuRecord) → tu_fits p.d c.opened t ≡ true → TuFit p.d c.opened t
  unfolding tu_fits
  tu-fit t h =
      let q = and_parts (ltb t.constraint (length p.d.ids)) (leb t.scope c.opened) h in
      record { defined = ltb-true t.constraint (length p.d.ids) q.0; given = leb-true t.scope c.opened q.1 }

  tus-fit : All (TuFit p.d c.opened) p.tus
  tus-fit = All-weaken (λ (t : TuRecord). tu_fits p.d c.opened t ≡ true) (TuFit p.d c.opened) tu-fit p.tus p.tus_fit

  tuple-fit : (t : TuRecord) → TuFit p.d c.opened t → TupleFit p.d c.opened (as_tuple p.d t)
  unfolding as_tuple
  tuple-fit t f = record { constraint = constraint-at p.d depth c.opened t.constraint f.defined; given = f.given }

  fine-all : Fine p.d S.state
  unfolding session_from
  fine-all =
      record {
        names = every-all name_in (λ (x : Bytes). length x ≤ 514) NameFit name-fit (parts 514 depth w.names) p.names (parts-short 514 depth w.names) p.names_read;
        deep = rw names-many (stage-deep c.stage (stage_of c.stage) refl p.lengths.stage);
        scopes = rw names-many scopes-open;
        rise = scopes-rise;
        scopes_few = rw scopes-many p.lengths.scopes;
        selections = rw names-many selections-open;
        climb = p.climb;
        selections_few = rw selections-many p.lengths.selections;
        out = record {
          tuples = All-mapped (TupleFit p.d c.opened) (TuFit p.d c.opened) (as_tuple p.d) tuple-fit p.tus tus-fit;
          reports = All-weaken (λ (r : Report). rp_fits p.d r ≡ true) (ReportFit p.d)
              (λ r h. ltb-true r.constraint (length p.d.ids) (unfold rp_fits in h)) p.reports p.reports_fit;
          told = refl;
        };
        few = rw (length-map p.tus (as_tuple p.d)) p.tus_few;
        opened = p.lengths.opened;
      }

  packs : w.running ≡ pack (counts_of S)
  unfolding session_from pack counts_of unpack
  packs =
      rw (names-many, scopes-many, selections-many, stage_cases c.stage (stage_of c.stage) refl, ← unpacked)
      (sym (packed-again w.running))

  nothing_read : {A : Type 0} (q : _) (n : ℕ) (store : Bytes) (l : List A) → n ≡ 0 → reads q (take n store) ≡ some l → l ≡ []
  unfolding reads read_all
  nothing_read q n store l e h = sym (some-injective [] l (rw e at h))

  zeros : stage_of c.stage ≡ before → (w.running ≡ 0) × (w.tuples ≡ 0) × (w.reports ≡ 0)
  zeros e = begun-zero w c p.lengths.begun (stage-zero c.stage e)

  no_names : (g : Stage) → stage_of c.stage ≡ g → depth_of g c.stage ≡ 0 → p.names ≡ []
  no_names g e z = nil_from_length p.names (names-many ∙ ap (λ (x : Stage). depth_of x c.stage) e ∙ z)

  module _ (e : stage_of c.stage ≡ before) where
    no-counts : c ≡ unpack 0
    no-counts = sym unpacked ∙ ap unpack (zeros e).0

    no-tus : p.tus ≡ []
    no-tus = nothing_read read_tu w.tuples w.tuple_store p.tus (zeros e).1 p.tus_read

    no-reports : p.reports ≡ []
    no-reports = nothing_read read_rp w.reports w.report_store p.reports (zeros e).2 p.reports_read

    told_none : told_by p.d p.reports ≡ []
    unfolding told_by flat_map
    told_none = rw no-reports

    no-scopes : scopes ≡ []
    unfolding unpack
    no-scopes = nil_from_length scopes (scopes-many ∙ ap (λ (x : Counts). x.scopes) no-counts)

    no-selections : p.selections ≡ []
    unfolding unpack
    no-selections = nil_from_length p.selections (selections-many ∙ ap (λ (x : Counts). x.selections) no-counts)

    none-opened : c.opened ≡ 0
    unfolding unpack
    none-opened = ap (λ (x : Counts). x.opened) no-counts

    is-initial : S.state ≡ initial w.events
    unfolding session_from depth_of
    is-initial =
        λ i. record {
          names = no_names before e refl i;
          scopes = no-scopes i;
          selections = no-selections i;
          count = none-opened i;
          events = w.events;
          out = record { tuples = ap (map (as_tuple p.d)) no-tus i; reports = no-reports i; told = told_none i };
        }

  stage-fit : (g : Stage) → stage_of c.stage ≡ g → StageFit g S.state
  unfolding session_from depth_of
  stage-fit before e = is-initial e
  stage-fit during e = tt
  stage-fit done e = no_names done e refl

  nothing_yet : (g : Stage) → stage_of c.stage ≡ g → NothingYet g w
  nothing_yet before e = ((zeros e).1, (zeros e).2)
  nothing_yet during e = tt
  nothing_yet done e = tt

  holds-from : Holds w S
  unfolding session_from
  holds-from =
      record {
        areas = p.lengths.areas;
        raws = p.raws;
        definitions = record { read = p.frames_read; room = p.lengths.definitions };
        made = p.made;
        defs_fit = defs-fit;
        fine = fine-all;
        early = p.lengths.events;
        stage = stage-fit (stage_of c.stage) refl;
        unbegun = nothing_yet (stage_of c.stage) refl;
        events = refl;
        packed = packs;
        tus = p.tus;
        tuples = record { read = p.tus_read; room = p.lengths.tuples };
        tus_are = refl;
        tus_fit = tus-fit;
        reports = record { read = p.reports_read; room = p.lengths.reports };
        names = rw names-many p.names_read;
        scopes = rw scopes-many (sym scopes-are);
        cells = rw selections-many p.selections_read;
      }

-- ---- from `decode`

pub record Decoded (w : World) (c : Counts) (s : Session) : Type 0 where
  pub pieces : Pieces w c
  pub gives : session_from w c pieces ≡ s

module _ (s : Session) where
  defs-parts : (xs : Bytes) (f : Definitions → Option Session) → on_some (read_definitions xs) f ≡ some s
      → (d : Definitions) × (raws : List Bytes) × (reads frame xs ≡ some raws) × (foldl replay (some no_definitions) raws ≡ some d) × (f d ≡ some s)
  unfolding read_definitions
  defs-parts xs f h =
      let p = some-parts (on_some (reads frame xs) (λ l. foldl replay (some no_definitions) l)) f s h in
      let q = some-parts (reads frame xs) (λ l. foldl replay (some no_definitions) l) p.0 p.1 in
      (p.0, q.0, q.1, q.2, p.2)

  scopes-parts : (d : Definitions) (depth opened : ℕ) (ss : List ScopeRecord) (f : List OpenScope → Option Session) → on_some (scopes_in d depth opened ss) f ≡ some s
      → All (λ (t : ScopeRecord). scope_fits d depth opened t ≡ true) ss × (rising 0 1 ss ≡ true) × (f (map (scope_in d) ss) ≡ some s)
  unfolding scopes_in
  scopes-parts d depth opened ss f h =
      let p = test-parts (all (scope_fits d depth opened) ss && rising 0 1 ss) (map (scope_in d) ss) f s h in
      let q = and_parts (all (scope_fits d depth opened) ss) (rising 0 1 ss) p.0 in
      (each_of (scope_fits d depth opened) ss q.0, q.1, p.1)

  selections-parts : (os : List OpenScope) (depth : ℕ) (xs : List Bytes) (f : List Selection → Option Session) → on_some (selections_in os depth xs) f ≡ some s
      → (ss : List Selection) × (every (selection_in os) xs ≡ some ss) × All (λ (t : Selection). on_open depth t ≡ true) ss × (climbing 0 0 ss ≡ true) × (f ss ≡ some s)
  unfolding selections_in fitting
  selections-parts os depth xs f h =
      let p = some-parts (on_some (every (selection_in os) xs) (λ ss. fitting depth ss)) f s h in
      let q = some-parts (every (selection_in os) xs) (λ ss. fitting depth ss) p.0 p.1 in
      let r = cond-parts (all (on_open depth) q.0 && climbing 0 0 q.0) (some q.0) p.0 q.2 in
      let t = and_parts (all (on_open depth) q.0) (climbing 0 0 q.0) r.0 in
      (q.0, q.1, each_of (on_open depth) q.0 t.0, t.1, subst (λ (l : List Selection). f l ≡ some s) (sym (some-injective q.0 p.0 r.1)) p.2)

  tuples-parts : (d : Definitions) (opened most : ℕ) (ts : List TuRecord) (f : List Tuple → Option Session) → on_some (tuples_in d opened most ts) f ≡ some s
      → All (λ (t : TuRecord). tu_fits d opened t ≡ true) ts × (length ts ≤ most) × (f (map (as_tuple d) ts) ≡ some s)
  unfolding tuples_in
  tuples-parts d opened most ts f h =
      let p = test-parts (all (tu_fits d opened) ts && leb (length ts) most) (map (as_tuple d) ts) f s h in
      let q = and_parts (all (tu_fits d opened) ts) (leb (length ts) most) p.0 in
      (each_of (tu_fits d opened) ts q.0, leb-true (length ts) most q.1, p.1)

  reports-parts : (d : Definitions) (rs : List Report) (f : List Report → Option Session) → on_some (reports_in d rs) f ≡ some s
      → All (λ (r : Report). rp_fits d r ≡ true) rs × (f rs ≡ some s)
  unfolding reports_in
  reports-parts d rs f h =
      let p = test-parts (all (rp_fits d) rs) rs f s h in
      (each_of (rp_fits d) rs p.0, p.1)

with-pieces : (w : World) (c : Counts) (s : Session) → Lengths w c → decode_with w c ≡ some s → Decoded w c s
unfolding decode_with session_from
with-pieces w c s l h =
    let p1 = defs-parts s (take w.definitions w.definition_store) _ h in
    let p2 = some-parts (every name_in (parts 514 (depth_of (stage_of c.stage) c.stage) w.names)) _ s p1.4 in
    let p3 = scopes-parts s p1.0 (depth_of (stage_of c.stage) c.stage) c.opened (take c.scopes w.scopes) _ p2.2 in
    let p4 = selections-parts s (map (scope_in p1.0) (take c.scopes w.scopes)) (depth_of (stage_of c.stage) c.stage) (parts 512 c.selections w.cells) _ p3.2 in
    let p5 = some-parts (reads read_tu (take w.tuples w.tuple_store)) _ s p4.4 in
    let p6 = tuples-parts s p1.0 c.opened (32 * w.events) p5.0 _ p5.2 in
    let p7 = some-parts (reads read_rp (take w.reports w.report_store)) _ s p6.2 in
    let p8 = reports-parts s p1.0 p7.0 _ p7.2 in
    record {
      pieces = record {
        lengths = l;
        d = p1.0;
        raws = p1.1;
        frames_read = p1.2;
        made = p1.3;
        names = p2.0;
        names_read = p2.1;
        scopes_fit = p3.0;
        rise = p3.1;
        selections = p4.0;
        selections_read = p4.1;
        high = p4.2;
        climb = p4.3;
        tus = p5.0;
        tus_read = p5.1;
        tus_fit = p6.0;
        tus_few = p6.1;
        reports = p7.0;
        reports_read = p7.1;
        reports_fit = p8.0;
      };
      gives = some-injective _ _ p8.1;
    }

-- WHAT DECODES HOLDS.
pub well-formed : (w : World) (s : Session) → decode w ≡ some s → Holds w s
unfolding decode
well-formed w s h = by (counts_fit w (unpack w.running)) refl h
  where
    by : (f : Bool) → counts_fit w (unpack w.running) ≡ f → decode_if f w (unpack w.running) ≡ some s → Holds w s
    by true e h =
        let q = with-pieces w (unpack w.running) s (lengths-of w (unpack w.running) e) (unfold decode_if in h) in
        subst (Holds w) q.gives (holds-from w (unpack w.running) refl q.pieces)
    by false e h = unfold decode_if in (let z : ◌≡◌ {A = ℕ} 0 1 = cc in absurd (omega arith))

-- ---- one call on any well-formed session, not only on those of a run from set-up

module _ (w : World) (s : Session) (h : Holds w s) (x : Bytes) where
  settled-holds : (r : Rec) → parse x ≡ parsed r → (o : Option Refusal) → first_of (rows w s r (next s r) x) ≡ o
      → Holds (settled w s r (next s r) x o).1 (foldl next s (taken_of (settled w s r (next s r) x o).0 (parsed r)))
  unfolding settled taken_of
  settled-holds r p none e = patched w s (next s r) r x h (follows w s x h r p e)
  settled-holds r p (some c) e = h

  considered-holds : (p : Parsed) → parse x ≡ p → Holds (considered w s x p).1 (foldl next s (taken_of (considered w s x p).0 p))
  unfolding considered taken_of
  considered-holds (unparsed c) e = h
  considered-holds (parsed r) e = settled-holds r e (first_of (rows w s r (next s r) x)) refl

step-considered : (w : World) (s : Session) (x : Bytes) → decode w ≡ some s → step w x ≡ considered w s x (parse x)
unfolding step attempt
step-considered w s x h = rw h

-- DECODE AFTER STEP. A well-formed session stays well formed, and decodes to what the accepted record makes of it.
pub step-decodes : (w : World) (s : Session) (x : Bytes) → decode w ≡ some s → decode (step w x).1 ≡ some (foldl next s (taken_of (step w x).0 (parse x)))
step-decodes w s x h =
    rw (step-considered w s x h)
    (decoded (considered w s x (parse x)).1 (foldl next s (taken_of (considered w s x (parse x)).0 (parse x)))
    (considered-holds w s (well-formed w s h) x (parse x) refl))

-- A record that is taken leaves a world that decodes to `next`.
pub taken-decodes : (w : World) (s : Session) (x : Bytes) (r : Rec) → decode w ≡ some s → parse x ≡ parsed r → (step w x).0 ≡ taken
    → decode (step w x).1 ≡ some (next s r)
unfolding taken_of
taken-decodes w s x r h p t = step-decodes w s x h ∙ rw (t, p)
