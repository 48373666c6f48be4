-- A PASSED PATH IS ALWAYS CHECKED. What passes is read, so the constraint opens a scope and no report of kind 6 bears
-- its number; and in canonical spelling it passes too and stands for the same constraint.
-- Assumes nothing.
use Prim.Native.Nat.{ℕ, suc}
use native.Mathlib.Omega.{arith}
use lib.Dec.{eqb}
use borrow.Author.Tests.{eqb-true}
use lib.ListN.{get_elem?}
use mathlib.Core.Path.{◌≡◌, refl, ap, sym, ◌∙◌, subst}
use mathlib.Core.Bool.{Bool, true, false, ◌&&◌}
use mathlib.Core.List.{List, [], ◌∷◌, map}
use mathlib.Core.Option.{Option, none, some, IsSome}
use Rattle.std.proofs.lemmas.Bool.{and_parts}
use Rattle.lists.specs.Lists.{all, any, All}
use Rattle.texts.specs.Texts.{Text}
use Rattle.utf8.specs.Utf8.{decode}
use Rattle.reasons.specs.Reasons.{is_field, reason}
use Rattle.reasons.proofs.Meets.{checker-meets-grammar}
use Rattle.prefixes.specs.Prefixes.{prefixes_of}
use Rattle.checker.specs.Answers.Answer.{Pass}
use Rattle.checker.specs.Answers.{kind_byte, checked}
use Rattle.checker.specs.Parts.{Taken}
use Rattle.checker.proofs.Meets.{pass-is-grammar, pass-is-taken}
use Rattle.paths.specs.Reading.{WrittenAlt, read_path, step_path_of, field_alt_of}
use Rattle.passed.proofs.Passed.{passed-is-read}
use Rattle.canonical.specs.Canonical.{canonical}
use Rattle.canonical.proofs.Again.{canonical-read, canonical-utf8}
use Rattle.canonical.proofs.Weights.{canonical-short}
use Rattle.tree.specs.Events as events
use Rattle.tree.specs.Judge.{Report}
use Rattle.records.specs.Readers.{Bytes}
use Rattle.session_spec.specs.Definitions.{Definition, Definitions, or_none, is_some, selector_of, fields_of, paths_read, constraint_of, defined_of, defined_from, defined_at, uri_of}
use Rattle.session_spec.specs.Session.{World}
use Rattle.session_spec.specs.Runs.{accepted, stored_reports, definitions_of, tree_out}
use Rattle.session_laws.proofs.Tests.{map-is_some}
use Rattle.calls.specs.Runs.{Run}
use Rattle.calls.proofs.Theorems.{run-is-tree}
use Rattle.call_forms.specs.DoorRuns.{DoorRun}
use Rattle.call_forms.proofs.DoorRuns.{door-run}
use Rattle.in_force.specs.InForce.{bound_prefixes, declared_for, FieldsPass, Passes, told_six, Unread, Six, spelled_by, canonical_path, canonically}
use Rattle.in_force.proofs.Sixes.{sixes-unread}
use Rattle.in_force.proofs.Passing.{canonical-passes}

-- ---- a pass is read, whatever prefixes are handed in

-- what a pass says of the path: it has no reason
pub passed-reason : (kind : ℕ) (path prefixes : Text) → checked kind path prefixes ≡ Pass → reason (kind_byte kind) (decode path) (prefixes_of prefixes) ≡ none
passed-reason kind path prefixes e =
    (checker-meets-grammar (kind_byte kind) (decode path) (prefixes_of prefixes)).1 ((pass-is-grammar kind path prefixes (pass-is-taken kind path prefixes e)).0 e)

some-true : {A : Type 0} (o : Option A) → IsSome o → is_some o ≡ true
unfolding is_some
some-true none h = absurd h
some-true (some a) h = refl

-- WHAT PASSES IS READ
pub pass-reads : (kind : ℕ) (path prefixes : Text) → checked kind path prefixes ≡ Pass → is_some (read_path (is_field (kind_byte kind)) path) ≡ true
pass-reads kind path prefixes e =
    some-true (read_path (is_field (kind_byte kind)) path)
    (passed-is-read (kind_byte kind) path (prefixes_of prefixes) (pass-is-taken kind path prefixes e).text (passed-reason kind path prefixes e))

fields_read : (d : Definitions) (c : Definition) (n : ℕ) (ts : List Text) → FieldsPass d c n ts → all is_some (fields_of d c n ts) ≡ true
unfolding fields_of
fields_read d c n [] h = refl
fields_read d c n (t ∷ ts) h =
    let r : is_some (read_path true t) ≡ true = unfold kind_byte in pass-reads 1 t (declared_for d c n) h.0 in
    rw (map-is_some (map (field_alt_of (uri_of d c n))) (read_path true t), r, fields_read d c (suc n) ts h.1)

-- A CONSTRAINT WHOSE PATHS ALL PASS READS.
pub passes-reads : (d : Definitions) (c : Definition) → Passes d c → paths_read d c ≡ true
unfolding paths_read selector_of
passes-reads d c h =
    let r : is_some (read_path false c.id.selector) ≡ true = unfold kind_byte in pass-reads 0 c.id.selector (declared_for d c 1) h.selector in
    rw (map-is_some (map (step_path_of (uri_of d c 1))) (read_path false c.id.selector), r, fields_read d c 2 c.id.fields h.fields)

-- IT IS IN FORCE: its number stands for the constraint, which opens a scope.
pub in-force : (d : Definitions) (i : ℕ) (c : Definition) → get_elem? d.ids i ≡ some c → Passes d c → defined_at d i ≡ events.reads (constraint_of d i c)
unfolding defined_at
in-force d i c e h = ap (defined_from d i) e ∙ (unfold defined_from defined_of in rw (passes-reads d c h))

-- ---- in a run

read-not-unread : (d : Definitions) (i : ℕ) (c : Definition) → defined_at d i ≡ events.reads (constraint_of d i c) → Unread (defined_at d i) → ⊥
read-not-unread d i c e u = subst Unread e u

-- no report of kind 6 bears a number that reads
none-six : (defs : ℕ → events.Defined) (i : ℕ) → (Unread (defs i) → ⊥) → (rs : List Report) → All (Six defs) rs
    → any (λ r. eqb r.kind 6 && eqb r.constraint i) rs ≡ false
none-six defs i n [] a = refl
none-six defs i n (r ∷ rs) a = by (eqb r.kind 6 && eqb r.constraint i) refl (none-six defs i n rs a.1)
  where
    by : (b : Bool) → (eqb r.kind 6 && eqb r.constraint i) ≡ b → any (λ q. eqb q.kind 6 && eqb q.constraint i) rs ≡ false
        → any (λ q. eqb q.kind 6 && eqb q.constraint i) (r ∷ rs) ≡ false
    by true e h =
        let p = and_parts (eqb r.kind 6) (eqb r.constraint i) e in
        absurd (n (subst (λ (m : ℕ). Unread (defs m)) (eqb-true r.constraint i p.1) (a.0 (eqb-true r.kind 6 p.0))))
    by false e h = rw (e, h)

module _ (begun : World) (xs : List Bytes) (w : World) where
  -- the definitions that the session holds then
  abbrev held : Definitions
  held = definitions_of (accepted begun xs)

  stored-reports : Run begun xs w → stored_reports w ≡ (tree_out (accepted begun xs)).reports
  unfolding stored_reports or_none
  stored-reports r = rw (run-is-tree begun xs w r).reports

  -- OPENING IT NEVER GIVES KIND 6: in every run from set-up, for every constraint that the session holds and whose
  -- paths all pass with the session's bindings.
  pub never-six : Run begun xs w → (i : ℕ) (c : Definition) → get_elem? held.ids i ≡ some c → Passes held c → told_six i w ≡ false
  unfolding told_six
  never-six r i c e h =
      rw (stored-reports r) (none-six (defined_at held) i (read-not-unread held i c (in-force held i c e h)) (tree_out (accepted begun xs)).reports (sixes-unread (accepted begun xs)))

  -- the same through the doors
  pub door-never-six : DoorRun begun xs w → (i : ℕ) (c : Definition) → get_elem? held.ids i ≡ some c → Passes held c → told_six i w ≡ false
  door-never-six r i c e h = never-six (door-run begun xs w r) i c e h

-- ---- in canonical spelling

-- A PATH'S CANONICAL SPELLING IS READ AS THE PATH IS; one that is not read stays, and so is not read.
pub spelling-reads : (f : Bool) (t : Text) → read_path f (canonical_path f t) ≡ read_path f t
unfolding canonical_path
spelling-reads f t = by (read_path f t) refl
  where
    by : (o : Option (List WrittenAlt)) → read_path f t ≡ o → read_path f (spelled_by o t) ≡ read_path f t
    by none e = unfold spelled_by in refl
    by (some alts) e = unfold spelled_by in (canonical-read f t alts e ∙ sym e)

fields-same : (d : Definitions) (c : Definition) (n : ℕ) (ts : List Text) → fields_of d (canonically c) n (map (canonical_path true) ts) ≡ fields_of d c n ts
unfolding fields_of canonically uri_of
fields-same d c n [] = refl
fields-same d c n (t ∷ ts) = rw (spelling-reads true t, fields-same d c (suc n) ts)

selector-same : (d : Definitions) (c : Definition) → selector_of d (canonically c) ≡ selector_of d c
unfolding selector_of canonically uri_of
selector-same d c = rw (spelling-reads false c.id.selector)

-- THE SAME CONSTRAINT: under all bindings a definition in canonical spelling stands for what it stood for, so it
-- matches the same relative paths and attributes.
pub same-constraint : (d : Definitions) (i : ℕ) (c : Definition) → defined_of d i (canonically c) ≡ defined_of d i c
unfolding defined_of paths_read constraint_of
same-constraint d i c =
    let f : fields_of d (canonically c) 2 (canonically c).id.fields ≡ fields_of d c 2 c.id.fields = unfold canonically in fields-same d c 2 c.id.fields in
    let n : (canonically c).id.name ≡ c.id.name = unfold canonically in refl in
    let k : (canonically c).id.kind ≡ c.id.kind = unfold canonically in refl in
    let r : (canonically c).id.refer ≡ c.id.refer = unfold canonically in refl in
    rw (selector-same d c, f, n, k, r)

-- THE CANONICAL TEXT PASSES TOO, with the same prefixes.
pub canonical-checked : (kind : ℕ) (path prefixes : Text) → checked kind path prefixes ≡ Pass → (alts : List WrittenAlt) → read_path (is_field (kind_byte kind)) path ≡ some alts
    → checked kind (canonical alts) prefixes ≡ Pass
canonical-checked kind path prefixes e alts r =
    let t = pass-is-taken kind path prefixes e in
    let s = canonical-short (is_field (kind_byte kind)) path alts r in
    let l = t.short in
    let u : Taken kind (canonical alts) prefixes =
    record { known = t.known; text = canonical-utf8 (is_field (kind_byte kind)) path alts r; words = t.words; short = omega arith; few = t.few } in
    let q = canonical-passes (prefixes_of prefixes) (kind_byte kind) path t.text (passed-reason kind path prefixes e) alts r in
    (pass-is-grammar kind (canonical alts) prefixes u).1 ((checker-meets-grammar (kind_byte kind) (decode (canonical alts)) (prefixes_of prefixes)).0 q)

-- so does each path of a constraint in canonical spelling, and the constraint
spelling-checked : (kind : ℕ) (path prefixes : Text) → checked kind path prefixes ≡ Pass → checked kind (canonical_path (is_field (kind_byte kind)) path) prefixes ≡ Pass
unfolding canonical_path
spelling-checked kind path prefixes e = by (read_path (is_field (kind_byte kind)) path) refl
  where
    by : (o : Option (List WrittenAlt)) → read_path (is_field (kind_byte kind)) path ≡ o → checked kind (spelled_by o path) prefixes ≡ Pass
    by none q = unfold spelled_by in e
    by (some alts) q = unfold spelled_by in canonical-checked kind path prefixes e alts q

bound-same : (d : Definitions) (c : Definition) (n : ℕ) → declared_for d (canonically c) n ≡ declared_for d c n
unfolding declared_for bound_prefixes canonically
bound-same d c n = refl

fields-pass : (d : Definitions) (c : Definition) (n : ℕ) (ts : List Text) → FieldsPass d c n ts → FieldsPass d (canonically c) n (map (canonical_path true) ts)
fields-pass d c n [] h = tt
fields-pass d c n (t ∷ ts) h =
    (rw (bound-same d c n) (unfold kind_byte in (spelling-checked 1 t (declared_for d c n) h.0)), fields-pass d c (suc n) ts h.1)

pub canonically-passes : (d : Definitions) (c : Definition) → Passes d c → Passes d (canonically c)
canonically-passes d c h =
    record {
      selector = rw (bound-same d c 1) (unfold canonically kind_byte in (spelling-checked 0 c.id.selector (declared_for d c 1) h.selector));
      fields = unfold canonically in (fields-pass d c 2 c.id.fields h.fields);
    }
