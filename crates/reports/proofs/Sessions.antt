-- The answers in a session's words: the report store of a session is read where `reports_read` says so, `told` says which constraint names kind 6
-- was reported for, and a report that was appended is the last of the session's.
-- Assumes nothing.
use Prim.Native.Nat.{ℕ, ◌+◌, ◌≤◌, ◌<◌}
use native.Mathlib.Omega.{arith}
use lib.Dec.{eqb}
use lib.ListN.{length}
use borrow.Author.Tests.{ltb-true}
use mathlib.Core.Path.{◌≡◌, refl, ap, sym, ◌∙◌}
use mathlib.Core.Bool.{Bool, true, false, cond, ◌&&◌}
use mathlib.Core.List.{List, [], ◌∷◌, ◌++◌, flat_map, append-nil}
use mathlib.Core.Option.{Option, none, some, some-injective}
use Rattle.std.proofs.lemmas.List.Folds.{list_any-append}
use Rattle.std.proofs.lemmas.Bool.{and_parts}
use Rattle.lists.specs.Lists.{all, any, only_if}
use Rattle.texts.specs.Texts.{Text, same}
use Rattle.paths.specs.Reading.{on_some}
use Rattle.paths.proofs.Sure.{some-parts}
use Rattle.tree.specs.Judge.{Report}
use Rattle.records.specs.Readers.{Bytes, reads}
use Rattle.session_spec.specs.Definitions.{Definitions, is_some, constraint_at}
use Rattle.session_spec.specs.Layout.{read_rp, put_rp}
use Rattle.session_spec.specs.Session.{rp_fits, reports_in, told_by}
use Rattle.session_laws.proofs.Tests.{cond-parts}
use Rattle.session_laws.proofs.Stores.{rp-stable, reports-back, Used, rp-length}
use Rattle.output_stores.specs.Stores.{standing, on_list, reads_as, Appended, in_mask}
use Rattle.output_stores.proofs.Walks.{reads-standing}
use Rattle.output_stores.proofs.Appends.{appended-reads}
use Rattle.reports.specs.Reports.{tells, all_defined}
use Rattle.reports.proofs.Reading.{rp-shortens}

-- ---- `reports_read`

pub reports-decode : (d : Definitions) (used : Bytes) → is_some (on_some (reads read_rp used) (reports_in d)) ≡ reads_as read_rp (all_defined (length d.ids)) used
unfolding reads_as
reports-decode d used = by (reads read_rp used)
  where
    picked : (b : Bool) (rs : List Report) → is_some (cond b (some rs) none) ≡ b
    picked true rs = unfold is_some in refl
    picked false rs = unfold is_some in refl

    by : (o : Option (List Report)) → is_some (on_some o (reports_in d)) ≡ on_list o (all_defined (length d.ids))
    by none = unfold is_some on_some on_list in refl
    by (some rs) = unfold on_some on_list reports_in rp_fits all_defined in picked (all_defined (length d.ids) rs) rs

-- ---- `told`

-- the set holds the constraints that bear the name t
abbrev pub Bears : Definitions → Text → (named : ℕ) → Type 0
Bears d t named = (c : ℕ) → c < length d.ids → in_mask named c ≡ same t (constraint_at d c).name

module _ (d : Definitions) (t : Text) (named : ℕ) (bears : Bears d t named) where
  names-one : (r : Report) → rp_fits d r ≡ true → any (same t) (only_if (eqb r.kind 6) ((constraint_at d r.constraint).name ∷ [])) ≡ tells named r
  unfolding tells rp_fits
  names-one r h = rw (bears r.constraint (ltb-true r.constraint (length d.ids) h)) (by (eqb r.kind 6) (same t (constraint_at d r.constraint).name) refl)
    where
      by : (b s : Bool) → same t (constraint_at d r.constraint).name ≡ s → any (same t) (only_if b ((constraint_at d r.constraint).name ∷ [])) ≡ (b && s)
      by true true e = unfold only_if in rw e
      by true false e = unfold only_if in rw e
      by false s e = unfold only_if in refl

  names-all : (rs : List Report) → all (rp_fits d) rs ≡ true → any (same t) (told_by d rs) ≡ any (tells named) rs
  unfolding told_by flat_map
  names-all [] h = refl
  names-all (r ∷ rs) h =
      let p = and_parts (rp_fits d r) (all (rp_fits d) rs) h in
      let one = only_if (eqb r.kind 6) ((constraint_at d r.constraint).name ∷ []) in
      list_any-append (same t) one (told_by d rs) ∙ rw (names-one r p.0, names-all rs p.1)

  pub told_names : (used : Bytes) (rs : List Report) → on_some (reads read_rp used) (reports_in d) ≡ some rs
      → any (same t) (told_by d rs) ≡ any (tells named) (standing read_rp used)
  unfolding reports_in
  told_names used rs h =
      let p = some-parts (reads read_rp used) (reports_in d) rs h in
      let q = cond-parts (all (rp_fits d) p.0) (some p.0) rs p.2 in
      let e : p.0 ≡ rs = some-injective p.0 rs q.1 in
      let a : all (rp_fits d) rs ≡ true = ap (all (rp_fits d)) (sym e) ∙ q.0 in
      names-all rs a ∙ ap (any (tells named)) (sym (reads-standing read_rp rp-shortens used p.0 p.1 ∙ e))

-- ---- `append_report`

pub report-added : (before : Bytes) (used : ℕ) (r : Report) (next : ℕ) (after : Bytes) (rs : List Report) → Appended before used (put_rp r) next after
    → used + 18 ≤ length before → Used read_rp used before rs → Used read_rp next after (rs ++ (r ∷ []))
unfolding flat_map
report-added before used r next after rs a h u =
    let l = rp-length r in
    let e : reads read_rp (put_rp r) ≡ some (r ∷ []) = ap (reads read_rp) (sym (append-nil (put_rp r))) ∙ reports-back (r ∷ []) in
    appended-reads before used (put_rp r) read_rp rp-stable next after rs (r ∷ []) a (omega arith) u e
