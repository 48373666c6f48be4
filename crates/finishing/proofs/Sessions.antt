-- The reports of kind 5 are those of the session that the stores decode to: record by record, each is its TU's, and a set answers it where a tuple of the session does.
-- Assumes nothing.
use Rattle.std.specs.Prelude.{is_some}
use Rattle.std.specs.Option.{unwrap_or}
use Prim.Native.Nat.{ℕ, suc, ◌+◌, ◌%◌, ◌<◌}
use native.Mathlib.Omega.{arith}
use lib.ListN.{length, drop, get_or}
use mathlib.Core.Path.{◌≡◌, refl, ap, sym, ◌∙◌}
use mathlib.Core.Bool.{Bool, true, false, ◌&&◌, not}
use mathlib.Core.List.{List, [], ◌∷◌, map}
use mathlib.Core.Option.{some}
use Rattle.lists.specs.Lists.{all, any, All}
use Rattle.lists.proofs.Places.{all_true}
use Rattle.tree.specs.Judge.{Tuple, is_keyref, answers, kind_five, unanswered, kind_fives}
use Rattle.records.specs.Readers.{Bytes, reads}
use Rattle.session_spec.specs.Definitions.{Definitions, frame, constraint_at}
use Rattle.session_spec.specs.Layout.{TuRecord, read_tu, as_tuple}
use Rattle.session_spec.specs.Session.{tu_fits}
use Rattle.session_laws.proofs.Constraints.{number_at}
use Rattle.session_laws.proofs.Holds.{TuFit, tu-fits}
use Rattle.output_stores.specs.Stores.{standing}
use Rattle.tuple_search.specs.Search.{answered_by}
use Rattle.tuple_search.proofs.Records.{Below}
use Rattle.tuple_search.proofs.Found.{Each, TuIn, tuple-standing, Exact, exact-standing, answered-texts}
use Rattle.tuple_search.proofs.Answers.{answers-are}
use Rattle.event_answers.specs.declared.Refs.{Refs}
use Rattle.event_answers.specs.Fives.{Ref, no_ref, RefIs, ref_for, is_lacking, five_of, five_for, fives_from, fives_in}

module _ (d : Definitions) (opened : ℕ) (refs : Refs) (each : (k : ℕ) → k < length d.ids → RefIs d k (get_or refs.list k no_ref))
    (used : Bytes) (tus : List TuRecord) (b : Below used) (h : reads read_tu used ≡ some tus) (fit : All (TuFit d opened) tus) where
  abbrev every : List Tuple
  every = map (as_tuple d) tus

  all_fit : all (tu_fits d opened) tus ≡ true
  all_fit = all_true (tu_fits d opened) (TuFit d opened) (tu-fits d opened) tus fit

  -- ---- one record

  module _ (f : Bytes) (t : TuRecord) (x : Exact f t) (g : TuFit d opened t) where
    its : Ref
    its = get_or refs.list t.constraint no_ref

    its-is : ref_for refs f ≡ its
    unfolding its
    its-is = ap (λ (k : ℕ). get_or refs.list k no_ref) x.constraint

    ref-is : RefIs d t.constraint its
    unfolding its
    ref-is = each t.constraint g.defined

    answered-as : is_some its ≡ true → answered_by (unwrap_or its 0) (drop 9 f) (standing frame used) ≡ any (answers (as_tuple d t)) every
    unfolding as_tuple
    answered-as k =
        ap (λ (l : Bytes). answered_by (unwrap_or its 0) l (standing frame used)) x.texts
        ∙ answered-texts (unwrap_or its 0) t.keys used tus b h
        ∙ sym (answers-are d (as_tuple d t) (unwrap_or its 0) (ref-is.answers k) opened tus all_fit)

    lacks : is_lacking refs used f ≡ (is_keyref (constraint_at d t.constraint).kind && not (any (answers (as_tuple d t)) every))
    unfolding is_lacking
    lacks =
        ap (λ (r : Ref). is_some r && not (answered_by (unwrap_or r 0) (drop 9 f) (standing frame used))) its-is
        ∙ by (is_some its) refl
        ∙ ap (λ (k : Bool). k && not (any (answers (as_tuple d t)) every)) ref-is.keyref
      where
        by : (k : Bool) → (is_some its) ≡ k
            → (k && not (answered_by (unwrap_or its 0) (drop 9 f) (standing frame used))) ≡ (k && not (any (answers (as_tuple d t)) every))
        by true e = ap not (answered-as e)
        by false e = refl

    module _ (e i : ℕ) (u : TuIn f t) (l : i + 1 < 4294967296) where
      five-is : five_of e (i + 1) f ≡ kind_five e (suc i) (as_tuple d t)
      unfolding five_of kind_five as_tuple
      five-is =
          let m : (i + 1) % 4294967296 ≡ suc i = omega arith in
          let c : get_or f 4 0 ≡ (constraint_at d t.constraint).number = x.constraint ∙ sym (number_at d t.constraint g.defined) in
          λ j. record { kind = 5; constraint = c j; field = 0; scope = u.scope j; event = e; tuple = m j }

      five-here : five_for refs used e (i + 1) f ≡ unanswered e every (suc i) (as_tuple d t)
      unfolding five_for unanswered as_tuple
      five-here = rw (lacks, five-is)

  -- ---- one after the other

  fives-each : (e i : ℕ) (fs : List Bytes) (ts : List TuRecord) → Each Exact fs ts → Each TuIn fs ts → All (TuFit d opened) ts → i + length ts < 4294967296
      → fives_from refs used e i fs ≡ kind_fives e every i (map (as_tuple d) ts)
  unfolding fives_from kind_fives
  fives-each e i [] [] x u g l = refl
  fives-each e i [] (t ∷ ts) x u g l = absurd x
  fives-each e i (f ∷ fs) [] x u g l = absurd x
  fives-each e i (f ∷ fs) (t ∷ ts) x u g l =
      let z : i + 1 ≡ suc i = omega arith in
      let m = fives-each e (i + 1) fs ts x.1 u.1 g.1 (omega arith) in
      rw (five-here f t x.0 g.0 e i u.0 (omega arith), m, z)

  -- THE REPORTS of the session
  pub fives-are : (e : ℕ) → length tus < 4294967296 → fives_in refs used e ≡ kind_fives e every 0 every
  unfolding fives_in
  fives-are e l = fives-each e 0 (standing frame used) tus (exact-standing used tus b h) (tuple-standing used tus h) fit (omega arith)
