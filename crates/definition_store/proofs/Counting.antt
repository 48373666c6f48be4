-- One record by its places: the walk says what `parse` does, an ID has as many fields as it counts, and at most four.
-- Assumes nothing.
use Prim.Native.Nat.{ℕ, ◌≤◌}
use native.Mathlib.Omega.{arith}
use lib.ListN.{length}
use mathlib.Core.Path.{◌≡◌, ap, sym, ◌∙◌}
use Rattle.texts.specs.Texts.{Text}
use Rattle.records.specs.Readers.{Bytes}
use Rattle.records.specs.Records.{parsed, parse}
use Rattle.record_places.specs.declared.Id.{Id}
use Rattle.record_places.specs.declared.Ns.{Ns}
use Rattle.record_places.specs.declared.Es.{Es}
use Rattle.record_places.specs.declared.Ee.{Ee}
use Rattle.record_places.specs.declared.Refusal.{Refusal}
use Rattle.record_places.specs.declared.Record.TheVariants as walked
use Rattle.record_places.specs.Places.{text_in, texts_at, id_in, ns_in, es_in, ee_in, parsed_by, InsideId, Walked, Walks}
use Rattle.definition_store.specs.declared.Tally.{Tally}
use Rattle.std.specs.declared.option.Option.TheVariants.{None}
use Rattle.std.specs.declared.result.Result.TheVariants.{Ok, Err}
use Rattle.definition_store.specs.Store.{Defined, id_verdict, ns_verdict}
use Rattle.definition_store.specs.Counting.{with_id, with_ns, tallied, if_good, counted, counted_by}
use Rattle.session_laws.proofs.Limits.{id-few, limited}

module _ (used : Bytes) (t : Tally) (f : Bytes) (r : Walked) (w : Walks f (parse f) r) where
  says : (v : Walked) → r ≡ v → counted_by used t (parsed_by f v) ≡ counted_by used t (parse f)
  says v e = ap (λ (x : Walked). counted_by used t (parsed_by f x)) (sym e) ∙ ap (counted_by used t) w.says

  -- ---- no definition

  pub counts-refused : (c : Refusal) → r ≡ Err c → None ≡ counted_by used t (parse f)
  unfolding counted_by
  counts-refused c e = says (Err c) e

  pub counts-es : (x : Es) → r ≡ Ok (walked.Es x) → None ≡ counted_by used t (parse f)
  unfolding counted_by counted es_in
  counts-es x e = says (Ok (walked.Es x)) e

  pub counts-ee : (x : Ee) → r ≡ Ok (walked.Ee x) → None ≡ counted_by used t (parse f)
  unfolding counted_by counted ee_in
  counts-ee x e = says (Ok (walked.Ee x)) e

  pub counts-fi : r ≡ Ok walked.Fi → None ≡ counted_by used t (parse f)
  unfolding counted_by counted
  counts-fi e = says (Ok walked.Fi) e

  -- ---- an ID

  module _ (id : Id) (e : r ≡ Ok (walked.Id id)) where
    within : InsideId f id
    within = rw e at w.inside

    pub few-counted : id.count ≤ 4
    unfolding id_in
    few-counted =
        let p : parse f ≡ parsed (id_in f id) = sym w.says ∙ ap (parsed_by f) e in
        let n : length (texts_at f id.first id.count) ≤ 4 = id-few _ (limited f _ p) in
        let l : length (texts_at f id.first id.count) ≡ id.count = within.whole in
        omega arith

    pub counts-id : (o : Defined) → o ≡ if_good (id_verdict t) (with_id id.count t) → o ≡ counted_by used t (parse f)
    unfolding counted_by counted tallied id_in
    counts-id o q = q ∙ ap (λ (n : ℕ). if_good (id_verdict t) (with_id n t)) (sym within.whole) ∙ says (Ok (walked.Id id)) e

  -- ---- an NS

  pub counts-ns : (x : Ns) → r ≡ Ok (walked.Ns x) → (p : Text) → p ≡ text_in f x.prefix → (o : Defined) → o ≡ if_good (ns_verdict used t x.target p) (with_ns t)
      → o ≡ counted_by used t (parse f)
  unfolding counted_by counted tallied ns_in
  counts-ns x e p s o q = q ∙ ap (λ (y : Text). if_good (ns_verdict used t x.target y) (with_ns t)) s ∙ says (Ok (walked.Ns x)) e
