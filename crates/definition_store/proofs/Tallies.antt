-- One record more: the tally of what it defines, and that it is counted exactly where it is taken once more. An own binding changes neither the number of constraints nor
-- the fields of the latest.
-- Assumes nothing.
use Prim.Native.Nat.{ℕ}
use native.Mathlib.Numerals.{add-one}
use lib.Dec.{eqb}
use lib.ListN.{length}
use mathlib.Core.Path.{◌≡◌, refl, ap, sym, ◌∙◌}
use mathlib.Core.Bool.{Bool, true, false, cond, ◌&&◌, ◌||◌, not}
use mathlib.Core.List.{List, [], ◌∷◌, ◌++◌}
use mathlib.Core.Option.{Option, none, some}
use Rattle.lists.proofs.Folds.{length-snoc}
use Rattle.paths.specs.Reading.{on_some}
use Rattle.records.specs.Readers.{Bytes}
use Rattle.records.specs.Refusals.{Refusal}
use Rattle.records.specs.Records.{NsRecord, Rec, ID, NS, ES, EE, FI, Parsed, unparsed, parsed, parse}
use Rattle.session_spec.specs.Definitions.{Definition, Definitions, bind_last, bind, define, is_definition, latest, is_undefined, is_bound, too_many_defined, replay_rec, replay_parsed, replay, read_definitions}
use Rattle.session_laws.proofs.Replays.{bind-length}
use Rattle.definition_store.specs.declared.Tally.{Tally}
use Rattle.definition_store.specs.Store.{field_count, tally_of, defined_by, verdict, id_verdict, ns_verdict}
use Rattle.definition_store.specs.Counting.{with_ns, tallied, if_good, counted, counted_by}
use Rattle.definition_store.proofs.Verdicts.{id-verdict-is, ns-verdict-is}

-- ---- the tally of one record more

latest-snoc : (ds : List Definition) (c : Definition) → latest (ds ++ (c ∷ [])) ≡ some c
unfolding latest
latest-snoc [] c = refl
latest-snoc (d ∷ []) c = refl
latest-snoc (d ∷ e ∷ ds) c = latest-snoc (e ∷ ds) c

bind-fields : (b : NsRecord) (ds : List Definition) → field_count (latest (bind_last b ds)) ≡ field_count (latest ds)
unfolding bind_last latest field_count
bind-fields b [] = refl
bind-fields b (d ∷ []) = refl
bind-fields b (d ∷ e ∷ []) = refl
bind-fields b (d ∷ e ∷ f ∷ ds) = bind-fields b (e ∷ f ∷ ds)

same-tally : {a b c x y z : ℕ} → a ≡ x → b ≡ y → c ≡ z
    → ◌≡◌ {A = Tally} (record { constraints = a; fields = b; bindings = c }) (record { constraints = x; fields = y; bindings = z })
same-tally p q r = λ i. record { constraints = p i; fields = q i; bindings = r i }

pub tally-more : (r : Rec) (d : Definitions) → tally_of (define r d) ≡ tallied r (tally_of d)
unfolding tally_of define tallied
tally-more (ID r) d =
    same-tally (length-snoc d.ids (record { id = r; own = [] }) ∙ sym (add-one (length d.ids)))
    (ap field_count (latest-snoc d.ids (record { id = r; own = [] })) ∙ unfold field_count in refl) refl
tally-more (NS b) d = by (eqb b.target 0)
  where
    by : (t : Bool) → tally_of (bind t b d) ≡ with_ns (tally_of d)
    by true = unfold bind in same-tally refl refl (sym (add-one d.bindings))
    by false = unfold bind in same-tally (bind-length b d.ids) (bind-fields b d.ids) (sym (add-one d.bindings))
tally-more (ES r) d = refl
tally-more (EE r) d = refl
tally-more FI d = refl

-- ---- a record is counted exactly where it is taken once more

taken-good : (d : Definitions) (u b f : Bool) → defined_by (cond (true && not (u || (b || f))) (some d) none) ≡ if_good (verdict u b f) (tally_of d)
unfolding defined_by verdict if_good
taken-good d true b f = refl
taken-good d false true f = refl
taken-good d false false true = refl
taken-good d false false false = refl

module _ (used : Bytes) (d : Definitions) (h : read_definitions used ≡ some d) where
  -- by the verdict and the tally of it
  judged : (r : Rec) (v : Option Refusal) → is_definition r ≡ true → v ≡ verdict (is_undefined r d) (is_bound r d) (too_many_defined r d)
      → defined_by (replay_rec r d) ≡ if_good v (tallied r (tally_of d))
  unfolding replay_rec
  judged r v i e =
      ap (λ (x : Bool). defined_by (cond (x && not (is_undefined r d || (is_bound r d || too_many_defined r d))) (some (define r d)) none)) i
      ∙ taken-good (define r d) (is_undefined r d) (is_bound r d) (too_many_defined r d)
      ∙ ap (λ (x : Option Refusal). if_good x (tally_of (define r d))) (sym e)
      ∙ ap (if_good v) (tally-more r d)

  rec-counted : (r : Rec) → defined_by (replay_rec r d) ≡ counted used (tally_of d) r
  unfolding counted is_definition
  rec-counted (ID r) = judged (ID r) (id_verdict (tally_of d)) refl (id-verdict-is d r)
  rec-counted (NS b) = judged (NS b) (ns_verdict used (tally_of d) b.target b.prefix) refl (ns-verdict-is used d b h)
  rec-counted (ES r) = unfold replay_rec defined_by in refl
  rec-counted (EE r) = unfold replay_rec defined_by in refl
  rec-counted FI = unfold replay_rec defined_by in refl

  parsed-counted : (p : Parsed) → defined_by (replay_parsed p d) ≡ counted_by used (tally_of d) p
  unfolding replay_parsed counted_by
  parsed-counted (unparsed c) = unfold defined_by in refl
  parsed-counted (parsed r) = rec-counted r

  pub record-counted : (f : Bytes) → defined_by (replay (some d) f) ≡ counted_by used (tally_of d) (parse f)
  unfolding replay on_some
  record-counted f = parsed-counted (parse f)
