-- Which constraints answer which: kind and refer of a constraint stand in its ID, and the set of those that answer is asked of the store.
-- Assumes nothing.
use Rattle.std.specs.Prelude.{Some, None}
use Rattle.std.specs.Option.{unwrap_or}
use Rattle.std.specs.Array.{IsFromFnResult, IsFromFnResultFrom}
use Rattle.std.specs.Fn.{Called}
use Prim.Native.Nat.{ℕ, zero, suc, ◌+◌, ◌≤◌, ◌<◌}
use native.Mathlib.Numerals.{add-one}
use native.Mathlib.Omega.{arith}
use borrow.Author.Tests.{ltb-true, ltb-false}
use lib.Bits.{bit_or}
use lib.Dec.{ltb}
use denote.Param.Members.{Mut}
use lib.ListN.{length, get_or, get_elem?}
use mathlib.Core.Path.{◌≡◌, refl, ap, sym, subst, ◌∙◌}
use mathlib.Core.Bool.{Bool, true, false, not, and-false}
use mathlib.Core.List.{List}
use mathlib.Core.Option.{some}
use Rattle.lists.proofs.Places.{get_elem-some}
use Rattle.texts.specs.Texts.{Text}
use Rattle.tree.specs.Judge.{is_keyref, named}
use Rattle.records.specs.Readers.{Bytes}
use Rattle.record_places.specs.declared.Place.{Place}
use Rattle.record_places.specs.Places.{text_in}
use Rattle.session_spec.specs.Definitions.{Definition, Definitions, read_definitions, kind_of, constraint_at}
use Rattle.bindings.specs.Bindings.{frames_in}
use Rattle.bindings.specs.Own.{own_frames}
use Rattle.constraints.specs.declared.Parts.{Parts}
use Rattle.constraints.specs.Constraints.{joined, id_at, refer_of, PartsAre, PartsOf, AnsweredBy}
use Rattle.constraints.proofs.Replays.{ids-few}
use Rattle.constraints.proofs.Stored.{constraint-is, kind_at, refer-at}
use Rattle.event_answers.specs.Fives.{Ref, no_ref, Answering, RefOf, RefsOf, answers_to}
use Rattle.output_stores.proofs.Masks.{in-none}

-- ---- the kind of an ID

below-keyref : (n : ℕ) → n < 2 → is_keyref (kind_of n) ≡ false
unfolding is_keyref kind_of
below-keyref zero h = refl
below-keyref (suc zero) h = refl
below-keyref (suc (suc n)) h = absurd (omega arith)

from-keyref : (n : ℕ) → 2 ≤ n → is_keyref (kind_of n) ≡ true
unfolding is_keyref kind_of
from-keyref zero h = absurd (omega arith)
from-keyref (suc zero) h = absurd (omega arith)
from-keyref (suc (suc n)) h = refl

-- ---- one constraint, by the parts of its ID

module _ (used : Bytes) (k : ℕ) (own : Bytes) (o : own ≡ joined (own_frames k (frames_in used))) (p : Parts) (q : PartsOf own p) where
  module _ (d : Definitions) (h : read_definitions used ≡ some d) (l : k < length d.ids) where
    defined : (c : Definition) × (get_elem? d.ids k ≡ some c)
    defined = get_elem-some d.ids k l

    its : PartsAre own p defined.0.id
    its = q.says defined.0.id (ap id_at o ∙ constraint-is used d k defined.0 h defined.1)

    kind-is : is_keyref (constraint_at d k).kind ≡ is_keyref (kind_of p.kind)
    kind-is = ap is_keyref (kind_at d k defined.0 defined.1) ∙ ap (λ (n : ℕ). is_keyref (kind_of n)) (sym its.kind)

    refer-is : (constraint_at d k).refer ≡ refer_of own p.refer
    refer-is = refer-at d k defined.0 defined.1 ∙ sym its.refer

    none_answers : p.refer ≡ None → Answering d k 0
    unfolding named
    none_answers f c m = in-none c ∙ sym (rw (refer-is, f) (and-false (not (is_keyref (constraint_at d c).kind))))

    named-answers : (r : Place) → p.refer ≡ Some r → (t : Text) → t ≡ text_in own r → (set : ℕ) → AnsweredBy used t set → Answering d k set
    unfolding named
    named-answers q f t e set a c m =
        let r : (constraint_at d k).refer ≡ some t = refer-is ∙ rw f (ap some (sym e)) in
        a.bears d h c m ∙ sym (rw r)

  pub no-keyref : p.kind < 2 → RefOf used k no_ref
  no-keyref g =
      record { says = λ d h l. record { keyref = sym (kind-is d h l ∙ below-keyref p.kind g); answers = λ e. let z : ◌≡◌ {A = ℕ} 0 1 = cc in absurd (omega arith) } }

  pub unreferred : 2 ≤ p.kind → p.refer ≡ None → RefOf used k (Some 0)
  unreferred g f =
      record { says = λ d h l. record { keyref = sym (kind-is d h l ∙ from-keyref p.kind g); answers = λ e. none_answers d h l f } }

  pub referring : 2 ≤ p.kind → (r : Place) → p.refer ≡ Some r → (t : Text) → t ≡ text_in own r → (set : ℕ) → AnsweredBy used t set
      → RefOf used k (Some set)
  referring g r f t e set a =
      record { says = λ d h l. record { keyref = sym (kind-is d h l ∙ from-keyref p.kind g); answers = λ _. named-answers d h l r f t e set a } }

-- ---- all of them

-- the places that calls gave, at each number in turn
module _ {F : Type 0} (g : Mut F (ℕ × Unit {0}) Ref) (f : F) (used : Bytes) (list : List Ref)
    (each : (i : ℕ) (r : Ref) (q : F) → i < 32 → Called g f (i, tt) r q → (q ≡ f) × RefOf used i r) where
  made-from : (i n : ℕ) → i + n ≤ 32 → IsFromFnResultFrom g f list i n → (j : ℕ) → i ≤ j → j < i + n → RefOf used j (get_or list j no_ref)
  made-from i zero w d j l h = absurd (omega arith)
  made-from i (suc n) w d j l h =
      let c = each i d.1 d.0 (omega arith) d.3 in
      by (rw (d.2.1 no_ref) c.1) (made-from (i + 1) n (omega arith) (subst (λ q. IsFromFnResultFrom g q list (i + 1) n) c.0 d.4) j) (ltb i j) refl
    where
      by : RefOf used i (get_or list i no_ref) → (i + 1 ≤ j → j < i + 1 + n → RefOf used j (get_or list j no_ref)) → (b : Bool) → ltb i j ≡ b → RefOf used j (get_or list j no_ref)
      by one rest true e = let m = ltb-true i j e in rest (omega arith) (omega arith)
      by one rest false e =
          let m = ltb-false i j e in
          let z : j ≡ i = omega arith in
          rw z one

  pub made-all : IsFromFnResult g f list 32 → RefsOf used (record { list = list })
  made-all m =
      record { each = λ d e j l. let k = ids-few used d e in (made-from 0 32 (omega arith) m.each j (omega arith) (omega arith)).says d e l }

-- ---- the sets of all places, one after the other

pub answers-more : (list : List Ref) (k set : ℕ) → set ≡ answers_to k list → bit_or set (unwrap_or (get_or list k no_ref) 0) ≡ answers_to (k + 1) list
unfolding answers_to
answers-more list k set e = ap (λ (a : ℕ). bit_or a (unwrap_or (get_or list k no_ref) 0)) e ∙ ap (λ (j : ℕ). answers_to j list) (sym (add-one k))
