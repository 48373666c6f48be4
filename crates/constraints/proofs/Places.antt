-- The parts of an ID by their places: what stands at each place is what the walk of the ID read there, from the kind on to the fields.
-- Assumes nothing.
use Prim.Native.Nat.{ℕ, ◌+◌, ◌≤◌, ◌<◌}
use native.Mathlib.Omega.{arith}
use lib.Dec.{eqb, leb, ltb}
use lib.ListN.{length, drop, get_or, drop_of_length-le}
use borrow.Author.Tests.{leb-true, ltb-true, ltb-false}
use mathlib.Core.Path.{◌≡◌, refl, ap, sym, ◌∙◌, subst}
use mathlib.Core.Bool.{Bool, true, false, cond}
use mathlib.Core.List.{[]}
use mathlib.Core.Option.{Option, none, some, some-injective, none-ne-some}
use Rattle.records.specs.Readers.{Bytes, read_byte, read_text, up_to}
use Rattle.records.specs.Records.{IdRecord, read_refer, parse}
use Rattle.records.proofs.Places.{byte-there}
use Rattle.record_places.specs.declared.TextAt.{TextAt}
use Rattle.std.specs.Bool.{then_some}
use Rattle.record_places.specs.declared.Place.{Place}
use Rattle.record_places.specs.Places.{text_in, Within, read_to, TextOf, refer_in, ReferOf}
use Rattle.session_spec.specs.Definitions.{frame}
use Rattle.frames.proofs.Fronts.{frame-cut}
use Rattle.constraints.specs.declared.Counted.{Counted}
use Rattle.constraints.specs.declared.Parts.{Parts}
use Rattle.constraints.specs.Constraints.{id_of, id_at, refer_of, ReferWithin, PartsAre, PartsOf}
use Rattle.constraints.specs.Walks.{CountedAt}
use Rattle.constraints.proofs.Ids.{Read, parsed-read, said-id, times-whole}
use Rattle.paths.proofs.Sure.{some-parts}

-- ---- what was read up to a place

pub record Reached {A : Type 0} (s : Bytes) (next : ℕ) (a b : A) (r : Bytes) : Type 0 where
  pub inside : next ≤ length s
  pub value : a ≡ b
  pub left : drop next s ≡ r

pub reached : {A : Type 0} (s : Bytes) (next : ℕ) (a b : A) (r : Bytes) → read_to s next a ≡ some (b, r) → Reached s next a b r
unfolding read_to
reached {A} s next a b r h = by (leb next (length s)) refl h
  where
    by : (t : Bool) → leb next (length s) ≡ t → cond {A = Option (A × Bytes)} t (some (a, drop next s)) none ≡ some (b, r) → Reached s next a b r
    by true e h =
        let q : ◌≡◌ {A = A × Bytes} (a, drop next s) (b, r) = some-injective _ _ h in
        record { inside = leb-true next (length s) e; value = ap (λ (w : A × Bytes). w.0) q; left = ap (λ (w : A × Bytes). w.1) q }
    by false e h = absurd (none-ne-some (b, r) h)

pub byte-reached : (s : Bytes) (i b : ℕ) (r : Bytes) → read_byte (drop i s) ≡ some (b, r) → Reached s (i + 1) (get_or s i 0) b r
byte-reached s i b r h = by (ltb i (length s)) refl
  where
    by : (t : Bool) → ltb i (length s) ≡ t → Reached s (i + 1) (get_or s i 0) b r
    by true e =
        let l : i < length s = ltb-true i (length s) e in
        let q : ◌≡◌ {A = ℕ × Bytes} (get_or s i 0, drop (i + 1) s) (b, r) = some-injective _ _ (sym (byte-there s i l) ∙ h) in
        record { inside = omega arith; value = ap (λ (w : ℕ × Bytes). w.0) q; left = ap (λ (w : ℕ × Bytes). w.1) q }
    by false e =
        let z : drop i s ≡ [] = drop_of_length-le s {i = i} (ltb-false i (length s) e) in
        absurd (none-ne-some (b, r) (sym (ap read_byte z ∙ unfold read_byte in refl) ∙ h))

-- ---- an ID at the front of bytes

pub record Front (own : Bytes) (i : IdRecord) : Type 0 where
  pub rest : Bytes
  pub walk : Read (drop 4 own) i rest

pub front : (own : Bytes) (i : IdRecord) → id_at own ≡ some i → Front own i
unfolding id_at
front own i h =
    let p = some-parts (frame own) (λ q. id_of (parse q.0)) i h in
    let f = p.0.0 in
    let r = p.0.1 in
    let c = frame-cut own f r p.1 in
    let w = parsed-read f i (said-id (parse f) i p.2) r in
    record { rest = r; walk = subst (λ (l : Bytes). Read (drop 4 l) i r) (sym c.0) w }

-- ---- the parts

refer-said : (own : Bytes) (b : Bool) (p : Place) → refer_of own (then_some b p) ≡ cond b (some (text_in own p)) none
refer-said own true p = refl
refer-said own false p = refl

refer-inside : (own : Bytes) (b : Bool) (p : Place) → Within own p → ReferWithin own (then_some b p)
refer-inside own true p h = h
refer-inside own false p h = tt

module _ (own : Bytes) (kind flag : ℕ) (n f t : TextAt) (c : Counted) (ek : kind ≡ get_or own 4 0) (a : TextOf own 5 n) (eg : flag ≡ get_or own n.next 0)
    (b : ReferOf own flag (n.next + 1) f) (g : TextOf own f.next t) (h : CountedAt own t.next c) where
  abbrev the_parts : Parts
  the_parts = record { kind = kind; name = n.text; refer = then_some (eqb flag 1) f.text; selector = t.text; first = c.first; count = c.count }

  module _ (i : IdRecord) (rest : Bytes) (w : Read (drop 4 own) i rest) where
    kind_at : Reached own 5 (get_or own 4 0) i.kind w.behind_kind
    kind_at = byte-reached own 4 i.kind w.behind_kind w.kind

    name-at : Reached own n.next (text_in own n.text) i.name w.behind_name
    name-at = reached own n.next (text_in own n.text) i.name w.behind_name (sym a.says ∙ ap read_text kind_at.left ∙ w.name)

    flag_at : Reached own (n.next + 1) (get_or own n.next 0) i.flag w.behind_flag
    flag_at = byte-reached own n.next i.flag w.behind_flag (ap read_byte name-at.left ∙ w.flag)

    flag_is : flag ≡ i.flag
    flag_is = eg ∙ flag_at.value

    refer-at : Reached own f.next (refer_in own flag f.text) i.refer w.behind_refer
    refer-at =
        reached own f.next (refer_in own flag f.text) i.refer w.behind_refer
        (sym (b.reads.says flag_at.inside) ∙ ap (read_refer (eqb flag 1)) flag_at.left ∙ ap (λ (k : ℕ). read_refer (eqb k 1) w.behind_flag) flag_is ∙ w.refer)

    selector-at : Reached own t.next (text_in own t.text) i.selector w.behind_selector
    selector-at = reached own t.next (text_in own t.text) i.selector w.behind_selector (sym g.says ∙ ap read_text refer-at.left ∙ w.selector)

    count_at : Reached own (t.next + 1) (get_or own t.next 0) w.number w.behind_count
    count_at = byte-reached own t.next w.number w.behind_count (ap read_byte selector-at.left ∙ w.count)

    parts_are : PartsAre own the_parts i
    parts_are =
        let l : t.next < length own = let k = count_at.inside in omega arith in
        let p = h.here l in
        let q = times-whole read_text w.number w.behind_count i.fields rest w.fields in
        let m : c.count ≡ w.number = p.0 ∙ count_at.value in
        let d : drop c.first own ≡ w.behind_count = ap (λ (k : ℕ). drop k own) p.1 ∙ count_at.left in
        record {
          kind = ek ∙ kind_at.value;
          name = name-at.value;
          refer = refer-said own (eqb flag 1) f.text ∙ refer-at.value;
          selector = selector-at.value;
          count = m ∙ sym q.1;
          fields = ap (λ (k : ℕ). up_to k read_text (drop c.first own)) m ∙ ap (up_to w.number read_text) d ∙ q.0;
        }

  -- THE LAW
  pub parts_whole : PartsOf own the_parts
  parts_whole =
      record {
        says = λ i e. let w = front own i e in parts_are i w.rest w.walk;
        within = record { name = a.within; refer = refer-inside own (eqb flag 1) f.text b.within; selector = g.within; first = h.inside };
      }
