-- Path by path: the selector first, then field after field, until one does not read.
-- Assumes nothing.
use Prim.Native.Nat.{ℕ, ◌≤◌}
use native.Mathlib.Omega.{arith}
use lib.ListN.{length}
use mathlib.Core.Path.{◌≡◌, refl, ap, sym, subst, ◌∙◌}
use mathlib.Core.Bool.{Bool, true, false, ◌&&◌}
use mathlib.Core.List.{List, [], ◌∷◌}
use mathlib.Core.Option.{Option, none, some}
use Rattle.lists.specs.Lists.{all, any, All}
use Rattle.texts.specs.Texts.{Text}
use Rattle.paths.specs.Names.{Name}
use Rattle.paths.specs.Matching.{matches}
use Rattle.paths.specs.Reading.{WrittenAlt, read_path, step_path_of}
use Rattle.records.specs.Readers.{Bytes}
use Rattle.records.specs.Records.{IdRecord}
use Rattle.record_places.specs.Places.{text_in, texts_at}
use Rattle.bindings.specs.Bindings.{uri_in}
use Rattle.session_spec.specs.Definitions.{is_some, or_none}
use Rattle.path_entries.specs.Entries.{path_in}
use Rattle.path_reader.specs.Parsing.{roomy}
use Rattle.path_reader.proofs.Parsing.{room_for}
use Rattle.path_area.specs.Scratch.{Scratched, ReadsInto}
use Rattle.path_area.proofs.Scratch.{scratch-same, scratch-then}
use Rattle.matching.specs.Matched.{names_below, selected_by}
use Rattle.constraints.specs.Constraints.{id_at, PartsOf}
use Rattle.constraints.specs.declared.Parts.{Parts}
use Rattle.constraint_paths.specs.Paths.{field_reads, all_read, taken, PathsRead, FieldsRead, Takes}
use Rattle.constraint_paths.proofs.Short.{id-short}

no-some : {A : Type 0} (o : Option A) → o ≡ none → is_some o ≡ true → ⊥
unfolding is_some
no-some none e h = let z : ◌≡◌ {A = ℕ} 0 1 = cc in omega arith
no-some (some a) e h = let z : ◌≡◌ {A = ℕ} 0 1 = cc in omega arith

-- ---- the selector

-- of a constraint whose records, `kept` in it, are those handed in
module _ {own kept : Bytes} (p : Parts) (k : kept ≡ own) (po : PartsOf own p) {before : Bytes} {text : Text} (te : text ≡ text_in kept p.selector)
    {b : Bool} {mid : Bytes} (ri : ReadsInto false text before b mid) where
  module _ (long : 1024 ≤ length before) (i : IdRecord) (e : id_at own ≡ some i) where
    is : text ≡ i.selector
    is = te ∙ ap (λ (o : Bytes). text_in o p.selector) k ∙ (po.says i e).selector

    room : roomy text before ≡ true
    room = room_for text before (rw is (id-short own i e).selector) long

    selector-is : b ≡ is_some (read_path false i.selector)
    selector-is = ri.answers room ∙ ap (λ (t : Text). is_some (read_path false t)) is

  pub selector-unread : b ≡ false → PathsRead own before false mid
  unfolding all_read
  selector-unread q =
      record {
        says = λ long i e. let z : is_some (read_path false i.selector) ≡ false = sym (selector-is long i e) ∙ q in rw z;
        scratched = ri.scratched;
      }

  pub then-fields : b ≡ true → {r : Bool} {after : Bytes} → FieldsRead kept p mid r after → PathsRead own before r after
  unfolding all_read
  then-fields q {r} {after} kf =
      let f : FieldsRead own p mid r after = subst (λ (o : Bytes). FieldsRead o p mid r after) k kf in
      record {
        says = λ long i e.
            let a = po.says i e in
            let z : is_some (read_path false i.selector) ≡ true = sym (selector-is long i e) ∙ q in
            let n : length (texts_at own p.first p.count) ≡ p.count = ap length a.fields ∙ sym a.count in
            let s : All (λ (t : Text). length t ≤ 255) (texts_at own p.first p.count) = rw a.fields (id-short own i e).fields in
            rw z (f.says (omega (arith, ri.scratched.size)) n s ∙ ap (all field_reads) a.fields);
        scratched = scratch-then before mid after ri.scratched f.scratched;
      }

  unread-takes : (find : Text → Option Text) (below : List Name) (o : Option (List WrittenAlt)) → is_some o ≡ false → any (λ a. matches (step_path_of find a) below) (or_none o) ≡ false
  unfolding is_some or_none
  unread-takes find below none h = refl
  unread-takes find below (some l) h = let z : ◌≡◌ {A = ℕ} 0 1 = cc in absurd (omega arith)

  module _ (schema names : Bytes) (base depth : ℕ) where
    pub takes_none : b ≡ false → Takes own schema names base depth before false mid
    unfolding taken
    takes_none q =
        record {
          says = λ long i e. sym (unread-takes _ _ (read_path false i.selector) (sym (selector-is long i e) ∙ q));
          scratched = ri.scratched;
        }

    pub takes-some : b ≡ true → {find : Text → Option Text} → find ≡ uri_in own schema 1 → {r : Bool} → r ≡ selected_by find mid (names_below base depth names)
        → Takes own schema names base depth before r mid
    unfolding taken selected_by or_none
    takes-some q u {r} s =
        let w : r ≡ selected_by (uri_in own schema 1) mid below = s ∙ ap (λ (f : Text → Option Text). selected_by f mid below) u in
        record { says = λ long i e. by long i e (read_path false i.selector) refl w; scratched = ri.scratched }
      where
        below : List Name
        below = names_below base depth names

        by : (long : 1024 ≤ length before) (i : IdRecord) (e : id_at own ≡ some i) (o : Option (List WrittenAlt)) → read_path false i.selector ≡ o
            → r ≡ selected_by (uri_in own schema 1) mid below → r ≡ any (λ a. matches (step_path_of (uri_in own schema 1) a) below) (or_none o)
        by long i e none z w =
            let y : is_some (read_path false i.selector) ≡ true = sym (selector-is long i e) ∙ q in
            absurd (no-some (read_path false i.selector) z y)
        by long i e (some alts) z w =
            let p : path_in mid ≡ alts = ri.entries (room long i e) alts (ap (read_path false) (is long i e) ∙ z) in
            w ∙ ap (any (λ a. matches (step_path_of (uri_in own schema 1) a) below)) p

-- ---- field after field

-- those before `rest` have been read
pub record Passed (own : Bytes) (p : Parts) (before : Bytes) (rest : List Text) (area : Bytes) : Type 0 where
  pub so_far : 1024 ≤ length before → length (texts_at own p.first p.count) ≡ p.count → All (λ (t : Text). length t ≤ 255) (texts_at own p.first p.count)
      → (all field_reads (texts_at own p.first p.count) ≡ all field_reads rest) × All (λ (t : Text). length t ≤ 255) rest
  pub scratched : Scratched before area

module _ (own : Bytes) (p : Parts) (before : Bytes) where
  abbrev texts : List Text
  texts = texts_at own p.first p.count

  abbrev short : List Text → Type 0
  short = All (λ (t : Text). length t ≤ 255)

  pub none_passed : (rest : List Text) → rest ≡ texts → Passed own p before rest before
  none_passed rest e = record { so_far = λ l n a. rw e (refl, a); scratched = scratch-same before }

  module _ (rest : List Text) (area : Bytes) (q : Passed own p before rest area) where
    module _ (text : Text) (more : List Text) (e : rest ≡ text ∷ more) (b : Bool) (mid : Bytes) (ri : ReadsInto true text area b mid) where
      here : 1024 ≤ length before → length texts ≡ p.count → short texts → (all field_reads texts ≡ (b && all field_reads more)) × short more
      here l n a =
          let s = q.so_far l n a in
          let t : short (text ∷ more) = subst short e s.1 in
          let k : b ≡ field_reads text = ri.answers (room_for text area t.0 (omega (arith, q.scratched.size))) in
          (s.0 ∙ ap (all field_reads) e ∙ ap (λ (c : Bool). c && all field_reads more) (sym k), t.1)

      pub one-unread : b ≡ false → FieldsRead own p before false mid
      one-unread z =
          record {
            says = λ l n a. sym ((here l n a).0 ∙ ap (λ (c : Bool). c && all field_reads more) z);
            scratched = scratch-then before area mid q.scratched ri.scratched;
          }

      pub one-passed : b ≡ true → Passed own p before more mid
      one-passed z =
          record {
            so_far = λ l n a. let h = here l n a in (h.0 ∙ ap (λ (c : Bool). c && all field_reads more) z, h.1);
            scratched = scratch-then before area mid q.scratched ri.scratched;
          }
