-- One scope: what its fields' rows hold is what the definitions say of the constraint that its number stands for.
-- Assumes nothing.
use Prim.Native.Nat.{ℕ, ◌+◌, ◌*◌, ◌≤◌, ◌<◌}
use native.Mathlib.Omega.{arith}
use borrow.Author.Tests.{ltb-true, ltb-false}
use lib.Dec.{ltb}
use lib.ListN.{length, drop, get_or, get_elem?}
use mathlib.Core.Path.{◌≡◌, refl, ap, sym, ◌∙◌}
use mathlib.Core.Bool.{Bool, true, false, cond}
use mathlib.Core.List.{List, [], map}
use mathlib.Core.Option.{none, some}
use Rattle.lists.proofs.Places.{get_elem-some}
use Rattle.texts.specs.Texts.{Text}
use Rattle.paths.specs.Names.{Name}
use Rattle.paths.specs.Matching.{FieldAlt}
use Rattle.paths.specs.Reading.{every, read_path, field_alt_of}
use Rattle.tree.specs.Cells.{reach}
use Rattle.records.specs.Readers.{Bytes}
use Rattle.session_spec.specs.Definitions.{Definition, Definitions, read_definitions, or_none, constraint_at}
use Rattle.session_spec.specs.Layout.{parts, name_in}
use Rattle.bindings.specs.Bindings.{frames_in, uri_in}
use Rattle.bindings.specs.Own.{own_frames}
use Rattle.matching.specs.Matched.{names_below}
use Rattle.cells.specs.Cells.{depth_at}
use Rattle.cells.proofs.Machine.{not-reached}
use Rattle.path_area.proofs.Scratch.{scratch-same}
use Rattle.constraints.specs.Constraints.{joined, id_at, PartsAre, PartsOf}
use Rattle.constraints.specs.declared.Parts.{Parts}
use Rattle.constraints.proofs.Stored.{constraint-is, fields_at}
use Rattle.reaching.specs.Rows.{picked}
use Rattle.reaching.proofs.Names.{names-below}
use Rattle.constraint_paths.proofs.Short.{id-short}
use Rattle.constraint_paths.proofs.Stands.{field_is}
use Rattle.element_hits.specs.Rows.{AnyOf, reach_of, field_texts, Blank, RowsOf, ScopeOf}
use Rattle.lists.specs.Lists.{All}

module _ (cells : Bytes) (n place number : ℕ) (names : Bytes) (depth : ℕ) (defs before counts own : Bytes)
    (oe : own ≡ joined (own_frames number (frames_in defs))) (p : Parts) (po : PartsOf own p) (after counts' : Bytes)
    (ro : RowsOf cells n place names depth own p defs before counts after counts') where
  module _ (d : Definitions) (nm : List Name) (h : read_definitions defs ≡ some d) (e : every name_in (parts 514 depth names) ≡ some nm)
      (c : Definition) (at : get_elem? d.ids number ≡ some c) where
    first-id : id_at own ≡ some c.id
    first-id = ap id_at oe ∙ constraint-is defs d number c h at

    are : PartsAre own p c.id
    are = po.says c.id first-id

    short : All (λ (t : Text). length t ≤ 255) (field_texts own p)
    short = rw are.fields (id-short own c.id first-id).fields

    abbrev fields : List (List FieldAlt)
    fields = (constraint_at d number).fields

    -- a field that there is
    reach-is : (f base : ℕ) → f < p.count → reach_of (uri_in own defs (2 + f)) (get_or (field_texts own p) f []) names depth base ≡ reach (get_or fields f []) (drop base nm) none
    unfolding reach_of
    reach-is f base k =
        ap (λ (l : List Text). reach (map (field_alt_of (uri_in own defs (2 + f))) (or_none (read_path true (get_or l f [])))) (names_below base depth names) none) are.fields
        ∙ ap (λ (o : Bytes). reach (map (field_alt_of (uri_in o defs (2 + f))) (or_none (read_path true (get_or c.id.fields f [])))) (names_below base depth names) none) oe
        ∙ ap (λ (l : List FieldAlt). reach l (names_below base depth names) none) (field_is defs d h number c at f (omega (arith, are.count)))
        ∙ ap (λ (l : List Name). reach (get_or fields f []) l none) (names-below base depth names nm e)

    -- one that it lacks
    reach-none : (f base : ℕ) → p.count ≤ f → reach (get_or fields f []) (drop base nm) none ≡ 0
    reach-none f base k = not-reached fields (drop base nm) f (omega (arith, are.count, fields_at d number c at))

    number_is : 1024 ≤ length before → Blank cells n place counts → (f j : ℕ) → f < 4 → j < 32
        → get_or counts' (32 * f + j) 0 ≡ cond (picked place n cells j) (reach (get_or fields f []) (drop (depth_at cells (512 * j)) nm) none) (get_or counts (32 * f + j) 0)
    number_is long blank f j k l = by (ltb f p.count) refl
      where
        lacks : p.count ≤ f → (b : Bool) → picked place n cells j ≡ b → get_or counts (32 * f + j) 0 ≡ cond b (reach (get_or fields f []) (drop (depth_at cells (512 * j)) nm) none) (get_or counts (32 * f + j) 0)
        lacks m true q = blank f j k l q ∙ sym (reach-none f (depth_at cells (512 * j)) m)
        lacks m false q = refl

        by : (b : Bool) → ltb f p.count ≡ b → get_or counts' (32 * f + j) 0 ≡ cond (picked place n cells j) (reach (get_or fields f []) (drop (depth_at cells (512 * j)) nm) none) (get_or counts (32 * f + j) 0)
        by true q =
            let m : f < p.count = ltb-true f p.count q in
            ro.done long short blank f j k l m ∙ ap (λ (x : ℕ). cond (picked place n cells j) x (get_or counts (32 * f + j) 0)) (reach-is f (depth_at cells (512 * j)) m)
        by false q =
            let m : p.count ≤ f = ltb-false f p.count q in
            ro.left f j k l m ∙ lacks m (picked place n cells j) refl

  pub scope-some : ScopeOf cells n place number names depth defs before counts after counts'
  scope-some =
      record {
        says = λ d nm h e long low blank. let g = get_elem-some d.ids number low in number_is d nm h e g.0 g.1 long blank;
        same = ro.same;
        scratched = ro.scratched;
      }
