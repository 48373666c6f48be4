-- One field: where it does not read no alternative reaches the element, and else its entries in the area are its alternatives.
-- Assumes nothing.
use Prim.Native.Nat.{ℕ, ◌*◌, ◌≤◌, ◌<◌}
use lib.ListN.{length, get_or}
use mathlib.Core.Path.{◌≡◌, refl, ap, sym, ◌∙◌}
use mathlib.Core.Bool.{Bool, true, false, cond, false≢true}
use mathlib.Core.List.{List, [], map}
use mathlib.Core.Option.{Option, none, some}
use Rattle.texts.specs.Texts.{Text}
use Rattle.paths.specs.Names.{Name}
use Rattle.paths.specs.Reading.{WrittenAlt, read_path, field_alt_of}
use Rattle.tree.specs.Cells.{reach}
use Rattle.records.specs.Readers.{Bytes}
use Rattle.session_spec.specs.Definitions.{is_some, or_none}
use Rattle.bindings.specs.Bindings.{uri_in}
use Rattle.matching.specs.Matched.{names_below, reached_by}
use Rattle.cells.specs.Cells.{depth_at}
use Rattle.path_entries.specs.Entries.{path_in}
use Rattle.path_reader.specs.Parsing.{roomy}
use Rattle.path_reader.proofs.Parsing.{room_for}
use Rattle.session_laws.proofs.Tests.{or_none-nothing}
use Rattle.path_area.specs.Scratch.{ReadsInto}
use Rattle.constraints.specs.declared.Parts.{Parts}
use Rattle.reaching.specs.Rows.{reach_from, picked, RowOf}
use Rattle.element_hits.specs.Rows.{reach_of, field_texts, RowBlank, FieldOf}

-- no alternative reaches anything
pub none-reach : (below : List Name) → reach [] below none ≡ 0
unfolding reach
none-reach below = refl

read_some : (o : Option (List WrittenAlt)) (l : List WrittenAlt) → is_some o ≡ true → ((alts : List WrittenAlt) → o ≡ some alts → l ≡ alts) → l ≡ or_none o
unfolding is_some or_none
read_some none l h e = absurd (false≢true h)
read_some (some alts) l h e = e alts refl

module _ (cells : Bytes) (n place : ℕ) (names : Bytes) (depth : ℕ) (own : Bytes) (p : Parts) (f target : ℕ) (defs before row : Bytes)
    (text : Text) (te : text ≡ get_or (field_texts own p) f []) (b : Bool) (mid : Bytes) (ri : ReadsInto true text before b mid) where
  abbrev find : Text → Option Text
  find = uri_in own defs target

  abbrev said : Text
  said = get_or (field_texts own p) f []

  module _ (long : 1024 ≤ length before) (short : length said ≤ 255) where
    room : roomy text before ≡ true
    room = room_for text before (rw te short) long

    answer : b ≡ is_some (read_path true said)
    answer = ri.answers room ∙ ap (λ (t : Text). is_some (read_path true t)) te

    -- it does not read
    unread-reach : b ≡ false → (base : ℕ) → reach_of find said names depth base ≡ 0
    unfolding reach_of
    unread-reach q base =
        ap (λ (l : List WrittenAlt). reach (map (field_alt_of find) l) (names_below base depth names) none)
        (or_none-nothing (read_path true said) (sym answer ∙ q))
        ∙ none-reach (names_below base depth names)

    -- it reads
    read-reach : b ≡ true → (base : ℕ) → reach_from find mid names depth none base ≡ reach_of find said names depth base
    unfolding reach_of reach_from reached_by
    read-reach q base =
        ap (λ (l : List WrittenAlt). reach (map (field_alt_of find) l) (names_below base depth names) none)
        (read_some (read_path true said) (path_in mid) (sym answer ∙ q) (λ alts z. ri.entries room alts (ap (read_path true) te ∙ z)))

    row-blank : b ≡ false → RowBlank cells n place row → RowOf (reach_of find said names depth) place n cells row row
    row-blank q blank = record { same = refl; each = λ j h. by j h (picked place n cells j) refl }
      where
        by : (j : ℕ) → j < length row → (t : Bool) → picked place n cells j ≡ t
            → get_or row j 0 ≡ cond t (reach_of find said names depth (depth_at cells (512 * j))) (get_or row j 0)
        by j h true e = blank j h e ∙ sym (unread-reach q (depth_at cells (512 * j)))
        by j h false e = refl

  pub row-unread : b ≡ false → FieldOf cells n place names depth own p f target defs before row mid row
  row-unread q = record { says = λ long short blank. row-blank long short q blank; same = refl; scratched = ri.scratched }

  pub row_read : b ≡ true → (row' : Bytes) → RowOf (reach_from find mid names depth none) place n cells row row'
      → FieldOf cells n place names depth own p f target defs before row mid row'
  row_read q row' r =
      record {
        says = λ long short blank.
            record {
              same = r.same;
              each = λ j h.
                  r.each j h
                  ∙ ap (λ (m : ℕ). cond (picked place n cells j) m (get_or row j 0)) (read-reach long short q (depth_at cells (512 * j)));
            };
        same = r.same;
        scratched = ri.scratched;
      }
