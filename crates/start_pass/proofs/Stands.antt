-- One listed constraint, or one open scope, in a store that reads: what is read in the records of its number is what the definitions say of it.
-- Assumes nothing.
use Prim.Native.Nat.{ℕ}
use lib.Bits.{bit_or}
use mathlib.Core.Path.{◌≡◌, ap, sym, ◌∙◌}
use mathlib.Core.Bool.{Bool, true, false, ◌||◌, not, or-false}
use Rattle.lists.specs.Lists.{any}
use Rattle.lists.proofs.Places.{get_elem-some}
use Rattle.texts.specs.Texts.{Text, same}
use Rattle.tree.specs.Events.{selects}
use Rattle.records.specs.Readers.{Bytes}
use Rattle.record_places.specs.Places.{text_in}
use Rattle.session_spec.specs.Definitions.{constraint_at}
use Rattle.session_spec.specs.Layout.{read_rp}
use Rattle.session_spec.specs.Session.{told_by}
use Rattle.bindings.specs.Bindings.{frames_in, uri_in}
use Rattle.bindings.specs.Own.{own_frames}
use Rattle.output_stores.specs.Stores.{in_mask, standing}
use Rattle.matching.specs.Matched.{names_below}
use Rattle.reports.specs.Reports.{tells}
use Rattle.reports.proofs.Sessions.{told_names}
use Rattle.reaching.proofs.Names.{names-below}
use Rattle.open_scopes.specs.declared.Scope.{Scope}
use Rattle.constraints.specs.Constraints.{joined, id_at, PartsOf, NamedBy}
use Rattle.constraints.specs.declared.Parts.{Parts}
use Rattle.constraints.proofs.Stored.{constraint-is, named-at}
use Rattle.constraint_paths.specs.Paths.{PathsRead, Takes, taken}
use Rattle.constraint_paths.proofs.Stands.{opens-is, taken_is}
use Rattle.start_places.specs.Turns.{OpensOne, NamedAs, TellsOne, SaidAfter, PicksOne}
use Rattle.output_stores.proofs.Masks.{in_either}

-- it opens a scope
pub opens-one-is : (defs : Bytes) (number : ℕ) (own before : Bytes) (r : Bool) (after : Bytes) → own ≡ joined (own_frames number (frames_in defs)) → PathsRead own before r after
    → OpensOne defs number before r after
opens-one-is defs number own before r after oe p =
    record {
      says = λ long d h l.
          let g = get_elem-some d.ids number l in
          p.says long g.0.id (ap id_at oe ∙ constraint-is defs d number g.0 h g.1) ∙ opens-is d number g.0 g.1;
      scratched = p.scratched;
    }

-- it selects an element
pub picks-one-is : (defs : Bytes) (s : Scope) (names : Bytes) (depth : ℕ) (own before : Bytes) (r : Bool) (after : Bytes)
    → own ≡ joined (own_frames s.constraint (frames_in defs)) → Takes own defs names s.depth depth before r after → PicksOne defs s names depth before r after
picks-one-is defs s names depth own before r after oe p =
    record {
      says = λ long d h l ns ne.
          let g = get_elem-some d.ids s.constraint l in
          p.says long g.0.id (ap id_at oe ∙ constraint-is defs d s.constraint g.0 h g.1)
          ∙ ap (λ (o : Bytes). taken (uri_in o defs 1) g.0.id (names_below s.depth depth names)) oe
          ∙ taken_is defs d h s.constraint g.0 g.1 (names_below s.depth depth names)
          ∙ ap (selects (constraint_at d s.constraint)) (names-below s.depth depth names ns ne);
      scratched = p.scratched;
    }

-- those of its name
pub named-as-is : (defs : Bytes) (number : ℕ) (own : Bytes) (p : Parts) (text : Text) (r : ℕ) → own ≡ joined (own_frames number (frames_in defs)) → PartsOf own p
    → text ≡ text_in own p.name → NamedBy defs text r → NamedAs defs number r
named-as-is defs number own p text r oe po te n =
    record {
      bears = λ d h l c k.
          let g = get_elem-some d.ids number l in
          let t : text ≡ (constraint_at d number).name =
          te ∙ (po.says g.0.id (ap id_at oe ∙ constraint-is defs d number g.0 h g.1)).name ∙ sym (named-at d number g.0 g.1) in
          n.bears d h c k ∙ ap (λ (x : Text). same x (constraint_at d c).name) t;
    }

-- ---- kind 6 for it

module _ (defs : Bytes) (number place opened said : ℕ) (reports : Bytes) where
  module _ (a : in_mask opened place ≡ false) where
    pub tells-told : in_mask said number ≡ false → (named : ℕ) → NamedAs defs number named → (t : Bool) → t ≡ any (tells named) (standing read_rp reports)
        → TellsOne defs number place opened said reports (not t)
    tells-told e named n t te =
        record {
          says = λ d h l rs re.
              let q : any (same (constraint_at d number).name) (told_by d rs) ≡ t = told_names d (constraint_at d number).name named (n.bears d h l) reports rs re ∙ sym te in
              rw (a, e, q);
        }

-- ---- those of this event

pub said_same : (defs : Bytes) (number said : ℕ) (here : Bool) → here ≡ false → SaidAfter defs number said here said
said_same defs number said here e =
    record { says = λ d h l c k. rw e (sym (or-false (in_mask said c))) }

pub said_more : (defs : Bytes) (number said : ℕ) (here : Bool) → here ≡ true → (named : ℕ) → NamedAs defs number named → SaidAfter defs number said here (bit_or said named)
said_more defs number said here e named n =
    record { says = λ d h l c k. rw e (in_either said named c ∙ ap (λ (b : Bool). in_mask said c || b) (n.bears d h l c k)) }
