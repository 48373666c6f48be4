-- When a world decodes: the tests that `decode` makes, one behind the other. None of them looks at what the others read, but for the definitions and the
-- open scopes, so that they come out as a conjunction.
-- Assumes nothing.
use Prim.Native.Nat.{ℕ, ◌*◌}
use lib.ListN.{take}
use mathlib.Core.Path.{◌≡◌, refl, ap, sym, ◌∙◌}
use mathlib.Core.Bool.{Bool, true, false, ◌&&◌, false≢true, and-true, and_assoc}
use mathlib.Core.List.{List}
use mathlib.Core.Option.{Option, none, some}
use Rattle.paths.specs.Names.{Name}
use Rattle.paths.specs.Reading.{on_some, every}
use Rattle.tree.specs.Judge.{Tuple, Report}
use Rattle.machine.specs.Machine.{OpenScope, Selection}
use Rattle.records.specs.Readers.{Bytes, reads}
use Rattle.session_spec.specs.Definitions.{Definitions, read_definitions, is_some}
use Rattle.session_spec.specs.Layout.{read_tu, read_rp, parts, name_in, ScopeRecord, Counts, unpack}
use Rattle.session_spec.specs.Session.{World, Session, counts_fit, scopes_in, selections_in, tuples_in, reports_in, decode_with, decode_if, decode}
use Rattle.well_formed.specs.Parts.{depth_in, areas_read, stores_read}

-- ---- tests one behind the other

-- what follows does not look at what was read
then-test : {A C : Type 0} (o : Option A) (f : A → Option C) (b : Bool) → ((a : A) → is_some (f a) ≡ b) → is_some (on_some o f) ≡ (is_some o && b)
unfolding on_some is_some
then-test none f b h = refl
then-test (some a) f b h = h a

then-both : {A B C : Type 0} (o : Option A) (g : A → Option B) (f : A → B → Option C) (b : Bool) → ((x : A) (y : B) → is_some (f x y) ≡ b)
    → is_some (on_some o (λ x. on_some (g x) (f x))) ≡ (is_some (on_some o g) && b)
unfolding on_some
then-both none g f b h = unfold is_some in refl
then-both (some x) g f b h = then-test (g x) (f x) b (h x)

-- ---- stores and areas

stores-behind : {A : Type 0} (d : Definitions) (opened most : ℕ) (tu rp : Bytes) (f : List Tuple → List Report → A)
    → is_some (on_some (reads read_tu tu) (λ tus. on_some (tuples_in d opened most tus) (λ ts. on_some (reads read_rp rp) (λ rps. on_some (reports_in d rps) (λ rs. some (f ts rs))))))
    ≡ stores_read d opened most tu rp
unfolding stores_read
stores-behind d opened most tu rp f =
    then-both (reads read_tu tu) (tuples_in d opened most) (λ tus ts. on_some (reads read_rp rp) (λ rps. on_some (reports_in d rps) (λ rs. some (f ts rs)))) (is_some (on_some (reads read_rp rp) (reports_in d)))
    (λ tus ts. then-both (reads read_rp rp) (reports_in d) (λ rps rs. some (f ts rs)) true (λ rps rs. unfold is_some in refl) ∙ and-true (is_some (on_some (reads read_rp rp) (reports_in d))))

areas-behind : {A : Type 0} (d : Definitions) (c : Counts) (ss : List ScopeRecord) (names cells : Bytes) (f : List Name → List OpenScope → List Selection → Option A) (b : Bool)
    → ((ns : List Name) (os : List OpenScope) (ts : List Selection) → is_some (f ns os ts) ≡ b)
    → is_some (on_some (every name_in (parts 514 (depth_in c) names)) (λ ns. on_some (scopes_in d (depth_in c) c.opened ss) (λ os. on_some (selections_in os (depth_in c) (parts 512 c.selections cells)) (f ns os))))
    ≡ (areas_read d c ss names cells && b)
unfolding areas_read
areas-behind d c ss names cells f b h =
    let opens = scopes_in d (depth_in c) c.opened ss in
    let chosen : List OpenScope → Option (List Selection) = λ os. selections_in os (depth_in c) (parts 512 c.selections cells) in
    then-test (every name_in (parts 514 (depth_in c) names)) (λ ns. on_some opens (λ os. on_some (chosen os) (f ns os))) (is_some (on_some opens chosen) && b)
    (λ ns. then-both opens chosen (f ns) b (h ns))
    ∙ sym (and_assoc (is_some (every name_in (parts 514 (depth_in c) names))) (is_some (on_some opens chosen)) b)

-- ---- all of them

module _ (w : World) (c : Counts) where
  abbrev pub areas_of : Definitions → Bool
  areas_of d = areas_read d c (take c.scopes w.scopes) w.names w.cells

  abbrev pub stores_of : Definitions → Bool
  stores_of d = stores_read d c.opened (32 * w.events) (take w.tuples w.tuple_store) (take w.reports w.report_store)

  definitions-unread : read_definitions (take w.definitions w.definition_store) ≡ none → false ≡ is_some (decode_with w c)
  unfolding decode_with on_some is_some
  definitions-unread e = rw e

  -- once the definitions are read
  pub decodes-with : (d : Definitions) → read_definitions (take w.definitions w.definition_store) ≡ some d → is_some (decode_with w c) ≡ (areas_of d && stores_of d)
  unfolding decode_with on_some is_some
  decodes-with d e =
      rw e
      (areas-behind d c (take c.scopes w.scopes) w.names w.cells _ (stores_of d)
      (λ ns os ts. stores-behind d c.opened (32 * w.events) (take w.tuples w.tuple_store) (take w.reports w.report_store) _))

module _ (w : World) where
  -- the counts come first
  decode-if : (b : Bool) → b ≡ counts_fit w (unpack w.running) → is_some (decode_if b w (unpack w.running)) ≡ is_some (decode w)
  unfolding decode
  decode-if b e = rw e

  pub counts-unfit : false ≡ counts_fit w (unpack w.running) → false ≡ is_some (decode w)
  unfolding decode_if is_some
  counts-unfit e = decode-if false e

  counts-hold : true ≡ counts_fit w (unpack w.running) → is_some (decode_with w (unpack w.running)) ≡ is_some (decode w)
  unfolding decode_if
  counts-hold e = decode-if true e

  module _ (c : Counts) (p : c ≡ unpack w.running) (e : true ≡ counts_fit w (unpack w.running)) where
    decode-counted : is_some (decode_with w c) ≡ is_some (decode w)
    decode-counted = ap (λ (z : Counts). is_some (decode_with w z)) p ∙ counts-hold e

    -- then the definitions
    pub unread : read_definitions (take w.definitions w.definition_store) ≡ none → false ≡ is_some (decode w)
    unread h = definitions-unread w c h ∙ decode-counted

    module _ (d : Definitions) (h : read_definitions (take w.definitions w.definition_store) ≡ some d) where
      -- then the areas
      pub areas-unread : false ≡ areas_of w c d → false ≡ is_some (decode w)
      areas-unread f = ap (λ (b : Bool). b && stores_of w c d) f ∙ sym (decodes-with w c d h) ∙ decode-counted

      -- and last the output stores
      pub then-stores : (r : Bool) → true ≡ areas_of w c d → r ≡ stores_of w c d → r ≡ is_some (decode w)
      then-stores r f g = g ∙ ap (λ (b : Bool). b && stores_of w c d) f ∙ sym (decodes-with w c d h) ∙ decode-counted

-- ---- what the answer says

-- WELL FORMED: there is a session
pub well-formed-is : (w : World) → true ≡ is_some (decode w) → (s : Session) × (decode w ≡ some s)
well-formed-is w e = by (decode w) refl e
  where
    by : (o : Option Session) → decode w ≡ o → true ≡ is_some o → (s : Session) × (decode w ≡ some s)
    by none p e = unfold is_some in absurd (false≢true (sym e))
    by (some s) p e = (s, p)

-- NOT WELL FORMED: there is none
pub unfit-is : (w : World) → false ≡ is_some (decode w) → decode w ≡ none
unfit-is w e = by (decode w) refl e
  where
    by : (o : Option Session) → decode w ≡ o → false ≡ is_some o → decode w ≡ none
    by none p e = p
    by (some s) p e = unfold is_some in absurd (false≢true e)
