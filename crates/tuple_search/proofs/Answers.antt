-- `answered` in a session's words: where the set holds the unique and key constraints that a keyref refers to, a tuple of the store answers the keyref's
-- exactly where a TU of one of these constraints has the same texts.
-- Assumes nothing.
use Prim.Native.Nat.{ℕ, ◌<◌}
use lib.Dec.{ltb, leb}
use lib.ListN.{length, drop, get_or}
use borrow.Author.Tests.{ltb-true}
use mathlib.Core.Path.{◌≡◌, refl, ap, sym, ◌∙◌}
use mathlib.Core.Bool.{Bool, true, false, ◌&&◌, not}
use mathlib.Core.List.{List, [], ◌∷◌, map}
use mathlib.Core.Option.{some}
use Rattle.std.proofs.lemmas.Bool.{and_parts}
use Rattle.lists.specs.Lists.{all, any}
use Rattle.texts.specs.Texts.{Text, same_all}
use Rattle.tree.specs.Judge.{Tuple, is_keyref, named, answers}
use Rattle.records.specs.Readers.{Bytes, reads}
use Rattle.session_spec.specs.Definitions.{Definitions, constraint_at, frame}
use Rattle.session_spec.specs.Layout.{TuRecord, read_tu, as_tuple}
use Rattle.session_spec.specs.Session.{tu_fits}
use Rattle.output_stores.specs.Stores.{standing, in_mask}
use Rattle.tuple_search.specs.Search.{answered_by}
use Rattle.tuple_search.proofs.Found.{answered-is}

-- the set holds the unique and key constraints that the tuple's constraint refers to
abbrev pub Refers : Definitions → Tuple → (set : ℕ) → Type 0
Refers d t set = (c : ℕ) → c < length d.ids → in_mask set c ≡ (not (is_keyref (constraint_at d c).kind) && named t.constraint.refer (constraint_at d c).name)

module _ (d : Definitions) (t : Tuple) (set : ℕ) (refers : Refers d t set) (opened : ℕ) where
  and-swap : (a b c : Bool) → (a && (b && c)) ≡ ((a && b) && c)
  and-swap true b c = refl
  and-swap false b c = refl

  pub answers-are : (tus : List TuRecord) → all (tu_fits d opened) tus ≡ true
      → any (answers t) (map (as_tuple d) tus) ≡ any (λ u. in_mask set u.constraint && same_all u.keys t.keys) tus
  unfolding answers as_tuple tu_fits
  answers-are [] h = refl
  answers-are (u ∷ us) h =
      let p = and_parts (ltb u.constraint (length d.ids) && leb u.scope opened) (all (tu_fits d opened) us) h in
      let q = and_parts (ltb u.constraint (length d.ids)) (leb u.scope opened) p.0 in
      let k = constraint_at d u.constraint in
      rw (
        answers-are us p.1,
        and-swap (not (is_keyref k.kind)) (named t.constraint.refer k.name) (same_all u.keys t.keys),
        refers u.constraint (ltb-true u.constraint (length d.ids) q.0),
      )

  -- the tuple stands in the store as the record f
  pub answered-session : (used : Bytes) (tus : List TuRecord) (f : Bytes) (u : TuRecord) → ((i : ℕ) → get_or used i 0 < 256) → ((i : ℕ) → get_or f i 0 < 256)
      → reads read_tu used ≡ some tus → all (tu_fits d opened) tus ≡ true → read_tu f ≡ some (u, []) → as_tuple d u ≡ t
      → answered_by set (drop 9 f) (standing frame used) ≡ any (answers t) (map (as_tuple d) tus)
  unfolding as_tuple
  answered-session used tus f u b w h a e s =
      let k : u.keys ≡ t.keys = ap (λ (x : Tuple). x.keys) s in
      answered-is used tus set f u b w h e
      ∙ ap (λ (l : List Text). any (λ v. in_mask set v.constraint && same_all v.keys l) tus) k
      ∙ sym (answers-are tus a)
