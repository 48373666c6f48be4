-- The TU that was made: its bytes are a tuple's, those from byte 5 on are what `find_tuple` is handed, those from byte 9 on what `answered` is, and appended to
-- a store that reads it is the last of its TUs.
-- Assumes nothing.
use Prim.Native.Nat.{ℕ, ◌+◌, ◌-◌, ◌≤◌}
use native.Mathlib.Omega.{arith}
use lib.ListN.{length, take, drop, length-take}
use mathlib.Core.Path.{◌≡◌, refl, ap, sym, ◌∙◌, subst}
use mathlib.Core.List.{List, [], ◌∷◌, ◌++◌}
use Rattle.lists.specs.Lists.{part}
use Rattle.texts.specs.Texts.{Text}
use Rattle.numbers.specs.Numbers.{two_bytes, four_bytes}
use Rattle.tree.specs.Judge.{Tuple}
use Rattle.records.specs.Readers.{Bytes, put_texts}
use Rattle.session_spec.specs.Layout.{TuRecord, read_tu, put_tu, tu_of}
use Rattle.session_laws.proofs.Stores.{tu-stable, Used, tu-one}
use Rattle.output_stores.specs.Stores.{Appended}
use Rattle.output_stores.proofs.Appends.{appended-reads}
use Rattle.tuple_search.specs.declared.Made.{Made}
use Rattle.tuple_search.specs.Search.{tail_bytes, tu_bytes, MadeOf}
use Rattle.tuple_search.proofs.Making.{tu-length}
use Rattle.lists.proofs.Writes.{drop-take}

-- ---- its bytes

pub tu-bytes : (t : Tuple) → put_tu t ≡ tu_bytes t.constraint.number t.scope t.keys
unfolding put_tu tu_bytes tail_bytes
tu-bytes t = refl

tail_of : (c s : ℕ) (ks : List Text) → drop 5 (tu_bytes c s ks) ≡ tail_bytes s ks
unfolding tu_bytes two_bytes
tail_of c s ks = refl

texts-of : (c s : ℕ) (ks : List Text) → drop 9 (tu_bytes c s ks) ≡ length ks ∷ put_texts ks
unfolding tu_bytes tail_bytes two_bytes four_bytes
texts-of c s ks = refl

module _ (c s : ℕ) (ks : List Text) (m : Made) (h : MadeOf c s ks m) where
  pub made-least : 10 ≤ m.size
  made-least = let l = h.sized in let k = tu-length c s ks in omega arith

  pub made_inside : m.size ≤ length m.bytes
  made_inside = let l = h.sized in let k = sym (length-take m.size m.bytes) ∙ ap length h.holds in omega arith

  from-made : (k : ℕ) → part m.bytes k (m.size - k) ≡ drop k (tu_bytes c s ks)
  from-made k = sym (drop-take k m.size m.bytes) ∙ ap (drop k) h.holds

  pub made-tail : part m.bytes 5 (m.size - 5) ≡ tail_bytes s ks
  made-tail = from-made 5 ∙ tail_of c s ks

  pub made-texts : part m.bytes 9 (m.size - 9) ≡ length ks ∷ put_texts ks
  made-texts = from-made 9 ∙ texts-of c s ks

-- ---- appended to a store that reads

module _ (before : Bytes) (used : ℕ) (t : Tuple) (next : ℕ) (after : Bytes) (tus : List TuRecord) where
  pub tuple-added : Appended before used (put_tu t) next after → used + length (put_tu t) ≤ length before → Used read_tu used before tus
      → Used read_tu next after (tus ++ (tu_of t ∷ []))
  tuple-added a h u =
      appended-reads before used (put_tu t) read_tu tu-stable next after tus (tu_of t ∷ []) a h u (tu-one t)

  -- the bytes that were made
  pub made-added : (m : Made) → MadeOf t.constraint.number t.scope t.keys m → Appended before used (take m.size m.bytes) next after
      → used + m.size ≤ length before → Used read_tu used before tus → Used read_tu next after (tus ++ (tu_of t ∷ []))
  made-added m g a h u =
      let e : take m.size m.bytes ≡ put_tu t = g.holds ∙ sym (tu-bytes t) in
      let n : m.size ≡ length (put_tu t) = g.sized ∙ ap length (sym (tu-bytes t)) in
      tuple-added (subst (λ (b : Bytes). Appended before used b next after) e a) (omega arith) u
