-- What stands in the head of an ID: its kind, which is a keyref's or not, and its name, which is compared where it is read.
-- Assumes nothing.
use Prim.Native.Nat.{ℕ, zero, suc, ◌<◌, ◌≤◌}
use native.Mathlib.Omega.{arith}
use lib.Dec.{ltb}
use lib.ListN.{get_or}
use Rattle.std.proofs.lemmas.Bool.{le-ltb}
use borrow.Author.Tests.{lt-ltb}
use mathlib.Core.Path.{◌≡◌, refl, ap, sym, ◌∙◌}
use mathlib.Core.Bool.{Bool, true, false, ◌&&◌, not}
use Rattle.texts.specs.Texts.{Text, same}
use Rattle.tree.specs.Judge.{is_keyref}
use Rattle.records.specs.Readers.{Bytes}
use Rattle.record_places.specs.declared.TextAt.{TextAt}
use Rattle.record_places.specs.Places.{text_in, TextOf}
use Rattle.record_walk.proofs.Reading.{to_whole, to-past, by_end}
use Rattle.session_spec.specs.Definitions.{kind_of}
use Rattle.constraints.specs.Walks.{text_or, name_in, bears}

-- ---- kind and name

other-kind : (k : ℕ) → ltb k 2 ≡ not (is_keyref (kind_of k))
unfolding kind_of is_keyref
other-kind zero = refl
other-kind (suc zero) = refl
other-kind (suc (suc k)) = le-ltb (suc (suc k)) 2 (omega arith)

name-is : (f : Bytes) (r : TextAt) → TextOf f 5 r → text_in f r.text ≡ name_in f
unfolding name_in text_or
name-is f r w =
    by_end f r.next (text_in f r.text)
    (λ h. rw (w.says, to_whole f r.next (text_in f r.text) h))
    (λ h. w.bare h ∙ rw (w.says, to-past f r.next (text_in f r.text) h))

-- the name alone
pub name-borne : (t f : Bytes) (r : TextAt) → TextOf f 5 r → (u : Text) → u ≡ text_in f r.text → (b : Bool) → b ≡ same t u → b ≡ bears false t f
unfolding bears
name-borne t f r w u v b c = c ∙ ap (same t) (v ∙ name-is f r w)

-- with the kind: that of a unique or a key, or another
pub borne-too : (t f : Bytes) (k : ℕ) → k ≡ get_or f 4 0 → k < 2 → (b : Bool) → b ≡ bears false t f → b ≡ bears true t f
unfolding bears
borne-too t f k e h b w = w ∙ ap (λ (x : Bool). x && same t (name_in f)) (sym (lt-ltb k 2 h) ∙ other-kind k ∙ ap (λ (n : ℕ). not (is_keyref (kind_of n))) e)

pub borne-not : (t f : Bytes) (k : ℕ) → k ≡ get_or f 4 0 → 2 ≤ k → ltb k 2 ≡ bears true t f
unfolding bears
borne-not t f k e h =
    let z : ltb k 2 ≡ false = le-ltb k 2 h in
    z ∙ ap (λ (x : Bool). x && same t (name_in f)) (sym z ∙ other-kind k ∙ ap (λ (n : ℕ). not (is_keyref (kind_of n))) e)
