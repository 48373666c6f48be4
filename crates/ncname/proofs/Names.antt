-- What the first character of a text and those behind it say of the whole: whether it is an NCName.
-- Assumes nothing.
use Prim.Native.Nat.{ℕ}
use mathlib.Core.Path.{◌≡◌, sym, ◌∙◌}
use mathlib.Core.Bool.{Bool, true, false, ◌&&◌}
use mathlib.Core.List.{List, [], ◌∷◌}
use Rattle.lists.specs.Lists.{all}
use Rattle.texts.specs.Texts.{Text}
use Rattle.utf8.specs.Utf8.{decode, utf8}
use Rattle.characters.specs.Names.{name_start, name_char}
use Rattle.ncname.specs.NCName.{nc_name}

-- the answer: a text, and its code points are an NCName
abbrev pub answer : Text → Bool
answer s = utf8 s && nc_name (decode s)

pub no-text : (s : Text) (b : Bool) → b ≡ utf8 s → b ≡ false → false ≡ answer s
no-text s b e k = rw (sym e ∙ k)

module _ (s : Text) (b : Bool) (e : b ≡ utf8 s) (k : b ≡ true) where
  pub empty-text : decode s ≡ [] → false ≡ answer s
  unfolding nc_name
  empty-text h = rw (sym e ∙ k, h)

  -- its first character, and those behind it
  module _ (c : ℕ) (cs : List ℕ) (h : decode s ≡ c ∷ cs) where
    pub first-no : false ≡ name_start c → false ≡ answer s
    unfolding nc_name
    first-no f = rw (sym e ∙ k, h, ← f)

    pub first-goes-on : true ≡ name_start c → all name_char cs ≡ answer s
    unfolding nc_name
    first-goes-on f = rw (sym e ∙ k, h, ← f)
