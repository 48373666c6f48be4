-- Computed: ends, events and trees without a nillable element, and what no key is.
-- Assumes nothing.
use Rattle.std.specs.Prelude.{ℕ, ◌≡◌, refl, true, false, [], ◌∷◌, map}
use Rattle.std.proofs.Math.Option.{Option, none, some}
use Rattle.texts.specs.Texts.{Text}
use Rattle.tree.specs.Events.{End, es, ee, unique, key, keyref}
use Rattle.tree.specs.Tree.{Element, Ended, empty, node}
use Rattle.nillable.specs.Plain.{plain_end, plain_event, plain_ended, plain, is_key}

abbrev x : Text
x = 120 ∷ []

abbrev end : ℕ → End
end s = record { simple = s; key = x }

-- only 2 becomes 1, and the key stays
ends : map (λ (s : ℕ). plain_end (end s)) (0 ∷ 1 ∷ 2 ∷ []) ≡ end 0 ∷ end 1 ∷ end 1 ∷ []
unfolding plain_end
ends = refl

abbrev element : Element
element = record { event = 3; start = record { name = record { space = []; local = x }; numbers = []; attributes = [] }; openings = [] }

abbrev ended : ℕ → Option Ended
ended s = some (record { event = 4; close = end s })

events : map plain_event (es element.start ∷ ee (end 2) ∷ []) ≡ es element.start ∷ ee (end 1) ∷ []
unfolding plain_event plain_end
events = refl

-- an element, one in it that has not ended, in that one that has, and one behind them
in-a-tree : plain (node element (node element (node element empty (ended 2) empty) none empty) (ended 2) (node element empty (ended 0) empty))
    ≡ node element (node element (node element empty (ended 1) empty) none empty) (ended 1) (node element empty (ended 0) empty)
unfolding plain plain_ended plain_end
in-a-tree = refl

keys : map is_key (unique ∷ key ∷ keyref ∷ []) ≡ false ∷ true ∷ false ∷ []
unfolding is_key
keys = refl
