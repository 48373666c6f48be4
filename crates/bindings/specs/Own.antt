-- The records of one constraint in a definition store: its ID, and those behind it before the next ID.
-- Assumes nothing.
use Rattle.std.specs.Prelude.{ℕ, zero, suc, eqb, get_or, Bool, cond, ◌&&◌, List, [], ◌∷◌}
use Rattle.records.specs.Readers.{Bytes}

-- it has the mark of an ID
unfoldable pub is_id : Bytes → Bool
is_id f = eqb (get_or f 0 0) 73 && eqb (get_or f 1 0) 68

unfoldable pub until_id : List Bytes → List Bytes
until_id [] = []
until_id (f ∷ fs) = cond (is_id f) [] (f ∷ until_id fs)

-- those of the constraint with number i, counting from 0
unfoldable pub own_frames : ℕ → List Bytes → List Bytes
own_frames i [] = []
own_frames zero (f ∷ fs) = cond (is_id f) (f ∷ until_id fs) (own_frames zero fs)
own_frames (suc i) (f ∷ fs) = cond (is_id f) (own_frames i fs) (own_frames (suc i) fs)
