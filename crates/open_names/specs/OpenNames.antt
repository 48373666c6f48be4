-- The area of the open names with one more written into it.
-- Assumes nothing.
use Rattle.std.specs.Prelude.{ℕ, ◌*◌, leb, length, Bool, cond, ◌&&◌}
use Rattle.lists.specs.Lists.{put}
use Rattle.paths.specs.Names.{Name}
use Rattle.records.specs.Readers.{Bytes}
use Rattle.session_spec.specs.Layout.{put_name}

-- both texts have at most 255 bytes
unfoldable pub short : Name → Bool
short n = leb (length n.space) 255 && leb (length n.local) 255

-- The area with a name written behind the first `depth`; as it was where a text is too long or there is no such place.
unfoldable pub with_name : Bytes → (depth : ℕ) → Name → Bytes
with_name names depth n = cond (short n) (put names (514 * depth) (put_name n)) names
