-- Stores and sets written out, on which the definitions compute: what each is to give is written by hand.
-- Assumes nothing.
use Rattle.std.specs.Prelude.{ℕ, ltb, ◌≡◌, refl, Bool, true, false, List, [], ◌∷◌}
use denote.Ref.{Bor}
use Rattle.lists.specs.Lists.{all}
use Rattle.records.specs.Readers.{Bytes, on_read, ◌>>=◌, pass, read_byte, read_two, on_rest, read_all, reads, on_whole, up_to}
use Rattle.output_stores.specs.Stores.{standing, on_list, reads_as, halves, used_after, in_mask}

-- ---- a store of two-byte numbers

abbrev small : List ℕ → Bool
small l = all (λ n. ltb n 300) l

-- a byte left over does not hide what stands before it
two-and-a-byte : standing read_two (7 ∷ 0 ∷ 8 ∷ 1 ∷ 9 ∷ []) ≡ 7 ∷ 264 ∷ []
unfolding standing up_to on_whole read_two read_byte ◌>>=◌ on_read pass
two-and-a-byte = refl

nothing-stands : standing read_two [] ≡ []
unfolding standing up_to on_whole read_two read_byte ◌>>=◌ on_read pass
nothing-stands = refl

both-pass : reads_as read_two small (7 ∷ 0 ∷ 8 ∷ 1 ∷ []) ≡ true
unfolding reads_as on_list reads read_all on_rest read_two read_byte ◌>>=◌ on_read pass
both-pass = refl

second-does-not : reads_as read_two small (7 ∷ 0 ∷ 8 ∷ 2 ∷ []) ≡ false
unfolding reads_as on_list reads read_all on_rest read_two read_byte ◌>>=◌ on_read pass
second-does-not = refl

a-byte-left-over : reads_as read_two small (7 ∷ 0 ∷ 8 ∷ []) ≡ false
unfolding reads_as on_list reads read_all on_rest read_two read_byte ◌>>=◌ on_read pass
a-byte-left-over = refl

-- the slice at the front first
abbrev lent : Bytes → Bor Bytes
lent xs = record { ref_ptr = (0, 0); now = xs }

front-and-rest : halves (lent (7 ∷ 0 ∷ []), lent (8 ∷ [])) ≡ (7 ∷ 0 ∷ [], 8 ∷ [])
front-and-rest = refl

-- ---- three bytes more in a store of eight

abbrev eight : Bytes
eight = 0 ∷ 0 ∷ 0 ∷ 0 ∷ 0 ∷ 0 ∷ 0 ∷ 0 ∷ []

abbrev three : Bytes
three = 1 ∷ 2 ∷ 3 ∷ []

there-is-room : used_after eight 2 three ≡ 5
unfolding used_after
there-is-room = refl

exactly-room : used_after eight 5 three ≡ 8
unfolding used_after
exactly-room = refl

no_room : used_after eight 6 three ≡ 6
unfolding used_after
no_room = refl

past-the-store : used_after eight 9 three ≡ 9
unfolding used_after
past-the-store = refl

-- ---- the set of 0, 3 and 31

abbrev numbers : ℕ
numbers = 2147483657

zero_in : in_mask numbers 0 ≡ true
unfolding in_mask
zero_in = refl

one-not : in_mask numbers 1 ≡ false
unfolding in_mask
one-not = refl

three-in : in_mask numbers 3 ≡ true
unfolding in_mask
three-in = refl

last-in : in_mask numbers 31 ≡ true
unfolding in_mask
last-in = refl

none-beyond : in_mask numbers 32 ≡ false
unfolding in_mask
none-beyond = refl
