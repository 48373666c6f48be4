-- `entries-back`: the entries of a read path, whatever stands behind them, are read back as that path. By going along the writers; the one thing asked
-- is that no local part is empty, and the reader of paths takes none that is.
-- Assumes nothing.
use Prim.Native.Nat.{ℕ, zero, suc}
use lib.Dec.{eqb}
use lib.ListN.{length}
use mathlib.Core.Path.{◌≡◌, refl, ap, subst}
use mathlib.Core.Bool.{Bool, true, false, cond, not, ◌&&◌, false≢true}
use mathlib.Core.List.{List, [], ◌∷◌, ◌++◌, map, flat_map, append_assoc}
use mathlib.Core.Option.{Option, none, some}
use Rattle.lists.specs.Lists.{all, All}
use Rattle.lists.proofs.Places.{All-of}
use Rattle.texts.specs.Texts.{Text, same}
use Rattle.utf8.specs.Utf8.{utf8}
use Rattle.paths.specs.Reading.{WrittenTest, WrittenAlt, Walked, Part, attribute_part, self_part, child_part, on_some, every, is_nil, split_at, behind, without_space, test_byte, starts_well, star_alone, local_of, test_of, test_parts, name_test, as_part, walk_part, walk_parts, marked, alt_of, read_alt, read_path}
use Rattle.paths.proofs.Sure.{Sure, sure-cond, sure-map, sure-some, sure-at, sure-every}
use Rattle.records.specs.Readers.{Bytes, Reader, on_read, ◌>>=◌, pass, read_byte, read_bytes, times, on_whole, up_to}
use Rattle.records.proofs.Readers.{bytes-put}
use Rattle.path_entries.specs.Entries.{put_prefix, put_local, put_test, put_end, flag_of, put_alt, put_path, read_short, prefix_after, local_from, read_test, end_after, read_alternative, path_in}

-- ---- no local part is empty

abbrev Filled : Option Text → Type 0
Filled none = Unit {0}
Filled (some []) = ⊥
Filled (some (c ∷ cs)) = Unit {0}

abbrev pub Proper : WrittenTest → Type 0
Proper t = Filled t.local

abbrev ProperEnd : Option WrittenTest → Type 0
ProperEnd none = Unit {0}
ProperEnd (some t) = Proper t

pub record ProperAlt (a : WrittenAlt) : Type 0 where
  pub steps : All Proper a.steps
  pub attr : ProperEnd a.attr

-- ---- written and read back

short_back : (t : Text) (rest : Bytes) → read_short (length t ∷ (t ++ rest)) ≡ some (t, rest)
unfolding read_short ◌>>=◌ on_read read_byte
short_back t rest = bytes-put t rest

-- behind the prefix
local_back : (p o : Option Text) → Filled o → (rest : Bytes)
    → on_read {B = WrittenTest} (read_short (put_local o ++ rest)) (λ l. pass (record { prefix = p; local = local_from l })) ≡ some (record { prefix = p; local = o }, rest)
unfolding put_local on_read pass local_from
local_back p none f rest = rw (short_back [] rest)
local_back p (some []) f rest = absurd f
local_back p (some (c ∷ cs)) f rest = rw (short_back (c ∷ cs) rest)

parts-back : (p l : Option Text) → Filled l → (rest : Bytes) → read_test ((put_prefix p ++ put_local l) ++ rest) ≡ some (record { prefix = p; local = l }, rest)
unfolding read_test put_prefix read_byte prefix_after ◌>>=◌ on_read pass
parts-back none l f rest = local_back none l f rest
parts-back (some p) l f rest = rw (append_assoc p (put_local l) rest, short_back p (put_local l ++ rest)) (local_back (some p) l f rest)

test_back : (t : WrittenTest) → Proper t → (rest : Bytes) → read_test (put_test t ++ rest) ≡ some (t, rest)
unfolding put_test
test_back t f rest = parts-back t.prefix t.local f rest

steps_back : (ts : List WrittenTest) → All Proper ts → (rest : Bytes) → times (length ts) read_test (flat_map put_test ts ++ rest) ≡ some (ts, rest)
unfolding times flat_map ◌>>=◌ on_read pass
steps_back [] f rest = refl
steps_back (t ∷ ts) f rest =
    rw (append_assoc (put_test t) (flat_map put_test ts) rest, test_back t f.0 (flat_map put_test ts ++ rest), steps_back ts f.1 rest)

-- the flag of `.//` is read back
flag-back : (d : Bool) → not (eqb (flag_of d) 0) ≡ d
unfolding flag_of
flag-back false = refl
flag-back true = refl

end_back : (d : Bool) (ts : List WrittenTest) (e : Option WrittenTest) → ProperEnd e → (rest : Bytes)
    → on_read {B = WrittenAlt} (read_byte (put_end e ++ rest)) (λ f. end_after f >>= (λ o. pass (record { descendant = not (eqb (flag_of d) 0); steps = ts; attr = o })))
    ≡ some (record { descendant = d; steps = ts; attr = e }, rest)
unfolding put_end read_byte end_after ◌>>=◌ on_read pass
end_back d ts none f rest = rw (flag-back d)
end_back d ts (some t) f rest = rw (test_back t f rest, flag-back d)

alt-back : (a : WrittenAlt) → ProperAlt a → (rest : Bytes) → read_alternative (put_alt a ++ rest) ≡ some (a, rest)
unfolding read_alternative put_alt read_byte ◌>>=◌ on_read
alt-back a f rest =
    rw (append_assoc (flat_map put_test a.steps) (put_end a.attr) rest, steps_back a.steps f.steps (put_end a.attr ++ rest))
    (end_back a.descendant a.steps a.attr f.attr rest)

alts-back : (alts : List WrittenAlt) → All ProperAlt alts → (rest : Bytes) → up_to (length alts) read_alternative (flat_map put_alt alts ++ rest) ≡ alts
unfolding up_to on_whole flat_map
alts-back [] f rest = refl
alts-back (a ∷ alts) f rest =
    rw (append_assoc (put_alt a) (flat_map put_alt alts) rest, alt-back a f.0 (flat_map put_alt alts ++ rest))
    (ap (λ (l : List WrittenAlt). a ∷ l) (alts-back alts f.1 rest))

pub path-back : (alts : List WrittenAlt) → All ProperAlt alts → (rest : Bytes) → path_in (put_path alts ++ rest) ≡ alts
unfolding path_in put_path
path-back alts f rest = alts-back alts f rest

-- ---- the reader of paths takes no empty local part

filled-local : (b : Bool) (c : ℕ) (cs : Text) → Filled (cond b none (some (c ∷ cs)))
filled-local true c cs = tt
filled-local false c cs = tt

test-proper : (prefix : Option Text) (local : Text) → Sure Proper (test_of prefix local)
unfolding test_of starts_well local_of
test-proper prefix [] = tt
test-proper prefix (c ∷ cs) =
    sure-cond Proper (starts_well (c ∷ cs) && star_alone (c ∷ cs)) (some (record { prefix = prefix; local = local_of (c ∷ cs) })) none (filled-local (same (c ∷ cs) (42 ∷ [])) c cs) tt

parts-proper : (ts : List Text) → Sure Proper (test_parts ts)
unfolding test_parts
parts-proper [] = tt
parts-proper (local ∷ []) = test-proper none local
parts-proper (prefix ∷ local ∷ []) = test-proper (some prefix) local
parts-proper (prefix ∷ local ∷ more ∷ ts) = tt

name-proper : (t : Text) → Sure Proper (name_test t)
unfolding name_test
name-proper t = sure-cond Proper (all test_byte t && starts_well t) (test_parts (split_at 58 t)) none (parts-proper (split_at 58 t)) tt

record ProperWalk (w : Walked) : Type 0 where
  steps : All Proper w.steps
  attr : ProperEnd w.attr

part-proper : (field last : Bool) (part : Part) (rest : Option Walked) → Sure ProperWalk rest → Sure ProperWalk (walk_part field last part rest)
unfolding walk_part
part-proper field last (attribute_part t) rest h =
    sure-cond ProperWalk (field && last) _ none
    (sure-map Proper ProperWalk (λ n. record { steps = []; attr = some n }) (λ n f. record { steps = tt; attr = f }) (name_test t) (name-proper t)) tt
part-proper field last self_part rest h = h
part-proper field last (child_part t) rest h =
    sure-some Proper ProperWalk _
    (λ n f. sure-map ProperWalk ProperWalk (λ w. record { steps = n ∷ w.steps; attr = w.attr }) (λ w g. record { steps = (f, g.steps); attr = g.attr }) rest h)
    (name_test t) (name-proper t)

walk-proper : (field : Bool) (ts : List Text) → Sure ProperWalk (walk_parts field ts)
unfolding walk_parts
walk-proper field [] = record { steps = tt; attr = tt }
walk-proper field (t ∷ ts) = part-proper field (is_nil ts) (as_part t) (walk_parts field ts) (walk-proper field ts)

marked-proper : (d : Bool) (o : Option Walked) → Sure ProperWalk o → Sure ProperAlt (marked d o)
unfolding marked
marked-proper d o h = sure-map ProperWalk ProperAlt (λ v. record { descendant = d; steps = v.steps; attr = v.attr }) (λ v g. record { steps = g.steps; attr = g.attr }) o h

alt-proper : (field : Bool) (t : Text) → Sure ProperAlt (read_alt field t)
unfolding read_alt
alt-proper field t = by (behind (46 ∷ 47 ∷ 47 ∷ []) t)
  where
    by : (o : Option Text) → Sure ProperAlt (alt_of field t o)
    by none = unfold alt_of in marked-proper false (walk_parts field (split_at 47 t)) (walk-proper field (split_at 47 t))
    by (some u) = unfold alt_of in marked-proper true (walk_parts field (split_at 47 u)) (walk-proper field (split_at 47 u))

pub read-proper : (field : Bool) (t : Text) (alts : List WrittenAlt) → read_path field t ≡ some alts → All ProperAlt alts
unfolding read_path
read-proper field t alts e =
    sure-at (All ProperAlt) (read_path field t) alts e
    (sure-cond (All ProperAlt) (utf8 t) (every (read_alt field) (split_at 124 (without_space t))) none (sure-every (λ (u : Text). Unit {0}) ProperAlt (read_alt field) (λ u x. alt-proper field u) (split_at 124 (without_space t)) (All-of (λ (u : Text). Unit {0}) (λ u. tt) (split_at 124 (without_space t)))) tt)

-- ROUND TRIP: the entries of a read path give the path back
pub entries-back : (field : Bool) (t : Text) (alts : List WrittenAlt) → read_path field t ≡ some alts → (rest : Bytes) → path_in (put_path alts ++ rest) ≡ alts
entries-back field t alts e rest = path-back alts (read-proper field t alts e) rest
