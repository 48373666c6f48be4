-- The walk over the parts of an alternative from the left: the tests that were read stand before what the rest reads, and are written one behind the other.
-- Assumes nothing.
use Rattle.std.specs.declared.option.Option as code
use Rattle.std.specs.declared.option.Option.TheVariants.{Some, None}
use Prim.Native.Nat.{ℕ, ◌+◌, ◌*◌, ◌≤◌, ◌<◌}
use native.Mathlib.Nat.{add-zero}
use native.Mathlib.Omega.{arith}
use lib.ListN.{length, length-append}
use mathlib.Core.Path.{◌≡◌, refl, ap, sym, ◌∙◌, subst}
use mathlib.Core.Bool.{Bool, false, ◌&&◌, and-false}
use mathlib.Core.List.{List, [], ◌∷◌, ◌++◌, flat_map, append_assoc}
use mathlib.Core.Option.{Option, none, some, map}
use Rattle.lists.proofs.Lists.{flat_map-append}
use Rattle.lists.proofs.Places.{over_nothing}
use Rattle.texts.specs.Texts.{Text}
use Rattle.paths.specs.Reading as reading
use Rattle.paths.specs.Reading.{WrittenTest, Walked, on_some, is_nil, split_at, name_test, as_part, attribute_part, self_part, child_part, walk_part, walk_parts}
use Rattle.records.specs.Readers.{Bytes}
use Rattle.path_entries.specs.Entries.{put_test, put_end}
use Rattle.path_reader.specs.declared.Steps.{Steps}
use Rattle.path_pieces.specs.declared.Part.{Part}
use Rattle.path_pieces.specs.Pieces.{CutAt, part_by, tested, PartOf}
use Rattle.path_reader.specs.Places.{step_of, Room, Kept, Written, WroteSteps, steps_bytes, walked_steps, walked_bytes}
use Rattle.path_pieces.proofs.Pieces.{split-some}
use Rattle.path_reader.proofs.Writing.{written_then, kept_then, kept-written, steps-none, steps-some}
use Rattle.path_reader.proofs.Short.{step_fits}

-- ---- tests before what is read

unfoldable pub with_steps : List WrittenTest → Option Walked → Option Walked
with_steps ts o = map (λ w. record { steps = ts ++ w.steps; attr = w.attr }) o

with_none : (o : Option Walked) → o ≡ with_steps [] o
unfolding with_steps
with_none none = refl
with_none (some w) = refl

with-both : (ts us : List WrittenTest) (o : Option Walked) → with_steps ts (with_steps us o) ≡ with_steps (ts ++ us) o
unfolding with_steps
with-both ts us none = refl
with-both ts us (some w) = ap (λ (l : List WrittenTest). some (record { steps = l; attr = w.attr })) (sym (append_assoc ts us w.steps))

-- ---- a part with others behind it

child : Option Walked → WrittenTest → Option Walked
child o a = map (λ w. record { steps = a ∷ w.steps; attr = w.attr }) o

child-none : (n : Option WrittenTest) (o : Option Walked) → on_some n (λ a. some (a ∷ [])) ≡ none → on_some n (child o) ≡ none
unfolding on_some
child-none none o e = refl
child-none (some a) o e = let z : ◌≡◌ {A = ℕ} 0 1 = cc in absurd (omega arith)

child-some : (n : Option WrittenTest) (o : Option Walked) (ts : List WrittenTest) → on_some n (λ a. some (a ∷ [])) ≡ some ts → on_some n (child o) ≡ with_steps ts o
unfolding on_some child with_steps
child-some none o ts e = let z : ◌≡◌ {A = ℕ} 0 1 = cc in absurd (omega arith)
child-some (some a) o ts e = let q : a ∷ [] ≡ ts = cc in ap (λ (l : List WrittenTest). with_steps l o) q

-- a part of which no test is read, where an attribute may not stand
pub part_none : (field last : Bool) (p : reading.Part) (o : Option Walked) → step_of p ≡ none → ((t : Text) → p ≡ attribute_part t → field && last ≡ false) → walk_part field last p o ≡ none
unfolding step_of walk_part child
part_none field last (attribute_part t) o e f = rw (f t refl)
part_none field last self_part o e f = let z : ◌≡◌ {A = ℕ} 0 1 = cc in absurd (omega arith)
part_none field last (child_part t) o e f = child-none (name_test t) o e

pub part-some : (field last : Bool) (p : reading.Part) (o : Option Walked) (ts : List WrittenTest) → step_of p ≡ some ts → walk_part field last p o ≡ with_steps ts o
unfolding step_of walk_part child
part-some field last (attribute_part t) o ts e = let z : ◌≡◌ {A = ℕ} 0 1 = cc in absurd (omega arith)
part-some field last self_part o ts e = let q : [] ≡ ts = cc in with_none o ∙ ap (λ (l : List WrittenTest). with_steps l o) q
part-some field last (child_part t) o ts e = child-some (name_test t) o ts e

-- ---- the walk

pub record Walking (field : Bool) (s : Text) (l : Bytes) (start : ℕ) (m : Bytes) (rest : Text) (at steps : ℕ) : Type 0 where
  pub before : List WrittenTest
  pub counted : steps ≡ length before
  pub written : Written l start (steps_bytes before) at m
  pub reads : walk_parts field (split_at 47 s) ≡ with_steps before (walk_parts field (split_at 47 rest))
  pub room : at + 3 * length rest ≤ start + 3 * length s
  pub short : steps + length rest ≤ length s

pub walking_start : (field : Bool) (s : Text) (l : Bytes) (start : ℕ) → Walking field s l start l s start 0
unfolding flat_map
walking_start field s l start =
    record {
      before = [];
      counted = refl;
      written = (sym (add-zero start), sym (over_nothing l start));
      reads = with_none (walk_parts field (split_at 47 s));
      room = omega arith;
      short = omega arith;
    }

module _ (field : Bool) (s : Text) (l : Bytes) (start : ℕ) (m : Bytes) (rest : Text) (at steps : ℕ) (w : Walking field s l start m rest at steps)
    (r : Room s l (start + (3 * length s + 1))) where
  -- what is kept so far
  kept : Kept l m
  kept =
      let k = w.room in
      kept-written l m (steps_bytes w.before) start at r.wide (omega (arith, w.written.0, r.fits)) w.written

  -- ---- a part with others behind it

  module _ (first behind : Text) (h : CutAt 47 rest first behind) (p : Part) (i : PartOf first p) where
    more : walk_parts field (split_at 47 rest) ≡ walk_part field false (part_by p) (walk_parts field (split_at 47 behind))
    unfolding walk_parts is_nil
    more =
        let some = split-some 47 behind in
        rw (h.pieces, some.2, i.reads)

    module _ (n : Bytes) (g : code.Option Steps) (v : WroteSteps length steps_bytes (step_of (part_by p)) m at steps g n) where
      pub walking-none : g ≡ None → WroteSteps walked_steps walked_bytes (walk_parts field (split_at 47 s)) l start 0 None n
      unfolding with_steps
      walking-none e =
          let x = steps-none length steps_bytes (step_of (part_by p)) m n at steps g v e in
          let y = part_none field false (part_by p) (walk_parts field (split_at 47 behind)) x.0 (λ t q. and-false field) in
          (w.reads ∙ ap (with_steps w.before) (more ∙ y), kept_then l m n kept x.1)

      pub walking-some : (u : Steps) → g ≡ Some u → Walking field s l start n behind u.end u.count
      walking-some u e =
          let x = steps-some length steps_bytes (step_of (part_by p)) m n at steps g v u e in
          let ts = x.0 in
          let o : Option Walked = walk_parts field (split_at 47 behind) in
          let y = part-some field false (part_by p) o ts x.1 in
          let fit = step_fits first ts (ap step_of i.reads ∙ x.1) in
          let c = length-append w.before ts in
          let d = h.sizes in
          record {
            before = w.before ++ ts;
            counted = omega (arith, w.counted, x.2);
            written = subst (λ (vs : Bytes). Written l start vs u.end n) (sym (flat_map-append put_test w.before ts))
                (written_then l m n (steps_bytes w.before) (steps_bytes ts) start at u.end (omega (arith, r.wide, r.fits)) w.written x.3);
            reads = w.reads ∙ ap (with_steps w.before) (more ∙ y) ∙ with-both w.before ts o;
            room = omega (arith, w.room, x.3.0);
            short = omega (arith, w.short, x.2);
          }

  -- ---- the last part

  module _ (h : split_at 47 rest ≡ rest ∷ []) where
    last : walk_parts field (split_at 47 rest) ≡ walk_parts field (rest ∷ [])
    last = ap (walk_parts field) h

    pub walking-last : (n : Bytes) (g : code.Option Steps) → WroteSteps walked_steps walked_bytes (walk_parts field (rest ∷ [])) m at steps g n
        → WroteSteps walked_steps walked_bytes (walk_parts field (split_at 47 s)) l start 0 g n
    unfolding with_steps
    walking-last n None v = (w.reads ∙ ap (with_steps w.before) (last ∙ v.0), kept_then l m n kept v.1)
    walking-last n (Some r') v =
        let u = v.0 in
        let c = length-append w.before u.steps in
        let e : steps_bytes w.before ++ walked_bytes u ≡ walked_bytes (record { steps = w.before ++ u.steps; attr = u.attr }) =
        sym (append_assoc (steps_bytes w.before) (steps_bytes u.steps) (put_end u.attr))
        ∙ ap (λ (vs : Bytes). vs ++ put_end u.attr) (sym (flat_map-append put_test w.before u.steps)) in (
          record { steps = w.before ++ u.steps; attr = u.attr },
          w.reads ∙ ap (with_steps w.before) (last ∙ v.1),
          omega (arith, w.counted, v.2),
          subst (λ (vs : Bytes). Written l start vs r'.end n) e (written_then l m n (steps_bytes w.before) (walked_bytes u) start at r'.end (omega (arith, r.wide, r.fits)) w.written v.3),
        )
