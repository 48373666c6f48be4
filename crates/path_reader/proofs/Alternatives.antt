-- An alternative with its head, and the walk over the alternatives from the left: those that were read stand before what the rest reads, and are written one behind the other
-- behind the byte for their number.
-- Assumes nothing.
use Rattle.std.specs.declared.option.Option as code
use Rattle.std.specs.declared.option.Option.TheVariants.{Some, None}
use Prim.Native.Nat.{ℕ, ◌+◌, ◌*◌, ◌≤◌}
use native.Mathlib.Omega.{arith}
use lib.ListN.{length, length-append}
use mathlib.Core.Path.{◌≡◌, refl, ap, sym, ◌∙◌, subst}
use mathlib.Core.Bool.{Bool, true, false}
use mathlib.Core.List.{List, [], ◌∷◌, ◌++◌, flat_map, append_assoc, append-nil}
use mathlib.Core.Option.{Option, none, some, map}
use Rattle.lists.specs.Lists.{over}
use Rattle.lists.proofs.Lists.{flat_map-append}
use Rattle.lists.proofs.Places.{over_nothing}
use Rattle.texts.specs.Texts.{Text}
use Rattle.paths.specs.Reading.{WrittenAlt, Walked, on_some, every, split_at, behind, walk_parts, marked, alt_of, read_alt}
use Rattle.records.specs.Readers.{Bytes}
use Rattle.path_entries.specs.Entries.{flag_of, put_alt, put_path}
use Rattle.path_reader.specs.declared.Steps.{Steps}
use Rattle.path_pieces.specs.Pieces.{piece_length, CutAt}
use Rattle.path_reader.specs.Places.{Room, Kept, Written, Wrote, WroteSteps, walked_steps, walked_bytes}
use Rattle.path_pieces.proofs.Pieces.{split-whole}
use Rattle.path_reader.proofs.Writing.{over-before, written_then, kept_then, kept-written, wrote_none, wrote-some, steps-none, steps-some}
use Rattle.path_reader.proofs.Short.{walk-short, alt-short, alt-some}

-- ---- the head of an alternative

module _ (descendant field : Bool) (s : Text) (l m : Bytes) (at : ℕ) (g : code.Option Steps) (v : WroteSteps walked_steps walked_bytes (walk_parts field (split_at 47 s)) l (at + 2) 0 g m)
    (r : Room s l (at + 3 * (length s + 1))) where
  pub marked-none : g ≡ None → Wrote put_alt (marked descendant (walk_parts field (split_at 47 s))) l at None m
  unfolding marked
  marked-none e =
      let x = steps-none walked_steps walked_bytes (walk_parts field (split_at 47 s)) l m (at + 2) 0 g v e in
      (ap (marked descendant) x.0, x.1)

  module _ (u : Steps) (e : g ≡ Some u) where
    walked : (w : Walked) × (walk_parts field (split_at 47 s) ≡ some w) × (u.count ≡ 0 + walked_steps w) × Written l (at + 2) (walked_bytes w) u.end m
    walked = steps-some walked_steps walked_bytes (walk_parts field (split_at 47 s)) l m (at + 2) 0 g v u e

    pub head-room : length m ≡ length l → (u.count ≤ 255) × (at + 2 ≤ length m)
    head-room h =
        let f = walk-short field s walked.0 walked.1 in
        (omega (arith, f.steps, walked.2, r.short), omega (arith, r.wide, r.fits))

    pub marked-some : (n : Bytes) → n ≡ over m at (flag_of descendant ∷ u.count ∷ []) → Wrote put_alt (marked descendant (walk_parts field (split_at 47 s))) l at (Some u.end) n
    unfolding marked put_alt
    marked-some n h =
        let w = walked.0 in
        let c : u.count ≡ length w.steps = omega (arith, walked.2) in
        let head : Bytes = flag_of descendant ∷ u.count ∷ [] in
        let o : n ≡ over l at (head ++ walked_bytes w) =
        h ∙ ap (λ (z : Bytes). over z at head) walked.3.1 ∙ over-before l head (walked_bytes w) at (at + 2) refl (omega (arith, r.wide, r.fits)) in (
          record { descendant = descendant; steps = w.steps; attr = w.attr },
          ap (marked descendant) walked.1,
          (omega (arith, walked.3.0), o ∙ ap (λ (z : ℕ). over l at (flag_of descendant ∷ z ∷ walked_bytes w)) c),
        )

-- ---- an alternative

module _ (field : Bool) (s : Text) (l m : Bytes) (at : ℕ) (g : code.Option ℕ) where
  pub alt-deep : (u : Text) → some u ≡ behind (46 ∷ 47 ∷ 47 ∷ []) s → Wrote put_alt (marked true (walk_parts field (split_at 47 u))) l at g m → Wrote put_alt (read_alt field s) l at g m
  unfolding read_alt alt_of
  alt-deep u e v = rw (← e) v

  pub alt-plain : none ≡ behind (46 ∷ 47 ∷ 47 ∷ []) s → Wrote put_alt (marked false (walk_parts field (split_at 47 s))) l at g m → Wrote put_alt (read_alt field s) l at g m
  unfolding read_alt alt_of
  alt-plain e v = rw (← e) v

-- ---- alternatives before what is read

pub with_alts : List WrittenAlt → Option (List WrittenAlt) → Option (List WrittenAlt)
with_alts before o = map (λ l. before ++ l) o

with_none : (o : Option (List WrittenAlt)) → o ≡ with_alts [] o
unfolding with_alts
with_none none = refl
with_none (some l) = refl

with-one : (before : List WrittenAlt) (a : WrittenAlt) (o : Option (List WrittenAlt)) → with_alts before (map (λ l. a ∷ l) o) ≡ with_alts (before ++ (a ∷ [])) o
unfolding with_alts
with-one before a none = refl
with-one before a (some l) = ap some (sym (append_assoc before (a ∷ []) l))

every-none : (field : Bool) (t : Text) (ts : List Text) → read_alt field t ≡ none → every (read_alt field) (t ∷ ts) ≡ none
unfolding every on_some
every-none field t ts e = rw e

every_some : (field : Bool) (t : Text) (ts : List Text) (a : WrittenAlt) → read_alt field t ≡ some a → every (read_alt field) (t ∷ ts) ≡ map (λ l. a ∷ l) (every (read_alt field) ts)
unfolding every on_some
every_some field t ts a e = rw e

-- ---- the walk

pub record Alternating (field : Bool) (s : Text) (l m : Bytes) (rest : Text) (at count : ℕ) : Type 0 where
  pub before : List WrittenAlt
  pub counted : count ≡ length before + 1
  pub written : Written l 1 (flat_map put_alt before) at m
  pub reads : every (read_alt field) (split_at 124 s) ≡ with_alts before (every (read_alt field) (split_at 124 rest))
  pub room : at + 3 * length rest ≤ 1 + 3 * length s
  pub short : count + length rest ≤ length s + 1

pub alternating-start : (field : Bool) (s : Text) (l : Bytes) → Alternating field s l l s 1 1
unfolding flat_map
alternating-start field s l =
    record {
      before = [];
      counted = refl;
      written = (refl, sym (over_nothing l 1));
      reads = with_none (every (read_alt field) (split_at 124 s));
      room = omega arith;
      short = omega arith;
    }

module _ (field : Bool) (s : Text) (l m : Bytes) (rest : Text) (at count : ℕ) (w : Alternating field s l m rest at count) (short : length s ≤ 255) (wide : 1024 ≤ length l) where
  kept : Kept l m
  kept = kept-written l m (flat_map put_alt w.before) 1 at wide (omega (arith, w.room, w.written.0)) w.written

  -- one that is not read
  unread : (n : Bytes) → Kept m n → every (read_alt field) (split_at 124 rest) ≡ none → Wrote put_path (every (read_alt field) (split_at 124 s)) l 0 None n
  unfolding with_alts
  unread n k e =
      (w.reads ∙ ap (with_alts w.before) e, kept_then l m n kept k)

  -- one more that is written
  more-written : (a : WrittenAlt) (n : Bytes) (q : ℕ) → Written m at (put_alt a) q n → Written l 1 (flat_map put_alt (w.before ++ (a ∷ []))) q n
  unfolding flat_map
  more-written a n q x =
      let e : flat_map put_alt (w.before ++ (a ∷ [])) ≡ flat_map put_alt w.before ++ put_alt a =
      flat_map-append put_alt w.before (a ∷ []) ∙ ap (λ (z : Bytes). flat_map put_alt w.before ++ z) (append-nil (put_alt a)) in
      subst (λ (vs : Bytes). Written l 1 vs q n) (sym e) (written_then l m n (flat_map put_alt w.before) (put_alt a) 1 at q (omega arith) w.written x)

  -- ---- one with others behind it

  module _ (first behind : Text) (h : CutAt 124 rest first behind) where
    module _ (n : Bytes) (g : code.Option ℕ) (v : Wrote put_alt (read_alt field first) m at g n) where
      pub alternating-none : g ≡ None → Wrote put_path (every (read_alt field) (split_at 124 s)) l 0 None n
      alternating-none e =
          let x = wrote_none put_alt (read_alt field first) m n at g v e in
          unread n x.1 (ap (every (read_alt field)) h.pieces ∙ every-none field first (split_at 124 behind) x.0)

      pub alternating-some : (q : ℕ) → g ≡ Some q → Alternating field s l n behind q (count + 1)
      alternating-some q e =
          let x = wrote-some put_alt (read_alt field first) m n at g v q e in
          let a = x.0 in
          let ts : List Text = split_at 124 behind in
          let fit = alt-short field first a x.1 in
          let c = length-append w.before (a ∷ []) in
          let d = h.sizes in
          record {
            before = w.before ++ (a ∷ []);
            counted = omega (arith, w.counted);
            written = more-written a n q x.2;
            reads = w.reads
                ∙ ap (λ (l : List Text). with_alts w.before (every (read_alt field) l)) h.pieces
                ∙ ap (with_alts w.before) (every_some field first ts a x.1)
                ∙ with-one w.before a (every (read_alt field) ts);
            room = omega (arith, w.room, x.2.0);
            short = omega (arith, w.short);
          }

  -- ---- the last one

  module _ (piece : split_at 124 rest ≡ rest ∷ []) where
    module _ (n : Bytes) (g : code.Option ℕ) (v : Wrote put_alt (read_alt field rest) m at g n) where
      pub end_none : g ≡ None → Wrote put_path (every (read_alt field) (split_at 124 s)) l 0 None n
      end_none e =
          let x = wrote_none put_alt (read_alt field rest) m n at g v e in
          unread n x.1 (ap (every (read_alt field)) piece ∙ every-none field rest [] x.0)

      module _ (q : ℕ) (e : g ≡ Some q) where
        read : (a : WrittenAlt) × (read_alt field rest ≡ some a) × Written m at (put_alt a) q n
        read = wrote-some put_alt (read_alt field rest) m n at g v q e

        -- the number of alternatives fits a byte: none of them is empty
        pub count_fits : count ≤ 255
        count_fits = let k = alt-some field rest read.0 read.1 in omega (arith, w.short)

        whole : every (read_alt field) (split_at 124 s) ≡ some (w.before ++ (read.0 ∷ []))
        unfolding with_alts every
        whole =
            w.reads
            ∙ ap (λ (l : List Text). with_alts w.before (every (read_alt field) l)) piece
            ∙ ap (with_alts w.before) (every_some field rest [] read.0 read.1)

        pub end-some : (o : Bytes) (p : ℕ) → Written n 0 (count ∷ []) p o → Wrote put_path (every (read_alt field) (split_at 124 s)) l 0 (Some q) o
        unfolding put_path
        end-some o p x =
            let alts : List WrittenAlt = w.before ++ (read.0 ∷ []) in
            let vs : Bytes = flat_map put_alt alts in
            let y = more-written read.0 n q read.2 in
            let c : count ≡ length alts = simp length-append (omega (arith, w.counted)) in
            let d : q ≡ 0 + length (put_path alts) = omega (arith, y.0) in
            let z : o ≡ over l 0 (length alts ∷ vs) =
            x.1 ∙ ap (λ (z : Bytes). over z 0 (count ∷ [])) y.1 ∙ over-before l (count ∷ []) vs 0 1 refl (omega arith)
            ∙ ap (λ (k : ℕ). over l 0 (k ∷ vs)) c in
            (alts, whole, (d, z))

-- ---- the only one

module _ (field : Bool) (s : Text) (l : Bytes) (short : length s ≤ 255) (wide : 1024 ≤ length l) (h : length s ≤ piece_length 124 s) where
  start : Alternating field s l l s 1 1
  start = alternating-start field s l

  piece : split_at 124 s ≡ s ∷ []
  piece = split-whole 124 s h

  module _ (n : Bytes) (g : code.Option ℕ) (v : Wrote put_alt (read_alt field s) l 1 g n) where
    pub one_none : g ≡ None → Wrote put_path (every (read_alt field) (split_at 124 s)) l 0 None n
    one_none e = end_none field s l l s 1 1 start short wide piece n g v e

    pub one-some : (q : ℕ) → g ≡ Some q → (o : Bytes) (p : ℕ) → Written n 0 (1 ∷ []) p o → Wrote put_path (every (read_alt field) (split_at 124 s)) l 0 (Some q) o
    one-some q e o p x = end-some field s l l s 1 1 start short wide piece n g v q e o p x
