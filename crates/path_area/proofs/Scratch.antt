-- What a path leaves lies in the first 1,024 bytes: its entries are fewer. So whoever puts these back has the area as it was.
-- Assumes nothing.
use Prim.Native.Nat.{ℕ, ◌+◌, ◌-◌, ◌≤◌}
use native.Mathlib.Omega.{arith}
use native.Mathlib.Nat.{zero-add}
use borrow.Author.Tests.{leb-true}
use lib.Dec.{leb}
use lib.ListN.{length, take, drop, replicate, length-take, length-replicate, take-append-drop}
use mathlib.Core.Path.{◌≡◌, refl, ap, sym, ◌∙◌, subst}
use mathlib.Core.Bool.{Bool, true, false, false≢true}
use mathlib.Core.List.{List, ◌++◌, append-nil}
use mathlib.Core.Option.{Option, none, some, some-injective}
use Rattle.std.proofs.lemmas.Bool.{and_parts}
use Rattle.lists.specs.Lists.{part, over, put}
use Rattle.lists.proofs.Writes.{put-fits, length_over, drop-over}
use Rattle.texts.specs.Texts.{Text}
use Rattle.paths.specs.Reading.{WrittenAlt, read_path}
use Rattle.records.specs.Readers.{Bytes}
use Rattle.session_spec.specs.Definitions.{is_some}
use Rattle.session_spec.specs.Layout.{pad}
use Rattle.cells.proofs.Writes.{put-zeros}
use Rattle.path_entries.specs.Entries.{put_path, path_in}
use Rattle.path_entries.proofs.Back.{entries-back}
use Rattle.path_reader.specs.Parsing.{roomy, Leaves, Within, Parses}
use Rattle.std.specs.Result.{is_ok}
use Rattle.std.specs.declared.result.Result.{Result}
use Rattle.path_reader.specs.declared.Unparsed.{Unparsed}
use Rattle.path_reader.proofs.Short.{entries-short}
use Rattle.path_area.specs.Scratch.{Scratched, ReadsInto}

pub scratch-same : (l : Bytes) → Scratched l l
scratch-same l = record { size = refl; behind = refl }

pub scratch-then : (a b c : Bytes) → Scratched a b → Scratched b c → Scratched a c
scratch-then a b c p q = record { size = q.size ∙ p.size; behind = q.behind ∙ p.behind }

-- ---- a path

record Room (path : Text) (before : Bytes) : Type 0 where
  short : length path ≤ 255
  long : 1024 ≤ length before

room-is : (path : Text) (before : Bytes) → roomy path before ≡ true → Room path before
unfolding roomy
room-is path before h =
    let p = and_parts (leb (length path) 255) (leb 1024 (length before)) h in
    record { short = leb-true (length path) 255 p.0; long = leb-true 1024 (length before) p.1 }

module _ (field : Bool) (path : Text) (before : Bytes) where
  -- a path that is read
  there : (alts : List WrittenAlt) → Room path before → read_path field path ≡ some alts → (after : Bytes) → after ≡ over before 0 (put_path alts)
      → (path_in after ≡ alts) × Scratched before after
  there alts g e after w =
      let n : length (put_path alts) ≤ 1024 = omega (arith, entries-short field path alts e, g.short) in
      let rest : Bytes = drop (0 + length (put_path alts)) before in (
        ap path_in w ∙ entries-back field path alts e rest,
        record {
          size = ap length w ∙ length_over before 0 (put_path alts) (omega (arith, g.long));
          behind = ap (drop 1024) w ∙ drop-over before 0 (put_path alts) 1024 (omega arith) (omega arith);
        },
      )

  module _ (r : Result ℕ Unparsed) (after : Bytes) where
    roomy-reads : Room path before → (o : Option (List WrittenAlt)) → read_path field path ≡ o → Leaves o before r after
        → (is_ok r ≡ is_some o) × ((alts : List WrittenAlt) → o ≡ some alts → path_in after ≡ alts) × Scratched before after
    unfolding is_some
    roomy-reads g none e l =
        (ap is_ok l.0, λ alts q. absurd (let z : ◌≡◌ {A = ℕ} 0 1 = cc in omega arith), record { size = l.1; behind = l.2 })
    roomy-reads g (some alts) e l =
        let t = there alts g e after l.1 in
        (ap is_ok l.0, λ other q. t.0 ∙ some-injective alts other q, t.1)

    pub reads-into : Parses field path before r after → ReadsInto field path before (is_ok r) after
    reads-into p = by (roomy path before) refl p
      where
        by : (b : Bool) → roomy path before ≡ b → Within b (read_path field path) before r after → ReadsInto field path before (is_ok r) after
        by false e w =
            record {
              answers = λ q. absurd (false≢true (sym e ∙ q));
              entries = λ q alts z. absurd (false≢true (sym e ∙ q));
              unread = λ q. ap is_ok w.0;
              scratched = subst (λ (l : Bytes). Scratched before l) (sym w.1) (scratch-same before);
            }
        by true e w =
            let t = roomy-reads (room-is path before e) (read_path field path) refl w in
            record { answers = λ q. t.0; entries = λ q alts z. t.1 alts z; unread = λ q. absurd (false≢true (sym q ∙ e)); scratched = t.2 }

-- ---- saved and put back

pub padded-is : (n : ℕ) (l saved front : Bytes) → front ≡ part l 0 n → saved ≡ put (replicate n 0) 0 front → saved ≡ pad n (take n l)
padded-is n l saved front e w =
    let k : length (take n l) ≤ n = omega (arith, length-take n l) in
    w ∙ ap (put (replicate n 0) 0) e ∙ put-zeros n (take n l) (omega (arith, k, length-replicate {A = ℕ} n 0))

front-saved : (l : Bytes) → 1024 ≤ length l → pad 1024 (take 1024 l) ≡ take 1024 l
unfolding pad
front-saved l h =
    let n : length (take 1024 l) ≡ 1024 = length-take 1024 l ∙ omega arith in
    let z : 1024 - length (take 1024 l) ≡ 0 = omega arith in
    ap (λ (k : ℕ). take 1024 l ++ replicate k 0) z ∙ append-nil (take 1024 l)

-- A REFUSED CALL puts the area back as it was.
pub put_back : (before after : Bytes) → 1024 ≤ length before → Scratched before after → put after 0 (pad 1024 (take 1024 before)) ≡ before
put_back before after h s =
    let n : length (take 1024 before) ≡ 1024 = length-take 1024 before ∙ omega arith in
    ap (put after 0) (front-saved before h)
    ∙ put-fits after 0 (take 1024 before) (omega (arith, s.size))
    ∙ ap (λ (k : ℕ). take 1024 before ++ drop k after) (zero-add (length (take 1024 before)) ∙ n)
    ∙ ap (λ (l : Bytes). take 1024 before ++ l) s.behind
    ∙ take-append-drop 1024 before
