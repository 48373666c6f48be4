-- The definitions of bytes: the first record is taken, and then the rest; and a record more behind the others is taken last, since bytes behind a record change nothing of it.
-- Assumes nothing.
use Prim.Native.Nat.{ℕ, zero, suc, ◌+◌, ◌*◌, ◌≤◌, ◌<◌}
use native.Mathlib.Omega.{arith}
use lib.ListN.{length}
use mathlib.Core.Path.{◌≡◌, refl, ap, ◌∙◌}
use mathlib.Core.List.{List, [], ◌∷◌, ◌++◌}
use mathlib.Core.Option.{Option, none, some, map, some-injective, none-ne-some}
use Rattle.std.proofs.lemmas.List.Sums.{fold-append}
use Rattle.lists.specs.Lists.{foldl}
use Rattle.paths.specs.Reading.{on_some}
use Rattle.records.specs.Readers.{Bytes, on_read, ◌>>=◌, pass, read_byte, cons_on, read_bytes, read_all, reads}
use Rattle.records.proofs.Stores.{reads-one, reads_more}
use Rattle.session_laws.proofs.Stores.{frame-stable}
use Rattle.session_laws.proofs.Replays.{none-on}
use Rattle.session_spec.specs.Definitions.{Definitions, no_definitions, frame, replay, read_definitions}
use Rattle.output_stores.proofs.Walks.{reads_on, reads-stop}
use Rattle.frames.proofs.Fronts.{frame-shortens, frame-cut}

-- ---- what is left of the bytes, replayed behind what was

unfoldable pub onward : Option Definitions → Bytes → Option Definitions
onward o xs = on_some (reads frame xs) (λ l. foldl replay o l)

pub onward-on : (o : Option Definitions) (xs f r : Bytes) → frame xs ≡ some (f, r) → onward o xs ≡ onward (replay o f) r
unfolding onward
onward-on o xs f r e = rw (reads_on frame frame-shortens xs f r e) (by (reads frame r))
  where
    by : (m : Option (List Bytes)) → on_some (map (λ l. f ∷ l) m) (λ l. foldl replay o l) ≡ on_some m (λ l. foldl replay (replay o f) l)
    by none = unfold on_some in refl
    by (some l) = unfold on_some in refl

pub onward-stop : (o : Option Definitions) (xs : Bytes) → 0 < length xs → frame xs ≡ none → onward o xs ≡ none
unfolding onward on_some
onward-stop o xs h e = rw (reads-stop frame frame-shortens xs h e)

pub onward-end : (o : Option Definitions) → onward o [] ≡ o
unfolding onward reads read_all on_some
onward-end o = refl

pub onward-none : (xs : Bytes) → onward none xs ≡ none
unfolding onward
onward-none xs = by (reads frame xs)
  where
    by : (m : Option (List Bytes)) → on_some m (λ l. foldl replay none l) ≡ none
    by none = unfold on_some in refl
    by (some l) = unfold on_some in none-on l

-- ---- a record more behind the others

-- what is read is read again where nothing stands behind it
bytes-alone : (n : ℕ) (s t r : Bytes) → read_bytes n s ≡ some (t, r) → read_bytes n t ≡ some (t, [])
unfolding read_bytes
bytes-alone zero s t r e =
    let q : [] ≡ t = ap (λ (p : Bytes × Bytes). p.0) (some-injective _ _ e) in
    rw (← q)
bytes-alone (suc n) [] t r e = absurd (none-ne-some (t, r) e)
bytes-alone (suc n) (x ∷ s) t r e = by (read_bytes n s) e (bytes-alone n s)
  where
    by : (o : Option (Bytes × Bytes)) → cons_on x o ≡ some (t, r) → ((u v : Bytes) → o ≡ some (u, v) → read_bytes n u ≡ some (u, [])) → read_bytes (suc n) t ≡ some (t, [])
    by none e ih = unfold cons_on in absurd (none-ne-some (t, r) e)
    by (some q) e ih =
        let p : x ∷ q.0 ≡ t = unfold cons_on in (ap (λ (p : Bytes × Bytes). p.0) (some-injective _ _ e)) in
        rw (← p, ih q.0 q.1 refl) (unfold cons_on in refl)

pub frame-alone : (s f r : Bytes) → frame s ≡ some (f, r) → frame f ≡ some (f, [])
unfolding frame read_byte ◌>>=◌ on_read pass
frame-alone [] f r e = absurd (none-ne-some (f, r) e)
frame-alone (a ∷ []) f r e = absurd (none-ne-some (f, r) e)
frame-alone (a ∷ b ∷ []) f r e = absurd (none-ne-some (f, r) e)
frame-alone (a ∷ b ∷ c ∷ []) f r e = absurd (none-ne-some (f, r) e)
frame-alone (a ∷ b ∷ c ∷ d ∷ s) f r e = by (read_bytes (c + 256 * d) s) refl e
  where
    by : (o : Option (Bytes × Bytes)) → read_bytes (c + 256 * d) s ≡ o → on_read o (λ x. pass (a ∷ b ∷ c ∷ d ∷ x)) ≡ some (f, r) → frame f ≡ some (f, [])
    by none g e = absurd (none-ne-some (f, r) e)
    by (some q) g e =
        let w : a ∷ b ∷ c ∷ d ∷ q.0 ≡ f = ap (λ (p : Bytes × Bytes). p.0) (some-injective _ _ e) in
        rw (← w, bytes-alone (c + 256 * d) s q.0 q.1 g)

pub read_more : (xs f : Bytes) (d : Definitions) → read_definitions xs ≡ some d → frame f ≡ some (f, []) → read_definitions (xs ++ f) ≡ replay (some d) f
unfolding read_definitions on_some
read_more xs f d h e = by (reads frame xs) refl h
  where
    by : (o : Option (List Bytes)) → reads frame xs ≡ o → on_some o (λ l. foldl replay (some no_definitions) l) ≡ some d
        → on_some (reads frame (xs ++ f)) (λ l. foldl replay (some no_definitions) l) ≡ replay (some d) f
    by none g h = absurd (none-ne-some d h)
    by (some l) g h =
        let k : 4 ≤ length f = (frame-cut f f [] e).1 in
        let m : reads frame (xs ++ f) ≡ some (l ++ (f ∷ [])) = reads_more frame frame-stable xs f l f g (reads-one frame f f e (omega arith)) in
        rw m (fold-append replay (some no_definitions) l (f ∷ []) ∙ ap (λ (o : Option Definitions). replay o f) h)
