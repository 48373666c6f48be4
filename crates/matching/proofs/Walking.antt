-- The steps of an alternative, read one by one and held against names one by one: a step more is a name more, by the definition of both. Then its end, and the
-- whole alternative: its path matches exactly if its steps may match as many names as there are and take the last n of them.
-- Assumes nothing.
use Prim.Native.Nat.{ℕ, zero, suc, ◌+◌, ◌-◌, ◌≤◌, ◌<◌}
use native.Mathlib.Omega.{arith}
use lib.Dec.{eqb}
use lib.ListN.{length, length-map}
use mathlib.Core.Path.{◌≡◌, refl, ap, sym, ◌∙◌}
use mathlib.Core.Bool.{Bool, not, ◌&&◌, and-true, and_assoc}
use mathlib.Core.List.{List, [], ◌∷◌, map}
use mathlib.Core.Option
use mathlib.Core.Option.{Option, none, some, some-injective}
use Rattle.texts.specs.Texts.{Text}
use Rattle.paths.specs.Names.{Name}
use Rattle.paths.specs.Matching.{fits, fit_all, matches}
use Rattle.paths.specs.Reading.{WrittenTest, WrittenAlt, resolved, step_path_of}
use Rattle.records.specs.Readers.{Bytes, Reader, on_read, ◌>>=◌, pass, read_byte, times}
use Rattle.records.proofs.Places.{times-length}
use Rattle.path_entries.specs.Entries.{read_test, end_after, read_alternative}
use Rattle.std.specs.declared.option.Option as code
use Rattle.std.specs.declared.option.Option.TheVariants.{Some, None}
use Rattle.matching.specs.declared.Test.{Test}
use Rattle.std.proofs.Common.{Bor}
use Rattle.matching.specs.Matched.{names_below}
use Rattle.matching.specs.Walks.{name_at, names_from, may_match, test_of, TestIn, steps_seen, StepsIn, Seen, alt_seen, AltIn, end_seen, EndIn}
use Rattle.matching.proofs.Names.{names-none, names-next, steps-take}
use Rattle.matching.proofs.Paths.{one_more}

-- ---- one step more

module _ (find : Text → Option Text) (names : Bytes) where
  abbrev pub steps_at : Bool → (i n : ℕ) → Bytes → Option (Bool × Bytes)
  steps_at fit i n xs = Option.map (steps_seen find fit (names_from i n names)) (times n read_test xs)

  end-of : (fit : Bool) (i : ℕ) (xs : Bytes) → steps_at fit i 0 xs ≡ some (fit, xs)
  unfolding times pass fit_all
  end-of fit i xs = rw (names-none i names, and-true fit)

  none-next : (fit : Bool) (i n : ℕ) (xs : Bytes) → read_test xs ≡ none → steps_at fit i (suc n) xs ≡ none
  unfolding times ◌>>=◌ on_read
  none-next fit i n xs e = rw e

  some_next : (fit : Bool) (i n : ℕ) (xs : Bytes) (t : WrittenTest) (ys : Bytes) → read_test xs ≡ some (t, ys)
      → steps_at fit i (suc n) xs ≡ steps_at (fit && fits (resolved find t) (name_at i names)) (i + 1) n ys
  unfolding times ◌>>=◌ on_read pass
  some_next fit i n xs t ys e = rw (e, names-next i n names) (by (times n read_test ys))
    where
      by : (o : Option (List WrittenTest × Bytes))
          → Option.map (steps_seen find fit (name_at i names ∷ names_from (i + 1) n names)) (on_read o (λ l. pass (t ∷ l)))
          ≡ Option.map (steps_seen find (fit && fits (resolved find t) (name_at i names)) (names_from (i + 1) n names)) o
      by none = unfold on_read in refl
      by (some q) =
          unfold on_read pass fit_all in
          (ap (λ (b : Bool). some (b, q.1))
          (sym (and_assoc fit (fits (resolved find t) (name_at i names)) (fit_all (map (resolved find) q.0) (names_from (i + 1) n names)))))

  -- ---- the walk over them

  module _ (xs : Bytes) (fit : Bool) (i end : ℕ) (more : i < end) where
    pub steps-cut : TestIn xs None → steps_at fit i (end - i) xs ≡ none
    steps-cut f = ap (λ (n : ℕ). steps_at fit i n xs) (one_more i end more) ∙ none-next fit i (end - (i + 1)) xs f

    pub steps_on : (t : Test) (rest : Bor Bytes) → TestIn xs (Some (t, rest)) → (fit' : Bool) → fit' ≡ (fit && fits (resolved find (test_of t)) (name_at i names))
        → steps_at fit i (end - i) xs ≡ steps_at fit' (i + 1) (end - (i + 1)) rest.now
    steps_on t rest f fit' e =
        ap (λ (n : ℕ). steps_at fit i n xs) (one_more i end more)
        ∙ some_next fit i (end - (i + 1)) xs (test_of t) rest.now f
        ∙ ap (λ (b : Bool). steps_at b (i + 1) (end - (i + 1)) rest.now) (sym e)

  pub steps-end : (xs : Bytes) (fit : Bool) (i end : ℕ) → end ≤ i → steps_at fit i (end - i) xs ≡ some (fit, xs)
  steps-end xs fit i end h =
      let z : end - i ≡ 0 = omega arith in
      ap (λ (n : ℕ). steps_at fit i n xs) z ∙ end-of fit i xs

-- ---- the end of an alternative

pub end-none : (s : Bytes) → length s ≡ 0 → EndIn s None
unfolding on_read read_byte
end-none [] h = refl
end-none (x ∷ s) h = absurd (omega arith)

module _ (s : Bytes) (rest : Bor Bytes) (flag : ℕ) (e : s ≡ flag ∷ rest.now) where
  pub end-element : flag ≡ 0 → EndIn s (Some (None, rest))
  unfolding on_read read_byte end_after pass
  end-element z = rw (e, z)

  module _ (d : flag ≡ 0 → ⊥) where
    behind : on_read (read_byte s) end_after ≡ on_read (read_test rest.now) (λ t. pass (some t))
    unfolding on_read read_byte
    behind = rw e (by flag d)
      where
        by : (f : ℕ) → (f ≡ 0 → ⊥) → end_after f rest.now ≡ on_read (read_test rest.now) (λ t. pass (some t))
        by zero d = absurd (d refl)
        by (suc f) d = unfold end_after ◌>>=◌ in refl

    pub end-cut : TestIn rest.now None → EndIn s None
    unfolding on_read
    end-cut f = ap (Option.map end_seen) behind ∙ rw f

    pub end-attribute : (t : Test) (after : Bor Bytes) → TestIn rest.now (Some (t, after)) → EndIn s (Some (Some t.local, after))
    unfolding on_read pass
    end-attribute t after f = ap (Option.map end_seen) behind ∙ rw f

-- ---- the whole alternative

abbrev behind_steps : ℕ → List WrittenTest → Reader WrittenAlt
behind_steps d ts = read_byte >>= (λ f. end_after f >>= (λ e. pass (record { descendant = not (eqb d 0); steps = ts; attr = e })))

alt-reads : (d n : ℕ) (xs : Bytes) → read_alternative (d ∷ n ∷ xs) ≡ on_read (times n read_test xs) (behind_steps d)
unfolding read_alternative ◌>>=◌ on_read read_byte
alt-reads d n xs = refl

-- what is seen behind the steps
abbrev with_end : Bool → (Option (Option Text) × Bytes) → (Seen × Bytes)
with_end matched q = (record { matched = matched; attr = q.0 }, q.1)

module _ (find : Text → Option Text) (below : List Name) (d : ℕ) (ts : List WrittenTest) where
  abbrev path : WrittenAlt
  path = record { descendant = not (eqb d 0); steps = ts; attr = none }

  end-seen : (xs : Bytes)
      → Option.map (alt_seen find below) (behind_steps d ts xs) ≡ Option.map (with_end (matches (step_path_of find path) below)) (Option.map end_seen (on_read (read_byte xs) end_after))
  unfolding ◌>>=◌
  end-seen xs = by (read_byte xs)
    where
      last : (o : Option (Option WrittenTest × Bytes))
          → Option.map (alt_seen find below) (on_read o (λ e. pass (record { descendant = not (eqb d 0); steps = ts; attr = e })))
          ≡ Option.map (with_end (matches (step_path_of find path) below)) (Option.map end_seen o)
      last none = unfold on_read in refl
      last (some q) = unfold on_read pass step_path_of in refl

      by : (o : Option (ℕ × Bytes))
          → Option.map (alt_seen find below) (on_read o (λ f. end_after f >>= (λ e. pass (record { descendant = not (eqb d 0); steps = ts; attr = e }))))
          ≡ Option.map (with_end (matches (step_path_of find path) below)) (Option.map end_seen (on_read o end_after))
      by none = unfold on_read in refl
      by (some q) = unfold on_read ◌>>=◌ in last (end_after q.0 q.1)

module _ (find : Text → Option Text) (names : Bytes) (base depth : ℕ) where
  abbrev below : List Name
  below = names_below base depth names

  pub alt-none : (s : Bytes) → length s ≡ 0 → AltIn find below s None
  unfolding read_alternative ◌>>=◌ on_read read_byte
  alt-none [] h = refl
  alt-none (d ∷ s) h = absurd (omega arith)

  pub alt-short : (s rest : Bytes) (d : ℕ) → s ≡ d ∷ rest → length rest ≡ 0 → AltIn find below s None
  unfolding read_alternative ◌>>=◌ on_read read_byte
  alt-short s [] d e h = rw e
  alt-short s (n ∷ rest) d e h = absurd (omega arith)

  -- its steps were walked over
  module _ (s rest xs : Bytes) (d n : ℕ) (e : s ≡ d ∷ rest) (e' : rest ≡ n ∷ xs) (m : ℕ) (count : m ≡ n) (live : Bool) (may : live ≡ may_match d m (depth - base))
      (from : ℕ) (first : from ≡ depth - m) where
    abbrev Walked : code.Option (Bool × Bor Bytes) → Type 0
    Walked r = StepsIn find live (names_from from n names) n xs r

    reads_on : read_alternative s ≡ on_read (times n read_test xs) (behind_steps d)
    reads_on = ap read_alternative (e ∙ ap (λ (l : Bytes). d ∷ l) e') ∙ alt-reads d n xs

    pub alt-cut : Walked None → AltIn find below s None
    alt-cut f = ap (Option.map (alt_seen find below)) reads_on ∙ by (times n read_test xs) f
      where
        by : (o : Option (List WrittenTest × Bytes)) → Option.map (steps_seen find live (names_from from n names)) o ≡ none
            → Option.map (alt_seen find below) (on_read o (behind_steps d)) ≡ none
        by none g = unfold on_read in refl
        by (some q) g = let z : ◌≡◌ {A = ℕ} 0 1 = cc in absurd (omega arith)

    -- the path of these steps
    path-is : (ts : List WrittenTest) → length ts ≡ n
        → matches (step_path_of find (path find below d ts)) below ≡ (live && fit_all (map (resolved find) ts) (names_from from n names))
    unfolding matches step_path_of
    path-is ts l =
        steps-take (map (resolved find) ts) base depth names n (length-map ts (resolved find) ∙ l) d
        ∙ ap (λ (b : Bool). b && fit_all (map (resolved find) ts) (names_from (depth - n) n names)) (sym (may ∙ ap (λ (k : ℕ). may_match d k (depth - base)) count))
        ∙ ap (λ (i : ℕ). live && fit_all (map (resolved find) ts) (names_from i n names)) (sym (first ∙ ap (λ (k : ℕ). depth - k) count))

    module _ (fit : Bool) (behind : Bor Bytes) (f : Walked (Some (fit, behind))) where
      ended : Option.map (alt_seen find below) (read_alternative s) ≡ Option.map (with_end fit) (Option.map end_seen (on_read (read_byte behind.now) end_after))
      unfolding on_read
      ended = ap (Option.map (alt_seen find below)) reads_on ∙ by (times n read_test xs) refl f
        where
          by : (o : Option (List WrittenTest × Bytes)) → times n read_test xs ≡ o
              → Option.map (steps_seen find live (names_from from n names)) o ≡ some (fit, behind.now)
              → Option.map (alt_seen find below) (on_read o (behind_steps d)) ≡ Option.map (with_end fit) (Option.map end_seen (on_read (read_byte behind.now) end_after))
          by none t g = let z : ◌≡◌ {A = ℕ} 0 1 = cc in absurd (omega arith)
          by (some q) t g =
              let l : length q.0 ≡ n = times-length read_test n xs q.0 q.1 t in
              let p = some-injective (steps_seen find live (names_from from n names) q) (fit, behind.now) g in
              let b : (live && fit_all (map (resolved find) q.0) (names_from from n names)) ≡ fit = ap (λ x. x.0) p in
              let c : q.1 ≡ behind.now = ap (λ x. x.1) p in
              end-seen find below d q.0 q.1
              ∙ ap (λ (m : Bool). Option.map (with_end m) (Option.map end_seen (on_read (read_byte q.1) end_after))) (path-is q.0 l ∙ b)
              ∙ ap (λ (ys : Bytes). Option.map (with_end fit) (Option.map end_seen (on_read (read_byte ys) end_after))) c

      pub alt-no-end : EndIn behind.now None → AltIn find below s None
      alt-no-end g = ended ∙ ap (Option.map (with_end fit)) g

      pub alt-whole : (attribute : code.Option (Bor Text)) (after : Bor Bytes) → EndIn behind.now (Some (attribute, after))
          → AltIn find below s (Some (record { matched = fit; attribute = attribute }, after))
      alt-whole attribute after g = ended ∙ ap (Option.map (with_end fit)) g
