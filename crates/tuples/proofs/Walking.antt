-- One TU passed: what is asked of the store is asked of what stands behind it, or answered by it.
-- Assumes nothing.
use Prim.Native.Nat.{ℕ, suc, ◌+◌, ◌-◌, ◌≤◌, ◌<◌}
use native.Mathlib.Omega.{arith}
use lib.Dec.{leb, ltb}
use lib.ListN.{length, take, drop, get_or, length-drop}
use mathlib.Core.Path.{◌≡◌, refl, ap, sym, ◌∙◌}
use mathlib.Core.Bool.{Bool, true, false, cond, ◌&&◌}
use mathlib.Core.List.{List, [], ◌∷◌}
use mathlib.Core.Option.{Option, none, some, map, some-injective}
use Rattle.std.specs.declared.option.Option as code
use Rattle.std.specs.declared.option.Option.TheVariants.{Some, None}
use Rattle.std.specs.Option as std
use Rattle.std.proofs.lemmas.Bool.{le-leb, lt-leb}
use Rattle.std.proofs.lemmas.List.{take_rest}
use Rattle.lists.specs.Answers.{given}
use Rattle.lists.specs.Lists.{all}
use Rattle.numbers.specs.Numbers.{two, four}
use Rattle.records.specs.Readers.{Bytes, reads, bytes_from}
use Rattle.session_spec.specs.Layout.{TuRecord, read_tu}
use Rattle.output_stores.specs.Stores.{on_list, standing}
use Rattle.output_stores.proofs.Walks.{reads_on, reads-stop, reads_end, reads_first, reads-standing, up_to-count}
use Rattle.output_stores.proofs.Tus.{tu-shortens, tu_in}
use Rattle.session_spec.specs.Definitions.{is_some}
use Rattle.tuples.specs.Tuples.{tuples_fit, counted, within}
use Rattle.tuples.proofs.Behind.{from_on, from-stop, from_end}
use Rattle.tuples.proofs.Reading.{Front, front_of, front, no_front, behind-front}

-- ---- what stands behind a TU

module _ (s r : Bytes) (e : some r ≡ bytes_from 1 read_tu s) where
  pub at_front : Front s
  at_front = front s r e

  pub behind-is : r ≡ drop (4 + two s 2) s
  behind-is = some-injective _ _ (e ∙ behind-front s at_front)

  pub reach : 10 ≤ length s
  reach = at_front.long

  reads-behind : read_tu s ≡ some (tu_in s at_front.keys, r)
  reads-behind = at_front.reads ∙ ap (λ (b : Bytes). some (tu_in s at_front.keys, b)) (sym behind-is)

  -- so many bytes are passed
  pub rest_at : let n = length s - length r in take (length s - n) (drop n s) ≡ r
  rest_at =
      let l = ap length behind-is ∙ length-drop (4 + two s 2) s in
      let n = at_front.fits in
      let k : length s - length r ≡ 4 + two s 2 = omega arith in
      take_rest s (length s - length r) ∙ ap (λ (m : ℕ). drop m s) k ∙ sym behind-is

  pub fewer : length r < length s
  fewer = let l = ap length behind-is ∙ length-drop (4 + two s 2) s in let n = at_front.fits in omega arith

-- the first TU of a store that reads stands at its front, and the others behind it
pub front-first : (s : Bytes) (t : TuRecord) (ts : List TuRecord) → reads read_tu s ≡ some (t ∷ ts)
    → (f : Front s) × (t ≡ tu_in s f.keys) × (reads read_tu (drop (4 + two s 2) s) ≡ some ts)
front-first s t ts h =
    let p = reads_first read_tu tu-shortens s t ts h in
    let f = front_of s t p.0 p.1 in
    let q : ◌≡◌ {A = TuRecord × Bytes} (t, p.0) (tu_in s f.keys, drop (4 + two s 2) s) = some-injective _ _ (sym p.1 ∙ f.reads) in
    (f, ap (λ (u : TuRecord × Bytes). u.0) q, ap (λ (u : TuRecord × Bytes). reads read_tu u.1) (sym q) ∙ p.2)

-- ---- the answers of `count_that`

-- so many more
pub grown : (k : ℕ) → Option ℕ → Option ℕ
grown k none = none
grown k (some n) = some (k + n)

pub none-yet : (o : Option ℕ) → grown 0 o ≡ o
unfolding grown
none-yet none = refl
none-yet (some n) = ap some (omega arith)

module _ (test : (constraint scope : ℕ) → Bool) (s : Bytes) where
  pub counted-end : (k : ℕ) → length s ≤ 0 → grown k (counted test (reads read_tu s)) ≡ some k
  unfolding counted grown
  counted-end k h = rw (reads_end read_tu s h) (ap some (omega arith))

  pub counted-stop : (k : ℕ) → 0 < length s → none ≡ bytes_from 1 read_tu s → grown k (counted test (reads read_tu s)) ≡ none
  unfolding counted grown
  counted-stop k l e = rw (reads-stop read_tu tu-shortens s l (no_front s e))

  module _ (r : Bytes) (e : some r ≡ bytes_from 1 read_tu s) where
    first : TuRecord
    first = tu_in s (at_front s r e).keys

    reads_more : reads read_tu s ≡ map (λ l. first ∷ l) (reads read_tu r)
    unfolding first
    reads_more = reads_on read_tu tu-shortens s _ r (reads-behind s r e)

    pub counted-fails : (k : ℕ) → test (get_or s 4 0) (four s 5) ≡ false → grown k (counted test (reads read_tu s)) ≡ none
    unfolding counted grown first
    counted-fails k f = ap (λ (o : Option (List TuRecord)). grown k (counted test o)) reads_more ∙ by (reads read_tu r)
      where
        by : (o : Option (List TuRecord)) → grown k (counted test (map (λ l. first ∷ l) o)) ≡ none
        by none = refl
        by (some ts) = rw f

    pub counted-on : (k : ℕ) → test (get_or s 4 0) (four s 5) ≡ true
        → grown k (counted test (reads read_tu s)) ≡ grown (k + 1) (counted test (reads read_tu r))
    unfolding counted grown first
    counted-on k f = ap (λ (o : Option (List TuRecord)). grown k (counted test o)) reads_more ∙ by (reads read_tu r)
      where
        each : (b : Bool) (n : ℕ) → grown k (cond b (some (suc n)) none) ≡ grown (k + 1) (cond b (some n) none)
        each true n = ap some (omega arith)
        each false n = refl

        by : (o : Option (List TuRecord)) → grown k (counted test (map (λ l. first ∷ l) o)) ≡ grown (k + 1) (counted test o)
        by none = refl
        by (some ts) = rw f (each (all (λ t. test t.constraint t.scope) ts) (length ts))

-- ---- the most that are counted

pub within-none : (most : ℕ) (o : Option ℕ) → o ≡ none → none ≡ within most o
unfolding within
within-none most o e = rw e

-- a number that is no more than the most stays
pub within-some : (most k : ℕ) (o : Option ℕ) → o ≡ some k → k ≤ most → some k ≡ within most o
unfolding within
within-some most k o e h = rw (e, le-leb k most h)

module _ (test : (constraint scope : ℕ) → Bool) (s r : Bytes) (e : some r ≡ bytes_from 1 read_tu s) where
  -- where one more stands in front, those that are there are too many
  pub within-past : (most k : ℕ) → most ≤ k → none ≡ within most (grown k (counted test (reads read_tu s)))
  unfolding within grown
  within-past most k h = by (test (get_or s 4 0) (four s 5)) refl
    where
      more : (o : Option ℕ) → none ≡ within most (grown (k + 1) o)
      more none = refl
      more (some n) = rw (lt-leb (k + 1 + n) most (omega arith))

      by : (b : Bool) → test (get_or s 4 0) (four s 5) ≡ b → none ≡ within most (grown k (counted test (reads read_tu s)))
      by true f = rw (counted-on test s r e k f) (more (counted test (reads read_tu r)))
      by false f = rw (counted-fails test s r e k f)

-- ---- the answers of `tuples_read` and `all_read`

-- whether there is a number, as code answers it
pub is-given : (r : code.Option ℕ) → std.is_some r ≡ is_some (given r)
unfolding is_some
is-given None = refl
is-given (Some n) = refl

-- what the code asks of their number
pub read-fit : (constraints opened most : ℕ) (o : Option (List TuRecord)) (r : code.Option ℕ)
    → given r ≡ within most (counted (λ c s. ltb c constraints && leb s opened) o) → std.is_some r ≡ on_list o (tuples_fit constraints opened most)
unfolding is_some within counted on_list tuples_fit
read-fit constraints opened most o r e = is-given r ∙ ap is_some e ∙ by o
  where
    each : (b : Bool) (n : ℕ) → is_some (within most (cond b (some n) none)) ≡ (b && leb n most)
    each true n = on (leb n most)
      where
        on : (d : Bool) → is_some (cond d (some n) none) ≡ d
        on true = refl
        on false = refl
    each false n = refl

    by : (o : Option (List TuRecord)) → is_some (within most (counted (λ c s. ltb c constraints && leb s opened) o)) ≡ on_list o (tuples_fit constraints opened most)
    by none = refl
    by (some ts) = each (all (λ t. ltb t.constraint constraints && leb t.scope opened) ts) (length ts)

any-pass : (ts : List TuRecord) → all (λ t. true) ts ≡ true
any-pass [] = refl
any-pass (t ∷ ts) = any-pass ts

-- bytes are no fewer than the TUs that they are
read-few : (s : Bytes) (ts : List TuRecord) → reads read_tu s ≡ some ts → length ts ≤ length s
unfolding standing
read-few s ts e = let n = up_to-count read_tu (length s) s in rw (reads-standing read_tu tu-shortens s ts e) at n

pub all-pass : (most : ℕ) (s : Bytes) → length s ≤ most → is_some (within most (counted (λ c s. true) (reads read_tu s))) ≡ is_some (reads read_tu s)
unfolding within counted is_some
all-pass most s h = by (reads read_tu s) refl
  where
    by : (o : Option (List TuRecord)) → reads read_tu s ≡ o → is_some (within most (counted (λ c s. true) o)) ≡ is_some o
    by none e = refl
    by (some ts) e = let n = read-few s ts e in rw (any-pass ts, le-leb (length ts) most (omega arith))

-- ---- the answers of `bytes_from`: of `count` TUs, `left` are still to be passed in `s`

module _ (used : Bytes) (count : ℕ) (s : Bytes) (left : ℕ) (inv : bytes_from left read_tu s ≡ bytes_from count read_tu used) where
  pub tuples-passed : left ≤ 0 → some s ≡ bytes_from count read_tu used
  tuples-passed h = sym (from_end read_tu left s h) ∙ inv

  module _ (h : 0 < left) where
    pub none_from : none ≡ bytes_from 1 read_tu s → none ≡ bytes_from count read_tu used
    none_from e = sym (from-stop read_tu left s h (no_front s e)) ∙ inv

    pub tuple-passed : (r : Bytes) → some r ≡ bytes_from 1 read_tu s → (next : ℕ) → next ≡ left - 1 → bytes_from next read_tu r ≡ bytes_from count read_tu used
    tuple-passed r e next m = ap (λ (k : ℕ). bytes_from k read_tu r) m ∙ sym (from_on read_tu left s _ r h (reads-behind s r e)) ∙ inv
