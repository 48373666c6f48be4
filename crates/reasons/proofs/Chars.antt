-- Tests, members and characters: every name character goes on with a run, so a run covers each name that begins where it does. By the tables:
-- what XML's names have besides ASCII's letters, digits, '_', '-' and '.' lies beyond ASCII.
-- Assumes nothing.
use native.Mathlib.Omega.{arith}
use Prim.Native.Nat.{ℕ, suc, ◌≤◌}
use lib.Dec.{eqb, leb}
use lib.ListN.{length, drop}
use borrow.Author.Tests.{eqb-true, leb-true, le-leb}
use mathlib.Core.Path.{◌≡◌, refl, ap, ◌∙◌}
use mathlib.Core.Bool.{Bool, true, false, cond, ◌&&◌, ◌||◌}
use mathlib.Core.List.{List, [], ◌∷◌, ◌++◌}
use mathlib.Core.Logic.{◌⊎◌, ⊎_elim}
use Rattle.std.proofs.lemmas.Bool.{and_parts, or_cases, or_left, or_right, false_from_ne_true, both_ways}
use Rattle.lists.specs.Lists.{all, All}
use Rattle.characters.specs.Ranges.{in_ranges}
use Rattle.characters.specs.Names.{start_ranges, more_ranges, name_start, name_char}
use Rattle.ncname.specs.NCName.{nc_name}
use Rattle.grammar.specs.Tokens.{Points, NCName}
use Rattle.grammar.proofs.Words.{never}
use Rattle.reasons.specs.Reasons.{run_start, run_char, run}

-- ---- tests

-- a character at which a test holds is not one at which it fails
pub other-than : (p : ℕ → Bool) (d : ℕ) → p d ≡ false → (c : ℕ) → p c ≡ true → eqb c d ≡ false
other-than p d f c h = false_from_ne_true (eqb c d) (λ e. both_ways (p c) (ap p (eqb-true c d e) ∙ f) h)

-- ---- every member of a list

-- where every member passes a test that gives p
pub all_pass : {A : Type 0} (test : A → Bool) (p : A → Type 0) → ((c : A) → test c ≡ true → p c) → (s : List A) → all test s ≡ true → All p s
all_pass test p f [] h = tt
all_pass test p f (c ∷ s) h =
    let q = and_parts (test c) (all test s) h in (f c q.0, all_pass test p f s q.1)

-- one more member that passes
pub all_snoc : {A : Type 0} (test : A → Bool) (s : List A) (d : A) → all test s ≡ true → test d ≡ true → all test (s ++ (d ∷ [])) ≡ true
all_snoc test [] d h e = rw e
all_snoc test (c ∷ s) d h e =
    let q = and_parts (test c) (all test s) h in rw q.0 (all_snoc test s d q.1 e)

-- ---- name characters go on with a run

-- a table whose lows are beyond ASCII
high : List ℕ → Bool
high [] = true
high (low ∷ []) = true
high (low ∷ up ∷ table) = leb 0x80 low && high table

beyond : (table : List ℕ) (c : ℕ) → high table ≡ true → in_ranges table c ≡ true → leb 0x80 c ≡ true
unfolding high in_ranges
beyond [] c g h = never h
beyond (low ∷ []) c g h = never h
beyond (low ∷ up ∷ table) c g h =
    let k = and_parts (leb 0x80 low) (high table) g in
    ⊎_elim
    (λ i.
    let a = leb-true 0x80 low k.0 in
    let b = leb-true low c (and_parts (leb low c) (leb c up) i).0 in
    le-leb 0x80 c (omega arith))
    (λ i. beyond table c k.1 i)
    (or_cases (leb low c && leb c up) (in_ranges table c) h)

-- three ranges and more, where the more is beyond ASCII
three-or : (b₁ b₂ b₃ b₄ d : Bool) → (b₄ ≡ true → d ≡ true) → (b₁ || (b₂ || (b₃ || b₄))) ≡ true → ((b₁ || (b₂ || (b₃ || false))) || d) ≡ true
three-or true b₂ b₃ b₄ d f h = refl
three-or false true b₃ b₄ d f h = refl
three-or false false true b₄ d f h = refl
three-or false false false b₄ d f h = f h

pub start-runs : (c : ℕ) → name_start c ≡ true → run_start c ≡ true
unfolding name_start start_ranges run_start high in_ranges
start-runs c h =
    three-or (leb 0x41 c && leb c 0x5A) (leb 0x5F c && leb c 0x5F) (leb 0x61 c && leb c 0x7A) _ (leb 0x80 c)
    (beyond (drop 6 start_ranges) c refl)
    h

-- two ranges and more, where the more is beyond ASCII and so starts a run
two-or : (s b₁ b₂ b₃ d : Bool) → (b₃ ≡ true → d ≡ true) → (d ≡ true → s ≡ true) → (b₁ || (b₂ || b₃)) ≡ true → (s || (b₁ || (b₂ || false))) ≡ true
two-or true b₁ b₂ b₃ d f g h = refl
two-or false true b₂ b₃ d f g h = refl
two-or false false true b₃ d f g h = refl
two-or false false false b₃ d f g h = g (f h)

pub char-runs : (c : ℕ) → name_char c ≡ true → run_char c ≡ true
unfolding name_char more_ranges run_char run_start high in_ranges
char-runs c h =
    ⊎_elim
    (λ i. or_left (run_start c) _ (start-runs c i))
    (λ i.
    two-or (run_start c) (leb 0x2D c && leb c 0x2E) (leb 0x30 c && leb c 0x39) _ (leb 0x80 c)
    (beyond (drop 4 more_ranges) c refl)
    (or_right (in_ranges (0x41 ∷ 0x5A ∷ 0x5F ∷ 0x5F ∷ 0x61 ∷ 0x7A ∷ []) c) (leb 0x80 c)) i)
    (or_cases (name_start c) (in_ranges more_ranges c) h)

-- ---- NCName by its first character and the others

pub no_name : {A : Type 0} → NCName [] → A
unfolding nc_name
no_name h = never h

pub name-start : (c : ℕ) (m : Points) → NCName (c ∷ m) → name_start c ≡ true
unfolding nc_name
name-start c m h = (and_parts (name_start c) (all name_char m) h).0

pub name-rest : (c : ℕ) (m : Points) → NCName (c ∷ m) → all name_char m ≡ true
unfolding nc_name
name-rest c m h = (and_parts (name_start c) (all name_char m) h).1

-- with one more name character
pub name-longer : (c : ℕ) (m : Points) (d : ℕ) → NCName (c ∷ m) → name_char d ≡ true → NCName (c ∷ (m ++ (d ∷ [])))
unfolding nc_name
name-longer c m d h e = rw (name-start c m h) (all_snoc name_char m d (name-rest c m h) e)

-- ---- runs

-- a run covers the name characters at its front
pub run-covers : (s r : Points) → all name_char s ≡ true → length s ≤ run (s ++ r)
unfolding run
run-covers [] r h = omega arith
run-covers (c ∷ s) r h =
    let q = and_parts (name_char c) (all name_char s) h in
    rw (char-runs c q.0) (let i = run-covers s r q.1 in omega arith)

-- the text after a run: empty, or with a first character that ends it
abbrev pub Stops : Points → Type 0
Stops [] = Unit {0}
Stops (c ∷ s) = run_char c ≡ false

pub run_is : (s r : Points) → all name_char s ≡ true → Stops r → run (s ++ r) ≡ length s
unfolding run
run_is [] [] h g = refl
run_is [] (c ∷ r) h g = rw g
run_is (c ∷ s) r h g =
    let q = and_parts (name_char c) (all name_char s) h in rw (char-runs c q.0) (ap suc (run_is s r q.1 g))

pub run_fits : (s : Points) → run s ≤ length s
unfolding run
run_fits [] = omega arith
run_fits (c ∷ s) = by (run_char c) (run_fits s)
  where
    by : (b : Bool) → run s ≤ length s → cond b (suc (run s)) 0 ≤ suc (length s)
    by true h = omega arith
    by false h = omega arith
