-- THE ORDER OF THE LINES makes no difference to the invoice, to a refusal neither: tests on all lines are the same in
-- any order, and where no constraint has two lines the one that it has is the same.
-- Assumes nothing.
use Prim.Native.Nat.{ℕ, zero, suc, ◌+◌, ◌/◌, ◌%◌}
use native.Mathlib.Omega.{arith}
use borrow.Author.Tests.{eqb-true, eq-eqb}
use lib.Dec.{eqb}
use lib.ListN.{length, drop, get_or, length-append, get_or-append}
use lib.Seq.{drop_at}
use mathlib.Core.Path.{◌≡◌, refl, ap, ap₂, sym, ◌∙◌, subst}
use mathlib.Core.Bool.{Bool, true, false, cond, ◌&&◌, ◌||◌, not, false≢true}
use mathlib.Core.List.Permᴰ
use mathlib.Core.List.{List, [], ◌∷◌, ◌++◌, map, flatten, append_assoc, Permᴰ}
use mathlib.Core.Option.{Option, none, some}
use Rattle.std.proofs.lemmas.Bool.{or_parts}
use Rattle.lists.specs.Lists.{all, any, All}
use Rattle.lists.proofs.Lists.{or_swap, eqb_comm, or-pairs}
use Rattle.numbers.proofs.RoundTrip.{four-append}
use Rattle.records.specs.Readers.{Bytes}
use Rattle.totals.specs.Totals.{Total, Totals, entry_at, totals_fit}
use Rattle.invoice.specs.Invoice.{Line, line_in, lines_from, lines, lines_in, line_fits, discount_fits, is_for, twice, prices_fit, line_for, charge_by, sum_below, due, discounted, Invoice, refused, cents, billed, invoice}

-- ---- tests

and-swap : (a b c : Bool) → (a && (b && c)) ≡ (b && (a && c))
and-swap true b c = refl
and-swap false true c = refl
and-swap false false c = refl

all_same : {A : Type 0} (test : A → Bool) (xs ys : List A) → Permᴰ xs ys → all test xs ≡ all test ys
all_same test xs ys Permᴰ.nil = refl
all_same test xs ys (Permᴰ.cons {l₁ = us} {l₂ = vs} e r) = ap₂ {C = Bool} ◌&&◌ (ap test e) (all_same test us vs r)
all_same test xs ys (Permᴰ.swap {a = a} {b = b} {l = us} e f) =
    and-swap (test a) (test b) (all test us) ∙ ap₂ (λ x y. test x && (test y && all test us)) f e
all_same test xs ys (Permᴰ.trans {l₂ = us} r q) = all_same test xs us r ∙ all_same test us ys q

any_same : {A : Type 0} (test : A → Bool) (xs ys : List A) → Permᴰ xs ys → any test xs ≡ any test ys
any_same test xs ys Permᴰ.nil = refl
any_same test xs ys (Permᴰ.cons {l₁ = us} {l₂ = vs} e r) = ap₂ {C = Bool} ◌||◌ (ap test e) (any_same test us vs r)
any_same test xs ys (Permᴰ.swap {a = a} {b = b} {l = us} e f) =
    or_swap (test a) (test b) (any test us) ∙ ap₂ (λ x y. test x || (test y || any test us)) f e
any_same test xs ys (Permᴰ.trans {l₂ = us} r q) = any_same test xs us r ∙ any_same test us ys q

-- ---- two lines for one constraint

twice_same : (ls ms : List Line) → Permᴰ ls ms → twice ls ≡ twice ms
unfolding twice
twice_same ls ms Permᴰ.nil = refl
twice_same ls ms (Permᴰ.cons {a = a} {b = b} {l₁ = us} {l₂ = vs} e r) =
    ap (λ (x : Line). any (is_for x.constraint) us || twice us) e
    ∙ ap₂ {C = Bool} ◌||◌ (any_same (is_for b.constraint) us vs r) (twice_same us vs r)
twice_same ls ms (Permᴰ.swap {a = a} {b = b} {l = us} e f) =
    ap (λ (t : Bool). (t || any (is_for a.constraint) us) || (any (is_for b.constraint) us || twice us)) (eqb_comm b.constraint a.constraint)
    ∙ or-pairs (eqb a.constraint b.constraint) (any (is_for a.constraint) us) (any (is_for b.constraint) us) (twice us)
    ∙ ap₂ (λ (x y : Line). (is_for x.constraint y || any (is_for x.constraint) us) || (any (is_for y.constraint) us || twice us)) f e
twice_same ls ms (Permᴰ.trans {l₂ = us} r q) = twice_same ls us r ∙ twice_same us ms q

-- ---- where no constraint has two lines, its line is the same

line-swap : (k : ℕ) (a b : Line) (us : List Line) → is_for a.constraint b ≡ false → line_for k (a ∷ b ∷ us) ≡ line_for k (b ∷ a ∷ us)
unfolding line_for
line-swap k a b us p = by (is_for k a) refl (is_for k b) refl
  where
    by : (s : Bool) → is_for k a ≡ s → (t : Bool) → is_for k b ≡ t → cond s (some a) (cond t (some b) (line_for k us)) ≡ cond t (some b) (cond s (some a) (line_for k us))
    by true e true f = absurd (false≢true (sym p ∙ eq-eqb b.constraint a.constraint (eqb-true b.constraint k f ∙ sym (eqb-true a.constraint k e))))
    by true e false f = refl
    by false e true f = refl
    by false e false f = refl

line_kept : (k : ℕ) (b : Line) (us vs : List Line) → line_for k us ≡ line_for k vs → line_for k (b ∷ us) ≡ line_for k (b ∷ vs)
unfolding line_for
line_kept k b us vs e = ap (cond (is_for k b) (some b)) e

line_same : (k : ℕ) (ls ms : List Line) → Permᴰ ls ms → twice ls ≡ false → line_for k ls ≡ line_for k ms
line_same k ls ms Permᴰ.nil t = refl
line_same k ls ms (Permᴰ.cons {a = a} {b = b} {l₁ = us} {l₂ = vs} e r) t =
    ap (λ (x : Line). line_for k (x ∷ us)) e
    ∙ line_kept k b us vs (line_same k us vs r (or_parts (any (is_for a.constraint) us) (twice us) (unfold twice in t)).1)
line_same k ls ms (Permᴰ.swap {a = a} {b = b} {l = us} e f) t =
    let p = (or_parts (any (is_for a.constraint) (b ∷ us)) (twice (b ∷ us)) (unfold twice in t)).0 in
    line-swap k a b us (or_parts (is_for a.constraint b) (any (is_for a.constraint) us) (p)).0
    ∙ ap₂ (λ (x y : Line). line_for k (x ∷ y ∷ us)) f e
line_same k ls ms (Permᴰ.trans {l₂ = us} r q) t = line_same k ls us r t ∙ line_same k us ms q (sym (twice_same ls us r) ∙ t)

pub sum_same : (n : ℕ) (f g : ℕ → ℕ) → ((k : ℕ) → f k ≡ g k) → sum_below n f ≡ sum_below n g
unfolding sum_below
sum_same zero f g h = refl
sum_same (suc n) f g h = ap₂ {C = ℕ} ◌+◌ (sum_same n f g h) (h n)

lines-free : (counts : ℕ → Total) (n d : ℕ) (ls ms : List Line) → Permᴰ ls ms → billed counts n d (some ls) ≡ billed counts n d (some ms)
unfolding billed prices_fit due
lines-free counts n d ls ms r = rw (← (all_same line_fits ls ms r), ← (twice_same ls ms r)) (by (all line_fits ls) (discount_fits d) (twice ls) refl)
  where
    by : (a b c : Bool) → twice ls ≡ c
        → cond (a && (b && not c)) (cents (discounted d (sum_below n (λ k. charge_by (line_for k ls) (counts k))))) (refused 22)
        ≡ cond (a && (b && not c)) (cents (discounted d (sum_below n (λ k. charge_by (line_for k ms) (counts k))))) (refused 22)
    by true true true e = refl
    by true false c e = refl
    by false b c e = refl
    by true true false e =
        ap (λ (s : ℕ). cents (discounted d s))
        (sum_same n (λ k. charge_by (line_for k ls) (counts k)) (λ k. charge_by (line_for k ms) (counts k)) (λ k. ap (λ (o : Option Line). charge_by o (counts k)) (line_same k ls ms r e)))

-- ---- over the bytes

abbrev Seventeen : Bytes → Type 0
Seventeen l = length l ≡ 17

line-front : (l xs : Bytes) → Seventeen l → line_in (l ++ xs) ≡ line_in l
unfolding line_in
line-front l xs h =
    let a = four-append l xs 1 (omega (arith, h)) in
    let b = four-append l xs 5 (omega (arith, h)) in
    let c = four-append l xs 9 (omega (arith, h)) in
    let d = four-append l xs 13 (omega (arith, h)) in
    rw (get_or-append l xs 0 0 (omega (arith, h)), a, b, c, d)

-- the lines of a list that whole lines stand before
abbrev behind : List Line → Option (List Line) → Option (List Line)
behind ls none = none
behind ls (some ms) = some (ls ++ ms)

lines_more : (l xs : Bytes) → Seventeen l → (n : ℕ) → some (lines_from (suc n) (l ++ xs)) ≡ some (line_in l ∷ lines_from n xs)
unfolding lines_from
lines_more l xs h n = ap₂ (λ (x : Line) (ys : Bytes). some (x ∷ lines_from n ys)) (line-front l xs h) (drop_at l xs 17 h)

none_before : (o : Option (List Line)) → behind [] o ≡ o
none_before none = refl
none_before (some ms) = refl

one-before : (l : Line) (ls : List Line) (o : Option (List Line)) → behind (l ∷ []) (behind ls o) ≡ behind (l ∷ ls) o
one-before l ls none = refl
one-before l ls (some ms) = refl

line_before : (l xs : Bytes) → Seventeen l → lines_in (l ++ xs) ≡ behind (line_in l ∷ []) (lines_in xs)
unfolding lines_in
line_before l xs h =
    let n : length (l ++ xs) ≡ 17 + length xs = length-append l xs ∙ ap (λ (m : ℕ). m + length xs) h in
    let r : length (l ++ xs) % 17 ≡ length xs % 17 = omega (arith, n) in
    let q : length (l ++ xs) / 17 ≡ suc (length xs / 17) = omega (arith, n) in
    rw (r, q) (by (eqb (length xs % 17) 0))
  where
    by : (b : Bool) → cond b (some (lines_from (suc (length xs / 17)) (l ++ xs))) none ≡ behind (line_in l ∷ []) (cond b (some (lines_from (length xs / 17) xs)) none)
    by true = lines_more l xs h (length xs / 17)
    by false = refl

lines-before : (ls : List Bytes) (rest : Bytes) → All Seventeen ls → lines_in (flatten ls ++ rest) ≡ behind (map line_in ls) (lines_in rest)
unfolding flatten
lines-before [] rest a = sym (none_before (lines_in rest))
lines-before (l ∷ ls) rest a =
    ap lines_in (append_assoc l (flatten ls) rest)
    ∙ line_before l (flatten ls ++ rest) a.0
    ∙ ap (behind (line_in l ∷ [])) (lines-before ls rest a.1)
    ∙ one-before (line_in l) (map line_in ls) (lines_in rest)

All-same : (ls ms : List Bytes) → Permᴰ ls ms → All Seventeen ls → All Seventeen ms
All-same ls ms Permᴰ.nil a = tt
All-same ls ms (Permᴰ.cons {l₁ = us} {l₂ = vs} e r) a = (ap length (sym e) ∙ a.0, All-same us vs r a.1)
All-same ls ms (Permᴰ.swap e f) a = (ap length (sym f) ∙ a.1.0, (ap length (sym e) ∙ a.0, a.1.1))
All-same ls ms (Permᴰ.trans {l₂ = us} r q) a = All-same us ms q (All-same ls us r a)

-- ORDER-FREE: lines of 17 bytes in another order, before the same rest, which may end inside a line.
pub order-free : (ns : Totals) (n d : ℕ) (ls ms : List Bytes) (rest : Bytes) → All Seventeen ls → Permᴰ ls ms
    → invoice ns n (flatten ls ++ rest) d ≡ invoice ns n (flatten ms ++ rest) d
unfolding invoice
order-free ns n d ls ms rest a r =
    rw (lines-before ls rest a, lines-before ms rest (All-same ls ms r a))
    (ap (λ (i : Invoice). cond (totals_fit ns) i (refused 10)) (by (lines_in rest)))
  where
    by : (o : Option (List Line)) → billed (entry_at ns) n d (behind (map line_in ls) o) ≡ billed (entry_at ns) n d (behind (map line_in ms) o)
    by none = refl
    by (some us) = lines-free (entry_at ns) n d (map line_in ls ++ us) (map line_in ms ++ us) (Permᴰ.append_right us (Permᴰ.map line_in r))
