-- The search along the slots finds whether a record of the class has the texts: a slot that passes stands for one, and each one that answers something stands along its own slots.
-- Assumes nothing.
use Prim.Native.Nat.{ℕ, suc, ◌≤◌, ◌<◌}
use native.Mathlib.Omega.{arith}
use lib.Dec.{eqb, ltb, eqb-suc-suc}
use lib.ListN.{length, drop, get_or}
use borrow.Author.Tests.{eqb-true, eq-eqb, lt-ltb, le-ltb, ltb-true, ltb-false}
use mathlib.Core.Path.{◌≡◌, refl, ap, ap₂, sym, ◌∙◌, subst}
use mathlib.Core.Bool.{Bool, true, false, cond, ◌&&◌, ◌||◌, true≢false}
use mathlib.Core.List.{List, [], ◌∷◌}
use mathlib.Core.Logic.{◌⊎◌, inl, inr}
use Rattle.lists.specs.Lists.{any, All}
use Rattle.lists.proofs.Lists.{bool-ext}
use mathlib.Core.Option.{Option, none, some, some-injective, none-ne-some}
use Rattle.std.proofs.lemmas.Bool.{and_parts, and_from}
use Rattle.std.specs.declared.option.Option as code
use Rattle.std.specs.declared.option.Option.TheVariants.{Some, None}
use Rattle.std.specs.Option as std
use Rattle.lists.specs.Answers.{given}
use Rattle.lists.proofs.Places.{All-of}
use Rattle.texts.specs.Texts.{same}
use Rattle.texts.proofs.Sameness.{same_refl, same-eq}
use Rattle.records.specs.Readers.{Bytes}
use Rattle.hashes.specs.Hashes.{hash_of}
use Rattle.tuple_search.specs.Search.{is_answer, answered_by}
use Rattle.tuple_index.specs.declared.Slot.{Slot}
use Rattle.tuple_index.specs.Index.{is_free, start_of, passes_by, seek, Along}
use Rattle.tuple_index.specs.Covers.{tail_in}
use Rattle.tuple_index.proofs.Found.{All-drop}
use Rattle.answer_index.specs.Answers.{class_given, class_of, is_of, Names, Answer, Matches}

-- ---- some record

-- one that passes, with what all have
pub any-with : (test : Bytes → Bool) (Q : Bytes → Type 0) (P : Type 0) (fs : List Bytes) → All Q fs → ((f : Bytes) → Q f → test f ≡ true → P) → any test fs ≡ true → P
any-with test Q P [] a k e = absurd (true≢false (sym e))
any-with test Q P (f ∷ fs) a k e = by (λ r. any-with test Q P fs a.1 k r) (test f) refl e
  where
    by : (any test fs ≡ true → P) → (b : Bool) → test f ≡ b → (b || any test fs) ≡ true → P
    by d true t r = k f a.0 t
    by d false t r = d r

any-alike : (p q : Bytes → Bool) (fs : List Bytes) → ((f : Bytes) → p f ≡ q f) → any p fs ≡ any q fs
any-alike p q [] h = refl
any-alike p q (f ∷ fs) h = ap₂ (λ (a b : Bool). a || b) (h f) (any-alike p q fs h)

-- what a record has to be, taken apart
pub is-of-parts : (classes : List ℕ) (n : ℕ) (t f : Bytes) → is_of classes n t f ≡ true → (suc (class_of classes f) ≡ n) × (drop 9 f ≡ t)
unfolding is_of
is-of-parts classes n t f e =
    let p = and_parts (eqb (suc (class_of classes f)) n) (same (drop 9 f) t) e in
    (eqb-true (suc (class_of classes f)) n p.0, same-eq (drop 9 f) t p.1)

pub is-of : (classes : List ℕ) (n : ℕ) (t f : Bytes) → suc (class_of classes f) ≡ n → drop 9 f ≡ t → is_of classes n t f ≡ true
unfolding is_of
is-of classes n t f e g =
    and_from (eqb (suc (class_of classes f)) n) (same (drop 9 f) t) (eq-eqb (suc (class_of classes f)) n e) (ap (λ (x : Bytes). same x t) g ∙ same_refl t)

-- ---- a set and its class

-- a class that is given, and one that is not
pub given-some : (c k : ℕ) → some k ≡ class_given c → (k ≡ c) × (c < 255)
given-some c k e = by (ltb c 255) refl e
  where
    by : (b : Bool) → ltb c 255 ≡ b → some k ≡ cond b (some c) none → (k ≡ c) × (c < 255)
    by true l p = (some-injective _ _ p, ltb-true c 255 l)
    by false l p = absurd (none-ne-some k (sym p))

pub given-none : (c : ℕ) → none ≡ class_given c → 255 ≤ c
given-none c e = by (ltb c 255) refl e
  where
    by : (b : Bool) → ltb c 255 ≡ b → none ≡ cond b (some c) none → 255 ≤ c
    by true l p = absurd (none-ne-some c p)
    by false l p = ltb-false c 255 l

-- whether there is an answer, as code tells it
pub one-given : (r : code.Option ℕ) (o : Option ℕ) → given r ≡ o → std.is_some r ≡ true → (n : ℕ) × (some n ≡ o)
one-given None o e i = absurd (true≢false (sym i))
one-given (Some n) o e i = (n, e)

pub none-given : (r : code.Option ℕ) (o : Option ℕ) → given r ≡ o → std.is_some r ≡ false → none ≡ o
none-given None o e i = e
none-given (Some n) o e i = absurd (true≢false i)

-- a slot that is right has a number
pub right-pos : (classes : List ℕ) (fs : List Bytes) (used : Bytes) (s : Slot) → Answer classes fs used s → 0 < s.number
right-pos classes fs used s a =
    any-with (is_of classes s.number (tail_in used 8 s)) (λ g. g ≡ g) (0 < s.number) fs (All-of (λ g. g ≡ g) (λ g. refl) fs)
    (λ g q t. let k = (is-of-parts classes s.number (tail_in used 8 s) g t).0 in omega (arith, k)) a.stands

module _ (classes : List ℕ) (class named : ℕ) (nm : Names classes class named) (texts : Bytes) where
  -- in one set with the class
  pub named-is : class < 255 → (fs : List Bytes) → answered_by named texts fs ≡ any (is_of classes (suc class) texts) fs
  unfolding answered_by is_answer is_of class_of
  named-is l fs =
      any-alike (is_answer named texts) (is_of classes (suc class) texts) fs
      (λ f. ap (λ (b : Bool). b && same (drop 9 f) texts)
      (nm (get_or f 4 0) ∙ ap (λ (b : Bool). b && eqb (get_or classes (get_or f 4 0) 255) class) (lt-ltb class 255 l) ∙ sym (eqb-suc-suc (get_or classes (get_or f 4 0) 255) class)))

  none_of : (fs : List Bytes) → any (λ f. false) fs ≡ false
  none_of [] = refl
  none_of (f ∷ fs) = none_of fs

  -- of no class
  pub none_named : 255 ≤ class → (fs : List Bytes) → false ≡ answered_by named texts fs
  unfolding answered_by is_answer
  none_named e fs =
      sym (any-alike (is_answer named texts) (λ f. false) fs
      (λ f. ap (λ (b : Bool). b && same (drop 9 f) texts)
      (nm (get_or f 4 0) ∙ ap (λ (b : Bool). b && eqb (get_or classes (get_or f 4 0) 255) class) (le-ltb class 255 (omega arith))))
      ∙ none_of fs)

-- ---- the search

module _ (classes : List ℕ) (fs : List Bytes) (used q : Bytes) (class : ℕ) where
  -- a slot that passes has the number and the texts
  passes-parts : (s : Slot) → passes_by (some (suc class)) (tail_in used 8) (hash_of q) q s ≡ true → (s.number ≡ suc class) × (tail_in used 8 s ≡ q)
  passes-parts s e =
      let a = and_parts (eqb s.hash (hash_of q)) _ e in
      let b = and_parts _ (same (tail_in used 8 s) q) a.1 in
      (eqb-true s.number (suc class) b.0, same-eq (tail_in used 8 s) q b.1)

  pub seek-right : (ss : List Slot) → All (λ s. is_free s ≡ false → Answer classes fs used s) ss → 0 < seek (passes_by (some (suc class)) (tail_in used 8) (hash_of q) q) ss
      → any (is_of classes (suc class) q) fs ≡ true
  unfolding seek
  seek-right [] a h = absurd (omega arith)
  seek-right (s ∷ ss) a h = by (λ p. seek-right ss a.1 p) (is_free s) refl h
    where
      Rest : Type 0
      Rest = 0 < seek (passes_by (some (suc class)) (tail_in used 8) (hash_of q) q) ss → any (is_of classes (suc class) q) fs ≡ true

      or : Rest → (t : Bool) → passes_by (some (suc class)) (tail_in used 8) (hash_of q) q s ≡ t → is_free s ≡ false → 0 < cond t s.number (seek (passes_by (some (suc class)) (tail_in used 8) (hash_of q) q) ss)
          → any (is_of classes (suc class) q) fs ≡ true
      or d true e f p =
          let r = a.0 f in
          let k = passes-parts s e in
          ap₂ (λ (n : ℕ) (t : Bytes). any (is_of classes n t) fs) (sym k.0) (sym k.1) ∙ r.stands
      or d false e f p = d p

      by : Rest → (b : Bool) → is_free s ≡ b → 0 < cond b 0 (cond (passes_by (some (suc class)) (tail_in used 8) (hash_of q) q s) s.number (seek (passes_by (some (suc class)) (tail_in used 8) (hash_of q) q) ss))
          → any (is_of classes (suc class) q) fs ≡ true
      by d true e p = absurd (omega arith)
      by d false e p = or d (passes_by (some (suc class)) (tail_in used 8) (hash_of q) q s) refl e p

  pub seek-along : (ss : List Slot) → All (λ s. is_free s ≡ false → Answer classes fs used s) ss → Along (λ s. (s.number ≡ suc class) × (tail_in used 8 s ≡ q)) ss
      → 0 < seek (passes_by (some (suc class)) (tail_in used 8) (hash_of q) q) ss
  unfolding seek
  seek-along [] a l = absurd l
  seek-along (s ∷ ss) a l = rw l.0 (by (λ r. seek-along ss a.1 r) (passes_by (some (suc class)) (tail_in used 8) (hash_of q) q s) refl l.1)
    where
      pass : (s.number ≡ suc class) × (tail_in used 8 s ≡ q) → passes_by (some (suc class)) (tail_in used 8) (hash_of q) q s ≡ true
      pass m =
          and_from (eqb s.hash (hash_of q)) _ (eq-eqb s.hash (hash_of q) ((a.0 l.0).hash ∙ ap hash_of m.1))
          (and_from _ (same (tail_in used 8 s) q) (eq-eqb s.number (suc class) m.0) (ap (λ (t : Bytes). same t q) m.1 ∙ same_refl q))

      by : (Along (λ s. (s.number ≡ suc class) × (tail_in used 8 s ≡ q)) ss → 0 < seek (passes_by (some (suc class)) (tail_in used 8) (hash_of q) q) ss)
          → (t : Bool) → passes_by (some (suc class)) (tail_in used 8) (hash_of q) q s ≡ t
          → ((s.number ≡ suc class) × (tail_in used 8 s ≡ q)) ⊎ Along (λ s. (s.number ≡ suc class) × (tail_in used 8 s ≡ q)) ss
          → 0 < cond t s.number (seek (passes_by (some (suc class)) (tail_in used 8) (hash_of q) q) ss)
      by d true e m = let k = (passes-parts s e).0 in omega (arith, k)
      by d false e (inl m) = absurd (true≢false (sym (pass m) ∙ e))
      by d false e (inr r) = d r

  -- THE LAW: something is found where a record of the class has the texts, and nowhere else
  pub answered-is : (ss : List Slot) → All (λ s. is_free s ≡ false → Answer classes fs used s) ss
      → All (λ f. ltb (class_of classes f) 255 ≡ true → Along (Matches classes used f) (drop (start_of (length ss) (hash_of (drop 9 f))) ss)) fs → class < 255
      → ltb 0 (seek (passes_by (some (suc class)) (tail_in used 8) (hash_of q) q) (drop (start_of (length ss) (hash_of q)) ss)) ≡ any (is_of classes (suc class) q) fs
  answered-is ss so co l =
      let right = All-drop (λ s. is_free s ≡ false → Answer classes fs used s) (start_of (length ss) (hash_of q)) ss so in
      bool-ext _ _
      (λ e. seek-right (drop (start_of (length ss) (hash_of q)) ss) right (ltb-true 0 _ e))
      (λ e. lt-ltb 0 _ (seek-along (drop (start_of (length ss) (hash_of q)) ss) right
      (any-with (is_of classes (suc class) q) (λ f. ltb (class_of classes f) 255 ≡ true → Along (Matches classes used f) (drop (start_of (length ss) (hash_of (drop 9 f))) ss))
      (Along (λ s. (s.number ≡ suc class) × (tail_in used 8 s ≡ q)) (drop (start_of (length ss) (hash_of q)) ss)) fs co (λ f c t. one f c t) e)))
    where
      one : (f : Bytes) → (ltb (class_of classes f) 255 ≡ true → Along (Matches classes used f) (drop (start_of (length ss) (hash_of (drop 9 f))) ss)) → is_of classes (suc class) q f ≡ true
          → Along (λ s. (s.number ≡ suc class) × (tail_in used 8 s ≡ q)) (drop (start_of (length ss) (hash_of q)) ss)
      one f c t =
          let p = is-of-parts classes (suc class) q f t in
          let k : class_of classes f ≡ class = (let z = p.0 in omega arith) in
          subst (λ (n : ℕ). Along (λ s. (s.number ≡ suc n) × (tail_in used 8 s ≡ q)) (drop (start_of (length ss) (hash_of q)) ss)) k
          (subst (λ (x : Bytes). Along (λ s. (s.number ≡ suc (class_of classes f)) × (tail_in used 8 s ≡ x)) (drop (start_of (length ss) (hash_of x)) ss)) p.1
          (c (lt-ltb (class_of classes f) 255 (omega (arith, k, l)))))
