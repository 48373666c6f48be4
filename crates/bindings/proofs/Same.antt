-- The binding that a record is, read from its bytes alone, is the one that `parse` gives. What is parsed bears the mark of its record and was walked to its end;
-- only an NS is walked as a binding, and its texts are read the same way.
-- Assumes nothing.
use Prim.Native.Nat.{ℕ, ◌+◌, ◌*◌}
use native.Mathlib.Omega.{arith}
use lib.Dec.{eqb, ltb}
use lib.ListN.{length}
use borrow.Author.Tests.{eqb-true}
use mathlib.Core.Path.{◌≡◌, refl, ap, sym, ◌∙◌}
use mathlib.Core.Bool.{Bool, true, false, cond, ◌&&◌, false≢true}
use mathlib.Core.List.{List, [], ◌∷◌}
use mathlib.Core.Option.{Option, none, some, some-injective, none-ne-some}
use Rattle.std.proofs.lemmas.Bool.{and_parts}
use Rattle.texts.specs.Texts.{Text}
use Rattle.records.specs.Readers.{Bytes, Reader, on_read, ◌>>=◌, pass, require, read_byte, read_two, read_text, counted}
use Rattle.records.specs.Refusals.{Refusal, too_long, misframed, first_of}
use Rattle.records.specs.Records.{NsRecord, Rec, ID, NS, ES, EE, FI, read_refer, read_attribute, read_id, read_ns, read_es, read_ee, Mark, mark_id, mark_ns, mark_es, mark_ee, mark_fi, read_body, mark_of, body_rows, unparsed, parsed, judged, exactly, body, framed, marked, parse}
use Rattle.bindings.specs.Bindings.{as_list, read_binding}
use Rattle.bindings.specs.Own.{is_id}

refused : (c : Refusal) (r : Rec) → unparsed c ≡ parsed r → ⊥
refused c r e = let z : ◌≡◌ {A = ℕ} 0 1 = cc in omega arith

-- ---- a record's own mark

unfoldable pub own_mark : Rec → Mark
own_mark (ID r) = mark_id
own_mark (NS b) = mark_ns
own_mark (ES r) = mark_es
own_mark (EE r) = mark_ee
own_mark FI = mark_fi

-- every record that the reader gives has this mark
abbrev Gives : Mark → Reader Rec → Type 0
Gives m p = (xs : Bytes) (r : Rec) (ys : Bytes) → p xs ≡ some (r, ys) → own_mark r ≡ m

module _ (m : Mark) where
  then-gives : {A : Type 0} (p : Reader A) (f : A → Reader Rec) → ((a : A) → Gives m (f a)) → Gives m (p >>= f)
  unfolding ◌>>=◌ on_read
  then-gives {A} p f g xs r ys h = by (p xs) h
    where
      by : (o : Option (A × Bytes)) → on_read o f ≡ some (r, ys) → own_mark r ≡ m
      by none h = absurd (none-ne-some (r, ys) h)
      by (some q) h = g q.0 q.1 r ys h

  pass-gives : (s : Rec) → own_mark s ≡ m → Gives m (pass s)
  unfolding pass
  pass-gives s e xs r ys h =
      let q : ◌≡◌ {A = Rec × Bytes} (s, xs) (r, ys) = some-injective _ _ h in
      sym (ap (λ (w : Rec × Bytes). own_mark w.0) q) ∙ e

body-gives : (m : Mark) → Gives m (read_body m)
unfolding read_body read_id read_ns read_es read_ee own_mark
body-gives mark_id =
    then-gives mark_id read_byte _
    (λ k. then-gives mark_id read_text _
    (λ n. then-gives mark_id read_byte _
    (λ f. then-gives mark_id (read_refer (eqb f 1)) _
    (λ r. then-gives mark_id read_text _ (λ s. then-gives mark_id (counted read_text) _ (λ fs. pass-gives mark_id _ refl))))))
body-gives mark_ns = then-gives mark_ns read_byte _ (λ t. then-gives mark_ns read_text _ (λ p. then-gives mark_ns read_text _ (λ u. pass-gives mark_ns _ refl)))
body-gives mark_es =
    then-gives mark_es read_text _
    (λ s. then-gives mark_es read_text _
    (λ n. then-gives mark_es (counted read_byte) _ (λ is. then-gives mark_es (counted read_attribute) _ (λ xs. pass-gives mark_es _ refl))))
body-gives mark_ee = then-gives mark_ee read_byte _ (λ b. then-gives mark_ee read_text _ (λ k. pass-gives mark_ee _ refl))
body-gives mark_fi = pass-gives mark_fi FI refl

-- ---- what is parsed was walked to its end

judged-same : (s r : Rec) (o : Option Refusal) → judged s o ≡ parsed r → s ≡ r
unfolding judged
judged-same s r none h = cc
judged-same s r (some c) h = absurd (refused c r h)

exactly-walked : (o : Option (Rec × Bytes)) (r : Rec) → exactly o ≡ parsed r → o ≡ some (r, [])
unfolding exactly
exactly-walked none r h = absurd (refused _ r h)
exactly-walked (some (s, [])) r h = ap (λ (t : Rec). some (t, [])) (judged-same s r (first_of (body_rows s)) h)
exactly-walked (some (s, x ∷ xs)) r h = absurd (refused _ r h)

body-walked : (m : Mark) (n : ℕ) (xs : Bytes) (r : Rec) → body m n xs ≡ parsed r → read_body m xs ≡ some (r, [])
unfolding body
body-walked m n xs r h = by (ltb 16384 n) (eqb (length xs) n) h
  where
    by : (a b : Bool) → cond a (unparsed too_long) (cond b (exactly (read_body m xs)) (unparsed misframed)) ≡ parsed r → read_body m xs ≡ some (r, [])
    by true b h = absurd (refused _ r h)
    by false true h = exactly-walked (read_body m xs) r h
    by false false h = absurd (refused _ r h)

-- behind the mark stand the two bytes of the length and the body
pub record Walked (o : Option Mark) (xs : Bytes) (r : Rec) : Type 0 where
  pub low : ℕ
  pub high : ℕ
  pub inner : Bytes
  pub mark : o ≡ some (own_mark r)
  pub parts : xs ≡ low ∷ high ∷ inner
  pub walk : read_body (own_mark r) inner ≡ some (r, [])

framed-walked : (m : Mark) (xs : Bytes) (r : Rec) → framed m xs ≡ parsed r → Walked (some m) xs r
unfolding framed
framed-walked m [] r h = absurd (refused _ r h)
framed-walked m (a ∷ []) r h = absurd (refused _ r h)
framed-walked m (a ∷ b ∷ xs) r h =
    let w : read_body m xs ≡ some (r, []) = body-walked m (a + 256 * b) xs r h in
    let e : own_mark r ≡ m = body-gives m xs r [] w in
    record { low = a; high = b; inner = xs; mark = ap some (sym e); parts = refl; walk = ap (λ (n : Mark). read_body n xs) e ∙ w }

pub marked-walked : (o : Option Mark) (xs : Bytes) (r : Rec) → marked o xs ≡ parsed r → Walked o xs r
unfolding marked
marked-walked none xs r h = absurd (refused _ r h)
marked-walked (some m) xs r h = framed-walked m xs r h

-- ---- the two bytes of a mark

-- two tests on one byte against two numbers do not both hold
apart : (a k n : ℕ) (b c : Bool) → (k ≡ n → ⊥) → (eqb a k && b) ≡ true → (eqb a n && c) ≡ false
apart a k n b c d h = by (eqb a n) refl
  where
    by : (t : Bool) → eqb a n ≡ t → (t && c) ≡ false
    by true e = absurd (d (sym (eqb-true a k (and_parts (eqb a k) b h).0) ∙ eqb-true a n e))
    by false e = refl

abbrev pub is_mark_id : Mark → Bool
is_mark_id mark_id = true
is_mark_id mark_ns = false
is_mark_id mark_es = false
is_mark_id mark_ee = false
is_mark_id mark_fi = false

abbrev pub is_mark_ns : Mark → Bool
is_mark_ns mark_id = false
is_mark_ns mark_ns = true
is_mark_ns mark_es = false
is_mark_ns mark_ee = false
is_mark_ns mark_fi = false

module _ (a b : ℕ) (m : Mark) where
  mark-is : mark_of a b ≡ some m → ((eqb a 73 && eqb b 68) ≡ is_mark_id m) × ((eqb a 78 && eqb b 83) ≡ is_mark_ns m)
  unfolding mark_of
  mark-is h = by (eqb a 73 && eqb b 68) refl (eqb a 78 && eqb b 83) refl (eqb a 69 && eqb b 83) (eqb a 69 && eqb b 69) (eqb a 70 && eqb b 73) h
    where
      by : (i : Bool) → (eqb a 73 && eqb b 68) ≡ i → (n : Bool) → (eqb a 78 && eqb b 83) ≡ n → (s e f : Bool)
          → cond i (some mark_id) (cond n (some mark_ns) (cond s (some mark_es) (cond e (some mark_ee) (cond f (some mark_fi) none)))) ≡ some m
          → (i ≡ is_mark_id m) × (n ≡ is_mark_ns m)
      by true p n q s e f h =
          let k : mark_id ≡ m = cc in
          let o : n ≡ false = sym q ∙ apart a 73 78 (eqb b 68) (eqb b 83) (λ z. omega arith) p in
          (ap is_mark_id k, o ∙ ap is_mark_ns k)
      by false p true q s e f h = let k : mark_ns ≡ m = cc in (ap is_mark_id k, ap is_mark_ns k)
      by false p false q true e f h = let k : mark_es ≡ m = cc in (ap is_mark_id k, ap is_mark_ns k)
      by false p false q false true f h = let k : mark_ee ≡ m = cc in (ap is_mark_id k, ap is_mark_ns k)
      by false p false q false false true h = let k : mark_fi ≡ m = cc in (ap is_mark_id k, ap is_mark_ns k)
      by false p false q false false false h = absurd (none-ne-some m h)

-- ---- the walk of an NS, with and without its mark

-- the binding that a record is
unfoldable pub binding_of : Rec → List NsRecord
binding_of (ID r) = []
binding_of (NS b) = b ∷ []
binding_of (ES r) = []
binding_of (EE r) = []
binding_of FI = []

module _ (t : ℕ) (r : Rec) (ys : Bytes) where
  abbrev as_record : (p u : Text) → NsRecord
  as_record p u = record { target = t; prefix = p; uri = u }

  uri-walked : (p : Text) (o : Option (Text × Bytes)) → on_read o (λ u. pass (NS (as_record p u))) ≡ some (r, ys)
      → as_list (on_read o (λ u. pass (as_record p u))) ≡ binding_of r
  unfolding on_read pass as_list binding_of
  uri-walked p none h = absurd (none-ne-some (r, ys) h)
  uri-walked p (some u) h =
      let q : ◌≡◌ {A = Rec × Bytes} (NS (as_record p u.0), u.1) (r, ys) = some-injective _ _ h in
      ap (λ (w : Rec × Bytes). binding_of w.0) q

  texts-walked : (o : Option (Text × Bytes)) → on_read o (λ p. read_text >>= (λ u. pass (NS (as_record p u)))) ≡ some (r, ys)
      → as_list (on_read o (λ p. read_text >>= (λ u. pass (as_record p u)))) ≡ binding_of r
  unfolding on_read ◌>>=◌
  texts-walked none h = absurd (none-ne-some (r, ys) h)
  texts-walked (some p) h = uri-walked p.0 (read_text p.1) h

ns-walked : (a b c d : ℕ) (xs : Bytes) (r : Rec) (ys : Bytes) → (eqb a 78 && eqb b 83) ≡ true → read_ns xs ≡ some (r, ys)
    → as_list (read_binding (a ∷ b ∷ c ∷ d ∷ xs)) ≡ binding_of r
unfolding read_ns read_binding require read_two read_byte ◌>>=◌ on_read pass
ns-walked a b c d [] r ys e h = absurd (none-ne-some (r, ys) h)
ns-walked a b c d (t ∷ xs) r ys e h = rw e (texts-walked t r ys (read_text xs) h)

-- ---- THE LAW

-- a record of another mark is walked as no binding
other-mark : (a b : ℕ) (xs : Bytes) → (eqb a 78 && eqb b 83) ≡ false → as_list (read_binding (a ∷ b ∷ xs)) ≡ []
unfolding read_binding read_byte require ◌>>=◌ on_read as_list
other-mark a b xs e = rw e

marked-binding : (a b : ℕ) (xs : Bytes) (r : Rec) → Walked (mark_of a b) xs r → as_list (read_binding (a ∷ b ∷ xs)) ≡ binding_of r
unfolding own_mark binding_of read_body
marked-binding a b xs (ID i) w = other-mark a b xs (mark-is a b mark_id w.mark).1
marked-binding a b xs (NS n) w =
    rw w.parts (ns-walked a b w.low w.high w.inner (NS n) [] (mark-is a b mark_ns w.mark).1 w.walk)
marked-binding a b xs (ES e) w = other-mark a b xs (mark-is a b mark_es w.mark).1
marked-binding a b xs (EE e) w = other-mark a b xs (mark-is a b mark_ee w.mark).1
marked-binding a b xs FI w = other-mark a b xs (mark-is a b mark_fi w.mark).1

pub parsed-binding : (f : Bytes) (r : Rec) → parse f ≡ parsed r → as_list (read_binding f) ≡ binding_of r
unfolding parse
parsed-binding [] r h = absurd (refused _ r h)
parsed-binding (a ∷ []) r h = absurd (refused _ r h)
parsed-binding (a ∷ b ∷ xs) r h = marked-binding a b xs r (marked-walked (mark_of a b) xs r h)

-- of an NS, and of any other
pub ns-binding : (f : Bytes) (b : NsRecord) → parse f ≡ parsed (NS b) → as_list (read_binding f) ≡ b ∷ []
unfolding binding_of
ns-binding f b h = parsed-binding f (NS b) h

pub other-binding : (f : Bytes) (r : Rec) → parse f ≡ parsed r → ((b : NsRecord) → r ≡ NS b → ⊥) → as_list (read_binding f) ≡ []
other-binding f r h n = parsed-binding f r h ∙ by r n
  where
    by : (s : Rec) → ((b : NsRecord) → s ≡ NS b → ⊥) → binding_of s ≡ []
    by (ID i) n = unfold binding_of in refl
    by (NS b) n = absurd (n b refl)
    by (ES e) n = unfold binding_of in refl
    by (EE e) n = unfold binding_of in refl
    by FI n = unfold binding_of in refl

-- ---- the mark of an ID

pub parsed-id : (f : Bytes) (r : Rec) → parse f ≡ parsed r → is_id f ≡ is_mark_id (own_mark r)
unfolding parse is_id
parsed-id [] r h = absurd (refused _ r h)
parsed-id (a ∷ []) r h = absurd (refused _ r h)
parsed-id (a ∷ b ∷ xs) r h = (mark-is a b (own_mark r) (marked-walked (mark_of a b) xs r h).mark).0

-- which binds nothing
pub id-binding : (f : Bytes) → is_id f ≡ true → as_list (read_binding f) ≡ []
unfolding is_id
id-binding [] h = absurd (false≢true h)
id-binding (a ∷ []) h = absurd (false≢true (and_parts (eqb a 73) false h).1)
id-binding (a ∷ b ∷ xs) h = other-mark a b xs (apart a 73 78 (eqb b 68) (eqb b 83) (λ z. omega arith) h)
