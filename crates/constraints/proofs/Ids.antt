-- The walk of an ID, taken apart: what was read one behind the other, and what it left each time. A record that parses as an ID was walked so, and bytes
-- behind it change nothing.
-- Assumes nothing.
use Prim.Native.Nat.{ℕ, zero, suc}
use native.Mathlib.Omega.{arith}
use lib.Dec.{eqb}
use lib.ListN.{length, drop}
use mathlib.Core.Path.{◌≡◌, refl, ap, sym, ◌∙◌, subst}
use mathlib.Core.Bool.{Bool, true, false}
use mathlib.Core.List.{List, [], ◌∷◌, ◌++◌}
use mathlib.Core.Option.{Option, none, some, some-injective, none-ne-some}
use Rattle.texts.specs.Texts.{Text}
use Rattle.records.specs.Readers.{Bytes, Reader, on_read, ◌>>=◌, pass, read_byte, read_text, times, counted, on_whole, up_to}
use Rattle.records.specs.Records.{IdRecord, Rec, ID, NS, ES, EE, FI, read_refer, read_id, read_body, mark_of, Parsed, unparsed, parsed, parse}
use Rattle.records.proofs.Stores.{Stable, bind-stable, pass-stable, byte-stable, text-stable, times-stable}
use Rattle.bindings.proofs.Same.{own_mark, marked-walked}
use Rattle.constraints.specs.Constraints.{id_of}

-- ---- one reader behind another

record Both {A B : Type 0} (p : Reader A) (f : A → Reader B) (xs : Bytes) (b : B) (ys : Bytes) : Type 0 where
  value : A
  rest : Bytes
  first : p xs ≡ some (value, rest)
  second : f value rest ≡ some (b, ys)

both : {A B : Type 0} (p : Reader A) (f : A → Reader B) (xs : Bytes) (b : B) (ys : Bytes) → (p >>= f) xs ≡ some (b, ys) → Both p f xs b ys
unfolding ◌>>=◌ on_read
both {A} p f xs b ys h = by (p xs) refl h
  where
    by : (o : Option (A × Bytes)) → p xs ≡ o → on_read o f ≡ some (b, ys) → Both p f xs b ys
    by none e h = absurd (none-ne-some (b, ys) h)
    by (some q) e h = record { value = q.0; rest = q.1; first = e; second = h }

-- ---- a count, and so many

pub times-whole : {A : Type 0} (p : Reader A) (n : ℕ) (xs : Bytes) (l : List A) (ys : Bytes) → times n p xs ≡ some (l, ys) → (up_to n p xs ≡ l) × (length l ≡ n)
unfolding times up_to on_whole pass
times-whole {A} p zero xs l ys h =
    let q : ◌≡◌ {A = List A × Bytes} ([], xs) (l, ys) = some-injective _ _ h in
    let e : [] ≡ l = ap (λ (w : List A × Bytes). w.0) q in
    (e, sym (ap length e))
times-whole {A} p (suc n) xs l ys h =
    let a = both p (λ x. times n p >>= (λ k. pass (x ∷ k))) xs l ys h in
    let b = both (times n p) (λ k. pass (a.value ∷ k)) a.rest l ys a.second in
    let q : ◌≡◌ {A = List A × Bytes} (a.value ∷ b.value, b.rest) (l, ys) = some-injective _ _ b.second in
    let e : a.value ∷ b.value ≡ l = ap (λ (w : List A × Bytes). w.0) q in
    let ih = times-whole p n a.rest b.value b.rest b.first in
    (ap (λ (o : Option (A × Bytes)). on_whole o (up_to n p)) a.first ∙ ap (λ (k : List A). a.value ∷ k) ih.0 ∙ e, sym (ap length e) ∙ ap suc ih.1)

-- ---- an ID

pub record Read (xs : Bytes) (i : IdRecord) (ys : Bytes) : Type 0 where
  pub behind_kind : Bytes
  pub behind_name : Bytes
  pub behind_flag : Bytes
  pub behind_refer : Bytes
  pub behind_selector : Bytes
  pub behind_count : Bytes
  pub number : ℕ
  pub kind : read_byte xs ≡ some (i.kind, behind_kind)
  pub name : read_text behind_kind ≡ some (i.name, behind_name)
  pub flag : read_byte behind_name ≡ some (i.flag, behind_flag)
  pub refer : read_refer (eqb i.flag 1) behind_flag ≡ some (i.refer, behind_refer)
  pub selector : read_text behind_refer ≡ some (i.selector, behind_selector)
  pub count : read_byte behind_selector ≡ some (number, behind_count)
  pub fields : times number read_text behind_count ≡ some (i.fields, ys)

same_id : (i j : IdRecord) → ID i ≡ ID j → i ≡ j
same_id i j e = cc

-- what the readers gave makes the ID
id-made : (xs x1 x2 x3 x4 x5 x6 zs ys : Bytes) (k : ℕ) (n : Text) (f : ℕ) (r : Option Text) (s : Text) (c : ℕ) (fs : List Text) (i : IdRecord)
    → read_byte xs ≡ some (k, x1) → read_text x1 ≡ some (n, x2) → read_byte x2 ≡ some (f, x3) → read_refer (eqb f 1) x3 ≡ some (r, x4) → read_text x4 ≡ some (s, x5)
    → read_byte x5 ≡ some (c, x6) → times c read_text x6 ≡ some (fs, zs)
    → pass (ID (record { kind = k; name = n; flag = f; refer = r; selector = s; fields = fs })) zs ≡ some (ID i, ys) → Read xs i ys
unfolding pass
id-made xs x1 x2 x3 x4 x5 x6 zs ys k n f r s c fs i a b d e g h l m =
    let made : IdRecord = record { kind = k; name = n; flag = f; refer = r; selector = s; fields = fs } in
    let q : ◌≡◌ {A = Rec × Bytes} (ID made, zs) (ID i, ys) = some-injective _ _ m in
    let o : made ≡ i = same_id made i (ap (λ (w : Rec × Bytes). w.0) q) in
    let u : zs ≡ ys = ap (λ (w : Rec × Bytes). w.1) q in
    subst (λ (j : IdRecord). Read xs j ys) o
    (record {
      behind_kind = x1;
      behind_name = x2;
      behind_flag = x3;
      behind_refer = x4;
      behind_selector = x5;
      behind_count = x6;
      number = c;
      kind = a;
      name = b;
      flag = d;
      refer = e;
      selector = g;
      count = h;
      fields = l ∙ ap (λ (z : Bytes). some (fs, z)) u;
    })

id-read : (xs : Bytes) (i : IdRecord) (ys : Bytes) → read_id xs ≡ some (ID i, ys) → Read xs i ys
unfolding read_id counted
id-read xs i ys h =
    let k = both read_byte _ xs (ID i) ys h in
    let n = both read_text _ k.rest (ID i) ys k.second in
    let f = both read_byte _ n.rest (ID i) ys n.second in
    let r = both (read_refer (eqb f.value 1)) _ f.rest (ID i) ys f.second in
    let s = both read_text _ r.rest (ID i) ys r.second in
    let fs = both (read_byte >>= (λ n. times n read_text)) (λ x. pass (ID (record { kind = k.value; name = n.value; flag = f.value; refer = r.value; selector = s.value; fields = x }))) s.rest (ID i) ys s.second in
    let c = both read_byte (λ n. times n read_text) s.rest fs.value fs.rest fs.first in
    id-made xs k.rest n.rest f.rest r.rest s.rest c.rest fs.rest ys k.value n.value f.value r.value s.value c.value fs.value i
    k.first n.first f.first r.first s.first c.first c.second fs.second

-- ---- of a record that parses

refer-stable : (b : Bool) → Stable (read_refer b)
unfolding read_refer
refer-stable true = bind-stable read_text _ text-stable (λ t. pass-stable (some t))
refer-stable false = pass-stable none

id-stable : Stable read_id
unfolding read_id counted
id-stable =
    bind-stable read_byte _ byte-stable (λ k. bind-stable read_text _ text-stable (λ n. bind-stable read_byte _ byte-stable (λ f.
    bind-stable (read_refer (eqb f 1)) _ (refer-stable (eqb f 1)) (λ r. bind-stable read_text _ text-stable (λ s.
    bind-stable (read_byte >>= (λ n. times n read_text)) _ (bind-stable read_byte _ byte-stable (λ n. times-stable read_text text-stable n)) (λ fs.
    pass-stable (ID (record { kind = k; name = n; flag = f; refer = r; selector = s; fields = fs }))))))))

-- the ID that is said is the one that is parsed
pub said-id : (p : Parsed) (i : IdRecord) → id_of p ≡ some i → p ≡ parsed (ID i)
unfolding id_of
said-id (unparsed c) i h = absurd (none-ne-some i h)
said-id (parsed (ID j)) i h = ap (λ (k : IdRecord). parsed (ID k)) (some-injective _ _ h)
said-id (parsed (NS b)) i h = absurd (none-ne-some i h)
said-id (parsed (ES e)) i h = absurd (none-ne-some i h)
said-id (parsed (EE e)) i h = absurd (none-ne-some i h)
said-id (parsed FI) i h = absurd (none-ne-some i h)

-- THE LAW
pub parsed-read : (f : Bytes) (i : IdRecord) → parse f ≡ parsed (ID i) → (rest : Bytes) → Read (drop 4 (f ++ rest)) i rest
unfolding parse
parsed-read [] i h rest = let z : ◌≡◌ {A = ℕ} 0 1 = cc in absurd (omega arith)
parsed-read (a ∷ []) i h rest = let z : ◌≡◌ {A = ℕ} 0 1 = cc in absurd (omega arith)
parsed-read (a ∷ b ∷ xs) i h rest =
    let w = marked-walked (mark_of a b) xs (ID i) h in
    let e : drop 4 (a ∷ b ∷ (xs ++ rest)) ≡ w.inner ++ rest = ap (λ (l : Bytes). drop 4 (a ∷ b ∷ (l ++ rest))) w.parts in
    let r : read_id w.inner ≡ some (ID i, []) = unfold own_mark read_body in w.walk in
    id-read (drop 4 (a ∷ b ∷ (xs ++ rest))) i rest (ap read_id e ∙ id-stable w.inner rest (ID i) [] r)
