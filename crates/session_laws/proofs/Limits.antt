-- What the refusals because of the input leave: the limits of a record that parses, and what they mean for a start, an end and a definition.
-- Assumes nothing.
use Prim.Native.Nat.{ℕ, suc, ◌+◌, ◌*◌, ◌≤◌, ◌<◌}
use native.Mathlib.Omega.{arith}
use borrow.Author.Tests.{leb-false, ltb-false}
use lib.Dec.{eqb, leb, ltb}
use lib.ListN.{length}
use mathlib.Core.Path.{◌≡◌, refl, subst}
use mathlib.Core.Bool.{Bool, true, false, cond, ◌||◌, not}
use mathlib.Core.List.{List, [], ◌∷◌, ◌++◌, map}
use mathlib.Core.Option.{Option, none, some}
use Rattle.std.proofs.lemmas.Bool.{or_parts}
use Rattle.lists.specs.Lists.{any, All}
use Rattle.lists.proofs.Folds.{All-append, All-weaken}
use Rattle.lists.proofs.Places.{none_of}
use Rattle.texts.specs.Texts.{Text}
use Rattle.utf8.specs.Utf8.{utf8}
use Rattle.paths.specs.Names.{Attribute, after_colon, name_of}
use Rattle.records.specs.Readers.{Bytes}
use Rattle.records.specs.Refusals.{Refusal, too_long, misframed, not_utf8, bad_byte, over_limit, first_of}
use Rattle.records.specs.Records.{IdRecord, NsRecord, EsRecord, EeRecord, Rec, ID, NS, ES, EE, FI, Mark, read_body, mark_of, attribute_key, texts_of, keys_in, has_bad_byte, long_path, counts_over, over_in, body_rows, unparsed, parsed, judged, exactly, body, framed, marked, parse}
use Rattle.session_spec.specs.Definitions.{Definition, Definitions, bind_last, bind, define, is_undefined}
use Rattle.session_spec.specs.Session.{start_of, end_of}
use Rattle.session_laws.proofs.Tests.{first-none}
use Rattle.session_laws.proofs.Constraints.{DefsFit}
use Rattle.session_laws.proofs.OpenSelections.{AttributeFit}
use Rattle.session_laws.proofs.States.{StartFit}

-- ---- a record that parses meets no refusal of its body

judged-parsed : (q r : Rec) (o : Option Refusal) → judged q o ≡ parsed r → (q ≡ r) × (o ≡ none)
unfolding judged
judged-parsed q r none h = (cc, refl)
judged-parsed q r (some c) h = let z : ◌≡◌ {A = ℕ} 0 1 = cc in absurd (omega arith)

abbrev Within : Rec → Type 0
Within r = first_of (body_rows r) ≡ none

exactly-within : (o : Option (Rec × Bytes)) (r : Rec) → exactly o ≡ parsed r → Within r
unfolding exactly
exactly-within none r h = let z : ◌≡◌ {A = ℕ} 0 1 = cc in absurd (omega arith)
exactly-within (some (q, [])) r h = let p = judged-parsed q r (first_of (body_rows q)) h in subst Within p.0 p.1
exactly-within (some (q, x ∷ xs)) r h = let z : ◌≡◌ {A = ℕ} 0 1 = cc in absurd (omega arith)

body-within : (m : Mark) (n : ℕ) (xs : Bytes) (r : Rec) → body m n xs ≡ parsed r → Within r
unfolding body
body-within m n xs r h = by (ltb 16384 n) (eqb (length xs) n) h
  where
    by : (p q : Bool) → cond p (unparsed too_long) (cond q (exactly (read_body m xs)) (unparsed misframed)) ≡ parsed r → Within r
    by true q h = let z : ◌≡◌ {A = ℕ} 0 1 = cc in absurd (omega arith)
    by false true h = exactly-within (read_body m xs) r h
    by false false h = let z : ◌≡◌ {A = ℕ} 0 1 = cc in absurd (omega arith)

framed-within : (m : Mark) (xs : Bytes) (r : Rec) → framed m xs ≡ parsed r → Within r
unfolding framed
framed-within m [] r h = let z : ◌≡◌ {A = ℕ} 0 1 = cc in absurd (omega arith)
framed-within m (c ∷ []) r h = let z : ◌≡◌ {A = ℕ} 0 1 = cc in absurd (omega arith)
framed-within m (c ∷ d ∷ xs) r h = body-within m (c + 256 * d) xs r h

marked-within : (o : Option Mark) (xs : Bytes) (r : Rec) → marked o xs ≡ parsed r → Within r
unfolding marked
marked-within none xs r h = let z : ◌≡◌ {A = ℕ} 0 1 = cc in absurd (omega arith)
marked-within (some m) xs r h = framed-within m xs r h

pub parsed-within : (xs : Bytes) (r : Rec) → parse xs ≡ parsed r → first_of (body_rows r) ≡ none
unfolding parse
parsed-within [] r h = let z : ◌≡◌ {A = ℕ} 0 1 = cc in absurd (omega arith)
parsed-within (a ∷ []) r h = let z : ◌≡◌ {A = ℕ} 0 1 = cc in absurd (omega arith)
parsed-within (a ∷ b ∷ xs) r h = marked-within (mark_of a b) xs r h

-- ---- the limits of 5

within-over : (r : Rec) → Within r → over_in r ≡ false
unfolding body_rows
within-over r w =
    let p = first-none (any (λ t. not (utf8 t)) (texts_of r ++ keys_in r)) not_utf8 ((has_bad_byte r, bad_byte) ∷ (over_in r, over_limit) ∷ []) w in
    let q = first-none (has_bad_byte r) bad_byte ((over_in r, over_limit) ∷ []) p.1 in
    (first-none (over_in r) over_limit [] q.1).0

none_over : (n : ℕ) (ts : List Text) → any (λ t. ltb n (length t)) ts ≡ false → All (λ (t : Text). length t ≤ n) ts
none_over n ts h =
    All-weaken (λ (t : Text). ltb n (length t) ≡ false) (λ (t : Text). length t ≤ n) (λ t e. ltb-false n (length t) e) ts (none_of (λ t. ltb n (length t)) ts h)

pub record Limited (r : Rec) : Type 0 where
  pub texts : All (λ (t : Text). length t ≤ 255) (texts_of r)
  pub keys : All (λ (t : Text). length t ≤ 126) (keys_in r)
  pub counts : counts_over r ≡ false

pub limited : (xs : Bytes) (r : Rec) → parse xs ≡ parsed r → Limited r
unfolding over_in
limited xs r h =
    let p = or_parts (any (λ t. ltb 255 (length t)) (texts_of r)) (any (λ t. ltb 126 (length t)) (keys_in r) || counts_over r) (within-over r (parsed-within xs r h)) in
    let q = or_parts (any (λ t. ltb 126 (length t)) (keys_in r)) (counts_over r) p.1 in
    record {
      texts = none_over 255 (texts_of r) p.0;
      keys = none_over 126 (keys_in r) q.0;
      counts = q.1;
    }

-- ---- ES

after-length : (t : Text) → length (after_colon t) ≤ length t
unfolding after_colon
after-length [] = omega arith
after-length (c ∷ cs) = by (any (λ d. eqb d 58) cs) (eqb c 58) (after-length cs)
  where
    by : (p q : Bool) → length (after_colon cs) ≤ length cs → length (cond p (after_colon cs) (cond q cs (c ∷ cs))) ≤ suc (length cs)
    by true q h = omega arith
    by false true h = omega arith
    by false false h = omega arith

keys-attributes : (xs : List Attribute) → All (λ (t : Text). length t ≤ 126) (map attribute_key xs) → All AttributeFit xs
unfolding attribute_key
keys-attributes [] a = tt
keys-attributes (x ∷ xs) a = (a.0, keys-attributes xs a.1)

all-defined : (n : ℕ) (is : List ℕ) → any (λ i. leb n i) is ≡ false → All (λ (i : ℕ). i < n) is
all-defined n is h = All-weaken (λ (i : ℕ). leb n i ≡ false) (λ (i : ℕ). i < n) (λ i e. leb-false n i e) is (none_of (λ i. leb n i) is h)

pub start-fit : (d : Definitions) (r : EsRecord) → Limited (ES r) → is_undefined (ES r) d ≡ false → StartFit d (start_of r)
unfolding start_of name_of texts_of keys_in counts_over is_undefined
start-fit d r l h =
    record {
      name = record { space = l.texts.0; local = let q = after-length r.name in omega (arith, l.texts.1.0) };
      numbers = all-defined (length d.ids) r.numbers h;
      eight = ltb-false 8 (length r.numbers) (or_parts (ltb 8 (length r.numbers)) (ltb 32 (length r.attributes)) l.counts).0;
      attributes = keys-attributes r.attributes l.keys;
    }

pub end_short : (r : EeRecord) → Limited (EE r) → length (end_of r).key ≤ 126
unfolding end_of keys_in
end_short r l = l.keys.0

pub read_short : (r : EeRecord) (xs : Bytes) → parse xs ≡ parsed (EE r) → length (end_of r).key ≤ 126
read_short r xs h = end_short r (limited xs (EE r) h)

-- ---- ID and NS

pub id-few : (r : IdRecord) → Limited (ID r) → length r.fields ≤ 4
unfolding counts_over
id-few r l =
    let p = or_parts (ltb 4 (length r.fields) || eqb (length r.fields) 0) (any long_path (r.selector ∷ r.fields)) l.counts in
    ltb-false 4 (length r.fields) (or_parts (ltb 4 (length r.fields)) (eqb (length r.fields) 0) p.0).0

abbrev FewFields : Definition → Type 0
FewFields c = length c.id.fields ≤ 4

last-few : (b : NsRecord) (ds : List Definition) → All FewFields ds → All FewFields (bind_last b ds)
unfolding bind_last
last-few b [] a = tt
last-few b (d ∷ []) a = (a.0, tt)
last-few b (d ∷ e ∷ ds) a = (a.0, last-few b (e ∷ ds) a.1)

bind-few : (t : Bool) (b : NsRecord) (d : Definitions) → DefsFit d → DefsFit (bind t b d)
unfolding bind
bind-few true b d f = record { few = f.few }
bind-few false b d f = record { few = last-few b d.ids f.few }

pub define-fit : (r : Rec) (d : Definitions) → Limited r → DefsFit d → DefsFit (define r d)
unfolding define
define-fit (ID r) d l f = record { few = All-append FewFields d.ids (record { id = r; own = [] } ∷ []) f.few (id-few r l, tt) }
define-fit (NS b) d l f = bind-few (eqb b.target 0) b d f
define-fit (ES r) d l f = f
define-fit (EE r) d l f = f
define-fit FI d l f = f
