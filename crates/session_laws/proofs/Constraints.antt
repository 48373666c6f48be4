-- What holds of the constraints of a session: each is what its number stands for, and has at most four fields.
-- Assumes nothing.
use Prim.Native.Nat.{ℕ, suc, ◌≤◌, ◌<◌}
use native.Mathlib.Omega.{arith}
use lib.ListN.{length, get_elem?, length-map}
use mathlib.Core.Path.{◌≡◌, refl, ap, sym, ◌∙◌}
use mathlib.Core.Bool.{Bool, true, false, cond}
use mathlib.Core.List.{List, [], ◌∷◌}
use mathlib.Core.Option.{Option, none, some}
use Rattle.lists.proofs.Places.{get_elem-some, All-get_elem}
use Rattle.texts.specs.Texts.{Text}
use Rattle.tree.specs.Events.{Constraint, reads, unread}
use Rattle.session_spec.specs.Definitions.{Definition, Definitions, fields_of, or_none, paths_read, constraint_of, defined_of, constraint_from, constraint_at, defined_from, defined_at}
use Rattle.lists.specs.Lists.{All}

-- at most four fields each
pub record DefsFit (d : Definitions) : Type 0 where
  pub few : All (λ (c : Definition). length c.id.fields ≤ 4) d.ids

-- it is what its number stands for
pub record ConstraintFit (d : Definitions) (c : Constraint) : Type 0 where
  pub known : constraint_at d c.number ≡ c
  pub defined : c.number < length d.ids

pub fields-length : (d : Definitions) (c : Definition) (n : ℕ) (ts : List Text) → length (fields_of d c n ts) ≡ length ts
unfolding fields_of
fields-length d c n [] = refl
fields-length d c n (t ∷ ts) = ap suc (fields-length d c (suc n) ts)

few-from : (d : Definitions) (i : ℕ) (o : Option Definition) → get_elem? d.ids i ≡ o → DefsFit d → length (constraint_from d i o).fields ≤ 4
unfolding constraint_from constraint_of
few-from d i none e f = omega arith
few-from d i (some c) e f =
    let h : length c.id.fields ≤ 4 = All-get_elem (λ (x : Definition). length x.id.fields ≤ 4) d.ids i c f.few e in
    rw (length-map (fields_of d c 2 c.id.fields) or_none, fields-length d c 2 c.id.fields) h

pub few-fields : (d : Definitions) (c : Constraint) → DefsFit d → ConstraintFit d c → length c.fields ≤ 4
unfolding constraint_at
few-fields d c f k = rw (← k.known) (few-from d c.number (get_elem? d.ids c.number) refl f)

pub reads-from : (d : Definitions) (i : ℕ) (o : Option Definition) (c : Constraint) → defined_from d i o ≡ reads c → constraint_from d i o ≡ c
unfolding defined_from constraint_from defined_of
reads-from d i none c h = let z : ◌≡◌ {A = ℕ} 0 1 = cc in absurd (omega arith)
reads-from d i (some e) c h = by (paths_read d e) h
  where
    by : (b : Bool) → cond b (reads (constraint_of d i e)) (unread e.id.name) ≡ reads c → constraint_of d i e ≡ c
    by true h = cc
    by false h = let z : ◌≡◌ {A = ℕ} 0 1 = cc in absurd (omega arith)

unread-from : (d : Definitions) (i : ℕ) (o : Option Definition) (t : Text) → defined_from d i o ≡ unread t → (constraint_from d i o).name ≡ t
unfolding defined_from constraint_from defined_of constraint_of
unread-from d i none t h = cc
unread-from d i (some e) t h = by (paths_read d e) h
  where
    by : (b : Bool) → cond b (reads (constraint_of d i e)) (unread e.id.name) ≡ unread t → e.id.name ≡ t
    by true h = let z : ◌≡◌ {A = ℕ} 0 1 = cc in absurd (omega arith)
    by false h = cc

number-from : (d : Definitions) (i : ℕ) (o : Option Definition) (c : Definition) → o ≡ some c → (constraint_from d i o).number ≡ i
unfolding constraint_from constraint_of
number-from d i none c h = let z : ◌≡◌ {A = ℕ} 0 1 = cc in absurd (omega arith)
number-from d i (some e) c h = refl

pub number_at : (d : Definitions) (i : ℕ) → i < length d.ids → (constraint_at d i).number ≡ i
unfolding constraint_at
number_at d i l = let g = get_elem-some d.ids i l in number-from d i (get_elem? d.ids i) g.0 g.1

pub reads_fit : (d : Definitions) (i : ℕ) (c : Constraint) → i < length d.ids → defined_at d i ≡ reads c → ConstraintFit d c
unfolding defined_at constraint_at
reads_fit d i c l h =
    let e : constraint_at d i ≡ c = reads-from d i (get_elem? d.ids i) c h in
    let g = get_elem-some d.ids i l in
    let n : (constraint_at d i).number ≡ i = number-from d i (get_elem? d.ids i) g.0 g.1 in
    let m : c.number ≡ i = ap (λ (x : Constraint). x.number) (sym e) ∙ n in
    record { known = ap (constraint_at d) m ∙ e; defined = rw m l }

pub unread-fit : (d : Definitions) (i : ℕ) (t : Text) → defined_at d i ≡ unread t → (constraint_at d i).name ≡ t
unfolding defined_at constraint_at
unread-fit d i t h = unread-from d i (get_elem? d.ids i) t h
