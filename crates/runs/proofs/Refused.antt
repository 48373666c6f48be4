-- Refused calls: one changes nothing, and 10 is answered by every call where an area is too short and by no call of a run where they are long enough.
-- By cases on the refusals: none of those because of input or session is 10, and a run's world decodes.
-- Assumes nothing.
use Prim.Native.Nat.{ℕ, ◌+◌, ◌*◌}
use native.Mathlib.Omega.{arith}
use lib.Dec.{eqb, ltb}
use lib.ListN.{length}
use mathlib.Core.Path.{◌≡◌, refl}
use mathlib.Core.Bool.{Bool, true, false, cond}
use mathlib.Core.List.{List, [], ◌∷◌}
use mathlib.Core.Option.{Option, none, some}
use Rattle.records.specs.Readers.{Bytes}
use Rattle.records.specs.Refusals.{Refusal, unfit, too_long, misframed, refusal_number, Row, first_of}
use Rattle.records.specs.Records.{Rec, Mark, read_body, mark_of, body_rows, Parsed, unparsed, parsed, judged, exactly, body, framed, marked, parse}
use Rattle.session_spec.specs.Layout.{ScopeRecord}
use Rattle.session_spec.specs.Session.{World, Session, areas_fit, counts_fit, decode_if, decode, next, rows, refused, reply_number, settled, considered, attempt, step, set_up}
use Rattle.session_spec.specs.Runs.{session_of, run_calls, taken_of, accepted, defining_bytes, definition_bytes}
use Rattle.session_laws.proofs.Holds.{areas-are}
use Rattle.runs.proofs.Calls.{step_is, after_run}
use Rattle.lists.specs.Lists.{All}

-- ---- a refusal changes nothing

settled-keeps : (w : World) (s : Session) (r : Rec) (t : Session) (bs : Bytes) (o : Option Refusal) (c : Refusal) → (settled w s r t bs o).0 ≡ refused c
    → (settled w s r t bs o).1 ≡ w
unfolding settled
settled-keeps w s r t bs none c h = let z : ◌≡◌ {A = ℕ} 0 1 = cc in absurd (omega arith)
settled-keeps w s r t bs (some d) c h = refl

considered-keeps : (w : World) (s : Session) (bs : Bytes) (p : Parsed) (c : Refusal) → (considered w s bs p).0 ≡ refused c → (considered w s bs p).1 ≡ w
unfolding considered
considered-keeps w s bs (unparsed d) c h = refl
considered-keeps w s bs (parsed r) c h = settled-keeps w s r (next s r) bs (first_of (rows w s r (next s r) bs)) c h

attempt-keeps : (w : World) (bs : Bytes) (o : Option Session) (c : Refusal) → (attempt w bs o).0 ≡ refused c → (attempt w bs o).1 ≡ w
unfolding attempt
attempt-keeps w bs none c h = refl
attempt-keeps w bs (some s) c h = considered-keeps w s bs (parse bs) c h

-- A refusal changes nothing: no number, no byte of a store or an area.
pub refused-keeps : (w : World) (bs : Bytes) (c : Refusal) → (step w bs).0 ≡ refused c → (step w bs).1 ≡ w
unfolding step
refused-keeps w bs c h = attempt-keeps w bs (decode w) c h

-- ---- an area too short: every call answers 10

pub short-decode : (w : World) → areas_fit w ≡ false → decode w ≡ none
unfolding decode decode_if counts_fit
short-decode w h = rw h

pub short-step : (w : World) → areas_fit w ≡ false → (x : Bytes) → step w x ≡ (refused unfit, w)
unfolding step attempt
short-step w h x = rw (short-decode w h)

-- so nothing is accepted, nothing defined and nothing changed
pub short-run : (w : World) → areas_fit w ≡ false → (xs : List Bytes) → (run_calls w xs ≡ w) × (accepted w xs ≡ []) × (definition_bytes w xs ≡ [])
unfolding run_calls accepted taken_of definition_bytes defining_bytes
short-run w h [] = (refl, refl, refl)
short-run w h (x ∷ xs) =
    let r = short-run w h xs in
    (rw (short-step w h x) r.0, rw (short-step w h x) r.1, rw (short-step w h x) r.2)

-- ---- no other refusal is 10

abbrev NotTen : Refusal → Type 0
NotTen c = refusal_number c ≡ 10 → ⊥

abbrev RowFit : Row → Type 0
RowFit r = NotTen r.1

abbrev MaybeFit : Option Refusal → Type 0
MaybeFit none = Unit {0}
MaybeFit (some c) = NotTen c

abbrev ParsedFit : Parsed → Type 0
ParsedFit (unparsed c) = NotTen c
ParsedFit (parsed r) = Unit {0}

first-fit : (rs : List Row) → All RowFit rs → MaybeFit (first_of rs)
unfolding first_of
first-fit [] a = tt
first-fit (r ∷ rs) a = by r.0 (first-fit rs a.1)
  where
    by : (b : Bool) → MaybeFit (first_of rs) → MaybeFit (cond b (some r.1) (first_of rs))
    by true h = a.0
    by false h = h

-- ---- the input's refusals

body-rows : (r : Rec) → All RowFit (body_rows r)
unfolding body_rows refusal_number
body-rows r = omega arith

judged-fit : (r : Rec) (o : Option Refusal) → MaybeFit o → ParsedFit (judged r o)
unfolding judged
judged-fit r none h = tt
judged-fit r (some c) h = h

exactly-fit : (o : Option (Rec × Bytes)) → ParsedFit (exactly o)
unfolding exactly refusal_number
exactly-fit none = λ e. omega arith
exactly-fit (some (r, [])) = judged-fit r (first_of (body_rows r)) (first-fit (body_rows r) (body-rows r))
exactly-fit (some (r, x ∷ xs)) = λ e. omega arith

body-fit : (m : Mark) (n : ℕ) (xs : Bytes) → ParsedFit (body m n xs)
unfolding body refusal_number
body-fit m n xs = by (ltb 16384 n) (eqb (length xs) n)
  where
    by : (p q : Bool) → ParsedFit (cond p (unparsed too_long) (cond q (exactly (read_body m xs)) (unparsed misframed)))
    by true q = λ e. omega arith
    by false true = exactly-fit (read_body m xs)
    by false false = λ e. omega arith

framed-fit : (m : Mark) (xs : Bytes) → ParsedFit (framed m xs)
unfolding framed refusal_number
framed-fit m [] = λ e. omega arith
framed-fit m (a ∷ []) = λ e. omega arith
framed-fit m (a ∷ b ∷ xs) = body-fit m (a + 256 * b) xs

marked-fit : (o : Option Mark) (xs : Bytes) → ParsedFit (marked o xs)
unfolding marked refusal_number
marked-fit none xs = λ e. omega arith
marked-fit (some m) xs = framed-fit m xs

parse-fit : (xs : Bytes) → ParsedFit (parse xs)
unfolding parse refusal_number
parse-fit [] = λ e. omega arith
parse-fit (a ∷ []) = λ e. omega arith
parse-fit (a ∷ b ∷ xs) = marked-fit (mark_of a b) xs

-- ---- the session's

rows_fit : (w : World) (s : Session) (r : Rec) (t : Session) (bs : Bytes) → All RowFit (rows w s r t bs)
unfolding rows refusal_number
rows_fit w s r t bs = omega arith

settled-fit : (w : World) (s : Session) (r : Rec) (t : Session) (bs : Bytes) (o : Option Refusal) → MaybeFit o → reply_number (settled w s r t bs o).0 ≡ 10 → ⊥
unfolding settled reply_number
settled-fit w s r t bs none h e = omega arith
settled-fit w s r t bs (some c) h e = h e

considered-fit : (w : World) (s : Session) (bs : Bytes) (p : Parsed) → ParsedFit p → reply_number (considered w s bs p).0 ≡ 10 → ⊥
unfolding considered reply_number
considered-fit w s bs (unparsed c) h e = h e
considered-fit w s bs (parsed r) h e =
    let rs : List Row = rows w s r (next s r) bs in
    settled-fit w s r (next s r) bs (first_of rs) (first-fit rs (rows_fit w s r (next s r) bs)) e

-- ---- the calls of a run

module _ (ds ts rs na : Bytes) (ss : List ScopeRecord) (cs : Bytes) (ps : ℕ) where
  abbrev w : World
  w = set_up ds ts rs na ss cs ps

  -- NO CALL OF A RUN ANSWERS 10, where the areas are long enough.
  pub no-ten : areas_fit w ≡ true → (xs : List Bytes) (x : Bytes) → reply_number (step (run_calls w xs) x).0 ≡ 10 → ⊥
  no-ten a xs x e =
      let v : World = run_calls w xs in
      let q = step_is v (accepted w xs) (after_run ds ts rs na ss cs ps (areas-are w a) xs) x in
      considered-fit v (session_of (accepted w xs)) x (parse x) (parse-fit x) (rw q at e)

  -- WITH AN AREA TOO SHORT every call does.
  pub always-ten : areas_fit w ≡ false → (xs : List Bytes) (x : Bytes) → reply_number (step (run_calls w xs) x).0 ≡ 10
  unfolding reply_number refusal_number
  always-ten a xs x = rw ((short-run w a xs).0, short-step w a x)
