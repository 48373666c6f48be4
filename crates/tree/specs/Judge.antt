-- What the happenings of a document come to: tuples and reports, kind by kind.
-- Assumes nothing.
use Rattle.std.specs.Prelude.{ℕ, zero, suc, eqb, Bool, true, false, cond, ◌&&◌, not, List, [], ◌∷◌, ◌++◌}
use Rattle.std.proofs.Math.Option.{Option, none, some, map}
use Rattle.lists.specs.Lists.{any, only_if, foldl}
use Rattle.texts.specs.Texts.{Text, same, same_all}
use Rattle.tree.specs.Events.{Kind, unique, key, keyref, Constraint, Scope}
use Rattle.tree.specs.Cells.{Cell, Unset, Set, SetNillable, NotSimple, Multiple}
use Rattle.tree.specs.Tree.{Item, failed, finished}

-- A complete tuple that is kept (TU), and a report (RP). An unused number is 0.
pub record Tuple : Type 0 where
  pub constraint : Constraint
  pub scope : ℕ
  pub keys : List Text

pub record Report : Type 0 where
  pub kind : ℕ
  pub constraint : ℕ
  pub field : ℕ
  pub scope : ℕ
  pub event : ℕ
  pub tuple : ℕ

-- What has been put out; `told` are the constraint names that kind 6 was reported for.
pub record Out : Type 0 where
  pub tuples : List Tuple
  pub reports : List Report
  pub told : List Text

abbrev pub blank : Out
blank = record { tuples = []; reports = []; told = [] }

-- ---- a selection's outcome

unfoldable pub is_multiple : Cell → Bool
is_multiple Unset = false
is_multiple (Set k) = false
is_multiple (SetNillable k) = false
is_multiple NotSimple = false
is_multiple Multiple = true

unfoldable pub is_not_simple : Cell → Bool
is_not_simple Unset = false
is_not_simple (Set k) = false
is_not_simple (SetNillable k) = false
is_not_simple NotSimple = true
is_not_simple Multiple = false

-- the lowest field that is Unset
unfoldable pub first_unset : List Cell → Option ℕ
first_unset [] = none
first_unset (Unset ∷ cs) = some zero
first_unset (Set k ∷ cs) = map suc (first_unset cs)
first_unset (SetNillable k ∷ cs) = map suc (first_unset cs)
first_unset (NotSimple ∷ cs) = map suc (first_unset cs)
first_unset (Multiple ∷ cs) = map suc (first_unset cs)

-- the lowest field that is Set on an element declared nillable
unfoldable pub first_nillable : List Cell → Option ℕ
first_nillable [] = none
first_nillable (Unset ∷ cs) = map suc (first_nillable cs)
first_nillable (Set k ∷ cs) = map suc (first_nillable cs)
first_nillable (SetNillable k ∷ cs) = some zero
first_nillable (NotSimple ∷ cs) = map suc (first_nillable cs)
first_nillable (Multiple ∷ cs) = map suc (first_nillable cs)

-- the key texts in field order
unfoldable pub keys_of : List Cell → List Text
keys_of [] = []
keys_of (Unset ∷ cs) = keys_of cs
keys_of (Set k ∷ cs) = k ∷ keys_of cs
keys_of (SetNillable k ∷ cs) = k ∷ keys_of cs
keys_of (NotSimple ∷ cs) = keys_of cs
keys_of (Multiple ∷ cs) = keys_of cs

pub data Outcome : Type 0 where
  several_nodes : Outcome
  no_simple_value : Outcome
  missing : ℕ → Outcome
  on_nillable : ℕ → List Text → Outcome
  complete : List Text → Outcome

-- every field is Set, on elements that are not nillable, or this is the lowest that is on one
unfoldable pub set_or : Option ℕ → List Text → Outcome
set_or none ks = complete ks
set_or (some i) ks = on_nillable i ks

unfoldable pub missing_or : Option ℕ → Outcome → Outcome
missing_or none o = o
missing_or (some i) o = missing i

-- Any Multiple; else any NotSimple; else any Unset, with the lowest such field; else every field is Set, and then any on an
-- element declared nillable, with the lowest such field.
unfoldable pub outcome : List Cell → Outcome
outcome cs =
    cond (any is_multiple cs) several_nodes
    (cond (any is_not_simple cs) no_simple_value (missing_or (first_unset cs) (set_or (first_nillable cs) (keys_of cs))))

-- ---- a finished selection

unfoldable pub report : Report → Out → Out
report r o = record { tuples = o.tuples; reports = o.reports ++ (r ∷ []); told = o.told }

unfoldable pub keep : Tuple → Out → Out
keep t o = record { tuples = o.tuples ++ (t ∷ []); reports = o.reports; told = o.told }

-- a report against a scope: kind, field index and tuple number
unfoldable pub against : (event : ℕ) → Scope → (kind field tuple : ℕ) → Report
against e s k f t = record { kind = k; constraint = s.constraint.number; field = f; scope = s.number; event = e; tuple = t }

unfoldable pub tuple_of : Scope → List Text → Tuple
tuple_of s ks = record { constraint = s.constraint; scope = s.number; keys = ks }

-- a tuple of this scope with these texts
unfoldable pub is_tuple : ℕ → List Text → Tuple → Bool
is_tuple s ks t = eqb t.scope s && same_all t.keys ks

-- its number, counting tuples from 1
unfoldable pub place : ℕ → List Text → List Tuple → Option ℕ
place s ks [] = none
place s ks (t ∷ ts) = cond (is_tuple s ks t) (some 1) (map suc (place s ks ts))

-- already in its scope: kind 4 with that tuple's number; else it is kept
unfoldable pub keep_or : Option ℕ → ℕ → Scope → List Text → Out → Out
keep_or none e s ks o = keep (tuple_of s ks) o
keep_or (some t) e s ks o = report (against e s 4 0 t) o

unfoldable pub present : Option Text → Bool
present none = false
present (some t) = true

-- a keyref's is kept if refer is present, repeats included
unfoldable pub completed : Kind → ℕ → Scope → List Text → Out → Out
completed unique e s ks o = keep_or (place s.number ks o.tuples) e s ks o
completed key e s ks o = keep_or (place s.number ks o.tuples) e s ks o
completed keyref e s ks o = cond (present s.constraint.refer) (keep (tuple_of s ks) o) o

-- kind 3 for key only; unique and keyref drop it
unfoldable pub missed : Kind → ℕ → Scope → ℕ → Out → Out
missed unique e s i o = o
missed key e s i o = report (against e s 3 i 0) o
missed keyref e s i o = o

-- kind 7 for key only, and no tuple of it; for unique and keyref it is as any other
unfoldable pub nillable_key : Kind → ℕ → Scope → ℕ → List Text → Out → Out
nillable_key unique e s i ks o = completed unique e s ks o
nillable_key key e s i ks o = report (against e s 7 i 0) o
nillable_key keyref e s i ks o = completed keyref e s ks o

unfoldable pub settle : Kind → Outcome → ℕ → Scope → Out → Out
settle k several_nodes e s o = report (against e s 1 0 0) o
settle k no_simple_value e s o = report (against e s 2 0 0) o
settle k (missing i) e s o = missed k e s i o
settle k (on_nillable i ks) e s o = nillable_key k e s i ks o
settle k (complete ks) e s o = completed k e s ks o

-- ---- a constraint that does not read: kind 6, once per constraint name

unfoldable pub kind_six : (event constraint : ℕ) → Report
kind_six e c = record { kind = 6; constraint = c; field = 0; scope = 0; event = e; tuple = 0 }

unfoldable pub tell : (event constraint : ℕ) → Text → Out → Out
tell e c t o =
    cond (any (same t) o.told) o
    (record { tuples = o.tuples; reports = o.reports ++ (kind_six e c ∷ []); told = o.told ++ (t ∷ []) })

-- ---- the happenings one after another

unfoldable pub judge : Out → Item → Out
judge o (failed e c t) = tell e c t o
judge o (finished e s cs) = settle s.constraint.kind (outcome cs) e s o

unfoldable pub judge_all : Out → List Item → Out
judge_all o is = foldl judge o is

-- ---- FI: keyrefs

unfoldable pub is_keyref : Kind → Bool
is_keyref unique = false
is_keyref key = false
is_keyref keyref = true

unfoldable pub named : Option Text → Text → Bool
named none x = false
named (some r) x = same r x

-- `u` answers the keyref tuple `t`: of a unique or key constraint named by refer, with the same texts
unfoldable pub answers : Tuple → Tuple → Bool
answers t u = not (is_keyref u.constraint.kind) && (named t.constraint.refer u.constraint.name && same_all u.keys t.keys)

-- kind 5 with the keyref tuple's own number i, constraint and scope
unfoldable pub kind_five : (event : ℕ) → ℕ → Tuple → Report
kind_five e i t = record { kind = 5; constraint = t.constraint.number; field = 0; scope = t.scope; event = e; tuple = i }

-- exactly if no tuple of the document answers it
unfoldable pub unanswered : (event : ℕ) → List Tuple → ℕ → Tuple → List Report
unanswered e every i t = only_if (is_keyref t.constraint.kind && not (any (answers t) every)) (kind_five e i t ∷ [])

-- kind 5 for the keyref tuples in order; `i` tuples stand before them
unfoldable pub kind_fives : (event : ℕ) → List Tuple → ℕ → List Tuple → List Report
kind_fives e every i [] = []
kind_fives e every i (t ∷ ts) = unanswered e every (suc i) t ++ kind_fives e every (suc i) ts

unfoldable pub finish_out : (event : ℕ) → Out → Out
finish_out e o = record { tuples = o.tuples; reports = o.reports ++ kind_fives e o.tuples 0 o.tuples; told = o.told }
