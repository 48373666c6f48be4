-- WHEN ALL PATHS OF A CONSTRAINT PASS the checker with the bindings that the session holds; what is then never told of
-- it; the prefixes of a path; and the constraint with its paths in canonical spelling.
-- Assumes nothing.
use Rattle.std.specs.Prelude.{ℕ, suc, eqb, ◌≡◌, Bool, true, false, not, ◌&&◌}
use mathlib.Core.List.{List, [], ◌∷◌, ◌++◌, map, flat_map}
use Rattle.std.proofs.Math.Option.{Option, none, some}
use Rattle.lists.specs.Lists.{all, any, passing}
use Rattle.texts.specs.Texts.{Text}
use Rattle.checker.specs.Answers.Answer.{Pass}
use Rattle.checker.specs.Answers.{checked}
use Rattle.paths.specs.Reading.{WrittenAlt, read_path}
use Rattle.tree.specs.Events.{Defined, reads, unread}
use Rattle.tree.specs.Judge.{Report}
use Rattle.session_spec.specs.Definitions.{Definition, Definitions, is_some, uri_of}
use Rattle.session_spec.specs.Session.{World}
use Rattle.session_spec.specs.Runs.{stored_reports}
use Rattle.canonical.specs.Canonical.{joined, canonical}

-- ---- a pass with the session's bindings

-- the prefixes that are bound for a path of the constraint: its own (target 1 the selector, 2 + i field i), then the
-- schema-wide ones. `xml` is declared to the checker, and bound in the session, always.
unfoldable pub bound_prefixes : Definitions → Definition → (target : ℕ) → List Text
bound_prefixes d c target = map (λ b. b.prefix) (passing (λ b. eqb b.target target) c.own ++ d.schema)

-- as the checker is handed them: one text, with single spaces between
unfoldable pub declared_for : Definitions → Definition → (target : ℕ) → Text
declared_for d c target = joined 32 (bound_prefixes d c target)

-- each field passes; `n` is the first one's target
abbrev pub FieldsPass : Definitions → Definition → ℕ → List Text → Type 0
FieldsPass d c n [] = Unit {0}
FieldsPass d c n (t ∷ ts) = (checked 1 t (declared_for d c n) ≡ Pass) × FieldsPass d c (suc n) ts

-- ALL PATHS OF A CONSTRAINT PASS
pub record Passes (d : Definitions) (c : Definition) : Type 0 where
  pub selector : checked 0 c.id.selector (declared_for d c 1) ≡ Pass
  pub fields : FieldsPass d c 2 c.id.fields

-- ---- kind 6

-- a stored report of kind 6 bears the number i
unfoldable pub told_six : (i : ℕ) → World → Bool
told_six i w = any (λ r. eqb r.kind 6 && eqb r.constraint i) (stored_reports w)

-- a constraint that opens no scope, for a path of it does not read
abbrev pub Unread : Defined → Type 0
Unread (reads c) = ⊥
Unread (unread t) = Unit {0}

-- of kind 6 a report is only where its constraint does not read
abbrev pub Six : (ℕ → Defined) → Report → Type 0
Six defs r = r.kind ≡ 6 → Unread (defs r.constraint)

-- ---- the prefixes of a path

unfoldable pub given : {A : Type 0} → Option A → List A
given none = []
given (some a) = a ∷ []

-- of its element steps and its attribute test
unfoldable pub alt_prefixes : WrittenAlt → List Text
alt_prefixes a = flat_map (λ t. given t.prefix) (a.steps ++ given a.attr)

unfoldable pub path_prefixes : List WrittenAlt → List Text
path_prefixes alts = flat_map alt_prefixes alts

-- no bound prefix holds a space: so the text that the checker is handed declares these prefixes and no others
unfoldable pub no_spaces : List Text → Bool
no_spaces ts = all (λ t. not (any (λ b. eqb b 32) t)) ts

-- each prefix of the path is looked up with success
unfoldable pub all_found : Definitions → Definition → (target : ℕ) → List WrittenAlt → Bool
all_found d c target alts = all (λ p. is_some (uri_of d c target p)) (path_prefixes alts)

-- ---- in canonical spelling; a path that is not read stays

unfoldable pub spelled_by : Option (List WrittenAlt) → Text → Text
spelled_by none t = t
spelled_by (some alts) t = canonical alts

unfoldable pub canonical_path : (field : Bool) → Text → Text
canonical_path field t = spelled_by (read_path field t) t

unfoldable pub canonically : Definition → Definition
canonically c =
    record {
      id = record {
        kind = c.id.kind;
        name = c.id.name;
        flag = c.id.flag;
        refer = c.id.refer;
        selector = canonical_path false c.id.selector;
        fields = map (canonical_path true) c.id.fields;
      };
      own = c.own;
    }
