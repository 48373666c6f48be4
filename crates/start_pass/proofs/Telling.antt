-- The walk of `tells`: the reports of the places that are passed by, and those that the rest gives once their names are reported, are those of all.
-- Assumes nothing.
use Prim.Native.Nat.{ℕ, ◌+◌, ◌^◌, ◌≤◌, ◌<◌}
use native.Mathlib.Omega.{arith}
use lib.ListN.{length, take, drop, get_or, drop_of_length-le}
use lib.Seq.{take_all}
use mathlib.Core.Path.{◌≡◌, refl, ap, ap₂, sym, ◌∙◌}
use mathlib.Core.Bool.{Bool, true, false, cond, ◌&&◌, ◌||◌, not}
use mathlib.Core.List.{List, [], ◌∷◌, ◌++◌, map, map-append, append_assoc, append-nil}
use mathlib.Core.Option.{some}
use Rattle.std.proofs.lemmas.List.Folds.{list_any-append}
use Rattle.std.proofs.lemmas.List.{drop_more}
use Rattle.lists.specs.Lists.{any, only_if}
use Rattle.texts.specs.Texts.{Text, same}
use Rattle.paths.specs.Reading.{on_some}
use Rattle.tree.specs.Events.{openings}
use Rattle.tree.specs.Judge.{Report, kind_six}
use Rattle.records.specs.Readers.{Bytes, reads}
use Rattle.session_spec.specs.Definitions.{Definitions, read_definitions, defined_at}
use Rattle.session_spec.specs.Layout.{read_rp}
use Rattle.session_spec.specs.Session.{reports_in, told_by}
use Rattle.output_stores.specs.Stores.{in_mask}
use Rattle.constraint_paths.proofs.Stands.{is_read}
use Rattle.plans.specs.Plans.{six_from}
use Rattle.start_places.specs.StartPass.{marked, Listed, Reading, Tells}
use Rattle.start_places.specs.Turns.{TellsOne, SaidAfter}
use Rattle.start_pass.proofs.Marks.{Grown, grown-none, grown-places, grown-on, marked-on}
use Rattle.start_pass.proofs.Sixes.{six-any, name_at, six-on, any-one}
use Rattle.lists.proofs.Places.{All-get_or}
use Rattle.output_stores.proofs.Masks.{in-none}

-- those of the first j places
abbrev pub told_of : (numbers : List ℕ) → (mask j : ℕ) → List ℕ
told_of numbers mask j = marked mask 0 (take j numbers)

pub record ToldSo (d : Definitions) (numbers : List ℕ) (told : List Text) (mask said j : ℕ) : Type 0 where
  pub names : (c : ℕ) → c < length d.ids → in_mask said c ≡ any (same (name_at d c)) (map (name_at d) (told_of numbers mask j))
  pub sixes : (e : ℕ) → six_from e told (openings (defined_at d) 0 numbers)
      ≡ map (λ i. kind_six e i) (told_of numbers mask j) ++ six_from e (told ++ map (name_at d) (told_of numbers mask j)) (openings (defined_at d) 0 (drop j numbers))

pub record ToldTo (defs numbers : Bytes) (opened : ℕ) (reports : Bytes) (mask said j : ℕ) : Type 0 where
  pub grown : Grown mask j
  pub within : j ≤ length numbers
  pub so_far : (d : Definitions) → read_definitions defs ≡ some d → Listed d numbers → Reading d numbers opened
      → (rs : List Report) → on_some (reads read_rp reports) (reports_in d) ≡ some rs → ToldSo d numbers (told_by d rs) mask said j

-- ---- one place more, of these definitions

module _ (d : Definitions) (numbers : List ℕ) (told : List Text) (mask said j : ℕ) (s : ToldSo d numbers told mask said j) (more : j < length numbers)
    (here : Bool) (mask2 said2 : ℕ) (grows : told_of numbers mask2 (j + 1) ≡ told_of numbers mask j ++ only_if here (get_or numbers j 0 ∷ [])) where
  abbrev it : ℕ
  it = get_or numbers j 0

  abbrev before : List ℕ
  before = told_of numbers mask j

  abbrev now : List ℕ
  now = only_if here (it ∷ [])

  names-on : ((c : ℕ) → c < length d.ids → in_mask said2 c ≡ (in_mask said c || (here && same (name_at d it) (name_at d c))))
      → (c : ℕ) → c < length d.ids → in_mask said2 c ≡ any (same (name_at d c)) (map (name_at d) (told_of numbers mask2 (j + 1)))
  names-on h c l =
      h c l
      ∙ ap₂ ◌||◌ (s.names c l) (sym (any-one d (name_at d c) here it))
      ∙ sym (list_any-append (same (name_at d c)) (map (name_at d) before) (map (name_at d) now))
      ∙ ap (any (same (name_at d c))) (sym (map-append (name_at d) before now))
      ∙ ap (λ (l : List ℕ). any (same (name_at d c)) (map (name_at d) l)) (sym grows)

  sixes-on : here ≡ (not (is_read (defined_at d it)) && not (any (same (name_at d it)) (told ++ map (name_at d) before)))
      → (e : ℕ) → six_from e told (openings (defined_at d) 0 numbers)
      ≡ map (λ i. kind_six e i) (told_of numbers mask2 (j + 1)) ++ six_from e (told ++ map (name_at d) (told_of numbers mask2 (j + 1))) (openings (defined_at d) 0 (drop (j + 1) numbers))
  sixes-on h e =
      let rest : List Text → List Report = λ t. six_from e t (openings (defined_at d) 0 (drop (j + 1) numbers)) in
      s.sixes e
      ∙ ap (λ (l : List ℕ). map (λ i. kind_six e i) before ++ six_from e (told ++ map (name_at d) before) (openings (defined_at d) 0 l)) (drop_more numbers j 0 more)
      ∙ ap (λ (l : List Report). map (λ i. kind_six e i) before ++ l) (six-on d e (told ++ map (name_at d) before) it (drop (j + 1) numbers) here h)
      ∙ sym (append_assoc (map (λ i. kind_six e i) before) (map (λ i. kind_six e i) now) (rest ((told ++ map (name_at d) before) ++ map (name_at d) now)))
      ∙ ap₂ {C = List Report} ◌++◌ (sym (map-append (λ i. kind_six e i) before now))
      (ap rest (append_assoc told (map (name_at d) before) (map (name_at d) now) ∙ ap (λ (l : List Text). told ++ l) (sym (map-append (name_at d) before now))))
      ∙ ap (λ (l : List ℕ). map (λ i. kind_six e i) l ++ six_from e (told ++ map (name_at d) l) (openings (defined_at d) 0 (drop (j + 1) numbers))) (sym grows)

-- ---- the walk

module _ (defs numbers : Bytes) (opened : ℕ) (reports : Bytes) where
  pub told_none : ToldTo defs numbers opened reports 0 0 0
  unfolding marked
  told_none =
      record {
        grown = grown-none;
        within = omega arith;
        so_far = λ d h ks ro rs re.
            record { names = λ c l. in-none c; sixes = λ e. ap (λ (t : List Text). six_from e t (openings (defined_at d) 0 numbers)) (sym (append-nil (told_by d rs))) };
      }

  module _ (mask said j : ℕ) (w : ToldTo defs numbers opened reports mask said j) where
    pub told-all : (length numbers ≤ 32 → length numbers ≤ j) → Tells defs numbers opened reports mask
    told-all stop =
        record {
          says = λ d h ks ro rs re e n.
              let q : length numbers ≤ j = stop ks.few in
              let s = w.so_far d h ks ro rs re in
              six-any (defined_at d) e (told_by d rs) n 0 numbers ∙ s.sixes e ∙ ends d (told_by d rs) e q;
          places = grown-places mask j w.grown numbers w.within;
        }
      where
        ends : (d : Definitions) (told : List Text) (e : ℕ) → length numbers ≤ j
            → map (λ i. kind_six e i) (told_of numbers mask j) ++ six_from e (told ++ map (name_at d) (told_of numbers mask j)) (openings (defined_at d) 0 (drop j numbers))
            ≡ map (λ i. kind_six e i) (marked mask 0 numbers)
        ends d told e q = unfold openings six_from in (rw (take_all j numbers q, drop_of_length-le numbers {i = j} q) (append-nil (map (λ i. kind_six e i) (marked mask 0 numbers))))

    module _ (l : j ≤ 31) (more : j < length numbers) (here : Bool) (o : TellsOne defs (get_or numbers j 0) j opened said reports here) (said2 : ℕ)
        (a : SaidAfter defs (get_or numbers j 0) said here said2) (mask2 : ℕ) (is : mask2 ≡ mask + cond here (2 ^ j) 0) where
      pub told-on : ToldTo defs numbers opened reports mask2 said2 (j + 1)
      told-on =
          record {
            grown = grown-on mask j w.grown l here mask2 is;
            within = omega arith;
            so_far = λ d h ks ro rs re.
                let s = w.so_far d h ks ro rs re in
                let known : get_or numbers j 0 < length d.ids = All-get_or (λ (i : ℕ). i < length d.ids) numbers j 0 ks.known more in
                let grows = marked-on mask j w.grown l here mask2 is numbers 0 more in
                let name : Text = name_at d (get_or numbers j 0) in
                let x : here ≡ (not (is_read (defined_at d (get_or numbers j 0))) && not (any (same name) (told_by d rs ++ map (name_at d) (told_of numbers mask j)))) =
                o.says d h known rs re
                ∙ ap₂ (λ (p q : Bool). not p && not q) (ro j more)
                (ap (λ (p : Bool). p || any (same name) (told_by d rs)) (s.names (get_or numbers j 0) known)
                ∙ either_way (any (same name) (map (name_at d) (told_of numbers mask j))) (any (same name) (told_by d rs))
                ∙ sym (list_any-append (same name) (told_by d rs) (map (name_at d) (told_of numbers mask j)))) in
                record {
                  names = names-on d numbers (told_by d rs) mask said j s more here mask2 said2 grows (a.says d h known);
                  sixes = sixes-on d numbers (told_by d rs) mask said j s more here mask2 said2 grows x;
                };
          }
        where
          either_way : (p q : Bool) → (p || q) ≡ (q || p)
          either_way true true = refl
          either_way true false = refl
          either_way false true = refl
          either_way false false = refl
