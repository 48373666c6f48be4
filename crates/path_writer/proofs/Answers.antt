-- What is refused before anything is written, in the order of the tests; and the writer's promise by what it met.
-- Assumes nothing.
use Prim.Native.Nat.{ℕ, ◌+◌, ◌≤◌, ◌<◌}
use native.Mathlib.Omega.{arith}
use lib.Dec.{eqb, ltb}
use lib.ListN.{length, take, drop}
use lib.Seq.{take-append_seam}
use borrow.Author.Tests.{lt-ltb, le-ltb, ltb-false, le-leb, lt-leb}
use mathlib.Core.Path.{◌≡◌, refl, ap, sym, ◌∙◌, subst}
use mathlib.Core.Bool.{Bool, true, false, cond, not, false≢true}
use mathlib.Core.List.{List}
use mathlib.Core.Option.{Option, none, some}
use Rattle.std.proofs.lemmas.Bool.{or_parts}
use Rattle.lists.specs.Lists.{over, put}
use Rattle.lists.proofs.Writes.{put-fits}
use Rattle.texts.specs.Texts.{Text}
use Rattle.utf8.specs.Utf8.{utf8}
use Rattle.paths.specs.Reading.{WrittenAlt, without_space, read_path}
use Rattle.records.specs.Readers.{Bytes}
use Rattle.records.specs.Records.{long_path}
use Rattle.session_spec.specs.Definitions.{is_some}
use Rattle.record_places.specs.Checks.{over_field}
use Rattle.canonical.specs.Respelling.{respelled}
use Rattle.canonical.specs.Writing as writing
use Rattle.canonical.specs.Writing.{text, refused, path_over, placed, spelled_of, spelled}
use Rattle.canonical.proofs.Respelling.{respelled-is}
use Rattle.path_reader.specs.Parsing.{roomy, bare_text, Strips}
use Rattle.path_reader.proofs.Short.{bare-short}
use Rattle.path_area.specs.Scratch.{ReadsInto}
use Rattle.std.specs.declared.result.Result.TheVariants.{Ok, Err}
use Rattle.path_writer.specs.declared.SpellRefusal.{SpellRefusal}
use Rattle.path_writer.specs.declared.SpellRefusal.TheVariants.{NoUtf8, OtherKind, OverLimit, Unread, NoRoom}
use Rattle.path_writer.specs.Spelling.{number_of, Spells, turned_back, Adds}

-- ---- the number

over-same : (t : Text) → over_field t ≡ path_over t
unfolding path_over
over-same t = refl

module _ (kind : ℕ) (path : Text) where
  pub back-kind : 1 < kind → some OtherKind ≡ turned_back kind path
  unfolding turned_back
  back-kind h = rw (lt-ltb 1 kind h)

  module _ (k : kind ≤ 1) where
    pub back-text : utf8 path ≡ false → some NoUtf8 ≡ turned_back kind path
    unfolding turned_back
    back-text u = rw (le-ltb 1 kind k, u)

    module _ (u : utf8 path ≡ true) where
      pub back-over : over_field path ≡ true → some OverLimit ≡ turned_back kind path
      unfolding turned_back
      back-over o = rw (le-ltb 1 kind k, u, ← over-same path, o)

      module _ (o : over_field path ≡ false) where
        pub back-unread : is_some (read_path (eqb kind 1) path) ≡ false → some Unread ≡ turned_back kind path
        unfolding turned_back
        back-unread r = rw (le-ltb 1 kind k, u, ← over-same path, o, r)

        pub back_none : is_some (read_path (eqb kind 1) path) ≡ true → none ≡ turned_back kind path
        unfolding turned_back
        back_none r = rw (le-ltb 1 kind k, u, ← over-same path, o, r)

-- a path within the limits has at most 255 bytes
pub within-short : (t : Text) → over_field t ≡ false → length t ≤ 255
within-short t e = ltb-false 255 (length t) (or_parts (ltb 255 (length t)) (long_path t) e).0

-- ---- whether it is read

pub taken-by : (field : Bool) (path : Text) (area after : Bytes) (r : Bool) → length path ≤ 255 → ReadsInto field path area r after → 1024 ≤ length area → r ≡ is_some (read_path field path)
taken-by field path area after r h i a = i.answers (unfold roomy in rw (le-leb (length path) 255 h, le-leb 1024 (length area) a))

-- ---- the writer

placed-short : (t : Text) (out : Bytes) → length out < length t → placed t out ≡ (refused 24, out)
unfolding placed
placed-short t out h = rw (lt-leb (length t) (length out) h)

placed-fits : (t : Text) (out : Bytes) → length t ≤ length out → placed t out ≡ (text (length t), over out 0 t)
unfolding placed
placed-fits t out h = rw (le-leb (length t) (length out) h)

-- input that none of these numbers meets
pub record Taken (kind : ℕ) (path : Text) : Type 0 where
  pub text : utf8 path ≡ true
  pub short : length path ≤ 255
  pub spells : (out : Bytes) → spelled kind path out ≡ placed (respelled (without_space path)) out

module _ (kind : ℕ) (path : Text) where
  read-spells : (o : Option (List WrittenAlt)) → read_path (eqb kind 1) path ≡ o → is_some o ≡ true → (out : Bytes) → spelled_of o out ≡ placed (respelled (without_space path)) out
  unfolding is_some spelled_of
  read-spells none e h out = absurd (false≢true h)
  read-spells (some alts) e h out = ap (λ (t : Text). placed t out) (respelled-is (eqb kind 1) path alts e)

  -- the four tests, with what each of them leaves
  back-cases : (P : Option SpellRefusal → Type 0) → (ltb 1 kind ≡ true → P (some OtherKind)) → (ltb 1 kind ≡ false → utf8 path ≡ false → P (some NoUtf8))
      → (ltb 1 kind ≡ false → utf8 path ≡ true → path_over path ≡ true → P (some OverLimit))
      → (ltb 1 kind ≡ false → utf8 path ≡ true → path_over path ≡ false → is_some (read_path (eqb kind 1) path) ≡ false → P (some Unread))
      → (ltb 1 kind ≡ false → utf8 path ≡ true → path_over path ≡ false → is_some (read_path (eqb kind 1) path) ≡ true → P none)
      → P (turned_back kind path)
  unfolding turned_back
  back-cases P a b c d e = first (ltb 1 kind) refl
    where
      fourth : ltb 1 kind ≡ false → utf8 path ≡ true → path_over path ≡ false → (x : Bool) → is_some (read_path (eqb kind 1) path) ≡ x → P (cond x none (some Unread))
      fourth p q r true y = e p q r y
      fourth p q r false y = d p q r y

      third : ltb 1 kind ≡ false → utf8 path ≡ true → (x : Bool) → path_over path ≡ x → P (cond x (some OverLimit) (cond (is_some (read_path (eqb kind 1) path)) none (some Unread)))
      third p q true y = c p q y
      third p q false y = fourth p q y (is_some (read_path (eqb kind 1) path)) refl

      second : ltb 1 kind ≡ false → (x : Bool) → utf8 path ≡ x → P (cond (not x) (some NoUtf8) (cond (path_over path) (some OverLimit) (cond (is_some (read_path (eqb kind 1) path)) none (some Unread))))
      second p true y = third p y (path_over path) refl
      second p false y = b p y

      first : (x : Bool) → ltb 1 kind ≡ x → P (cond x (some OtherKind) (cond (not (utf8 path)) (some NoUtf8) (cond (path_over path) (some OverLimit) (cond (is_some (read_path (eqb kind 1) path)) none (some Unread)))))
      first true y = a y
      first false y = second y (utf8 path) refl

  not-read : (o : Option (List WrittenAlt)) → is_some o ≡ false → (out : Bytes) → spelled_of o out ≡ (refused 23, out)
  unfolding is_some spelled_of
  not-read none h out = refl
  not-read (some alts) h out = absurd (false≢true (sym h))

  abbrev Turned : Option SpellRefusal → Type 0
  Turned o = (e : SpellRefusal) → o ≡ some e → (out : Bytes) → spelled kind path out ≡ (refused (number_of e), out)

  told : (d e : SpellRefusal) → ◌≡◌ {A = Option SpellRefusal} (some d) (some e) → (out : Bytes) → spelled kind path out ≡ (refused (number_of d), out) → spelled kind path out ≡ (refused (number_of e), out)
  told d e q out s = let p : d ≡ e = cc in s ∙ ap (λ (x : SpellRefusal). (refused (number_of x), out)) p

  turned : Turned (turned_back kind path)
  unfolding spelled
  turned =
      back-cases Turned (λ a e q out. told OtherKind e q out (rw a)) (λ a b e q out. told NoUtf8 e q out (rw (a, b))) (λ a b c e q out. told OverLimit e q out (rw (a, b, c)))
      (λ a b c d e q out. told Unread e q out (rw (a, b, c) (not-read (read_path (eqb kind 1) path) d out)))
      (λ a b c d e q out. (cc))

  abbrev Takes : Option SpellRefusal → Type 0
  Takes o = o ≡ none → Taken kind path

  takes : Takes (turned_back kind path)
  takes =
      back-cases Takes (λ a e. (cc)) (λ a b e. (cc)) (λ a b c e. (cc)) (λ a b c d e. (cc))
      (λ a b c d e. record {
        text = b;
        short = within-short path (over-same path ∙ c);
        spells = λ out. (unfold spelled in rw (a, b, c) (read-spells (read_path (eqb kind 1) path) refl d out));
      })

  pub path-taken : none ≡ turned_back kind path → Taken kind path
  path-taken e = takes (sym e)

  pub spells-refused : (e : SpellRefusal) → some e ≡ turned_back kind path → (out : Bytes) → Spells kind path out (Err e) out
  spells-refused e q out =
      let s = turned e (sym q) out in
      record { answers = sym (ap (λ (x : writing.Spelled × Bytes). x.0) s); leaves = sym (ap (λ (x : writing.Spelled × Bytes). x.1) s) }

  module _ (g : Taken kind path) (l m : Bytes) (size : ℕ) (a : Adds l 0 (respelled (without_space path)) size m) (out : Bytes) where
    abbrev t : Text
    t = respelled (without_space path)

    pub text-there : take size m ≡ t
    text-there = a.holds

    pub spells-short : length out < size → Spells kind path out (Err NoRoom) out
    spells-short h =
        let n = a.ends in
        let s : spelled kind path out ≡ (refused 24, out) = g.spells out ∙ placed-short t out (omega arith) in
        record { answers = sym (ap (λ (x : writing.Spelled × Bytes). x.0) s); leaves = sym (ap (λ (x : writing.Spelled × Bytes). x.1) s) }

    pub spells-text : size ≤ length out → (out' : Bytes) → out' ≡ put out 0 (take size m) → Spells kind path out (Ok size) out'
    spells-text h out' q =
        let n : size ≡ length t = omega (arith, a.ends) in
        let s : spelled kind path out ≡ (text (length t), over out 0 t) = g.spells out ∙ placed-fits t out (omega arith) in
        record {
          answers = ap text n ∙ sym (ap (λ (x : writing.Spelled × Bytes). x.0) s);
          leaves = q ∙ ap (put out 0) (text-there) ∙ put-fits out 0 t (omega arith) ∙ sym (ap (λ (x : writing.Spelled × Bytes). x.1) s);
        }

-- ---- the text without white space

module _ (path : Text) (u : utf8 path ≡ true) (h : length path ≤ 255) (bare after : Bytes) (n : ℕ) (s : Strips path bare n after) (b : length bare ≡ 255) where
  stripped : bare_text path (length bare) ≡ without_space path
  unfolding bare_text
  stripped = rw (u, le-leb (length path) (length bare) (omega arith))

  bare-there : take n after ≡ without_space path
  bare-there =
      let t : Text = bare_text path (length bare) in
      ap (λ (k : ℕ). take k after) s.answers ∙ ap (take (length t)) s.leaves ∙ take-append_seam t (drop (0 + length t) bare) ∙ stripped

  pub text-added : (l m : Bytes) (r : ℕ) → Adds l 0 (respelled (take n after)) r m → Adds l 0 (respelled (without_space path)) r m
  text-added l m r a = subst (λ (t : Text). Adds l 0 (respelled t) r m) bare-there a
