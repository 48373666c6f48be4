-- The promise of the reader, by the ways it answers: no room, no UTF-8, or what the alternatives leave of a plain text
-- or of one without its white space; a short path has room. And what is left of a text without white space, so too.
-- Assumes nothing.
use Rattle.std.specs.declared.option.Option as code
use Rattle.std.specs.declared.option.Option.TheVariants.{Some, None}
use Prim.Native.Nat.{ℕ, ◌+◌, ◌≤◌, ◌<◌}
use native.Mathlib.Omega.{arith}
use lib.Dec.{leb}
use lib.ListN.{length, take, drop, length-append}
use lib.Seq.{take-append_seam}
use borrow.Author.Tests.{le-leb, lt-leb}
use mathlib.Core.Path.{◌≡◌, refl, ap, sym, ◌∙◌, subst}
use mathlib.Core.Bool.{Bool, true, false, cond, ◌&&◌}
use mathlib.Core.List.{List, []}
use mathlib.Core.Option.{Option}
use Rattle.lists.specs.Lists.{all, over}
use Rattle.lists.proofs.Places.{over_nothing}
use Rattle.texts.specs.Texts.{Text}
use Rattle.utf8.specs.Utf8.{utf8}
use Rattle.paths.specs.Reading.{WrittenAlt, every, split_at, without_space, read_alt, read_path}
use Rattle.records.specs.Readers.{Bytes}
use Rattle.path_entries.specs.Entries.{put_path}
use Rattle.std.specs.declared.result.Result.TheVariants.{Ok, Err}
use Rattle.std.specs.Option.{ok_or}
use Rattle.std.specs.declared.result.Result.{Result}
use Rattle.path_reader.specs.declared.Unparsed.{Unparsed}
use Rattle.path_reader.specs.declared.Unparsed.TheVariants.{Unread, NoRoom}
use Rattle.path_reader.specs.Parsing.{roomy, bare_text, Parses, Strips}
use Rattle.path_reader.specs.Places.{plain_byte, Wrote}
use Rattle.path_reader.proofs.Writing.{kept_same}
use Rattle.path_reader.proofs.Plain.{plain-reads}

-- what was copied to the front
bare-text : (bare bare' t : Bytes) (n : ℕ) → n ≡ length t → bare' ≡ over bare 0 t → take n bare' ≡ t
bare-text bare bare' t n e q = rw (e, q) (take-append_seam t (drop (0 + length t) bare))

pub room_for : (path : Text) (area : Bytes) → length path ≤ 255 → 1024 ≤ length area → roomy path area ≡ true
unfolding roomy
room_for path area p a = rw (le-leb (length path) 255 p, le-leb 1024 (length area) a)

module _ (field : Bool) (path : Text) (area : Bytes) where
  pub path-long : 255 < length path → Parses field path area (Err NoRoom) area
  unfolding roomy
  path-long h = rw (lt-leb (length path) 255 h) (refl, refl)

  module _ (p : length path ≤ 255) where
    pub area-short : length area < 1024 → Parses field path area (Err NoRoom) area
    unfolding roomy
    area-short h = rw (le-leb (length path) 255 p, lt-leb 1024 (length area) h) (refl, refl)

    module _ (a : 1024 ≤ length area) where
      pub path-answered : (g : code.Option ℕ) (after : Bytes) → Wrote put_path (read_path field path) area 0 g after
          → (r : Result ℕ Unparsed) → r ≡ ok_or g Unread → Parses field path area r after
      path-answered None after w r e = rw (room_for path area p a, e, w.0) (refl, w.1.0, w.1.1)
      path-answered (Some q) after w r e =
          let n : q ≡ length (put_path w.0) = omega (arith, w.2.0) in
          rw (room_for path area p a, e, w.1) (ap Ok n, w.2.1)

  pub plain-parsed : (limit : ℕ) → limit ≤ 0x80 → all (plain_byte limit) path ≡ true → (r : code.Option ℕ) (after : Bytes)
      → Wrote put_path (every (read_alt field) (split_at 124 path)) area 0 r after → Wrote put_path (read_path field path) area 0 r after
  plain-parsed limit l e r after v = subst (λ (o : Option (List WrittenAlt)). Wrote put_path o area 0 r after) (sym (plain-reads limit l field path e)) v

  pub not-utf8 : utf8 path ≡ false → Wrote put_path (read_path field path) area 0 None area
  unfolding read_path
  not-utf8 u = (rw u, kept_same area)

  pub spaced-parsed : utf8 path ≡ true → (bare bare' : Bytes) (n : ℕ) → n ≡ length (without_space path) → bare' ≡ over bare 0 (without_space path)
      → (r : code.Option ℕ) (after : Bytes) → Wrote put_path (every (read_alt field) (split_at 124 (take n bare'))) area 0 r after → Wrote put_path (read_path field path) area 0 r after
  unfolding read_path
  spaced-parsed u bare bare' n e q r after v =
      let k : every (read_alt field) (split_at 124 (take n bare')) ≡ read_path field path = rw (u, bare-text bare bare' (without_space path) n e q) in
      subst (λ (o : Option (List WrittenAlt)). Wrote put_path o area 0 r after) k v

-- ---- white space dropped

module _ (path : Text) (bare : Bytes) where
  strips-nothing : bare_text path (length bare) ≡ [] → Strips path bare 0 bare
  strips-nothing e = record { answers = rw e; leaves = rw e (sym (over_nothing bare 0)) }

  pub strips-long : length bare < length path → Strips path bare 0 bare
  strips-long h = strips-nothing (unfold bare_text in by (utf8 path))
    where
      by : (b : Bool) → cond (b && leb (length path) (length bare)) (without_space path) [] ≡ []
      by true = rw (lt-leb (length path) (length bare) h)
      by false = refl

  pub strips-broken : utf8 path ≡ false → Strips path bare 0 bare
  strips-broken u = strips-nothing (unfold bare_text in rw u)

  pub strips-text : utf8 path ≡ true → length path ≤ length bare → (n : ℕ) (after : Bytes) → n ≡ length (without_space path) → after ≡ over bare 0 (without_space path) → Strips path bare n after
  strips-text u h n after e q =
      let i : bare_text path (length bare) ≡ without_space path = unfold bare_text in rw (u, le-leb (length path) (length bare) h) in
      record { answers = e ∙ ap length (sym i); leaves = q ∙ ap (λ (t : Text). over bare 0 t) (sym i) }
