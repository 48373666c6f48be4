-- A prefix in the records one behind the other: it is looked up in the first record, and then in the rest. The place of a URI in its record, behind the bytes of the
-- records before that, is its place in all bytes.
-- Assumes nothing.
use Prim.Native.Nat.{ℕ, ◌+◌, ◌≤◌}
use native.Mathlib.Omega.{arith}
use lib.Dec.{eqb}
use lib.ListN.{length, take, drop}
use lib.Seq.{drop-drop}
use mathlib.Core.Path.{◌≡◌, refl, ap, sym, ◌∙◌}
use mathlib.Core.Bool.{Bool, true, false, cond}
use mathlib.Core.List.{List, [], ◌∷◌, ◌++◌, flat_map}
use mathlib.Core.Option.{none, some}
use Rattle.lists.specs.Lists.{part, passing}
use Rattle.lists.proofs.Folds.{passing-append}
use Rattle.texts.specs.Texts.{Text, same}
use Rattle.paths.specs.Reading.{or_else}
use Rattle.records.specs.Readers.{Bytes}
use Rattle.records.specs.Records.{NsRecord}
use Rattle.session_spec.specs.Definitions.{frame, look_up}
use Rattle.frames.proofs.Walks.{frames-next, frames-stop, Walking, walk-end, walk-here, walk-fits}
use Rattle.bindings.specs.Bindings.{frames_in, as_list, read_binding, bindings_in, bound_for}
use Rattle.record_places.specs.declared.Place.{Place}
use Rattle.std.specs.declared.option.Option.TheVariants.{Some, None}
use Rattle.bindings.specs.Places.{uri_by, BoundIn, LookedUp}
use Rattle.lists.proofs.Writes.{part-front}

-- ---- a prefix in the first record, and in the rest

pub look_up-append : (p : Text) (bs cs : List NsRecord) → look_up p (bs ++ cs) ≡ or_else (look_up p bs) (look_up p cs)
unfolding look_up or_else
look_up-append p [] cs = refl
look_up-append p (b ∷ bs) cs = by (same p b.prefix) (look_up-append p bs cs)
  where
    by : (t : Bool) → look_up p (bs ++ cs) ≡ or_else (look_up p bs) (look_up p cs)
        → cond t (some b.uri) (look_up p (bs ++ cs)) ≡ or_else (cond t (some b.uri) (look_up p bs)) (look_up p cs)
    by true ih = refl
    by false ih = ih

module _ (t : ℕ) (p : Text) where
  bound-next : (s f r : Bytes) → frame s ≡ some (f, r) → look_up p (bound_for t s) ≡ or_else (uri_by f t p) (look_up p (bound_for t r))
  unfolding bound_for bindings_in uri_by flat_map
  bound-next s f r e =
      rw (frames-next s f r e, passing-append (λ b. eqb b.target t) (as_list (read_binding f)) (flat_map (λ g. as_list (read_binding g)) (frames_in r)))
      (look_up-append p (passing (λ b. eqb b.target t) (as_list (read_binding f))) (bound_for t r))

  bound-stop : (s : Bytes) → frame s ≡ none → look_up p (bound_for t s) ≡ none
  unfolding bound_for bindings_in flat_map passing look_up
  bound-stop s e = rw (frames-stop s e)

-- ---- the walk of `look_up`: the records that are left stand from place i on

module _ (s : Bytes) (t : ℕ) (p : Text) (left : List Bytes) (i : ℕ) (w : Walking s left i) where
  pub search-end : left ≡ [] → look_up p (bound_for t (drop i s)) ≡ look_up p (bound_for t s) → LookedUp s t p None
  search-end e q = record { stands = sym (bound-stop t p (drop i s) (walk-end s left i w e)) ∙ q; inside = tt }

  module _ (f : Bytes) (more : List Bytes) (e : left ≡ f ∷ more) where
    first : look_up p (bound_for t (drop i s)) ≡ or_else (uri_by f t p) (look_up p (bound_for t (drop (i + length f) s)))
    first =
        bound-next t p (drop i s) f (drop (length f) (drop i s)) (walk-here s left i w f more e).cut
        ∙ ap (λ (l : Bytes). or_else (uri_by f t p) (look_up p (bound_for t l))) (drop-drop (length f) i s)

    pub search-on : BoundIn f t p None → look_up p (bound_for t (drop (i + length f) s)) ≡ look_up p (bound_for t (drop i s))
    unfolding or_else
    search-on v = sym (first ∙ rw (← v.stands))

    module _ (q : Place) (v : BoundIn f t p (Some q)) where
      pub hit-room : i + q.start + q.size ≤ length s
      hit-room = let r = walk-fits s left i w f more e in let k = v.inside in omega arith

      pub hit : look_up p (bound_for t (drop i s)) ≡ look_up p (bound_for t s) → LookedUp s t p (Some (record { start = i + q.start; size = q.size }))
      unfolding or_else
      hit g =
          let h = (walk-here s left i w f more e).is in
          let same-part : part f q.start q.size ≡ part s (i + q.start) q.size =
          sym (part-front f (drop (length f) (drop i s)) q.start q.size v.inside) ∙ ap (λ (l : Bytes). part l q.start q.size) (sym h.joined) ∙ ap (take q.size) (drop-drop q.start i s) in
          record { stands = ap some (sym same-part) ∙ sym (first ∙ rw (← v.stands)) ∙ g; inside = hit-room }
