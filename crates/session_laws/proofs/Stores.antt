-- The three stores: TU, RP and definition records are read again, alone, in lists, and behind what a store holds already. By the one law for stores,
-- for which each of the three readers shows that bytes behind a record change nothing. And a report has eighteen bytes.
-- Assumes nothing.
use Prim.Native.Nat.{ℕ, ◌+◌, ◌*◌, ◌≤◌}
use native.Mathlib.Omega.{arith}
use borrow.Author.Tests.{eqb-true, eq-eqb}
use lib.Dec.{eqb, ltb}
use lib.ListN.{length, take, length-append}
use mathlib.Core.Path.{◌≡◌, refl, ap, sym, ◌∙◌}
use mathlib.Core.Bool.{Bool, true, false, cond, ◌&&◌}
use mathlib.Core.List.{List, [], ◌∷◌, ◌++◌, map, flat_map, append_assoc, append-nil, map-id}
use mathlib.Core.Option.{Option, none, some}
use Rattle.lists.specs.Lists.{over}
use Rattle.lists.proofs.Writes.{take-over, length_over}
use Rattle.numbers.specs.Numbers.{two_bytes, four_bytes}
use Rattle.paths.specs.Reading.{on_some}
use Rattle.tree.specs.Judge.{Tuple, Report}
use Rattle.records.specs.Readers.{Bytes, Reader, on_read, ◌>>=◌, pass, require, read_byte, read_two, read_four, read_bytes, read_text, times, reads, put_texts}
use Rattle.records.specs.Refusals.{too_long, misframed}
use Rattle.records.specs.Records.{Rec, Mark, read_body, mark_of, unparsed, parsed, exactly, body, framed, marked, parse}
use Rattle.records.proofs.Readers.{two-put, four-put, bytes-put, texts-put}
use Rattle.records.proofs.Stores.{Stable, bind-stable, pass-stable, require-stable, byte-stable, two-stable, four-stable, bytes-stable, text-stable, times-stable, reads-concat, reads-one, reads-back}
use Rattle.session_spec.specs.Definitions.{Definitions, define, is_definition, is_undefined, is_bound, too_many_defined, frame, replay_rec, replay_parsed, replay}
use Rattle.session_spec.specs.Layout.{tu_of, read_tu, put_tu, read_rp, put_rp}

-- ---- TU

pub tu-put : (t : Tuple) (rest : Bytes) → read_tu (put_tu t ++ rest) ≡ some (tu_of t, rest)
unfolding read_tu put_tu tu_of ◌>>=◌ on_read pass require read_byte
tu-put t rest =
    rw (
      append_assoc (two_bytes (6 + length (put_texts t.keys))) (t.constraint.number ∷ (four_bytes t.scope ++ (length t.keys ∷ put_texts t.keys))) rest,
      two-put (6 + length (put_texts t.keys)),
      append_assoc (four_bytes t.scope) (length t.keys ∷ put_texts t.keys) rest,
      four-put t.scope,
      texts-put t.keys rest,
      eq-eqb (6 + length (put_texts t.keys)) (6 + length (put_texts t.keys)) refl,
    )

pub tu-stable : Stable read_tu
unfolding read_tu
tu-stable =
    bind-stable read_byte _ byte-stable (λ a. bind-stable read_byte _ byte-stable (λ b. bind-stable (require (eqb a 84 && eqb b 85)) _ (require-stable (eqb a 84 && eqb b 85)) (λ u.
    bind-stable read_two _ two-stable (λ n. bind-stable read_byte _ byte-stable (λ c. bind-stable read_four _ four-stable (λ s. bind-stable read_byte _ byte-stable (λ k.
    bind-stable (times k read_text) _ (times-stable read_text text-stable k) (λ ts.
    bind-stable (require (eqb n (6 + length (put_texts ts)))) _ (require-stable (eqb n (6 + length (put_texts ts)))) (λ v.
    pass-stable (record { constraint = c; scope = s; keys = ts }))))))))))

pub tu-one : (t : Tuple) → reads read_tu (put_tu t) ≡ some (tu_of t ∷ [])
tu-one t = reads-one read_tu (put_tu t) (tu_of t) (ap read_tu (sym (append-nil (put_tu t))) ∙ tu-put t []) (unfold put_tu in omega arith)

pub tuples-back : (l : List Tuple) → reads read_tu (flat_map put_tu l) ≡ some (map tu_of l)
tuples-back l = reads-back read_tu tu-stable put_tu tu_of tu-one l

-- ---- RP

pub rp-length : (r : Report) → length (put_rp r) ≡ 18
unfolding put_rp four_bytes two_bytes
rp-length r = refl

pub reports-size : (rs : List Report) → length (flat_map put_rp rs) ≡ 18 * length rs
unfolding flat_map
reports-size [] = refl
reports-size (r ∷ rs) = length-append (put_rp r) (flat_map put_rp rs) ∙ rw (rp-length r, reports-size rs) (omega arith)

pub rp-put : (r : Report) (rest : Bytes) → read_rp (put_rp r ++ rest) ≡ some (r, rest)
unfolding read_rp put_rp ◌>>=◌ on_read pass require read_byte
rp-put r rest =
    rw (
      append_assoc (four_bytes r.scope) (four_bytes r.event ++ four_bytes r.tuple) rest,
      four-put r.scope,
      append_assoc (four_bytes r.event) (four_bytes r.tuple) rest,
      four-put r.event,
      four-put r.tuple rest,
    )

pub rp-stable : Stable read_rp
unfolding read_rp
rp-stable =
    bind-stable read_byte _ byte-stable (λ a. bind-stable read_byte _ byte-stable (λ b. bind-stable read_byte _ byte-stable (λ k. bind-stable read_byte _ byte-stable (λ c. bind-stable read_byte _ byte-stable (λ f.
    bind-stable read_byte _ byte-stable (λ z. bind-stable (require ((eqb a 82 && eqb b 80) && eqb z 0)) _ (require-stable ((eqb a 82 && eqb b 80) && eqb z 0)) (λ u.
    bind-stable read_four _ four-stable (λ s. bind-stable read_four _ four-stable (λ e. bind-stable read_four _ four-stable (λ t.
    pass-stable (record { kind = k; constraint = c; field = f; scope = s; event = e; tuple = t })))))))))))

rp-one : (r : Report) → reads read_rp (put_rp r) ≡ some (r ∷ [])
rp-one r = reads-one read_rp (put_rp r) r (ap read_rp (sym (append-nil (put_rp r))) ∙ rp-put r []) (unfold put_rp in omega arith)

pub reports-back : (l : List Report) → reads read_rp (flat_map put_rp l) ≡ some l
reports-back l = reads-back read_rp rp-stable put_rp (λ r. r) rp-one l ∙ ap some (map-id l)

-- ---- definitions: a record that parses is framed, so it is kept whole

pub record Framed (xs : Bytes) : Type 0 where
  pub a : ℕ
  pub b : ℕ
  pub c : ℕ
  pub d : ℕ
  pub rest : Bytes
  pub split : xs ≡ a ∷ b ∷ c ∷ d ∷ rest
  pub size : length rest ≡ c + 256 * d

body-size : (m : Mark) (n : ℕ) (xs : Bytes) (r : Rec) → body m n xs ≡ parsed r → length xs ≡ n
unfolding body
body-size m n xs r h = by (ltb 16384 n) (eqb (length xs) n) refl h
  where
    by : (p q : Bool) → eqb (length xs) n ≡ q → cond p (unparsed too_long) (cond q (exactly (read_body m xs)) (unparsed misframed)) ≡ parsed r → length xs ≡ n
    by true q e h = let z : ◌≡◌ {A = ℕ} 0 1 = cc in absurd (omega arith)
    by false true e h = eqb-true (length xs) n e
    by false false e h = let z : ◌≡◌ {A = ℕ} 0 1 = cc in absurd (omega arith)

framed-size : (a b : ℕ) (m : Mark) (xs : Bytes) (r : Rec) → framed m xs ≡ parsed r → Framed (a ∷ b ∷ xs)
unfolding framed
framed-size a b m [] r h = let z : ◌≡◌ {A = ℕ} 0 1 = cc in absurd (omega arith)
framed-size a b m (c ∷ []) r h = let z : ◌≡◌ {A = ℕ} 0 1 = cc in absurd (omega arith)
framed-size a b m (c ∷ d ∷ xs) r h = record { a = a; b = b; c = c; d = d; rest = xs; split = refl; size = body-size m (c + 256 * d) xs r h }

marked-size : (a b : ℕ) (o : Option Mark) (xs : Bytes) (r : Rec) → marked o xs ≡ parsed r → Framed (a ∷ b ∷ xs)
unfolding marked
marked-size a b none xs r h = let z : ◌≡◌ {A = ℕ} 0 1 = cc in absurd (omega arith)
marked-size a b (some m) xs r h = framed-size a b m xs r h

pub parsed-framed : (xs : Bytes) (r : Rec) → parse xs ≡ parsed r → Framed xs
unfolding parse
parsed-framed [] r h = let z : ◌≡◌ {A = ℕ} 0 1 = cc in absurd (omega arith)
parsed-framed (a ∷ []) r h = let z : ◌≡◌ {A = ℕ} 0 1 = cc in absurd (omega arith)
parsed-framed (a ∷ b ∷ xs) r h = marked-size a b (mark_of a b) xs r h

pub frame-stable : Stable frame
unfolding frame
frame-stable =
    bind-stable read_byte _ byte-stable (λ a. bind-stable read_byte _ byte-stable (λ b. bind-stable read_byte _ byte-stable (λ c. bind-stable read_byte _ byte-stable (λ d.
    bind-stable (read_bytes (c + 256 * d)) _ (bytes-stable (c + 256 * d)) (λ x. pass-stable (a ∷ b ∷ c ∷ d ∷ x))))))

pub frame_back : (xs : Bytes) → Framed xs → (rest : Bytes) → frame (xs ++ rest) ≡ some (xs, rest)
unfolding frame ◌>>=◌ on_read read_byte pass
frame_back xs f rest = rw (f.split, ← f.size, bytes-put f.rest rest)

pub frame-reads : (xs : Bytes) → Framed xs → reads frame xs ≡ some (xs ∷ [])
frame-reads xs f = reads-one frame xs xs (ap frame (sym (append-nil xs)) ∙ frame_back xs f []) (rw f.split (omega arith))

-- taken once more, it defines what it did
pub replay-one : (xs : Bytes) (r : Rec) (d : Definitions) → parse xs ≡ parsed r → is_definition r ≡ true → is_undefined r d ≡ false → is_bound r d ≡ false
    → too_many_defined r d ≡ false
    → replay (some d) xs ≡ some (define r d)
unfolding replay on_some replay_parsed replay_rec
replay-one xs r d p i n b t = rw (p, i, n, b, t)

-- ---- a store of which a part is used

-- `n` bytes of the store are used, and they read as `l`
pub record Used {A : Type 0} (p : Reader A) (n : ℕ) (store : Bytes) (l : List A) : Type 0 where
  pub read : reads p (take n store) ≡ some l
  pub room : n ≤ length store

-- what is written behind the used part is read behind it
pub used-more : {A : Type 0} (p : Reader A) → Stable p → (n : ℕ) (store : Bytes) (l : List A) (bs : Bytes) (k : List A) → Used p n store l
    → reads p bs ≡ some k → n + length bs ≤ length store → Used p (n + length bs) (over store n bs) (l ++ k)
used-more p s n store l bs k u e h =
    let f : take (n + length bs) (over store n bs) ≡ take n store ++ bs = take-over store n bs u.room in
    let g : length (over store n bs) ≡ length store = length_over store n bs h in
    record {
      read = ap (reads p) f ∙ reads-concat p s (take n store) bs l k u.read e;
      room = omega arith;
    }
