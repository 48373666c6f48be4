-- What the readers of the five bodies find, by places: their parts one behind the other. And what is answered where the last place is the end, and where it is not.
-- Assumes nothing.
use Prim.Native.Nat.{ℕ, ◌+◌, ◌*◌, ◌≤◌, ◌<◌}
use native.Mathlib.Omega.{arith}
use lib.Dec.{eqb}
use lib.ListN.{length, drop, get_or, drop_of_length-le}
use mathlib.Core.Path.{◌≡◌, refl, sym, ◌∙◌, subst}
use mathlib.Core.List.{List}
use Rattle.std.proofs.lemmas.List.{get_or_past, drop_more}
use Rattle.lists.specs.Lists.{part}
use Rattle.paths.specs.Names.{Attribute}
use Rattle.records.specs.Readers.{Bytes, Reader, ◌>>=◌, pass, read_byte, read_text, times, counted}
use Rattle.records.specs.Refusals.{first_of}
use Rattle.records.specs.Records.{Rec, ID, NS, ES, EE, read_refer, read_attribute, read_id, read_ns, read_es, read_ee, mark_fi, read_body, texts_of, keys_in, has_bad_byte, over_in, counts_over, body_rows, judged, exactly}
use Rattle.std.specs.declared.result.Result.TheVariants.{Ok, Err}
use Rattle.record_places.specs.declared.TextAt.{TextAt}
use Rattle.record_places.specs.declared.Id.{Id}
use Rattle.record_places.specs.declared.Ns.{Ns}
use Rattle.record_places.specs.declared.Es.{Es}
use Rattle.record_places.specs.declared.Ee.{Ee}
use Rattle.record_places.specs.declared.Refusal.TheVariants.{Misframed}
use Rattle.record_places.specs.declared.Record.TheVariants as walked
use Rattle.std.specs.declared.option.Option.TheVariants.{None}
use Rattle.record_places.specs.Places.{text_in, text_place, Reads, TextOf, texts_at, attributes_at, refer_in, ReferOf, id_in, ns_in, es_in, ee_in, InsideId, InsideEs, Walked, Walks}
use Rattle.record_places.specs.Checks.{judgement}
use Rattle.record_walk.proofs.Reading.{then, pass-reads, byte_reads, numbers-reads, reads-length, exactly-whole, exactly-not}
use Rattle.record_walk.proofs.Members.{no_text, text-none-at, text-beyond, text-reads, refer-none}
use Rattle.record_walk.proofs.Pairs.{attributes-reads}

-- ---- the answer, by the place behind the last part

module _ (p : Reader Rec) (s : Bytes) (k : ℕ) (r : Rec) (q : Reads p s 4 k r) (h : 4 ≤ length s) where
  walked_whole : k ≡ length s → (w : Walked) → Walks s (judgement r) w → Walks s (exactly (p (drop 4 s))) w
  walked_whole e w f = record { says = f.says ∙ sym (exactly-whole p s k r q h e); inside = f.inside }

  walked-not : (k ≡ length s → ⊥) → Walks s (exactly (p (drop 4 s))) (Err Misframed)
  walked-not e = record { says = sym (exactly-not p s k r q h e); inside = tt }

-- ---- parts

-- a byte that the code has read
byte-read : (s : Bytes) (i b : ℕ) → b ≡ get_or s i 0 → Reads read_byte s i (i + 1) b
byte-read s i b e = subst (λ (x : ℕ). Reads read_byte s i (i + 1) x) (sym e) (byte_reads s i)

-- what is past the end is not read
past-reads : {A : Type 0} (p : Reader A) (s : Bytes) (i : ℕ) (a : A) → length s < i → Reads p s i i a
past-reads p s i a h = record { says = λ w. absurd (omega arith); on = λ w. omega arith }

-- a count, and so many
counted-reads : {A : Type 0} (p : Reader A) (s : Bytes) (i n k : ℕ) (l : List A) → n ≡ get_or s i 0 → Reads (times n p) s (i + 1) k l → Reads (counted p) s i k l
unfolding counted
counted-reads p s i n k l e r = then read_byte (λ n. times n p) s i (i + 1) k n l (byte-read s i n e) r

-- ---- bodies

module _ (s : Bytes) (h : 4 ≤ length s) where
  module _ (t : TextAt) (a : TextOf s 5 t) where
    abbrev pub an_ee : ℕ → Ee
    an_ee b = record { simple = b; key = t.text }

    ee-reads : (b : ℕ) → b ≡ get_or s 4 0 → Reads read_ee s 4 t.next (ee_in s (an_ee b))
    unfolding read_ee ee_in
    ee-reads b e =
        let r = EE (record { simple = b; key = text_in s t.text }) in
        then read_byte (λ b. read_text >>= (λ k. pass (EE (record { simple = b; key = k })))) s 4 5 t.next b r (byte-read s 4 b e)
        (then read_text (λ k. pass (EE (record { simple = b; key = k }))) s 5 t.next t.next (text_in s t.text) r (text-reads s 5 t a)
        (pass-reads s t.next r))

    pub ee-misframed : (t.next ≡ length s → ⊥) → Walks s (exactly (read_ee (drop 4 s))) (Err Misframed)
    ee-misframed g = walked-not read_ee s t.next (ee_in s (an_ee (get_or s 4 0))) (ee-reads (get_or s 4 0) refl) h g

    pub ee-framed : (b : ℕ) → b ≡ get_or s 4 0 → t.next ≡ length s → (w : Walked) → Walks s (judgement (ee_in s (an_ee b))) w → Walks s (exactly (read_ee (drop 4 s))) w
    ee-framed b e g w f = walked_whole read_ee s t.next (ee_in s (an_ee b)) (ee-reads b e) h g w f

  pub ee-no-key : None ≡ text_place s 5 → Walks s (exactly (read_ee (drop 4 s))) (Err Misframed)
  ee-no-key e = ee-misframed (no_text s 5 (length s)) (text-none-at s 5 e) (λ w. omega arith)

  module _ (p u : TextAt) (a : TextOf s 5 p) (c : TextOf s p.next u) where
    abbrev pub an_ns : ℕ → Ns
    an_ns b = record { target = b; prefix = p.text; uri = u.text }

    ns-reads : (b : ℕ) → b ≡ get_or s 4 0 → Reads read_ns s 4 u.next (ns_in s (an_ns b))
    unfolding read_ns ns_in
    ns-reads b e =
        let x = text_in s p.text in
        let r = NS (record { target = b; prefix = x; uri = text_in s u.text }) in
        then read_byte (λ t. read_text >>= (λ p. read_text >>= (λ u. pass (NS (record { target = t; prefix = p; uri = u }))))) s 4 5 u.next b r (byte-read s 4 b e)
        (then read_text (λ p. read_text >>= (λ u. pass (NS (record { target = b; prefix = p; uri = u })))) s 5 p.next u.next x r (text-reads s 5 p a)
        (then read_text (λ u. pass (NS (record { target = b; prefix = x; uri = u }))) s p.next u.next u.next (text_in s u.text) r (text-reads s p.next u c)
        (pass-reads s u.next r)))

    pub ns-misframed : (u.next ≡ length s → ⊥) → Walks s (exactly (read_ns (drop 4 s))) (Err Misframed)
    ns-misframed g = walked-not read_ns s u.next (ns_in s (an_ns (get_or s 4 0))) (ns-reads (get_or s 4 0) refl) h g

    pub ns-framed : (b : ℕ) → b ≡ get_or s 4 0 → u.next ≡ length s → (w : Walked) → Walks s (judgement (ns_in s (an_ns b))) w → Walks s (exactly (read_ns (drop 4 s))) w
    ns-framed b e g w f = walked_whole read_ns s u.next (ns_in s (an_ns b)) (ns-reads b e) h g w f

  pub ns-no-prefix : None ≡ text_place s 5 → Walks s (exactly (read_ns (drop 4 s))) (Err Misframed)
  ns-no-prefix e =
      let i = length s + 1 in
      ns-misframed (no_text s 5 (length s)) (no_text s i (length s)) (text-none-at s 5 e) (text-beyond s i (omega arith)) (λ w. omega arith)

  pub ns-no-uri : (p : TextAt) → TextOf s 5 p → None ≡ text_place s p.next → Walks s (exactly (read_ns (drop 4 s))) (Err Misframed)
  ns-no-uri p a e = ns-misframed p (no_text s p.next (length s)) a (text-none-at s p.next e) (λ w. omega arith)

  module _ (flag count end : ℕ) (n f t : TextAt) (a : TextOf s 5 n) (b : ReferOf s flag (n.next + 1) f) (c : TextOf s f.next t)
      (l : Reads (times count read_text) s (t.next + 1) end (texts_at s (t.next + 1) count)) where
    abbrev pub an_id : ℕ → Id
    an_id k = record { kind = k; name = n.text; flag = flag; refer = f.text; selector = t.text; first = t.next + 1; count = count }

    pub id-inside : (k : ℕ) → end ≡ length s → InsideId s (an_id k)
    id-inside k e =
        let g : end ≤ length s = omega arith in
        record {
          name = a.within;
          refer = b.within;
          bare = b.bare;
          selector = c.within;
          first = omega (arith, l.on g);
          whole = reads-length read_text count s (t.next + 1) end (texts_at s (t.next + 1) count) l g;
        }

    module _ (e : flag ≡ get_or s n.next 0) (g : count ≡ get_or s t.next 0) where
      id-reads : (k : ℕ) → k ≡ get_or s 4 0 → Reads read_id s 4 end (id_in s (an_id k))
      unfolding read_id id_in
      id-reads k d =
          let x = text_in s n.text in
          let y = refer_in s flag f.text in
          let z = text_in s t.text in
          let v = texts_at s (t.next + 1) count in
          let r = ID (record { kind = k; name = x; flag = flag; refer = y; selector = z; fields = v }) in
          then read_byte (λ k. read_text >>= (λ n. read_byte >>= (λ f. read_refer (eqb f 1) >>= (λ r. read_text >>= (λ s. counted read_text >>= (λ fs. pass (ID (record { kind = k; name = n; flag = f; refer = r; selector = s; fields = fs })))))))) s 4 5 end k r (byte-read s 4 k d)
          (then read_text (λ n. read_byte >>= (λ f. read_refer (eqb f 1) >>= (λ r. read_text >>= (λ s. counted read_text >>= (λ fs. pass (ID (record { kind = k; name = n; flag = f; refer = r; selector = s; fields = fs }))))))) s 5 n.next end x r (text-reads s 5 n a)
          (then read_byte (λ f. read_refer (eqb f 1) >>= (λ r. read_text >>= (λ s. counted read_text >>= (λ fs. pass (ID (record { kind = k; name = x; flag = f; refer = r; selector = s; fields = fs })))))) s n.next (n.next + 1) end flag r (byte-read s n.next flag e)
          (then (read_refer (eqb flag 1)) (λ r. read_text >>= (λ s. counted read_text >>= (λ fs. pass (ID (record { kind = k; name = x; flag = flag; refer = r; selector = s; fields = fs }))))) s (n.next + 1) f.next end y r b.reads
          (then read_text (λ s. counted read_text >>= (λ fs. pass (ID (record { kind = k; name = x; flag = flag; refer = y; selector = s; fields = fs })))) s f.next t.next end z r (text-reads s f.next t c)
          (then (counted read_text) (λ fs. pass (ID (record { kind = k; name = x; flag = flag; refer = y; selector = z; fields = fs }))) s t.next end end v r (counted-reads read_text s t.next count end v g l)
          (pass-reads s end r))))))

      pub id-misframed : (end ≡ length s → ⊥) → Walks s (exactly (read_id (drop 4 s))) (Err Misframed)
      id-misframed q = walked-not read_id s end (id_in s (an_id (get_or s 4 0))) (id-reads (get_or s 4 0) refl) h q

      pub id-framed : (k : ℕ) → k ≡ get_or s 4 0 → end ≡ length s → (w : Walked) → Walks s (judgement (id_in s (an_id k))) w → Walks s (exactly (read_id (drop 4 s))) w
      id-framed k d q w j = walked_whole read_id s end (id_in s (an_id k)) (id-reads k d) h q w j

  id-past : (flag : ℕ) (n f t : TextAt) → TextOf s 5 n → ReferOf s flag (n.next + 1) f → TextOf s f.next t → flag ≡ get_or s n.next 0 → length s < t.next
      → Walks s (exactly (read_id (drop 4 s))) (Err Misframed)
  id-past flag n f t a b c e g =
      let count = get_or s t.next 0 in
      let first = t.next + 1 in
      id-misframed flag count first n f t a b c (past-reads (times count read_text) s first (texts_at s first count) (omega arith)) e refl (λ w. omega arith)

  pub id-no-name : None ≡ text_place s 5 → Walks s (exactly (read_id (drop 4 s))) (Err Misframed)
  id-no-name e =
      let i = length s + 1 + 1 in
      let f : TextAt = record { text = record { start = 0; size = 0 }; next = i } in
      let z : 0 ≡ get_or s (length s + 1) 0 = sym (get_or_past s (length s + 1) 0 (omega arith)) in
      id-past 0 (no_text s 5 (length s)) f (no_text s i (length s)) (text-none-at s 5 e) (refer-none s 0 i (λ w. omega arith)) (text-beyond s i (omega arith)) z (omega arith)

  pub id-no-selector : (flag : ℕ) (n f : TextAt) → TextOf s 5 n → ReferOf s flag (n.next + 1) f → flag ≡ get_or s n.next 0 → None ≡ text_place s f.next
      → Walks s (exactly (read_id (drop 4 s))) (Err Misframed)
  id-no-selector flag n f a b e g = id-past flag n f (no_text s f.next (length s)) a b (text-none-at s f.next g) e (omega arith)

  -- the attributes stand behind the place of their count, which is behind the numbers
  module _ (size count end : ℕ) (p n : TextAt) (a : TextOf s 4 p) (b : TextOf s p.next n)
      (l : Reads (times (2 * count) read_text) s (n.next + 1 + size + 1) end (texts_at s (n.next + 1 + size + 1) (2 * count))) where
    abbrev behind : ℕ
    behind = n.next + 1 + size

    abbrev listed : List Attribute
    listed = attributes_at s (behind + 1) count

    listed-reads : Reads (times count read_attribute) s (behind + 1) end listed
    listed-reads = attributes-reads count s (behind + 1) end l

    abbrev pub an_es : Es
    an_es = record { space = p.text; name = n.text; numbers = record { start = n.next + 1; size = size }; first = behind + 1; count = count }

    pub es-inside : end ≡ length s → InsideEs s an_es
    es-inside e =
        let g : end ≤ length s = omega arith in
        let f = l.on g in
        record {
          space = a.within;
          name = b.within;
          numbers = omega arith;
          first = omega arith;
          whole = reads-length read_attribute count s (behind + 1) end listed listed-reads g;
        }

    module _ (d : size ≡ get_or s n.next 0) (e : count ≡ get_or s behind 0) where
      es-reads : Reads read_es s 4 end (es_in s an_es)
      unfolding read_es es_in
      es-reads =
          let x = text_in s p.text in
          let y = text_in s n.text in
          let z = part s (n.next + 1) size in
          let r = ES (record { space = x; name = y; numbers = z; attributes = listed }) in
          then read_text (λ s. read_text >>= (λ n. counted read_byte >>= (λ is. counted read_attribute >>= (λ xs. pass (ES (record { space = s; name = n; numbers = is; attributes = xs })))))) s 4 p.next end x r (text-reads s 4 p a)
          (then read_text (λ n. counted read_byte >>= (λ is. counted read_attribute >>= (λ xs. pass (ES (record { space = x; name = n; numbers = is; attributes = xs }))))) s p.next n.next end y r (text-reads s p.next n b)
          (then (counted read_byte) (λ is. counted read_attribute >>= (λ xs. pass (ES (record { space = x; name = y; numbers = is; attributes = xs })))) s n.next behind end z r (counted-reads read_byte s n.next size behind z d (numbers-reads size s (n.next + 1)))
          (then (counted read_attribute) (λ xs. pass (ES (record { space = x; name = y; numbers = z; attributes = xs }))) s behind end end listed r (counted-reads read_attribute s behind count end listed e listed-reads)
          (pass-reads s end r))))

      pub es-misframed : (end ≡ length s → ⊥) → Walks s (exactly (read_es (drop 4 s))) (Err Misframed)
      es-misframed q = walked-not read_es s end (es_in s an_es) es-reads h q

      pub es-framed : end ≡ length s → (w : Walked) → Walks s (judgement (es_in s an_es)) w → Walks s (exactly (read_es (drop 4 s))) w
      es-framed q w j = walked_whole read_es s end (es_in s an_es) es-reads h q w j

  es-past : (p n : TextAt) → TextOf s 4 p → TextOf s p.next n → length s < n.next → Walks s (exactly (read_es (drop 4 s))) (Err Misframed)
  es-past p n a b g =
      let size = get_or s n.next 0 in
      let counted = n.next + 1 + size in
      let count = get_or s counted 0 in
      let first = counted + 1 in
      es-misframed size count first p n a b (past-reads (times (2 * count) read_text) s first (texts_at s first (2 * count)) (omega arith)) refl refl (λ w. omega arith)

  pub es-no-space : None ≡ text_place s 4 → Walks s (exactly (read_es (drop 4 s))) (Err Misframed)
  es-no-space e =
      let i = length s + 1 in
      es-past (no_text s 4 (length s)) (no_text s i (length s)) (text-none-at s 4 e) (text-beyond s i (omega arith)) (omega arith)

  pub es-no-name : (p : TextAt) → TextOf s 4 p → None ≡ text_place s p.next → Walks s (exactly (read_es (drop 4 s))) (Err Misframed)
  es-no-name p a e = es-past p (no_text s p.next (length s)) a (text-none-at s p.next e) (omega arith)

-- FI has no body
pub fi-over : (s : Bytes) → 4 < length s → Walks s (exactly (read_body mark_fi (drop 4 s))) (Err Misframed)
unfolding exactly read_body pass
fi-over s h = record { says = rw (drop_more s 4 0 h); inside = tt }

pub fi-walks : (s : Bytes) → length s ≤ 4 → Walks s (exactly (read_body mark_fi (drop 4 s))) (Ok walked.Fi)
unfolding exactly read_body pass judged first_of body_rows texts_of keys_in has_bad_byte over_in counts_over
fi-walks s h = record { says = rw (drop_of_length-le s {i = 4} h); inside = tt }
