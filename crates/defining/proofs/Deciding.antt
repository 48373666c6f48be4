-- What each test of the code says of the decision. One test after the other.
-- Assumes nothing.
use Prim.Native.Nat.{ℕ, ◌+◌, ◌≤◌, ◌<◌}
use native.Mathlib.Omega.{arith}
use lib.Dec.{eqb, leb, ltb}
use borrow.Author.Tests.{lt-ltb, le-ltb, le-leb, lt-leb, ne_eqb, ltb-false, leb-false}
use mathlib.Core.Path.{◌≡◌, refl}
use mathlib.Core.Bool.{Bool, true, false, cond, not}
use mathlib.Core.Option.{Option, none, some}
use Rattle.records.specs.Refusals.{Refusal, out_of_place, too_many_events, definitions_full}
use Rattle.session_spec.specs.Layout.{Counts, unpack}
use Rattle.open_scopes.specs.declared.Numbers.{Numbers}
use Rattle.defining.specs.Deciding.{room_for, against, decided}

-- ---- the room

module _ (used size room : ℕ) where
  pub no_room : room < used + size → some definitions_full ≡ room_for used size room
  unfolding room_for
  no_room h = rw (lt-ltb room (used + size) h)

  pub room-left : used + size ≤ room → none ≡ room_for used size room
  unfolding room_for
  room-left h = rw (le-ltb room (used + size) h)

-- ---- place and events

module _ (n : Numbers) (v : Option Refusal) (size room : ℕ) (c : Counts) (u : c ≡ unpack n.running) where
  pub late : (c.stage ≡ 0 → ⊥) → some out_of_place ≡ decided n v size room
  unfolding decided
  late h = rw (← u, ne_eqb c.stage 0 h)

  module _ (h : c.stage ≡ 0) where
    pub too_many : 1000000 ≤ n.events → some too_many_events ≡ decided n v size room
    unfolding decided
    too_many k = rw (← u, h, le-leb 1000000 n.events k)

    pub then-weighed : n.events < 1000000 → decided n v size room ≡ against v n.definitions size room
    unfolding decided
    then-weighed k = rw (← u, h, lt-leb 1000000 n.events k)

-- ---- where nothing stands against it

nothing-else : (p q : Bool) (c d : Refusal) (o : Option Refusal) → cond p (some c) (cond q (some d) o) ≡ none → (q ≡ false) × (o ≡ none)
nothing-else true q c d o h = let z : ◌≡◌ {A = ℕ} 0 1 = cc in absurd (omega arith)
nothing-else false true c d o h = let z : ◌≡◌ {A = ℕ} 0 1 = cc in absurd (omega arith)
nothing-else false false c d o h = (refl, h)

has_room : (v : Option Refusal) (used size room : ℕ) → against v used size room ≡ none → used + size ≤ room
unfolding against room_for
has_room (some c) used size room h = let z : ◌≡◌ {A = ℕ} 0 1 = cc in absurd (omega arith)
has_room none used size room h = by (ltb room (used + size)) refl h
  where
    by : (b : Bool) → ltb room (used + size) ≡ b → cond b (some definitions_full) none ≡ none → used + size ≤ room
    by true e h = let z : ◌≡◌ {A = ℕ} 0 1 = cc in absurd (omega arith)
    by false e h = ltb-false room (used + size) e

pub record Free (n : Numbers) (size room : ℕ) : Type 0 where
  pub few : n.events < 1000000
  pub fits : n.definitions + size ≤ room

pub free : (n : Numbers) (v : Option Refusal) (size room : ℕ) → decided n v size room ≡ none → Free n size room
unfolding decided
free n v size room h =
    let p = nothing-else (not (eqb (unpack n.running).stage 0)) (leb 1000000 n.events) out_of_place too_many_events (against v n.definitions size room) h in
    record { few = leb-false 1000000 n.events p.0; fits = has_room v n.definitions size room p.1 }
