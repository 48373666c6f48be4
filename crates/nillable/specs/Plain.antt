-- The same document with simple byte 1 for each 2, and what it leaves alone: whatever no key selects.
-- Assumes nothing.
use Rattle.std.specs.Prelude.{eqb, ◌≡◌, Bool, true, false, cond}
use Rattle.std.proofs.Math.Option.{Option, none, some}
use Rattle.tree.specs.Events.{End, Event, es, ee, Kind, unique, key, keyref}
use Rattle.tree.specs.Tree.{Ended, Forest, empty, node, Item, failed, finished}

-- ---- an element that is declared nillable becomes one that is not

unfoldable pub plain_end : End → End
plain_end e = record { simple = cond (eqb e.simple 2) 1 e.simple; key = e.key }

unfoldable pub plain_event : Event → Event
plain_event (es s) = es s
plain_event (ee e) = ee (plain_end e)

unfoldable pub plain_ended : Option Ended → Option Ended
plain_ended none = none
plain_ended (some e) = some (record { event = e.event; close = plain_end e.close })

-- these elements and those below them
unfoldable pub plain : Forest → Forest
plain empty = empty
plain (node n kids e rest) = node n (plain kids) (plain_ended e) (plain rest)

-- ---- selections of other constraints than keys

unfoldable pub is_key : Kind → Bool
is_key unique = false
is_key key = true
is_key keyref = false

-- what happens is no finished selection of a key
abbrev pub OfNoKey : Item → Type 0
OfNoKey (failed e c t) = Unit {0}
OfNoKey (finished e s cs) = is_key s.constraint.kind ≡ false
