-- What the machine's state is to be, read off the tree while it is built. The simulation is then one equation for each event: the machine's step on
-- this state is this state of the tree's step.
-- Assumes nothing.
use lib.ListN.{length, drop}
use mathlib.Core.List.{List, [], ◌∷◌, ◌++◌, map, flat_map}
use mathlib.Core.Option.{none, some}
use Rattle.lists.specs.Lists.{only_if}
use Rattle.paths.specs.Names.{Name}
use Rattle.tree.specs.Events.{scopes_of, selects}
use Rattle.tree.specs.Tree.{Element, Ended, Forest, empty, node, name, cells_of, Live, enter, items}
use Rattle.tree.specs.Judge.{blank, judge_all}
use Rattle.tree.specs.Build.{◌⊕◌, Zipper, top, inside, plug, Built}
use Rattle.machine.specs.Machine.{OpenScope, Selection, State, at}

-- ---- an element with nothing behind it: while it is open, and once it has ended

abbrev pub open_node : Element → Forest → Forest
open_node n kids = node n kids none empty

abbrev pub closed_node : Element → Forest → Ended → Forest
closed_node n kids e = node n kids (some e) empty

-- ---- what the machine keeps

-- the names of the open elements, outermost first
unfoldable pub path_to : Zipper → List Name
path_to (top f) = []
path_to (inside z n kids) = path_to z ++ (name n ∷ [])

-- and with `n` open inside them
abbrev pub way_to : Zipper → Element → List Name
way_to z n = path_to z ++ (name n ∷ [])

unfoldable pub scopes_at : Zipper → List OpenScope
scopes_at (top f) = []
scopes_at (inside z n kids) = scopes_at z ++ map (at (length (way_to z n))) (scopes_of n.openings)

-- the scopes as the tree definition hands them down
unfoldable pub lives_at : Zipper → List Live
lives_at (top f) = []
lives_at (inside z n kids) = enter n (lives_at z)

-- the selection that an open scope makes of the open element `n`, with all the hits that its tree has so far
unfoldable pub sel_at : List Name → Element → Forest → OpenScope → List Selection
sel_at names n kids o =
    only_if (selects o.scope.constraint (drop o.depth names))
    (record { scope = o.scope; depth = length names; cells = cells_of o.scope.constraint n kids none } ∷ [])

-- the selections of all open elements, where `g` stands behind the innermost one's children
unfoldable pub sels_at : Zipper → Forest → List Selection
sels_at (top f) g = []
sels_at (inside z n kids) g =
    sels_at z (open_node n (kids ⊕ g))
    ++ flat_map (sel_at (way_to z n) n (kids ⊕ g)) (scopes_at z ++ map (at (length (way_to z n))) (scopes_of n.openings))

unfoldable pub state_of : Built → State
state_of b =
    record {
      names = path_to b.zipper;
      scopes = scopes_at b.zipper;
      selections = sels_at b.zipper empty;
      count = b.count;
      events = b.events;
      out = judge_all blank (items [] (plug b.zipper));
    }
