-- `answered_near` meets its contract: what the table finds is right, and else the walk decides.
-- Assumes nothing.
use Rattle.tuple_places.proofs.Places.{decides-found, decides-walk}
use Rattle.tuple_places.proofs.answered_near.Goals as goal

pub returns-then-found_near : goal.returns-then-found_near
returns-then-found_near c =
    let a = c.args in
    let f = c.found_near in
    decides-found a.used.now a.named a.texts.now a.places.now f.result f.ensures c.if-found_near.true

pub returns-else-found_near : goal.returns-else-found_near
returns-else-found_near c =
    let a = c.args in
    decides-walk a.used.now a.named a.texts.now a.places.now c.answered.result c.answered.ensures
