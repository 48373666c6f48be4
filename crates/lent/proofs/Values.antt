-- What the record call over what is lent promises, of a session that is lent from values and handed back as values.
-- Assumes nothing.
use lib.ListN.{length, take}
use lib.Seq.{take_all}
use native.Mathlib.Omega.{arith}
use mathlib.Core.Path.{◌≡◌, ap, sym, ◌∙◌}
use mathlib.Core.List.{List}
use Rattle.records.specs.Readers.{Bytes}
use Rattle.session_spec.specs.Session.{World, step}
use Rattle.open_scopes.specs.declared.Scope.{Scope}
use Rattle.open_scopes.specs.declared.Numbers.{Numbers}
use Rattle.worlds.specs.Replies.{Reply}
use Rattle.worlds.specs.Worlds.{world_of}
use Rattle.calls.specs.Calls.{done_with, Called}
use Rattle.call_forms.specs.Lent.{lent, Recorded}

-- sixteen of sixteen are all: the world is that of the values
pub by_value : (n : Numbers) (list : List Scope) (rec defs tuples reports paths names cells : Bytes) (reply : Reply) (n' : Numbers) (list' : List Scope) (defs' tuples' reports' paths' names' cells' : Bytes)
    → length list ≡ 16 → length list' ≡ 16
    → Recorded (lent n list defs tuples reports paths names cells) rec reply (lent n' list' defs' tuples' reports' paths' names' cells')
    → Called n list rec defs tuples reports paths names cells (done_with reply n' list') defs' tuples' reports' paths' names' cells'
by_value n list rec defs tuples reports paths names cells reply n' list' defs' tuples' reports' paths' names' cells' sized sized' r =
    let all : take 16 list ≡ list = take_all 16 list (omega arith) in
    let all' : take 16 list' ≡ list' = take_all 16 list' (omega arith) in
    record {
      calls = record {
        replies = r.replies ∙ ap (λ (l : List Scope). (step (world_of n l (length paths) defs tuples reports names cells) rec).0) all;
        leaves =
            (λ i. world_of n' (sym all' i) (sym r.area.size i) defs' tuples' reports' names' cells') ∙ r.leaves
            ∙ ap (λ (l : List Scope). (step (world_of n l (length paths) defs tuples reports names cells) rec).1) all;
      };
      area = r.area;
    }
