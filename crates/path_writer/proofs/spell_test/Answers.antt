-- `spell_test` meets its contract: two additions, one behind the other.
-- Assumes nothing.
use mathlib.Core.List.{[], ◌∷◌}
use Rattle.path_writer.proofs.Adding.{appended-twice}
use Rattle.path_writer.proofs.spell_test.Goals as goal

pub returns : goal.returns
returns c =
    let args = c.args in
    let first = c.append_bytes-end in
    let second = c.append_bytes in
    appended-twice args.text.now first.new.store second.new.store args.at first.result second.result args.t.now (47 ∷ []) c.requires first.ensures second.ensures
