-- `spell_path` meets its contract: each way it returns is a law of proofs/Answers.antt.
-- Assumes nothing.
use Rattle.std.proofs.Common.{rules}
use mathlib.Core.Path.{◌≡◌}
use Rattle.std.specs.declared.result.Result.TheVariants.{Err}
use Rattle.path_writer.proofs.Answers.{path-taken, spells-refused, spells-short, spells-text}
use Rattle.path_writer.proofs.spell_path.Goals as goal

pub returns-in_err-turned_back : goal.returns-in_err-turned_back
returns-in_err-turned_back c =
    let e : c.from_residual.result ≡ Err c.in_err-turned_back.field-0.0 = search rules in
    rw e (spells-refused c.args.kind c.args.path.now _ c.in_err-turned_back.ensures c.args.out.now)

pub spell_text-size-requires : goal.spell_text-size-requires
spell_text-size-requires c =
    let g = path-taken c.args.kind c.args.path.now c.in_ok-turned_back.ensures in
    (g.text, g.short, search rules)

pub returns-then-out-size : goal.returns-then-out-size
returns-then-out-size c =
    let args = c.args in
    let text = c.spell_text-size in
    let g = path-taken args.kind args.path.now c.in_ok-turned_back.ensures in
    spells-short args.kind args.path.now g _ text.new.text text.result text.ensures args.out.now c.if-out-size.true

pub returns : goal.returns
returns c =
    let args = c.args in
    let text = c.spell_text-size in
    let put = c.put_bytes in
    let g = path-taken args.kind args.path.now c.in_ok-turned_back.ensures in
    spells-text args.kind args.path.now g _ text.new.text text.result text.ensures args.out.now c.if-out-size.false put.new.store put.ensures
