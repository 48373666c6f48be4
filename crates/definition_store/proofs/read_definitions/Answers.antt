-- `read_definitions` meets its contract. The loop's invariant: the bytes passed over read as definitions with this tally, and what is left is replayed behind them.
-- Assumes nothing.
use Rattle.std.proofs.Common.{rules, ◌≡◌, ◌∙◌}
use Rattle.std.proofs.lemmas.Grind.{common_steps}
use mathlib.Core.Path.{subst, sym}
use Rattle.definition_store.specs.declared.Tally.{Tally}
use native.Mathlib.Omega.{arith}
use Rattle.std.specs.declared.option.Option.TheVariants.{None}
use Rattle.session_spec.specs.Definitions.{frame}
use Rattle.output_stores.specs.Stores.{standing}
use Rattle.frames.proofs.Walks.{walk-first}
use Rattle.definition_store.proofs.Walks.{Upto, walk_start, read-whole, turn-stop, turn_on}
use Rattle.definition_store.proofs.read_definitions.Goals as goal

pub loop-record-init : goal.loop-record-init
loop-record-init c =
    let used = c.args.used.now in
    let z : c.default-tally.result ≡ record { constraints = 0; fields = 0; bindings = 0 } = search rules in
    let left = standing frame c.into_iter-record-iterator.result.0.now in
    subst (λ (t : Tally). Upto used left 0 t) (sym z) (walk_start used left (walk-first used left (search rules)))

pub returns-in_err-tally : goal.returns-in_err-tally
returns-in_err-tally c =
    let l = c.loop-record in
    let k : c.from_residual.result ≡ None = grind (arith, common_steps) in
    k
    ∙ turn-stop c.args.used.now (standing frame l.record-iterator.0.now) l.before l.tally l.invariant _ _ c.in-Some.ensures.steps
    c.count_record.result c.count_record.ensures c.in_err-tally.was

pub loop-record-preserved : goal.loop-record-preserved
loop-record-preserved c =
    let l = c.loop-record in
    turn_on c.args.used.now (standing frame l.record-iterator.0.now) l.before l.tally l.invariant _ _ c.in-Some.ensures.steps c.count_record.result c.count_record.ensures
    _ c.in_ok-tally.was

pub returns : goal.returns
returns c =
    let l = c.loop-record in
    c.then_some.ensures ∙ read-whole c.args.used.now (standing frame l.record-iterator.0.now) l.before l.tally l.invariant c.in-None.ensures.steps.0
