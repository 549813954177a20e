use Rattle.std.proofs.Common.{refl, ◌∙◌}
use Rattle.c_unit_parts.specs.declared.DefinedFunction.{DefinedFunction as FunctionValue}
use Rattle.c_standings.specs.declared.Standing.TheVariants as standing
use Rattle.c_unit_ends.proofs.Firsts.{placed_all, placed_more}
use Rattle.c_unit_ends.proofs.standing.add_functions.Goals as goal

pub loop-place-init : goal.loop-place-init
loop-place-init c = λ k. refl

pub loop-place-preserved : goal.loop-place-preserved
loop-place-preserved c = λ k.
    placed_more (λ (v : FunctionValue). v.symbol) (λ n. standing.Function n) c.loop-place.all c.add.new.all c.args.functions.now c.loop-place.place c.in_ok-number.number c.index-functions-place.result c.loop-place-test.true c.in_ok-number.ensures c.in_ok-add.ensures k
    ∙ c.loop-place.invariant k

pub returns : goal.returns
returns c = λ k. placed_all (λ (v : FunctionValue). v.symbol) (λ n. standing.Function n) c.loop-place.all c.args.functions.now c.loop-place.place c.loop-place.place k c.loop-place-test.false ∙ c.loop-place.invariant k
