use Rattle.std.specs.Prelude.{drop}
use Rattle.std.proofs.lemmas.List.{drop_all}
use Rattle.c_lower_unit.proofs.lemmas.Adding.{goes_on, ends}
use Rattle.c_lower_unit.proofs.functions.lower_functions.Goals as goal

pub loop-f-preserved : goal.loop-f-preserved
loop-f-preserved c =
    goes_on c.args.program.now c.args.objects c.functions-functions.result.now c.loop-f.f-index c.f-item.result c.in_ok-first.first c.loop-f.into c.add_function.new.into
    c.loop-f-test.true c.f-item.is c.in_ok-first.ensures c.loop-f.invariant c.in_ok-add_function.ensures

pub returns : goal.returns
returns c =
    ends c.args.program.now c.args.objects (drop c.loop-f.f-index c.functions-functions.result.now) c.loop-f.into
    (drop_all c.loop-f.f-index c.functions-functions.result.now c.loop-f-test.false) c.loop-f.invariant
