use Rattle.std.proofs.Common.{List, drop, subst, sym, ◌+◌}
use Rattle.std.proofs.lemmas.List.{drop_all}
use Rattle.c_meaning.specs.declared.core_unit.CoreFunction.{CoreFunction}
use Rattle.c_wholes.specs.Numbering.{AreCountedFunctions}
use Rattle.c_wholes.proofs.NumberTrees.{more_functions_counted, no_function_counted, onward}
use Rattle.c_wholes.proofs.numbers.count_functions.Goals as goal

pub loop-f-preserved : goal.loop-f-preserved
loop-f-preserved c =
    let l = c.loop-f in
    λ end' h. l.invariant end'
    (onward c.args.functions.now l.f-index c.f-item.result c.loop-f-test.true c.f-item.is (λ (fs : List CoreFunction). AreCountedFunctions l.left end' fs)
    (more_functions_counted l.left c.in_ok-left.left end' c.f-item.result (drop (l.f-index + 1) c.args.functions.now) c.in_ok-left.ensures h))

pub returns : goal.returns
returns c =
    let l = c.loop-f in
    l.invariant l.left (subst (λ (fs : List CoreFunction). AreCountedFunctions l.left l.left fs) (sym (drop_all l.f-index c.args.functions.now c.loop-f-test.false)) (no_function_counted l.left))
