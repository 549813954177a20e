use Rattle.std.proofs.Common.{◌<◌, length, sym, arith}
use Rattle.c_check_decl.proofs.ParameterLists.{at_below, numbers_differ, place_below}
use Rattle.c_check_decl.proofs.kept_parameters.are_all_compatible.Goals as goal

pub returns-then-parameters-ids : goal.returns-then-parameters-ids
returns-then-parameters-ids c = sym (numbers_differ c.args.types.now c.args.parameters.now c.args.ids.now c.if-parameters-ids.true)

pub are_types_alike-requires-clause-a : goal.are_types_alike-requires-clause-a
are_types_alike-requires-clause-a c =
    let l : c.loop-i.i < length c.args.parameters.now = (let t = c.loop-i-test.true in let e = c.if-parameters-ids.false in omega arith) in
    let b = at_below (length c.args.types.now.forms) c.args.parameters.now c.loop-i.i c.index-parameters-i.result c.requires.parameters l in
    let e = c.plain.ensures.of in
    omega (arith, b, e)

pub are_types_alike-requires-clause-b : goal.are_types_alike-requires-clause-b
are_types_alike-requires-clause-b c =
    let b = place_below (length c.args.types.now.forms) c.args.ids.now c.loop-i.i 0 c.requires.ids c.loop-i-test.true in
    let e = c.plain-in-loop-i.ensures.of in
    omega (arith, b, e)
