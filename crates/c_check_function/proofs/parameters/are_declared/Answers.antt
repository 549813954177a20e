use Rattle.std.proofs.Common.{length, arith}
use Rattle.c_check_function.proofs.ListedNames.{below_all, below_end}
use Rattle.c_check_function.proofs.parameters.are_declared.Goals as goal

pub loop-place-init : goal.loop-place-init
loop-place-init c = λ h. h

pub loop-place-preserved : goal.loop-place-preserved
loop-place-preserved c =
    λ h. c.loop-place.invariant
    (below_all (length c.args.scopes.now.symbols) c.args.names.now c.loop-place.place (c.entry-id.result.0.now, c.entry-id.result.1) c.entry-id.ensures (let l = c.if-id-count.false in let e = c.count.ensures in omega arith) h)

pub returns : goal.returns
returns c = λ t. c.loop-place.invariant (below_end (length c.args.scopes.now.symbols) c.args.names.now c.loop-place.place (let l = c.loop-place-test.false in let e = c.len-place-end.ensures in omega arith))
