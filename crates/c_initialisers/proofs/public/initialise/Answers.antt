use Rattle.c_ast.specs.UnitViews.{initialiser_of}
use Rattle.c_check_expr.specs.Known.{state_of}
use Rattle.c_initialisers.specs.Objects.{object_in}
use Rattle.c_initialisers.proofs.WholeWalks.{whole_breaks, whole_passes, whole_typed}
use Rattle.c_initialisers.proofs.public.initialise.Goals as goal

pub returns-clause-typed : goal.returns-clause-typed
returns-clause-typed c =
    let s = c.args.scopes.now in
    let a = c.args.types.now in
    let o = object_in a c.args.object in
    whole_typed s a o c.args.i.now c.whole.new.scopes c.whole.new.types c.whole.result (c.declaring_is_a_function.ensures.initialisers (state_of s a) o (initialiser_of c.args.i.now)) c.whole.ensures.ok

pub returns-clause-constraint : goal.returns-clause-constraint
returns-clause-constraint c = λ number line.
    let s = c.args.scopes.now in
    let a = c.args.types.now in
    let o = object_in a c.args.object in
    whole_breaks s a o c.args.i.now c.whole.result number line (c.declaring_is_a_function.ensures.initialiser_faults (state_of s a) o (initialiser_of c.args.i.now)) c.whole.ensures.err

pub returns-clause-limit : goal.returns-clause-limit
returns-clause-limit c = λ limit line.
    let s = c.args.scopes.now in
    let a = c.args.types.now in
    let o = object_in a c.args.object in
    whole_passes s a o c.args.i.now c.whole.result limit line (c.declaring_is_a_function.ensures.initialiser_faults (state_of s a) o (initialiser_of c.args.i.now)) c.whole.ensures.err
