use Rattle.c_ast.specs.UnitViews.{declaration_of}
use Rattle.c_check_expr.specs.Known.{state_of}
use Rattle.c_check_decl.proofs.DeclarationWalks.{constraint_told, declaration_typed, limit_told}
use Rattle.c_check_decl.proofs.public.check_declaration.Goals as goal

pub returns-clause-typed : goal.returns-clause-typed
returns-clause-typed c =
    let s = c.args.scopes.now in
    let a = c.args.types.now in
    declaration_typed s a c.args.d.now c.declaration.new.scopes c.declaration.new.types c.declaration.result (c.declaring_is_a_function.ensures.declarations (state_of s a) (declaration_of c.args.d.now)) c.declaration.ensures.ok

pub returns-clause-constraint : goal.returns-clause-constraint
returns-clause-constraint c = λ number line.
    let s = c.args.scopes.now in
    let a = c.args.types.now in
    constraint_told s a c.args.d.now c.declaration.result number line (c.declaring_is_a_function.ensures.declaration_faults (state_of s a) (declaration_of c.args.d.now)) c.declaration.ensures.err

pub returns-clause-limit : goal.returns-clause-limit
returns-clause-limit c = λ limit line.
    let s = c.args.scopes.now in
    let a = c.args.types.now in
    limit_told s a c.args.d.now c.declaration.result limit line (c.declaring_is_a_function.ensures.declaration_faults (state_of s a) (declaration_of c.args.d.now)) c.declaration.ensures.err
