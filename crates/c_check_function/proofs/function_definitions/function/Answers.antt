use Rattle.std.proofs.Common.{length, map, refl, sym, subst}
use Rattle.c_ast.specs.Seen.{declarator_seen}
use Rattle.c_ast.specs.SeenUnits.{declaration_seen}
use Rattle.c_check_expr.specs.Keeps.{Keeps}
use Rattle.c_check_expr.specs.Kept.{keeps_on}
use Rattle.c_check_expr.proofs.lemmas.Walking.{memory_stops}
use Rattle.c_stmt_parts.specs.StatementsSeen.{block_seen}
use Rattle.c_check_function.specs.Defined.{AreDefinedIn, defines_in, function_in, function_seen}
use Rattle.c_check_function.specs.FunctionsSeen.{maybe_specifiers_seen}
use Rattle.c_check_function.proofs.FunctionWalks.{function_goes, function_stops, function_stops_second, scope_goes}
use Rattle.c_check_function.proofs.function_definitions.function.Goals as goal

pub returns-in_err-base : goal.returns-in_err-base
returns-in_err-base c =
    let f = c.args.f.now in
    function_stops c.args.line (map declaration_seen f.parameters) (block_seen f.body) c.args.scopes.now c.args.types.now (maybe_specifiers_seen f.specifiers) (declarator_seen f.declarator)
    c.result_specifiers.new.scopes c.result_specifiers.new.types c.in_err-base.field-0.0 c.from_residual.result c.from_residual.ensures.1 c.in_err-base.ensures

pub returns-in_err-d : goal.returns-in_err-d
returns-in_err-d c =
    let f = c.args.f.now in
    function_stops_second c.args.line (map declaration_seen f.parameters) (block_seen f.body) c.args.scopes.now c.args.types.now (maybe_specifiers_seen f.specifiers) (declarator_seen f.declarator)
    c.result_specifiers.new.scopes c.result_specifiers.new.types c.in_ok-base.base c.in_ok-base.ensures
    c.define.new.scopes c.define.new.types c.in_err-d.field-0.0 c.from_residual-in_err-d.result c.from_residual-in_err-d.ensures.1 c.in_err-d.ensures

pub returns-in_err-reopen : goal.returns-in_err-reopen
returns-in_err-reopen c =
    let f = c.args.f.now in
    let s = c.args.scopes.now in
    let u = c.define.new.scopes in
    let v = c.reopen.new.scopes in
    let a = c.args.types.now in
    let m = c.result_specifiers.new.types in
    let d = c.define.new.types in
    memory_stops defines_in AreDefinedIn (function_in s a c.args.line (function_seen f)) s v a d c.from_residual-in_err-reopen.result c.from_residual-in_err-reopen.ensures.1
    (subst (λ x. Keeps s a x d) (sym c.in_err-reopen.ensures.err) (keeps_on s c.result_specifiers.new.scopes u a m d c.in_ok-base.ensures.keeps c.in_ok-d.ensures.keeps))

pub in_scope-defines-requires-clause-own : goal.in_scope-defines-requires-clause-own
in_scope-defines-requires-clause-own c =
    let n = length c.define.new.types.forms in
    record { naming = c.in_ok-d.ensures.within.naming; parameters = c.own_parameters-scope.ensures.within n c.in_ok-d.ensures.within.steps }

pub returns : goal.returns
returns c =
    let f = c.args.f.now in
    let s = c.args.scopes.now in
    let a = c.args.types.now in
    let u = c.define.new.scopes in
    let v = c.reopen.new.scopes in
    let w = c.in_scope-defines.new.scopes in
    let z = c.leave.new.self in
    let d = c.define.new.types in
    let b = c.in_scope-defines.new.types in
    let x = c.in_ok-d.d in
    function_goes c.args.line (map declaration_seen f.parameters) (block_seen f.body) s a (maybe_specifiers_seen f.specifiers) (declarator_seen f.declarator)
    c.result_specifiers.new.scopes c.result_specifiers.new.types c.in_ok-base.base c.in_ok-base.ensures
    u z d b x c.in_scope-defines.result c.in_ok-d.ensures
    (scope_goes c.args.line (map declaration_seen f.parameters) (block_seen f.body) u v w z d b x _ c.own_parameters-scope.result.0
    (c.own_parameters-scope.ensures.scope d) (c.own_parameters-scope.ensures.names d) (λ s. c.own_parameters-scope.ensures.types d s) refl
    c.in_ok-reopen.ensures.outer c.in_ok-reopen.ensures.inner c.in_ok-reopen.ensures.links c.in_ok-reopen.ensures.symbols
    c.leave.ensures.scopes c.leave.ensures.links c.leave.ensures.symbols
    c.in_scope-defines.result c.in_scope-defines.ensures)
