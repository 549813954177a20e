use Rattle.c_check_unit.proofs.ExternalSteps.{declaration_goes, declaration_stops, empty_goes, function_goes, function_stops}
use Rattle.c_check_unit.proofs.externals.external.Goals as goal

pub returns-in_err-defines-in-Function : goal.returns-in_err-defines-in-Function
returns-in_err-defines-in-Function c =
    function_stops c.args.scopes.now c.args.types.now c.args.parts c.args.e.now c.in-Function.f c.deref.result.now c.in-Function.is c.deref.ensures c.function.new.scopes c.function.new.types c.in_err-defines-in-Function.field-0.0 c.from_residual.result c.from_residual.ensures.1 c.in_err-defines-in-Function.ensures

pub returns-in_err-declares-in-Declaration : goal.returns-in_err-declares-in-Declaration
returns-in_err-declares-in-Declaration c =
    declaration_stops c.args.scopes.now c.args.types.now c.args.parts c.args.e.now c.in-Declaration.d c.in-Declaration.is c.declaration.new.scopes c.declaration.new.types c.in_err-declares-in-Declaration.field-0.0 c.from_residual-in_err-declares-in-Declaration.result c.from_residual-in_err-declares-in-Declaration.ensures.1 c.in_err-declares-in-Declaration.ensures

pub returns-in_ok-with_function-in-Function : goal.returns-in_ok-with_function-in-Function
returns-in_ok-with_function-in-Function c =
    function_goes c.args.scopes.now c.args.types.now c.args.parts c.args.e.now c.in-Function.f c.deref.result.now c.in-Function.is c.deref.ensures c.function.new.scopes c.function.new.types c.in_ok-defines-in-Function.defines c.in_ok-with_function-in-Function.field-0 c.requires.parts c.in_ok-defines-in-Function.ensures c.in_ok-with_function-in-Function.ensures.is c.in_ok-with_function-in-Function.ensures.within

pub returns-in_ok-with_declared-in-Declaration : goal.returns-in_ok-with_declared-in-Declaration
returns-in_ok-with_declared-in-Declaration c =
    declaration_goes c.args.scopes.now c.args.types.now c.args.parts c.args.e.now c.in-Declaration.d c.in-Declaration.is c.declaration.new.scopes c.declaration.new.types c.in_ok-declares-in-Declaration.declares c.in_ok-with_declared-in-Declaration.field-0 c.requires.parts c.in_ok-declares-in-Declaration.ensures c.in_ok-with_declared-in-Declaration.ensures.is c.in_ok-with_declared-in-Declaration.ensures.within

pub returns-in-Empty : goal.returns-in-Empty
returns-in-Empty c = empty_goes c.args.scopes.now c.args.types.now c.args.parts c.args.e.now c.in-Empty.is c.requires.symbols c.requires.parts
