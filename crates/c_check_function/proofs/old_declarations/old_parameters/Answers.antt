use Rattle.c_check_expr.specs.Kept.{below_later, keeps_itself, keeps_on}
use Rattle.c_check_function.proofs.OldLists.{olds_end, olds_on, olds_start, olds_stop}
use Rattle.c_check_function.proofs.old_declarations.old_parameters.Goals as goal

pub loop-i-init : goal.loop-i-init
loop-i-init c =
    let s = c.args.scopes.now in
    let a = c.args.types.now in
    record { going = olds_start s a c.args.line c.args.listed.0.now c.args.listed.1.now c.args.list.now c.requires.symbols; kept = keeps_itself s a c.requires.symbols }

pub old_parameter-requires-clause-symbols : goal.old_parameter-requires-clause-symbols
old_parameter-requires-clause-symbols c = c.loop-i.invariant.kept.symbols

pub old_parameter-requires-clause-base : goal.old_parameter-requires-clause-base
old_parameter-requires-clause-base c = below_later c.args.types.now c.loop-i.types c.loop-i.invariant.kept.extends c.args.listed.1.now.of c.requires.base

pub returns-in_err-old_parameter : goal.returns-in_err-old_parameter
returns-in_err-old_parameter c =
    olds_stop c.args.scopes.now c.args.types.now c.args.line c.args.listed.0.now c.args.listed.1.now c.args.list.now
    c.loop-i.scopes c.loop-i.types c.loop-i.i-index c.i-item.result c.loop-i-test.true c.i-item.is c.loop-i.invariant.going c.requires.base c.loop-i.invariant.kept
    c.old_parameter.new.scopes c.old_parameter.new.types c.in_err-old_parameter.field-0.0 c.from_residual.result c.from_residual.ensures.1 c.in_err-old_parameter.ensures

pub loop-i-preserved : goal.loop-i-preserved
loop-i-preserved c =
    let s = c.args.scopes.now in
    let a = c.args.types.now in
    let u = c.old_parameter.new.scopes in
    let b = c.old_parameter.new.types in
    record {
      going =
          olds_on s a c.args.line c.args.listed.0.now c.args.listed.1.now c.args.list.now
          c.loop-i.scopes c.loop-i.types c.loop-i.i-index c.i-item.result c.loop-i-test.true c.i-item.is c.loop-i.invariant.going c.requires.base c.loop-i.invariant.kept
          u b c.in_ok-old_parameter.ensures;
      kept = keeps_on s c.loop-i.scopes u a c.loop-i.types b c.loop-i.invariant.kept c.in_ok-old_parameter.ensures.keeps;
    }

pub returns : goal.returns
returns c = olds_end c.args.scopes.now c.args.types.now c.args.line c.args.listed.0.now c.args.listed.1.now c.args.list.now c.loop-i.scopes c.loop-i.types c.loop-i.i-index c.loop-i-test.false c.loop-i.invariant.going
