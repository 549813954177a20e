use Rattle.c_check_expr.specs.Kept.{keeps_itself, keeps_on}
use Rattle.c_check_function.proofs.OldLists.{declarations_end, declarations_on, declarations_start, declarations_stop}
use Rattle.c_check_function.proofs.old_declarations.old_declarations.Goals as goal

pub loop-d-init : goal.loop-d-init
loop-d-init c =
    let s = c.args.scopes.now in
    let a = c.args.types.now in
    record { going = declarations_start s a c.args.names.now c.args.list.now c.requires; kept = keeps_itself s a c.requires }

pub old_declaration-requires : goal.old_declaration-requires
old_declaration-requires c = c.loop-d.invariant.kept.symbols

pub returns-in_err-old_declaration : goal.returns-in_err-old_declaration
returns-in_err-old_declaration c =
    declarations_stop c.args.scopes.now c.args.types.now c.args.names.now c.args.list.now
    c.loop-d.scopes c.loop-d.types c.loop-d.d-index c.d-item.result c.loop-d-test.true c.d-item.is c.loop-d.invariant.going
    c.old_declaration.new.scopes c.old_declaration.new.types c.in_err-old_declaration.field-0.0 c.from_residual.result c.from_residual.ensures.1 c.in_err-old_declaration.ensures

pub loop-d-preserved : goal.loop-d-preserved
loop-d-preserved c =
    let s = c.args.scopes.now in
    let a = c.args.types.now in
    let u = c.old_declaration.new.scopes in
    let b = c.old_declaration.new.types in
    record {
      going =
          declarations_on s a c.args.names.now c.args.list.now
          c.loop-d.scopes c.loop-d.types c.loop-d.d-index c.d-item.result c.loop-d-test.true c.d-item.is c.loop-d.invariant.going
          u b c.in_ok-old_declaration.ensures;
      kept = keeps_on s c.loop-d.scopes u a c.loop-d.types b c.loop-d.invariant.kept c.in_ok-old_declaration.ensures.keeps;
    }

pub returns : goal.returns
returns c = declarations_end c.args.scopes.now c.args.types.now c.args.names.now c.args.list.now c.loop-d.scopes c.loop-d.types c.loop-d.d-index c.loop-d-test.false c.loop-d.invariant.going
