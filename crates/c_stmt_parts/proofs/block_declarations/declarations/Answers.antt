use Rattle.std.proofs.Common.{length, map, arith}
use Rattle.c_ast.specs.SeenUnits.{declaration_seen}
use Rattle.c_check_expr.specs.Kept.{keeps_itself, keeps_on}
use Rattle.c_check_expr.proofs.lemmas.Walking.{memory_stops}
use Rattle.c_check_decl.specs.Declares.{AreDeclaredIn, declares_in}
use Rattle.c_stmt_parts.specs.StatementsIn.{declarations_in}
use Rattle.c_stmt_parts.proofs.DeclarationLists.{declarations_end, declarations_on, declarations_start, declarations_stop}
use Rattle.c_stmt_parts.proofs.block_declarations.declarations.Goals as goal

pub loop-d-init : goal.loop-d-init
loop-d-init c =
    let s = c.args.scopes.now in
    let a = c.args.types.now in
    record {
      going = declarations_start s a c.args.list.now c.nothing-all.result c.requires (c.nothing-all.ensures.is a) (c.nothing-all.ensures.within (length a.forms));
      kept = keeps_itself s a c.requires;
    }

pub declaration-requires : goal.declaration-requires
declaration-requires c = c.loop-d.invariant.kept.symbols

pub returns-in_err-one : goal.returns-in_err-one
returns-in_err-one c =
    declarations_stop c.args.scopes.now c.args.types.now c.args.list.now
    c.loop-d.scopes c.loop-d.types c.loop-d.all c.loop-d.d-index c.d-item.result (omega arith) c.d-item.is c.loop-d.invariant.going
    c.declaration.new.scopes c.declaration.new.types c.in_err-one.field-0.0 c.from_residual.result c.from_residual.ensures.1 c.in_err-one.ensures

pub returns-in_err-all : goal.returns-in_err-all
returns-in_err-all c =
    let s = c.args.scopes.now in
    let a = c.args.types.now in
    let u = c.declaration.new.scopes in
    let b = c.declaration.new.types in
    memory_stops declares_in AreDeclaredIn (declarations_in s a (map declaration_seen c.args.list.now)) s u a b c.from_residual-in_err-all.result c.from_residual-in_err-all.ensures.1
    (keeps_on s c.loop-d.scopes u a c.loop-d.types b c.loop-d.invariant.kept c.in_ok-one.ensures.keeps)

pub loop-d-preserved : goal.loop-d-preserved
loop-d-preserved c =
    let s = c.args.scopes.now in
    let a = c.args.types.now in
    let u = c.declaration.new.scopes in
    let b = c.declaration.new.types in
    record {
      going =
          declarations_on s a c.args.list.now
          c.loop-d.scopes c.loop-d.types c.loop-d.all c.loop-d.d-index c.d-item.result (omega arith) c.d-item.is c.loop-d.invariant.going
          u b c.in_ok-one.one c.in_ok-all.all c.in_ok-one.ensures (c.in_ok-all.ensures.is b) (c.in_ok-all.ensures.within (length b.forms));
      kept = keeps_on s c.loop-d.scopes u a c.loop-d.types b c.loop-d.invariant.kept c.in_ok-one.ensures.keeps;
    }

pub returns : goal.returns
returns c = declarations_end c.args.scopes.now c.args.types.now c.args.list.now c.loop-d.scopes c.loop-d.types c.loop-d.all c.loop-d.d-index (omega arith) c.loop-d.invariant.going
