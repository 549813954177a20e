use Rattle.std.proofs.Common.{length, map, arith}
use Rattle.c_ast.specs.SeenUnits.{init_seen}
use Rattle.c_check_expr.specs.Kept.{below_later, keeps_itself, keeps_on}
use Rattle.c_check_expr.specs.PartsSeen.{specified_seen}
use Rattle.c_check_expr.proofs.lemmas.Walking.{memory_stops}
use Rattle.c_check_decl.specs.Declares.{AreDeclaredIn, declares_in}
use Rattle.c_check_decl.specs.DeclaredIn.{inits_in}
use Rattle.c_check_decl.proofs.InitLists.{inits_end, inits_on, inits_start, inits_stop}
use Rattle.c_check_decl.proofs.walk.inits.Goals as goal

pub loop-i-init : goal.loop-i-init
loop-i-init c =
    let s = c.args.scopes.now in
    let a = c.args.types.now in
    record {
      going = inits_start s a c.args.line c.args.base.now c.args.list.now c.nothing-all.result c.requires.symbols (c.nothing-all.ensures.is a) (c.nothing-all.ensures.within (length a.forms));
      kept = keeps_itself s a c.requires.symbols;
    }

pub init-requires-clause-symbols : goal.init-requires-clause-symbols
init-requires-clause-symbols c = c.loop-i.invariant.kept.symbols

pub init-requires-clause-base : goal.init-requires-clause-base
init-requires-clause-base c = below_later c.args.types.now c.loop-i.types c.loop-i.invariant.kept.extends c.args.base.now.of c.requires.base

pub returns-in_err-one : goal.returns-in_err-one
returns-in_err-one c =
    inits_stop c.args.scopes.now c.args.types.now c.args.line c.args.base.now c.args.list.now
    c.loop-i.scopes c.loop-i.types c.loop-i.all c.loop-i.i-index c.i-item.result (omega arith) c.i-item.is c.loop-i.invariant.going c.requires.base c.loop-i.invariant.kept
    c.init.new.scopes c.init.new.types c.in_err-one.field-0.0 c.from_residual.result c.from_residual.ensures.1 c.in_err-one.ensures

pub returns-in_err-all : goal.returns-in_err-all
returns-in_err-all c =
    let s = c.args.scopes.now in
    let a = c.args.types.now in
    let u = c.init.new.scopes in
    let b = c.init.new.types in
    memory_stops declares_in AreDeclaredIn (inits_in s a c.args.line (specified_seen a c.args.base.now) (map init_seen c.args.list.now)) s u a b c.from_residual-in_err-all.result c.from_residual-in_err-all.ensures.1
    (keeps_on s c.loop-i.scopes u a c.loop-i.types b c.loop-i.invariant.kept c.in_ok-one.ensures.keeps)

pub loop-i-preserved : goal.loop-i-preserved
loop-i-preserved c =
    let s = c.args.scopes.now in
    let a = c.args.types.now in
    let u = c.init.new.scopes in
    let b = c.init.new.types in
    record {
      going =
          inits_on s a c.args.line c.args.base.now c.args.list.now
          c.loop-i.scopes c.loop-i.types c.loop-i.all c.loop-i.i-index c.i-item.result (omega arith) c.i-item.is c.loop-i.invariant.going c.requires.base c.loop-i.invariant.kept
          u b c.in_ok-one.one c.in_ok-all.all c.in_ok-one.ensures (c.in_ok-all.ensures.is b) (c.in_ok-all.ensures.within (length b.forms));
      kept = keeps_on s c.loop-i.scopes u a c.loop-i.types b c.loop-i.invariant.kept c.in_ok-one.ensures.keeps;
    }

pub returns : goal.returns
returns c = inits_end c.args.scopes.now c.args.types.now c.args.line c.args.base.now c.args.list.now c.loop-i.scopes c.loop-i.types c.loop-i.all c.loop-i.i-index (omega arith) c.loop-i.invariant.going
