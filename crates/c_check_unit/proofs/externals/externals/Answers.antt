use Rattle.std.proofs.Common.{length, arith}
use Rattle.c_check_expr.specs.Kept.{keeps_itself, keeps_on}
use Rattle.c_check_unit.proofs.ExternalWalks.{externals_end, externals_on, externals_start, externals_stop, parts_within}
use Rattle.c_check_unit.proofs.externals.externals.Goals as goal

pub loop-e-init : goal.loop-e-init
loop-e-init c =
    let s = c.args.scopes.now in
    let a = c.args.types.now in
    record {
      going = externals_start s a c.args.list.now c.no_parts-parts.result c.requires (c.no_parts-parts.ensures.is a) (c.no_parts-parts.ensures.within (length a.forms));
      kept = keeps_itself s a c.requires;
    }

pub external-requires-clause-symbols : goal.external-requires-clause-symbols
external-requires-clause-symbols c = c.loop-e.invariant.kept.symbols

pub external-requires-clause-parts : goal.external-requires-clause-parts
external-requires-clause-parts c = parts_within c.args.scopes.now c.args.types.now c.args.list.now c.loop-e.scopes c.loop-e.types c.loop-e.parts _ c.loop-e.invariant.going

pub returns-in_err-parts : goal.returns-in_err-parts
returns-in_err-parts c =
    externals_stop c.args.scopes.now c.args.types.now c.args.list.now
    c.loop-e.scopes c.loop-e.types c.loop-e.parts c.loop-e.e-index c.e-item.result (omega arith) c.e-item.is c.loop-e.invariant.going
    c.external.new.scopes c.external.new.types c.in_err-parts.field-0.0 c.from_residual.result c.from_residual.ensures.1 c.in_err-parts.ensures

pub loop-e-preserved : goal.loop-e-preserved
loop-e-preserved c =
    let s = c.args.scopes.now in
    let a = c.args.types.now in
    let u = c.external.new.scopes in
    let b = c.external.new.types in
    record {
      going =
          externals_on s a c.args.list.now
          c.loop-e.scopes c.loop-e.types c.loop-e.parts c.loop-e.e-index c.e-item.result (omega arith) c.e-item.is c.loop-e.invariant.going
          u b c.in_ok-parts.parts c.in_ok-parts.ensures;
      kept = keeps_on s c.loop-e.scopes u a c.loop-e.types b c.loop-e.invariant.kept c.in_ok-parts.ensures.keeps;
    }

pub returns : goal.returns
returns c = externals_end c.args.scopes.now c.args.types.now c.args.list.now c.loop-e.scopes c.loop-e.types c.loop-e.parts c.loop-e.e-index (omega arith) c.loop-e.invariant.going
