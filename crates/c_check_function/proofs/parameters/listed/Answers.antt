use Rattle.std.proofs.Common.{◌++◌, ap, length, map, subst, sym, ◌∙◌}
use Rattle.c_meaning.specs.State.{place_here}
use Rattle.c_check_decl.specs.Declares.{AreLocalsIn}
use Rattle.c_types.specs.Table.{type_at}
use Rattle.c_check_expr.specs.Known.{state_of}
use Rattle.c_units.specs.Functions.{listed_types, type_at as type_or_int}
use Rattle.c_check_function.proofs.ListedNames.{one_below, types_end, types_on}
use Rattle.c_check_function.proofs.parameters.listed.Goals as goal

pub loop-name-init : goal.loop-name-init
loop-name-init c =
    let t = c.args.types.now in
    record {
      types = ap (λ xs. map (type_at t) xs ++ listed_types (state_of c.args.scopes.now t) c.args.names.now) c.in_ok-all.ensures;
      within = subst (AreLocalsIn (length t.forms)) (sym c.in_ok-all.ensures) tt;
    }

pub loop-name-preserved : goal.loop-name-preserved
loop-name-preserved c =
    let t = c.args.types.now in
    let st = state_of c.args.scopes.now t in
    record {
      types =
          types_on t st c.args.names.now c.loop-name.name-index c.name-item.result c.loop-name.all c.push.new.self c.type_here.result c.loop-name-test.true c.name-item.is c.in_ok-push.ensures.ok
          (c.type_here.ensures.is ∙ ap (λ n. type_or_int st (place_here st n)) c.as_slice.ensures) c.loop-name.invariant.types;
      within = one_below (length t.forms) c.loop-name.all c.push.new.self c.type_here.result c.in_ok-push.ensures.ok c.loop-name.invariant.within c.type_here.ensures.within;
    }

pub returns-clause-is : goal.returns-clause-is
returns-clause-is c = types_end c.args.types.now (state_of c.args.scopes.now c.args.types.now) c.args.names.now c.loop-name.name-index c.loop-name.all c.loop-name-test.false c.loop-name.invariant.types

pub returns-clause-within : goal.returns-clause-within
returns-clause-within c = c.loop-name.invariant.within
