use Rattle.std.proofs.Common.{length, map, sym, subst}
use Rattle.c_check_expr.specs.Known.{AreSymbolsIn, state_of}
use Rattle.c_check_unit.specs.WholeSeen.{whole_seen}
use Rattle.c_unit_parts.specs.PartsIn.{parts_in}
use Rattle.c_check_unit.specs.EndIn.{unit_in}
use Rattle.c_check_unit.specs.ExternalsIn.{external_seen}
use Rattle.c_check_unit.proofs.UnitEnds.{passed_told}
use Rattle.c_check_unit.proofs.UnitTypings.{end_fine, end_told, externals_told, first_state}
use Rattle.c_check_unit.proofs.checking.checked.Goals as goal

pub externals-requires : goal.externals-requires
externals-requires c = subst (AreSymbolsIn (length c.new-types.result.forms)) (sym c.in_ok-scopes.ensures.symbols) tt

pub returns-in_err-parts-clause-told : goal.returns-in_err-parts-clause-told
returns-in_err-parts-clause-told c =
    let s = c.in_ok-scopes.scopes in
    let a = c.new-types.result in
    let n = c.in_ok-scopes.ensures in
    let first = first_state s a n.outer n.inner n.links n.symbols c.new-types.ensures.forms c.new-types.ensures.completed in
    passed_told (unit_in (map external_seen c.args.unit.now.externals)) c.in_err-parts.field-0.0 c.from_residual-in_err-parts.result c.from_residual-in_err-parts.ensures.1
    (externals_told s a c.as_slice.result.now c.args.unit.now.externals first c.as_slice.ensures c.in_err-parts.field-0.0 c.in_err-parts.ensures.err)

pub returns-clause-is : goal.returns-clause-is
returns-clause-is c =
    let s = c.in_ok-scopes.scopes in
    let a = c.new-types.result in
    let n = c.in_ok-scopes.ensures in
    let first = first_state s a n.outer n.inner n.links n.symbols c.new-types.ensures.forms c.new-types.ensures.completed in
    end_fine s a c.as_slice.result.now c.args.unit.now.externals first c.as_slice.ensures (state_of c.externals.new.scopes c.externals.new.types) (parts_in c.externals.new.types c.in_ok-parts.parts) c.in_ok-parts.ensures.ok
    whole_seen c.ended.result c.ended.ensures.is

pub returns-clause-told : goal.returns-clause-told
returns-clause-told c =
    let s = c.in_ok-scopes.scopes in
    let a = c.new-types.result in
    let n = c.in_ok-scopes.ensures in
    let first = first_state s a n.outer n.inner n.links n.symbols c.new-types.ensures.forms c.new-types.ensures.completed in
    end_told s a c.as_slice.result.now c.args.unit.now.externals first c.as_slice.ensures (state_of c.externals.new.scopes c.externals.new.types) (parts_in c.externals.new.types c.in_ok-parts.parts) c.in_ok-parts.ensures.ok c.ended.result c.ended.ensures.told
