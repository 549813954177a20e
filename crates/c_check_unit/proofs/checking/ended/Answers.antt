use Rattle.std.proofs.Common.{refl}
use Rattle.c_check_expr.specs.Kept.{keeps_grown}
use Rattle.c_check_expr.specs.Known.{state_of}
use Rattle.c_check_expr.specs.SymbolsStay.{state_stays}
use Rattle.c_check_unit.specs.WholeSeen.{whole_seen}
use Rattle.c_unit_parts.specs.PartsIn.{parts_in}
use Rattle.c_check_unit.specs.EndIn.{typed_end}
use Rattle.c_check_unit.proofs.UnitEnds.{constants_told, end_fine, names_told, open_told, passed_told}
use Rattle.c_check_unit.proofs.checking.ended.Goals as goal

pub names-requires-clause-symbols : goal.names-requires-clause-symbols
names-requires-clause-symbols c = (keeps_grown c.args.scopes.now c.args.types c.define_tentative.new.types c.requires.symbols c.define_tentative.ensures.grows).symbols

pub returns-in_err-define_tentative-clause-told : goal.returns-in_err-define_tentative-clause-told
returns-in_err-define_tentative-clause-told c =
    let s = state_of c.args.scopes.now c.args.types in
    let u = parts_in c.args.types c.args.parts in
    passed_told (typed_end s u) c.in_err-define_tentative.field-0.0 c.from_residual.result c.from_residual.ensures.1 (open_told s s u u c.in_err-define_tentative.field-0.0 c.in_err-define_tentative.ensures.told)

pub returns-in_err-constants-clause-told : goal.returns-in_err-constants-clause-told
returns-in_err-constants-clause-told c =
    let b = c.define_tentative.new.types in
    let s = state_of c.args.scopes.now c.args.types in
    let z = state_of c.args.scopes.now b in
    let u = parts_in c.args.types c.args.parts in
    let v = parts_in b c.define_tentative.new.parts in
    passed_told (typed_end s u) c.in_err-constants.field-0.0 c.from_residual-in_err-constants.result c.from_residual-in_err-constants.ensures.1
    (constants_told s z u v (state_stays c.args.scopes.now c.args.types b c.define_tentative.ensures.grows c.requires.symbols) c.in_ok-define_tentative.ensures.is c.in_ok-define_tentative.ensures.sound c.in_err-constants.field-0.0 (c.in_err-constants.ensures.told z refl))

pub returns-in_err-names-clause-told : goal.returns-in_err-names-clause-told
returns-in_err-names-clause-told c =
    let b = c.define_tentative.new.types in
    let s = state_of c.args.scopes.now c.args.types in
    let z = state_of c.args.scopes.now b in
    let u = parts_in c.args.types c.args.parts in
    let v = parts_in b c.define_tentative.new.parts in
    passed_told (typed_end s u) c.in_err-names.field-0.0 c.from_residual-in_err-names.result c.from_residual-in_err-names.ensures.1
    (names_told s z u v (state_stays c.args.scopes.now c.args.types b c.define_tentative.ensures.grows c.requires.symbols) c.in_ok-define_tentative.ensures.is c.in_ok-define_tentative.ensures.sound c.in_err-names.field-0.0 (c.in_ok-constants.ensures.sound z refl) c.in_err-names.ensures.told)

pub returns-clause-is : goal.returns-clause-is
returns-clause-is c =
    let b = c.define_tentative.new.types in
    let s = state_of c.args.scopes.now c.args.types in
    let z = state_of c.args.scopes.now b in
    let u = parts_in c.args.types c.args.parts in
    let v = parts_in b c.define_tentative.new.parts in
    let w = c.in_ok-whole.field-0 in
    end_fine s z u v (state_stays c.args.scopes.now c.args.types b c.define_tentative.ensures.grows c.requires.symbols) c.in_ok-define_tentative.ensures.is c.in_ok-define_tentative.ensures.sound (c.in_ok-constants.ensures.sound z refl) c.in_ok-names.ensures.sound
    (whole_seen w) c.in_ok-whole.ensures.is
