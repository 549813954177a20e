use Rattle.std.proofs.Common.{refl}
use Rattle.std.proofs.lemmas.Result.{on_ok_weaker}
use Rattle.c_check_expr.specs.Known.{state_of}
use Rattle.c_units.specs.Ends.{tentative, tentative_objects}
use Rattle.c_unit_ends.proofs.PartsStay.{parts_later, parts_stay}
use Rattle.c_unit_ends.proofs.tentative.define_tentative.Goals as goal

pub returns-clause-is : goal.returns-clause-is
returns-clause-is c =
    let s = state_of c.args.scopes.now c.args.types.now in
    let p = c.args.parts.now in
    on_ok_weaker c.add_tentative.result
    (λ h. parts_stay c.args.types.now c.add_tentative.new.types c.add_tentative.ensures.grows.extends p (record { functions = p.functions; objects = c.add_tentative.new.objects; linked = p.linked }) (tentative_objects s (tentative s s.links)) c.requires.parts refl refl h)
    c.add_tentative.ensures.is

pub returns-clause-within : goal.returns-clause-within
returns-clause-within c =
    let p = c.args.parts.now in
    on_ok_weaker c.add_tentative.result
    (λ h. parts_later c.args.types.now c.add_tentative.new.types c.add_tentative.ensures.grows.extends p (record { functions = p.functions; objects = c.add_tentative.new.objects; linked = p.linked }) c.requires.parts refl refl h)
    c.add_tentative.ensures.within
