use Rattle.std.proofs.Common.{List, length, map, ap, ◌∙◌}
use Rattle.c_check_expr.specs.Known.{state_of}
use Rattle.c_meaning.specs.Units.{function_seen, object_seen}
use Rattle.c_standings.specs.StandingLists.{meant}
use Rattle.c_types.specs.Table.{types}
use Rattle.c_unit_parts.specs.PartsIn.{function_in, parts_in}
use Rattle.c_unit_parts.specs.declared.DefinedFunction.{DefinedFunction}
use Rattle.c_units.specs.Wholes.{main_from}
use Rattle.c_check_unit.proofs.WholeUnits.{unit_is}
use Rattle.c_check_unit.proofs.whole.whole.Goals as goal

pub returns-clause-is : goal.returns-clause-is
returns-clause-is c =
    let t = c.args.types in
    unit_is (state_of c.args.scopes.now t) (parts_in t c.args.parts) (meant c.args.standings.now) c.in_ok-texts.texts c.in_ok-texts-2.texts (map (function_seen (types t)) c.in_ok-functions.functions) (map (object_seen (types t)) c.in_ok-objects.objects) c.in_ok-main.main c.requires.standings (c.in_ok-texts.ensures t) c.in_ok-texts-2.ensures
    c.in_ok-functions.ensures.is (c.in_ok-objects.ensures.is t) (c.in_ok-main.ensures t ∙ ap (λ (fs : List DefinedFunction). main_from 0 (map (function_in t) fs)) c.as_slice.ensures)

pub returns-clause-objects : goal.returns-clause-objects
returns-clause-objects c = c.in_ok-objects.ensures.within (length c.args.types.forms) c.requires.parts.objects
