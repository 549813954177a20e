use Rattle.std.proofs.Common.{List, sym, ◌∙◌, map, refl}
use Rattle.std.proofs.lemmas.List.{at_drop_all}
use Rattle.c_unit_parts.specs.declared.DefinedFunction.{DefinedFunction}
use Rattle.c_unit_parts.specs.PartsIn.{function_in}
use Rattle.c_units.specs.Wholes.{function_literals, once}
use Rattle.c_check_unit.proofs.TextsNoted.{functions_more}
use Rattle.c_check_unit.proofs.texts.note_functions.Goals as goal

pub loop-f-init : goal.loop-f-init
loop-f-init c = λ t. refl

pub loop-f-preserved : goal.loop-f-preserved
loop-f-preserved c = λ t.
    functions_more t c.loop-f.texts c.note_function.new.texts c.args.list.now c.loop-f.f-index c.f-item.result c.loop-f-test.true c.f-item.is (c.in_ok-note_function.ensures t)
    ∙ c.loop-f.invariant t

pub returns : goal.returns
returns c = λ t.
    sym (at_drop_all (λ (fs : List DefinedFunction). once c.loop-f.texts (function_literals (map (function_in t) fs))) c.args.list.now c.loop-f.f-index c.loop-f-test.false)
    ∙ c.loop-f.invariant t
