use Rattle.std.proofs.Common.{List, sym, ◌∙◌, map, refl}
use Rattle.std.proofs.lemmas.List.{at_drop_all}
use Rattle.c_check_decl.specs.declared.declares.DefinedObject.{DefinedObject}
use Rattle.c_check_decl.specs.Declares.{defined_in}
use Rattle.c_units.specs.Wholes.{object_literals, once}
use Rattle.c_check_unit.proofs.TextsNoted.{objects_more}
use Rattle.c_check_unit.proofs.texts.note_objects.Goals as goal

pub loop-o-init : goal.loop-o-init
loop-o-init c = λ t. refl

pub loop-o-preserved : goal.loop-o-preserved
loop-o-preserved c = λ t.
    objects_more t c.loop-o.texts c.note_object.new.texts c.args.list.now c.loop-o.o-index c.o-item.result c.loop-o-test.true c.o-item.is (c.in_ok-note_object.ensures t)
    ∙ c.loop-o.invariant t

pub returns : goal.returns
returns c = λ t.
    sym (at_drop_all (λ (fs : List DefinedObject). once c.loop-o.texts (object_literals (map (defined_in t) fs))) c.args.list.now c.loop-o.o-index c.loop-o-test.false)
    ∙ c.loop-o.invariant t
