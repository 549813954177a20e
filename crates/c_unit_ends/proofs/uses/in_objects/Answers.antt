use Rattle.std.proofs.Common.{map, refl, ap, ◌∙◌}
use Rattle.c_meaning.specs.StmtTrees.{filled_of}
use Rattle.c_check_decl.specs.declared.declares.DefinedObject.{DefinedObject}
use Rattle.c_unit_ends.specs.NameFaults.{missing_in}
use Rattle.c_unit_ends.specs.Uses.{object_uses, place_uses}
use Rattle.c_unit_ends.proofs.Missing.{missing_more}
use Rattle.c_unit_ends.proofs.uses.in_objects.Goals as goal

pub loop-object-preserved : goal.loop-object-preserved
loop-object-preserved c =
    missing_more c.args.standings.now (λ (o : DefinedObject). place_uses (map filled_of o.object.places)) object_uses c.args.list.now c.loop-object.object-index c.object-item.result c.loop-object.least c.in_places-least.result c.loop-object-test.true c.object-item.is (λ z zs. refl) (c.in_places-least.ensures ∙ ap (λ ps. missing_in c.args.standings.now c.loop-object.least (place_uses (map filled_of ps))) c.as_slice.ensures)
    ∙ c.loop-object.invariant
