use Rattle.std.proofs.Common.{ap, ◌∙◌}
use Rattle.std.proofs.lemmas.Result.{on_ok_weaker}
use Rattle.c_types.specs.Table.{type_in, types}
use Rattle.c_units.specs.Wholes.{once}
use Rattle.c_wholes.specs.Literals.{blank, texts_of_places}
use Rattle.c_wholes.proofs.LiteralTrees.{filled_same}
use Rattle.c_wholes.proofs.literals.note_object.Goals as goal

pub returns : goal.returns
returns c =
    on_ok_weaker c.note_places.result
    (λ h t. h ∙ ap (λ ps. once c.args.texts.now (texts_of_places ps)) c.as_slice.ensures ∙ ap (once c.args.texts.now) (filled_same blank (type_in (types t)) c.args.o.now.places))
    c.note_places.ensures
