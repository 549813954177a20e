use Rattle.std.proofs.Common.{ap, ◌∙◌}
use Rattle.std.proofs.lemmas.Result.{on_ok_weaker}
use Rattle.c_types.specs.Table.{type_in, types}
use Rattle.c_meaning.specs.StmtTrees.{stmt_of}
use Rattle.c_units.specs.Wholes.{once}
use Rattle.c_wholes.specs.Literals.{blank}
use Rattle.c_wholes.proofs.LiteralTrees.{stmt_same}
use Rattle.c_wholes.proofs.literals.note_function.Goals as goal

pub returns : goal.returns
returns c = on_ok_weaker c.note_statement.result (λ h t. h ∙ ap (once c.args.texts.now) (stmt_same blank (type_in (types t)) (stmt_of c.args.f.now.body))) c.note_statement.ensures
