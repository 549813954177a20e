use Rattle.std.proofs.Common.{ap, ◌∙◌}
use Rattle.c_meaning.specs.Words.{table}
use Rattle.c_check_expr.specs.Counted.{meant_in}
use Rattle.c_check_expr.proofs.SpecifierLists.{rows_of, words_meant}
use Rattle.c_check_expr.proofs.specifiers.word_type.Goals as goal

pub returns : goal.returns
returns c = λ t. c.find.ensures ∙ ap (meant_in (rows_of table)) c.counts.ensures ∙ words_meant t c.args.parts.now
