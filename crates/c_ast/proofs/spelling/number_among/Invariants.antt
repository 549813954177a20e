use Rattle.std.proofs.Common.{◌≡◌, drop}
use Rattle.c_ast.specs.Spelling.{number_among}
use Rattle.c_ast.proofs.spelling.number_among.Given as goal

abbrev pub invariant-loop-choice : goal.invariant-loop-choice
invariant-loop-choice l = number_among l.text l.choices ≡ number_among l.text (drop l.choice-index l.choices)
