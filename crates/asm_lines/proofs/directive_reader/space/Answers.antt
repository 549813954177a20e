use Rattle.std.proofs.Common.{refl}
use Rattle.asm_lines.specs.Tokens.{views}
use Rattle.asm_lines.proofs.DirectiveReads.{no_space}
use Rattle.asm_lines.proofs.directive_reader.space.Goals as goal

pub returns-in-None-clause-fault : goal.returns-in-None-clause-fault
returns-in-None-clause-fault c = (refl, no_space (views c.args.operands.now) c.in-None.ensures.none)
