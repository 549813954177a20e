use Rattle.std.proofs.Common.{ℕ, List, subst, rules}
use Rattle.c_lexer.specs.Characters.{Characters}
use Rattle.c_lexer.proofs.Characters.{all_of}
use Rattle.c_lexer.proofs.read.character.Goals as goal

pub returns-in_err-count-clause-reads : goal.returns-in_err-count-clause-reads
returns-in_err-count-clause-reads c =
    (c.characters.result, subst (λ (l : List ℕ). Characters 39 l c.characters.result) (all_of c.args.bytes.now 1) c.characters.ensures.are, search rules)
