use Rattle.std.proofs.Common.{sym, ◌∙◌, ap}
use Rattle.c_lexer.specs.Comments.{closes}
use Rattle.c_lexer.proofs.Characters.{all_of}
use Rattle.c_lexer.proofs.Comments.{first_close}
use Rattle.c_lexer.proofs.comment.before_close.Goals as goal

pub returns-then-closes-clause-is : goal.returns-then-closes-clause-is
returns-then-closes-clause-is c =
    sym (first_close c.args.bytes.now c.loop-n.n c.loop-n.invariant (ap closes (sym (all_of c.args.bytes.now c.loop-n.n)) ∙ sym c.closes.ensures ∙ c.if-closes.true))
