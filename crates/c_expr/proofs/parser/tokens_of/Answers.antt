use Rattle.c_expr.proofs.Cutting.{all_read, fault_behind}
use Rattle.c_expr.proofs.parser.tokens_of.Goals as goal

pub returns-in-Ok-None-clause-ok : goal.returns-in-Ok-None-clause-ok
returns-in-Ok-None-clause-ok c =
    let i = c.loop-token.invariant in
    all_read c.args.source.now c.loop-token.lexer.source c.loop-token.tokens.items c.loop-token.lexer.place c.next.new.self.place c.in-Ok-None.field-0 i.source c.in-Ok-None.field-0-is i.tokens c.in-Ok-None.ensures.cuts

pub returns-in-Err-clause-err : goal.returns-in-Err-clause-err
returns-in-Err-clause-err c =
    let i = c.loop-token.invariant in
    fault_behind c.args.source.now c.loop-token.lexer.source c.loop-token.tokens.items c.loop-token.lexer.place c.next.new.self.place c.in-Err.fault i.source i.tokens c.in-Err.ensures.cuts
