use Rattle.std.proofs.Common.{None}
use Rattle.c_lexer.specs.Tokens.{first_place}
use Rattle.c_stmt.proofs.Denoted.{if_denoted, if_refused}
use Rattle.c_stmt.proofs.units.unit.Goals as goal

pub returns-clause-ok : goal.returns-clause-ok
returns-clause-ok c = if_denoted (c.units_are_exact.ensures 500) c.marks_run.ensures c.args.source.now c.in_ok-parser.parser c.in_ok-parser.ensures.first c.in_ok-parser.ensures.tokens (c.placed_tokens.ensures c.args.source.now first_place c.in_ok-parser.parser.tokens None c.in_ok-parser.ensures.tokens) (λ ts us e f. c.one_list.ensures c.args.source.now first_place ts us e f) (c.one_lexing.ensures c.args.source.now) c.unit_at.new.p c.unit_at.result c.unit_at.ensures.ok

pub returns-clause-err : goal.returns-clause-err
returns-clause-err c = if_refused (c.units_are_exact.ensures 500) c.marks_run.ensures c.args.source.now c.in_ok-parser.parser c.in_ok-parser.ensures.first c.in_ok-parser.ensures.tokens (c.placed_tokens.ensures c.args.source.now first_place c.in_ok-parser.parser.tokens None c.in_ok-parser.ensures.tokens) (λ ts us e f. c.one_list.ensures c.args.source.now first_place ts us e f) (c.one_lexing.ensures c.args.source.now) c.unit_at.new.p c.unit_at.result c.unit_at.ensures.none c.unit_at.ensures.broken
