use Rattle.c_wholes.proofs.WholeParts.{function_is_whole}
use Rattle.c_wholes.proofs.functions.whole_function.Goals as goal

pub returns-clause-whole : goal.returns-clause-whole
returns-clause-whole c =
    function_is_whole c.args.types.now c.args.standings.now c.args.texts.now c.args.f c.whole_statement.new.locals c.whole_statement.new.s c.in_ok-whole_statement.ensures

pub returns-clause-locals : goal.returns-clause-locals
returns-clause-locals c = c.in_ok-whole_statement.ensures.grows.within

pub returns-clause-body : goal.returns-clause-body
returns-clause-body c = c.in_ok-whole_statement.ensures.is_in
