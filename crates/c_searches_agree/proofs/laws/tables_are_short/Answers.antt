use Rattle.c_searches_agree.proofs.lemmas.Lengths.{function_tables_are_short}
use Rattle.c_searches_agree.proofs.laws.tables_are_short.Goals as goal

pub returns : goal.returns
returns c u order number tables f most words few = function_tables_are_short u order number tables f most words few
