use Rattle.c_unit_ends.proofs.TypeLists.{some_types}
use Rattle.c_unit_ends.proofs.built_in_types.are_none.Goals as goal

pub returns-in-len1-up : goal.returns-in-len1-up
returns-in-len1-up c = λ known. some_types known c.args.list.now c.in-len1-up.len_at_least
