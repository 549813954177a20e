use Rattle.c_values.specs.Stays.{grows_on}
use Rattle.c_check_expr.specs.Kept.{keeps_on}
use Rattle.c_check_decl.proofs.defining.define_linked.Goals as goal

pub returns-in_err-recompose-2-clause-keeps : goal.returns-in_err-recompose-2-clause-keeps
returns-in_err-recompose-2-clause-keeps c = keeps_on c.args.scopes.now c.recompose.new.scopes c.recompose-2.new.scopes c.args.types.now c.recompose.new.types c.recompose-2.new.types c.recompose.ensures.keeps c.recompose-2.ensures.keeps

pub returns-in_err-recompose-2-clause-grows : goal.returns-in_err-recompose-2-clause-grows
returns-in_err-recompose-2-clause-grows c = grows_on c.args.types.now c.recompose.new.types c.recompose-2.new.types c.recompose.ensures.grows c.recompose-2.ensures.grows

pub returns-clause-keeps : goal.returns-clause-keeps
returns-clause-keeps c =
    let k = keeps_on c.args.scopes.now c.recompose.new.scopes c.recompose-2.new.scopes c.args.types.now c.recompose.new.types c.recompose-2.new.types c.recompose.ensures.keeps c.recompose-2.ensures.keeps in
    keeps_on c.args.scopes.now c.recompose-2.new.scopes c.note.new.scopes c.args.types.now c.recompose-2.new.types c.recompose-2.new.types k c.note.ensures.keeps

pub returns-clause-grows : goal.returns-clause-grows
returns-clause-grows c = grows_on c.args.types.now c.recompose.new.types c.recompose-2.new.types c.recompose.ensures.grows c.recompose-2.ensures.grows
