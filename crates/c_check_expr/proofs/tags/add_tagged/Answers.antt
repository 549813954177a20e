use Rattle.c_check_expr.proofs.TagStates.{added, state_counted}
use Rattle.c_check_expr.proofs.tags.add_tagged.Goals as goal

pub returns-in-Ok-clause-state : goal.returns-in-Ok-clause-state
returns-in-Ok-clause-state c = λ s i.
    let e = c.in-Ok.ensures in
    state_counted s c.args.types.now c.add.new.self c.args.form e.extends (added c.args.types.now c.add.new.self c.args.form c.in-Ok.id e.added c.requires) c.requires i
