use Rattle.c_decl.proofs.Exits.{typedef_next}
use Rattle.c_decl.proofs.next.begins_specifier.Goals as goal

pub returns-in-Name : goal.returns-in-Name
returns-in-Name c = typedef_next c.args.p.now c.in-Some.token _ c.names_type.result c.in-Name.is c.in-Some.ensures.some c.names_type.ensures
