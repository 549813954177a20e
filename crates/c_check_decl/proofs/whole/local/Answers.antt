use Rattle.std.proofs.Common.{length}
use Rattle.c_types.specs.Table.{type_at}
use Rattle.c_check_decl.proofs.lemmas.DeclaresStay.{local_seen, one_local}
use Rattle.c_check_decl.proofs.whole.local.Goals as goal

pub returns-clause-is : goal.returns-clause-is
returns-clause-is c = λ i e.
    let t = c.args.types.now in
    local_seen t c.nothing-all.result c.args.n.now.of c.push.new.self c.in_ok-all.field-0 _ (c.nothing-all.ensures.is t) c.in_ok-push.ensures.ok (c.in_ok-all.ensures.is t (type_at t c.args.n.now.of) i e)

pub returns-clause-within : goal.returns-clause-within
returns-clause-within c =
    let n = length c.args.types.now.forms in
    one_local n c.nothing-all.result c.args.n.now.of c.push.new.self c.in_ok-all.field-0 c.in_ok-push.ensures.ok (c.nothing-all.ensures.within n) c.requires.of (c.in_ok-all.ensures.within n c.requires.filled)
