use Rattle.std.proofs.Common.{refl}
use Rattle.c_stmt_parts.proofs.BodyParts.{behind_seen, behind_within}
use Rattle.c_stmt_parts.proofs.body.Body.declare.Goals as goal

pub returns-clause-declared : goal.returns-clause-declared
returns-clause-declared c = λ t. behind_seen t c.args.self.now c.args.what _ (record { marks = refl; cases = refl; default = refl; lost = refl; locals = c.in_ok-push_all.ensures; objects = c.in_ok-push_all-2.ensures; linked = c.in_ok-push_all-3.ensures })

pub returns-clause-within : goal.returns-clause-within
returns-clause-within c = λ n i j. behind_within n c.args.self.now c.args.what _ (record { marks = refl; cases = refl; default = refl; lost = refl; locals = c.in_ok-push_all.ensures; objects = c.in_ok-push_all-2.ensures; linked = c.in_ok-push_all-3.ensures }) i j
