use Rattle.c_check_decl.proofs.lemmas.DeclaresStay.{IsTogether, together_seen, together_within}
use Rattle.c_check_decl.proofs.declares.together.Goals as goal

pub returns-clause-is : goal.returns-clause-is
returns-clause-is c = λ t. together_seen t c.args.before c.args.more _ (record { objects = c.in_ok-appended.ensures; locals = c.in_ok-appended-2.ensures; fills = c.in_ok-appended-3.ensures; linked = c.in_ok-appended-4.ensures })

pub returns-clause-within : goal.returns-clause-within
returns-clause-within c = λ n. together_within n c.args.before c.args.more _ (record { objects = c.in_ok-appended.ensures; locals = c.in_ok-appended-2.ensures; fills = c.in_ok-appended-3.ensures; linked = c.in_ok-appended-4.ensures })
