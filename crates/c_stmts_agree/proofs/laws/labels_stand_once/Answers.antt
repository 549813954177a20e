use Rattle.c_stmts_agree.proofs.lemmas.Followed.{labels_stand}
use Rattle.c_stmts_agree.proofs.lemmas.Once.{marked_once}
use Rattle.c_stmts_agree.proofs.laws.labels_stand_once.Goals as goal

pub returns-clause-once : goal.returns-clause-once
returns-clause-once c g u order number tables f is apart within done rest n e = marked_once c.labels_are_marked.ensures.functions c.labels_are_used.ensures.functions g u order number tables f is apart within done rest n e

pub returns-clause-there : goal.returns-clause-there
returns-clause-there c s u order number tables f is apart n lt = labels_stand c.labels_are_marked.ensures.functions s u order number tables f is apart n lt
