use Rattle.first_form.specs.Grammar.{sign_of}
use Rattle.first_form.proofs.Cut.{same_begins}
use Rattle.first_form.proofs.expression_reader.operator_at.Goals as goal

pub returns-in_default-clause-none : goal.returns-in_default-clause-none
returns-in_default-clause-none c = λ op rest e b. c.in_default.ensures.none (sign_of op) rest b

pub returns-in-None-clause-none : goal.returns-in-None-clause-none
returns-in-None-clause-none c = λ op rest e b.
    c.in-None.ensures.none op e (same_begins c.args.bytes.now c.in-Some.token.now (sign_of op) c.in-Some.rest.now rest c.in-Some.ensures.some b).0
