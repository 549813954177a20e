use Rattle.std.proofs.Common.{ap, sym, ◌∙◌}
use Rattle.c_units.specs.Definitions.{names_of}
use Rattle.c_units.specs.Functions.{parameter_types, scope_of}
use Rattle.c_check_function.proofs.OwnSteps.{own_seen, split_in}
use Rattle.c_check_function.proofs.parameters.own_parameters.Goals as goal

pub returns-in-Some-clause-scope : goal.returns-in-Some-clause-scope
returns-in-Some-clause-scope c = λ t. c.parameters_of.ensures.scope t ∙ sym (ap scope_of (own_seen t c.args.steps c.pop.new.self.items c.in-Some.own (sym c.into_vec-steps.ensures ∙ c.in-Some.ensures.items)))

pub returns-in-Some-clause-names : goal.returns-in-Some-clause-names
returns-in-Some-clause-names c = λ t. c.parameters_of.ensures.names t ∙ sym (ap names_of (own_seen t c.args.steps c.pop.new.self.items c.in-Some.own (sym c.into_vec-steps.ensures ∙ c.in-Some.ensures.items)))

pub returns-in-Some-clause-types : goal.returns-in-Some-clause-types
returns-in-Some-clause-types c = λ t s. c.parameters_of.ensures.types t s ∙ sym (ap (parameter_types s) (own_seen t c.args.steps c.pop.new.self.items c.in-Some.own (sym c.into_vec-steps.ensures ∙ c.in-Some.ensures.items)))

pub returns-in-Some-clause-within : goal.returns-in-Some-clause-within
returns-in-Some-clause-within c = λ n h. c.parameters_of.ensures.within n (split_in n c.args.steps c.pop.new.self.items c.in-Some.own (sym c.into_vec-steps.ensures ∙ c.in-Some.ensures.items) h).0

pub returns-clause-within : goal.returns-clause-within
returns-clause-within c = λ n h. c.nothing.ensures.within n
