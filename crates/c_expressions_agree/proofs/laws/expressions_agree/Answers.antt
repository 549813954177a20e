use Rattle.c_expressions_agree.proofs.lemmas.Expressions.{expressions_agree}
use Rattle.c_expressions_agree.proofs.laws.expressions_agree.Goals as goal

pub returns : goal.returns
returns c = expressions_agree
    (record {
      plain = c.plain_expressions_agree.ensures;
      conversions = c.dropped_parts_agree.ensures.conversions;
      commas = c.dropped_parts_agree.ensures.commas;
      performed_commas = c.dropped_parts_agree.ensures.performed;
      scalars = c.scalars_are_tested.ensures;
      negations = c.connectives_are_tested.ensures.negations;
      conjunctions = c.connectives_are_tested.ensures.conjunctions;
      disjunctions = c.connectives_are_tested.ensures.disjunctions;
      comparisons = c.comparisons_are_tested.ensures;
      truths = c.truths_are_lowered.ensures;
      conditionals = c.conditionals_are_lowered.ensures.valued;
      void_conditionals = c.conditionals_are_lowered.ensures.void;
      calls = c.calls_are_lowered.ensures.valued;
      void_calls = c.calls_are_lowered.ensures.void;
    })
