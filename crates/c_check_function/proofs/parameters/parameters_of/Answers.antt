use Rattle.std.proofs.Common.{◌≡◌, true, inl, inr, ap, ◌∙◌}
use Rattle.c_check_function.proofs.StepsStay.{lists_none, no_names, no_scope, no_types}
use Rattle.c_check_function.proofs.parameters.parameters_of.Goals as goal

pub returns : goal.returns
returns c =
    let p = c.args.step in
    let none : lists_none p ≡ true = elim c.in-Open.is [
      | inl e ↦ ap lists_none e
      | inr h ↦ elim h [
        | inl k ↦ ap lists_none k.1
        | inr k ↦ ap lists_none k.1
      ]
    ] in
    record {
      scope = λ t. c.nothing.ensures.scope ∙ no_scope t p none;
      names = λ t. c.nothing.ensures.names ∙ no_names t p none;
      types = λ t s. c.nothing.ensures.types t s ∙ no_types t s p none;
      within = λ n h. c.nothing.ensures.within n;
    }
