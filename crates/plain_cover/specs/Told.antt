-- What is told of derivations: cost, count and numbers in preorder.
use Rattle.std.specs.Prelude.{ℕ, ◌+◌, List, [], ◌∷◌, ◌++◌}
use Rattle.lburg_model.specs.declared.rule.Rule.{Rule}
use Rattle.lburg_model.specs.Derivation.{MDerivation, MParts, cost, costs, count, counts, numbers, numbers_in}
use Rattle.plain_cover.specs.declared.plain.Found.{Found}

abbrev pub told : List Rule → MDerivation → Found
told rules x = record { cost = cost rules x; count = count x; numbers = numbers x }

-- of the parts of a derivation together
abbrev pub told_of_parts : List Rule → MParts → Found
told_of_parts rules xs = record { cost = costs rules xs; count = counts xs; numbers = numbers_in xs }

abbrev pub told_of_none : Found
told_of_none = record { cost = 0; count = 0; numbers = [] }

-- one after the other
abbrev pub told_of_both : Found → Found → Found
told_of_both f g = record { cost = f.cost + g.cost; count = f.count + g.count; numbers = f.numbers ++ g.numbers }

-- a rule of this number and cost, applied to parts
abbrev pub told_of_rule : ℕ → ℕ → Found → Found
told_of_rule number cost f = record { cost = cost + f.cost; count = 1 + f.count; numbers = number ∷ f.numbers }
