use Rattle.c_tests_agree.proofs.lemmas.Branching.{branch_comes}
use Rattle.c_tests_agree.proofs.lemmas.Jumping.{jumps_are_taken}
use Rattle.c_tests_agree.proofs.laws.branches_are_taken.Goals as goal

pub returns-clause-branches : goal.returns-clause-branches
returns-clause-branches c s locals body once start turns m le f map old values w k st r when is n within_a within_b settled_a settled_b moving h slots t =
    branch_comes c.narrow_operators_give_narrow_words.ensures.chars c.narrow_operators_give_narrow_words.ensures.shorts c.split_trees_mean.ensures.turns s once locals body start turns m le f map old values w k st r when is n within_a within_b settled_a settled_b moving h slots t

pub returns-clause-jumps : goal.returns-clause-jumps
returns-clause-jumps c = jumps_are_taken c.narrow_operators_give_narrow_words.ensures.chars c.narrow_operators_give_narrow_words.ensures.shorts c.split_trees_mean.ensures.turns
