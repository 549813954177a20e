use Rattle.std.proofs.Common.{IsTrue, false, refl}
use Rattle.lburg_tables.specs.ChainTries.{chain_tries}
use Rattle.lburg_tables.specs.RowOf.{row_of}
use Rattle.tree_labeller.specs.Tries.{TriedRules, TriedChains}
use Rattle.tree_labeller.proofs.merging.fill_from_base.Goals as goal

pub returns-then-has_ranged_chains-clause-steps : goal.returns-then-has_ranged_chains-clause-steps
returns-then-has_ranged_chains-clause-steps g c = (chain_tries (row_of c.close_row.new.row) c.args.tables.now.rules, TriedRules (c.if-has_ranged_chains.ensures.0 refl), c.close_row.ensures.steps)

pub returns-else-has_ranged_chains-clause-closed : goal.returns-else-has_ranged_chains-clause-closed
returns-else-has_ranged_chains-clause-closed g c = c.merge_chains.ensures.closed c.args.constant

pub returns-else-has_ranged_chains-clause-steps : goal.returns-else-has_ranged_chains-clause-steps
returns-else-has_ranged_chains-clause-steps g c =
    let (many, chains, steps) = c.merge_chains.ensures.steps in
    (many, TriedChains (λ ranged. let no : IsTrue false = c.if-has_ranged_chains.ensures.1 ranged in cc) chains, steps)
