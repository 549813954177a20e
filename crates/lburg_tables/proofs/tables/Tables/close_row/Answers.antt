use Rattle.std.proofs.Common.{List, length, sym, ap, subst, arith}
use Rattle.lburg_model.specs.Description.{MDescription}
use Rattle.lburg_model.specs.declared.rule.Rule.{Rule}
use Rattle.lburg_tables.specs.AreRules.{AreRules}
use Rattle.lburg_tables.proofs.lemmas.AreRules.{are_rules}
use Rattle.lburg_tables.proofs.tables.Tables.close_row.Goals as goal

pub close_row-requires-clause-are : goal.close_row-requires-clause-are
close_row-requires-clause-are g c =
    let d = c.self.inside.description.now in
    let wide = length c.args.row.now in
    let names = ap (λ (z : MDescription). length z.nonterminals) c.self.view_is in
    let enough = c.requires.wide in
    let F : List Rule → Type 0 = λ rs. AreRules rs wide in
    subst F (sym c.rules.ensures.value) (are_rules d wide c.rules.ensures.is (omega arith) c.requires.narrow)
