use Rattle.std.proofs.Common.{◌<◌, List, length, sym, ap, ◌∙◌, subst, arith}
use Rattle.std.proofs.lemmas.List.{get_or_default}
use Rattle.lburg_model.specs.Description.{MDescription}
use Rattle.lburg_tables.specs.BestChains.{AreBest}
use Rattle.lburg_tables.specs.declared.best_chain.BestChain.{BestChain}
use Rattle.lburg_tables.proofs.tables.Tables.best_chains.Goals as goal

pub returns : goal.returns
returns c =
    let t = c.self.inside in
    let table = c.self.invariant.best in
    let names = ap (λ (d : MDescription). length d.nonterminals) c.self.view_is in
    let wide = table.wide in
    let asked = c.requires in
    let inside : c.args.from < length t.chains.items = omega arith in
    let Of : MDescription → Type 0 = λ d. AreBest d c.args.from c.as_slice.result.now in
    let Is : List BestChain → Type 0 = λ l. AreBest t.description.now c.args.from l in
    let is = c.as_slice.ensures ∙ c.index.ensures ∙ sym (get_or_default _ _ _ _ inside) in
    subst Of c.self.view_is (subst Is (sym is) (table.best c.args.from inside))
