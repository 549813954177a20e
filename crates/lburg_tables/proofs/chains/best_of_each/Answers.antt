use Rattle.std.proofs.Common.{◌≡◌, ◌+◌, ◌<◌, ◌++◌, ◌∷◌, [], ℕ, None, List, length, sym, ap, ◌∙◌, subst, arith}
use Rattle.std.specs.Prelude.{slice_index_or}
use Rattle.std.proofs.lemmas.List.{length-map, with_items_is}
use Rattle.lburg_model.specs.declared.rule.Rule.{Rule}
use Rattle.lburg_tables.specs.declared.best_chain.BestChain.{BestChain}
use Rattle.lburg_tables.specs.declared.cell.Cell.{Cell}
use Rattle.lburg_tables.specs.AreRules.{AreRules}
use Rattle.lburg_tables.proofs.lemmas.AreRules.{are_rules}
use Rattle.lburg_tables.specs.BestChains.{AreBest}
use Rattle.lburg_tables.specs.Listed.{Listed}
use Rattle.lburg_tables.specs.Row.{Closed}
use Rattle.lburg_tables.specs.RowOf.{seen, row_of}
use Rattle.lburg_tables.proofs.Chaining.{are_best, table_more}
use Rattle.lburg_tables.proofs.chains.best_of_each.Goals as goal

pub close_from-requires-clause-are : goal.close_from-requires-clause-are
close_from-requires-clause-are g c =
    let d = c.args.d.now in
    let wide = length c.deref_mut.result.now in
    let names = ap (λ (l : List (List ℕ)). length l) c.nonterminals-width.ensures.value in
    let most = c.rules.ensures.is.nonterminals in
    let same = c.loop-from.invariant.wide in
    let is = ap (λ (l : List Cell). length l) c.deref_mut.ensures.value in
    let F : List Rule → Type 0 = λ rs. AreRules rs wide in
    subst F (sym c.rules.ensures.value) (are_rules d wide c.rules.ensures.is (omega arith) (omega arith))

pub loop-from-preserved : goal.loop-from-preserved
loop-from-preserved g c =
    let d = c.args.d.now in
    let from = c.loop-from.from in
    let had = c.loop-from.invariant in
    let table = c.loop-from.table.items in
    let (origin, alone, closed) = c.close_from.ensures.closed in
    let row = row_of c.close_from.new.row in
    let names = ap (λ (l : List (List ℕ)). length l) c.nonterminals-width.ensures.value in
    let back = with_items_is c.loop-from.row c.close_from.new.row (c.close_from.auto.row ∙ c.deref_mut.ensures.len) in
    let same = c.close_from.auto.row in
    let is = ap (λ (l : List Cell). length l) c.deref_mut.ensures.value in
    let long = length-map c.close_from.new.row seen in
    let wide : length row ≡ length d.nonterminals = (let w = had.wide in omega arith) in
    let ByRules : List Rule → Type 0 = λ rs. Closed rs None origin row in
    let closed2 = subst ByRules c.rules.ensures.value closed in
    let Rows : List Cell → Type 0 = λ cells. Listed (row_of cells) from (length cells) c.in_ok-list_chains.field-0 in
    let listed = subst Rows (c.deref.ensures.value ∙ back) c.in_ok-list_chains.ensures in
    let Long : ℕ → Type 0 = λ k. Listed row from k c.in_ok-list_chains.field-0 in
    let best = are_best d from origin row alone closed2 wide c.in_ok-list_chains.field-0 (subst Long (sym long) listed) in
    let At : ℕ → Type 0 = λ m. AreBest d m c.in_ok-list_chains.field-0 in
    let Below : ℕ → Type 0 = λ k. (m : ℕ) → m < k → AreBest d m (slice_index_or table m []) in
    let more = table_more d table c.in_ok-list_chains.field-0 (subst Below (sym had.many) had.best) (subst At (sym had.many) best) in
    let Table : List (List BestChain) → Type 0 = λ l. (m : ℕ) → m < from + 1 → AreBest d m (slice_index_or l m []) in
    let Upto : ℕ → Type 0 = λ k. (m : ℕ) → m < k + 1 → AreBest d m (slice_index_or (table ++ c.in_ok-list_chains.field-0 ∷ []) m []) in
    record {
      idle = (let i = c.close_from.ensures.idle.0 in let w = had.wide in omega arith, c.close_from.ensures.idle.1);
      wide = (let w = had.wide in let e = ap (λ (l : List Cell). length l) back in omega arith);
      many = (let l = c.in_ok-push.ensures.len in let n = had.many in omega arith);
      best = subst Table (sym c.in_ok-push.ensures.items) (subst Upto had.many more);
    }
