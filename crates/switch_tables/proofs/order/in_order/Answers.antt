use Rattle.std.proofs.Common.{rules, subst}
use Rattle.std.proofs.lemmas.List.Sorted.{IsNonDecreasingBy-from_sort_by_key}
use Rattle.std.specs.List.Sorted.{IsPermutation}
use Rattle.c_meaning.specs.declared.core_stmt.CoreCase.{CoreCase}
use Rattle.switch_tables.specs.Order.{rank}
use Rattle.switch_tables.proofs.lemmas.Sorting.{sorted_is}
use Rattle.switch_tables.proofs.order.in_order.Goals as goal

pub returns-clause-sorted : goal.returns-clause-sorted
returns-clause-sorted c =
    let old = c.in_ok-sorted.ensures.same in
    let same = subst (λ l. IsPermutation l c.sort_unstable_by_key.new.self.items) old c.sort_unstable_by_key.ensures.permutation in
    let up = IsNonDecreasingBy-from_sort_by_key (λ (d : CoreCase). rank c.args.signed d.number) _ c.sort_unstable_by_key.ensures.sorted (λ a r q k. search rules) in
    sorted_is c.args.signed c.args.cases.now c.sort_unstable_by_key.new.self.items c.in_ok-sorted.ensures.words c.requires same up
