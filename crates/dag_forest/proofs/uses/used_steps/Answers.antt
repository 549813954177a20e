use Rattle.std.proofs.Common.{List, [], replicate, sym, ap, ◌∙◌, arith, length, ◌≤◌}
use Rattle.std.proofs.lemmas.List.{at_drop_all}
use Rattle.dag_forest.specs.declared.kids.Kids.TheVariants.{Zero}
use Rattle.dag_forest.specs.Schedules.{Act}
use Rattle.dag_forest.specs.Walks.{no_use, walk}
use Rattle.dag_forest.proofs.Walked.{walked}
use Rattle.dag_forest.proofs.uses.used_steps.Goals as goal

pub returns : goal.returns
returns c =
    let end : length c.as_slice-backwards.result.now ≤ c.loop-act.act-index = omega (arith, c.loop-act-test.false) in
    let done = at_drop_all (λ (rest : List Act). walk rest c.loop-act.uses.items c.loop-act.ends c.loop-act.next c.loop-act.steps.items) c.as_slice-backwards.result.now c.loop-act.act-index end in
    c.reverse-2.ensures.items
    ∙ walked c.args.nodes c.args.acts.items c.loop-act.steps.items c.requires
    (sym done ∙ c.loop-act.invariant.walked ∙ ap (λ (l : List Act). walk l (replicate c.args.nodes no_use) 0 Zero []) (c.as_slice-backwards.ensures.value ∙ c.reverse.ensures.items))
