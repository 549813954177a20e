use Rattle.lburg_tool.proofs.cover.cover_tree.Goals as goal

pub print_covered-requires-clause-best : goal.print_covered-requires-clause-best
print_covered-requires-clause-best g c =
    let (x, best, sum, count) = c.in-Some.ensures.some _ c.label.ensures.labelled in (x, best, sum)
