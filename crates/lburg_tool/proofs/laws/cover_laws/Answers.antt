use Rattle.lburg_tool.proofs.Apart.{TextLaws, cover_apart, cover_one}
use Rattle.lburg_tool.proofs.laws.cover_laws.Goals as goal

pub returns-clause-apart : goal.returns-clause-apart
returns-clause-apart c =
    let laws : TextLaws = record { one_fault = c.one_fault.ensures.one; no_fault = c.one_fault.ensures.none; one_description = c.one_description.ensures; one_tree_fault = c.one_tree_fault.ensures.one; no_tree_fault = c.one_tree_fault.ensures.none } in
    cover_apart laws

pub returns-clause-one : goal.returns-clause-one
returns-clause-one c =
    let laws : TextLaws = record { one_fault = c.one_fault.ensures.one; no_fault = c.one_fault.ensures.none; one_description = c.one_description.ensures; one_tree_fault = c.one_tree_fault.ensures.one; no_tree_fault = c.one_tree_fault.ensures.none } in
    cover_one laws
