-- What a fault of a description's text or of its tail gives as the answer to the text: the refusal that tells its line
-- with its name or its limit. Want of memory is no refusal.
use Rattle.lcc_base.specs.declared.which.Which.TheVariants as which
use Rattle.lburg_faults.specs.declared.desc_fault.DescFault.{DescFault}
use Rattle.lburg_faults.specs.declared.desc_fault.DescFault.TheVariants as description
use Rattle.lburg_trees.specs.declared.tree_fault.TreeFault.{TreeFault}
use Rattle.lburg_trees.specs.declared.tree_fault.TreeFault.TheVariants as tree
use Rattle.outcomes.specs.declared.fault_name.FaultName.TheVariants as name
use Rattle.outcomes.specs.declared.outcome.Refusal.TheVariants.{Fault, Limit}
use Rattle.lburg_tool.specs.declared.text_fault.TextFault.{TextFault}
use Rattle.lburg_tool.specs.declared.text_fault.TextFault.TheVariants.{Refused, Memory}

abbrev pub of_description : DescFault → TextFault
of_description (description.BadToken n) = Refused (Fault n name.BadToken)
of_description (description.BadRule n) = Refused (Fault n name.BadRule)
of_description (description.UnknownTerminal n) = Refused (Fault n name.UnknownTerminal)
of_description (description.DoubleTerminal n) = Refused (Fault n name.DoubleTerminal)
of_description (description.ArityDiffers n) = Refused (Fault n name.ArityDiffers)
of_description (description.UnknownNonterminal n) = Refused (Fault n name.UnknownNonterminal)
of_description (description.CostForm n) = Refused (Fault n name.CostForm)
of_description (description.CostTooLarge n) = Refused (Fault n name.CostTooLarge)
of_description (description.Limit n passed) = Refused (Limit n passed)
of_description description.Memory = Memory

abbrev pub of_trees : TreeFault → TextFault
of_trees (tree.BadTree n) = Refused (Fault n name.BadTree)
of_trees (tree.UnknownOp n) = Refused (Fault n name.UnknownOp)
of_trees (tree.WrongArity n) = Refused (Fault n name.WrongArity)
of_trees (tree.TooLarge n) = Refused (Limit n which.Nodes)
of_trees (tree.TooHigh n) = Refused (Limit n which.Height)
of_trees tree.Memory = Memory
