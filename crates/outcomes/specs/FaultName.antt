-- The names of the faults of texts, as the report tells them.
use Rattle.std.specs.Prelude.{ℕ, List, codes}
use Rattle.outcomes.specs.declared.fault_name.FaultName.{FaultName}
use Rattle.outcomes.specs.declared.fault_name.FaultName.TheVariants as name

abbrev pub fault_name : FaultName → List ℕ
fault_name name.BadToken = codes "BadToken"
fault_name name.BadRule = codes "BadRule"
fault_name name.UnknownTerminal = codes "UnknownTerminal"
fault_name name.DoubleTerminal = codes "DoubleTerminal"
fault_name name.ArityDiffers = codes "ArityDiffers"
fault_name name.UnknownNonterminal = codes "UnknownNonterminal"
fault_name name.CostForm = codes "CostForm"
fault_name name.CostTooLarge = codes "CostTooLarge"
fault_name name.BadTree = codes "BadTree"
fault_name name.UnknownOp = codes "UnknownOp"
fault_name name.WrongArity = codes "WrongArity"
fault_name name.BadLine = codes "BadLine"
fault_name name.UnknownInstruction = codes "UnknownInstruction"
fault_name name.BadOperand = codes "BadOperand"
fault_name name.DoubleLabel = codes "DoubleLabel"
fault_name name.UnknownLabel = codes "UnknownLabel"
fault_name name.BadByte = codes "BadByte"
fault_name name.BadConstant = codes "BadConstant"
fault_name name.OpenComment = codes "OpenComment"
fault_name name.OpenText = codes "OpenText"
fault_name name.FloatConstant = codes "FloatConstant"
fault_name name.WideConstant = codes "WideConstant"
fault_name name.NoParse = codes "NoParse"
