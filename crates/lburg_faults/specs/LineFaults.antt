-- The faults of a line of a description, in the order of the table: which stands where.
use Rattle.std.specs.Prelude.{ℕ}
use Rattle.lcc_base.specs.declared.which.Which.{Which}
use Rattle.lcc_base.specs.declared.which.Which.TheVariants as which
use Rattle.lburg_lines.specs.Sections.{TokenLine}
use Rattle.lburg_faults.specs.declared.line_fault.LineFault.{LineFault}
use Rattle.lburg_faults.specs.declared.line_fault.LineFault.TheVariants.{BadToken, BadRule, UnknownTerminal, DoubleTerminal, ArityDiffers, CostForm, CostTooLarge, Limit}
use Rattle.lburg_faults.specs.Setting.{Setting}
use Rattle.lburg_faults.specs.BadToken.{IsBadToken}
use Rattle.lburg_faults.specs.BadRule.{IsBadRule}
use Rattle.lburg_faults.specs.UnknownTerminal.{IsUnknownTerminal}
use Rattle.lburg_faults.specs.DoubleTerminal.{IsDoubleTerminal}
use Rattle.lburg_faults.specs.ArityDiffers.{IsArityDiffers}
use Rattle.lburg_faults.specs.CostForm.{IsCostForm}
use Rattle.lburg_faults.specs.CostTooLarge.{IsCostTooLarge}
use Rattle.lburg_faults.specs.Limits.{IsLimit}

abbrev pub Stands : LineFault → Setting → TokenLine → ℕ → Type 0
Stands BadToken s l place = IsBadToken l place
Stands BadRule s l place = IsBadRule s l place
Stands UnknownTerminal s l place = IsUnknownTerminal s l place
Stands DoubleTerminal s l place = IsDoubleTerminal s l place
Stands ArityDiffers s l place = IsArityDiffers s l place
Stands CostForm s l place = IsCostForm l place
Stands CostTooLarge s l place = IsCostTooLarge l place
Stands (Limit w) s l place = IsLimit w s l place

-- Limits at one token go in the order: terminals, nonterminals, rules, nodes of a pattern, numbers of terminals.
abbrev pub limit_row : Which → ℕ
limit_row which.Terminals = 9
limit_row which.Nonterminals = 10
limit_row which.Rules = 11
limit_row which.Pattern = 12
limit_row which.Number = 13
limit_row other = 14

-- the rows of the table
abbrev pub row_of : LineFault → ℕ
row_of BadToken = 1
row_of BadRule = 2
row_of UnknownTerminal = 3
row_of DoubleTerminal = 4
row_of ArityDiffers = 5
row_of CostForm = 7
row_of CostTooLarge = 8
row_of (Limit w) = limit_row w
