-- The faults that names have, in the groups in which they are looked for.
use Rattle.std.specs.Prelude.{◌<◌, ◌⊎◌, ℕ, Option, Some, None}
use Rattle.lcc_base.specs.declared.which.Which.TheVariants as which
use Rattle.lburg_lines.specs.Sections.{TokenLine}
use Rattle.lburg_faults.specs.declared.line_fault.LineFault.{LineFault}
use Rattle.lburg_faults.specs.declared.line_fault.LineFault.TheVariants as fault
use Rattle.lburg_faults.specs.declared.found.Found.{Found}
use Rattle.lburg_faults.specs.Setting.{Setting}
use Rattle.lburg_faults.specs.BadRule.{IsSecondStart, IsTerminalStart, IsTerminalLeft}
use Rattle.lburg_faults.specs.UnknownTerminal.{IsUnknownTerminal}
use Rattle.lburg_faults.specs.DoubleTerminal.{IsDoubleTerminal}
use Rattle.lburg_faults.specs.ArityDiffers.{IsArityDiffers}
use Rattle.lburg_faults.specs.Limits.{IsTerminalLimit, IsNonterminalLimit, IsRuleLimit, IsNumberLimit}
use Rattle.lburg_faults.specs.LineFaults.{row_of}
use Rattle.lburg_faults.specs.Knowing.{NotRight}

-- faults by a table of some rows
abbrev pub Rows : Type 1
Rows = LineFault → Setting → TokenLine → ℕ → Type 0

-- of a line of declarations
abbrev pub DeclarationRows : Rows
DeclarationRows fault.BadRule s l place = IsSecondStart s l place ⊎ IsTerminalStart s l place
DeclarationRows fault.DoubleTerminal s l place = IsDoubleTerminal s l place
DeclarationRows (fault.Limit which.Terminals) s l place = IsTerminalLimit s l place
DeclarationRows (fault.Limit which.Nonterminals) s l place = IsNonterminalLimit s l place
DeclarationRows (fault.Limit which.Number) s l place = IsNumberLimit l place
DeclarationRows other s l place = ⊥

-- of the names of a rule
abbrev pub NameRows : Rows
NameRows fault.BadRule s l place = IsTerminalLeft s l place
NameRows fault.UnknownTerminal s l place = IsUnknownTerminal s l place
NameRows (fault.Limit which.Nonterminals) s l place = IsNonterminalLimit s l place
NameRows (fault.Limit which.Rules) s l place = IsRuleLimit s l place
NameRows other s l place = ⊥

-- of their operands
abbrev pub UseRows : Rows
UseRows fault.ArityDiffers s l place = IsArityDiffers s l place
UseRows other s l place = ⊥

-- the fault of these rows stands before the bound, and none of them stands before it
pub record IsFirstOf (rows : Rows) (s : Setting) (l : TokenLine) (bound : ℕ) (found : Found) : Type 0 where
  pub within : found.place < bound
  pub stands : rows found.fault s l found.place
  pub least : (other : LineFault) (q : ℕ) → rows other s l q → NotRight found.place (row_of found.fault) q (row_of other)

-- none of these rows stands before the bound
abbrev pub NoneOf : Rows → Setting → TokenLine → ℕ → Type 0
NoneOf rows s l bound = (other : LineFault) (q : ℕ) → q < bound → rows other s l q → ⊥

-- what was looked for before the bound
abbrev pub Scanned : Rows → Setting → TokenLine → ℕ → Option Found → Type 0
Scanned rows s l bound (Some found) = IsFirstOf rows s l bound found
Scanned rows s l bound None = NoneOf rows s l bound
