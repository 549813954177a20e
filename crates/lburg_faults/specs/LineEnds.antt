-- How a line ends: by what names mean, or else by its grammar.
use Rattle.std.specs.Prelude.{◌≡◌, ◌<◌, ◌⊎◌, ◌+◌, Option, Some, None}
use Rattle.std.specs.declared.result.Result.{Result}
use Rattle.std.specs.declared.result.Result.TheVariants.{Ok, Err}
use Rattle.lburg_lines.specs.declared.line.Line.{Line}
use Rattle.lburg_lines.specs.declared.section.Section.{Section}
use Rattle.lburg_lines.specs.declared.section.Section.TheVariants.{Prologue, Tail}
use Rattle.lburg_lines.specs.Grammar.{MLine, MRule, Ruled}
use Rattle.lburg_faults.specs.declared.found.Found.{Found}
use Rattle.lburg_faults.specs.declared.known.Known.{Known}
use Rattle.lburg_faults.specs.declared.line_fault.LineFault.{LineFault}
use Rattle.lburg_faults.specs.declared.line_check.LineError.{LineError}
use Rattle.lburg_faults.specs.declared.line_check.LineError.TheVariants.{Fault}
use Rattle.lburg_faults.specs.Scans.{Rows, NameRows, UseRows}

-- a section whose lines declare and name nothing
abbrev pub IsSilent : Section → Type 0
IsSilent Prologue = Unit {0}
IsSilent Tail = Unit {0}
IsSilent section = ⊥

-- of the names of a rule, or of their operands
abbrev pub RuleRows : Rows
RuleRows fault s l place = NameRows fault s l place ⊎ UseRows fault s l place

-- the fault that was found is the line's, or, where none was, that of the grammar
abbrev pub FailsBy : Option Found → Result Line LineFault → LineError → Type 0
FailsBy (Some found) line e = e ≡ Fault found.fault
FailsBy None (Err fault) e = e ≡ Fault fault
FailsBy None (Ok line) e = ⊥

-- a rule is counted, and nothing else changes
pub record Counts (line : MLine) (old new : Known) : Type 0 where
  pub terminals : new.terminals ≡ old.terminals
  pub numbers : new.numbers ≡ old.numbers
  pub arities : new.arities ≡ old.arities
  pub nonterminals : new.nonterminals ≡ old.nonterminals
  pub start : new.start ≡ old.start
  pub rule : (r : MRule) → line ≡ Ruled r → old.rules < 4095 → new.rules ≡ old.rules + 1
  pub other : ((r : MRule) → line ≡ Ruled r → ⊥) → new.rules ≡ old.rules
