-- What is read of a text, line by line.
use Rattle.std.specs.Prelude.{◌≡◌, ◌⊎◌, ℕ, ◌+◌, List, [], ◌∷◌, ◌++◌, map}
use Rattle.lburg_lines.specs.Tokens.{views}
use Rattle.lburg_lines.specs.Grammar.{MLine, Ruled, rule_of}
use Rattle.lburg_lines.specs.Sections.{TokenLine}
use Rattle.lburg_faults.specs.declared.section_line.SectionLine.{SectionLine}
use Rattle.lburg_faults.specs.declared.numbered_rules.NumberedRules.{NumberedRules}
use Rattle.lburg_faults.specs.declared.known.Known.{Known}
use Rattle.lburg_faults.specs.declared.line_fault.LineFault.{LineFault}
use Rattle.lburg_faults.specs.declared.desc_fault.DescFault.{DescFault}
use Rattle.lburg_faults.specs.declared.desc_fault.DescFault.TheVariants as desc
use Rattle.lburg_faults.specs.Setting.{Setting}
use Rattle.lburg_faults.specs.Terminals.{declared_in, names_of}
use Rattle.lburg_faults.specs.Knowing.{Knows, IsLineFault}
use Rattle.lburg_faults.specs.FirstFault.{NoneStands, told}
use Rattle.lburg_faults.specs.Written.{AreWritten, rules_in}

-- a line that was read into tokens
abbrev pub line_view : SectionLine → TokenLine
line_view l = record { section = l.section; tokens = views l.tokens.items }

abbrev pub lines_view : List SectionLine → List TokenLine
lines_view ls = map line_view ls

-- the numbers of the lines that are rules, where the first line has this number
abbrev pub rule_numbers : ℕ → List MLine → List ℕ
rule_numbers n [] = []
rule_numbers n (Ruled r ∷ ws) = n ∷ rule_numbers (n + 1) ws
rule_numbers n (w ∷ ws) = rule_numbers (n + 1) ws

-- the rules and the line with this number, where it is a rule
pub record AddsLine (old new : NumberedRules) (line : MLine) (number : ℕ) : Type 0 where
  pub lines : map rule_of new.lines.items ≡ map rule_of old.lines.items ++ rules_in (line ∷ [])
  pub numbers : new.numbers.items ≡ old.numbers.items ++ rule_numbers number (line ∷ [])

-- the rules are those of the lines, each with the number of its line
pub record AreRulesOf (lines : List TokenLine) (rules : NumberedRules) : Type 0 where
  pub written : List MLine
  pub are_written : AreWritten lines written
  pub rules_are : map rule_of rules.lines.items ≡ rules_in written
  pub numbers_are : rules.numbers.items ≡ rule_numbers 1 written

-- memory was refused, or this is the first fault of the line with this number
abbrev pub TellsLine : Setting → TokenLine → ℕ → DescFault → Type 0
TellsLine s l number fault = (fault ≡ desc.Memory) ⊎ ((place : ℕ) × (kind : LineFault) × IsLineFault s l place kind × (fault ≡ told kind number))

-- no fault stands in the lines, and this is what they say
pub record AreRead (lines : List TokenLine) (rules : NumberedRules) (known : Known) : Type 0 where
  pub none : NoneStands lines
  pub knows : Knows (names_of (declared_in lines)) lines known
  pub rules_of : AreRulesOf lines rules
