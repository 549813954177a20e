-- How a line ends by its grammar alone.
use Rattle.std.specs.Prelude.{◌≡◌, ◌<◌, ◌≤◌, ℕ, ◌+◌, true, false, List, ◌++◌, length, take}
use Rattle.std.specs.declared.result.Result.{Result}
use Rattle.std.specs.declared.result.Result.TheVariants.{Ok, Err}
use Rattle.lcc_base.specs.declared.which.Which.TheVariants as which
use Rattle.lburg_lines.specs.declared.line.Line.{Line}
use Rattle.lburg_lines.specs.Tokens.{Tok}
use Rattle.lburg_lines.specs.Grammar.{IsLine, AreLineOf, line_of}
use Rattle.lburg_lines.specs.Sections.{TokenLine}
use Rattle.lburg_faults.specs.declared.line_fault.LineFault.{LineFault}
use Rattle.lburg_faults.specs.declared.line_fault.LineFault.TheVariants as fault
use Rattle.lburg_faults.specs.declared.ending.Ending.{Ending}
use Rattle.lburg_faults.specs.Lines.{has_template}
use Rattle.lburg_faults.specs.Breaks.{Breaks}
use Rattle.lburg_faults.specs.BadToken.{IsBadToken}
use Rattle.lburg_faults.specs.CostTooLarge.{IsCostTooLarge}
use Rattle.lburg_faults.specs.Limits.{IsPatternLimit}

-- some line of the section begins with the tokens before the place
abbrev pub IsBegun : TokenLine → ℕ → Type 0
IsBegun l place = (more : List Tok) × AreLineOf l.section (take place l.tokens ++ more)

-- no pattern has 17 names before the place
abbrev pub IsSmall : TokenLine → ℕ → Type 0
IsSmall l bound = (place : ℕ) → place < bound → IsPatternLimit l place → ⊥

-- the fault with which the grammar ends a line, where names count before the bound
abbrev pub EndsAt : TokenLine → ℕ → LineFault → Type 0
EndsAt l bound fault.BadToken = Breaks l bound × IsBadToken l bound
EndsAt l bound fault.BadRule = Breaks l bound × (IsBadToken l bound → ⊥) × (has_template (take bound l.tokens) ≡ false)
EndsAt l bound fault.CostForm = Breaks l bound × (IsBadToken l bound → ⊥) × (has_template (take bound l.tokens) ≡ true)
EndsAt l bound fault.CostTooLarge = AreLineOf l.section l.tokens × IsCostTooLarge l bound
EndsAt l bound (fault.Limit which.Pattern) = (place : ℕ) × (bound ≡ place + 1) × IsBegun l bound × IsPatternLimit l place
EndsAt l bound other = ⊥

abbrev pub EndsAs : TokenLine → ℕ → Result Line LineFault → Type 0
EndsAs l bound (Ok line) = (bound ≡ length l.tokens) × IsLine l.section l.tokens (line_of line) × ((place : ℕ) → IsCostTooLarge l place → ⊥)
EndsAs l bound (Err fault) = EndsAt l bound fault

-- the line ends so
pub record IsEnding (l : TokenLine) (e : Ending) : Type 0 where
  pub bound : e.bound ≤ length l.tokens
  pub ends : EndsAs l e.bound e.line
