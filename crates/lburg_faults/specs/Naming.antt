-- What is noted of names while a line of the rules is read from its left, and what a name adds.
use Rattle.std.specs.Prelude.{◌≡◌, ◌≤◌, ◌<◌, ◌⊎◌, ℕ, ◌+◌, max, Bool, true, false, Option, Some, None, List, length}
use Rattle.lcc_base.specs.declared.which.Which.TheVariants as which
use Rattle.lcc_text.specs.Names.{with_name}
use Rattle.lburg_lines.specs.Sections.{TokenLine}
use Rattle.lburg_faults.specs.declared.line_fault.LineFault.{LineFault}
use Rattle.lburg_faults.specs.declared.line_fault.LineFault.TheVariants as fault
use Rattle.lburg_faults.specs.declared.found.Found.{Found}
use Rattle.lburg_faults.specs.Terminals.{Among}
use Rattle.lburg_faults.specs.Mentions.{MentionedBefore}
use Rattle.lburg_faults.specs.Limits.{AreDistinct}
use Rattle.lburg_faults.specs.Setting.{Setting}
use Rattle.lburg_faults.specs.Scans.{IsFirstOf, NoneOf, NameRows}

-- the names are those that the lines before and this one before the place mention, and no fault of names stands before it
pub record NamedBefore (s : Setting) (l : TokenLine) (place : ℕ) (names : List (List ℕ)) : Type 0 where
  pub mentioned : (name : List ℕ) → MentionedBefore s l place name → Among name names
  pub mentions : (name : List ℕ) → Among name names → MentionedBefore s l place name
  pub once : AreDistinct names
  pub few : length names ≤ 127
  pub none : NoneOf NameRows s l place

-- among nonterminals of these names one of this name stands, or finds room
abbrev pub Fits : List (List ℕ) → List ℕ → Type 0
Fits names name = (Among name names → ⊥) → length names < 127

-- a name that fits is added
pub record Adds (old : List (List ℕ)) (name : List ℕ) (new : List (List ℕ)) : Type 0 where
  pub fits : Fits old name
  pub names : new ≡ with_name old name

-- a name that doesn't fit
abbrev pub IsTooMany : List (List ℕ) → List ℕ → Type 0
IsTooMany names name = (127 ≤ length names) × (Among name names → ⊥)

-- what a left side gave, where so many rules stand before
abbrev pub LeftGives : List (List ℕ) → List (List ℕ) → ℕ → List ℕ → List (List ℕ) → Option LineFault → Type 0
LeftGives terminals old rules name new None = (Among name terminals → ⊥) × Adds old name new × (rules < 4095)
LeftGives terminals old rules name new (Some fault.BadRule) = Among name terminals
LeftGives terminals old rules name new (Some (fault.Limit which.Nonterminals)) = (Among name terminals → ⊥) × IsTooMany old name
LeftGives terminals old rules name new (Some (fault.Limit which.Rules)) = (Among name terminals → ⊥) × Fits old name × (4095 ≤ rules)
LeftGives terminals old rules name new (Some other) = ⊥

-- what a name of a pattern gave, behind which operands stand or don't
abbrev pub NodeGives : List (List ℕ) → List (List ℕ) → List ℕ → Bool → List (List ℕ) → Option LineFault → Type 0
NodeGives terminals old name operands new None = (Among name terminals × (new ≡ old)) ⊎ ((Among name terminals → ⊥) × (operands ≡ false) × Adds old name new)
NodeGives terminals old name operands new (Some fault.UnknownTerminal) = (Among name terminals → ⊥) × (operands ≡ true)
NodeGives terminals old name operands new (Some (fault.Limit which.Nonterminals)) = (Among name terminals → ⊥) × (operands ≡ false) × IsTooMany old name
NodeGives terminals old name operands new (Some other) = ⊥

-- what the token at the place gave
abbrev pub TokenGives : Setting → TokenLine → ℕ → List (List ℕ) → Option LineFault → Type 0
TokenGives s l place new None = NamedBefore s l (place + 1) new
TokenGives s l place new (Some fault) = IsFirstOf NameRows s l (place + 1) (record { place = place; fault = fault })

-- what the tokens of a pattern before its end gave
abbrev pub NodesGive : Setting → TokenLine → ℕ → List (List ℕ) → Option Found → Type 0
NodesGive s l end new None = NamedBefore s l (max 2 end) new
NodesGive s l end new (Some found) = IsFirstOf NameRows s l end found
