-- Statements that can be written: their names are names, their lists of items aren't empty, and none is aligned to more
-- than 2^4 bytes.
use Rattle.std.specs.Prelude.{◌≢◌, ◌≤◌, ℕ, Option, Some, None, List, [], All}
use Rattle.asm_lines.specs.declared.instruction.Target.{Target}
use Rattle.asm_lines.specs.declared.instruction.Target.TheVariants as target
use Rattle.asm_lines.specs.declared.instruction.Instruction.{Instruction}
use Rattle.asm_lines.specs.declared.instruction.Instruction.TheVariants.{LoadAddress, Load, Store, Branch, BranchIf, Jump, Call}
use Rattle.asm_lines.specs.Tokens.{IsName}
use Rattle.asm_lines.specs.Statements.{MStatement, Global, Align, Words, Halves, Bytes, Does}

-- a name, if there is one
abbrev pub IsNamed : Option (List ℕ) → Type 0
IsNamed None = Unit {0}
IsNamed (Some name) = IsName name

abbrev pub IsTargetNamed : Target (List ℕ) → Type 0
IsTargetNamed (target.Label name) = IsName name
IsTargetNamed (target.Register r) = Unit {0}

abbrev pub AreInstructionNames : Instruction (List ℕ) → Type 0
AreInstructionNames (LoadAddress d a) = IsNamed a.name
AreInstructionNames (Load op d a) = IsNamed a.name
AreInstructionNames (Store op s a) = IsNamed a.name
AreInstructionNames (Branch name) = IsName name
AreInstructionNames (BranchIf c s t name) = IsName name
AreInstructionNames (Jump to) = IsTargetNamed to
AreInstructionNames (Call to) = IsTargetNamed to
AreInstructionNames i = Unit {0}

-- the names in the statement are names
abbrev pub AreNames : MStatement → Type 0
AreNames (Global name) = IsName name
AreNames (Words items) = All (λ item. IsNamed item.0) items
AreNames (Does i) = AreInstructionNames i
AreNames s = Unit {0}

-- a line has its operands
abbrev pub HasRow : MStatement → Type 0
HasRow (Align n) = n ≤ 4
HasRow (Words items) = items ≢ []
HasRow (Halves halves) = halves ≢ []
HasRow (Bytes bytes) = bytes ≢ []
HasRow s = Unit {0}

abbrev pub IsPrintable : MStatement → Type 0
IsPrintable s = AreNames s × HasRow s
