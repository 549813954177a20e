-- How labels and statements are printed: a label as its name and a colon, behind which the line goes on; a statement with
-- a tab before its word and before its first operand, commas without blanks between operands, registers by their numbers,
-- and unsigned numbers.
use Rattle.std.specs.Prelude.{ℕ, ◌==◌, Option, Some, None, List, [], ◌∷◌, ◌++◌, decimal, if◌then◌else◌}
use Rattle.asm_lines.specs.declared.instruction.Address.{Address}
use Rattle.asm_lines.specs.declared.instruction.Target.{Target}
use Rattle.asm_lines.specs.declared.instruction.Target.TheVariants as target
use Rattle.asm_lines.specs.declared.instruction.Value.{Value}
use Rattle.asm_lines.specs.declared.instruction.Value.TheVariants as value
use Rattle.asm_lines.specs.declared.instruction.Instruction.{Instruction}
use Rattle.asm_lines.specs.declared.instruction.Instruction.TheVariants.{LoadAddress, LoadNumber, Move, Unary, Binary, Load, Store, Branch, BranchIf, Jump, Call}
use Rattle.asm_lines.specs.declared.mnemonic.DirectiveWord.TheVariants as directive
use Rattle.asm_lines.specs.Words.{word_of, directive_text, head_of}
use Rattle.asm_lines.specs.Statements.{MStatement, Nothing, Text, Data, Global, Align, Words, Halves, Bytes, Space, Does}

abbrev pub printed_label : List ℕ → List ℕ
printed_label name = name ++ 58 ∷ []

-- ---- operands

abbrev pub register_text : ℕ → List ℕ
register_text r = 36 ∷ decimal r

abbrev pub value_text : Value → List ℕ
value_text (value.Register r) = register_text r
value_text (value.Number n) = decimal n

abbrev pub target_text : Target (List ℕ) → List ℕ
target_text (target.Label name) = name
target_text (target.Register r) = register_text r

-- `name`, `name+number` or `number`
abbrev pub place_text : Option (List ℕ) → ℕ → List ℕ
place_text None n = decimal n
place_text (Some name) n = if n == 0 then name else name ++ 43 ∷ decimal n

-- `($r)`
abbrev pub base_text : ℕ → List ℕ
base_text r = 40 ∷ (register_text r ++ 41 ∷ [])

-- what stands before a base: nothing for 0 without a name
abbrev pub before_base : Option (List ℕ) → ℕ → List ℕ
before_base None n = if n == 0 then [] else decimal n
before_base (Some name) n = place_text (Some name) n

abbrev pub based_text : Option (List ℕ) → ℕ → Option ℕ → List ℕ
based_text name n None = place_text name n
based_text name n (Some r) = before_base name n ++ base_text r

abbrev pub address_text : Address (List ℕ) → List ℕ
address_text a = based_text a.name a.offset a.base

abbrev pub operands_text : Instruction (List ℕ) → List ℕ
operands_text (LoadAddress d a) = register_text d ++ 44 ∷ address_text a
operands_text (LoadNumber d n) = register_text d ++ 44 ∷ decimal n
operands_text (Move d s) = register_text d ++ 44 ∷ register_text s
operands_text (Unary op d s) = register_text d ++ 44 ∷ register_text s
operands_text (Binary op d s t) = register_text d ++ 44 ∷ (register_text s ++ 44 ∷ value_text t)
operands_text (Load op d a) = register_text d ++ 44 ∷ address_text a
operands_text (Store op s a) = register_text s ++ 44 ∷ address_text a
operands_text (Branch name) = name
operands_text (BranchIf c s t name) = register_text s ++ 44 ∷ (value_text t ++ 44 ∷ name)
operands_text (Jump to) = target_text to
operands_text (Call to) = target_text to

-- ---- items

abbrev pub item_text : Option (List ℕ) × ℕ → List ℕ
item_text item = place_text item.0 item.1

-- each item behind a comma
abbrev pub more_text : {A : Type 0} → (A → List ℕ) → List A → List ℕ
more_text text [] = []
more_text text (a ∷ more) = 44 ∷ (text a ++ more_text text more)

-- items with commas between them
abbrev pub listed_text : {A : Type 0} → (A → List ℕ) → List A → List ℕ
listed_text text [] = []
listed_text text (a ∷ more) = text a ++ more_text text more

-- ---- statements

abbrev pub row_text : List ℕ → List ℕ → List ℕ
row_text word operands = 9 ∷ (word ++ 9 ∷ operands)

abbrev pub statement_text : MStatement → List ℕ
statement_text Nothing = []
statement_text Text = 9 ∷ directive_text directive.Text
statement_text Data = 9 ∷ directive_text directive.Data
statement_text (Global name) = row_text (directive_text directive.Global) name
statement_text (Align n) = row_text (directive_text directive.Align) (decimal n)
statement_text (Words items) = row_text (directive_text directive.Word) (listed_text item_text items)
statement_text (Halves halves) = row_text (directive_text directive.Half) (listed_text decimal halves)
statement_text (Bytes bytes) = row_text (directive_text directive.Byte) (listed_text decimal bytes)
statement_text (Space n) = row_text (directive_text directive.Space) (decimal n)
statement_text (Does i) = row_text (word_of (head_of i)) (operands_text i)

abbrev pub printed_statement : MStatement → List ℕ
printed_statement s = statement_text s ++ 10 ∷ []
