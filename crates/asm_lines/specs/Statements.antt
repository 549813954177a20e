-- The statement behind the labels of a line, and its labels.
use Rattle.std.specs.Prelude.{◌≡◌, ◌≤◌, true, ℕ, Option, option_map, List, [], ◌∷◌, map}
use Rattle.std.specs.Borrow.{Bor}
use Rattle.asm_lines.specs.declared.instruction.Address.{Address}
use Rattle.asm_lines.specs.declared.instruction.Target.{Target}
use Rattle.asm_lines.specs.declared.instruction.Target.TheVariants as target
use Rattle.asm_lines.specs.declared.instruction.Instruction.{Instruction}
use Rattle.asm_lines.specs.declared.instruction.Instruction.TheVariants.{LoadAddress, LoadNumber, Move, Unary, Binary, Load, Store, Branch, BranchIf, Jump, Call}
use Rattle.asm_lines.specs.declared.mnemonic.DirectiveWord.TheVariants as directive
use Rattle.asm_lines.specs.declared.statement.Statement.{Statement}
use Rattle.asm_lines.specs.declared.statement.Statement.TheVariants as statement
use Rattle.asm_lines.specs.declared.statement.Item.{Item}
use Rattle.asm_lines.specs.Tokens.{Word, Colon, Spaced}
use Rattle.asm_lines.specs.Numbers.{CountStands}
use Rattle.asm_lines.specs.Operands.{NameThen, AreOperands, Listed, IsWordItem, IsPartItem}
use Rattle.asm_lines.specs.Words.{word_of, directive_text, head_of}

-- what stands behind the labels of a line, with names as bytes
pub data MStatement : Type 0 where
  Nothing : MStatement
  Text : MStatement
  Data : MStatement
  Global : (name : List ℕ) → MStatement
  Align : (n : ℕ) → MStatement
  Words : (items : List (Option (List ℕ) × ℕ)) → MStatement
  Halves : (halves : List ℕ) → MStatement
  Bytes : (bytes : List ℕ) → MStatement
  Space : (n : ℕ) → MStatement
  Does : (instruction : Instruction (List ℕ)) → MStatement

-- the address, target or instruction with other names
abbrev pub address_with : {A B : Type 0} → (A → B) → Address A → Address B
address_with f a = record { name = option_map f a.name; offset = a.offset; base = a.base }

abbrev pub target_with : {A B : Type 0} → (A → B) → Target A → Target B
target_with f (target.Label n) = target.Label (f n)
target_with f (target.Register r) = target.Register r

abbrev pub instruction_with : {A B : Type 0} → (A → B) → Instruction A → Instruction B
instruction_with f (LoadAddress d a) = LoadAddress d (address_with f a)
instruction_with f (LoadNumber d n) = LoadNumber d n
instruction_with f (Move d s) = Move d s
instruction_with f (Unary op d s) = Unary op d s
instruction_with f (Binary op d s t) = Binary op d s t
instruction_with f (Load op d a) = Load op d (address_with f a)
instruction_with f (Store op s a) = Store op s (address_with f a)
instruction_with f (Branch n) = Branch (f n)
instruction_with f (BranchIf c s t n) = BranchIf c s t (f n)
instruction_with f (Jump to) = Jump (target_with f to)
instruction_with f (Call to) = Call (target_with f to)

abbrev pub item_by : {N : Type 0} → (N → List ℕ) → Item N → Option (List ℕ) × ℕ
item_by f i = (option_map f i.name, i.value)

-- the statement that a value tells, where names stand for bytes
abbrev pub told_by : {N : Type 0} → (N → List ℕ) → Statement N → MStatement
told_by f statement.Nothing = Nothing
told_by f statement.Text = Text
told_by f statement.Data = Data
told_by f (statement.Global name) = Global (f name)
told_by f (statement.Align n) = Align n
told_by f (statement.Words items) = Words (map (item_by f) items)
told_by f (statement.Halves halves) = Halves halves
told_by f (statement.Bytes bytes) = Bytes bytes
told_by f (statement.Space n) = Space n
told_by f (statement.Instruction i) = Does (instruction_with f i)

-- where names are slices of bytes
abbrev pub item_of : Item (Bor (List ℕ)) → Option (List ℕ) × ℕ
item_of = item_by (λ n. n.now)

abbrev pub told : Statement (Bor (List ℕ)) → MStatement
told = told_by (λ n. n.now)

-- ---- what is a statement

-- blanks stand before the first operand, if there is one
abbrev pub IsApart : List Spaced → Type 0
IsApart [] = Unit {0}
IsApart (t ∷ ts) = t.is_spaced ≡ true

-- the statement of this word with these operands
abbrev pub IsRow : List ℕ → List Spaced → MStatement → Type 0
IsRow word ts Nothing = ⊥
IsRow word ts Text = (word ≡ directive_text directive.Text) × (ts ≡ [])
IsRow word ts Data = (word ≡ directive_text directive.Data) × (ts ≡ [])
IsRow word ts (Global name) = (word ≡ directive_text directive.Global) × NameThen ts name []
IsRow word ts (Align n) = (word ≡ directive_text directive.Align) × CountStands ts n × (n ≤ 4)
IsRow word ts (Words items) = (word ≡ directive_text directive.Word) × Listed IsWordItem ts items
IsRow word ts (Halves halves) = (word ≡ directive_text directive.Half) × Listed (IsPartItem 16) ts halves
IsRow word ts (Bytes bytes) = (word ≡ directive_text directive.Byte) × Listed (IsPartItem 8) ts bytes
IsRow word ts (Space n) = (word ≡ directive_text directive.Space) × CountStands ts n
IsRow word ts (Does i) = (word ≡ word_of (head_of i)) × AreOperands ts i

-- these tokens are the statement
abbrev pub IsStatement : List Spaced → MStatement → Type 0
IsStatement [] s = s ≡ Nothing
IsStatement (t ∷ ts) s = (word : List ℕ) × (t.tok ≡ Word word) × IsApart ts × IsRow word ts s

-- ---- labels

-- the label of this name stands first, and rest behind it
abbrev pub IsLabelled : List Spaced → List ℕ → List Spaced → Type 0
IsLabelled (t ∷ u ∷ ts) name rest = (t.tok ≡ Word name) × (u.tok ≡ Colon) × (ts ≡ rest)
IsLabelled ts name rest = ⊥
