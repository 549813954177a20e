-- What rules add to the code and hand up, by their actions; and the rule set of a table of lines.
-- Source: Fraser and Hanson, A Retargetable C Compiler, chapters 13, 14 and 16.
use Rattle.std.specs.Prelude.{ℕ, zero, suc, ◌==◌, ◌&&◌, ◌||◌, ℤ, pos, Bool, true, false, Option, Some, None, List, [], ◌∷◌, map, slice_get, slice_index_or}
use Rattle.op_forest.specs.declared.sym.Sym.{Sym}
use Rattle.op_forest.specs.declared.sym.Sym.TheVariants as sym
use Rattle.op_forest.specs.Nodes.{Node, head_of, number_of}
use Rattle.forests.specs.Words.{Word, Plain, unknown, number_of as word_number}
use Rattle.forests.specs.Words as word
use Rattle.objects.specs.declared.value.Value.TheVariants.{Number}
use Rattle.objects.specs.declared.value.Value.{Value}
use Rattle.objects.specs.Pointers.{place_after}
use Rattle.forests.specs.Bodies.{Setting}
use Rattle.vcode.specs.RuleSets.{Rules}
use Rattle.frame_rules.specs.declared.action.Action.{Action}
use Rattle.frame_rules.specs.declared.action.Action.TheVariants as action
use Rattle.frame_code.specs.declared.instr.Instr.{Instr}
use Rattle.frame_code.specs.declared.instr.Instr.TheVariants as instr
use Rattle.frame_code.specs.declared.instr.Source.{Source}
use Rattle.frame_code.specs.declared.instr.Source.TheVariants as source
use Rattle.frame_rules.specs.declared.part.Part.{Part}
use Rattle.frame_rules.specs.declared.part.Part.TheVariants.{Register, Constant, Name, Label, Nothing}
use Rattle.frame_rules.specs.Rows.{Line, stmt, cnsti}

-- so many bytes behind the value of a name, `unknown` where it has none
abbrev pub word_behind : Option Value → ℤ → Word
word_behind None by = unknown
word_behind (Some v) by = Plain (place_after v by)

-- the value that a part stands for where registers have these values
abbrev pub means : Setting → Part → (ℕ → Word) → Option Word
means s (Register r) f = Some (f r)
means s (Constant n) f = Some (Plain (Number n))
means s (Name name offset) f = Some (word_behind (s.environment.global name) offset)
means s (Label l) f = Some (word.Label s.environment.home.function l)
means s Nothing f = None

abbrev pub registers : Part → List ℕ
registers (Register r) = r ∷ []
registers (Constant n) = []
registers (Name name offset) = []
registers (Label l) = []
registers Nothing = []

abbrev pub is_register : Part → Bool
is_register (Register r) = true
is_register p = false

abbrev pub is_constant : Part → Bool
is_constant (Constant n) = true
is_constant p = false

abbrev pub is_place : Part → Bool
is_place (Name name offset) = true
is_place (Label l) = true
is_place p = false

abbrev pub is_nothing : Part → Bool
is_nothing Nothing = true
is_nothing p = false

-- a statement hands up nothing; a constant, which is a CNSTI, a constant; the next a register or a constant; a
-- register a register; and an address a name or a label
abbrev pub hands : ℕ → Node → Part → Bool
hands zero t p = is_nothing p
hands (suc zero) t p = is_constant p && (cnsti == number_of (head_of t))
hands (suc (suc zero)) t p = is_register p || is_constant p
hands (suc (suc (suc zero))) t p = is_register p
hands (suc (suc (suc (suc zero)))) t p = is_place p
hands n t p = false

-- a statement adds code, and so does a register
abbrev pub busy : ℕ → Bool
busy zero = true
busy (suc (suc (suc zero))) = true
busy n = false

abbrev pub action_in : Option Line → Action
action_in None = action.Discard
action_in (Some line) = line.action

-- the action of the rule with this number, from 1
abbrev pub action_of : List Line → ℕ → Action
action_of lines zero = action.Discard
action_of lines (suc place) = action_in (slice_get lines place)

abbrev pub part_at : List Part → ℕ → Part
part_at ps n = slice_index_or ps n Nothing

abbrev pub register_of : Part → ℕ
register_of (Register r) = r
register_of p = 0

abbrev pub number_in : Part → ℕ
number_in (Constant n) = n
number_in p = 0

abbrev pub source_of : Part → Source
source_of (Register r) = source.Register r
source_of p = source.Number (number_in p)

-- a name's place among the names; a label has none
abbrev pub name_in : Part → ℕ
name_in (Name name offset) = name
name_in p = 0

-- a constant is taken modulo 2^32
abbrev pub constant_of : Option ℤ → ℕ
constant_of None = 0
constant_of (Some z) = word_number z

-- the name or the label that a symbol is
abbrev pub name_of : Sym → Part
name_of (sym.Global name offset) = Name name offset
name_of (sym.Label l) = Label l
name_of x = Name 0 (pos 0)

-- the code that an action adds given the parts and the node's register
abbrev pub code_by : Action → List Part → ℕ → List Instr
code_by action.Discard ps to = []
code_by action.Pass ps to = []
code_by action.TakeConstant ps to = []
code_by action.TakeName ps to = []
code_by action.LoadConstant ps to = instr.LoadNumber to (number_in (part_at ps 0)) ∷ []
code_by (action.Combine op) ps to = instr.Binary op to (register_of (part_at ps 0)) (source_of (part_at ps 1)) ∷ []
code_by action.Negate ps to = instr.Negate to (register_of (part_at ps 0)) ∷ []
code_by action.Call ps to = instr.Call to (name_in (part_at ps 0)) ∷ []
code_by action.HandOver ps to = instr.Argument (register_of (part_at ps 0)) ∷ []
code_by action.Return ps to = instr.Return (register_of (part_at ps 0)) ∷ []

-- what it hands up at a node
abbrev pub part_by : Action → Node → List Part → ℕ → Part
part_by action.Discard t ps to = Nothing
part_by action.Pass t ps to = part_at ps 0
part_by action.TakeConstant t ps to = Constant (constant_of (head_of t).value)
part_by action.TakeName t ps to = name_of (head_of t).sym
part_by action.LoadConstant t ps to = Register to
part_by (action.Combine op) t ps to = Register to
part_by action.Negate t ps to = Register to
part_by action.Call t ps to = Register to
part_by action.HandOver t ps to = Nothing
part_by action.Return t ps to = Nothing

-- the rule set of the lines, the first of which has the number 1
abbrev pub frame_rules : List Line → Rules Instr Part
frame_rules lines = record {
  rows = map (λ l. l.row) lines;
  start = stmt;
  code = λ number t ps to. code_by (action_of lines number) ps to;
  part = λ number t ps to. part_by (action_of lines number) t ps to;
  means = means;
  registers = registers;
  hands = hands;
  busy = busy;
}
