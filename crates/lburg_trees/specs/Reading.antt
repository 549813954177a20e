-- What the readers of a tree and of a line say.
use Rattle.std.specs.Prelude.{◌≡◌, ◌≢◌, ◌≤◌, ◌<◌, ◌⊎◌, ℕ, ◌+◌, ◌-◌, ℤ, Bool, false, Option, Some, None, option_map, List, [], ◌∷◌, ◌++◌, take, length, slice_get}
use Rattle.lcc_text.specs.Stops.{next}
use Rattle.lburg_lines.specs.declared.token.Sign.TheVariants.{Open, Close, Comma, OpenBracket, CloseBracket}
use Rattle.lburg_lines.specs.declared.read_error.ReadError.{ReadError}
use Rattle.lburg_lines.specs.declared.read_error.ReadError.TheVariants.{Stuck}
use Rattle.lburg_lines.specs.Tokens.{Tok, Word, Mark}
use Rattle.lburg_lines.specs.Spelling.{Spells}
use Rattle.lburg_lines.specs.Numbers.{MNumber, IsNumber, number_token, number_value}
use Rattle.lburg_model.specs.declared.terminal.Terminal.{Terminal}
use Rattle.lburg_model.specs.Tree.{MTree, nodes}
use Rattle.lburg_model.specs.Description.{MDescription, terminal_at}
use Rattle.lburg_trees.specs.declared.row.Row.{Row}
use Rattle.lburg_trees.specs.declared.row.Row.TheVariants.{BadTree, WrongArity, TooLarge}
use Rattle.lburg_trees.specs.declared.stop.Stop.{Stop}
use Rattle.lburg_trees.specs.declared.stop.Stop.TheVariants.{Memory, Fault}
use Rattle.lburg_trees.specs.declared.tree_fault.TreeFault.{TreeFault}
use Rattle.lburg_trees.specs.TailTree.{MTail, Alone, Over, Both, IsConstant, HasNumbers, Ends, constant_then, tree_then}
use Rattle.lburg_trees.specs.Setting.{Before}
use Rattle.lburg_trees.specs.UnknownOp.{IsNamed}
use Rattle.lburg_trees.specs.Rows.{Means, Stands, row_number}
use Rattle.lburg_trees.specs.FirstFault.{told}
use Rattle.lburg_trees.specs.TailText.{TreeMeans, height}

-- no fault of names and counts stands among the tokens before the place
abbrev pub NoneBefore : MDescription → Before → List Tok → ℕ → Type 0
NoneBefore d before tokens place = (row : Row) (p : ℕ) → p < place → Means d before row tokens p → ⊥

-- a tree stands at the front
pub record ReadsTree (d : MDescription) (before : Before) (tokens rest : List Tok) (tree : MTree) : Type 0 where
  pub written : MTail
  pub numbers : HasNumbers written
  pub parts : tokens ≡ tree_then written rest
  pub ends : Ends written rest
  pub means : TreeMeans d written tree
  pub small : before.names + nodes tree ≤ 65535
  pub low : before.opened + height written ≤ 500
  pub none : NoneBefore d before tokens (length tokens - length rest)

-- The line is front and then rest. Some tree begins with front, and none goes on behind front as rest does.
pub record TreeStops (line rest : List Tok) : Type 0 where
  pub front : List Tok
  pub parts : line ≡ front ++ rest
  pub begun : (tree : MTail) × (more : List Tok) × HasNumbers tree × (front ++ more ≡ tree_then tree [])
  pub stuck : (tree : MTail) (after more : List Tok) → HasNumbers tree → Ends tree after → front ++ more ≡ tree_then tree after → next more ≡ next rest → ⊥

-- The token at the place can go on, or, where the line ends there, nothing is missing but the rest of a tree.
abbrev pub GoesOn : List Tok → ℕ → Type 0
GoesOn tokens place = (tree : MTail) × (more : List Tok) × HasNumbers tree × (take (place + 1) tokens ++ more ≡ tree_then tree [])

-- a fault of names and counts at the place goes first
pub record Fails (d : MDescription) (before : Before) (row : Row) (tokens : List Tok) (place : ℕ) : Type 0 where
  pub within : place < length tokens
  pub means : Means d before row tokens place
  pub goes_on : GoesOn tokens place
  pub least : (other : Row) (p : ℕ) → Means d before other tokens p → (place < p) ⊎ ((place ≡ p) × (row_number row ≤ row_number other))

-- why no tree was read, where so many tokens are left
abbrev pub StopsTree : MDescription → Before → List Tok → Stop → Type 0
StopsTree d before tokens Memory = Unit {0}
StopsTree d before tokens (Fault BadTree left) = (rest : List Tok) × (length rest ≡ left) × TreeStops tokens rest × NoneBefore d before tokens (length tokens - left)
StopsTree d before tokens (Fault row left) = (place : ℕ) × (place + left ≡ length tokens) × Fails d before row tokens place

-- a fault of a line is the first
pub record IsLineFault (d : MDescription) (tokens : List Tok) (row : Row) (place : ℕ) : Type 0 where
  pub stands : Stands d row tokens place
  pub least : (other : Row) (p : ℕ) → Stands d other tokens p → (place < p) ⊎ ((place ≡ p) × (row_number row ≤ row_number other))

-- a line of these tokens has no fault
abbrev pub IsFine : MDescription → List Tok → Type 0
IsFine d tokens = (row : Row) (p : ℕ) → Stands d row tokens p → ⊥

abbrev pub LineStops : MDescription → List Tok → Stop → Type 0
LineStops d tokens Memory = Unit {0}
LineStops d tokens (Fault row left) = (place : ℕ) × (place + left ≡ length tokens) × IsLineFault d tokens row place

-- ---- the parts of a tree

-- what a constant is read as
pub record ReadsConstant (tokens rest : List Tok) (value : Option ℤ) : Type 0 where
  pub constant : Option MNumber
  pub numbers : IsConstant constant
  pub value_is : value ≡ option_map number_value constant
  pub parts : tokens ≡ constant_then constant rest
  pub ends : constant ≡ None → next rest ≢ Some (Mark OpenBracket)

-- behind its bracket no number stands, or behind its number no bracket
abbrev pub StopsConstant : List Tok → ReadError → Type 0
StopsConstant tokens e =
    ((rest : List Tok) × (e ≡ Stuck (length rest)) × (tokens ≡ Mark OpenBracket ∷ rest) × ((n : MNumber) → IsNumber n → next rest ≢ Some (number_token n)))
    ⊎ ((n : MNumber) × (rest : List Tok) × (e ≡ Stuck (length rest)) × (tokens ≡ Mark OpenBracket ∷ (number_token n ∷ rest)) × IsNumber n × (next rest ≢ Some (Mark CloseBracket)))

-- a node's operator and constant, where fewer than 65,535 names came
pub record IsHead (d : MDescription) (before : Before) (op : ℕ) (value : Option ℤ) (name : List ℕ) (constant : Option MNumber) : Type 0 where
  pub terminal : Terminal
  pub named : IsNamed d op terminal name
  pub numbers : IsConstant constant
  pub value_is : value ≡ option_map number_value constant
  pub few : before.names < 65535

-- they stand at the front
pub record ReadsHead (d : MDescription) (before : Before) (tokens rest : List Tok) (op : ℕ) (value : Option ℤ) : Type 0 where
  pub name : List ℕ
  pub constant : Option MNumber
  pub is : IsHead d before op value name constant
  pub parts : tokens ≡ Word name ∷ constant_then constant rest
  pub ends : constant ≡ None → next rest ≢ Some (Mark OpenBracket)

-- a name with its constant, and an open parenthesis behind them
abbrev pub opened : List ℕ → Option MNumber → List Tok → List Tok
opened name constant line = Word name ∷ constant_then constant (Mark Open ∷ line)

-- the operator's terminal
abbrev pub IsKnown : MDescription → ℕ → Type 0
IsKnown d op = (t : Terminal) × (terminal_at d op ≡ Some t)

-- an operator may have so many operands
pub record CountFits (d : MDescription) (op count : ℕ) : Type 0 where
  pub terminal : Terminal
  pub known : terminal_at d op ≡ Some terminal
  pub fits : (terminal.arity ≡ Some count) ⊎ (terminal.arity ≡ None)

-- it has another number of operands
pub record CountDiffers (d : MDescription) (op count : ℕ) : Type 0 where
  pub terminal : Terminal
  pub known : terminal_at d op ≡ Some terminal
  pub arity : ℕ
  pub arity_is : terminal.arity ≡ Some arity
  pub differs : count ≢ arity

-- a name before these tokens has neither a constant nor operands
abbrev pub IsAlone : List Tok → Type 0
IsAlone rest = (next rest ≢ Some (Mark OpenBracket)) × (next rest ≢ Some (Mark Open))

-- the fault at the name of an operator behind which these tokens stand, where too many names came before: a name that
-- may not be alone and is goes first
abbrev pub IsPastMost : MDescription → ℕ → List Tok → Row → Type 0
IsPastMost d op rest WrongArity = IsAlone rest × CountDiffers d op 0
IsPastMost d op rest TooLarge = IsAlone rest → CountFits d op 0
IsPastMost d op rest row = ⊥

-- ---- an operand: behind the last the parenthesis closes, behind another a comma may stand

abbrev pub IsBehind : Bool → List Tok → Type 0
IsBehind last rest = (next rest ≡ Some (Mark Close)) ⊎ ((last ≡ false) × (next rest ≡ Some (Mark Comma)))

-- an operand stands at the front
pub record ReadsOperand (d : MDescription) (before : Before) (last : Bool) (tokens rest : List Tok) (tree : MTree) : Type 0 where
  pub reads : ReadsTree d before tokens rest tree
  pub behind : IsBehind last rest

-- The line is front and then rest. Some tree begins with front, and no operand goes on behind front as rest does.
pub record OperandStops (last : Bool) (line rest : List Tok) : Type 0 where
  pub front : List Tok
  pub parts : line ≡ front ++ rest
  pub begun : (tree : MTail) × (more : List Tok) × HasNumbers tree × (front ++ more ≡ tree_then tree [])
  pub stuck : (tree : MTail) (after more : List Tok) → HasNumbers tree → IsBehind last after → front ++ more ≡ tree_then tree after → next more ≡ next rest → ⊥

-- why no operand was read, where so many tokens are left
abbrev pub StopsOperand : MDescription → Before → Bool → List Tok → Stop → Type 0
StopsOperand d before last tokens Memory = Unit {0}
StopsOperand d before last tokens (Fault BadTree left) = (rest : List Tok) × (length rest ≡ left) × OperandStops last tokens rest × NoneBefore d before tokens (length tokens - left)
StopsOperand d before last tokens (Fault row left) = (place : ℕ) × (place + left ≡ length tokens) × Fails d before row tokens place

-- ---- lines of a tail

-- the line has no fault
abbrev pub IsFineLine : MDescription → List ℕ → Type 0
IsFineLine d line = (tokens : List Tok) × Spells tokens line × IsFine d tokens

-- why a line gave no tree
abbrev pub LineFails : MDescription → List ℕ → Stop → Type 0
LineFails d line Memory = Unit {0}
LineFails d line (Fault row left) = (tokens : List Tok) × (place : ℕ) × Spells tokens line × IsLineFault d tokens row place

-- none of the first lines, of which there are so many, has a fault
abbrev pub AreFine : MDescription → List (List ℕ) → ℕ → Type 0
AreFine d lines many = (i : ℕ) (line : List ℕ) → i < many → slice_get lines i ≡ Some line → IsFineLine d line

-- the first of these lines that has a fault, where so many stand before them
pub record FailsAt (d : MDescription) (before : ℕ) (lines : List (List ℕ)) (f : TreeFault) : Type 0 where
  pub index : ℕ
  pub line : List ℕ
  pub there : slice_get lines index ≡ Some line
  pub tokens : List Tok
  pub place : ℕ
  pub spelled : Spells tokens line
  pub which : Row
  pub fault : IsLineFault d tokens which place
  pub told_is : f ≡ told which (before + index + 1)
  pub fine : AreFine d lines index
