-- What a set of rules says of the code that it adds, and the laws that it keeps on its target's machine.
-- Source: Fraser and Hanson, A Retargetable C Compiler, chapters 13 and 14.
use Rattle.std.specs.Prelude.{◌≡◌, ℕ, ◌+◌, ◌<◌, ◌≤◌, ◌==◌, ◌||◌, not, List, [], ◌∷◌, ◌++◌, Bool, true, false, Option, Some, None, length, slice_get, IsTrue, ◌⊎◌}
use Rattle.lburg_model.specs.declared.rule.Rule.{Rule}
use Rattle.lburg_model.specs.Pattern.{MPattern, pattern_of}
use Rattle.op_forest.specs.declared.op.Op.{Op}
use Rattle.op_forest.specs.declared.op.Op.TheVariants as op
pub use Rattle.op_forest.specs.Signature.{moves as is_move}
use Rattle.op_forest.specs.declared.sym.Sym.TheVariants as sym
use Rattle.op_forest.specs.Nodes.{Node, head_of, gives}
use Rattle.forests.specs.Words.{Word}
use Rattle.forests.specs.Worlds.{Point, Move, Next, To, End, Effect, Went, Exits, Unfinished, Stuck, goes}
use Rattle.forests.specs.Bodies.{Setting}
use Rattle.vcode.specs.declared.operand.Operand.{Operand}
use Rattle.vcode.specs.Machines.{Machine}
use Rattle.vcode.specs.Execution.{State, executed, moved}
use Rattle.vcode.specs.VirtualCode.{is_virtual, among, results, Flows, HasNoMark, UsesNoSlot, MarkedFirst, BeginsWithMark, MovesNot, MovesLast}
use Rattle.vcode.specs.Patterns.{Meeting, leaves_at, pattern_effect, is_chain, is_ordered}

-- a rule of the description: its left side, pattern and template, wherever the pattern stands in memory
pub record Row : Type 0 where
  pub left : ℕ
  pub pattern : MPattern
  pub template : List ℕ

abbrev pub row_of : Rule → Row
row_of r = record { left = r.left; pattern = pattern_of r.pattern; template = r.template }

pub record Rules (I Part : Type 0) : Type 0 where
  -- the description's rules in order, of which the first has the number 1, and the place of its start symbol
  pub rows : List Row
  pub start : ℕ
  -- the code that a rule adds at a node, given what its nonterminals hand up and the node's register
  pub code : ℕ → Node → List Part → ℕ → List I
  -- what it hands up
  pub part : ℕ → Node → List Part → ℕ → Part
  -- the value that a part stands for where registers have these values, none for a statement
  pub means : Setting → Part → (ℕ → Word) → Option Word
  -- the registers that a part names
  pub registers : Part → List ℕ
  -- whether the nonterminal may hand up the part at the node
  pub hands : ℕ → Node → Part → Bool
  -- whether a derivation of the nonterminal adds code
  pub busy : ℕ → Bool

-- a value, or none, as a list; a part without a value stands for anything
abbrev pub Stands : Option Word → List Word → Type 0
Stands None ws = Unit {0}
Stands (Some w) ws = ws ≡ w ∷ []

abbrev pub InRange : ℕ → List ℕ → Type 0
InRange limit [] = Unit {0}
InRange limit (q ∷ qs) = (64 ≤ q) × (q < limit) × InRange limit qs

abbrev pub SameAt : List ℕ → (ℕ → Word) → (ℕ → Word) → Type 0
SameAt [] f g = Unit {0}
SameAt (q ∷ qs) f g = (f q ≡ g q) × SameAt qs f g

abbrev pub WhenWent : Effect → (List Word → Point → Move → Type 0) → Type 0
WhenWent (Went ws p mv) P = P ws p mv
WhenWent (Exits status w) P = Unit {0}
WhenWent (Unfinished w) P = Unit {0}
WhenWent Stuck P = Unit {0}

abbrev pub WhenNext : Move → Type 0 → Type 0
WhenNext Next P = P
WhenNext (To l) P = Unit {0}
WhenNext (End v) P = Unit {0}

-- From a state the code does what the effect says and goes on with what stands behind it, in at least as many steps
-- as it has instructions. Virtual registers that aren't named keep their values.
pub record Gets {I : Type 0} (m : Machine I) (s : Setting) (whole code rest : List I) (st : State) (e : Effect) (holds : (ℕ → Word) → List Word → Type 0) (kept : ℕ → Type 0) : Type 0 where
  pub state : State
  pub by : (k : ℕ) → (j : ℕ) × (k + length code ≤ j) × (executed m s whole j (code ++ rest) st ≡ goes e (λ ws p mv. moved m whole rest mv p (λ js. executed m s whole k js state)))
  pub keeps : (q : ℕ) → 64 ≤ q → kept q → state.registers q ≡ st.registers q
  pub gives : WhenWent e (λ ws p mv. (state.point ≡ p) × WhenNext mv (holds state.registers ws))

-- each register that the operands name is a machine's or among these
abbrev pub NamesOnly : List ℕ → List Operand → Type 0
NamesOnly known [] = Unit {0}
NamesOnly known (o ∷ os) = IsTrue (not (is_virtual o.reg) || among o.reg known) × NamesOnly known os

abbrev pub CodeNames : {I : Type 0} → Machine I → List ℕ → List I → Type 0
CodeNames m known [] = Unit {0}
CodeNames m known (i ∷ is) = NamesOnly known (m.operands i) × CodeNames m known is

-- the registers that the code writes
abbrev pub code_results : {I : Type 0} → Machine I → List I → List ℕ
code_results m [] = []
code_results m (i ∷ is) = results (m.operands i) ++ code_results m is

-- of the machine's registers that are to be written, but the stack pointer, only these are read
abbrev pub ReadsSettled : ℕ → List ℕ → List ℕ → List Operand → Type 0
ReadsSettled pointer to_write known [] = Unit {0}
ReadsSettled pointer to_write known (o ∷ os) =
    IsTrue ((o.written || is_virtual o.reg) || ((o.reg == pointer) || (not (among o.reg to_write) || among o.reg known))) × ReadsSettled pointer to_write known os

-- a machine register that the code writes, the stack pointer apart, is read only after it was written
abbrev pub Settles : {I : Type 0} → Machine I → List ℕ → List ℕ → List I → Type 0
Settles m to_write known [] = Unit {0}
Settles m to_write known (i ∷ is) = ReadsSettled m.stack_pointer to_write known (m.operands i) × Settles m to_write (results (m.operands i) ++ known) is

abbrev pub is_label : Op → Bool
is_label op.Label = true
is_label o = false

abbrev pub op_at : Node → Op
op_at t = (head_of t).operator.op

abbrev pub one_register : Bool → ℕ → List ℕ
one_register true to = to ∷ []
one_register false to = []

-- the node's register, where the node gives a value; a statement has none
abbrev pub own_register : Node → ℕ → List ℕ
own_register t to = one_register (gives (head_of t)) to

module _ {I Part : Type 0} (rules : Rules I Part) where
  -- the parts' registers
  abbrev pub all_registers : List Part → List ℕ
  all_registers [] = []
  all_registers (p ∷ ps) = rules.registers p ++ all_registers ps

  -- each part stands for the values of its nonterminal
  abbrev pub AllStand : Setting → List Part → (ℕ → Word) → List (List Word) → Type 0
  AllStand s [] f [] = Unit {0}
  AllStand s [] f (ws ∷ vs) = ⊥
  AllStand s (p ∷ ps) f [] = ⊥
  AllStand s (p ∷ ps) f (ws ∷ vs) = Stands (rules.means s p f) ws × AllStand s ps f vs

  -- each nonterminal may hand up its part
  abbrev pub AllHand : List Meeting → List Part → Type 0
  AllHand [] [] = Unit {0}
  AllHand [] (p ∷ ps) = ⊥
  AllHand (x ∷ xs) [] = ⊥
  AllHand (x ∷ xs) (p ∷ ps) = (rules.hands x.0 x.1 p ≡ true) × AllHand xs ps

  -- the rule of this number, from 1, may be applied at the node with these parts, which name virtual registers alone
  pub record Applies (number : ℕ) (row : Row) (t : Node) (ps : List Part) (to : ℕ) : Type 0 where
    pub place : ℕ
    pub number_is : number ≡ place + 1
    pub row_is : slice_get rules.rows place ≡ Some row
    pub meetings : List Meeting
    pub fits : leaves_at row.pattern t ≡ Some meetings
    pub hand : AllHand meetings ps
    pub to_virtual : 64 ≤ to
    pub limit : ℕ
    pub parts_virtual : InRange limit (all_registers ps)
    -- the node's register is new but in a chain rule
    pub new : IsTrue (is_chain row.pattern || not (among to (all_registers ps)))

  -- a nonterminal of the pattern whose derivations add code
  abbrev pub SomeBusy : List Meeting → Type 0
  SomeBusy [] = ⊥
  SomeBusy (x ∷ xs) = (rules.busy x.0 ≡ true) ⊎ SomeBusy xs

-- the laws of a rule set on its target's machine
pub record Obeys {I Part : Type 0} (m : Machine I) (rules : Rules I Part) : Type 0 where
  -- no nonterminal stands behind an operator below the root whose value could change until then
  pub ordered : (place : ℕ) (row : Row) → slice_get rules.rows place ≡ Some row → is_ordered row.pattern ≡ true
  -- a part's value depends on its registers alone
  pub local : (s : Setting) (p : Part) (f g : ℕ → Word) → SameAt (rules.registers p) f g → rules.means s p f ≡ rules.means s p g
  pub hands : (number : ℕ) (row : Row) (t : Node) (ps : List Part) (to : ℕ) → Applies rules number row t ps to → rules.hands row.left t (rules.part number t ps to) ≡ true
  -- the new part names no register but the given parts' and, where the code writes it, the node's
  pub part_registers : (number : ℕ) (row : Row) (t : Node) (ps : List Part) (to r : ℕ) → Applies rules number row t ps to → among r (rules.registers (rules.part number t ps to)) ≡ true → (among r (all_registers rules ps) ≡ true) ⊎ ((among r (own_register t to) ≡ true) × (among r (code_results m (rules.code number t ps to)) ≡ true))
  -- the code names no register but the given parts', the machine's and, where the node gives a value, the node's
  pub names : (number : ℕ) (row : Row) (t : Node) (ps : List Part) (to : ℕ) → Applies rules number row t ps to → CodeNames m (own_register t to ++ all_registers rules ps) (rules.code number t ps to)
  -- the node's register is read only after it was written, or as a given part's
  pub flows : (number : ℕ) (row : Row) (t : Node) (ps : List Part) (to : ℕ) → Applies rules number row t ps to → Flows m (all_registers rules ps) (rules.code number t ps to)
  pub settles : (number : ℕ) (row : Row) (t : Node) (ps : List Part) (to : ℕ) → Applies rules number row t ps to → Settles m (code_results m (rules.code number t ps to)) [] (rules.code number t ps to)
  pub slots : (number : ℕ) (row : Row) (t : Node) (ps : List Part) (to : ℕ) → Applies rules number row t ps to → UsesNoSlot m (rules.code number t ps to)
  -- a label is added only first, and only where the pattern's root meets a LABELV
  pub marks : (number : ℕ) (row : Row) (t : Node) (ps : List Part) (to : ℕ) → Applies rules number row t ps to → MarkedFirst m (rules.code number t ps to)
  pub marks_only : (number : ℕ) (row : Row) (t : Node) (ps : List Part) (to : ℕ) → Applies rules number row t ps to → (is_chain row.pattern || not (is_label (op_at t))) ≡ true → HasNoMark m (rules.code number t ps to)
  -- the rule that meets a LABELV adds its label first
  pub labels : (number : ℕ) (row : Row) (t : Node) (ps : List Part) (to l : ℕ) → Applies rules number row t ps to → is_chain row.pattern ≡ false → op_at t ≡ op.Label → (head_of t).sym ≡ sym.Label l → BeginsWithMark m l (rules.code number t ps to)
  -- what moves control is added only last, and only where the pattern's root meets a RET, a JUMP or a comparison
  pub moves : (number : ℕ) (row : Row) (t : Node) (ps : List Part) (to : ℕ) → Applies rules number row t ps to → MovesLast m (rules.code number t ps to)
  pub moves_only : (number : ℕ) (row : Row) (t : Node) (ps : List Part) (to : ℕ) → Applies rules number row t ps to → (is_chain row.pattern || not (is_move (op_at t))) ≡ true → MovesNot m (rules.code number t ps to)
  -- a chain rule at a label, a return, a jump or a comparison adds nothing
  pub silent : (number : ℕ) (row : Row) (t : Node) (ps : List Part) (to : ℕ) → Applies rules number row t ps to → is_chain row.pattern ≡ true → (is_label (op_at t) || is_move (op_at t)) ≡ true → rules.code number t ps to ≡ []
  -- a derivation of the start symbol adds code
  pub busy_start : rules.busy rules.start ≡ true
  -- where a derivation is said to add code, the rule does, or one of its nonterminals
  pub busy : (number : ℕ) (row : Row) (t : Node) (ps : List Part) (to : ℕ) (a : Applies rules number row t ps to) → rules.busy row.left ≡ true → (1 ≤ length (rules.code number t ps to)) ⊎ SomeBusy rules a.meetings
  -- the code does what the pattern does with the values that the parts stand for, and the new part stands for its value
  pub acts : (s : Setting) (whole rest : List I) (st : State) (number : ℕ) (row : Row) (t : Node) (ps : List Part) (to : ℕ) (vs : List (List Word)) → Applies rules number row t ps to → AllStand rules s ps st.registers vs → (pattern_effect s row.pattern t vs st.point ≡ Stuck → ⊥) → Gets m s whole (rules.code number t ps to) rest st (pattern_effect s row.pattern t vs st.point) (λ f ws. Stands (rules.means s (rules.part number t ps to) f) ws) (λ q. q ≡ to → ⊥)
