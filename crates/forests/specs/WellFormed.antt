-- Well-formed forests: each node has the operands, the symbol and the constant that its operator needs; each argument is
-- taken by a call; each jump goes to a label, and no label stands twice; each local is in a slot.
-- Source: Fraser and Hanson, A Retargetable C Compiler, chapter 5.
use Rattle.std.specs.Prelude.{◌≡◌, ◌≢◌, ◌≤◌, ◌<◌, ◌⊎◌, ℕ, suc, ℤ, ◌≤ℤ◌, ◌<ℤ◌, Option, Some, None, IsSomeAnd, IsTrue, IsFalse, FitsSigned, List, [], ◌∷◌, length, take, drop, slice_get, Any}
use Rattle.std.specs.Int.{w8, w16, w32, FitsUnsigned}
use Rattle.op_forest.specs.declared.forest.Forest.{Forest}
use Rattle.op_forest.specs.declared.frame.Slot.{Slot}
use Rattle.op_forest.specs.declared.op.Op.{Op}
use Rattle.op_forest.specs.declared.op.Op.TheVariants as op
use Rattle.op_forest.specs.declared.suffix.Suffix.{Suffix}
use Rattle.op_forest.specs.declared.suffix.Suffix.TheVariants.{C, S, I, U, P, B, V}
use Rattle.op_forest.specs.declared.sym.Sym.{Sym}
use Rattle.op_forest.specs.declared.sym.Sym.TheVariants as sym
use Rattle.op_forest.specs.Nodes.{Node, Leaf, One, Two, head_of, kids_of, number_of}
use Rattle.op_forest.specs.EachNode.{AtEachNode, AtSomeNode}
use Rattle.op_forest.specs.Signature.{takes, gives_value, moves}
use Rattle.op_forest.specs.Frames.{end_of}
use Rattle.op_forest.specs.Labels.{label_of}
use Rattle.op_forest.specs.Lowered.{HasLabel}

abbrev pub op_of : Node → Op
op_of t = (head_of t).operator.op

abbrev pub suffix_of : Node → Suffix
suffix_of t = (head_of t).operator.suffix

-- ---- arities

-- an operator has as many operands as its row; a pair that is no operator has no row
abbrev pub HasArity : Node → Type 0
HasArity t = 1 ≤ number_of (head_of t) → length (kids_of t) ≡ length (takes (op_of t) (suffix_of t))

abbrev pub HasArities : Node → Type 0
HasArities = AtEachNode HasArity

-- ---- kinds

-- an operand gives a value of this suffix
abbrev pub IsOperand : Suffix → Node → Type 0
IsOperand s k = IsTrue (gives_value (op_of k) (suffix_of k)) × (suffix_of k ≡ s)

-- operands of these suffixes, in order
abbrev pub AreOperands : List Suffix → List Node → Type 0
AreOperands [] [] = Unit {0}
AreOperands [] (k ∷ ks) = ⊥
AreOperands (s ∷ ss) [] = ⊥
AreOperands (s ∷ ss) (k ∷ ks) = IsOperand s k × AreOperands ss ks

-- the number is one of the suffix's type
abbrev pub FitsType : Suffix → ℤ → Type 0
FitsType C z = FitsSigned w8 z
FitsType S z = FitsSigned w16 z
FitsType I z = FitsSigned w32 z
FitsType U z = FitsUnsigned w32 z
FitsType P z = FitsUnsigned w32 z
FitsType B z = ⊥
FitsType V z = ⊥

-- a name, or a label
abbrev pub IsPlace : Sym → Type 0
IsPlace sym.Nothing = ⊥
IsPlace (sym.Global name offset) = Unit {0}
IsPlace (sym.Label l) = Unit {0}
IsPlace (sym.Block size align) = ⊥

abbrev pub IsLabel : Sym → Type 0
IsLabel sym.Nothing = ⊥
IsLabel (sym.Global name offset) = ⊥
IsLabel (sym.Label l) = Unit {0}
IsLabel (sym.Block size align) = ⊥

abbrev pub IsBlock : Sym → Type 0
IsBlock sym.Nothing = ⊥
IsBlock (sym.Global name offset) = ⊥
IsBlock (sym.Label l) = ⊥
IsBlock (sym.Block size align) = Unit {0}

-- The symbol or the constant that an operator needs. What has a constant has no symbol; a local's offset is negative,
-- and which ones there are is told by the slots.
abbrev pub HasPart : Op → Suffix → Sym → Option ℤ → Type 0
HasPart op.Cnst s x value = (x ≡ sym.Nothing) × IsSomeAnd value (FitsType s)
HasPart op.Addrg s x value = IsPlace x
HasPart op.Addrf s x value = (x ≡ sym.Nothing) × IsSomeAnd value (FitsType s)
HasPart op.Addrl s x value = (x ≡ sym.Nothing) × IsSomeAnd value (λ z. Unit {0})
HasPart op.Asgn B x value = IsBlock x
HasPart op.Eq s x value = IsLabel x
HasPart op.Ne s x value = IsLabel x
HasPart op.Lt s x value = IsLabel x
HasPart op.Le s x value = IsLabel x
HasPart op.Gt s x value = IsLabel x
HasPart op.Ge s x value = IsLabel x
HasPart op.Label s x value = IsLabel x
HasPart o s x value = Unit {0}

-- one of the 69 operators, with the part and the operands that it needs
pub record HasKind (t : Node) : Type 0 where
  pub operator : 1 ≤ number_of (head_of t)
  pub part : HasPart (op_of t) (suffix_of t) (head_of t).sym (head_of t).value
  pub operands : AreOperands (takes (op_of t) (suffix_of t)) (kids_of t)

abbrev pub HasKinds : Node → Type 0
HasKinds = AtEachNode HasKind

abbrev pub HasCall : Node → Type 0
HasCall = AtSomeNode (λ t. op_of t ≡ op.Call)

-- A root with a call takes the arguments before it, its operands coming before its move of control. Any other root
-- leaves them to the roots behind, unless it is a label or a move of control.
abbrev pub IsTakenFrom : Node → Type 0 → Type 0
IsTakenFrom t later = (op_of t ≢ op.Label) × (HasCall t ⊎ (IsFalse (moves (op_of t)) × later))

-- a call in these roots takes the arguments before them
abbrev pub IsTaken : List Node → Type 0
IsTaken [] = ⊥
IsTaken (t ∷ ts) = IsTakenFrom t (IsTaken ts)

-- a root of the kinds that its operators need, which is taken if it is an argument
pub record IsFit (t : Node) (taken : Type 0) : Type 0 where
  pub kinds : HasKinds t
  pub argument : op_of t ≡ op.Arg → taken

-- ---- labels

abbrev pub label_by_address : Op → Sym → Option ℕ
label_by_address op.Addrg (sym.Label l) = Some l
label_by_address o x = None

abbrev pub label_in : Sym → Option ℕ
label_in (sym.Label l) = Some l
label_in x = None

-- the label whose address is the operand of a jump
abbrev pub label_under : Node → Option ℕ
label_under (Leaf h) = None
label_under (One h a) = label_by_address (op_of a) (head_of a).sym
label_under (Two h a b) = None

-- the label that a root jumps to, which is a comparison, or a jump to the address of a label
abbrev pub target_by : Op → Node → Option ℕ
target_by op.Eq t = label_in (head_of t).sym
target_by op.Ne t = label_in (head_of t).sym
target_by op.Lt t = label_in (head_of t).sym
target_by op.Le t = label_in (head_of t).sym
target_by op.Gt t = label_in (head_of t).sym
target_by op.Ge t = label_in (head_of t).sym
target_by op.Jump t = label_under t
target_by o t = None

abbrev pub target_of : Node → Option ℕ
target_of t = target_by (op_of t) t

-- the root, before which these roots stand, jumps to a label of the roots, and is none that stands before it
pub record HasLabels (roots before : List Node) (t : Node) : Type 0 where
  pub target : (l : ℕ) → target_of t ≡ Some l → HasLabel roots l
  pub once : (l : ℕ) → label_of t ≡ Some l → ¬ HasLabel before l

-- ---- slots

-- the byte at this offset from the frame's top is one of the slot
abbrev pub LiesIn : ℤ → Slot → Type 0
LiesIn z s = (s.offset ≤ℤ z) × (z <ℤ end_of s)

abbrev pub LiesInOne : List Slot → ℤ → Type 0
LiesInOne slots z = Any (LiesIn z) slots

abbrev pub HasSlot : List Slot → Node → Type 0
HasSlot slots t = op_of t ≡ op.Addrl → IsSomeAnd (head_of t).value (LiesInOne slots)

abbrev pub HasSlots : List Slot → Node → Type 0
HasSlots slots = AtEachNode (HasSlot slots)

-- ---- forests

-- the root at this place is good
pub record IsGood (f : Forest) (place : ℕ) (t : Node) : Type 0 where
  pub arities : HasArities t
  pub fit : IsFit t (IsTaken (drop (suc place) f.roots))
  pub labels : HasLabels f.roots (take place f.roots) t
  pub slots : HasSlots f.frame t

-- the roots from a place on, and before another one, are good
abbrev pub AreGood : Forest → ℕ → ℕ → Type 0
AreGood f from to = (place : ℕ) (t : Node) → from ≤ place → place < to → slice_get f.roots place ≡ Some t → IsGood f place t

pub record IsWellFormed (f : Forest) : Type 0 where
  pub good : (place : ℕ) (t : Node) → slice_get f.roots place ≡ Some t → IsGood f place t
