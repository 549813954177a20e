-- Templates over a block's nodes, in a frame: each operator has the operands, the symbol and the constant that it needs, and gives what stands
-- above it needs; each local lies in a slot. Calls and the addresses of locals are among the operators.
-- Source: Fraser and Hanson, A Retargetable C Compiler, chapter 5.
use Rattle.std.specs.Prelude.{◌≡◌, ◌≤◌, ℕ, IsTrue, IsSomeAnd, Some, List, [], ◌∷◌, slice_get}
use Rattle.op_forest.specs.declared.frame.Slot.{Slot}
use Rattle.op_forest.specs.declared.op.Op.TheVariants as op
use Rattle.op_forest.specs.declared.suffix.Suffix.{Suffix}
use Rattle.op_forest.specs.Nodes.{Head}
use Rattle.op_forest.specs.Operators.{number}
use Rattle.op_forest.specs.Signature.{takes, gives_value}
use Rattle.forests.specs.WellFormed.{HasPart, LiesInOne}
use Rattle.c_rows_agree.specs.Fitting.{IsScalar}
use Rattle.c_rows_agree.specs.Templates.{Template, Given, Leaf, One, Two, Root}
use Rattle.c_rows_agree.specs.Typed.{Typed}
use Rattle.dag_forest.specs.declared.entry.Entry.{Entry}
use Rattle.dag_forest.specs.declared.key.Key.{Key}
use Rattle.dag_forest.specs.Tally.{keys_of}
use Rattle.dag_seam.specs.Fitting.{Gives, FitsBlock}
use Rattle.lowered_forms.specs.Asked.{Asked}

-- where a template stands: the nodes of the block, and the slots of the frame
pub record Standing : Type 0 where
  pub keys : List Key
  pub slots : List Slot

-- one of the 69 operators, with its symbol or constant and operands of these suffixes; a local is in a slot
pub record FitsHead (slots : List Slot) (h : Head) (suffixes : List Suffix) : Type 0 where
  pub operator : 1 ≤ number h.operator.op h.operator.suffix
  pub part : HasPart h.operator.op h.operator.suffix h.sym h.value
  pub operands : takes h.operator.op h.operator.suffix ≡ suffixes
  pub local : h.operator.op ≡ op.Addrl → IsSomeAnd h.value (LiesInOne slots)

-- which gives a value of this suffix
pub record FitsValue (slots : List Slot) (h : Head) (suffixes : List Suffix) (s : Suffix) : Type 0 where
  pub fits : FitsHead slots h suffixes
  pub value : IsTrue (gives_value h.operator.op h.operator.suffix)
  pub suffix : h.operator.suffix ≡ s

-- a template of a value of this suffix
abbrev pub FitsTree : Standing → Template → Suffix → Type 0
FitsTree g (Given n) s = Gives g.keys s n
FitsTree g (Leaf h) s = FitsValue g.slots h [] s
FitsTree g (One h a) s = (t : Suffix) × FitsValue g.slots h (t ∷ []) s × FitsTree g a t
FitsTree g (Two h a b) s = (t u : Suffix) × FitsValue g.slots h (t ∷ u ∷ []) s × FitsTree g a t × FitsTree g b u

-- one with its suffix, which is that of a number or of a pointer
pub record FitsTyped (g : Standing) (a : Typed) : Type 0 where
  pub fits : FitsTree g a.tree a.suffix
  pub scalar : IsScalar a.suffix

pub record FitsRoot (g : Standing) (r : Root) : Type 0 where
  pub first : Suffix
  pub second : Suffix
  pub fits : FitsHead g.slots r.head (first ∷ second ∷ [])
  pub left : FitsTree g r.left first
  pub right : FitsTree g r.right second

-- ---- blocks

-- a block and a frame
abbrev pub standing : List Slot → List Entry → Standing
standing slots es = record { keys = keys_of es; slots = slots }

-- the nodes of the first are those of the second with the same numbers
abbrev pub KeepsKeys : List Key → List Key → Type 0
KeepsKeys keys more = (n : ℕ) (k : Key) → slice_get keys n ≡ Some k → slice_get more n ≡ Some k

-- a block that was asked for a value of this suffix fits the frame still, has its nodes, and one of the suffix
pub record IsFound (slots : List Slot) (es : List Entry) (s : Suffix) (a : Asked) : Type 0 where
  pub block : FitsBlock slots a.entries
  pub node : Gives (keys_of a.entries) s a.node
  pub keeps : KeepsKeys (keys_of es) (keys_of a.entries)

-- a block fits the frame, and has the nodes of another one
pub record GoesOn (slots : List Slot) (es fs : List Entry) : Type 0 where
  pub block : FitsBlock slots fs
  pub keeps : KeepsKeys (keys_of es) (keys_of fs)
