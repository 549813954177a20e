-- Blocks of which each node and root has the operands, the symbol and the constant that its operator needs; and trees that are so.
use Rattle.std.specs.Prelude.{◌≡◌, ◌⊎◌, ◌≤◌, ℕ, IsTrue, IsSomeAnd, Option, Some, None, List, [], ◌∷◌, ◌++◌, slice_get}
use Rattle.lcc_base.specs.declared.order.Order.{Order}
use Rattle.op_forest.specs.declared.frame.Slot.{Slot}
use Rattle.op_forest.specs.declared.op.Op.{Op}
use Rattle.op_forest.specs.declared.op.Op.TheVariants as op
use Rattle.op_forest.specs.declared.suffix.Suffix.{Suffix}
use Rattle.op_forest.specs.declared.suffix.Suffix.TheVariants as suffix
use Rattle.op_forest.specs.Labels.{label_of, label_by}
use Rattle.op_forest.specs.Nodes.{Node as Tree}
use Rattle.op_forest.specs.Operators.{number}
use Rattle.op_forest.specs.Signature.{takes, gives_value}
use Rattle.forests.specs.Addresses.{Home}
use Rattle.forests.specs.WellFormed.{HasArities, HasKinds, HasSlots, HasPart, LiesInOne, target_of, label_in, label_by_address}
use Rattle.dag_forest.specs.declared.entry.Entry.{Entry}
use Rattle.dag_forest.specs.declared.entry.Entry.TheVariants.{Value, Root}
use Rattle.dag_forest.specs.declared.key.Key.{Key}
use Rattle.dag_forest.specs.declared.kids.Kids.{Kids}
use Rattle.dag_forest.specs.declared.kids.Kids.TheVariants.{Zero, One, Two}
use Rattle.dag_forest.specs.declared.parts.Parts.{Parts}
use Rattle.dag_forest.specs.Choice.{Room}
use Rattle.dag_forest.specs.Split.{Split, split_frame, split_trees, room_of}
use Rattle.dag_forest.specs.Tally.{keys_of}
use Rattle.dag_seam.specs.Rooms.{AreEntries}

-- ---- what fits

-- the node gives a value of this suffix
pub record Gives (keys : List Key) (s : Suffix) (m : ℕ) : Type 0 where
  pub key : Key
  pub is : slice_get keys m ≡ Some key
  pub value : IsTrue (gives_value key.parts.operator.op key.parts.operator.suffix)
  pub suffix : key.parts.operator.suffix ≡ s

-- operands of these suffixes, in order
abbrev pub AreGiven : List Key → List Suffix → Kids → Type 0
AreGiven keys [] Zero = Unit {0}
AreGiven keys (s ∷ []) (One a) = Gives keys s a
AreGiven keys (s ∷ t ∷ []) (Two a c) = Gives keys s a × Gives keys t c
AreGiven keys ss k = ⊥

-- one of the 69 operators with the operands, the symbol and the constant that it needs; a local is in a slot
pub record Fits (keys : List Key) (slots : List Slot) (x : Parts) : Type 0 where
  pub operator : 1 ≤ number x.operator.op x.operator.suffix
  pub part : HasPart x.operator.op x.operator.suffix x.sym x.constant
  pub operands : AreGiven keys (takes x.operator.op x.operator.suffix) x.kids
  pub local : x.operator.op ≡ op.Addrl → IsSomeAnd x.constant (LiesInOne slots)

-- a node gives a value, too
pub record FitsNode (keys : List Key) (slots : List Slot) (x : Parts) : Type 0 where
  pub fits : Fits keys slots x
  pub value : IsTrue (gives_value x.operator.op x.operator.suffix)

-- ---- labels

-- the label whose address a node is
abbrev pub address_label : Option Key → Option ℕ
address_label None = None
address_label (Some k) = label_by_address k.parts.operator.op k.parts.sym

abbrev pub label_below : List Key → Kids → Option ℕ
label_below keys (One a) = address_label (slice_get keys a)
label_below keys k = None

-- the label that a root jumps to
abbrev pub target_from : List Key → Op → Parts → Option ℕ
target_from keys op.Eq x = label_in x.sym
target_from keys op.Ne x = label_in x.sym
target_from keys op.Lt x = label_in x.sym
target_from keys op.Le x = label_in x.sym
target_from keys op.Gt x = label_in x.sym
target_from keys op.Ge x = label_in x.sym
target_from keys op.Jump x = label_below keys x.kids
target_from keys o x = None

abbrev pub target_at : List Key → Parts → Option ℕ
target_at keys x = target_from keys x.operator.op x

-- some root of the block is this label, or jumps to it
abbrev pub HasRoot : (Parts → Type 0) → List Entry → Type 0
HasRoot P [] = ⊥
HasRoot P (Value x ∷ es) = HasRoot P es
HasRoot P (Root x ∷ es) = P x ⊎ HasRoot P es

abbrev pub IsOwnLabel : List Entry → ℕ → Type 0
IsOwnLabel es l = HasRoot (λ x. label_by x.operator.op x.sym ≡ Some l) es

abbrev pub IsOwnTarget : List Entry → ℕ → Type 0
IsOwnTarget es l = HasRoot (λ x. target_at (keys_of es) x ≡ Some l) es

-- a block fits a frame of these slots
abbrev pub FitsBlock : List Slot → List Entry → Type 0
FitsBlock slots es = AreEntries (λ n x. FitsNode (keys_of es) slots x) (λ x. Fits (keys_of es) slots x) es 0

-- no address of a block is kept
abbrev pub KeepsNoBlock : List Entry → Type 0
KeepsNoBlock es = (n : ℕ) (r : Room) (k : Key) → room_of es n ≡ Some r → slice_get (keys_of es) n ≡ Some k → k.parts.operator.suffix ≡ suffix.B → ⊥

-- ---- trees

-- a root is as well formed as it is by itself; it is a label only of the first kind, and jumps only to labels of the second kind
pub record IsFitTree (slots : List Slot) (Is To : ℕ → Type 0) (t : Tree) : Type 0 where
  pub arities : HasArities t
  pub kinds : HasKinds t
  pub locals : HasSlots slots t
  pub label : (l : ℕ) → label_of t ≡ Some l → Is l
  pub target : (l : ℕ) → target_of t ≡ Some l → To l

abbrev pub AreFitTrees : List Slot → (ℕ → Type 0) → (ℕ → Type 0) → List Tree → Type 0
AreFitTrees slots Is To [] = Unit {0}
AreFitTrees slots Is To (t ∷ ts) = IsFitTree slots Is To t × AreFitTrees slots Is To ts

-- The trees of a block that fits are fit, in a frame with the slots behind the split and maybe more; labels and jumps are those
-- of its roots.
abbrev pub SplitIsFit : Type 0
SplitIsFit =
    (order : Order) (home : Home) (before more : List Slot) (es : List Entry) → Split before es → FitsBlock (split_frame before es ++ more) es → KeepsNoBlock es
    → AreFitTrees (split_frame before es ++ more) (IsOwnLabel es) (IsOwnTarget es) (split_trees order home before es [])

-- the trees stand in front of what follows
abbrev pub SplitAppends : Type 0
SplitAppends = (order : Order) (home : Home) (before : List Slot) (es : List Entry) (rest : List Tree) → split_trees order home before es rest ≡ split_trees order home before es [] ++ rest

-- ---- blocks that grow

abbrev pub NodeFits : Type 0
NodeFits = (slots : List Slot) (es : List Entry) (x : Parts) → FitsBlock slots es → FitsNode (keys_of es) slots x → FitsBlock slots (es ++ Value x ∷ [])

abbrev pub RootFits : Type 0
RootFits = (slots : List Slot) (es : List Entry) (x : Parts) → FitsBlock slots es → Fits (keys_of es) slots x → FitsBlock slots (es ++ Root x ∷ [])

-- in a frame of more slots, too
abbrev pub FrameFits : Type 0
FrameFits = (slots more : List Slot) (es : List Entry) → FitsBlock slots es → FitsBlock (slots ++ more) es
