-- A unit that is lowered: each function is the split of its lowering, and names stand for the unit's own functions, objects and texts.
-- Source: Fraser and Hanson, A Retargetable C Compiler, chapters 5 and 11 (functions, names).
use Rattle.std.specs.Prelude.{◌≡◌, ◌≤◌, ◌<◌, ◌*◌, ◌^◌, ℕ, ◌+◌, Some, List, ◌∷◌, ◌++◌, length, map, slice_get}
use Rattle.op_forest.specs.declared.frame.Slot.{Slot}
use Rattle.op_forest.specs.declared.lowered.Datum.TheVariants as datum
use Rattle.op_forest.specs.declared.lowered.LoweredFunction.{LoweredFunction}
use Rattle.op_forest.specs.declared.lowered.LoweredObject.{LoweredObject}
use Rattle.op_forest.specs.Lowered.{LoweredUnit}
use Rattle.op_forest.specs.Units.{function_of}
use Rattle.forests.specs.Addresses.{Home}
use Rattle.forests.specs.Units.{pointer_to, value_of}
use Rattle.dag_forest.specs.declared.entry.Entry.{Entry}
use Rattle.dag_forest.specs.Split.{Split}
use Rattle.c_types.specs.CType.{CType}
use Rattle.c_types.specs.Layout.{Tag}
use Rattle.c_meaning.specs.Each.{EachIs}
use Rattle.c_meaning.specs.Units.{FunctionTree, UnitTree}
use Rattle.c_runs.specs.Places.{size_of}
use Rattle.c_agreement.specs.Pairs.{own_count}
use Rattle.piece_runs.specs.Pieces.{Piece, OfBlock, roots_of}
use Rattle.lowered_forms.specs.Contexts.{object_name, text_name}
use Rattle.lowered_statements.specs.Bodies.{Body}
use Rattle.lowered_statements.specs.FunctionBodies.{low_f}
use Rattle.lowered_statements.specs.Layouts.{words_of}

-- The table of a switch, in the function of this number: the name stands for an object behind the unit's own ones, whose items are these labels of the function. It is
-- so short that a distance in it is a signed word.
pub record IsTableOf (u : UnitTree) (l : LoweredUnit) (number name : ℕ) (labels : List ℕ) : Type 0 where
  pub place : ℕ
  pub object : LoweredObject
  pub there : slice_get l.objects place ≡ Some object
  pub behind : own_count u ≤ place
  pub named : value_of l name ≡ Some (pointer_to l place)
  pub function : LoweredFunction
  pub runs : slice_get l.functions number ≡ Some function
  pub is_home : function.name ≡ number
  pub items : object.items ≡ map (λ n. datum.Label number n) labels
  pub size : object.size ≡ 4 * length labels
  pub short : 4 * length labels < 2 ^ 31

-- The function of this number: it has the name of this number, its lowering's slots and roots, wherever it is at home, and a word for each parameter and for a
-- structure result; its blocks are split; and the tables of its switches are the unit's, by their names.
pub record IsFunctionLowering (u : UnitTree) (l : LoweredUnit) (number : ℕ) (f : FunctionTree) : Type 0 where
  pub tables : ℕ
  pub function : LoweredFunction
  pub named : function_of l number ≡ Some function
  pub words : function.words ≡ words_of f
  pub slots : function.forest.frame ≡ (low_f u l.order number tables f).low.slots
  pub roots : (home : Home) → function.forest.roots ≡ roots_of l.order home (low_f u l.order number tables f).low.pieces
  pub split : (done rest : List Piece) (before : List Slot) (es : List Entry) → (low_f u l.order number tables f).low.pieces ≡ done ++ OfBlock before es ∷ rest → Split before es
  pub has_tables : (n : ℕ) (labels : List ℕ) → slice_get (low_f u l.order number tables f).tables n ≡ Some labels → IsTableOf u l number (tables + n) labels

-- its functions are so; and its objects and texts, in order, are the first objects
pub record IsLoweringOf (u : UnitTree) (l : LoweredUnit) : Type 0 where
  pub functions : (number : ℕ) (f : FunctionTree) → slice_get u.functions number ≡ Some f → IsFunctionLowering u l number f
  pub own : own_count u ≤ length l.objects
  pub objects : (n : ℕ) → n < length u.objects → value_of l (object_name u n) ≡ Some (pointer_to l n)
  pub texts : (n : ℕ) → n < length u.texts → value_of l (text_name u n) ≡ Some (pointer_to l (length u.objects + n))

-- no distance in objects of this type is more than a signed word
abbrev pub HasRoom : List Tag → CType → Type 0
HasRoom tags t = size_of tags t < 2 ^ 31

-- so it is of each local of a function
abbrev pub HasLocalsWithRoom : UnitTree → FunctionTree → Type 0
HasLocalsWithRoom u f = EachIs (HasRoom u.tags) f.locals
