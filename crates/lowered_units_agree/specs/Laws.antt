-- Lowered units of checked ones, as the agreement with C asks for them.
-- Source: ISO/IEC 9899:1990, 6.1.2 (identifiers), 6.7; Fraser and Hanson, A Retargetable C Compiler, chapters 5, 11 and 12 (names, functions, forests).
use Rattle.std.specs.Prelude.{◌≡◌, ℕ, false, Some, List, ◌∷◌, ◌++◌}
use Rattle.lcc_base.specs.declared.order.Order.{Order}
use Rattle.op_forest.specs.declared.frame.Slot.{Slot}
use Rattle.op_forest.specs.Callees.{Provided}
use Rattle.op_forest.specs.Lowered.{LoweredUnit}
use Rattle.op_forest.specs.Units.{callee_of}
use Rattle.dag_forest.specs.declared.entry.Entry.{Entry}
use Rattle.dag_forest.specs.Split.{Split}
use Rattle.piece_runs.specs.Pieces.{Piece, OfBlock}
use Rattle.c_meaning.specs.declared.built_in.BuiltIn.{BuiltIn}
use Rattle.c_meaning.specs.Each.{EachIs}
use Rattle.c_meaning.specs.Units.{FunctionTree, UnitTree}
use Rattle.c_runs.specs.Calls.{built_in_at}
use Rattle.lowering_limits.specs.Limits.{IsWithin}
use Rattle.lowered_statements.specs.FunctionBodies.{function_in, low_f}
use Rattle.lowered_labels.specs.Used.{GoesWithin}
use Rattle.lowered_data.specs.Numbering.{AreNumbered}
use Rattle.lowered_units.specs.LoweredUnits.{IsLoweredUnit}
use Rattle.c_calls_agree.specs.Programs.{provided_as}
use Rattle.c_checked_units.specs.Checked.{IsCheckedUnit}
use Rattle.c_entries_agree.specs.Lowered.{IsLoweringOf}
use Rattle.c_functions_agree.specs.Laws.{IsFairFunction}

-- ---- blocks

-- each block among the pieces is split behind the slots that it had
abbrev pub ArePiecesSplit : List Piece → Type 0
ArePiecesSplit ps = (done rest : List Piece) (before : List Slot) (es : List Entry) → ps ≡ done ++ OfBlock before es ∷ rest → Split before es

abbrev pub BlocksAreSplit : Type 0
BlocksAreSplit =
    (u : UnitTree) (order : Order) (number tables : ℕ) (f : FunctionTree) → GoesWithin (function_in u order number tables f) false false f.body
    → ArePiecesSplit (low_f u order number tables f).low.pieces

-- ---- names

abbrev pub NamesAreNumbered : Type 0
NamesAreNumbered = (u : UnitTree) (order : Order) (l : LoweredUnit) → IsLoweredUnit u order l → AreNumbered u l

-- the number of a built-in function that the unit doesn't define stands for it in the lowered unit
abbrev pub BuiltInsAreProvided : Type 0
BuiltInsAreProvided =
    (u : UnitTree) (order : Order) (l : LoweredUnit) → IsLoweredUnit u order l → (n : ℕ) (b : BuiltIn) → built_in_at u n ≡ Some b → callee_of l n ≡ Provided (provided_as b)

-- ---- units

abbrev pub UnitsAreLowerings : Type 0
UnitsAreLowerings = (u : UnitTree) (order : Order) (l : LoweredUnit) → IsCheckedUnit u → IsWithin u → IsLoweredUnit u order l → IsLoweringOf u l

-- ---- functions

abbrev pub FunctionsAreFair : Type 0
FunctionsAreFair = (u : UnitTree) → IsCheckedUnit u → EachIs (IsFairFunction u) u.functions
