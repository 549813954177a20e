-- Labels of lowered functions, in the bodies that run.
-- Source: Fraser and Hanson, A Retargetable C Compiler, chapters 5 and 10 (labels).
use Rattle.std.specs.Prelude.{◌≡◌, ℕ, true, false}
use Rattle.lcc_base.specs.declared.order.Order.{Order}
use Rattle.c_meaning.specs.Units.{FunctionTree, UnitTree, are_apart, labels}
use Rattle.piece_runs.specs.Reaches.{BodyRun}
use Rattle.lowered_statements.specs.FunctionBodies.{function_in, low_f}
use Rattle.lowered_labels.specs.Used.{GoesWithin}
use Rattle.c_tests_agree.specs.Tested.{AreMarkedOnce}

-- Where the labels of a function are apart, and its jumps stay in it, each label is the first root that is it in the lowered body.
abbrev pub FunctionsMarkOnce : Type 0
FunctionsMarkOnce =
    (g : BodyRun) (u : UnitTree) (order : Order) (number tables : ℕ) (f : FunctionTree) → g.pieces ≡ (low_f u order number tables f).low.pieces → are_apart (labels f.body) ≡ true
    → GoesWithin (function_in u order number tables f) false false f.body → AreMarkedOnce g
