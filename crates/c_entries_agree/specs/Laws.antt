-- How calls of lowered functions begin.
-- Source: ISO/IEC 9899:1990, 6.3.2.2, 6.7.1; Fraser and Hanson, A Retargetable C Compiler, chapter 11.
use Rattle.std.specs.Prelude.{◌≡◌, ◌<◌, ℕ, Some, length, slice_get}
use Rattle.op_forest.specs.Lowered.{LoweredUnit}
use Rattle.forests.specs.Worlds.{World}
use Rattle.c_meaning.specs.Units.{FunctionTree, UnitTree, IsUnit}
use Rattle.c_runs.specs.Calls.{Call}
use Rattle.c_runs.specs.Locals.{body_start}
use Rattle.c_runs.specs.Outcomes.{Next}
use Rattle.c_runs.specs.Worlds as c
use Rattle.c_match.specs.Ranges.{Map}
use Rattle.c_agreement.specs.Agrees.{ComesWith}
use Rattle.c_agreement.specs.Called.{IsCalled}
use Rattle.c_agreement.specs.Pairs.{pair_of}
use Rattle.c_stmt_agreement.specs.Comings.{HasFrame}
use Rattle.c_entries_agree.specs.Activations.{activation, Enters}
use Rattle.c_entries_agree.specs.Lowered.{IsFunctionLowering, IsLoweringOf, HasLocalsWithRoom}

-- a call of this function of a checked unit, that is lowered, where both calls begin alike
pub record IsCallOf (u : UnitTree) (l : LoweredUnit) (f : FunctionTree) (a : Call) (map : Map) (w : World) : Type 0 where
  pub checked : IsUnit u
  pub lowered : IsLoweringOf u l
  pub defined : slice_get u.functions a.function ≡ Some f
  pub room : HasLocalsWithRoom u f
  pub called : IsCalled (pair_of u l a map w)

-- The locals have places in the frame, and the other slots and words hold nothing of C.
abbrev pub CallsHaveFrames : Type 0
CallsHaveFrames =
    (u : UnitTree) (l : LoweredUnit) (f : FunctionTree) (a : Call) (map : Map) (w : World) → IsCallOf u l f a map w → (x : IsFunctionLowering u l a.function f)
    → HasFrame (activation u l a.function f x a w)

-- Where C's objects are made, no turn is spent, and the run stands before the first statement, where calls with fewer turns come to what C's come to.
abbrev pub CallsEnter : Type 0
CallsEnter =
    (u : UnitTree) (l : LoweredUnit) (f : FunctionTree) (a : Call) (map : Map) (w : World) → IsCallOf u l f a map w → (x : IsFunctionLowering u l a.function f)
    → (k : ℕ) → ((j : ℕ) → j < k → (callee : ℕ) → callee < length u.functions → ComesWith u l callee j)
    → (i : ℕ) (old : c.World) → body_start u l.order f a.function a.arguments k a.world ≡ Next i old → (i ≡ k) × Enters u l a.function f x a map w k old
