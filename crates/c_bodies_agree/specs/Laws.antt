-- The lowering of a checked unit agrees with C: the parts of its functions' statements do, and so its functions.
-- Source: ISO/IEC 9899:1990, 5.1.2.3, 6.6, 6.6.6.4; X. Leroy, Formal verification of a realistic compiler, Communications of the ACM 52(7), 2009, section 2.
use Rattle.std.specs.Prelude.{length}
use Rattle.lcc_base.specs.declared.order.Order.{Order}
use Rattle.op_forest.specs.Lowered.{LoweredUnit}
use Rattle.forests.specs.Worlds.{World}
use Rattle.c_meaning.specs.Units.{FunctionTree, UnitTree}
use Rattle.c_runs.specs.Calls.{Call}
use Rattle.lowering_limits.specs.Limits.{IsWithin}
use Rattle.c_match.specs.Ranges.{Map}
use Rattle.c_match_worlds.specs.Texts.{HasTexts}
use Rattle.c_agreement.specs.Agrees.{UnitAgrees}
use Rattle.lowered_units.specs.LoweredUnits.{IsLoweredUnit}
use Rattle.c_tests_agree.specs.Tested.{AreMarkedOnce}
use Rattle.c_stmt_agreement.specs.Comings.{HasFrame}
use Rattle.c_stmts_agree.specs.Parts.{PartsAgree}
use Rattle.c_checked_units.specs.Checked.{IsCheckedUnit}
use Rattle.c_entries_agree.specs.Activations.{lowering, activation, ending}
use Rattle.c_entries_agree.specs.Laws.{IsCallOf}
use Rattle.c_entries_agree.specs.Lowered.{IsFunctionLowering, IsLoweringOf}
use Rattle.c_bodies_agree.specs.BuiltIns.{ProvidesBuiltIns}

-- ---- parts of statements

-- those of a checked unit's functions agree, wherever a call has a frame, where names stand for the built-in functions and the unit's texts stand in its lowering
abbrev pub PartsOfBodiesAgree : Type 0
PartsOfBodiesAgree =
    (u : UnitTree) (l : LoweredUnit) → IsCheckedUnit u → ProvidesBuiltIns u l → HasTexts l (length u.objects) u.texts
    → (f : FunctionTree) (a : Call) (map : Map) (w : World) → IsCallOf u l f a map w → (x : IsFunctionLowering u l a.function f)
    → HasFrame (activation u l a.function f x a w) → AreMarkedOnce (activation u l a.function f x a w).scene.body
    → PartsAgree (activation u l a.function f x a w) (lowering u l a.function f x) (ending u l a.function f x a) f.body

-- ---- functions

-- So each function of a checked unit agrees with that of its lowering.
abbrev pub CheckedUnitsAgree : Type 0
CheckedUnitsAgree = (u : UnitTree) (l : LoweredUnit) → IsCheckedUnit u → IsLoweringOf u l → ProvidesBuiltIns u l → HasTexts l (length u.objects) u.texts → UnitAgrees u l

-- And with that of its lowered unit, if the unit keeps the limits.
abbrev pub LoweredUnitsAgree : Type 0
LoweredUnitsAgree = (u : UnitTree) (order : Order) (l : LoweredUnit) → IsCheckedUnit u → IsWithin u → IsLoweredUnit u order l → UnitAgrees u l
