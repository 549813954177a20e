-- A lowered unit agrees with C, where the parts of its functions' statements do: each function agrees, by the turns that calls have.
-- Source: ISO/IEC 9899:1990, 5.1.2.3, 6.3.2.2, 6.6.6.4; X. Leroy, Formal verification of a realistic compiler, Communications of the ACM 52(7), 2009, section 2.
use Rattle.std.specs.Prelude.{ℕ, false}
use Rattle.op_forest.specs.Lowered.{LoweredUnit}
use Rattle.forests.specs.Worlds.{World}
use Rattle.c_meaning.specs.Each.{EachIs}
use Rattle.c_meaning.specs.Units.{FunctionTree, UnitTree, IsUnit}
use Rattle.c_runs.specs.Calls.{Call, returned}
use Rattle.c_runs.specs.Outcomes.{Out}
use Rattle.c_runs.specs.Soundness.{IsSoundOut}
use Rattle.c_runs.specs.Worlds as c
use Rattle.c_match.specs.Ranges.{Map}
use Rattle.c_agreement.specs.Agrees.{UnitAgrees}
use Rattle.c_agreement.specs.CameTo.{CameTo}
use Rattle.c_agreement.specs.Pairs.{pair_of}
use Rattle.c_tests_agree.specs.Tested.{AreMarkedOnce}
use Rattle.c_stmt_agreement.specs.Comings.{HasFrame}
use Rattle.c_stmts_agree.specs.FunctionBodies.{CameBack}
use Rattle.c_stmts_agree.specs.Jumps.{StaysWithin}
use Rattle.c_stmts_agree.specs.Parts.{PartsAgree}
use Rattle.c_entries_agree.specs.Activations.{lowering, activation, ending, start_of, Enters}
use Rattle.c_entries_agree.specs.Laws.{IsCallOf}
use Rattle.c_entries_agree.specs.Lowered.{IsFunctionLowering, IsLoweringOf, HasLocalsWithRoom}

-- ---- calls return

-- What the body comes to from where it begins, the call comes to: its result is given, and its objects end.
abbrev pub CallsReturn : Type 0
CallsReturn =
    (u : UnitTree) (l : LoweredUnit) (f : FunctionTree) (a : Call) (map : Map) (w : World) → IsCallOf u l f a map w → (x : IsFunctionLowering u l a.function f) → (k : ℕ) (old : c.World) (e : Enters u l a.function f x a map w k old)
    → (r : Out) → IsSoundOut u old r
    → CameBack (activation u l a.function f x a w) (ending u l a.function f x a) (record { start = start_of u l a.function f x w; turns = k; map = e.later; old = old; world = e.world }) r
    → CameTo (pair_of u l a map w) k (returned u.tags a r)

-- ---- each function agrees

-- the parts of the statements of each function agree, wherever a call of it has a frame
abbrev pub BodiesAgree : UnitTree → LoweredUnit → Type 0
BodiesAgree u l =
    (f : FunctionTree) (a : Call) (map : Map) (w : World) → IsCallOf u l f a map w → (x : IsFunctionLowering u l a.function f)
    → HasFrame (activation u l a.function f x a w) → AreMarkedOnce (activation u l a.function f x a w).scene.body
    → PartsAgree (activation u l a.function f x a w) (lowering u l a.function f x) (ending u l a.function f x a) f.body

-- what is asked of a checked function beside that: objects of its locals' types aren't large, and each `break` and `continue` stands in what it leaves or goes on with
pub record IsFairFunction (u : UnitTree) (f : FunctionTree) : Type 0 where
  pub room : HasLocalsWithRoom u f
  pub jumps : StaysWithin false false f.body

-- Each function of a checked unit agrees with that of its lowering.
abbrev pub UnitsAgree : Type 0
UnitsAgree = (u : UnitTree) (l : LoweredUnit) → IsUnit u → EachIs (IsFairFunction u) u.functions → IsLoweringOf u l → BodiesAgree u l → UnitAgrees u l
